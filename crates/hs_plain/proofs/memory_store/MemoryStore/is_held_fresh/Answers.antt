use Rattle.std.proofs.Common.{◌∙◌, sym}
use Rattle.hs_plain.proofs.HoldingLemmas.{any_found, any_only}
use Rattle.hs_plain.proofs.memory_store.MemoryStore.is_held_fresh.Goals as goal

pub returns : goal.returns
returns c =
    let e = c.some_has.ensures in
    (λ h. any_found c.args.self.now c.args.now c.args.address.now (sym e ∙ h), λ h. e ∙ any_only c.args.self.now c.args.now c.args.address.now h)
