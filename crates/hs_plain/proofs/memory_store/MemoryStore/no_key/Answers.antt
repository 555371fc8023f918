use Rattle.std.proofs.Common.{◌≡◌, ◌∙◌, sym, ap, arith, Some, true, false, is_some}
use Rattle.std.proofs.lemmas.Grind.{common_steps}
use Rattle.hs_model.specs.declared.reply.Reply.TheVariants as reply
use Rattle.hs_plain.specs.RootWords.{retained_address}
use Rattle.hs_model.specs.Store.{retained_at}
use Rattle.hs_plain.proofs.RootLemmas.{no_key_found, no_key_missed}
use Rattle.hs_plain.proofs.memory_store.MemoryStore.no_key.Goals as goal

pub returns-then-is_some : goal.returns-then-is_some
returns-then-is_some c =
    let t : is_some (retained_address c.args.self.now.roots c.args.key.now) ≡ true = grind (arith, common_steps) in
    sym (no_key_found (retained_at c.args.self.now c.args.key.now) (reply.NoKey c.args.key.now) t)

pub returns : goal.returns
returns c =
    let t : is_some (retained_address c.args.self.now.roots c.args.key.now) ≡ false = grind (arith, common_steps) in
    ap (λ key. Some (reply.NoKey key)) c.in_ok-copy.ensures ∙ sym (no_key_missed (retained_at c.args.self.now c.args.key.now) (reply.NoKey c.args.key.now) t)
