use Rattle.std.proofs.Common.{arith, subst, sym}
use Rattle.std.proofs.lemmas.Grind.{common_steps}
use Rattle.hs_model.specs.Deeds.{IsHeldFresh}
use Rattle.hs_plain.proofs.DoesLemmas.{root_does, root_not}
use Rattle.hs_plain.proofs.memory_store.MemoryStore.does_root.Goals as goal

pub returns-then-not-is_held_fresh : goal.returns-then-not-is_held_fresh
returns-then-not-is_held_fresh c =
    let a = c.args in
    root_not a.limits a.self.now a.key.now a.address.now a.told.now a.self.now
    (λ held is free. let t = c.is_held_fresh.ensures.1 (subst (λ n. IsHeldFresh a.self.now n a.address.now) (sym c.root_epoch.ensures) held) in grind (arith, common_steps, t))

pub returns : goal.returns
returns c =
    let a = c.args in
    let held = subst (λ n. IsHeldFresh a.self.now n a.address.now) c.root_epoch.ensures (c.is_held_fresh.ensures.0 (grind (arith, common_steps))) in
    root_does a.limits a.self.now a.key.now a.address.now a.told.now c.grant_root.new.self held (grind (arith, common_steps)) (grind (arith, common_steps)) (grind (arith, common_steps))
