use Rattle.std.proofs.Common.{◌∙◌, List, ap, arith, subst, sym}
use Rattle.std.proofs.lemmas.Grind.{common_steps}
use Rattle.hs_limits.specs.declared.address.Address.{Address}
use Rattle.hs_model.specs.declared.reply.Reply.TheVariants.{New}
use Rattle.hs_plain.proofs.DoesLemmas.{write_does, write_not}
use Rattle.hs_plain.specs.Deeds.{MayTake}
use Rattle.hs_plain.proofs.memory_store.MemoryStore.does_write.Goals as goal

pub returns-then-not-may_take : goal.returns-then-not-may_take
returns-then-not-may_take c =
    let a = c.args in
    write_not a.limits a.self.now a.session.now a.address.now a.self.now a.pointers.now a.handle a.told.now
    (λ may is. let t = c.may_take.ensures.1 (subst (λ (ps : List Address). MayTake a.limits a.self.now a.session.now a.address.now ps a.handle) (sym c.as_slice.ensures) may) in grind (arith, common_steps, t))

pub returns-then-not-is_new : goal.returns-then-not-is_new
returns-then-not-is_new c =
    let a = c.args in
    write_not a.limits a.self.now a.session.now a.address.now a.self.now a.pointers.now a.handle a.told.now
    (λ may is. let t = c.is_new.ensures.1 (is ∙ ap (λ n. New a.handle n) (sym c.epoch_at.ensures)) in grind (arith, common_steps, t))

pub returns : goal.returns
returns c =
    let a = c.args in
    let may = subst (λ (ps : List Address). MayTake a.limits a.self.now a.session.now a.address.now ps a.handle) c.as_slice.ensures (c.may_take.ensures.0 (grind (arith, common_steps))) in
    let is = c.is_new.ensures.0 (grind (arith, common_steps)) ∙ ap (λ n. New a.handle n) c.epoch_at.ensures in
    write_does a.limits a.self.now a.session.now a.address.now c.grant_write.new.self a.pointers.now a.handle a.told.now may is (grind (arith, common_steps))
