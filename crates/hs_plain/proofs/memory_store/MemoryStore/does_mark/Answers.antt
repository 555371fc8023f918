use Rattle.std.proofs.Common.{◌∙◌, ap, arith, sym}
use Rattle.std.proofs.lemmas.Grind.{common_steps}
use Rattle.hs_model.specs.declared.reply.Reply.TheVariants.{Dup}
use Rattle.hs_plain.proofs.DoesLemmas.{mark_does, mark_not}
use Rattle.hs_plain.proofs.memory_store.MemoryStore.does_mark.Goals as goal

pub returns-then-not-may_mark : goal.returns-then-not-may_mark
returns-then-not-may_mark c = λ limits.
    let a = c.args in
    mark_not limits a.self.now a.session.now a.address.now a.self.now a.handle a.told.now (λ may is. let t = c.may_mark.ensures.1 may in grind (arith, common_steps, t))

pub returns-then-not-is_dup : goal.returns-then-not-is_dup
returns-then-not-is_dup c = λ limits.
    let a = c.args in
    mark_not limits a.self.now a.session.now a.address.now a.self.now a.handle a.told.now
    (λ may is. let t = c.is_dup.ensures.1 (is ∙ ap (λ n. Dup a.handle n) (sym c.epoch_at.ensures)) in grind (arith, common_steps, t))

pub returns : goal.returns
returns c = λ limits.
    let a = c.args in
    let may = c.may_mark.ensures.0 (grind (arith, common_steps)) in
    let is = c.is_dup.ensures.0 (grind (arith, common_steps)) ∙ ap (λ n. Dup a.handle n) c.epoch_at.ensures in
    mark_does limits a.self.now a.session.now a.address.now c.grant_write.new.self a.handle a.told.now may is (grind (arith, common_steps))
