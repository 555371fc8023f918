use Rattle.std.proofs.Common.{arith}
use Rattle.std.proofs.lemmas.Grind.{common_steps}
use Rattle.hs_plain.proofs.DoesLemmas.{read_does, read_not}
use Rattle.hs_plain.proofs.memory_store.MemoryStore.does_read.Goals as goal

pub returns-then-not-may_read : goal.returns-then-not-may_read
returns-then-not-may_read c = λ limits.
    let a = c.args in
    read_not limits a.self.now a.session.now a.held a.handles.now a.told.now a.self.now (λ may has. let t = c.may_read.ensures.1 may in grind (arith, common_steps, t))

pub returns-then-not-has_handles : goal.returns-then-not-has_handles
returns-then-not-has_handles c = λ limits.
    let a = c.args in
    read_not limits a.self.now a.session.now a.held a.handles.now a.told.now a.self.now (λ may has. let t = c.has_handles.ensures.1 has in grind (arith, common_steps, t))

pub returns : goal.returns
returns c = λ limits.
    let a = c.args in
    read_does limits a.self.now a.session.now a.held a.handles.now a.told.now c.grant_read.new.self c.in_ok-answer.answer.reply c.has_handles-2.result
    (c.may_read.ensures.0 (grind (arith, common_steps))) (c.has_handles.ensures.0 (grind (arith, common_steps))) (grind (arith, common_steps)) (grind (arith, common_steps)) c.has_handles-2.ensures.0 c.has_handles-2.ensures.1
