use Rattle.std.proofs.Common.{◌≡◌, ◌∙◌, ◌<◌, subst, List, ℕ, drop, length}
use Rattle.hs_script.specs.Text.{text}
use Rattle.hs_run.specs.Puts.{Puts}
use Rattle.hs_run.proofs.PutsLemmas.{only_memory, only_write, puts_none, puts_of, written_text}
use Rattle.hs_run.proofs.WrittenLemmas.{memory_no_write, on_fault, same_halt}
use Rattle.hs_run.proofs.run.print.Goals as goal

pub returns-in-Err-clause-puts : goal.returns-in-Err-clause-puts
returns-in-Err-clause-puts g c = puts_none _ _ _ c.in-Err.stop

pub returns-in-Err-clause-only : goal.returns-in-Err-clause-only
returns-in-Err-clause-only g c = only_memory c.in-Err.stop c.in-Err.ensures.err

pub returns-clause-puts : goal.returns-clause-puts
returns-clause-puts g c =
    let e = c.put_all.ensures in
    let is : c.as_slice.result.now ≡ text (drop c.args.printed.now c.args.cluster.now.core.journal) =
    c.as_slice.ensures.value ∙ written_text _ _ _ _ _ c.in-Ok.ensures.ok c.clear.ensures.items (c.entries-entries.ensures ∙ c.journal.ensures) in
    subst (λ (bytes : List ℕ). Puts c.args.watch.now c.put_all.new.watch bytes (g.K.Sink.got c.args.sink.now) (g.K.Sink.got c.put_all.new.sink) c.put_all.result) is
    (puts_of _ _ _ _ _ _ e.late e.stamped e.put e.front e.all)

pub returns-clause-only : goal.returns-clause-only
returns-clause-only g c = only_write _ c.put_all.ensures.err

-- a sink fails only where there is something to put
pub returns-in-Err-clause-some : goal.returns-in-Err-clause-some
returns-in-Err-clause-some g c = λ is. absurd (memory_no_write c.in-Err.stop c.in-Err.ensures.err (same_halt _ _ is))

pub returns-clause-some : goal.returns-clause-some
returns-clause-some g c = λ is.
    let bytes : c.as_slice.result.now ≡ text (drop c.args.printed.now c.args.cluster.now.core.journal) =
    c.as_slice.ensures.value ∙ written_text _ _ _ _ _ c.in-Ok.ensures.ok c.clear.ensures.items (c.entries-entries.ensures ∙ c.journal.ensures) in
    subst (λ (b : List ℕ). 0 < length b) bytes (on_fault _ c.put_all.result _ is c.put_all.ensures.some)
