use Rattle.std.proofs.Common.{◌≡◌, ◌∙◌, ap, subst, ℕ, Option, Some, None, IfSome, arith}
use Rattle.hs_settled.proofs.prompt.a_prompt_line_has_its_entry.Goals as goal
use Rattle.hs_settled.proofs.PromptLemmas.{has_prompt}
use Rattle.hs_settled.specs.Printing.{FailsInText}
use Rattle.hs_journal.specs.Events.{client_op}
use Rattle.hs_journal.specs.Order.{IsPrompt}
use Rattle.hs_promise.specs.Completes.{HasPrompt}
use Rattle.hs_promise.specs.Machine.{WentAs}
use Rattle.hs_promise.specs.Run.{Ran, Script}
use Rattle.hs_promise.specs.Story.{Story}

prompt_of : (S : Script) (r : Ran) (how : Option Story) → client_op (S.commands 0) ≡ None → WentAs S r how → IfSome how (FailsInText S r) → (line : ℕ) → HasPrompt S r line
prompt_of S r None nobody never wrote line = λ low prompt lacks.
    let count : r.line ≡ 0 = never.line in
    let first : line ≡ 0 = omega (arith, low, count) in
    absurd (subst (λ o. IsPrompt o) (ap (λ n. client_op (S.commands n)) first ∙ nobody) prompt)
prompt_of S r (Some story) nobody went wrote line = has_prompt S r story went wrote nobody line

pub returns : goal.returns
returns c = λ S r how nobody went wrote line. prompt_of S r how nobody went wrote line
