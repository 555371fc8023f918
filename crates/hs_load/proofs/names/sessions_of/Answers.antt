use Rattle.std.proofs.Common.{◌∙◌, ◌∷◌, [], ◌++◌, ap, sym, List, ℕ}
use Rattle.hs_script.specs.Loads.{session_name}
use Rattle.hs_load.specs.Team.{sessions_of}
use Rattle.hs_load.proofs.TeamLemmas.{one_session_more}
use Rattle.hs_load.proofs.names.sessions_of.Goals as goal

pub loop-number-preserved : goal.loop-number-preserved
loop-number-preserved c =
    c.in_ok-push.ensures.items ∙ ap (λ (xs : List (List ℕ)). xs ++ c.in_ok-session_of.field-0 ∷ []) c.loop-number.invariant
    ∙ ap (λ (x : List ℕ). sessions_of c.loop-number.number ++ x ∷ []) c.in_ok-session_of.ensures ∙ one_session_more c.loop-number.number
