-- What each settle has done: of a run whose core goes on by a law, and of no other is any line past.
use Rattle.std.proofs.Common.{◌≡◌, ◌∙◌, ap, sym, subst, inl, inr, ℕ, ◌<◌, List, [], ◌∷◌, Option, None, Some, refl, length, arith}
use Rattle.std.proofs.lemmas.Bool.{false≢true}
use Rattle.std.specs.Prelude.{is_some}
use Rattle.hs_cluster.proofs.GoingOnLemmas.{going_before}
use Rattle.hs_core_words.specs.State.{Core}
use Rattle.hs_desk.specs.declared.fault.CoreFault.{CoreFault}
use Rattle.hs_events.specs.Course.{steps}
use Rattle.hs_events.specs.Due.{Events}
use Rattle.hs_events.specs.Found.{first_core}
use Rattle.hs_model.specs.Store.{Store}
use Rattle.hs_model.specs.declared.command.Command.TheVariants as command
use Rattle.hs_promise.specs.Completes.{SettlesEach}
use Rattle.hs_promise.specs.Lines.{AreLines}
use Rattle.hs_promise.specs.Lost.{IsPast}
use Rattle.hs_promise.specs.Machine.{Went}
use Rattle.hs_promise.specs.Run.{Ran, Script}
use Rattle.hs_promise.specs.Story.{Story}

other : {T : Type 0} (x : T) → None ≡ Some x → ⊥
other {T} x e = false≢true (ap (λ (o : Option T). is_some o) e)

not_settle : (S : Script) → S.commands 0 ≡ None → S.commands 0 ≡ Some command.Settle → ⊥
not_settle S nobody is = other command.Settle (sym nobody ∙ is)

-- of a run that began no line
pub settles_none : (S : Script) (entry : Store) (r : Ran) → S.commands 0 ≡ None → r.line ≡ 0 → SettlesEach S entry r
settles_none S entry r nobody none room line is past = absurd (not_settle S nobody (subst (λ (n : ℕ). S.commands n ≡ Some command.Settle) (zero_line past) is))
  where
    zero_line : IsPast r line → line ≡ 0
    zero_line (inl below) = omega (arith, below, none)
    zero_line (inr at) = at.0 ∙ none

-- a core that ended as it opened begins no line
no_lines : (S : Script) (r : Ran) (core : Core) → (core.ended ≡ None → ⊥) → (lines : List Events) → AreLines S r 1 core lines → length lines ≡ 0
no_lines S r core over [] are = refl
no_lines S r core over (es ∷ []) are = absurd (over are.going)
no_lines S r core over (es ∷ next ∷ rest) are = absurd (over are.0.going)

pub no_line : (S : Script) (r : Ran) (story : Story) (fault : CoreFault) → Went S r story → (first_core S.set story.found).ended ≡ Some fault → r.line ≡ 0
no_line S r story fault went ended =
    went.line ∙ no_lines S r (steps (first_core S.set story.found) story.opening)
    (λ going. other fault (sym (going_before (first_core S.set story.found) story.opening going) ∙ ended)) story.lines went.lines
