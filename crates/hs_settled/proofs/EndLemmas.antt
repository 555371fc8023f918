-- How a settle ends: nothing is due.
use Rattle.std.proofs.Common.{◌≡◌, sym, ap, subst, ℕ, ◌||◌, Bool, true, false, not, [], ◌∷◌, Option, Some, None, refl, is_none}
use Rattle.std.specs.Option.{option_and_then, option_map_or}
use Rattle.std.specs.Prelude.{if◌then◌else◌}
use Rattle.hs_core_words.specs.State.{Core}
use Rattle.hs_core_words.specs.Step.{step}
use Rattle.hs_events.specs.Course.{steps}
use Rattle.hs_events.specs.declared.due.Due.{Due}
use Rattle.hs_events.specs.declared.due.Place.{Place}
use Rattle.hs_events.specs.Due.{Events, Walked, first_place, is_it, is_walk, next_due, place_after, raises_known, walk}

-- ---- a walk that came to its end

-- nothing is due behind its events, wherever its last pass and its last nudge stand
pub record Ended (core : Core) : Type 0 where
  pub place : Place
  pub none : next_due place core ≡ None

pub walk_core : (line : ℕ) (at : Walked) (es : Events) (end : Walked) → walk next_due line at es ≡ Some end → end.core ≡ steps at.core es
walk_core line at [] end h = let same : Some at ≡ Some end = h in sym (ap (λ (w : Walked). w.core) (at_is same))
  where
    at_is : Some at ≡ Some end → at ≡ end
    at_is e = cc e
walk_core line at (e ∷ es) end h = by_due (λ next g. walk_core line next es end g) (next_due at.place at.core) h
  where
    behind : Due → Walked
    behind d = record { place = place_after d (raises_known at.core (step e.0 e.1 at.core)) at.place; core = step e.0 e.1 at.core }

    by_it : ((next : Walked) → walk next_due line next es ≡ Some end → end.core ≡ steps next.core es) → (d : Due) (b : Bool) → option_and_then (λ next. walk next_due line next es) (if b then Some (behind d) else None) ≡ Some end → end.core ≡ steps (step e.0 e.1 at.core) es
    by_it again d true k = again (behind d) k
    by_it again d false k = absurd (cc k)

    by_due : ((next : Walked) → walk next_due line next es ≡ Some end → end.core ≡ steps next.core es) → (o : Option Due)
        → option_and_then (λ next. walk next_due line next es) (option_and_then (λ d. if is_it line at.core d e.0 then Some (behind d) else None) o) ≡ Some end → end.core ≡ steps (step e.0 e.1 at.core) es
    by_due again None k = absurd (cc k)
    by_due again (Some d) k = by_it again d (is_it line at.core d e.0) k

pub walk_ended : (line : ℕ) (core : Core) (es : Events) → is_walk next_due true line core es ≡ true → Ended (steps core es)
walk_ended line core es h = by_end (walk next_due line (record { place = first_place; core = core }) es) refl h
  where
    none_is : (o : Option Due) → (false || is_none o) ≡ true → o ≡ None
    none_is None e = refl
    none_is (Some d) e = absurd (cc e)

    by_end : (o : Option Walked) → walk next_due line (record { place = first_place; core = core }) es ≡ o → option_map_or (λ at. not true || is_none (next_due at.place at.core)) o false ≡ true → Ended (steps core es)
    by_end None e k = absurd (cc k)
    by_end (Some end) e k =
        subst (λ (c : Core). Ended c) (walk_core line (record { place = first_place; core = core }) es end e) (record { place = end.place; none = none_is (next_due end.place end.core) k })
