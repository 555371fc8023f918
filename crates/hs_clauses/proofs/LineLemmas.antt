-- Opening and the lines of a story are those of hs_standing.
use Rattle.std.proofs.Common.{◌≡◌, ap, sym, subst, ℕ, ◌+◌, ◌++◌, Bool, true, false, not, ◌||◌, List, [], ◌∷◌, Option, Some, None, refl, is_none}
use Rattle.std.specs.Option.{option_and_then, option_map_or, option_or}
use Rattle.std.specs.Prelude.{flat_map, if◌then◌else◌}
use Rattle.hs_clauses.specs.Asked.{lined}
use Rattle.hs_core_words.specs.State.{Core}
use Rattle.hs_core_words.specs.Step.{step}
use Rattle.hs_events.specs.Course.{steps}
use Rattle.hs_events.specs.declared.due.Due.{Due}
use Rattle.hs_events.specs.Due.{Events, Walked, first_place, is_it, is_walk, next_due, next_nudge, next_turn, place_after, raises_known, walk}
use Rattle.hs_standing.specs.Script.{AreLines, all_events}
use Rattle.hs_promise.specs.Lines.{AreLines as AreBegunLines}
use Rattle.hs_promise.specs.Run.{Ran, Script}

-- ---- lines

pub joined : (S : Script) (r : Ran) (line : ℕ) (core : Core) (lines : List Events) → AreBegunLines S r line core lines → AreLines (lined S r) line core lines
joined S r line core [] h = tt
joined S r line core (es ∷ []) h = record { going = h.going; events = h.events }
joined S r line core (es ∷ next ∷ rest) h = (record { going = h.0.going; events = h.0.events }, joined S r (line + 1) (steps core es) (next ∷ rest) h.1)

pub flat_same : (lines : List Events) → flat_map (λ (line : Events). line) lines ≡ all_events lines
flat_same [] = refl
flat_same (es ∷ rest) = ap (λ (t : Events). es ++ t) (flat_same rest)

-- ---- opening: where turns are due, what is due is the turn

walk_due : (line : ℕ) (at : Walked) (es : Events) (end : Walked) → walk next_turn line at es ≡ Some end → walk next_due line at es ≡ Some end
walk_due line at [] end h = h
walk_due line at (e ∷ es) end h = by_turn (λ next g. walk_due line next es end g) (next_turn at.place at.core) refl
  where
    Again : Type 0
    Again = (next : Walked) → walk next_turn line next es ≡ Some end → walk next_due line next es ≡ Some end

    behind : Due → Walked
    behind d = record { place = place_after d (raises_known at.core (step e.0 e.1 at.core)) at.place; core = step e.0 e.1 at.core }

    by_it : Again → (d : Due) (b : Bool) → option_and_then (λ next. walk next_turn line next es) (if b then Some (behind d) else None) ≡ Some end
        → option_and_then (λ next. walk next_due line next es) (if b then Some (behind d) else None) ≡ Some end
    by_it again d true k = again (behind d) k
    by_it again d false k = absurd (cc k)

    by_turn : Again → (o : Option Due) → next_turn at.place at.core ≡ o → walk next_due line at (e ∷ es) ≡ Some end
    by_turn again None t =
        let none : None ≡ Some end = subst (λ (o : Option Due). option_and_then (λ next. walk next_turn line next es) (option_and_then (λ d. if is_it line at.core d e.0 then Some (behind d) else None) o) ≡ Some end) t h in
        absurd (cc none)
    by_turn again (Some d) t =
        subst (λ (o : Option Due). option_and_then (λ next. walk next_due line next es) (option_and_then (λ d. if is_it line at.core d e.0 then Some (behind d) else None) (option_or o (next_nudge at.place at.core))) ≡ Some end) (sym t)
        (by_it again d (is_it line at.core d e.0)
        (subst (λ (o : Option Due). option_and_then (λ next. walk next_turn line next es) (option_and_then (λ d. if is_it line at.core d e.0 then Some (behind d) else None) o) ≡ Some end) t h))

pub opening_due : (whole : Bool) (core : Core) (es : Events) → is_walk next_turn whole 0 core es ≡ true → is_walk next_due false 0 core es ≡ true
opening_due whole core es h = by_end (walk next_turn 0 (record { place = first_place; core = core }) es) refl h
  where
    by_end : (o : Option Walked) → walk next_turn 0 (record { place = first_place; core = core }) es ≡ o → option_map_or (λ at. not whole || is_none (next_turn at.place at.core)) o false ≡ true
        → is_walk next_due false 0 core es ≡ true
    by_end None e k = absurd (cc k)
    by_end (Some end) e k =
        ap (λ (o : Option Walked). option_map_or (λ at. not false || is_none (next_due at.place at.core)) o false) (walk_due 0 (record { place = first_place; core = core }) es end e)
