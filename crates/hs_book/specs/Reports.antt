-- What reports tell of the entries that peers have sealed.
use Rattle.std.specs.Option.{option_map_or}
use Rattle.std.specs.Prelude.{ℕ, ◌++◌, ◌==◌, List, [], ◌∷◌, is_none, slice_index_or, slice_set, if◌then◌else◌}
use Rattle.hs_core_words.specs.declared.event.Event.{Event}
use Rattle.hs_core_words.specs.State.{Core}
use Rattle.hs_core_words.specs.Step.{step}
use Rattle.hs_desk.specs.Slips.{stored_by}
use Rattle.hs_events.specs.Asked.{report_in}
use Rattle.hs_events.specs.Due.{Events}

-- some numbers more of a peer, where there is one
abbrev pub with_numbers : ℕ → List ℕ → List (List ℕ) → List (List ℕ)
with_numbers peer numbers reported = slice_set reported peer (slice_index_or reported peer [] ++ numbers)

-- the numbers by peer behind an event: a report adds what a slip keeps of it
abbrev pub with_report : Event → List (List ℕ) → List (List ℕ)
with_report e reported = option_map_or (λ r. with_numbers r.0 (stored_by r.1) reported) (report_in e) reported

-- what it tells of one peer
abbrev pub numbers_of : ℕ → Event → List ℕ
numbers_of peer e = option_map_or (λ r. if r.0 == peer then stored_by r.1 else []) (report_in e) []

-- what some events tell of it, but for one with which the core has ended: that report was not taken
abbrev pub numbers_along : ℕ → Core → Events → List ℕ
numbers_along peer core [] = []
numbers_along peer core (e ∷ es) = (if is_none (step e.0 e.1 core).ended then numbers_of peer e.0 else []) ++ numbers_along peer (step e.0 e.1 core) es
