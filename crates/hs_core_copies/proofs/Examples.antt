-- Three copies, computed by the check: the lead fails with a Copy under way, a peer that joins is one entry behind, and the next lead fails before its View has taken effect.
use Rattle.std.proofs.Common.{◌≡◌, ℕ, true, false, List, [], ◌∷◌, Some, None, inl, refl, arith, map}
use Rattle.hs_core_words.specs.declared.event.Event.{Event}
use Rattle.hs_core_words.specs.declared.event.Event.TheVariants as event
use Rattle.hs_core_words.specs.Looking.{front_of, group_of, lead_of, rejoin_of}
use Rattle.hs_core_words.specs.Opening.{Taken, open_core}
use Rattle.hs_core_words.specs.State.{Core}
use Rattle.hs_desk.specs.declared.done.Done.TheVariants as done
use Rattle.hs_limits.specs.declared.limits.PeerStatus.TheVariants as is
use Rattle.hs_limits.specs.declared.shape.Shape.{Shape}
use Rattle.hs_limits.specs.Limits.{greatest_limits}
use Rattle.hs_replica.specs.declared.replica.Replica.{Replica}
use Rattle.hs_replica.specs.Group.{commit_front}
use Rattle.hs_shard.specs.Facts.{empty_catalogue}
use Rattle.hs_core_copies.proofs.OpeningLemmas.{run_in_step}
use Rattle.hs_core_copies.specs.InStep.{copies_in}
use Rattle.hs_core_copies.specs.Opening.{MayOpen, OpensAs}
use Rattle.hs_core_copies.specs.Runs.{core_after}

abbrev three : Shape
three = record { shards = 1; copies = 3 }

-- blank disks
abbrev blank : Taken
blank = record { catalogues = empty_catalogue three 0 ∷ []; views = 0 ∷ []; lengths = 0 ∷ []; good = true ∷ true ∷ true ∷ [] }

abbrev opened : Core
opened = open_core three greatest_limits blank 0

-- peer 0 leads and has proposed the View; each other peer is sent a Copy
opened_is : (lead_of 0 opened ≡ Some 0) × (map (λ (c : Replica). c.stamps) (copies_in 0 [] opened).group.copies ≡ (1 ∷ []) ∷ [] ∷ [] ∷ [])
opened_is = (refl, refl)

-- peer 1 takes its Copy; the lead fails while that of peer 2 is under way; peer 1 leads and has sealed both Views
abbrev first_events : List (Event × ℕ)
first_events =
    (event.Deliver 0 1, 1) ∷ (event.Fail 0 0, 2) ∷ (event.Report 1 (done.Stored 1), 3) ∷ (event.Report 1 (done.Sealed 1), 4)
    ∷ (event.Report 1 (done.Stored 2), 5) ∷ (event.Report 1 (done.Sealed 2), 6) ∷ []

-- the Copy of the old view is not taken; peer 0 joins, and gets one entry of two
abbrev joining_events : List (Event × ℕ)
joining_events = (event.Deliver 0 2, 7) ∷ (event.Start 0 0, 8) ∷ (event.Report 0 done.Emptied, 9) ∷ (event.Report 0 (done.Copied 1), 10) ∷ []

abbrev behind : Core
behind = core_after joining_events (core_after first_events opened)

behind_is : (lead_of 0 behind ≡ Some 1)
    × (behind.members.statuses ≡ is.Joining ∷ is.Good ∷ is.Good ∷ [])
    × (map (λ (c : Replica). c.stamps) (copies_in 0 [] behind).group.copies ≡ (1 ∷ []) ∷ (1 ∷ 2 ∷ []) ∷ [] ∷ [])
    × (rejoin_of 0 behind ≡ Some (record { from = 1; empty = false; len = 1 }))
behind_is = (refl, refl, refl, refl)

-- peer 1 fails before its View has taken effect: peer 2 leads, and peer 0 begins again
abbrev left : Core
left = core_after ((event.Fail 0 1, 11) ∷ []) behind

left_is : (lead_of 0 left ≡ Some 2)
    × (left.members.statuses ≡ is.Joining ∷ is.Down ∷ is.Good ∷ [])
    × (map (λ (c : Replica). c.stamps) (copies_in 0 [] left).group.copies ≡ (1 ∷ []) ∷ (1 ∷ 2 ∷ []) ∷ (3 ∷ []) ∷ [])
    × (rejoin_of 0 left ≡ Some (record { from = 2; empty = true; len = 0 }))
    × (front_of 0 left ≡ 0) × (commit_front (group_of 0 left) ≡ 0) × (left.ended ≡ None)
left_is = (refl, refl, refl, refl, refl, refl, refl)

-- all of it is events of the machine
may_open : MayOpen three blank 0 []
may_open = record {
  fits = record { shards = inl refl; some_copy = omega arith; copies = omega arith };
  count = refl;
  here = omega arith;
  log_is = record { ascends = tt; view = refl; long = refl };
}

behind_in_step : OpensAs three blank 0 [] (core_after first_events opened)
behind_in_step = run_in_step three greatest_limits blank 0 0 [] first_events may_open refl
