-- Three copies, computed by the check: a peer joins and is one entry behind; while that is being copied to it the lead fails, and what its disk may have stays.
use Rattle.std.proofs.Common.{◌≡◌, nat_eq, true, false, if◌then◌else◌, List, [], ◌∷◌, Some, refl}
use Rattle.hs_copies.specs.Lists.{Item}
use Rattle.hs_copies.specs.Machine.{Clearing, Copies, Following, Good, Stage}
use Rattle.hs_core_copies.specs.Runs.{core_after}
use Rattle.hs_core_words.specs.declared.event.Event.TheVariants as event
use Rattle.hs_core_words.specs.Looking.{first_job, lead_of}
use Rattle.hs_core_words.specs.Opening.{open_core}
use Rattle.hs_core_words.specs.State.{Core}
use Rattle.hs_desk.specs.declared.done.Done.TheVariants as done
use Rattle.hs_desk.specs.declared.job.Job.TheVariants as job
use Rattle.hs_entry.specs.declared.entry.Entry.{Entry}
use Rattle.hs_entry.specs.declared.entry.Entry.TheVariants.{View}
use Rattle.hs_events.specs.Whole.{Whole, reach, step_whole}
use Rattle.hs_limits.specs.declared.shape.Shape.{Shape}
use Rattle.hs_limits.specs.Limits.{greatest_limits}
use Rattle.hs_shard.specs.Facts.{empty_catalogue}
use Rattle.hs_whole_copies.specs.Whole.{added_to, longest}

abbrev three : Shape
three = record { shards = 1; copies = 3 }

-- blank disks; the lead fails, peer 1 leads and has sealed both Views, and peer 0 has got one of them
abbrev behind : Core
behind = core_after
    ((event.Deliver 0 1, 1) ∷ (event.Fail 0 0, 2) ∷ (event.Report 1 (done.Stored 1), 3) ∷ (event.Report 1 (done.Sealed 1), 4)
    ∷ (event.Report 1 (done.Stored 2), 5) ∷ (event.Report 1 (done.Sealed 2), 6) ∷ (event.Start 0 0, 7)
    ∷ (event.Report 0 done.Emptied, 8) ∷ (event.Report 0 (done.Copied 1), 9) ∷ [])
    (open_core three greatest_limits (record { catalogues = empty_catalogue three 0 ∷ []; views = 0 ∷ []; lengths = 0 ∷ []; good = true ∷ true ∷ true ∷ [] }) 0)

abbrev first : Item Entry
first = record { view = 1; what = View 1 }

abbrev second : Item Entry
second = record { view = 2; what = View 2 }

-- its machine, where peer 0 is at this stage and its last step may have added these
abbrev machine : Stage → List (Item Entry) → Copies Entry
machine stage adding = record {
  view = 2;
  log = first ∷ second ∷ [];
  took = [];
  peers = λ q. if nat_eq q 0 then record { stage = stage; list = first ∷ []; adding = adding; sealed = 1; known = 0 }
      else record { stage = Good; list = first ∷ second ∷ []; adding = []; sealed = 2; known = 2 };
  sent = [];
}

-- the second View is being copied to it, from the lead
copying : (lead_of 0 behind ≡ Some 1) × (first_job 0 behind ≡ Some (job.Copy 1 2)) × (added_to 0 behind (machine Following []) ≡ second ∷ [])
    × (longest 0 behind (machine Following []) ≡ first ∷ second ∷ [])
copying = (refl, refl, refl, refl)

abbrev whole : Whole
whole = record {
  core = behind;
  lists = λ q. if nat_eq q 0 then (1, View 1) ∷ [] else (1, View 1) ∷ (2, View 2) ∷ [];
  adds = λ q. if nat_eq q 0 then (2, View 2) ∷ [] else [];
  aside = λ q. false;
}

-- the lead fails: peer 0 begins again, and its disk may have the second View still
abbrev left : Whole
left = step_whole (event.Fail 0 1) 10 whole

broken_off : (first_job 0 left.core ≡ Some job.Reset) × (reach left 0 ≡ (1, View 1) ∷ (2, View 2) ∷ [])
    × (longest 0 left.core (machine Clearing (second ∷ [])) ≡ first ∷ second ∷ [])
broken_off = (refl, refl, refl)
