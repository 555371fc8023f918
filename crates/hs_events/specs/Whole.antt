-- The core beside the whole list of each peer: what a disk may hold is said of these.
use Rattle.std.specs.Option.{option_and_then}
use Rattle.std.specs.Prelude.{ℕ, ◌-◌, ◌++◌, ◌==◌, ◌&&◌, Bool, not, [], length, take, drop, Option, Some, None, if◌then◌else◌}
use Rattle.hs_events.specs.Asked.{report_in}
use Rattle.hs_events.specs.Due.{is_answer}
use Rattle.hs_core_words.specs.declared.event.Event.{Event}
use Rattle.hs_core_words.specs.Looking.{first_job, group_of, home, rejoin_of, sealed_of, status_of}
use Rattle.hs_core_words.specs.State.{Core}
use Rattle.hs_core_words.specs.Step.{step}
use Rattle.hs_desk.specs.declared.done.Done.{Done}
use Rattle.hs_desk.specs.declared.done.Done.TheVariants as done
use Rattle.hs_desk.specs.declared.job.Job.{Job}
use Rattle.hs_desk.specs.declared.job.Job.TheVariants as job
use Rattle.hs_events.specs.Found.{Found, first_core, opened_list, starts_good}
use Rattle.hs_fold.specs.Shards.Setting.{Numbered, Setting}
use Rattle.hs_limits.specs.declared.limits.PeerStatus.{PeerStatus}
use Rattle.hs_limits.specs.declared.limits.PeerStatus.TheVariants.{Down, Good, Joining}
use Rattle.hs_members.specs.Members.{is_good_status}
use Rattle.hs_rejoin.specs.Rejoin.{Rejoin}
use Rattle.hs_replica.specs.Group.{Group, entries_above, length_of}

-- lists: by peer; adds: what the last copying step of a peer may have added on its disk; aside: whether opening set the peer aside and it was not good since
pub record Whole : Type 0 where
  pub core : Core
  pub lists : ℕ → Numbered
  pub adds : ℕ → Numbered
  pub aside : ℕ → Bool

-- ---- what a disk may hold

-- a peer's list, with what its last copying step may have added
abbrev pub reach : Whole → ℕ → Numbered
reach c peer = c.lists peer ++ c.adds peer

-- how long it is at least on the disk
abbrev pub floor : Whole → ℕ → ℕ
floor c peer = if is_good_status (status_of peer c.core) then sealed_of peer c.core else 0

-- whether a disk counts, and not as blank
abbrev pub counts : Whole → ℕ → Bool
counts c peer = not (c.aside peer)

-- ---- events

-- the report that an event is, where it answers the first job of its peer
abbrev pub taken_report : Core → Event → Option (ℕ × Done)
taken_report core e = option_and_then (λ r. if is_answer core r.0 r.1 then Some r else None) (report_in e)

-- a peer's list by its report: it was emptied, or got what was copied
abbrev pub reported : Whole → ℕ → Done → Numbered
reported c peer (done.Stored number) = c.lists peer
reported c peer (done.Sealed number) = c.lists peer
reported c peer (done.Bytes number bytes) = c.lists peer
reported c peer (done.Gone number) = c.lists peer
reported c peer done.Emptied = []
reported c peer (done.Copied number) = reach c peer
reported c peer (done.Stepped switched) = c.lists peer
reported c peer (done.Failed disk) = c.lists peer

abbrev pub told_list : Whole → ℕ → Option (ℕ × Done) → Numbered
told_list c peer None = c.lists peer
told_list c peer (Some r) = if r.0 == peer then reported c peer r.1 else c.lists peer

-- and the entries that its copy got beside: they stand in what waits
abbrev pub grown : Group → ℕ → Numbered → Numbered
grown group peer list = list ++ take (length_of group peer - length list) (entries_above (length list) group)

-- what a copying step adds
abbrev pub copied_entry : (ℕ → Numbered) → Option Job → Numbered
copied_entry lists None = []
copied_entry lists (Some (job.Append number entry)) = []
copied_entry lists (Some (job.Seal number)) = []
copied_entry lists (Some (job.Read number)) = []
copied_entry lists (Some job.Reset) = []
copied_entry lists (Some (job.Copy from number)) = take 1 (drop (number - 1) (lists from))
copied_entry lists (Some job.Reclaim) = []

abbrev pub lists_after : Event → Whole → Core → ℕ → Numbered
lists_after e c after peer = grown (group_of (home peer after) after) peer (told_list c peer (taken_report c.core e))

-- what its last copying step may have added, by its status, how far it joins and its first job: what is due is added to nothing else before;
-- where an emptying is due, where the peer is down, and where it has no lead to copy from, that of the last step is still there
abbrev pub added_by : Numbered → (ℕ → Numbered) → PeerStatus → Option Rejoin → Option Job → Numbered
added_by before lists Good rejoin job = []
added_by before lists Down rejoin job = before
added_by before lists Joining None job = before
added_by before lists Joining (Some r) (Some job.Reset) = before
added_by before lists Joining (Some r) job = copied_entry lists job

abbrev pub adds_after : Whole → Core → (ℕ → Numbered) → ℕ → Numbered
adds_after c after lists peer = added_by (c.adds peer) lists (status_of peer after) (rejoin_of peer after) (first_job peer after)

-- one event at a moment
abbrev pub step_whole : Event → ℕ → Whole → Whole
step_whole e at c =
    let after : Core = step e at c.core in
    record {
      core = after;
      lists = lists_after e c after;
      adds = adds_after c after (lists_after e c after);
      aside = λ peer. c.aside peer && not (is_good_status (status_of peer after));
    }

-- ---- opening

-- as the core opens: a good peer has the taken log and what was proposed behind it; the disk of another counts as blank
abbrev pub open_whole : Setting → Found → Whole
open_whole set found =
    let core : Core = first_core set found in
    record {
      core = core;
      lists = λ peer. if starts_good found peer then grown (group_of (home peer core) core) peer (opened_list set found (home peer core)) else [];
      adds = λ peer. [];
      aside = λ peer. not (starts_good found peer);
    }
