-- What becomes of each peer's list by an event.
use Rattle.std.specs.List.{enumerate_from}
use Rattle.std.specs.Option.{option_map_or}
use Rattle.std.specs.Prelude.{◌≡◌, ℕ, ◌-◌, ◌≤◌, ◌==◌, ◌&&◌, Bool, false, List, [], ◌++◌, drop, if◌then◌else◌, length, map, take}
use Rattle.hs_copies.specs.Lists.{Item}
use Rattle.hs_copies.specs.Machine.{Copies, after_events, put_at}
use Rattle.hs_core_words.specs.declared.event.Event.{Event}
use Rattle.hs_core_words.specs.declared.event.Event.TheVariants as event
use Rattle.hs_core_words.specs.Looking.{first_job, group_of, home}
use Rattle.hs_core_words.specs.State.{Core}
use Rattle.hs_desk.specs.Answers.{answers}
use Rattle.hs_desk.specs.declared.done.Done.{Done}
use Rattle.hs_desk.specs.declared.done.Done.TheVariants as done
use Rattle.hs_entry.specs.declared.entry.Entry.{Entry}
use Rattle.hs_replica.specs.Group.{Group, entries_above, length_of}
use Rattle.hs_core_copies.specs.InStep.{GoesOn, IsOf}

-- ---- what is told of lists

-- a report of a peer of the shard answers its first job
abbrev pub is_taken : ℕ → ℕ → Done → Core → Bool
is_taken shard peer done core = home peer core == shard && option_map_or (λ job. answers peer job done) (first_job peer core) false

-- a peer's list by its report: it was emptied, or got the next entry of the lead's list
abbrev pub list_by : Copies Entry → ℕ → Done → List (Item Entry)
list_by copies peer (done.Stored number) = (copies.peers peer).list
list_by copies peer (done.Sealed number) = (copies.peers peer).list
list_by copies peer (done.Bytes number bytes) = (copies.peers peer).list
list_by copies peer (done.Gone number) = (copies.peers peer).list
list_by copies peer done.Emptied = []
list_by copies peer (done.Copied number) =
    (copies.peers peer).list ++ take 1 (drop (length (copies.peers peer).list) copies.log)
list_by copies peer (done.Stepped switched) = (copies.peers peer).list
list_by copies peer (done.Failed disk) = (copies.peers peer).list

-- the lists of a shard, as the report tells them that an event is
abbrev pub lists_told : ℕ → Event → Core → Copies Entry → ℕ → List (Item Entry)
lists_told shard (event.Line line op) core copies = λ q. (copies.peers q).list
lists_told shard (event.Report peer done) core copies =
    if is_taken shard peer done core then put_at peer (list_by copies peer done) (λ q. (copies.peers q).list) else (λ q. (copies.peers q).list)
lists_told shard (event.Turn line peer) core copies = λ q. (copies.peers q).list
lists_told shard (event.Deliver line number) core copies = λ q. (copies.peers q).list
lists_told shard (event.Lose line number) core copies = λ q. (copies.peers q).list
lists_told shard (event.Repeat line number) core copies = λ q. (copies.peers q).list
lists_told shard (event.Nudge line peer) core copies = λ q. (copies.peers q).list
lists_told shard (event.Fail line peer) core copies = λ q. (copies.peers q).list
lists_told shard (event.Start line peer) core copies = λ q. (copies.peers q).list

-- ---- what becomes of them

-- a list's entries with their numbers
abbrev pub numbered : List (Item Entry) → List (ℕ × Entry)
numbered list = enumerate_from 1 (map (λ x. x.what) list)

-- with the entries behind it that a peer's copy has got: they wait to take effect
abbrev pub grown_by : Group → ℕ → List (ℕ × Entry) → List (ℕ × Entry)
grown_by group peer list = list ++ take (length_of group peer - length list) (entries_above (length list) group)

-- what a peer has sealed is in its list, whether it is good or not
abbrev pub AreHeld : Copies Entry → Type 0
AreHeld copies = (peer : ℕ) → (copies.peers peer).sealed ≤ length (copies.peers peer).list

-- the shard goes on as its machine, and each list is what is told of it, with what its copy has got behind it
pub record ListsGo (shard : ℕ) (new : Core) (copies : Copies Entry) (told : ℕ → List (Item Entry)) : Type 0 where
  pub goes_on : GoesOn shard new copies
  pub held : AreHeld (after_events copies goes_on.events)
  pub lists : (peer : ℕ) → IsOf new.members.shape shard peer
      → numbered ((after_events copies goes_on.events).peers peer).list ≡ grown_by (group_of shard new) peer (numbered (told peer))
