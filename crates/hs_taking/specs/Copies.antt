-- What becomes of the copies of a shard as a store opens: the list of greatest rank is taken, and each other one is found or made equal to it.
use Rattle.std.specs.List.{AllPairs, list_any, range_with_len}
use Rattle.std.specs.Option.{option_map}
use Rattle.std.specs.Prelude.{◌≡◌, ◌≤◌, ◌<◌, ◌+◌, ◌&&◌, ◌⊎◌, ℕ, Bool, true, false, not, List, [], length, take, Contains, Option, Some, None, is_some, unwrap_or, if◌then◌else◌}
use Rattle.hs_entry.specs.Entries.{rank_of}
use Rattle.hs_fold.specs.Opened.{outranks}
use Rattle.hs_fold.specs.Shards.Setting.{Numbered, Setting}
use Rattle.hs_limits.specs.declared.shape.Shape.{Shape}
use Rattle.hs_limits.specs.Shape.{peer_of}
use Rattle.hs_memory.specs.Forget.{apply_all}
use Rattle.hs_peerlog.specs.Images.{IsAny, LeavesAny, LeavesEach, LeavesOnly}
use Rattle.hs_peerlog.specs.Lists.{HasLog, IsKept, Keeping}
use Rattle.hs_ports.specs.Fault.{HasRisen}
use Rattle.hs_shard.specs.Facts.{empty_catalogue}
use Rattle.hs_side.specs.Current.{list_in}
use Rattle.hs_taking.specs.Disks.{DiskSeen, log_at, seen_at}
use Rattle.hs_taking.specs.Past.{PastStays}
use Rattle.hs_taking.specs.Shares.{IsLater, IsLostDisk, KeepsDisk, Span, StandsWithLog, Taken, all_lost, share_at}

-- ---- whose log is taken

-- a peer of this shard
pub record IsOf (shape : Shape) (shard peer : ℕ) : Type 0 where
  pub from : peer_of shape shard 0 ≤ peer
  pub to : peer < peer_of shape shard 0 + shape.copies

-- by peer what its disk was read as, None where it is no log or was not read: of a shard the log of this peer is the first of greatest rank, where there is one
pub record IsFirst (shape : Shape) (logs : ℕ → Option Numbered) (shard peer : ℕ) : Type 0 where
  pub home : IsOf shape shard peer
  pub some : (other : ℕ) → IsOf shape shard other → is_some (logs other) ≡ true → is_some (logs peer) ≡ true
  pub best : (other : ℕ) → IsOf shape shard other → (list taken : Numbered) → logs other ≡ Some list → logs peer ≡ Some taken → outranks (rank_of list) (rank_of taken) ≡ false
  pub first : (other : ℕ) → IsOf shape shard other → other < peer → (list taken : Numbered) → logs other ≡ Some list → logs peer ≡ Some taken → outranks (rank_of taken) (rank_of list) ≡ true

-- ---- one copy

-- the fronts of a list
abbrev pub fronts : Numbered → ℕ → Numbered
fronts list count = take count list

-- the list that a disk had, or a front of the taken one
abbrev pub IsOwnOrFront : Numbered → Numbered → Numbered → Type 0
IsOwnOrFront own taken list = (list ≡ own) ⊎ IsAny (fronts taken) list

-- from the moment before to now the disk of a peer had calls that leave it so at each moment, and its past
pub record KeepsCopy (tells : Type 0) (before now : ℕ) (old new : DiskSeen) (taken : Numbered) : Type 0 where
  pub moments : tells → old.stands.last ≤ before → (own : Numbered) → LeavesOnly old.stands own → LeavesEach before now old.stands new.stands (IsOwnOrFront own taken)
  pub past : tells → old.stands.last ≤ before → PastStays before now old.stands new.stands
  pub counted : old.faults ≤ new.faults

-- from the moment before to now the disk of a peer had calls that leave at each moment lists of which this holds, whatever lists it could leave before
abbrev pub LeavesBy : Type 0 → ℕ → ℕ → DiskSeen → DiskSeen → ((ℕ → Numbered) → Numbered → Type 0) → Type 0
LeavesBy tells before now old new P =
    tells → old.stands.last ≤ before → (had : ℕ → Numbered) → LeavesAny old.stands had → LeavesEach before now old.stands new.stands (P had)

-- one of the lists that it could leave before, or a front of the taken one
abbrev pub IsHadOrFront : Numbered → (ℕ → Numbered) → Numbered → Type 0
IsHadOrFront taken had list = IsAny had list ⊎ IsAny (fronts taken) list

-- of a peer whose shard has this taken list; lost: whether the disk of the taken log failed
-- read: its log is what its disk reads as, or the disk failed and counts as having none
-- aside: why it has no log in use: it had none, or its disk failed, or it was not found or made equal before the taken log was lost
-- calm: no call on the disk of a log that is in use failed
-- has: that log has the taken list, whatever a stop leaves
-- reads: where the disk had the taken list, reads of it give that, whatever a stop leaves
-- disk, even: at each moment its disk has the list that it had, or a front of the taken one; where it had the taken list, that alone
pub record IsCopy (tells : Type 0) (before now : ℕ) (old new : DiskSeen) (log : Option Numbered) (taken : Numbered) (slot : Option Keeping) (lost : Bool) : Type 0 where
  pub read : tells → (log ≡ list_in old.stands.seen) ⊎ ((log ≡ None) × HasRisen old.faults new.faults)
  pub kept : is_some slot ≡ true → is_some log ≡ true
  pub aside : slot ≡ None → (log ≡ None) ⊎ (HasRisen old.faults new.faults ⊎ (lost ≡ true))
  pub calm : StandsWithLog old new slot
  pub has : tells → old.stands.last ≤ before → (keeping : Keeping) → slot ≡ Some keeping → HasLog keeping new.stands taken None
  pub reads : tells → (keeping : Keeping) → slot ≡ Some keeping → list_in old.stands.seen ≡ Some taken → IsKept keeping (new.stands.seen keeping.log.side) taken None
  pub disk : KeepsCopy tells before now old new taken
  pub even : tells → list_in old.stands.seen ≡ Some taken → KeepsDisk tells before now old new

-- ---- a shard

-- of a shard whose disks were read as these logs, and that takes this peer's: at each moment its disk leaves no list but those that it could leave before, and each other one those, or a front of the taken list; what is past of each stays
pub record LeavesWhileOpening (tells : Type 0) (shape : Shape) (span : Span) (logs : ℕ → Option Numbered) (shard from : ℕ) : Type 0 where
  pub taken : LeavesBy tells span.before span.now (seen_at span.old from) (seen_at span.new from) IsAny
  pub others : (peer : ℕ) → IsOf shape shard peer → LeavesBy tells span.before span.now (seen_at span.old peer) (seen_at span.new peer) (IsHadOrFront (unwrap_or (logs from) []))
  pub past : (peer : ℕ) → IsOf shape shard peer → tells → (seen_at span.old peer).stands.last ≤ span.before → PastStays span.before span.now (seen_at span.old peer).stands (seen_at span.new peer).stands

-- whether the log of one of its peers is in use
abbrev pub is_kept : Shape → List (Option Keeping) → ℕ → Bool
is_kept shape logs shard = list_any (λ peer. is_some (log_at logs peer)) (range_with_len (peer_of shape shard 0) shape.copies)

-- the list that it opens with: the taken one, where a log is in use
abbrev pub begun_list : Shape → Taken → Option Numbered → ℕ → Numbered
begun_list shape taken log shard = if is_kept shape taken.logs shard then unwrap_or log [] else []

-- what a shard opens with, where these logs were read
pub record HasShard (tells : Type 0) (set : Setting) (span : Span) (taken : Taken) (shard : ℕ) : Type 0 where
  pub logs : ℕ → Option Numbered
  pub first : IsFirst set.shape logs shard (share_at taken shard).peer
  -- of the least rank it has no entries, as where no peer has a log
  pub blank : (list : Numbered) → logs (share_at taken shard).peer ≡ Some list → rank_of list ≡ record { view = 0; number = 0 } → list ≡ []
  pub each : (peer : ℕ) → IsOf set.shape shard peer
      → IsCopy tells span.before span.now (seen_at span.old peer) (seen_at span.new peer) (logs peer) (unwrap_or (logs (share_at taken shard).peer) []) (log_at taken.logs peer) (is_some (share_at taken shard).lost)
  -- the calls on the disk of the taken log leave its list as it is
  pub disk : KeepsDisk tells span.before span.now (seen_at span.old (share_at taken shard).peer) (seen_at span.new (share_at taken shard).peer)
  -- at each moment
  pub leaves : LeavesWhileOpening tells set.shape span logs shard (share_at taken shard).peer
  pub shard_is : (share_at taken shard).shard ≡ shard
  pub took : (share_at taken shard).took ≡ option_map (λ list. (rank_of list).number) (logs (share_at taken shard).peer)
  pub lost : is_some (share_at taken shard).lost ≡ (is_some (share_at taken shard).took && not (is_some (log_at taken.logs (share_at taken shard).peer)))
  pub catalogue : (share_at taken shard).catalogue ≡ apply_all set.name (empty_catalogue set.shape shard) (begun_list set.shape taken (logs (share_at taken shard).peer) shard)
  pub rank : (share_at taken shard).rank ≡ rank_of (begun_list set.shape taken (logs (share_at taken shard).peer) shard)

-- ---- all of them

-- the taken log of a shard was lost at this moment
pub record IsLostOf (tells : Type 0) (span : Span) (taken : Taken) (x : ℕ × ℕ) : Type 0 where
  pub shard : ℕ
  pub within : shard < length taken.shares
  pub peer : x.0 ≡ (share_at taken shard).peer
  pub lost : (share_at taken shard).lost ≡ Some x.1
  pub later : span.before ≤ x.1
  pub up_to : x.1 ≤ span.now
  pub disk : IsLostDisk tells span.before (seen_at span.old x.0) (seen_at span.new x.0) x.1

-- what each shard opens with; the logs that were taken and lost stand in a list, each with its moment
pub record HasEvened (tells : Type 0) (set : Setting) (span : Span) (taken : Taken) : Type 0 where
  pub each : (shard : ℕ) → shard < length taken.shares → HasShard tells set span taken shard
  pub lost : (x : ℕ × ℕ) → Contains (all_lost taken) x → IsLostOf tells span taken x
  pub once : AllPairs IsLater (all_lost taken)
  pub all : (shard : ℕ) → shard < length taken.shares → is_some (share_at taken shard).lost ≡ true → (moment : ℕ) × Contains (all_lost taken) ((share_at taken shard).peer, moment)
