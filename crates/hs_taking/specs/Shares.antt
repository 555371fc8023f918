-- What taking the logs of a store comes to, shard by shard.
use Rattle.std.specs.Option.{option_map, option_map_or}
use Rattle.std.specs.Prelude.{◌≡◌, ◌≤◌, ◌<◌, ◌&&◌, ◌∷◌, ℕ, true, not, List, [], length, flat_map, Option, Some, None, is_some, slice_index_or, unwrap_or}
use Rattle.hs_entry.specs.Entries.{rank_of}
use Rattle.hs_fold.specs.Shards.Setting.{Numbered, Setting}
use Rattle.hs_memory.specs.Forget.{apply_all}
use Rattle.hs_peerlog.specs.Images.{Is, LeavesEach, LeavesOnly}
use Rattle.hs_peerlog.specs.Lists.{HasLog, IsKept, Keeping}
use Rattle.hs_ports.specs.Fault.{HasRisen}
use Rattle.hs_shard.specs.Facts.{Catalogue, empty_catalogue}
use Rattle.hs_side.specs.Current.{list_in}
use Rattle.hs_taking.specs.declared.shares.Share.{Share}
use Rattle.hs_taking.specs.Disks.{DiskSeen, log_at, seen_at}
use Rattle.hs_taking.specs.Past.{PastStays}

-- ---- one peer

-- of a log its list, where the log is kept, and else the empty one
abbrev pub kept_list : Option Numbered → Option Keeping → Numbered
kept_list log None = []
kept_list log (Some keeping) = unwrap_or log []

-- some log was taken, or there was none; where the disk tells its contents it is what the disk read as. What the shard opens with is what its list amounts to, where the log is kept
pub record IsShare (tells : Type 0) (fold : Numbered → Catalogue) (read : Option Numbered) (slot : Option Keeping) (share : Share) : Type 0 where
  pub log : Option Numbered
  pub told : tells → is_some share.took ≡ true → log ≡ read
  pub kept : is_some slot ≡ true → is_some log ≡ true
  pub catalogue : share.catalogue ≡ fold (kept_list log slot)
  pub rank : share.rank ≡ rank_of (kept_list log slot)
  pub took : share.took ≡ option_map (λ list. (rank_of list).number) log
  pub lost : is_some share.lost ≡ (is_some share.took && not (is_some slot))

-- from the moment before to now the disk of a peer had calls that leave its list as it is, and its past
pub record KeepsDisk (tells : Type 0) (before now : ℕ) (old new : DiskSeen) : Type 0 where
  pub moments : tells → old.stands.last ≤ before → (list : Numbered) → LeavesOnly old.stands list → LeavesEach before now old.stands new.stands (Is list)
  pub past : tells → old.stands.last ≤ before → PastStays before now old.stands new.stands
  pub counted : old.faults ≤ new.faults

-- a log that is kept has the list that its disk read as, and whatever a stop leaves has it
abbrev pub HasItsLog : Type 0 → ℕ → DiskSeen → DiskSeen → Option Keeping → Type 0
HasItsLog tells before old new slot =
    tells → old.stands.last ≤ before → (keeping : Keeping) → slot ≡ Some keeping → (list : Numbered) → list_in old.stands.seen ≡ Some list
    → HasLog keeping new.stands list None

-- and reads of the disk give it, whatever a stop leaves
abbrev pub ReadsItsLog : Type 0 → DiskSeen → DiskSeen → Option Keeping → Type 0
ReadsItsLog tells old new slot =
    tells → (keeping : Keeping) → slot ≡ Some keeping → (list : Numbered) → list_in old.stands.seen ≡ Some list → IsKept keeping (new.stands.seen keeping.log.side) list None

-- where a log is kept, no call on its disk failed
abbrev pub StandsWithLog : DiskSeen → DiskSeen → Option Keeping → Type 0
StandsWithLog old new slot = is_some slot ≡ true → new.faults ≡ old.faults

-- a peer whose log was lost: from the moment on its disk was not called any more, and its count rose
pub record IsLostDisk (tells : Type 0) (before : ℕ) (old new : DiskSeen) (moment : ℕ) : Type 0 where
  pub still : tells → old.stands.last ≤ before → (list : Numbered) → LeavesOnly old.stands list → new.stands.last ≤ moment
  pub failed : tells → HasRisen old.faults new.faults

-- ---- all of them, of one copy

-- from a moment to another, and the disks then
pub record Span : Type 0 where
  pub before : ℕ
  pub now : ℕ
  pub old : List DiskSeen
  pub new : List DiskSeen

-- by peer its log, where it is kept; by shard what it opens with
pub record Taken : Type 0 where
  pub logs : List (Option Keeping)
  pub shares : List Share

abbrev pub no_share : Share
no_share = record {
  shard = 0;
  peer = 0;
  catalogue = empty_catalogue (record { shards = 1; copies = 1 }) 0;
  rank = record { view = 0; number = 0 };
  took = None;
  lost = None;
}

abbrev pub share_at : Taken → ℕ → Share
share_at taken shard = slice_index_or taken.shares shard no_share

-- the peers whose log was lost, each with the moment
abbrev pub lost_of : Share → List (ℕ × ℕ)
lost_of share = option_map_or (λ moment. (share.peer, moment) ∷ []) share.lost []

abbrev pub all_lost : Taken → List (ℕ × ℕ)
all_lost taken = flat_map lost_of taken.shares

-- they are others, and their moments rise
abbrev pub IsLater : ℕ × ℕ → ℕ × ℕ → Type 0
IsLater one other = (one.1 ≤ other.1) × (one.0 ≡ other.0 → ⊥)

-- what a shard opens with, whose peer has its number
pub record HasShare (tells : Type 0) (set : Setting) (span : Span) (taken : Taken) (peer : ℕ) : Type 0 where
  pub share : IsShare tells (apply_all set.name (empty_catalogue set.shape peer)) (list_in (seen_at span.old peer).stands.seen) (log_at taken.logs peer) (share_at taken peer)
  pub disk : KeepsDisk tells span.before span.now (seen_at span.old peer) (seen_at span.new peer)
  pub log : HasItsLog tells span.before (seen_at span.old peer) (seen_at span.new peer) (log_at taken.logs peer)
  pub reads : ReadsItsLog tells (seen_at span.old peer) (seen_at span.new peer) (log_at taken.logs peer)
  pub calm : StandsWithLog (seen_at span.old peer) (seen_at span.new peer) (log_at taken.logs peer)
  pub shard_is : (share_at taken peer).shard ≡ peer
  pub peer_is : (share_at taken peer).peer ≡ peer

-- the log of a peer was lost at this moment
pub record IsLostAt (tells : Type 0) (span : Span) (taken : Taken) (x : ℕ × ℕ) : Type 0 where
  pub within : x.0 < length taken.shares
  pub lost : is_some (share_at taken x.0).lost ≡ true
  pub later : span.before ≤ x.1
  pub up_to : x.1 ≤ span.now
  pub disk : IsLostDisk tells span.before (seen_at span.old x.0) (seen_at span.new x.0) x.1
