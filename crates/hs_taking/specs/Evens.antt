-- What becomes of the disks of a shard whose taken log was loaded; no public clause cites these words.
use Rattle.std.specs.List.{AllPairs, list_any, range_with_len}
use Rattle.std.specs.Option.{option_map}
use Rattle.std.specs.Prelude.{◌≡◌, ◌≤◌, ◌<◌, ◌⊎◌, ⊤, Bool, drop, false, length, map, take, true, unwrap_or, ℕ, List, [], None, Option, Some, if◌then◌else◌, is_some}
use Rattle.hs_coldstart.specs.Choose.{choose}
use Rattle.hs_entry.specs.Entries.{rank_of}
use Rattle.hs_fold.specs.Shards.Setting.{Numbered, Setting}
use Rattle.hs_limits.specs.declared.shape.Shape.{Shape}
use Rattle.hs_limits.specs.Shape.{peer_of}
use Rattle.hs_peerlog.specs.Lists.{IsKept, Keeping}
use Rattle.hs_peerlog.specs.Views.{Viewing}
use Rattle.hs_ports.specs.Fault.{HasRisen}
use Rattle.hs_memory.specs.Forget.{apply_all}
use Rattle.hs_shard.specs.Facts.{Catalogue, empty_catalogue}
use Rattle.hs_side.specs.Current.{list_in}
use Rattle.hs_taking.specs.Copies.{IsOf}
use Rattle.hs_taking.specs.declared.shares.Share.{Share}
use Rattle.hs_taking.specs.declared.slot.Slot.{Slot}
use Rattle.hs_taking.specs.declared.slot.Slot.TheVariants.{Aside, Viewed, Equal, Kept}
use Rattle.hs_taking.specs.declared.slot.Source.{Source}
use Rattle.hs_taking.specs.declared.slot.Source.TheVariants as source
use Rattle.hs_taking.specs.Disks.{DiskSeen, seen_at}
use Rattle.hs_taking.specs.Pairs.{IsStill}
use Rattle.hs_taking.specs.Shares.{IsLater, IsLostDisk, KeepsDisk, Taken, all_lost, share_at}
use Rattle.hs_taking.specs.Slots.{HasMoved, IsGood, IsGoodView, slot_at}

-- the log of a slot, where one is kept
abbrev pub log_of : Slot → Option Keeping
log_of Aside = None
log_of (Viewed view) = None
log_of (Equal view) = None
log_of (Kept log) = Some log

-- what is kept of a disk that was viewed, or was not
abbrev pub slot_of : Option Viewing → Slot
slot_of None = Aside
slot_of (Some view) = Viewed view

-- of a disk that was viewed, beside that of the taken log, which has each list of which this holds
pub record IsEvened (tells : Type 0) (before now : ℕ) (b b' : DiskSeen) (is_taken : Numbered → Type 0) (slot : Slot) (lost : Option ℕ) : Type 0 where
  pub good : (log : Keeping) → slot ≡ Kept log → IsGood tells before b b' is_taken log
  pub reads : tells → (log : Keeping) → slot ≡ Kept log → (list : Numbered) → is_taken list → list_in b.stands.seen ≡ Some list → IsKept log (b'.stands.seen log.log.side) list None
  pub out : log_of slot ≡ None → (is_some lost ≡ true) ⊎ (tells → HasRisen b.faults b'.faults)
  pub moved : HasMoved tells before now b b' is_taken
  pub even : tells → (list : Numbered) → is_taken list → list_in b.stands.seen ≡ Some list → KeepsDisk tells before now b b'

-- by what was kept of it: what stood aside does so, and was not written
abbrev pub IsEvenedAs : Type 0 → ℕ → ℕ → DiskSeen → DiskSeen → (Numbered → Type 0) → Slot → Slot → Option ℕ → Type 0
IsEvenedAs tells before now b b' is_taken Aside new lost = (new ≡ Aside) × IsStill tells b b'
IsEvenedAs tells before now b b' is_taken (Viewed view) new lost = IsEvened tells before now b b' is_taken new lost
IsEvenedAs tells before now b b' is_taken (Equal view) new lost = ⊤
IsEvenedAs tells before now b b' is_taken (Kept log) new lost = ⊤

-- the taken log was kept, or lost at a moment
abbrev pub IsTaken : Type 0 → ℕ → ℕ → DiskSeen → DiskSeen → Slot → Option ℕ → Type 0
IsTaken tells before now a a' (Kept log) None = IsGoodView tells before a a' log
IsTaken tells before now a a' (Kept log) (Some moment) = ⊥
IsTaken tells before now a a' Aside None = ⊥
IsTaken tells before now a a' Aside (Some moment) = (before ≤ moment) × (moment ≤ now) × IsLostDisk tells before a a' moment
IsTaken tells before now a a' (Viewed view) lost = ⊥
IsTaken tells before now a a' (Equal view) lost = ⊥

-- all of a shard
pub record AreEvened (tells : Type 0) (shape : Shape) (shard from : ℕ) (before now : ℕ) (old new : List DiskSeen) (slots slots' : List Slot) (lost : Option ℕ) : Type 0 where
  pub each : (peer : ℕ) → IsOf shape shard peer → (peer ≡ from → ⊥)
      → IsEvenedAs tells before now (seen_at old peer) (seen_at new peer) (λ list. list_in (seen_at old from).stands.seen ≡ Some list) (slot_at slots peer) (slot_at slots' peer) lost
  pub taken : IsTaken tells before now (seen_at old from) (seen_at new from) (slot_at slots' from) lost
  pub disk : KeepsDisk tells before now (seen_at old from) (seen_at new from)

-- of the disk of a peer, by what was kept of it, whatever was answered
abbrev pub IsMovedAs : Type 0 → ℕ → ℕ → DiskSeen → DiskSeen → (Numbered → Type 0) → Slot → Type 0
IsMovedAs tells before now b b' is_taken Aside = IsStill tells b b'
IsMovedAs tells before now b b' is_taken (Viewed view) = HasMoved tells before now b b' is_taken
IsMovedAs tells before now b b' is_taken (Equal view) = ⊤
IsMovedAs tells before now b b' is_taken (Kept log) = ⊤

pub record AreMoved (tells : Type 0) (shape : Shape) (shard from : ℕ) (before now : ℕ) (old new : List DiskSeen) (slots : List Slot) : Type 0 where
  pub each : (peer : ℕ) → IsOf shape shard peer → (peer ≡ from → ⊥)
      → IsMovedAs tells before now (seen_at old peer) (seen_at new peer) (λ list. list_in (seen_at old from).stands.seen ≡ Some list) (slot_at slots peer)
  pub disk : KeepsDisk tells before now (seen_at old from) (seen_at new from)
  pub outside : (peer : ℕ) → (IsOf shape shard peer → ⊥) → seen_at new peer ≡ seen_at old peer

-- of the disk of the taken log, by what was kept of it: where it was viewed its list stays, and else it was not written
abbrev pub IsKeptAs : Type 0 → ℕ → ℕ → DiskSeen → DiskSeen → Slot → Type 0
IsKeptAs tells before now a a' Aside = IsStill tells a a'
IsKeptAs tells before now a a' (Viewed view) = KeepsDisk tells before now a a'
IsKeptAs tells before now a a' (Equal view) = ⊤
IsKeptAs tells before now a a' (Kept log) = ⊤

-- of the disks of a shard, by what was kept of them before any was called
pub record HaveMoved (tells : Type 0) (shape : Shape) (shard from : ℕ) (before now : ℕ) (old new : List DiskSeen) (slots : List Slot) : Type 0 where
  pub each : (peer : ℕ) → IsOf shape shard peer → (peer ≡ from → ⊥)
      → IsMovedAs tells before now (seen_at old peer) (seen_at new peer) (λ list. list_in (seen_at old from).stands.seen ≡ Some list) (slot_at slots peer)
  pub own : IsKeptAs tells before now (seen_at old from) (seen_at new from) (slot_at slots from)

-- the taken log was recovered from its view, or is lost now
abbrev pub IsRecovered : Type 0 → ℕ → ℕ → DiskSeen → DiskSeen → Bool → Source → Type 0
IsRecovered tells before now a a' lost (source.Kept log) = (lost ≡ false) × IsGoodView tells before a a' log
IsRecovered tells before now a a' lost (source.Lost moment) = (moment ≡ now) × (((lost ≡ true) × (a' ≡ a)) ⊎ (tells → HasRisen a.faults a'.faults))

-- ---- what a shard opens with

-- whether the log of one of its peers is kept
abbrev pub has_kept : Shape → List Slot → ℕ → Bool
has_kept shape slots shard = list_any (λ peer. is_some (log_of (slot_at slots peer))) (range_with_len (peer_of shape shard 0) shape.copies)

-- the view of a slot, where one is there that was not compared
abbrev pub viewed_of : Slot → Option Viewing
viewed_of Aside = None
viewed_of (Viewed view) = Some view
viewed_of (Equal view) = None
viewed_of (Kept log) = None

-- nothing was done with a disk but that it was viewed
abbrev pub IsFresh : Slot → Type 0
IsFresh Aside = ⊤
IsFresh (Viewed view) = ⊤
IsFresh (Equal view) = ⊥
IsFresh (Kept log) = ⊥

-- from the view of its taken log, which has this list
pub record TakesView (tells : Type 0) (fold : Numbered → Catalogue) (shape : Shape) (shard from : ℕ) (before now : ℕ) (old new : List DiskSeen) (slots slots' : List Slot) (view : Viewing) (share : Share) : Type 0 where
  pub log : Numbered
  pub ranked : rank_of log ≡ view.rank
  pub blank : rank_of log ≡ record { view = 0; number = 0 } → log ≡ []
  pub told : tells → list_in (seen_at old from).stands.seen ≡ Some log
  pub took : share.took ≡ Some (rank_of log).number
  pub catalogue : share.catalogue ≡ fold (if has_kept shape slots' shard then log else [])
  pub rank : share.rank ≡ rank_of (if has_kept shape slots' shard then log else [])
  pub copies : AreEvened tells shape shard from before now old new slots slots' share.lost

-- where no peer has a log
pub record TakesNone (fold : Numbered → Catalogue) (shape : Shape) (shard from : ℕ) (old new : List DiskSeen) (slots slots' : List Slot) (share : Share) : Type 0 where
  pub took : share.took ≡ None
  pub lost : share.lost ≡ None
  pub catalogue : share.catalogue ≡ fold []
  pub rank : share.rank ≡ rank_of []
  pub disks : (peer : ℕ) → IsOf shape shard peer → seen_at new peer ≡ seen_at old peer
  pub others : (peer : ℕ) → IsOf shape shard peer → (peer ≡ from → ⊥) → slot_at slots' peer ≡ slot_at slots peer
  pub own : slot_at slots' from ≡ Aside

abbrev pub TakesFrom : Type 0 → (Numbered → Catalogue) → Shape → ℕ → ℕ → ℕ → ℕ → List DiskSeen → List DiskSeen → List Slot → List Slot → Share → Slot → Type 0
TakesFrom tells fold shape shard from before now old new slots slots' share (Viewed view) = TakesView tells fold shape shard from before now old new slots slots' view share
TakesFrom tells fold shape shard from before now old new slots slots' share Aside = TakesNone fold shape shard from old new slots slots' share
TakesFrom tells fold shape shard from before now old new slots slots' share (Equal view) = TakesNone fold shape shard from old new slots slots' share
TakesFrom tells fold shape shard from before now old new slots slots' share (Kept log) = TakesNone fold shape shard from old new slots slots' share

pub record TakesShard (tells : Type 0) (fold : Numbered → Catalogue) (shape : Shape) (shard from : ℕ) (before now : ℕ) (old new : List DiskSeen) (slots slots' : List Slot) (share : Share) : Type 0 where
  pub from_slot : TakesFrom tells fold shape shard from before now old new slots slots' share (slot_at slots from)
  pub outside : (peer : ℕ) → (IsOf shape shard peer → ⊥) → slot_at slots' peer ≡ slot_at slots peer

-- ---- what a store opens with

-- the peer whose log is taken for a shard, from the views of all disks
abbrev pub chosen_peer : Shape → List (Option Viewing) → ℕ → ℕ
chosen_peer shape views shard = peer_of shape shard (unwrap_or (choose (take shape.copies (drop (peer_of shape shard 0) (map (λ view. option_map (λ v. v.rank) view) views)))) 0)

-- from the views of its disks: by shard the peer whose rank is chosen, and what was taken of it
pub record TakesAll (tells : Type 0) (set : Setting) (before now : ℕ) (old new : List DiskSeen) (views : List (Option Viewing)) (taken : Taken) : Type 0 where
  pub slots : List Slot
  pub logs : taken.logs ≡ map log_of slots
  pub chosen : (shard : ℕ) → shard < length taken.shares → (share_at taken shard).peer ≡ chosen_peer set.shape views shard
  pub numbered : (shard : ℕ) → shard < length taken.shares → (share_at taken shard).shard ≡ shard
  pub home : (shard : ℕ) → shard < length taken.shares → IsOf set.shape shard (share_at taken shard).peer
  pub each : (shard : ℕ) → shard < length taken.shares
      → TakesFrom tells (apply_all set.name (empty_catalogue set.shape shard)) set.shape shard (share_at taken shard).peer before now old new (map slot_of views) slots (share_at taken shard) (slot_at (map slot_of views) (share_at taken shard).peer)
  pub once : AllPairs IsLater (all_lost taken)
