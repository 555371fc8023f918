-- Copies as the core keeps them stand for copies of the machine.
use Rattle.std.specs.Prelude.{◌≡◌, ℕ, suc, ◌-◌, ◌≤◌, ◌<◌, Bool, true, false, if◌then◌else◌, List, [], ◌∷◌, Option, None, Some, slice_get, length, map, drop, slice_index_or}
use Rattle.hs_entry.specs.declared.entry.Entry.{Entry}
use Rattle.hs_entry.specs.declared.entry.Entry.TheVariants.{View}
use Rattle.hs_limits.specs.declared.limits.PeerStatus.{PeerStatus}
use Rattle.hs_limits.specs.declared.limits.PeerStatus.TheVariants as status
use Rattle.hs_limits.specs.declared.shape.Shape.{Shape}
use Rattle.hs_limits.specs.Shape.{peer_of}
use Rattle.hs_members.specs.Members.{IsMembers, IsShard, Members, has_good, status as status_of, view_of}
use Rattle.hs_post.specs.declared.message.Message.{Message}
use Rattle.hs_post.specs.declared.message.Message.TheVariants as message
use Rattle.hs_rejoin.specs.Rejoin.{Rejoin}
use Rattle.hs_replica.specs.declared.replica.Replica.{Replica}
use Rattle.hs_replica.specs.Group.{IsHome, copy_of, view_after}
use Rattle.hs_copies.specs.CoreCopies.{CoreCopies, core_give_up}
use Rattle.hs_copies.specs.Invariant.{AreFaithful}
use Rattle.hs_copies.specs.Lines.{AreLinesOpen}
use Rattle.hs_copies.specs.Lists.{IsAmong, Item}
use Rattle.hs_copies.specs.Machine.{CanComeAll, Clearing, Copies, CopyEvent, Copying, Down, EntryNotice, Following, GiveUp, Good, CanCome, Notice, PeerCopy, SealedNotice, Stage, after_event, after_events}
use Rattle.hs_copies.specs.Stamps.{ToldRises, AreStampsTold, view_told}

-- the stage of a peer with this status; a joining one follows the lead's list once no emptying is due
abbrev pub stage_of : PeerStatus → Bool → Stage
stage_of status.Good due = Good
stage_of status.Joining true = Clearing
stage_of status.Joining false = Following
stage_of status.Down due = Down

abbrev pub is_good_stage : Stage → Bool
is_good_stage Good = true
is_good_stage Clearing = false
is_good_stage Following = false
is_good_stage Down = false

-- the views of a list's items
abbrev pub stamps_of : List (Item Entry) → List ℕ
stamps_of list = map (λ x. x.view) list

-- a copy of the group is this one: its stamps are those of the list
pub record IsCopyOf (r : Replica) (copy : PeerCopy Entry) : Type 0 where
  pub good : r.good ≡ is_good_stage copy.stage
  pub stamps : r.stamps ≡ stamps_of copy.list
  pub sealed : r.sealed ≡ copy.sealed
  pub known : r.good ≡ true → r.known ≡ copy.known

-- the notices have a message
abbrev pub HasMessage : List (Notice Entry) → Message → Type 0
HasMessage sent (message.Copy shard to view number entry) =
    (1 ≤ number) × ((x : Item Entry) × (x.what ≡ entry) × IsAmong (EntryNotice to view (number - 1) x) sent)
HasMessage sent (message.Have shard from to view sealed) = IsAmong (SealedNotice from view sealed) sent
HasMessage sent (message.Round from to epoch round total deltas) = Unit {0}

-- no View and no Base
abbrev pub TellsNoView : Entry → Type 0
TellsNoView entry = (view : ℕ) → view_after view entry ≡ view

-- the shard's own peers stand for those of the machine, and no other peer is one
pub record ArePeers (home : ℕ → Type 0) (copy : ℕ → Replica) (status : ℕ → PeerStatus) (rejoins : ℕ → Rejoin)
    (peers : ℕ → PeerCopy Entry) : Type 0 where
  pub each : (peer : ℕ) → home peer → IsCopyOf (copy peer) (peers peer)
  pub stage : (peer : ℕ) → home peer → (peers peer).stage ≡ stage_of (status peer) (rejoins peer).empty
  -- what a joining peer counts is the length of its list, and its last step is done
  pub counted : (peer : ℕ) → home peer → (peers peer).stage ≡ Following → (rejoins peer).len ≡ length (peers peer).list
  pub still : (peer : ℕ) → home peer → (peers peer).stage ≡ Following → (peers peer).adding ≡ []
  pub elsewhere : (peer : ℕ) → (home peer → ⊥) → (peers peer).stage ≡ Down

-- what the core keeps of a shard stands for these copies of the machine, which are faithful, and whose stamps are those
-- that the entries tell; `line` says of which line an entry is
pub record StandsFor (line : Entry → Option ℕ) (c : CoreCopies) (s : Copies Entry) : Type 0 where
  -- the group is of a shard of the store, with a copy for each peer
  pub shape : c.members.shape ≡ c.group.shape
  pub members : IsMembers c.members
  pub shard : IsShard c.group.shape c.group.shard
  pub copies : length c.group.copies ≡ c.group.shape.copies
  -- the view, the peers, what took effect, what waits, and what was sent
  pub view : c.group.view ≡ s.view
  pub of_members : view_of c.group.shard c.members ≡ s.view
  pub peers : ArePeers (IsHome c.group) (copy_of c.group) (λ peer. status_of peer c.members) c.rejoins s.peers
  pub front : c.group.front ≡ length s.took
  pub waiting : c.group.waiting ≡ map (λ x. x.what) (drop (length s.took) s.log)
  pub sent : (m : Message) → IsAmong m c.sent → HasMessage s.sent m
  -- a View is of no line, and each entry of a line above what took effect is of one without an answer
  pub views : (view : ℕ) → line (View view) ≡ None
  pub lines : AreLinesOpen line c.waits s
  -- the machine's side
  pub faithful : AreFaithful s
  pub begun : List (Item Entry)
  pub begun_at : ℕ
  pub told : AreStampsTold view_after begun begun_at s

-- it goes on as events of the machine, each of which may come
pub record Continues (line : Entry → Option ℕ) (c : CoreCopies) (s : Copies Entry) : Type 0 where
  pub events : List (CopyEvent Entry)
  pub allowed : CanComeAll s events
  pub stands : StandsFor line c (after_events s events)

-- while a copying step runs the peer's disk may have the next item of the lead's list too: the machine has it there. Where
-- the step is broken off and the peer goes down, the core's copies stand for the machine's with it
pub record IsCopyingStep (line : Entry → Option ℕ) (c : CoreCopies) (s : Copies Entry) (peer : ℕ) : Type 0 where
  pub item : Item Entry
  pub next : slice_get s.log (length (s.peers peer).list) ≡ Some item
  pub begins : CanCome s (Copying peer (item ∷ []))
  pub breaks : CanCome (after_event (Copying peer (item ∷ [])) s) (GiveUp peer)
  pub broken : StandsFor line (core_give_up peer c) (after_event (GiveUp peer) (after_event (Copying peer (item ∷ [])) s))

-- to this shard these members, and how far these joining peers have come, are as before: only the lead that they copy from,
-- another shard's view or another shard's peers may be others
pub record IsAlike (c : CoreCopies) (m : Members) (rejoins : ℕ → Rejoin) : Type 0 where
  pub shape : m.shape ≡ c.members.shape
  pub valid : IsMembers m
  pub view : view_of c.group.shard m ≡ view_of c.group.shard c.members
  pub statuses : (peer : ℕ) → IsHome c.group peer → status_of peer m ≡ status_of peer c.members
  pub empties : (peer : ℕ) → IsHome c.group peer → (rejoins peer).empty ≡ (c.rejoins peer).empty
  pub counts : (peer : ℕ) → IsHome c.group peer → (rejoins peer).len ≡ (c.rejoins peer).len

-- a shard is opened with this log, whose views never fall, and with members that say which of its peers are good and
-- that it is in the view after the log's
pub record IsOpening (shape : Shape) (shard : ℕ) (log : List (Item Entry)) (good : List Bool) (m : Members) : Type 0 where
  pub same : m.shape ≡ shape
  pub valid : IsMembers m
  pub within : IsShard shape shard
  pub copies : length good ≡ shape.copies
  pub ascends : ToldRises view_after 0 log
  pub view : view_of shard m ≡ suc (view_told view_after 0 log)
  pub each : (copy : ℕ) → copy < shape.copies → status_of (peer_of shape shard copy) m
      ≡ (if slice_index_or good copy false then status.Good else status.Down)
  pub some : has_good shard m ≡ true
