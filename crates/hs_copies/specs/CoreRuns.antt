-- A shard's copies from the opening on, call by call as the core makes them.
use Rattle.std.specs.Prelude.{◌≡◌, ℕ, ◌+◌, ◌≤◌, Bool, true, false, List, [], ◌∷◌, Option, Some, length, take}
use Rattle.hs_entry.specs.declared.entry.Entry.{Entry}
use Rattle.hs_entry.specs.declared.entry.Entry.TheVariants.{View}
use Rattle.hs_limits.specs.declared.limits.PeerStatus.TheVariants as status
use Rattle.hs_limits.specs.declared.shape.Shape.{Shape}
use Rattle.hs_members.specs.Members.{Members, become, has_good, status as status_of, view_of}
use Rattle.hs_post.specs.declared.message.Message.TheVariants as message
use Rattle.hs_rejoin.specs.Rejoin.{Rejoin, is_level}
use Rattle.hs_replica.specs.Group.{IsHome, committed, copy_of, last_view, lead, length_of, view_after}
use Rattle.hs_copies.specs.CoreCopies.{CoreCopies, core_answer, core_append, core_begin, core_commit, core_copied, core_empty, core_fail, core_give_up, core_have, core_join, core_nudge, core_open, core_propose, core_seal, core_start, opens_good}
use Rattle.hs_copies.specs.Lists.{IsAmong, Item}
use Rattle.hs_copies.specs.Machine.{Copies}
use Rattle.hs_copies.specs.Opened.{opened_copies, stamped_alike}
use Rattle.hs_copies.specs.Stamps.{view_told}
use Rattle.hs_copies.specs.Standing.{TellsNoView}

-- what the core does with a shard's copies
pub data CoreCall : Type 0 where
  Proposes : Entry → CoreCall
  TakesCopy : (shard peer view number : ℕ) → Entry → CoreCall
  Seals : (peer number : ℕ) → CoreCall
  Hears : (shard from to view sealed : ℕ) → CoreCall
  Commits : CoreCall
  CommitsAndAnswers : (line : ℕ) → CoreCall
  Begins : (line : ℕ) → CoreCall
  Answers : (line leads : ℕ) → CoreCall
  Nudges : (peer : ℕ) → CoreCall
  Fails : (peer : ℕ) → CoreCall
  Joins : (peer leads : ℕ) → CoreCall
  Starts : (peer : ℕ) → CoreCall
  Empties : (peer : ℕ) → CoreCall
  CopiesTo : (peer number leads : ℕ) → CoreCall
  GivesUp : (peer : ℕ) → CoreCall

-- no entry that waits is of this line
abbrev pub NoneWaits : (Entry → Option ℕ) → ℕ → CoreCopies → Type 0
NoneWaits line k c = (entry : Entry) → IsAmong entry c.group.waiting → line entry ≡ Some k → ⊥

-- when the core may make a call, where `line` says of which line an entry is
abbrev pub MayCall : (Entry → Option ℕ) → CoreCall → CoreCopies → Type 0
-- an entry that is no View and no Base; where it is of a line, that has no answer, and no entry of it waits
MayCall line (Proposes entry) c =
    TellsNoView entry × ((k : ℕ) → line entry ≡ Some k → (c.waits k ≡ true) × NoneWaits line k c)
-- a message that was sent
MayCall line (TakesCopy shard peer view number entry) c =
    IsHome c.group peer × IsAmong (message.Copy shard peer view number entry) c.sent
MayCall line (Hears shard from to view sealed) c =
    IsHome c.group from × IsAmong (message.Have shard from to view sealed) c.sent
-- a good peer has sealed no less than before, of what it has
MayCall line (Seals peer number) c =
    IsHome c.group peer × ((copy_of c.group peer).good ≡ true)
    × ((copy_of c.group peer).sealed ≤ number) × (number ≤ length_of c.group peer)
MayCall line Commits c = Unit {0}
-- the entry that takes effect is of the line
MayCall line (CommitsAndAnswers k) c = (y : ℕ × Entry) × (committed c.group ≡ Some y) × (line y.1 ≡ Some k)
MayCall line (Begins k) c = Unit {0}
-- an entry of the current view took effect, and no entry of the line waits
MayCall line (Answers k leads) c =
    (lead c.group ≡ Some leads) × (last_view (take c.group.front (copy_of c.group leads).stamps) ≡ c.group.view)
    × NoneWaits line k c
MayCall line (Nudges peer) c = IsHome c.group peer × ((copy_of c.group peer).good ≡ true)
-- a good peer goes down, and another is left
MayCall line (Fails peer) c =
    IsHome c.group peer × (status_of peer c.members ≡ status.Good)
    × (has_good c.group.shard (become peer status.Down c.members) ≡ true)
-- a joining peer is level with the lead
MayCall line (Joins peer leads) c =
    IsHome c.group peer × (status_of peer c.members ≡ status.Joining) × (lead c.group ≡ Some leads)
    × (is_level (length_of c.group leads) (c.rejoins peer) ≡ true)
MayCall line (Starts peer) c = IsHome c.group peer × (status_of peer c.members ≡ status.Down)
-- its emptying is due
MayCall line (Empties peer) c =
    IsHome c.group peer × (status_of peer c.members ≡ status.Joining) × ((c.rejoins peer).empty ≡ true)
-- no emptying is due, and the lead has the next entry
MayCall line (CopiesTo peer number leads) c =
    IsHome c.group peer × (status_of peer c.members ≡ status.Joining) × ((c.rejoins peer).empty ≡ false)
    × (number ≡ (c.rejoins peer).len + 1) × (lead c.group ≡ Some leads) × (number ≤ length_of c.group leads)
MayCall line (GivesUp peer) c = IsHome c.group peer × (status_of peer c.members ≡ status.Joining)

-- what it leaves
abbrev pub after_call : CoreCall → CoreCopies → CoreCopies
after_call (Proposes entry) c = core_propose entry c
after_call (TakesCopy shard peer view number entry) c = core_append peer view number entry c
after_call (Seals peer number) c = core_seal peer number c
after_call (Hears shard from to view sealed) c = core_have from view sealed c
after_call Commits c = core_commit c
after_call (CommitsAndAnswers k) c = core_answer k (core_commit c)
after_call (Begins k) c = core_begin k c
after_call (Answers k leads) c = core_answer k c
after_call (Nudges peer) c = core_nudge peer c
after_call (Fails peer) c = core_fail peer c
after_call (Joins peer leads) c = core_join peer c
after_call (Starts peer) c = core_start peer c
after_call (Empties peer) c = core_empty peer c
after_call (CopiesTo peer number leads) c = core_copied peer number c
after_call (GivesUp peer) c = core_give_up peer c

-- each call may be made when it comes
abbrev pub MayCallAll : (Entry → Option ℕ) → List CoreCall → CoreCopies → Type 0
MayCallAll line [] c = Unit {0}
MayCallAll line (call ∷ calls) c = MayCall line call c × MayCallAll line calls (after_call call c)

abbrev pub after_calls : List CoreCall → CoreCopies → CoreCopies
after_calls [] c = c
after_calls (call ∷ calls) c = after_calls calls (after_call call c)

-- ---- from the opening on

-- the core opens a shard with this log
abbrev pub opened_core : Shape → ℕ → List (Item Entry) → List Bool → Members → (ℕ → Rejoin) → CoreCopies
opened_core shape shard log good m rejoins =
    core_open shape shard (view_told view_after 0 log) (length log) good m rejoins

-- the machine does, and this peer leads
abbrev pub opened_machine : Shape → ℕ → List (Item Entry) → List Bool → Members → ℕ → Copies Entry
opened_machine shape shard log good m leads =
    let view : ℕ = view_told view_after 0 log in
    opened_copies view (stamped_alike view log) (opens_good shape shard good) leads (View (view_of shard m))
