-- What a cluster begins with, from the logs that were taken, and its first turns.
use Rattle.std.specs.Option.{option_map_or}
use Rattle.std.specs.Prelude.{◌≡◌, ◌*◌, ◌++◌, ◌∷◌, ◌<◌, ◌≤◌, ◌==◌, ◌&&◌, ℕ, ⊤, Bool, List, [], flat_map, if◌then◌else◌, is_some, length, map, not, slice_get, IsSome, None, Result, Some, false, true}
use Rattle.hs_cluster.specs.Calls.{Does, ran_out}
use Rattle.hs_cluster.specs.Counts.{NoneFalls}
use Rattle.hs_cluster.specs.declared.fault.ClusterFault.{ClusterFault}
use Rattle.hs_cluster.specs.declared.fault.ClusterFault.TheVariants as fault
use Rattle.hs_cluster.specs.Growing.{GoesOn}
use Rattle.hs_cluster.specs.Kept.{Shows, Span as Turns}
use Rattle.hs_cluster.specs.Running.{Running}
use Rattle.hs_core_words.specs.Opening.{Taken as Opened, open_core}
use Rattle.hs_events.specs.Due.{Events, MomentsRise, is_walk, next_turn}
use Rattle.hs_fold.specs.Shards.Setting.{Setting}
use Rattle.hs_limits.specs.declared.shape.Shape.{Shape}
use Rattle.hs_limits.specs.Shape.{IsShape}
use Rattle.hs_members.specs.Members.{all_peers, home_of}
use Rattle.hs_model.specs.declared.course.CourseItem.{CourseItem}
use Rattle.hs_model.specs.declared.course.CourseItem.TheVariants as item
use Rattle.hs_peerlog.specs.declared.fault.LogFault.TheVariants as log
use Rattle.hs_peerlog.specs.Opening.{refusal_in}
use Rattle.hs_ports.specs.Fault.{HasRisen}
use Rattle.hs_side.specs.declared.header.Header.{Header}
use Rattle.hs_side.specs.Headers.{own_header}
use Rattle.hs_taking.specs.Copies.{HasEvened}
use Rattle.hs_taking.specs.declared.fault.TakeFault.{TakeFault}
use Rattle.hs_taking.specs.declared.fault.TakeFault.TheVariants as take
use Rattle.hs_taking.specs.declared.shares.Share.{Share}
use Rattle.hs_taking.specs.Disks.{DiskSeen, log_at, seen_at}
use Rattle.hs_taking.specs.Headed.{KeepsItsHeader, OwnTheirLogs}
use Rattle.hs_taking.specs.Shares.{Span, Taken}
use Rattle.hs_taking.specs.Viewed.{IsFirstOther}

-- ---- faults

abbrev pub of_taking : TakeFault → ClusterFault
of_taking (take.WrongShape peer found) = fault.WrongShape peer found
of_taking take.NoMemory = fault.NoMemory

-- a disk of another store, or want of memory
abbrev pub IsClosed : Type 0 → Shape → List DiskSeen → List DiskSeen → ClusterFault → Type 0
IsClosed tells shape old new (fault.WrongShape peer found) = IsFirstOther tells shape old new peer found
IsClosed tells shape old new (fault.ShardLost shard) = ⊥
IsClosed tells shape old new fault.OpsFull = ⊥
IsClosed tells shape old new fault.NoMemory = ⊤

-- ---- before the first turn

-- what the core opens with
abbrev pub opened_with : Taken → Opened
opened_with taken = record {
  catalogues = map (λ share. share.catalogue) taken.shares;
  views = map (λ share. share.rank.view) taken.shares;
  lengths = map (λ share. share.rank.number) taken.shares;
  good = map (λ log. is_some log) taken.logs;
}

-- the taken logs at the moment of entry, and the peers of these that were lost
abbrev pub took_of : ℕ → Share → List CourseItem
took_of entry share = option_map_or (λ number. item.Good share.peer entry ∷ item.Took share.shard number entry ∷ []) share.took []

abbrev pub bad_of : Share → List CourseItem
bad_of share = option_map_or (λ moment. item.Bad share.peer moment ∷ []) share.lost []

-- whether the log of a peer was taken
abbrev pub is_took : Shape → List Share → ℕ → Bool
is_took shape shares peer = option_map_or (λ share. is_some share.took && share.peer == peer) (slice_get shares (home_of shape peer)) false

-- each other peer whose log is in use, when the core is opened
abbrev pub good_of : Shape → Taken → ℕ → ℕ → List CourseItem
good_of shape taken opened peer = if is_some (log_at taken.logs peer) && not (is_took shape taken.shares peer) then item.Good peer opened ∷ [] else []

abbrev pub begun_course : Shape → ℕ → ℕ → Taken → List CourseItem
begun_course shape entry opened taken =
    flat_map (took_of entry) taken.shares ++ (flat_map bad_of taken.shares ++ flat_map (good_of shape taken opened) (all_peers shape))

-- the core over what was taken, when all of it was
pub record Begins (tells : Type 0) (set : Setting) (span : Span) (cluster : Running) : Type 0 where
  pub taken : Taken
  pub shape : IsShape set.shape
  pub read : HasEvened tells set span taken
  pub shares : length taken.shares ≡ set.shape.shards
  pub own : tells → (peer : ℕ) (found : Header) → peer < length span.old → refusal_in set.shape peer (seen_at span.old peer).stands.seen ≡ Some (log.WrongShape found)
      → HasRisen (seen_at span.old peer).faults (seen_at span.new peer).faults
  pub count : length taken.logs ≡ set.shape.shards * set.shape.copies
  pub ticks : span.before ≤ span.now
  pub falls : NoneFalls span.old span.new
  pub disks : length span.old ≡ set.shape.shards * set.shape.copies
  pub left : length span.new ≡ length span.old
  pub logs : cluster.logs ≡ taken.logs
  pub uncached : cluster.cache ≡ None
  pub owns : OwnTheirLogs tells set.shape (log_at taken.logs)
  pub headed : (peer : ℕ) → peer < length span.old → KeepsItsHeader tells (own_header set.shape peer) span.before span.now (seen_at span.old peer) (seen_at span.new peer)
  pub core : cluster.core ≡ open_core set.shape set.limits (opened_with taken) span.now
  pub course : cluster.course ≡ begun_course set.shape span.before span.now taken

-- ---- and the turns, until nobody has one, or memory runs out

-- turns were done, and this they show of the disks
pub record HasTurned (tells : Type 0) (turns : Turns) (done : Result ⊤ ClusterFault) : Type 0 where
  pub events : Events
  pub due : is_walk next_turn (not (ran_out done)) 0 turns.old.core events ≡ true
  pub rises : MomentsRise turns.before events turns.now
  pub does : Does events turns.old turns.new done
  -- a core that had ended does none
  pub still : IsSome turns.old.core.ended → turns.left ≡ turns.disks
  pub shows : Shows tells turns done events
  -- the list of each peer only goes on, as long as its log is in use
  pub goes_on : tells → (peer : ℕ) → GoesOn turns.old.logs turns.disks turns.new.logs turns.left peer

-- the cluster, the moment and the disks right before the first turn, and the turns
pub record HasOpened (tells : Type 0) (set : Setting) (span : Span) (cluster : Running) (done : Result ⊤ ClusterFault) : Type 0 where
  pub begun : Running
  pub opened : ℕ
  pub disks : List DiskSeen
  pub begins : Begins tells set (record { before = span.before; now = opened; old = span.old; new = disks }) begun
  pub turned : HasTurned tells (record { before = opened; now = span.now; old = begun; new = cluster; disks = disks; left = span.new }) done
