-- How far a run has gone between two lines.
use Rattle.std.specs.Prelude.{All, Err, IfSome, List, None, Ok, Option, Result, Some, [], false, is_ok, length, not, true, ℕ, ⊤, ◌++◌, ◌+◌, ◌-◌, ◌<◌, ◌^◌, ◌∷◌, ◌≡◌, ◌≤◌}
use Rattle.hs_cluster.specs.Calls.{outcome_by, ran_out}
use Rattle.hs_cluster.specs.declared.fault.ClusterFault.{ClusterFault}
use Rattle.hs_cluster.specs.Disks.{DiskSeen, stands_of}
use Rattle.hs_cluster.specs.Kept.{Span}
use Rattle.hs_cluster.specs.Running.{Running}
use Rattle.hs_cluster.specs.RunsOn.{CanRunOn, RunsOn, StandUntold}
use Rattle.hs_core_words.specs.State.{Core}
use Rattle.hs_events.specs.Beginning.{first_items}
use Rattle.hs_events.specs.Commands.{LineAt}
use Rattle.hs_events.specs.Course.{items_of, steps}
use Rattle.hs_events.specs.Due.{Events, MomentsRise, is_walk, next_turn}
use Rattle.hs_events.specs.Found.{Found, first_core}
use Rattle.hs_fold.specs.Shards.Setting.{Setting}
use Rattle.hs_journal.specs.declared.entry.JournalEntry.{JournalEntry}
use Rattle.hs_journal.specs.Moments.{below}
use Rattle.hs_limits.specs.declared.address.Address.{Address}
use Rattle.hs_model.specs.declared.command.Command.{Command}
use Rattle.hs_moments.specs.Moments.{Since}
use Rattle.hs_ports.specs.Objects.{IsSinkBehind, Objects}
use Rattle.hs_ports.specs.Putting.{PutsFront, got_by}
use Rattle.hs_ports.specs.Sink.{bytes_of, followed}
use Rattle.hs_promise.specs.declared.status.Status.TheVariants as status
use Rattle.hs_promise.specs.Lines.{IsBegunLine}
use Rattle.hs_promise.specs.Run.{Ran, Script}
use Rattle.hs_promise.specs.Story.{Story, all_events}
use Rattle.hs_script.specs.Lines.{line_at}
use Rattle.hs_script.specs.Reading.{command_in, commands, reading, says}
use Rattle.hs_script.specs.Text.{text}
use Rattle.hs_run.specs.declared.stop.Stop.{Stop}
use Rattle.hs_run.specs.declared.stop.Stop.TheVariants as stop
use Rattle.hs_run.specs.Between.{Point}
use Rattle.hs_run.specs.OneLine.{IsOpeningPut, RunsCommand, Stretch}
use Rattle.hs_run.specs.Puts.{IsStamped}

-- ---- what a run began with

-- what its store is set up with, its objects and disks at entry, what opening found, the cluster right before the first turn, and the events of opening
pub record Begun : Type 0 where
  pub set : Setting
  pub old : Objects
  pub disks : List DiskSeen
  pub found : Found
  pub first : Running
  pub opening : Events

abbrev pub story_of : Begun → List Events → Story
story_of b lines = record { found = b.found; opening = b.opening; lines = lines }

abbrev pub script_by : Begun → (ℕ → Option Command) → Script
script_by b commands = record { set = b.set; commands = commands }

-- the core behind opening and these lines
abbrev pub core_behind : Begun → List Events → Core
core_behind b lines = steps (first_core b.set b.found) (all_events (story_of b lines))

-- from entry up to a point
abbrev pub span_to : Begun → Point → Span
span_to b at = record { before = b.old.moment; now = at.now; old = b.first; new = at.cluster; disks = b.disks; left = at.disks }

-- these commands are what some lines say, the first of which is line 1
abbrev pub AreRead : (ℕ → Option Command) → List (List ℕ) → Type 0
AreRead commands read = (n : ℕ) (line : List ℕ) → line_at read n ≡ Some line → commands n ≡ command_in (reading line)

-- ---- lines that were gone past

-- a run as its lines see it: its script, its objects at entry, the moment, and what its sink has got by now
pub record Sight : Type 0 where
  pub script : Script
  pub old : Objects
  pub now : ℕ
  pub got : Option (List (ℕ × ℕ))

abbrev pub ran_by : Objects → Option (List (ℕ × ℕ)) → Ran
ran_by old got = record { ending = status.Done; line = 0; journal = []; kept = []; stored = []; refused = []; course = []; old = old; new = record old { got = got } }

-- the first of some events is no later than a moment
abbrev pub IsFirstBy : ℕ → Events → Type 0
IsFirstBy now [] = ⊤
IsFirstBy now (e ∷ es) = e.1 ≤ now

pub record IsGoneLine (s : Sight) (at : LineAt) : Type 0 where
  pub begun : IsBegunLine s.script (ran_by s.old s.got) at
  pub first : IsFirstBy s.now at.events

-- each was begun behind all text before it, and had all its events
abbrev pub AreGone : Sight → ℕ → Core → List Events → Type 0
AreGone s line core [] = ⊤
AreGone s line core (es ∷ rest) = IsGoneLine s (record { line = line; core = core; events = es; whole = true }) × AreGone s (line + 1) (steps core es) rest

-- ---- what was answered

-- a journal is within its limit, none of its entries is of a later moment, and no entry waits to be appended
pub record HasAnswered (limit : ℕ) (core : Core) (now : ℕ) : Type 0 where
  pub between : core.entries ≡ []
  pub limits : core.limits.ops ≡ limit
  pub fits : length core.journal ≤ limit
  pub dated : All (λ entry. entry.moment ≤ now) core.journal

-- what a sink got since entry is a front of the text of a journal, at each moment of what was answered below it
pub record IsPutSoFar (old : Objects) (now : ℕ) (got : Option (List (ℕ × ℕ))) (journal : List JournalEntry) : Type 0 where
  pub front : PutsFront (bytes_of old.got) (text journal) (bytes_of got)
  pub in_time : (m : ℕ) → IsSinkBehind old → old.moment < m → m < 2 ^ 64 - 1 → PutsFront (bytes_of old.got) (text (below m journal)) (bytes_of (got_by m got))
  pub stamped : IsStamped old.moment now old.got got

-- it is all of that text, also by each moment from now on
pub record IsPrinted (old : Objects) (now : ℕ) (got : Option (List (ℕ × ℕ))) (journal : List JournalEntry) : Type 0 where
  pub so_far : IsPutSoFar old now got journal
  pub put : bytes_of got ≡ followed (bytes_of old.got) (text journal)
  pub whole : (m : ℕ) → IsSinkBehind old → now ≤ m → m < 2 ^ 64 - 1 → bytes_of (got_by m got) ≡ followed (bytes_of old.got) (text journal)

-- ---- all of it

-- the cluster is the one behind these events
pub record IsBehind (b : Begun) (lines : List Events) (at : Point) : Type 0 where
  pub later : b.old.moment ≤ b.found.opened
  pub opening : is_walk next_turn true 0 (first_core b.set b.found) b.opening ≡ true
  pub core : at.cluster.core ≡ core_behind b lines
  pub course : at.cluster.course ≡ first_items b.set.shape b.found b.old.moment ++ items_of (first_core b.set b.found) (all_events (story_of b lines))
  pub rises : MomentsRise b.found.opened (all_events (story_of b lines)) at.now
  pub answered : HasAnswered b.set.limits.ops at.cluster.core at.now

-- so far these lines were read, each with its events, and all that was answered is printed
pub record HasGone (b : Begun) (read : List (List ℕ)) (lines : List Events) (at : Point) : Type 0 where
  pub behind : IsBehind b lines at
  pub going : at.cluster.core.ended ≡ None
  pub line : at.line ≡ length lines
  pub each : length read ≡ length lines
  pub gone : (commands : ℕ → Option Command) → AreRead commands read
      → AreGone (record { script = script_by b commands; old = b.old; now = at.now; got = at.got }) 1 (steps (first_core b.set b.found) b.opening) lines
  pub printed : IsPrinted b.old at.now at.got at.cluster.core.journal

-- what is shown of the disks by opening and these lines, and that the cluster may go on; at moments behind its last call a disk has what it may leave now
pub record HasShown (tells : Type 0) (b : Begun) (lines : List Events) (at : Point) : Type 0 where
  pub shown : RunsOn tells b.set (span_to b at) b.found (all_events (story_of b lines))
  pub may : CanRunOn tells b.set (span_to b at) b.found (all_events (story_of b lines))
  pub since : tells → Since (stands_of at.disks)

-- some lines were; where the script is told, they are its first ones
pub record IsSoFar (tells : Type 0) (b : Begun) (script : Option (List ℕ)) (at : Point) : Type 0 where
  pub read : List (List ℕ)
  pub lines : List Events
  pub gone : HasGone b read lines at
  pub shows : HasShown tells b lines at
  pub said : IfSome script (λ told. AreRead (commands told) read)

-- ---- where it stopped

-- a run stops so between two lines
abbrev pub IsBetween : Result ⊤ Stop → Type 0
IsBetween (Ok x) = ⊤
IsBetween (Err (stop.WrongShape peer found)) = ⊥
IsBetween (Err (stop.ShardLost shard)) = ⊥
IsBetween (Err stop.BadLine) = ⊤
IsBetween (Err stop.ReadFault) = ⊤
IsBetween (Err stop.WriteFault) = ⊥
IsBetween (Err stop.NoMemory) = ⊤
IsBetween (Err stop.OpsFull) = ⊥
IsBetween (Err stop.InputFull) = ⊤

-- between two lines, or within one that was begun
pub data HasStopped (tells : Type 0) (name : List ℕ → Address) (b : Begun) (script : Option (List ℕ)) (part : Stretch) : Type 0 where
  Between : IsSoFar tells b script part.new → IsBetween part.result → HasStopped tells name b script part
  Within : (at : Point) (read : List (List ℕ)) (lines : List Events) (line : List ℕ) (asked : Command) → HasGone b read lines at → HasShown tells b lines at
      → IfSome script (λ told. AreRead (commands told) (read ++ line ∷ [])) → reading line ≡ says asked → is_ok part.result ≡ false
      → RunsCommand tells name asked (record { old = at; new = part.new; result = part.result }) → HasStopped tells name b script part

-- ---- from its opening on

-- how a run begins: what opening found, what it did, and what that came to; where memory ran out on its turns the core is not the one behind them
pub record IsOpened (tells : Type 0) (b : Begun) (did : Result ⊤ ClusterFault) (at : Point) : Type 0 where
  pub later : b.old.moment ≤ b.found.opened
  pub due : is_walk next_turn (not (ran_out did)) 0 (first_core b.set b.found) b.opening ≡ true
  pub rises : MomentsRise b.found.opened b.opening at.now
  pub core : ran_out did ≡ false → at.cluster.core ≡ steps (first_core b.set b.found) b.opening
  pub outcome : ran_out did ≡ false → did ≡ outcome_by at.cluster.core.ended
  pub journal : at.cluster.core.journal ≡ (steps (first_core b.set b.found) b.opening).journal
  pub refused : at.cluster.core.refused ≡ (steps (first_core b.set b.found) b.opening).refused
  pub course : at.cluster.course ≡ first_items b.set.shape b.found b.old.moment ++ items_of (first_core b.set b.found) b.opening
  pub answered : HasAnswered b.set.limits.ops (steps (first_core b.set b.found) b.opening) at.now
  pub shown : RunsOn tells b.set (span_to b at) b.found b.opening
  pub may : is_ok did ≡ true → CanRunOn tells b.set (span_to b at) b.found b.opening
  pub untold : ran_out did ≡ false → StandUntold b.set b.found b.opening b.disks at.disks
  pub since : tells → Since (stands_of at.disks)

-- opening was not told whole, or did not come to its end: nothing was read, and this is left; or the script was run behind it
pub data HasRun (tells : Type 0) (name : List ℕ → Address) (did : Result ⊤ ClusterFault) (b : Begun) (script left : Option (List ℕ)) (part : Stretch) : Type 0 where
  Unopened : IsOpeningPut did part.old.cluster (record { before = part.old.now; now = part.new.now; old = part.old.got; new = part.new.got }) part.result
      → is_ok part.result ≡ false → part.new.cluster ≡ part.old.cluster → part.new.disks ≡ part.old.disks → part.new.line ≡ 0 → left ≡ script → HasRun tells name did b script left part
  Opened : (mid : Point) → HasStopped tells name b script (record { old = mid; new = part.new; result = part.result }) → HasRun tells name did b script left part

-- what is put comes behind what the sink had got at entry
pub record StartsAt (tells : Type 0) (b : Begun) (name : List ℕ → Address) (did : Result ⊤ ClusterFault) (at : Point) : Type 0 where
  pub named : b.set.name ≡ name
  pub opened : IsOpened tells b did at
  pub got : at.got ≡ b.old.got
