-- A line of a cluster in its run.
use Rattle.std.proofs.Common.{◌≡◌, ◌≢◌, ◌⊎◌, inl, inr, ◌∙◌, ap, sym, subst, ℕ, ◌+◌, ◌*◌, ◌<◌, ◌≤◌, Bool, true, false, List, [], ◌∷◌, Option, Some, None, refl, arith, take, append-nil}
use Rattle.std.proofs.lemmas.Bool.{cases_eq}
use Rattle.std.specs.Prelude.{⊤, OnOk, Result, Ok, Err, is_ok}
use Rattle.hs_standing.proofs.AddressedLemmas.{AllAddressed, lines_addressed}
use Rattle.hs_cluster.specs.Cached.{AreCached}
use Rattle.hs_cluster.specs.Calls.{RunsLine, outcome_by, ran_out}
use Rattle.hs_cluster.specs.Counts.{AreAllCounted}
use Rattle.hs_cluster.specs.declared.fault.ClusterFault.{ClusterFault}
use Rattle.hs_cluster.specs.Disks.{DiskSeen}
use Rattle.hs_cluster.specs.Kept.{AreStored, AreTold, Shows}
use Rattle.hs_cluster.specs.PeerLogs.{KeepsPeers}
use Rattle.hs_cluster.specs.Rooms.{HaveRecordRoom}
use Rattle.hs_cluster.specs.Running.{Running}
use Rattle.hs_cluster.specs.Steady.{AreSteady}
use Rattle.hs_core_words.specs.Looking.{shape_of}
use Rattle.hs_core_words.specs.State.{Core}
use Rattle.hs_desk.specs.declared.fault.CoreFault.{CoreFault}
use Rattle.hs_effects.specs.Logged.{MayBeginAll}
use Rattle.hs_events.specs.Commands.{AreOfCommand, AreOfLine, LineAt}
use Rattle.hs_events.specs.Course.{steps}
use Rattle.hs_events.specs.Due.{Events, MomentsRise, is_walk, next_due}
use Rattle.hs_settled.specs.Moving.{IsMoving}
use Rattle.hs_standing.proofs.LinesLineLemmas.{Passes, line_passes}
use Rattle.hs_standing.specs.Script.{AreLines, IsNext, Script, all_events}
use Rattle.hs_model.specs.declared.command.Command.{Command}
use Rattle.hs_limits.specs.declared.shape.Shape.{Shape}
use Rattle.hs_moments.specs.Machine.{runs}
use Rattle.hs_moments.specs.WholeMachine.{whole_machine}
use Rattle.hs_measure.proofs.AlongLemmas.{AlongLaws, Comes, LineLaws, before_events, goes_on, kept, may, moments}
use Rattle.hs_measure.proofs.RestLemmas.{runs_core}
use Rattle.hs_measure.specs.Between.{HasLogs, IsInRun, KeepsOn, Rests}
use Rattle.hs_measure.specs.Promised.{IsAtRest, KeepsPromise}
use Rattle.hs_standing.specs.Run.{MayRun, RunsBefore}
use Rattle.hs_standing.specs.Standing.{AllMayKeep, judging_of}
use Rattle.hs_standing.specs.Start.{Start}
use Rattle.hs_told.specs.InTurn.{AllMayCome, IsInTurn}

-- ---- results

-- where it is Ok
pub on_ok : {T : Type 0} (result : Result ⊤ ClusterFault) → (result ≡ Ok tt → T) → OnOk result T
on_ok (Ok x) h = h refl
on_ok (Err fault) h = tt

pub from_ok : {T : Type 0} (result : Result ⊤ ClusterFault) → result ≡ Ok tt → OnOk result T → T
from_ok (Ok x) e h = h
from_ok (Err fault) e h = absurd (cc e)

-- the core of a cluster that goes on has not ended
outcome_none : (o : Option CoreFault) → Ok tt ≡ outcome_by o → o ≡ None
outcome_none None e = refl
outcome_none (Some fault) e = absurd (cc e)

pub going_of : (result : Result ⊤ ClusterFault) (core : Core) → (ran_out result ≡ false → result ≡ outcome_by core.ended) → result ≡ Ok tt → core.ended ≡ None
going_of result core outcome e = outcome_none core.ended (sym e ∙ outcome (ap (λ (r : Result ⊤ ClusterFault). ran_out r) e))

-- ---- moments

pub rises_from : (low from to : ℕ) (es : Events) → low ≤ from → MomentsRise from es to → MomentsRise low es to
rises_from low from to [] below h = let up = h in omega (arith, below, up)
rises_from low from to (e ∷ es) below h = let first = h.0 in (omega (arith, below, first), h.1)

-- ---- a line

module _ (lines : LineLaws) (tells : Type 0) (told : tells) (start : Start) (line : ℕ) (asked : Command) (since before now : ℕ) (old new : Running) (disks left : List DiskSeen) (result : Result ⊤ ClusterFault)
    (its : IsInRun start old disks since) (after : since ≤ before) (next : IsNext start.commands old.core line) (asks : start.commands line ≡ Some asked) (later : old.core.moment ≤ before)
    (r : RunsLine start.set.name line asked before now old new result (Shows tells (record { before = before; now = now; old = old; new = new; disks = disks; left = left }) result)) where
  -- the script of this line alone
  abbrev script : Script
  script = record { name = start.set.name; commands = start.commands; past = is_ok result }

  abbrev pub at : LineAt
  at = record { line = line; core = old.core; events = r.events; whole = is_ok result }

  pub are : AreOfLine start.set.name at (start.commands line)
  are = subst (λ (o : Option Command). AreOfLine start.set.name at o) (sym asks) r.due

  -- what is so of the core of the whole is so of the cluster's
  pub there : (P : Core → Type 0) → P its.whole.core → P old.core
  there P h = subst P its.same h

  pub here : (P : Core → Type 0) → P old.core → P its.whole.core
  here P h = subst P (sym its.same) h

  turn : IsInTurn start.commands old.core
  turn = there (λ (x : Core). IsInTurn start.commands x) its.along.reading.turn

  pub old_going : old.core.ended ≡ None
  old_going = there (λ (x : Core). x.ended ≡ None) its.along.reading.whole.going

  one_line : AreLines script line old.core (r.events ∷ [])
  one_line = record { going = old_going; events = are }

  rises : MomentsRise old.core.moment (all_events (r.events ∷ [])) now
  rises = subst (λ (es : Events). MomentsRise old.core.moment es now) (sym (append-nil r.events)) (rises_from old.core.moment before now r.events later r.rises)

  pub come : AllMayCome start.commands old.core r.events
  come = subst (λ (es : Events). AllMayCome start.commands old.core es) (append-nil r.events) (lines.come script line old.core (r.events ∷ []) now next rises one_line)

  fresh_all : MayBeginAll start.set.name (all_events (r.events ∷ [])) old.core
  fresh_all = lines.fresh script line old.core (r.events ∷ []) now turn next rises one_line

  addressed : AllAddressed (judging_of start) r.events old.core
  addressed =
      subst (λ (es : Events). AllAddressed (judging_of start) es old.core) (append-nil r.events)
      (lines_addressed script start.set.limits (lines.asks (judging_of start)) line old.core (r.events ∷ []) next fresh_all one_line)

  -- what the logs have, the disks show and the reports tell
  steady : AreSteady its.whole r.events
  steady = lines.steady its.whole r.events its.along.reading.machines its.along.reading.whole

  later_peers : KeepsPeers its.whole old.logs disks since → KeepsPeers its.whole old.logs disks before
  later_peers has = record {
    listed = has.listed;
    keeps = record { called = λ peer. (let last = has.keeps.called peer in omega (arith, last, after)); fine = has.keeps.fine };
    headed = has.headed;
  }

  told_by : (start.set.shape.copies ≡ 1) ⊎ (start.set.shape.copies ≢ 1) → AreTold its.whole r.events
  told_by (inl one) = r.kept.told told its.whole its.same (its.logs.alone one) its.cached
  told_by (inr more) = ((r.kept.copies told).lists its.whole its.same steady (later_peers (its.logs.several more)) its.cached).told

  -- failed calls that are reported are at the counts, those of reads too, where what is to be read stands in the lists
  pub line_costs : AreStored its.whole r.events → AreAllCounted old.core r.events disks left
  line_costs stored = by (cases_eq start.set.shape.copies 1)
    where
      by : (start.set.shape.copies ≡ 1) ⊎ (start.set.shape.copies ≢ 1) → AreAllCounted old.core r.events disks left
      by (inl one) = r.kept.read told its.whole its.same (its.logs.alone one) stored
      by (inr more) = (r.kept.copies told).read its.whole its.same steady (later_peers (its.logs.several more)) stored

  logs_behind : result ≡ Ok tt → HasLogs start.set.shape.copies (runs whole_machine its.whole r.events) new.logs left now
  logs_behind ok = record {
    alone = λ one. from_ok result ok (r.kept.reads_on told its.whole its.same (its.logs.alone one));
    several = λ more. from_ok result ok ((r.kept.copies told).goes_on its.whole its.same steady (later_peers (its.logs.several more)));
  }

  cached_by : (start.set.shape.copies ≡ 1) ⊎ (start.set.shape.copies ≢ 1) → OnOk result (AreCached (runs whole_machine its.whole r.events) new.cache)
  cached_by (inl one) = r.kept.cached told its.whole its.same (its.logs.alone one) its.cached
  cached_by (inr more) = (r.kept.copies told).cached its.whole its.same steady (later_peers (its.logs.several more)) its.cached

  cached_behind : result ≡ Ok tt → AreCached (runs whole_machine its.whole r.events) new.cache
  cached_behind ok = from_ok result ok (cached_by (cases_eq start.set.shape.copies 1))

  pub comes : Comes start its.whole r.events
  comes = record {
    come = here (λ (x : Core). AllMayCome start.commands x r.events) come;
    fresh = here (λ (x : Core). MayBeginAll start.set.name r.events x) (subst (λ (es : Events). MayBeginAll start.set.name es old.core) (append-nil r.events) fresh_all);
    addressed = here (λ (x : Core). AllAddressed (judging_of start) r.events x) addressed;
    rooms = here (λ (x : Core). HaveRecordRoom x r.events) r.does.rooms;
    told = told_by (cases_eq start.set.shape.copies 1);
  }

  -- ---- behind it

  module _ (laws : AlongLaws) where
    behind : steps its.whole.core r.events ≡ steps old.core r.events
    behind = ap (λ (x : Core). steps x r.events) its.same

    new_is : ran_out result ≡ false → new.core ≡ steps its.whole.core r.events
    new_is fine = r.does.core fine ∙ sym behind

    module _ (ok : result ≡ Ok tt) where
      fine : ran_out result ≡ false
      fine = ap (λ (x : Result ⊤ ClusterFault). ran_out x) ok

      going : (steps its.whole.core r.events).ended ≡ None
      going = ap (λ (x : Core). x.ended) (sym (new_is fine)) ∙ going_of result new.core r.does.outcome ok

      in_run : IsInRun start new left now
      in_run = record {
        whole = runs whole_machine its.whole r.events;
        same = runs_core its.whole r.events ∙ sym (new_is fine);
        along = goes_on laws start its.whole its.along r.events comes going;
        logs = logs_behind ok;
        cached = cached_behind ok;
      }

      passes : Passes start.commands at
      passes = line_passes start.commands start.set.name at next are

      next_line : IsNext start.commands new.core (line + 1)
      next_line = subst (λ (x : Core). IsNext start.commands x (line + 1)) (sym (r.does.core fine)) (passes.next (ap (λ (x : Result ⊤ ClusterFault). is_ok x) ok) old_going)

    pub keeps : KeepsOn start line old.core r.events result new left now
    keeps = record {
      moments = λ n. there (λ (x : Core). KeepsPromise start (steps x (take n r.events))) (moments laws start its.whole its.along r.events comes n);
      left = λ fine. subst (λ (x : Core). KeepsPromise start x) (sym (new_is fine)) (kept laws start its.whole its.along r.events comes);
      goes_on = on_ok result in_run;
      next = on_ok result next_line;
    }

    -- ---- a settle

    -- what hs_measure says of the events of a settle
    module _ (settles : (start : Start) (core : Core) (line : ℕ) (events : Events) → RunsBefore start core events → IsMoving start.set.name core → 2 * (shape_of core).shards < core.pool.limit
        → AllMayKeep start (MayRun start) core events → (steps core events).ended ≡ None → is_walk next_due true line core events ≡ true → IsAtRest start (steps core events)) where
      roomy : 2 * start.set.shape.shards < start.set.limits.pool → 2 * (shape_of its.whole.core).shards < its.whole.core.pool.limit
      roomy room = let limit = its.along.pool in let shards = ap (λ (z : Shape). z.shards) its.along.reading.shape in omega (arith, room, limit, shards)

      pub rests : Rests start asked result new.core
      rests is room = on_ok result (λ ok.
          subst (λ (x : Core). IsAtRest start x) (sym (new_is (fine ok)))
          (settles start its.whole.core line r.events (before_events start its.whole its.along.reading its.along.few r.events) its.along.moving (roomy room) (may laws start its.whole its.along r.events comes) (going ok) (walks ok)))
        where
          walks : result ≡ Ok tt → is_walk next_due true line its.whole.core r.events ≡ true
          walks ok =
              here (λ (x : Core). is_walk next_due true line x r.events ≡ true)
              (subst (λ (b : Bool). is_walk next_due b line old.core r.events ≡ true) (ap (λ (x : Result ⊤ ClusterFault). is_ok x) ok)
              (subst (λ (x : Command). AreOfCommand start.set.name at x) is r.due))
