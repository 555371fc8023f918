-- A line of a cluster whose core is that of a run so far.
use Rattle.std.proofs.Common.{◌≡◌, ◌⊎◌, inl, inr, ◌∙◌, ap, sym, subst, ℕ, ◌+◌, ◌<◌, ◌≤◌, true, List, Option, Some, None, refl, arith}
use Rattle.std.specs.Prelude.{⊤, Result}
use Rattle.hs_clauses.specs.Numbered.{AreNumbered}
use Rattle.hs_cluster.specs.Calls.{RunsLine}
use Rattle.hs_cluster.specs.Counts.{AreAllCounted}
use Rattle.hs_cluster.specs.declared.fault.ClusterFault.{ClusterFault}
use Rattle.hs_cluster.specs.Disks.{DiskSeen}
use Rattle.hs_cluster.specs.Kept.{AreStored, Shows}
use Rattle.hs_cluster.specs.Running.{Running}
use Rattle.hs_core_words.specs.State.{Core}
use Rattle.hs_desk.specs.declared.fault.CoreFault.TheVariants as fault
use Rattle.hs_events.specs.Commands.{AreOfLine, LineAt}
use Rattle.hs_events.specs.Course.{steps}
use Rattle.hs_events.specs.Reports.{failures}
use Rattle.hs_limits.specs.Shape.{peer_of}
use Rattle.hs_measure.proofs.AlongLemmas.{Comes, LineLaws, may_come}
use Rattle.hs_measure.proofs.LineLemmas.{are as line_are, at as line_at, come as line_come, comes as line_comes, line_costs}
use Rattle.hs_measure.specs.Between.{IsInRun}
use Rattle.hs_model.specs.declared.command.Command.{Command}
use Rattle.hs_promise.specs.Completes.{entries_most}
use Rattle.hs_room.proofs.CallLemmas.{CallLaws, by_report, call_alone, call_ends, call_moments, call_so_far, lost_line, not_full}
use Rattle.hs_room.proofs.LostLemmas.{FellIn}
use Rattle.hs_room.proofs.SoFarLemmas.{numbered}
use Rattle.hs_room.specs.Room.{Call, EndsWell, IsSoFar, KeepsRoom, LossCause, starts_in}
use Rattle.hs_room.specs.Room.LossBy.{ByLine}
use Rattle.hs_settled.proofs.AskLemmas.{AllIts, line_its}
use Rattle.hs_settled.proofs.CausesRunLemmas.{mute, mute_is}
use Rattle.hs_standing.specs.Run.{MayRun}
use Rattle.hs_standing.specs.Script.{IsNext}
use Rattle.hs_standing.specs.Standing.{AllMayKeep}
use Rattle.hs_standing.specs.Start.{Start}
use Rattle.hs_told.specs.InTurn.{AllMayCome}

module _ (laws : CallLaws) (lines : LineLaws) (tells : Type 0) (told : tells) (start : Start) (line : ℕ) (asked : Command) (starts since before now : ℕ) (old new : Running) (disks left : List DiskSeen) (result : Result ⊤ ClusterFault)
    (its : IsInRun start old disks since) (after : since ≤ before) (so : IsSoFar start starts old.core) (next : IsNext start.commands old.core line) (asks : start.commands line ≡ Some asked) (later : old.core.moment ≤ before)
    (r : RunsLine start.set.name line asked before now old new result (Shows tells (record { before = before; now = now; old = old; new = new; disks = disks; left = left }) result)) where
  abbrev at : LineAt
  at = line_at lines tells told start line asked since before now old new disks left result its after next asks later r

  are : AreOfLine start.set.name at (start.commands line)
  are = line_are lines tells told start line asked since before now old new disks left result its after next asks later r

  old_going : old.core.ended ≡ None
  old_going = subst (λ (x : Core). x.ended ≡ None) its.same its.along.reading.whole.going

  -- ---- its events come

  come : AllMayCome start.commands old.core r.events
  come = line_come lines tells told start line asked since before now old new disks left result its after next asks later r

  comes : Comes start its.whole r.events
  comes = line_comes lines tells told start line asked since before now old new disks left result its after next asks later r

  may : AllMayKeep start (MayRun start) old.core r.events
  may = subst (λ (x : Core). AllMayKeep start (MayRun start) x r.events) its.same (may_come laws.tell start its.whole its.along.reading its.along.few r.events comes)

  -- ---- and are its own

  some_line : 1 ≤ line
  some_line = let above : old.core.progress.event_line < line = next.above in omega (arith, above)

  mute_asks : mute start.commands line ≡ Some asked
  mute_asks = mute_is start.commands line some_line ∙ asks

  low : old.core.progress.event_line ≤ line
  low = let above : old.core.progress.event_line < line = next.above in omega (arith, above)

  its_all : AllIts start.commands line old.core r.events
  its_all = line_its start.commands start.set.name at old_going are

  mute_its : AllIts (mute start.commands) line old.core r.events
  mute_its = line_its (mute start.commands) start.set.name at old_going (subst (λ (o : Option Command). AreOfLine start.set.name at o) (sym mute_asks) r.due)

  pub line_room : KeepsRoom start starts old.core r.events result new
  line_room = record {
    moments = call_moments laws start line starts old.core r.events so old_going low may come its_all mute_its;
    so_far = λ fine. subst (λ (x : Core). IsSoFar start (starts + starts_in old.core r.events) x) (sym (r.does.core fine)) (call_so_far laws start line starts old.core r.events so old_going low may come its_all mute_its);
    alone = call_alone laws start line starts old.core r.events so old_going low may come its_all mute_its;
  }

  -- ---- how it ends

  abbrev call : Call
  call = record { asked = Some asked; old = disks; new = left }

  stored : AreStored its.whole r.events
  stored = laws.stored its.whole its.along.reading.machines r.events its.along.reading.whole (subst (λ (x : Core). AreNumbered x) (sym its.same) (numbered start starts old.core so laws.numbered laws.stays))

  counted : AreAllCounted old.core r.events disks left
  counted = line_costs lines tells told start line asked since before now old new disks left result its after next asks later r stored

  lost : (g : ℕ) → (steps old.core r.events).ended ≡ Some (fault.ShardLost g) → LossCause start.set.shape (record { asked = Some asked; old = disks; new = left }) g
  lost g over = record {
    copy = fell.copy;
    less = fell.less;
    why = elim fell.why [
      | inl asks_so ↦ ByLine (sym mute_asks ∙ asks_so)
      | inr fails ↦ by_report call (peer_of start.set.shape g fell.copy) (failures true (peer_of start.set.shape g fell.copy) old.core r.events) (counted (peer_of start.set.shape g fell.copy)) fails
    ];
  }
    where
      fell : FellIn (mute start.commands) start.set.shape start.set.limits refl line g old.core r.events
      fell = lost_line laws start line starts old.core r.events so old_going low may come its_all mute_its g over

  pub line_ends : (most : ℕ) → (start.set.shape.copies ≡ 1) ⊎ (starts + starts_in old.core r.events ≤ most) → entries_most start.commands start.set.shape line + most ≤ start.set.limits.ops
      → EndsWell start.set.shape (record { asked = Some asked; old = disks; new = left }) result
  line_ends most enough fits = call_ends start.set.shape call result new.core r.does.outcome
      (λ fine full. not_full laws start line starts old.core r.events so old_going low may come its_all mute_its most enough fits (ap (λ (x : Core). x.ended) (sym (r.does.core fine)) ∙ full))
      (λ fine g over. lost g (ap (λ (x : Core). x.ended) (sym (r.does.core fine)) ∙ over))
