-- A cluster that opens over sound lists: its core is that of a run so far.
use Rattle.std.proofs.Common.{◌≡◌, ◌⊎◌, ◌∙◌, inl, inr, ap, sym, subst, ℕ, ◌+◌, ◌≤◌, not, true, Option, Some, None, refl, arith}
use Rattle.std.specs.Prelude.{⊤, Result}
use Rattle.hs_clauses.specs.Run.{ReadsInStep}
use Rattle.hs_cluster.specs.Calls.{ran_out}
use Rattle.hs_cluster.specs.Counts.{AreAllCounted}
use Rattle.hs_cluster.specs.declared.fault.ClusterFault.{ClusterFault}
use Rattle.hs_cluster.specs.Kept.{AreStored}
use Rattle.hs_cluster.specs.Opens.{Opens}
use Rattle.hs_cluster.specs.Running.{Running}
use Rattle.hs_core_words.specs.State.{Core}
use Rattle.hs_desk.specs.declared.fault.CoreFault.TheVariants as fault
use Rattle.hs_events.specs.Course.{steps}
use Rattle.hs_events.specs.Found.{Found, first_core}
use Rattle.hs_events.specs.Reports.{failures}
use Rattle.hs_events.specs.Whole.{open_whole}
use Rattle.hs_fold.specs.Shards.Setting.{Setting}
use Rattle.hs_journal.specs.Events.{client_op}
use Rattle.hs_limits.specs.Shape.{IsShape, peer_of}
use Rattle.hs_measure.proofs.AlongLemmas.{Comes, may_come}
use Rattle.hs_measure.proofs.OpenedLemmas.{OpeningLaws, begins as run_begins, come as opening_come, comes as opening_comes, no_line, opening_costs, reading as opens_reading}
use Rattle.hs_measure.specs.Between.{start_of}
use Rattle.hs_model.specs.declared.command.Command.{Command}
use Rattle.hs_model.specs.declared.command.Command.TheVariants as command
use Rattle.hs_ports.specs.Objects.{RoseBy}
use Rattle.hs_promise.specs.Completes.{entries_most}
use Rattle.hs_room.proofs.CallLemmas.{CallLaws, by_report, call_alone, call_ends, call_moments, call_so_far, lost_line, not_full}
use Rattle.hs_room.proofs.LostLemmas.{FellIn}
use Rattle.hs_room.proofs.SoFarLemmas.{first_so_far}
use Rattle.hs_room.proofs.StartedLemmas.{starts_or}
use Rattle.hs_room.specs.Room.{Call, EndsWell, IsSoFar, KeepsRoom, LossCause, starts_in}
use Rattle.hs_settled.proofs.AskLemmas.{AllIts, opening_its}
use Rattle.hs_settled.proofs.CausesRunLemmas.{mute}
use Rattle.hs_sound.specs.Stay.{AreSoundAlong}
use Rattle.hs_standing.specs.Held.{GivesAddresses}
use Rattle.hs_standing.specs.Lists.{whole_from}
use Rattle.hs_standing.specs.Opening.{opened_lists}
use Rattle.hs_standing.proofs.FirstRoomLemmas.{first_room}
use Rattle.hs_standing.specs.Run.{MayRun, RunBegins}
use Rattle.hs_standing.specs.Standing.{AllMayKeep}
use Rattle.hs_standing.specs.Start.{Start}
use Rattle.hs_taking.specs.Disks.{seen_at}
use Rattle.hs_taking.specs.Shares.{Span}
use Rattle.hs_told.specs.InTurn.{AllMayCome}

module _ (opening : OpeningLaws) (laws : CallLaws) (tells : Type 0) (told : tells) (set : Setting) (commands : ℕ → Option Command) (span : Span) (cluster : Running) (done : Result ⊤ ClusterFault)
    (shape : IsShape set.shape) (calm : (set.shape.copies ≡ 1 → ⊥) → (peer : ℕ) → (seen_at span.old peer).stands.last ≤ span.before) (names : GivesAddresses set.name) (nobody : client_op (commands 0) ≡ None) (o : Opens tells set span cluster done) (first_going : (first_core set o.found).ended ≡ None)
    (sound : AreSoundAlong set (whole_from (opened_lists set o.found) 0 set.shape.shards)) where
  abbrev found : Found
  found = o.found

  abbrev first : Core
  first = first_core set o.found

  abbrev start : Start
  start = start_of set commands o.found

  begins : RunBegins (start_of set commands o.found) o.found
  begins = run_begins opening tells told set commands span cluster done shape calm names nobody o first_going sound

  reading : ReadsInStep (start_of set commands o.found) (open_whole set o.found)
  reading = opens_reading opening tells told set commands span cluster done shape calm names nobody o first_going sound

  -- ---- the events of opening

  come : AllMayCome commands (first_core set o.found) o.events
  come = opening_come opening tells told set commands span cluster done shape calm names nobody o first_going sound

  comes : Comes (start_of set commands o.found) (open_whole set o.found) o.events
  comes = opening_comes opening tells told set commands span cluster done shape calm names nobody o first_going sound

  may : AllMayKeep (start_of set commands o.found) (MayRun (start_of set commands o.found)) (first_core set o.found) o.events
  may = may_come laws.tell start (open_whole set found) reading (first_room set found opening.memory sound) o.events comes

  so : IsSoFar (start_of set commands o.found) 0 (first_core set o.found)
  so = first_so_far start found begins

  low : (first_core set o.found).progress.event_line ≤ 0
  low = let e = no_line opening tells told set commands span cluster done shape calm names nobody o first_going sound in omega (arith, e)

  its_all : AllIts commands 0 (first_core set o.found) o.events
  its_all = opening_its commands (not (ran_out done)) first o.events o.due

  mute_its : AllIts (mute commands) 0 (first_core set o.found) o.events
  mute_its = opening_its (mute commands) (not (ran_out done)) first o.events o.due

  -- nobody is started
  none_starts : starts_in (first_core set o.found) o.events ≡ 0
  none_starts = go (starts_or (mute commands) refl 0 (first_core set o.found) o.events mute_its)
    where
      go : (starts_in (first_core set o.found) o.events ≡ 0) ⊎ ((p : ℕ) × (mute commands 0 ≡ Some (command.Start p))) → starts_in (first_core set o.found) o.events ≡ 0
      go (inl none) = none
      go (inr asked) = let both : None ≡ Some (command.Start asked.0) = asked.1 in absurd (cc both)

  pub opened_room : KeepsRoom (start_of set commands o.found) 0 (first_core set o.found) o.events done cluster
  opened_room = record {
    moments = call_moments laws start 0 0 first o.events so first_going low may come its_all mute_its;
    so_far = λ fine. subst (λ (x : Core). IsSoFar start (0 + starts_in first o.events) x) (sym (o.core fine)) (call_so_far laws start 0 0 first o.events so first_going low may come its_all mute_its);
    alone = call_alone laws start 0 0 first o.events so first_going low may come its_all mute_its;
  }

  -- ---- how it ends

  abbrev call : Call
  call = record { asked = None; old = span.old; new = span.new }

  stores : AreStored (open_whole set o.found) o.events
  stores = laws.stored (open_whole set found) reading.machines o.events reading.whole (laws.numbered set found begins.soundly.lists)

  counted : AreAllCounted (first_core set o.found) o.events o.disks span.new
  counted = opening_costs opening tells told set commands span cluster done shape calm names nobody o first_going sound stores

  rose_below : (n low high now : ℕ) → low ≤ high → RoseBy n high now → RoseBy n low now
  rose_below n low high now up rose = omega (arith, up, rose)

  lost : (g : ℕ) → (steps (first_core set o.found) o.events).ended ≡ Some (fault.ShardLost g) → LossCause set.shape (record { asked = None; old = span.old; new = span.new }) g
  lost g over = record {
    copy = fell.copy;
    less = fell.less;
    why = elim fell.why [
      | inl asks ↦ absurd (no_line_asks asks)
      | inr fails ↦
          by_report call (peer_of set.shape g fell.copy) (failures true (peer_of set.shape g fell.copy) first o.events)
          (rose_below (failures true (peer_of set.shape g fell.copy) first o.events) (seen_at span.old (peer_of set.shape g fell.copy)).faults (seen_at o.disks (peer_of set.shape g fell.copy)).faults (seen_at span.new (peer_of set.shape g fell.copy)).faults (o.falls (peer_of set.shape g fell.copy)) (counted (peer_of set.shape g fell.copy)))
          fails
    ];
  }
    where
      fell : FellIn (mute commands) set.shape set.limits refl 0 g (first_core set o.found) o.events
      fell = lost_line laws start 0 0 first o.events so first_going low may come its_all mute_its g over

      no_line_asks : mute commands 0 ≡ Some (command.Fail (peer_of set.shape g fell.copy)) → ⊥
      no_line_asks asks = let both : None ≡ Some (command.Fail (peer_of set.shape g fell.copy)) = asks in cc both

  pub opened_ends : entries_most commands set.shape 0 ≤ set.limits.ops
      → EndsWell set.shape (record { asked = None; old = span.old; new = span.new }) done
  opened_ends fits = call_ends set.shape call done cluster.core o.outcome
      (λ fine full. not_full laws start 0 0 first o.events so first_going low may come its_all mute_its 0 (inr (let none : starts_in (first_core set o.found) o.events ≡ 0 = none_starts in omega (arith, none))) (omega (arith, fits)) (ap (λ (x : Core). x.ended) (sym (o.core fine)) ∙ full))
      (λ fine g over. lost g (ap (λ (x : Core). x.ended) (sym (o.core fine)) ∙ over))
