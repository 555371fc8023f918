-- What a call of a cluster keeps, and how it ends.
use Rattle.std.proofs.Common.{◌≡◌, ◌⊎◌, inl, inr, sym, subst, ℕ, zero, suc, ◌+◌, ◌-◌, ◌^◌, ◌<◌, ◌≤◌, min, Bool, true, false, Option, Some, None, refl, arith, take}
use Rattle.std.specs.Prelude.{⊤, Result, Ok, Err}
use Rattle.hs_clauses.specs.Numbered.{AreNumbered}
use Rattle.hs_cluster.specs.Calls.{outcome_by, ran_out}
use Rattle.hs_cluster.specs.declared.fault.ClusterFault.{ClusterFault}
use Rattle.hs_cluster.specs.declared.fault.ClusterFault.TheVariants as cluster
use Rattle.hs_cluster.specs.Disks.{seen_at}
use Rattle.hs_cluster.specs.Kept.{AreStored}
use Rattle.hs_copies.specs.Machine.{Copies}
use Rattle.hs_core_words.specs.declared.event.Event.{Event}
use Rattle.hs_core_words.specs.State.{Core}
use Rattle.hs_core_words.specs.Step.{step}
use Rattle.hs_desk.specs.declared.fault.CoreFault.{CoreFault}
use Rattle.hs_desk.specs.declared.fault.CoreFault.TheVariants as fault
use Rattle.hs_entry.specs.declared.entry.Entry.{Entry}
use Rattle.hs_events.specs.Course.{steps}
use Rattle.hs_events.specs.Due.{Events}
use Rattle.hs_events.specs.Found.{Found, first_core, opened_list}
use Rattle.hs_events.specs.Sane.{IsFromOne}
use Rattle.hs_events.specs.Whole.{Whole}
use Rattle.hs_fold.specs.Shards.Setting.{Setting}
use Rattle.hs_limits.specs.declared.shape.Shape.{Shape}
use Rattle.hs_measure.proofs.AlongLemmas.{TellLaws}
use Rattle.hs_ports.specs.Fault.{HasRisen}
use Rattle.hs_ports.specs.Objects.{RoseBy}
use Rattle.hs_promise.specs.Completes.{entries_most}
use Rattle.hs_room.proofs.LostLemmas.{FellIn, all_own, lost_by}
use Rattle.hs_room.proofs.NotedLemmas.{mute_all}
use Rattle.hs_room.proofs.RiseLemmas.{most_rises}
use Rattle.hs_room.proofs.SoFarLemmas.{RunHasRoom, alone_none, front_alone, front_room, more, mute_noting, noting, so_has_room}
use Rattle.hs_room.specs.Room.{Call, EndsWell, HasRoom, IsSoFar, LossBy, LossCause, starts_in}
use Rattle.hs_room.specs.Room.LossBy.{ByCount}
use Rattle.hs_settled.proofs.AskLemmas.{AllIts, Stays, its_ask, its_stay}
use Rattle.hs_settled.proofs.CausesRunLemmas.{mute}
use Rattle.hs_settled.specs.Noted.{AllAreOwn}
use Rattle.hs_standing.specs.Run.{MayRun}
use Rattle.hs_standing.specs.Standing.{AllMayKeep}
use Rattle.hs_standing.specs.Start.{Start}
use Rattle.hs_told.specs.InTurn.{AllMayCome}
use Rattle.hs_whole_copies.specs.Whole.{IsWholeInStep}

-- ---- the laws below, in one place

-- the law of a core; what hs_clauses says of reports, and of the blocks that are read
pub record CallLaws : Type 0 where
  pub room : RunHasRoom
  pub tell : TellLaws
  pub numbered : (set : Setting) (found : Found) → ((shard : ℕ) → shard < set.shape.shards → IsFromOne (opened_list set found shard)) → AreNumbered (first_core set found)
  pub stays : (core : Core) (e : Event) (moment : ℕ) → AreNumbered core → AreNumbered (step e moment core)
  pub stored : (c : Whole) (machines : ℕ → Copies Entry) (events : Events) → IsWholeInStep c machines → AreNumbered c.core → AreStored c events

-- ---- counts of failed calls

rose_once : (before now most more : ℕ) → min (before + suc more) most ≤ now → min (before + 1) most ≤ now
rose_once before now most more rose = omega (arith, rose)

-- a count that rose by some failures shows one, or there were none
rose_or : (before now n : ℕ) → RoseBy n before now → (n ≡ 0) ⊎ HasRisen before now
rose_or before now zero rose = inl refl
rose_or before now (suc n) rose = inr (rose_once before now (2 ^ 64 - 1) n rose)

-- a failure that is told is at the count
pub by_report : (call : Call) (peer n : ℕ) → RoseBy n (seen_at call.old peer).faults (seen_at call.new peer).faults → 1 ≤ n → LossBy call peer
by_report call peer n rose some = elim (rose_or (seen_at call.old peer).faults (seen_at call.new peer).faults n rose) [
  | inl none ↦ absurd (omega (arith, none, some))
  | inr risen ↦ ByCount risen
]

-- ---- how a call ends

module _ (shape : Shape) (call : Call) where
  fault_is : (result : Result ⊤ ClusterFault) → ran_out result ≡ true → EndsWell shape call result
  fault_is (Ok x) e = tt
  fault_is (Err (cluster.WrongShape peer found)) e = absurd (cc e)
  fault_is (Err (cluster.ShardLost shard)) e = absurd (cc e)
  fault_is (Err cluster.OpsFull) e = absurd (cc e)
  fault_is (Err cluster.NoMemory) e = tt

  outcome_ends : (o : Option CoreFault) → (o ≡ Some fault.OpsFull → ⊥) → ((g : ℕ) → o ≡ Some (fault.ShardLost g) → LossCause shape call g) → EndsWell shape call (outcome_by o)
  outcome_ends None full lost = tt
  outcome_ends (Some fault.OpsFull) full lost = absurd (full refl)
  outcome_ends (Some (fault.ShardLost g)) full lost = lost g refl
  outcome_ends (Some fault.NoMemory) full lost = tt

  pub call_ends : (result : Result ⊤ ClusterFault) (core : Core) → (ran_out result ≡ false → result ≡ outcome_by core.ended)
      → (ran_out result ≡ false → core.ended ≡ Some fault.OpsFull → ⊥) → (ran_out result ≡ false → (g : ℕ) → core.ended ≡ Some (fault.ShardLost g) → LossCause shape call g) → EndsWell shape call result
  call_ends result core outcome full lost = go (ran_out result) refl
    where
      go : (b : Bool) → ran_out result ≡ b → EndsWell shape call result
      go true out = fault_is result out
      go false fine = subst (λ (r : Result ⊤ ClusterFault). EndsWell shape call r) (sym (outcome fine)) (outcome_ends core.ended (full fine) (lost fine))

-- ---- the events of a call behind a core of the run

module _ (laws : CallLaws) (start : Start) (line : ℕ) (starts : ℕ) (core : Core) (es : Events) (so : IsSoFar start starts core) (going : core.ended ≡ None) (low : core.progress.event_line ≤ line)
    (may : AllMayKeep start (MayRun start) core es) (come : AllMayCome start.commands core es) (its : AllIts start.commands line core es) (mute_its : AllIts (mute start.commands) line core es) where
  pub own : AllAreOwn start.commands core es
  own = all_own start.commands start.set.shape start.set.limits core es (noting start starts core so) come (its_ask start.commands line core es its)

  pub call_moments : (n : ℕ) → HasRoom start (starts + starts_in core (take n es)) (steps core (take n es))
  call_moments n = front_room laws.room start starts core so es may own n

  pub call_alone : start.set.shape.copies ≡ 1 → (n : ℕ) → starts + starts_in core (take n es) ≡ 0
  call_alone one n = front_alone laws.room start starts core so es may own one n

  pub call_so_far : IsSoFar start (starts + starts_in core es) (steps core es)
  call_so_far = more start starts core so es may own

  -- the journal is not full
  pub not_full : (most : ℕ) → (start.set.shape.copies ≡ 1) ⊎ (starts + starts_in core es ≤ most) → entries_most start.commands start.set.shape line + most ≤ start.set.limits.ops → (steps core es).ended ≡ Some fault.OpsFull → ⊥
  not_full most enough fits full =
      let stay : Stays start.commands line core (steps core es) = its_stay start.commands line core es its low in
      let more_most : entries_most start.commands start.set.shape (steps core es).progress.event_line ≤ entries_most start.commands start.set.shape line =
      most_rises start.commands start.set.shape (steps core es).progress.event_line line stay.within in
      let few : starts + starts_in core es ≤ most = elim enough [
        | inl one ↦ (let none = alone_none start (starts + starts_in core es) (steps core es) call_so_far one in omega (arith, none))
        | inr less ↦ less
      ] in
      (so_has_room start (starts + starts_in core es) (steps core es) call_so_far laws.room).room (omega (arith, more_most, few, fits)) full

  -- a shard is lost by the line, or where a failure of a disk is told
  pub lost_line : (g : ℕ) → (steps core es).ended ≡ Some (fault.ShardLost g) → FellIn (mute start.commands) start.set.shape start.set.limits refl line g core es
  lost_line g over =
      lost_by (mute start.commands) start.set.shape start.set.limits refl line g core es (mute_noting start starts core so) mute_its (mute_all start.commands es core come own) going over
