-- An asker over sound disks that tell, and open alike, shows what is lawful.
use Rattle.std.proofs.Common.{◌≡◌, subst, refl, ℕ, ◌*◌, ◌<◌, List, [], ◌∷◌, map, Option, Some, None}
use Rattle.std.specs.List.{AllByRecursion}
use Rattle.hs_asker.proofs.ToldLemmas.{ran_so}
use Rattle.hs_asker.specs.Going.{AtEntry, Inside, IsAsker}
use Rattle.hs_asker.specs.Shows.{IsTold, began_by, entry_lists, shown_in}
use Rattle.hs_asker.specs.Silent.{asking_script, silent, status_by}
use Rattle.hs_asking.specs.Lawful.{AreAnswersOf}
use Rattle.hs_asking.specs.Shown.{store_now}
use Rattle.hs_clauses.specs.Shown.{HasItsDisks, IsToldRun}
use Rattle.hs_cluster.specs.Disks.{DiskSeen, stands_of}
use Rattle.hs_desk.specs.declared.fault.CoreFault.{CoreFault}
use Rattle.hs_events.specs.Taken.{or_blank, taken_lists}
use Rattle.hs_founded.specs.Spelled.{AreSpelled, HoldBytes}
use Rattle.hs_model.specs.Store.{held_at as store_held}
use Rattle.hs_promise.specs.Run.{Script}
use Rattle.hs_run.specs.Ended.{ran_at}
use Rattle.hs_run.specs.Machine.{IsOfCluster}
use Rattle.hs_side.specs.Current.{list_in}
use Rattle.hs_standing.specs.Held.{GivesAddresses}
use Rattle.hs_tokens.specs.Seats.{held_at, seat_of}
use Rattle.hs_kept.proofs.HeldLemmas.{SettlesSo, answered_there, held_there}
use Rattle.hs_kept.proofs.LawLemmas.{Laws}
use Rattle.hs_kept.proofs.RunLemmas.{AnswersFrom, answers_from, its_disks, told_run}
use Rattle.hs_kept.proofs.SurvivesLemmas.{all_chosen}
use Rattle.hs_kept.specs.Answered.{SettlesAsks}
use Rattle.hs_kept.specs.Entry.{IsSoundEntry, OpensAlike}

-- the lists of disks that hold bytes
all_spelled : Laws → (disks : List DiskSeen) → HoldBytes (stands_of disks) → AllByRecursion AreSpelled (or_blank (map (λ disk. list_in disk.stands.seen) disks))
all_spelled laws [] bytes = tt
all_spelled laws (disk ∷ disks) bytes = (laws.spelled disk.stands.seen bytes.0, all_spelled laws disks bytes.1)

module _ (laws : Laws) (tells : Type 0) (e : AtEntry) (told : tells) (alike : OpensAlike e.set.shape e.moment (stands_of e.disks)) (names : GivesAddresses e.set.name) (entry : IsSoundEntry e) where
  -- of any run of an asker
  module _ (s : Inside) (h : IsAsker tells e.set.name e s) where
    abbrev S : Script
    S = asking_script e.set s.said

    cluster : IsOfCluster tells (asking_script e.set s.said) (ran_at (status_by s.ended) s.line (Some s.cluster) (silent e.moment e.disks) (silent s.now s.disks))
    cluster = ran_so tells e.set.name e s h

    run : IsToldRun (asking_script e.set s.said) (ran_at (status_by s.ended) s.line (Some s.cluster) (silent e.moment e.disks) (silent s.now s.disks))
    run = told_run tells S (ran_at (status_by s.ended) s.line (Some s.cluster) (silent e.moment e.disks) (silent s.now s.disks)) told alike names cluster

    answers : AnswersFrom (asking_script e.set s.said) (began_by e).store s.cluster.core.journal
    answers = answers_from laws S (ran_at (status_by s.ended) s.line (Some s.cluster) (silent e.moment e.disks) (silent s.now s.disks)) run alike e.disks refl entry.sound

    spelled : AllByRecursion AreSpelled (taken_lists e.set.shape (entry_lists e))
    spelled = all_chosen AreSpelled tt e.set.shape.shards e.set.shape.copies (or_blank (entry_lists e)) (all_spelled laws e.disks entry.bytes)

    lawful : AreAnswersOf (began_by e) (shown_in e s)
    lawful = record {
      valid = entry.sound.sound.valid;
      distinct = laws.distinct e.set (taken_lists e.set.shape (entry_lists e));
      blocks = λ a stored at. (laws.named e.set (taken_lists e.set.shape (entry_lists e)) h.shape entry.sound spelled a stored at).bounds;
      named = λ a stored at. (laws.named e.set (taken_lists e.set.shape (entry_lists e)) h.shape entry.sound spelled a stored at).named;
      acyclic = laws.acyclic e.set (taken_lists e.set.shape (entry_lists e)) h.shape entry.sound;
      legal = answers.legal;
      answered = answers.replied;
      led = answers.led;
    }

    its_run : IsOfCluster tells (asking_script e.set s.said) (ran_at (status_by s.ended) s.line (Some s.cluster) (silent e.moment e.disks) (silent s.now s.disks)) → s.ended ≡ None
        → HasItsDisks (asking_script e.set s.said) (ran_at (status_by None) s.line (Some s.cluster) (silent e.moment e.disks) (silent s.now s.disks))
    its_run ran none =
        its_disks tells S (ran_at (status_by None) s.line (Some s.cluster) (silent e.moment e.disks) (silent s.now s.disks)) told alike names
        (subst (λ (o : Option CoreFault). IsOfCluster tells (asking_script e.set s.said) (ran_at (status_by o) s.line (Some s.cluster) (silent e.moment e.disks) (silent s.now s.disks))) none ran)

    held : s.ended ≡ None → (session : List ℕ) (handle : ℕ) → held_at (seat_of session s.cluster.core.sessions) handle ≡ store_held (store_now (began_by e) (shown_in e s)) session handle
    held none = held_there laws tells e s h told alike entry none (its_run cluster none)

    -- behind a settle all that was asked for before is answered
    pub settled : SettlesSo → 2 * e.set.shape.shards < e.set.limits.pool → SettlesAsks s
    settled settles room none = answered_there laws tells e s h told alike entry none (its_run cluster none) settles room

  pub told_by : IsTold tells e
  told_by s h = record { lawful = lawful s h; held = held s h }
