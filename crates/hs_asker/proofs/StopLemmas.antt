-- Where an asker ended, its run is the machine's.
use Rattle.std.proofs.Common.{◌≡◌, ◌∙◌, ap, sym, subst, ℕ, ◌+◌, ◌*◌, ◌≤◌, false, List, [], ◌∷◌, ◌++◌, Option, Some, None, Err, refl, arith, length}
use Rattle.std.specs.Prelude.{if◌then◌else◌, ⊤}
use Rattle.hs_cluster.specs.Calls.{outcome_by, ran_out}
use Rattle.hs_cluster.specs.Running.{Running}
use Rattle.hs_cluster.specs.declared.fault.ClusterFault.{ClusterFault}
use Rattle.hs_core_words.specs.State.{Core}
use Rattle.hs_desk.specs.declared.fault.CoreFault.{CoreFault}
use Rattle.hs_events.specs.Course.{steps}
use Rattle.hs_events.specs.Due.{Events, next_turn}
use Rattle.hs_events.specs.Found.{Found, first_core}
use Rattle.hs_journal.specs.declared.entry.JournalEntry.{JournalEntry}
use Rattle.hs_limits.specs.Shape.{IsShape}
use Rattle.hs_model.specs.declared.command.Command.{Command}
use Rattle.hs_promise.specs.Ending.{ending_of}
use Rattle.hs_promise.specs.Lines.{IsBegunLine}
use Rattle.hs_promise.specs.Machine.{Went, opening_is_whole}
use Rattle.hs_promise.specs.Run.{Ran}
use Rattle.hs_promise.specs.Story.{all_events}
use Rattle.hs_run.specs.Between.{Point}
use Rattle.hs_run.specs.Ended.{ran_at}
use Rattle.hs_run.specs.Going.{Begun, HasShown, core_behind, script_by, story_of}
use Rattle.hs_run.specs.Machine.{IsOfCluster}
use Rattle.hs_run.proofs.CutLemmas.{walk_cut}
use Rattle.hs_run.proofs.GoneLemmas.{lines_as, lines_with}
use Rattle.hs_run.proofs.RiseLemmas.{rise_le}
use Rattle.hs_asker.specs.Asked.{core_of}
use Rattle.hs_asker.specs.Going.{AtEntry, HasDone, RunsAlone, begun_by}
use Rattle.hs_asker.specs.Lines.{AreAsked}
use Rattle.hs_asker.specs.Silent.{silent, status_by}
use Rattle.hs_asker.proofs.DoneLemmas.{answered_more, are_of_line, by_core, course_more, gone_before, length_more, line_begun, line_core, rises_more, up}
use Rattle.hs_asker.proofs.EndsLemmas.{IsBetween, ends_between, ends_within, none_past, told_out}
use Rattle.hs_asker.proofs.HubLemmas.{found_so, hub, paid_so}
use Rattle.hs_asker.proofs.LinesLemmas.{asked_less}
use Rattle.hs_asker.proofs.ShownLemmas.{within_shown, within_untold}

module _ (tells : Type 0) (e : AtEntry) (found : Found) (first : Running) (opening : Events) (shape : IsShape e.set.shape) (count : length e.disks ≡ e.set.shape.shards * e.set.shape.copies) where
  abbrev b : Begun
  b = begun_by e found first opening

  -- a run ends no earlier than it began
  pub later_so : (said : List Command) (lines : List Events) (at : Point) → HasDone b said lines at → e.moment ≤ at.now
  later_so said lines at done =
      let one : e.moment ≤ found.opened = done.behind.later in
      let two : found.opened ≤ at.now = rise_le found.opened at.now (all_events (story_of b lines)) done.behind.rises in
      omega (arith, one, two)

  -- ---- between two lines

  module _ (commands : ℕ → Option Command) (said : List Command) (lines : List Events) (at : Point) (why : Option CoreFault) (plain : IsBetween why) (left : length at.disks ≡ length e.disks) (nobody : commands 0 ≡ None)
      (asks : AreAsked commands said) (done : HasDone b said lines at) (shows : HasShown tells b lines at) where
    abbrev ran : Ran
    ran = ran_at (status_by why) at.line (Some at.cluster) (silent e.moment e.disks) (silent at.now at.disks)

    pub went : Went (script_by b commands) ran (story_of b lines)
    went = record {
      found = found_so tells e found first opening commands why at.line at.now at.cluster at.cluster at.disks lines shows.shown shows.since;
      opening = walk_cut next_turn 0 (first_core e.set found) opening (opening_is_whole ran lines) done.behind.opening;
      lines = lines_as (script_by b commands) b.old None ran refl refl at.now 1 (steps (first_core e.set found) opening) lines (done.gone commands asks);
      line = done.line;
      rises = done.behind.rises;
      journal = ap (λ (c : Core). c.journal) done.behind.core;
      refused = ap (λ (c : Core). if (ending_of (status_by why)).full then c.refused else []) done.behind.core;
      course = done.behind.course;
      ends = ends_between why (core_behind b lines).ended plain (ap (λ (c : Core). c.ended) (sym done.behind.core) ∙ done.going);
      failed = paid_so tells e found first opening commands why at.line at.now at.cluster at.cluster at.disks lines shows.shown shows.since;
    }

    pub stops_between : IsOfCluster tells (record { set = e.set; commands = commands }) ran
    stops_between =
        hub tells e found first opening commands why at.line at.now at.cluster at.cluster at.disks lines shows.shown shows.since shape count left done.behind.answered.fits (later_so said lines at done) nobody
        (λ whole. shows.may.untold)
        went

  -- ---- within one

  module _ (commands : ℕ → Option Command) (said : List Command) (lines : List Events) (at new : Point) (asked : Command) (fault : ClusterFault) (left : length new.disks ≡ length e.disks) (nobody : commands 0 ≡ None)
      (asks : AreAsked commands (said ++ asked ∷ [])) (done : HasDone b said lines at) (shows : HasShown tells b lines at) (runs : RunsAlone tells e.set.name asked at new (Err fault)) where
    abbrev cut : Ran
    cut = ran_at (status_by (Some (core_of fault))) new.line (Some new.cluster) (silent e.moment e.disks) (silent new.now new.disks)

    abbrev es : Events
    es = runs.runs.events

    core_there : ran_out {T = ⊤} (Err fault) ≡ false → new.cluster.core ≡ core_behind b (lines ++ es ∷ [])
    core_there there = runs.runs.does.core there ∙ by_core tells e found first opening said lines at new asked (Err fault) done runs

    begun : IsBegunLine (script_by b commands) cut (record { line = length lines + 1; core = at.cluster.core; events = es; whole = (ending_of (status_by (Some (core_of fault)))).past })
    begun = line_begun (script_by b commands) cut refl refl (record { line = length lines + 1; core = at.cluster.core; events = es; whole = (ending_of (status_by (Some (core_of fault)))).past }) done.going
        (are_of_line tells e found first opening said lines at new asked (Err fault) done runs (ending_of (status_by (Some (core_of fault)))).past commands (none_past (core_of fault)) asks)

    went_cut : Went (script_by b commands) cut (story_of b (lines ++ es ∷ []))
    went_cut = record {
      found = found_so tells e found first opening commands (Some (core_of fault)) new.line new.now new.cluster new.cluster new.disks (lines ++ es ∷ []) (within_shown tells e found first opening said lines at new asked (Err fault) done runs shows) runs.since;
      opening = walk_cut next_turn 0 (first_core e.set found) opening (opening_is_whole cut (lines ++ es ∷ [])) done.behind.opening;
      lines = lines_with (script_by b commands) b.old None cut refl refl new.now 1 (steps (first_core e.set found) opening) lines es (length lines + 1) at.cluster.core
          (omega arith) (line_core tells e found first opening said lines at new asked (Err fault) done runs)
          (gone_before tells e found first opening said lines at new asked (Err fault) done runs commands (asked_less commands said asked asks)) begun;
      line = runs.line ∙ ap (λ (n : ℕ). n + 1) done.line ∙ sym (length_more tells e found first opening said lines at new asked (Err fault) done runs);
      rises = rises_more tells e found first opening said lines at new asked (Err fault) done runs;
      journal = runs.runs.does.journal ∙ ap (λ (c : Core). c.journal) (by_core tells e found first opening said lines at new asked (Err fault) done runs);
      refused = ap (λ (x : List JournalEntry). if (ending_of (status_by (Some (core_of fault)))).full then x else []) (runs.runs.does.refused ∙ ap (λ (c : Core). c.refused) (by_core tells e found first opening said lines at new asked (Err fault) done runs));
      course = course_more tells e found first opening said lines at new asked (Err fault) done runs;
      ends = ends_within fault (core_behind b (lines ++ es ∷ [])).ended (λ there. runs.runs.does.outcome there ∙ ap (λ (c : Core). outcome_by c.ended) (core_there there));
      failed = paid_so tells e found first opening commands (Some (core_of fault)) new.line new.now new.cluster new.cluster new.disks (lines ++ es ∷ []) (within_shown tells e found first opening said lines at new asked (Err fault) done runs shows) runs.since;
    }

    pub stops_within : IsOfCluster tells (record { set = e.set; commands = commands }) cut
    stops_within =
        hub tells e found first opening commands (Some (core_of fault)) new.line new.now new.cluster new.cluster new.disks (lines ++ es ∷ []) (within_shown tells e found first opening said lines at new asked (Err fault) done runs shows) runs.since shape count left
        (subst (λ (j : List JournalEntry). length j ≤ e.set.limits.ops) (sym runs.runs.does.journal) (answered_more tells e found first opening said lines at new asked (Err fault) done runs).fits)
        (let low = later_so said lines at done in let high = up tells e found first opening said lines at new asked (Err fault) done runs in omega (arith, low, high)) nobody
        (λ whole. within_untold tells e found first opening said lines at new asked (Err fault) done runs shows (told_out fault whole))
        went_cut
