-- What the disks show, behind one line more.
use Rattle.std.proofs.Common.{◌≡◌, sym, subst, false, true, List, [], ◌∷◌, ◌++◌, Result}
use Rattle.std.specs.Prelude.{is_ok, ⊤}
use Rattle.hs_cluster.proofs.RunLemmas.{can_more, runs_more, untold_more}
use Rattle.hs_cluster.specs.Calls.{ran_out}
use Rattle.hs_cluster.specs.declared.fault.ClusterFault.{ClusterFault}
use Rattle.hs_cluster.specs.Running.{Running}
use Rattle.hs_cluster.specs.RunsOn.{CanRunOn, RunsOn, StandUntold}
use Rattle.hs_events.specs.Due.{Events}
use Rattle.hs_events.specs.Found.{Found}
use Rattle.hs_model.specs.declared.command.Command.{Command}
use Rattle.hs_promise.specs.Story.{all_events}
use Rattle.hs_run.specs.Between.{Point}
use Rattle.hs_run.specs.Going.{Begun, HasShown, span_to, story_of}
use Rattle.hs_run.proofs.CaseLemmas.{on_fine}
use Rattle.hs_run.proofs.PassedLemmas.{all_more}
use Rattle.hs_asker.specs.Going.{AtEntry, HasDone, RunsAlone, begun_by}

module _ (tells : Type 0) (e : AtEntry) (found : Found) (first : Running) (opening : Events) where
  abbrev b : Begun
  b = begun_by e found first opening

  module _ (said : List Command) (lines : List Events) (at new : Point) (asked : Command) (did : Result ⊤ ClusterFault) (done : HasDone b said lines at) (runs : RunsAlone tells e.set.name asked at new did) (shows : HasShown tells b lines at) where
    abbrev es : Events
    es = runs.runs.events

    abbrev more : Events
    more = all_events (story_of b lines) ++ es

    same : all_events (story_of b (lines ++ es ∷ [])) ≡ more
    same = all_more b lines es

    pub within_shown : RunsOn tells e.set (span_to b new) found (all_events (story_of b (lines ++ es ∷ [])))
    within_shown = subst (λ (all : Events). RunsOn tells e.set (span_to b new) found all) (sym same)
        (runs_more tells e.set found e.moment at.now new.now first at.cluster new.cluster e.disks at.disks new.disks did (all_events (story_of b lines)) es
        shows.shown shows.may done.behind.core done.going done.behind.rises runs.runs.rises runs.runs.does.rooms runs.runs.kept)

    pub within_untold : ran_out did ≡ false → StandUntold e.set found (all_events (story_of b (lines ++ es ∷ []))) e.disks new.disks
    within_untold out = subst (λ (all : Events). StandUntold e.set found all e.disks new.disks) (sym same)
        (untold_more tells e.set found e.moment at.now new.now first at.cluster new.cluster e.disks at.disks new.disks did (all_events (story_of b lines)) es
        shows.shown shows.may done.behind.core done.going done.behind.rises runs.runs.rises runs.runs.does.rooms runs.runs.kept out)

    can_then : is_ok did ≡ true → CanRunOn tells e.set (span_to b new) found more
    can_then fine = on_fine (CanRunOn tells e.set (span_to b new) found more) did fine
        (can_more tells e.set found e.moment at.now new.now first at.cluster new.cluster e.disks at.disks new.disks did (all_events (story_of b lines)) es
        shows.shown shows.may done.behind.core done.going done.behind.rises runs.runs.rises runs.runs.does.rooms runs.runs.kept)

    pub shown_more : is_ok did ≡ true → HasShown tells b (lines ++ es ∷ []) new
    shown_more fine = record {
      shown = within_shown;
      may = subst (λ (all : Events). CanRunOn tells e.set (span_to b new) found all) (sym same) (can_then fine);
      since = runs.since;
    }
