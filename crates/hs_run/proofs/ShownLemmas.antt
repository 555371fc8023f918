-- What the disks show, behind one line more, and as the watch goes on.
use Rattle.std.proofs.Common.{◌≡◌, ◌∙◌, ap, sym, subst, ℕ, ◌≤◌, false, true, List, [], ◌∷◌, ◌++◌, Result}
use Rattle.std.proofs.lemmas.List.{append-nil}
use Rattle.std.specs.Prelude.{is_ok, ⊤}
use Rattle.hs_cluster.proofs.RunLemmas.{can_later, can_more, can_opened, opening_span, runs_later, runs_more, untold_more}
use Rattle.hs_cluster.proofs.WalkLemmas.{rise_then}
use Rattle.hs_cluster.specs.Calls.{ran_out}
use Rattle.hs_cluster.specs.declared.fault.ClusterFault.{ClusterFault}
use Rattle.hs_cluster.specs.Disks.{stands_of}
use Rattle.hs_cluster.specs.Opens.{Opens}
use Rattle.hs_cluster.specs.Running.{Running}
use Rattle.hs_cluster.specs.RunsOn.{CanRunOn, RunsOn, StandUntold}
use Rattle.hs_events.specs.Due.{Events, MomentsRise}
use Rattle.hs_fold.specs.Shards.Setting.{Setting}
use Rattle.hs_limits.specs.declared.address.Address.{Address}
use Rattle.hs_model.specs.declared.command.Command.{Command}
use Rattle.hs_moments.specs.Moments.{Since}
use Rattle.hs_promise.specs.Story.{all_events}
use Rattle.hs_taking.specs.Shares.{Span as Taking}
use Rattle.hs_run.specs.declared.stop.Stop.{Stop}
use Rattle.hs_run.specs.Between.{Point}
use Rattle.hs_run.specs.Going.{Begun, HasGone, HasShown, span_to, story_of}
use Rattle.hs_run.specs.OneLine.{RunsCommand}
use Rattle.hs_run.proofs.CaseLemmas.{on_fine}
use Rattle.hs_run.proofs.PassedLemmas.{EndedWell, all_more, end_ok}

-- ---- the watch goes on

pub later_shown : (tells : Type 0) (b : Begun) (at : Point) (events : Events) (later : ℕ) → at.now ≤ later → MomentsRise b.found.opened events at.now → (tells → Since (stands_of at.disks)) → RunsOn tells b.set (span_to b at) b.found events
    → RunsOn tells b.set (record (span_to b at) { now = later }) b.found events
later_shown tells b at events later up rises since h = runs_later tells b.set b.found b.old.moment at.now later b.first at.cluster b.disks at.disks events up rises since h

pub later_can : (tells : Type 0) (b : Begun) (at : Point) (events : Events) (later : ℕ) → at.now ≤ later → CanRunOn tells b.set (span_to b at) b.found events → CanRunOn tells b.set (record (span_to b at) { now = later }) b.found events
later_can tells b at events later up h = can_later tells b.set b.found b.old.moment at.now later b.first at.cluster b.disks at.disks events up h

-- as a cluster opened
pub can_first : (tells : Type 0) (set : Setting) (span : Taking) (cluster : Running) (did : Result ⊤ ClusterFault) (opens : Opens tells set span cluster did) → is_ok did ≡ true → CanRunOn tells set (opening_span span opens.begun cluster) opens.found opens.events
can_first tells set span cluster did opens fine = on_fine (CanRunOn tells set (opening_span span opens.begun cluster) opens.found opens.events) did fine (can_opened tells set span cluster did opens)

-- ---- a line that says nothing

pub blank_shown : (tells : Type 0) (b : Begun) (lines : List Events) (at : Point) (n : ℕ) → HasShown tells b lines at → HasShown tells b (lines ++ [] ∷ []) (record at { line = n })
blank_shown tells b lines at n h =
    let same : all_events (story_of b (lines ++ [] ∷ [])) ≡ all_events (story_of b lines) = all_more b lines [] ∙ append-nil (all_events (story_of b lines)) in
    record {
      shown = subst (λ (es : Events). RunsOn tells b.set (span_to b at) b.found es) (sym same) h.shown;
      may = subst (λ (es : Events). CanRunOn tells b.set (span_to b at) b.found es) (sym same) h.may;
      since = h.since;
    }

-- ---- a command

module _ (tells : Type 0) (name : List ℕ → Address) (b : Begun) (read : List (List ℕ)) (lines : List Events) (at new : Point) (asked : Command) (result : Result ⊤ Stop)
    (gone : HasGone b read lines at) (runs : RunsCommand tells name asked (record { old = at; new = new; result = result })) (shows : HasShown tells b lines at) where
  -- when it was done, before what was answered was put
  abbrev done_at : Point
  done_at = record new { now = runs.mid }

  abbrev more : Events
  more = all_events (story_of b lines) ++ runs.runs.events

  same : all_events (story_of b (lines ++ runs.runs.events ∷ [])) ≡ more
  same = all_more b lines runs.runs.events

  rises : MomentsRise b.found.opened more runs.mid
  rises = rise_then b.found.opened at.now runs.mid (all_events (story_of b lines)) runs.runs.events gone.behind.rises runs.runs.rises

  pub within_shown : RunsOn tells b.set (span_to b new) b.found (all_events (story_of b (lines ++ runs.runs.events ∷ [])))
  within_shown = subst (λ (es : Events). RunsOn tells b.set (span_to b new) b.found es) (sym same)
      (later_shown tells b done_at more new.now runs.puts.late.later rises runs.since
      (runs_more tells b.set b.found b.old.moment at.now runs.mid b.first at.cluster new.cluster b.disks at.disks new.disks runs.did (all_events (story_of b lines)) runs.runs.events
      shows.shown shows.may gone.behind.core gone.going gone.behind.rises runs.runs.rises runs.runs.does.rooms runs.runs.kept))

  pub within_untold : ran_out runs.did ≡ false → StandUntold b.set b.found (all_events (story_of b (lines ++ runs.runs.events ∷ []))) b.disks new.disks
  within_untold out = subst (λ (es : Events). StandUntold b.set b.found es b.disks new.disks) (sym same)
      (untold_more tells b.set b.found b.old.moment at.now runs.mid b.first at.cluster new.cluster b.disks at.disks new.disks runs.did (all_events (story_of b lines)) runs.runs.events
      shows.shown shows.may gone.behind.core gone.going gone.behind.rises runs.runs.rises runs.runs.does.rooms runs.runs.kept out)

  can_then : is_ok runs.did ≡ true → CanRunOn tells b.set (span_to b done_at) b.found more
  can_then fine = on_fine (CanRunOn tells b.set (span_to b done_at) b.found more) runs.did fine
      (can_more tells b.set b.found b.old.moment at.now runs.mid b.first at.cluster new.cluster b.disks at.disks new.disks runs.did (all_events (story_of b lines)) runs.runs.events
      shows.shown shows.may gone.behind.core gone.going gone.behind.rises runs.runs.rises runs.runs.does.rooms runs.runs.kept)

  pub command_shown : is_ok result ≡ true → HasShown tells b (lines ++ runs.runs.events ∷ []) new
  command_shown fine =
      let well : EndedWell runs.did runs.put = end_ok runs.did runs.put (ap (λ (r : Result ⊤ Stop). is_ok r) (sym runs.ended) ∙ fine) in
      record {
        shown = within_shown;
        may = subst (λ (es : Events). CanRunOn tells b.set (span_to b new) b.found es) (sym same) (later_can tells b done_at more new.now runs.puts.late.later (can_then well.whole));
        since = runs.since;
      }
