-- How a load ends behind the joins.
use Rattle.std.proofs.Common.{◌≡◌, ◌≤◌, ◌∙◌, ◌⊎◌, inl, inr, ap, sym, subst, false, refl, ℕ, List, [], Bool, true, Option, Some, None, Result, Ok}
use Rattle.std.specs.Prelude.{⊤}
use Rattle.hs_book.specs.Book.{Book}
use Rattle.hs_cluster.specs.Resuming.{EndAsSealed}
use Rattle.hs_cluster.specs.Running.{Running}
use Rattle.hs_cluster.specs.declared.fault.ClusterFault.{ClusterFault}
use Rattle.hs_core_words.specs.State.{Core}
use Rattle.hs_limits.specs.declared.address.Address.{Address}
use Rattle.hs_promise.specs.declared.load.Kept.{Kept}
use Rattle.hs_promise.specs.declared.load.Stored.{Stored}
use Rattle.hs_promise.specs.declared.outcome.Outcome.{Outcome}
use Rattle.hs_promise.specs.declared.status.Status.{Status}
use Rattle.hs_promise.specs.declared.status.Status.TheVariants as status
use Rattle.hs_script.specs.declared.sums.WriterSum.{WriterSum}
use Rattle.hs_taking.specs.Disks.{DiskSeen}
use Rattle.hs_workers.specs.declared.fault.WorkFault.{WorkFault}
use Rattle.hs_load.specs.Judged.{AreSame, IsJudged, Load, Team}
use Rattle.hs_load.specs.Judgement.{IsTold}
use Rattle.hs_load.specs.Loaded.{Close, EndsWork, Judged, PutsNothing, PutsSummary, RunsAll, RunsLast, Stand, Summed, Wanting, begun_at, handed_out, last_lines, refused_when}
use Rattle.hs_load.proofs.FinishLemmas.{lists_go_on}

module _ (tells : Type 0) (load : Load) (book : Book) (team : Team) (left new : List DiskSeen) (core : Core) (c : Close) where
  -- as it was judged
  pub ends_told : (s : Status) → IsTold load book team (Some s) → c.ending ≡ s → PutsNothing c → core ≡ book.core → new ≡ left → EndsWork tells load book team left new core c
  ends_told s (inl want) is none same calm = Wanting (is ∙ want) none same calm
  ends_told s (inr judged) is none same calm = Judged judged.0 (subst (λ (t : Status). IsJudged load book team t) (sym is) judged.1) none same calm

  -- behind the last deletions
  pub ends_summed : (s : Status) (writers line : ℕ) (ends : List (Result WriterSum WorkFault)) → AreSame load book team → RunsLast tells load book team left new core (Ok tt) → load.writers ≡ writers → line ≡ book.core.progress.last_line → ends ≡ team.ends → c.ending ≡ s
      → PutsSummary writers ends core line (record c { ending = s }) → EndsWork tells load book team left new core c
  ends_summed s writers line ends same runs count begun is told puts =
      Summed same runs
      (subst (λ (n : ℕ). PutsSummary n team.ends core book.core.progress.last_line c) (sym count)
      (subst (λ (n : ℕ). PutsSummary writers team.ends core n c) begun
      (subst (λ (xs : List (Result WriterSum WorkFault)). PutsSummary writers xs core line c) is
      (subst (λ (t : Status). PutsSummary writers ends core line (record c { ending = t })) (sym told) puts))))

-- the last lines were run from the core and the logs of a cluster that was resumed
pub runs_last : (tells : Type 0) (load : Load) (book : Book) (team : Team) (left new : List DiskSeen) (core : Core) (did : Result ⊤ ClusterFault) (name : List ℕ → Address) (now line : ℕ) (begun : Running) (start : List DiskSeen) (end : Stand)
    → RunsAll tells name last_lines (record { now = now; cluster = begun; disks = start; line = line }) end did
    → load.set.name ≡ name → begun ≡ record { core = book.core; logs = team.logs; course = []; cache = None } → start ≡ left → line ≡ book.core.progress.last_line → core ≡ end.cluster.core → new ≡ end.disks → book.core.moment ≤ now → EndAsSealed book.core team.logs
    → RunsLast tells load book team left new core did
runs_last tells load book team left new core did name now line begun start end runs named from on at last disks later fit =
    let here : RunsAll tells load.set.name last_lines (begun_at book team left now) end did
    = subst (λ (old : Stand). RunsAll tells load.set.name last_lines old end did) (λ i. record { now = now; cluster = from i; disks = on i; line = at i })
    (subst (λ (f : List ℕ → Address). RunsAll tells f last_lines (record { now = now; cluster = begun; disks = start; line = line }) end did) (sym named) runs) in record {
      now = now;
      later = later;
      fit = fit;
      end = end;
      runs = here;
      on = lists_go_on tells load.set.name last_lines (begun_at book team left now) end did here;
      last = last;
      disks = disks;
    }

-- what is handed back where nobody worked
pub hands_back : (o : Outcome) (s : Status) (core last : Core) (kept : List Kept) (stored : List Stored) → core ≡ last → o.status ≡ s → o.journal.entries ≡ core.journal → o.refused ≡ refused_when s core → o.kept ≡ kept → kept ≡ [] → o.stored ≡ stored → stored ≡ []
    → handed_out o ≡ record { journal = last.journal; refused = refused_when o.status last; kept = []; stored = [] }
hands_back o s core last kept stored same is journal refused one none two nothing = λ i. record {
  journal = (journal ∙ ap (λ (c : Core). c.journal) same) i;
  refused = (refused ∙ ap (λ (t : Status). refused_when t core) (sym is) ∙ ap (λ (c : Core). refused_when o.status c) same) i;
  kept = (one ∙ none) i;
  stored = (two ∙ nothing) i;
}
