-- A run whose core goes on behind its opening may stop at each of its moments.
use Rattle.std.proofs.Common.{◌≡◌, ◌∙◌, ◌⊎◌, inl, inr, ap, sym, subst, ℕ, ◌+◌, ◌*◌, ◌<◌, ◌==◌, ◌&&◌, Bool, true, false, List, [], ◌∷◌, refl, length, arith, if◌then◌else◌}
use Rattle.std.proofs.lemmas.List.Elements.{Contains-append_right}
use Rattle.std.specs.Prelude.{Contains, IsSome, filter}
use Rattle.hs_clauses.proofs.AskedLemmas.{IsAskedOf, run_opens}
use Rattle.hs_clauses.proofs.ComingLemmas.{ComingLaws}
use Rattle.hs_clauses.proofs.CourseLemmas.{some_course}
use Rattle.hs_clauses.proofs.FitLemmas.{fits}
use Rattle.hs_clauses.proofs.FoundLemmas.{opens_begins}
use Rattle.hs_clauses.proofs.KeptRunLemmas.{all_kept}
use Rattle.hs_clauses.proofs.ListLemmas.{none_aside}
use Rattle.hs_clauses.proofs.MomentLemmas.{at_moment, good, one_list, state_then}
use Rattle.hs_clauses.specs.Asked.{start_of}
use Rattle.hs_clauses.specs.Shown.{HaveOneList, IsShown}
use Rattle.hs_core_words.specs.State.{Core}
use Rattle.hs_events.specs.Beginning.{first_items}
use Rattle.hs_events.specs.Course.{happened, items_of}
use Rattle.hs_events.specs.Due.{Events}
use Rattle.hs_events.specs.Found.{Found, first_core}
use Rattle.hs_events.specs.Taken.{taken_items}
use Rattle.hs_events.specs.Whole.{Whole, open_whole}
use Rattle.hs_fold.specs.Good.{IsBegun}
use Rattle.hs_fold.specs.Images.{image_at}
use Rattle.hs_fold.specs.Shards.Course.{begins}
use Rattle.hs_fold.specs.Shards.Images.{AreGoodImages, Image, IsGoodImage, Stop}
use Rattle.hs_journal.specs.declared.entry.JournalEntry.{JournalEntry}
use Rattle.hs_journal.specs.Moments.{below}
use Rattle.hs_limits.specs.Shape.{IsShape}
use Rattle.hs_model.specs.declared.course.CourseItem.{CourseItem}
use Rattle.hs_moments.proofs.OpeningLemmas.{opening_is_sane}
use Rattle.hs_moments.specs.Joint.{AtMoment}
use Rattle.hs_moments.specs.Machine.{runs, state_at, until}
use Rattle.hs_moments.specs.WholeMachine.{whole_machine}
use Rattle.hs_ports.specs.Objects.{IsDuring}
use Rattle.hs_promise.specs.Ending.{ending_of}
use Rattle.hs_promise.specs.Entry.{MayStop, counted_course, entry_logs, entry_store, still_counts}
use Rattle.hs_promise.specs.Machine.{Went}
use Rattle.hs_promise.specs.Headers.{KeepsHeaders}
use Rattle.hs_promise.specs.Run.{Ran, Script}
use Rattle.hs_promise.specs.Stops.{Reopens as ReopensAt, Stops, stop_at}
use Rattle.hs_promise.specs.Story.{Story, all_events}
use Rattle.hs_side.specs.Current.{list_in}
use Rattle.hs_standing.specs.Run.{IsRunning, MayRun, RunOpens}
use Rattle.hs_standing.specs.Standing.{AllMayKeep, AreBegun, IsStateAt}
use Rattle.hs_standing.proofs.ImageLemmas.{good_image_is_log}
use Rattle.hs_standing.proofs.SaneLemmas.{good_counts, good_counts_after}
use Rattle.hs_standing.proofs.TakenLemmas.{FoldsInMemory}
use Rattle.hs_standing.specs.Reopens.{Reopens}
use Rattle.hs_standing.specs.Stands.{GoodPeersCount}
use Rattle.hs_standing.specs.Start.{Start}

-- what hs_standing says of runs, with what is said of events
pub record StopLaws : Type 0 where
  pub coming : ComingLaws
  pub memory : FoldsInMemory
  pub runs : (start : Start) (found : Found) → RunOpens start found → IsRunning start (open_whole start.set found)
  pub first : (start : Start) (stop : Stop) (found : Found) → RunOpens start found → AreBegun start stop (first_core start.set found)
  pub reopens : (start : Start) (stop : Stop) (c : Whole) (events : Events) (journal : List JournalEntry) (images : List Image) → IsShape start.set.shape → start.set.shape.copies ≡ 1 → length stop.disks ≡ start.set.shape.shards
      → IsRunning start c → AreBegun start stop c.core → AllMayKeep start (MayRun start) c.core events → ((i : CourseItem) → Contains (items_of c.core events) i → Contains stop.course i)
      → AtMoment whole_machine (IsStateAt (state_at whole_machine c (happened c.core events) stop.moment)) start.set.shape stop.course journal stop.moment stop.disks
      → AreGoodImages start.set.shape stop images → Reopens start stop (below stop.moment journal) images

-- ---- small words

pub some_shard : (shards : ℕ) → (shards ≡ 1) ⊎ (shards ≡ 2) ⊎ (shards ≡ 4) ⊎ (shards ≡ 8) → 0 < shards
some_shard shards (inl e) = omega (arith, e)
some_shard shards (inr (inl e)) = omega (arith, e)
some_shard shards (inr (inr (inl e))) = omega (arith, e)
some_shard shards (inr (inr (inr e))) = omega (arith, e)

-- a good peer's disk counts, behind any events
pub runs_count : (c : Whole) (es : Events) → GoodPeersCount whole_machine c → GoodPeersCount whole_machine (runs whole_machine c es)
runs_count c [] h = h
runs_count c (e ∷ es) h = runs_count (whole_machine.step c e.0 e.1) es (good_counts_after c e.0 e.1)

module _ (laws : StopLaws) (S : Script) (r : Ran) (story : Story) (went : Went S r story) (asked : IsAskedOf S r story) where
  abbrev first : Core
  first = first_core S.set story.found

  -- ---- the course

  has_shard : 0 < S.set.shape.shards
  has_shard = some_shard S.set.shape.shards asked.on.shape.shards

  not_empty : (length r.course == 0) ≡ false
  not_empty =
      some_course (S.set.shape.shards + S.set.shape.shards) 0 r.course
      (ap (λ (items : List CourseItem). begins S.set.shape.shards items 0) went.course
      ∙ opens_begins S r story went.found asked.on.one 0 (items_of first (all_events story)) has_shard (went.found.kept 0 (good S r story went asked 0 has_shard)))

  counted_is : counted_course S r ≡ r.course
  counted_is =
      ap (λ b. if (ending_of r.ending).wanting && b then filter (still_counts r) (taken_items S.set.shape (entry_logs S r) r.old.moment) else r.course) not_empty
      ∙ none (ending_of r.ending).wanting
    where
      none : (w : Bool) → (if w && false then filter (still_counts r) (taken_items S.set.shape (entry_logs S r) r.old.moment) else r.course) ≡ r.course
      none true = refl
      none false = refl

  inside : (i : CourseItem) → Contains (items_of first (all_events story)) i → Contains (counted_course S r) i
  inside i has =
      subst (λ (items : List CourseItem). Contains items i) (sym (counted_is ∙ went.course))
      (Contains-append_right (first_items S.set.shape story.found r.old.moment) (items_of first (all_events story)) i has)

  -- ---- a stop

  opens : RunOpens (start_of S r) story.found
  opens = run_opens S r story asked

  then_counts : (m : ℕ) → GoodPeersCount whole_machine (state_then S story m)
  then_counts m =
      runs_count (open_whole S.set story.found) (until m (happened first (all_events story)))
      (good_counts (open_whole S.set story.found) (opening_is_sane S.set story.found asked.on.one asked.going asked.runs.begins.soundly.lists went.found.goods))

  -- no disk was set aside, so each has one list
  lists_of : MayStop S r → HaveOneList r
  lists_of may =
      one_list S r may
      (λ p low. none_aside S r story went asked.on.one asked.read asked.on.disks (good S r story went asked) p (let disks = asked.on.disks in omega (arith, low, disks)))

  module _ (shown : IsShown S r story) (may : MayStop S r) where
    at_each : (m : ℕ) → IsDuring r.old r.new m → AtMoment whole_machine (IsStateAt (state_then S story m)) S.set.shape (counted_course S r) r.journal m r.new.disks
    at_each m d = at_moment S r story went asked counted_is m d shown (lists_of may)

    low_peer : (peer : ℕ) → peer < length r.new.disks → peer < S.set.shape.shards * S.set.shape.copies
    low_peer peer low = let all = ap (λ n. S.set.shape.shards * n) asked.on.one in let many = asked.on.left in omega (arith, all, many, low)

    log_of : (m peer : ℕ) → IsDuring r.old r.new m → (images : List Image) → peer < length r.new.disks → IsGoodImage (stop_at S r m) images peer → IsSome (list_in (image_at images peer))
    log_of m peer d images low good =
        good_image_is_log whole_machine (IsStateAt (state_then S story m)) (start_of S r) (stop_at S r m) r.journal (at_each m d) images peer (low_peer peer low)
        (subst (λ (c : Whole). GoodPeersCount whole_machine c) (sym (at_each m d).tells.sane) (then_counts m)) good

    reopen_at : (m : ℕ) → IsDuring r.old r.new m → (images : List Image) → AreGoodImages S.set.shape (stop_at S r m) images → ReopensAt S (entry_store S r) r m images
    reopen_at m d images good =
        fits S r m images (λ line begun. subst (λ (course : List CourseItem). IsBegun course line m) counted_is begun)
        (laws.reopens (start_of S r) (stop_at S r m) (open_whole S.set story.found) (all_events story) r.journal images asked.on.shape asked.on.one asked.on.left
        (laws.runs (start_of S r) story.found opens) (laws.first (start_of S r) (stop_at S r m) story.found opens) (all_kept laws.coming laws.memory S r story asked.runs) inside (at_each m d) good)

    pub may_stop : KeepsHeaders S r → Stops S (entry_store S r) r
    may_stop keeps = record { logs = log_of; headed = λ m peer during own images good. keeps.each m peer during own (image_at images peer) good.left; reopens = reopen_at }
