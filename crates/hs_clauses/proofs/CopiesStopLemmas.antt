-- With any number of copies a run whose core goes on behind its opening may stop at each of its moments, where no shard without a good peer has one again.
use Rattle.std.proofs.Common.{◌≡◌, ◌∙◌, inl, inr, ap, sym, subst, ℕ, ◌-◌, ◌^◌, ◌<◌, ◌≤◌, not, Bool, true, false, List, [], Option, Some, None, refl, length, arith}
use Rattle.std.proofs.lemmas.Bool.{cases_lt, false≢true, true≢false}
use Rattle.std.proofs.lemmas.List.{get_or_past}
use Rattle.std.proofs.lemmas.List.Elements.{Contains-append_right}
use Rattle.std.specs.List.{list_any}
use Rattle.std.specs.Prelude.{Contains, IsSome}
use Rattle.hs_clauses.proofs.AsideLemmas.{EachTaken, TellsDown, each_taken, set_aside, some_good, tells_down}
use Rattle.hs_clauses.proofs.AskedLemmas.{ReadsBlocks, begins_at_entry, runs_soundly}
use Rattle.hs_clauses.proofs.ComingLemmas.{ComingLaws}
use Rattle.hs_clauses.proofs.CopiesCoreLemmas.{EachHasGood, answered_then, counted_is, good_first, good_then, good_then_goes, opened_taken, shape_then, silent_early, took_early, took_then}
use Rattle.hs_clauses.proofs.CopiesCourseLemmas.{early_taken, never_first, taken_good}
use Rattle.hs_clauses.proofs.CopiesEndedLemmas.{over_stops}
use Rattle.hs_clauses.proofs.CopiesEarlyLemmas.{early_whole, entry_reopens, taken_reads}
use Rattle.hs_clauses.proofs.CountedLemmas.{counted_cases}
use Rattle.hs_clauses.proofs.FitLemmas.{fits}
use Rattle.hs_clauses.proofs.GreatestLemmas.{within}
use Rattle.hs_clauses.proofs.KeptRunLemmas.{all_kept}
use Rattle.hs_clauses.proofs.MomentLemmas.{nil_of, runs_core, state_then}
use Rattle.hs_clauses.proofs.StopLemmas.{runs_count, some_shard}
use Rattle.hs_clauses.specs.Asked.{start_of}
use Rattle.hs_clauses.specs.Shown.{HasItsDisks, RunsSoundly}
use Rattle.hs_clauses.specs.Stopped.{IsShownByMoments, IsShownOf, KeepsCopies, LeavesAt, ShownOf}
use Rattle.hs_cluster.proofs.TakenLemmas.{any_there}
use Rattle.hs_core_words.specs.Looking.{front_of, status_of}
use Rattle.hs_core_words.specs.Records.{HasRecordRoom}
use Rattle.hs_core_words.specs.State.{Core}
use Rattle.hs_desk.specs.declared.fault.CoreFault.{CoreFault}
use Rattle.hs_entry.specs.Entries.{rank_of}
use Rattle.hs_events.specs.Beginning.{first_items}
use Rattle.hs_events.specs.Course.{happened, items_of}
use Rattle.hs_events.specs.Due.{Events}
use Rattle.hs_events.specs.Found.{Found, first_core, starts_good}
use Rattle.hs_events.specs.Taken.{is_taken, peer_count, taken_list}
use Rattle.hs_events.specs.Whole.{counts, open_whole}
use Rattle.hs_fold.specs.Good.{IsBegun, is_good, taken_below}
use Rattle.hs_fold.specs.Images.{IsLeft, image_at}
use Rattle.hs_fold.specs.Shards.Course.{was_good}
use Rattle.hs_fold.specs.Shards.Images.{AreGoodImages, Image, IsBlank, IsGoodImage, Stop}
use Rattle.hs_fold.specs.Shards.Setting.{Numbered}
use Rattle.hs_journal.specs.declared.entry.JournalEntry.{JournalEntry}
use Rattle.hs_journal.specs.Moments.{below}
use Rattle.hs_limits.specs.declared.shape.Shape.{Shape}
use Rattle.hs_limits.specs.Shape.{IsShape, peer_of}
use Rattle.hs_members.specs.Members.{is_good_status, peers_of, status}
use Rattle.hs_model.specs.declared.course.CourseItem.{CourseItem}
use Rattle.hs_moments.specs.CoreMachine.{core_at}
use Rattle.hs_moments.specs.Joint.{AtMoment}
use Rattle.hs_moments.specs.Machine.{until}
use Rattle.hs_moments.specs.Moments.{GivesFine}
use Rattle.hs_moments.specs.WholeMachine.{whole_machine}
use Rattle.hs_peerlog.specs.Images.{LeavesOnly}
use Rattle.hs_ports.specs.Disk.{Standing}
use Rattle.hs_ports.specs.MemoryDisk.{untold}
use Rattle.hs_ports.specs.Moments.{disk_at}
use Rattle.hs_ports.specs.Objects.{IsDuring}
use Rattle.hs_promise.specs.Entry.{MayStop, counted_course, entry_store}
use Rattle.hs_promise.specs.Headers.{KeepsHeaders}
use Rattle.hs_promise.specs.Machine.{NeverOpened}
use Rattle.hs_promise.specs.Run.{Ran, Script}
use Rattle.hs_promise.specs.Stops.{Reopens as ReopensAt, Stops, stop_at}
use Rattle.hs_promise.specs.Story.{Story, all_events}
use Rattle.hs_side.specs.Current.{current, list_in}
use Rattle.hs_side.specs.Reading.{is_blank, log_of}
use Rattle.hs_standing.proofs.FirstRoomLemmas.{first_room}
use Rattle.hs_standing.proofs.TakenLemmas.{FoldsInMemory}
use Rattle.hs_standing.specs.Reopens.{Reopens}
use Rattle.hs_standing.specs.Run.{MayRun, RunBegins}
use Rattle.hs_standing.specs.Standing.{AllMayKeep, IsStateAt}
use Rattle.hs_standing.specs.Stands.{GoodPeersCount}
use Rattle.hs_standing.specs.Start.{Start, events_in}
use Rattle.hs_tails.proofs.AsideLemmas.{never_was_good}
use Rattle.hs_tails.specs.Stop.{IsOutOfUse, LeavesWhatTook, left_at}

-- what is said of events, of reports, and by hs_tails of the moments of a run
pub record CopiesStopLaws : Type 0 where
  pub coming : ComingLaws
  pub memory : FoldsInMemory
  pub reads : ReadsBlocks
  pub reopens : (start : Start) (stop : Stop) (found : Found) (events : Events) (journal : List JournalEntry) (images : List Image) → RunBegins start found → (first_core start.set found).ended ≡ None → HasRecordRoom (first_core start.set found)
      → AllMayKeep start (MayRun start) (first_core start.set found) events → ((i : CourseItem) → Contains (items_of (first_core start.set found) events) i → Contains stop.course i)
      → (left_at start.set found events stop.moment).core.ended ≡ None → ((peer : ℕ) → counts (left_at start.set found events stop.moment) peer ≡ false → IsOutOfUse stop (left_at start.set found events stop.moment) peer)
      → length stop.disks ≡ peer_count start.set.shape
      → AtMoment whole_machine (IsStateAt (left_at start.set found events stop.moment)) start.set.shape stop.course journal stop.moment stop.disks
      → AreGoodImages start.set.shape stop images → Reopens start stop (below stop.moment journal) images

-- ---- small words

lower : (a m b : ℕ) → a < m → m < b - 1 → a < b
lower a m b low high = omega (arith, low, high)

blank_reads : (image : Image) → IsBlank image → list_in image ≡ Some []
unfolding log_of
blank_reads image blank = rw (blank (current image)) refl

module _ (laws : CopiesStopLaws) (S : Script) (r : Ran) (story : Story) (on : HasItsDisks S r) (left_count : length r.new.disks ≡ peer_count S.set.shape) (shown : IsShownOf S r story) (may : MayStop S r) (keeps : KeepsCopies S r) (going : (first_core S.set story.found).ended ≡ None) where
  b : RunBegins (start_of S r) story.found
  b = begins_at_entry S r story shown.told.went shown.told.read on may.sound going

  tops : EachTaken S story.found
  tops = each_taken S story.found on.shape shown.told.went.found.logs shown.told.went.found.kept going

  down : TellsDown S r story
  down = tells_down S r story shown.told.went on.shape going

  soundly : RunsSoundly S r story
  soundly = runs_soundly laws.memory laws.reads S r story on shown.told may.sound going

  abbrev first : Core
  first = first_core S.set story.found

  then_core : (m : ℕ) → (state_then S story m).core ≡ core_at (first_core S.set story.found) (all_events story) m
  then_core m = runs_core (open_whole S.set story.found) (until m (happened first (all_events story)))

  inside : (i : CourseItem) → Contains (items_of (first_core S.set story.found) (all_events story)) i → Contains (counted_course S r) i
  inside i has =
      subst (λ (items : List CourseItem). Contains items i) (sym (counted_is S r story shown.told.went on.shape going ∙ shown.told.went.course))
      (Contains-append_right (first_items S.set.shape story.found r.old.moment) (items_of first (all_events story)) i has)

  begun : (m line : ℕ) → IsBegun (counted_course S r) line m → IsBegun r.course line m
  begun m line h = subst (λ (course : List CourseItem). IsBegun course line m) (counted_is S r story shown.told.went on.shape going) h

  -- a good peer's disk counts
  not_not : (x : Bool) → not (not x) ≡ x
  not_not true = refl
  not_not false = refl

  counts_good : (m : ℕ) → GoodPeersCount whole_machine (state_then S story m)
  counts_good m = runs_count (open_whole S.set story.found) (until m (happened first (all_events story)))
      (λ p good. not_not (starts_good story.found p) ∙ sym (good_first S r story shown.told.went on.shape going p) ∙ good)

  module _ (m : ℕ) (during : IsDuring r.old r.new m) (later : story.found.opened < m) where
    at_moment : AtMoment whole_machine (IsStateAt (state_then S story m)) S.set.shape (counted_course S r) r.journal m r.new.disks
    at_moment = record {
      core = state_then S story m;
      tells = record {
        sane = refl;
        answered = ap (λ (c : Core). c.journal) (then_core m) ∙ answered_then S r story shown.told.went on.shape going m later;
        good = λ p low. good_then S r story shown.told.went on.shape going m p later low ∙ ap (λ (c : Core). is_good_status (status_of p c)) (sym (then_core m));
        taken = λ g low. took_then S r story shown.told.went on.shape going m g during.above low ∙ ap (λ (c : Core). front_of g c) (sym (then_core m));
      };
      lists = λ p is image left. (shown.lists b.soundly going).fine m p later during.up_to during.early is image left;
    }

    logs_later : (images : List Image) (p : ℕ) → p < length r.new.disks → IsGoodImage (stop_at S r m) images p → IsSome (list_in (image_at images p))
    unfolding at_moment
    logs_later images p low good =
        let is : is_good_status (status_of p (state_then S story m).core) ≡ true = sym (at_moment.tells.good p (omega (arith, low, left_count))) ∙ good.good in
        let gives : GivesFine whole_machine (state_then S story m) p (image_at images p) = at_moment.lists p (counts_good m p is) (image_at images p) good.left in
        subst (λ (o : Option Numbered). IsSome o) (sym gives.read) refl

    -- ---- a peer whose disk doesn't count is out of use

    past_disk : (p : ℕ) → peer_count S.set.shape ≤ p → LeavesWhatTook (stop_at S r m) (state_then S story m) p
    past_disk p high image left =
        let is : disk_at r.new.disks p ≡ untold = get_or_past r.new.disks p untold (omega (arith, high, left_count)) in
        let its : IsLeft untold m image = subst (λ (d : Standing). IsLeft d m image) is left in
        let blank : IsBlank image = λ side. ap (λ (bytes : List ℕ). is_blank bytes) (nil_of (image side) (its.sides side).no_longer) in
        ([], blank_reads image blank, (_, refl))

    out_of_use : (p : ℕ) → counts (state_then S story m) p ≡ false → IsOutOfUse (stop_at S r m) (state_then S story m) p
    out_of_use p none = elim (cases_lt p (peer_count S.set.shape)) [
      | inl low ↦ by_taken low (is_taken S.set.shape story.found.logs p) refl
      | inr high ↦ inr (past_disk p high)
    ]
      where
        never : (starts_good story.found p ≡ false) × (was_good (items_of (first_core S.set story.found) (all_events story)) m p ≡ false)
        never = never_was_good S.set story.found (all_events story) r.new.moment m p shown.told.went.rises none

        by_taken : p < peer_count S.set.shape → (t : Bool) → is_taken S.set.shape story.found.logs p ≡ t → IsOutOfUse (stop_at S r m) (state_then S story m) p
        by_taken low true taken =
            absurd (true≢false (sym (taken_good S r story shown.told.went on.shape tops (some_good S story.found on.shape shown.told.went.found.logs shown.told.went.found.kept going) keeps.returns (lower story.found.opened m (2 ^ 64) later during.early) p low taken) ∙ never.0))
        by_taken low false untaken = inl (
          set_aside S r story shown.told.went on.shape tops down p low untaken never.0,
          ap (λ (items : List CourseItem). was_good items m p) (counted_is S r story shown.told.went on.shape going)
              ∙ never_first S r story shown.told.went on.shape tops m p untaken never.0 never.1,
        )

    -- ---- where each shard has a good image

    module _ (images : List Image) (good : AreGoodImages S.set.shape (stop_at S r m) images) where
      each_good : EachHasGood (core_at (first_core S.set story.found) (all_events story) m)
      each_good g low =
          let same : (core_at first (all_events story) m).members.shape ≡ S.set.shape = shape_then S r story shown.told.went on.shape going m in
          let less : g < S.set.shape.shards = (let shards = ap (λ (x : Shape). x.shards) same in omega (arith, low, shards)) in
          let some = good.shards g less in
          let w = within S.set.shape story.found.logs shown.told.went.found.logs g less in
          let high = some.1 in
          let is : is_good_status (status_of (peer_of S.set.shape g some.0) (core_at first (all_events story) m)) ≡ true =
          sym (good_then S r story shown.told.went on.shape going m (peer_of S.set.shape g some.0) later (omega (arith, w, high))) ∙ some.2.good in
          subst (λ (x : Shape). list_any (λ p. is_good_status (status p (core_at first (all_events story) m).members)) (peers_of x g) ≡ true) (sym same)
          (any_there (λ p. is_good_status (status p (core_at first (all_events story) m).members)) (peer_of S.set.shape g 0) S.set.shape.copies (peer_of S.set.shape g some.0) (omega arith) (omega (arith, high)) is)

      on_then : (state_then S story m).core.ended ≡ None
      on_then = ap (λ (c : Core). c.ended) (then_core m) ∙ good_then_goes m first (all_events story) going each_good

      reopens_later : ReopensAt S (entry_store S r) r m images
      reopens_later =
          fits S r m images (begun m)
          (laws.reopens (start_of S r) (stop_at S r m) story.found (all_events story) r.journal images b going (first_room S.set story.found laws.memory b.soundly.sound)
          (all_kept laws.coming laws.memory S r story soundly) inside on_then out_of_use left_count at_moment good)

  -- ---- up to the opening

  module _ (m : ℕ) (during : IsDuring r.old r.new m) (early : m ≤ story.found.opened) where
    leaves : (p : ℕ) → p < peer_count S.set.shape → (own : Numbered) → LeavesOnly (disk_at r.old.disks p) own → LeavesAt S r story p own m
    leaves p low own only = shown.early b.soundly going p low own only m (record { above = during.above; up_to = early; early = during.early })

    counted : counted_course S r ≡ r.course
    counted = counted_is S r story shown.told.went on.shape going

    logs_then : (images : List Image) (p : ℕ) → p < length r.new.disks → IsGoodImage (stop_at S r m) images p → IsSome (list_in (image_at images p))
    logs_then images p low good =
        let less : p < peer_count S.set.shape = omega (arith, low, left_count) in
        let taken : is_taken S.set.shape story.found.logs p ≡ true =
        early_taken S r story shown.told.went on.shape tops m p early (ap (λ (items : List CourseItem). is_good items m p) (sym counted) ∙ good.good) in
        let reads = taken_reads S r story shown.told.went on shown.told.read tops down may.sound may.one m leaves p less taken (image_at images p) good.left in
        subst (λ (o : Option Numbered). IsSome o) (sym reads) refl

    took : (g : ℕ) → g < S.set.shape.shards → taken_below (counted_course S r) m g ≡ (rank_of (taken_list S.set.shape story.found.logs g)).number
    took g low =
        took_early S r story shown.told.went on.shape going m g during.above early low
        ∙ ap (λ (list : Numbered). (rank_of list).number) (opened_taken S r story shown.told.went on.shape going g low)

    reopens_early : (images : List Image) → AreGoodImages S.set.shape (stop_at S r m) images → ReopensAt S (entry_store S r) r m images
    reopens_early images good =
        fits S r m images (begun m)
        (entry_reopens S r story shown.told.went on shown.told.read tops down may.sound m images
        (early_whole S r story shown.told.went on shown.told.read tops down may.sound may.one m leaves early left_count counted images good) took
        (ap (λ (js : List JournalEntry). events_in (start_of S r) js) (silent_early S r story shown.told.went on.shape going m early)))

  -- ---- at each moment

  log_of_good : (m peer : ℕ) → IsDuring r.old r.new m → (images : List Image) → peer < length r.new.disks → IsGoodImage (stop_at S r m) images peer → IsSome (list_in (image_at images peer))
  log_of_good m peer during images low good = elim (cases_lt story.found.opened m) [
    | inl later ↦ logs_later m during later images peer low good
    | inr early ↦ logs_then m during early images peer low good
  ]

  reopens_at : (m : ℕ) → IsDuring r.old r.new m → (images : List Image) → AreGoodImages S.set.shape (stop_at S r m) images → ReopensAt S (entry_store S r) r m images
  reopens_at m during images good = elim (cases_lt story.found.opened m) [
    | inl later ↦ reopens_later m during later images good
    | inr early ↦ reopens_early m during early images good
  ]

  pub copies_stop : KeepsHeaders S r → Stops S (entry_store S r) r
  copies_stop heads = record { logs = log_of_good; headed = λ m peer during own images good. heads.each m peer during own (image_at images peer) good.left; reopens = reopens_at }

-- ---- a run that opened no core: nobody is good in it

module _ (S : Script) (r : Ran) (never : NeverOpened r) (keeps : KeepsCopies S r) where
  no_course : counted_course S r ≡ []
  no_course = elim (counted_cases S r) [
    | inl memory ↦ absurd ((keeps.memory memory.1).0 never.course)
    | inr own ↦ own ∙ never.course
  ]

  pub nobody_good : (m peer : ℕ) → is_good (counted_course S r) m peer ≡ true → ⊥
  nobody_good m peer good = false≢true (sym (ap (λ (items : List CourseItem). is_good items m peer) no_course) ∙ good)

  never_stop : IsShape S.set.shape → KeepsHeaders S r → Stops S (entry_store S r) r
  never_stop shape heads = record {
    logs = λ m peer during images low good. absurd (nobody_good m peer good.good);
    headed = λ m peer during own images good. heads.each m peer during own (image_at images peer) good.left;
    reopens = λ m during images good. absurd (nobody_good m (peer_of S.set.shape 0 (good.shards 0 (some_shard S.set.shape.shards shape.shards)).0) (good.shards 0 (some_shard S.set.shape.shards shape.shards)).2.good);
  }

-- ---- a run

pub copies_may_stop : CopiesStopLaws → (S : Script) (r : Ran) → IsShownByMoments S r → KeepsHeaders S r → MayStop S r → KeepsCopies S r → Stops S (entry_store S r) r
copies_may_stop laws S r run heads may keeps = by_how run.how run.shown
  where
    by_how : (how : Option Story) → ShownOf S r how → Stops S (entry_store S r) r
    by_how None never = never_stop S r never keeps run.on.shape heads
    by_how (Some story) shown = by_end (first_core S.set story.found).ended refl
      where
        by_end : (o : Option CoreFault) → (first_core S.set story.found).ended ≡ o → Stops S (entry_store S r) r
        by_end None going = copies_stop laws S r story run.on run.left shown may keeps going heads
        by_end (Some f) over = over_stops S r story run.on run.left shown may keeps f over heads
