-- Each moment of a run whose core goes on behind its opening is one of the machine, in the state of its story.
use Rattle.std.proofs.Common.{◌≡◌, ◌∙◌, inl, inr, ap, sym, subst, ℕ, ◌*◌, ◌<◌, ◌≤◌, ◌||◌, true, false, List, [], ◌∷◌, Some, refl, length, map, arith, if◌then◌else◌}
use Rattle.std.proofs.lemmas.Bool.{cases_lt}
use Rattle.std.proofs.lemmas.List.{get_or-map, get_or_past}
use Rattle.std.specs.List.{list_any}
use Rattle.std.specs.Prelude.{slice_index_or}
use Rattle.hs_clauses.proofs.AskedLemmas.{IsAskedOf}
use Rattle.hs_clauses.proofs.FoundLemmas.{many, opens_good, opens_took}
use Rattle.hs_clauses.proofs.NoteLemmas.{opens_noted, opens_silent}
use Rattle.hs_standing.proofs.FirstRoomLemmas.{front_first, opens}
use Rattle.hs_clauses.proofs.TakenLemmas.{peers_are}
use Rattle.hs_clauses.specs.Shown.{HaveOneList, IsShown}
use Rattle.hs_moments.proofs.OpeningLemmas.{all_good}
use Rattle.hs_core_words.specs.Looking.{front_of, status_of}
use Rattle.hs_core_words.specs.State.{Core}
use Rattle.hs_entry.specs.Entries.{rank_of}
use Rattle.hs_events.specs.Beginning.{first_items}
use Rattle.hs_events.specs.Course.{happened, items_of, steps}
use Rattle.hs_events.specs.Due.{Events}
use Rattle.hs_events.specs.Found.{first_core, opened_list, opens_with, starts_good}
use Rattle.hs_events.specs.Taken.{taken_list}
use Rattle.hs_events.specs.Whole.{Whole, open_whole, step_whole}
use Rattle.hs_fold.specs.Good.{good_from, taken_from}
use Rattle.hs_fold.specs.Shards.Setting.{Numbered}
use Rattle.hs_journal.specs.declared.entry.JournalEntry.{JournalEntry}
use Rattle.hs_journal.specs.Moments.{below}
use Rattle.hs_limits.specs.declared.limits.PeerStatus.TheVariants.{Good, Down}
use Rattle.hs_members.specs.Members.{Members, is_good_status, status}
use Rattle.hs_model.specs.declared.course.CourseItem.{CourseItem}
use Rattle.hs_moments.proofs.CoreLemmas.{good_at, journal_at, taken_at}
use Rattle.hs_moments.proofs.CourseLemmas.{good-append, taken-append}
use Rattle.hs_moments.specs.CoreMachine.{core_at}
use Rattle.hs_moments.specs.Joint.{AtMoment}
use Rattle.hs_moments.specs.Machine.{runs, state_at, until}
use Rattle.hs_moments.specs.WholeMachine.{whole_machine}
use Rattle.hs_peerlog.specs.Images.{LeavesOnly}
use Rattle.hs_ports.specs.Disk.{Standing}
use Rattle.hs_ports.specs.MemoryDisk.{untold}
use Rattle.hs_ports.specs.Moments.{disk_at}
use Rattle.hs_ports.specs.Objects.{IsDuring}
use Rattle.hs_promise.specs.Entry.{MayStop, counted_course, is_aside}
use Rattle.hs_promise.specs.Machine.{Went}
use Rattle.hs_promise.specs.Run.{Ran, Script}
use Rattle.hs_promise.specs.Story.{Story, all_events}
use Rattle.hs_side.specs.Current.{current, list_in}
use Rattle.hs_side.specs.Reading.{list_of}
use Rattle.hs_standing.specs.Standing.{IsStateAt}

-- the core and its lists at a moment of a story
abbrev pub state_then : Script → Story → ℕ → Whole
state_then S story moment = state_at whole_machine (open_whole S.set story.found) (happened (first_core S.set story.found) (all_events story)) moment

-- ---- disks at entry

pub nil_of : (bytes : List ℕ) → length bytes ≤ 0 → bytes ≡ []
nil_of [] low = refl
nil_of (byte ∷ bytes) low = absurd (omega (arith, low))

untold_only : (list : Numbered) → list_in untold.seen ≡ Some list → LeavesOnly untold list
untold_only list is image stands =
    ap (λ (bytes : List ℕ). list_of bytes) (nil_of (image (current image)) (stands.sides (current image)).no_longer) ∙ is

-- where it may stop, and no disk that there is was set aside, each has one list
pub one_list : (S : Script) (r : Ran) → MayStop S r → ((p : ℕ) → p < length r.old.disks → is_aside S r p ≡ false) → HaveOneList r
one_list S r may counted = record {
  called = may.none.called;
  only = λ p list is. elim (cases_lt p (length r.old.disks)) [
    | inl low ↦ λ image stands. may.one p (counted p low) image stands.sides ∙ is
    | inr high ↦
        let past : disk_at r.old.disks p ≡ untold = get_or_past r.old.disks p untold high in
        subst (λ (d : Standing). LeavesOnly d list) (sym past) (untold_only list (ap (λ (d : Standing). list_in d.seen) (sym past) ∙ is))
  ];
}

-- ---- the state at a moment

pub runs_core : (c : Whole) (es : Events) → (runs whole_machine c es).core ≡ steps c.core es
runs_core c [] = refl
runs_core c (e ∷ es) = runs_core (step_whole e.0 e.1 c) es

module _ (S : Script) (r : Ran) (story : Story) (went : Went S r story) (asked : IsAskedOf S r story) where
  then_core : (m : ℕ) → (state_then S story m).core ≡ core_at (first_core S.set story.found) (all_events story) m
  then_core m = runs_core (open_whole S.set story.found) (until m (happened (first_core S.set story.found) (all_events story)))

  pub good : (p : ℕ) → p < S.set.shape.shards → starts_good story.found p ≡ true
  good p low = all_good S.set story.found asked.on.one went.found.goods asked.going p low

  peers : S.set.shape.shards * S.set.shape.copies ≡ S.set.shape.shards
  peers = ap (λ n. S.set.shape.shards * n) asked.on.one ∙ omega arith

  -- ---- as it opens

  good_new : (p : ℕ) → p < S.set.shape.shards → is_good_status (slice_index_or (map (λ b. if b then Good else Down) story.found.good) p Down) ≡ true
  good_new p low =
      ap is_good_status (get_or-map (λ b. if b then Good else Down) story.found.good p false Down (let all = peers in let goods = went.found.goods in omega (arith, all, goods, low)))
      ∙ ap (λ b. is_good_status (if b then Good else Down)) (good p low)

  good_first : (p : ℕ) → p < S.set.shape.shards → is_good_status (status_of p (first_core S.set story.found)) ≡ true
  good_first p low = ap (λ (m : Members). is_good_status (status p m)) (opens S.set story.found).members ∙ good_new p low

  silent : (first_core S.set story.found).journal ≡ []
  silent = opens_silent S.set.shape S.set.limits (opens_with S.set story.found) story.found.opened (λ p low. good_new p (let all = peers in omega (arith, all, low)))

  peer_first : (p : ℕ) → p < S.set.shape.shards → p < (first_core S.set story.found).members.shape.shards * (first_core S.set story.found).members.shape.copies
  peer_first p low = subst (λ (m : Members). p < m.shape.shards * m.shape.copies) (sym (opens S.set story.found).members) (let all = peers in omega (arith, all, low))

  shard_first : (g : ℕ) → g < S.set.shape.shards → g < (first_core S.set story.found).members.shape.shards
  shard_first g low = subst (λ (m : Members). g < m.shape.shards) (sym (opens S.set story.found).members) low

  opened_taken : (g : ℕ) → g < S.set.shape.shards → opened_list S.set story.found g ≡ taken_list S.set.shape story.found.logs g
  opened_taken g low =
      ap (λ ps. if list_any (starts_good story.found) ps then taken_list S.set.shape story.found.logs g else []) (peers_are S.set.shape story.found.logs asked.on.one (many S r story went.found asked.on.one) g)
      ∙ ap (λ b. if b || false then taken_list S.set.shape story.found.logs g else []) (good g low)

  -- ---- what the course and the journal tell

  module _ (counted : counted_course S r ≡ r.course) (m : ℕ) (during : IsDuring r.old r.new m) where
    abbrev items : List CourseItem
    items = items_of (first_core S.set story.found) (all_events story)

    answered : (state_then S story m).core.journal ≡ below m r.journal
    answered =
        ap (λ (c : Core). c.journal) (then_core m)
        ∙ journal_at (first_core S.set story.found) (all_events story) story.found.opened r.new.moment m (opens_noted S.set.shape S.set.limits (opens_with S.set story.found) story.found.opened).entries went.rises
        (ap (λ (es : List JournalEntry). below m es) silent ∙ sym silent)
        ∙ ap (λ (es : List JournalEntry). below m es) (sym went.journal)

    good_then : (p : ℕ) → p < S.set.shape.shards → good_from false (counted_course S r) m p ≡ is_good_status (status_of p (state_then S story m).core)
    good_then p low =
        ap (λ (is : List CourseItem). good_from false is m p) (counted ∙ went.course)
        ∙ good-append false (first_items S.set.shape story.found r.old.moment) items m p
        ∙ ap (λ x. good_from x items m p) (opens_good S r story went.found asked.on.one m p during.above low (good p low) ∙ sym (good_first p low))
        ∙ good_at (first_core S.set story.found) (all_events story) story.found.opened r.new.moment m p went.rises (peer_first p low)
        ∙ ap (λ (c : Core). is_good_status (status_of p c)) (sym (then_core m))

    took_then : (g : ℕ) → g < S.set.shape.shards → taken_from 0 (counted_course S r) m g ≡ front_of g (state_then S story m).core
    took_then g low =
        ap (λ (is : List CourseItem). taken_from 0 is m g) (counted ∙ went.course)
        ∙ taken-append 0 (first_items S.set.shape story.found r.old.moment) items m g
        ∙ ap (λ x. taken_from x items m g)
        (opens_took S r story went.found asked.on.one m g during.above low (went.found.kept g (good g low))
        ∙ ap (λ (list : Numbered). (rank_of list).number) (sym (opened_taken g low)) ∙ sym (front_first S.set story.found g low))
        ∙ taken_at (first_core S.set story.found) (all_events story) story.found.opened r.new.moment m g went.rises (shard_first g low)
        ∙ ap (λ (c : Core). front_of g c) (sym (then_core m))

    -- ---- a moment of the machine

    pub at_moment : IsShown S r story → HaveOneList r
        → AtMoment whole_machine (IsStateAt (state_then S story m)) S.set.shape (counted_course S r) r.journal m r.new.disks
    at_moment shown lists = record {
      core = state_then S story m;
      tells = record {
        sane = refl;
        answered = answered;
        good = λ p low. good_then p (let all = peers in omega (arith, all, low));
        taken = took_then;
      };
      lists = λ p is image left. (shown.lists lists asked.going).fine m p during.above during.up_to during.early is image left;
    }
