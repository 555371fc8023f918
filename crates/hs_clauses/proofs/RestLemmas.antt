-- Where nothing but notes was told, and each good peer's disk keeps the list that it had at entry, a run may stop: whatever images count reopen at the store at entry.
use Rattle.std.proofs.Common.{◌≡◌, ◌≢◌, ◌∙◌, ap, sym, subst, ℕ, zero, suc, ◌+◌, ◌*◌, ◌<◌, ◌≤◌, ◌&&◌, ◌++◌, Bool, true, false, List, [], Option, Some, None, refl, length, drop, append-nil, nat_lt, arith, if◌then◌else◌}
use Rattle.std.proofs.lemmas.Bool.{and_parts, lt-ltb, ltb-true}
use Rattle.std.proofs.lemmas.List.{drop_at}
use Rattle.std.specs.List.{AllByRecursion, AllPairs}
use Rattle.std.specs.Prelude.{IsSome, slice_index_or, unwrap_or}
use Rattle.hs_clauses.proofs.EntryLemmas.{entry_lists, entry_log}
use Rattle.hs_clauses.proofs.FitLemmas.{fits}
use Rattle.hs_clauses.proofs.NoteLemmas.{IsNote, no_events, notes_below}
use Rattle.hs_clauses.proofs.ReadLemmas.{read_numbered}
use Rattle.hs_clauses.specs.Asked.{start_of}
use Rattle.hs_clauses.specs.Shown.{KeepsList, OnDisks}
use Rattle.hs_entry.specs.Entries.{rank_of}
use Rattle.hs_events.specs.Taken.{taken_lists}
use Rattle.hs_fold.proofs.PrefixLemmas.{last-length}
use Rattle.hs_fold.specs.Good.{IsBegun, is_good, taken_below}
use Rattle.hs_fold.specs.Images.{image_at}
use Rattle.hs_fold.specs.Prefix.{IsNumbered}
use Rattle.hs_fold.specs.Runs.Opened.{catalogues, store_of}
use Rattle.hs_fold.specs.Shards.Images.{AreGoodImages, Image, IsGoodImage}
use Rattle.hs_fold.specs.Shards.Setting.{Numbered}
use Rattle.hs_journal.specs.Moments.{below}
use Rattle.hs_model.specs.Run.{Event, IsLegal, run}
use Rattle.hs_model.specs.Store.{reborn}
use Rattle.hs_moments.specs.Joint.{AtMoment}
use Rattle.hs_moments.specs.Machine.{Machine}
use Rattle.hs_moments.specs.WholeMachine.{last_of}
use Rattle.hs_peerlog.specs.Images.{LeavesOnly}
use Rattle.hs_ports.specs.Moments.{disk_at}
use Rattle.hs_ports.specs.Objects.{IsDuring}
use Rattle.hs_promise.specs.Entry.{MayStop, counted_course, entry_logs, entry_store, is_aside}
use Rattle.hs_promise.specs.Run.{Ran, Script}
use Rattle.hs_promise.specs.Stops.{Reopens as ReopensAt, stop_at}
use Rattle.hs_side.specs.Current.{list_in}
use Rattle.hs_sound.specs.Stay.{AreSoundAlong}
use Rattle.hs_standing.proofs.ImageLemmas.{good_image_is_log, images_reopen}
use Rattle.hs_standing.proofs.StopsOpenLemmas.{opened_left, opened_took}
use Rattle.hs_standing.proofs.StopsRecordLemmas.{lines_once}
use Rattle.hs_standing.specs.Left.{EachLineOnce, TookEffect}
use Rattle.hs_standing.specs.Lists.{Lists, whole_from}
use Rattle.hs_standing.specs.Stands.{Stands, lists_of}
use Rattle.hs_standing.specs.Start.{IsAwaited, events_in}
use Rattle.hs_standing.specs.Suffices.{all_asked, asked_lines}

-- at a moment the disk of a peer has the list that it had at entry, which counts and all of which took effect
pub record IsRested (S : Script) (r : Ran) (m p : ℕ) : Type 0 where
  pub list : Numbered
  pub read : list_in (disk_at r.old.disks p).seen ≡ Some list
  pub counts : is_aside S r p ≡ false
  pub took : taken_below (counted_course S r) m p ≡ (rank_of list).number
  pub kept : KeepsList r p

-- ---- of lists of which all took effect nothing waits

pub drop_all : (list : Numbered) → drop (length list) list ≡ []
drop_all list = ap (λ (xs : Numbered). drop (length list) xs) (sym (append-nil list)) ∙ drop_at list [] (length list) refl

none_asked : (lists : Lists) (k n : ℕ) → ((g : ℕ) → k ≤ g → g < k + n → lists.front g ≡ length (lists.whole g)) → all_asked lists k n ≡ []
none_asked lists k zero all = refl
none_asked lists k (suc n) all =
    ap (λ (xs : Numbered). asked_lines xs ++ all_asked lists (k + 1) n) (ap (λ j. drop j (lists.whole k)) (all k (omega arith) (omega arith)) ∙ drop_all (lists.whole k))
    ∙ none_asked lists (k + 1) n (λ g low high. all g (omega (arith, low)) (omega (arith, high)))

pub no_pairs : (lines : List ℕ) → lines ≡ [] → AllPairs (λ (one other : ℕ). one ≢ other) lines
no_pairs lines none = subst (λ (xs : List ℕ). AllPairs (λ (one other : ℕ). one ≢ other) xs) (sym none) (λ i j d before low. absurd (omega (arith, low)))

module _ (S : Script) (r : Ran) (on : OnDisks S r) (may : MayStop S r) (notes : AllByRecursion IsNote r.journal) (m : ℕ) (during : IsDuring r.old r.new m)
    (rested : (p : ℕ) → p < S.set.shape.shards → is_good (counted_course S r) m p ≡ true → IsRested S r m p) where
  -- the list of the disk of a peer as it was at entry
  abbrev list_at : ℕ → Numbered
  list_at p = unwrap_or (list_in (disk_at r.old.disks p).seen) []

  -- whether a peer is good then
  abbrev good_then : ℕ → Bool
  good_then p = nat_lt p S.set.shape.shards && is_good (counted_course S r) m p

  -- ---- the one state of it

  abbrev at_rest : Machine ℕ ℕ
  at_rest = record {
    step = λ c e at. c;
    counts = λ c peer. good_then peer;
    reach = λ c peer. list_at peer;
    floor = λ c peer. last_of (list_at peer);
    good = λ c peer. good_then peer;
    front = λ c shard. taken_below (counted_course S r) m shard;
    journal = λ c. below m r.journal;
    begins = λ e. None;
  }

  rest_of : (p : ℕ) → good_then p ≡ true → IsRested S r m p
  rest_of p good = let parts = and_parts (nat_lt p S.set.shape.shards) (is_good (counted_course S r) m p) good in rested p (ltb-true p S.set.shape.shards parts.0) parts.1

  list_is : (p : ℕ) (rest : IsRested S r m p) → list_at p ≡ rest.list
  list_is p rest = ap (λ (o : Option Numbered). unwrap_or o []) rest.read

  only : (p : ℕ) (rest : IsRested S r m p) → LeavesOnly (disk_at r.old.disks p) rest.list
  only p rest = λ image stands. may.one p rest.counts image stands.sides ∙ rest.read

  good_is : (p : ℕ) → p < S.set.shape.shards → is_good (counted_course S r) m p ≡ good_then p
  good_is p low = sym (ap (λ b. b && is_good (counted_course S r) m p) (lt-ltb p S.set.shape.shards low))

  one_copy : S.set.shape.shards * S.set.shape.copies ≡ S.set.shape.shards
  one_copy = ap (λ n. S.set.shape.shards * n) on.one ∙ omega arith

  moment : AtMoment at_rest (λ c. Unit {0}) S.set.shape (counted_course S r) r.journal m r.new.disks
  moment = record {
    core = 0;
    tells = record {
      sane = tt;
      answered = refl;
      good = λ p low. good_is p (let all = one_copy in omega (arith, all, low));
      taken = λ shard low. refl;
    };
    lists = λ p is image left.
        let rest : IsRested S r m p = rest_of p is in
        let same : list_at p ≡ rest.list = list_is p rest in
        record {
          list = rest.list;
          read = rest.kept rest.list (only p rest) m during image left;
          front = ([], same ∙ sym (append-nil rest.list));
          long = let last = ap (λ (l : Numbered). last_of l) same in omega (arith, last);
        };
  }

  -- the images of good peers are logs
  pub rest_logs : (images : List Image) (peer : ℕ) → peer < length r.new.disks → IsGoodImage (stop_at S r m) images peer → IsSome (list_in (image_at images peer))
  rest_logs images peer low good =
      good_image_is_log at_rest (λ c. Unit {0}) (start_of S r) (stop_at S r m) r.journal moment images peer
      (let all = one_copy in let many = on.left in omega (arith, all, many, low)) (λ p h. h) good

  -- ---- where all are good

  module _ (all_good : (g : ℕ) → g < S.set.shape.shards → good_then g ≡ true) where
    abbrev lists : Lists
    lists = lists_of at_rest 0

    numbered : (g : ℕ) → g < S.set.shape.shards → IsNumbered (list_at g)
    numbered g low =
        let rest : IsRested S r m g = rest_of g (all_good g low) in
        subst (λ (list : Numbered). IsNumbered list) (sym (list_is g rest)) (read_numbered (disk_at r.old.disks g).seen rest.list rest.read)

    all_took : (g : ℕ) → g < S.set.shape.shards → taken_below (counted_course S r) m g ≡ length (list_at g)
    all_took g low =
        let rest : IsRested S r m g = rest_of g (all_good g low) in
        rest.took ∙ ap (λ (list : Numbered). (rank_of list).number) (sym (list_is g rest)) ∙ last-length (list_at g) (numbered g low)

    entry_is : (g : ℕ) → g < S.set.shape.shards → unwrap_or (slice_index_or (entry_logs S r) g None) [] ≡ list_at g
    entry_is g low =
        let rest : IsRested S r m g = rest_of g (all_good g low) in
        ap (λ (o : Option Numbered). unwrap_or o [])
        (entry_log S r g (let disks = on.disks in omega (arith, low, disks)) ∙ ap (λ b. if b then None else list_in (disk_at r.old.disks g).seen) rest.counts)

    lists_are : taken_lists S.set.shape (entry_logs S r) ≡ whole_from lists 0 S.set.shape.shards
    lists_are = entry_lists S r lists on.one on.disks entry_is

    along : AreSoundAlong S.set (whole_from lists 0 S.set.shape.shards)
    along = subst (λ (ls : List Numbered). AreSoundAlong S.set ls) lists_are may.sound

    first_took : TookEffect (start_of S r) [] lists
    first_took = opened_took (start_of S r) lists all_took along (ap (λ (ls : List Numbered). store_of (catalogues S.set 0 ls)) lists_are)

    none : events_in (start_of S r) (below m r.journal) ≡ []
    none = no_events (record { commands = S.commands; name = S.set.name; limits = S.set.limits }) (entry_store S r) (below m r.journal) (notes_below m r.journal notes)

    took : TookEffect (start_of S r) (below m r.journal) lists
    took = record {
      legal = subst (λ (es : List Event). IsLegal S.set.limits (entry_store S r) es) (sym none) tt;
      stood = first_took.stood ∙ ap (λ (es : List Event). reborn (run S.set.limits (entry_store S r) es)) (sym none);
      lawful = first_took.lawful;
      records = first_took.records;
    }

    once : EachLineOnce (start_of S r) lists
    once =
        lines_once (start_of S r) lists (λ g low. (numbered g low, (let is = all_took g low in omega (arith, is))))
        (no_pairs (all_asked lists 0 S.set.shape.shards) (none_asked lists 0 S.set.shape.shards (λ g low high. all_took g (omega (arith, high)))))

    stands : Stands at_rest (start_of S r) (stop_at S r m) 0
    stands = record {
      counted = λ p h. h;
      sealed = λ p good.
          let rest : IsRested S r m p = rest_of p good in
          let is : taken_below (counted_course S r) m p ≡ last_of (list_at p) = rest.took ∙ ap (λ (list : Numbered). last_of list) (sym (list_is p rest)) in
          omega (arith, is);
      took = took;
      left = λ g low. opened_left (start_of S r) lists all_took along (IsAwaited (start_of S r) (stop_at S r m) (below m r.journal)) g low (numbered g low);
      once = once;
    }

  -- whatever images count reopen
  pub rest_reopens : ((line : ℕ) → IsBegun (counted_course S r) line m → IsBegun r.course line m) → (images : List Image) → AreGoodImages S.set.shape (stop_at S r m) images → ReopensAt S (entry_store S r) r m images
  unfolding moment
  rest_reopens begun images good =
      fits S r m images begun
      (images_reopen at_rest (λ c. Unit {0}) (start_of S r) (stop_at S r m) r.journal on.shape on.one on.left moment stands images good)
