-- Where no operation and no entry is open, no peer joins, and no shard is in a run, nothing is open.
use Rattle.std.proofs.Common.{◌≡◌, ◌∙◌, ◌⊎◌, inl, inr, sym, ap, subst, ℕ, zero, suc, ◌+◌, ◌*◌, ◌<◌, ◌≤◌, ◌==◌, ◌||◌, Bool, false, not, List, [], ◌∷◌, refl, length, map, arith, tests, nat_lt, slice_index, slice_index_or}
use Rattle.std.specs.List.{list_any, range_with_len}
use Rattle.std.specs.Prelude.{fold, max}
use Rattle.std.proofs.Math.Nat.{max-le}
use Rattle.hs_answered.specs.Standing.{IsFolded, store_with, forget_all}
use Rattle.hs_awaiting.specs.declared.waiting.Waiting.{Waiting}
use Rattle.hs_core_words.specs.Looking.{group_of, shape_of, status_of, top_epoch, open_work}
use Rattle.hs_core_words.specs.State.{Core}
use Rattle.hs_entry.specs.declared.entry.Entry.{Entry}
use Rattle.hs_fold.specs.Runs.Facts.{Catalogue as Folded}
use Rattle.hs_fold.specs.Runs.Fits.{catalogue_at}
use Rattle.hs_fold.specs.Runs.Opened.{store_of}
use Rattle.hs_joint.proofs.ListedLemmas.{epoch-at, epochs-length}
use Rattle.hs_laws.proofs.EpochLemmas.{least_epoch-at}
use Rattle.hs_laws.specs.Valid.{IsValid, least_epoch}
use Rattle.hs_limits.specs.declared.limits.PeerStatus.{PeerStatus}
use Rattle.hs_members.specs.Members.{all_peers, is_joining}
use Rattle.hs_replica.specs.Group.{Group, new_group}
use Rattle.hs_joint.proofs.HistoryLemmas.{shape_some}
use Rattle.hs_standing.specs.Telling.{told_so_far}
use Rattle.hs_standing.proofs.ValidLemmas.{told_valid}
use Rattle.hs_quiet.proofs.SweptLemmas.{Below, all_swept}
use Rattle.hs_quiet.proofs.RowLemmas.{le_or}
use Rattle.hs_quiet.specs.Settled.{IsLeft}
use Rattle.hs_quiet.specs.Keeping.{AreInStep}
use Rattle.hs_quiet.proofs.StartLemmas.{seated_all}
use Rattle.hs_answered.specs.Telling.{Judging}
use Rattle.hs_standing.specs.Legal.{IsStanding}
use Rattle.hs_model.specs.Store.{Store}
use Rattle.hs_limits.specs.declared.limits.PeerStatus.TheVariants.{Down, Good, Joining}
use Rattle.hs_limits.specs.declared.shape.Shape.{Shape}
use Rattle.hs_shard.specs.Facts.{Catalogue}

-- ---- lists

none_any : {X : Type 0} (test : X → Bool) (xs : List X) (d : ℕ → X) → ((i : ℕ) → i < length xs → test (slice_index_or xs i (d i)) ≡ false) → list_any test xs ≡ false
none_any test [] d h = refl
none_any test (x ∷ xs) d h = (λ i. h 0 (omega arith) i || none_any test xs (λ k. d (suc k)) (λ k low. h (suc k) (omega (arith, low))) i)

none_range : (test : ℕ → Bool) (k n : ℕ) → ((i : ℕ) → i < k + n → test i ≡ false) → list_any test (range_with_len k n) ≡ false
none_range test k zero h = refl
none_range test k (suc n) h = (λ i. h k (omega arith) i || none_range test (k + 1) n (λ j low. h j (omega (arith, low))) i)

most_at : (top : ℕ) (cs : List Catalogue) (a : ℕ) → a ≤ top → ((k : ℕ) → k < length cs → slice_index (map (λ (c : Catalogue). c.epoch) cs) k ≤ top) → fold (λ t c. max t c.epoch) a cs ≤ top
most_at top [] a le h = le
most_at top (c ∷ cs) a le h = most_at top cs (max a c.epoch) (max-le le (h 0 (omega arith))) (λ k low. h (suc k) (omega (arith, low)))

none_below : (top : ℕ) (cs : List Catalogue) → ((k : ℕ) → k < length cs → top ≤ slice_index (map (λ (c : Catalogue). c.swept) cs) k) → list_any (λ (c : Catalogue). nat_lt c.swept top) cs ≡ false
none_below top [] h = refl
none_below top (c ∷ cs) h = (λ i. not_less c.swept (h 0 (omega arith)) i || none_below top cs (λ k low. h (suc k) (omega (arith, low))) i)
  where
    not_less : (w : ℕ) → top ≤ w → nat_lt w top ≡ false
    not_less w le = grind (arith, tests, le)

length_map : {X Y : Type 0} (f : X → Y) (xs : List X) → length (map f xs) ≡ length xs
length_map f [] = refl
length_map f (x ∷ xs) = ap (λ n. suc n) (length_map f xs)

-- ---- what the folds have

epochs_are : (shape : Shape) (from : ℕ) (cs : List Folded) → map (λ (c : Catalogue). c.epoch) (forget_all shape from cs) ≡ (store_of cs).epochs
epochs_are shape from [] = refl
epochs_are shape from (c ∷ cs) = ap (λ rest. c.epoch ∷ rest) (epochs_are shape (from + 1) cs)

swept_are : (shape : Shape) (from : ℕ) (cs : List Folded) → map (λ (c : Catalogue). c.swept) (forget_all shape from cs) ≡ (store_of cs).swept
swept_are shape from [] = refl
swept_are shape from (c ∷ cs) = ap (λ rest. c.swept ∷ rest) (swept_are shape (from + 1) cs)

-- ---- all of it

module _ (core : Core) (cs : List Folded) (folded : IsFolded core cs) (valid : IsValid (store_with cs core.sessions)) (groups : length core.groups ≡ (shape_of core).shards) (joins : (peer : ℕ) → status_of peer core ≡ Joining → ⊥) (operations : core.operations ≡ [])
    (lists : (shard : ℕ) → shard < (shape_of core).shards → (group_of shard core).waiting ≡ []) (swept : (k : ℕ) → k < (shape_of core).shards → (catalogue_at cs k).swept < (catalogue_at cs k).epoch → ⊥) where
  epochs : map (λ (c : Catalogue). c.epoch) core.catalogues ≡ (store_of cs).epochs
  epochs = ap (λ (xs : List Catalogue). map (λ (c : Catalogue). c.epoch) xs) folded.catalogues ∙ epochs_are (shape_of core) 0 cs

  swepts : map (λ (c : Catalogue). c.swept) core.catalogues ≡ (store_of cs).swept
  swepts = ap (λ (xs : List Catalogue). map (λ (c : Catalogue). c.swept) xs) folded.catalogues ∙ swept_are (shape_of core) 0 cs

  many : length core.catalogues ≡ (shape_of core).shards
  many = sym (length_map (λ (c : Catalogue). c.epoch) core.catalogues) ∙ ap (λ (xs : List ℕ). length xs) epochs ∙ epochs-length cs ∙ folded.shards

  swept_at : (ds : List Folded) (k : ℕ) → k < length ds → slice_index (store_of ds).swept k ≡ (catalogue_at ds k).swept
  swept_at [] k low = absurd (omega (arith, low))
  swept_at (c ∷ ds) zero low = refl
  swept_at (c ∷ ds) (suc k) low = swept_at ds k (omega (arith, low))

  -- every epoch is swept by every shard
  above : (j k : ℕ) → j < (shape_of core).shards → k < (shape_of core).shards → slice_index (store_of cs).epochs j ≤ slice_index (store_of cs).swept k
  above j k lj lk =
      let each = folded.shards in
      let long = epochs-length cs in
      let a = epoch-at cs j (omega (arith, lj, each)) in
      let b = swept_at cs k (omega (arith, lk, each)) in
      let d = epoch-at cs k (omega (arith, lk, each)) in
      let e = swept_at cs j (omega (arith, lj, each)) in
      let entered = valid.epochs.swept_entered j (omega (arith, lj, each, long)) in
      let least = least_epoch-at (store_with cs core.sessions) k (omega (arith, lk, each, long)) in
      by_less (le_or (catalogue_at cs j).epoch (catalogue_at cs j).swept) (le_or (catalogue_at cs k).epoch (catalogue_at cs k).swept) a b d e entered least
    where
      by_less : ((catalogue_at cs j).epoch ≤ (catalogue_at cs j).swept) ⊎ ((catalogue_at cs j).swept < (catalogue_at cs j).epoch) → ((catalogue_at cs k).epoch ≤ (catalogue_at cs k).swept) ⊎ ((catalogue_at cs k).swept < (catalogue_at cs k).epoch)
          → slice_index (store_of cs).epochs j ≡ (catalogue_at cs j).epoch → slice_index (store_of cs).swept k ≡ (catalogue_at cs k).swept → slice_index (store_of cs).epochs k ≡ (catalogue_at cs k).epoch
          → slice_index (store_of cs).swept j ≡ (catalogue_at cs j).swept → slice_index (store_of cs).swept j ≤ least_epoch (store_with cs core.sessions) → least_epoch (store_with cs core.sessions) ≤ slice_index (store_of cs).epochs k
          → slice_index (store_of cs).epochs j ≤ slice_index (store_of cs).swept k
      by_less (inl p) (inl q) a b d e entered least = omega (arith, p, q, a, b, d, e, entered, least)
      by_less (inr p) other a b d e entered least = absurd (swept j lj p)
      by_less (inl p) (inr q) a b d e entered least = absurd (swept k lk q)

  top_low : (k : ℕ) → k < (shape_of core).shards → top_epoch core ≤ slice_index (store_of cs).swept k
  top_low k low =
      most_at (slice_index (store_of cs).swept k) core.catalogues 0 (omega arith)
      (λ j lj. subst (λ (xs : List ℕ). slice_index xs j ≤ slice_index (store_of cs).swept k) (sym epochs) (above j k (let e = many in omega (arith, lj, e)) low))

  none_unswept : list_any (λ (c : Catalogue). nat_lt c.swept (top_epoch core)) core.catalogues ≡ false
  none_unswept = none_below (top_epoch core) core.catalogues (λ k low. subst (λ (xs : List ℕ). top_epoch core ≤ slice_index xs k) (sym swepts) (top_low k (let e = many in omega (arith, low, e))))

  none_wait : list_any (λ (group : Group). not (length group.waiting == 0)) core.groups ≡ false
  none_wait = none_any (λ (group : Group). not (length group.waiting == 0)) core.groups (λ k. new_group (shape_of core) k 0 0 [])
      (λ k low. ap (λ (es : List Entry). not (length es == 0)) (lists k (omega (arith, low, groups))))

  not_joining : (k : PeerStatus) → (k ≡ Joining → ⊥) → is_joining k ≡ false
  not_joining Good n = refl
  not_joining Down n = refl
  not_joining Joining n = absurd (n refl)

  none_join : list_any (λ (peer : ℕ). is_joining (status_of peer core)) (all_peers (shape_of core)) ≡ false
  none_join = none_range (λ (peer : ℕ). is_joining (status_of peer core)) 0 ((shape_of core).shards * (shape_of core).copies) (λ peer low. not_joining (status_of peer core) (joins peer))

  pub nothing_open : open_work core ≡ false
  nothing_open = λ i. not (ap (λ (os : List (ℕ × Waiting)). length os == 0) operations i) || (none_wait i || (none_unswept i || none_join i))

-- ---- what a settle left

pub left_open : Below → (by : Judging) (start : Store) (core : Core) (cs : List Folded) → IsValid start → IsStanding by start core cs → AreInStep core → IsLeft core → core.operations ≡ [] → open_work core ≡ false
left_open below by start core cs sound stands all left operations = elim left.quiet [
  | inl none ↦ none
  | inr quiet ↦
      let valid : IsValid (store_with cs core.sessions) = told_valid by start (told_so_far core) (store_with cs core.sessions) sound stands.tells in
      nothing_open core cs stands.lawful.folded valid (seated_all core all).groups left.joins operations left.lists
      (all_swept below by.name core cs stands.lawful valid (shape_some (shape_of core) stands.lawful.folded.valid) quiet left.lists)
]
