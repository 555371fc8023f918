-- Of a shard's peers the log of greatest rank is taken, and the first of equals: as a list of all lists says it.
use Rattle.std.proofs.Common.{◌≡◌, ◌∙◌, ◌⊎◌, inl, inr, ap, sym, ℕ, zero, suc, ◌+◌, ◌*◌, ◌-◌, ◌/◌, ◌%◌, ◌<◌, ◌≤◌, ◌==◌, ◌&&◌, ◌||◌, Bool, true, false, List, [], ◌∷◌, Option, Some, None, refl, arith, length, map, nat_lt, is_some, take, drop}
use Rattle.std.proofs.lemmas.Bool.{cases_lt}
use Rattle.std.proofs.lemmas.Bool.Decides.{nat_tests}
use Rattle.std.proofs.lemmas.Nat.{div-add-mod', div-mul-add, div_below, mod_below}
use Rattle.std.specs.List.{list_any, range_with_len}
use Rattle.std.specs.Prelude.{find, if◌then◌else◌, slice_get, slice_index_or}
use Rattle.hs_entry.specs.declared.rank.Rank.{Rank}
use Rattle.hs_entry.specs.Entries.{rank_of}
use Rattle.hs_fold.specs.Opened.{chosen, chosen_each, outranks}
use Rattle.hs_fold.specs.Shards.Setting.{Numbered}
use Rattle.hs_limits.specs.declared.shape.Shape.{Shape}
use Rattle.hs_limits.specs.Shape.{peer_of}
use Rattle.hs_members.specs.Members.{home_of}

false_is_not : false ≡ true → ⊥
false_is_not e = cc e

-- ---- peers of a shard

pub home_low : (shape : Shape) (peer : ℕ) → peer_of shape (home_of shape peer) 0 ≤ peer
home_low shape peer =
    let e : peer / shape.copies * shape.copies + peer % shape.copies ≡ peer = div-add-mod' peer shape.copies in
    omega (arith, e)

pub home_high : (shape : Shape) (peer : ℕ) → 0 < shape.copies → peer < peer_of shape (home_of shape peer) 0 + shape.copies
home_high shape peer h =
    let e : peer / shape.copies * shape.copies + peer % shape.copies ≡ peer = div-add-mod' peer shape.copies in
    let m : peer % shape.copies < shape.copies = mod_below peer shape.copies h in
    omega (arith, e, m)

pub home_between : (shape : Shape) (shard peer : ℕ) → peer_of shape shard 0 ≤ peer → peer < peer_of shape shard 0 + shape.copies → home_of shape peer ≡ shard
home_between shape shard peer l h =
    let e : peer_of shape shard (peer - peer_of shape shard 0) ≡ peer = omega (arith, l) in
    ap (home_of shape) (sym e) ∙ div-mul-add shard shape.copies (peer - peer_of shape shard 0) (omega (arith, l, h))

pub home_within : (shape : Shape) (peer : ℕ) → 0 < shape.copies → peer < shape.shards * shape.copies → home_of shape peer < shape.shards
home_within shape peer c h = div_below peer shape.copies shape.shards c h

-- ---- ranks

-- no list is below the empty one, and none above itself
pub none_below : (rank : Rank) → outranks (rank_of []) rank ≡ false
unfolding rank_of
none_below rank = low rank.view rank.number
  where
    low : (view number : ℕ) → (nat_lt view 0 || (0 == view && nat_lt number 0)) ≡ false
    low view number = grind (arith, nat_tests)

pub none_above : (rank : Rank) → outranks rank rank ≡ false
none_above rank = same rank.view rank.number
  where
    same : (view number : ℕ) → (nat_lt view view || (view == view && nat_lt number number)) ≡ false
    same view number = grind (arith, nat_tests)

-- a list is above the empty one, or has the least rank
pub above_or_least : (rank : Rank) → (outranks rank (rank_of []) ≡ true) ⊎ (rank ≡ record { view = 0; number = 0 })
unfolding rank_of
above_or_least rank = by rank.view rank.number refl refl
  where
    one : (a b : ℕ) → 0 < a → (nat_lt 0 a || (a == 0 && nat_lt 0 b)) ≡ true
    one a b low = grind (arith, nat_tests, low)

    two : (a b : ℕ) → 0 < b → (nat_lt 0 a || (a == 0 && nat_lt 0 b)) ≡ true
    two a b low = grind (arith, nat_tests, low)

    by : (view number : ℕ) → rank.view ≡ view → rank.number ≡ number → (outranks rank (record { view = 0; number = 0 }) ≡ true) ⊎ (rank ≡ record { view = 0; number = 0 })
    by zero zero v n = inr (λ i. record { view = v i; number = n i })
    by (suc view) number v n = inl (one rank.view rank.number (omega (arith, v)))
    by zero (suc number) v n = inl (two rank.view rank.number (omega (arith, n)))

-- ---- the list of greatest rank

chosen_among : (f : ℕ → Numbered) (a c : ℕ) → (chosen (map f (range_with_len a c)) ≡ []) ⊎ ((j : ℕ) × (a ≤ j) × (j < a + c) × (chosen (map f (range_with_len a c)) ≡ f j))
chosen_among f a zero = inl refl
chosen_among f a (suc c) = go (outranks (rank_of (chosen (map f (range_with_len (a + 1) c)))) (rank_of (f a))) refl (chosen_among f (a + 1) c)
  where
    rest : Numbered
    rest = chosen (map f (range_with_len (a + 1) c))

    go : (b : Bool) → outranks (rank_of (chosen (map f (range_with_len (a + 1) c)))) (rank_of (f a)) ≡ b
        → (chosen (map f (range_with_len (a + 1) c)) ≡ []) ⊎ ((j : ℕ) × (a + 1 ≤ j) × (j < a + 1 + c) × (chosen (map f (range_with_len (a + 1) c)) ≡ f j))
        → (chosen (map f (range_with_len a (suc c))) ≡ []) ⊎ ((j : ℕ) × (a ≤ j) × (j < a + suc c) × (chosen (map f (range_with_len a (suc c))) ≡ f j))
    go true is h = elim h [
      | inl none ↦ inl (ap (λ b. if b then chosen (map f (range_with_len (a + 1) c)) else f a) is ∙ none)
      | inr some ↦ inr (some.0, omega (arith, some.1), omega (arith, some.2), ap (λ b. if b then chosen (map f (range_with_len (a + 1) c)) else f a) is ∙ some.3)
    ]
    go false is h = inr (a, omega arith, omega arith, ap (λ b. if b then chosen (map f (range_with_len (a + 1) c)) else f a) is)

-- the place from which on none is above it, and before which each is below it or equal
pub chosen_is : (f : ℕ → Numbered) (a c k : ℕ) → a ≤ k → k < a + c → ((j : ℕ) → a ≤ j → j < a + c → outranks (rank_of (f j)) (rank_of (f k)) ≡ false)
    → ((j : ℕ) → a ≤ j → j < k → (outranks (rank_of (f k)) (rank_of (f j)) ≡ true) ⊎ (f j ≡ f k)) → chosen (map f (range_with_len a c)) ≡ f k
chosen_is f a zero k low high best first = absurd (omega (arith, low, high))
chosen_is f a (suc c) k low high best first = elim (cases_lt a k) [
  | inl below ↦
      let ih : chosen (map f (range_with_len (a + 1) c)) ≡ f k = chosen_is f (a + 1) c k (omega (arith, below)) (omega (arith, high)) (λ j l h. best j (omega (arith, l)) (omega (arith, h))) (λ j l h. first j (omega (arith, l)) h) in
      elim (first a (omega arith) below) [
        | inl above ↦ ap (λ b. if b then chosen (map f (range_with_len (a + 1) c)) else f a) (ap (λ l. outranks (rank_of l) (rank_of (f a))) ih ∙ above) ∙ ih
        | inr same ↦ ap (λ b. if b then chosen (map f (range_with_len (a + 1) c)) else f a) (ap (λ l. outranks (rank_of l) (rank_of (f a))) (ih ∙ sym same) ∙ none_above (rank_of (f a))) ∙ same
      ]
  | inr above ↦
      let here : k ≡ a = omega (arith, low, above) in
      let not_above : outranks (rank_of (chosen (map f (range_with_len (a + 1) c)))) (rank_of (f a)) ≡ false = elim (chosen_among f (a + 1) c) [
        | inl none ↦ ap (λ l. outranks (rank_of l) (rank_of (f a))) none ∙ none_below (rank_of (f a))
        | inr some ↦ ap (λ l. outranks (rank_of l) (rank_of (f a))) some.3 ∙ ap (λ n. outranks (rank_of (f some.0)) (rank_of (f n))) (sym here) ∙ best some.0 (omega (arith, some.1)) (omega (arith, some.2))
      ] in
      ap (λ b. if b then chosen (map f (range_with_len (a + 1) c)) else f a) not_above ∙ ap f (sym here)
]

-- ---- the lists of one shard among all

pub chosen_at : (n s c : ℕ) (lists : List Numbered) → s < n → slice_index_or (chosen_each n c lists) s [] ≡ chosen (take c (drop (s * c) lists))
chosen_at zero s c lists low = absurd (omega (arith, low))
chosen_at (suc n) zero c lists low =
    let none : 0 * c ≡ 0 = omega arith in
    sym (ap (λ k. chosen (take c (drop k lists))) none)
chosen_at (suc n) (suc s) c lists low = chosen_at n s c (drop c lists) (omega (arith, low)) ∙ ap (λ xs. chosen (take c xs)) (drop_twice (s * c) c lists ∙ ap (λ k. drop k lists) (omega arith))
  where
    the_nil : List Numbered
    the_nil = []

    drop_nil : (k : ℕ) → drop k the_nil ≡ the_nil
    drop_nil zero = refl
    drop_nil (suc k) = refl

    drop_twice : (a b : ℕ) (xs : List Numbered) → drop a (drop b xs) ≡ drop (b + a) xs
    drop_twice a zero xs = let e : a ≡ 0 + a = omega arith in ap (λ k. drop k xs) e
    drop_twice a (suc b) [] = drop_nil a ∙ sym (drop_nil (suc b + a))
    drop_twice a (suc b) (x ∷ xs) = let e : suc (b + a) ≡ suc b + a = omega arith in drop_twice a b xs ∙ ap (λ k. drop k (x ∷ xs)) e

-- ---- the first of a range that passes

pub find_first : (p : ℕ → Bool) (a c k : ℕ) → a ≤ k → k < a + c → p k ≡ true → ((j : ℕ) → a ≤ j → j < k → p j ≡ false) → find p (range_with_len a c) ≡ Some k
find_first p a zero k low high is first = absurd (omega (arith, low, high))
find_first p a (suc c) k low high is first = elim (cases_lt a k) [
  | inl below ↦ ap (λ b. if b then Some a else find p (range_with_len (a + 1) c)) (first a (omega arith) below) ∙ find_first p (a + 1) c k (omega (arith, below)) (omega (arith, high)) is (λ j l h. first j (omega (arith, l)) h)
  | inr above ↦
      let here : k ≡ a = omega (arith, low, above) in
      ap (λ b. if b then Some a else find p (range_with_len (a + 1) c)) (ap p (sym here) ∙ is) ∙ ap (λ n. Some n) (sym here)
]

pub find_none : (p : ℕ → Bool) (a c : ℕ) → ((j : ℕ) → a ≤ j → j < a + c → p j ≡ false) → find p (range_with_len a c) ≡ None
find_none p a zero none = refl
find_none p a (suc c) none = ap (λ b. if b then Some a else find p (range_with_len (a + 1) c)) (none a (omega arith) (omega arith)) ∙ find_none p (a + 1) c (λ j l h. none j (omega (arith, l)) (omega (arith, h)))

pub any_same : (p q : ℕ → Bool) (xs : List ℕ) → ((k : ℕ) → p k ≡ q k) → list_any p xs ≡ list_any q xs
any_same p q [] h = refl
any_same p q (x ∷ xs) h = λ i. h x i || any_same p q xs h i

pub any_there : (p : ℕ → Bool) (a c k : ℕ) → a ≤ k → k < a + c → p k ≡ true → list_any p (range_with_len a c) ≡ true
any_there p a zero k low high is = absurd (omega (arith, low, high))
any_there p a (suc c) k low high is = elim (cases_lt a k) [
  | inl below ↦ ap (λ b. p a || b) (any_there p (a + 1) c k (omega (arith, below)) (omega (arith, high)) is) ∙ or_true (p a)
  | inr above ↦
      let here : k ≡ a = omega (arith, low, above) in
      ap (λ b. b || list_any p (range_with_len (a + 1) c)) (ap p (sym here) ∙ is)
]
  where
    or_true : (b : Bool) → (b || true) ≡ true
    or_true true = refl
    or_true false = refl

-- ---- by place

pub get_there : {A : Type 0} (xs : List A) (k : ℕ) (d : A) → k < length xs → slice_get xs k ≡ Some (slice_index_or xs k d)
get_there [] k d low = absurd (omega (arith, low))
get_there (x ∷ xs) zero d low = refl
get_there (x ∷ xs) (suc k) d low = get_there xs k d (omega (arith, low))

pub some_at : {A : Type 0} (xs : List (Option A)) (k : ℕ) → slice_index_or (map (λ x. is_some x) xs) k false ≡ is_some (slice_index_or xs k None)
some_at [] k = refl
some_at (x ∷ xs) zero = refl
some_at (x ∷ xs) (suc k) = some_at xs k
