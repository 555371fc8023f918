-- Lines that pass a test, found one after another.
use Rattle.std.proofs.Common.{◌≡◌, ◌∙◌, sym, ap, ℕ, ◌+◌, ◌<◌, ◌≤◌, Bool, true, false, cond, ◌&&◌, List, [], ◌∷◌, ◌++◌, Option, Some, None, refl, map, filter, arith, ◌⊎◌, inl, inr}
use Rattle.std.proofs.lemmas.Bool.{cases_eq, le-leb, leb-true, lt-leb}
use Rattle.std.proofs.lemmas.List.{append-nil, append_assoc}
use Rattle.std.proofs.lemmas.Map.Keys.{sorted_tail}
use Rattle.std.specs.List.Sorted.{IsStrictlySortedBy}
use Rattle.std.specs.Map.{keys_of}
use Rattle.std.specs.Option.{option_map_or}
use Rattle.std.specs.Ordering.{nat_cmp}
use Rattle.std.specs.Prelude.{nat_le}
use Rattle.hs_awaiting.specs.declared.waiting.Waiting.{Waiting}
use Rattle.hs_awaiting.specs.Indexing.{found_in, lines_from, passes}
use Rattle.hs_post.proofs.OrderLemmas.{above_first, finds_here, finds_there, not_behind}
use Rattle.hs_waits.specs.Lines.{IsFirstFrom}

-- the first key is below the second
pub below_next : (j i : ℕ) (x : Waiting) (es : List (ℕ × Waiting)) → IsStrictlySortedBy nat_cmp (j ∷ i ∷ keys_of es) → j < i
below_next j i x es sorted = above_first (λ (w : Waiting). true) ((i, x) ∷ es) j i sorted (finds_here (λ (w : Waiting). true) es i x)

and_true : (x y : Bool) → x ≡ true → y ≡ true → (x && y) ≡ true
and_true x y e f = rw (e, f) refl

and_false : (x y : Bool) → y ≡ false → (x && y) ≡ false
and_false true y f = f
and_false false y f = refl

not_both : (x y : Bool) → (x ≡ true → y ≡ true → true ≡ false) → (x && y) ≡ false
not_both true true h = h refl refl
not_both true false h = refl
not_both false y h = refl

module _ (p : Waiting → Bool) where
  keeps : (from j : ℕ) (x : Waiting) (es : List (ℕ × Waiting)) → (nat_le from j && p x) ≡ true → lines_from from p ((j, x) ∷ es) ≡ j ∷ lines_from from p es
  keeps from j x es h = rw h refl

  skips : (from j : ℕ) (x : Waiting) (es : List (ℕ × Waiting)) → (nat_le from j && p x) ≡ false → lines_from from p ((j, x) ∷ es) ≡ lines_from from p es
  skips from j x es h = rw h refl

  -- where all are above j it is no matter from where
  same_from : (es : List (ℕ × Waiting)) (a b j : ℕ) → IsStrictlySortedBy nat_cmp (j ∷ keys_of es) → a ≤ j + 1 → b ≤ j + 1 → lines_from a p es ≡ lines_from b p es
  same_from [] a b j sorted low lower = refl
  same_from ((i, x) ∷ es) a b j sorted low lower =
      let up : j < i = below_next j i x es sorted in
      let first : nat_le a i ≡ true = le-leb a i (omega arith) in
      let second : nat_le b i ≡ true = le-leb b i (omega arith) in
      let rest : lines_from a p es ≡ lines_from b p es = same_from es a b i (sorted_tail nat_cmp j (i ∷ keys_of es) sorted) (omega arith) (omega arith) in
      go (p x) refl first second rest
    where
      go : (c : Bool) → p x ≡ c → nat_le a i ≡ true → nat_le b i ≡ true → lines_from a p es ≡ lines_from b p es → lines_from a p ((i, x) ∷ es) ≡ lines_from b p ((i, x) ∷ es)
      go true e first second rest = keeps a i x es (and_true (nat_le a i) (p x) first e) ∙ ap (λ xs. i ∷ xs) rest ∙ sym (keeps b i x es (and_true (nat_le b i) (p x) second e))
      go false e first second rest = skips a i x es (and_false (nat_le a i) (p x) e) ∙ rest ∙ sym (skips b i x es (and_false (nat_le b i) (p x) e))

  -- from 0 all come
  pub from_first : (es : List (ℕ × Waiting)) → lines_from 0 p es ≡ map (λ e. e.0) (filter (λ e. p e.1) es)
  from_first [] = refl
  from_first ((j, x) ∷ es) = go (p x) refl (from_first es)
    where
      go : (c : Bool) → p x ≡ c → lines_from 0 p es ≡ map (λ e. e.0) (filter (λ e. p e.1) es) → lines_from 0 p ((j, x) ∷ es) ≡ map (λ e. e.0) (filter (λ e. p e.1) ((j, x) ∷ es))
      go true e h = keeps 0 j x es (and_true (nat_le 0 j) (p x) (le-leb 0 j (omega arith)) e) ∙ rw e (ap (λ xs. j ∷ xs) h)
      go false e h = skips 0 j x es (and_false (nat_le 0 j) (p x) e) ∙ rw e h

-- the candidates are found one after another, and what passes is among them
module _ (c p : Waiting → Bool) (among : (w : Waiting) → p w ≡ true → c w ≡ true) (from : ℕ) where
  -- one that passes is a candidate
  candidate : (j : ℕ) (x : Waiting) (es : List (ℕ × Waiting)) → p x ≡ true → passes c ((j, x) ∷ es) j ≡ true
  candidate j x es e = finds_here c es j x ∙ among x e

  pub none_left : (j : ℕ) (x : Waiting) (es : List (ℕ × Waiting)) → IsStrictlySortedBy nat_cmp (j ∷ keys_of es) → IsFirstFrom from (passes c ((j, x) ∷ es)) None → IsFirstFrom from (passes c es) None
  none_left j x es sorted h = λ n far. go n far (cases_eq n j)
    where
      go : (n : ℕ) → from ≤ n → (n ≡ j) ⊎ (n ≡ j → ⊥) → passes c es n ≡ false
      go n far (inl same) = ap (passes c es) same ∙ not_behind c es j sorted
      go n far (inr apart) = sym (finds_there c es j n x apart) ∙ h n far

  pub walk_none : (es : List (ℕ × Waiting)) → IsStrictlySortedBy nat_cmp (keys_of es) → IsFirstFrom from (passes c es) None → lines_from from p es ≡ []
  walk_none [] sorted h = refl
  walk_none ((j, x) ∷ es) sorted h =
      skips p from j x es (not_both (nat_le from j) (p x) (λ far e. sym (candidate j x es e) ∙ h j (leb-true from j far)))
      ∙ walk_none es (sorted_tail nat_cmp j (keys_of es) sorted) (none_left j x es sorted h)

  -- the first stands before
  pub some_left : (k j : ℕ) (x : Waiting) (es : List (ℕ × Waiting)) → IsStrictlySortedBy nat_cmp (j ∷ keys_of es) → (k ≡ j → ⊥) → IsFirstFrom from (passes c ((j, x) ∷ es)) (Some k) → IsFirstFrom from (passes c es) (Some k)
  some_left k j x es sorted apart h = (h.0, sym (finds_there c es j k x apart) ∙ h.1, λ n far found. least n far found (cases_eq n j))
    where
      least : (n : ℕ) → from ≤ n → passes c es n ≡ true → (n ≡ j) ⊎ (n ≡ j → ⊥) → k ≤ n
      least n far found (inl same) = let wrong : true ≡ false = sym found ∙ ap (passes c es) same ∙ not_behind c es j sorted in cc
      least n far found (inr other) = h.2 n far (finds_there c es j n x other ∙ found)

  pub walk_some : (k : ℕ) (es : List (ℕ × Waiting)) → IsStrictlySortedBy nat_cmp (keys_of es) → IsFirstFrom from (passes c es) (Some k)
      → lines_from from p es ≡ cond (passes p es k) (k ∷ lines_from (k + 1) p es) (lines_from (k + 1) p es)
  walk_some k [] sorted h = let wrong : false ≡ true = h.1 in cc
  walk_some k ((j, x) ∷ es) sorted h = go (cases_eq k j) (λ left. walk_some k es (sorted_tail nat_cmp j (keys_of es) sorted) left)
    where
      own : (d : Bool) → p x ≡ d → k ≡ j → from ≤ j → lines_from from p ((j, x) ∷ es) ≡ cond d (k ∷ lines_from (k + 1) p es) (lines_from (k + 1) p es)
      own true e same far =
          let rest : lines_from from p es ≡ lines_from (k + 1) p es = same_from p es from (k + 1) j sorted (omega arith) (omega arith) in
          keeps p from j x es (and_true (nat_le from j) (p x) (le-leb from j far) e) ∙ ap (λ xs. j ∷ xs) rest ∙ ap (λ m. m ∷ lines_from (k + 1) p es) (sym same)
      own false e same far =
          let rest : lines_from from p es ≡ lines_from (k + 1) p es = same_from p es from (k + 1) j sorted (omega arith) (omega arith) in
          skips p from j x es (and_false (nat_le from j) (p x) e) ∙ rest

      later : j < k → lines_from (k + 1) p ((j, x) ∷ es) ≡ lines_from (k + 1) p es
      later low = skips p (k + 1) j x es (rw (lt-leb (k + 1) j (omega arith)) refl)

      go : (k ≡ j) ⊎ (k ≡ j → ⊥)
          → (IsFirstFrom from (passes c es) (Some k) → lines_from from p es ≡ cond (passes p es k) (k ∷ lines_from (k + 1) p es) (lines_from (k + 1) p es))
          → lines_from from p ((j, x) ∷ es) ≡ cond (passes p ((j, x) ∷ es) k) (k ∷ lines_from (k + 1) p ((j, x) ∷ es)) (lines_from (k + 1) p ((j, x) ∷ es))
      go (inl same) ih =
          let far : from ≤ j = let l : from ≤ k = h.0 in omega arith in
          let here : passes p ((j, x) ∷ es) k ≡ p x = ap (passes p ((j, x) ∷ es)) same ∙ finds_here p es j x in
          let beyond : lines_from (k + 1) p ((j, x) ∷ es) ≡ lines_from (k + 1) p es = skips p (k + 1) j x es (rw (lt-leb (k + 1) j (omega arith)) refl) in
          rw (here, beyond) (own (p x) refl same far)
      go (inr apart) ih =
          let left : IsFirstFrom from (passes c es) (Some k) = some_left k j x es sorted apart h in
          let up : j < k = above_first c es j k sorted left.1 in
          let skipped : lines_from from p ((j, x) ∷ es) ≡ lines_from from p es = skips p from j x es (not_both (nat_le from j) (p x) (λ at e. let low : k ≤ j = h.2 j (leb-true from j at) (candidate j x es e) in absurd (omega arith))) in
          let there : passes p ((j, x) ∷ es) k ≡ passes p es k = finds_there p es j k x apart in
          skipped ∙ rw (there, later up) (ih left)

-- where every candidate passes
pub walk_all : (c p : Waiting → Bool) → ((w : Waiting) → p w ≡ c w) → (from k : ℕ) (es : List (ℕ × Waiting)) → IsStrictlySortedBy nat_cmp (keys_of es) → IsFirstFrom from (passes c es) (Some k)
    → lines_from from p es ≡ k ∷ lines_from (k + 1) p es
walk_all c p same from k es sorted h =
    let here : passes p es k ≡ true = go (found_in es k) ∙ h.1 in
    walk_some c p (λ w e. sym (same w) ∙ e) from k es sorted h ∙ rw here refl
  where
    go : (o : Option Waiting) → option_map_or p o false ≡ option_map_or c o false
    go None = refl
    go (Some w) = same w

-- what was found so far and what comes still
pub found_more : (so_far rest all : List ℕ) (k : ℕ) (next : List ℕ) → so_far ++ rest ≡ all → rest ≡ k ∷ next → (so_far ++ k ∷ []) ++ next ≡ all
found_more so_far rest all k next h e = append_assoc so_far (k ∷ []) next ∙ ap (λ xs. so_far ++ xs) (sym e) ∙ h

pub found_all : (so_far rest all : List ℕ) → so_far ++ rest ≡ all → rest ≡ [] → so_far ≡ all
found_all so_far rest all h e = sym (append-nil so_far) ∙ ap (λ xs. so_far ++ xs) (sym e) ∙ h

-- where only some candidates pass
pub woken_more : (lines so_far rest all next : List ℕ) (k : ℕ) (b : Bool) → so_far ++ rest ≡ all → rest ≡ cond b (k ∷ next) next → lines ≡ cond b (so_far ++ k ∷ []) so_far → lines ++ next ≡ all
woken_more lines so_far rest all next k true h e is = ap (λ xs. xs ++ next) is ∙ found_more so_far rest all k next h e
woken_more lines so_far rest all next k false h e is = ap (λ xs. xs ++ next) is ∙ ap (λ xs. so_far ++ xs) (sym e) ∙ h
