-- The levels of a file, from its pieces up, have the blocks of its tree.
use Rattle.std.proofs.Common.{◌≡◌, ℕ, ◌+◌, ◌*◌, ◌-◌, ◌<◌, ◌≤◌, List, [], ◌∷◌, ◌++◌, zero, suc, Bool, true, false, refl, sym, ap, ◌∙◌, subst, arith, tests, length, map, take, drop, sum, nat_le, append_assoc, length-append, length-drop}
use Rattle.std.proofs.lemmas.List.{length-map, take-append-drop}
use Rattle.std.proofs.lemmas.List.Sums.{sum_by-cons}
use Rattle.std.specs.Int.{to_be_bytes, w64}
use Rattle.std.specs.List.{concat}
use Rattle.hs_limits.specs.Block.{spell}
use Rattle.hs_limits.specs.declared.address.Address.{Address}
use Rattle.hs_tree.proofs.OneFileLemmas.{runs-joined}
use Rattle.hs_tree.proofs.RunsLemmas.{height-0, height-1, height-2, runs-cons, runs-one, span-0, span-1, span-positive}
use Rattle.hs_tree.specs.Levels.{Node, first_level, level_at, levels, levels_of, levels_to, next_level, parent}
use Rattle.hs_tree.specs.Trees.{height, node, runs, runs_in, span, stored_cut}

-- ---- fronts

front-length : {A : Type 0} (n : ℕ) (xs : List A) → n ≤ length xs → length (take n xs) ≡ n
front-length zero xs h = refl
front-length (suc n) [] h = absurd (omega (arith, h))
front-length (suc n) (x ∷ xs) h = let k : length (take n xs) ≡ n = front-length n xs (omega (arith, h)) in omega (arith, k)

runs-nil : {A : Type 0} (n : ℕ) → runs {A = A} n [] ≡ []
unfolding runs
runs-nil n = refl

-- a list of at least n elements begins with a run
runs-more : {A : Type 0} (n : ℕ) (xs : List A) → 0 < n → n ≤ length xs → runs n xs ≡ take n xs ∷ runs n (drop n xs)
runs-more n xs p h = ap (λ z. runs n z) (sym (take-append-drop n xs)) ∙ runs-cons n (take n xs) (drop n xs) p (front-length n xs h)

none_of : {A : Type 0} (xs : List A) → length xs ≡ 0 → xs ≡ []
none_of [] e = refl
none_of (x ∷ xs) e = absurd (omega (arith, e))

-- n * k elements are k runs
runs-exact : {A : Type 0} (n k : ℕ) (xs : List A) → 0 < n → length xs ≡ n * k → length (runs n xs) ≡ k
runs-exact n zero xs p h = ap (λ z. length (runs n z)) (none_of xs (omega (arith, h))) ∙ ap (λ z. length z) (runs-nil n)
runs-exact {A = A} n (suc k) xs p h =
    let some : n ≤ length xs = omega (arith, h) in
    let more : runs n xs ≡ take n xs ∷ runs n (drop n xs) = runs-more n xs p some in
    let rest : length (drop n xs) ≡ length xs - n = length-drop n xs in
    let ih : length (runs n (drop n xs)) ≡ k = runs-exact n k (drop n xs) p (omega (arith, rest, h)) in
    let c : length (runs n xs) ≡ length (take n xs ∷ runs n (drop n xs)) = ap (λ z. length z) more in
    omega (arith, c, ih)

-- at most n * k elements are at most k runs
runs-most : {A : Type 0} (n k : ℕ) (xs : List A) → 0 < n → length xs ≤ n * k → length (runs n xs) ≤ k
runs-most n zero xs p h =
    let e : length (runs n xs) ≡ 0 = ap (λ z. length (runs n z)) (none_of xs (omega (arith, h))) ∙ ap (λ z. length z) (runs-nil n) in
    omega (arith, e)
runs-most {A = A} n (suc k) xs p h = go (nat_le n (length xs)) refl (λ ys l. runs-most n k ys p l)
  where
    longer : n ≤ length xs → ((ys : List A) → length ys ≤ n * k → length (runs n ys) ≤ k) → length (runs n xs) ≤ suc k
    longer some ih =
        let more : runs n xs ≡ take n xs ∷ runs n (drop n xs) = runs-more n xs p some in
        let rest : length (drop n xs) ≡ length xs - n = length-drop n xs in
        let i : length (runs n (drop n xs)) ≤ k = ih (drop n xs) (omega (arith, rest, h)) in
        let c : length (runs n xs) ≡ length (take n xs ∷ runs n (drop n xs)) = ap (λ z. length z) more in
        omega (arith, c, i)

    shorter : (ys : List A) → length ys < n → length (runs n ys) ≤ suc k
    shorter [] l = let c : length (runs {A = A} n []) ≡ 0 = ap (λ z. length z) (runs-nil n) in omega (arith, c)
    shorter (y ∷ ys) l = let c : length (runs n (y ∷ ys)) ≡ 1 = ap (λ z. length z) (runs-one n (y ∷ ys) (omega arith) (omega (arith, l))) in omega (arith, c)

    go : (b : Bool) → nat_le n (length xs) ≡ b → ((ys : List A) → length ys ≤ n * k → length (runs n ys) ≤ k) → length (runs n xs) ≤ suc k
    go true e ih = longer (grind (arith, tests, e)) ih
    go false e ih = shorter xs (grind (arith, tests, e))

-- runs of whole runs are those of the parts
runs-append : {A : Type 0} (n k : ℕ) (xs ys : List A) → 0 < n → length xs ≡ n * k → runs n (xs ++ ys) ≡ runs n xs ++ runs n ys
runs-append n zero xs ys p h =
    let e : xs ≡ [] = none_of xs (omega (arith, h)) in
    ap (λ z. runs n (z ++ ys)) e ∙ sym (ap (λ z. runs n z ++ runs n ys) e ∙ ap (λ z. z ++ runs n ys) (runs-nil n))
runs-append n (suc k) xs ys p h =
    let some : n ≤ length xs = omega (arith, h) in
    let c = take n xs in
    let d = drop n xs in
    let full : length c ≡ n = front-length n xs some in
    let rest : length d ≡ length xs - n = length-drop n xs in
    let parts : xs ++ ys ≡ c ++ (d ++ ys) = ap (λ z. z ++ ys) (sym (take-append-drop n xs)) ∙ append_assoc c d ys in
    ap (λ z. runs n z) parts ∙ (runs-cons n c (d ++ ys) p full ∙ (ap (λ z. c ∷ z) (runs-append n k d ys p (omega (arith, rest, h))) ∙ ap (λ z. z ++ runs n ys) (sym (runs-more n xs p some))))

-- runs of m runs of n are runs of n * m
runs-runs : (n m k : ℕ) (file : List ℕ) → 0 < n → 0 < m → length file ≤ (n * m) * k → runs m (runs n file) ≡ map (λ c. runs n c) (runs (n * m) file)
runs-runs n m zero file p q h =
    let e : file ≡ [] = none_of file (omega (arith, h)) in
    ap (λ z. runs m (runs n z)) e ∙ (ap (λ z. runs m z) (runs-nil n) ∙ (runs-nil m ∙ sym (ap (λ z. map (λ c. runs n c) (runs (n * m) z)) e ∙ ap (λ z. map (λ c. runs n c) z) (runs-nil (n * m)))))
runs-runs n m (suc k) file p q h = go (nat_le (n * m) (length file)) refl (λ r l. runs-runs n m k r p q l)
  where
    positive : 0 < n * m
    positive = product n m p q
      where
        product : (a b : ℕ) → 0 < a → 0 < b → 0 < a * b
        product a zero x y = absurd (omega (arith, y))
        product a (suc b) x y = omega (arith, x)

    longer : n * m ≤ length file → ((r : List ℕ) → length r ≤ (n * m) * k → runs m (runs n r) ≡ map (λ c. runs n c) (runs (n * m) r)) → runs m (runs n file) ≡ map (λ c. runs n c) (runs (n * m) file)
    longer some ih =
        let f : List ℕ = take (n * m) file in
        let r : List ℕ = drop (n * m) file in
        let full : length f ≡ n * m = front-length (n * m) file some in
        let rest : length r ≡ length file - n * m = length-drop (n * m) file in
        let below : runs n file ≡ runs n f ++ runs n r = ap (λ z. runs n z) (sym (take-append-drop (n * m) file)) ∙ runs-append n m f r p full in
        let count : length (runs n f) ≡ m = runs-exact n m f p full in
        let above : runs (n * m) file ≡ f ∷ runs (n * m) r = runs-more (n * m) file positive some in
        ap (λ z. runs m z) below ∙ (runs-cons m (runs n f) (runs n r) q count ∙ (ap (λ z. runs n f ∷ z) (ih r (omega (arith, rest, h))) ∙ ap (λ z. map (λ c. runs n c) z) (sym above)))

    shorter : (xs : List ℕ) → length xs < n * m → runs m (runs n xs) ≡ map (λ c. runs n c) (runs (n * m) xs)
    shorter [] l = ap (λ z. runs m z) (runs-nil n) ∙ (runs-nil m ∙ sym (ap (λ z. map (λ c. runs n c) z) (runs-nil (n * m))))
    shorter (x ∷ xs) l =
        let most : length (runs n (x ∷ xs)) ≤ m = runs-most n m (x ∷ xs) p (omega (arith, l)) in
        let some : 0 < length (runs n (x ∷ xs)) = some_run n x xs in
        runs-one m (runs n (x ∷ xs)) some most ∙ sym (ap (λ z. map (λ c. runs n c) z) (runs-one (n * m) (x ∷ xs) (omega arith) (omega (arith, l))))
      where
        some_run : (n : ℕ) (x : ℕ) (xs : List ℕ) → 0 < length (runs n (x ∷ xs))
        some_run n x xs = unfold runs in omega arith

    go : (b : Bool) → nat_le (n * m) (length file) ≡ b → ((r : List ℕ) → length r ≤ (n * m) * k → runs m (runs n r) ≡ map (λ c. runs n c) (runs (n * m) r)) → runs m (runs n file) ≡ map (λ c. runs n c) (runs (n * m) file)
    go true e ih = longer (grind (arith, tests, e)) ih
    go false e ih = shorter file (grind (arith, tests, e))

-- ---- runs of a list that is mapped

take-map : {A B : Type 0} (f : A → B) (n : ℕ) (xs : List A) → take n (map f xs) ≡ map f (take n xs)
take-map f zero xs = refl
take-map f (suc n) [] = refl
take-map f (suc n) (x ∷ xs) = ap (λ z. f x ∷ z) (take-map f n xs)

drop-map : {A B : Type 0} (f : A → B) (n : ℕ) (xs : List A) → drop n (map f xs) ≡ map f (drop n xs)
drop-map f zero xs = refl
drop-map f (suc n) [] = refl
drop-map f (suc n) (x ∷ xs) = drop-map f n xs

map-runs_in : {A B : Type 0} (f : A → B) (turns n : ℕ) (xs : List A) → runs_in turns n (map f xs) ≡ map (λ ys. map f ys) (runs_in turns n xs)
map-runs_in f turns n [] = refl
map-runs_in f zero n (x ∷ xs) = refl
map-runs_in f (suc turns) n (x ∷ xs) =
    let t : take n (f x ∷ map f xs) ≡ map f (take n (x ∷ xs)) = take-map f n (x ∷ xs) in
    let d : runs_in turns n (drop n (f x ∷ map f xs)) ≡ map (λ ys. map f ys) (runs_in turns n (drop n (x ∷ xs))) = ap (λ z. runs_in turns n z) (drop-map f n (x ∷ xs)) ∙ map-runs_in f turns n (drop n (x ∷ xs)) in
    λ i. t i ∷ d i

map-runs : {A B : Type 0} (f : A → B) (n : ℕ) (xs : List A) → runs n (map f xs) ≡ map (λ ys. map f ys) (runs n xs)
unfolding runs
map-runs f n xs = ap (λ t. runs_in t n (map f xs)) (length-map xs f) ∙ map-runs_in f (length xs) n xs

-- ---- a block above a run

module _ (name : List ℕ → Address) (k : ℕ) where
  abbrev made : List ℕ → Node
  made c = record { block = node stored_cut name k c; below = length c }

  sums : (cs : List (List ℕ)) → sum (map (λ (n : Node). n.below) (map made cs)) ≡ length (concat cs)
  sums [] = refl
  sums (c ∷ cs) = sum_by-cons (λ z. z) (length c) (map (λ (n : Node). n.below) (map made cs)) ∙ (ap (λ z. length c + z) (sums cs) ∙ sym (length-append c (concat cs)))

  names : (cs : List (List ℕ)) → map (λ (n : Node). name (spell n.block)) (map made cs) ≡ map (λ run. name (spell (node stored_cut name k run))) cs
  names [] = refl
  names (c ∷ cs) = ap (λ z. name (spell (node stored_cut name k c)) ∷ z) (names cs)

  parent_is : (c : List ℕ) → parent name (map made (runs (span stored_cut k) c)) ≡ record { block = node stored_cut name (suc k) c; below = length c }
  unfolding node
  parent_is c =
      let below : sum (map (λ (n : Node). n.below) (map made (runs (span stored_cut k) c))) ≡ length c = sums (runs (span stored_cut k) c) ∙ ap (λ z. length z) (runs-joined (span stored_cut k) c (span-positive k)) in
      let pointers = names (runs (span stored_cut k) c) in
      λ i. record { block = record { pointers = pointers i; bytes = to_be_bytes w64 (below i) }; below = below i }

  parents : (cs : List (List ℕ)) → map (parent name) (map (λ ys. map made ys) (map (λ c. runs (span stored_cut k) c) cs)) ≡ map (λ c. record { block = node stored_cut name (suc k) c; below = length c }) cs
  parents [] = refl
  parents (c ∷ cs) = let here = parent_is c in let rest = parents cs in λ i. here i ∷ rest i

  at_least : (a b : ℕ) → 0 < a → b ≤ a * b
  at_least zero b p = absurd (omega (arith, p))
  at_least (suc a) b p = omega arith

  next_is : (file : List ℕ) → next_level stored_cut name (level_at name k file) ≡ level_at name (suc k) file
  unfolding span
  next_is file =
      let n : ℕ = span stored_cut k in
      let p : 0 < n = span-positive k in
      let wide : 0 < n * 64 = omega (arith, p) in
      let whole : runs 64 (runs n file) ≡ map (λ c. runs n c) (runs (n * 64) file) = runs-runs n 64 (length file) file p (omega arith) (at_least (n * 64) (length file) wide) in
      let swap : n * 64 ≡ 64 * n = omega arith in
      ap (λ z. map (parent name) z) (map-runs made 64 (runs n file)) ∙ (ap (λ z. map (parent name) (map (λ ys. map made ys) z)) whole ∙ (parents (runs (n * 64) file) ∙ ap (λ z. map (λ c. record { block = node stored_cut name (suc k) c; below = length c }) (runs z file)) swap))

-- ---- how many there are

first_is : (name : List ℕ → Address) (file : List ℕ) → 0 < length file → first_level stored_cut file ≡ level_at name 0 file
unfolding node span
first_is name [] p = absurd (omega (arith, p))
first_is name (x ∷ xs) p = refl

le-true : (a b : ℕ) → a ≤ b → nat_le a b ≡ true
le-true a b h = grind (arith, tests, h)

le-false : (a b : ℕ) → b < a → nat_le a b ≡ false
le-false a b h = grind (arith, tests, h)

pub single : (name : List ℕ → Address) (k : ℕ) (file : List ℕ) → 0 < length file → length file ≤ span stored_cut k → level_at name k file ≡ record { block = node stored_cut name k file; below = length file } ∷ []
single name k file p h = ap (λ z. map (λ c. record { block = node stored_cut name k c; below = length c }) z) (runs-one (span stored_cut k) file p h)

is_one : (name : List ℕ → Address) (k : ℕ) (file : List ℕ) → 0 < length file → length file ≤ span stored_cut k → nat_le (length (level_at name k file)) 1 ≡ true
is_one name k file p h = let c : length (level_at name k file) ≡ 1 = ap (λ z. length z) (single name k file p h) in le-true (length (level_at name k file)) 1 (omega (arith, c))

is_more : (name : List ℕ → Address) (k : ℕ) (file : List ℕ) → span stored_cut k < length file → nat_le (length (level_at name k file)) 1 ≡ false
is_more name k file h =
    let n : ℕ = span stored_cut k in
    let p : 0 < n = span-positive k in
    let more : runs n file ≡ take n file ∷ runs n (drop n file) = runs-more n file p (omega (arith, h)) in
    let rest : length (drop n file) ≡ length file - n = length-drop n file in
    let some : 0 < length (runs n (drop n file)) = some_runs n (drop n file) (omega (arith, rest, h)) in
    let c : length (runs n file) ≡ length (take n file ∷ runs n (drop n file)) = ap (λ z. length z) more in
    let d : length (level_at name k file) ≡ length (runs n file) = length-map (runs n file) (λ c. record { block = node stored_cut name k c; below = length c }) in
    le-false (length (level_at name k file)) 1 (omega (arith, c, d, some))
  where
    some_runs : (n : ℕ) (xs : List ℕ) → 0 < length xs → 0 < length (runs n xs)
    some_runs n [] p = absurd (omega (arith, p))
    some_runs n (x ∷ xs) p = unfold runs in omega arith

span-2 : span stored_cut 2 ≡ 268435456
unfolding span
span-2 = refl

-- the levels from the pieces up are those of the tree
pub levels_are : (name : List ℕ → Address) (file : List ℕ) → 0 < length file → length file ≤ 268435456 → levels_of stored_cut name file ≡ levels_to name (height stored_cut (length file)) file
unfolding levels
levels_are name file p h = ap (λ z. levels stored_cut name 2 z) (first_is name file p) ∙ go (nat_le (length file) 65536) refl (nat_le (length file) 4194304) refl
  where
    go : (b : Bool) → nat_le (length file) 65536 ≡ b → (c : Bool) → nat_le (length file) 4194304 ≡ c → levels stored_cut name 2 (level_at name 0 file) ≡ levels_to name (height stored_cut (length file)) file
    go true e c f =
        let short : length file ≤ 65536 = grind (arith, tests, e) in
        let one = is_one name 0 file p (subst (λ z. length file ≤ z) (sym span-0) short) in
        rw one (ap (λ z. levels_to name z file) (sym (height-0 (length file) short)))
    go false e true f =
        let long : 65536 < length file = grind (arith, tests, e) in
        let short : length file ≤ 4194304 = grind (arith, tests, f) in
        let more = is_more name 0 file (subst (λ z. z < length file) (sym span-0) long) in
        let one = is_one name 1 file p (subst (λ z. length file ≤ z) (sym span-1) short) in
        rw (more, next_is name 0 file, one) (ap (λ z. levels_to name z file) (sym (height-1 (length file) long short)))
    go false e false f =
        let long : 65536 < length file = grind (arith, tests, e) in
        let longer : 4194304 < length file = grind (arith, tests, f) in
        let more = is_more name 0 file (subst (λ z. z < length file) (sym span-0) long) in
        let again = is_more name 1 file (subst (λ z. z < length file) (sym span-1) longer) in
        rw (more, next_is name 0 file, again, next_is name 1 file) (ap (λ z. levels_to name z file) (sym (height-2 (length file) longer)))

-- and the last one is the top alone
pub last_level : (name : List ℕ → Address) (file : List ℕ) → 0 < length file → length file ≤ 268435456 → level_at name (height stored_cut (length file)) file ≡ record { block = node stored_cut name (height stored_cut (length file)) file; below = length file } ∷ []
last_level name file p h = single name (height stored_cut (length file)) file p (go (nat_le (length file) 65536) refl (nat_le (length file) 4194304) refl)
  where
    go : (b : Bool) → nat_le (length file) 65536 ≡ b → (c : Bool) → nat_le (length file) 4194304 ≡ c → length file ≤ span stored_cut (height stored_cut (length file))
    go true e c f =
        let short : length file ≤ 65536 = grind (arith, tests, e) in
        subst (λ z. length file ≤ span stored_cut z) (sym (height-0 (length file) short)) (subst (λ z. length file ≤ z) (sym span-0) short)
    go false e true f =
        let long : 65536 < length file = grind (arith, tests, e) in
        let short : length file ≤ 4194304 = grind (arith, tests, f) in
        subst (λ z. length file ≤ span stored_cut z) (sym (height-1 (length file) long short)) (subst (λ z. length file ≤ z) (sym span-1) short)
    go false e false f =
        let longer : 4194304 < length file = grind (arith, tests, f) in
        subst (λ z. length file ≤ span stored_cut z) (sym (height-2 (length file) longer)) (subst (λ z. length file ≤ z) (sym span-2) h)
