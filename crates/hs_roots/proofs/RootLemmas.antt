-- The records by key, and how many are retained, as the roots change.
use Rattle.std.proofs.Common.{◌≡◌, ℕ, ◌+◌, ◌≤◌, Bool, true, false, cond, not, ◌&&◌, List, [], ◌∷◌, Option, Some, None, is_none, refl, ap, sym, subst, ◌∙◌, arith, add-zero, zero-add, nat_le, get_or, set, length}
use Rattle.std.proofs.lemmas.List.Kept.{AllPairs-filter}
use Rattle.std.proofs.lemmas.Slice.Eq.{bytes_eq-Decides}
use Rattle.std.specs.List.{AllByRecursion, count_by, position_from}
use Rattle.std.specs.Option.{option_map, option_map_or}
use Rattle.std.specs.Ordering.{is_lt}
use Rattle.std.specs.Str.{bytes_eq}
use Rattle.hs_limits.specs.declared.address.Address.{Address}
use Rattle.hs_roots.specs.declared.root.RootRecord.{RootRecord}
use Rattle.hs_roots.specs.ByKey.{count_upto, is_upto, key_cmp, may_precede}
use Rattle.hs_roots.specs.Places.{AreByKey, AreKept, place_of}
use Rattle.hs_roots.specs.Roots.{retains, retained_count, new_root, insert_root, dropping, drop_root, counting, count_new, is_released, release}
use Rattle.hs_roots.proofs.ByKeyLemmas.{ended_once, found_last, found_none, insert_stands, lt_from, map_stands, stand_from, standing_from}
use Rattle.hs_roots.proofs.InsertLemmas.{count_cons, count_insert, longer}
use Rattle.hs_roots.proofs.PlaceLemmas.{count_same, count_kept, count_somewhere, map_once}

abbrev key_of : RootRecord → List ℕ
key_of root = root.key

abbrev ends : RootRecord → Bool
ends root = is_none root.dropped

-- ---- keys

same_key : (a b : List ℕ) → bytes_eq a b ≡ true → a ≡ b
same_key a b e = (bytes_eq-Decides a b).0 e

none_dropped : (d : Option ℕ) (b : Bool) → (is_none d && b) ≡ true → (d ≡ None) × (b ≡ true)
none_dropped None b e = (refl, e)
none_dropped (Some x) b e = cc

-- ---- a root is dropped

retains_dropping : (key q : List ℕ) (epoch : ℕ) (root : RootRecord) → retains q (dropping key epoch root) ≡ cond (bytes_eq key q) false (retains q root)
retains_dropping key q epoch root = go (retains key root) refl (bytes_eq key q) refl
  where
    go : (b : Bool) → retains key root ≡ b → (s : Bool) → bytes_eq key q ≡ s → retains q (cond b (record root { dropped = Some epoch }) root) ≡ cond s false (retains q root)
    go true e true h = refl
    go true e false h =
        let held = none_dropped root.dropped (bytes_eq root.key key) e in
        let other : bytes_eq root.key q ≡ false = subst (λ k. bytes_eq k q ≡ false) (sym (same_key root.key key held.1)) h in
        rw (held.0, other) refl
    go false e true h = subst (λ k. retains k root ≡ false) (same_key key q h) e
    go false e false h = refl

kept_dropping : (key : List ℕ) (epoch : ℕ) (root : RootRecord) → cond (is_none (dropping key epoch root).dropped) 1 0 + cond (retains key root) 1 0 ≡ cond (is_none root.dropped) 1 0
kept_dropping key epoch root = go (retains key root) refl
  where
    go : (b : Bool) → retains key root ≡ b → cond (is_none (cond b (record root { dropped = Some epoch }) root).dropped) 1 0 + cond b 1 0 ≡ cond (is_none root.dropped) 1 0
    go true e = let held = none_dropped root.dropped (bytes_eq root.key key) e in rw held.0 refl
    go false e = add-zero (cond (is_none root.dropped) 1 0)

retained_drop : (key : List ℕ) (epoch : ℕ) (roots : List RootRecord) → retained_count (drop_root key epoch roots) + count_by (retains key) roots ≡ retained_count roots
retained_drop key epoch [] = refl
retained_drop key epoch (root ∷ rest) =
    let one = kept_dropping key epoch root in
    let ih = retained_drop key epoch rest in
    let a = count_cons (λ r. is_none r.dropped) (dropping key epoch root) (drop_root key epoch rest) in
    let b = count_cons (retains key) root rest in
    let c = count_cons (λ r. is_none r.dropped) root rest in
    omega (arith, one, ih, a, b, c)

-- the record at the place of a key's root is that root
pub dropped_is : (roots : List RootRecord) (key : List ℕ) (i epoch : ℕ) (root : RootRecord) → place_of key roots ≡ Some i → count_by (retains key) roots ≤ 1 → root ≡ get_or roots i root → set roots i (record root { dropped = Some epoch }) ≡ drop_root key epoch roots
dropped_is roots key i epoch root at once is =
    ap (λ (r : RootRecord). set roots i (record r { dropped = Some epoch })) is
    ∙ map_once (retains key) (λ r. record r { dropped = Some epoch }) roots 0 i root (at ∙ ap (λ n. Some n) (sym (zero-add i))) once

-- a key is retained once at most
pub retained_once : (roots : List RootRecord) → AreByKey roots → (key : List ℕ) → count_by (retains key) roots ≤ 1
retained_once roots h key = ended_once key_of ends key roots (standing_from key_of ends roots h)

pub dropped_kept : (roots : List RootRecord) (retained : ℕ) (key : List ℕ) (i epoch : ℕ) → AreKept roots retained → place_of key roots ≡ Some i → (1 ≤ retained) × ((left : ℕ) → left + 1 ≡ retained → AreKept (drop_root key epoch roots) left)
dropped_kept roots retained key i epoch was found =
    let more = count_somewhere (retains key) roots 0 i found in
    let once = retained_once roots was.ordered key in
    let fewer = retained_drop key epoch roots in (
      omega (arith, more, once, fewer, was.counted),
      λ left e. record {
        ordered = stand_from key_of ends (drop_root key epoch roots) (map_stands key_of ends (dropping key epoch) keeps still roots (standing_from key_of ends roots was.ordered));
        counted = omega (arith, more, once, fewer, was.counted, e);
      },
    )
  where
    keeps : (root : RootRecord) → (dropping key epoch root).key ≡ root.key
    keeps root = go (retains key root)
      where
        go : (b : Bool) → (cond b (record root { dropped = Some epoch }) root).key ≡ root.key
        go true = refl
        go false = refl

    still : (root : RootRecord) → is_none (dropping key epoch root).dropped ≡ true → is_none root.dropped ≡ true
    still root = go (retains key root)
      where
        go : (b : Bool) → is_none (cond b (record root { dropped = Some epoch }) root).dropped ≡ true → is_none root.dropped ≡ true
        go true e = cc e
        go false e = e

-- ---- a root is found

-- with no key at most this one it is not retained
pub place_none : (roots : List RootRecord) (key : List ℕ) → count_upto key_of key roots ≡ 0 → place_of key roots ≡ None
place_none roots key e = found_none key_of ends key roots 0 e

-- else the last record whose key is at most this one is that of the key, or none
pub place_last : (roots : List RootRecord) (key : List ℕ) (i : ℕ) (root : RootRecord) → AreByKey roots → count_upto key_of key roots ≡ i + 1 → root ≡ get_or roots i root → place_of key roots ≡ cond (retains key root) (Some i) None
place_last roots key i root h e is =
    found_last key_of ends key roots 0 i root (standing_from key_of ends roots h) (e ∙ omega arith)
    ∙ ap (λ r. cond (retains key r) (Some (0 + i)) None) (sym is)
    ∙ ap (λ m. cond (retains key root) (Some m) None) (zero-add i)

-- ---- a root is put

pub length_insert_root : (roots : List RootRecord) (new : RootRecord) → length (insert_root new roots) ≡ length roots + 1
length_insert_root roots new = longer (λ (root : RootRecord). is_upto root.key new.key) roots new

pub map_none : {A B : Type 0} (f : A → B) (o : Option A) → option_map f o ≡ None → o ≡ None
map_none f None e = refl
map_none f (Some x) e = cc

-- where a key is not retained, each record up to it may stand before its new one
may_stand : (roots : List RootRecord) (key : List ℕ) (a : Address) (epoch n : ℕ) → position_from (retains key) n roots ≡ None
    → AllByRecursion (λ root. is_upto root.key key ≡ true → may_precede key_of ends root (new_root key a epoch) ≡ true) roots
may_stand [] key a epoch n free = tt
may_stand (root ∷ rest) key a epoch n free = go (is_none root.dropped) (bytes_eq root.key key) refl free (may_stand rest key a epoch (n + 1))
  where
    Rest : Type 0
    Rest = AllByRecursion (λ root. is_upto root.key key ≡ true → may_precede key_of ends root (new_root key a epoch) ≡ true) rest

    go : (b s : Bool) → bytes_eq root.key key ≡ s → cond (b && s) (Some n) (position_from (retains key) (n + 1) rest) ≡ None → (position_from (retains key) (n + 1) rest ≡ None → Rest)
        → (is_upto root.key key ≡ true → cond b (is_lt (key_cmp root.key key)) (is_upto root.key key) ≡ true) × Rest
    go true true e f ih = cc f
    go true false e f ih = ((λ u. lt_from root.key key u e), ih f)
    go false true e f ih = ((λ u. u), ih f)
    go false false e f ih = ((λ u. u), ih f)

pub put_kept : (roots : List RootRecord) (retained : ℕ) (key : List ℕ) (a : Address) (epoch : ℕ) → AreKept roots retained → place_of key roots ≡ None → AreKept (insert_root (new_root key a epoch) roots) (retained + 1)
put_kept roots retained key a epoch was free =
    let one = count_insert ends roots (count_upto key_of key roots) (new_root key a epoch) in
    record {
      ordered = stand_from key_of ends (insert_root (new_root key a epoch) roots) (insert_stands key_of ends roots (new_root key a epoch) (may_stand roots key a epoch 0 free) (standing_from key_of ends roots was.ordered));
      counted = omega (arith, one, was.counted);
    }

-- ---- roots are counted

pub counted_kept : (roots : List RootRecord) (retained epoch : ℕ) → AreKept roots retained → AreKept (count_new epoch roots) retained
counted_kept roots retained epoch was =
    record {
      ordered = stand_from key_of ends (count_new epoch roots) (map_stands key_of ends (counting epoch) (λ root. refl) (λ root e. e) roots (standing_from key_of ends roots was.ordered));
      counted = was.counted ∙ sym (count_same ends ends (counting epoch) (λ root. refl) roots);
    }

-- ---- dropped roots go

standing_stays : (epoch : ℕ) (root : RootRecord) → is_none root.dropped ≡ true → not (is_released epoch root) ≡ true
standing_stays epoch root e = go root.dropped e root.counted
  where
    go : (d : Option ℕ) → is_none d ≡ true → (b : Bool) → not (b && option_map_or (λ dropped. nat_le (dropped + 2) epoch) d false) ≡ true
    go None h true = refl
    go None h false = refl
    go (Some x) h b = cc

pub released_kept : (roots : List RootRecord) (retained epoch : ℕ) → AreKept roots retained → AreKept (release epoch roots) retained
released_kept roots retained epoch was =
    record {
      ordered = AllPairs-filter (λ root later. may_precede key_of ends root later ≡ true) (λ root. not (is_released epoch root)) roots was.ordered;
      counted = was.counted ∙ sym (count_kept ends (λ root. not (is_released epoch root)) (standing_stays epoch) roots);
    }
