-- Roots of several shards in their order.
use Rattle.std.proofs.Common.{◌≡◌, ℕ, ◌+◌, List, [], ◌∷◌, Bool, true, false, cond, Option, Some, None, refl, sym, ap, ◌∙◌, arith, Ordering, Less, Equal, Greater, is_gt, is_eq, find, nat_cmp, count_by}
use Rattle.std.proofs.lemmas.Cmp.{upto}
use Rattle.std.proofs.lemmas.List.Sums.{sum_by-cons}
use Rattle.std.proofs.lemmas.Map.Text.{is_eq-slice_cmp}
use Rattle.std.proofs.lemmas.Slice.Eq.{bytes_eq-Decides}
use Rattle.std.specs.List.{AllByRecursion}
use Rattle.std.specs.Ordering.{ordering_reverse, ordering_then}
use Rattle.hs_model.specs.Store.{Root, root_cmp, text_cmp, address_cmp, dropped_cmp, place_root, without_first}
use Rattle.hs_model.proofs.Members.{same_from}
use Rattle.hs_laws.proofs.InsertLemmas.{compare}
use Rattle.hs_laws.proofs.OrderLemmas.{Before, Rising, place-rising, root_total, before-flips, before-all, place-all}
use Rattle.hs_fold.specs.Shards.Opened.{both_roots}

abbrev pub gt : Root → Root → Bool
gt x y = is_gt (root_cmp x y)

-- ---- roots that compare as equal are equal

text-same : (a b : List ℕ) → text_cmp a b ≡ Equal → a ≡ b
text-same a b e = (bytes_eq-Decides a b).0 (sym (is_eq-slice_cmp a b) ∙ ap (λ o. is_eq o) e)

nat-same : (m n : ℕ) → nat_cmp m n ≡ Equal → m ≡ n
nat-same m n e = grind (arith, e)

dropped-same : (a b : Option ℕ) → dropped_cmp a b ≡ Equal → a ≡ b
dropped-same None None e = refl
dropped-same None (Some y) e = cc e
dropped-same (Some x) None e = cc e
dropped-same (Some x) (Some y) e = ap (λ n. Some n) (nat-same x y e)

then-parts : (a b : Ordering) → ordering_then a b ≡ Equal → (a ≡ Equal) × (b ≡ Equal)
then-parts Less b e = cc e
then-parts Equal b e = (refl, e)
then-parts Greater b e = cc e

root-same : (r q : Root) → root_cmp r q ≡ Equal → r ≡ q
root-same r q e =
    let parts = then-parts (text_cmp r.key q.key) (ordering_then (dropped_cmp r.dropped q.dropped) (address_cmp r.address q.address)) e in
    let rest = then-parts (dropped_cmp r.dropped q.dropped) (address_cmp r.address q.address) parts.1 in
    let keys = text-same r.key q.key parts.0 in
    let drops = dropped-same r.dropped q.dropped rest.0 in
    let addresses = same_from r.address q.address (compare r.address q.address Equal rest.1) in
    λ i. record { key = keys i; address = addresses i; dropped = drops i }

level : (r q : Root) → gt r q ≡ false → gt q r ≡ false → r ≡ q
level r q f g = go (root_cmp r q) refl f
  where
    go : (o : Ordering) → root_cmp r q ≡ o → is_gt o ≡ false → r ≡ q
    go Less e h = let back : gt q r ≡ true = ap (λ o. is_gt o) (root_total.antisymm q r ∙ ap (λ o. ordering_reverse o) e) in cc (back, g)
    go Equal e h = root-same r q e
    go Greater e h = cc h

-- ---- two roots come in either order

above : (r q x : Root) → gt r x ≡ true → gt q x ≡ false → gt r q ≡ true
above r q x h k = go (gt r q) refl
  where
    go : (b : Bool) → gt r q ≡ b → gt r q ≡ true
    go true e = e
    go false e = let low : gt r x ≡ false = upto root_total r q x e k in cc (low, h)

pub place-commute : (xs : List Root) (r q : Root) → place_root r (place_root q xs) ≡ place_root q (place_root r xs)
place-commute [] r q = go (gt r q) (gt q r) refl refl
  where
    go : (a b : Bool) → gt r q ≡ a → gt q r ≡ b → cond a (q ∷ r ∷ []) (r ∷ q ∷ []) ≡ cond b (r ∷ q ∷ []) (q ∷ r ∷ [])
    go true true e f = let no = before-flips r q e in cc (no, f)
    go true false e f = refl
    go false true e f = refl
    go false false e f = let same = level r q e f in ap (λ x. x ∷ q ∷ []) same ∙ ap (λ x. q ∷ x ∷ []) (sym same)
place-commute (x ∷ xs) r q = go (place-commute xs r q) (gt r x) (gt q x) refl refl
  where
    tops : (a b : Bool) → gt r q ≡ a → gt q r ≡ b → gt r x ≡ false → gt q x ≡ false → cond a (q ∷ r ∷ x ∷ xs) (r ∷ q ∷ x ∷ xs) ≡ cond b (r ∷ q ∷ x ∷ xs) (q ∷ r ∷ x ∷ xs)
    tops true true e f h k = let no = before-flips r q e in cc (no, f)
    tops true false e f h k = refl
    tops false true e f h k = refl
    tops false false e f h k = let same = level r q e f in ap (λ y. y ∷ q ∷ x ∷ xs) same ∙ ap (λ y. q ∷ y ∷ x ∷ xs) (sym same)

    go : place_root r (place_root q xs) ≡ place_root q (place_root r xs) → (a b : Bool) → gt r x ≡ a → gt q x ≡ b
        → place_root r (cond b (x ∷ place_root q xs) (q ∷ x ∷ xs)) ≡ place_root q (cond a (x ∷ place_root r xs) (r ∷ x ∷ xs))
    go ih true true h k = rw (h, k) (ap (λ rest. x ∷ rest) ih)
    go ih true false h k = rw (above r q x h k, h, k) refl
    go ih false true h k = rw (above q r x k h, h, k) refl
    go ih false false h k = rw (h, k) (tops (gt r q) (gt q r) refl refl h k)

-- ---- the roots of two shards

pub both-place : (rs others : List Root) (r : Root) → both_roots (place_root r rs) others ≡ place_root r (both_roots rs others)
both-place [] others r = refl
both-place (x ∷ rs) others r = go (both-place rs others r) (gt r x)
  where
    go : both_roots (place_root r rs) others ≡ place_root r (both_roots rs others) → (b : Bool) → both_roots (cond b (x ∷ place_root r rs) (r ∷ x ∷ rs)) others ≡ place_root r (place_root x (both_roots rs others))
    go ih true = ap (λ rest. place_root x rest) ih ∙ place-commute (both_roots rs others) x r
    go ih false = refl

pub place-both : (rs others : List Root) (r : Root) → both_roots rs (place_root r others) ≡ place_root r (both_roots rs others)
place-both [] others r = refl
place-both (x ∷ rs) others r = ap (λ rest. place_root x rest) (place-both rs others r) ∙ place-commute (both_roots rs others) x r

pub both-rising : (rs others : List Root) → Rising others → Rising (both_roots rs others)
both-rising [] others h = h
both-rising (x ∷ rs) others h = place-rising x (both_roots rs others) (both-rising rs others h)

pub both-each : (P : Root → Type 0) (rs others : List Root) → AllByRecursion P rs → AllByRecursion P others → AllByRecursion P (both_roots rs others)
both-each P [] others h k = k
both-each P (x ∷ rs) others h k = place-all P x (both_roots rs others) h.0 (both-each P rs others h.1 k)

-- ---- the first that passes a test

module _ (test : Root → Bool) where
  -- none passes
  abbrev pub NonePass : List Root → Type 0
  NonePass rs = AllByRecursion (λ r. test r ≡ false) rs

  pub place-first : (r : Root) (ys : List Root) → AllByRecursion (Before r) ys → place_root r ys ≡ r ∷ ys
  place-first r [] h = refl
  place-first r (y ∷ ys) h = rw h.0 refl

  pub without-place : (ys : List Root) (r : Root) → Rising ys → test r ≡ false → without_first test (place_root r ys) ≡ place_root r (without_first test ys)
  without-place [] r h e = rw e refl
  without-place (y ∷ ys) r h e = go (without-place ys r h.1 e) (gt r y) (test y) refl refl
    where
      go : without_first test (place_root r ys) ≡ place_root r (without_first test ys) → (b t : Bool) → gt r y ≡ b → test y ≡ t
          → without_first test (cond b (y ∷ place_root r ys) (r ∷ y ∷ ys)) ≡ place_root r (cond t ys (y ∷ without_first test ys))
      go ih true true g k = rw k refl
      go ih true false g k = rw (k, g) (ap (λ rest. y ∷ rest) ih)
      go ih false true g k = rw (e, k) (sym (place-first r ys (before-all r y ys g h.0)))
      go ih false false g k = rw (e, k, g) refl

  pub without-placed : (ys : List Root) (r : Root) → AllByRecursion (λ y. test y ≡ true → gt r y ≡ false) ys → test r ≡ true → without_first test (place_root r ys) ≡ ys
  without-placed [] r h e = rw e refl
  without-placed (y ∷ ys) r h e = go (without-placed ys r h.1 e) (gt r y) (test y) refl refl
    where
      go : without_first test (place_root r ys) ≡ ys → (b t : Bool) → gt r y ≡ b → test y ≡ t → without_first test (cond b (y ∷ place_root r ys) (r ∷ y ∷ ys)) ≡ y ∷ ys
      go ih true true g k = let low = h.0 k in cc (low, g)
      go ih true false g k = rw k (ap (λ rest. y ∷ rest) ih)
      go ih false t g k = rw e refl

  pub find-place : (ys : List Root) (r : Root) → test r ≡ false → find test (place_root r ys) ≡ find test ys
  find-place [] r e = rw e refl
  find-place (y ∷ ys) r e = go (find-place ys r e) (gt r y)
    where
      go : find test (place_root r ys) ≡ find test ys → (b : Bool) → find test (cond b (y ∷ place_root r ys) (r ∷ y ∷ ys)) ≡ find test (y ∷ ys)
      go ih true = ap (λ found. cond (test y) (Some y) found) ih
      go ih false = rw e refl

  pub find-placed : (ys : List Root) (r : Root) → AllByRecursion (λ y. test y ≡ true → gt r y ≡ false) ys → test r ≡ true → find test (place_root r ys) ≡ Some r
  find-placed [] r h e = rw e refl
  find-placed (y ∷ ys) r h e = go (find-placed ys r h.1 e) (gt r y) (test y) refl refl
    where
      go : find test (place_root r ys) ≡ Some r → (b t : Bool) → gt r y ≡ b → test y ≡ t → find test (cond b (y ∷ place_root r ys) (r ∷ y ∷ ys)) ≡ Some r
      go ih true true g k = let low = h.0 k in cc (low, g)
      go ih true false g k = rw k ih
      go ih false t g k = rw e refl

  none-found : (ys : List Root) → NonePass ys → find test ys ≡ None
  none-found [] h = refl
  none-found (y ∷ ys) h = rw h.0 (none-found ys h.1)

  none-without : (ys : List Root) → NonePass ys → without_first test ys ≡ ys
  none-without [] h = refl
  none-without (y ∷ ys) h = rw h.0 (ap (λ rest. y ∷ rest) (none-without ys h.1))

  -- those that pass and are of a shard stand behind an earlier one of it
  matched : (x : Root) (rs others : List Root) → AllByRecursion (Before x) rs → NonePass others → AllByRecursion (λ y. test y ≡ true → gt x y ≡ false) (both_roots rs others)
  matched x rs others h k = both-each (λ y. test y ≡ true → gt x y ≡ false) rs others (low rs h) (none others k)
    where
      low : (ys : List Root) → AllByRecursion (Before x) ys → AllByRecursion (λ y. test y ≡ true → gt x y ≡ false) ys
      low [] h = tt
      low (y ∷ ys) h = ((λ t. h.0), low ys h.1)

      none : (ys : List Root) → NonePass ys → AllByRecursion (λ y. test y ≡ true → gt x y ≡ false) ys
      none [] h = tt
      none (y ∷ ys) h = ((λ t. cc (t, h.0)), none ys h.1)

  -- where only those of the first shard pass
  pub both-without : (rs others : List Root) → Rising rs → Rising others → NonePass others → without_first test (both_roots rs others) ≡ both_roots (without_first test rs) others
  both-without [] others h k none = none-without others none
  both-without (x ∷ rs) others h k none = go (both-without rs others h.1 k none) (test x) refl
    where
      go : without_first test (both_roots rs others) ≡ both_roots (without_first test rs) others → (t : Bool) → test x ≡ t → without_first test (place_root x (both_roots rs others)) ≡ both_roots (cond t rs (x ∷ without_first test rs)) others
      go ih true e = without-placed (both_roots rs others) x (matched x rs others h.0 none) e
      go ih false e = without-place (both_roots rs others) x (both-rising rs others k) e ∙ ap (λ rest. place_root x rest) ih

  pub both-find : (rs others : List Root) → Rising rs → NonePass others → find test (both_roots rs others) ≡ find test rs
  both-find [] others h none = none-found others none
  both-find (x ∷ rs) others h none = go (both-find rs others h.1 none) (test x) refl
    where
      go : find test (both_roots rs others) ≡ find test rs → (t : Bool) → test x ≡ t → find test (place_root x (both_roots rs others)) ≡ cond t (Some x) (find test rs)
      go ih true e = find-placed (both_roots rs others) x (matched x rs others h.0 none) e
      go ih false e = find-place (both_roots rs others) x e ∙ ih

  -- and where none of the first does
  pub without-both : (rs others : List Root) → Rising others → NonePass rs → without_first test (both_roots rs others) ≡ both_roots rs (without_first test others)
  without-both [] others k none = refl
  without-both (x ∷ rs) others k none = without-place (both_roots rs others) x (both-rising rs others k) none.0 ∙ ap (λ rest. place_root x rest) (without-both rs others k none.1)

  pub find-both : (rs others : List Root) → NonePass rs → find test (both_roots rs others) ≡ find test others
  find-both [] others none = refl
  find-both (x ∷ rs) others none = find-place (both_roots rs others) x none.0 ∙ find-both rs others none.1

-- ---- counting

module _ (test : Root → Bool) where
  abbrev pub passing : List Root → ℕ
  passing [] = 0
  passing (r ∷ rs) = cond (test r) 1 0 + passing rs

  pub passing-is : (rs : List Root) → count_by test rs ≡ passing rs
  passing-is [] = refl
  passing-is (r ∷ rs) = sum_by-cons (λ (x : Root). cond (test x) 1 0) r rs ∙ ap (λ n. cond (test r) 1 0 + n) (passing-is rs)

  passing-place : (ys : List Root) (r : Root) → passing (place_root r ys) ≡ cond (test r) 1 0 + passing ys
  passing-place [] r = refl
  passing-place (y ∷ ys) r = go (passing-place ys r) (gt r y)
    where
      go : passing (place_root r ys) ≡ cond (test r) 1 0 + passing ys → (b : Bool) → passing (cond b (y ∷ place_root r ys) (r ∷ y ∷ ys)) ≡ cond (test r) 1 0 + (cond (test y) 1 0 + passing ys)
      go ih true = omega (arith, ih)
      go ih false = refl

  pub passing-both : (rs others : List Root) → passing (both_roots rs others) ≡ passing rs + passing others
  passing-both [] others = omega arith
  passing-both (x ∷ rs) others = let more = passing-place (both_roots rs others) x in let rest = passing-both rs others in omega (arith, more, rest)
