-- Which roots and blocks of all shards pass a test.
use Rattle.std.proofs.Common.{Ordering, Less, Equal, Greater, ◌≡◌, inl, inr, List, [], ◌∷◌, ◌++◌, map, filter, Bool, true, false, cond, not, Some, None, refl, sym, ap, ◌∙◌}
use Rattle.std.proofs.lemmas.Map.Keys.{sorted_head, sorted_tail}
use Rattle.std.specs.BTreeMap.{insert_entry, is_at}
use Rattle.std.specs.List.{AllByRecursion}
use Rattle.std.specs.List.Sorted.{IsStrictlySortedBy}
use Rattle.std.specs.Map.{lookup, keys_of}
use Rattle.std.specs.Ordering.{match_ordering}
use Rattle.hs_limits.specs.declared.address.Address.{Address}
use Rattle.hs_model.specs.Store.{Root, address_cmp, place_root}
use Rattle.hs_model.proofs.Members.{Member, at_is_same}
use Rattle.hs_laws.proofs.InsertLemmas.{compare}
use Rattle.hs_laws.proofs.OrderLemmas.{Rising, address_total}
use Rattle.hs_fold.specs.Catalogue.{Present}
use Rattle.hs_fold.specs.Shards.Catalogue.{Catalogue as Plain}
use Rattle.hs_fold.specs.Shards.Opened.{both_roots, all_roots}
use Rattle.hs_fold.specs.Runs.Facts.{RootFacts}
use Rattle.hs_fold.proofs.Runs.PruneLemmas.{filter-place}
use Rattle.hs_fold.proofs.Shards.RootLemmas.{both-rising}
use Rattle.hs_fold.proofs.Shards.StoreLemmas.{all-rising}

-- ---- roots that don't stay

pub filter-both : (test : Root → Bool) (rs others : List Root) → Rising others → filter test (both_roots rs others) ≡ both_roots (filter test rs) (filter test others)
filter-both test [] others h = refl
filter-both test (r ∷ rs) others h = filter-place test (both_roots rs others) r (both-rising rs others h) ∙ go (filter-both test rs others h) (test r)
  where
    go : filter test (both_roots rs others) ≡ both_roots (filter test rs) (filter test others) → (b : Bool) → cond b (place_root r (filter test (both_roots rs others))) (filter test (both_roots rs others)) ≡ both_roots (cond b (r ∷ filter test rs) (filter test rs)) (filter test others)
    go ih true = ap (place_root r) ih
    go ih false = ih

pub filter-all : (test : Root → Bool) (front back : List Plain) (c d : Plain) → filter test d.roots ≡ filter test c.roots → filter test (all_roots (front ++ d ∷ back)) ≡ filter test (all_roots (front ++ c ∷ back))
filter-all test [] back c d e = filter-both test d.roots (all_roots back) (all-rising back) ∙ ap (λ rs. both_roots rs (filter test (all_roots back))) e ∙ sym (filter-both test c.roots (all_roots back) (all-rising back))
filter-all test (x ∷ front) back c d e =
    filter-both test x.roots (all_roots (front ++ d ∷ back)) (all-rising (front ++ d ∷ back))
    ∙ ap (λ rest. both_roots (filter test x.roots) rest) (filter-all test front back c d e)
    ∙ sym (filter-both test x.roots (all_roots (front ++ c ∷ back)) (all-rising (front ++ c ∷ back)))

pub filter-gone : (test : Root → Bool) (gone : RootFacts → Bool) (ks : List RootFacts) → ((k : RootFacts) → Member k ks → gone k ≡ true → test k.root ≡ false) → filter test (map (λ (k : RootFacts). k.root) (filter (λ k. not (gone k)) ks)) ≡ filter test (map (λ (k : RootFacts). k.root) ks)
filter-gone test gone [] h = refl
filter-gone test gone (k ∷ ks) h = go (filter-gone test gone ks (λ x m. h x (inr m))) (gone k) refl
  where
    go : filter test (map (λ (k : RootFacts). k.root) (filter (λ k. not (gone k)) ks)) ≡ filter test (map (λ (k : RootFacts). k.root) ks) → (b : Bool) → gone k ≡ b
        → filter test (map (λ (k : RootFacts). k.root) (cond (not b) (k ∷ filter (λ k. not (gone k)) ks) (filter (λ k. not (gone k)) ks))) ≡ cond (test k.root) (k.root ∷ filter test (map (λ (k : RootFacts). k.root) ks)) (filter test (map (λ (k : RootFacts). k.root) ks))
    go ih true e = rw (h k (inl refl) e) ih
    go ih false e = one (test k.root)
      where
        one : (t : Bool) → cond t (k.root ∷ filter test (map (λ (k : RootFacts). k.root) (filter (λ k. not (gone k)) ks))) (filter test (map (λ (k : RootFacts). k.root) (filter (λ k. not (gone k)) ks))) ≡ cond t (k.root ∷ filter test (map (λ (k : RootFacts). k.root) ks)) (filter test (map (λ (k : RootFacts). k.root) ks))
        one true = ap (λ rs. k.root ∷ rs) ih
        one false = ih

-- ---- blocks that go

pub filter-insert : (test : Address × Present → Bool) (es : List (Address × Present)) (a : Address) (v : Present) → IsStrictlySortedBy address_cmp (keys_of es) → lookup (is_at (address_cmp a)) es ≡ None
    → filter test (insert_entry address_cmp es a v) ≡ cond (test (a, v)) (insert_entry address_cmp (filter test es) a v) (filter test es)
filter-insert test [] a v d h = refl
filter-insert test (x ∷ es) a v d h = go (filter-insert test es a v (sorted_tail address_cmp x.0 (keys_of es) d)) (address_cmp a x.0) refl
  where
    first : (ys : List (Address × Present)) → AllByRecursion (λ y. address_cmp a y ≡ Less) (keys_of ys) → insert_entry address_cmp ys a v ≡ (a, v) ∷ ys
    first [] g = refl
    first (y ∷ ys) g = rw g.0 refl

    low : (k : Address) → address_cmp a k ≡ Less → (ys : List (Address × Present)) → AllByRecursion (λ y. address_cmp k y ≡ Less) (keys_of ys) → AllByRecursion (λ y. address_cmp a y ≡ Less) (keys_of (filter test ys))
    low k l [] g = tt
    low k l (y ∷ ys) g = pick (low k l ys g.1) (test y)
      where
        pick : AllByRecursion (λ y. address_cmp a y ≡ Less) (keys_of (filter test ys)) → (b : Bool) → AllByRecursion (λ y. address_cmp a y ≡ Less) (keys_of (cond b (y ∷ filter test ys) (filter test ys)))
        pick ih true = (address_total.trans a k y.0 l g.0, ih)
        pick ih false = ih

    less : (l : address_cmp a x.0 ≡ Less) (t u : Bool) → cond u ((a, v) ∷ cond t (x ∷ filter test es) (filter test es)) (cond t (x ∷ filter test es) (filter test es)) ≡ cond u (insert_entry address_cmp (cond t (x ∷ filter test es) (filter test es)) a v) (cond t (x ∷ filter test es) (filter test es))
    less l true true = sym (rw l refl)
    less l false true = sym (first (filter test es) (low x.0 l es (sorted_head address_cmp x.0 (keys_of es) d)))
    less l t false = refl

    more : (l : address_cmp a x.0 ≡ Greater) → filter test (insert_entry address_cmp es a v) ≡ cond (test (a, v)) (insert_entry address_cmp (filter test es) a v) (filter test es) → (t u : Bool) → test (a, v) ≡ u
        → cond t (x ∷ filter test (insert_entry address_cmp es a v)) (filter test (insert_entry address_cmp es a v)) ≡ cond u (insert_entry address_cmp (cond t (x ∷ filter test es) (filter test es)) a v) (cond t (x ∷ filter test es) (filter test es))
    more l ih true true u = rw l (ap (λ rest. x ∷ rest) (rw u at ih))
    more l ih false true u = rw u at ih
    more l ih true false u = ap (λ rest. x ∷ rest) (rw u at ih)
    more l ih false false u = rw u at ih

    absent : (r : Ordering) → address_cmp a x.0 ≡ r → lookup (is_at (address_cmp a)) (x ∷ es) ≡ None → lookup (is_at (address_cmp a)) es ≡ None
    absent r e n = step (is_at (address_cmp a) x.0) n
      where
        step : (t : Bool) → cond t (Some x.1) (lookup (is_at (address_cmp a)) es) ≡ None → lookup (is_at (address_cmp a)) es ≡ None
        step true n = cc n
        step false n = n

    go : (lookup (is_at (address_cmp a)) es ≡ None → filter test (insert_entry address_cmp es a v) ≡ cond (test (a, v)) (insert_entry address_cmp (filter test es) a v) (filter test es)) → (r : Ordering) → address_cmp a x.0 ≡ r
        → filter test (match_ordering r ((a, v) ∷ x ∷ es) ((x.0, v) ∷ es) (x ∷ insert_entry address_cmp es a v)) ≡ cond (test (a, v)) (insert_entry address_cmp (filter test (x ∷ es)) a v) (filter test (x ∷ es))
    go ih Less e = less e (test x) (test (a, v))
    go ih Equal e = (let n : lookup (is_at (address_cmp a)) (x ∷ es) ≡ None = h in let at : is_at (address_cmp a) x.0 ≡ true = at_is_same a x.0 ∙ compare a x.0 Equal e in let found : lookup (is_at (address_cmp a)) (x ∷ es) ≡ Some x.1 = rw at refl in cc (n, found))
    go ih Greater e = more e (ih (absent Greater e h)) (test x) (test (a, v)) refl
