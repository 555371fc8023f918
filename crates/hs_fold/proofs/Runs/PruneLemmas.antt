-- Taking away the roots that count in no epoch any more goes before or after each change.
use Rattle.std.proofs.Common.{◌≡◌, ℕ, ◌+◌, ◌<◌, ◌≤◌, ◌==◌, ◌&&◌, List, [], ◌∷◌, length, Bool, true, false, cond, not, Option, Some, None, is_none, refl, sym, ap, ◌∙◌, arith, find, filter, slice_index, slice_set, bytes_eq}
use Rattle.std.proofs.lemmas.Bool.{and_parts}
use Rattle.hs_limits.specs.declared.address.Address.{Address}
use Rattle.hs_limits.specs.Limits.{greatest_limits}
use Rattle.hs_limits.specs.Shape.{shard_of_key}
use Rattle.hs_model.specs.Inner.{stays, none_below, enter}
use Rattle.hs_model.specs.Judge.{drop_root, roots_with}
use Rattle.hs_model.specs.Refusals.{shard_full}
use Rattle.std.specs.BTreeMap.{insert_entry}
use Rattle.hs_model.specs.Store.{Store, Root, address_cmp, epoch_at, with_block, root_epoch, retained_at, roots_in, is_retained, place_root, without_first, with_roots}
use Rattle.hs_laws.proofs.EnterLemmas.{enter-least}
use Rattle.hs_laws.proofs.EpochLemmas.{least_from_none_below, none_below_from_least}
use Rattle.hs_laws.proofs.JudgeKeeps.{least-root_epoch}
use Rattle.hs_laws.proofs.OrderLemmas.{Before, Rising, before-all, kept-all, without-rising}
use Rattle.hs_laws.specs.Valid.{least_epoch}
use Rattle.hs_fold.proofs.Shards.RootLemmas.{gt, passing, passing-is, place-first}
use Rattle.hs_fold.specs.Runs.Opened.{pruned}
use Rattle.hs_fold.specs.Shards.Change.{Change, stores, gives, keeps, drops, is_usable, may_keep, change}

-- ---- filters of roots

pub filter-place : (test : Root → Bool) (rs : List Root) (r : Root) → Rising rs → filter test (place_root r rs) ≡ cond (test r) (place_root r (filter test rs)) (filter test rs)
filter-place test [] r h = refl
filter-place test (y ∷ ys) r h = go (filter-place test ys r h.1) (gt r y) refl (test y) refl (test r) refl
  where
    go : filter test (place_root r ys) ≡ cond (test r) (place_root r (filter test ys)) (filter test ys) → (b : Bool) → gt r y ≡ b → (t : Bool) → test y ≡ t → (u : Bool) → test r ≡ u → filter test (cond b (y ∷ place_root r ys) (r ∷ y ∷ ys)) ≡ cond u (place_root r (cond t (y ∷ filter test ys) (filter test ys))) (cond t (y ∷ filter test ys) (filter test ys))
    go ih true b true t true u = rw (t, b) (ap (λ rs. y ∷ rs) (rw u at ih))
    go ih true b true t false u = rw t (ap (λ rs. y ∷ rs) (rw u at ih))
    go ih true b false t true u = rw t (rw u at ih)
    go ih true b false t false u = rw t (rw u at ih)
    go ih false b true t true u = rw (t, u, b) refl
    go ih false b true t false u = rw (t, u) refl
    go ih false b false t true u = rw (t, u) (sym (place-first test r (filter test ys) (kept-all (Before r) test ys (before-all r y ys b h.0))))
    go ih false b false t false u = rw (t, u) refl

module _ (p q : Root → Bool) (more : (r : Root) → p r ≡ true → q r ≡ true) where
  pub find-filter : (rs : List Root) → find p (filter q rs) ≡ find p rs
  find-filter [] = refl
  find-filter (r ∷ rs) = go (find-filter rs) (p r) refl (q r) refl
    where
      go : find p (filter q rs) ≡ find p rs → (t : Bool) → p r ≡ t → (u : Bool) → q r ≡ u → find p (cond u (r ∷ filter q rs) (filter q rs)) ≡ cond t (Some r) (find p rs)
      go ih true t true u = rw t refl
      go ih true t false u = let k : q r ≡ true = more r t in cc (k, u)
      go ih false t true u = rw t ih
      go ih false t false u = ih

  pub passing-filter : (rs : List Root) → passing p (filter q rs) ≡ passing p rs
  passing-filter [] = refl
  passing-filter (r ∷ rs) = go (passing-filter rs) (p r) refl (q r) refl
    where
      go : passing p (filter q rs) ≡ passing p rs → (t : Bool) → p r ≡ t → (u : Bool) → q r ≡ u → passing p (cond u (r ∷ filter q rs) (filter q rs)) ≡ cond t 1 0 + passing p rs
      go ih true t true u = rw t (omega (arith, ih))
      go ih true t false u = let k : q r ≡ true = more r t in cc (k, u)
      go ih false t true u = rw t (omega (arith, ih))
      go ih false t false u = omega (arith, ih)

  pub without-filter : (rs : List Root) → without_first p (filter q rs) ≡ filter q (without_first p rs)
  without-filter [] = refl
  without-filter (r ∷ rs) = go (without-filter rs) (p r) refl (q r) refl
    where
      go : without_first p (filter q rs) ≡ filter q (without_first p rs) → (t : Bool) → p r ≡ t → (u : Bool) → q r ≡ u → without_first p (cond u (r ∷ filter q rs) (filter q rs)) ≡ filter q (cond t rs (r ∷ without_first p rs))
      go ih true t true u = rw t refl
      go ih true t false u = let k : q r ≡ true = more r t in cc (k, u)
      go ih false t true u = rw (t, u) (ap (λ rs. r ∷ rs) ih)
      go ih false t false u = rw u ih

-- a filter behind a stricter one
filter-twice : (p q : Root → Bool) → ((r : Root) → p r ≡ true → q r ≡ true) → (rs : List Root) → filter p (filter q rs) ≡ filter p rs
filter-twice p q more [] = refl
filter-twice p q more (r ∷ rs) = go (filter-twice p q more rs) (p r) refl (q r) refl
  where
    go : filter p (filter q rs) ≡ filter p rs → (t : Bool) → p r ≡ t → (u : Bool) → q r ≡ u → filter p (cond u (r ∷ filter q rs) (filter q rs)) ≡ cond t (r ∷ filter p rs) (filter p rs)
    go ih true t true u = rw t (ap (λ rs. r ∷ rs) ih)
    go ih true t false u = let k : q r ≡ true = more r t in cc (k, u)
    go ih false t true u = rw t ih
    go ih false t false u = ih

-- ---- what stays

retained-stays : (s : Store) (r : Root) → is_none r.dropped ≡ true → stays s r ≡ true
retained-stays s r e = go r.dropped refl e
  where
    go : (d : Option ℕ) → r.dropped ≡ d → is_none d ≡ true → stays s r ≡ true
    go None e t = rw e refl
    go (Some d) e t = cc t

key-stays : (s : Store) (key : List ℕ) (r : Root) → is_retained key r ≡ true → stays s r ≡ true
key-stays s key r e = retained-stays s r (and_parts (is_none r.dropped) (bytes_eq r.key key) e).0

shard-stays : (s : Store) (n shard : ℕ) (r : Root) → (is_none r.dropped && shard_of_key n r.key == shard) ≡ true → stays s r ≡ true
shard-stays s n shard r e = retained-stays s r (and_parts (is_none r.dropped) (shard_of_key n r.key == shard) e).0

-- a root that is dropped now stays
new-stays : (s : Store) (key : List ℕ) (r : Root) → 0 < length s.epochs → stays s (record r { dropped = Some (root_epoch s key) }) ≡ true
new-stays s key r h = go (none_below s (root_epoch s key + 2)) refl
  where
    go : (b : Bool) → none_below s (root_epoch s key + 2) ≡ b → not (none_below s (root_epoch s key + 2)) ≡ true
    go true e = let low = least_from_none_below s (root_epoch s key + 2) h e in let up = least-root_epoch s key h in absurd (omega (arith, low, up))
    go false e = rw e refl

-- ---- changes

retained-pruned : (s : Store) (key : List ℕ) → retained_at (pruned s) key ≡ retained_at s key
retained-pruned s key = find-filter (is_retained key) (stays s) (key-stays s key) s.roots

roots_in-pruned : (s : Store) (shard : ℕ) → roots_in (pruned s) shard ≡ roots_in s shard
roots_in-pruned s shard =
    passing-is (λ (r : Root). is_none r.dropped && shard_of_key (length s.epochs) r.key == shard) (filter (stays s) s.roots)
    ∙ passing-filter (λ (r : Root). is_none r.dropped && shard_of_key (length s.epochs) r.key == shard) (stays s) (shard-stays s (length s.epochs) shard) s.roots
    ∙ sym (passing-is (λ (r : Root). is_none r.dropped && shard_of_key (length s.epochs) r.key == shard) s.roots)

may_keep-pruned : (s : Store) (held : ℕ) (a : Address) (key : List ℕ) → may_keep (pruned s) held a key ≡ may_keep s held a key
may_keep-pruned s held a key = rw (retained-pruned s key, roots_in-pruned s (shard_of_key (length s.epochs) key)) refl

pub change-pruned : (s : Store) → Rising s.roots → 0 < length s.epochs → (one : Change) → pruned (change s one) ≡ change (pruned s) one
change-pruned s rising some (stores least a block) = go (is_usable s least a && is_none (shard_full greatest_limits s a))
  where
    go : (b : Bool) → pruned (cond b (with_block s a block) s) ≡ cond b (with_block (pruned s) a block) (pruned s)
    go true = refl
    go false = refl
change-pruned s rising some (gives least a) = go (is_usable s least a)
  where
    given : Store → Store
    given t = record t { given = insert_entry address_cmp t.given a (epoch_at t a) }

    go : (b : Bool) → pruned (cond b (given s) s) ≡ cond b (given (pruned s)) (pruned s)
    go true = refl
    go false = refl
change-pruned s rising some (keeps held a key) = rw (may_keep-pruned s held a key, retained-pruned s key) (go (may_keep s held a key) (retained_at s key))
  where
    root : Root
    root = record { key = key; address = a; dropped = None }

    go : (b : Bool) (found : Option Root) → pruned (cond b (with_roots s (roots_with found s.roots root)) s) ≡ cond b (with_roots (pruned s) (roots_with found (filter (stays s) s.roots) root)) (pruned s)
    go false found = refl
    go true (Some old) = refl
    go true None = ap (λ rs. with_roots s rs) (filter-place (stays s) s.roots root rising)
change-pruned s rising some (drops key) = rw (retained-pruned s key) (go (retained_at s key))
  where
    go : (found : Option Root) → pruned (with_roots s (drop_root found s.roots key (root_epoch s key))) ≡ with_roots (pruned s) (drop_root found (filter (stays s) s.roots) key (root_epoch s key))
    go None = refl
    go (Some root) =
        let new : Root = record root { dropped = Some (root_epoch s key) } in
        let placed : filter (stays s) (place_root new (without_first (is_retained key) s.roots)) ≡ place_root new (filter (stays s) (without_first (is_retained key) s.roots)) =
        filter-place (stays s) (without_first (is_retained key) s.roots) new (without-rising (is_retained key) s.roots rising) ∙ rw (new-stays s key root some) refl in
        ap (λ rs. with_roots s rs) (placed ∙ ap (place_root new) (sym (without-filter (is_retained key) (stays s) (key-stays s key) s.roots)))

-- ---- Enter

entered : Store → ℕ → Store
entered s shard = record s { epochs = slice_set s.epochs shard (slice_index s.epochs shard + 1) }

stays-less : (s : Store) (shard : ℕ) → 0 < length s.epochs → (r : Root) → stays (record s { epochs = slice_set s.epochs shard (slice_index s.epochs shard + 1) }) r ≡ true → stays s r ≡ true
stays-less s shard some r e = go r.dropped refl
  where
    t : Store
    t = record s { epochs = slice_set s.epochs shard (slice_index s.epochs shard + 1) }

    more : (d : ℕ) (b c : Bool) → none_below s (d + 2) ≡ b → none_below t (d + 2) ≡ c → not c ≡ true → not b ≡ true
    more d false c e f h = refl
    more d true true e f h = h
    more d true false e f h =
        let low = least_from_none_below s (d + 2) some e in
        let up : least_epoch s ≤ least_epoch t = enter-least s shard some in
        let back = none_below_from_least t (d + 2) (omega (arith, low, up)) in
        cc (f, back)

    go : (d : Option ℕ) → r.dropped ≡ d → stays s r ≡ true
    go None q = rw q refl
    go (Some d) q = let u : not (none_below t (d + 2)) ≡ true = rw q at e in rw q (more d (none_below s (d + 2)) (none_below t (d + 2)) refl refl u)

pub enter-pruned : (s : Store) (shard : ℕ) → 0 < length s.epochs → pruned (record s { epochs = slice_set s.epochs shard (slice_index s.epochs shard + 1) }) ≡ enter (pruned s) shard
enter-pruned s shard some =
    let t : Store = record s { epochs = slice_set s.epochs shard (slice_index s.epochs shard + 1) } in
    ap (λ rs. with_roots t rs) (sym (filter-twice (stays t) (stays s) (stays-less s shard some) s.roots))
