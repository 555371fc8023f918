-- Counts of a map's keys by shard, as keys come and go.
use Rattle.std.proofs.Common.{◌≡◌, ◌≢◌, ◌⊎◌, inl, inr, ℕ, ◌+◌, ◌-◌, ◌%◌, ◌<◌, ◌≤◌, List, [], ◌∷◌, Bool, true, false, not, cond, Some, None, refl, sym, ap, ◌∙◌, subst, filter, length, replicate, slice_index, slice_index_or, slice_set, is_eq, Ordering, Less, Equal, Greater, ◌==◌, ◌&&◌, nat_lt, arith, mod-lt}
use Rattle.std.proofs.lemmas.List.{get_or_default, get_or-set_same, get_or-set_other, length-set, get_or-replicate, length-replicate}
use Rattle.std.proofs.lemmas.Bool.{and_parts, eq-eqb, eqb-true}
use Rattle.std.proofs.lemmas.Bool.Decides.{eqb_tells}
use Rattle.std.specs.BTreeMap.{is_at, insert_entry}
use Rattle.std.specs.List.{count_by}
use Rattle.std.specs.Map.{lookup, remove_entry, set_value}
use Rattle.std.specs.Ordering.{match_ordering}
use Rattle.hs_limits.specs.declared.address.Address.{Address}
use Rattle.hs_limits.specs.declared.shape.Shape.{Shape}
use Rattle.hs_limits.specs.Shape.{IsShape, shard_of}
use Rattle.hs_model.specs.declared.slow.unreached.Run.{Run}
use Rattle.hs_model.specs.declared.store.StoredBlock.{StoredBlock}
use Rattle.hs_model.specs.Reach.{is_among}
use Rattle.hs_model.specs.Swept.{removes}
use Rattle.hs_plain.specs.Counted.{AreCounts}
use Rattle.hs_model.proofs.CountLemmas.{count-cons}

add_swap : (a b c : ℕ) → a + (b + c) ≡ b + (a + c)
add_swap a b c = omega arith

-- two lists with the same first element count alike where their rests do
pub count-rest : {X : Type 0} (p : X → Bool) (x : X) (xs ys : List X) → count_by p xs ≡ count_by p ys → count_by p (x ∷ xs) ≡ count_by p (x ∷ ys)
count-rest p x xs ys e = count-cons p x xs ∙ ap (λ z. cond (p x) 1 0 + z) e ∙ sym (count-cons p x ys)

-- and one more behind the first is one more
pub count-more : {X : Type 0} (p : X → Bool) (x : X) (xs ys : List X) (n : ℕ) → count_by p xs ≡ n + count_by p ys → count_by p (x ∷ xs) ≡ n + count_by p (x ∷ ys)
count-more p x xs ys n e = count-cons p x xs ∙ ap (λ z. cond (p x) 1 0 + z) e ∙ add_swap (cond (p x) 1 0) n (count_by p ys) ∙ ap (λ z. n + z) (sym (count-cons p x ys))

-- ---- how many keys pass a test

module _ {K V : Type 0} (p : K → Bool) where
  abbrev of_key : K × V → Bool
  of_key e = p e.0

  abbrev count : List (K × V) → ℕ
  count es = count_by of_key es

  count-insert : (cmp : K → K → Ordering) (es : List (K × V)) (k : K) (v : V) → lookup (is_at (cmp k)) es ≡ None → count (insert_entry cmp es k v) ≡ cond (p k) 1 0 + count es
  count-insert cmp [] k v n = count-cons of_key (k, v) []
  count-insert cmp (x ∷ es) k v n = go (count-insert cmp es k v) (cmp k x.0) n
    where
      go : (lookup (is_at (cmp k)) es ≡ None → count (insert_entry cmp es k v) ≡ cond (p k) 1 0 + count es) → (o : Ordering) → cond (is_eq o) (Some x.1) (lookup (is_at (cmp k)) es) ≡ None → count (match_ordering o ((k, v) ∷ x ∷ es) ((x.0, v) ∷ es) (x ∷ insert_entry cmp es k v)) ≡ cond (p k) 1 0 + count (x ∷ es)
      go ih Less m = count-cons of_key (k, v) (x ∷ es)
      go ih Equal m = cc m
      go ih Greater m = count-more of_key x (insert_entry cmp es k v) es (cond (p k) 1 0) (ih m)

  count-remove : (test : K → Bool) (es : List (K × V)) (k : K) (v : V) → ((x : K) → test x ≡ true → x ≡ k) → lookup test es ≡ Some v → count es ≡ cond (p k) 1 0 + count (remove_entry test es)
  count-remove test [] k v same h = cc h
  count-remove test (x ∷ es) k v same h = go (count-remove test es k v same) (test x.0) refl h
    where
      go : (lookup test es ≡ Some v → count es ≡ cond (p k) 1 0 + count (remove_entry test es)) → (b : Bool) → test x.0 ≡ b → cond b (Some x.1) (lookup test es) ≡ Some v → count (x ∷ es) ≡ cond (p k) 1 0 + count (cond b es (x ∷ remove_entry test es))
      go ih true e m = count-cons of_key x es ∙ ap (λ z. cond (p z) 1 0 + count es) (same x.0 e)
      go ih false e m = count-more of_key x es (remove_entry test es) (cond (p k) 1 0) (ih m)

  count-set : (test : K → Bool) (es : List (K × V)) (w : V) → count (set_value test es w) ≡ count es
  count-set test [] w = refl
  count-set test (x ∷ es) w = go (count-set test es w) (test x.0)
    where
      go : count (set_value test es w) ≡ count es → (b : Bool) → count (cond b ((x.0, w) ∷ es) (x ∷ set_value test es w)) ≡ count (x ∷ es)
      go ih true = refl
      go ih false = count-rest of_key x (set_value test es w) es ih

  -- what does not pass may go
  count-filter : (kept : K × V → Bool) (es : List (K × V)) → ((e : K × V) → kept e ≡ false → p e.0 ≡ false) → count (filter kept es) ≡ count es
  count-filter kept [] h = refl
  count-filter kept (x ∷ es) h = go (count-filter kept es h) (kept x) refl
    where
      none_more : (b : Bool) (n : ℕ) → b ≡ false → n ≡ cond b 1 0 + n
      none_more true n e = cc e
      none_more false n e = omega arith

      go : count (filter kept es) ≡ count es → (b : Bool) → kept x ≡ b → count (cond b (x ∷ filter kept es) (filter kept es)) ≡ count (x ∷ es)
      go ih true e = count-rest of_key x (filter kept es) es ih
      go ih false e = ih ∙ none_more (p x.0) (count es) (h x e) ∙ sym (count-cons of_key x es)

-- ---- the counts of all shards

in_bounds : (shards shard : ℕ) → shard < length (replicate {A = ℕ} shards 0) → shard < shards
in_bounds shards shard l =
    let zeros : length (replicate {A = ℕ} shards 0) ≡ shards = length-replicate shards 0 in
    omega (arith, l, zeros)

-- what is read at a shard's place is its count
pub count_at : (counts : List ℕ) (count : ℕ → ℕ) (shard place n : ℕ) → AreCounts counts count → place ≡ shard → shard < length counts → n ≡ slice_index_or counts place n → n ≡ count shard
count_at counts count shard place n h e l r = r ∙ ap (λ z. slice_index_or counts z n) e ∙ get_or_default counts shard n 0 l ∙ h.of_shard shard l

module _ {K : Type 0} (V : Type 0) (place_of : K → ℕ) where
  abbrev pub by_shard : List (K × V) → ℕ → ℕ
  by_shard es shard = count_by (λ e. place_of e.0 == shard) es

  pub counts-none : (shards : ℕ) → AreCounts (replicate shards 0) (by_shard [])
  counts-none shards = record { of_shard = λ shard l. get_or-replicate shards shard 0 0 (in_bounds shards shard l) }

  at_shard : (shard other n : ℕ) → (other == shard) ≡ false → cond (other == shard) 1 0 + n ≡ n
  at_shard shard other n e = rw e (omega arith)

  here_more : (shard other n : ℕ) → (other == shard) ≡ true → cond (other == shard) 1 0 + n ≡ n + 1
  here_more shard other n e = rw e (omega arith)

  -- another number in the place of one shard, and the same in the places of the others
  replaced : (counts : List ℕ) (shard n : ℕ) (count : ℕ → ℕ) → shard < length counts → n ≡ count shard → ((other : ℕ) → (shard == other) ≡ false → other < length counts → slice_index counts other ≡ count other) → AreCounts (slice_set counts shard n) count
  replaced counts shard n count below here others = record { of_shard = λ other l. go other (omega (arith, l, length-set counts shard n)) (eqb_tells shard other) }
    where
      go : (other : ℕ) → other < length counts → ((shard == other) ≡ true) × (shard ≡ other) ⊎ ((shard == other) ≡ false) × (shard ≢ other) → slice_index (slice_set counts shard n) other ≡ count other
      go other l (inl e) = subst (λ z. slice_index (slice_set counts shard n) z ≡ count z) e.1 (get_or-set_same counts shard n 0 below ∙ here)
      go other l (inr e) = get_or-set_other counts shard other n 0 (λ same. e.1 (sym same)) ∙ others other e.0 l

  pub counts-insert : (cmp : K → K → Ordering) (es : List (K × V)) (k : K) (v : V) (counts : List ℕ) (n : ℕ) → lookup (is_at (cmp k)) es ≡ None → AreCounts counts (by_shard es) → place_of k < length counts → n ≡ slice_index counts (place_of k) + 1 → AreCounts (slice_set counts (place_of k) n) (by_shard (insert_entry cmp es k v))
  counts-insert cmp es k v counts n none h below e =
      let more : (shard : ℕ) → by_shard (insert_entry cmp es k v) shard ≡ cond (place_of k == shard) 1 0 + by_shard es shard = λ shard. count-insert (λ z. place_of z == shard) cmp es k v none in
      let here = e ∙ ap (λ z. z + 1) (h.of_shard (place_of k) below) ∙ sym (more (place_of k) ∙ here_more (place_of k) (place_of k) (by_shard es (place_of k)) (eq-eqb (place_of k) (place_of k) refl)) in
      replaced counts (place_of k) n (by_shard (insert_entry cmp es k v)) below here (λ other apart l. h.of_shard other l ∙ sym (more other ∙ at_shard other (place_of k) (by_shard es other) apart))

  -- where a key is, its shard's count is not 0
  pub counts-some : (test : K → Bool) (es : List (K × V)) (k : K) (v : V) (counts : List ℕ) → ((x : K) → test x ≡ true → x ≡ k) → lookup test es ≡ Some v → AreCounts counts (by_shard es) → place_of k < length counts → slice_index counts (place_of k) ≡ by_shard (remove_entry test es) (place_of k) + 1
  counts-some test es k v counts same found h below = h.of_shard (place_of k) below ∙ count-remove (λ z. place_of z == place_of k) test es k v same found ∙ here_more (place_of k) (place_of k) (by_shard (remove_entry test es) (place_of k)) (eq-eqb (place_of k) (place_of k) refl)

  pub counts-remove : (test : K → Bool) (es : List (K × V)) (k : K) (v : V) (counts : List ℕ) (n : ℕ) → ((x : K) → test x ≡ true → x ≡ k) → lookup test es ≡ Some v → AreCounts counts (by_shard es) → place_of k < length counts → n + 1 ≡ slice_index counts (place_of k) → AreCounts (slice_set counts (place_of k) n) (by_shard (remove_entry test es))
  counts-remove test es k v counts n same found h below e =
      let fewer : (shard : ℕ) → by_shard es shard ≡ cond (place_of k == shard) 1 0 + by_shard (remove_entry test es) shard = λ shard. count-remove (λ z. place_of z == shard) test es k v same found in
      let one = counts-some test es k v counts same found h below in
      replaced counts (place_of k) n (by_shard (remove_entry test es)) below (omega (arith, e, one)) (λ other apart l. h.of_shard other l ∙ fewer other ∙ at_shard other (place_of k) (by_shard (remove_entry test es) other) apart)

  pub counts-set : (test : K → Bool) (es : List (K × V)) (w : V) (counts : List ℕ) → AreCounts counts (by_shard es) → AreCounts counts (by_shard (set_value test es w))
  counts-set test es w counts h = record { of_shard = λ shard l. h.of_shard shard l ∙ sym (count-set (λ z. place_of z == shard) test es w) }

  -- keys of one shard alone may go, if its number is counted anew
  pub counts-filter : (kept : K × V → Bool) (es : List (K × V)) (shard n : ℕ) (counts : List ℕ) → ((e : K × V) → kept e ≡ false → place_of e.0 ≡ shard) → AreCounts counts (by_shard es) → shard < length counts → n ≡ by_shard (filter kept es) shard → AreCounts (slice_set counts shard n) (by_shard (filter kept es))
  counts-filter kept es shard n counts own h below e = replaced counts shard n (by_shard (filter kept es)) below e (λ other apart l. h.of_shard other l ∙ sym (count-filter (λ z. place_of z == other) kept es (λ x gone. subst (λ z. (z == other) ≡ false) (sym (own x gone)) apart)))

-- ---- the same, where places and lists are given by equations

-- a shard that a key or an address gives has a place among the counts
pub shard_below : (shape : Shape) (counts : List ℕ) (place n : ℕ) → IsShape shape → length counts ≡ shape.shards → place ≡ n % shape.shards → place < length counts
shard_below shape counts place n s l e = some (mod-lt n (some_shard s.shards))
  where
    some_shard : (shape.shards ≡ 1) ⊎ (shape.shards ≡ 2) ⊎ (shape.shards ≡ 4) ⊎ (shape.shards ≡ 8) → 0 < shape.shards
    some_shard h = elim h [ inl e ↦ omega (arith, e) | inr r ↦ elim r [ inl e ↦ omega (arith, e) | inr q ↦ elim q [ inl e ↦ omega (arith, e) | inr e ↦ omega (arith, e) ] ] ]

    some : n % shape.shards < shape.shards → place < length counts
    some h = omega (arith, h, l, e)

module _ {K : Type 0} {V : Type 0} (place_of : K → ℕ) where
  pub counts-inserted : (cmp : K → K → Ordering) (es new : List (K × V)) (k : K) (v : V) (counts : List ℕ) (place m n : ℕ) → lookup (is_at (cmp k)) es ≡ None → AreCounts counts (by_shard V place_of es) → place ≡ place_of k → place < length counts → m ≡ slice_index_or counts place m → n ≡ m + 1 → new ≡ insert_entry cmp es k v → AreCounts (slice_set counts place n) (by_shard V place_of new)
  counts-inserted cmp es new k v counts place m n none h p below r e f =
      let here : place_of k < length counts = subst (λ z. z < length counts) p below in
      let read : m ≡ slice_index counts (place_of k) = r ∙ ap (λ z. slice_index_or counts z m) p ∙ get_or_default counts (place_of k) m 0 here in
      let all : AreCounts (slice_set counts (place_of k) n) (by_shard V place_of (insert_entry cmp es k v)) = counts-insert V place_of cmp es k v counts n none h here (e ∙ ap (λ z. z + 1) read) in
      subst (λ z. AreCounts (slice_set counts z n) (by_shard V place_of new)) (sym p) (subst (λ z. AreCounts (slice_set counts (place_of k) n) (by_shard V place_of z)) (sym f) all)

  pub some_counted : (test : K → Bool) (es : List (K × V)) (k : K) (v : V) (counts : List ℕ) (place m : ℕ) → ((x : K) → test x ≡ true → x ≡ k) → lookup test es ≡ Some v → AreCounts counts (by_shard V place_of es) → place ≡ place_of k → place < length counts → m ≡ slice_index_or counts place m → 1 ≤ m
  some_counted test es k v counts place m same found h p below r =
      let here : place_of k < length counts = subst (λ z. z < length counts) p below in
      let read : m ≡ slice_index counts (place_of k) = r ∙ ap (λ z. slice_index_or counts z m) p ∙ get_or_default counts (place_of k) m 0 here in
      let one = counts-some V place_of test es k v counts same found h here in
      omega (arith, read, one)

  pub counts-removed : (test : K → Bool) (es new : List (K × V)) (k : K) (v : V) (counts : List ℕ) (place m : ℕ) → ((x : K) → test x ≡ true → x ≡ k) → lookup test es ≡ Some v → AreCounts counts (by_shard V place_of es) → place ≡ place_of k → place < length counts → m ≡ slice_index_or counts place m → new ≡ remove_entry test es → AreCounts (slice_set counts place (m - 1)) (by_shard V place_of new)
  counts-removed test es new k v counts place m same found h p below r f =
      let here : place_of k < length counts = subst (λ z. z < length counts) p below in
      let read : m ≡ slice_index counts (place_of k) = r ∙ ap (λ z. slice_index_or counts z m) p ∙ get_or_default counts (place_of k) m 0 here in
      let one = some_counted test es k v counts place m same found h p below r in
      let all : AreCounts (slice_set counts (place_of k) (m - 1)) (by_shard V place_of (remove_entry test es)) = counts-remove V place_of test es k v counts (m - 1) same found h here (omega (arith, read, one)) in
      subst (λ z. AreCounts (slice_set counts z (m - 1)) (by_shard V place_of new)) (sym p) (subst (λ z. AreCounts (slice_set counts (place_of k) (m - 1)) (by_shard V place_of z)) (sym f) all)

-- ---- blocks

-- a block that a sweep removes is of its shard
removed_there : (run : Run) (seen : List Address) (e : Address × StoredBlock) → not (removes run seen e.0 e.1.born) ≡ false → shard_of run.shape.shards e.0 ≡ run.shard
removed_there run seen e h = eqb-true (shard_of run.shape.shards e.0) run.shard (and_parts (shard_of run.shape.shards e.0 == run.shard) (nat_lt e.1.born run.epoch) (and_parts (shard_of run.shape.shards e.0 == run.shard && nat_lt e.1.born run.epoch) (not (is_among seen e.0)) (not_false (removes run seen e.0 e.1.born) h)).0).0
  where
    not_false : (b : Bool) → not b ≡ false → b ≡ true
    not_false true k = refl
    not_false false k = cc k

pub counts-swept : (run : Run) (seen : List Address) (es new : List (Address × StoredBlock)) (shards n place : ℕ) (counts : List ℕ) → run.shape.shards ≡ shards → place ≡ run.shard → run.shard < length counts → AreCounts counts (λ shard. count_by (λ e. shard_of shards e.0 == shard) es) → new ≡ filter (λ e. not (removes run seen e.0 e.1.born)) es → n ≡ count_by (λ e. shard_of run.shape.shards e.0 == run.shard) new → AreCounts (slice_set counts place n) (λ shard. count_by (λ e. shard_of shards e.0 == shard) new)
counts-swept run seen es new shards n place counts same p below h e f =
    let own = subst (λ z. AreCounts counts (by_shard StoredBlock (shard_of z) es)) (sym same) h in
    let there : n ≡ by_shard StoredBlock (shard_of run.shape.shards) (filter (λ e. not (removes run seen e.0 e.1.born)) es) run.shard = f ∙ ap (λ z. by_shard StoredBlock (shard_of run.shape.shards) z run.shard) e in
    let all = counts-filter StoredBlock (shard_of run.shape.shards) (λ e. not (removes run seen e.0 e.1.born)) es run.shard n counts (removed_there run seen) own below there in
    let of_new = subst (λ z. AreCounts (slice_set counts run.shard n) (by_shard StoredBlock (shard_of run.shape.shards) z)) (sym e) all in
    subst (λ z. AreCounts (slice_set counts z n) (by_shard StoredBlock (shard_of shards) new)) (sym p) (subst (λ z. AreCounts (slice_set counts run.shard n) (by_shard StoredBlock (shard_of z) new)) same of_new)
