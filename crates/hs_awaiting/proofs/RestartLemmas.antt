-- The operations of a shard start again one after another, and the lines by shard stay those of the operations.
use Rattle.std.proofs.Common.{◌≡◌, ◌∙◌, sym, ap, subst, ℕ, ◌+◌, ◌<◌, ◌≤◌, Bool, true, false, cond, List, [], ◌∷◌, Option, Some, None, option_and_then, refl, ◌⊎◌, inl, inr, arith, map}
use Rattle.std.proofs.lemmas.Bool.{cases_eq, le-leb, leb-true, lt-leb, ne_eqb}
use Rattle.std.proofs.lemmas.Cmp.{nat_cmp_total, tied_itself}
use Rattle.std.proofs.lemmas.Map.Keys.{sorted_tail}
use Rattle.std.proofs.lemmas.Map.Steps.{set_value_same}
use Rattle.std.specs.BTreeMap.{is_at}
use Rattle.std.specs.Cmp.{unsigned_tied}
use Rattle.std.specs.List.Sorted.{IsStrictlySortedBy}
use Rattle.std.specs.Map.{keys_of, set_value}
use Rattle.std.specs.Option.{option_map_or}
use Rattle.std.specs.Ordering.{nat_cmp}
use Rattle.std.specs.Prelude.{◌==◌, nat_le}
use Rattle.hs_awaiting.proofs.IndexLemmas.{at_here, at_there, put_by}
use Rattle.hs_awaiting.proofs.WalkLemmas.{below_next, none_left, some_left}
use Rattle.hs_awaiting.specs.declared.next.Next.{Next}
use Rattle.hs_awaiting.specs.declared.table.Table.{Table}
use Rattle.hs_awaiting.specs.declared.wait.Wait.{Wait}
use Rattle.hs_awaiting.specs.declared.wait.Wait.TheVariants as wait
use Rattle.hs_awaiting.specs.declared.waiting.Waiting.{Waiting}
use Rattle.hs_awaiting.specs.Going.{judge_in, judged_by, next_step}
use Rattle.hs_awaiting.specs.Indexing.{AreSharded, again_in, found_in, passes, rest_again, shard_in, wait_in}
use Rattle.hs_awaiting.specs.Views.{is_within, restarted}
use Rattle.hs_awaiting.specs.Words.{change_with}
use Rattle.hs_limits.specs.declared.address.Address.{Address}
use Rattle.hs_ops.specs.Views.{OpView}
use Rattle.hs_post.proofs.OrderLemmas.{above_first, finds_here}
use Rattle.hs_waits.proofs.LineLemmas.{kept_alike}
use Rattle.hs_waits.specs.Lines.{IsFirstFrom, has, tied}

-- ---- the lines by shard

sharded_alike : (found next : ℕ → Option Waiting) (lines : List (ℕ × ℕ)) → AreSharded found lines → ((n : ℕ) → option_and_then shard_in (next n) ≡ option_and_then shard_in (found n)) → AreSharded next lines
sharded_alike found next lines are same = kept_alike nat_cmp (λ n. option_and_then shard_in (found n)) (λ n. option_and_then shard_in (next n)) lines are same

pub sharded_waits : (line : ℕ) (what : Wait) (t u : Table) (es : List (ℕ × Waiting)) (w : Waiting) → AreSharded (found_in t.map.entries) t.shards → found_in t.map.entries line ≡ Some w
    → u.map ≡ t.map → u.shards ≡ t.shards → es ≡ wait_in line what u.map.entries → AreSharded (found_in es) u.shards
sharded_waits line what t u es w are found same_map same_shards made =
    let old : List (ℕ × Waiting) = t.map.entries in
    let new : Waiting = record w { wait = what } in
    let put : wait_in line what old ≡ set_value (is_at (nat_cmp line)) old new = rw found refl in
    let set : es ≡ set_value (is_at (nat_cmp line)) old new = made ∙ ap (λ m. wait_in line what m.entries) same_map ∙ put in
    subst (λ (x : List (ℕ × ℕ)). AreSharded (found_in es) x) (sym same_shards)
    (sharded_alike (found_in old) (found_in es) t.shards are (λ n. ap (λ x. option_and_then shard_in (found_in x n)) set ∙ put_by shard_in line old w new found refl n))

pub sharded_judged : (how : Next) (pointers : List Address) (v : OpView) (line : ℕ) (es next : List (ℕ × Waiting)) (lines : List (ℕ × ℕ)) → AreSharded (found_in es) lines
    → next ≡ judge_in how pointers v line es → AreSharded (found_in next) lines
sharded_judged how pointers v line es next lines are made = go (found_in es line) refl
  where
    go : (o : Option Waiting) → found_in es line ≡ o → AreSharded (found_in next) lines
    go None e =
        let same : judge_in how pointers v line es ≡ es = rw e refl in
        subst (λ (x : List (ℕ × Waiting)). AreSharded (found_in x) lines) (sym (made ∙ same)) are
    go (Some w) e =
        let new : Waiting = judged_by (next_step how pointers v w.operation) w in
        let put : judge_in how pointers v line es ≡ set_value (is_at (nat_cmp line)) es new = rw e refl in
        subst (λ (x : List (ℕ × Waiting)). AreSharded (found_in x) lines) (sym (made ∙ put))
        (sharded_alike (found_in es) (found_in (set_value (is_at (nat_cmp line)) es new)) lines are (put_by shard_in line es w new e refl))

-- the first line of a shard is that of its first operation
pub first_sharded : (es : List (ℕ × Waiting)) (lines : List (ℕ × ℕ)) (shard from : ℕ) (first : Option ℕ) → AreSharded (found_in es) lines
    → IsFirstFrom from (has nat_cmp lines shard) first → IsFirstFrom from (passes (λ w. w.shard == shard) es) first
first_sharded es lines shard from first are h = go first h
  where
    by_shard : (o : Option Waiting) → option_map_or (λ w. w.shard == shard) o false ≡ tied nat_cmp (option_and_then shard_in o) shard
    by_shard None = refl
    by_shard (Some w) = sym (unsigned_tied w.shard shard)

    same : (n : ℕ) → passes (λ w. w.shard == shard) es n ≡ has nat_cmp lines shard n
    same n = by_shard (found_in es n) ∙ sym (are shard n)

    go : (first : Option ℕ) → IsFirstFrom from (has nat_cmp lines shard) first → IsFirstFrom from (passes (λ w. w.shard == shard) es) first
    go None h = λ n far. same n ∙ h n far
    go (Some k) h = (h.0, same k ∙ h.1, λ n far found. h.2 n far (sym (same n) ∙ found))

-- ---- one of them

-- it is not there
pub again_none : (line last : ℕ) (es : List (ℕ × Waiting)) → found_in es line ≡ None → es ≡ again_in line last es
again_none line last es none = rw none refl

module _ (line last : ℕ) (es : List (ℕ × Waiting)) (w : Waiting) (found : found_in es line ≡ Some w) where
  again_by : again_in line last es ≡ cond (is_within last w.wait) es (wait_in line wait.View es)
  again_by = ap (λ (o : Option Waiting). change_with o (λ (v : Waiting) (rest : List (ℕ × Waiting)). cond (is_within last v.wait) rest (wait_in line wait.View rest)) es) found

  -- its entry still stands
  pub again_stays : is_within last w.wait ≡ true → es ≡ again_in line last es
  again_stays within = sym (again_by ∙ ap (λ (b : Bool). cond b es (wait_in line wait.View es)) within)

  -- or it waits
  pub again_waits : is_within last w.wait ≡ false → wait_in line wait.View es ≡ again_in line last es
  again_waits beyond = sym (again_by ∙ ap (λ (b : Bool). cond b es (wait_in line wait.View es)) beyond)

-- ---- one after another

module _ (shard last : ℕ) where
  abbrev own_of : Waiting → Bool
  own_of w = w.shard == shard

  abbrev all : List (ℕ × Waiting) → List (ℕ × Waiting)
  all es = map (λ e. (e.0, restarted shard last e.1)) es

  abbrev again : Waiting → Waiting
  again w = cond (is_within last w.wait) w (record w { wait = wait.View })

  stays : (w : Waiting) → own_of w ≡ false → restarted shard last w ≡ w
  stays w e = rw e refl

  begins : (w : Waiting) → own_of w ≡ true → restarted shard last w ≡ again w
  begins w e = go (is_within last w.wait) refl
    where
      go : (b : Bool) → is_within last w.wait ≡ b → restarted shard last w ≡ again w
      go true f = rw (e, f) refl
      go false f = rw (e, f) refl

  -- at first all
  pub rest_first : (es : List (ℕ × Waiting)) → rest_again shard last 0 es ≡ all es
  rest_first [] = refl
  rest_first ((k, w) ∷ es) =
      ap (λ (b : Bool). (k, cond b (restarted shard last w) w) ∷ rest_again shard last 0 es) (le-leb 0 k (omega arith))
      ∙ ap (λ xs. (k, restarted shard last w) ∷ xs) (rest_first es)

  -- one that stays where it is of another shard, or below
  kept_here : (from j : ℕ) (x : Waiting) (es : List (ℕ × Waiting)) → (nat_le from j ≡ true → own_of x ≡ false) → rest_again shard last from ((j, x) ∷ es) ≡ (j, x) ∷ rest_again shard last from es
  kept_here from j x es h = go (nat_le from j) refl
    where
      go : (b : Bool) → nat_le from j ≡ b → rest_again shard last from ((j, x) ∷ es) ≡ (j, x) ∷ rest_again shard last from es
      go true e = rw e (ap (λ v. (j, v) ∷ rest_again shard last from es) (stays x (h e)))
      go false e = rw e refl

  -- at last none
  pub rest_none : (from : ℕ) (es : List (ℕ × Waiting)) → IsStrictlySortedBy nat_cmp (keys_of es) → IsFirstFrom from (passes own_of es) None → rest_again shard last from es ≡ es
  rest_none from [] sorted h = refl
  rest_none from ((j, x) ∷ es) sorted h =
      kept_here from j x es (λ e. sym (finds_here own_of es j x) ∙ h j (leb-true from j e))
      ∙ ap (λ xs. (j, x) ∷ xs) (rest_none from es (sorted_tail nat_cmp j (keys_of es) sorted) (none_left own_of own_of (λ w e. e) from j x es sorted h))

  -- where all are above j it is no matter from where
  rest_same : (es : List (ℕ × Waiting)) (a b j : ℕ) → IsStrictlySortedBy nat_cmp (j ∷ keys_of es) → a ≤ j + 1 → b ≤ j + 1 → rest_again shard last a es ≡ rest_again shard last b es
  rest_same [] a b j sorted low lower = refl
  rest_same ((i, x) ∷ es) a b j sorted low lower =
      let up : j < i = below_next j i x es sorted in
      let first : nat_le a i ≡ true = le-leb a i (omega arith) in
      let second : nat_le b i ≡ true = le-leb b i (omega arith) in
      rw (first, second) (ap (λ xs. (i, restarted shard last x) ∷ xs) (rest_same es a b i (sorted_tail nat_cmp j (i ∷ keys_of es) sorted) (omega arith) (omega arith)))

  -- the first of them starts again
  rest_set : (from k : ℕ) (w : Waiting) (es : List (ℕ × Waiting)) → IsStrictlySortedBy nat_cmp (keys_of es) → IsFirstFrom from (passes own_of es) (Some k) → found_in es k ≡ Some w
      → rest_again shard last (k + 1) (set_value (is_at (nat_cmp k)) es (again w)) ≡ rest_again shard last from es
  rest_set from k w [] sorted h found = cc found
  rest_set from k w ((j, x) ∷ es) sorted h found = go (cases_eq k j) (λ left further. rest_set from k w es (sorted_tail nat_cmp j (keys_of es) sorted) left further)
    where
      other : (b : Bool) → own_of x ≡ b → j < k → nat_le from j ≡ true → b ≡ false
      other false e up far = refl
      other true e up far = let low : k ≤ j = h.2 j (leb-true from j far) (finds_here own_of es j x ∙ e) in absurd (omega (arith, low, up))

      own : k ≡ j → rest_again shard last (j + 1) (set_value (is_at (nat_cmp j)) ((j, x) ∷ es) (again w)) ≡ rest_again shard last from ((j, x) ∷ es)
      own same =
          let far : from ≤ j = let l : from ≤ k = h.0 in omega arith in
          let its : w ≡ x = cc (sym found ∙ ap (found_in ((j, x) ∷ es)) same ∙ at_here j x es) in
          let is : own_of x ≡ true = sym (finds_here own_of es j x) ∙ ap (passes own_of ((j, x) ∷ es)) (sym same) ∙ h.1 in
          let put : set_value (is_at (nat_cmp j)) ((j, x) ∷ es) (again w) ≡ (j, again w) ∷ es = rw (tied_itself nat_cmp_total j) refl in
          let above : nat_le (j + 1) j ≡ false = lt-leb (j + 1) j (omega arith) in
          let within : nat_le from j ≡ true = le-leb from j far in
          let left : rest_again shard last (j + 1) ((j, again w) ∷ es) ≡ (j, again w) ∷ rest_again shard last (j + 1) es = rw above refl in
          let right : rest_again shard last from ((j, x) ∷ es) ≡ (j, restarted shard last x) ∷ rest_again shard last from es = rw within refl in
          ap (rest_again shard last (j + 1)) put ∙ left
          ∙ ap (λ v. (j, again v) ∷ rest_again shard last (j + 1) es) its
          ∙ ap (λ v. (j, v) ∷ rest_again shard last (j + 1) es) (sym (begins x is))
          ∙ ap (λ xs. (j, restarted shard last x) ∷ xs) (rest_same es (j + 1) from j sorted (omega arith) (omega arith))
          ∙ sym right

      go : (k ≡ j) ⊎ (k ≡ j → ⊥) → (IsFirstFrom from (passes own_of es) (Some k) → found_in es k ≡ Some w → rest_again shard last (k + 1) (set_value (is_at (nat_cmp k)) es (again w)) ≡ rest_again shard last from es)
          → rest_again shard last (k + 1) (set_value (is_at (nat_cmp k)) ((j, x) ∷ es) (again w)) ≡ rest_again shard last from ((j, x) ∷ es)
      go (inl same) ih = subst (λ (m : ℕ). rest_again shard last (m + 1) (set_value (is_at (nat_cmp m)) ((j, x) ∷ es) (again w)) ≡ rest_again shard last from ((j, x) ∷ es)) (sym same) (own same)
      go (inr apart) ih =
          let left : IsFirstFrom from (passes own_of es) (Some k) = some_left own_of own_of (λ w e. e) from k j x es sorted apart h in
          let up : j < k = above_first own_of es j k sorted left.1 in
          let further : found_in es k ≡ Some w = sym (at_there j k x es apart) ∙ found in
          let off : is_at (nat_cmp k) j ≡ false = unsigned_tied k j ∙ ne_eqb k j apart in
          let put : set_value (is_at (nat_cmp k)) ((j, x) ∷ es) (again w) ≡ (j, x) ∷ set_value (is_at (nat_cmp k)) es (again w) = rw off refl in
          let here : nat_le (k + 1) j ≡ false = lt-leb (k + 1) j (omega arith) in
          ap (rest_again shard last (k + 1)) put
          ∙ kept_here (k + 1) j x (set_value (is_at (nat_cmp k)) es (again w)) (λ e. let wrong : true ≡ false = sym e ∙ here in cc)
          ∙ ap (λ xs. (j, x) ∷ xs) (ih left further)
          ∙ sym (kept_here from j x es (λ e. other (own_of x) refl up e))

  again_put : (k : ℕ) (w : Waiting) (es : List (ℕ × Waiting)) → found_in es k ≡ Some w → again_in k last es ≡ set_value (is_at (nat_cmp k)) es (again w)
  again_put k w es found = go (is_within last w.wait) refl
    where
      go : (b : Bool) → is_within last w.wait ≡ b → again_in k last es ≡ set_value (is_at (nat_cmp k)) es (again w)
      go true e =
          let same : again w ≡ w = rw e refl in
          sym (again_stays k last es w found e) ∙ sym (set_value_same (is_at (nat_cmp k)) es w found) ∙ ap (set_value (is_at (nat_cmp k)) es) (sym same)
      go false e =
          let new : again w ≡ record w { wait = wait.View } = rw e refl in
          let put : wait_in k wait.View es ≡ set_value (is_at (nat_cmp k)) es (record w { wait = wait.View }) = rw found refl in
          sym (again_waits k last es w found e) ∙ put ∙ ap (set_value (is_at (nat_cmp k)) es) (sym new)

  pub rest_next : (from k : ℕ) (es : List (ℕ × Waiting)) → IsStrictlySortedBy nat_cmp (keys_of es) → IsFirstFrom from (passes own_of es) (Some k)
      → rest_again shard last (k + 1) (again_in k last es) ≡ rest_again shard last from es
  rest_next from k es sorted h = go (found_in es k) refl
    where
      go : (o : Option Waiting) → found_in es k ≡ o → rest_again shard last (k + 1) (again_in k last es) ≡ rest_again shard last from es
      go None e = let wrong : false ≡ true = sym (ap (λ o. option_map_or own_of o false) e) ∙ h.1 in cc
      go (Some w) e = ap (rest_again shard last (k + 1)) (again_put k w es e) ∙ rest_set from k w es sorted h e
