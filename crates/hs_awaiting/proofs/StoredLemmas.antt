-- The lines by the blocks that their Blocks store stay those of the operations.
use Rattle.std.proofs.Common.{◌≡◌, ◌∙◌, sym, ap, subst, ℕ, false, List, Option, Some, None, option_and_then, refl}
use Rattle.std.specs.BTreeMap.{is_at}
use Rattle.std.specs.Map.{set_value}
use Rattle.std.specs.Option.{option_map_or}
use Rattle.std.specs.Ordering.{nat_cmp}
use Rattle.hs_awaiting.proofs.IndexLemmas.{put_by, waits_alike}
use Rattle.hs_awaiting.specs.declared.next.Next.{Next}
use Rattle.hs_awaiting.specs.declared.table.Table.{Table}
use Rattle.hs_awaiting.specs.declared.wait.Wait.{Wait}
use Rattle.hs_awaiting.specs.declared.waiting.Waiting.{Waiting}
use Rattle.hs_awaiting.specs.Going.{judge_in, judged_by, next_step}
use Rattle.hs_awaiting.specs.Indexing.{AreStored, found_in, passes, stores, storing, wait_in}
use Rattle.hs_limits.specs.declared.address.Address.{Address}
use Rattle.hs_ops.specs.Views.{OpView}
use Rattle.hs_waits.specs.Causes.{is_same, waits}
use Rattle.hs_waits.specs.declared.cause.Cause.{Cause}
use Rattle.hs_waits.specs.Lines.{IsFirstFrom}

-- ---- the lines stay those of the operations

-- where the operations are alike, by what their Blocks store
pub stored_alike : (found next : ℕ → Option Waiting) (lines : List (Cause × ℕ)) → AreStored found lines → ((n : ℕ) → option_and_then storing (next n) ≡ option_and_then storing (found n)) → AreStored next lines
stored_alike found next lines are same = waits_alike (λ n. option_and_then storing (found n)) (λ n. option_and_then storing (next n)) lines are same

-- one that waits for something else
pub stored_waits : (line : ℕ) (what : Wait) (t u : Table) (es : List (ℕ × Waiting)) (w : Waiting) → AreStored (found_in t.map.entries) t.stored → found_in t.map.entries line ≡ Some w
    → u.map ≡ t.map → u.stored ≡ t.stored → es ≡ wait_in line what u.map.entries → AreStored (found_in es) u.stored
stored_waits line what t u es w are found same_map same_stored made =
    let old : List (ℕ × Waiting) = t.map.entries in
    let new : Waiting = record w { wait = what } in
    let put : wait_in line what old ≡ set_value (is_at (nat_cmp line)) old new = rw found refl in
    let set : es ≡ set_value (is_at (nat_cmp line)) old new = made ∙ ap (λ m. wait_in line what m.entries) same_map ∙ put in
    subst (λ (x : List (Cause × ℕ)). AreStored (found_in es) x) (sym same_stored)
    (stored_alike (found_in old) (found_in es) t.stored are (λ n. ap (λ x. option_and_then storing (found_in x n)) set ∙ put_by storing line old w new found refl n))

-- one that takes a step
pub stored_judged : (how : Next) (pointers : List Address) (v : OpView) (line : ℕ) (es next : List (ℕ × Waiting)) (lines : List (Cause × ℕ)) → AreStored (found_in es) lines
    → next ≡ judge_in how pointers v line es → AreStored (found_in next) lines
stored_judged how pointers v line es next lines are made = go (found_in es line) refl
  where
    go : (o : Option Waiting) → found_in es line ≡ o → AreStored (found_in next) lines
    go None e =
        let same : judge_in how pointers v line es ≡ es = rw e refl in
        subst (λ (x : List (ℕ × Waiting)). AreStored (found_in x) lines) (sym (made ∙ same)) are
    go (Some w) e =
        let new : Waiting = judged_by (next_step how pointers v w.operation) w in
        let put : judge_in how pointers v line es ≡ set_value (is_at (nat_cmp line)) es new = rw e refl in
        subst (λ (x : List (ℕ × Waiting)). AreStored (found_in x) lines) (sym (made ∙ put))
        (stored_alike (found_in es) (found_in (set_value (is_at (nat_cmp line)) es new)) lines are (put_by storing line es w new e refl))

-- the first line of an address is that of the first operation whose Block stores it
pub first_stores : (es : List (ℕ × Waiting)) (lines : List (Cause × ℕ)) (c : Cause) (from : ℕ) (first : Option ℕ) → AreStored (found_in es) lines
    → IsFirstFrom from (waits lines c) first → IsFirstFrom from (passes (stores c) es) first
first_stores es lines c from first are h = go first h
  where
    by_cause : (o : Option Waiting) → option_map_or (stores c) o false ≡ option_map_or (λ d. is_same d c) (option_and_then storing o) false
    by_cause None = refl
    by_cause (Some w) = refl

    same : (n : ℕ) → passes (stores c) es n ≡ waits lines c n
    same n = by_cause (found_in es n) ∙ sym (are c n)

    go : (first : Option ℕ) → IsFirstFrom from (waits lines c) first → IsFirstFrom from (passes (stores c) es) first
    go None h = λ n far. same n ∙ h n far
    go (Some k) h = (h.0, same k ∙ h.1, λ n far found. h.2 n far (sym (same n) ∙ found))
