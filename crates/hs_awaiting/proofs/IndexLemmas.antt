-- The lines by session and by cause stay those of the operations.
use Rattle.std.proofs.Common.{◌≡◌, ◌∙◌, sym, ap, subst, ℕ, ◌<◌, ◌≤◌, IsSome, Bool, true, false, cond, List, [], ◌∷◌, Option, Some, None, option_and_then, refl, ◌⊎◌, inl, inr, arith, Ordering, Less, Equal, Greater}
use Rattle.std.proofs.lemmas.Bool.{cases_eq, eq-eqb, ne_eqb}
use Rattle.std.proofs.lemmas.Cmp.{nat_cmp_total, nat_list_cmp_total, tied_itself}
use Rattle.std.proofs.lemmas.Map.Keys.{ge_from_not_lt}
use Rattle.std.proofs.lemmas.Map.Text.{is_eq-slice_cmp}
use Rattle.std.specs.BTreeMap.{is_at}
use Rattle.std.specs.Cmp.{unsigned_tied}
use Rattle.std.specs.List.Sorted.{IsStrictlySortedBy}
use Rattle.std.specs.Map.{keys_of, set_value}
use Rattle.std.specs.Option.{option_map, option_map_or}
use Rattle.std.specs.Ordering.{is_eq, is_lt, nat_cmp, ordering_reverse}
use Rattle.std.specs.Prelude.{◌==◌, bytes_eq, find}
use Rattle.hs_awaiting.proofs.EntryLemmas.{part_set}
use Rattle.hs_awaiting.specs.declared.next.Next.{Next}
use Rattle.hs_awaiting.specs.declared.table.Table.{Table}
use Rattle.hs_awaiting.specs.declared.wait.Wait.{Wait}
use Rattle.hs_awaiting.specs.Going.{judge_in, judged_by, next_step}
use Rattle.hs_awaiting.specs.Kinds.{is_of}
use Rattle.hs_awaiting.specs.declared.waiting.Waiting.{Waiting}
use Rattle.hs_awaiting.specs.Indexing.{IsIndexedBy, IsListed, cause_of, found_in, passes, session_in, wait_cause, wait_in, waits_for}
use Rattle.hs_awaiting.specs.Putting.{IsPutAt}
use Rattle.hs_limits.specs.declared.address.Address.{Address}
use Rattle.hs_ops.specs.Views.{OpView}
use Rattle.hs_post.proofs.FirstLemmas.{first_is_one}
use Rattle.hs_post.proofs.OrderLemmas.{first_found}
use Rattle.hs_post.specs.First.{IsFirst}
use Rattle.hs_tokens.specs.Seats.{name_cmp}
use Rattle.hs_waits.proofs.LineLemmas.{kept_alike}
use Rattle.hs_waits.specs.Causes.{AreWaits, is_same, waits}
use Rattle.hs_waits.specs.declared.cause.Cause.{Cause}
use Rattle.hs_waits.specs.Lines.{AreKept, IsFirstFrom, changed, has, tied}

-- ---- keys that are alike

pub waits_alike : (causes others : ℕ → Option Cause) (lines : List (Cause × ℕ)) → AreWaits causes lines → ((n : ℕ) → others n ≡ causes n) → AreWaits others lines
waits_alike causes others lines are same c n = are c n ∙ ap (λ x. option_map_or (λ d. is_same d c) x false) (sym (same n))

pub key_changed : {K : Type 0} (key : Waiting → Option K) (line : ℕ) (new : Option Waiting) (found : ℕ → Option Waiting) (n : ℕ)
    → option_and_then key (changed line new found n) ≡ changed line (option_and_then key new) (λ m. option_and_then key (found m)) n
key_changed {K} key line new found n = go (line == n)
  where
    go : (b : Bool) → option_and_then key (cond b new (found n)) ≡ cond b (option_and_then key new) (option_and_then key (found n))
    go true = refl
    go false = refl

-- where the operations are alike, by session and by cause
pub indexed_alike : (found next : ℕ → Option Waiting) (sessions : List (List ℕ × ℕ)) (waits : List (Cause × ℕ)) → IsIndexedBy found sessions waits
    → ((n : ℕ) → option_and_then session_in (next n) ≡ option_and_then session_in (found n)) → ((n : ℕ) → option_and_then cause_of (next n) ≡ option_and_then cause_of (found n))
    → IsIndexedBy next sessions waits
indexed_alike found next sessions waits are asks same = record {
  sessions = kept_alike name_cmp (λ n. option_and_then session_in (found n)) (λ n. option_and_then session_in (next n)) sessions are.sessions asks;
  waits = waits_alike (λ n. option_and_then cause_of (found n)) (λ n. option_and_then cause_of (next n)) waits are.waits same;
}

-- ---- one line changes

pub at_changed : (line : ℕ) (new : Option Waiting) (old next : List (ℕ × Waiting)) → ((q : ℕ) → found_in next q ≡ cond (is_at (nat_cmp line) q) new (found_in old q))
    → (n : ℕ) → found_in next n ≡ changed line new (found_in old) n
at_changed line new old next h n = h n ∙ rw (unsigned_tied line n) refl

-- by any part of it
pub moved_at : {K : Type 0} (key : Waiting → Option K) (line : ℕ) (new : Option Waiting) (told : Option K) (old next : List (ℕ × Waiting)) → told ≡ option_and_then key new → IsPutAt line new old next
    → (n : ℕ) → option_and_then key (found_in next n) ≡ changed line told (λ m. option_and_then key (found_in old m)) n
moved_at {K} key line new told old next own put n =
    ap (option_and_then key) (at_changed line new old next put n) ∙ key_changed key line new (found_in old) n
    ∙ ap (λ (x : Option K). changed line x (λ m. option_and_then key (found_in old m)) n) (sym own)

-- the lines by a key stand by the operations afterwards
pub kept_moved : {K : Type 0} (cmp : K → K → Ordering) (key : Waiting → Option K) (line : ℕ) (new : Option Waiting) (told : Option K) (old next : List (ℕ × Waiting)) (lines : List (K × ℕ))
    → told ≡ option_and_then key new → IsPutAt line new old next → AreKept cmp (changed line told (λ m. option_and_then key (found_in old m))) lines
    → AreKept cmp (λ n. option_and_then key (found_in next n)) lines
kept_moved cmp key line new told old next lines own put are =
    kept_alike cmp (changed line told (λ m. option_and_then key (found_in old m))) (λ n. option_and_then key (found_in next n)) lines are (moved_at key line new told old next own put)

pub waits_moved : (key : Waiting → Option Cause) (line : ℕ) (new : Option Waiting) (told : Option Cause) (old next : List (ℕ × Waiting)) (lines : List (Cause × ℕ))
    → told ≡ option_and_then key new → IsPutAt line new old next → AreWaits (changed line told (λ m. option_and_then key (found_in old m))) lines
    → AreWaits (λ n. option_and_then key (found_in next n)) lines
waits_moved key line new told old next lines own put are =
    waits_alike (changed line told (λ m. option_and_then key (found_in old m))) (λ n. option_and_then key (found_in next n)) lines are (moved_at key line new told old next own put)

-- ---- a line above the newest

-- it has no operation
pub none_above : (line newest : ℕ) (es : List (ℕ × Waiting)) → ((q : ℕ) → IsSome (found_in es q) → is_lt (nat_cmp newest q) ≡ false) → newest < line → None ≡ found_in es line
none_above line newest es greatest above = go (found_in es line) refl
  where
    go : (o : Option Waiting) → found_in es line ≡ o → None ≡ found_in es line
    go None e = sym e
    go (Some w) e =
        let some : IsSome (found_in es line) = subst (λ (o : Option Waiting). IsSome o) (sym e) refl in
        let below : line ≤ newest = ge_from_not_lt newest line (greatest line some) in
        absurd (omega (arith, below, above))

-- ---- a value is written in its place

-- by any part of it
pub put_by : {K : Type 0} (key : Waiting → Option K) (line : ℕ) (es : List (ℕ × Waiting)) (w new : Waiting) → found_in es line ≡ Some w → key new ≡ key w
    → (n : ℕ) → option_and_then key (found_in (set_value (is_at (nat_cmp line)) es new) n) ≡ option_and_then key (found_in es n)
put_by {K} key line es w new found same n =
    own (found_in (set_value (is_at (nat_cmp line)) es new) n)
    ∙ ap (option_and_then (λ (y : Option K). y)) (part_set (is_at (nat_cmp line)) key (is_at (nat_cmp n)) es w new found same)
    ∙ sym (own (found_in es n))
  where
    own : (o : Option Waiting) → option_and_then key o ≡ option_and_then (λ y. y) (option_map key o)
    own None = refl
    own (Some x) = refl

-- one that asks and waits as before
pub indexed_put : (line : ℕ) (es : List (ℕ × Waiting)) (w new : Waiting) (sessions : List (List ℕ × ℕ)) (waits : List (Cause × ℕ)) → found_in es line ≡ Some w
    → session_in new ≡ session_in w → cause_of new ≡ cause_of w → IsIndexedBy (found_in es) sessions waits → IsIndexedBy (found_in (set_value (is_at (nat_cmp line)) es new)) sessions waits
indexed_put line es w new sessions waits found asks same are =
    indexed_alike (found_in es) (found_in (set_value (is_at (nat_cmp line)) es new)) sessions waits are (put_by session_in line es w new found asks) (put_by cause_of line es w new found same)

pub at_here : (k : ℕ) (x : Waiting) (es : List (ℕ × Waiting)) → found_in ((k, x) ∷ es) k ≡ Some x
at_here k x es = rw (tied_itself nat_cmp_total k) refl

pub at_there : (k n : ℕ) (x : Waiting) (es : List (ℕ × Waiting)) → (n ≡ k → ⊥) → found_in ((k, x) ∷ es) n ≡ found_in es n
at_there k n x es apart = let off : is_at (nat_cmp n) k ≡ false = unsigned_tied n k ∙ ne_eqb n k apart in rw off refl

set_found : (line : ℕ) (es : List (ℕ × Waiting)) (w new : Waiting) → found_in es line ≡ Some w → (n : ℕ) → found_in (set_value (is_at (nat_cmp line)) es new) n ≡ changed line (Some new) (found_in es) n
set_found line [] w new found n = cc found
set_found line ((k, x) ∷ es) w new found n = pick (cases_eq line k) found (set_found line es w new)
  where
    own : (n ≡ k) ⊎ (n ≡ k → ⊥) → found_in (set_value (is_at (nat_cmp k)) ((k, x) ∷ es) new) n ≡ changed k (Some new) (found_in ((k, x) ∷ es)) n
    own (inl same) =
        let first : found_in (set_value (is_at (nat_cmp k)) ((k, x) ∷ es) new) n ≡ found_in ((k, new) ∷ es) n = rw (tied_itself nat_cmp_total k) refl in
        let last : changed k (Some new) (found_in ((k, x) ∷ es)) n ≡ Some new = rw (eq-eqb k n (sym same)) refl in
        first ∙ ap (found_in ((k, new) ∷ es)) same ∙ at_here k new es ∙ sym last
    own (inr apart) =
        let first : found_in (set_value (is_at (nat_cmp k)) ((k, x) ∷ es) new) n ≡ found_in ((k, new) ∷ es) n = rw (tied_itself nat_cmp_total k) refl in
        let last : changed k (Some new) (found_in ((k, x) ∷ es)) n ≡ found_in ((k, x) ∷ es) n = rw (ne_eqb k n (λ e. apart (sym e))) refl in
        first ∙ at_there k n new es apart ∙ sym (at_there k n x es apart) ∙ sym last

    other : (line ≡ k → ⊥) → ((m : ℕ) → found_in (set_value (is_at (nat_cmp line)) es new) m ≡ changed line (Some new) (found_in es) m) → (n ≡ k) ⊎ (n ≡ k → ⊥)
        → found_in ((k, x) ∷ set_value (is_at (nat_cmp line)) es new) n ≡ changed line (Some new) (found_in ((k, x) ∷ es)) n
    other far ih (inl same) =
        let last : changed line (Some new) (found_in ((k, x) ∷ es)) n ≡ found_in ((k, x) ∷ es) n = rw (ne_eqb line n (λ e. far (e ∙ same))) refl in
        ap (λ m. found_in ((k, x) ∷ set_value (is_at (nat_cmp line)) es new) m) same ∙ at_here k x (set_value (is_at (nat_cmp line)) es new) ∙ sym (ap (λ m. found_in ((k, x) ∷ es) m) same ∙ at_here k x es) ∙ sym last
    other far ih (inr apart) = at_there k n x (set_value (is_at (nat_cmp line)) es new) apart ∙ ih n ∙ ap (λ y. cond (line == n) (Some new) y) (sym (at_there k n x es apart))

    pick : (line ≡ k) ⊎ (line ≡ k → ⊥) → found_in ((k, x) ∷ es) line ≡ Some w → (found_in es line ≡ Some w → (m : ℕ) → found_in (set_value (is_at (nat_cmp line)) es new) m ≡ changed line (Some new) (found_in es) m)
        → found_in (set_value (is_at (nat_cmp line)) ((k, x) ∷ es) new) n ≡ changed line (Some new) (found_in ((k, x) ∷ es)) n
    pick (inl at) h ih = subst (λ (m : ℕ). found_in (set_value (is_at (nat_cmp m)) ((k, x) ∷ es) new) n ≡ changed m (Some new) (found_in ((k, x) ∷ es)) n) (sym at) (own (cases_eq n k))
    pick (inr far) h ih =
        let off : is_at (nat_cmp line) k ≡ false = unsigned_tied line k ∙ ne_eqb line k far in
        let further : found_in es line ≡ Some w = sym (at_there k line x es far) ∙ h in
        let first : found_in (set_value (is_at (nat_cmp line)) ((k, x) ∷ es) new) n ≡ found_in ((k, x) ∷ set_value (is_at (nat_cmp line)) es new) n = rw off refl in
        first ∙ other far (ih further) (cases_eq n k)

-- one that waits for something else
pub table_waits : (line : ℕ) (what : Wait) (t u : Table) (es : List (ℕ × Waiting)) (w : Waiting) (cause : Option Cause) → IsListed t → found_in t.map.entries line ≡ Some w
    → cause ≡ wait_cause w.shard w.operation.op what → u.map ≡ t.map → u.sessions ≡ t.sessions
    → (AreWaits (λ n. option_and_then cause_of (found_in t.map.entries n)) t.waits → AreWaits (changed line cause (λ n. option_and_then cause_of (found_in t.map.entries n))) u.waits)
    → es ≡ wait_in line what u.map.entries → IsIndexedBy (found_in es) u.sessions u.waits
table_waits line what t u es w cause are found caused same_map same_sessions moved made =
    let old : List (ℕ × Waiting) = t.map.entries in
    let new : Waiting = record w { wait = what } in
    let put : wait_in line what old ≡ set_value (is_at (nat_cmp line)) old new = rw found refl in
    let set : es ≡ set_value (is_at (nat_cmp line)) old new = made ∙ ap (λ m. wait_in line what m.entries) same_map ∙ put in
    let causes : AreWaits (changed line (cause_of new) (λ n. option_and_then cause_of (found_in old n))) u.waits
    = subst (λ (x : Option Cause). AreWaits (changed line x (λ n. option_and_then cause_of (found_in old n))) u.waits) caused (moved are.waits) in
    let names : AreKept name_cmp (λ n. option_and_then session_in (found_in old n)) u.sessions = subst (λ (x : List (List ℕ × ℕ)). AreKept name_cmp (λ n. option_and_then session_in (found_in old n)) x) (sym same_sessions) are.sessions in
    record {
      sessions = kept_alike name_cmp (λ n. option_and_then session_in (found_in old n)) (λ n. option_and_then session_in (found_in es n)) u.sessions names
          (λ n. ap (λ x. option_and_then session_in (found_in x n)) set ∙ put_by session_in line old w new found refl n);
      waits = waits_alike (changed line (cause_of new) (λ n. option_and_then cause_of (found_in old n))) (λ n. option_and_then cause_of (found_in es n)) u.waits causes
          (λ n. ap (λ x. option_and_then cause_of (found_in x n)) set ∙ ap (option_and_then cause_of) (set_found line old w new found n) ∙ key_changed cause_of line (Some new) (found_in old) n);
    }

-- one that takes a step asks and waits as before
pub table_judged : (how : Next) (pointers : List Address) (v : OpView) (line : ℕ) (es next : List (ℕ × Waiting)) (sessions : List (List ℕ × ℕ)) (waits : List (Cause × ℕ)) → IsIndexedBy (found_in es) sessions waits
    → next ≡ judge_in how pointers v line es → IsIndexedBy (found_in next) sessions waits
table_judged how pointers v line es next sessions waits are made = go (found_in es line) refl
  where
    go : (o : Option Waiting) → found_in es line ≡ o → IsIndexedBy (found_in next) sessions waits
    go None e =
        let same : judge_in how pointers v line es ≡ es = rw e refl in
        subst (λ (x : List (ℕ × Waiting)). IsIndexedBy (found_in x) sessions waits) (sym (made ∙ same)) are
    go (Some w) e =
        let new : Waiting = judged_by (next_step how pointers v w.operation) w in
        let put : judge_in how pointers v line es ≡ set_value (is_at (nat_cmp line)) es new = rw e refl in
        subst (λ (x : List (ℕ × Waiting)). IsIndexedBy (found_in x) sessions waits) (sym (made ∙ put)) (indexed_put line es w new sessions waits e refl refl are)

-- ---- what is found

-- the first line of a cause is that of the first operation that waits for it
pub first_passes : (es : List (ℕ × Waiting)) (lines : List (Cause × ℕ)) (c : Cause) (from : ℕ) (first : Option ℕ) → AreWaits (λ n. option_and_then cause_of (found_in es n)) lines
    → IsFirstFrom from (waits lines c) first → IsFirstFrom from (passes (waits_for c) es) first
first_passes es lines c from first are h = go first h
  where
    by_cause : (o : Option Waiting) → option_map_or (waits_for c) o false ≡ option_map_or (λ d. is_same d c) (option_and_then cause_of o) false
    by_cause None = refl
    by_cause (Some w) = refl

    same : (n : ℕ) → passes (waits_for c) es n ≡ waits lines c n
    same n = by_cause (found_in es n) ∙ sym (are c n)

    go : (first : Option ℕ) → IsFirstFrom from (waits lines c) first → IsFirstFrom from (passes (waits_for c) es) first
    go None h = λ n far. same n ∙ h n far
    go (Some k) h = (h.0, same k ∙ h.1, λ n far found. h.2 n far (sym (same n) ∙ found))

-- the first line of a session is that of its first operation
pub line_found : (es : List (ℕ × Waiting)) (sessions : List (List ℕ × ℕ)) (name : List ℕ) (first : Option ℕ) → IsStrictlySortedBy nat_cmp (keys_of es)
    → AreKept name_cmp (λ n. option_and_then session_in (found_in es n)) sessions → IsFirstFrom 0 (has name_cmp sessions name) first → first ≡ option_map (λ e. e.0) (find (λ e. is_of name e.1) es)
line_found es sessions name first sorted are h =
    first_is_one (passes (is_of name) es) first (option_map (λ e. e.0) (find (λ e. is_of name e.1) es)) (go first h) (first_found (is_of name) es sorted)
  where
    turned : (r : Ordering) → is_eq (ordering_reverse r) ≡ is_eq r
    turned Less = refl
    turned Equal = refl
    turned Greater = refl

    own : (s : Option (List ℕ)) → tied name_cmp s name ≡ option_map_or (bytes_eq name) s false
    own None = refl
    own (Some s) = ap is_eq (nat_list_cmp_total.antisymm s name) ∙ turned (name_cmp name s) ∙ is_eq-slice_cmp name s

    by_session : (o : Option Waiting) → option_map_or (is_of name) o false ≡ tied name_cmp (option_and_then session_in o) name
    by_session None = refl
    by_session (Some w) = sym (own (session_in w))

    same : (n : ℕ) → passes (is_of name) es n ≡ has name_cmp sessions name n
    same n = by_session (found_in es n) ∙ sym (are name n)

    go : (first : Option ℕ) → IsFirstFrom 0 (has name_cmp sessions name) first → IsFirst (passes (is_of name) es) first
    go None h = λ n. same n ∙ h n (omega arith)
    go (Some k) h = (same k ∙ h.1, λ n found. h.2 n (omega arith) (sym (same n) ∙ found))
