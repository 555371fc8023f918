-- The shard of each operation stays one of the store's.
use Rattle.std.proofs.Common.{◌≡◌, ◌∙◌, sym, subst, ℕ, ◌<◌, Bool, true, false, List, [], ◌∷◌, Option, Some, None, map, refl}
use Rattle.std.proofs.lemmas.List.Elements.{All-cons, All-head, All-nil, All-tail}
use Rattle.std.proofs.lemmas.Map.Views.{All-map-remove_entry, All-values-insert_entry, All-values-set_value, IfSome-lookup_from_All}
use Rattle.std.specs.BTreeMap.{insert_entry, is_at}
use Rattle.std.specs.List.{All}
use Rattle.std.specs.Map.{remove_entry, set_value, values_of}
use Rattle.std.specs.Ordering.{nat_cmp}
use Rattle.std.specs.Prelude.{◌==◌, ◌&&◌, not, IfSome, if◌then◌else◌}
use Rattle.hs_awaiting.specs.declared.next.Next.{Next}
use Rattle.hs_awaiting.specs.declared.wait.Wait.{Wait}
use Rattle.hs_awaiting.specs.declared.wait.Wait.TheVariants as wait
use Rattle.hs_awaiting.specs.declared.waiting.Waiting.{Waiting}
use Rattle.hs_awaiting.specs.Going.{judge_in, judged_by, next_step}
use Rattle.hs_awaiting.specs.Indexing.{found_in, wait_in}
use Rattle.hs_awaiting.specs.Views.{is_within, restarted}
use Rattle.hs_core_state.proofs.StepLemmas.{kept_step_at, of_home}
use Rattle.hs_core_state.specs.Keeping.{AreFronts, AreSteps, IsCore}
use Rattle.hs_core_state.specs.Placed.{AreWithin}
use Rattle.hs_core_words.specs.State.{Core}
use Rattle.hs_desk.specs.declared.job.Job.{Job}
use Rattle.hs_limits.specs.declared.address.Address.{Address}
use Rattle.hs_members.specs.Members.{Members}
use Rattle.hs_ops.specs.Views.{OpView}

-- ---- operations

abbrev is_placed : ℕ → Waiting → Type 0
is_placed n w = w.shard < n

-- where there is none
pub within_none : (n : ℕ) (next : List (ℕ × Waiting)) → next ≡ [] → AreWithin n next
within_none n next none = subst (λ (x : List (ℕ × Waiting)). AreWithin n x) (sym none) (record { each = All-nil (is_placed n) })

-- that of a line
pub found_within : (n : ℕ) (es : List (ℕ × Waiting)) (line : ℕ) (w : Waiting) → AreWithin n es → found_in es line ≡ Some w → w.shard < n
found_within n es line w are found =
    let some : IfSome (found_in es line) (is_placed n) = IfSome-lookup_from_All (is_placed n) (is_at (nat_cmp line)) es are.each in
    subst (λ (o : Option Waiting). IfSome o (is_placed n)) found some

-- one that is of the same shard is written in its place
set_within : (n line : ℕ) (es : List (ℕ × Waiting)) (new : Waiting) → AreWithin n es → new.shard < n → AreWithin n (set_value (is_at (nat_cmp line)) es new)
set_within n line es new are within = record { each = All-values-set_value (is_at (nat_cmp line)) (is_placed n) es new are.each within }

-- one is put at its line
pub within_put : (n line : ℕ) (w : Waiting) (es next : List (ℕ × Waiting)) → next ≡ insert_entry nat_cmp es line w → w.shard < n → AreWithin n es → AreWithin n next
within_put n line w es next made within are =
    subst (λ (x : List (ℕ × Waiting)). AreWithin n x) (sym made) (record { each = All-values-insert_entry nat_cmp line w (is_placed n) es are.each within })

-- one is over
pub within_ended : (n line : ℕ) (es next : List (ℕ × Waiting)) → next ≡ remove_entry (is_at (nat_cmp line)) es → AreWithin n es → AreWithin n next
within_ended n line es next made are =
    let left : All (is_placed n) (values_of (remove_entry (is_at (nat_cmp line)) es)) = All-map-remove_entry (is_at (nat_cmp line)) (λ e. e.1) (is_placed n) es are.each in
    subst (λ (x : List (ℕ × Waiting)). AreWithin n x) (sym made) (record { each = left })

-- one waits for something else
pub within_waits : (n line : ℕ) (what : Wait) (es next : List (ℕ × Waiting)) → next ≡ wait_in line what es → AreWithin n es → AreWithin n next
within_waits n line what es next made are = go (found_in es line) refl
  where
    go : (o : Option Waiting) → found_in es line ≡ o → AreWithin n next
    go None e =
        let same : wait_in line what es ≡ es = rw e refl in
        subst (λ (x : List (ℕ × Waiting)). AreWithin n x) (sym (made ∙ same)) are
    go (Some w) e =
        let new : Waiting = record w { wait = what } in
        let put : wait_in line what es ≡ set_value (is_at (nat_cmp line)) es new = rw e refl in
        subst (λ (x : List (ℕ × Waiting)). AreWithin n x) (sym (made ∙ put)) (set_within n line es new are (found_within n es line w are e))

-- one takes a step
pub within_judged : (n : ℕ) (how : Next) (pointers : List Address) (v : OpView) (line : ℕ) (es next : List (ℕ × Waiting)) → next ≡ judge_in how pointers v line es → AreWithin n es → AreWithin n next
within_judged n how pointers v line es next made are = go (found_in es line) refl
  where
    go : (o : Option Waiting) → found_in es line ≡ o → AreWithin n next
    go None e =
        let same : judge_in how pointers v line es ≡ es = rw e refl in
        subst (λ (x : List (ℕ × Waiting)). AreWithin n x) (sym (made ∙ same)) are
    go (Some w) e =
        let new : Waiting = judged_by (next_step how pointers v w.operation) w in
        let put : judge_in how pointers v line es ≡ set_value (is_at (nat_cmp line)) es new = rw e refl in
        subst (λ (x : List (ℕ × Waiting)). AreWithin n x) (sym (made ∙ put)) (set_within n line es new are (found_within n es line w are e))

-- those of a shard start again
pub within_again : (n shard last : ℕ) (es next : List (ℕ × Waiting)) → next ≡ map (λ e. (e.0, restarted shard last e.1)) es → AreWithin n es → AreWithin n next
within_again n shard last es next made are =
    subst (λ (x : List (ℕ × Waiting)). AreWithin n x) (sym made) (record { each = go es are.each })
  where
    by : (w : Waiting) (b : Bool) → w.shard < n → (if b then record w { wait = wait.View } else w).shard < n
    by w true h = h
    by w false h = h

    one : (w : Waiting) → w.shard < n → (restarted shard last w).shard < n
    one w h = by w (w.shard == shard && not (is_within last w.wait)) h

    go : (xs : List (ℕ × Waiting)) → All (is_placed n) (values_of xs) → All (is_placed n) (values_of (map (λ e. (e.0, restarted shard last e.1)) xs))
    go [] a = All-nil (is_placed n)
    go (x ∷ xs) a =
        All-cons (is_placed n) (restarted shard last x.1) (values_of (map (λ e. (e.0, restarted shard last e.1)) xs))
        (one x.1 (All-head (is_placed n) x.1 (values_of xs) a))
        (go xs (All-tail (is_placed n) x.1 (values_of xs) a))

-- ---- of a core

-- where the members stay those of one shape
pub within_told : (old new : Members) (es : List (ℕ × Waiting)) → new.shape ≡ old.shape → AreWithin old.shape.shards es → AreWithin new.shape.shards es
within_told old new es same are = rw same are

-- what a core keeps to is no matter of its operations
pub kept_beside : (core : Core) (ops : List (ℕ × Waiting)) → IsCore core → IsCore (record core { operations = ops })
kept_beside core ops is = record {
  members = is.members;
  catalogues = is.catalogues;
  groups = is.groups;
  viewed = is.viewed;
  tasks = is.tasks;
  rejoins = is.rejoins;
  each = is.each;
}

pub fronts_beside : (core : Core) (ops : List (ℕ × Waiting)) (fs : List ℕ) → AreFronts core fs → AreFronts (record core { operations = ops }) fs
fronts_beside core ops fs are = record { length = are.length; each = are.each }

pub steps_beside : (core : Core) (ops : List (ℕ × Waiting)) (ss : List (Option Job)) → IsCore core → AreSteps core ss → AreSteps (record core { operations = ops }) ss
steps_beside core ops ss is are =
    let new : Core = record core { operations = ops } in
    record {
      length = are.length;
      each = λ peer h. are.each peer h ∙ kept_step_at core peer (of_home core peer is h) ∙ sym (kept_step_at new peer (of_home new peer (kept_beside core ops is) h));
    }
