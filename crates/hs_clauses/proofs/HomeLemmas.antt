-- What single changes keep of jobs that read: each stands in the queue of a peer of its operation's shard.
use Rattle.std.proofs.Common.{◌≡◌, ◌≢◌, ◌⊎◌, ◌∙◌, sym, ap, subst, inl, inr, ℕ, ◌+◌, ◌-◌, ◌<◌, ◌≤◌, ◌==◌, ◌&&◌, Bool, true, false, cond, not, List, [], ◌∷◌, ◌++◌, length, map, drop, max, Option, Some, None, refl, arith}
use Rattle.std.proofs.lemmas.Bool.{cases_eq, cases_lt}
use Rattle.std.proofs.lemmas.List.{get_or-set_other, get_or-set_same, length-map, length-set, set_past}
use Rattle.std.proofs.lemmas.List.FromFn.{length-enumerate_from}
use Rattle.std.specs.BTreeMap.{insert_entry, is_at}
use Rattle.std.specs.List.{AllByRecursion, enumerate_from}
use Rattle.std.specs.Map.{lookup, remove_entry, set_value}
use Rattle.std.specs.Option.{option_map, option_map_or}
use Rattle.std.specs.Ordering.{nat_cmp}
use Rattle.std.specs.Prelude.{slice_index_or, slice_set}
use Rattle.hs_awaiting.specs.declared.wait.Wait.TheVariants as wait
use Rattle.hs_awaiting.specs.declared.waiting.Waiting.{Waiting}
use Rattle.hs_awaiting.specs.Views.{is_within, restarted}
use Rattle.hs_awaiting.specs.Words.{change_with}
use Rattle.hs_core_copies.proofs.LeadLemmas.{lead_is}
use Rattle.hs_core_words.specs.Changing.{add_entry_tasks, add_task, change_group, end_operation, post, put_operation, set_tasks}
use Rattle.hs_core_words.specs.declared.task.Task.{Task}
use Rattle.hs_core_words.specs.Looking.{group_of, lead_of, operation_of, shape_of, tasks_of}
use Rattle.hs_core_words.specs.Operating.{add_read, propose_entry}
use Rattle.hs_core_words.specs.State.{Core}
use Rattle.hs_core_words.specs.Views.{restart_at}
use Rattle.hs_desk.specs.declared.job.Job.TheVariants as job
use Rattle.hs_effects.proofs.GroupLemmas.{group_changed}
use Rattle.hs_effects.proofs.LookLemmas.{found_map, found_set, gone, insert_other, number_exact, once_insert, once_map, once_remove, once_set, one_or_other, remove_other, set_other}
use Rattle.hs_effects.specs.Logged.{AreOnce}
use Rattle.hs_entry.specs.declared.entry.Entry.{Entry}
use Rattle.hs_limits.specs.declared.shape.Shape.{Shape}
use Rattle.hs_members.specs.Members.{Members, home_of, is_good_status, status}
use Rattle.hs_clauses.specs.Home.{IsAtHome}
use Rattle.hs_replica.specs.declared.replica.Replica.{Replica}
use Rattle.hs_replica.specs.Group.{Group, change_copy, first_peer, hears, last_number, lead, lead_takes, new_group, on_copied, on_emptied, on_have, on_sealed, proposal, propose, renew, take_entry, tell}

-- ---- plain facts

some_is : {A : Type 0} (x y : A) → Some x ≡ Some y → x ≡ y
some_is x y e = cc e

some_not : {A : Type 0} (x : A) → None ≡ Some x → ⊥
some_not x e = cc e

all_weaker : {X : Type 0} (P Q : X → Type 0) → ((x : X) → P x → Q x) → (xs : List X) → AllByRecursion P xs → AllByRecursion Q xs
all_weaker P Q f [] h = tt
all_weaker P Q f (x ∷ xs) h = (f x h.0, all_weaker P Q f xs h.1)

all_append : {X : Type 0} (P : X → Type 0) (xs ys : List X) → AllByRecursion P xs → AllByRecursion P ys → AllByRecursion P (xs ++ ys)
all_append P [] ys h k = k
all_append P (x ∷ xs) ys h k = (h.0, all_append P xs ys h.1 k)

pub all_behind : {X : Type 0} (P : X → Type 0) (xs : List X) → AllByRecursion P xs → AllByRecursion P (drop 1 xs)
all_behind P [] h = tt
all_behind P (x ∷ xs) h = h.1

append_not_read : (n m : ℕ) (entry : Entry) → job.Append n entry ≡ job.Read m → ⊥
append_not_read n m entry e = cc e

seal_not_read : (n m : ℕ) → job.Seal n ≡ job.Read m → ⊥
seal_not_read n m e = cc e

-- ---- what is kept, in the parts of a core

pub record FineAt (shape : Shape) (groups : List Group) (tasks : List (List Task)) (operations : List (ℕ × Waiting)) (last : ℕ) : Type 0 where
  pub single : (g : ℕ) → length (slice_index_or groups g (new_group shape g 0 0 [])).copies ≤ shape.copies
  pub once : AreOnce operations
  pub begun : (line : ℕ) (w : Waiting) → lookup (is_at (nat_cmp line)) operations ≡ Some w → line ≤ last
  pub home : (peer : ℕ) → AllByRecursion (IsAtHome operations last (home_of shape peer)) (slice_index_or tasks peer [])

abbrev pub Fine : Core → Type 0
Fine c = FineAt (shape_of c) c.groups c.tasks c.operations c.progress.event_line

-- ---- queues

tasks_changed : (k peer : ℕ) (ts : List Task) (tasks : List (List Task)) → (slice_index_or (slice_set tasks peer ts) k [] ≡ slice_index_or tasks k []) ⊎ ((k ≡ peer) × (slice_index_or (slice_set tasks peer ts) k [] ≡ ts))
tasks_changed k peer ts tasks = by_place (cases_eq k peer)
  where
    Changed : Type 0
    Changed = (slice_index_or (slice_set tasks peer ts) k [] ≡ slice_index_or tasks k []) ⊎ ((k ≡ peer) × (slice_index_or (slice_set tasks peer ts) k [] ≡ ts))

    by_length : k ≡ peer → (peer < length tasks) ⊎ (length tasks ≤ peer) → Changed
    by_length same (inl low) = inr (same, ap (λ n. slice_index_or (slice_set tasks peer ts) n []) same ∙ get_or-set_same tasks peer ts [] low)
    by_length same (inr high) = inl (ap (λ (all : List (List Task)). slice_index_or all k []) (set_past tasks peer ts high))

    by_place : (k ≡ peer) ⊎ (k ≢ peer) → Changed
    by_place (inl same) = by_length same (cases_lt peer (length tasks))
    by_place (inr differs) = inl (get_or-set_other tasks peer k ts [] differs)

-- a queue in which each job is at home
pub fine_queue : (peer : ℕ) (ts : List Task) (c : Core) → AllByRecursion (IsAtHome c.operations c.progress.event_line (home_of (shape_of c) peer)) ts → Fine c → Fine (set_tasks peer ts c)
fine_queue peer ts c new h = record { single = h.single; once = h.once; begun = h.begun; home = λ k. by k (tasks_changed k peer ts c.tasks) }
  where
    by : (k : ℕ) → (slice_index_or (slice_set c.tasks peer ts) k [] ≡ slice_index_or c.tasks k []) ⊎ ((k ≡ peer) × (slice_index_or (slice_set c.tasks peer ts) k [] ≡ ts))
        → AllByRecursion (IsAtHome c.operations c.progress.event_line (home_of (shape_of c) k)) (slice_index_or (slice_set c.tasks peer ts) k [])
    by k (inl same) = subst (λ xs. AllByRecursion (IsAtHome c.operations c.progress.event_line (home_of (shape_of c) k)) xs) (sym same) (h.home k)
    by k (inr is) =
        subst (λ xs. AllByRecursion (IsAtHome c.operations c.progress.event_line (home_of (shape_of c) k)) xs) (sym is.1)
        (subst (λ j. AllByRecursion (IsAtHome c.operations c.progress.event_line (home_of (shape_of c) j)) ts) (sym is.0) new)

fine_task : (peer : ℕ) (task : Task) (c : Core) → IsAtHome c.operations c.progress.event_line (home_of (shape_of c) peer) task → Fine c → Fine (add_task peer task c)
fine_task peer task c its h =
    fine_queue peer (tasks_of peer c ++ task ∷ []) c (all_append (IsAtHome c.operations c.progress.event_line (home_of (shape_of c) peer)) (tasks_of peer c) (task ∷ []) (h.home peer) (its, tt)) h

pub fine_entry_tasks : (peer number : ℕ) (entry : Entry) (c : Core) → Fine c → Fine (add_entry_tasks peer number entry c)
fine_entry_tasks peer number entry c h =
    let one : Core = add_task peer (record { job = job.Append number entry; line = 0 }) c in
    fine_task peer (record { job = job.Seal number; line = 0 }) one (λ n is. absurd (seal_not_read number n is))
    (fine_task peer (record { job = job.Append number entry; line = 0 }) c (λ n is. absurd (append_not_read number n entry is)) h)

-- ---- lists

pub fine_group : (shard : ℕ) (f : Group → Group) (c : Core) → length (f (group_of shard c)).copies ≡ length (group_of shard c).copies → Fine c → Fine (change_group shard f c)
fine_group shard f c same h = record { single = λ g. by g (group_changed shard f c g); once = h.once; begun = h.begun; home = h.home }
  where
    by : (g : ℕ) → (group_of g (change_group shard f c) ≡ group_of g c) ⊎ ((g ≡ shard) × (group_of g (change_group shard f c) ≡ f (group_of shard c))) → length (group_of g (change_group shard f c)).copies ≤ (shape_of c).copies
    by g (inl e) = let few = h.single g in let n = ap (λ (x : Group). length x.copies) e in omega (arith, few, n)
    by g (inr e) = let few = h.single shard in let n = ap (λ (x : Group). length x.copies) e.1 in omega (arith, few, n, same)

pub lead_long : (l : Option ℕ) (entry : Entry) (group : Group) → length (lead_takes l entry group).copies ≡ length group.copies
lead_long None entry group = refl
lead_long (Some l) entry group = length-set group.copies (l - first_peer group) _

pub handed_long : (o : Option (ℕ × Entry)) (group : Group) → length (option_map_or (λ (x : ℕ × Entry). record group { front = x.0; waiting = drop 1 group.waiting }) o group).copies ≡ length group.copies
handed_long None group = refl
handed_long (Some x) group = refl

pub sealed_long : (peer number : ℕ) (group : Group) → length (on_sealed peer number group).copies ≡ length group.copies
sealed_long peer number group = length-set group.copies (peer - first_peer group) _

pub taken_long : (peer : ℕ) (entry : Entry) (group : Group) → length (take_entry peer entry group).copies ≡ length group.copies
taken_long peer entry group = length-set group.copies (peer - first_peer group) _

pub heard_long : (peer view sealed : ℕ) (group : Group) → length (on_have peer view sealed group).copies ≡ length group.copies
heard_long peer view sealed group = by (hears peer view group)
  where
    by : (b : Bool) → length (cond b (change_copy peer (λ (c : Replica). record c { known = max c.known sealed }) group) group).copies ≡ length group.copies
    by true = length-set group.copies (peer - first_peer group) _
    by false = refl

pub emptied_long : (peer : ℕ) (group : Group) → length (on_emptied peer group).copies ≡ length group.copies
emptied_long peer group = length-set group.copies (peer - first_peer group) _

pub copied_long : (peer number : ℕ) (group : Group) → length (on_copied peer number group).copies ≡ length group.copies
copied_long peer number group = length-set group.copies (peer - first_peer group) _

pub renewed_long : (members : Members) (group : Group) → length (renew members group).copies ≡ length group.copies
renewed_long members group =
    length-map (enumerate_from (first_peer group) group.copies) (λ (x : ℕ × Replica). tell (is_good_status (status x.0 members)) x.1) ∙ length-enumerate_from (first_peer group) group.copies

pub fine_propose : (shard : ℕ) (entry : Entry) (c : Core) → Fine c → Fine (propose_entry shard entry c)
fine_propose shard entry c h = by (lead_of shard c)
  where
    sent : Core
    sent = post (proposal entry (group_of shard c)) (change_group shard (propose entry) c)

    listed : Fine (change_group shard (propose entry) c)
    listed = fine_group shard (propose entry) c (lead_long (lead (group_of shard c)) entry (group_of shard c)) h

    by : (l : Option ℕ) → Fine (change_with l (λ peer. add_entry_tasks peer (last_number (group_of shard c) + 1) entry) sent)
    by None = listed
    by (Some peer) = fine_entry_tasks peer (last_number (group_of shard c) + 1) entry sent listed

-- ---- the lead of a shard is a peer of it

pub lead_home : (c : Core) (shard p : ℕ) → Fine c → lead_of shard c ≡ Some p → home_of (shape_of c) p ≡ shard
lead_home c shard p h e = (lead_is shard c p (h.single shard) e).own

-- ---- operations

pub fine_put : (line : ℕ) (x u : Waiting) (c : Core) → operation_of line c ≡ Some u → x.shard ≡ u.shard → Fine c → Fine (put_operation line x c)
fine_put line x u c at same h = record {
  single = h.single;
  once = once_set line c.operations x h.once;
  begun = λ l w e. begun l w e (one_or_other l line);
  home = λ peer. all_weaker (IsAtHome c.operations c.progress.event_line (home_of (shape_of c) peer)) (IsAtHome (set_value (is_at (nat_cmp line)) c.operations x) c.progress.event_line (home_of (shape_of c) peer))
      (λ task its number is. ((its number is).0, λ w e. place (home_of (shape_of c) peer) task.line w (its number is).1 e (one_or_other task.line line))) (tasks_of peer c) (h.home peer);
}
  where
    now : List (ℕ × Waiting)
    now = set_value (is_at (nat_cmp line)) c.operations x

    begun : (l : ℕ) (w : Waiting) → lookup (is_at (nat_cmp l)) now ≡ Some w → (l ≡ line) ⊎ (l ≡ line → ⊥) → l ≤ c.progress.event_line
    begun l w e (inl is) = subst (λ k. k ≤ c.progress.event_line) (sym is) (h.begun line u at)
    begun l w e (inr d) = h.begun l w (sym (set_other nat_cmp number_exact c.operations line l x d) ∙ e)

    place : (shard l : ℕ) (w : Waiting) → ((v : Waiting) → lookup (is_at (nat_cmp l)) c.operations ≡ Some v → v.shard ≡ shard) → lookup (is_at (nat_cmp l)) now ≡ Some w → (l ≡ line) ⊎ (l ≡ line → ⊥) → w.shard ≡ shard
    place shard l w was e (inl is) =
        let found : x ≡ w = some_is x w (sym (found_set line c.operations u x at) ∙ subst (λ k. lookup (is_at (nat_cmp k)) now ≡ Some w) is e) in
        ap (λ (y : Waiting). y.shard) (sym found) ∙ same ∙ was u (subst (λ k. lookup (is_at (nat_cmp k)) c.operations ≡ Some u) (sym is) at)
    place shard l w was e (inr d) = was w (sym (set_other nat_cmp number_exact c.operations line l x d) ∙ e)

pub fine_over : (line : ℕ) (c : Core) → Fine c → Fine (end_operation line c)
fine_over line c h = record {
  single = h.single;
  once = once_remove line c.operations h.once;
  begun = λ l w e. h.begun l w (was l w e (one_or_other l line));
  home = λ peer. all_weaker (IsAtHome c.operations c.progress.event_line (home_of (shape_of c) peer)) (IsAtHome (remove_entry (is_at (nat_cmp line)) c.operations) c.progress.event_line (home_of (shape_of c) peer))
      (λ task its number is. ((its number is).0, λ w e. (its number is).1 w (was task.line w e (one_or_other task.line line)))) (tasks_of peer c) (h.home peer);
}
  where
    was : (l : ℕ) (w : Waiting) → lookup (is_at (nat_cmp l)) (remove_entry (is_at (nat_cmp line)) c.operations) ≡ Some w → (l ≡ line) ⊎ (l ≡ line → ⊥) → lookup (is_at (nat_cmp l)) c.operations ≡ Some w
    was l w e (inl is) =
        absurd (some_not w (sym (gone line c.operations h.once) ∙ subst (λ k. lookup (is_at (nat_cmp k)) (remove_entry (is_at (nat_cmp line)) c.operations) ≡ Some w) is e))
    was l w e (inr d) = sym (remove_other nat_cmp number_exact c.operations line l d) ∙ e

-- they start again
restart_place : (shard last : ℕ) (w : Waiting) → (restarted shard last w).shard ≡ w.shard
restart_place shard last w = by (w.shard == shard && not (is_within last w.wait))
  where
    by : (b : Bool) → (cond b (record w { wait = wait.View }) w).shard ≡ w.shard
    by true = refl
    by false = refl

mapped_is : (f : Waiting → Waiting) (o : Option Waiting) (w : Waiting) → option_map f o ≡ Some w → (v : Waiting) × (o ≡ Some v) × (f v ≡ w)
mapped_is f None w e = absurd (some_not w e)
mapped_is f (Some v) w e = (v, refl, some_is (f v) w e)

pub fine_restart : (shard last : ℕ) (c : Core) → Fine c → Fine (restart_at shard last c)
fine_restart shard last c h = record {
  single = h.single;
  once = once_map (restarted shard last) c.operations h.once;
  begun = λ l w e. let v = was l w e in h.begun l v.0 v.1;
  home = λ peer. all_weaker (IsAtHome c.operations c.progress.event_line (home_of (shape_of c) peer)) (IsAtHome (map (λ (e : ℕ × Waiting). (e.0, restarted shard last e.1)) c.operations) c.progress.event_line (home_of (shape_of c) peer))
      (λ task its number is. ((its number is).0, λ w e. (let v = was task.line w e in sym (ap (λ (y : Waiting). y.shard) v.2) ∙ restart_place shard last v.0 ∙ (its number is).1 v.0 v.1))) (tasks_of peer c) (h.home peer);
}
  where
    was : (l : ℕ) (w : Waiting) → lookup (is_at (nat_cmp l)) (map (λ (e : ℕ × Waiting). (e.0, restarted shard last e.1)) c.operations) ≡ Some w
        → (v : Waiting) × (lookup (is_at (nat_cmp l)) c.operations ≡ Some v) × (restarted shard last v ≡ w)
    was l w e = mapped_is (restarted shard last) (lookup (is_at (nat_cmp l)) c.operations) w (sym (found_map (restarted shard last) (is_at (nat_cmp l)) c.operations) ∙ e)

-- one is read for
pub fine_read : (shard number line : ℕ) (u : Waiting) (c : Core) → operation_of line c ≡ Some u → u.shard ≡ shard → Fine c → Fine (change_with (lead_of shard c) (add_read number line) c)
fine_read shard number line u c at place h = by (lead_of shard c) refl
  where
    by : (l : Option ℕ) → lead_of shard c ≡ l → Fine (change_with l (add_read number line) c)
    by None leads = h
    by (Some p) leads =
        fine_task p (record { job = job.Read number; line = line }) c
        (λ n is. (h.begun line u at, λ w e. ap (λ (y : Waiting). y.shard) (some_is w u (sym e ∙ at)) ∙ place ∙ sym (lead_home c shard p h leads))) h

-- ---- a line that is new

pub later_by : (shape : Shape) (groups : List Group) (tasks : List (List Task)) (operations : List (ℕ × Waiting)) (last to : ℕ) → last ≤ to → FineAt shape groups tasks operations last → FineAt shape groups tasks operations to
later_by shape groups tasks operations last to up h = record {
  single = h.single;
  once = h.once;
  begun = λ l w e. (let low = h.begun l w e in omega (arith, low, up));
  home = λ peer. all_weaker (IsAtHome operations last (home_of shape peer)) (IsAtHome operations to (home_of shape peer))
      (λ task its number is. ((let low = (its number is).0 in omega (arith, low, up)), (its number is).1)) (slice_index_or tasks peer []) (h.home peer);
}

below_not : (l line last : ℕ) → l ≤ last → last < line → l ≡ line → ⊥
below_not l line last low high same = absurd (omega (arith, low, high, same))

pub new_line : (shape : Shape) (groups : List Group) (tasks : List (List Task)) (operations : List (ℕ × Waiting)) (last line : ℕ) (x : Waiting) → last < line → FineAt shape groups tasks operations last
    → FineAt shape groups tasks (insert_entry nat_cmp operations line x) line
new_line shape groups tasks operations last line x high h = record {
  single = h.single;
  once = once_insert line operations x new h.once;
  begun = λ l w e. begun l w e (one_or_other l line);
  home = λ peer. all_weaker (IsAtHome operations last (home_of shape peer)) (IsAtHome (insert_entry nat_cmp operations line x) line (home_of shape peer))
      (λ task its number is. (
        (let low = (its number is).0 in omega (arith, low, high)),
        λ w e. (its number is).1 w (sym (insert_other nat_cmp number_exact operations line task.line x (below_not task.line line last (its number is).0 high)) ∙ e),
      )) (slice_index_or tasks peer []) (h.home peer);
}
  where
    new : lookup (is_at (nat_cmp line)) operations ≡ None
    new = by (lookup (is_at (nat_cmp line)) operations) refl
      where
        by : (o : Option Waiting) → lookup (is_at (nat_cmp line)) operations ≡ o → lookup (is_at (nat_cmp line)) operations ≡ None
        by None e = e
        by (Some u) e = let low = h.begun line u e in absurd (omega (arith, low, high))

    begun : (l : ℕ) (w : Waiting) → lookup (is_at (nat_cmp l)) (insert_entry nat_cmp operations line x) ≡ Some w → (l ≡ line) ⊎ (l ≡ line → ⊥) → l ≤ line
    begun l w e (inl is) = omega (arith, is)
    begun l w e (inr d) = let low = h.begun l w (sym (insert_other nat_cmp number_exact operations line l x d) ∙ e) in omega (arith, low, high)
