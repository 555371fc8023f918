-- A new view, all at once.
use Rattle.std.proofs.Common.{◌≡◌, ◌∙◌, sym, ap, ℕ, ◌+◌, ◌<◌, List, [], ◌∷◌, ◌++◌, false, length, map, refl, arith, set-set, length-append, suc, Bool, Option, Some, None}
use Rattle.std.proofs.Math.Decide.{ℕ_discrete}
use Rattle.std.proofs.lemmas.List.{get_or-set_other, get_or-set_same, length-set}
use Rattle.std.specs.Prelude.{slice_index, slice_index_or, slice_set}
use Rattle.hs_awaiting.specs.Views.{restarted}
use Rattle.hs_awaiting.specs.Words.{change_with, ◌▸◌}
use Rattle.hs_core_state.specs.Anew.{group_anew, told_anew, view_tasks, viewed_anew}
use Rattle.hs_core_words.specs.Changing.{add_entry_tasks, post}
use Rattle.hs_core_words.specs.declared.task.Task.{Task}
use Rattle.hs_core_state.specs.Keeping.{AreLists, IsCore, IsOf}
use Rattle.hs_core_words.specs.Looking.{group_of, lead_of, shape_of}
use Rattle.hs_core_words.specs.Operating.{propose_entry}
use Rattle.hs_core_words.specs.State.{Core}
use Rattle.hs_core_words.specs.Views.{begin_view, restart_at}
use Rattle.hs_desk.specs.declared.job.Job.TheVariants as job
use Rattle.hs_entry.specs.declared.entry.Entry.{Entry}
use Rattle.hs_entry.specs.declared.entry.Entry.TheVariants as kind
use Rattle.hs_limits.specs.declared.shape.Shape.{Shape}
use Rattle.hs_members.specs.Members.{IsShard, Members, lead_by, view_of}
use Rattle.hs_post.specs.declared.message.Message.{Message}
use Rattle.hs_post.specs.Pool.{Pool}
use Rattle.hs_replica.specs.declared.replica.Replica.{Replica}
use Rattle.hs_replica.specs.Group.{Group, first_peer, last_number, lead, lead_takes, new_group, on_view, proposal, propose, renew, renewal, send_all, tell_from, view_messages}

-- telling who is good leaves the lists
pub told_lengths : (m : Members) (peer : ℕ) (copies : List Replica) → map (λ copy. length copy.stamps) (tell_from m peer copies) ≡ map (λ copy. length copy.stamps) copies
told_lengths m peer [] = refl
told_lengths m peer (c ∷ cs) = ap (λ rest. length c.stamps ∷ rest) (told_lengths m (peer + 1) cs)

-- messages sent one after another
pub send_all_append : (xs ys : List Message) (pool : Pool) → send_all (xs ++ ys) pool ≡ send_all ys (send_all xs pool)
send_all_append [] ys pool = refl
send_all_append (x ∷ xs) ys pool = send_all_append xs ys _

-- the group of a shard that was just put there
pub group_put : (shape : Shape) (groups : List Group) (shard : ℕ) (g : Group) → shard < length groups → slice_index_or (slice_set groups shard g) shard (new_group shape shard 0 0 []) ≡ g
group_put shape groups shard g h = get_or-set_same groups shard g _ h

-- what is proposed is the next entry; the rest of the group stays
takes_front : (o : Option ℕ) (e : Entry) (g : Group) → (lead_takes o e g).front ≡ g.front
takes_front None e g = refl
takes_front (Some l) e g = refl

pub front_anew : (m : Members) (g : Group) → (on_view m g).front ≡ g.front
front_anew m g = takes_front (lead (renew m g)) _ (renew m g)

takes_shape : (o : Option ℕ) (e : Entry) (g : Group) → (lead_takes o e g).shape ≡ g.shape
takes_shape None e g = refl
takes_shape (Some l) e g = refl

takes_shard : (o : Option ℕ) (e : Entry) (g : Group) → (lead_takes o e g).shard ≡ g.shard
takes_shard None e g = refl
takes_shard (Some l) e g = refl

takes_copies : (o : Option ℕ) (e : Entry) (g : Group) → length (lead_takes o e g).copies ≡ length g.copies
takes_copies None e g = refl
takes_copies (Some l) e g = length-set g.copies _ _

told_count : (m : Members) (peer : ℕ) (copies : List Replica) → length (tell_from m peer copies) ≡ length copies
told_count m peer [] = refl
told_count m peer (c ∷ cs) = ap suc (told_count m (peer + 1) cs)

pub proposed_number : (e : Entry) (g : Group) → last_number (propose e g) ≡ last_number g + 1
proposed_number e g =
    let f : (lead_takes (lead g) e g).front ≡ g.front = takes_front (lead g) e g in
    let n : length (g.waiting ++ e ∷ []) ≡ length g.waiting + 1 = length-append g.waiting (e ∷ []) in
    omega (arith, f, n)

-- a new view is of the same shard
of_anew : (m : Members) (shape : Shape) (shard : ℕ) (g : Group) → IsOf shape shard g → IsOf shape shard (on_view m g)
of_anew m shape shard g is = record {
  valid = is.valid;
  within = is.within;
  same_shape = takes_shape (lead (renew m g)) _ (renew m g) ∙ is.same_shape;
  same_shard = takes_shard (lead (renew m g)) _ (renew m g) ∙ is.same_shard;
  copies = takes_copies (lead (renew m g)) _ (renew m g) ∙ told_count m _ g.copies ∙ is.copies;
}

-- the lists of all shards with one in its new view
pub anew_of_all : (m : Members) (gs : List Group) (fs : List ℕ) (vs ws : List Bool) (ts us : List (List Task)) (shard : ℕ)
    → AreLists m gs fs vs ts → IsShard m.shape shard → length ws ≡ length vs → length us ≡ length ts
    → AreLists m (slice_set gs shard (on_view m (slice_index_or gs shard (new_group m.shape shard 0 0 [])))) fs ws us
anew_of_all m gs fs vs ws ts us shard all within w u = record {
  groups = length-set gs shard _ ∙ all.groups;
  fronts = all.fronts;
  viewed = w ∙ all.viewed;
  tasks = u ∙ all.tasks;
  each = each_of;
  at = each_at;
}
  where
    new : Group
    new = on_view m (slice_index_or gs shard (new_group m.shape shard 0 0 []))

    long : shard < length gs
    long = rw all.groups within

    each_of : (s : ℕ) → IsShard m.shape s → IsOf m.shape s (slice_index_or (slice_set gs shard new) s (new_group m.shape s 0 0 []))
    each_of s h = elim (ℕ_discrete s shard) [
      | yes e ↦ rw e (rw (get_or-set_same gs shard new (new_group m.shape shard 0 0 []) long) (of_anew m m.shape shard _ (all.each shard within)))
      | no d ↦ rw (get_or-set_other gs shard s new (new_group m.shape s 0 0 []) d) (all.each s h)
    ]

    each_at : (s : ℕ) → IsShard m.shape s → slice_index fs s ≡ (slice_index_or (slice_set gs shard new) s (new_group m.shape s 0 0 [])).front
    each_at s h = elim (ℕ_discrete s shard) [
      | yes e ↦ rw e (rw (get_or-set_same gs shard new (new_group m.shape shard 0 0 []) long) (all.at shard within ∙ sym (front_anew m (slice_index_or gs shard (new_group m.shape shard 0 0 [])))))
      | no d ↦ rw (get_or-set_other gs shard s new (new_group m.shape s 0 0 []) d) (all.at s h)
    ]

-- what is known of one of the lists of all shards
pub of_in_all : (m : Members) (gs : List Group) (fs : List ℕ) (vs : List Bool) (ts : List (List Task)) (shard : ℕ) → AreLists m gs fs vs ts → IsShard m.shape shard → IsOf m.shape shard (slice_index_or gs shard (new_group m.shape shard 0 0 []))
of_in_all m gs fs vs ts shard all within = all.each shard within

pub front_in_all : (m : Members) (gs : List Group) (fs : List ℕ) (vs : List Bool) (ts : List (List Task)) (shard : ℕ) → AreLists m gs fs vs ts → IsShard m.shape shard → slice_index fs shard ≡ (slice_index_or gs shard (new_group m.shape shard 0 0 [])).front
front_in_all m gs fs vs ts shard all within = all.at shard within

-- an entry is proposed in a shard whose group is known
propose_known : (shard : ℕ) (e : Entry) (core : Core) (x : Group) → group_of shard core ≡ x →
    propose_entry shard e core
    ≡ (record core { groups = slice_set core.groups shard (propose e x); pool = send_all (proposal e x) core.pool }
    ▸ change_with (lead_by shard (map (λ copy. length copy.stamps) x.copies) core.members) (λ peer. add_entry_tasks peer (last_number x + 1) e))
propose_known shard e core x q = rw q refl

-- a new view in one step: operations start again, the copies are told, and a View is proposed
pub begin_view_told : (shard : ℕ) (core : Core) → shard < length core.groups → (group_of shard core).shard ≡ shard
    → begin_view shard core ≡ viewed_anew shard (restart_at shard (last_number (renew core.members (group_of shard core))) core)
begin_view_told shard core h s =
    let m : Members = core.members in
    let g : Group = group_of shard core in
    let new : Group = renew m g in
    let put_at : ℕ → Core = λ last. record core {
      progress = record core.progress { viewed = slice_set core.progress.viewed shard false };
      groups = slice_set core.groups shard new;
      operations = map (λ e. (e.0, restarted shard last e.1)) core.operations;
    } in
    let first : Core = put_at (last_number new) in
    let sending : Core = record first { pool = send_all (renewal new) core.pool } in
    let view : ℕ → Entry = λ of. kind.View (view_of of m) in
    let make : List Group → Pool → List ℕ → ℕ → Core = λ gs pool lens number.
    record first { groups = gs; pool = pool } ▸ change_with (lead_by shard lens m) (λ peer. add_entry_tasks peer number (view shard)) in
    let put : group_of shard first ≡ new = group_put (shape_of core) core.groups shard new h in
    let rest : Core → Core = λ c. propose_entry shard (view shard) (post (renewal (group_of shard c)) c) in
    let told : begin_view shard core ≡ rest first = ap (λ x. rest (put_at (last_number x))) put in
    let sent : rest first ≡ propose_entry shard (view shard) sending = ap (λ x. propose_entry shard (view shard) (post (renewal x) first)) put in
    let proposed = propose_known shard (view shard) sending new put in
    let again = ap (λ gs. make gs (send_all (proposal (view shard) new) (send_all (renewal new) core.pool)) (map (λ copy. length copy.stamps) new.copies) (last_number new + 1))
    (set-set core.groups shard new (propose (view shard) new)) in
    let pooled = ap (λ pool. make (slice_set core.groups shard (propose (view shard) new)) pool (map (λ copy. length copy.stamps) new.copies) (last_number new + 1))
    (sym (send_all_append (renewal new) (proposal (view shard) new) core.pool)) in
    let lengths = ap (λ lens. make (slice_set core.groups shard (propose (view shard) new)) (send_all (renewal new ++ proposal (view shard) new) core.pool) lens (last_number new + 1))
    (told_lengths m (first_peer g) g.copies) in
    let number = ap (λ n. make (slice_set core.groups shard (propose (view shard) new)) (send_all (renewal new ++ proposal (view shard) new) core.pool) (map (λ copy. length copy.stamps) g.copies) n)
    (sym (proposed_number (view shard) new)) in
    let own = ap (λ of. make (slice_set core.groups shard (propose (view of) new)) (send_all (renewal new ++ proposal (view of) new) core.pool) (map (λ copy. length copy.stamps) g.copies) (last_number (propose (view of) new)))
    (sym s) in
    told ∙ sent ∙ proposed ∙ again ∙ pooled ∙ lengths ∙ number ∙ own

-- where no operation is without an answer none starts again
pub begin_view_anew : (shard : ℕ) (core : Core) → shard < length core.groups → (group_of shard core).shard ≡ shard → core.operations ≡ [] → begin_view shard core ≡ viewed_anew shard core
begin_view_anew shard core h s e =
    let none : map (λ x. (x.0, restarted shard (last_number (renew core.members (group_of shard core))) x.1)) core.operations ≡ core.operations = rw e refl in
    begin_view_told shard core h s ∙ ap (λ ops. viewed_anew shard (record core { operations = ops })) none

-- the two jobs of a View
two_tasks : (ts : List (List Task)) (peer number view : ℕ) → peer < length ts →
    (slice_set (slice_set ts peer (slice_index_or ts peer [] ++ record { job = job.Append number (kind.View view); line = 0 } ∷ [])) peer
    (slice_index_or (slice_set ts peer (slice_index_or ts peer [] ++ record { job = job.Append number (kind.View view); line = 0 } ∷ [])) peer []
    ++ record { job = job.Seal number; line = 0 } ∷ []))
    ≡ slice_set ts peer (view_tasks number view (slice_index_or ts peer []))
two_tasks ts peer number view h =
    let first : List Task = slice_index_or ts peer [] ++ record { job = job.Append number (kind.View view); line = 0 } ∷ [] in
    ap (λ tasks. slice_set (slice_set ts peer first) peer (tasks ++ record { job = job.Seal number; line = 0 } ∷ [])) (get_or-set_same ts peer first [] h)
    ∙ set-set ts peer first (view_tasks number view (slice_index_or ts peer []))

-- a new view of a shard whose group and lead are known
pub viewed_known : (shard peer : ℕ) (core : Core) (g : Group) → group_of shard core ≡ g
    → lead_by shard (map (λ copy. length copy.stamps) g.copies) core.members ≡ Some peer → peer < length core.tasks
    → viewed_anew shard core ≡ record core {
      progress = record core.progress { viewed = slice_set core.progress.viewed shard false };
      groups = slice_set core.groups shard (on_view core.members g);
      pool = send_all (view_messages core.members g) core.pool;
      tasks = slice_set core.tasks peer (view_tasks (last_number (on_view core.members g)) (view_of shard core.members) (slice_index_or core.tasks peer []));
    }
viewed_known shard peer core g q p h =
    rw (q, p) (ap (λ tasks. record core {
      progress = record core.progress { viewed = slice_set core.progress.viewed shard false };
      groups = slice_set core.groups shard (on_view core.members g);
      pool = send_all (view_messages core.members g) core.pool;
      tasks = tasks;
    }) (two_tasks core.tasks peer (last_number (on_view core.members g)) (view_of shard core.members) h))

-- where the copies are told what is left is the jobs of the View
pub begin_view_left : (shard : ℕ) (core mid : Core) (lead : Option ℕ) → IsCore core → IsShard (shape_of core) shard
    → mid ≡ restart_at shard (last_number (renew core.members (group_of shard core))) (told_anew shard core) → lead ≡ lead_of shard core
    → begin_view shard core ≡ (mid ▸ change_with lead (λ peer. add_entry_tasks peer (last_number (group_anew shard core)) (kind.View (view_of shard core.members))))
begin_view_left shard core mid lead is within m l =
    let long : shard < length core.groups = rw is.groups within in
    begin_view_told shard core long (is.each shard within).same_shard
    ∙ ap (λ x. x ▸ change_with (lead_of shard core) (λ peer. add_entry_tasks peer (last_number (group_anew shard core)) (kind.View (view_of shard core.members)))) (sym m)
    ∙ ap (λ o. mid ▸ change_with o (λ peer. add_entry_tasks peer (last_number (group_anew shard core)) (kind.View (view_of shard core.members)))) (sym l)
