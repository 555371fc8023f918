-- What the single changes of the core leave at each shard and at each peer.
use Rattle.std.proofs.Common.{◌≡◌, ◌≢◌, ◌∙◌, ap, refl, inl, inr, ℕ, ◌<◌, ◌≤◌, Bool, true, false, List, [], Option, Some, None, length, arith}
use Rattle.std.proofs.lemmas.Bool.{cases_eq, cases_lt}
use Rattle.std.proofs.lemmas.List.{get_or-set_other, get_or-set_same, length-set, set_past}
use Rattle.std.specs.Prelude.{slice_index_or}
use Rattle.hs_core_words.specs.declared.task.Task.{Task}
use Rattle.hs_core_words.specs.Changing.{change_group, set_rejoin, set_tasks}
use Rattle.hs_core_words.specs.Looking.{group_of, rejoin_of, shape_of, tasks_of}
use Rattle.hs_core_words.specs.State.{Core}
use Rattle.hs_entry.specs.declared.entry.Entry.{Entry}
use Rattle.hs_entry.specs.declared.entry.Entry.TheVariants.{View}
use Rattle.hs_members.specs.Members.{Members, view_of}
use Rattle.hs_rejoin.specs.Rejoin.{Rejoin}
use Rattle.hs_replica.specs.declared.replica.Replica.{Replica}
use Rattle.hs_replica.specs.Group.{Group, IsHome, change_copy, committed, hears, lead, lead_takes, new_group, on_have, on_view, propose, renew, take_committed}
use Rattle.hs_copies.proofs.NewViewLemmas.{told_length}
use Rattle.hs_core_copies.specs.InStep.{IsSeated}

-- ---- groups

pub group_here : (g : ℕ) (f : Group → Group) (c : Core) → g < length c.groups → group_of g (change_group g f c) ≡ f (group_of g c)
group_here g f c l = get_or-set_same c.groups g (f (group_of g c)) (new_group (shape_of c) g 0 0 []) l

pub group_other : (g x : ℕ) (f : Group → Group) (c : Core) → g ≢ x → group_of g (change_group x f c) ≡ group_of g c
group_other g x f c n = get_or-set_other c.groups x g (f (group_of x c)) (new_group (shape_of c) g 0 0 []) n

pub group_past : (g : ℕ) (f : Group → Group) (c : Core) → length c.groups ≤ g → group_of g (change_group g f c) ≡ group_of g c
group_past g f c l = ap (λ gs. slice_index_or gs g (new_group (shape_of c) g 0 0 [])) (set_past c.groups g (f (group_of g c)) l)

-- a group with the shape and the shard of another, and as many copies
pub record IsKept (old new : Group) : Type 0 where
  pub shape : new.shape ≡ old.shape
  pub shard : new.shard ≡ old.shard
  pub copies : length new.copies ≡ length old.copies

-- the group of a shard is the changed one, or as it was
kept_at : (x k : ℕ) (f : Group → Group) (c : Core) → IsKept (group_of x c) (f (group_of x c)) → IsKept (group_of k c) (group_of k (change_group x f c))
kept_at x k f c keep = elim (cases_eq k x) [
  | inl e ↦ rw e (elim (cases_lt x (length c.groups)) [
    | inl low ↦ rw (group_here x f c low) keep
    | inr high ↦ rw (group_past x f c high) (record { shape = refl; shard = refl; copies = refl })
  ])
  | inr n ↦ rw (group_other k x f c n) (record { shape = refl; shard = refl; copies = refl })
]

pub seated_group : (x : ℕ) (f : Group → Group) (c : Core) → IsKept (group_of x c) (f (group_of x c)) → IsSeated c → IsSeated (change_group x f c)
seated_group x f c keep st = record {
  groups = length-set c.groups x (f (group_of x c)) ∙ st.groups;
  tasks = st.tasks;
  rejoins = st.rejoins;
  placed = λ k.
      let i = kept_at x k f c keep in
      record { same_shape = i.shape ∙ (st.placed k).same_shape; same_shard = i.shard ∙ (st.placed k).same_shard; few = omega (arith, i.copies, (st.placed k).few) };
  within = st.within;
}

-- ---- what the calls on a group leave

takes_kept : (o : Option ℕ) (entry : Entry) (x : Group) → IsKept x (lead_takes o entry x)
takes_kept None entry x = record { shape = refl; shard = refl; copies = refl }
takes_kept (Some l) entry x = record { shape = refl; shard = refl; copies = length-set x.copies _ _ }

pub proposed_kept : (entry : Entry) (x : Group) → IsKept x (propose entry x)
proposed_kept entry x = let k = takes_kept (lead x) entry x in record { shape = k.shape; shard = k.shard; copies = k.copies }

pub changed_kept : (p : ℕ) (f : Replica → Replica) (x : Group) → IsKept x (change_copy p f x)
changed_kept p f x = record { shape = refl; shard = refl; copies = length-set x.copies _ _ }

pub committed_kept : (x : Group) → IsKept x (take_committed x)
committed_kept x = go (committed x) refl
  where
    go : (o : Option (ℕ × Entry)) → committed x ≡ o → IsKept x (take_committed x)
    go None e = rw e (record { shape = refl; shard = refl; copies = refl })
    go (Some y) e = rw e (record { shape = refl; shard = refl; copies = refl })

-- what took effect is no matter of the copies
pub committed_copies : (x : Group) → (take_committed x).copies ≡ x.copies
committed_copies x = go (committed x) refl
  where
    go : (o : Option (ℕ × Entry)) → committed x ≡ o → (take_committed x).copies ≡ x.copies
    go None e = rw e refl
    go (Some y) e = rw e refl

pub renewed_kept : (m : Members) (x : Group) → IsKept x (renew m x)
renewed_kept m x = record { shape = refl; shard = refl; copies = told_length m x }

pub viewed_kept : (m : Members) (x : Group) → IsKept x (on_view m x)
viewed_kept m x =
    let k = proposed_kept (View (view_of x.shard m)) (renew m x) in
    record { shape = k.shape; shard = k.shard; copies = k.copies ∙ told_length m x }

pub home_kept : (x y : Group) (q : ℕ) → IsKept x y → IsHome y q → IsHome x q
home_kept x y q k h = rw (k.shape, k.shard) at h

pub heard_kept : (from view sealed : ℕ) (x : Group) → IsKept x (on_have from view sealed x)
heard_kept from view sealed x = go (hears from view x) refl
  where
    go : (b : Bool) → hears from view x ≡ b → IsKept x (on_have from view sealed x)
    go true e = rw e (record { shape = refl; shard = refl; copies = length-set x.copies _ _ })
    go false e = rw e (record { shape = refl; shard = refl; copies = refl })

-- ---- jobs

pub tasks_here : (p : ℕ) (ts : List Task) (c : Core) → p < length c.tasks → tasks_of p (set_tasks p ts c) ≡ ts
tasks_here p ts c l = get_or-set_same c.tasks p ts [] l

pub tasks_other : (p q : ℕ) (ts : List Task) (c : Core) → q ≢ p → tasks_of q (set_tasks p ts c) ≡ tasks_of q c
tasks_other p q ts c n = get_or-set_other c.tasks p q ts [] n

pub tasks_past : (p : ℕ) (ts : List Task) (c : Core) → length c.tasks ≤ p → tasks_of p (set_tasks p ts c) ≡ tasks_of p c
tasks_past p ts c l = ap (λ all. slice_index_or all p []) (set_past c.tasks p ts l)

pub seated_tasks : (p : ℕ) (ts : List Task) (c : Core) → IsSeated c → IsSeated (set_tasks p ts c)
seated_tasks p ts c st = record { groups = st.groups; tasks = length-set c.tasks p ts ∙ st.tasks; rejoins = st.rejoins; placed = st.placed; within = st.within }

-- ---- joining

pub rejoin_here : (p : ℕ) (r : Option Rejoin) (c : Core) → p < length c.progress.rejoins → rejoin_of p (set_rejoin p r c) ≡ r
rejoin_here p r c l = get_or-set_same c.progress.rejoins p r None l

pub rejoin_other : (p q : ℕ) (r : Option Rejoin) (c : Core) → q ≢ p → rejoin_of q (set_rejoin p r c) ≡ rejoin_of q c
rejoin_other p q r c n = get_or-set_other c.progress.rejoins p q r None n

pub seated_rejoin : (p : ℕ) (r : Option Rejoin) (c : Core) → IsSeated c → IsSeated (set_rejoin p r c)
seated_rejoin p r c st = record { groups = st.groups; tasks = st.tasks; rejoins = length-set c.progress.rejoins p r ∙ st.rejoins; placed = st.placed; within = st.within }
