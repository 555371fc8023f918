-- The lists of a core of which one changes.
use Rattle.std.proofs.Common.{◌≡◌, ◌∙◌, sym, ap, subst, ◌⊎◌, inl, inr, ℕ, zero, suc, ◌+◌, Bool, true, false, cond, List, [], ◌∷◌, ◌++◌, length, drop, Option, Some, None, refl, nat_lt, slice_get}
use Rattle.std.specs.Option.{option_map, option_map_or}
use Rattle.std.specs.Prelude.{slice_index_or, slice_set}
use Rattle.hs_core_words.specs.Changing.{change_group}
use Rattle.hs_core_words.specs.Looking.{group_of, shape_of}
use Rattle.hs_core_words.specs.State.{Core}
use Rattle.hs_effects.proofs.LookLemmas.{one_or_other}
use Rattle.hs_entry.specs.declared.entry.Entry.{Entry}
use Rattle.hs_fold.proofs.Shards.PlaceLemmas.{other-at}
use Rattle.hs_replica.specs.Group.{Group, commit_front, committed, lead, lead_takes, new_group, propose, take_committed}

pub set_at : {X : Type 0} (none : X) (xs : List X) (k : ℕ) (d : X) → (slice_index_or (slice_set xs k d) k none ≡ d) ⊎ (slice_index_or (slice_set xs k d) k none ≡ slice_index_or xs k none)
set_at none [] k d = inr refl
set_at none (x ∷ xs) zero d = inl refl
set_at none (x ∷ xs) (suc k) d = set_at none xs k d

-- a list is as it was, or it is the one that changes
pub group_changed : (shard : ℕ) (f : Group → Group) (c : Core) (g : ℕ)
    → (group_of g (change_group shard f c) ≡ group_of g c) ⊎ ((g ≡ shard) × (group_of g (change_group shard f c) ≡ f (group_of shard c)))
group_changed shard f c g = go (one_or_other g shard)
  where
    here : (k : ℕ) → k ≡ shard → (group_of k (change_group shard f c) ≡ group_of k c) ⊎ ((k ≡ shard) × (group_of k (change_group shard f c) ≡ f (group_of shard c)))
    here k e = subst (λ j. (group_of j (change_group shard f c) ≡ group_of j c) ⊎ ((j ≡ shard) × (group_of j (change_group shard f c) ≡ f (group_of shard c)))) (sym e)
        (by (set_at (new_group (shape_of c) shard 0 0 []) c.groups shard (f (group_of shard c))))
      where
        by : (group_of shard (change_group shard f c) ≡ f (group_of shard c)) ⊎ (group_of shard (change_group shard f c) ≡ group_of shard c)
            → (group_of shard (change_group shard f c) ≡ group_of shard c) ⊎ ((shard ≡ shard) × (group_of shard (change_group shard f c) ≡ f (group_of shard c)))
        by (inl e) = inr (refl, e)
        by (inr e) = inl e

    go : (g ≡ shard) ⊎ (g ≡ shard → ⊥) → (group_of g (change_group shard f c) ≡ group_of g c) ⊎ ((g ≡ shard) × (group_of g (change_group shard f c) ≡ f (group_of shard c)))
    go (inl e) = here g e
    go (inr d) = inl (other-at (new_group (shape_of c) g 0 0 []) c.groups shard g (f (group_of shard c)) d)

-- ---- an entry more

-- a place of a longer list is one of the list, or the last
pub at_end : {X : Type 0} (xs : List X) (x y : X) (place : ℕ) → slice_get (xs ++ x ∷ []) place ≡ Some y → (slice_get xs place ≡ Some y) ⊎ ((place ≡ length xs) × (x ≡ y))
at_end [] x y zero e = inr (refl, cc e)
at_end [] x y (suc place) e = absurd (cc e)
at_end (z ∷ xs) x y zero e = inl e
at_end (z ∷ xs) x y (suc place) e = go (at_end xs x y place e)
  where
    go : (slice_get xs place ≡ Some y) ⊎ ((place ≡ length xs) × (x ≡ y)) → (slice_get xs place ≡ Some y) ⊎ ((suc place ≡ suc (length xs)) × (x ≡ y))
    go (inl h) = inl h
    go (inr h) = inr (ap (λ n. suc n) h.0, h.1)

pub propose_front : (entry : Entry) (group : Group) → (propose entry group).front ≡ group.front
propose_front entry group = go (lead group)
  where
    go : (l : Option ℕ) → (lead_takes l entry group).front ≡ group.front
    go None = refl
    go (Some l) = refl

-- ---- an entry less

pub at_front : {X : Type 0} (xs : List X) (place : ℕ) → slice_get (drop 1 xs) place ≡ slice_get xs (suc place)
at_front [] place = refl
at_front (x ∷ xs) place = refl

-- what take_committed leaves
pub record IsTaken (a b : Group) : Type 0 where
  pub waiting : b.waiting ≡ drop 1 a.waiting
  pub front : b.front ≡ a.front + 1

pub taken_or_same : (group : Group) → (take_committed group ≡ group) ⊎ IsTaken group (take_committed group)
taken_or_same group = by_front (nat_lt group.front (commit_front group))
  where
    by_first : (first : Option Entry) → (option_map_or (λ (x : ℕ × Entry). record group { front = x.0; waiting = drop 1 group.waiting }) (option_map (λ (entry : Entry). (group.front + 1, entry)) first) group ≡ group)
        ⊎ IsTaken group (option_map_or (λ (x : ℕ × Entry). record group { front = x.0; waiting = drop 1 group.waiting }) (option_map (λ (entry : Entry). (group.front + 1, entry)) first) group)
    by_first None = inl refl
    by_first (Some entry) = inr (record { waiting = refl; front = refl })

    by_front : (b : Bool) → (option_map_or (λ (x : ℕ × Entry). record group { front = x.0; waiting = drop 1 group.waiting }) (cond b (option_map (λ (entry : Entry). (group.front + 1, entry)) (slice_get group.waiting 0)) None) group ≡ group)
        ⊎ IsTaken group (option_map_or (λ (x : ℕ × Entry). record group { front = x.0; waiting = drop 1 group.waiting }) (cond b (option_map (λ (entry : Entry). (group.front + 1, entry)) (slice_get group.waiting 0)) None) group)
    by_front true = by_first (slice_get group.waiting 0)
    by_front false = inl refl

-- the entry that is committed stands first, and is taken
pub record IsFirst (group : Group) (number : ℕ) (entry : Entry) : Type 0 where
  pub numbered : number ≡ group.front + 1
  pub first : slice_get group.waiting 0 ≡ Some entry
  pub taken : IsTaken group (take_committed group)

pub committed_first : (group : Group) (number : ℕ) (entry : Entry) → committed group ≡ Some (number, entry) → IsFirst group number entry
committed_first group number entry e = by_front (nat_lt group.front (commit_front group)) refl e
  where
    take : Option (ℕ × Entry) → Group
    take found = option_map_or (λ (x : ℕ × Entry). record group { front = x.0; waiting = drop 1 group.waiting }) found group

    by_first : (first : Option Entry) → slice_get group.waiting 0 ≡ first → option_map {U = ℕ × Entry} (λ (entry : Entry). (group.front + 1, entry)) first ≡ Some (number, entry) → IsFirst group number entry
    by_first None f n = absurd (cc n)
    by_first (Some x) f n =
        let same : (group.front + 1, x) ≡ (number, entry) = cc n in
        record {
          numbered = sym (ap (λ (y : ℕ × Entry). y.0) same);
          first = f ∙ ap (λ (y : ℕ × Entry). Some y.1) same;
          taken = subst (λ (found : Option (ℕ × Entry)). IsTaken group (take found)) (sym e) (record { waiting = refl; front = sym (ap (λ (y : ℕ × Entry). y.0) same) });
        }

    by_front : (b : Bool) → nat_lt group.front (commit_front group) ≡ b → cond b (option_map {U = ℕ × Entry} (λ (entry : Entry). (group.front + 1, entry)) (slice_get group.waiting 0)) None ≡ Some (number, entry) → IsFirst group number entry
    by_front true f n = by_first (slice_get group.waiting 0) refl n
    by_front false f n = absurd (cc n)
