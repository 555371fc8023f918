-- Blocks stay within what took effect where a list changes beside it, and where an entry takes effect.
use Rattle.std.proofs.Common.{◌≡◌, ◌≢◌, ◌∙◌, sym, ap, subst, ◌⊎◌, inl, inr, ℕ, ◌+◌, ◌<◌, ◌≤◌, List, Some, arith, length}
use Rattle.std.proofs.lemmas.Bool.{cases_eq, cases_lt}
use Rattle.std.proofs.lemmas.List.{get_or-set_other, get_or-set_same, set_past}
use Rattle.std.specs.Prelude.{slice_index_or, slice_set}
use Rattle.hs_core_words.specs.Changing.{change_group}
use Rattle.hs_core_words.specs.Looking.{catalogue_of, front_of, group_of, shape_of}
use Rattle.hs_core_words.specs.State.{Core}
use Rattle.hs_effects.proofs.EffectLemmas.{taken_here}
use Rattle.hs_effects.proofs.GroupLemmas.{committed_first, group_changed}
use Rattle.hs_effects.specs.Taking.{done_by, taken}
use Rattle.hs_entry.specs.declared.entry.Entry.{Entry}
use Rattle.hs_replica.specs.Group.{Group, committed, take_committed}
use Rattle.hs_shard.specs.Facts.{Catalogue, empty_catalogue}
use Rattle.hs_clauses.proofs.NumberLemmas.{within_applied, within_rise}
use Rattle.hs_clauses.specs.Numbered.{AreNumbered, AreWithin}

-- a list changes, but not how many of its entries took effect
pub numbers_group : (shard : ℕ) (f : Group → Group) (c : Core) → (f (group_of shard c)).front ≡ (group_of shard c).front → AreNumbered c → AreNumbered (change_group shard f c)
numbers_group shard f c same its k = subst (λ n. AreWithin n (catalogue_of k c).blocks) (sym (go (group_changed shard f c k))) (its k)
  where
    go : (group_of k (change_group shard f c) ≡ group_of k c) ⊎ ((k ≡ shard) × (group_of k (change_group shard f c) ≡ f (group_of shard c))) → front_of k (change_group shard f c) ≡ front_of k c
    go (inl e) = ap (λ (g : Group). g.front) e
    go (inr is) = ap (λ (g : Group). g.front) is.1 ∙ same ∙ ap (λ j. front_of j c) (sym is.0)

-- ---- an entry takes effect

module _ (shard number : ℕ) (entry : Entry) (c : Core) (leads : committed (group_of shard c) ≡ Some (number, entry)) (its : AreNumbered c) where
  front_then : front_of shard (taken shard entry c) ≡ front_of shard c + 1
  front_then = ap (λ (g : Group). g.front) (taken_here shard number entry c leads) ∙ (committed_first (group_of shard c) number entry leads).taken.front

  front_rise : (k : ℕ) → front_of k c ≤ front_of k (taken shard entry c)
  front_rise k = by (group_changed shard take_committed c k)
    where
      level : (x y : ℕ) → x ≡ y → x ≤ y
      level x y e = omega (arith, e)

      more : (x y : ℕ) → x ≡ y + 1 → y ≤ x
      more x y e = omega (arith, e)

      by : (group_of k (taken shard entry c) ≡ group_of k c) ⊎ ((k ≡ shard) × (group_of k (taken shard entry c) ≡ take_committed (group_of shard c))) → front_of k c ≤ front_of k (taken shard entry c)
      by (inl same) = level (front_of k c) (front_of k (taken shard entry c)) (ap (λ (g : Group). g.front) (sym same))
      by (inr is) = subst (λ j. front_of j c ≤ front_of j (taken shard entry c)) (sym is.0) (more (front_of shard (taken shard entry c)) (front_of shard c) front_then)

  -- a catalogue is as it was, or the one behind the entry
  abbrev Changed : ℕ → Type 0
  Changed k = (catalogue_of k (taken shard entry c) ≡ catalogue_of k c) ⊎ ((k ≡ shard) × (catalogue_of k (taken shard entry c) ≡ (done_by shard entry c).catalogue))

  changed : (k : ℕ) → Changed k
  changed k = by_place (cases_eq k shard)
    where
      by_length : k ≡ shard → (shard < length c.catalogues) ⊎ (length c.catalogues ≤ shard) → Changed k
      by_length same (inl low) =
          inr (same, (ap (λ n. slice_index_or (slice_set c.catalogues shard (done_by shard entry c).catalogue) n (empty_catalogue (shape_of c) k)) same ∙ get_or-set_same c.catalogues shard (done_by shard entry c).catalogue (empty_catalogue (shape_of c) k) low))
      by_length same (inr high) = inl (ap (λ (cs : List Catalogue). slice_index_or cs k (empty_catalogue (shape_of c) k)) (set_past c.catalogues shard (done_by shard entry c).catalogue high))

      by_place : (k ≡ shard) ⊎ (k ≢ shard) → Changed k
      by_place (inl same) = by_length same (cases_lt shard (length c.catalogues))
      by_place (inr differs) = inl (get_or-set_other c.catalogues shard k (done_by shard entry c).catalogue (empty_catalogue (shape_of c) k) differs)

  new_within : AreWithin (front_of shard c + 1) (done_by shard entry c).catalogue.blocks
  new_within =
      within_applied (front_of shard c + 1) (front_of shard c + 1) entry _ (catalogue_of shard c) (omega arith) (omega arith)
      (within_rise (front_of shard c) (front_of shard c + 1) (omega arith) (catalogue_of shard c).blocks (its shard))

  pub numbers_taken : AreNumbered (taken shard entry c)
  numbers_taken k = by (changed k)
    where
      by : Changed k → AreWithin (front_of k (taken shard entry c)) (catalogue_of k (taken shard entry c)).blocks
      by (inl same) =
          subst (λ (x : Catalogue). AreWithin (front_of k (taken shard entry c)) x.blocks) (sym same)
          (within_rise (front_of k c) (front_of k (taken shard entry c)) (front_rise k) (catalogue_of k c).blocks (its k))
      by (inr is) =
          subst (λ (x : Catalogue). AreWithin (front_of k (taken shard entry c)) x.blocks) (sym is.1)
          (subst (λ n. AreWithin n (done_by shard entry c).catalogue.blocks) (sym (ap (λ j. front_of j (taken shard entry c)) is.0 ∙ front_then)) new_within)
