-- Each entry of a client is a client's step, and keeps the machine right.
use Rattle.std.proofs.Common.{◌≡◌, ℕ, ◌<◌, true, ◌&&◌, List, ◌∷◌, ◌⊎◌, inl, inr, refl, sym, ◌∙◌, ap, subst, arith, map, Option, Some, None, is_none, bytes_eq}
use Rattle.std.proofs.lemmas.Bool.{eqb-true, and_parts}
use Rattle.std.proofs.lemmas.List.Sums.{sum_by-cons}
use Rattle.hs_limits.specs.declared.address.Address.{Address}
use Rattle.hs_model.specs.Reach.{is_same}
use Rattle.hs_model.proofs.Members.{member-map, member_of_map, same_from}
use Rattle.hs_deletion.specs.Reached.{Member}
use Rattle.hs_deletion.specs.Records.{BlockRecord, RootRecord, change_if, new_block, given_in, new_root, is_under, dropped_in}
use Rattle.hs_deletion.specs.Machine.{Layout, Machine, is_root_at}
use Rattle.hs_deletion.specs.Steps.{after_store, after_mark, after_root, after_drop}
use Rattle.hs_deletion.specs.Counts.{block_weight, root_weight, indegree}
use Rattle.hs_deletion.specs.History.{IsBacked, MayStore, MayGive}
use Rattle.hs_deletion.specs.Invariants.{IsRight}
use Rattle.hs_deletion.proofs.SumLemmas.{sum_by_same, sum_by_map}
use Rattle.hs_deletion.proofs.StepLemmas.{change_if_cases}
use Rattle.hs_deletion.proofs.CountLemmas.{weight_uncounted, root_weight_uncounted}
use Rattle.hs_deletion.proofs.ClientLemmas.{IsKeptBlock, IsKeptRoot, IsGiven, IsStored, IsPut, IsClients}
use Rattle.hs_deletion.proofs.ClientKeeps.{right_clients}

kept_block : (b : BlockRecord) → IsKeptBlock b b
kept_block b = record { address = refl; pointers = refl; born = refl; counted = refl; is_zero = refl; count = refl; mark = omega arith }

kept_root : (g now : ℕ) (r : RootRecord) → IsKeptRoot g now r r
kept_root g now r = record { home = refl; addresses = refl; created = refl; counted = refl; dropped = inl refl }

module _ (layout : Layout) (m : Machine) (right : IsRight layout m) where
  -- a write stores an absent block
  module _ (a : Address) (pointers : List Address) (may : MayStore layout m a pointers) where
    abbrev g : ℕ
    g = layout.home a

    abbrev new : BlockRecord
    new = new_block a pointers (m.states g).epoch

    stores : IsClients layout m g a (after_store layout a pointers m)
    unfolding indegree
    stores = record {
      within = layout.within a;
      block_from = from;
      block_to = λ b k. (b, inr k, kept_block b);
      root_from = λ r k. inl (r, k, kept_root g (m.states g).epoch r);
      root_to = λ r k. (r, k, kept_root g (m.states g).epoch r);
      distinct = one;
      same_indegree = λ x. omega (arith, sum_by-cons (block_weight x) new m.blocks, weight_uncounted x new refl);
    }
      where
        fresh : IsStored layout m g a new
        fresh = record { given = record { here = refl; mark = refl; backed = may.backed }; address = refl; absent = may.absent; born = refl; counted = refl; nonzero = refl; none = refl }

        from : (c : BlockRecord) → Member c (new ∷ m.blocks) → ((b : BlockRecord) × Member b m.blocks × IsKeptBlock b c × ((b.mark ≡ c.mark) ⊎ IsGiven layout m g c)) ⊎ IsStored layout m g a c
        from c (inl e) = inr (subst (IsStored layout m g a) (sym e) fresh)
        from c (inr k) = inl (c, k, kept_block c, inl refl)

        one : (b c : BlockRecord) → Member b (new ∷ m.blocks) → Member c (new ∷ m.blocks) → b.address ≡ c.address → b ≡ c
        one b c (inl e) (inl f) q = e ∙ sym f
        one b c (inl e) (inr l) q = absurd (may.absent (record { block = c; stands = l; here = sym q ∙ ap (λ (x : BlockRecord). x.address) e }))
        one b c (inr k) (inl f) q = absurd (may.absent (record { block = b; stands = k; here = q ∙ ap (λ (x : BlockRecord). x.address) f }))
        one b c (inr k) (inr l) q = right.distinct b c k l q

    pub right_stored : IsRight layout (after_store layout a pointers m)
    right_stored = right_clients layout m right g a (new ∷ m.blocks) m.roots stores

  -- a write gives a present block
  module _ (a : Address) (may : MayGive layout m a) where
    abbrev h : ℕ
    h = layout.home a

    abbrev now : ℕ
    now = (m.states h).epoch

    abbrev change : BlockRecord → BlockRecord
    change = change_if (λ b. is_same b.address a) (given_in now)

    -- the given block is of the shard, and backed there; each other is as it was
    change_is : (b : BlockRecord) → Member b m.blocks → ((b.address ≡ a) × (change b ≡ given_in now b)) ⊎ (change b ≡ b)
    change_is b k = elim (change_if_cases (λ (b : BlockRecord). is_same b.address a) (given_in now) b) [ inl p ↦ inl (same_from b.address a p.0, p.1) | inr p ↦ inr p.1 ]

    change_kept : (b : BlockRecord) → Member b m.blocks → IsKeptBlock b (change b) × ((b.mark ≡ (change b).mark) ⊎ IsGiven layout m h (change b))
    change_kept b k = elim (change_is b k) [
      | inr o ↦ rw o (kept_block b, inl refl)
      | inl p ↦ (
          let r = (right.blocks b k).mark in
          rw (p.1) (record { address = refl; pointers = refl; born = refl; counted = refl; is_zero = refl; count = refl; mark = rw p.0 at r }, inr (record { here = ap layout.home p.0; mark = refl; backed = may b k p.0 }))
          )
    ]

    gives : IsClients layout m h a (after_mark layout a m)
    unfolding indegree block_weight
    gives = record {
      within = layout.within a;
      block_from = from;
      block_to = λ b k. (change b, member-map change b m.blocks k, (change_kept b k).0);
      root_from = λ r k. inl (r, k, kept_root h now r);
      root_to = λ r k. (r, k, kept_root h now r);
      distinct = one;
      same_indegree = λ x. omega (arith, sum_by_map (block_weight x) change m.blocks, sum_by_same (λ b. block_weight x (change b)) (block_weight x) m.blocks (same_weight x));
    }
      where
        from : (c : BlockRecord) → Member c (map change m.blocks) → ((b : BlockRecord) × Member b m.blocks × IsKeptBlock b c × ((b.mark ≡ c.mark) ⊎ IsGiven layout m h c)) ⊎ IsStored layout m h a c
        from c k = let p = member_of_map change c m.blocks k in let f = change_kept p.0 p.1 in inl (p.0, p.1, subst (IsKeptBlock p.0) (sym p.2) f.0, subst (λ (x : BlockRecord). (p.0.mark ≡ x.mark) ⊎ IsGiven layout m h x) (sym p.2) f.1)

        one : (b c : BlockRecord) → Member b (map change m.blocks) → Member c (map change m.blocks) → b.address ≡ c.address → b ≡ c
        one b c k l e =
            let p = member_of_map change b m.blocks k in
            let q = member_of_map change c m.blocks l in
            let x : p.0.address ≡ b.address = (change_kept p.0 p.1).0.address ∙ ap (λ (x : BlockRecord). x.address) (sym p.2) in
            let y : q.0.address ≡ c.address = (change_kept q.0 q.1).0.address ∙ ap (λ (x : BlockRecord). x.address) (sym q.2) in
            let is : p.0 ≡ q.0 = right.distinct p.0 q.0 p.1 q.1 (x ∙ e ∙ sym y) in
            p.2 ∙ ap change is ∙ sym q.2

        same_weight : (x : Address) (b : BlockRecord) → Member b m.blocks → block_weight x (change b) ≡ block_weight x b
        same_weight x b k = elim (change_is b k) [ inl p ↦ rw (p.1) refl | inr o ↦ rw o refl ]

    pub right_given : IsRight layout (after_mark layout a m)
    right_given = right_clients layout m right h a (map change m.blocks) m.roots gives

  module _ (g : ℕ) (lg : g < layout.shards) (key : List ℕ) where
    -- no address is stored by an entry of a root
    abbrev none : Address
    none = record { 0 = key }

    -- a root is put
    module _ (addresses : List Address) (backed : (a : Address) → Member a addresses → IsBacked m g a) where
      abbrev root : RootRecord
      root = new_root g key addresses (m.states g).epoch

      puts : IsClients layout m g none (after_root g key addresses m)
      unfolding indegree
      puts = record {
        within = lg;
        block_from = λ c k. inl (c, k, kept_block c, inl refl);
        block_to = λ b k. (b, k, kept_block b);
        root_from = from;
        root_to = λ r k. (r, inr k, kept_root g (m.states g).epoch r);
        distinct = right.distinct;
        same_indegree = λ x. omega (arith, sum_by-cons (root_weight x) root m.roots, root_weight_uncounted x root refl);
      }
        where
          fresh : IsPut layout m g root
          fresh = record { here = refl; created = refl; counted = refl; dropped = refl; backed = backed }

          from : (r : RootRecord) → Member r (root ∷ m.roots) → ((q : RootRecord) × Member q m.roots × IsKeptRoot g (m.states g).epoch q r) ⊎ IsPut layout m g r
          from r (inl e) = inr (subst (IsPut layout m g) (sym e) fresh)
          from r (inr k) = inl (r, k, kept_root g (m.states g).epoch r)

      pub right_put : IsRight layout (after_root g key addresses m)
      right_put = right_clients layout m right g none m.blocks (root ∷ m.roots) puts

    -- a retained root is dropped
    abbrev drop : RootRecord → RootRecord
    drop = change_if (λ r. is_root_at g r && is_under key r) (dropped_in (m.states g).epoch)

    drop_kept : (r : RootRecord) → IsKeptRoot g (m.states g).epoch r (drop r)
    drop_kept r = elim (change_if_cases (λ r. is_root_at g r && is_under key r) (dropped_in (m.states g).epoch) r) [
      | inr o ↦ rw (o.1) (kept_root g (m.states g).epoch r)
      | inl p ↦ (
          let q = and_parts (is_root_at g r) (is_under key r) p.0 in
          let d = and_parts (is_none r.dropped) (bytes_eq r.key key) q.1 in
          rw (p.1) (record { home = refl; addresses = refl; created = refl; counted = refl; dropped = inr (eqb-true r.home g q.0, retained r.dropped d.0, refl) })
          )
    ]
      where
        retained : (d : Option ℕ) → is_none d ≡ true → d ≡ None
        retained None e = refl
        retained (Some d) e = cc

    drops : IsClients layout m g none (after_drop g key m)
    unfolding indegree root_weight
    drops = record {
      within = lg;
      block_from = λ c k. inl (c, k, kept_block c, inl refl);
      block_to = λ b k. (b, k, kept_block b);
      root_from = λ r k. (let p = member_of_map drop r m.roots k in inl (p.0, p.1, subst (IsKeptRoot g (m.states g).epoch p.0) (sym p.2) (drop_kept p.0)));
      root_to = λ r k. (drop r, member-map drop r m.roots k, drop_kept r);
      distinct = right.distinct;
      same_indegree = λ x. omega (arith, sum_by_map (root_weight x) drop m.roots, sum_by_same (λ r. root_weight x (drop r)) (root_weight x) m.roots (λ r k. same_weight x r));
    }
      where
        same_weight : (x : Address) (r : RootRecord) → root_weight x (drop r) ≡ root_weight x r
        same_weight x r = elim (change_if_cases (λ r. is_root_at g r && is_under key r) (dropped_in (m.states g).epoch) r) [ inl p ↦ rw (p.1) refl | inr o ↦ rw (o.1) refl ]

    pub right_dropped : IsRight layout (after_drop g key m)
    right_dropped = right_clients layout m right g none m.blocks (map drop m.roots) drops
