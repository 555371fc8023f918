-- Catalogues follow the entries of clients.
use Rattle.std.proofs.Common.{◌≡◌, ◌≢◌, ℕ, Bool, true, ◌&&◌, List, inl, inr, refl, sym, ◌∙◌, ap, map}
use Rattle.std.proofs.lemmas.Bool.{eq-eqb, ne_eqb, eqb-true, and_parts}
use Rattle.hs_limits.specs.declared.address.Address.{Address}
use Rattle.hs_model.specs.Reach.{is_same}
use Rattle.hs_model.proofs.Members.{same_from}
use Rattle.hs_deletion.specs.Records.{BlockRecord, RootRecord, change_if, new_block, given_in, new_root, is_under, dropped_in}
use Rattle.hs_deletion.specs.Machine.{Layout, Machine, is_at, is_root_at}
use Rattle.hs_deletion.specs.Steps.{after_store, after_mark, after_root, after_drop, blocks_at, roots_at}
use Rattle.hs_deletion.specs.Catalogue.{ShardCatalogue, stored_in, marked_in, rooted_in, unrooted_in}
use Rattle.hs_deletion.specs.Following.{IsFollowing}
use Rattle.hs_deletion.proofs.StepLemmas.{change_if_cases}
use Rattle.hs_deletion.proofs.SameLemmas.{same_cons, same_map, filter_map_agree, filter_map_other}
use Rattle.hs_deletion.proofs.FollowLemmas.{IsStepAt}

module _ (layout : Layout) (m : Machine) (g : ℕ) where
  -- a write stores an absent block
  module _ (a : Address) (pointers : List Address) (e : layout.home a ≡ g) where
    pub store_elsewhere : IsStepAt layout g m (after_store layout a pointers m)
    store_elsewhere = record {
      blocks = λ h o. rw (ne_eqb (layout.home a) h (λ q. o (sym q ∙ e))) refl;
      roots = λ h o. refl;
      states = λ h o. refl;
      sent = λ to h epoch round body s. s;
    }

    pub store_follows : (c : ShardCatalogue) → IsFollowing layout m g c → IsFollowing layout (after_store layout a pointers m) g (stored_in a pointers c)
    store_follows c f = record {
      blocks = rw (eq-eqb (layout.home a) g e, e, ← f.epoch) (same_cons (new_block a pointers c.epoch) c.blocks (blocks_at layout g m.blocks) f.blocks);
      roots = f.roots;
      epoch = f.epoch;
      swept = f.swept;
      round = f.round;
      got = f.got;
    }

  -- a write gives a present block
  module _ (a : Address) (e : layout.home a ≡ g) where
    abbrev change : BlockRecord → BlockRecord
    change = change_if (λ b. is_same b.address a) (given_in (m.states (layout.home a)).epoch)

    place : (h : ℕ) (b : BlockRecord) → is_at layout h (change b) ≡ is_at layout h b
    place h b = elim (change_if_cases (λ (b : BlockRecord). is_same b.address a) (given_in (m.states (layout.home a)).epoch) b) [ inl p ↦ rw (p.1) refl | inr p ↦ rw (p.1) refl ]

    pub mark_elsewhere : IsStepAt layout g m (after_mark layout a m)
    mark_elsewhere = record {
      blocks = λ h o. filter_map_other (is_at layout h) change (stay h o) (λ b t. place h b ∙ t) m.blocks;
      roots = λ h o. refl;
      states = λ h o. refl;
      sent = λ to h epoch round body s. s;
    }
      where
        stay : (h : ℕ) → h ≢ g → (b : BlockRecord) → is_at layout h b ≡ true → change b ≡ b
        stay h o b t = elim (change_if_cases (λ (b : BlockRecord). is_same b.address a) (given_in (m.states (layout.home a)).epoch) b) [ inl p ↦ absurd (o (sym (eqb-true (layout.home b.address) h t) ∙ ap layout.home (same_from b.address a p.0) ∙ e)) | inr p ↦ p.1 ]

    pub mark_follows : (c : ShardCatalogue) → IsFollowing layout m g c → IsFollowing layout (after_mark layout a m) g (marked_in a c)
    mark_follows c f = record {
      blocks = rw (filter_map_agree (is_at layout g) change change (λ b t. (place g b ∙ t, refl)) (λ b t. place g b ∙ t) m.blocks, e, ← f.epoch) (same_map (change_if (λ b. is_same b.address a) (given_in c.epoch)) c.blocks (blocks_at layout g m.blocks) f.blocks);
      roots = f.roots;
      epoch = f.epoch;
      swept = f.swept;
      round = f.round;
      got = f.got;
    }

  -- a root is put
  module _ (key : List ℕ) (addresses : List Address) where
    pub root_elsewhere : IsStepAt layout g m (after_root g key addresses m)
    root_elsewhere = record {
      blocks = λ h o. refl;
      roots = λ h o. rw (ne_eqb g h (λ q. o (sym q))) refl;
      states = λ h o. refl;
      sent = λ to h epoch round body s. s;
    }

    pub root_follows : (c : ShardCatalogue) → IsFollowing layout m g c → IsFollowing layout (after_root g key addresses m) g (rooted_in g key addresses c)
    root_follows c f = record {
      blocks = f.blocks;
      roots = rw (eq-eqb g g refl, ← f.epoch) (same_cons (new_root g key addresses c.epoch) c.roots (roots_at g m.roots) f.roots);
      epoch = f.epoch;
      swept = f.swept;
      round = f.round;
      got = f.got;
    }

  -- a retained root is dropped
  module _ (key : List ℕ) where
    abbrev goes : RootRecord → Bool
    goes r = is_root_at g r && is_under key r

    abbrev drop : RootRecord → RootRecord
    drop = dropped_in (m.states g).epoch

    root_place : (h : ℕ) (r : RootRecord) → is_root_at h (change_if goes drop r) ≡ is_root_at h r
    root_place h r = elim (change_if_cases goes drop r) [ inl p ↦ rw (p.1) refl | inr p ↦ rw (p.1) refl ]

    pub drop_elsewhere : IsStepAt layout g m (after_drop g key m)
    drop_elsewhere = record {
      blocks = λ h o. refl;
      roots = λ h o. filter_map_other (is_root_at h) (change_if goes drop) (stay h o) (λ r t. root_place h r ∙ t) m.roots;
      states = λ h o. refl;
      sent = λ to h epoch round body s. s;
    }
      where
        stay : (h : ℕ) → h ≢ g → (r : RootRecord) → is_root_at h r ≡ true → change_if goes drop r ≡ r
        stay h o r t = elim (change_if_cases goes drop r) [ inl p ↦ absurd (o (sym (eqb-true r.home h t) ∙ eqb-true r.home g (and_parts (is_root_at g r) (is_under key r) p.0).0)) | inr p ↦ p.1 ]

    pub drop_follows : (c : ShardCatalogue) → IsFollowing layout m g c → IsFollowing layout (after_drop g key m) g (unrooted_in key c)
    drop_follows c f = record {
      blocks = f.blocks;
      roots = rw (own, ← f.epoch) (same_map (change_if (is_under key) (dropped_in c.epoch)) c.roots (roots_at g m.roots) f.roots);
      epoch = f.epoch;
      swept = f.swept;
      round = f.round;
      got = f.got;
    }
      where
        own : roots_at g (map (change_if goes drop) m.roots) ≡ map (change_if (is_under key) drop) (roots_at g m.roots)
        own = filter_map_agree (is_root_at g) (change_if goes drop) (change_if (is_under key) drop) (λ r t. (root_place g r ∙ t, rw t refl)) (λ r t. root_place g r ∙ t) m.roots
