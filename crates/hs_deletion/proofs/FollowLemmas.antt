-- What was sent stays sent, and a step at one shard leaves what the others' catalogues follow.
use Rattle.std.proofs.Common.{◌≡◌, ◌≢◌, ℕ, ◌+◌, ◌≤◌, ◌<◌, true, false, List, inl, inr, refl, sym, ◌∙◌, ap, arith, map}
use Rattle.std.proofs.lemmas.Bool.{cases_eq, eqb-true}
use Rattle.hs_deletion.specs.Records.{BlockRecord, RootRecord, change_if}
use Rattle.hs_deletion.specs.Machine.{Layout, Round, ShardState, Machine, set_at, is_at, is_root_at}
use Rattle.hs_deletion.specs.Steps.{blocks_at, roots_at}
use Rattle.hs_deletion.specs.Clocks.{label_of, AreClocksRight}
use Rattle.hs_deletion.specs.Catalogue.{ShardCatalogue}
use Rattle.hs_deletion.specs.Following.{IsSent, IsFollowing, AreFollowing}
use Rattle.hs_deletion.proofs.SumLemmas.{set_at_self, set_at_other}
use Rattle.hs_deletion.proofs.SentLemmas.{other_rounds, labels_stay, same_rounds, labels_same}
use Rattle.hs_deletion.proofs.StepLemmas.{changed_at, root_changed_at}
use Rattle.hs_deletion.proofs.SameLemmas.{filter_map_other, filter_map_agree}

-- ---- what was sent

-- a round that was sent under a label and says the same is sent under it
sent_on : (layout : Layout) (s t : ℕ → ShardState) (to h epoch round : ℕ) (body : Round) (sent : IsSent layout s to h epoch round body) → sent.row < (t h).sent → label_of layout t sent.row ≡ label_of layout s sent.row → (t h).rounds sent.row ≡ (s h).rounds sent.row → IsSent layout t to h epoch round body
sent_on layout s t to h epoch round body sent l same rounds = record {
  within = sent.within;
  row = sent.row;
  sent = l;
  of_epoch = rw same sent.of_epoch;
  of_round = rw same sent.of_round;
  raises = λ a e. rw rounds (sent.raises a e);
  lowers = λ a e. rw rounds (sent.lowers a e);
  total = rw rounds sent.total;
}

module _ (layout : Layout) (s : ℕ → ShardState) (clocks : AreClocksRight layout s) (g : ℕ) (lg : g < layout.shards) (t : ShardState) where
  -- where a shard sends one round more
  pub sent_more : (r : Round) → t.sent ≡ (s g).sent + 1 → t.rounds ≡ set_at (s g).sent r (s g).rounds → (to h epoch round : ℕ) (body : Round) → IsSent layout s to h epoch round body → IsSent layout (set_at g t s) to h epoch round body
  sent_more r more rounds to h epoch round body sent = sent_on layout s (set_at g t s) to h epoch round body sent
      (elim (cases_eq h g) [ inl e ↦ rw (e, set_at_self g t s) (let l : sent.row < (s g).sent = rw e at sent.sent in omega (arith, l, more)) | inr o ↦ rw (set_at_other g t s h o) sent.sent ])
      (labels_stay layout s clocks g lg r t more rounds sent.row low)
      (elim (cases_eq h g) [
        | inl e ↦ (let l : sent.row < (s g).sent = rw e at sent.sent in other_rounds layout s clocks g lg r t more rounds h sent.row (omega (arith, l)))
        | inr o ↦ ap (λ (x : ShardState). x.rounds sent.row) (set_at_other g t s h o)
      ])
    where
      low : sent.row ≤ (s g).sent
      low = let come = (clocks h sent.within).come g lg in elim (clocks h sent.within).phase [ inl p ↦ omega (arith, p.ahead, sent.sent, come) | inr p ↦ omega (arith, p.level, sent.sent, come) ]

  -- where it sends nothing
  pub sent_same : t.sent ≡ (s g).sent → t.rounds ≡ (s g).rounds → (to h epoch round : ℕ) (body : Round) → IsSent layout s to h epoch round body → IsSent layout (set_at g t s) to h epoch round body
  sent_same same rounds to h epoch round body sent = sent_on layout s (set_at g t s) to h epoch round body sent
      (elim (cases_eq h g) [ inl e ↦ rw (e, set_at_self g t s) (let l : sent.row < (s g).sent = rw e at sent.sent in omega (arith, l, same)) | inr o ↦ rw (set_at_other g t s h o) sent.sent ])
      (labels_same layout s clocks g lg t same rounds sent.row)
      (same_rounds layout s clocks g lg t same rounds h sent.row)

-- ---- a step at one shard

-- for the other shards all is as it was, and what was sent stays sent
pub record IsStepAt (layout : Layout) (g : ℕ) (m n : Machine) : Type 0 where
  pub blocks : (h : ℕ) → h ≢ g → blocks_at layout h n.blocks ≡ blocks_at layout h m.blocks
  pub roots : (h : ℕ) → h ≢ g → roots_at h n.roots ≡ roots_at h m.roots
  pub states : (h : ℕ) → h ≢ g → n.states h ≡ m.states h
  pub sent : (to h epoch round : ℕ) (body : Round) → IsSent layout m.states to h epoch round body → IsSent layout n.states to h epoch round body

-- so the catalogues follow, if that of the shard does
pub all_follow : (layout : Layout) (g : ℕ) (m n : Machine) (catalogues : ℕ → ShardCatalogue) (c : ShardCatalogue) → IsStepAt layout g m n → AreFollowing layout m catalogues → IsFollowing layout n g c → AreFollowing layout n (set_at g c catalogues)
all_follow layout g m n catalogues c step follow own h lh = elim (cases_eq h g) [
  | inl e ↦ rw (e, set_at_self g c catalogues) own
  | inr o ↦ rw (set_at_other g c catalogues h o) (other (follow h lh) o)
]
  where
    other : IsFollowing layout m h (catalogues h) → h ≢ g → IsFollowing layout n h (catalogues h)
    other f o = record {
      blocks = rw (step.blocks h o) f.blocks;
      roots = rw (step.roots h o) f.roots;
      epoch = rw (step.states h o) f.epoch;
      swept = rw (step.states h o) f.swept;
      round = rw (step.states h o) f.round;
      got = λ sender epoch round body e. step.sent h sender epoch round body (f.got sender epoch round body e);
    }

-- ---- blocks and roots of one shard, after a change of those of another or of its own

module _ (layout : Layout) (g : ℕ) (f : BlockRecord → BlockRecord) (same : (b : BlockRecord) → (f b).address ≡ b.address) where
  at_same : (h : ℕ) (b c : BlockRecord) → c.address ≡ b.address → is_at layout h c ≡ is_at layout h b
  at_same h b c e = rw e refl

  pub blocks_elsewhere : (h : ℕ) → h ≢ g → (blocks : List BlockRecord) → blocks_at layout h (map (change_if (is_at layout g) f) blocks) ≡ blocks_at layout h blocks
  blocks_elsewhere h o = filter_map_other (is_at layout h) (change_if (is_at layout g) f) stay leave
    where
      stay : (b : BlockRecord) → is_at layout h b ≡ true → change_if (is_at layout g) f b ≡ b
      stay b t = elim (changed_at layout g f b) [ inl p ↦ absurd (o (sym (eqb-true (layout.home b.address) h t) ∙ p.0)) | inr p ↦ p.1 ]

      leave : (b : BlockRecord) → is_at layout h b ≡ false → is_at layout h (change_if (is_at layout g) f b) ≡ false
      leave b t = elim (changed_at layout g f b) [ inl p ↦ rw (p.1) (at_same h b (f b) (same b) ∙ t) | inr p ↦ rw (p.1) t ]

  -- where it is another change for the shard's own
  pub blocks_here : (G : BlockRecord → BlockRecord) → ((b : BlockRecord) → layout.home b.address ≡ g → f b ≡ G b) → (blocks : List BlockRecord) → blocks_at layout g (map (change_if (is_at layout g) f) blocks) ≡ map G (blocks_at layout g blocks)
  blocks_here G agree = filter_map_agree (is_at layout g) (change_if (is_at layout g) f) G stay leave
    where
      stay : (b : BlockRecord) → is_at layout g b ≡ true → (is_at layout g (change_if (is_at layout g) f b) ≡ true) × (change_if (is_at layout g) f b ≡ G b)
      stay b t = rw t (at_same g b (f b) (same b) ∙ t, agree b (eqb-true (layout.home b.address) g t))

      leave : (b : BlockRecord) → is_at layout g b ≡ false → is_at layout g (change_if (is_at layout g) f b) ≡ false
      leave b t = rw t t

module _ (g : ℕ) (f : RootRecord → RootRecord) (same : (r : RootRecord) → (f r).home ≡ r.home) where
  pub roots_elsewhere : (h : ℕ) → h ≢ g → (roots : List RootRecord) → roots_at h (map (change_if (is_root_at g) f) roots) ≡ roots_at h roots
  roots_elsewhere h o = filter_map_other (is_root_at h) (change_if (is_root_at g) f) stay leave
    where
      stay : (r : RootRecord) → is_root_at h r ≡ true → change_if (is_root_at g) f r ≡ r
      stay r t = elim (root_changed_at g f r) [ inl p ↦ absurd (o (sym (eqb-true r.home h t) ∙ p.0)) | inr p ↦ p.1 ]

      leave : (r : RootRecord) → is_root_at h r ≡ false → is_root_at h (change_if (is_root_at g) f r) ≡ false
      leave r t = elim (root_changed_at g f r) [ inl p ↦ rw (p.1, same r) t | inr p ↦ rw (p.1) t ]

  pub roots_here : (roots : List RootRecord) → roots_at g (map (change_if (is_root_at g) f) roots) ≡ map f (roots_at g roots)
  roots_here = filter_map_agree (is_root_at g) (change_if (is_root_at g) f) f (λ r t. rw t (rw (same r) t, refl)) (λ r t. rw t t)
