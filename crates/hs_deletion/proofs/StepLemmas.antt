-- A step that changes blocks and roots one by one, in nothing by which they are reached.
use Rattle.std.proofs.Common.{◌≡◌, ◌≢◌, ℕ, ◌-◌, ◌≤◌, ◌<◌, Bool, true, false, ◌⊎◌, inl, inr, refl, sym, ◌∙◌, ap, subst, arith, if◌then◌else◌}
use Rattle.std.proofs.lemmas.Bool.{eqb-true, eqb-false, cases_eq}
use Rattle.hs_limits.specs.declared.address.Address.{Address}
use Rattle.hs_deletion.specs.Reached.{Member}
use Rattle.hs_deletion.specs.Records.{BlockRecord, RootRecord, change_if}
use Rattle.hs_deletion.specs.Machine.{Layout, Machine, is_at, is_root_at, ShardState, set_at}
use Rattle.hs_deletion.specs.Anchors.{IsThere, PointsTo, NotBefore, IsReachedIn}
use Rattle.hs_deletion.specs.Promises.{IsSameBlock}
use Rattle.hs_deletion.specs.Invariants.{IsFounded, HasSupport}
use Rattle.hs_deletion.proofs.SumLemmas.{set_at_self, set_at_other}
use Rattle.hs_deletion.proofs.FoundedLemmas.{founded_fewer}
use Rattle.hs_deletion.proofs.ReachLemmas.{IsRootLike, reached_covered}

-- ---- one of a list

-- what passes is changed, and what does not is as it was
pub change_if_cases : {X : Type 0} (test : X → Bool) (f : X → X) (x : X) → ((test x ≡ true) × (change_if test f x ≡ f x)) ⊎ ((test x ≡ false) × (change_if test f x ≡ x))
change_if_cases {X = X} test f x = go (test x) refl
  where
    go : (t : Bool) → test x ≡ t → ((test x ≡ true) × ((if t then f x else x) ≡ f x)) ⊎ ((test x ≡ false) × ((if t then f x else x) ≡ x))
    go true e = inl (e, refl)
    go false e = inr (e, refl)

-- so where the test is whether it is of a shard
pub changed_at : (layout : Layout) (g : ℕ) (f : BlockRecord → BlockRecord) (b : BlockRecord) → ((layout.home b.address ≡ g) × (change_if (is_at layout g) f b ≡ f b)) ⊎ ((layout.home b.address ≢ g) × (change_if (is_at layout g) f b ≡ b))
changed_at layout g f b = elim (change_if_cases (is_at layout g) f b) [ inl p ↦ inl (eqb-true (layout.home b.address) g p.0, p.1) | inr p ↦ inr (eqb-false (layout.home b.address) g p.0, p.1) ]

pub root_changed_at : (g : ℕ) (f : RootRecord → RootRecord) (r : RootRecord) → ((r.home ≡ g) × (change_if (is_root_at g) f r ≡ f r)) ⊎ ((r.home ≢ g) × (change_if (is_root_at g) f r ≡ r))
root_changed_at g f r = elim (change_if_cases (is_root_at g) f r) [ inl p ↦ inl (eqb-true r.home g p.0, p.1) | inr p ↦ inr (eqb-false r.home g p.0, p.1) ]

-- ---- the states of all shards, where one is set

module _ (g : ℕ) (t : ShardState) (s : ℕ → ShardState) where
  pub state_here : (k : ℕ) → k ≡ g → set_at g t s k ≡ t
  state_here k e = rw e (set_at_self g t s)

  pub state_there : (k : ℕ) → k ≢ g → set_at g t s k ≡ s k
  state_there k o = set_at_other g t s k o

  pub epoch_same : t.epoch ≡ (s g).epoch → (k : ℕ) → (set_at g t s k).epoch ≡ (s k).epoch
  epoch_same e k = elim (cases_eq k g) [ inl q ↦ rw (q, set_at_self g t s) e | inr o ↦ rw (set_at_other g t s k o) refl ]

  pub epoch_more : (s g).epoch ≤ t.epoch → (k : ℕ) → (s k).epoch ≤ (set_at g t s k).epoch
  epoch_more l k = elim (cases_eq k g) [ inl q ↦ rw (q, set_at_self g t s) l | inr o ↦ rw (set_at_other g t s k o) (omega arith) ]

  pub completed_more : (s g).completed ≤ t.completed → (k : ℕ) → (s k).completed ≤ (set_at g t s k).completed
  completed_more l k = elim (cases_eq k g) [ inl q ↦ rw (q, set_at_self g t s) l | inr o ↦ rw (set_at_other g t s k o) (omega arith) ]

-- ---- the same block, and the same root

pub same_as_itself : (b : BlockRecord) → IsSameBlock b b
same_as_itself b = record { address = refl; pointers = refl; born = refl; mark = refl }

pub same_block_back : (b c : BlockRecord) → IsSameBlock b c → IsSameBlock c b
same_block_back b c s = record { address = sym s.address; pointers = sym s.pointers; born = sym s.born; mark = sym s.mark }

pub same_block_on : (b c d : BlockRecord) → IsSameBlock b c → IsSameBlock c d → IsSameBlock b d
same_block_on b c d s t = record { address = s.address ∙ t.address; pointers = s.pointers ∙ t.pointers; born = s.born ∙ t.born; mark = s.mark ∙ t.mark }

-- a change that keeps a block the same keeps it so where it is made by a test
pub same_changed : (test : BlockRecord → Bool) (f : BlockRecord → BlockRecord) → ((b : BlockRecord) → IsSameBlock b (f b)) → (b : BlockRecord) → IsSameBlock b (change_if test f b)
same_changed test f same b = elim (change_if_cases test f b) [ inl p ↦ rw (p.1) (same b) | inr p ↦ rw (p.1) (same_as_itself b) ]

pub record IsSameRoot (r q : RootRecord) : Type 0 where
  pub home : r.home ≡ q.home
  pub addresses : r.addresses ≡ q.addresses
  pub created : r.created ≡ q.created
  pub dropped : r.dropped ≡ q.dropped

pub same_root : (r : RootRecord) → IsSameRoot r r
same_root r = record { home = refl; addresses = refl; created = refl; dropped = refl }

pub same_root_changed : (test : RootRecord → Bool) (f : RootRecord → RootRecord) → ((r : RootRecord) → IsSameRoot r (f r)) → (r : RootRecord) → IsSameRoot r (change_if test f r)
same_root_changed test f same r = elim (change_if_cases test f r) [ inl p ↦ rw (p.1) (same r) | inr p ↦ rw (p.1) (same_root r) ]

-- ---- a step

-- each block and root after the step is one from before, as the step changes it
pub record IsChanged (m n : Machine) (F : BlockRecord → BlockRecord) (H : RootRecord → RootRecord) : Type 0 where
  pub block_same : (b : BlockRecord) → IsSameBlock b (F b)
  pub block_from : (c : BlockRecord) → Member c n.blocks → (b : BlockRecord) × Member b m.blocks × (F b ≡ c)
  pub root_same : (r : RootRecord) → IsSameRoot r (H r)
  pub root_from : (q : RootRecord) → Member q n.roots → (r : RootRecord) × Member r m.roots × (H r ≡ q)

-- what a run reaches, and the roots that count in it, stay
pub record KeepsReached (run : ℕ) (m n : Machine) (F : BlockRecord → BlockRecord) (H : RootRecord → RootRecord) : Type 0 where
  pub block_to : (b : BlockRecord) → Member b m.blocks → IsReachedIn m run b.address → Member (F b) n.blocks
  pub root_to : (r : RootRecord) → Member r m.roots → NotBefore (run - 1) r.dropped → Member (H r) n.roots

module _ (m n : Machine) (F : BlockRecord → BlockRecord) (H : RootRecord → RootRecord) (changed : IsChanged m n F H) where
  -- a fact of each block, or root, after the step
  pub each_block : (P : BlockRecord → Type 0) → ((b : BlockRecord) → Member b m.blocks → P (F b)) → (c : BlockRecord) → Member c n.blocks → P c
  each_block P f c k = let p = changed.block_from c k in rw (← p.2) (f p.0 p.1)

  pub each_root : (P : RootRecord → Type 0) → ((r : RootRecord) → Member r m.roots → P (H r)) → (q : RootRecord) → Member q n.roots → P q
  each_root P f q k = let p = changed.root_from q k in rw (← p.2) (f p.0 p.1)

  -- the block before
  pub block_before : (c : BlockRecord) → Member c n.blocks → (b : BlockRecord) × Member b m.blocks × IsSameBlock b c
  block_before c k = let p = changed.block_from c k in (p.0, p.1, rw p.2 at (changed.block_same p.0))

  pub distinct_changed : ((b c : BlockRecord) → Member b m.blocks → Member c m.blocks → b.address ≡ c.address → b ≡ c) → (b c : BlockRecord) → Member b n.blocks → Member c n.blocks → b.address ≡ c.address → b ≡ c
  distinct_changed distinct b c k l e =
      let p = changed.block_from b k in
      let q = changed.block_from c l in
      let pa : p.0.address ≡ b.address = (block_same_at p.0 b p.2).address in
      let qa : q.0.address ≡ c.address = (block_same_at q.0 c q.2).address in
      let is : p.0 ≡ q.0 = distinct p.0 q.0 p.1 q.1 (pa ∙ e ∙ sym qa) in
      sym p.2 ∙ ap F is ∙ q.2
    where
      block_same_at : (b c : BlockRecord) → F b ≡ c → IsSameBlock b c
      block_same_at b c e = rw e at (changed.block_same b)

  pub homes_changed : (shards : ℕ) → ((r : RootRecord) → Member r m.roots → r.home < shards) → (q : RootRecord) → Member q n.roots → q.home < shards
  homes_changed shards homes = each_root (λ q. q.home < shards) (λ r k. rw (← (changed.root_same r).home) (homes r k))

  pub points_before : (a b : Address) → PointsTo n.blocks a b → PointsTo m.blocks a b
  points_before a b p = let q = block_before p.block p.stands in record { block = q.0; stands = q.1; here = q.2.address ∙ p.here; pointer = rw (q.2.pointers) p.pointer }

  pub founded_changed : ((a : Address) → IsFounded (PointsTo m.blocks) a) → (a : Address) → IsFounded (PointsTo n.blocks) a
  founded_changed founded a = founded_fewer points_before a (founded a)

  -- what is reached after the step was reached before
  pub reached_before : (run : ℕ) (a : Address) → IsReachedIn n run a → IsReachedIn m run a
  reached_before run = reached_covered run n m (record {
    blocks = λ c k r. let q = block_before c k in (q.0, q.1, record { address = sym q.2.address; pointers = sym q.2.pointers; mark = omega (arith, q.2.mark) });
    roots = λ q k d. let p = changed.root_from q k in let s = rw p.2 at (changed.root_same p.0) in (p.0, p.1, like p.0 q s);
  })
    where
      like : (r q : RootRecord) → IsSameRoot r q → IsRootLike (run - 1) q r
      like r q s = record { addresses = sym s.addresses; dropped = λ d. rw (s.dropped) d }

  module _ (run : ℕ) (keeps : KeepsReached run m n F H) where
    -- what was reached in a run that is kept is reached
    pub reached_after : (a : Address) → IsReachedIn m run a → IsReachedIn n run a
    reached_after = reached_covered run m n (record {
      blocks = λ b k r. (F b, keeps.block_to b k r, record { address = (changed.block_same b).address; pointers = (changed.block_same b).pointers; mark = omega (arith, (changed.block_same b).mark) });
      roots = λ r k d. (H r, keeps.root_to r k d, record { addresses = (changed.root_same r).addresses; dropped = λ d. rw (← (changed.root_same r).dropped) d });
    })

    pub there_after : (a : Address) → IsReachedIn m run a → IsThere m.blocks a → IsThere n.blocks a
    there_after a r p = record { block = F p.block; stands = keeps.block_to p.block p.stands (rw (p.here) r); here = rw (← (changed.block_same p.block).address) p.here }

    -- and what was supported is supported, where no block that names it becomes a zero block of the run's epoch
    pub supported_after : (layout : Layout) → ((b : BlockRecord) → Member b m.blocks → IsReachedIn m run b.address → (b.zero ≡ true → (m.states (layout.home b.address)).epoch ≢ run) → (F b).zero ≡ true → (n.states (layout.home b.address)).epoch ≢ run)
        → (a : Address) → IsReachedIn m run a → HasSupport layout m run a → HasSupport layout n run a
    supported_after layout solid a r (inl given) = inl (record {
      block = F given.block;
      stands = keeps.block_to given.block given.stands (rw (given.here) r);
      here = rw (← (changed.block_same given.block).address) given.here;
      since = omega (arith, given.since, (changed.block_same given.block).mark);
    })
    supported_after layout solid a r (inr (inl o)) = inr (inl (record {
      root = H o.root;
      kept = keeps.root_to o.root o.kept o.counts;
      to = rw (← (changed.root_same o.root).addresses) o.to;
      counts = rw (← (changed.root_same o.root).dropped) o.counts;
      old = omega (arith, o.old, (changed.root_same o.root).created);
    }))
    supported_after layout solid a r (inr (inr p)) = inr (inr (record {
      block = F p.block;
      stands = keeps.block_to p.block p.stands p.is_reached;
      pointer = rw (← (changed.block_same p.block).pointers) p.pointer;
      is_reached = rw (← (changed.block_same p.block).address) (reached_after p.block.address p.is_reached);
      born = omega (arith, p.born, (changed.block_same p.block).born);
      solid = rw (← (changed.block_same p.block).address) (solid p.block p.stands p.is_reached p.solid);
    }))

-- a block of another shard was there as it is
pub other_before : (layout : Layout) (g : ℕ) (f : BlockRecord → BlockRecord) (m n : Machine) (H : RootRecord → RootRecord) → IsChanged m n (change_if (is_at layout g) f) H → (c : BlockRecord) → Member c n.blocks → layout.home c.address ≢ g → Member c m.blocks
other_before layout g f m n H changed c k o =
    let p = changed.block_from c k in
    elim (changed_at layout g f p.0) [
      | inl h ↦ absurd (o (ap (λ (x : BlockRecord). layout.home x.address) (sym p.2) ∙ ap layout.home (sym (changed.block_same p.0).address) ∙ h.0))
      | inr q ↦ subst (λ (x : BlockRecord). Member x m.blocks) (sym q.1 ∙ p.2) p.1
    ]
