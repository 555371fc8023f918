-- What names an address, and counts where a step changes blocks one by one.
use Rattle.std.proofs.Common.{◌≡◌, ℕ, ◌+◌, ◌<◌, Bool, true, false, not, ◌&&◌, List, [], ◌∷◌, ◌⊎◌, inl, inr, refl, sym, ◌∙◌, arith, if◌then◌else◌, sum_by}
use Rattle.std.proofs.lemmas.Bool.{cases_Bool, false≢true}
use Rattle.hs_limits.specs.declared.address.Address.{Address}
use Rattle.hs_model.specs.Reach.{is_same}
use Rattle.hs_model.proofs.Members.{same-refl, same_from}
use Rattle.hs_deletion.specs.Reached.{Member}
use Rattle.hs_deletion.specs.Records.{BlockRecord, RootRecord}
use Rattle.hs_deletion.specs.Machine.{Layout, Machine}
use Rattle.hs_deletion.specs.Rounds.{times}
use Rattle.hs_deletion.specs.Anchors.{IsThere}
use Rattle.hs_deletion.specs.Counts.{block_weight, root_weight, indegree, IsCount, AreCountsRight}
use Rattle.hs_deletion.proofs.SumLemmas.{part_of_sum_by, some_of_sum_by}
use Rattle.hs_deletion.proofs.RoundLemmas.{times_member, member_of_times}
use Rattle.hs_deletion.proofs.StepLemmas.{IsChanged, each_block}

-- present or not
pub there_or_not : (blocks : List BlockRecord) (a : Address) → IsThere blocks a ⊎ (¬ IsThere blocks a)
there_or_not [] a = inr (λ p. elim p.stands [ ])
there_or_not (b ∷ bs) a = elim (cases_Bool (is_same b.address a)) [
  | inl y ↦ inl (record { block = b; stands = inl refl; here = same_from b.address a y })
  | inr n ↦ elim (there_or_not bs a) [
    | inl p ↦ inl (record { block = p.block; stands = inr p.stands; here = p.here })
    | inr q ↦ inr (λ p. elim p.stands [ inl e ↦ false≢true (sym n ∙ same b.address (rw e at p.here)) | inr m ↦ q (record { block = p.block; stands = m; here = p.here }) ])
  ]
]
  where
    same : (c : Address) → c ≡ a → is_same c a ≡ true
    same c e = rw e (same-refl a)

-- ---- the weight of one

pub weight_counted : (a : Address) (b : BlockRecord) → b.counted ≡ true → b.zero ≡ false → block_weight a b ≡ times a b.pointers
unfolding block_weight
weight_counted a b c z = rw (c, z) refl

pub weight_uncounted : (a : Address) (b : BlockRecord) → b.counted ≡ false → block_weight a b ≡ 0
unfolding block_weight
weight_uncounted a b c = rw c refl

pub weight_zero : (a : Address) (b : BlockRecord) → b.zero ≡ true → block_weight a b ≡ 0
unfolding block_weight
weight_zero a b z = rw z (go b.counted)
  where
    go : (c : Bool) → (if c && not true then times a b.pointers else 0) ≡ 0
    go true = refl
    go false = refl

weight_some : (a : Address) (b : BlockRecord) → 0 < block_weight a b → (b.counted ≡ true) × (b.zero ≡ false) × Member a b.pointers
unfolding block_weight
weight_some a b h = go b.counted refl b.zero refl h
  where
    go : (c : Bool) → b.counted ≡ c → (z : Bool) → b.zero ≡ z → 0 < (if c && not z then times a b.pointers else 0) → (b.counted ≡ true) × (b.zero ≡ false) × Member a b.pointers
    go true e true f h = absurd (omega arith)
    go true e false f h = (e, f, member_of_times a b.pointers h)
    go false e z f h = absurd (omega arith)

pub root_weight_counted : (a : Address) (r : RootRecord) → r.counted ≡ true → root_weight a r ≡ times a r.addresses
unfolding root_weight
root_weight_counted a r c = rw c refl

pub root_weight_uncounted : (a : Address) (r : RootRecord) → r.counted ≡ false → root_weight a r ≡ 0
unfolding root_weight
root_weight_uncounted a r c = rw c refl

root_weight_some : (a : Address) (r : RootRecord) → 0 < root_weight a r → (r.counted ≡ true) × Member a r.addresses
unfolding root_weight
root_weight_some a r h = go r.counted refl h
  where
    go : (c : Bool) → r.counted ≡ c → 0 < (if c then times a r.addresses else 0) → (r.counted ≡ true) × Member a r.addresses
    go true e h = (e, member_of_times a r.addresses h)
    go false e h = absurd (omega arith)

-- ---- what names an address

pub named_by_block : (m : Machine) (a : Address) (b : BlockRecord) → Member b m.blocks → b.counted ≡ true → b.zero ≡ false → Member a b.pointers → 0 < indegree m a
unfolding indegree
named_by_block m a b k c z p = omega (arith, part_of_sum_by (block_weight a) m.blocks b k, weight_counted a b c z, times_member a b.pointers p)

pub named_by_root : (m : Machine) (a : Address) (r : RootRecord) → Member r m.roots → r.counted ≡ true → Member a r.addresses → 0 < indegree m a
unfolding indegree
named_by_root m a r k c p = omega (arith, part_of_sum_by (root_weight a) m.roots r k, root_weight_counted a r c, times_member a r.addresses p)

pub record IsNamingBlock (m : Machine) (a : Address) : Type 0 where
  pub block : BlockRecord
  pub stands : Member block m.blocks
  pub counted : block.counted ≡ true
  pub nonzero : block.zero ≡ false
  pub pointer : Member a block.pointers

pub record IsNamingRoot (m : Machine) (a : Address) : Type 0 where
  pub root : RootRecord
  pub kept : Member root m.roots
  pub counted : root.counted ≡ true
  pub to : Member a root.addresses

-- what is named is named by some block or some root
pub naming : (m : Machine) (a : Address) → 0 < indegree m a → IsNamingRoot m a ⊎ IsNamingBlock m a
unfolding indegree
naming m a h = elim (either (sum_by (block_weight a) m.blocks) (sum_by (root_weight a) m.roots) h) [
  | inl l ↦ (let c = some_of_sum_by (block_weight a) m.blocks l in let t = weight_some a c.0 c.2 in inr (record { block = c.0; stands = c.1; counted = t.0; nonzero = t.1; pointer = t.2 }))
  | inr l ↦ (let c = some_of_sum_by (root_weight a) m.roots l in let t = root_weight_some a c.0 c.2 in inl (record { root = c.0; kept = c.1; counted = t.0; to = t.1 }))
]
  where
    either : (x y : ℕ) → 0 < x + y → (0 < x) ⊎ (0 < y)
    either x y h = grind arith

-- ---- counts after a step

-- where each count is right after the step, and so is 0 for what is then absent
pub counts_changed : (layout : Layout) (m n : Machine) (F : BlockRecord → BlockRecord) (H : RootRecord → RootRecord) → IsChanged m n F H → AreCountsRight layout m
    → ((b : BlockRecord) → Member b m.blocks → IsCount layout m b.address b.count → IsCount layout n b.address (F b).count)
    → ((a : Address) → ¬ IsThere n.blocks a → IsCount layout n a 0)
    → AreCountsRight layout n
counts_changed layout m n F H changed counts step gone = record {
  present = each_block m n F H changed (λ c. IsCount layout n c.address c.count) (λ b k. rw (← (changed.block_same b).address) (step b k (counts.present b k)));
  absent = gone;
}

-- where all blocks stay, what is absent after the step was absent
pub absent_before : (m n : Machine) (F : BlockRecord → BlockRecord) (H : RootRecord → RootRecord) → IsChanged m n F H → ((b : BlockRecord) → Member b m.blocks → Member (F b) n.blocks) → (a : Address) → ¬ IsThere n.blocks a → ¬ IsThere m.blocks a
absent_before m n F H changed stay a none p = none (record { block = F p.block; stands = stay p.block p.stands; here = rw (← (changed.block_same p.block).address) p.here })
