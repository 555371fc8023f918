-- What is reached, where blocks and roots come and go.
use Rattle.std.proofs.Common.{◌≡◌, ℕ, ◌-◌, ◌≤◌, inl, inr, refl, arith, Option, Some, None}
use Rattle.hs_limits.specs.declared.address.Address.{Address}
use Rattle.hs_model.proofs.ReachLemmas.{Reached-each}
use Rattle.hs_model.proofs.ReachLemmas.Reached.{start, onward}
use Rattle.hs_deletion.specs.Reached.{Member, Reached}
use Rattle.hs_deletion.specs.Records.{BlockRecord, RootRecord}
use Rattle.hs_deletion.specs.Machine.{Machine}
use Rattle.hs_deletion.specs.Anchors.{NotBefore, IsReachedIn}

-- ---- along any arrows

module _ {A : Type 0} {S : A → Type 0} {P : A → A → Type 0} {T : A → Type 0} {R : A → A → Type 0} where
  -- the starts, and the arrows from reached places, are enough
  pub reached_along : ((a : A) → S a → Reached T R a) → ((a b : A) → Reached S P a → P a b → R a b) → (x : A) → Reached S P x → Reached T R x
  reached_along s p = Reached-each (Reached T R) s (λ a b r q h. onward q (p a b r h))

  -- more starts and more arrows reach more
  pub reached_more : ((a : A) → S a → T a) → ((a b : A) → P a b → R a b) → (x : A) → Reached S P x → Reached T R x
  reached_more s p = reached_along (λ a h. start (s a h)) (λ a b r h. p a b h)

-- ---- in runs

pub not_before_less : (k l : ℕ) (d : Option ℕ) → k ≤ l → NotBefore l d → NotBefore k d
not_before_less k l None le n = tt
not_before_less k l (Some d) le n = omega (arith, n)

-- an earlier run reaches more
pub reached_earlier : (m : Machine) (k l : ℕ) → k ≤ l → (a : Address) → IsReachedIn m l a → IsReachedIn m k a
reached_earlier m k l le = reached_more
    (λ a h. elim h [
      | inl g ↦ inl (record { block = g.block; stands = g.stands; here = g.here; since = omega (arith, g.since) })
      | inr r ↦ inr (record { root = r.root; kept = r.kept; to = r.to; counts = not_before_less (k - 1) (l - 1) r.root.dropped (omega arith) r.counts })
    ])
    (λ a b p. p)

-- one block for another, as far as what is reached goes
pub record IsLike (b c : BlockRecord) : Type 0 where
  pub address : b.address ≡ c.address
  pub pointers : b.pointers ≡ c.pointers
  pub mark : b.mark ≤ c.mark

pub record IsRootLike (epoch : ℕ) (r q : RootRecord) : Type 0 where
  pub addresses : r.addresses ≡ q.addresses
  pub dropped : NotBefore epoch r.dropped → NotBefore epoch q.dropped

-- each reached block of a machine, and each root that counts in the run, has its like in the other
pub record Covers (run : ℕ) (m n : Machine) : Type 0 where
  pub blocks : (b : BlockRecord) → Member b m.blocks → IsReachedIn m run b.address → (c : BlockRecord) × Member c n.blocks × IsLike b c
  pub roots : (r : RootRecord) → Member r m.roots → NotBefore (run - 1) r.dropped → (q : RootRecord) × Member q n.roots × IsRootLike (run - 1) r q

-- what is reached there is reached here
pub reached_covered : (run : ℕ) (m n : Machine) → Covers run m n → (a : Address) → IsReachedIn m run a → IsReachedIn n run a
reached_covered run m n covers = reached_along
    (λ a h. elim h [
      | inl g ↦ (let k = covers.blocks g.block g.stands (start (inl (record { block = g.block; stands = g.stands; here = refl; since = g.since }))) in start (inl (record { block = k.0; stands = k.1; here = rw (← k.2.address) g.here; since = omega (arith, k.2.mark, g.since) })))
      | inr r ↦ (let k = covers.roots r.root r.kept r.counts in start (inr (record { root = k.0; kept = k.1; to = rw (← k.2.addresses) r.to; counts = k.2.dropped r.counts })))
    ])
    (λ a b r p. let k = covers.blocks p.block p.stands (rw p.here r) in record { block = k.0; stands = k.1; here = rw (← k.2.address) p.here; pointer = rw (← k.2.pointers) p.pointer })
