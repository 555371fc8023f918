-- A client's entry as a step: what it gives, puts and drops, and what is reached after it.
use Rattle.std.proofs.Common.{◌≡◌, ℕ, ◌+◌, ◌-◌, ◌≤◌, ◌<◌, false, ◌⊎◌, inl, inr, refl, sym, ◌∙◌, arith, Some, None}
use Rattle.hs_limits.specs.declared.address.Address.{Address}
use Rattle.hs_model.proofs.ReachLemmas.{Reached-each}
use Rattle.hs_model.proofs.ReachLemmas.Reached.{start, onward}
use Rattle.hs_deletion.specs.Reached.{Member}
use Rattle.hs_deletion.specs.Records.{BlockRecord, RootRecord}
use Rattle.hs_deletion.specs.Machine.{Layout, Machine}
use Rattle.hs_deletion.specs.Anchors.{IsThere, PointsTo, NotBefore, IsAnchor, IsReachedIn}
use Rattle.hs_deletion.specs.Counts.{indegree}
use Rattle.hs_deletion.proofs.ReachLemmas.{reached_earlier, reached_covered}

-- a block but for a later mark
pub record IsKeptBlock (b c : BlockRecord) : Type 0 where
  pub address : b.address ≡ c.address
  pub pointers : b.pointers ≡ c.pointers
  pub born : b.born ≡ c.born
  pub counted : b.counted ≡ c.counted
  pub is_zero : b.zero ≡ c.zero
  pub count : b.count ≡ c.count
  pub mark : b.mark ≤ c.mark

-- a root but for its drop in this epoch, at this shard
pub record IsKeptRoot (g now : ℕ) (q r : RootRecord) : Type 0 where
  pub home : q.home ≡ r.home
  pub addresses : q.addresses ≡ r.addresses
  pub created : q.created ≡ r.created
  pub counted : q.counted ≡ r.counted
  pub dropped : (q.dropped ≡ r.dropped) ⊎ (q.home ≡ g) × (q.dropped ≡ None) × (r.dropped ≡ Some now)

-- a root that counted in a run up to the one above this epoch counts there, and one that counts there did
pub kept_root_counts : (g now k : ℕ) (q r : RootRecord) → IsKeptRoot g now q r → k ≤ now → NotBefore k q.dropped → NotBefore k r.dropped
kept_root_counts g now k q r s le d = elim s.dropped [ inl e ↦ rw e at d | inr e ↦ rw (e.2) (omega (arith, le)) ]

pub kept_root_counted : (g now k : ℕ) (q r : RootRecord) → IsKeptRoot g now q r → NotBefore k r.dropped → NotBefore k q.dropped
kept_root_counted g now k q r s d = elim s.dropped [ inl e ↦ rw e d | inr e ↦ rw (e.1) tt ]

module _ (layout : Layout) where
  -- a block given at a shard, whose pointers are backed there
  pub record IsGiven (m : Machine) (g : ℕ) (c : BlockRecord) : Type 0 where
    pub here : layout.home c.address ≡ g
    pub mark : c.mark ≡ (m.states g).epoch
    pub backed : (p : Address) → Member p c.pointers → IsReachedIn m (m.states g).epoch p

  pub record IsStored (m : Machine) (g : ℕ) (a : Address) (c : BlockRecord) : Type 0 where
    pub given : IsGiven m g c
    pub address : c.address ≡ a
    pub absent : ¬ IsThere m.blocks a
    pub born : c.born ≡ (m.states g).epoch
    pub counted : c.counted ≡ false
    pub nonzero : c.zero ≡ false
    pub none : c.count ≡ 0

  pub record IsPut (m : Machine) (g : ℕ) (r : RootRecord) : Type 0 where
    pub here : r.home ≡ g
    pub created : r.created ≡ (m.states g).epoch
    pub counted : r.counted ≡ false
    pub dropped : r.dropped ≡ None
    pub backed : (a : Address) → Member a r.addresses → IsReachedIn m (m.states g).epoch a

  -- a client's entry at a shard, which stores at most the block of one address
  pub record IsClients (m : Machine) (g : ℕ) (a : Address) (n : Machine) : Type 0 where
    pub within : g < layout.shards
    pub block_from : (c : BlockRecord) → Member c n.blocks → ((b : BlockRecord) × Member b m.blocks × IsKeptBlock b c × ((b.mark ≡ c.mark) ⊎ IsGiven m g c)) ⊎ IsStored m g a c
    pub block_to : (b : BlockRecord) → Member b m.blocks → (c : BlockRecord) × Member c n.blocks × IsKeptBlock b c
    pub root_from : (r : RootRecord) → Member r n.roots → ((q : RootRecord) × Member q m.roots × IsKeptRoot g (m.states g).epoch q r) ⊎ IsPut m g r
    pub root_to : (q : RootRecord) → Member q m.roots → (r : RootRecord) × Member r n.roots × IsKeptRoot g (m.states g).epoch q r
    pub distinct : (b c : BlockRecord) → Member b n.blocks → Member c n.blocks → b.address ≡ c.address → b ≡ c
    pub same_indegree : (x : Address) → indegree n x ≡ indegree m x

  module _ (m : Machine) (g : ℕ) (a : Address) (n : Machine) (step : IsClients m g a n) where
    abbrev now : ℕ
    now = (m.states g).epoch

    -- nothing that was reached is lost
    pub reached_later : (run : ℕ) → run ≤ now + 1 → (x : Address) → IsReachedIn m run x → IsReachedIn n run x
    reached_later run le = reached_covered run m n (record {
      blocks = λ b k r. (let c = step.block_to b k in (c.0, c.1, record { address = c.2.address; pointers = c.2.pointers; mark = c.2.mark }));
      roots = λ q k d. (let r = step.root_to q k in (r.0, r.1, record { addresses = r.2.addresses; dropped = λ h. kept_root_counts g now (run - 1) q r.0 r.2 (omega (arith, le)) h }));
    })

    -- the address of a block that this entry gave
    pub record IsFresh (x : Address) : Type 0 where
      pub block : BlockRecord
      pub stands : Member block n.blocks
      pub here : block.address ≡ x
      pub mark : now ≤ block.mark
      pub backed : (p : Address) → Member p block.pointers → IsReachedIn m now p

    -- in runs up to this epoch nothing else is reached anew
    pub reached_or_fresh : (run : ℕ) → run ≤ now → (x : Address) → IsReachedIn n run x → IsReachedIn m run x ⊎ IsFresh x
    reached_or_fresh run le = Reached-each (λ x. IsReachedIn m run x ⊎ IsFresh x) from_anchor (λ x y r q p. inl (from_arrow x y q p))
      where
        fresh : (c : BlockRecord) → Member c n.blocks → IsGiven m g c → IsFresh c.address
        fresh c k t = record { block = c; stands = k; here = refl; mark = omega (arith, t.mark); backed = t.backed }

        from_anchor : (x : Address) → IsAnchor n run x → IsReachedIn m run x ⊎ IsFresh x
        from_anchor x (inl given) = elim (step.block_from given.block given.stands) [
          | inr s ↦ inr (rw (given.here) at (fresh given.block given.stands s.given))
          | inl o ↦ elim o.3 [
            | inl same ↦ inl (start (inl (record { block = o.0; stands = o.1; here = o.2.address ∙ given.here; since = omega (arith, given.since, same) })))
            | inr t ↦ inr (rw (given.here) at (fresh given.block given.stands t))
          ]
        ]
        from_anchor x (inr r) = elim (step.root_from r.root r.kept) [
          | inr p ↦ inl (reached_earlier m run now le x (p.backed x r.to))
          | inl o ↦ inl (start (inr (record { root = o.0; kept = o.1; to = rw (o.2.addresses) r.to; counts = kept_root_counted g now (run - 1) o.0 r.root o.2 r.counts })))
        ]

        from_arrow : (x y : Address) → IsReachedIn m run x ⊎ IsFresh x → PointsTo n.blocks x y → IsReachedIn m run y
        from_arrow x y (inr f) p =
            let is : p.block ≡ f.block = step.distinct p.block f.block p.stands f.stands (p.here ∙ sym f.here) in
            reached_earlier m run now le y (f.backed y (rw is at p.pointer))
        from_arrow x y (inl r) p = elim (step.block_from p.block p.stands) [
          | inr s ↦ reached_earlier m run now le y (s.given.backed y p.pointer)
          | inl o ↦ onward r (record { block = o.0; stands = o.1; here = o.2.address ∙ p.here; pointer = rw (o.2.pointers) p.pointer })
        ]

    -- an arrow after the step was there, or goes from the stored block to what is reached
    pub arrow_before : (x y : Address) → PointsTo n.blocks x y → PointsTo m.blocks x y ⊎ (x ≡ a) × IsReachedIn m now y × (¬ IsThere m.blocks a)
    arrow_before x y p = elim (step.block_from p.block p.stands) [
      | inr s ↦ inr (sym p.here ∙ s.address, s.given.backed y p.pointer, s.absent)
      | inl o ↦ inl (record { block = o.0; stands = o.1; here = o.2.address ∙ p.here; pointer = rw (o.2.pointers) p.pointer })
    ]

    pub there_later : (x : Address) → IsThere m.blocks x → IsThere n.blocks x
    there_later x p = let c = step.block_to p.block p.stands in record { block = c.0; stands = c.1; here = sym c.2.address ∙ p.here }
