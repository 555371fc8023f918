-- The log of a shard is taken from what is kept of its peer's disk.
use Rattle.std.proofs.Common.{◌≡◌, ◌≢◌, ◌∙◌, ap, sym, subst, inl, inr, ℕ, List, [], Option, Some, None, refl}
use Rattle.std.proofs.lemmas.Bool.{cases_eq}
use Rattle.std.specs.Prelude.{Err, IfOk, Ok, OnOk, Result}
use Rattle.hs_fold.specs.Shards.Setting.{Numbered}
use Rattle.hs_limits.specs.declared.shape.Shape.{Shape}
use Rattle.hs_peerlog.specs.Views.{Viewing}
use Rattle.hs_shard.specs.Facts.{Catalogue}
use Rattle.hs_side.specs.Current.{list_in}
use Rattle.hs_taking.proofs.TakeLemmas.{empty_rank}
use Rattle.hs_taking.specs.Copies.{IsOf}
use Rattle.hs_taking.specs.declared.fault.TakeFault.{TakeFault}
use Rattle.hs_taking.specs.declared.shares.Share.{Share}
use Rattle.hs_taking.specs.declared.slot.Slot.{Slot}
use Rattle.hs_taking.specs.declared.slot.Slot.TheVariants.{Aside, Viewed, Equal, Kept}
use Rattle.hs_taking.specs.Disks.{DiskSeen, seen_at}
use Rattle.hs_taking.specs.Evens.{AreEvened, AreMoved, IsEvenedAs, IsFresh, IsMovedAs, TakesFrom, TakesShard, TakesView, viewed_of}
use Rattle.hs_taking.specs.Slots.{IsSlot, slot_at}

-- ---- whether there is a view

pub viewed_is : (slot : Slot) (view : Viewing) → viewed_of slot ≡ Some view → slot ≡ Viewed view
viewed_is Aside view e = cc e
viewed_is (Viewed other) view e = ap (λ v. Viewed v) (same other view e)
  where
    same : (x y : Viewing) → Some x ≡ Some y → x ≡ y
    same x y e = cc e
viewed_is (Equal other) view e = cc e
viewed_is (Kept log) view e = cc e

pub none_viewed : (view : Viewing) → None ≡ Some view → ⊥
none_viewed view e = cc e

pub aside_is : (slot : Slot) → IsFresh slot → viewed_of slot ≡ None → slot ≡ Aside
aside_is Aside fresh e = refl
aside_is (Viewed view) fresh e = cc e
aside_is (Equal view) fresh e = absurd fresh
aside_is (Kept log) fresh e = absurd fresh

-- ---- the slot of the taken log is emptied first

module _ (tells : Type 0) (shape : Shape) (shard from before now : ℕ) (old new : List DiskSeen) (slots bare : List Slot) (home : IsOf shape shard from) (there : (peer : ℕ) → peer ≢ from → slot_at bare peer ≡ slot_at slots peer) (here : slot_at bare from ≡ Aside) where
  abbrev Has : Numbered → Type 0
  Has list = list_in (seen_at old from).stands.seen ≡ Some list

  pub bare_viewed : ((other : ℕ) → IsOf shape shard other → IsSlot tells shape other (seen_at old other) (slot_at slots other)) → (other : ℕ) → IsOf shape shard other → IsSlot tells shape other (seen_at old other) (slot_at bare other)
  bare_viewed views other of = elim (cases_eq other from) [
    | inl same ↦ subst (λ (s : Slot). IsSlot tells shape other (seen_at old other) s) (sym (ap (λ p. slot_at bare p) same ∙ here)) tt
    | inr differs ↦ subst (λ (s : Slot). IsSlot tells shape other (seen_at old other) s) (sym (there other differs)) (views other of)
  ]

  pub bare_fresh : ((other : ℕ) → IsOf shape shard other → IsFresh (slot_at slots other)) → (other : ℕ) → IsOf shape shard other → IsFresh (slot_at bare other)
  bare_fresh fresh other of = elim (cases_eq other from) [
    | inl same ↦ subst (λ (s : Slot). IsFresh s) (sym (ap (λ p. slot_at bare p) same ∙ here)) tt
    | inr differs ↦ subst (λ (s : Slot). IsFresh s) (sym (there other differs)) (fresh other of)
  ]

  pub bare_moved : AreMoved tells shape shard from before now old new bare → AreMoved tells shape shard from before now old new slots
  bare_moved moved = record {
    each = λ peer of differs. subst (λ (s : Slot). IsMovedAs tells before now (seen_at old peer) (seen_at new peer) Has s) (there peer differs) (moved.each peer of differs);
    disk = moved.disk;
    outside = moved.outside;
  }

  bare_evened : (after : List Slot) (lost : Option ℕ) → AreEvened tells shape shard from before now old new bare after lost → AreEvened tells shape shard from before now old new slots after lost
  bare_evened after lost all = record {
    each = λ peer of differs. subst (λ (s : Slot). IsEvenedAs tells before now (seen_at old peer) (seen_at new peer) Has s (slot_at after peer) lost) (there peer differs) (all.each peer of differs);
    taken = all.taken;
    disk = all.disk;
  }

  outside_of : (peer : ℕ) → (IsOf shape shard peer → ⊥) → slot_at bare peer ≡ slot_at slots peer
  outside_of peer not = there peer (λ same. not (subst (λ p. IsOf shape shard p) (sym same) home))

  -- a view
  pub shard_viewed : (fold : Numbered → Catalogue) (after : List Slot) (view : Viewing) (r : Result Share TakeFault) → slot_at slots from ≡ Viewed view → IfOk r (TakesView tells fold shape shard from before now old new bare after view)
      → OnOk r ((other : ℕ) → (IsOf shape shard other → ⊥) → slot_at after other ≡ slot_at bare other) → IfOk r (TakesShard tells fold shape shard from before now old new slots after)
  shard_viewed fold after view (Err fault) is takes outside = tt
  shard_viewed fold after view (Ok share) is takes outside = record {
    from_slot = subst (λ (s : Slot). TakesFrom tells fold shape shard from before now old new slots after share s) (sym is) (record {
      log = takes.log;
      ranked = takes.ranked;
      blank = takes.blank;
      told = takes.told;
      took = takes.took;
      catalogue = takes.catalogue;
      rank = takes.rank;
      copies = bare_evened after share.lost takes.copies;
    });
    outside = λ peer not. outside peer not ∙ outside_of peer not;
  }

  -- none
  pub shard_bare : (fold : Numbered → Catalogue) (share : Share) → slot_at slots from ≡ Aside → new ≡ old → share.catalogue ≡ fold [] → share.rank ≡ record { view = 0; number = 0 } → share.took ≡ None → share.lost ≡ None → TakesShard tells fold shape shard from before now old new slots bare share
  shard_bare fold share is same catalogue rank took lost = record {
    from_slot = subst (λ (s : Slot). TakesFrom tells fold shape shard from before now old new slots bare share s) (sym is) (record {
      took = took;
      lost = lost;
      catalogue = catalogue;
      rank = rank ∙ empty_rank;
      disks = λ peer of. ap (λ ds. seen_at ds peer) same;
      others = λ peer of differs. there peer differs;
      own = here;
    });
    outside = outside_of;
  }
