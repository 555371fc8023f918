-- What became of a shard whose taken log was only read before.
use Rattle.std.proofs.Common.{◌≡◌, ◌≢◌, ◌∙◌, ap, sym, subst, inl, inr, ℕ, ◌≤◌, List, Option, Some, None, refl, arith}
use Rattle.std.proofs.lemmas.Bool.{cases_eq}
use Rattle.hs_fold.specs.Shards.Setting.{Numbered}
use Rattle.hs_limits.specs.declared.shape.Shape.{Shape}
use Rattle.hs_peerlog.proofs.ImageLemmas.{Since}
use Rattle.hs_peerlog.specs.Images.{LeavesOnly}
use Rattle.hs_peerlog.specs.Lists.{Keeping}
use Rattle.hs_ports.specs.Disk.{Standing}
use Rattle.hs_ports.specs.Fault.{HasRisen}
use Rattle.hs_side.specs.Current.{list_in}
use Rattle.hs_taking.proofs.LevelLemmas.{still_same}
use Rattle.hs_taking.proofs.ShardLemmas.{keeps_moved, keeps_still, still_keeps}
use Rattle.hs_taking.specs.Copies.{IsOf}
use Rattle.hs_taking.specs.declared.slot.Slot.{Slot}
use Rattle.hs_taking.specs.declared.slot.Slot.TheVariants.{Aside, Viewed, Equal, Kept}
use Rattle.hs_taking.specs.Disks.{DiskSeen, seen_at}
use Rattle.hs_taking.specs.Evens.{AreEvened, AreMoved, IsEvenedAs, IsMovedAs, IsTaken}
use Rattle.hs_taking.specs.Pairs.{IsStill}
use Rattle.hs_taking.specs.Slots.{HasMoved, IsSlot, slot_at}

-- ---- the others, where the taken log's disk has the list that it had

moved_weak : (tells : Type 0) (before now : ℕ) (b b' : DiskSeen) (P Q : Numbered → Type 0) → ((list : Numbered) → tells → Q list → P list) → HasMoved tells before now b b' P → HasMoved tells before now b b' Q
moved_weak tells before now b b' P Q weak moved = record {
  moments = λ told last list q own e. moved.moments told last list (weak list told q) own e;
  past = moved.past;
  counted = moved.counted;
}

moved_as : (tells : Type 0) (before now : ℕ) (b b' : DiskSeen) (P Q : Numbered → Type 0) (slot : Slot) → ((list : Numbered) → tells → Q list → P list) → IsMovedAs tells before now b b' P slot → IsMovedAs tells before now b b' Q slot
moved_as tells before now b b' P Q Aside weak m = m
moved_as tells before now b b' P Q (Viewed view) weak m = moved_weak tells before now b b' P Q weak m
moved_as tells before now b b' P Q (Equal view) weak m = tt
moved_as tells before now b b' P Q (Kept log) weak m = tt

evened_as : (tells : Type 0) (before now : ℕ) (b b' : DiskSeen) (P Q : Numbered → Type 0) (old new : Slot) (lost : Option ℕ) → ((list : Numbered) → tells → Q list → P list) → IsEvenedAs tells before now b b' P old new lost → IsEvenedAs tells before now b b' Q old new lost
evened_as tells before now b b' P Q Aside new lost weak e = e
evened_as tells before now b b' P Q (Equal view) new lost weak e = tt
evened_as tells before now b b' P Q (Kept log) new lost weak e = tt
evened_as tells before now b b' P Q (Viewed view) new lost weak e = record {
  good = λ log kept. let g = e.good log kept in record {
    ready = g.ready;
    calm = g.calm;
    has = λ told last list q. g.has told last list (weak list told q);
  };
  reads = λ told log kept list q own. e.reads told log kept list (weak list told q) own;
  out = e.out;
  moved = moved_weak tells before now b b' P Q weak e.moved;
  even = λ told list q own. e.even told list (weak list told q) own;
}

taken_since : (tells : Type 0) (before now : ℕ) (a b c : DiskSeen) (slot : Slot) (lost : Option ℕ) → IsStill tells a b → b.faults ≡ a.faults → IsTaken tells before now b c slot lost → IsTaken tells before now a c slot lost
taken_since tells before now a b c (Kept log) (Some moment) still calm t = absurd t
taken_since tells before now a b c Aside None still calm t = absurd t
taken_since tells before now a b c (Viewed view) lost still calm t = absurd t
taken_since tells before now a b c (Equal view) lost still calm t = absurd t
taken_since tells before now a b c (Kept log) None still calm t = record {
  good = record {
    ready = t.good.ready;
    calm = t.good.calm ∙ calm;
    has = λ told last list e. t.good.has told (subst (λ (s : Standing). s.last ≤ before) (sym (still.same told)) last) list (ap (λ (s : Standing). list_in s.seen) (still.same told) ∙ e);
  };
  sealed = t.sealed;
  reads = λ told list e. t.reads told list (ap (λ (s : Standing). list_in s.seen) (still.same told) ∙ e);
}
taken_since tells before now a b c Aside (Some moment) still calm t = (
  t.0,
  t.1,
  record {
    still = λ told last list leaves. t.2.still told (subst (λ (s : Standing). s.last ≤ before) (sym (still.same told)) last) list (subst (λ (s : Standing). LeavesOnly s list) (sym (still.same told)) leaves);
    failed = λ told. subst (λ n. HasRisen n c.faults) calm (t.2.failed told);
  },
)

module _ (tells : Type 0) (shape : Shape) (shard from before now : ℕ) (old via new : List DiskSeen) (slots : List Slot) (still : IsStill tells (seen_at old from) (seen_at via from)) (there : (peer : ℕ) → peer ≢ from → seen_at via peer ≡ seen_at old peer) where
  abbrev P : Numbered → Type 0
  P list = list_in (seen_at via from).stands.seen ≡ Some list

  abbrev Q : Numbered → Type 0
  Q list = list_in (seen_at old from).stands.seen ≡ Some list

  weak : (list : Numbered) → tells → Q list → P list
  weak list told e = ap (λ (s : Standing). list_in s.seen) (still.same told) ∙ e

  pub moved_since : IsOf shape shard from → AreMoved tells shape shard from before now via new slots → AreMoved tells shape shard from before now old new slots
  moved_since home moved = record {
    each = λ peer of differs. subst (λ (x : DiskSeen). IsMovedAs tells before now x (seen_at new peer) Q (slot_at slots peer)) (there peer differs)
        (moved_as tells before now (seen_at via peer) (seen_at new peer) P Q (slot_at slots peer) weak (moved.each peer of differs));
    disk = keeps_still tells before now (seen_at old from) (seen_at via from) (seen_at new from) still moved.disk;
    outside = λ peer not. moved.outside peer not ∙ there peer (λ same. not (subst (λ p. IsOf shape shard p) (sym same) home));
  }

  pub evened_since : (after : List Slot) (lost : Option ℕ) → (seen_at via from).faults ≡ (seen_at old from).faults → AreEvened tells shape shard from before now via new slots after lost → AreEvened tells shape shard from before now old new slots after lost
  evened_since after lost calm all = record {
    each = λ peer of differs. subst (λ (x : DiskSeen). IsEvenedAs tells before now x (seen_at new peer) Q (slot_at slots peer) (slot_at after peer) lost) (there peer differs)
        (evened_as tells before now (seen_at via peer) (seen_at new peer) P Q (slot_at slots peer) (slot_at after peer) lost weak (all.each peer of differs));
    taken = taken_since tells before now (seen_at old from) (seen_at via from) (seen_at new from) (slot_at after from) lost still calm all.taken;
    disk = keeps_still tells before now (seen_at old from) (seen_at via from) (seen_at new from) still all.disk;
  }

  -- each view stands
  pub slots_since : slot_at slots from ≡ Aside → ((other : ℕ) → IsOf shape shard other → IsSlot tells shape other (seen_at old other) (slot_at slots other)) → (other : ℕ) → IsOf shape shard other → IsSlot tells shape other (seen_at via other) (slot_at slots other)
  slots_since aside views other of = elim (cases_eq other from) [
    | inl same ↦ subst (λ (s : Slot). IsSlot tells shape other (seen_at via other) s) (sym (ap (λ p. slot_at slots p) same ∙ aside)) tt
    | inr differs ↦ subst (λ (x : DiskSeen). IsSlot tells shape other x (slot_at slots other)) (sym (there other differs)) (views other of)
  ]

-- ---- the taken log was lost before another was compared

module _ (tells : Type 0) (shape : Shape) (shard from now moment : ℕ) (old new : List DiskSeen) (slots : List Slot) (there : (peer : ℕ) → peer ≢ from → seen_at new peer ≡ seen_at old peer)
    (since : (peer : ℕ) → tells → Since (seen_at old peer).stands) (views : (peer : ℕ) → IsOf shape shard peer → IsSlot tells shape peer (seen_at old peer) (slot_at slots peer)) where
  abbrev T : Numbered → Type 0
  T list = list_in (seen_at old from).stands.seen ≡ Some list

  left : (peer : ℕ) (slot : Slot) → IsStill tells (seen_at old peer) (seen_at new peer) → IsSlot tells shape peer (seen_at old peer) slot → IsEvenedAs tells now now (seen_at old peer) (seen_at new peer) T slot slot (Some moment)
  left peer Aside still is = (refl, still)
  left peer (Equal view) still is = tt
  left peer (Kept log) still is = tt
  left peer (Viewed view) still is =
      let keeps = still_keeps tells now now (seen_at old peer) (seen_at new peer) (omega arith) (since peer) still in
      record {
        good = λ log kept. absurd (not_kept log kept);
        reads = λ told log kept. absurd (not_kept log kept);
        out = λ none. inl refl;
        moved = keeps_moved tells shape peer now now (seen_at old peer) (seen_at new peer) view T is keeps;
        even = λ told list taken own. keeps;
      }
    where
      not_kept : (log : Keeping) → Viewed view ≡ Kept log → ⊥
      not_kept log e = cc e

  pub left_evened : moment ≡ now → slot_at slots from ≡ Aside → IsStill tells (seen_at old from) (seen_at new from) → (tells → HasRisen (seen_at old from).faults (seen_at new from).faults) → AreEvened tells shape shard from now now old new slots slots (Some moment)
  left_evened at aside still rose = record {
    each = λ peer of differs. left peer (slot_at slots peer) (still_same tells (seen_at old peer) (seen_at new peer) (there peer differs)) (views peer of);
    taken = subst (λ (s : Slot). IsTaken tells now now (seen_at old from) (seen_at new from) s (Some moment)) (sym aside) (
      omega (arith, at),
      omega (arith, at),
      record {
        still = λ told last list leaves. subst (λ n. (seen_at new from).stands.last ≤ n) (sym at) (subst (λ (s : Standing). s.last ≤ now) (sym (still.same told)) last);
        failed = rose;
      },
    );
    disk = still_keeps tells now now (seen_at old from) (seen_at new from) (omega arith) (since from) still;
  }
