-- How what calls leave at every moment is put together, call by call. `told` is that the disk
-- tells its contents; the facts behind it are the clauses of a call as they stand in `Disk`.
use Rattle.std.proofs.Common.{◌≡◌, ◌∙◌, ◌⊎◌, inl, inr, ℕ, ◌<◌, ◌≤◌, List, refl, arith}
use Rattle.std.specs.Prelude.{Result, Ok, Err, OnOk, OnErr}
use Rattle.hs_ports.specs.declared.disk.Side.{Side}
use Rattle.hs_ports.specs.Disk.{Loose, IsImage, Standing, Happens, Untouched, other_side, settled}
use Rattle.hs_ports.specs.Moments.{EachMoment}
use Rattle.hs_ports.specs.Watch.{Ticks}
use Rattle.hs_ports.proofs.Images.{settled_only}

-- nothing was done to a side, and then nothing
pub untouched_run : (side : Side) (a b c : Standing) → Untouched side a b → Untouched side b c → Untouched side a c
untouched_run side a b c first second = record {
  seen = second.seen ∙ first.seen;
  loose = second.loose ∙ first.loose;
  past = λ m. second.past m ∙ first.past m;
}

-- a disk that wasn't called has at later moments what stands now
pub stayed : {before now : ℕ} {side : Side} {disk : Standing} {P : List ℕ → Type 0}
    → before ≤ now
    → disk.last ≤ before
    → ((m : ℕ) → disk.last < m → disk.past m side ≡ disk.loose side)
    → ((c : List ℕ) → IsImage (disk.loose side) c → P c)
    → EachMoment before now side disk disk P
stayed later last since holds = record {
  later = later;
  last = omega arith;
  earlier = λ m low fits. refl;
  each = λ m high fits c image. holds c (rw (since m (omega arith)) at image);
  standing = holds;
  other = record { seen = refl; loose = refl; past = λ m. refl };
}

-- nothing was called yet
pub begun : {now : ℕ} {side : Side} {disk : Standing} {P : List ℕ → Type 0}
    → disk.last ≤ now
    → ((m : ℕ) → disk.last < m → disk.past m side ≡ disk.loose side)
    → ((c : List ℕ) → IsImage (disk.loose side) c → P c)
    → EachMoment now now side disk disk P
begun last since holds = stayed (omega arith) last since holds

-- a moment is below this one, is this one, or is above it
ordered : (m n : ℕ) → (m < n) ⊎ ((m ≡ n) ⊎ (n < m))
ordered m n = grind arith

-- one call more: what it may leave while it acts, and after it, has P
pub goes_on : (before mid now : ℕ) (side : Side) (old disk new : Standing) (P : List ℕ → Type 0) (during : Loose)
    → EachMoment before mid side old disk P
    → Ticks mid now
    → Happens side now during disk new
    → ((m : ℕ) → new.last < m → new.past m side ≡ new.loose side)
    → Untouched (other_side side) disk new
    → ((c : List ℕ) → IsImage during c → P c)
    → ((c : List ℕ) → IsImage (new.loose side) c → P c)
    → EachMoment before now side old new P
goes_on before mid now side old disk new P during run ticks happens since other acting after =
    let last = happens.last in
    let next = ticks.next in
    record {
      later = omega arith;
      last = omega arith;
      earlier = λ m low fits. happens.earlier m (omega arith) ∙ run.earlier m low fits;
      each = λ m high fits c image. elim (ordered m now) [
        | inl low ↦ run.each m high fits c (rw (happens.earlier m low) at image)
        | inr rest ↦ elim rest [
          | inl here ↦ acting c (rw (happens.here (omega arith)) at (rw here at image))
          | inr above ↦ after c (rw (since m (omega arith)) at image)
        ]
      ];
      standing = after;
      other = untouched_run (other_side side) old disk new run.other other;
    }

-- a write or a cut more, done or failed: its clauses `later`, `moment`, `loose` and `same`
pub acted : {T : Type 0} {before mid now : ℕ} {side : Side} {old disk new : Standing} {P : List ℕ → Type 0} {during : Loose}
    → Ticks mid now
    → (T → disk.last ≤ mid → Happens side now during disk new)
    → (T → new.loose side ≡ during)
    → (T → Untouched (other_side side) disk new)
    → T
    → ((m : ℕ) → new.last < m → new.past m side ≡ new.loose side)
    → EachMoment before mid side old disk P
    → ((c : List ℕ) → IsImage during c → P c)
    → EachMoment before now side old new P
acted ticks moment loose same told since run holds =
    goes_on _ _ _ _ _ _ _ _ _ run ticks (moment told run.last) since (same told) holds (λ c image. holds c (rw (loose told) at image))

-- a sync more, done or failed, which leaves nothing that could not be left before: its clauses
-- `later`, `moment`, `settled`, `unsettled` and `same`, and that what is seen may be left
pub synced : {T E : Type 0} {before mid now : ℕ} {side : Side} {old disk new : Standing} {P : List ℕ → Type 0}
    → (result : Result (Unit {0}) E)
    → Ticks mid now
    → (T → disk.last ≤ mid → Happens side now (disk.loose side) disk new)
    → (T → OnOk result (new.loose side ≡ settled (disk.seen side)))
    → (T → OnErr result (new.loose side ≡ disk.loose side))
    → (T → Untouched (other_side side) disk new)
    → T
    → ((m : ℕ) → new.last < m → new.past m side ≡ new.loose side)
    → IsImage (disk.loose side) (disk.seen side)
    → EachMoment before mid side old disk P
    → EachMoment before now side old new P
synced {disk = disk} {P = P} (Ok _) ticks moment done failed same told since stays run =
    goes_on _ _ _ _ _ disk _ P _ run ticks (moment told run.last) since (same told) run.standing
    (λ c image. rw (settled_only _ c (rw (done told) at image)) (run.standing _ stays))
synced {disk = disk} {P = P} (Err _) ticks moment done failed same told since stays run =
    goes_on _ _ _ _ _ disk _ P _ run ticks (moment told run.last) since (same told) run.standing
    (λ c image. run.standing c (rw (failed told) at image))

-- one run and then another
pub then_run : {first middle last : ℕ} {side : Side} {a b c : Standing} {P : List ℕ → Type 0}
    → EachMoment middle last side b c P
    → EachMoment first middle side a b P
    → EachMoment first last side a c P
then_run {middle = middle} {side = side} {a = a} {b = b} {c = c} two one = record {
  later = omega arith;
  last = two.last;
  earlier = λ m low fits. two.earlier m (omega arith) fits ∙ one.earlier m low fits;
  each = λ m high fits content image. elim (ordered m middle) [
    | inl low ↦ one.each m high fits content (rw (two.earlier m (omega arith) fits) at image)
    | inr rest ↦ elim rest [
      | inl here ↦ one.each m high fits content (rw (two.earlier m (omega arith) fits) at image)
      | inr above ↦ two.each m above fits content image
    ]
  ];
  standing = two.standing;
  other = untouched_run (other_side side) a b c one.other two.other;
}

-- what has P has Q
pub weaker : {before now : ℕ} {side : Side} {old new : Standing} {P Q : List ℕ → Type 0}
    → EachMoment before now side old new P
    → ((c : List ℕ) → P c → Q c)
    → EachMoment before now side old new Q
weaker run follows = record {
  later = run.later;
  last = run.last;
  earlier = run.earlier;
  each = λ m high fits content image. follows content (run.each m high fits content image);
  standing = λ content image. follows content (run.standing content image);
  other = run.other;
}
