-- Calls that leave all as it is, and calls after them.
use Rattle.std.proofs.Common.{◌≡◌, ◌∙◌, ◌⊎◌, inl, inr, true, ℕ, ◌<◌, ◌≤◌, List, Some, refl, ap, sym, subst, arith}
use Rattle.hs_ports.specs.declared.disk.Side.{Side}
use Rattle.hs_ports.specs.Disk.{Standing, IsImage, Untouched, other_side}
use Rattle.hs_ports.proofs.Images.{settled_only}
use Rattle.hs_entry.specs.declared.entry.Entry.{Entry}
use Rattle.hs_side.specs.Current.{list_in}
use Rattle.hs_side.specs.Giving.{IsBlankEverywhere}
use Rattle.hs_side.specs.Reading.{is_blank, list_of}
use Rattle.hs_peerlog.specs.Lists.{IsBlankBeside}
use Rattle.hs_peerlog.specs.Images.{IsAlone, IsSole, LeavesAll, LeavesEach, LeavesOnly}
use Rattle.hs_peerlog.proofs.ImageLemmas.{Since, current-same, image-is, list-same, list-there}

-- nothing was called
pub stays : (disk : Standing) (now : ℕ) (list : List (ℕ × Entry)) (P : List (ℕ × Entry) → Type 0) → disk.last ≤ now → Since disk → LeavesOnly disk list → P list → LeavesEach now now disk disk P
stays disk now list P last since leaves p = record {
  later = omega arith;
  last = last;
  earlier = λ s m low fits. refl;
  each = λ m high fits image left. record { list = list; read = leaves image (record { sides = λ s. subst (λ l. IsImage l (image s)) (since s m (omega (arith, last, high))) (left s) }); holds = p };
  standing = λ image left. record { list = list; read = leaves image left; holds = p };
}

-- calls that leave all as it is leave the list that every image gave
pub all-each : {before now : ℕ} {old new : Standing} (list : List (ℕ × Entry)) (P : List (ℕ × Entry) → Type 0) → LeavesAll before now old new → LeavesOnly old list → P list → LeavesEach before now old new P
all-each {before} {now} {old} {new} list P run leaves p = record {
  later = run.later;
  last = run.last;
  earlier = run.earlier;
  each = λ m high fits image left. record { list = list; read = leaves image (record { sides = λ s. run.each s m high fits (image s) (left s) }); holds = p };
  standing = λ image left. record { list = list; read = leaves image (record { sides = λ s. run.standing s (image s) (left.sides s) }); holds = p };
}

ordered : (m n : ℕ) → (m ≤ n) ⊎ (n < m)
ordered m n = grind arith

-- calls that leave all as it is, and then some
pub then-each : {first middle last : ℕ} {a b c : Standing} (list : List (ℕ × Entry)) (P : List (ℕ × Entry) → Type 0) → LeavesEach middle last b c P → LeavesAll first middle a b → LeavesOnly a list → P list → LeavesEach first last a c P
then-each {first} {middle} {last} {a} {b} {c} list P two one leaves p =
    let before = all-each list P one leaves p in
    record {
      later = omega (arith, one.later, two.later);
      last = two.last;
      earlier = λ side m low fits. two.earlier side m (omega (arith, low, one.later)) fits ∙ one.earlier side m low fits;
      each = λ m high fits image left. elim (ordered m middle) [
        | inl low ↦ before.each m high fits image (λ s. subst (λ l. IsImage l (image s)) (two.earlier s m low fits) (left s))
        | inr up ↦ two.each m up fits image left
      ];
      standing = two.standing;
    }

-- ---- a disk at rest

-- its images read as it does
pub alone-sole : (side : Side) (disk : Standing) → IsAlone side disk → IsSole side disk
alone-sole side disk alone image left = current-same disk.seen image (image-is disk image alone.settled left.sides) ∙ alone.current

pub alone-leaves : (side : Side) (disk : Standing) (list : List (ℕ × Entry)) → IsAlone side disk → list_of (disk.seen side) ≡ Some list → LeavesOnly disk list
alone-leaves side disk list alone listed image left =
    list-same disk.seen image (image-is disk image alone.settled left.sides) ∙ list-there side disk.seen (disk.seen side) refl alone.current ∙ listed

-- what a read gives is one of the images
pub seen-list : (disk : Standing) (list : List (ℕ × Entry)) → ((side : Side) → IsImage (disk.loose side) (disk.seen side)) → LeavesOnly disk list → list_in disk.seen ≡ Some list
seen-list disk list stays leaves = leaves disk.seen (record { sides = stays })

-- where the other side reads as blank it is, whatever a crash leaves
pub alone-beside : (side : Side) (disk : Standing) → IsAlone side disk → IsBlankBeside side disk
alone-beside side disk alone blank content image =
    subst (λ c. is_blank c ≡ true) (sym (settled_only (disk.seen (other_side side)) content (subst (λ l. IsImage l content) (alone.settled (other_side side)) image))) blank

pub beside-stays : (side : Side) (old new : Standing) → Untouched (other_side side) old new → IsBlankBeside side old → IsBlankBeside side new
beside-stays side old new other beside blank =
    subst (λ l. IsBlankEverywhere l) (sym other.loose) (beside (ap (λ c. is_blank c) (sym other.seen) ∙ blank))
