-- What the current side of each image has, along calls.
use Rattle.std.proofs.Common.{◌≡◌, ◌∙◌, ◌⊎◌, inl, inr, ℕ, ◌<◌, ◌≤◌, List, Some, refl, ap, sym, subst, arith}
use Rattle.hs_ports.specs.declared.disk.Side.{Side}
use Rattle.hs_ports.specs.Disk.{Standing, IsImage, other_side}
use Rattle.hs_ports.specs.Moments.{EachMoment}
use Rattle.hs_entry.specs.declared.entry.Entry.{Entry}
use Rattle.hs_side.specs.declared.header.Header.{Header}
use Rattle.hs_side.specs.Reading.{list_of}
use Rattle.hs_peerlog.specs.Heads.{IsBlankOrOf, KeepsHeader, LeavesHeader}
use Rattle.hs_peerlog.specs.Images.{GivesList, Is, IsStanding, LeavesAll, LeavesEach, LeavesOnly}
use Rattle.hs_peerlog.specs.Past.{PastStays}
use Rattle.hs_peerlog.specs.Steps.{CouldShow, ShowsEach, current_bytes}
use Rattle.hs_peerlog.proofs.ImageLemmas.{Since, two-sides}

-- ---- calls, one after another

-- nothing was called
pub still-shown : {now : ℕ} {disk : Standing} {P : List ℕ → Type 0} → disk.last ≤ now → Since disk → ((image : Side → List ℕ) → IsStanding disk image → P (current_bytes image)) → ShowsEach now now disk disk P
still-shown last since holds = record {
  later = omega arith;
  last = last;
  earlier = λ side m low fits. refl;
  each = λ m high fits image left. holds image (record { sides = λ s. subst (λ l. IsImage l (image s)) (since s m (omega (arith, last, high))) (left s) });
  standing = holds;
}

-- calls on one side
pub one-shown : {before now : ℕ} {side : Side} {old new : Standing} {P Q : List ℕ → Type 0} → EachMoment before now side old new P → old.last ≤ before → Since old
    → ((image : Side → List ℕ) → P (image side) → IsImage (old.loose (other_side side)) (image (other_side side)) → Q (current_bytes image)) → ShowsEach before now old new Q
one-shown {before} {now} {side} {old} {new} {P} {Q} run last since gives = record {
  later = run.later;
  last = run.last;
  earlier = λ s m low fits. elim (two-sides side s) [
    | inl e ↦ subst (λ x. new.past m x ≡ old.past m x) e (run.earlier m low fits)
    | inr e ↦ subst (λ x. new.past m x ≡ old.past m x) e (run.other.past m)
  ];
  each = λ m high fits image left. gives image (run.each m high fits (image side) (left side))
      (subst (λ l. IsImage l (image (other_side side))) (run.other.past m ∙ since (other_side side) m (omega (arith, last, high))) (left (other_side side)));
  standing = λ image left. gives image (run.standing (image side) (left.sides side)) (subst (λ l. IsImage l (image (other_side side))) run.other.loose (left.sides (other_side side)));
}

-- calls that leave all as it is
pub all-shown : {before now : ℕ} {old new : Standing} → LeavesAll before now old new → ShowsEach before now old new (CouldShow old)
all-shown {before} {now} {old} {new} run = record {
  later = run.later;
  last = run.last;
  earlier = run.earlier;
  each = λ m high fits image left. record { image = image; stands = record { sides = λ s. run.each s m high fits (image s) (left s) }; same = refl };
  standing = λ image left. record { image = image; stands = record { sides = λ s. run.standing s (image s) (left.sides s) }; same = refl };
}

ordered : (m n : ℕ) → (m ≤ n) ⊎ (n < m)
ordered m n = grind arith

-- some calls, and then some
pub then-shown : {first middle last : ℕ} {a b c : Standing} {P Q R : List ℕ → Type 0} → ShowsEach middle last b c Q → ShowsEach first middle a b P → ((bytes : List ℕ) → P bytes → R bytes) → ((bytes : List ℕ) → Q bytes → R bytes)
    → ShowsEach first last a c R
then-shown {first} {middle} {last} {a} {b} {c} two one p q = record {
  later = omega (arith, one.later, two.later);
  last = two.last;
  earlier = λ side m low fits. two.earlier side m (omega (arith, low, one.later)) fits ∙ one.earlier side m low fits;
  each = λ m high fits image left. elim (ordered m middle) [
    | inl low ↦ p (current_bytes image) (one.each m high fits image (λ s. subst (λ l. IsImage l (image s)) (two.earlier s m low fits) (left s)))
    | inr up ↦ q (current_bytes image) (two.each m up fits image left)
  ];
  standing = λ image left. q (current_bytes image) (two.standing image left);
}

pub weaker-shown : {before now : ℕ} {a b : Standing} {P Q : List ℕ → Type 0} → ShowsEach before now a b P → ((bytes : List ℕ) → P bytes → Q bytes) → ShowsEach before now a b Q
weaker-shown run p = record {
  later = run.later;
  last = run.last;
  earlier = run.earlier;
  each = λ m high fits image left. p (current_bytes image) (run.each m high fits image left);
  standing = λ image left. p (current_bytes image) (run.standing image left);
}

-- ---- what that is of lists, of headers and of the past

-- a list of bytes, of which this holds
pub record Lists (P : List (ℕ × Entry) → Type 0) (bytes : List ℕ) : Type 0 where
  pub list : List (ℕ × Entry)
  pub read : list_of bytes ≡ Some list
  pub holds : P list

pub shown-lists : {before now : ℕ} {a b : Standing} {P : List (ℕ × Entry) → Type 0} → ShowsEach before now a b (Lists P) → LeavesEach before now a b P
shown-lists run = record {
  later = run.later;
  last = run.last;
  earlier = run.earlier;
  each = λ m high fits image left. let g = run.each m high fits image left in record { list = g.list; read = g.read; holds = g.holds };
  standing = λ image left. let g = run.standing image left in record { list = g.list; read = g.read; holds = g.holds };
}

pub shown-header : {before now : ℕ} {a b : Standing} {header : Header} → ShowsEach before now a b (IsBlankOrOf header) → KeepsHeader before b header
shown-header run = record { each = run.each; standing = run.standing }

pub shown-past : {before now : ℕ} {a b : Standing} {P : List ℕ → Type 0} → ShowsEach before now a b P → PastStays before now a b
shown-past run = record { later = run.later; last = run.last; earlier = run.earlier }

pub all-past : {before now : ℕ} {a b : Standing} → LeavesAll before now a b → PastStays before now a b
all-past run = record { later = run.later; last = run.last; earlier = run.earlier }

-- some calls, and then some
pub then-past : {first middle last : ℕ} {a b c : Standing} → PastStays middle last b c → PastStays first middle a b → PastStays first last a c
then-past {first} {middle} {last} {a} {b} {c} two one = record {
  later = omega (arith, one.later, two.later);
  last = two.last;
  earlier = λ side m low fits. two.earlier side m (omega (arith, low, one.later)) fits ∙ one.earlier side m low fits;
}

pub side-past : {before now : ℕ} {side : Side} {old new : Standing} {P : List ℕ → Type 0} → EachMoment before now side old new P → PastStays before now old new
side-past {before} {now} {side} {old} {new} {P} run = record {
  later = run.later;
  last = run.last;
  earlier = λ s m low fits. elim (two-sides side s) [
    | inl e ↦ subst (λ x. new.past m x ≡ old.past m x) e (run.earlier m low fits)
    | inr e ↦ subst (λ x. new.past m x ≡ old.past m x) e (run.other.past m)
  ];
}

-- ---- what an image shows that could be left before

-- of a disk each image of which has a list of which this holds
pub image-lists : {P : List (ℕ × Entry) → Type 0} (disk : Standing) → ((image : Side → List ℕ) → IsStanding disk image → GivesList P image) → (bytes : List ℕ) → CouldShow disk bytes → Lists P bytes
image-lists disk leaves bytes s = let g = leaves s.image s.stands in record { list = g.list; read = ap (λ b. list_of b) (sym s.same) ∙ g.read; holds = g.holds }

pub only-gives : (disk : Standing) (list : List (ℕ × Entry)) → LeavesOnly disk list → (image : Side → List ℕ) → IsStanding disk image → GivesList (Is list) image
only-gives disk list leaves image left = record { list = list; read = leaves image left; holds = refl }

pub image-header : {header : Header} (disk : Standing) → LeavesHeader disk header → (bytes : List ℕ) → CouldShow disk bytes → IsBlankOrOf header bytes
image-header {header} disk leaves bytes s = subst (λ b. IsBlankOrOf header b) s.same (leaves s.image s.stands)
