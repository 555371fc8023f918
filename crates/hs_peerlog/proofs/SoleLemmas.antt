-- Calls on the side in use, where it is current whatever a crash leaves.
use Rattle.std.proofs.Common.{◌≡◌, ◌∙◌, inl, inr, ℕ, ◌≤◌, List, Some, refl, ap, sym, subst, arith}
use Rattle.hs_ports.specs.declared.disk.Side.{Side}
use Rattle.hs_ports.specs.declared.disk.Side.TheVariants.{Zero, One}
use Rattle.hs_ports.specs.Disk.{Standing, IsImage, other_side}
use Rattle.hs_ports.specs.Moments.{EachMoment}
use Rattle.hs_entry.specs.declared.entry.Entry.{Entry}
use Rattle.hs_side.specs.Current.{current, generation_in}
use Rattle.hs_side.specs.Reading.{list_of}
use Rattle.hs_peerlog.proofs.ImageLemmas.{two-sides, same-current, list-there, Since}
use Rattle.hs_peerlog.specs.Images.{IsStanding, GivesList, LeavesEach, IsSole}

-- one content for a side, another for the other
abbrev pub beside : Side → List ℕ → List ℕ → (Side → List ℕ)
beside Zero here there Zero = here
beside Zero here there One = there
beside One here there Zero = there
beside One here there One = here

pub beside-here : (side : Side) (here there : List ℕ) → beside side here there side ≡ here
beside-here Zero here there = refl
beside-here One here there = refl

pub beside-there : (side : Side) (here there : List ℕ) → beside side here there (other_side side) ≡ there
beside-there Zero here there = refl
beside-there One here there = refl

-- what a content gives: a list of which this holds, with the generation of these bytes
pub record Gives (seen : List ℕ) (Q : List (ℕ × Entry) → Type 0) (content : List ℕ) : Type 0 where
  pub list : List (ℕ × Entry)
  pub read : list_of content ≡ Some list
  pub holds : Q list
  pub same : generation_in content ≡ generation_in seen

module _ (side : Side) (old : Standing) (sole : IsSole side old) (seen : IsImage (old.loose side) (old.seen side)) where
  -- a content with the generation that is read, beside what a crash may leave of the other side
  pub sole-stays : (image : Side → List ℕ) → generation_in (image side) ≡ generation_in (old.seen side) → IsImage (old.loose (other_side side)) (image (other_side side)) → current image ≡ side
  sole-stays image same left =
      let mixed : Side → List ℕ = beside side (old.seen side) (image (other_side side)) in
      let stands : IsStanding old mixed = record {
        sides = λ s. elim (two-sides side s) [
          | inl e ↦ subst (λ x. IsImage (old.loose x) (mixed x)) e (subst (λ c. IsImage (old.loose side) c) (sym (beside-here side (old.seen side) (image (other_side side)))) seen)
          | inr e ↦ subst (λ x. IsImage (old.loose x) (mixed x)) e (subst (λ c. IsImage (old.loose (other_side side)) c) (sym (beside-there side (old.seen side) (image (other_side side)))) left)
        ];
      } in
      same-current side mixed (image side) (sole mixed stands) (same ∙ ap (λ b. generation_in b) (sym (beside-here side (old.seen side) (image (other_side side))))) image refl
      (sym (beside-there side (old.seen side) (image (other_side side))))

  module _ {before now : ℕ} {new : Standing} {P : List ℕ → Type 0} (Q : List (ℕ × Entry) → Type 0) (run : EachMoment before now side old new P) (last : old.last ≤ before) (since : Since old) (gives : (content : List ℕ) → P content → Gives (old.seen side) Q content) where
    given : (image : Side → List ℕ) → P (image side) → IsImage (old.loose (other_side side)) (image (other_side side)) → GivesList Q image
    given image p left =
        let what = gives (image side) p in
        record { list = what.list; read = list-there side image (image side) refl (sole-stays image what.same left) ∙ what.read; holds = what.holds }

    pub one-sole : LeavesEach before now old new Q
    one-sole = record {
      later = run.later;
      last = run.last;
      earlier = λ s m low fits. elim (two-sides side s) [
        | inl e ↦ subst (λ x. new.past m x ≡ old.past m x) e (run.earlier m low fits)
        | inr e ↦ subst (λ x. new.past m x ≡ old.past m x) e (run.other.past m)
      ];
      each = λ m high fits image left. given image (run.each m high fits (image side) (left side))
          (subst (λ l. IsImage l (image (other_side side))) (run.other.past m ∙ since (other_side side) m (omega (arith, last, high))) (left (other_side side)));
      standing = λ image left. given image (run.standing (image side) (left.sides side)) (subst (λ l. IsImage l (image (other_side side))) run.other.loose (left.sides (other_side side)));
    }

    -- and it stays current, whatever a crash leaves
    pub sole-after : IsSole side new
    sole-after image left = sole-stays image (gives (image side) (run.standing (image side) (left.sides side))).same (subst (λ l. IsImage l (image (other_side side))) run.other.loose (left.sides (other_side side)))
