-- With one copy a shard images count where each peer is good and its disk may have left its own.
use Rattle.std.proofs.Common.{◌≡◌, ◌⊎◌, inl, inr, ◌∙◌, ap, sym, subst, ℕ, ◌+◌, ◌*◌, ◌<◌, ◌≤◌, ◌==◌, ◌&&◌, ◌||◌, Bool, true, false, List, [], ◌∷◌, refl, arith, length, nat_lt, true≢false}
use Rattle.std.proofs.lemmas.Bool.{cases_lt}
use Rattle.std.proofs.lemmas.List.{get_or_past}
use Rattle.std.specs.List.{list_any}
use Rattle.std.specs.Prelude.{if◌then◌else◌}
use Rattle.hs_fold.specs.Good.{good_after, good_from}
use Rattle.hs_fold.specs.Images.{image_at}
use Rattle.hs_fold.specs.Shards.Course.{is_good_below, was_good}
use Rattle.hs_fold.specs.Shards.Images.{AreGoodImages, Image, IsBlank, IsGoodImage, Stop}
use Rattle.hs_limits.specs.declared.shape.Shape.{Shape}
use Rattle.hs_limits.specs.Shape.{peer_of}
use Rattle.hs_model.specs.declared.course.CourseItem.{CourseItem}
use Rattle.hs_model.specs.declared.course.CourseItem.TheVariants as item

-- ---- who is good was so at some time

any_here : (q : CourseItem → Bool) (i : CourseItem) (items : List CourseItem) → q i ≡ true → list_any q (i ∷ items) ≡ true
any_here q i items h = ap (λ b. b || list_any q items) h

any_later : (q : CourseItem → Bool) (i : CourseItem) (items : List CourseItem) → list_any q items ≡ true → list_any q (i ∷ items) ≡ true
any_later q i items h = go (q i)
  where
    go : (b : Bool) → (b || list_any q items) ≡ true
    go true = refl
    go false = h

-- it was so before an item, or is by it
by_item : (good : Bool) (moment peer : ℕ) (i : CourseItem) → good_after good moment peer i ≡ true → (good ≡ true) ⊎ (is_good_below moment peer i ≡ true)
by_item good moment peer (item.Good p m) h = go (p == peer && nat_lt m moment) refl h
  where
    go : (b : Bool) → (p == peer && nat_lt m moment) ≡ b → (if b then true else good) ≡ true → (good ≡ true) ⊎ ((p == peer && nat_lt m moment) ≡ true)
    go true t k = inr t
    go false t k = inl k
by_item good moment peer (item.Bad p m) h = go (p == peer && nat_lt m moment) h
  where
    go : (b : Bool) → (if b then false else good) ≡ true → (good ≡ true) ⊎ (is_good_below moment peer (item.Bad p m) ≡ true)
    go true k = absurd (true≢false (sym k))
    go false k = inl k
by_item good moment peer (item.Begun line m) h = inl h
by_item good moment peer (item.Took shard number m) h = inl h

from_some : (good : Bool) (items : List CourseItem) (moment peer : ℕ) → good_from good items moment peer ≡ true → (good ≡ true) ⊎ (list_any (is_good_below moment peer) items ≡ true)
from_some good [] moment peer h = inl h
from_some good (i ∷ items) moment peer h = elim (from_some (good_after good moment peer i) items moment peer h) [
  | inl now ↦ elim (by_item good moment peer i now) [
    | inl before ↦ inl before
    | inr here ↦ inr (any_here (is_good_below moment peer) i items here)
  ]
  | inr later ↦ inr (any_later (is_good_below moment peer) i items later)
]

pub good_was : (course : List CourseItem) (moment peer : ℕ) → good_from false course moment peer ≡ true → was_good course moment peer ≡ true
good_was course moment peer h = elim (from_some false course moment peer h) [
  | inl never ↦ absurd (true≢false (sym never))
  | inr was ↦ was
]

-- ---- images

-- a disk that there is not has a blank image
past_blank : (images : List Image) (peer : ℕ) → length images ≤ peer → IsBlank (image_at images peer)
past_blank images peer high = subst (λ (image : Image). IsBlank image) (sym (get_or_past images peer (λ side. []) high)) (λ side. refl)

pub good_count : (shape : Shape) (stop : Stop) (images : List Image) → shape.copies ≡ 1 → length stop.disks ≡ shape.shards → length images ≡ length stop.disks
    → ((peer : ℕ) → peer < length stop.disks → IsGoodImage stop images peer) → AreGoodImages shape stop images
good_count shape stop images one disks count each = record {
  count = count;
  shards = λ shard low. (0, omega (arith, one), subst (λ p. IsGoodImage stop images p) (sym (peer_is shard)) (each shard (omega (arith, low, disks))));
  others = λ peer low. inl (each peer low).left;
  aside = λ peer is was. elim (cases_lt peer (length stop.disks)) [
    | inl low ↦ absurd (true≢false (sym (good_was stop.course stop.moment peer (each peer low).good) ∙ was))
    | inr high ↦ past_blank images peer (omega (arith, count, high))
  ];
}
  where
    peer_is : (shard : ℕ) → peer_of shape shard 0 ≡ shard
    peer_is shard = ap (λ k. shard * k + 0) one ∙ omega arith
