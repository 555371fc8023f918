-- Blocks in an order in which each stands behind those that it points to.
use Rattle.std.specs.List.{AllByRecursion}
use Rattle.std.specs.Prelude.{ℕ, ◌+◌, ◌<◌, ◌≡◌, List, [], ◌∷◌, ◌++◌, Some, Contains, length, map, slice_get}
use Rattle.hs_copy.specs.declared.list.Listed.{Listed}
use Rattle.hs_copy.specs.declared.order.Mark.{Mark}
use Rattle.hs_copy.specs.declared.order.Mark.TheVariants as mark
use Rattle.hs_copy.specs.declared.order.Placed.{Placed}

-- the number of each
abbrev pub numbers_of : List Placed → List ℕ
numbers_of placed = map (λ (q : Placed). q.number) placed

-- a block stands behind these numbers: it is one that was listed, not among them, and its pointers lead to places of theirs
pub record IsPlaced (listed : List Listed) (before : List ℕ) (q : Placed) : Type 0 where
  pub block : Listed
  pub at : slice_get listed q.number ≡ Some block
  pub bytes : q.bytes ≡ block.bytes
  pub below : map (λ p. slice_get before p) q.below ≡ map (λ n. Some n) block.pointers
  pub new : Contains before q.number → ⊥

-- so do some blocks, each behind the ones before it
abbrev pub ArePlaced : List Listed → List ℕ → List Placed → Type 0
ArePlaced listed before [] = Unit {0}
ArePlaced listed before (q ∷ rest) = IsPlaced listed before q × ArePlaced listed (before ++ q.number ∷ []) rest

-- the first one that was listed is the last
pub record EndsWithFirst (placed : List Placed) : Type 0 where
  pub front : List Placed
  pub last : Placed
  pub split : placed ≡ front ++ last ∷ []
  pub first : last.number ≡ 0

-- all are in their places
pub record IsOrdered (listed : List Listed) (placed : List Placed) : Type 0 where
  pub all : ArePlaced listed [] placed
  pub counted : length placed ≡ length listed
  pub ends : EndsWithFirst placed

-- ---- on the way

-- a mark tells the place of a block, and those in their places are marked so
pub record AreMarked (marks : List Mark) (numbers : List ℕ) : Type 0 where
  pub stands : (n p : ℕ) → slice_get marks n ≡ Some (mark.At p) → slice_get numbers p ≡ Some n
  pub all : (n : ℕ) → Contains numbers n → (p : ℕ) × (slice_get marks n ≡ Some (mark.At p))

pub record ArePlacedSoFar (listed : List Listed) (marks : List Mark) (placed : List Placed) : Type 0 where
  pub marked : AreMarked marks (numbers_of placed)
  pub stand : ArePlaced listed [] placed

-- marks of places stay, and there are no others
abbrev pub StaysMarked : List Mark → List Mark → Type 0
StaysMarked old new = (numbers : List ℕ) → AreMarked old numbers → AreMarked new numbers

-- a block was put behind those in their places
abbrev pub Places : Listed → ℕ → List Mark → List Mark → List Placed → List Placed → Type 0
Places block number marks marks' placed placed' =
    (listed : List Listed) → slice_get listed number ≡ Some block → ArePlacedSoFar listed marks placed → ArePlacedSoFar listed marks' placed'

-- what stands below each is in a place before it
abbrev pub AreBelow : ℕ → List Placed → Type 0
AreBelow n [] = Unit {0}
AreBelow n (q ∷ rest) = AllByRecursion (λ p. p < n) q.below × AreBelow (n + 1) rest
