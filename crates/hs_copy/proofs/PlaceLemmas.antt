-- Places of blocks, one more of them.
use Rattle.std.proofs.Common.{◌≡◌, ◌∙◌, ◌⊎◌, inl, inr, ℕ, ◌+◌, ◌<◌, List, [], ◌∷◌, ◌++◌, Some, None, zero, suc, refl, sym, ap, subst, arith, append-nil, append_assoc, length, map, slice_get, slice_set, replicate, Contains}
use Rattle.std.proofs.lemmas.List.{length-append, length-map, map-append}
use Rattle.std.proofs.lemmas.List.Elements.{Contains-append_cases}
use Rattle.std.proofs.lemmas.Option.{slice_get_within}
use Rattle.std.specs.List.{AllByRecursion}
use Rattle.hs_copy.proofs.BlockLemmas.{head_or, some_is, tail_of}
use Rattle.hs_copy.specs.Placing.{AreBelow, AreMarked, ArePlaced, ArePlacedSoFar, EndsWithFirst, IsOrdered, IsPlaced, Places, StaysMarked, numbers_of}
use Rattle.hs_copy.specs.declared.list.Listed.{Listed}
use Rattle.hs_copy.specs.declared.order.Mark.{Mark}
use Rattle.hs_copy.specs.declared.order.Mark.TheVariants as mark
use Rattle.hs_copy.specs.declared.order.Placed.{Placed}
use Rattle.hs_model.proofs.Members.{member_from_contains}

-- ---- one mark is written

set_same : (marks : List Mark) (n : ℕ) (m : Mark) → n < length marks → slice_get (slice_set marks n m) n ≡ Some m
set_same [] n m h = absurd (omega (arith, h))
set_same (x ∷ marks) zero m h = refl
set_same (x ∷ marks) (suc n) m h = set_same marks n m (omega (arith, h))

set_other : (marks : List Mark) (n k : ℕ) (m : Mark) → (k ≡ n → ⊥) → slice_get (slice_set marks n m) k ≡ slice_get marks k
set_other [] n k m h = refl
set_other (x ∷ marks) zero zero m h = absurd (h refl)
set_other (x ∷ marks) zero (suc k) m h = refl
set_other (x ∷ marks) (suc n) zero m h = refl
set_other (x ∷ marks) (suc n) (suc k) m h = set_other marks n k m (λ e. h (ap (λ z. suc z) e))

same_or : (k n : ℕ) → (k ≡ n) ⊎ (k ≡ n → ⊥)
same_or zero zero = inl refl
same_or zero (suc n) = inr (λ e. absurd (omega (arith, e)))
same_or (suc k) zero = inr (λ e. absurd (omega (arith, e)))
same_or (suc k) (suc n) = elim (same_or k n) [ inl e ↦ inl (ap (λ z. suc z) e) | inr h ↦ inr (λ e. h (omega (arith, e))) ]

at_is : (p q : ℕ) → mark.At p ≡ mark.At q → p ≡ q
at_is p q e = cc e

pub entered_not : (p : ℕ) → mark.Entered ≡ mark.At p → ⊥
entered_not p e = cc e

new_not : (p : ℕ) → mark.New ≡ mark.At p → ⊥
new_not p e = cc e

-- one that has no place
pub stays_marked : (marks : List Mark) (n : ℕ) → slice_get marks n ≡ Some mark.New → StaysMarked marks (slice_set marks n mark.Entered)
stays_marked marks n e numbers h = record {
  stands = λ k p s. elim (same_or k n) [
    | inl q ↦ absurd (entered_not p (some_is mark.Entered (mark.At p) (sym (set_same marks n mark.Entered (slice_get_within marks n mark.New e)) ∙ subst (λ z. slice_get (slice_set marks n mark.Entered) z ≡ Some (mark.At p)) q s)))
    | inr d ↦ h.stands k p (sym (set_other marks n k mark.Entered d) ∙ s)
  ];
  all = λ k c.
      let at = h.all k c in (
        at.0,
        elim (same_or k n) [
          | inl q ↦ absurd (new_not at.0 (some_is mark.New (mark.At at.0) (sym e ∙ subst (λ z. slice_get marks z ≡ Some (mark.At at.0)) q at.1)))
          | inr d ↦ set_other marks n k mark.Entered d ∙ at.1
        ],
      );
}

pub get_front : {X : Type 0} (xs ys : List X) (k : ℕ) (x : X) → slice_get xs k ≡ Some x → slice_get (xs ++ ys) k ≡ Some x
get_front [] ys k x e = cc e
get_front (y ∷ xs) ys zero x e = e
get_front (y ∷ xs) ys (suc k) x e = get_front xs ys k x e

pub get_last : {X : Type 0} (xs : List X) (x : X) → slice_get (xs ++ x ∷ []) (length xs) ≡ Some x
get_last [] x = refl
get_last (y ∷ xs) x = get_last xs x

placed_more : (listed : List Listed) (before : List ℕ) (placed : List Placed) (q : Placed) → ArePlaced listed before placed → IsPlaced listed (before ++ numbers_of placed) q → ArePlaced listed before (placed ++ q ∷ [])
placed_more listed before [] q h k = (subst (λ z. IsPlaced listed z q) (append-nil before) k, tt)
placed_more listed before (p ∷ placed) q h k = (h.0, placed_more listed (before ++ p.number ∷ []) placed q h.1 (subst (λ z. IsPlaced listed z q) (sym (append_assoc before (p.number ∷ []) (numbers_of placed))) k))

-- the numbers of pointers whose marks tell places stand there
below_is : (marks : List Mark) (numbers : List ℕ) → AreMarked marks numbers → (pointers places : List ℕ) → map (λ n. slice_get marks n) pointers ≡ map (λ p. Some (mark.At p)) places → map (λ p. slice_get numbers p) places ≡ map (λ n. Some n) pointers
below_is marks numbers h [] [] e = refl
below_is marks numbers h [] (p ∷ places) e = cc e
below_is marks numbers h (n ∷ pointers) [] e = cc e
below_is marks numbers h (n ∷ pointers) (p ∷ places) e =
    let here : slice_get numbers p ≡ Some n = h.stands n p (ap (λ z. head_or None z) e) in
    let ih = below_is marks numbers h pointers places (ap (λ z. tail_of z) e) in
    λ i. here i ∷ ih i

-- what has a mark that tells no place is in none
absent : (marks : List Mark) (numbers : List ℕ) → AreMarked marks numbers → (n : ℕ) (m : Mark) → slice_get marks n ≡ Some m → ((p : ℕ) → m ≡ mark.At p → ⊥) → Contains numbers n → ⊥
absent marks numbers h n m e other c = let at = h.all n c in other at.0 (some_is m (mark.At at.0) (sym e ∙ at.1))

pub places_one : (block : Listed) (number : ℕ) (marks : List Mark) (m : Mark) (placed : List Placed) (q : Placed) → slice_get marks number ≡ Some m → ((p : ℕ) → m ≡ mark.At p → ⊥) → q.number ≡ number → q.bytes ≡ block.bytes
    → map (λ n. slice_get marks n) block.pointers ≡ map (λ p. Some (mark.At p)) q.below → Places block number marks (slice_set marks number (mark.At (length placed))) placed (placed ++ q ∷ [])
places_one block number marks m placed q e other number_is bytes below listed at h =
    let numbers : List ℕ = numbers_of placed in
    let within : number < length marks = slice_get_within marks number m e in
    let counted : length numbers ≡ length placed = length-map placed (λ (z : Placed). z.number) in
    let more : numbers_of (placed ++ q ∷ []) ≡ numbers ++ number ∷ [] = map-append (λ (z : Placed). z.number) placed (q ∷ []) ∙ ap (λ z. numbers ++ z ∷ []) number_is in
    let fresh : Contains numbers number → ⊥ = absent marks numbers h.marked number m e other in
    let last : slice_get (numbers ++ number ∷ []) (length placed) ≡ Some number = subst (λ z. slice_get (numbers ++ number ∷ []) z ≡ Some number) counted (get_last numbers number) in
    record {
      marked = subst (AreMarked (slice_set marks number (mark.At (length placed)))) (sym more) (record {
        stands = λ k p s. elim (same_or k number) [
          | inl d ↦ (let here : mark.At (length placed) ≡ mark.At p = some_is (mark.At (length placed)) (mark.At p) (sym (set_same marks number (mark.At (length placed)) within) ∙ subst (λ z. slice_get (slice_set marks number (mark.At (length placed))) z ≡ Some (mark.At p)) d s) in
              subst (λ z. slice_get (numbers ++ number ∷ []) z ≡ Some k) (at_is (length placed) p here) (last ∙ ap (λ z. Some z) (sym d)))
          | inr d ↦ get_front numbers (number ∷ []) p k (h.marked.stands k p (sym (set_other marks number k (mark.At (length placed)) d) ∙ s))
        ];
        all = λ k c. elim (same_or k number) [
          | inl d ↦ (length placed, ap (λ z. slice_get (slice_set marks number (mark.At (length placed))) z) d ∙ set_same marks number (mark.At (length placed)) within)
          | inr d ↦ (let old = h.marked.all k (only numbers number k c d) in (old.0, set_other marks number k (mark.At (length placed)) d ∙ old.1))
        ];
      });
      stand = placed_more listed [] placed q h.stand (record {
        block = block;
        at = ap (λ z. slice_get listed z) number_is ∙ at;
        bytes = bytes;
        below = below_is marks numbers h.marked block.pointers q.below below;
        new = λ c. fresh (subst (λ z. Contains numbers z) number_is c);
      });
    }
  where
    only : (numbers : List ℕ) (number k : ℕ) → Contains (numbers ++ number ∷ []) k → (k ≡ number → ⊥) → Contains numbers k
    only numbers number k c d = elim (Contains-append_cases numbers (number ∷ []) k c) [
      | inl l ↦ l
      | inr r ↦ elim (member_from_contains k (number ∷ []) r) [ inl e ↦ absurd (d e) | inr n ↦ absurd n ]
    ]

pub placed_stay : (listed : List Listed) (marks marks' : List Mark) (placed : List Placed) → StaysMarked marks marks' → ArePlacedSoFar listed marks placed → ArePlacedSoFar listed marks' placed
placed_stay listed marks marks' placed s h = record { marked = s (numbers_of placed) h.marked; stand = h.stand }

-- at first nothing has a place
pub none_placed : (listed : List Listed) (marks : List Mark) → ((n p : ℕ) → slice_get marks n ≡ Some (mark.At p) → ⊥) → ArePlacedSoFar listed marks []
none_placed listed marks other = record { marked = record { stands = λ n p e. absurd (other n p e); all = λ n c. absurd (member_from_contains n [] c) }; stand = tt }

pub all_new : (k n p : ℕ) → slice_get (replicate k mark.New) n ≡ Some (mark.At p) → ⊥
all_new zero n p e = cc e
all_new (suc k) zero p e = new_not p (some_is mark.New (mark.At p) e)
all_new (suc k) (suc n) p e = all_new k n p e

-- ---- what stands below

in_range : (before places pointers : List ℕ) → map (λ p. slice_get before p) places ≡ map (λ n. Some n) pointers → AllByRecursion (λ p. p < length before) places
in_range before [] pointers e = tt
in_range before (p ∷ places) [] e = cc e
in_range before (p ∷ places) (n ∷ pointers) e = (slice_get_within before p n (ap (λ z. head_or None z) e), in_range before places pointers (ap (λ z. tail_of z) e))

pub placed_below : (listed : List Listed) (before : List ℕ) (n : ℕ) → length before ≡ n → (placed : List Placed) → ArePlaced listed before placed → AreBelow n placed
placed_below listed before n counted [] h = tt
placed_below listed before n counted (q ∷ placed) h =
    let longer : length (before ++ q.number ∷ []) ≡ length before + 1 = length-append before (q.number ∷ []) in
    (subst (λ z. AllByRecursion (λ p. p < z) q.below) counted (in_range before q.below h.0.block.pointers h.0.below), placed_below listed (before ++ q.number ∷ []) (n + 1) (omega (arith, longer, counted)) placed h.1)

pub started : (listed : List Listed) (marks after : List Mark) (n : ℕ) → marks ≡ replicate n mark.New → StaysMarked marks after → ArePlacedSoFar listed after []
started listed marks after n e s = placed_stay listed marks after [] s (none_placed listed marks (subst (λ z. (k p : ℕ) → slice_get z k ≡ Some (mark.At p) → ⊥) (sym e) (all_new n)))

pub ordered : (listed : List Listed) (marks : List Mark) (seen placed : List Placed) (count : ℕ) → ArePlacedSoFar listed marks placed → seen ≡ placed → count ≡ length listed → (length seen ≡ count) × EndsWithFirst seen → IsOrdered listed placed
ordered listed marks seen placed count h e n w = record { all = h.stand; counted = ap (λ z. length z) (sym e) ∙ (w.0 ∙ n); ends = subst EndsWithFirst e w.1 }
