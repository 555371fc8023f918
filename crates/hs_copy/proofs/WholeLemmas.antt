-- A listing that is closed, and ordered, is all that a key reaches.
use Rattle.std.proofs.Common.{◌≡◌, ◌∙◌, ◌⊎◌, inl, inr, ℕ, ◌+◌, ◌<◌, Bool, true, false, zero, suc, List, [], ◌∷◌, ◌++◌, Some, None, refl, sym, ap, subst, arith, eqb, length, map, slice_get, Contains}
use Rattle.std.proofs.lemmas.Bool.{eq-eqb, eqb-true}
use Rattle.std.proofs.lemmas.List.{map-append}
use Rattle.std.proofs.lemmas.Map.Steps.{length-le_from_distinct_below}
use Rattle.std.proofs.lemmas.Option.{get_or_from_slice_get, slice_get_within}
use Rattle.std.specs.List.{AllByRecursion, IsDistinct, list_any}
use Rattle.hs_asking.specs.Lawful.{StandNamed}
use Rattle.hs_copy.proofs.BlockLemmas.{head_or, some_is, tail_of}
use Rattle.hs_copy.specs.Listing.{AreAllOf, AreDifferent, name_of}
use Rattle.hs_copy.specs.Placing.{ArePlaced, IsOrdered, numbers_of}
use Rattle.hs_copy.specs.Rounds.{address_at, block_in, blocks_of}
use Rattle.hs_copy.specs.Whole.{HasListedAt, IsWhole}
use Rattle.hs_copy.specs.declared.list.Listed.{Listed}
use Rattle.hs_copy.specs.declared.order.Placed.{Placed}
use Rattle.hs_laws.specs.Written.{IsBlockAt}
use Rattle.hs_limits.specs.Block.{Block, spell}
use Rattle.hs_limits.specs.declared.address.Address.{Address}
use Rattle.hs_model.proofs.Members.{Member, contains_from_member, member-append_left, member-append_right, member_from_contains}
use Rattle.hs_model.specs.Reach.{IsReached, Leads, pointers_of}
use Rattle.hs_model.specs.Store.{Root, Store, block_at, retained_at}

-- ---- different numbers below a bound are all of them where they are as many

abbrev Apart : List ℕ → Type 0
Apart [] = Unit {0}
Apart (x ∷ xs) = (Member x xs → ⊥) × Apart xs

all_members : {X : Type 0} (P : X → Type 0) (xs : List X) → ((y : X) → Member y xs → P y) → AllByRecursion P xs
all_members P [] h = tt
all_members P (x ∷ xs) h = (h x (inl refl), all_members P xs (λ y m. h y (inr m)))

not_same : (x y : ℕ) → (x ≡ y → ⊥) → eqb x y ≡ false
not_same x y h = go (eqb x y) refl
  where
    go : (b : Bool) → eqb x y ≡ b → eqb x y ≡ false
    go true e = absurd (h (eqb-true x y e))
    go false e = e

distinct_from : (xs : List ℕ) → Apart xs → IsDistinct eqb xs
unfolding IsDistinct
distinct_from [] h = tt
distinct_from (x ∷ xs) h = (all_members (λ y. eqb x y ≡ false) xs (λ y m. not_same x y (λ e. h.0 (subst (λ z. Member z xs) (sym e) m))), distinct_from xs h.1)

any_member : (q : ℕ) (xs : List ℕ) → list_any (eqb q) xs ≡ true → Member q xs
any_member q [] h = cc h
any_member q (x ∷ xs) h = go (any_member q xs) (eqb q x) refl
  where
    go : (list_any (eqb q) xs ≡ true → Member q xs) → (b : Bool) → eqb q x ≡ b → Member q (x ∷ xs)
    go ih true e = inl (eqb-true q x e)
    go ih false e = inr (ih (rw e at h))

member_or : (n : ℕ) (xs : List ℕ) → Member n xs ⊎ (Member n xs → ⊥)
member_or n [] = inr (λ m. m)
member_or n (x ∷ xs) = go (member_or n xs) (eqb n x) refl
  where
    neither : eqb n x ≡ false → (Member n xs → ⊥) → Member n (x ∷ xs) → ⊥
    neither e away (inl same) = let t = eq-eqb n x same in cc (e, t)
    neither e away (inr m) = away m

    go : Member n xs ⊎ (Member n xs → ⊥) → (b : Bool) → eqb n x ≡ b → Member n (x ∷ xs) ⊎ (Member n (x ∷ xs) → ⊥)
    go rest true e = inl (inl (eqb-true n x e))
    go (inl m) false e = inl (inr m)
    go (inr away) false e = inr (neither e away)

pub all_below : (n : ℕ) (xs : List ℕ) → Apart xs → ((q : ℕ) → Member q xs → q < n) → length xs ≡ n → (i : ℕ) → i < n → Member i xs
all_below n xs apart below counted i within = elim (member_or i xs) [
  | inl m ↦ m
  | inr away ↦ absurd (too_many away)
]
  where
    each : (q : ℕ) → Member q (i ∷ xs) → q < n
    each q (inl e) = subst (λ z. z < n) (sym e) within
    each q (inr m) = below q m

    too_many : (Member i xs → ⊥) → ⊥
    too_many away =
        let most = length-le_from_distinct_below (i ∷ xs) n (distinct_from (i ∷ xs) (away, apart)) (λ q h. each q (any_member q (i ∷ xs) h)) in
        let more : length (i ∷ xs) ≡ length xs + 1 = omega arith in
        omega (arith, most, more, counted)

-- ---- rows

pub get_member : {X : Type 0} (xs : List X) (n : ℕ) (x : X) → slice_get xs n ≡ Some x → Member x xs
get_member [] n x e = cc e
get_member (y ∷ xs) zero x e = inl (sym (some_is y x e))
get_member (y ∷ xs) (suc n) x e = inr (get_member xs n x e)

member_get : {X : Type 0} (xs : List X) (x : X) → Member x xs → (n : ℕ) × (slice_get xs n ≡ Some x)
member_get [] x m = absurd m
member_get (y ∷ xs) x (inl e) = (0, ap (λ z. Some z) (sym e))
member_get (y ∷ xs) x (inr m) = let r = member_get xs x m in (suc r.0, r.1)

pub get_within : {X : Type 0} (xs : List X) (n : ℕ) → n < length xs → (x : X) × (slice_get xs n ≡ Some x)
get_within [] n h = absurd (omega (arith, h))
get_within (y ∷ xs) zero h = (y, refl)
get_within (y ∷ xs) (suc n) h = get_within xs n (omega (arith, h))

-- where no address stands twice, each has one number
one_number : (found : List Address) → AreDifferent found → (n m : ℕ) (a : Address) → slice_get found n ≡ Some a → slice_get found m ≡ Some a → n ≡ m
one_number [] d n m a e f = cc e
one_number (x ∷ found) d zero zero a e f = refl
one_number (x ∷ found) d zero (suc m) a e f = absurd (d.0 (contains_from_member x found (subst (λ z. Member z found) (sym (some_is x a e)) (get_member found m a f))))
one_number (x ∷ found) d (suc n) zero a e f = absurd (d.0 (contains_from_member x found (subst (λ z. Member z found) (sym (some_is x a f)) (get_member found n a e))))
one_number (x ∷ found) d (suc n) (suc m) a e f = ap (λ z. suc z) (one_number found d.1 n m a e f)

module _ (found : List Address) where
  -- these addresses have these numbers
  abbrev Named : List ℕ → List Address → Type 0
  Named numbers names = map (λ n. slice_get found n) numbers ≡ map (λ a. Some a) names

  named_head : (n : ℕ) (ns : List ℕ) (a : Address) (names : List Address) → Named (n ∷ ns) (a ∷ names) → (slice_get found n ≡ Some a) × Named ns names
  named_head n ns a names e = (ap (λ z. head_or None z) e, ap (λ z. tail_of z) e)

  named_get : (ns : List ℕ) (names : List Address) (p k : ℕ) (a : Address) → Named ns names → slice_get ns p ≡ Some k → slice_get found k ≡ Some a → slice_get names p ≡ Some a
  named_get [] names p k a e f g = cc f
  named_get (n ∷ ns) [] p k a e f g = cc e
  named_get (n ∷ ns) (b ∷ names) zero k a e f g = sym (named_head n ns b names e).0 ∙ (ap (λ z. slice_get found z) (some_is n k f) ∙ g)
  named_get (n ∷ ns) (b ∷ names) (suc p) k a e f g = named_get ns names p k a (named_head n ns b names e).1 f g

  named_of : (ns : List ℕ) (names : List Address) (a : Address) → Named ns names → Member a names → (n : ℕ) × Member n ns × (slice_get found n ≡ Some a)
  named_of [] [] a e m = absurd m
  named_of [] (b ∷ names) a e m = cc e
  named_of (n ∷ ns) [] a e m = absurd m
  named_of (n ∷ ns) (b ∷ names) a e (inl q) = (n, inl refl, (named_head n ns b names e).0 ∙ ap (λ z. Some z) (sym q))
  named_of (n ∷ ns) (b ∷ names) a e (inr m) = let r = named_of ns names a (named_head n ns b names e).1 m in (r.0, inr r.1, r.2)

  named_at : (ns : List ℕ) (names : List Address) (n : ℕ) (a : Address) → Named ns names → Member n ns → slice_get found n ≡ Some a → Member a names
  named_at [] names n a e m f = absurd m
  named_at (k ∷ ns) [] n a e m f = cc e
  named_at (k ∷ ns) (b ∷ names) n a e (inl q) f = inl (some_is a b (sym f ∙ (ap (λ z. slice_get found z) q ∙ (named_head k ns b names e).0)))
  named_at (k ∷ ns) (b ∷ names) n a e (inr m) f = inr (named_at ns names n a (named_head k ns b names e).1 m f)

  -- the addresses that places lead to
  below_same : (before : List ℕ) (names : List Address) (below ptrs : List ℕ) (pointers : List Address) → Named before names → map (λ p. slice_get before p) below ≡ map (λ n. Some n) ptrs → Named ptrs pointers → map (λ p. address_at names p) below ≡ pointers
  below_same before names [] [] [] e f g = refl
  below_same before names [] [] (a ∷ pointers) e f g = cc g
  below_same before names [] (k ∷ ptrs) pointers e f g = cc f
  below_same before names (p ∷ below) [] pointers e f g = cc f
  below_same before names (p ∷ below) (k ∷ ptrs) [] e f g = cc g
  below_same before names (p ∷ below) (k ∷ ptrs) (a ∷ pointers) e f g =
      let place : slice_get before p ≡ Some k = ap (λ z. head_or None z) f in
      let rest : map (λ p. slice_get before p) below ≡ map (λ n. Some n) ptrs = ap (λ z. tail_of z) f in
      let h = named_head k ptrs a pointers g in
      let here : address_at names p ≡ a = get_or_from_slice_get names p a _ (named_get before names p k a e place h.0) in
      let ih = below_same before names below ptrs pointers e rest h.1 in
      λ i. here i ∷ ih i

  -- the last one
  last_named : (ns : List ℕ) (k : ℕ) (names : List Address) (a : Address) → Named (ns ++ k ∷ []) names → slice_get found k ≡ Some a → (front : List Address) × (names ≡ front ++ a ∷ [])
  last_named [] k [] a e f = cc e
  last_named [] k (b ∷ []) a e f = ([], ap (λ z. z ∷ []) (some_is b a (sym (named_head k [] b [] e).0 ∙ f)))
  last_named [] k (b ∷ c ∷ names) a e f = let h = (named_head k [] b (c ∷ names) e).1 in cc h
  last_named (n ∷ ns) k [] a e f = cc e
  last_named (n ∷ ns) k (b ∷ names) a e f = let r = last_named ns k names a (named_head n (ns ++ k ∷ []) b names e).1 f in (b ∷ r.0, ap (λ z. b ∷ z) r.1)

-- the numbers of blocks in their places differ, and are of listed blocks
apart_from : (listed : List Listed) (before : List ℕ) (placed : List Placed) → ArePlaced listed before placed → (n : ℕ) → Member n before → Member n (numbers_of placed) → ⊥
apart_from listed before [] h n m k = k
apart_from listed before (q ∷ placed) h n m (inl e) = h.0.new (contains_from_member q.number before (subst (λ z. Member z before) e m))
apart_from listed before (q ∷ placed) h n m (inr k) = apart_from listed (before ++ q.number ∷ []) placed h.1 n (member-append_left n before (q.number ∷ []) m) k

all_apart : (listed : List Listed) (before : List ℕ) (placed : List Placed) → ArePlaced listed before placed → Apart (numbers_of placed)
all_apart listed before [] h = tt
all_apart listed before (q ∷ placed) h = (λ m. apart_from listed (before ++ q.number ∷ []) placed h.1 q.number (member-append_right q.number before (q.number ∷ []) (inl refl)) m, all_apart listed (before ++ q.number ∷ []) placed h.1)

all_listed : (listed : List Listed) (before : List ℕ) (placed : List Placed) → ArePlaced listed before placed → (n : ℕ) → Member n (numbers_of placed) → n < length listed
all_listed listed before [] h n m = absurd m
all_listed listed before (q ∷ placed) h n (inl e) = subst (λ z. z < length listed) (sym e) (slice_get_within listed q.number h.0.block h.0.at)
all_listed listed before (q ∷ placed) h n (inr m) = all_listed listed (before ++ q.number ∷ []) placed h.1 n m

numbers-length : (placed : List Placed) → length (numbers_of placed) ≡ length placed
numbers-length [] = refl
numbers-length (q ∷ placed) = ap (λ z. suc z) (numbers-length placed)

module _ (name : List ℕ → Address) (s : Store) (top : Address) (found : List Address) (listed : List Listed) (whole : IsWhole s top found listed) (named : StandNamed name s) where
  -- ---- the blocks in their places stand at their names

  pub record AreStanding (numbers : List ℕ) (blocks : List Block) : Type 0 where
    pub numbered : Named found numbers (map (name_of name) blocks)
    pub present : AllByRecursion (λ block. IsBlockAt s (name_of name block) block) blocks

  standing : (before : List ℕ) (names : List Address) (placed : List Placed) → Named found before names → ArePlaced listed before placed → AreStanding (numbers_of placed) (blocks_of name names placed)
  standing before names [] e h = record { numbered = refl; present = tt }
  standing before names (q ∷ placed) e h =
      let at : HasListedAt s found q.number h.0.block = whole.blocks q.number h.0.block h.0.at in
      let block : Block = block_in names q in
      let pointers : block.pointers ≡ at.stored.pointers = below_same found before names q.below h.0.block.pointers at.stored.pointers e h.0.below at.pointers in
      let bytes : block.bytes ≡ at.stored.bytes = h.0.bytes ∙ sym at.bytes in
      let is : name_of name block ≡ at.address = (λ i. name (spell (record { pointers = pointers i; bytes = bytes i }))) ∙ sym (named at.address at.stored at.present) in
      let number : slice_get found q.number ≡ Some (name_of name block) = at.at ∙ ap (λ z. Some z) (sym is) in
      let more : Named found (before ++ q.number ∷ []) (names ++ name_of name block ∷ []) =
      map-append (λ n. slice_get found n) before (q.number ∷ []) ∙ (ap (λ z. z ++ slice_get found q.number ∷ []) e ∙ (ap (λ z. map (λ a. Some a) names ++ z ∷ []) number ∙ sym (map-append (λ a. Some a) names (name_of name block ∷ [])))) in
      let ih : AreStanding (numbers_of placed) (blocks_of name (names ++ name_of name block ∷ []) placed) = standing (before ++ q.number ∷ []) (names ++ name_of name block ∷ []) placed more h.1 in
      record {
        numbered = λ i. number i ∷ ih.numbered i;
        present = (record { stored = at.stored; present = subst (λ z. block_at s z ≡ Some at.stored) (sym is) at.present; bytes = sym bytes; pointers = sym pointers }, ih.present);
      }

  different : (numbers : List ℕ) (names : List Address) → Apart numbers → Named found numbers names → AreDifferent names
  different [] [] a e = tt
  different [] (b ∷ names) a e = cc e
  different (n ∷ ns) [] a e = tt
  different (n ∷ ns) (b ∷ names) a e =
      let h = named_head found n ns b names e in
      (λ c. let r = named_of found ns names b h.1 (member_from_contains b names c) in a.0 (subst (λ z. Member z ns) (one_number found whole.once r.0 n b r.2 h.0) r.1), different ns names a.1 h.1)

  -- ---- and are all that is reached

  closed : (x : Address) → Member x found → (path : List Address) (b : Address) → Leads s x path b → Member b found
  closed x m [] b l = subst (λ z. Member z found) l m
  closed x m (next ∷ path) b l =
      let n = member_get found x m in
      let within : n.0 < length found = slice_get_within found n.0 x n.1 in
      let same : length found ≡ length listed = whole.counted in
      let of = get_within listed n.0 (omega (arith, within, same)) in
      let at : HasListedAt s found n.0 of.0 = whole.blocks n.0 of.0 of.1 in
      let here : at.address ≡ x = some_is at.address x (sym at.at ∙ n.1) in
      let there : pointers_of (block_at s x) ≡ at.stored.pointers = ap (λ z. pointers_of z) (subst (λ z. block_at s z ≡ Some at.stored) here at.present) in
      let to = named_of found of.0.pointers at.stored.pointers next at.pointers (member_from_contains next at.stored.pointers (subst (λ z. Contains z next) there l.0)) in
      closed next (get_member found to.0 next to.2) path b l.1

  pub all_of_key : (key : List ℕ) (root : Root) (placed : List Placed) → retained_at s key ≡ Some root → root.address ≡ top → IsOrdered listed placed → AreAllOf name s key (blocks_of name [] placed)
  all_of_key key root placed kept same o =
      let st : AreStanding (numbers_of placed) (blocks_of name [] placed) = standing [] [] placed refl o.all in
      let names : List Address = map (name_of name) (blocks_of name [] placed) in
      let first : slice_get found 0 ≡ Some root.address = whole.first ∙ ap (λ z. Some z) (sym same) in
      let apart : Apart (numbers_of placed) = all_apart listed [] placed o.all in
      let split : numbers_of placed ≡ numbers_of o.ends.front ++ 0 ∷ [] = ap (λ z. numbers_of z) o.ends.split ∙ (map-append (λ (q : Placed). q.number) o.ends.front (o.ends.last ∷ []) ∙ ap (λ z. numbers_of o.ends.front ++ z ∷ []) o.ends.first) in
      let last = last_named found (numbers_of o.ends.front) 0 names root.address (subst (λ z. Named found z names) split st.numbered) first in
      let count : length (numbers_of placed) ≡ length listed = numbers-length placed ∙ o.counted in
      record {
        root = root;
        kept = kept;
        front = last.0;
        last = last.1;
        addresses = record {
          once = different (numbers_of placed) names apart st.numbered;
          reached = λ b c. let r = named_of found (numbers_of placed) names b st.numbered (member_from_contains b names c) in subst (λ z. IsReached s (z ∷ []) b) (sym same) (whole.reached b (contains_from_member b found (get_member found r.0 b r.2)));
          all = λ b r.
              let start : r.start ≡ root.address = elim (member_from_contains r.start (root.address ∷ []) r.anchored) [ inl e ↦ e | inr n ↦ absurd n ] in
              let among : Member b found = closed r.start (subst (λ z. Member z found) (sym start) (get_member found 0 root.address first)) r.path b r.leads in
              let n = member_get found b among in
              let within : n.0 < length found = slice_get_within found n.0 b n.1 in
              let long : length found ≡ length listed = whole.counted in
              contains_from_member b names (named_at found (numbers_of placed) names n.0 b st.numbered (all_below (length listed) (numbers_of placed) apart (λ q m. all_listed listed [] placed o.all q m) count n.0 (omega (arith, within, long))) n.1);
        };
        present = st.present;
      }
