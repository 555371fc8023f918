-- The course tells of each moment what the core then is.
use Rattle.std.proofs.Common.{◌≡◌, ◌≢◌, ◌⊎◌, inl, inr, ℕ, zero, suc, ◌*◌, ◌<◌, ◌≤◌, ◌==◌, ◌&&◌, Bool, true, false, cond, List, [], ◌∷◌, ◌++◌, Option, None, Some, refl, ap, ◌∙◌, arith, nat_lt}
use Rattle.std.proofs.lemmas.Bool.{cases_lt, cases_eq, eq-eqb, ne_eqb}
use Rattle.hs_limits.specs.declared.shape.Shape.{Shape}
use Rattle.hs_model.specs.declared.course.CourseItem.{CourseItem}
use Rattle.hs_model.specs.declared.course.CourseItem.TheVariants as item
use Rattle.hs_fold.specs.Good.{good_after, good_from, taken_after, taken_from}
use Rattle.hs_events.specs.Course.{change_item}
use Rattle.hs_moments.specs.Course.{begun_items, good_items, front_items, items_of, course_of}
use Rattle.hs_moments.specs.Machine.{Machine, runs, until, state_at, Rises}
use Rattle.hs_moments.proofs.MomentLemmas.{lt-is, le-is}

pub good-append : (x : Bool) (one more : List CourseItem) (m p : ℕ) → good_from x (one ++ more) m p ≡ good_from (good_from x one m p) more m p
good-append x [] more m p = refl
good-append x (i ∷ one) more m p = good-append (good_after x m p i) one more m p

pub taken-append : (x : ℕ) (one more : List CourseItem) (m g : ℕ) → taken_from x (one ++ more) m g ≡ taken_from (taken_from x one m g) more m g
taken-append x [] more m g = refl
taken-append x (i ∷ one) more m g = taken-append (taken_after x m g i) one more m g

-- ---- peers

begun-good : (line : Option ℕ) (k : ℕ) (x : Bool) (m p : ℕ) → good_from x (begun_items line k) m p ≡ x
begun-good None k x m p = refl
begun-good (Some line) k x m p = refl

took-good : (was is : ℕ → ℕ) (k n : ℕ) (x : Bool) (m p : ℕ) → good_from x (front_items was is k n) m p ≡ x
took-good was is k zero x m p = refl
took-good was is k (suc n) x m p = good-append x (front_items was is k n) (cond (nat_lt (was n) (is n)) (item.Took n (is n) k ∷ []) []) m p ∙ last (nat_lt (was n) (is n)) _ ∙ took-good was is k n x m p
  where
    last : (b : Bool) (y : Bool) → good_from y (cond b (item.Took n (is n) k ∷ []) []) m p ≡ y
    last true y = refl
    last false y = refl

-- an item of a later moment, or of another peer, says nothing
change-late : (b b' : Bool) (n k : ℕ) (x : Bool) (m p : ℕ) → m ≤ k → good_from x (change_item b b' n k) m p ≡ x
change-late true true n k x m p le = refl
change-late true false n k x m p le = rw (le-is k m le) (go (n == p))
  where
    go : (t : Bool) → cond (t && false) false x ≡ x
    go true = refl
    go false = refl
change-late false true n k x m p le = rw (le-is k m le) (go (n == p))
  where
    go : (t : Bool) → cond (t && false) true x ≡ x
    go true = refl
    go false = refl
change-late false false n k x m p le = refl

change-other : (b b' : Bool) (n k : ℕ) (x : Bool) (m p : ℕ) → n ≢ p → good_from x (change_item b b' n k) m p ≡ x
change-other true true n k x m p differs = refl
change-other true false n k x m p differs = rw (ne_eqb n p differs) refl
change-other false true n k x m p differs = rw (ne_eqb n p differs) refl
change-other false false n k x m p differs = refl

change-own : (b b' : Bool) (k : ℕ) (m p : ℕ) → k < m → good_from b (change_item b b' p k) m p ≡ b'
change-own true true k m p lt = refl
change-own true false k m p lt = rw (eq-eqb p p refl, lt-is k m lt) refl
change-own false true k m p lt = rw (eq-eqb p p refl, lt-is k m lt) refl
change-own false false k m p lt = refl

goods-late : (was is : ℕ → Bool) (k n : ℕ) (x : Bool) (m p : ℕ) → m ≤ k → good_from x (good_items was is k n) m p ≡ x
goods-late was is k zero x m p le = refl
goods-late was is k (suc n) x m p le = good-append x (good_items was is k n) (change_item (was n) (is n) n k) m p ∙ change-late (was n) (is n) n k _ m p le ∙ goods-late was is k n x m p le

goods-other : (was is : ℕ → Bool) (k n : ℕ) (x : Bool) (m p : ℕ) → n ≤ p → good_from x (good_items was is k n) m p ≡ x
goods-other was is k zero x m p le = refl
goods-other was is k (suc n) x m p le = good-append x (good_items was is k n) (change_item (was n) (is n) n k) m p ∙ change-other (was n) (is n) n k _ m p (λ same. omega (arith, le, same)) ∙ goods-other was is k n x m p (omega (arith, le))

goods-own : (was is : ℕ → Bool) (k n : ℕ) (m p : ℕ) → p < n → k < m → good_from (was p) (good_items was is k n) m p ≡ is p
goods-own was is k zero m p low lt = absurd (omega (arith, low))
goods-own was is k (suc n) m p low lt = good-append (was p) (good_items was is k n) (change_item (was n) (is n) n k) m p ∙ go (goods-own was is k n m p) (cases_eq n p)
  where
    go : (p < n → k < m → good_from (was p) (good_items was is k n) m p ≡ is p) → (n ≡ p) ⊎ (n ≢ p) → good_from (good_from (was p) (good_items was is k n) m p) (change_item (was n) (is n) n k) m p ≡ is p
    go ih (inl same) =
        ap (λ x. good_from x (change_item (was n) (is n) n k) m p) (goods-other was is k n (was p) m p (omega (arith, same)))
        ∙ ap (λ q. good_from (was p) (change_item (was q) (is q) q k) m p) same ∙ change-own (was p) (is p) k m p lt
    go ih (inr differs) = change-other (was n) (is n) n k _ m p differs ∙ ih (omega (arith, low, differs)) lt

-- ---- shards

begun-taken : (line : Option ℕ) (k x m g : ℕ) → taken_from x (begun_items line k) m g ≡ x
begun-taken None k x m g = refl
begun-taken (Some line) k x m g = refl

change-taken : (b b' : Bool) (n k x m g : ℕ) → taken_from x (change_item b b' n k) m g ≡ x
change-taken true true n k x m g = refl
change-taken true false n k x m g = refl
change-taken false true n k x m g = refl
change-taken false false n k x m g = refl

goods-taken : (was is : ℕ → Bool) (k n x m g : ℕ) → taken_from x (good_items was is k n) m g ≡ x
goods-taken was is k zero x m g = refl
goods-taken was is k (suc n) x m g = taken-append x (good_items was is k n) (change_item (was n) (is n) n k) m g ∙ change-taken (was n) (is n) n k _ m g ∙ goods-taken was is k n x m g

abbrev took : Bool → ℕ → ℕ → ℕ → List CourseItem
took b n number k = cond b (item.Took n number k ∷ []) []

took-late : (b : Bool) (n number k x m g : ℕ) → m ≤ k → taken_from x (took b n number k) m g ≡ x
took-late true n number k x m g le = rw (le-is k m le) (go (n == g))
  where
    go : (t : Bool) → cond (t && false) number x ≡ x
    go true = refl
    go false = refl
took-late false n number k x m g le = refl

took-other : (b : Bool) (n number k x m g : ℕ) → n ≢ g → taken_from x (took b n number k) m g ≡ x
took-other true n number k x m g differs = rw (ne_eqb n g differs) refl
took-other false n number k x m g differs = refl

-- a front that did not rise stays
took-own : (was is k m g : ℕ) → k < m → was ≤ is → taken_from was (took (nat_lt was is) g is k) m g ≡ is
took-own was is k m g lt le = elim (cases_lt was is) [
  | inl rose ↦ rw (lt-is was is rose, eq-eqb g g refl, lt-is k m lt) refl
  | inr low ↦ rw (le-is was is low) (omega (arith, le, low))
]

tooks-late : (was is : ℕ → ℕ) (k n x m g : ℕ) → m ≤ k → taken_from x (front_items was is k n) m g ≡ x
tooks-late was is k zero x m g le = refl
tooks-late was is k (suc n) x m g le = taken-append x (front_items was is k n) (took (nat_lt (was n) (is n)) n (is n) k) m g ∙ took-late (nat_lt (was n) (is n)) n (is n) k _ m g le ∙ tooks-late was is k n x m g le

tooks-other : (was is : ℕ → ℕ) (k n x m g : ℕ) → n ≤ g → taken_from x (front_items was is k n) m g ≡ x
tooks-other was is k zero x m g le = refl
tooks-other was is k (suc n) x m g le = taken-append x (front_items was is k n) (took (nat_lt (was n) (is n)) n (is n) k) m g ∙ took-other (nat_lt (was n) (is n)) n (is n) k _ m g (λ same. omega (arith, le, same)) ∙ tooks-other was is k n x m g (omega (arith, le))

tooks-own : (was is : ℕ → ℕ) (k n m g : ℕ) → g < n → k < m → was g ≤ is g → taken_from (was g) (front_items was is k n) m g ≡ is g
tooks-own was is k zero m g low lt le = absurd (omega (arith, low))
tooks-own was is k (suc n) m g low lt le = taken-append (was g) (front_items was is k n) (took (nat_lt (was n) (is n)) n (is n) k) m g ∙ go (tooks-own was is k n m g) (cases_eq n g)
  where
    go : (g < n → k < m → was g ≤ is g → taken_from (was g) (front_items was is k n) m g ≡ is g) → (n ≡ g) ⊎ (n ≢ g) → taken_from (taken_from (was g) (front_items was is k n) m g) (took (nat_lt (was n) (is n)) n (is n) k) m g ≡ is g
    go ih (inl same) =
        ap (λ x. taken_from x (took (nat_lt (was n) (is n)) n (is n) k) m g) (tooks-other was is k n (was g) m g (omega (arith, same)))
        ∙ ap (λ q. taken_from (was g) (took (nat_lt (was q) (is q)) q (is q) k) m g) same ∙ took-own (was g) (is g) k m g lt le
    go ih (inr differs) = took-other (nat_lt (was n) (is n)) n (is n) k _ m g differs ∙ ih (omega (arith, low, differs)) lt le

-- ---- the course of some events

module _ {State Event : Type 0} (M : Machine State Event) (shape : Shape) where
  abbrev Rise : Type 0
  Rise = (c : State) (e : Event) (k g : ℕ) → M.front c g ≤ M.front (M.step c e k) g

  items-good : (c : State) (e : Event) (k m p : ℕ) → p < shape.shards * shape.copies → k < m → good_from (M.good c p) (items_of M shape c (M.step c e k) e k) m p ≡ M.good (M.step c e k) p
  items-good c e k m p low lt =
      good-append (M.good c p) (begun_items (M.begins e) k) _ m p
      ∙ ap (λ x. good_from x (good_items (M.good c) (M.good c') k (shape.shards * shape.copies) ++ front_items (M.front c) (M.front c') k shape.shards) m p) (begun-good (M.begins e) k (M.good c p) m p)
      ∙ good-append (M.good c p) (good_items (M.good c) (M.good c') k (shape.shards * shape.copies)) (front_items (M.front c) (M.front c') k shape.shards) m p
      ∙ took-good (M.front c) (M.front c') k shape.shards _ m p
      ∙ goods-own (M.good c) (M.good c') k (shape.shards * shape.copies) m p low lt
    where
      c' : State
      c' = M.step c e k

  late-good : (c : State) (e : Event) (k m p : ℕ) (x : Bool) → m ≤ k → good_from x (items_of M shape c (M.step c e k) e k) m p ≡ x
  late-good c e k m p x le =
      good-append x (begun_items (M.begins e) k) _ m p
      ∙ ap (λ x. good_from x (good_items (M.good c) (M.good c') k (shape.shards * shape.copies) ++ front_items (M.front c) (M.front c') k shape.shards) m p) (begun-good (M.begins e) k x m p)
      ∙ good-append x (good_items (M.good c) (M.good c') k (shape.shards * shape.copies)) (front_items (M.front c) (M.front c') k shape.shards) m p
      ∙ took-good (M.front c) (M.front c') k shape.shards _ m p
      ∙ goods-late (M.good c) (M.good c') k (shape.shards * shape.copies) x m p le
    where
      c' : State
      c' = M.step c e k

  all-late-good : (c : State) (es : List (Event × ℕ)) (from to m p : ℕ) (x : Bool) → Rises M from es to → m ≤ from → good_from x (course_of M shape c es) m p ≡ x
  all-late-good c [] from to m p x r le = refl
  all-late-good c (e ∷ es) from to m p x r le =
      good-append x (items_of M shape c (M.step c e.0 e.1) e.0 e.1) (course_of M shape (M.step c e.0 e.1) es) m p
      ∙ ap (λ y. good_from y (course_of M shape (M.step c e.0 e.1) es) m p) (late-good c e.0 e.1 m p x (let low = r.0 in omega (arith, le, low)))
      ∙ all-late-good (M.step c e.0 e.1) es e.1 to m p x r.1 (let low = r.0 in omega (arith, le, low))

  -- a peer is good at a moment by the course exactly where it is so in the core then
  pub good-tells : (c : State) (es : List (Event × ℕ)) (from to m p : ℕ) → p < shape.shards * shape.copies → Rises M from es to → good_from (M.good c p) (course_of M shape c es) m p ≡ M.good (state_at M c es m) p
  good-tells c [] from to m p low r = refl
  good-tells c (e ∷ es) from to m p low r =
      good-append (M.good c p) (items_of M shape c c' e.0 e.1) (course_of M shape c' es) m p ∙ go (good-tells c' es e.1 to m p low r.1) (cases_lt e.1 m)
    where
      c' : State
      c' = M.step c e.0 e.1

      go : good_from (M.good c' p) (course_of M shape c' es) m p ≡ M.good (state_at M c' es m) p → (e.1 < m) ⊎ (m ≤ e.1)
          → good_from (good_from (M.good c p) (items_of M shape c c' e.0 e.1) m p) (course_of M shape c' es) m p ≡ M.good (runs M c (cond (nat_lt e.1 m) (e ∷ until m es) [])) p
      go ih (inl lt) = rw (lt-is e.1 m lt) (ap (λ x. good_from x (course_of M shape c' es) m p) (items-good c e.0 e.1 m p low lt) ∙ ih)
      go ih (inr le) = rw (le-is e.1 m le) (ap (λ x. good_from x (course_of M shape c' es) m p) (late-good c e.0 e.1 m p (M.good c p) le) ∙ all-late-good c' es e.1 to m p (M.good c p) r.1 le)

  -- the same of what took effect

  abbrev rest_of : State → State → ℕ → List CourseItem
  rest_of c c' k = good_items (M.good c) (M.good c') k (shape.shards * shape.copies) ++ front_items (M.front c) (M.front c') k shape.shards

  items-taken-by : (c c' : State) (e : Event) (k m g x : ℕ) → taken_from x (items_of M shape c c' e k) m g ≡ taken_from x (front_items (M.front c) (M.front c') k shape.shards) m g
  items-taken-by c c' e k m g x =
      taken-append x (begun_items (M.begins e) k) (rest_of c c' k) m g
      ∙ ap (λ y. taken_from y (rest_of c c' k) m g) (begun-taken (M.begins e) k x m g)
      ∙ taken-append x (good_items (M.good c) (M.good c') k (shape.shards * shape.copies)) (front_items (M.front c) (M.front c') k shape.shards) m g
      ∙ ap (λ y. taken_from y (front_items (M.front c) (M.front c') k shape.shards) m g) (goods-taken (M.good c) (M.good c') k (shape.shards * shape.copies) x m g)

  all-late-taken : (c : State) (es : List (Event × ℕ)) (from to m g x : ℕ) → Rises M from es to → m ≤ from → taken_from x (course_of M shape c es) m g ≡ x
  all-late-taken c [] from to m g x r le = refl
  all-late-taken c (e ∷ es) from to m g x r le =
      taken-append x (items_of M shape c (M.step c e.0 e.1) e.0 e.1) (course_of M shape (M.step c e.0 e.1) es) m g
      ∙ ap (λ y. taken_from y (course_of M shape (M.step c e.0 e.1) es) m g) (items-taken-by c (M.step c e.0 e.1) e.0 e.1 m g x ∙ tooks-late (M.front c) (M.front (M.step c e.0 e.1)) e.1 shape.shards x m g (let low = r.0 in omega (arith, le, low)))
      ∙ all-late-taken (M.step c e.0 e.1) es e.1 to m g x r.1 (let low = r.0 in omega (arith, le, low))

  pub taken-tells : Rise → (c : State) (es : List (Event × ℕ)) (from to m g : ℕ) → g < shape.shards → Rises M from es to → taken_from (M.front c g) (course_of M shape c es) m g ≡ M.front (state_at M c es m) g
  taken-tells rise c [] from to m g low r = refl
  taken-tells rise c (e ∷ es) from to m g low r =
      taken-append (M.front c g) (items_of M shape c c' e.0 e.1) (course_of M shape c' es) m g
      ∙ ap (λ y. taken_from y (course_of M shape c' es) m g) (items-taken-by c c' e.0 e.1 m g (M.front c g))
      ∙ go (taken-tells rise c' es e.1 to m g low r.1) (cases_lt e.1 m)
    where
      c' : State
      c' = M.step c e.0 e.1

      go : taken_from (M.front c' g) (course_of M shape c' es) m g ≡ M.front (state_at M c' es m) g → (e.1 < m) ⊎ (m ≤ e.1)
          → taken_from (taken_from (M.front c g) (front_items (M.front c) (M.front c') e.1 shape.shards) m g) (course_of M shape c' es) m g ≡ M.front (runs M c (cond (nat_lt e.1 m) (e ∷ until m es) [])) g
      go ih (inl lt) = rw (lt-is e.1 m lt) (ap (λ x. taken_from x (course_of M shape c' es) m g) (tooks-own (M.front c) (M.front c') e.1 shape.shards m g low lt (rise c e.0 e.1 g)) ∙ ih)
      go ih (inr le) = rw (le-is e.1 m le) (ap (λ x. taken_from x (course_of M shape c' es) m g) (tooks-late (M.front c) (M.front c') e.1 shape.shards (M.front c g) m g le) ∙ all-late-taken c' es e.1 to m g (M.front c g) r.1 le)
