-- The places of the first entries that answer lines.
use Rattle.std.proofs.Common.{◌≡◌, ◌∙◌, ap, sym, ℕ, zero, suc, ◌+◌, ◌<◌, ◌≤◌, Bool, true, false, cond, List, [], ◌∷◌, ◌++◌, Some, None, length, take, refl, arith}
use Rattle.std.specs.List.{position_from}
use Rattle.std.specs.Option.{option_or}
use Rattle.std.specs.Prelude.{if◌then◌else◌, slice_index_or}
use Rattle.hs_book.specs.Answers.{Indexes, answers_line, place_in, answer_place}
use Rattle.hs_journal.specs.declared.entry.JournalEntry.{JournalEntry}

-- ---- one item more at the end

place_step : {A : Type 0} (p : A → Bool) (i : ℕ) (y : A) (ys : List A) (x : A) (b : Bool) → p y ≡ b
    → position_from p (i + 1) (ys ++ x ∷ []) ≡ option_or (position_from p (i + 1) ys) (if p x then Some ((i + 1) + length ys) else None)
    → position_from p i ((y ∷ ys) ++ x ∷ []) ≡ option_or (position_from p i (y ∷ ys)) (if p x then Some (i + length (y ∷ ys)) else None)
place_step p i y ys x true is rest = rw is refl
place_step p i y ys x false is rest =
    let at : (i + 1) + length ys ≡ i + suc (length ys) = omega arith in
    rw is (rest ∙ ap (λ n. option_or (position_from p (i + 1) ys) (if p x then Some n else None)) at)

pub place_more : {A : Type 0} (p : A → Bool) (i : ℕ) (xs : List A) (x : A)
    → position_from p i (xs ++ x ∷ []) ≡ option_or (position_from p i xs) (if p x then Some (i + length xs) else None)
place_more p i [] x =
    let at : i + 0 ≡ i = omega arith in
    rw at (go (p x))
  where
    go : (b : Bool) → cond b (Some i) None ≡ (if b then Some i else None)
    go true = refl
    go false = refl
place_more p i (y ∷ ys) x = place_step p i y ys x (p y) refl (place_more p (i + 1) ys x)

-- ---- what stands at the place

-- it is a place of the list
pub record IsPlace {A : Type 0} (i : ℕ) (xs : List A) (place : ℕ) : Type 0 where
  pub above : ℕ
  pub is : place ≡ i + above
  pub within : above < length xs

one_place : (i place : ℕ) → Some i ≡ Some place → place ≡ i
one_place i place e = cc

place_here : {A : Type 0} (p : A → Bool) (i : ℕ) (x : A) (xs : List A) (place : ℕ) (b : Bool) → p x ≡ b → position_from p i (x ∷ xs) ≡ Some place
    → (position_from p (i + 1) xs ≡ Some place → IsPlace (i + 1) xs place) → IsPlace i (x ∷ xs) place
place_here p i x xs place true is h rest =
    let same : place ≡ i = one_place i place (rw is at h) in
    record { above = 0; is = omega arith; within = omega arith }
place_here p i x xs place false is h rest =
    let there : IsPlace (i + 1) xs place = rest (rw is at h) in
    record { above = suc there.above; is = omega arith; within = omega arith }

pub place_is : {A : Type 0} (p : A → Bool) (i : ℕ) (xs : List A) (place : ℕ) → position_from p i xs ≡ Some place → IsPlace i xs place
place_is p i [] place h = absurd (cc h)
place_is p i (x ∷ xs) place h = place_here p i x xs place (p x) refl h (λ e. place_is p (i + 1) xs place e)

pub place_within : {A : Type 0} (p : A → Bool) (xs : List A) (place : ℕ) → position_from p 0 xs ≡ Some place → place < length xs
place_within p xs place h =
    let at : IsPlace 0 xs place = place_is p 0 xs place h in
    omega arith

-- ---- an index

-- the list up to a place, and the item there
pub take_more : {A : Type 0} (xs : List A) (i : ℕ) (d : A) → i < length xs → take (i + 1) xs ≡ take i xs ++ slice_index_or xs i d ∷ []
take_more [] i d h = absurd (omega arith)
take_more (x ∷ xs) zero d h = refl
take_more (x ∷ xs) (suc i) d h =
    let next : suc i + 1 ≡ suc (i + 1) = omega arith in
    rw next (ap (λ ys. x ∷ ys) (take_more xs i d (omega arith)))

length_front : {A : Type 0} (xs : List A) (i : ℕ) → i ≤ length xs → length (take i xs) ≡ i
length_front xs zero h = refl
length_front [] (suc i) h = absurd (omega arith)
length_front (x ∷ xs) (suc i) h = ap suc (length_front xs i (omega arith))

-- an index of the entries up to a place, with the entry there
pub indexes_more : (journal : List JournalEntry) (i : ℕ) (x : JournalEntry) (old new : List (ℕ × ℕ)) → i < length journal → x ≡ slice_index_or journal i x → Indexes (take i journal) old
    → ((line : ℕ) → place_in line new ≡ option_or (place_in line old) (if answers_line line x then Some i else None)) → Indexes (take (i + 1) journal) new
indexes_more journal i x old new h is before one = λ line.
    let at : 0 + length (take i journal) ≡ i = omega (arith, length_front journal i (omega arith)) in
    let up_to : take (i + 1) journal ≡ take i journal ++ x ∷ [] = take_more journal i x h ∙ ap (λ y. take i journal ++ y ∷ []) (sym is) in
    one line ∙ ap (λ o. option_or o (if answers_line line x then Some i else None)) (before line)
    ∙ ap (λ n. option_or (answer_place line (take i journal)) (if answers_line line x then Some n else None)) (sym at)
    ∙ sym (place_more (answers_line line) 0 (take i journal) x) ∙ ap (λ xs. answer_place line xs) (sym up_to)

-- what is found in an index of all entries is a place of one
pub indexed_within : (journal : List JournalEntry) (line place : ℕ) → answer_place line journal ≡ Some place → place < length journal
indexed_within journal line place h = place_within (answers_line line) journal place h
