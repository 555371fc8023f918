-- Places in lists, what holds of each element, and how many notes there are.
use Rattle.std.proofs.Common.{◌≡◌, ◌⊎◌, inl, inr, ◌∙◌, ap, sym, subst, ℕ, zero, suc, ◌+◌, ◌<◌, ◌≤◌, Bool, true, false, cond, ◌||◌, List, [], ◌∷◌, ◌++◌, Some, None, refl, arith, length}
use Rattle.std.proofs.lemmas.Bool.{cases_eq, cases_lt}
use Rattle.std.proofs.lemmas.List.{get_or-set_other, get_or-set_same, set_past}
use Rattle.std.proofs.lemmas.List.Sums.{sum_by-append, sum_by-cons}
use Rattle.std.specs.List.{AllByRecursion, list_any, range_with_len, slice_get}
use Rattle.std.specs.Prelude.{find, flat_map, slice_index_or, slice_set, take}
use Rattle.hs_journal.specs.declared.entry.JournalEntry.{JournalEntry}
use Rattle.hs_journal.specs.Notes.{is_note, note_count}

pub some_is : {X : Type 0} (a b : X) → Some a ≡ Some b → a ≡ b
some_is a b e = cc e

pub not_both : true ≡ false → ⊥
not_both e = cc e

-- ---- places

pub at_left : {X : Type 0} (xs ys : List X) (i : ℕ) (x : X) → slice_get xs i ≡ Some x → slice_get (xs ++ ys) i ≡ Some x
at_left [] ys i x at = absurd cc
at_left (z ∷ zs) ys zero x at = at
at_left (z ∷ zs) ys (suc i) x at = at_left zs ys i x at

-- a place in two lists, one behind the other
pub record IsBehind {X : Type 0} (xs ys : List X) (i : ℕ) (x : X) : Type 0 where
  pub place : ℕ
  pub is : i ≡ length xs + place
  pub at : slice_get ys place ≡ Some x

pub at_either : {X : Type 0} (xs ys : List X) (i : ℕ) (x : X) → slice_get (xs ++ ys) i ≡ Some x → (slice_get xs i ≡ Some x) ⊎ IsBehind xs ys i x
at_either [] ys i x at = inr (record { place = i; is = omega arith; at = at })
at_either (z ∷ zs) ys zero x at = inl at
at_either (z ∷ zs) ys (suc i) x at = elim (at_either zs ys i x at) [
  | inl old ↦ inl old
  | inr new ↦ inr (record { place = new.place; is = (let e : i ≡ length zs + new.place = new.is in omega (arith, e)); at = new.at })
]

from_zero : (n : ℕ) → 0 + n ≡ n
from_zero n = omega arith

pub at_right : {X : Type 0} (xs ys : List X) (i : ℕ) (x : X) → slice_get ys i ≡ Some x → slice_get (xs ++ ys) (length xs + i) ≡ Some x
at_right [] ys i x at = subst (λ k. slice_get ys k ≡ Some x) (sym (from_zero i)) at
at_right (z ∷ zs) ys i x at =
    let e : length (z ∷ zs) + i ≡ suc (length zs + i) = omega arith in
    subst (λ k. slice_get (z ∷ zs ++ ys) k ≡ Some x) (sym e) (at_right zs ys i x at)

pub all_at : {X : Type 0} (Q : X → Type 0) (xs : List X) (i : ℕ) (x : X) → AllByRecursion Q xs → slice_get xs i ≡ Some x → Q x
all_at Q [] i x h at = absurd cc
all_at Q (z ∷ zs) zero x h at = subst Q (some_is z x at) h.0
all_at Q (z ∷ zs) (suc i) x h at = all_at Q zs i x h.1 at

pub all_left : {X : Type 0} (Q : X → Type 0) (xs ys : List X) → AllByRecursion Q (xs ++ ys) → AllByRecursion Q xs
all_left Q [] ys h = tt
all_left Q (x ∷ xs) ys h = (h.0, all_left Q xs ys h.1)

-- ---- tables by number

-- what holds of each place, and beyond the end, holds where one place gets a value of which it holds
pub set_keeps : {X : Type 0} (Q : ℕ → X → Type 0) (none : X) (xs : List X) (p : ℕ) (v : X) → (p < length xs → Q p v) → ((q : ℕ) → Q q (slice_index_or xs q none)) → (q : ℕ) → Q q (slice_index_or (slice_set xs p v) q none)
set_keeps Q none xs p v new each q = elim (cases_eq q p) [
  | inl e ↦ elim (cases_lt p (length xs)) [
    | inl low ↦ subst (λ k. Q k (slice_index_or (slice_set xs p v) k none)) (sym e) (subst (λ y. Q p y) (sym (get_or-set_same xs p v none low)) (new low))
    | inr high ↦ subst (λ ys. Q q (slice_index_or ys q none)) (sym (set_past xs p v high)) (each q)
  ]
  | inr d ↦ subst (λ y. Q q y) (sym (get_or-set_other xs p q v none d)) (each q)
]

-- ---- ranges and searches

pub range_each : (Q : ℕ → Type 0) (n from k : ℕ) → AllByRecursion Q (range_with_len from n) → from ≤ k → k < from + n → Q k
range_each Q zero from k h low high = absurd (omega (arith, low, high))
range_each Q (suc n) from k h low high = elim (cases_eq k from) [
  | inl e ↦ subst Q (sym e) h.0
  | inr d ↦ range_each Q n (from + 1) k h.1 (omega (arith, low, d)) (omega (arith, high))
]

pub range_all : (Q : ℕ → Type 0) (n from : ℕ) → ((k : ℕ) → from ≤ k → k < from + n → Q k) → AllByRecursion Q (range_with_len from n)
range_all Q zero from h = tt
range_all Q (suc n) from h = (h from (omega arith) (omega arith), range_all Q n (from + 1) (λ k low high. h k (omega (arith, low)) (omega (arith, high))))

pub find_true : (p : ℕ → Bool) (xs : List ℕ) (x : ℕ) → find p xs ≡ Some x → p x ≡ true
find_true p [] x e = absurd cc
find_true p (y ∷ ys) x e = go (λ k. find_true p ys x k) (p y) refl e
  where
    go : (find p ys ≡ Some x → p x ≡ true) → (b : Bool) → p y ≡ b → cond b (Some y) (find p ys) ≡ Some x → p x ≡ true
    go ih true here k = subst (λ (z : ℕ). p z ≡ true) (some_is y x k) here
    go ih false here k = ih k

pub find_none : (p : ℕ → Bool) (xs : List ℕ) → find p xs ≡ None → AllByRecursion (λ x. p x ≡ false) xs
find_none p [] e = tt
find_none p (y ∷ ys) e = go (λ k. find_none p ys k) (p y) refl e
  where
    go : (find p ys ≡ None → AllByRecursion (λ x. p x ≡ false) ys) → (b : Bool) → p y ≡ b → cond b (Some y) (find p ys) ≡ None → AllByRecursion (λ x. p x ≡ false) (y ∷ ys)
    go ih true here k = absurd (cc k)
    go ih false here k = (here, ih k)

pub find_low : (p : ℕ → Bool) (n from x : ℕ) → find p (range_with_len from n) ≡ Some x → x < from + n
find_low p zero from x e = absurd cc
find_low p (suc n) from x e = go (λ k. find_low p n (from + 1) x k) (p from) e
  where
    go : (find p (range_with_len (from + 1) n) ≡ Some x → x < (from + 1) + n) → (b : Bool) → cond b (Some from) (find p (range_with_len (from + 1) n)) ≡ Some x → x < from + suc n
    go ih true k = let same : from ≡ x = some_is from x k in omega (arith, same)
    go ih false k = let low : x < (from + 1) + n = ih k in omega (arith, low)

-- ---- lists of lists

left_nil : {A : Type 0} (xs ys : List A) → xs ++ ys ≡ [] → xs ≡ []
left_nil [] ys e = refl
left_nil (x ∷ xs) ys e = absurd (cc e)

right_nil : {A : Type 0} (xs ys : List A) → xs ++ ys ≡ [] → ys ≡ []
right_nil [] ys e = e
right_nil (x ∷ xs) ys e = absurd (cc e)

pub both_nil : {A : Type 0} (xs ys : List A) → xs ++ ys ≡ [] → (xs ≡ []) × (ys ≡ [])
both_nil xs ys e = (left_nil xs ys e, right_nil xs ys e)

pub flat_nil : {X A : Type 0} (f : X → List A) (xs : List X) → flat_map f xs ≡ [] → AllByRecursion (λ x. f x ≡ []) xs
flat_nil f [] e = tt
flat_nil f (x ∷ xs) e = (left_nil (f x) (flat_map f xs) e, flat_nil f xs (right_nil (f x) (flat_map f xs) e))

-- a test that no element passes, in parts
pub any_none : {X : Type 0} (p : X → Bool) (xs : List X) → AllByRecursion (λ x. p x ≡ false) xs → list_any p xs ≡ false
any_none p [] h = refl
any_none p (x ∷ xs) h = ap (λ b. b || list_any p xs) h.0 ∙ any_none p xs h.1

pub any_all : {X : Type 0} (p : X → Bool) (xs : List X) → list_any p xs ≡ false → AllByRecursion (λ x. p x ≡ false) xs
any_all p [] e = tt
any_all p (x ∷ xs) e = go (λ k. any_all p xs k) (p x) refl e
  where
    go : (list_any p xs ≡ false → AllByRecursion (λ y. p y ≡ false) xs) → (b : Bool) → p x ≡ b → (b || list_any p xs) ≡ false → AllByRecursion (λ y. p y ≡ false) (x ∷ xs)
    go ih true t k = absurd (cc k)
    go ih false t k = (t, ih k)

pub take_all : {X : Type 0} (Q : X → Type 0) (n : ℕ) (xs : List X) → AllByRecursion Q xs → AllByRecursion Q (take n xs)
take_all Q zero xs h = tt
take_all Q (suc n) [] h = tt
take_all Q (suc n) (x ∷ xs) h = (h.0, take_all Q n xs h.1)

all_both : {A : Type 0} (Q : A → Type 0) (ys zs : List A) → AllByRecursion Q ys → AllByRecursion Q zs → AllByRecursion Q (ys ++ zs)
all_both Q [] zs a b = b
all_both Q (y ∷ ys) zs a b = (a.0, all_both Q ys zs a.1 b)

pub flat_all : {X A : Type 0} (Q : A → Type 0) (f : X → List A) (xs : List X) → AllByRecursion (λ x. AllByRecursion Q (f x)) xs → AllByRecursion Q (flat_map f xs)
flat_all Q f [] h = tt
flat_all Q f (x ∷ xs) h = all_both Q (f x) (flat_map f xs) h.0 (flat_all Q f xs h.1)

-- ---- notes

-- what a test counts for
abbrev pub one_if : Bool → ℕ
one_if b = cond b 1 0

pub count_parts : (disk : ℕ) (xs ys : List JournalEntry) → note_count disk (xs ++ ys) ≡ note_count disk xs + note_count disk ys
count_parts disk xs ys = sum_by-append (λ (e : JournalEntry). one_if (is_note disk e)) xs ys

count_first : (disk : ℕ) (e : JournalEntry) (es : List JournalEntry) → note_count disk (e ∷ es) ≡ one_if (is_note disk e) + note_count disk es
count_first disk e es = sum_by-cons (λ (x : JournalEntry). one_if (is_note disk x)) e es

pub count_none : (disk : ℕ) (es : List JournalEntry) → AllByRecursion (λ e. is_note disk e ≡ false) es → note_count disk es ≡ 0
count_none disk [] h = refl
count_none disk (e ∷ es) h =
    let all : note_count disk (e ∷ es) ≡ one_if (is_note disk e) + note_count disk es = count_first disk e es in
    let one : one_if (is_note disk e) ≡ 0 = ap one_if h.0 in
    let rest : note_count disk es ≡ 0 = count_none disk es h.1 in
    omega (arith, all, one, rest)

-- one that is counted
pub record NoteAt (disk : ℕ) (es : List JournalEntry) : Type 0 where
  pub place : ℕ
  pub entry : JournalEntry
  pub at : slice_get es place ≡ Some entry
  pub note : is_note disk entry ≡ true

pub some_note : (disk : ℕ) (es : List JournalEntry) → 1 ≤ note_count disk es → NoteAt disk es
some_note disk [] h = let none : note_count disk [] ≡ 0 = refl in absurd (omega (arith, h, none))
some_note disk (e ∷ es) h = go (λ k. some_note disk es k) (is_note disk e) refl
  where
    go : (1 ≤ note_count disk es → NoteAt disk es) → (b : Bool) → is_note disk e ≡ b → NoteAt disk (e ∷ es)
    go ih true t = record { place = 0; entry = e; at = refl; note = t }
    go ih false t =
        let all : note_count disk (e ∷ es) ≡ one_if (is_note disk e) + note_count disk es = count_first disk e es in
        let one : one_if (is_note disk e) ≡ 0 = ap one_if t in
        let n : NoteAt disk es = ih (omega (arith, h, all, one)) in
        record { place = suc n.place; entry = n.entry; at = n.at; note = n.note }
