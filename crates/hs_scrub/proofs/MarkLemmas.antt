-- What lists that agree up to a number are to one another.
use Rattle.std.proofs.Common.{◌≡◌, ◌≢◌, ◌∙◌, inl, inr, ap, sym, ℕ, zero, suc, ◌+◌, ◌<◌, ◌≤◌, true, List, [], ◌∷◌, ◌++◌, length, Option, Some, None, is_some, refl, arith, cond}
use Rattle.std.proofs.lemmas.Bool.Decides.{eqb_tells}
use Rattle.hs_entry.specs.declared.entry.Entry.{Entry}
use Rattle.hs_entry.specs.Entries.{IsPrefix}
use Rattle.hs_peerlog.specs.Lists.{GoOn, IsNumbered, last_of, numbered_entry}
use Rattle.hs_scrub.specs.declared.mark.PeerMark.TheVariants.{Same, Behind, Differs}
use Rattle.hs_scrub.specs.Marks.{IsMarked}
use Rattle.hs_taking.proofs.LoadLemmas.{count_is}

-- ---- the entry of a number

here_is : (x : ℕ × Entry) (xs : List (ℕ × Entry)) (n : ℕ) → x.0 ≡ n → numbered_entry (x ∷ xs) n ≡ Some x.1
here_is x xs n is = elim (eqb_tells x.0 n) [
  | inl same ↦ ap (λ b. cond b (Some x.1) (numbered_entry xs n)) same.0
  | inr differ ↦ absurd (differ.1 is)
]

there_is : (x : ℕ × Entry) (xs : List (ℕ × Entry)) (n : ℕ) → x.0 ≢ n → numbered_entry (x ∷ xs) n ≡ numbered_entry xs n
there_is x xs n is = elim (eqb_tells x.0 n) [
  | inl same ↦ absurd (is same.1)
  | inr differ ↦ ap (λ b. cond b (Some x.1) (numbered_entry xs n)) differ.0
]

-- no number below those of a list has an entry
none_below : (n k : ℕ) (es : List (ℕ × Entry)) → GoOn n es → k ≤ n → numbered_entry es k ≡ None
none_below n k [] g low = refl
none_below n k (x ∷ es) g low = let a = g.0 in there_is x es k (λ same. omega (arith, low, same, a)) ∙ none_below (n + 1) k es g.2 (omega (arith, low))

-- the two have the same entries under these numbers
pub record Agree (whole list : List (ℕ × Entry)) (upto : ℕ) : Type 0 where
  pub each : (number : ℕ) → number ≤ upto → numbered_entry list number ≡ numbered_entry whole number

pub agree_none : (whole list : List (ℕ × Entry)) → IsNumbered list → IsNumbered whole → Agree whole list 0
agree_none whole list g h = record { each = λ number high. none_below 0 number list g high ∙ sym (none_below 0 number whole h high) }

pub agree_more : (whole list : List (ℕ × Entry)) (index : ℕ) → Agree whole list index → numbered_entry list (index + 1) ≡ numbered_entry whole (index + 1) → Agree whole list (index + 1)
agree_more whole list index so_far here = record {
  each = λ number high. elim (eqb_tells number (index + 1)) [
    | inl same ↦ ap (λ n. numbered_entry list n) same.1 ∙ here ∙ ap (λ n. numbered_entry whole n) (sym same.1)
    | inr differ ↦ let d = differ.1 in so_far.each number (less number high d)
  ];
}
  where
    less : (number : ℕ) → number ≤ index + 1 → number ≢ index + 1 → number ≤ index
    less number high d = omega (arith, high, d)

some_is : (a b : Entry) → Some a ≡ Some b → a ≡ b
some_is a b e = cc e

some_not : (e : Entry) → Some e ≡ None → ⊥
some_not e h = grind arith

-- a list whose entries another has begins it
front_from : (n : ℕ) (list whole : List (ℕ × Entry)) → GoOn n list → GoOn n whole
    → ((k : ℕ) → n < k → k ≤ n + length list → numbered_entry list k ≡ numbered_entry whole k) → IsPrefix list whole
front_from n [] whole g h agree = (whole, refl)
front_from n (x ∷ list) [] g h agree = absurd (some_not x.1 (sym (here_is x list (n + 1) g.0) ∙ agree (n + 1) (omega arith) (omega arith)))
front_from n (x ∷ list) (y ∷ whole) g h agree =
    let e : x.1 ≡ y.1 = some_is x.1 y.1 (sym (here_is x list (n + 1) g.0) ∙ agree (n + 1) (omega arith) (omega arith) ∙ here_is y whole (n + 1) h.0) in
    let m : x.0 ≡ y.0 = g.0 ∙ sym h.0 in
    let both : y ≡ x = λ i. (sym m i, sym e i) in
    let rest = front_from (n + 1) list whole g.2 h.2 (λ k low high. sym (there_is x list k (past g.0 k low)) ∙ agree k (omega (arith, low)) (omega (arith, high)) ∙ there_is y whole k (past h.0 k low)) in
    (rest.0, ap (λ ys. y ∷ ys) rest.1 ∙ ap (λ z. z ∷ list ++ rest.0) both)
  where
    past : {m : ℕ} → m ≡ n + 1 → (k : ℕ) → n + 1 < k → m ≢ k
    past is k low same = omega (arith, is, low, same)

pub front_is : (whole list : List (ℕ × Entry)) → IsNumbered list → IsNumbered whole → Agree whole list (last_of list) → IsPrefix list whole
front_is whole list g h agree =
    let c = count_is list g in
    front_from 0 list whole g h (λ k low high. agree.each k (omega (arith, high, c)))

-- and where it is not shorter it is the other
longer : (list rest : List (ℕ × Entry)) → length (list ++ rest) ≡ length list + length rest
longer [] rest = omega arith
longer (x ∷ list) rest = let e = longer list rest in omega (arith, e)

none_left : (rest : List (ℕ × Entry)) → length rest ≡ 0 → rest ≡ []
none_left [] h = refl
none_left (x ∷ rest) h = absurd (omega (arith, h))

nothing_behind : (list : List (ℕ × Entry)) → list ++ [] ≡ list
nothing_behind [] = refl
nothing_behind (x ∷ list) = ap (λ ys. x ∷ ys) (nothing_behind list)

pub same_is : (whole list : List (ℕ × Entry)) → IsNumbered list → IsNumbered whole → IsPrefix list whole → last_of whole ≤ last_of list → list ≡ whole
same_is whole list g h front up =
    let a = count_is list g in
    let b = count_is whole h in
    let c = ap (λ (es : List (ℕ × Entry)). length es) front.1 in
    let d = longer list front.0 in
    let z : front.0 ≡ [] = none_left front.0 (omega (arith, up, a, b, c, d)) in
    sym (front.1 ∙ ap (λ r. list ++ r) z ∙ nothing_behind list)

-- there is an entry under each number up to the last
kept_from : (n : ℕ) (es : List (ℕ × Entry)) (i : ℕ) → GoOn n es → i < length es → is_some (numbered_entry es (n + i + 1)) ≡ true
kept_from n [] i g low = absurd (omega (arith, low))
kept_from n (x ∷ es) zero g low =
    let a = g.0 in
    let k : x.0 ≡ n + 0 + 1 = omega (arith, a) in
    ap (λ (o : Option Entry). is_some o) (here_is x es (n + 0 + 1) k)
kept_from n (x ∷ es) (suc i) g low =
    let a = g.0 in
    let k : n + 1 + i + 1 ≡ n + suc i + 1 = omega arith in
    ap (λ (o : Option Entry). is_some o) (there_is x es (n + suc i + 1) (λ same. omega (arith, same, a)))
    ∙ ap (λ j. is_some (numbered_entry es j)) (sym k) ∙ kept_from (n + 1) es i g.2 (omega (arith, low))

pub some_kept : (list : List (ℕ × Entry)) (index : ℕ) → IsNumbered list → index < last_of list → is_some (numbered_entry list (index + 1)) ≡ true
some_kept list index g low =
    let c = count_is list g in
    let k : 0 + index + 1 ≡ index + 1 = omega arith in
    ap (λ j. is_some (numbered_entry list j)) (sym k) ∙ kept_from 0 list index g (omega (arith, low, c))

-- ---- the marks of a comparison

pub agree_less : (whole list : List (ℕ × Entry)) (m n : ℕ) → Agree whole list m → n ≤ m → Agree whole list n
agree_less whole list m n agree up = record { each = λ number high. agree.each number (omega (arith, high, up)) }

pub differs_marked : (whole list : List (ℕ × Entry)) (index : ℕ) → IsNumbered list → Agree whole list index → index < last_of list
    → (numbered_entry list (index + 1) ≡ numbered_entry whole (index + 1) → ⊥) → IsMarked whole (Differs (index + 1)) list
differs_marked whole list index g agree low other = record {
  kept = some_kept list index g low;
  other = other;
  first = λ before under. agree.each before (omega (arith, under));
}

pub behind_marked : (whole list : List (ℕ × Entry)) (index count : ℕ) → IsNumbered list → IsNumbered whole → Agree whole list index → last_of list ≤ index
    → count ≡ last_of list → last_of list < last_of whole → IsMarked whole (Behind count) list
behind_marked whole list index count g h agree all is less = record {
  front = front_is whole list g h (agree_less whole list index (last_of list) agree all);
  length = is;
  shorter = less;
}

pub same_marked : (whole list : List (ℕ × Entry)) (index : ℕ) → IsNumbered list → IsNumbered whole → Agree whole list index → last_of list ≤ index → last_of whole ≤ last_of list → IsMarked whole Same list
same_marked whole list index g h agree all up = same_is whole list g h (front_is whole list g h (agree_less whole list index (last_of list) agree all)) up
