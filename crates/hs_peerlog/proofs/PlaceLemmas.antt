-- Where the entry of a number stands.
use Rattle.std.proofs.Common.{◌≡◌, ◌∙◌, inl, inr, ℕ, zero, suc, ◌+◌, ◌-◌, ◌<◌, ◌≤◌, true, false, cond, eqb, List, [], ◌∷◌, ◌++◌, length, Option, Some, None, Result, Ok, Err, IfOk, IfErr, refl, ap, sym, subst, get_or, slice_index, arith, Contains}
use Rattle.std.proofs.lemmas.Bool.{ne_eqb}
use Rattle.std.proofs.lemmas.Bool.Decides.{eqb_tells}
use Rattle.std.proofs.lemmas.List.{get_or-map, length-map}
use Rattle.std.proofs.lemmas.List.Elements.{Contains-get_or}
use Rattle.hs_entry.specs.declared.entry.Entry.{Entry}
use Rattle.hs_entry.specs.declared.entry.Entry.TheVariants as kind
use Rattle.hs_entry.specs.Reading.{entry_at}
use Rattle.hs_side.specs.Opening.{ReadsAt}
use Rattle.hs_side.specs.Reading.{Log, Frame, entry_of}
use Rattle.hs_peerlog.specs.declared.fault.LogFault.{LogFault}
use Rattle.hs_peerlog.specs.declared.fault.LogFault.TheVariants.{NotALog, NoMemory}
use Rattle.hs_peerlog.specs.Caused.{IsOutside}
use Rattle.hs_peerlog.specs.Lists.{GoOn, IsNumbered, HasList, HasFrames, numbered_entry}
use Rattle.hs_peerlog.proofs.ListLemmas.{list-places}

same-number : (n : ℕ) → eqb n n ≡ true
same-number n = elim (eqb_tells n n) [ inl same ↦ same.0 | inr differ ↦ absurd (differ.1 refl) ]

-- in a list that is numbered the place tells the number
pub numbered-at : (n : ℕ) (es : List (ℕ × Entry)) (i : ℕ) (d : ℕ × Entry) → GoOn n es → i < length es → (get_or es i d).0 ≡ n + i + 1
numbered-at n [] i d g l = absurd (omega (arith, l))
numbered-at n (e ∷ es) zero d g l = g.0 ∙ omega arith
numbered-at n (e ∷ es) (suc i) d g l = numbered-at (n + 1) es i d g.2 (omega (arith, l)) ∙ omega arith

numbered-there : (n : ℕ) (es : List (ℕ × Entry)) (i : ℕ) (d : ℕ × Entry) → GoOn n es → i < length es → numbered_entry es (n + i + 1) ≡ Some (get_or es i d).1
numbered-there n [] i d g l = absurd (omega (arith, l))
numbered-there n (e ∷ es) zero d g l =
    let is : eqb e.0 (n + 0 + 1) ≡ true = ap (λ k. eqb k (n + 0 + 1)) (g.0 ∙ omega arith) ∙ same-number (n + 0 + 1) in
    ap (λ b. cond b (Some e.1) (numbered_entry es (n + 0 + 1))) is
numbered-there n (e ∷ es) (suc i) d g l =
    let no : eqb e.0 (n + suc i + 1) ≡ false = ne_eqb e.0 (n + suc i + 1) (λ same. omega (arith, same, g.0)) in
    ap (λ b. cond b (Some e.1) (numbered_entry es (n + suc i + 1))) no
    ∙ ap (λ k. numbered_entry es k) (omega arith) ∙ numbered-there (n + 1) es i d g.2 (omega (arith, l))

-- and beyond its end there is none
pub numbered-past : (n : ℕ) (es : List (ℕ × Entry)) (k : ℕ) → GoOn n es → n + length es < k → numbered_entry es k ≡ None
numbered-past n [] k g l = refl
numbered-past n (e ∷ es) k g l =
    let no : eqb e.0 k ≡ false = ne_eqb e.0 k (λ same. omega (arith, same, g.0, l)) in
    ap (λ b. cond b (Some e.1) (numbered_entry es k)) no ∙ numbered-past (n + 1) es k g.2 (omega (arith, l))

pub numbered-zero : (n : ℕ) (es : List (ℕ × Entry)) → GoOn n es → numbered_entry es 0 ≡ None
numbered-zero n [] g = refl
numbered-zero n (e ∷ es) g =
    let no : eqb e.0 0 ≡ false = ne_eqb e.0 0 (λ same. omega (arith, same, g.0)) in
    ap (λ b. cond b (Some e.1) (numbered_entry es 0)) no ∙ numbered-zero (n + 1) es g.2

-- there is a place for each entry
frames-places : (places seen : List ℕ) (es : List (ℕ × Entry)) → HasFrames places seen es → length places ≡ length es
frames-places places seen es h = elim h [ inl has ↦ list-places places seen es has | inr none ↦ ap (λ (ps : List ℕ). length ps) none.0 ∙ ap (λ (xs : List (ℕ × Entry)). length xs) (sym none.1) ]

-- no frame has the number
pub none-there : (places seen : List ℕ) (es : List (ℕ × Entry)) (number : ℕ) → HasFrames places seen es → IsNumbered es → ((i : ℕ) → number ≡ i + 1 → length places ≤ i) → numbered_entry es number ≡ None
none-there places seen es zero h g none = numbered-zero 0 es g
none-there places seen es (suc i) h g none = numbered-past 0 es (suc i) g (omega (arith, none i (omega arith), frames-places places seen es h))

-- where there is a place the side is not blank
pub some-there : (places seen : List ℕ) (es : List (ℕ × Entry)) (index : ℕ) → HasFrames places seen es → index < length places → HasList places seen es
some-there places seen es index h low = elim h [ inl has ↦ has | inr none ↦ absurd (omega (arith, low, ap (λ (ps : List ℕ). length ps) none.0)) ]

-- the frame of an index, and its entry
pub record Stands (places : List ℕ) (es : List (ℕ × Entry)) (index : ℕ) (log : Log) : Type 0 where
  pub frame : Frame
  pub in_log : Contains log.frames frame
  pub place : frame.place ≡ slice_index places index
  pub number : frame.number ≡ index + 1
  pub found : numbered_entry es (index + 1) ≡ Some frame.entry

pub frame-at : (places seen : List ℕ) (es : List (ℕ × Entry)) (index : ℕ) (h : HasList places seen es) → IsNumbered es → index < length places → Stands places es index h.log
frame-at places seen es index h numbered low =
    let fs : List Frame = h.log.frames in
    let d : Frame = record { place = 0; number = 0; entry = kind.View 0 } in
    let f : Frame = get_or fs index d in
    let inside : index < length es = subst (λ n. index < n) (list-places places seen es h) low in
    let within : index < length fs = subst (λ n. index < n) (ap (λ (ps : List ℕ). length ps) h.placed ∙ length-map fs (λ (x : Frame). x.place)) low in
    let said : get_or es index (0, kind.View 0) ≡ entry_of f =
    ap (λ (xs : List (ℕ × Entry)). get_or xs index (0, kind.View 0)) (sym h.listed) ∙ get_or-map entry_of fs index d (0, kind.View 0) within in
    record {
      frame = f;
      in_log = Contains-get_or fs index d within;
      place = sym (ap (λ (ps : List ℕ). slice_index ps index) h.placed ∙ get_or-map (λ (x : Frame). x.place) fs index d 0 within);
      number = sym (ap (λ (x : ℕ × Entry). x.0) said) ∙ numbered-at 0 es index (0, kind.View 0) numbered inside ∙ omega arith;
      found = ap (λ k. numbered_entry es k) (omega arith) ∙ numbered-there 0 es index (0, kind.View 0) numbered inside ∙ ap (λ (x : ℕ × Entry). Some x.1) said;
    }

-- what is read there is its payload
pub payload-is : (places seen : List ℕ) (es : List (ℕ × Entry)) (index : ℕ) (h : HasList places seen es) (f : Stands places es index h.log) (before after : List ℕ) → before ≡ [] → ReadsAt seen (slice_index places index) before after
    → entry_at after ≡ Ok (index + 1, f.frame.entry)
payload-is places seen es index h f before after none found =
    ap (λ bytes. entry_at bytes) (found.more ∙ ap (λ xs. xs ++ found.payload) none)
    ∙ found.entry h.log f.frame h.read f.in_log f.place
    ∙ ap (λ n. Ok (n, f.frame.entry)) f.number

pub memory_is_outside : {T : Type 0} (result : Result T LogFault) → IfErr result (λ fault. fault ≡ NoMemory) → IfErr result IsOutside
memory_is_outside (Ok x) h = tt
memory_is_outside (Err fault) h = subst (λ f. IsOutside f) (sym h) tt

pub found-is : (result : Result (Option Entry) LogFault) (entry : Entry) (found : Option Entry) → found ≡ Some entry → IfOk result (λ x. x ≡ Some entry) → IfOk result (λ x. x ≡ found)
found-is (Ok x) entry found is h = h ∙ sym is
found-is (Err fault) entry found is h = tt

pub none-is : (o : Option ℕ) → ((x : ℕ) → o ≡ Some x → ⊥) → o ≡ None
none-is None some = refl
none-is (Some x) some = absurd (some x refl)

-- the place that a fault tells
pub place-is : {T : Type 0} (result : Result T LogFault) (place number : ℕ) (places : List ℕ) → place ≡ slice_index places (number - 1) → IfErr result (λ fault. (at : ℕ) → fault ≡ NotALog at → at ≡ place)
    → IfErr result (λ fault. (at : ℕ) → fault ≡ NotALog at → (i : ℕ) → number ≡ i + 1 → at ≡ slice_index places i)
place-is (Ok x) place number places is h = tt
place-is (Err fault) place number places is h = λ at e i named. h at e ∙ is ∙ ap (λ n. slice_index places n) (omega (arith, named))
