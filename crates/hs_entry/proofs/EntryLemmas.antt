-- What is read is spelled so, and what is spelled so is read; and no payload begins another.
use Rattle.std.proofs.Common.{◌≡◌, ℕ, ◌^◌, ◌<◌, ◌⊎◌, Bool, true, false, cond, eqb, List, [], ◌∷◌, ◌++◌, length, Result, Ok, Err, refl, sym, ap, subst, ◌∙◌, append_assoc, inl, inr}
use Rattle.std.specs.Prelude.{IfOk}
use Rattle.std.specs.Int.{w64}
use Rattle.std.proofs.lemmas.Bool.{eqb-true}
use Rattle.std.proofs.lemmas.List.{append-nil, nil_from_length}
use Rattle.hs_limits.specs.Fields.{◌>>=◌, check, byte_at, number_at}
use Rattle.hs_limits.proofs.FieldLemmas.{IsBytes, bind_ok, check_ok, ok_is, byte_takes}
use Rattle.hs_entry.specs.declared.entry.Entry.{Entry}
use Rattle.hs_entry.specs.declared.entry.Entry.TheVariants.{View, Block, Mark, Root, Drop, Enter, Got, Base, KeptBlock, KeptRoot, KeptRound}
use Rattle.hs_entry.specs.declared.fault.EntryFault.{EntryFault}
use Rattle.hs_entry.specs.declared.fault.EntryFault.TheVariants.{Short, BadKind, Trailing}
use Rattle.hs_entry.specs.Payload.{eight, kind_of, fields_of, payload, runs_on}
use Rattle.hs_entry.specs.Reading.{is_kind, IsReadable, IsReading, fields_at, entry_at}
use Rattle.hs_entry.proofs.GotLemmas.{got_takes, got_again}
use Rattle.hs_entry.proofs.KindLemmas.{AreFields, ends, view_takes, view_again, block_takes, block_again, mark_takes, mark_again, root_takes, root_again, drop_takes, drop_again, enter_takes, enter_again}
use Rattle.hs_entry.proofs.PartLemmas.{eight_takes, eight_again}

chosen : {A : Type 0} (b : Bool) (x y z : A) → cond b x y ≡ z → ((b ≡ true) × (x ≡ z)) ⊎ ((b ≡ false) × (y ≡ z))
chosen true x y z e = inl (refl, e)
chosen false x y z e = inr (refl, e)

abbrev stopped : ℕ → Result Entry EntryFault
stopped kind = Err (BadKind kind)

unread : (kind : ℕ) (entry : Entry) → stopped kind ≡ Ok entry → ⊥
unread kind entry e = cc

-- one line for each kind that is read
fields_take : (kind whole : ℕ) (bytes : List ℕ) (entry : Entry) → IsBytes bytes → fields_at kind whole bytes ≡ Ok entry → AreFields kind bytes entry
unfolding fields_at
fields_take kind whole bytes entry fit e =
    let is : (n : ℕ) → eqb kind n ≡ true → AreFields n bytes entry → AreFields kind bytes entry = λ n same fields. subst (λ (k : ℕ). AreFields k bytes entry) (sym (eqb-true kind n same)) fields in
    elim (chosen (eqb kind 1) _ _ _ e) [
      | inl view ↦ is 1 view.0 (view_takes whole bytes entry fit view.1)
      | inr o1 ↦ elim (chosen (eqb kind 2) _ _ _ o1.1) [
        | inl block ↦ is 2 block.0 (block_takes whole bytes entry fit block.1)
        | inr o2 ↦ elim (chosen (eqb kind 3) _ _ _ o2.1) [
          | inl mark ↦ is 3 mark.0 (mark_takes whole bytes entry fit mark.1)
          | inr o3 ↦ elim (chosen (eqb kind 4) _ _ _ o3.1) [
            | inl root ↦ is 4 root.0 (root_takes whole bytes entry fit root.1)
            | inr o4 ↦ elim (chosen (eqb kind 5) _ _ _ o4.1) [
              | inl drop ↦ is 5 drop.0 (drop_takes whole bytes entry fit drop.1)
              | inr o5 ↦ elim (chosen (eqb kind 6) _ _ _ o5.1) [
                | inl enter ↦ is 6 enter.0 (enter_takes whole bytes entry fit enter.1)
                | inr o6 ↦ elim (chosen (eqb kind 7) _ _ _ o6.1) [
                  | inl got ↦ is 7 got.0 (got_takes whole bytes entry fit got.1)
                  | inr none ↦ absurd (unread kind entry none.1)
                ]
              ]
            ]
          ]
        ]
      ]
    ]

-- one line for each kind that ends of itself: a byte behind it is a fault
fields_end : (whole : ℕ) (entry : Entry) (rest : List ℕ) → IsReadable entry → runs_on entry ≡ false → (at : ℕ) × (fields_at (kind_of entry) whole (fields_of entry ++ rest) ≡ ends rest at entry)
unfolding fields_at
fields_end whole (View view) rest fits own = (_, view_again whole view rest fits)
fields_end whole (Block op least bytes) rest fits own = absurd cc
fields_end whole (Mark op least block address) rest fits own = (_, mark_again whole op least block address rest fits)
fields_end whole (Root op held address key) rest fits own = (_, root_again whole op held address key rest fits)
fields_end whole (Drop op key) rest fits own = (_, drop_again whole op key rest fits)
fields_end whole (Enter op epoch) rest fits own = (_, enter_again whole op epoch rest fits)
fields_end whole (Got sender epoch round total deltas) rest fits own = (_, got_again whole sender epoch round total deltas rest fits)
fields_end whole (Base view epoch swept round frames) rest fits own = absurd fits
fields_end whole (KeptBlock born mark flags count bytes) rest fits own = absurd fits
fields_end whole (KeptRoot created dropped counted address key) rest fits own = absurd fits
fields_end whole (KeptRound way other epoch round total deltas) rest fits own = absurd fits

kind_is_read : (entry : Entry) → IsReadable entry → is_kind (kind_of entry) ≡ true
kind_is_read (View view) fits = refl
kind_is_read (Block op least bytes) fits = refl
kind_is_read (Mark op least block address) fits = refl
kind_is_read (Root op held address key) fits = refl
kind_is_read (Drop op key) fits = refl
kind_is_read (Enter op epoch) fits = refl
kind_is_read (Got sender epoch round total deltas) fits = refl
kind_is_read (Base view epoch swept round frames) fits = absurd fits
kind_is_read (KeptBlock born mark flags count bytes) fits = absurd fits
kind_is_read (KeptRoot created dropped counted address key) fits = absurd fits
kind_is_read (KeptRound way other epoch round total deltas) fits = absurd fits

-- an entry whose payload is read to its end
ended : (whole : ℕ) (entry : Entry) → IsReadable entry → runs_on entry ≡ false → fields_at (kind_of entry) whole (fields_of entry) ≡ Ok entry
ended whole entry fits own =
    ap (fields_at (kind_of entry) whole) (sym (append-nil (fields_of entry))) ∙ (fields_end whole entry [] fits own).1

fields_again : (whole : ℕ) (entry : Entry) → IsReadable entry → fields_at (kind_of entry) whole (fields_of entry) ≡ Ok entry
unfolding fields_at
fields_again whole (View view) fits = ended whole (View view) fits refl
fields_again whole (Block op least bytes) fits = block_again whole op least bytes fits
fields_again whole (Mark op least block address) fits = ended whole (Mark op least block address) fits refl
fields_again whole (Root op held address key) fits = ended whole (Root op held address key) fits refl
fields_again whole (Drop op key) fits = ended whole (Drop op key) fits refl
fields_again whole (Enter op epoch) fits = ended whole (Enter op epoch) fits refl
fields_again whole (Got sender epoch round total deltas) fits = ended whole (Got sender epoch round total deltas) fits refl
fields_again whole (Base view epoch swept round frames) fits = absurd fits
fields_again whole (KeptBlock born mark flags count bytes) fits = absurd fits
fields_again whole (KeptRoot created dropped counted address key) fits = absurd fits
fields_again whole (KeptRound way other epoch round total deltas) fits = absurd fits

pub record IsRead (bytes : List ℕ) (number : ℕ) (entry : Entry) : Type 0 where
  pub fits : number < 2 ^ 64
  pub readable : IsReadable entry
  pub spelled : bytes ≡ payload number entry

entry_takes : (bytes : List ℕ) (x : ℕ × Entry) → IsBytes bytes → entry_at bytes ≡ Ok x → IsRead bytes x.0 x.1
unfolding entry_at
entry_takes bytes x fit e =
    let whole : ℕ = length bytes in
    let b1 = bind_ok (byte_at (Short whole) bytes) (λ kind. check (is_kind kind.0) (BadKind kind.0) >>= λ _. number_at (Short whole) w64 kind.1 >>= λ number. fields_at kind.0 whole number.1 >>= λ entry. Ok (number.0, entry)) x e in
    let t1 = byte_takes (Short whole) bytes b1.0 fit b1.1 in
    let c1 = check_ok (is_kind b1.0.0) (BadKind b1.0.0) (number_at (Short whole) w64 b1.0.1 >>= λ number. fields_at b1.0.0 whole number.1 >>= λ entry. Ok (number.0, entry)) x b1.2 in
    let b2 = bind_ok (number_at (Short whole) w64 b1.0.1) (λ number. fields_at b1.0.0 whole number.1 >>= λ entry. Ok (number.0, entry)) x c1.1 in
    let t2 = eight_takes whole b1.0.1 b2.0 t1.rest_fits b2.1 in
    let b3 = bind_ok (fields_at b1.0.0 whole b2.0.1) (λ entry. Ok (b2.0.0, entry)) x b2.2 in
    let t3 = fields_take b1.0.0 whole b2.0.1 b3.0 t2.0.rest_fits b3.1 in
    let made : ℕ × Entry = (b2.0.0, b3.0) in
    let spelled : bytes ≡ b1.0.0 ∷ (eight b2.0.0 ++ fields_of b3.0) = t1.parts ∙ ap (λ (t : List ℕ). b1.0.0 ∷ t) (t2.0.parts ∙ ap (λ (t : List ℕ). eight b2.0.0 ++ t) t3.spelled) in
    subst (λ (y : ℕ × Entry). IsRead bytes y.0 y.1) (ok_is {E = EntryFault} made x b3.2)
    (record { fits = t2.1; readable = t3.readable; spelled = spelled ∙ ap (λ (k : ℕ). k ∷ (eight b2.0.0 ++ fields_of b3.0)) (sym t3.kind_is) })

pub entry_again : (number : ℕ) (entry : Entry) → number < 2 ^ 64 → IsReadable entry → entry_at (payload number entry) ≡ Ok (number, entry)
unfolding entry_at
entry_again number entry lt fits =
    let whole : ℕ = length (payload number entry) in
    rw (kind_is_read entry fits, eight_again whole number (fields_of entry) lt, fields_again whole entry fits) refl

-- what stands behind a payload is a fault
entry_end : (number : ℕ) (entry : Entry) (rest : List ℕ) → number < 2 ^ 64 → IsReadable entry → runs_on entry ≡ false
    → (at : ℕ) × (entry_at (payload number entry ++ rest) ≡ (ends rest at entry >>= λ entry. Ok (number, entry)))
unfolding entry_at
entry_end number entry rest lt fits own =
    let whole : ℕ = length (payload number entry ++ rest) in
    let end = fields_end whole entry rest fits own in
    let parts : (eight number ++ fields_of entry) ++ rest ≡ eight number ++ (fields_of entry ++ rest) = append_assoc (eight number) (fields_of entry) rest in
    let read : number_at (Short whole) w64 ((eight number ++ fields_of entry) ++ rest) ≡ Ok (number, fields_of entry ++ rest) = ap (number_at (Short whole) w64) parts ∙ eight_again whole number (fields_of entry ++ rest) lt in
    (end.0, rw (kind_is_read entry fits, read, end.1) refl)

-- no payload begins another, but for one that runs to its end
pub none_begins : (number other_number : ℕ) (entry other : Entry) (rest : List ℕ) → number < 2 ^ 64 → other_number < 2 ^ 64 → IsReadable entry → IsReadable other → runs_on entry ≡ false
    → payload other_number other ≡ payload number entry ++ rest → rest ≡ []
none_begins number other_number entry other rest lt other_lt fits other_fits own same =
    let end = entry_end number entry rest lt fits own in
    let read : (ends rest end.0 entry >>= λ entry. Ok (number, entry)) ≡ Ok (other_number, other) = sym end.1 ∙ ap entry_at (sym same) ∙ entry_again other_number other other_lt other_fits in
    let b = bind_ok (ends rest end.0 entry) (λ entry. Ok (number, entry)) (other_number, other) read in
    let c = check_ok (eqb (length rest) 0) (Trailing end.0) (Ok entry) b.0 b.1 in
    nil_from_length rest (eqb-true _ _ c.0)

pub is_found : (bytes : List ℕ) (r : Result (ℕ × Entry) EntryFault) → IsBytes bytes → IsReading (λ x. x) r (entry_at bytes) → IfOk r (λ x. (x.0 < 2 ^ 64) × IsReadable x.1 × (bytes ≡ payload x.0 x.1))
is_found bytes (Ok x) fit given =
    let read = entry_takes bytes x fit given in
    (read.fits, read.readable, read.spelled)
is_found bytes (Err fault) fit given = tt

pub is_read :
    (bytes : List ℕ) (r : Result (ℕ × Entry) EntryFault) → IsReading (λ x. x) r (entry_at bytes) →
    (number : ℕ) (entry : Entry) → number < 2 ^ 64 → IsReadable entry → bytes ≡ payload number entry → IsReading (λ x. x) r (Ok (number, entry))
is_read bytes r given number entry lt fits spelled =
    subst (λ (read : Result (ℕ × Entry) EntryFault). IsReading (λ x. x) r read) (ap entry_at spelled ∙ entry_again number entry lt fits) given
