-- The head of a side that is read is the one that is spelled.
use Rattle.std.proofs.Common.{◌≡◌, ◌∙◌, inl, inr, ℕ, ◌<◌, ◌≤◌, ◌^◌, ◌&&◌, ◌==◌, Bool, true, false, ltb, List, [], ◌∷◌, length, get_or, take, drop, Option, None, Some, Result, Ok, Err, refl, ap, sym, subst, arith, if◌then◌else◌}
use Rattle.std.specs.Int.{w64, from_be_bytes, to_be_bytes}
use Rattle.std.proofs.lemmas.Bool.{cases_lt, eqb-true, le-ltb}
use Rattle.std.proofs.lemmas.List.{drop-take, get_or-take, get_or_past, take-take, take_all}
use Rattle.std.proofs.lemmas.Nat.{be_bytes_8}
use Rattle.hs_limits.specs.Fields.{◌>>=◌, check}
use Rattle.hs_limits.proofs.FieldLemmas.{IsBytes, IsBytes-drop, IsBytes-take, wide64, check_ok}
use Rattle.hs_ports.specs.Disk.{byte_at}
use Rattle.hs_side.specs.declared.header.Header.{Header}
use Rattle.hs_side.specs.declared.fault.SideFault.{SideFault}
use Rattle.hs_side.specs.declared.fault.SideFault.TheVariants.{NotALog, Disk, NoMemory}
use Rattle.hs_side.specs.Current.{generation_in}
use Rattle.hs_side.specs.Steps.{IsHead, IsHeadOf}
use Rattle.hs_side.specs.Reading.{is_open, is_blank, is_named, header_of, generation_of, head_of}
use Rattle.hs_side.specs.Spelling.{head}
use Rattle.hs_side.proofs.CrashLemmas.{ok_is}

and_true : (a b : Bool) → (a && b) ≡ true → (a ≡ true) × (b ≡ true)
and_true true b e = (refl, e)
and_true false b e = absurd cc

-- the bytes that are named
pub record Named (bytes : List ℕ) : Type 0 where
  pub h : byte_at bytes 1 ≡ 72
  pub s : byte_at bytes 2 ≡ 83
  pub l : byte_at bytes 3 ≡ 76
  pub one : byte_at bytes 4 ≡ 49

pub named : (bytes : List ℕ) → is_named bytes ≡ true → Named bytes
named bytes e =
    let a = and_true _ (byte_at bytes 4 == 49) e in
    let b = and_true _ (byte_at bytes 3 == 76) a.0 in
    let c = and_true (byte_at bytes 1 == 72) (byte_at bytes 2 == 83) b.0 in
    record { h = eqb-true _ _ c.0; s = eqb-true _ _ c.1; l = eqb-true _ _ b.1; one = eqb-true _ _ a.1 }

-- what it takes to read a head
pub record HeadIs (bytes : List ℕ) (x : Header × ℕ) : Type 0 where
  pub named : Named bytes
  pub version : byte_at bytes 5 ≡ 1
  pub is : (header_of bytes, generation_of bytes) ≡ x

pub head_is : (bytes : List ℕ) (x : Header × ℕ) → head_of bytes ≡ Ok x → HeadIs bytes x
head_is bytes x e =
    let one = check_ok (is_named bytes) 1 (check (byte_at bytes 5 == 1) 5 >>= λ known. Ok (header_of bytes, generation_of bytes)) x e in
    let two = check_ok (byte_at bytes 5 == 1) 5 (Ok (header_of bytes, generation_of bytes)) x one.1 in
    record { named = named bytes one.0; version = eqb-true _ _ two.0; is = ok_is {E = ℕ} _ _ two.1 }

-- it is spelled so
pub spelled_head : (bytes : List ℕ) (x : Header × ℕ) → length bytes ≡ 17 → IsBytes bytes → is_open (byte_at bytes 0) ≡ true → head_of bytes ≡ Ok x → bytes ≡ head 165 x.0 x.1
spelled_head bytes x long fit opens e =
    let is = head_is bytes x e in
    cells bytes long fit (eqb-true _ _ opens) is.named is.version ∙ ap (λ (y : Header × ℕ). head 165 y.0 y.1) is.is
  where
    cells : (bytes : List ℕ) → length bytes ≡ 17 → IsBytes bytes → byte_at bytes 0 ≡ 165 → Named bytes → byte_at bytes 5 ≡ 1 → bytes ≡ head 165 (header_of bytes) (generation_of bytes)
    cells [] long fit gate name version = absurd (omega arith)
    cells (a ∷ []) long fit gate name version = absurd (omega arith)
    cells (a ∷ b ∷ []) long fit gate name version = absurd (omega arith)
    cells (a ∷ b ∷ c ∷ []) long fit gate name version = absurd (omega arith)
    cells (a ∷ b ∷ c ∷ d ∷ []) long fit gate name version = absurd (omega arith)
    cells (a ∷ b ∷ c ∷ d ∷ e ∷ []) long fit gate name version = absurd (omega arith)
    cells (a ∷ b ∷ c ∷ d ∷ e ∷ f ∷ []) long fit gate name version = absurd (omega arith)
    cells (a ∷ b ∷ c ∷ d ∷ e ∷ f ∷ g ∷ []) long fit gate name version = absurd (omega arith)
    cells (a ∷ b ∷ c ∷ d ∷ e ∷ f ∷ g ∷ h ∷ []) long fit gate name version = absurd (omega arith)
    cells (a ∷ b ∷ c ∷ d ∷ e ∷ f ∷ g ∷ h ∷ k ∷ rest) long fit gate name version =
        let size : length rest ≡ 8 = omega arith in
        let whole : take 8 rest ≡ rest = take_all 8 rest (omega arith) in
        let back : to_be_bytes w64 (from_be_bytes w64 (take 8 rest)) ≡ rest = ap (λ (l : List ℕ). to_be_bytes w64 (from_be_bytes w64 l)) whole ∙ be_bytes_8 rest (from_be_bytes w64 rest) size (IsBytes-drop 9 (a ∷ b ∷ c ∷ d ∷ e ∷ f ∷ g ∷ h ∷ k ∷ rest) fit) refl in
        let front : a ∷ b ∷ c ∷ d ∷ e ∷ f ∷ g ∷ h ∷ k ∷ rest ≡ 165 ∷ 72 ∷ 83 ∷ 76 ∷ 49 ∷ 1 ∷ g ∷ h ∷ k ∷ rest = cc (gate, name.h, name.s, name.l, name.one, version) in
        front ∙ ap (λ (l : List ℕ). 165 ∷ 72 ∷ 83 ∷ 76 ∷ 49 ∷ 1 ∷ g ∷ h ∷ k ∷ l) (sym back)

-- a list of bytes
pub bytes_within : (l : List ℕ) → ((i : ℕ) → i < length l → get_or l i 0 < 256) → IsBytes l
bytes_within l within i = elim (cases_lt i (length l)) [
  | inl low ↦ within i low
  | inr past ↦ rw (get_or_past l i 0 past) (omega arith)
]

-- what the first bytes tell is what the side tells
pub head_told : (result : Result (Option (Header × ℕ)) SideFault) (seen held : List ℕ) → 18 ≤ length seen → length held ≡ 17 → held ≡ take 17 seen → IsBytes held → IsHead result held → IsHeadOf result seen
head_told result seen held long size is fit told = go result told
  where
    gate : byte_at held 0 ≡ byte_at seen 0
    gate = ap (λ (l : List ℕ). get_or l 0 0) is ∙ get_or-take 17 seen 0 0 (omega arith)

    test : ltb (length seen) 18 ≡ false
    test = le-ltb _ _ long

    shut : is_open (byte_at held 0) ≡ false → is_blank seen ≡ true
    shut e = rw (test, ap is_open (sym gate) ∙ e) refl

    opens : is_open (byte_at held 0) ≡ true → is_blank seen ≡ false
    opens e = rw (test, ap is_open (sym gate) ∙ e) refl

    below : (x : Header × ℕ) → head_of held ≡ Ok x → x.1 < 2 ^ 64
    below x e = subst (λ (y : Header × ℕ). y.1 < 2 ^ 64) (head_is held x e).is (wide64.below (take 8 (drop 9 held)) (IsBytes-take 8 (drop 9 held) (IsBytes-drop 9 held fit)))

    go : (r : Result (Option (Header × ℕ)) SideFault) → IsHead r held → IsHeadOf r seen
    go (Ok None) e = shut e
    go (Ok (Some x)) e = (opens e.0, ap head_of (sym is) ∙ e.1, sym is ∙ spelled_head held x size fit e.0 e.1, below x e.1)
    go (Err (NotALog at)) e = (opens e.0, ap head_of (sym is) ∙ e.1)
    go (Err Disk) e = absurd e
    go (Err NoMemory) e = absurd e

-- the generation is that of the first 17 bytes, where byte 0 is an open gate
pub generation_told : (seen held : List ℕ) → 18 ≤ length seen → held ≡ take 17 seen → (if is_open (byte_at held 0) then Some (generation_of held) else None) ≡ generation_in seen
generation_told seen held long is = go (is_open (byte_at seen 0)) refl
  where
    test : ltb (length seen) 18 ≡ false
    test = le-ltb _ _ long

    gate : byte_at held 0 ≡ byte_at seen 0
    gate = ap (λ (l : List ℕ). get_or l 0 0) is ∙ get_or-take 17 seen 0 0 (omega arith)

    field : generation_of held ≡ generation_of seen
    field = ap (λ bytes. generation_of bytes) is ∙ ap (λ bytes. from_be_bytes w64 bytes) (ap (λ bytes. take 8 bytes) (drop-take 9 8 seen) ∙ take-take 8 8 (drop 9 seen) (omega arith))

    go : (opens : Bool) → is_open (byte_at seen 0) ≡ opens → (if is_open (byte_at held 0) then Some (generation_of held) else None) ≡ generation_in seen
    go true e = rw (gate, test, e) (ap (λ g. Some g) field)
    go false e = rw (gate, test, e) refl
