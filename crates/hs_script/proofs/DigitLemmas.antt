-- The tables of digits, and the loop over pairs of them.
use Rattle.std.proofs.Common.{◌≡◌, ℕ, zero, suc, ◌+◌, ◌*◌, ◌<◌, ◌≤◌, ◌==◌, Bool, true, false, ◌&&◌, inl, inr, List, length, take, drop, slice_index, slice_set, Option, Some, None, unwrap_or, Result, Ok, Err, refl, sym, ap, subst, arith}
use Rattle.std.specs.Result.{result_ok}
use Rattle.std.proofs.lemmas.Bool.{and_parts, cases_lt, eqb-true}
use Rattle.hex.specs.Hex.{decode_pairs, digit_or_error, hex_digit_value, pair_value, value_at}
use Rattle.hex.specs.declared.error.FromHexError.{FromHexError}
use Rattle.hex.specs.declared.error.FromHexError.TheVariants.{InvalidHexCharacter}
use Rattle.hex.proofs.Pairs.{decode_done, decode_err, decode_step, prepend}
use Rattle.hs_script.specs.Giving.{Decodes}
use Rattle.hs_script.specs.declared.digits.TheConstants.{HIGH, LOW}

-- whether the tables have the value of a byte
abbrev has_value : ℕ → Bool
has_value c = (unwrap_or (hex_digit_value c) 256 == slice_index LOW c) && (unwrap_or (hex_digit_value c) 16 * 16 == slice_index HIGH c)

-- of each byte below a number
abbrev has_values : ℕ → Bool
has_values zero = true
has_values (suc n) = has_value n && has_values n

values_at : (n c : ℕ) → has_values n ≡ true → c < n → has_value c ≡ true
values_at zero c h lt = absurd (omega arith)
values_at (suc n) c h lt =
    let parts = and_parts (has_value n) (has_values n) h in
    elim (cases_lt c n) [
      | inl below ↦ values_at n c parts.1 below
      | inr top ↦
          let e : c ≡ n = omega arith in
          rw e parts.0
    ]

both : (c : ℕ) → c < 256 → ((unwrap_or (hex_digit_value c) 256 == slice_index LOW c) ≡ true) × ((unwrap_or (hex_digit_value c) 16 * 16 == slice_index HIGH c) ≡ true)
both c below = and_parts (unwrap_or (hex_digit_value c) 256 == slice_index LOW c) (unwrap_or (hex_digit_value c) 16 * 16 == slice_index HIGH c) (values_at 256 c refl below)

-- the tables have the value of each digit, and 256 of what is none
pub value_in_low : (c : ℕ) → c < 256 → slice_index LOW c ≡ unwrap_or (hex_digit_value c) 256
value_in_low c below = sym (eqb-true (unwrap_or (hex_digit_value c) 256) (slice_index LOW c) (both c below).0)

pub value_in_high : (c : ℕ) → c < 256 → slice_index HIGH c ≡ unwrap_or (hex_digit_value c) 16 * 16
value_in_high c below = sym (eqb-true (unwrap_or (hex_digit_value c) 16 * 16) (slice_index HIGH c) (both c below).1)

-- a digit's value is below 16
value_small : (c v : ℕ) → hex_digit_value c ≡ Some v → v < 16
value_small c v h = grind (arith)

low_by : (c : ℕ) (o : Option ℕ) → hex_digit_value c ≡ o → unwrap_or o 256 ≤ 256
low_by c (Some v) is = let small = value_small c v is in omega (arith, small)
low_by c None is = omega arith

high_by : (c : ℕ) (o : Option ℕ) → hex_digit_value c ≡ o → unwrap_or o 16 * 16 ≤ 256
high_by c (Some v) is = let small = value_small c v is in omega (arith, small)
high_by c None is = omega arith

-- and nothing above 256
pub most_in_low : (c : ℕ) → c < 256 → slice_index LOW c ≤ 256
most_in_low c below = subst (λ n. n ≤ 256) (sym (value_in_low c below)) (low_by c (hex_digit_value c) refl)

pub most_in_high : (c : ℕ) → c < 256 → slice_index HIGH c ≤ 256
most_in_high c below = subst (λ n. n ≤ 256) (sym (value_in_high c below)) (high_by c (hex_digit_value c) refl)

-- ---- pairs

-- two digits
read_by : (a b i : ℕ) (o p : Option ℕ) → hex_digit_value a ≡ o → hex_digit_value b ≡ p → unwrap_or o 16 * 16 + unwrap_or p 256 ≤ 255
    → Some (unwrap_or o 16 * 16 + unwrap_or p 256) ≡ result_ok (pair_value a b i)
read_by a b i (Some v) (Some w) ha hb low =
    let first : value_at a i ≡ Ok v = ap (digit_or_error a i) ha in
    let second : value_at b (i + 1) ≡ Ok w = ap (digit_or_error b (i + 1)) hb in
    let pair : pair_value a b i ≡ Ok (v * 16 + w) = rw (first, second) refl in
    sym (ap result_ok pair)
read_by a b i (Some v) None ha hb low = absurd (omega (arith, low))
read_by a b i None p ha hb low = absurd (omega (arith, low))

pub pair_read : (a b i : ℕ) → unwrap_or (hex_digit_value a) 16 * 16 + unwrap_or (hex_digit_value b) 256 ≤ 255
    → Some (unwrap_or (hex_digit_value a) 16 * 16 + unwrap_or (hex_digit_value b) 256) ≡ result_ok (pair_value a b i)
pair_read a b i low = read_by a b i (hex_digit_value a) (hex_digit_value b) refl refl low

-- one is none
none_by : (a b i : ℕ) (o p : Option ℕ) → hex_digit_value a ≡ o → hex_digit_value b ≡ p → 255 < unwrap_or o 16 * 16 + unwrap_or p 256
    → None ≡ result_ok (pair_value a b i)
none_by a b i (Some v) (Some w) ha hb high =
    let v_small = value_small a v ha in
    let w_small = value_small b w hb in
    absurd (omega (arith, high, v_small, w_small))
none_by a b i (Some v) None ha hb high =
    let first : value_at a i ≡ Ok v = ap (digit_or_error a i) ha in
    let second : value_at b (i + 1) ≡ Err (InvalidHexCharacter b (i + 1)) = ap (digit_or_error b (i + 1)) hb in
    let pair : pair_value a b i ≡ Err (InvalidHexCharacter b (i + 1)) = rw (first, second) refl in
    sym (ap result_ok pair)
none_by a b i None p ha hb high =
    let first : value_at a i ≡ Err (InvalidHexCharacter a i) = ap (digit_or_error a i) ha in
    let pair : pair_value a b i ≡ Err (InvalidHexCharacter a i) = rw first refl in
    sym (ap result_ok pair)

pub pair_none : (a b i : ℕ) → 255 < unwrap_or (hex_digit_value a) 16 * 16 + unwrap_or (hex_digit_value b) 256
    → None ≡ result_ok (pair_value a b i)
pair_none a b i high = none_by a b i (hex_digit_value a) (hex_digit_value b) refl refl high

-- ---- the loop

-- so far, the front of the bytes is decoded
abbrev pub IsDecodedTo : List ℕ → List ℕ → ℕ → Type 0
IsDecodedTo digits bytes i = decode_pairs 0 digits ≡ prepend (take i bytes) (decode_pairs (2 * i) (drop (2 * i) digits))

-- what a pair gave
ok_of : (r : Result ℕ FromHexError) (v : ℕ) → Some v ≡ result_ok r → r ≡ Ok v
ok_of (Ok x) v is = ap (λ o. Ok (unwrap_or o 0)) (sym is)
ok_of (Err e) v is = cc is

err_of : (r : Result ℕ FromHexError) → None ≡ result_ok r → (e : FromHexError) × (r ≡ Err e)
err_of (Ok x) is = cc is
err_of (Err e) is = (e, refl)

-- a pair more
pub decodes_more : (digits bytes : List ℕ) (i byte : ℕ) → 2 * i + 1 < length digits → i < length bytes
    → Some byte ≡ result_ok (pair_value (slice_index digits (2 * i)) (slice_index digits (2 * i + 1)) (2 * i))
    → IsDecodedTo digits bytes i → IsDecodedTo digits (slice_set bytes i byte) (i + 1)
decodes_more digits bytes i byte fits room pair before = decode_step digits bytes i byte fits room (ok_of _ byte pair) before

-- a pair that is none
refused : (bytes : List ℕ) (r : Result (List ℕ) FromHexError) (e : FromHexError) → r ≡ Err e → Decodes false r bytes
refused bytes (Ok x) e is = cc is
refused bytes (Err x) e is = tt

pub decodes_not : (digits bytes bytes' : List ℕ) (i : ℕ) → 2 * i + 1 < length digits
    → None ≡ result_ok (pair_value (slice_index digits (2 * i)) (slice_index digits (2 * i + 1)) (2 * i))
    → IsDecodedTo digits bytes i → Decodes false (decode_pairs 0 digits) bytes'
decodes_not digits bytes bytes' i fits pair before =
    let bad = err_of (pair_value (slice_index digits (2 * i)) (slice_index digits (2 * i + 1)) (2 * i)) pair in
    refused bytes' (decode_pairs 0 digits) bad.0 (decode_err digits bytes i bad.0 fits bad.1 before)

-- all pairs
accepted : (bytes : List ℕ) (r : Result (List ℕ) FromHexError) → r ≡ Ok bytes → Decodes true r bytes
accepted bytes r is = subst (λ (r : Result (List ℕ) FromHexError). Decodes true r bytes) (sym is) refl

pub decodes_all : (digits bytes : List ℕ) (i : ℕ) → length bytes ≤ i → length digits ≤ 2 * i → IsDecodedTo digits bytes i → Decodes true (decode_pairs 0 digits) bytes
decodes_all digits bytes i whole none before = accepted bytes (decode_pairs 0 digits) (decode_done digits bytes i whole none before)
