-- Which digits give data.
use Rattle.std.proofs.Common.{◌≡◌, ℕ, ◌%◌, ◌<◌, true, false, List, length, Some, None, Result, Ok, Err, inl, inr, refl, sym, ap, ◌∙◌, arith}
use Rattle.std.specs.Prelude.{IsSome}
use Rattle.std.specs.List.{list_all}
use Rattle.std.specs.Result.{result_ok}
use Rattle.std.proofs.lemmas.Bool.Decides.{nat_tests}
use Rattle.std.proofs.lemmas.List.Folds.{list_all_at}
use Rattle.std.proofs.lemmas.List.Sums.{list_all-from_AllPass}
use Rattle.hex.specs.Hex.{decode_of, decode_pairs, is_hex_digit}
use Rattle.hex.specs.declared.error.FromHexError.{FromHexError}
use Rattle.hex.proofs.HexLemmas.{decode_of-err, decode_of-even, decode_of-odd, decode_of-ok}
use Rattle.hs_script.specs.Giving.{Decodes}
use Rattle.hs_script.specs.Parts.{decoded}

-- some digits give what they decode to
given : (text : List ℕ) → 0 < length text → decoded text ≡ result_ok (decode_of text)
given text some = grind (arith, nat_tests)

-- an odd number of digits gives nothing
pub odd_gives_none : (text : List ℕ) → length text % 2 ≡ 1 → decoded text ≡ None
odd_gives_none text odd =
    given text (omega arith) ∙ ap result_ok (decode_of-odd text odd)

-- ---- by the pairs

by_pairs : (text : List ℕ) → 0 < length text → length text % 2 ≡ 0 → decoded text ≡ result_ok (decode_pairs 0 text)
by_pairs text some even = given text some ∙ ap result_ok (decode_of-even text even)

bytes_of : (bytes : List ℕ) (r : Result (List ℕ) FromHexError) → Decodes true r bytes → result_ok r ≡ Some bytes
bytes_of bytes (Ok decoded) d = ap Some (sym d)
bytes_of bytes (Err fault) d = absurd d

no_bytes_of : (bytes : List ℕ) (r : Result (List ℕ) FromHexError) → Decodes false r bytes → result_ok r ≡ None
no_bytes_of bytes (Ok decoded) d = absurd d
no_bytes_of bytes (Err fault) d = refl

pub pairs_give : (text bytes : List ℕ) → 0 < length text → length text % 2 ≡ 0 → Decodes true (decode_pairs 0 text) bytes → decoded text ≡ Some bytes
pairs_give text bytes some even d = by_pairs text some even ∙ bytes_of bytes (decode_pairs 0 text) d

pub pairs_give_none : (text bytes : List ℕ) → 0 < length text → length text % 2 ≡ 0 → Decodes false (decode_pairs 0 text) bytes → decoded text ≡ None
pairs_give_none text bytes some even d = by_pairs text some even ∙ no_bytes_of bytes (decode_pairs 0 text) d

-- ---- without memory

some_of_digits : (text : List ℕ) (d : Result (List ℕ) FromHexError) → decode_of text ≡ d → length text % 2 ≡ 0 → list_all is_hex_digit text ≡ true → IsSome (result_ok d)
some_of_digits text (Ok bytes) e even all = refl
some_of_digits text (Err fault) e even all =
    elim (decode_of-err text fault e) [
      | inl odd ↦ absurd (omega (arith, odd.0))
      | inr bad ↦ cc (sym all ∙ list_all_at is_hex_digit text bad.0 0 bad.2 bad.3)
    ]

none_of_others : (text : List ℕ) (d : Result (List ℕ) FromHexError) → decode_of text ≡ d → list_all is_hex_digit text ≡ false → result_ok d ≡ None
none_of_others text (Ok bytes) e some = cc (sym some ∙ list_all-from_AllPass is_hex_digit text (decode_of-ok text bytes e).1)
none_of_others text (Err fault) e some = refl

-- an even number of digits gives data, and where one is none there are none
pub digits_give : (text : List ℕ) → 0 < length text → length text % 2 ≡ 0 → list_all is_hex_digit text ≡ true → IsSome (decoded text)
digits_give text some even all =
    let e = given text some in
    let found = some_of_digits text (decode_of text) refl even all in
    rw e found

pub others_give_none : (text : List ℕ) → 0 < length text → list_all is_hex_digit text ≡ false → decoded text ≡ None
others_give_none text some bad = given text some ∙ none_of_others text (decode_of text) refl bad
