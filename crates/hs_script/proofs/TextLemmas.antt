-- Numbers parted by commas.
use Rattle.std.proofs.Common.{◌≡◌, ℕ, List, [], ◌∷◌, ◌++◌, ◌<◌, length, ◌-◌, get_or, take, drop, sym, ap, ◌∙◌, append_assoc, arith}
use Rattle.std.specs.Prelude.{codes}
use Rattle.std.specs.Fmt.{decimal}
use Rattle.std.specs.List.{flat_map}
use Rattle.std.proofs.lemmas.List.{append-nil, take_all}
use Rattle.hex.specs.Hex.{encode_lower, encode_with}
use Rattle.hs_script.specs.Replies.{dash_of}
use Rattle.hs_script.specs.Text.{data_text, list_text}

-- the first number, and each other behind a comma
list_text_cons : (n : ℕ) (ns : List ℕ) → list_text (n ∷ ns) ≡ decimal n ++ flat_map (λ m. 44 ∷ decimal m) ns
list_text_cons n [] = sym (append-nil (decimal n))
list_text_cons n (m ∷ ns) = ap (λ t. decimal n ++ (44 ∷ t)) (list_text_cons m ns)

-- the same of what a slice pattern finds
pub list_text_at : (ns : List ℕ) → 0 < length ns → list_text ns ≡ decimal (get_or ns 0 0) ++ flat_map (λ m. 44 ∷ decimal m) (take (length ns - 1) (drop 1 ns))
list_text_at [] some = absurd (omega arith)
list_text_at (n ∷ ns) some =
    let rest = take_all (length (n ∷ ns) - 1) ns (omega arith) in
    rw rest (list_text_cons n ns)

-- a text put at the end in two pieces
pub put_in_two : (old middle first rest all : List ℕ) → middle ≡ old ++ first → all ≡ first ++ rest → middle ++ rest ≡ old ++ all
put_in_two old middle first rest all e whole = rw (e, whole) (append_assoc old first rest)

-- ---- the line of a read

-- its ends around the digits make the line
pub read_text : (who bytes handles : List ℕ) → (who ++ (codes " bytes " ++ dash_of bytes)) ++ (encode_lower bytes ++ (handles ++ 10 ∷ [])) ≡ who ++ (32 ∷ ((codes "bytes " ++ (data_text bytes ++ handles)) ++ 10 ∷ []))
unfolding encode_with
read_text who [] handles = append_assoc who (codes " bytes -") (handles ++ 10 ∷ [])
read_text who (b ∷ bs) handles =
    append_assoc who (codes " bytes ") (encode_lower (b ∷ bs) ++ (handles ++ 10 ∷ []))
    ∙ ap (λ t. who ++ (codes " bytes " ++ t)) (sym (append_assoc (encode_lower (b ∷ bs)) handles (10 ∷ [])))
