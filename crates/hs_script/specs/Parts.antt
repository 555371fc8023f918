-- What one word of a line gives: a name, a key, a number, a handle or data.
use Rattle.std.specs.Prelude.{ℕ, ◌+◌, ◌-◌, ◌*◌, ◌^◌, Bool, false, not, ◌==◌, ◌&&◌, if◌then◌else◌, List, [], ◌∷◌, length, Option, Some, None, bytes_eq, codes, fold, nat_le, nat_lt}
use Rattle.std.specs.List.{list_all}
use Rattle.std.specs.Option.{option_map}
use Rattle.std.specs.Result.{result_ok}
use Rattle.hex.specs.Hex.{decode_of}
use Rattle.hs_limits.specs.Key.{is_key}
use Rattle.hs_limits.specs.Name.{is_name}

-- ---- names and keys

-- the name of a session
abbrev pub name_of : List ℕ → Option (List ℕ)
name_of word = if is_name word then Some word else None

-- the key of a root
abbrev pub key_of : List ℕ → Option (List ℕ)
key_of word = if is_key word then Some word else None

-- ---- numbers

-- one of 0-9
abbrev pub is_digit : ℕ → Bool
is_digit b = nat_le 48 b && nat_le b 57

-- whether the first digit is a zero before others
abbrev pub has_leading_zero : List ℕ → Bool
has_leading_zero (first ∷ second ∷ rest) = first == 48
has_leading_zero other = false

-- the value of decimal digits
abbrev pub value_of : List ℕ → ℕ
value_of digits = fold (λ n d. n * 10 + (d - 48)) 0 digits

-- a decimal number below a limit: digits without a sign or a leading zero
unfoldable pub number_below : ℕ → List ℕ → Option ℕ
number_below limit digits =
    if ((not (length digits == 0) && list_all is_digit digits) && not (has_leading_zero digits)) && nat_lt (value_of digits) limit then Some (value_of digits) else None

-- the number of a peer, below 2^8
abbrev pub peer_number : List ℕ → Option ℕ
peer_number word = number_below (2 ^ 8) word

-- the number of a message, below 2^64
abbrev pub message_number : List ℕ → Option ℕ
message_number word = number_below (2 ^ 64) word

-- a handle: the letter h and a number below 2^32
abbrev pub handle_of : List ℕ → Option ℕ
handle_of [] = None
handle_of (letter ∷ digits) = if letter == 104 then number_below (2 ^ 32) digits else None

-- one handle more
abbrev pub with_handle : Option ℕ → Option (List ℕ) → Option (List ℕ)
with_handle None handles = None
with_handle (Some handle) handles = option_map (λ hs. handle ∷ hs) handles

-- any number of handles, where each word is one
unfoldable pub handles_of : List (List ℕ) → Option (List ℕ)
handles_of [] = Some []
handles_of (word ∷ words) = with_handle (handle_of word) (handles_of words)

-- ---- data

-- hexadecimal digits of either case, two for each byte
abbrev pub decoded : List ℕ → Option (List ℕ)
decoded text = if length text == 0 then None else result_ok (decode_of text)

-- the data of a write: a dash for none, or digits
abbrev pub payload_of : List ℕ → Option (List ℕ)
payload_of word = if bytes_eq word (codes "-") then Some [] else decoded word
