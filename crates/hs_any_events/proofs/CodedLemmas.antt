-- Writes that bring any addresses: payloads that tell the address of their block, and the naming that finds it there.
use Rattle.std.proofs.Common.{◌≡◌, ◌∙◌, sym, ap, inl, inr, ℕ, zero, suc, ◌+◌, ◌-◌, ◌<◌, ◌≤◌, Bool, true, false, cond, if◌then◌else◌, List, [], ◌∷◌, length, drop, slice_index_or, All, Some, Result, Ok, Err, refl, nat_lt, arith}
use Rattle.std.proofs.lemmas.Bool.Decides.{nat_tests}
use Rattle.std.specs.List.{AllByRecursion}
use Rattle.hs_limits.proofs.ReadingLemmas.{read_again}
use Rattle.hs_limits.specs.Block.{Block, IsBlock, spell}
use Rattle.hs_limits.specs.declared.address.Address.{Address}
use Rattle.hs_limits.specs.declared.spelling.SpellingFault.{SpellingFault}
use Rattle.hs_limits.specs.declared.spelling.TheConstants.{MOST_BYTES, MOST_POINTERS}
use Rattle.hs_limits.specs.Reading.{read_block}
use Rattle.hs_model.proofs.Members.{Member, same-refl, same_from}
use Rattle.hs_model.specs.declared.op.Op.{Op}
use Rattle.hs_model.specs.declared.op.Op.TheVariants as op
use Rattle.hs_model.specs.Reach.{is_same}
use Rattle.hs_standing.specs.Held.{GivesAddresses, Has32Bytes}

-- a naming, a number below which each payload so far starts, and the addresses that writes bring
pub record Code : Type 0 where
  pub name : List ℕ → Address
  pub base : ℕ
  pub table : List Address

-- ---- payloads that tell an address

-- the place of an address in a table
abbrev pub place_of : Address → List Address → ℕ
place_of a [] = 0
place_of a (b ∷ table) = if is_same a b then 0 else suc (place_of a table)

-- a payload that starts with the number of an address
abbrev pub coded_payload : Code → Address → List ℕ → List ℕ
coded_payload code a payload = (code.base + place_of a code.table) ∷ drop 1 payload

-- a write that brings an address writes such a payload; every other operation stays
abbrev pub coded_op : Code → Op → Op
coded_op code (op.Write session payload handles (Some a)) = op.Write session (coded_payload code a payload) handles (Some a)
coded_op code other = other

-- ---- the naming that finds it there

-- of bytes in which this payload was read
abbrev pub name_by : Code → List ℕ → List ℕ → Address
name_by code bytes [] = code.name bytes
name_by code bytes (n ∷ rest) = if nat_lt n code.base then code.name bytes else slice_index_or code.table (n - code.base) (code.name bytes)

-- of bytes in which this was read
abbrev pub name_read : Code → List ℕ → Result Block SpellingFault → Address
name_read code bytes (Ok block) = name_by code bytes block.bytes
name_read code bytes (Err fault) = code.name bytes

-- a block whose payload starts from the base on has the address that it tells; the name of any other is what it was
abbrev pub coded_name : Code → List ℕ → Address
coded_name code bytes = name_read code bytes (read_block bytes)

-- ---- lengths

pub coded_short : (code : Code) (a : Address) (payload : List ℕ) → length payload ≤ MOST_BYTES → length (coded_payload code a payload) ≤ MOST_BYTES
coded_short code a [] short = omega arith
coded_short code a (n ∷ rest) short = short

pub short_coded : (code : Code) (a : Address) (payload : List ℕ) → length (coded_payload code a payload) ≤ MOST_BYTES → length payload ≤ MOST_BYTES
short_coded code a [] short = omega arith
short_coded code a (n ∷ rest) short = short

-- the test by which a write is refused as too long
pub coded_long : (code : Code) (a : Address) (payload : List ℕ) → nat_lt MOST_BYTES (length (coded_payload code a payload)) ≡ nat_lt MOST_BYTES (length payload)
coded_long code a [] = refl
coded_long code a (n ∷ rest) = refl

-- ---- the address of a block whose payload tells it

place_is : (a d : Address) (table : List Address) → Member a table → slice_index_or table (place_of a table) d ≡ a
place_is a d [] m = absurd m
place_is a d (b ∷ table) m = go (place_is a d table) (is_same a b) refl m
  where
    go : (Member a table → slice_index_or table (place_of a table) d ≡ a) → (t : Bool) → is_same a b ≡ t → Member a (b ∷ table) → slice_index_or (b ∷ table) (cond t 0 (suc (place_of a table))) d ≡ a
    go ih true same m = sym (same_from a b same)
    go ih false other (inl e) = absurd (cc (sym other ∙ ap (λ x. is_same a x) (sym e) ∙ same-refl a))
    go ih false other (inr m) = ih m

from_base : (base k : ℕ) → nat_lt (base + k) base ≡ false
from_base base k = grind (arith, nat_tests)

name_by_place : (code : Code) (a : Address) (bytes rest : List ℕ) → Member a code.table → name_by code bytes ((code.base + place_of a code.table) ∷ rest) ≡ a
name_by_place code a bytes rest m =
    let k : ℕ = place_of a code.table in
    let d : Address = code.name bytes in
    ap (λ (t : Bool). cond t d (slice_index_or code.table (code.base + k - code.base) d)) (from_base code.base k)
    ∙ ap (λ (n : ℕ). slice_index_or code.table n d) (omega arith)
    ∙ place_is a d code.table m

pub coded_named : (code : Code) (a : Address) (pointers : List Address) (payload : List ℕ) → Member a code.table → length pointers ≤ MOST_POINTERS → All (λ pointer. length pointer.0 ≡ 32) pointers → length payload ≤ MOST_BYTES
    → coded_name code (spell (record { pointers = pointers; bytes = coded_payload code a payload })) ≡ a
coded_named code a pointers payload m few whole short =
    let block : Block = record { pointers = pointers; bytes = coded_payload code a payload } in
    let bounds : IsBlock block = record { pointers = few; bytes = coded_short code a payload short } in
    ap (λ (read : Result Block SpellingFault). name_read code (spell block) read) (read_again block bounds whole)
    ∙ name_by_place code a (spell block) (drop 1 payload) m

-- ---- each name is an address

whole_at : (table : List Address) (d : Address) (k : ℕ) → Has32Bytes d → AllByRecursion Has32Bytes table → Has32Bytes (slice_index_or table k d)
whole_at [] d k whole all = whole
whole_at (a ∷ table) d zero whole all = all.0
whole_at (a ∷ table) d (suc k) whole all = whole_at table d k whole all.1

module _ (code : Code) (names : GivesAddresses code.name) (table : AllByRecursion Has32Bytes code.table) (bytes : List ℕ) where
  tested : (t : Bool) (k : ℕ) → Has32Bytes (cond t (code.name bytes) (slice_index_or code.table k (code.name bytes)))
  tested true k = names bytes
  tested false k = whole_at code.table (code.name bytes) k (names bytes) table

  by_payload : (payload : List ℕ) → Has32Bytes (name_by code bytes payload)
  by_payload [] = names bytes
  by_payload (n ∷ rest) = tested (nat_lt n code.base) (n - code.base)

  pub by_read : (read : Result Block SpellingFault) → Has32Bytes (name_read code bytes read)
  by_read (Ok block) = by_payload block.bytes
  by_read (Err fault) = names bytes

pub coded_gives : (code : Code) → GivesAddresses code.name → AllByRecursion Has32Bytes code.table → GivesAddresses (coded_name code)
coded_gives code names table bytes = by_read code names table bytes (read_block bytes)

-- ---- other names stay

-- a payload that doesn't start from the base on
abbrev pub BeginsBelow : ℕ → List ℕ → Type 0
BeginsBelow base [] = Unit {0}
BeginsBelow base (n ∷ rest) = n < base

-- so has what was read
abbrev pub ReadsBelow : ℕ → Result Block SpellingFault → Type 0
ReadsBelow base (Ok block) = BeginsBelow base block.bytes
ReadsBelow base (Err fault) = Unit {0}

before_base : (n base : ℕ) → n < base → nat_lt n base ≡ true
before_base n base below = grind (arith, nat_tests, below)

name_stays : (code : Code) (bytes payload : List ℕ) → BeginsBelow code.base payload → name_by code bytes payload ≡ code.name bytes
name_stays code bytes [] below = refl
name_stays code bytes (n ∷ rest) below =
    ap (λ (t : Bool). cond t (code.name bytes) (slice_index_or code.table (n - code.base) (code.name bytes))) (before_base n code.base below)

read_stays : (code : Code) (bytes : List ℕ) (read : Result Block SpellingFault) → ReadsBelow code.base read → name_read code bytes read ≡ code.name bytes
read_stays code bytes (Ok block) below = name_stays code bytes block.bytes below
read_stays code bytes (Err fault) below = refl

pub coded_other : (code : Code) (bytes : List ℕ) → ReadsBelow code.base (read_block bytes) → coded_name code bytes ≡ code.name bytes
coded_other code bytes below = read_stays code bytes (read_block bytes) below
