-- A block that is read is spelled so, and a block that is spelled is read.
use Rattle.std.proofs.Common.{◌≡◌, ℕ, zero, suc, ◌*◌, ◌-◌, ◌^◌, ◌≤◌, Bool, true, eqb, leb, List, [], ◌∷◌, ◌++◌, length, drop, Result, Ok, Err, IsTrue, ◌↔◌, is_ok, refl, sym, ap, subst, ◌∙◌, append_assoc, arith}
use Rattle.std.specs.List.{flat_map, AllByRecursion}
use Rattle.std.specs.Int.{w16, w32, to_be_bytes}
use Rattle.std.proofs.lemmas.Bool.{eqb-true, leb-true, le-leb}
use Rattle.std.proofs.lemmas.List.{append-nil, nil_from_length, take-append-drop, length-append, length-take, length-drop, take_at, drop_at}
use Rattle.std.proofs.lemmas.List.Concat.{flat_map-cons}
use Rattle.std.proofs.lemmas.List.Elements.{All-from_recursion, recursion_from_All}
use Rattle.hs_limits.specs.declared.address.Address.{Address}
use Rattle.hs_limits.specs.declared.spelling.SpellingFault.{SpellingFault}
use Rattle.hs_limits.specs.declared.spelling.SpellingFault.TheVariants.{Short, BadVersion, TooMany, TooLong, Trailing}
use Rattle.hs_limits.specs.Block.{Block, IsBlock, HasAddresses, IsSpelling, spell}
use Rattle.hs_limits.specs.Fields.{◌>>=◌, Gives, check, byte_at, bytes_at, number_at}
use Rattle.hs_limits.specs.Reading.{addresses, block_at, read_block}
use Rattle.hs_limits.proofs.FieldLemmas.{IsBytes, bind_ok, check_ok, ok_is, byte_takes, bytes_takes, bytes_again, wide16, wide32, number_takes, number_again}

-- ---- addresses

pub length-addresses : (n : ℕ) (bytes : List ℕ) → length (addresses n bytes) ≡ n
unfolding addresses
length-addresses zero bytes = refl
length-addresses (suc n) bytes = ap suc (length-addresses n (drop 32 bytes))

flat_map-addresses : (n : ℕ) (bytes : List ℕ) → length bytes ≡ 32 * n → flat_map (λ pointer. pointer.0) (addresses n bytes) ≡ bytes
unfolding addresses
flat_map-addresses zero bytes len = sym (nil_from_length bytes (omega (arith, len)))
flat_map-addresses (suc n) bytes len =
    let later = flat_map-addresses n (drop 32 bytes) (omega (arith, length-drop 32 bytes, len)) in
    rw (flat_map-cons, later, take-append-drop 32 bytes) refl

addresses_are_whole : (n : ℕ) (bytes : List ℕ) → length bytes ≡ 32 * n → AllByRecursion (λ pointer. length pointer.0 ≡ 32) (addresses n bytes)
unfolding addresses
addresses_are_whole zero bytes len = tt
addresses_are_whole (suc n) bytes len =
    (omega (arith, length-take 32 bytes, len), addresses_are_whole n (drop 32 bytes) (omega (arith, length-drop 32 bytes, len)))

length-flat_addresses : (pointers : List Address) → AllByRecursion (λ pointer. length pointer.0 ≡ 32) pointers → length (flat_map (λ pointer. pointer.0) pointers) ≡ 32 * length pointers
length-flat_addresses [] whole = refl
length-flat_addresses (p ∷ ps) whole =
    let later = length-flat_addresses ps whole.1 in
    rw flat_map-cons (omega (arith, length-append p.0 (flat_map (λ pointer. pointer.0) ps), later, whole.0))

addresses-flat_map : (pointers : List Address) → AllByRecursion (λ pointer. length pointer.0 ≡ 32) pointers → addresses (length pointers) (flat_map (λ pointer. pointer.0) pointers) ≡ pointers
unfolding addresses
addresses-flat_map [] whole = refl
addresses-flat_map (p ∷ ps) whole =
    let later : List ℕ = flat_map (λ pointer. pointer.0) ps in
    rw (flat_map-cons, take_at p.0 later 32 whole.0, drop_at p.0 later 32 whole.0, addresses-flat_map ps whole.1) refl

-- ---- blocks

pub record IsRead (bytes : List ℕ) (block : Block) (rest : List ℕ) : Type 0 where
  pub bounds : IsBlock block
  pub whole : HasAddresses block
  pub spelled : bytes ≡ spell block ++ rest

spell-append : (block : Block) (rest : List ℕ) → spell block ++ rest ≡ 1 ∷ (to_be_bytes w16 (length block.pointers) ++ (flat_map (λ pointer. pointer.0) block.pointers ++ (to_be_bytes w32 (length block.bytes) ++ (block.bytes ++ rest))))
spell-append block rest = simp append_assoc

put_together :
    (bytes : List ℕ) (version count : ℕ) (pointers : List ℕ) (len : ℕ) (content rest : List ℕ) → version ≡ 1 → count ≤ 64 → len ≤ 65536 →
    length pointers ≡ 32 * count → length content ≡ len → bytes ≡ version ∷ (to_be_bytes w16 count ++ (pointers ++ (to_be_bytes w32 len ++ (content ++ rest)))) →
    IsRead bytes (record { pointers = addresses count pointers; bytes = content }) rest
put_together bytes version count pointers len content rest known few small whole all parts =
    let block : Block = record { pointers = addresses count pointers; bytes = content } in
    let number : length (addresses count pointers) ≡ count = length-addresses count pointers in
    let flat : flat_map (λ pointer. pointer.0) (addresses count pointers) ≡ pointers = flat_map-addresses count pointers whole in
    let spelled : bytes ≡ 1 ∷ (to_be_bytes w16 (length (addresses count pointers)) ++ (flat_map (λ pointer. pointer.0) (addresses count pointers) ++ (to_be_bytes w32 (length content) ++ (content ++ rest)))) =
    rw (number, flat, all, ← known) parts in
    record {
      bounds = record { pointers = omega (arith, number, few); bytes = omega (arith, all, small) };
      whole = All-from_recursion (λ pointer. length pointer.0 ≡ 32) (addresses count pointers) (addresses_are_whole count pointers whole);
      spelled = spelled ∙ sym (spell-append block rest);
    }

abbrev AtBlock : Type 0
AtBlock = Result (Block × List ℕ) SpellingFault

-- what is done behind each field
abbrev behind_content : ℕ → List ℕ → List ℕ × List ℕ → AtBlock
behind_content count pointers content = Ok (record { pointers = addresses count pointers; bytes = content.0 }, content.1)

abbrev behind_len : ℕ → ℕ → List ℕ → ℕ × List ℕ → AtBlock
behind_len whole count pointers len = check (leb len.0 65536) (TooLong len.0) >>= λ _. bytes_at (Short whole) len.0 len.1 >>= behind_content count pointers

abbrev behind_pointers : ℕ → ℕ → List ℕ × List ℕ → AtBlock
behind_pointers whole count pointers = number_at (Short whole) w32 pointers.1 >>= behind_len whole count pointers.0

abbrev behind_count : ℕ → ℕ × List ℕ → AtBlock
behind_count whole count = check (leb count.0 64) (TooMany count.0) >>= λ _. bytes_at (Short whole) (32 * count.0) count.1 >>= behind_pointers whole count.0

abbrev behind_version : ℕ → ℕ × List ℕ → AtBlock
behind_version whole version = check (eqb version.0 1) (BadVersion version.0) >>= λ _. number_at (Short whole) w16 version.1 >>= behind_count whole

pub block_takes : (whole : ℕ) (bytes : List ℕ) (x : Block × List ℕ) → IsBytes bytes → block_at whole bytes ≡ Ok x → IsRead bytes x.0 x.1
unfolding block_at
block_takes whole bytes x fit e =
    let b1 = bind_ok (byte_at (Short whole) bytes) (behind_version whole) x e in
    let t1 = byte_takes (Short whole) bytes b1.0 fit b1.1 in
    let c1 = check_ok (eqb b1.0.0 1) (BadVersion b1.0.0) (number_at (Short whole) w16 b1.0.1 >>= behind_count whole) x b1.2 in
    let b2 = bind_ok (number_at (Short whole) w16 b1.0.1) (behind_count whole) x c1.1 in
    let t2 = number_takes (Short whole) w16 (2 ^ 16) wide16 b1.0.1 b2.0 t1.rest_fits b2.1 in
    let c2 = check_ok (leb b2.0.0 64) (TooMany b2.0.0) (bytes_at (Short whole) (32 * b2.0.0) b2.0.1 >>= behind_pointers whole b2.0.0) x b2.2 in
    let b3 = bind_ok (bytes_at (Short whole) (32 * b2.0.0) b2.0.1) (behind_pointers whole b2.0.0) x c2.1 in
    let t3 = bytes_takes (Short whole) (32 * b2.0.0) b2.0.1 b3.0 t2.0.rest_fits b3.1 in
    let b4 = bind_ok (number_at (Short whole) w32 b3.0.1) (behind_len whole b2.0.0 b3.0.0) x b3.2 in
    let t4 = number_takes (Short whole) w32 (2 ^ 32) wide32 b3.0.1 b4.0 t3.0.rest_fits b4.1 in
    let c4 = check_ok (leb b4.0.0 65536) (TooLong b4.0.0) (bytes_at (Short whole) b4.0.0 b4.0.1 >>= behind_content b2.0.0 b3.0.0) x b4.2 in
    let b5 = bind_ok (bytes_at (Short whole) b4.0.0 b4.0.1) (behind_content b2.0.0 b3.0.0) x c4.1 in
    let t5 = bytes_takes (Short whole) b4.0.0 b4.0.1 b5.0 t4.0.rest_fits b5.1 in
    let block : Block = record { pointers = addresses b2.0.0 b3.0.0; bytes = b5.0.0 } in
    let made : block ≡ x.0 = ap (λ (y : Block × List ℕ). y.0) (ok_is {E = SpellingFault} (block, b5.0.1) x b5.2) in
    let left : b5.0.1 ≡ x.1 = ap (λ (y : Block × List ℕ). y.1) (ok_is {E = SpellingFault} (block, b5.0.1) x b5.2) in
    let texts = t1.parts ∙ ap (λ (t : List ℕ). b1.0.0 ∷ t) (t2.0.parts ∙ ap (λ (t : List ℕ). to_be_bytes w16 b2.0.0 ++ t) (t3.0.parts ∙ ap (λ (t : List ℕ). b3.0.0 ++ t) (t4.0.parts ∙ ap (λ (t : List ℕ). to_be_bytes w32 b4.0.0 ++ t) t5.0.parts))) in
    let read : IsRead bytes block b5.0.1 = put_together bytes b1.0.0 b2.0.0 b3.0.0 b4.0.0 b5.0.0 b5.0.1 (eqb-true _ _ c1.0) (leb-true _ _ c2.0) (leb-true _ _ c4.0) t3.1 t5.1 texts in
    subst (λ (y : List ℕ). IsRead bytes x.0 y) left (subst (λ (y : Block). IsRead bytes y b5.0.1) made read)

pub block_again : (whole : ℕ) (block : Block) (rest : List ℕ) → IsBlock block → HasAddresses block → block_at whole (spell block ++ rest) ≡ Ok (block, rest)
unfolding block_at
block_again whole block rest bounds addressed =
    let whole_ones = recursion_from_All (λ pointer. length pointer.0 ≡ 32) block.pointers addressed in
    let pointers : List ℕ = flat_map (λ pointer. pointer.0) block.pointers in
    let len : List ℕ = to_be_bytes w32 (length block.bytes) in
    let few : leb (length block.pointers) 64 ≡ true = le-leb _ _ bounds.pointers in
    let small : leb (length block.bytes) 65536 ≡ true = le-leb _ _ bounds.bytes in
    ap (block_at whole) (spell-append block rest) ∙
    rw (
      number_again (Short whole) w16 (2 ^ 16) wide16 (length block.pointers) (pointers ++ (len ++ (block.bytes ++ rest))) (omega (arith, bounds.pointers)),
      few,
      bytes_again (Short whole) (32 * length block.pointers) pointers (len ++ (block.bytes ++ rest)) (length-flat_addresses block.pointers whole_ones),
      number_again (Short whole) w32 (2 ^ 32) wide32 (length block.bytes) (block.bytes ++ rest) (omega (arith, bounds.bytes)),
      small,
      bytes_again (Short whole) (length block.bytes) block.bytes rest refl,
      addresses-flat_map block.pointers whole_ones,
    ) refl

-- ---- whole inputs

pub read_again : (block : Block) → IsBlock block → HasAddresses block → read_block (spell block) ≡ Ok block
unfolding read_block
read_again block bounds addressed =
    let one : block_at (length (spell block)) (spell block) ≡ Ok (block, []) =
    ap (block_at (length (spell block))) (sym (append-nil (spell block))) ∙ block_again (length (spell block)) block [] bounds addressed in
    rw one refl

pub read_takes : (bytes : List ℕ) (block : Block) → IsBytes bytes → read_block bytes ≡ Ok block → IsRead bytes block []
unfolding read_block
read_takes bytes block fit e =
    let b = bind_ok (block_at (length bytes) bytes) (λ x. check (eqb (length x.1) 0) (Trailing (length bytes - length x.1)) >>= λ _. Ok x.0) block e in
    let c = check_ok (eqb (length b.0.1) 0) (Trailing (length bytes - length b.0.1)) (Ok b.0.0) block b.2 in
    let nothing : b.0.1 ≡ [] = nil_from_length b.0.1 (eqb-true _ _ c.0) in
    let same : b.0.0 ≡ block = ok_is {E = SpellingFault} b.0.0 block c.1 in
    subst (λ (y : Block). IsRead bytes y []) same (subst (λ (y : List ℕ). IsRead bytes b.0.0 y) nothing (block_takes (length bytes) bytes b.0 fit b.1))

-- ---- whether bytes are a spelling

pub spelling_from_ok : (bytes : List ℕ) (read : Result Block SpellingFault) → IsBytes bytes → read_block bytes ≡ read → is_ok read ≡ true → IsSpelling bytes
spelling_from_ok bytes (Ok block) fit e ok =
    let r = read_takes bytes block fit e in
    record { block = block; bounds = r.bounds; addressed = r.whole; spelled = r.spelled ∙ append-nil (spell block) }
spelling_from_ok bytes (Err fault) fit e ok = absurd cc

pub spelling_is_ok : (bytes : List ℕ) → IsSpelling bytes → is_ok (read_block bytes) ≡ true
spelling_is_ok bytes h = ap (λ (t : List ℕ). is_ok (read_block t)) h.spelled ∙ ap (λ (r : Result Block SpellingFault). is_ok r) (read_again h.block h.bounds h.addressed)

is_ok-given : {X Y E : Type 0} (view : X → Y) (r : Result X E) (read : Result Y E) → Gives view r read → is_ok read ≡ is_ok r
is_ok-given view (Ok x) read given = ap is_ok given
is_ok-given view (Err e) read given = ap is_ok given

pub spelling_where_ok : {X : Type 0} (view : X → Block) (r : Result X SpellingFault) (answer : Bool) (bytes : List ℕ) → IsBytes bytes → Gives view r (read_block bytes) → answer ≡ is_ok r
    → IsTrue answer ↔ IsSpelling bytes
spelling_where_ok view r answer bytes fit given is =
    let same : is_ok (read_block bytes) ≡ answer = is_ok-given view r (read_block bytes) given ∙ sym is in
    (λ yes. spelling_from_ok bytes (read_block bytes) fit refl (same ∙ yes), λ spelling. sym same ∙ spelling_is_ok bytes spelling)

-- ---- no spelling begins another

pub spelling_begins_none : (a b : Block) (rest : List ℕ) → IsBlock a → HasAddresses a → IsBlock b → HasAddresses b → spell b ≡ spell a ++ rest → (a ≡ b) × (rest ≡ [])
spelling_begins_none a b rest bounds_a addressed_a bounds_b addressed_b e =
    let of_b : block_at 0 (spell b ++ []) ≡ Ok (b, []) = block_again 0 b [] bounds_b addressed_b in
    let of_a : block_at 0 (spell a ++ rest) ≡ Ok (a, rest) = block_again 0 a rest bounds_a addressed_a in
    let both = ok_is {E = SpellingFault} (a, rest) (b, []) (sym of_a ∙ ap (block_at 0) (sym e ∙ sym (append-nil (spell b))) ∙ of_b) in
    (ap (λ (y : Block × List ℕ). y.0) both, ap (λ (y : Block × List ℕ). y.1) both)
