-- The payload of an entry that is read is short.
use Rattle.std.proofs.Common.{◌≡◌, ℕ, ◌*◌, ◌≤◌, ◌&&◌, leb, List, [], ◌∷◌, ◌++◌, length, IsTrue, refl, arith, length-append}
use Rattle.std.proofs.lemmas.Bool.{leb-true}
use Rattle.std.proofs.lemmas.List.Elements.{recursion_from_All}
use Rattle.std.specs.Int.{w16, w32, to_be_bytes}
use Rattle.std.proofs.lemmas.List.Concat.{flat_map-cons}
use Rattle.std.specs.List.{flat_map, list_all, AllByRecursion}
use Rattle.hs_limits.specs.declared.address.Address.{Address}
use Rattle.hs_limits.specs.declared.delta.Delta.{Delta}
use Rattle.hs_limits.specs.Block.{Block, IsSpelling}
use Rattle.hs_limits.specs.Key.{is_key, is_key_byte}
use Rattle.hs_entry.specs.declared.entry.Entry.{Entry}
use Rattle.hs_entry.specs.declared.entry.Entry.TheVariants as kind
use Rattle.hs_entry.specs.Payload.{four, eight, key_field, delta_field, deltas_field, fields_of, payload}
use Rattle.hs_entry.specs.Reading.{IsDelta, IsReadable}
use Rattle.hs_entry.proofs.PartLemmas.{both_true}

pointers-long : (pointers : List Address) → AllByRecursion (λ pointer. length pointer.0 ≡ 32) pointers → length (flat_map (λ pointer. pointer.0) pointers) ≡ 32 * length pointers
pointers-long [] whole = refl
pointers-long (p ∷ ps) whole =
    let later = pointers-long ps whole.1 in
    rw flat_map-cons (omega (arith, length-append p.0 (flat_map (λ pointer. pointer.0) ps), later, whole.0))

two : (n : ℕ) → length (to_be_bytes w16 n) ≡ 2
two n = refl

wide : (n : ℕ) → length (to_be_bytes w32 n) ≡ 4
wide n = refl

four-long : (n : ℕ) → length (four n) ≡ 4
unfolding four
four-long n = refl

spelling-short : (bytes : List ℕ) → IsSpelling bytes → length bytes ≤ 67591
spelling-short bytes s =
    let b : Block = s.block in
    let pointers : List ℕ = flat_map (λ pointer. pointer.0) b.pointers in
    let flat : length pointers ≡ 32 * length b.pointers = pointers-long b.pointers (recursion_from_All (λ (p : Address). length p.0 ≡ 32) b.pointers s.addressed) in
    let few = s.bounds.pointers in
    let small = s.bounds.bytes in
    rw s.spelled (omega (arith, length-append (to_be_bytes w16 (length b.pointers) ++ pointers ++ to_be_bytes w32 (length b.bytes)) b.bytes, length-append (to_be_bytes w16 (length b.pointers) ++ pointers) (to_be_bytes w32 (length b.bytes)), length-append (to_be_bytes w16 (length b.pointers)) pointers, two (length b.pointers), wide (length b.bytes), flat, few, small))

eight-long : (n : ℕ) → length (eight n) ≡ 8
unfolding eight
eight-long n = refl

key-short : (key : List ℕ) → IsTrue (is_key key) → length key ≤ 64
key-short key is =
    let sized = both_true (leb 1 (length key) && leb (length key) 64) (list_all is_key_byte key) is in
    leb-true (length key) 64 (both_true (leb 1 (length key)) (leb (length key) 64) sized.0).1

delta-long : (delta : Delta) → IsDelta delta → length (delta_field delta) ≡ 36
unfolding four
delta-long delta is = omega (arith, length-append delta.address.0 (to_be_bytes w32 delta.amount), is.whole)

deltas-long : (deltas : List Delta) → AllByRecursion IsDelta deltas → length (flat_map delta_field deltas) ≡ 36 * length deltas
deltas-long [] all = refl
deltas-long (d ∷ ds) all =
    let later = deltas-long ds all.1 in
    rw flat_map-cons (omega (arith, length-append (delta_field d) (flat_map delta_field ds), later, delta-long d all.0))

pub payload-short : (number : ℕ) (entry : Entry) → IsReadable entry → length (payload number entry) ≤ 600000
unfolding four
payload-short number (kind.View view) r = omega (arith, length-append (eight number) (eight view), eight-long number, eight-long view)
payload-short number (kind.Block op least bytes) r =
    omega (arith, length-append (eight number) (eight op ++ eight least ++ bytes), length-append (eight op ++ eight least) bytes, length-append (eight op) (eight least), eight-long number, eight-long op, eight-long least, spelling-short bytes r.3)
payload-short number (kind.Mark op least block address) r =
    omega (arith, length-append (eight number) (eight op ++ eight least ++ eight block ++ address.0), length-append (eight op ++ eight least ++ eight block) address.0, length-append (eight op ++ eight least) (eight block), length-append (eight op) (eight least), eight-long number, eight-long op, eight-long least, eight-long block, r.4)
payload-short number (kind.Root op held address key) r =
    omega (arith, length-append (eight number) (eight op ++ eight held ++ address.0 ++ key_field key), length-append (eight op ++ eight held ++ address.0) (key_field key), length-append (eight op ++ eight held) address.0, length-append (eight op) (eight held), eight-long number, eight-long op, eight-long held, r.3, key-short key r.4)
payload-short number (kind.Drop op key) r =
    omega (arith, length-append (eight number) (eight op ++ key_field key), length-append (eight op) (key_field key), eight-long number, eight-long op, key-short key r.1)
payload-short number (kind.Enter op epoch) r =
    omega (arith, length-append (eight number) (eight op ++ eight epoch), length-append (eight op) (eight epoch), eight-long number, eight-long op, eight-long epoch)
payload-short number (kind.Got sender epoch round total deltas) r =
    let are = r.5 in
    let text : List ℕ = flat_map delta_field deltas in
    let long = deltas-long deltas (recursion_from_All IsDelta deltas are.each) in
    let all = length-append (eight number) (fields_of (kind.Got sender epoch round total deltas)) in
    let five = length-append (eight epoch ++ four round ++ four total) (deltas_field deltas) in
    let three = length-append (eight epoch ++ four round) (four total) in
    let two = length-append (eight epoch) (four round) in
    let last = length-append (four (length deltas)) text in
    omega (arith, all, five, three, two, last, eight-long number, eight-long epoch, four-long round, four-long total, four-long (length deltas), long, are.few)
payload-short number (kind.Base view epoch swept round frames) r = absurd r
payload-short number (kind.KeptBlock born mark flags count bytes) r = absurd r
payload-short number (kind.KeptRoot created dropped counted address key) r = absurd r
payload-short number (kind.KeptRound way other epoch round total deltas) r = absurd r
