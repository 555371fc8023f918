-- A disk whose sides hold bytes has no Block but one whose bytes spell a block.
use Rattle.std.proofs.Common.{◌≡◌, sym, subst, ℕ, ◌+◌, List, [], ◌∷◌, ◌++◌, length, map, Option, Some, None, Result, Ok, Err, refl}
use Rattle.std.proofs.lemmas.List.{drop_at, take_at}
use Rattle.std.proofs.lemmas.List.Concat.{flat_map-cons}
use Rattle.std.specs.List.{AllByRecursion, flat_map}
use Rattle.std.specs.Int.{to_be_bytes, w32}
use Rattle.std.specs.Prelude.{unwrap_or}
use Rattle.hs_entry.proofs.EntryLemmas.{is_found}
use Rattle.hs_entry.specs.Reading.{IsReadable, entry_at}
use Rattle.hs_entry.specs.declared.entry.Entry.{Entry}
use Rattle.hs_entry.specs.declared.entry.Entry.TheVariants as kind
use Rattle.hs_limits.proofs.FieldLemmas.{IsBytes, IsBytes-drop, IsBytes-take}
use Rattle.hs_ports.specs.declared.disk.Side.{Side}
use Rattle.hs_side.proofs.ReadLemmas.{found_read}
use Rattle.hs_side.proofs.SpellLemmas.{read_spelled}
use Rattle.hs_side.specs.Current.{current, list_in}
use Rattle.hs_side.specs.Follow.{Follow, start}
use Rattle.hs_side.specs.Reading.{Found, Frame, Log, entry_of, listed, log_of}
use Rattle.hs_side.specs.Spelling.{AreLaid, IsSpelled, frame, head}
use Rattle.hs_founded.specs.Spelled.{AreSpelled, IsSpelledEntry}

-- ---- parts of bytes

front_bytes : (xs ys : List ℕ) → IsBytes (xs ++ ys) → IsBytes xs
front_bytes xs ys fit = subst (λ (zs : List ℕ). IsBytes zs) (take_at xs ys (length xs) refl) (IsBytes-take (length xs) (xs ++ ys) fit)

back_bytes : (xs ys : List ℕ) → IsBytes (xs ++ ys) → IsBytes ys
back_bytes xs ys fit = subst (λ (zs : List ℕ). IsBytes zs) (drop_at xs ys (length xs) refl) (IsBytes-drop (length xs) (xs ++ ys) fit)

-- of a frame, its payload
payload_bytes : (payload : List ℕ) → IsBytes (frame payload) → IsBytes payload
payload_bytes payload fit = back_bytes (165 ∷ to_be_bytes w32 (length payload)) payload fit

payloads_bytes : (payloads : List (List ℕ)) → IsBytes (flat_map frame payloads) → AllByRecursion IsBytes payloads
payloads_bytes [] fit = tt
payloads_bytes (payload ∷ payloads) fit =
    let split : IsBytes (frame payload ++ flat_map frame payloads) = subst (λ (zs : List ℕ). IsBytes zs) (flat_map-cons frame payload payloads) fit in
    (payload_bytes payload (front_bytes (frame payload) (flat_map frame payloads) split), payloads_bytes payloads (back_bytes (frame payload) (flat_map frame payloads) split))

-- ---- entries

readable_spelled : (entry : Entry) → IsReadable entry → IsSpelledEntry entry
readable_spelled (kind.View view) h = tt
readable_spelled (kind.Block op least bytes) h = h.3
readable_spelled (kind.Mark op least block address) h = tt
readable_spelled (kind.Root op held address key) h = tt
readable_spelled (kind.Drop op key) h = tt
readable_spelled (kind.Enter op epoch) h = tt
readable_spelled (kind.Got sender epoch round total deltas) h = tt
readable_spelled (kind.Base view epoch swept round frames) h = tt
readable_spelled (kind.KeptBlock born mark flags count bytes) h = tt
readable_spelled (kind.KeptRoot created dropped counted address key) h = tt
readable_spelled (kind.KeptRound way other epoch round total deltas) h = tt

entry_spelled : (payload : List ℕ) (number : ℕ) (entry : Entry) → IsBytes payload → entry_at payload ≡ Ok (number, entry) → IsSpelledEntry entry
entry_spelled payload number entry fit read = readable_spelled entry (is_found payload (Ok (number, entry)) fit read).1

laid_spelled : (at : ℕ) (follow : Follow) (payloads : List (List ℕ)) (frames : List Frame) (last : Follow) → AllByRecursion IsBytes payloads → AreLaid at follow payloads frames last → AreSpelled (map entry_of frames)
laid_spelled at follow [] [] last fit laid = tt
laid_spelled at follow [] (placed ∷ found) last fit laid = absurd laid
laid_spelled at follow (payload ∷ payloads) [] last fit laid = absurd laid
laid_spelled at follow (payload ∷ payloads) (placed ∷ found) last fit laid =
    let x : Found = laid.0 in
    let read : entry_at payload ≡ Ok (x.number, x.entry) = (found_read follow payload x laid.2).0 in
    let one : IsSpelledEntry x.entry = entry_spelled payload x.number x.entry fit.0 read in
    (subst (λ (f : Frame). IsSpelledEntry f.entry) (sym laid.3) one, laid_spelled (at + 5 + length payload) x.follow payloads found last fit.1 laid.4)

log_spelled : (bytes : List ℕ) (log : Log) → IsBytes bytes → log_of bytes ≡ Ok (Some log) → AreSpelled (map entry_of log.frames)
log_spelled bytes log fit e =
    let s : IsSpelled bytes log = read_spelled bytes log fit e in
    let whole : IsBytes (head 165 log.header log.generation ++ (flat_map frame s.payloads ++ (s.closing ∷ s.rest))) = subst (λ (zs : List ℕ). IsBytes zs) s.is fit in
    let frames : IsBytes (flat_map frame s.payloads ++ (s.closing ∷ s.rest)) = back_bytes (head 165 log.header log.generation) (flat_map frame s.payloads ++ (s.closing ∷ s.rest)) whole in
    laid_spelled 17 start s.payloads log.frames s.last (payloads_bytes s.payloads (front_bytes (flat_map frame s.payloads) (s.closing ∷ s.rest) frames)) s.laid

-- ---- the list of a disk

pub list_spelled : (seen : Side → List ℕ) → ((side : Side) → IsBytes (seen side)) → AreSpelled (unwrap_or (list_in seen) [])
list_spelled seen fit = by_log (log_of (seen (current seen))) refl
  where
    by_log : (r : Result (Option Log) ℕ) → log_of (seen (current seen)) ≡ r → AreSpelled (unwrap_or (listed r) [])
    by_log (Err at) e = tt
    by_log (Ok None) e = tt
    by_log (Ok (Some log)) e = log_spelled (seen (current seen)) log (fit (current seen)) e
