-- The payload of the frame at a place.
use Rattle.std.proofs.Common.{◌≡◌, ◌∙◌, ℕ, zero, suc, ◌+◌, ◌<◌, ◌≤◌, List, [], ◌∷◌, ◌++◌, length, get_or, drop, map, Option, None, Some, IsSome, MatchOption, Result, Ok, Err, OnOk, IfErr, refl, ap, sym, subst, arith, append_assoc, length-append}
use Rattle.std.specs.List.{Contains}
use Rattle.std.proofs.lemmas.List.{drop_at, length-map, length-drop}
use Rattle.hs_ports.specs.Disk.{Loose}
use Rattle.hs_entry.specs.Reading.{entry_at}
use Rattle.hs_side.specs.declared.header.Header.{Header}
use Rattle.hs_side.specs.declared.fault.SideFault.{SideFault}
use Rattle.hs_side.specs.declared.fault.SideFault.TheVariants.{NotALog, Disk, NoMemory}
use Rattle.hs_side.specs.Caused.{IsOutside}
use Rattle.hs_side.specs.Opening.{ReadsAt}
use Rattle.hs_side.specs.Reading.{payload_at, Frame, Log, log_of}
use Rattle.hs_side.specs.Spelling.{head, body}
use Rattle.hs_side.specs.Standing.{SideState, Framed, HasLog, HasNone, HasBytes}
use Rattle.hs_side.specs.Steps.{IsPayload}
use Rattle.hs_side.proofs.ReadLemmas.{payload_again, some_is}
use Rattle.hs_side.proofs.CrashLemmas.{log_is, ok_is}
use Rattle.hs_side.proofs.AppendLemmas.{has_log}
use Rattle.hs_side.proofs.FrameLemmas.{payload_short}

-- a place of the list is that of a frame
placed_at : (found : List Frame) (place k : ℕ) → k < length found → get_or (map (λ placed. placed.place) found) k place ≡ place → (placed : Frame) × Contains found placed × (placed.place ≡ place)
placed_at [] place k low is = absurd (omega arith)
placed_at (f ∷ found) place zero low is = (f, (0, omega arith, refl), is)
placed_at (f ∷ found) place (suc k) low is =
    let rest = placed_at found place k (omega arith) is in
    (rest.0, (suc rest.1.0, omega (arith, rest.1.1), rest.1.2), rest.2)

regroup : (h b x p a c : List ℕ) → h ++ (b ++ (x ++ p) ++ a) ++ c ≡ h ++ b ++ x ++ (p ++ (a ++ c))
regroup h b x p a c = simp append_assoc

-- the payload of a frame of these bytes, in the side
framed_payload : (header : Header) (generation : ℕ) (bytes seen back : List ℕ) (placed : Frame) → (f : Framed bytes placed) → seen ≡ head 165 header generation ++ bytes ++ back → payload_at (drop (placed.place + 1) seen) ≡ Some f.payload
framed_payload header generation bytes seen back placed f is =
    let front : List ℕ = head 165 header generation ++ f.before ++ 165 ∷ [] in
    let split : seen ≡ front ++ (body f.payload ++ (f.after ++ back)) =
    is ∙ ap (λ (l : List ℕ). head 165 header generation ++ l ++ back) f.split ∙ regroup (head 165 header generation) f.before (165 ∷ []) (body f.payload) f.after back in
    let size : length front ≡ placed.place + 1 = omega (arith, f.place, length-append (head 165 header generation) f.before, length-append (head 165 header generation ++ f.before) (165 ∷ [])) in
    ap (λ (l : List ℕ). payload_at (drop (placed.place + 1) l)) split
    ∙ ap payload_at (drop_at front (body f.payload ++ (f.after ++ back)) (placed.place + 1) size)
    ∙ payload_again f.payload (f.after ++ back) f.short

-- a side with a frame is not blank
pub some_head : (log : SideState) (place : ℕ) (seen : List ℕ) (loose : Loose) → Contains log.places place → HasBytes 165 log seen loose → IsSome log.head
some_head log place seen loose held has = go log.head refl has
  where
    go : (o : Option (Header × ℕ)) → log.head ≡ o → MatchOption o (HasNone log seen loose) (λ head. HasLog 165 head.0 head.1 log seen loose) → IsSome log.head
    go None is none = absurd (omega (arith, held.1, ap length none.empty))
    go (Some head) is some = rw is refl

-- what is read at a place of the log
pub record PlaceIs (log : SideState) (place : ℕ) (seen : List ℕ) : Type 0 where
  pub payload : List ℕ
  pub read : payload_at (drop (place + 1) seen) ≡ Some payload
  pub entry : (l : Log) (placed : Frame) → log_of seen ≡ Ok (Some l) → Contains l.frames placed → placed.place ≡ place → entry_at payload ≡ Ok (placed.number, placed.entry)

pub place_is : (log : SideState) (place : ℕ) (seen : List ℕ) (loose : Loose) → Contains log.places place → HasBytes 165 log seen loose → PlaceIs log place seen
place_is log place seen loose held told =
    let some = some_head log place seen loose held told in
    let found = has_log 165 log seen loose some told in
    let h : Header × ℕ = found.0 in
    let has = found.2 in
    let back : List ℕ = has.closing ∷ has.rest in
    let at : Contains (map (λ placed. placed.place) has.found) place = subst (λ (l : List ℕ). Contains l place) has.places held in
    let first = placed_at has.found place at.0 (omega (arith, at.1, length-map has.found (λ placed. placed.place))) at.2 in
    let f : Framed has.bytes first.0 = has.front.each first.0 first.1 in
    let read : payload_at (drop (place + 1) seen) ≡ Some f.payload =
    ap (λ (n : ℕ). payload_at (drop (n + 1) seen)) (sym first.2) ∙ framed_payload h.0 h.1 has.bytes seen back first.0 f has.spelled in
    record {
      payload = f.payload;
      read = read;
      entry = λ l placed is has_it there.
          let frames_are : has.found ≡ l.frames = ap (λ (o : Option Log). frames_in o) (ok_is {E = ℕ} _ _ (sym (log_is h.0 h.1 log seen loose has) ∙ is)) in
          let other : Framed has.bytes placed = has.front.each placed (subst (λ (fs : List Frame). Contains fs placed) (sym frames_are) has_it) in
          let other_read : payload_at (drop (place + 1) seen) ≡ Some other.payload =
          ap (λ (n : ℕ). payload_at (drop (n + 1) seen)) (sym there) ∙ framed_payload h.0 h.1 has.bytes seen back placed other has.spelled in
          ap entry_at (some_is _ _ (sym read ∙ other_read)) ∙ other.read;
    }
  where
    frames_in : Option Log → List Frame
    frames_in None = []
    frames_in (Some l) = l.frames

-- what is read of it is appended
read_more :
    (log : SideState) (place : ℕ) (seen payload old new : List ℕ) → PlaceIs log place seen → length payload ≤ 600000 → IsPayload (Ok tt) place seen payload → new ≡ old ++ payload → ReadsAt seen place old new
read_more log place seen payload old new p short spelled more =
    let read : payload_at (drop (place + 1) seen) ≡ Some payload = ap payload_at spelled ∙ payload_again payload (drop (place + 5 + length payload) seen) short in
    let same : p.payload ≡ payload = some_is _ _ (sym p.read ∙ read) in
    record {
      payload = payload;
      more = more;
      read = read;
      entry = λ l placed is has there. ap entry_at (sym same) ∙ p.entry l placed is has there;
    }

-- it is there
read_there : (log : SideState) (place : ℕ) (seen held : List ℕ) (fault : SideFault) → PlaceIs log place seen → IsPayload (Err fault) place seen held → IsOutside fault
read_there log place seen held (NotALog at) p e = absurd (none_some p.payload (sym e.1 ∙ p.read))
  where
    none_some : (x : List ℕ) → let n : Option (List ℕ) = None in n ≡ Some x → ⊥
    none_some x e = cc
read_there log place seen held Disk p e = tt
read_there log place seen held NoMemory p e = tt

-- whatever came of reading it
pub read_found :
    (log : SideState) (place : ℕ) (seen old new : List ℕ) (r : Result (Unit {0}) SideFault) → PlaceIs log place seen → IsPayload r place seen (drop (length old) new)
    → OnOk r (length new ≤ length old + 600000) → OnOk r (new ≡ old ++ drop (length old) new) → OnOk r (ReadsAt seen place old new)
read_found log place seen old new (Ok done) p e short more =
    read_more log place seen (drop (length old) new) old new p (omega (arith, short, length-drop (length old) new)) e more
read_found log place seen old new (Err fault) p e short more = tt

pub read_refused : (log : SideState) (place : ℕ) (seen held : List ℕ) (r : Result (Unit {0}) SideFault) → PlaceIs log place seen → IsPayload r place seen held → IfErr r IsOutside
read_refused log place seen held (Ok done) p e = tt
read_refused log place seen held (Err fault) p e = read_there log place seen held fault p e

-- it is not past the end
pub place_low : (log : SideState) (place : ℕ) (seen : List ℕ) → PlaceIs log place seen → length seen ≤ place → ⊥
place_low log place seen p past =
    let none : payload_at (drop (place + 1) seen) ≡ None = payload_short (drop (place + 1) seen) (omega (arith, length-drop (place + 1) seen)) in
    clash p.payload (sym none ∙ p.read)
  where
    clash : (x : List ℕ) → let n : Option (List ℕ) = None in n ≡ Some x → ⊥
    clash x e = cc
