-- What is spelled is read: frames behind frames, and the log that they make.
use Rattle.std.proofs.Common.{◌≡◌, ◌∙◌, ℕ, zero, suc, ◌+◌, ◌<◌, ◌≤◌, ◌^◌, true, false, ltb, List, [], ◌∷◌, ◌++◌, length, take, drop, Option, None, Some, Result, Ok, Err, inl, inr, refl, ap, sym, subst, arith, append_assoc, length-append, add-zero}
use Rattle.std.specs.Int.{w32, to_be_bytes}
use Rattle.std.proofs.lemmas.Bool.{le-ltb}
use Rattle.std.proofs.lemmas.List.{append-nil, take_at, drop_at}
use Rattle.std.proofs.lemmas.Nat.{from_be_bytes-to_be_bytes_4, from_be_bytes-to_be_bytes_8}
use Rattle.std.specs.List.{Contains}
use Rattle.std.proofs.lemmas.List.Elements.{Contains-push_cases}
use Rattle.hs_limits.specs.Fields.{◌>>=◌}
use Rattle.hs_entry.specs.declared.entry.Entry.{Entry}
use Rattle.hs_entry.specs.declared.fault.EntryFault.{EntryFault}
use Rattle.hs_entry.specs.Reading.{entry_at}
use Rattle.hs_side.specs.declared.header.Header.{Header}
use Rattle.hs_side.specs.Follow.{Follow, start, after, may_end}
use Rattle.hs_side.specs.Reading.{is_open, length_at, payload_at, Found, found_by, found_if, found_in, Frame, frames, with_frames, Log, log_of}
use Rattle.hs_side.specs.Spelling.{head, body, frame}
use Rattle.hs_side.specs.Standing.{Front, Framed}

-- bytes that are passed over
pub frames_pass : (k at : ℕ) (follow : Follow) (bytes : List ℕ) → k ≤ length bytes → frames at follow k bytes ≡ frames (at + k) follow 0 (drop k bytes)
unfolding frames
frames_pass zero at follow bytes h = ap (λ (n : ℕ). frames n follow 0 bytes) (sym (add-zero at))
frames_pass (suc k) at follow [] h = absurd (omega arith)
frames_pass (suc k) at follow (b ∷ bytes) h =
    let there : at + 1 + k ≡ at + suc k = omega arith in
    frames_pass k (at + 1) follow bytes (omega arith) ∙ ap (λ (n : ℕ). frames n follow 0 (drop k bytes)) there

pub with_frames-append : (a b : List Frame) (r : Result (List Frame) ℕ) → with_frames a (with_frames b r) ≡ with_frames (a ++ b) r
with_frames-append a b (Ok more) = ap (λ (l : List Frame). Ok l) (sym (append_assoc a b more))
with_frames-append a b (Err at) = refl

pub length-body : (payload : List ℕ) → length (body payload) ≡ 4 + length payload
length-body payload = omega (arith, length-append (to_be_bytes w32 (length payload)) payload)

-- the payload behind its length
pub payload_again : (payload rest : List ℕ) → length payload ≤ 600000 → payload_at (body payload ++ rest) ≡ Some payload
unfolding payload_at
payload_again payload rest short =
    let bytes : List ℕ = body payload ++ rest in
    let len : length_at bytes ≡ length payload = from_be_bytes-to_be_bytes_4 (length payload) (omega arith) in
    let long : length bytes ≡ 4 + length payload + length rest = omega (arith, length-append (body payload) rest, length-body payload) in
    let one : ltb (length bytes) 4 ≡ false = le-ltb _ _ (omega arith) in
    let two : ltb 600000 (length payload) ≡ false = le-ltb _ _ (omega arith) in
    let three : ltb (length bytes) (4 + length payload) ≡ false = le-ltb _ _ (omega arith) in
    let front : take (length payload) (payload ++ rest) ≡ payload = take_at payload rest (length payload) refl in
    rw (one, len, two, three, front) refl

-- a frame that is sealed, and then whatever stands behind it
pub frames_frame :
    (at : ℕ) (follow : Follow) (payload : List ℕ) (found : Found) (rest : List ℕ) → length payload ≤ 600000 → found_in follow payload ≡ Some found
    → frames at follow 0 (frame payload ++ rest) ≡ with_frames (record { place = at; number = found.number; entry = found.entry } ∷ []) (frames (at + length (frame payload)) found.follow 0 rest)
unfolding frames
frames_frame at follow payload found rest short readable =
    let again = payload_again payload rest short in
    let one : List Frame = record { place = at; number = found.number; entry = found.entry } ∷ [] in
    let long : 4 + length payload ≤ length (body payload ++ rest) = omega (arith, length-append (body payload) rest, length-body payload) in
    let after : drop (4 + length payload) (body payload ++ rest) ≡ rest = drop_at (body payload) rest (4 + length payload) (length-body payload) in
    let there : at + 1 + (4 + length payload) ≡ at + length (frame payload) = omega (arith, length-body payload) in
    let on : frames (at + 1) found.follow (4 + length payload) (body payload ++ rest) ≡ frames (at + length (frame payload)) found.follow 0 rest =
    frames_pass (4 + length payload) (at + 1) found.follow (body payload ++ rest) long
    ∙ ap (λ (l : List ℕ). frames (at + 1 + (4 + length payload)) found.follow 0 l) after
    ∙ ap (λ (n : ℕ). frames n found.follow 0 rest) there in
    rw (again, readable) (ap (with_frames one) on)

-- an entry that is read and may come is found, and the other way round
pub found_again : (follow next : Follow) (payload : List ℕ) (number : ℕ) (entry : Entry) → entry_at payload ≡ Ok (number, entry) → after follow number entry ≡ Some next → found_in follow payload ≡ Some (record { number = number; entry = entry; follow = next })
unfolding found_in
found_again follow next payload number entry read comes = rw (read, comes) refl

pub found_read : (follow : Follow) (payload : List ℕ) (found : Found) → found_in follow payload ≡ Some found → (entry_at payload ≡ Ok (found.number, found.entry)) × (after follow found.number found.entry ≡ Some found.follow)
unfolding found_in
found_read follow payload found e = go (entry_at payload) e
  where
    by : (number : ℕ) (entry : Entry) (r : Option Follow) → found_by number entry r ≡ Some found → (number ≡ found.number) × (entry ≡ found.entry) × (r ≡ Some found.follow)
    by number entry None e = absurd cc
    by number entry (Some next) e =
        let same : record { number = number; entry = entry; follow = next } ≡ found = cc in
        (ap (λ (x : Found). x.number) same, ap (λ (x : Found). x.entry) same, ap (λ (x : Found). Some x.follow) same)

    go : (r : Result (ℕ × Entry) EntryFault) → found_if follow r ≡ Some found → (r ≡ Ok (found.number, found.entry)) × (after follow found.number found.entry ≡ Some found.follow)
    go (Err fault) e = absurd cc
    go (Ok x) e =
        let parts = by x.0 x.1 (after follow x.0 x.1) e in
        (ap (λ (n : ℕ). Ok (n, x.1)) parts.0 ∙ ap (λ (y : Entry). Ok (found.number, y)) parts.1, ap (λ (n : ℕ). after follow n found.entry) (sym parts.0) ∙ ap (λ (y : Entry). after follow x.0 y) (sym parts.1) ∙ parts.2)

pub some_is : {A : Type 0} (x y : A) → Some x ≡ Some y → x ≡ y
some_is x y e = cc

-- no bytes, and no frame
pub Front_none : Front [] [] start
Front_none = record { reads = λ rest. none (frames 17 start 0 rest); each = λ placed held. absurd (nothing placed held) }
  where
    none : (r : Result (List Frame) ℕ) → r ≡ with_frames [] r
    none (Ok more) = refl
    none (Err at) = refl

    nothing : (placed : Frame) → Contains [] placed → ⊥
    nothing placed held = omega (arith, held.1)

framed_more : (bytes more : List ℕ) (placed : Frame) → Framed bytes placed → Framed (bytes ++ more) placed
framed_more bytes more placed f = record {
  before = f.before;
  payload = f.payload;
  after = f.after ++ more;
  split = ap (λ (l : List ℕ). l ++ more) f.split ∙ append_assoc (f.before ++ frame f.payload) f.after more;
  place = f.place;
  short = f.short;
  read = f.read;
}

-- one frame more
pub Front_more :
    (bytes : List ℕ) (found : List Frame) (follow : Follow) (payload : List ℕ) (next : Found) → Front bytes found follow → length payload ≤ 600000 → found_in follow payload ≡ Some next
    → Front (bytes ++ frame payload) (found ++ record { place = 17 + length bytes; number = next.number; entry = next.entry } ∷ []) next.follow
Front_more bytes found follow payload next front short readable = record {
  reads = λ rest.
      let one : List Frame = record { place = 17 + length bytes; number = next.number; entry = next.entry } ∷ [] in
      let there : 17 + length bytes + length (frame payload) ≡ 17 + length (bytes ++ frame payload) = omega (arith, length-append bytes (frame payload)) in
      ap (λ (l : List ℕ). frames 17 start 0 l) (append_assoc bytes (frame payload) rest)
      ∙ front.reads (frame payload ++ rest)
      ∙ ap (with_frames found) (frames_frame (17 + length bytes) follow payload next rest short readable)
      ∙ with_frames-append found one (frames (17 + length bytes + length (frame payload)) next.follow 0 rest)
      ∙ ap (λ (n : ℕ). with_frames (found ++ one) (frames n next.follow 0 rest)) there;
  each = λ placed held. elim (Contains-push_cases found (record { place = 17 + length bytes; number = next.number; entry = next.entry }) placed held) [
    | inl old ↦ framed_more bytes (frame payload) placed (front.each placed old)
    | inr new ↦ subst (λ (f : Frame). Framed (bytes ++ frame payload) f) new (record {
      before = bytes;
      payload = payload;
      after = [];
      split = sym (append-nil (bytes ++ frame payload));
      place = refl;
      short = short;
      read = (found_read follow payload next readable).0;
    })
  ];
}

-- a closed gate, where the log may end
pub frames_closed : (at : ℕ) (follow : Follow) (closing : ℕ) (rest : List ℕ) → is_open closing ≡ false → may_end follow ≡ true → frames at follow 0 (closing ∷ rest) ≡ Ok []
unfolding frames
frames_closed at follow closing rest closed ends = rw (closed, ends) refl

-- the log of a header, a generation and what the frames are
abbrev pub logged : Header → ℕ → Result (List Frame) ℕ → Result (Option Log) ℕ
logged header generation (Ok found) = Ok (Some (record { header = header; generation = generation; frames = found }))
logged header generation (Err at) = Err at

-- a head with an open gate, and then whatever stands behind it
pub log_head : (header : Header) (generation : ℕ) (byte : ℕ) (rest : List ℕ) → generation < 2 ^ 64 → log_of (head 165 header generation ++ byte ∷ rest) ≡ logged header generation (frames 17 start 0 (byte ∷ rest))
unfolding log_of
log_head header generation byte rest fits =
    let again = from_be_bytes-to_be_bytes_8 generation fits in
    let long : ltb (length (head 165 header generation ++ byte ∷ rest)) 18 ≡ false = le-ltb _ _ (omega (arith, length-append (head 165 header generation) (byte ∷ rest))) in
    rw (long, again) (joined (frames 17 start 0 (byte ∷ rest)))
  where
    joined : (r : Result (List Frame) ℕ) → (r >>= λ found. Ok (Some (record { header = header; generation = generation; frames = found }))) ≡ logged header generation r
    joined (Ok found) = refl
    joined (Err at) = refl

-- a whole log
pub log_front :
    (header : Header) (generation : ℕ) (bytes : List ℕ) (found : List Frame) (follow : Follow) (byte : ℕ) (rest : List ℕ) → generation < 2 ^ 64 → Front bytes found follow
    → log_of (head 165 header generation ++ bytes ++ byte ∷ rest) ≡ logged header generation (with_frames found (frames (17 + length bytes) follow 0 (byte ∷ rest)))
log_front header generation bytes found follow byte rest fits front =
    ap log_of (append_assoc (head 165 header generation) bytes (byte ∷ rest)) ∙ begun (bytes ++ byte ∷ rest) (omega (arith, length-append bytes (byte ∷ rest))) ∙ ap (logged header generation) (front.reads (byte ∷ rest))
  where
    begun : (l : List ℕ) → 0 < length l → log_of (head 165 header generation ++ l) ≡ logged header generation (frames 17 start 0 l)
    begun [] h = absurd (omega arith)
    begun (b ∷ l) h = log_head header generation b l fits

pub log_closed :
    (header : Header) (generation : ℕ) (bytes : List ℕ) (found : List Frame) (follow : Follow) (closing : ℕ) (rest : List ℕ) → generation < 2 ^ 64 → Front bytes found follow → is_open closing ≡ false → may_end follow ≡ true
    → log_of (head 165 header generation ++ bytes ++ closing ∷ rest) ≡ Ok (Some (record { header = header; generation = generation; frames = found }))
log_closed header generation bytes found follow closing rest fits front closed ends =
    log_front header generation bytes found follow closing rest fits front
    ∙ ap (λ (r : Result (List Frame) ℕ). logged header generation (with_frames found r)) (frames_closed (17 + length bytes) follow closing rest closed ends)
    ∙ ap (λ (l : List Frame). Ok (Some (record { header = header; generation = generation; frames = l }))) (append-nil found)
