-- What is spelled is read, and what is read is spelled so.
use Rattle.std.proofs.Common.{◌≡◌, ◌∙◌, ◌⊎◌, inl, inr, ℕ, zero, suc, ◌+◌, ◌<◌, ◌≤◌, ◌^◌, Bool, true, false, ltb, List, [], ◌∷◌, ◌++◌, length, take, drop, Option, None, Some, Result, Ok, Err, refl, ap, sym, subst, arith, append_assoc, length-append, length-drop, take-append-drop}
use Rattle.std.specs.List.{flat_map}
use Rattle.std.specs.Int.{w32, to_be_bytes}
use Rattle.std.proofs.lemmas.Bool.{eqb-true, ltb-false, le-ltb}
use Rattle.std.proofs.lemmas.List.{append-nil, get_or-take, length-take-le}
use Rattle.std.proofs.lemmas.Nat.{be_bytes_4}
use Rattle.hs_limits.specs.Fields.{◌>>=◌}
use Rattle.hs_limits.proofs.FieldLemmas.{IsBytes, IsBytes-drop, IsBytes-take, bind_ok, wide64}
use Rattle.hs_ports.specs.Disk.{byte_at}
use Rattle.hs_side.specs.declared.header.Header.{Header}
use Rattle.hs_side.specs.Follow.{Follow, start, may_end}
use Rattle.hs_side.specs.Reading.{is_open, head_of, length_at, payload_at, Found, found_in, Frame, frames, with_frames, Log, log_of}
use Rattle.hs_side.specs.Spelling.{head, body, frame, AreLaid, IsSpelled}
use Rattle.hs_side.proofs.ReadLemmas.{some_is, frames_frame, frames_pass, frames_closed, log_head, logged, length-body, with_frames-append}
use Rattle.hs_side.proofs.CrashLemmas.{ok_is}
use Rattle.hs_side.proofs.FrameLemmas.{payload_is}
use Rattle.hs_side.proofs.HeadLemmas.{head_is, spelled_head}
use Rattle.hs_side.proofs.BlankLemmas.{IsLogLike, blank_or}

-- ---- what is spelled is read

with_none : (r : Result (List Frame) ℕ) → r ≡ with_frames [] r
with_none (Ok more) = refl
with_none (Err at) = refl

-- the frames of these payloads, and then whatever stands behind them
laid_reads :
    (payloads : List (List ℕ)) (at : ℕ) (follow last : Follow) (found : List Frame) (rest : List ℕ) → AreLaid at follow payloads found last
    → frames at follow 0 (flat_map frame payloads ++ rest) ≡ with_frames found (frames (at + length (flat_map frame payloads)) last 0 rest)
laid_reads [] at follow last [] rest laid =
    ap (λ (f : Follow). frames at f 0 rest) (sym laid) ∙ ap (λ (n : ℕ). frames n last 0 rest) (omega arith) ∙ with_none (frames (at + 0) last 0 rest)
laid_reads [] at follow last (placed ∷ found) rest laid = absurd laid
laid_reads (payload ∷ payloads) at follow last [] rest laid = absurd laid
laid_reads (payload ∷ payloads) at follow last (placed ∷ found) rest laid =
    let x : Found = laid.0 in
    let one : Frame = record { place = at; number = x.number; entry = x.entry } in
    let back : List ℕ = flat_map frame payloads ++ rest in
    let there : at + length (frame payload) ≡ at + 5 + length payload = omega (arith, length-body payload) in
    let end : at + 5 + length payload + length (flat_map frame payloads) ≡ at + length (frame payload ++ flat_map frame payloads) = omega (arith, length-body payload, length-append (frame payload) (flat_map frame payloads)) in
    ap (λ (l : List ℕ). frames at follow 0 l) (append_assoc (frame payload) (flat_map frame payloads) rest)
    ∙ frames_frame at follow payload x back laid.1 laid.2
    ∙ ap (λ (n : ℕ). with_frames (one ∷ []) (frames n x.follow 0 back)) there
    ∙ ap (with_frames (one ∷ [])) (laid_reads payloads (at + 5 + length payload) x.follow last found rest laid.4)
    ∙ with_frames-append (one ∷ []) found (frames (at + 5 + length payload + length (flat_map frame payloads)) last 0 rest)
    ∙ ap (λ (n : ℕ). with_frames (one ∷ found) (frames n last 0 rest)) end
    ∙ ap (λ (p : Frame). with_frames (p ∷ found) (frames (at + length (frame payload ++ flat_map frame payloads)) last 0 rest)) (sym laid.3)

log_begun : (header : Header) (generation : ℕ) (l : List ℕ) → generation < 2 ^ 64 → 0 < length l → log_of (head 165 header generation ++ l) ≡ logged header generation (frames 17 start 0 l)
log_begun header generation [] fits some = absurd (omega arith)
log_begun header generation (b ∷ l) fits some = log_head header generation b l fits

pub spelled_reads : (bytes : List ℕ) (log : Log) → IsSpelled bytes log → log_of bytes ≡ Ok (Some log)
spelled_reads bytes log s =
    let frames_are : List ℕ = flat_map frame s.payloads in
    let back : List ℕ = frames_are ++ s.closing ∷ s.rest in
    let some : 0 < length back = omega (arith, length-append frames_are (s.closing ∷ s.rest)) in
    ap log_of (s.is ∙ append_assoc (head 165 log.header log.generation) frames_are (s.closing ∷ s.rest))
    ∙ log_begun log.header log.generation back s.fits some
    ∙ ap (logged log.header log.generation) (laid_reads s.payloads 17 start s.last log.frames (s.closing ∷ s.rest) s.laid ∙ ap (with_frames log.frames) (frames_closed (17 + length frames_are) s.last s.closing s.rest s.closed s.ends))
    ∙ ap (λ (fs : List Frame). logged log.header log.generation (Ok fs)) (append-nil log.frames)

-- ---- what is read is spelled so

bool_cases : (b : Bool) → (b ≡ true) ⊎ (b ≡ false)
bool_cases true = inl refl
bool_cases false = inr refl

option_cases : {A : Type 0} (o : Option A) → (o ≡ None) ⊎ ((x : A) × (o ≡ Some x))
option_cases None = inl refl
option_cases (Some x) = inr (x, refl)

-- what a payload that is read says of the bytes
record PayloadIs (bytes payload : List ℕ) : Type 0 where
  short : length payload ≤ 600000
  within : 4 + length payload ≤ length bytes
  spelled : bytes ≡ body payload ++ drop (4 + length payload) bytes

payload_read : (bytes payload : List ℕ) → IsBytes bytes → payload_at bytes ≡ Some payload → PayloadIs bytes payload
unfolding payload_at
payload_read bytes payload fit e =
    elim (bool_cases (ltb (length bytes) 4)) [
      | inl one ↦ absurd (none_some payload (rw one at e))
      | inr one ↦ elim (bool_cases (ltb 600000 (length_at bytes))) [
        | inl two ↦ absurd (none_some payload (rw (one, two) at e))
        | inr two ↦ elim (bool_cases (ltb (length bytes) (4 + length_at bytes))) [
          | inl three ↦ absurd (none_some payload (rw (one, two, three) at e))
          | inr three ↦ found (ltb-false _ _ one) (ltb-false _ _ two) (ltb-false _ _ three) (some_is _ _ (rw (one, two, three) at e))
        ]
      ]
    ]
  where
    none_some : (x : List ℕ) → let n : Option (List ℕ) = None in n ≡ Some x → ⊥
    none_some x e = cc

    found : 4 ≤ length bytes → length_at bytes ≤ 600000 → 4 + length_at bytes ≤ length bytes → take (length_at bytes) (drop 4 bytes) ≡ payload → PayloadIs bytes payload
    found whole short within is =
        let long : length payload ≡ length_at bytes = ap (λ (l : List ℕ). length l) (sym is) ∙ length-take-le (length_at bytes) (drop 4 bytes) (omega (arith, length-drop 4 bytes)) in
        let field : to_be_bytes w32 (length_at bytes) ≡ take 4 bytes = be_bytes_4 (take 4 bytes) (length_at bytes) (length-take-le 4 bytes whole) (IsBytes-take 4 bytes fit) refl in
        record {
          short = omega arith;
          within = omega arith;
          spelled = payload_is bytes payload (length_at bytes) whole field within (sym is);
        }

-- the frames that are read, as they are spelled
record Parts (at : ℕ) (follow : Follow) (bytes : List ℕ) (found : List Frame) : Type 0 where
  payloads : List (List ℕ)
  last : Follow
  closing : ℕ
  rest : List ℕ
  split : bytes ≡ flat_map frame payloads ++ closing ∷ rest
  laid : AreLaid at follow payloads found last
  ends : may_end last ≡ true
  closed : is_open closing ≡ false

-- one frame and then others
with_one : (one : Frame) (r : Result (List Frame) ℕ) (found : List Frame) → with_frames (one ∷ []) r ≡ Ok found → (more : List Frame) × (r ≡ Ok more) × (one ∷ more ≡ found)
with_one one (Ok more) found e = (more, refl, ok_is {E = ℕ} _ _ e)
with_one one (Err at) found e = absurd cc

frames_parts : (n at : ℕ) (follow : Follow) (bytes : List ℕ) (found : List Frame) → length bytes ≤ n → IsBytes bytes → frames at follow 0 bytes ≡ Ok found → Parts at follow bytes found
unfolding frames
frames_parts n at follow [] found small fit e = absurd cc
frames_parts zero at follow (gate ∷ bytes) found small fit e = absurd (omega arith)
frames_parts (suc n) at follow (gate ∷ bytes) found small fit e = elim (bool_cases (is_open gate)) [
  | inr shut ↦ elim (bool_cases (may_end follow)) [
    | inr no_end ↦ absurd (err_ok at found (rw (shut, no_end) at e))
    | inl ends ↦ subst (λ (fs : List Frame). Parts at follow (gate ∷ bytes) fs) (ok_is {E = ℕ} _ _ (rw (shut, ends) at e))
        (record { payloads = []; last = follow; closing = gate; rest = bytes; split = refl; laid = refl; ends = ends; closed = shut })
  ]
  | inl opens ↦ elim (option_cases (payload_at bytes)) [
    | inl none ↦ absurd (err_ok at found (rw (opens, none) at e))
    | inr some ↦ elim (option_cases (found_in follow some.0)) [
      | inl none ↦ absurd (err_ok at found (rw (opens, some.1, none) at e))
      | inr x ↦ whole some.0 some.1 x.0 x.1 opens (with_one (record { place = at; number = x.0.number; entry = x.0.entry }) (frames (at + 1) x.0.follow (4 + length some.0) bytes) found (rw (opens, some.1, x.1) at e))
          (λ at' follow' bytes' found' small' fit' e'. frames_parts n at' follow' bytes' found' small' fit' e')
    ]
  ]
]
  where
    err_ok : (at : ℕ) (fs : List Frame) → let r : Result (List Frame) ℕ = Err at in r ≡ Ok fs → ⊥
    err_ok at fs e = cc

    whole :
        (payload : List ℕ) → payload_at bytes ≡ Some payload → (x : Found) → found_in follow payload ≡ Some x → is_open gate ≡ true
        → (more : List Frame) × (frames (at + 1) x.follow (4 + length payload) bytes ≡ Ok more) × (record { place = at; number = x.number; entry = x.entry } ∷ more ≡ found)
        → ((at' : ℕ) (follow' : Follow) (bytes' : List ℕ) (found' : List Frame) → length bytes' ≤ n → IsBytes bytes' → frames at' follow' 0 bytes' ≡ Ok found' → Parts at' follow' bytes' found')
        → Parts at follow (gate ∷ bytes) found
    whole payload read x comes opens more ih =
        let p = payload_read bytes payload (λ i. fit (suc i)) read in
        let back : List ℕ = drop (4 + length payload) bytes in
        let there : at + 1 + (4 + length payload) ≡ at + 5 + length payload = omega arith in
        let on : frames (at + 5 + length payload) x.follow 0 back ≡ Ok more.0 =
        ap (λ (k : ℕ). frames k x.follow 0 back) (sym there) ∙ sym (frames_pass (4 + length payload) (at + 1) x.follow bytes p.within) ∙ more.1 in
        let rest = ih (at + 5 + length payload) x.follow back more.0 (omega (arith, length-drop (4 + length payload) bytes)) (IsBytes-drop (4 + length payload) bytes (λ i. fit (suc i))) on in
        subst (λ (fs : List Frame). Parts at follow (gate ∷ bytes) fs) more.2
        (record {
          payloads = payload ∷ rest.payloads;
          last = rest.last;
          closing = rest.closing;
          rest = rest.rest;
          split = ap (λ (g : ℕ). g ∷ bytes) (eqb-true _ _ opens)
              ∙ ap (λ (l : List ℕ). 165 ∷ l) (p.spelled ∙ ap (λ (l : List ℕ). body payload ++ l) rest.split)
              ∙ sym (append_assoc (frame payload) (flat_map frame rest.payloads) (rest.closing ∷ rest.rest));
          laid = (x, p.short, comes, refl, rest.laid);
          ends = rest.ends;
          closed = rest.closed;
        })

pub read_spelled : (bytes : List ℕ) (log : Log) → IsBytes bytes → log_of bytes ≡ Ok (Some log) → IsSpelled bytes log
unfolding log_of
read_spelled bytes log fit e = elim (blank_or bytes) [
  | inl blank ↦ absurd (none_some log (rw blank at e))
  | inr like ↦
      let test : ltb (length bytes) 18 ≡ false = le-ltb _ _ like.long in
      let opens : is_open (byte_at bytes 0) ≡ true = ap is_open like.gate in
      read like (rw (test, opens) at e)
]
  where
    none_some : (log : Log) → let r : Result (Option Log) ℕ = Ok None in r ≡ Ok (Some log) → ⊥
    none_some log e = cc

    read : IsLogLike bytes → (head_of (take 17 bytes) >>= λ head. frames 17 start 0 (drop 17 bytes) >>= λ found. Ok (Some (record { header = head.0; generation = head.1; frames = found }))) ≡ Ok (Some log) → IsSpelled bytes log
    read like e =
        let one = bind_ok (head_of (take 17 bytes)) (λ head. frames 17 start 0 (drop 17 bytes) >>= λ found. Ok (Some (record { header = head.0; generation = head.1; frames = found }))) (Some log) e in
        let x : Header × ℕ = one.0 in
        let two = bind_ok (frames 17 start 0 (drop 17 bytes)) (λ found. Ok (Some (record { header = x.0; generation = x.1; frames = found }))) (Some log) one.2 in
        let found : List Frame = two.0 in
        let whole : List ℕ = take 17 bytes in
        let size : length whole ≡ 17 = length-take-le 17 bytes (omega (arith, like.long)) in
        let gate : is_open (byte_at whole 0) ≡ true = ap is_open (get_or-take 17 bytes 0 0 (omega arith) ∙ like.gate) in
        let fits17 : IsBytes whole = IsBytes-take 17 bytes fit in
        let front : whole ≡ head 165 x.0 x.1 = spelled_head whole x size fits17 gate one.1 in
        let below : x.1 < 2 ^ 64 = subst (λ (y : Header × ℕ). y.1 < 2 ^ 64) (head_is whole x one.1).is (wide64.below (take 8 (drop 9 whole)) (IsBytes-take 8 (drop 9 whole) (IsBytes-drop 9 whole fits17))) in
        let parts : Parts 17 start (drop 17 bytes) found = frames_parts (length (drop 17 bytes)) 17 start (drop 17 bytes) found (omega arith) (IsBytes-drop 17 bytes fit) two.1 in
        let content : Log = record { header = x.0; generation = x.1; frames = found } in
        let same : content ≡ log = some_is _ _ (ok_is {E = ℕ} _ _ two.2) in
        subst (λ (l : Log). IsSpelled bytes l) same (record {
          payloads = parts.payloads;
          last = parts.last;
          closing = parts.closing;
          rest = parts.rest;
          is = sym (take-append-drop 17 bytes) ∙ ap (λ (l : List ℕ). l ++ drop 17 bytes) front ∙ ap (λ (l : List ℕ). head 165 x.0 x.1 ++ l) parts.split
              ∙ sym (append_assoc (head 165 x.0 x.1) (flat_map frame parts.payloads) (parts.closing ∷ parts.rest));
          fits = below;
          laid = parts.laid;
          ends = parts.ends;
          closed = parts.closed;
        })
