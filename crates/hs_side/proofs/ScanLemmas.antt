-- The frames of a side, one after another.
use Rattle.std.proofs.Common.{◌≡◌, ◌∙◌, ℕ, ◌+◌, ◌<◌, ◌≤◌, ◌^◌, ◌==◌, true, false, List, [], ◌∷◌, ◌++◌, length, take, drop, map, None, Some, Result, Ok, Err, refl, ap, sym, arith, append_assoc, length-append, take-append-drop}
use Rattle.std.proofs.lemmas.Bool.{eqb-true}
use Rattle.std.proofs.lemmas.List.{drop_all, drop_more, map-append}
use Rattle.hs_limits.specs.Fields.{◌>>=◌}
use Rattle.hs_entry.specs.declared.entry.Entry.{Entry}
use Rattle.hs_entry.specs.declared.rank.Rank.{Rank}
use Rattle.hs_entry.specs.Entries.{rank_after, rank_of}
use Rattle.hs_entry.proofs.RankLemmas.{rank_more}
use Rattle.hs_ports.specs.Disk.{byte_at, settled}
use Rattle.hs_side.specs.declared.header.Header.{Header}
use Rattle.hs_side.specs.declared.fault.SideFault.{SideFault}
use Rattle.hs_side.specs.declared.fault.SideFault.TheVariants.{NotALog, Disk, NoMemory}
use Rattle.hs_side.specs.Follow.{Follow, start, followed}
use Rattle.hs_side.specs.Reading.{is_open, is_blank, head_of, Frame, entry_of, frames, with_frames, Log, log_of}
use Rattle.hs_side.specs.Spelling.{head, body, frame}
use Rattle.hs_side.specs.Opening.{OpensRanked}
use Rattle.hs_side.specs.Standing.{SideState, HasLog, HasBytes}
use Rattle.hs_side.proofs.BlankLemmas.{blank_log}
use Rattle.hs_side.specs.Steps.{IsHeadOf, IsGate, Comes, IsFrame, Scanned, Ended, Scan, IsScan}
use Rattle.hs_side.proofs.ReadLemmas.{Front_none, Front_more, logged, length-body, found_read}
use Rattle.hs_side.proofs.CrashLemmas.{followed-push, settled_firm, log_is}

-- the side is not blank and this is its head
pub record IsHeaded (seen : List ℕ) (x : Header × ℕ) : Type 0 where
  pub full : is_blank seen ≡ false
  pub read : head_of (take 17 seen) ≡ Ok x
  pub spelled : take 17 seen ≡ head 165 x.0 x.1
  pub fits : x.1 < 2 ^ 64

pub headed : (seen : List ℕ) (x : Header × ℕ) → IsHeadOf (Ok (Some x)) seen → IsHeaded seen x
headed seen x e = record { full = e.0; read = e.1; spelled = e.2; fits = e.3 }

-- its log is that of its frames
pub log_scan : (seen : List ℕ) (x : Header × ℕ) → IsHeaded seen x → log_of seen ≡ logged x.0 x.1 (frames 17 start 0 (drop 17 seen))
unfolding log_of
log_scan seen x h = rw (h.full, h.read) (joined (frames 17 start 0 (drop 17 seen)))
  where
    joined : (r : Result (List Frame) ℕ) → (r >>= λ found. Ok (Some (record { header = x.0; generation = x.1; frames = found }))) ≡ logged x.0 x.1 r
    joined (Ok found) = refl
    joined (Err at) = refl

-- before the first frame
pub scan_start : (seen : List ℕ) (places : List ℕ) → places ≡ [] → Scanned seen 17 (record { view = 0; number = 0 }) places
unfolding followed rank_of
scan_start seen places none = record {
  found = [];
  follow = start;
  bytes = [];
  front = Front_none;
  split = refl;
  end = refl;
  places_are = none;
  before = refl;
  plain = record { owed = refl; ends = refl };
  ranked = refl;
}

-- the gate at the place, and what stands behind it
pub at_gate : (seen : List ℕ) (at : ℕ) → at < length seen → is_open (byte_at seen at) ≡ true → drop at seen ≡ 165 ∷ drop (at + 1) seen
at_gate seen at inside opens = drop_more seen at 0 inside ∙ ap (λ (g : ℕ). g ∷ drop (at + 1) seen) (eqb-true _ _ opens)

-- one frame more
pub scan_more :
    (seen : List ℕ) (at : ℕ) (last rank : Rank) (places held : List ℕ) → Scanned seen at last places → at < length seen → is_open (byte_at seen at) ≡ true → length held ≤ 600000 → IsFrame (Ok rank) at last seen held
    → Scanned seen (at + (5 + length held)) rank (places ++ at ∷ [])
scan_more seen at last rank places held s inside opens short is =
    let comes : Comes s.follow held last rank = is.1 s.follow s.plain in
    let one : Frame = record { place = 17 + length s.bytes; number = comes.found.number; entry = comes.found.entry } in
    let read = found_read s.follow held comes.found comes.comes in
    let there : at + 5 + length held ≡ at + (5 + length held) = omega arith in
    record {
      found = s.found ++ one ∷ [];
      follow = comes.found.follow;
      bytes = s.bytes ++ frame held;
      front = Front_more s.bytes s.found s.follow held comes.found s.front short comes.comes;
      split = s.split ∙ ap (λ (l : List ℕ). s.bytes ++ l) (at_gate seen at inside opens ∙ ap (λ (l : List ℕ). 165 ∷ l) (is.0 ∙ ap (λ (n : ℕ). body held ++ drop n seen) there))
          ∙ sym (append_assoc s.bytes (frame held) (drop (at + (5 + length held)) seen));
      end = omega (arith, s.end, length-append s.bytes (frame held), length-body held);
      places_are = rw (map-append, s.places_are, s.end) refl;
      before = rw map-append (followed-push start s.follow comes.found.follow (map entry_of s.found) (entry_of one) s.before read.1);
      plain = comes.plain;
      ranked = ap (λ (es : List (ℕ × Entry)). rank_of es) (map-append entry_of s.found (one ∷ [])) ∙ rank_more (map entry_of s.found) comes.found.number comes.found.entry
          ∙ ap (λ (r : Rank). rank_after r comes.found.number comes.found.entry) s.ranked ∙ sym comes.ranked;
    }

-- where the frame at the place is wrong, so is the side
pub scan_err : (seen : List ℕ) (at : ℕ) (last : Rank) (places : List ℕ) (x : Header × ℕ) → IsHeaded seen x → (s : Scanned seen at last places) → frames at s.follow 0 (drop at seen) ≡ Err at → log_of seen ≡ Err at
scan_err seen at last places x h s wrong =
    log_scan seen x h
    ∙ ap (logged x.0 x.1)
    (ap (frames 17 start 0) s.split ∙ s.front.reads (drop at seen) ∙ ap (λ (n : ℕ). with_frames s.found (frames n s.follow 0 (drop at seen))) (sym s.end) ∙ ap (with_frames s.found) wrong)

frames_none : (at : ℕ) (follow : Follow) → frames at follow 0 [] ≡ Err at
unfolding frames
frames_none at follow = refl

-- no gate at the place
pub scan_gate : {X : Type 0} (view : X → Scan) (fault : SideFault) (seen : List ℕ) (at : ℕ) (last : Rank) (places : List ℕ) (x : Header × ℕ) → IsHeaded seen x → Scanned seen at last places → IsGate (Err fault) at seen → IsScan view (Err fault) seen
scan_gate view (NotALog place) seen at last places x h s e =
    let wrong : frames at s.follow 0 (drop at seen) ≡ Err at = ap (frames at s.follow 0) (drop_all at seen e.1) ∙ frames_none at s.follow in
    scan_err seen at last places x h s wrong ∙ ap (λ (n : ℕ). Err n) (sym e.0)
scan_gate view Disk seen at last places x h s e = tt
scan_gate view NoMemory seen at last places x h s e = tt

-- no frame behind its gate
pub scan_frame :
    {X : Type 0} (view : X → Scan) (fault : SideFault) (seen : List ℕ) (at : ℕ) (last : Rank) (places held : List ℕ) (x : Header × ℕ) → IsHeaded seen x → Scanned seen at last places → at < length seen → is_open (byte_at seen at) ≡ true
    → IsFrame (Err fault) at last seen held → IsScan view (Err fault) seen
scan_frame view (NotALog place) seen at last places held x h s inside opens e =
    let wrong : frames at s.follow 0 (drop at seen) ≡ Err at = ap (frames at s.follow 0) (at_gate seen at inside opens) ∙ e.1 s.follow s.plain 165 refl in
    scan_err seen at last places x h s wrong ∙ ap (λ (n : ℕ). Err n) (sym e.0)
scan_frame view Disk seen at last places held x h s inside opens e = tt
scan_frame view NoMemory seen at last places held x h s inside opens e = tt

-- a log to its end
pub ended_has :
    (seen : List ℕ) (log : SideState) (rank : Rank) (x : Header × ℕ) → IsHeaded seen x → log.waiting ≡ None → Ended seen log.end rank log.places → HasLog 165 x.0 x.1 log seen (settled seen)
ended_has seen log rank x h rests e =
    let s = e.scanned in
    record {
      bytes = s.bytes;
      found = s.found;
      follow = s.follow;
      closing = byte_at seen log.end;
      rest = drop (log.end + 1) seen;
      front = s.front;
      followed = s.before;
      places = s.places_are;
      end = s.end;
      spelled = sym (take-append-drop 17 seen) ∙ ap (λ (l : List ℕ). l ++ drop 17 seen) h.spelled ∙ ap (λ (l : List ℕ). head 165 x.0 x.1 ++ l) (s.split ∙ ap (λ (l : List ℕ). s.bytes ++ l) (drop_more seen log.end 0 e.inside))
          ∙ sym (append_assoc (head 165 x.0 x.1) s.bytes (byte_at seen log.end ∷ drop (log.end + 1) seen));
      fits = h.fits;
      closed = e.closed;
      ends = λ opens. ap (λ (n : ℕ). n == 0) s.plain.owed;
      firm = settled_firm log.end seen e.inside;
      waits = rw rests refl;
    }

-- ---- what opening answers

log_bad_head : (seen : List ℕ) (at : ℕ) → is_blank seen ≡ false → head_of (take 17 seen) ≡ Err at → log_of seen ≡ Err at
unfolding log_of
log_bad_head seen at full wrong = rw (full, wrong) refl

pub opens_head : (fault : SideFault) (seen : List ℕ) → IsHeadOf (Err fault) seen → OpensRanked (Err fault) (log_of seen)
opens_head (NotALog at) seen e = log_bad_head seen at e.0 e.1
opens_head Disk seen e = tt
opens_head NoMemory seen e = tt

pub opens_scan : {X : Type 0} (view : X → Scan) (fault : SideFault) (seen : List ℕ) → IsScan view (Err fault) seen → OpensRanked (Err fault) (log_of seen)
opens_scan view (NotALog at) seen e = e
opens_scan view Disk seen e = tt
opens_scan view NoMemory seen e = tt

-- a blank side
pub opens_blank : (seen : List ℕ) (log : SideState) → is_blank seen ≡ true → log.head ≡ None → log.places ≡ [] → log.waiting ≡ None → OpensRanked (Ok (log, record { view = 0; number = 0 })) (log_of seen)
unfolding rank_of
opens_blank seen log blank none empty rests = (None, blank_log seen blank, record { head = none; places = empty; rests = rests }, refl)

pub blank_has : (seen : List ℕ) (log : SideState) → is_blank seen ≡ true → log.head ≡ None → log.places ≡ [] → HasBytes 165 log seen (settled seen)
blank_has seen log blank none empty = rw none (record { empty = empty; blank = blank; still = refl })

-- a log
pub opens_log : (seen : List ℕ) (log : SideState) (rank : Rank) (x : Header × ℕ) → log.head ≡ Some x → log.waiting ≡ None → (e : Ended seen log.end rank log.places) → IsHeaded seen x → OpensRanked (Ok (log, rank)) (log_of seen)
unfolding ended_has
opens_log seen log rank x is rests e h =
    let has = ended_has seen log rank x h rests e in
    let content : Log = record { header = x.0; generation = x.1; frames = has.found } in
    (Some content, log_is x.0 x.1 log seen (settled seen) has, record { head = is; places = has.places; rests = rests }, sym e.scanned.ranked)
