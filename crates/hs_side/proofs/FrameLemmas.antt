-- One frame of a side: the tests of the code are those of the reading.
use Rattle.std.proofs.Common.{◌≡◌, ◌∙◌, ℕ, ◌+◌, ◌<◌, ◌≤◌, ◌&&◌, Bool, true, false, cond, eqb, ltb, List, ◌∷◌, ◌++◌, length, take, drop, None, Some, Result, Ok, Err, IfOk, IfSome, IfErr, refl, ap, sym, arith, append_assoc, length-drop, take-append-drop}
use Rattle.std.specs.Int.{w32, to_be_bytes}
use Rattle.std.proofs.lemmas.Bool.{eqb-true, le-ltb, lt-ltb}
use Rattle.std.proofs.lemmas.List.{drop-drop, length-take-le}
use Rattle.hs_entry.specs.declared.entry.Entry.{Entry}
use Rattle.hs_entry.specs.declared.entry.Entry.TheVariants.{View, Block, Mark, Root, Drop, Enter, Got, Base, KeptBlock, KeptRoot, KeptRound}
use Rattle.hs_entry.specs.declared.fault.EntryFault.{EntryFault}
use Rattle.hs_entry.specs.declared.fault.EntryFault.TheVariants as entry_fault
use Rattle.hs_entry.specs.declared.rank.Rank.{Rank}
use Rattle.hs_entry.specs.Entries.{is_of_base, rank_after, view_after}
use Rattle.hs_entry.specs.Reading.{entry_at, Fails}
use Rattle.hs_entry.proofs.PlainLemmas.{entry_plain}
use Rattle.hs_entry.proofs.RankLemmas.{rank_plain}
use Rattle.hs_limits.specs.Fields.{◌>>=◌}
use Rattle.hs_limits.proofs.FieldLemmas.{bind_ok, ok_is}
use Rattle.hs_side.specs.declared.fault.SideFault.{SideFault}
use Rattle.hs_side.specs.declared.fault.SideFault.TheVariants.{NotALog, Disk, NoMemory}
use Rattle.hs_side.specs.Follow.{Follow, after, after_entry, may_end, only_if}
use Rattle.hs_side.specs.Reading.{is_open, length_at, payload_at, found_by, found_in, frames}
use Rattle.hs_side.specs.Spelling.{body}
use Rattle.hs_side.proofs.ReadLemmas.{payload_again, some_is}
use Rattle.hs_side.specs.Steps.{IsPlain, IsNext, IsPayload, IsFrame, refusal}

-- ---- the payload

pub payload_short : (bytes : List ℕ) → length bytes < 4 → payload_at bytes ≡ None
unfolding payload_at
payload_short bytes short = let test : ltb (length bytes) 4 ≡ true = lt-ltb _ _ short in rw test refl

pub payload_long : (bytes : List ℕ) → 4 ≤ length bytes → 600000 < length_at bytes → payload_at bytes ≡ None
unfolding payload_at
payload_long bytes whole long =
    let one : ltb (length bytes) 4 ≡ false = le-ltb _ _ whole in
    let two : ltb 600000 (length_at bytes) ≡ true = lt-ltb _ _ long in
    rw (one, two) refl

pub payload_past : (bytes : List ℕ) → 4 ≤ length bytes → length_at bytes ≤ 600000 → length bytes < 4 + length_at bytes → payload_at bytes ≡ None
unfolding payload_at
payload_past bytes whole short past =
    let one : ltb (length bytes) 4 ≡ false = le-ltb _ _ whole in
    let two : ltb 600000 (length_at bytes) ≡ false = le-ltb _ _ short in
    let three : ltb (length bytes) (4 + length_at bytes) ≡ true = lt-ltb _ _ past in
    rw (one, two, three) refl

-- a payload that is read is spelled behind its length
pub payload_is :
    (bytes held : List ℕ) (len : ℕ) → 4 ≤ length bytes → to_be_bytes w32 len ≡ take 4 bytes → 4 + len ≤ length bytes → held ≡ take len (drop 4 bytes)
    → bytes ≡ body held ++ drop (4 + length held) bytes
payload_is bytes held len whole field within held_is =
    let long : length held ≡ len = ap (λ (l : List ℕ). length l) held_is ∙ length-take-le len (drop 4 bytes) (omega (arith, length-drop 4 bytes)) in
    let back : to_be_bytes w32 (length held) ≡ take 4 bytes = ap (to_be_bytes w32) long ∙ field in
    let rest : drop len (drop 4 bytes) ≡ drop (4 + length held) bytes = drop-drop len 4 bytes ∙ ap (λ (n : ℕ). drop (4 + n) bytes) (sym long) in
    sym (take-append-drop 4 bytes)
    ∙ ap (λ (l : List ℕ). take 4 bytes ++ l) (sym (take-append-drop len (drop 4 bytes)))
    ∙ ap (λ (l : List ℕ). take 4 bytes ++ (take len (drop 4 bytes) ++ l)) rest
    ∙ sym (append_assoc (take 4 bytes) (take len (drop 4 bytes)) (drop (4 + length held) bytes))
    ∙ ap (λ (l : List ℕ). l ++ take len (drop 4 bytes) ++ drop (4 + length held) bytes) (sym back)
    ∙ ap (λ (l : List ℕ). to_be_bytes w32 (length held) ++ l ++ drop (4 + length held) bytes) (sym held_is)

-- ---- the entry

found_entry : (follow : Follow) (payload : List ℕ) (number : ℕ) (entry : Entry) → entry_at payload ≡ Ok (number, entry) → found_in follow payload ≡ found_by number entry (after follow number entry)
unfolding found_in
found_entry follow payload number entry read = rw read refl

after_plain : (follow : Follow) (number : ℕ) (entry : Entry) → is_of_base entry ≡ false → after follow number entry ≡ after_entry follow number
after_plain follow number (View view) f = refl
after_plain follow number (Block op least bytes) f = refl
after_plain follow number (Mark op least block address) f = refl
after_plain follow number (Root op held address key) f = refl
after_plain follow number (Drop op key) f = refl
after_plain follow number (Enter op epoch) f = refl
after_plain follow number (Got sender epoch round total deltas) f = refl
after_plain follow number (Base view epoch swept round frames) f = absurd cc
after_plain follow number (KeptBlock born mark flags count bytes) f = absurd cc
after_plain follow number (KeptRoot created dropped counted address key) f = absurd cc
after_plain follow number (KeptRound way other epoch round total deltas) f = absurd cc

first_true : (a b : Bool) → (a && b) ≡ true → a ≡ true
first_true true b e = refl
first_true false b e = absurd cc

-- behind an entry that is read a log may end: no kept frame is owed there
pub read_ends : (follow next : Follow) (payload : List ℕ) (number : ℕ) (entry : Entry) → entry_at payload ≡ Ok (number, entry) → after follow number entry ≡ Some next → may_end next ≡ true
read_ends follow next payload number entry read comes = go (eqb follow.owed 0 && eqb number (follow.last + 1)) refl
  where
    new : Follow
    new = record follow { first = false; last = number }

    came : after_entry follow number ≡ Some next
    came = sym (after_plain follow number entry (entry_plain payload number entry read)) ∙ comes

    go : (b : Bool) → (eqb follow.owed 0 && eqb number (follow.last + 1)) ≡ b → may_end next ≡ true
    go true e =
        let is : new ≡ next = some_is _ _ (ap (λ (t : Bool). only_if t new) (sym e) ∙ came) in
        ap (λ (f : Follow). eqb f.owed 0) (sym is) ∙ first_true (eqb follow.owed 0) (eqb number (follow.last + 1)) e
    go false e = absurd (cc (sym (ap (λ (t : Bool). only_if t new) (sym e) ∙ came)))

-- an entry that is read comes next exactly where its number is one above the last
next_of : (last rank : Rank) (payload : List ℕ) (number : ℕ) (entry : Entry) → is_of_base entry ≡ false → entry_at payload ≡ Ok (number, entry) → rank.number ≡ number → rank ≡ rank_after last number entry
    → IsNext (cond (eqb rank.number (last.number + 1)) (Some rank) None) last payload
next_of last rank payload number entry plain read named ranked = go (eqb rank.number (last.number + 1)) refl
  where
    found : (follow : Follow) → found_in follow payload ≡ found_by number entry (after_entry follow number)
    found follow = found_entry follow payload number entry read ∙ ap (found_by number entry) (after_plain follow number entry plain)

    tests : (follow : Follow) (b : Bool) → IsPlain follow last.number → eqb rank.number (last.number + 1) ≡ b → (eqb follow.owed 0 && eqb number (follow.last + 1)) ≡ b
    tests follow b is e = rw (is.owed, is.ends, ← named, e) refl

    go : (b : Bool) → eqb rank.number (last.number + 1) ≡ b → IsNext (cond b (Some rank) None) last payload
    go true e = λ follow is. record {
      found = record { number = number; entry = entry; follow = record follow { first = false; last = number } };
      comes = found follow ∙ ap (λ (t : Bool). found_by number entry (only_if t (record follow { first = false; last = number }))) (tests follow true is e);
      plain = record { owed = is.owed; ends = sym named };
      ranked = ranked;
    }
    go false e = λ follow is. found follow ∙ ap (λ (t : Bool). found_by number entry (only_if t (record follow { first = false; last = number }))) (tests follow false is e)

abbrev with_entry : Rank → ℕ × Entry → Rank
with_entry last x = record { view = view_after last.view x.1; number = x.0 }

pub next_read : (last rank : Rank) (payload : List ℕ) → (entry_at payload >>= λ x. Ok (with_entry last x)) ≡ Ok rank → IsNext (cond (eqb rank.number (last.number + 1)) (Some rank) None) last payload
next_read last rank payload read =
    let b = bind_ok (entry_at payload) (λ x. Ok (with_entry last x)) rank read in
    let is : with_entry last b.0 ≡ rank = ok_is {E = EntryFault} (with_entry last b.0) rank b.2 in
    let plain : is_of_base b.0.1 ≡ false = entry_plain payload b.0.0 b.0.1 b.1 in
    next_of last rank payload b.0.0 b.0.1 plain b.1 (ap (λ (r : Rank). r.number) (sym is)) (sym is ∙ sym (rank_plain last b.0.0 b.0.1 plain))

found_refused : (follow : Follow) (payload : List ℕ) (fault : EntryFault) → entry_at payload ≡ Err fault → found_in follow payload ≡ None
unfolding found_in
found_refused follow payload fault refused = rw refused refl

-- a payload that is refused comes nowhere
nowhere : {X : Type 0} (last : Rank) (payload : List ℕ) (view : ℕ × Entry → X) (fault : EntryFault) → (entry_at payload >>= λ x. Ok (view x)) ≡ Err fault → IsNext None last payload
nowhere last payload view fault e = λ follow plain. found_refused follow payload fault (was (entry_at payload) e)
  where
    was : (read : Result (ℕ × Entry) EntryFault) → (read >>= λ x. Ok (view x)) ≡ Err fault → read ≡ Err fault
    was (Ok x) k = absurd cc
    was (Err other) k = ap (λ (f : EntryFault). Err f) (cc k)

pub next_refused : {X : Type 0} (last : Rank) (payload : List ℕ) (view : ℕ × Entry → X) (fault : EntryFault) → Fails fault (entry_at payload >>= λ x. Ok (view x)) → IfOk (refusal fault) (λ rank. IsNext rank last payload)
next_refused last payload view entry_fault.NoMemory e = tt
next_refused last payload view (entry_fault.Short at) e = nowhere last payload view _ e
next_refused last payload view (entry_fault.BadKind kind) e = nowhere last payload view _ e
next_refused last payload view (entry_fault.BadField at) e = nowhere last payload view _ e
next_refused last payload view (entry_fault.Trailing at) e = nowhere last payload view _ e

pub memory_alone : (fault : EntryFault) → IfErr (refusal fault) (λ fault. fault ≡ NoMemory)
memory_alone entry_fault.NoMemory = refl
memory_alone (entry_fault.Short at) = tt
memory_alone (entry_fault.BadKind kind) = tt
memory_alone (entry_fault.BadField at) = tt
memory_alone (entry_fault.Trailing at) = tt

-- what is answered is one above the last
pub refused_above : (number : ℕ) (fault : EntryFault) → IfOk (refusal fault) (λ rank. IfSome rank (λ next. next.number ≡ number))
refused_above number entry_fault.NoMemory = tt
refused_above number (entry_fault.Short at) = tt
refused_above number (entry_fault.BadKind kind) = tt
refused_above number (entry_fault.BadField at) = tt
refused_above number (entry_fault.Trailing at) = tt

pub follows_above : (number : ℕ) (rank : Rank) → IfSome (cond (eqb rank.number number) (Some rank) None) (λ next. next.number ≡ number)
follows_above number rank = go (eqb rank.number number) refl
  where
    go : (same : Bool) → eqb rank.number number ≡ same → IfSome (cond same (Some rank) None) (λ next. next.number ≡ number)
    go true is = eqb-true rank.number number is
    go false is = tt

-- ---- the frame

frames_bad_payload : (at : ℕ) (follow : Follow) (gate : ℕ) (bytes : List ℕ) → is_open gate ≡ true → payload_at bytes ≡ None → frames at follow 0 (gate ∷ bytes) ≡ Err at
unfolding frames
frames_bad_payload at follow gate bytes opens none = rw (opens, none) refl

frames_bad_entry : (at : ℕ) (follow : Follow) (gate : ℕ) (bytes payload : List ℕ) → is_open gate ≡ true → payload_at bytes ≡ Some payload → found_in follow payload ≡ None → frames at follow 0 (gate ∷ bytes) ≡ Err at
unfolding frames
frames_bad_entry at follow gate bytes payload opens read none = rw (opens, read, none) refl

-- a payload that is not read
pub frame_err : (fault : SideFault) (at : ℕ) (last : Rank) (seen held : List ℕ) → IsPayload (Err fault) at seen held → IsFrame (Err fault) at last seen held
frame_err (NotALog place) at last seen held e = (e.0, λ follow plain gate opens. frames_bad_payload at follow gate (drop (at + 1) seen) opens e.1)
frame_err Disk at last seen held e = tt
frame_err NoMemory at last seen held e = tt

-- one whose entry doesn't come there
pub frame_none : (at : ℕ) (last : Rank) (seen held payload : List ℕ) → length held ≤ 600000 → payload ≡ held → drop (at + 1) seen ≡ body held ++ drop (at + 5 + length held) seen → IsNext None last payload → IsFrame (Err (NotALog at)) at last seen held
frame_none at last seen held payload short is spelled next =
    let read : payload_at (drop (at + 1) seen) ≡ Some held = ap payload_at spelled ∙ payload_again held (drop (at + 5 + length held) seen) short in
    (refl, λ follow plain gate opens. frames_bad_entry at follow gate (drop (at + 1) seen) held opens read (ap (found_in follow) (sym is) ∙ next follow plain))
