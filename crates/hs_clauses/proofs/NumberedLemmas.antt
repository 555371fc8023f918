-- The entries of a log that is read have numbers that go on by one from 1.
use Rattle.std.proofs.Common.{◌≡◌, ℕ, zero, suc, ◌+◌, ◌==◌, ◌&&◌, List, [], ◌∷◌, length, map, take, drop, Bool, true, false, Option, Some, None, Result, Ok, Err, refl, ap, ◌∙◌, sym, subst, arith, if◌then◌else◌}
use Rattle.std.proofs.lemmas.Bool.Decides.{nat_tests}
use Rattle.hs_limits.specs.Fields.{◌>>=◌}
use Rattle.hs_limits.proofs.FieldLemmas.{bind_ok}
use Rattle.hs_entry.specs.declared.entry.Entry.{Entry}
use Rattle.hs_entry.specs.declared.entry.Entry.TheVariants as kind
use Rattle.hs_entry.specs.Entries.{is_of_base}
use Rattle.hs_peerlog.specs.Lists.{GoOn, IsNumbered}
use Rattle.hs_side.specs.Follow.{Follow, start, after, after_entry, only_if, may_end}
use Rattle.hs_side.specs.Reading.{Log, Frame, Found, entry_of, frames, with_frames, payload_at, found_in, is_open, is_blank, head_of, log_of}
use Rattle.hs_side.proofs.ReadLemmas.{found_read}
use Rattle.hs_entry.proofs.PlainLemmas.{entry_plain}

abbrev given : {A E : Type 0} → A → Result A E
given x = Ok x

ok_is : {A E : Type 0} {x y : A} → given {E = E} x ≡ given y → x ≡ y
ok_is e = cc e

-- ---- each comes behind the last

-- how a follow goes on
record Next (follow next : Follow) (number : ℕ) : Type 0 where
  number_is : number ≡ follow.last + 1
  last : next.last ≡ number
  owed : next.owed ≡ follow.owed

entry_next : (follow next : Follow) (number : ℕ) → after_entry follow number ≡ Some next → Next follow next number
entry_next follow next number e = go (follow.owed == 0) (number == follow.last + 1) refl e
  where
    same : number == follow.last + 1 ≡ true → number ≡ follow.last + 1
    same e = grind (arith, nat_tests, e)

    some_is : {x y : Follow} → Some x ≡ Some y → y ≡ x
    some_is e = cc e

    go : (p q : Bool) → number == follow.last + 1 ≡ q → only_if (p && q) (record follow { first = false; last = number }) ≡ Some next → Next follow next number
    go true true k e = let is : next ≡ record follow { first = false; last = number } = some_is e in record { number_is = same k; last = ap (λ (f : Follow). f.last) is; owed = ap (λ (f : Follow). f.owed) is }
    go true false k e = cc e
    go false q k e = cc e

plain_next : (follow next : Follow) (number : ℕ) (entry : Entry) → is_of_base entry ≡ false → after follow number entry ≡ Some next → Next follow next number
plain_next follow next number (kind.View view) p e = entry_next follow next number e
plain_next follow next number (kind.Block op least bytes) p e = entry_next follow next number e
plain_next follow next number (kind.Mark op least block address) p e = entry_next follow next number e
plain_next follow next number (kind.Root op held address key) p e = entry_next follow next number e
plain_next follow next number (kind.Drop op key) p e = entry_next follow next number e
plain_next follow next number (kind.Enter op epoch) p e = entry_next follow next number e
plain_next follow next number (kind.Got sender epoch round total deltas) p e = entry_next follow next number e
plain_next follow next number (kind.Base view epoch swept round frames) p e = cc p
plain_next follow next number (kind.KeptBlock born mark flags count bytes) p e = cc p
plain_next follow next number (kind.KeptRoot created dropped counted address key) p e = cc p
plain_next follow next number (kind.KeptRound way other epoch round total deltas) p e = cc p

one_more : (follow : Follow) (at : ℕ) (found : Found) (payload : List ℕ) (more fs : List Frame) → found_in follow payload ≡ Some found → GoOn found.follow.last (map entry_of more)
    → (record { place = at; number = found.number; entry = found.entry }) ∷ more ≡ fs → GoOn follow.last (map entry_of fs)
one_more follow at found payload more fs e g is =
    let read = found_read follow payload found e in
    let plain : is_of_base found.entry ≡ false = entry_plain payload found.number found.entry read.0 in
    let next : Next follow found.follow found.number = plain_next follow found.follow found.number found.entry plain read.1 in
    subst (λ (xs : List Frame). GoOn follow.last (map entry_of xs)) is
    (next.number_is, plain, subst (λ n. GoOn n (map entry_of more)) (next.last ∙ next.number_is) g)

all_numbered : (at : ℕ) (follow : Follow) (pass : ℕ) (bytes : List ℕ) (fs : List Frame) → frames at follow pass bytes ≡ Ok fs → GoOn follow.last (map entry_of fs)
unfolding frames
all_numbered at follow pass [] fs e = cc e
all_numbered at follow (suc pass) (byte ∷ bytes) fs e = all_numbered (at + 1) follow pass bytes fs e
all_numbered at follow zero (gate ∷ bytes) fs e = go (λ at follow pass fs. all_numbered at follow pass bytes fs) (is_open gate) refl (payload_at bytes) refl
  where
    paid : ((at : ℕ) (follow : Follow) (pass : ℕ) (fs : List Frame) → frames at follow pass bytes ≡ Ok fs → GoOn follow.last (map entry_of fs))
        → is_open gate ≡ true → (payload : List ℕ) → payload_at bytes ≡ Some payload → (f : Option Found) → found_in follow payload ≡ f → GoOn follow.last (map entry_of fs)
    paid ih o payload p None f = let is : frames at follow zero (gate ∷ bytes) ≡ Err at = rw (o, p, f) refl in cc (sym is ∙ e)
    paid ih o payload p (Some found) f =
        let is : frames at follow zero (gate ∷ bytes) ≡ with_frames (record { place = at; number = found.number; entry = found.entry } ∷ []) (frames (at + 1) found.follow (4 + length payload) bytes) = rw (o, p, f) refl in
        rest (frames (at + 1) found.follow (4 + length payload) bytes) refl (sym is ∙ e)
      where
        rest : (r : Result (List Frame) ℕ) → frames (at + 1) found.follow (4 + length payload) bytes ≡ r → with_frames (record { place = at; number = found.number; entry = found.entry } ∷ []) r ≡ Ok fs → GoOn follow.last (map entry_of fs)
        rest (Err place) r k = cc k
        rest (Ok more) r k = one_more follow at found payload more fs f (ih (at + 1) found.follow (4 + length payload) more r) (ok_is {E = ℕ} k)

    go : ((at : ℕ) (follow : Follow) (pass : ℕ) (fs : List Frame) → frames at follow pass bytes ≡ Ok fs → GoOn follow.last (map entry_of fs))
        → (opens : Bool) → is_open gate ≡ opens → (payload : Option (List ℕ)) → payload_at bytes ≡ payload → GoOn follow.last (map entry_of fs)
    go ih true o None p = let is : frames at follow zero (gate ∷ bytes) ≡ Err at = rw (o, p) refl in cc (sym is ∙ e)
    go ih true o (Some payload) p = paid ih o payload p (found_in follow payload) refl
    go ih false o payload p = ends (may_end follow) refl
      where
        ends : (b : Bool) → may_end follow ≡ b → GoOn follow.last (map entry_of fs)
        ends true b =
            let is : frames at follow zero (gate ∷ bytes) ≡ Ok [] = rw (o, b) refl in
            subst (λ (xs : List Frame). GoOn follow.last (map entry_of xs)) (ok_is {E = ℕ} (sym is ∙ e)) tt
        ends false b = let is : frames at follow zero (gate ∷ bytes) ≡ Err at = rw (o, b) refl in cc (sym is ∙ e)

pub log_numbered : (bytes : List ℕ) (log : Log) → log_of bytes ≡ Ok (Some log) → IsNumbered (map entry_of log.frames)
unfolding log_of
log_numbered bytes log e = go (is_blank bytes) e
  where
    some_is : {x y : Log} → given {E = ℕ} (Some x) ≡ given (Some y) → x ≡ y
    some_is e = cc e

    read : Result (Option Log) ℕ
    read = head_of (take 17 bytes) >>= λ head. frames 17 start 0 (drop 17 bytes) >>= λ found. Ok (Some (record { header = head.0; generation = head.1; frames = found }))

    go : (b : Bool) → (if b then Ok None else read) ≡ Ok (Some log) → IsNumbered (map entry_of log.frames)
    go true k = cc k
    go false k =
        let head = bind_ok (head_of (take 17 bytes)) (λ head. frames 17 start 0 (drop 17 bytes) >>= λ found. Ok (Some (record { header = head.0; generation = head.1; frames = found }))) (Some log) k in
        let found = bind_ok (frames 17 start 0 (drop 17 bytes)) (λ found. Ok (Some (record { header = head.0.0; generation = head.0.1; frames = found }))) (Some log) head.2 in
        subst (λ (l : Log). IsNumbered (map entry_of l.frames)) (some_is found.2) (all_numbered 17 start 0 (drop 17 bytes) found.0 found.1)
