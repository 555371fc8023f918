-- The list of a disk is numbered from 1 on, without a Base, and has addresses of 32 bytes: it was read so.
use Rattle.std.proofs.Common.{◌≡◌, ◌∙◌, sym, subst, ℕ, zero, suc, ◌+◌, List, [], ◌∷◌, length, map, take, drop, Bool, true, false, Option, Some, None, Result, Ok, Err, refl, if◌then◌else◌}
use Rattle.std.proofs.lemmas.List.Elements.{All-cons, All-nil}
use Rattle.std.specs.List.{AllByRecursion, enumerate_from}
use Rattle.std.specs.Prelude.{All}
use Rattle.hs_clauses.proofs.BlockLemmas.{entry_brings}
use Rattle.hs_clauses.proofs.NumberedLemmas.{log_numbered}
use Rattle.hs_entry.specs.declared.entry.Entry.{Entry}
use Rattle.hs_entry.specs.Entries.{is_of_base}
use Rattle.hs_entry.specs.Reading.{entry_at}
use Rattle.hs_events.specs.Sane.{IsFromOne}
use Rattle.hs_fold.specs.Prefix.{GoOn as GoesOn, IsNumbered}
use Rattle.hs_fold.specs.Shards.Setting.{Numbered}
use Rattle.hs_standing.proofs.CatalogueLemmas.{Brings, applied_keeps}
use Rattle.hs_standing.specs.Held.{GivesAddresses, KeepsAddresses}
use Rattle.hs_limits.proofs.FieldLemmas.{bind_ok}
use Rattle.hs_limits.specs.declared.address.Address.{Address}
use Rattle.hs_limits.specs.Fields.{◌>>=◌}
use Rattle.hs_memory.specs.Forget.{apply_all, named}
use Rattle.hs_peerlog.specs.Lists.{GoOn}
use Rattle.hs_ports.specs.declared.disk.Side.{Side}
use Rattle.hs_shard.specs.Apply.{apply}
use Rattle.hs_shard.specs.Facts.{Catalogue}
use Rattle.hs_side.proofs.ReadLemmas.{found_read}
use Rattle.hs_side.specs.Current.{current, list_in}
use Rattle.hs_side.specs.Follow.{Follow, may_end, start}
use Rattle.hs_side.specs.Reading.{Found, Frame, Log, entry_of, found_in, frames, head_of, is_blank, is_open, listed, log_of, payload_at, with_frames}

abbrev given : {A E : Type 0} → A → Result A E
given x = Ok x

ok_is : {A E : Type 0} {x y : A} → given {E = E} x ≡ given y → x ≡ y
ok_is e = cc e

some_is : {A : Type 0} {x y : A} → Some x ≡ Some y → x ≡ y
some_is e = cc e

-- ---- numbers

counted : (n : ℕ) (list : Numbered) → GoOn n list → (entries : List Entry) × (list ≡ enumerate_from (n + 1) entries) × All (λ entry. is_of_base entry ≡ false) entries
counted n [] g = ([], refl, All-nil (λ (e : Entry). is_of_base e ≡ false))
counted n (e ∷ es) g =
    let rest = counted (n + 1) es g.2 in
    (e.1 ∷ rest.0, (λ i. (g.0 i, e.1) ∷ rest.1 i), All-cons (λ (x : Entry). is_of_base x ≡ false) e.1 rest.0 g.1 rest.2)

from_one : (list : Numbered) → GoOn 0 list → IsFromOne list
from_one list g = let c = counted 0 list g in record { entries = c.0; counted = c.1; plain = c.2 }

pub from_empty : IsFromOne []
from_empty = record { entries = []; counted = refl; plain = All-nil (λ (e : Entry). is_of_base e ≡ false) }

goes : (n : ℕ) (list : Numbered) → GoOn n list → GoesOn n list
goes n [] g = tt
goes n (e ∷ es) g = (g.0, g.1, goes (n + 1) es g.2)

-- ---- what a log has of each entry

-- what is so of the entry of each payload that is read
module _ (P : ℕ × Entry → Type 0) (each : (payload : List ℕ) (number : ℕ) (entry : Entry) → entry_at payload ≡ Ok (number, entry) → P (number, entry)) where
  abbrev pub AreAll : Numbered → Type 0
  AreAll list = AllByRecursion P list

  one_more : (follow : Follow) (at : ℕ) (found : Found) (payload : List ℕ) (more fs : List Frame) → found_in follow payload ≡ Some found → AreAll (map entry_of more)
      → (record { place = at; number = found.number; entry = found.entry }) ∷ more ≡ fs → AreAll (map entry_of fs)
  one_more follow at found payload more fs e g is =
      let read = found_read follow payload found e in
      subst (λ (xs : List Frame). AreAll (map entry_of xs)) is (each payload found.number found.entry read.0, g)

  all_read : (at : ℕ) (follow : Follow) (pass : ℕ) (bytes : List ℕ) (fs : List Frame) → frames at follow pass bytes ≡ Ok fs → AreAll (map entry_of fs)
  unfolding frames
  all_read at follow pass [] fs e = cc e
  all_read at follow (suc pass) (byte ∷ bytes) fs e = all_read (at + 1) follow pass bytes fs e
  all_read at follow zero (gate ∷ bytes) fs e = go (λ at follow pass fs. all_read at follow pass bytes fs) (is_open gate) refl (payload_at bytes) refl
    where
      paid : ((at : ℕ) (follow : Follow) (pass : ℕ) (fs : List Frame) → frames at follow pass bytes ≡ Ok fs → AreAll (map entry_of fs))
          → is_open gate ≡ true → (payload : List ℕ) → payload_at bytes ≡ Some payload → (f : Option Found) → found_in follow payload ≡ f → AreAll (map entry_of fs)
      paid ih o payload p None f = let is : frames at follow zero (gate ∷ bytes) ≡ Err at = rw (o, p, f) refl in cc (sym is ∙ e)
      paid ih o payload p (Some found) f =
          let is : frames at follow zero (gate ∷ bytes) ≡ with_frames (record { place = at; number = found.number; entry = found.entry } ∷ []) (frames (at + 1) found.follow (4 + length payload) bytes) = rw (o, p, f) refl in
          rest (frames (at + 1) found.follow (4 + length payload) bytes) refl (sym is ∙ e)
        where
          rest : (r : Result (List Frame) ℕ) → frames (at + 1) found.follow (4 + length payload) bytes ≡ r → with_frames (record { place = at; number = found.number; entry = found.entry } ∷ []) r ≡ Ok fs → AreAll (map entry_of fs)
          rest (Err place) r k = cc k
          rest (Ok more) r k = one_more follow at found payload more fs f (ih (at + 1) found.follow (4 + length payload) more r) (ok_is {E = ℕ} k)

      go : ((at : ℕ) (follow : Follow) (pass : ℕ) (fs : List Frame) → frames at follow pass bytes ≡ Ok fs → AreAll (map entry_of fs))
          → (opens : Bool) → is_open gate ≡ opens → (payload : Option (List ℕ)) → payload_at bytes ≡ payload → AreAll (map entry_of fs)
      go ih true o None p = let is : frames at follow zero (gate ∷ bytes) ≡ Err at = rw (o, p) refl in cc (sym is ∙ e)
      go ih true o (Some payload) p = paid ih o payload p (found_in follow payload) refl
      go ih false o payload p = ends (may_end follow) refl
        where
          ends : (b : Bool) → may_end follow ≡ b → AreAll (map entry_of fs)
          ends true b =
              let is : frames at follow zero (gate ∷ bytes) ≡ Ok [] = rw (o, b) refl in
              subst (λ (xs : List Frame). AreAll (map entry_of xs)) (ok_is {E = ℕ} (sym is ∙ e)) tt
          ends false b = let is : frames at follow zero (gate ∷ bytes) ≡ Err at = rw (o, b) refl in cc (sym is ∙ e)

  log_read : (bytes : List ℕ) (log : Log) → log_of bytes ≡ Ok (Some log) → AreAll (map entry_of log.frames)
  unfolding log_of
  log_read bytes log e = go (is_blank bytes) e
    where
      log_is : {x y : Log} → given {E = ℕ} (Some x) ≡ given (Some y) → x ≡ y
      log_is e = cc e

      read : Result (Option Log) ℕ
      read = head_of (take 17 bytes) >>= λ head. frames 17 start 0 (drop 17 bytes) >>= λ found. Ok (Some (record { header = head.0; generation = head.1; frames = found }))

      go : (b : Bool) → (if b then Ok None else read) ≡ Ok (Some log) → AreAll (map entry_of log.frames)
      go true k = cc k
      go false k =
          let head = bind_ok (head_of (take 17 bytes)) (λ head. frames 17 start 0 (drop 17 bytes) >>= λ found. Ok (Some (record { header = head.0; generation = head.1; frames = found }))) (Some log) k in
          let found = bind_ok (frames 17 start 0 (drop 17 bytes)) (λ found. Ok (Some (record { header = head.0.0; generation = head.0.1; frames = found }))) (Some log) head.2 in
          subst (λ (l : Log). AreAll (map entry_of l.frames)) (log_is found.2) (all_read 17 start 0 (drop 17 bytes) found.0 found.1)

  pub read_all : (seen : Side → List ℕ) (list : Numbered) → list_in seen ≡ Some list → AreAll list
  read_all seen list h = by_log (log_of (seen (current seen))) refl h
    where
      by_log : (r : Result (Option Log) ℕ) → log_of (seen (current seen)) ≡ r → listed r ≡ Some list → AreAll list
      by_log (Err at) e k = absurd (cc k)
      by_log (Ok None) e k = subst (λ (es : Numbered). AreAll es) (some_is k) tt
      by_log (Ok (Some log)) e k = subst (λ (es : Numbered). AreAll es) (some_is k) (log_read (seen (current seen)) log e)

module _ (name : List ℕ → Address) (names : GivesAddresses name) where
  abbrev pub BringsAll : Numbered → Type 0
  BringsAll list = AllByRecursion (λ (e : ℕ × Entry). Brings (named name e.1) e.1) list

  pub read_brings : (seen : Side → List ℕ) (list : Numbered) → list_in seen ≡ Some list → BringsAll list
  read_brings seen list h = read_all (λ (e : ℕ × Entry). Brings (named name e.1) e.1) (λ payload number entry e. entry_brings name names payload number entry e) seen list h

  -- so the catalogue of what was read keeps such addresses
  pub applied_all : (list : Numbered) (c : Catalogue) → BringsAll list → KeepsAddresses c → KeepsAddresses (apply_all name c list)
  applied_all [] c brings keeps = keeps
  applied_all (e ∷ list) c brings keeps = applied_all list (apply e.0 e.1 (named name e.1) c).catalogue brings.1 (applied_keeps e.0 e.1 (named name e.1) c brings.0 keeps)

read_goes : (seen : Side → List ℕ) (list : Numbered) → list_in seen ≡ Some list → GoOn 0 list
read_goes seen list h = by_log (log_of (seen (current seen))) refl h
  where
    by_log : (r : Result (Option Log) ℕ) → log_of (seen (current seen)) ≡ r → listed r ≡ Some list → GoOn 0 list
    by_log (Err at) e k = absurd (cc k)
    by_log (Ok None) e k = subst (λ (es : Numbered). GoOn 0 es) (some_is k) tt
    by_log (Ok (Some log)) e k = subst (λ (es : Numbered). GoOn 0 es) (some_is k) (log_numbered (seen (current seen)) log e)

pub read_from_one : (seen : Side → List ℕ) (list : Numbered) → list_in seen ≡ Some list → IsFromOne list
read_from_one seen list h = from_one list (read_goes seen list h)

pub read_numbered : (seen : Side → List ℕ) (list : Numbered) → list_in seen ≡ Some list → IsNumbered list
read_numbered seen list h = goes 0 list (read_goes seen list h)
