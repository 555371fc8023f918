-- What an append and a seal do to a side that tells its contents.
use Rattle.std.proofs.Common.{◌≡◌, ◌∙◌, ℕ, ◌+◌, ◌<◌, ◌≤◌, max, List, [], ◌∷◌, ◌++◌, length, Option, None, Some, IsSome, MatchOption, Ok, refl, ap, sym, subst, arith, length-append}
use Rattle.hs_ports.specs.declared.disk.Side.{Side}
use Rattle.hs_ports.specs.Moments.{EachMoment}
use Rattle.hs_ports.proofs.MomentLemmas.{begun, weaker}
use Rattle.hs_ports.specs.Disk.{Loose, IsImage, Standing, settled, written, overwritten}
use Rattle.hs_entry.specs.declared.entry.Entry.{Entry}
use Rattle.hs_entry.specs.declared.fault.EntryFault.{EntryFault}
use Rattle.hs_entry.specs.Payload.{payload}
use Rattle.hs_entry.specs.Reading.{IsReadable, entry_at}
use Rattle.hs_entry.proofs.ShortLemmas.{payload-short}
use Rattle.hs_side.specs.declared.header.Header.{Header}
use Rattle.hs_side.specs.Giving.{GivesSame}
use Rattle.hs_side.specs.Reading.{log_of, with_frame}
use Rattle.hs_side.specs.Spelling.{body}
use Rattle.hs_side.specs.Standing.{SideState, HasLog, HasNone, HasBytes, Waits, Stands, MayCome, opened}
use Rattle.hs_side.proofs.ReadLemmas.{length-body, found_read}
use Rattle.hs_side.proofs.CrashLemmas.{firm_log, log_more, appended, log_is, ok_is}

-- the log of a side that is not blank
pub has_log : (gate : ℕ) (log : SideState) (seen : List ℕ) (loose : Loose) → IsSome log.head → HasBytes gate log seen loose → (h : Header × ℕ) × (log.head ≡ Some h) × HasLog gate h.0 h.1 log seen loose
has_log gate log seen loose some has = go log.head refl some has
  where
    go : (o : Option (Header × ℕ)) → log.head ≡ o → IsSome o → MatchOption o (HasNone log seen loose) (λ head. HasLog gate head.0 head.1 log seen loose) → (h : Header × ℕ) × (log.head ≡ Some h) × HasLog gate h.0 h.1 log seen loose
    go None is some has = absurd cc
    go (Some h) is some has = (h, is, has)

pub has_bytes : (gate : ℕ) (log : SideState) (seen : List ℕ) (loose : Loose) (h : Header × ℕ) → log.head ≡ Some h → HasLog gate h.0 h.1 log seen loose → HasBytes gate log seen loose
has_bytes gate log seen loose h is has =
    subst (λ (o : Option (Header × ℕ)). MatchOption o (HasNone log seen loose) (λ head. HasLog gate head.0 head.1 log seen loose)) (sym is) has

-- the frame that an append writes, and what it leaves
abbrev pub new_seen : SideState → List ℕ → List ℕ → List ℕ
new_seen log payload seen = overwritten (log.end + 1) (body payload ++ 0 ∷ []) seen

abbrev pub new_loose : SideState → List ℕ → Loose → Loose
new_loose log payload loose = written (log.end + 1) (length (body payload ++ 0 ∷ [])) loose

abbrev pub log_with : SideState → ℕ → SideState
log_with log len = record log { waiting = Some (log.end + 5 + len) }

abbrev pub new_log : SideState → List ℕ → SideState
new_log log payload = log_with log (length payload)

pub record Appended (log : SideState) (payload seen : List ℕ) (loose : Loose) : Type 0 where
  pub has : HasBytes 165 (new_log log payload) (new_seen log payload seen) (new_loose log payload loose)
  pub same : GivesSame seen (new_seen log payload seen)
  pub before : (content : List ℕ) → IsImage loose content → GivesSame seen content
  pub during : (content : List ℕ) → IsImage (new_loose log payload loose) content → GivesSame seen content
  pub later : (number : ℕ) (entry : Entry) → entry_at payload ≡ Ok (number, entry)
      → log_of (opened log.end (new_seen log payload seen)) ≡ with_frame (record { place = log.end; number = number; entry = entry }) (log_of seen)

at_none : (P : Type 0) (Q : ℕ → Type 0) (o : Option ℕ) → o ≡ None → MatchOption o P Q → P
at_none P Q None e has = has
at_none P Q (Some x) e has = absurd cc

pub append_told :
    (log : SideState) (payload seen : List ℕ) (loose : Loose) → IsSome log.head → log.waiting ≡ None → HasBytes 165 log seen loose → MayCome seen payload → length payload ≤ 600000
    → Appended log payload seen loose
unfolding appended
append_told log payload seen loose some rests has come short =
    let found = has_log 165 log seen loose some has in
    let h : Header × ℕ = found.0 in
    let old = found.2 in
    let still : loose ≡ settled seen = at_none _ _ log.waiting rests old.waits in
    let new : HasLog 165 h.0 h.1 (new_log log payload) (new_seen log payload seen) (new_loose log payload loose) = appended h.0 h.1 log seen loose old payload still come short in
    let gate : (content : List ℕ) → IsImage (new_loose log payload loose) content → log_of content ≡ log_of (new_seen log payload seen) =
    λ content image. firm_log h.0 h.1 (new_log log payload) (new_seen log payload seen) (new_loose log payload loose) new content (new.firm content image) in
    let same : log_of (new_seen log payload seen) ≡ log_of seen =
    log_is h.0 h.1 (new_log log payload) (new_seen log payload seen) (new_loose log payload loose) new ∙ sym (log_is h.0 h.1 log seen loose old) in
    record {
      has = has_bytes 165 (new_log log payload) (new_seen log payload seen) (new_loose log payload loose) h found.1 new;
      same = record { same = same };
      before = λ content image. record { same = firm_log h.0 h.1 log seen loose old content (old.firm content image) };
      during = λ content image. record { same = gate content image ∙ same };
      later = λ number entry read.
          let waits : Waits 165 new.follow log.end (log.end + 5 + length payload) new.rest = new.waits in
          let entry_is = found_read new.follow waits.payload waits.found waits.readable in
          let one : (waits.found.number, waits.found.entry) ≡ (number, entry) = ok_is {E = EntryFault} _ _ (sym entry_is.0 ∙ read) in
          log_more h.0 h.1 (new_log log payload) (new_seen log payload seen) (new_loose log payload loose) new (log.end + 5 + length payload) waits
          ∙ ap (λ (x : ℕ × Entry). with_frame (record { place = log.end; number = x.0; entry = x.1 }) (log_of (new_seen log payload seen))) one
          ∙ ap (with_frame (record { place = log.end; number = number; entry = entry })) same;
    }

-- the conditions of an append
pub record MayAppend (T : Type 0) (log : SideState) (size : ℕ) (disk : Standing) (payload : List ℕ) : Type 0 where
  pub stands : Stands T log size disk
  pub holds : IsSome log.head
  pub sealed : log.waiting ≡ None
  pub short : length payload ≤ 600000
  pub comes : T → MayCome (disk.seen log.side) payload

-- so of the payload of an entry
pub entry_may : (T : Type 0) (log : SideState) (size : ℕ) (disk : Standing) (number : ℕ) (entry : Entry) → Stands T log size disk → IsSome log.head → log.waiting ≡ None → IsReadable entry
    → (T → MayCome (disk.seen log.side) (payload number entry)) → MayAppend T log size disk (payload number entry)
entry_may T log size disk number entry stands holds sealed readable comes =
    record { stands = stands; holds = holds; sealed = sealed; short = payload-short number entry readable; comes = comes }

-- what is said of it where the disk tells
pub told_of : (T : Type 0) (log : SideState) (size : ℕ) (disk : Standing) (payload : List ℕ) → MayAppend T log size disk payload → T → Appended log payload (disk.seen log.side) (disk.loose log.side)
told_of T log size disk payload may t = append_told log payload (disk.seen log.side) (disk.loose log.side) may.holds may.sealed (may.stands.told t) (may.comes t) may.short

-- before it writes
pub append_stays :
    (T : Type 0) (now : ℕ) (log : SideState) (size : ℕ) (disk : Standing) (payload : List ℕ) → MayAppend T log size disk payload → T → disk.last ≤ now
    → ((m : ℕ) → disk.last < m → disk.past m log.side ≡ disk.loose log.side) → EachMoment now now log.side disk disk (GivesSame (disk.seen log.side))
append_stays T now log size disk payload may t last since = begun last since (told_of T log size disk payload may t).before

-- from its write on, done or failed; kept is the log as the value keeps it
pub append_moments :
    (T : Type 0) (before now : ℕ) (kept log : SideState) (size : ℕ) (old new : Standing) (payload bytes : List ℕ) → MayAppend T log size old payload → kept ≡ log → bytes ≡ body payload ++ 0 ∷ [] → T
    → EachMoment before now kept.side old new (IsImage (written (kept.end + 1) (length bytes) (old.loose kept.side))) → EachMoment before now log.side old new (GivesSame (old.seen log.side))
append_moments T before now kept log size old new payload bytes may is are t run =
    let Q : SideState → List ℕ → Type 0 = λ k b. EachMoment before now k.side old new (IsImage (written (k.end + 1) (length b) (old.loose k.side))) in
    let there : Q log (body payload ++ 0 ∷ []) = subst (Q log) are (subst (λ (k : SideState). Q k bytes) is run) in
    weaker there (told_of T log size old payload may t).during

-- what it leaves where it is done
pub record Leaves (T : Type 0) (kept : SideState) (size : Side → ℕ) (size' : ℕ) (old new : Standing) (bytes : List ℕ) : Type 0 where
  pub grown : size' ≡ max (size kept.side) (kept.end + 1 + length bytes)
  pub seen : T → new.seen kept.side ≡ overwritten (kept.end + 1) bytes (old.seen kept.side)
  pub loose : T → new.loose kept.side ≡ written (kept.end + 1) (length bytes) (old.loose kept.side)

leaves_at :
    (T : Type 0) (kept log : SideState) (size : Side → ℕ) (size' : ℕ) (old new : Standing) (payload bytes : List ℕ) → kept ≡ log → bytes ≡ body payload ++ 0 ∷ [] → Leaves T kept size size' old new bytes
    → Leaves T log size size' old new (body payload ++ 0 ∷ [])
leaves_at T kept log size size' old new payload bytes is are leaves =
    subst (λ (b : List ℕ). Leaves T log size size' old new b) are (subst (λ (k : SideState). Leaves T k size size' old new bytes) is leaves)

pub append_stands :
    (T : Type 0) (kept log next : SideState) (size : Side → ℕ) (size' : ℕ) (old new : Standing) (payload bytes : List ℕ) → MayAppend T log (size log.side) old payload → kept ≡ log → bytes ≡ body payload ++ 0 ∷ []
    → Leaves T kept size size' old new bytes → next ≡ new_log log payload → Stands T next size' new
append_stands T kept log next size size' old new payload bytes may is are leaves next_is =
    let left = leaves_at T kept log size size' old new payload bytes is are leaves in
    let long : length (body payload ++ 0 ∷ []) ≡ length payload + 5 = omega (arith, length-append (body payload) (0 ∷ []), length-body payload) in
    let there : Stands T (new_log log payload) size' new = record {
      room = room log.head (omega arith) (omega (arith, left.grown));
      told = λ t. subst (λ (l : Loose). HasBytes 165 (new_log log payload) (new.seen log.side) l) (sym (left.loose t))
          (subst (λ (s : List ℕ). HasBytes 165 (new_log log payload) s (new_loose log payload (old.loose log.side))) (sym (left.seen t)) (told_of T log (size log.side) old payload may t).has);
    } in
    subst (λ (k : SideState). Stands T k size' new) (sym next_is) there
  where
    room : (o : Option (Header × ℕ)) → log.end < log.end + 5 + length payload → log.end + 5 + length payload < size'
        → MatchOption o (Unit {0}) (λ head. (log.end < log.end + 5 + length payload) × (log.end + 5 + length payload < size'))
    room None low high = tt
    room (Some head) low high = (low, high)

-- what is read then
pub append_same :
    (T : Type 0) (kept log : SideState) (size : Side → ℕ) (size' : ℕ) (old new : Standing) (payload bytes : List ℕ) → MayAppend T log (size log.side) old payload → kept ≡ log → bytes ≡ body payload ++ 0 ∷ []
    → Leaves T kept size size' old new bytes → T → GivesSame (old.seen log.side) (new.seen log.side)
append_same T kept log size size' old new payload bytes may is are leaves t =
    let left = leaves_at T kept log size size' old new payload bytes is are leaves in
    subst (λ (s : List ℕ). GivesSame (old.seen log.side) s) (sym (left.seen t)) (told_of T log (size log.side) old payload may t).same

pub append_later :
    (T : Type 0) (kept log : SideState) (size : Side → ℕ) (size' : ℕ) (old new : Standing) (payload bytes : List ℕ) → MayAppend T log (size log.side) old payload → kept ≡ log → bytes ≡ body payload ++ 0 ∷ []
    → Leaves T kept size size' old new bytes → T → (number : ℕ) (entry : Entry) → entry_at payload ≡ Ok (number, entry)
    → log_of (opened log.end (new.seen log.side)) ≡ with_frame (record { place = log.end; number = number; entry = entry }) (log_of (old.seen log.side))
append_later T kept log size size' old new payload bytes may is are leaves t number entry read =
    let left = leaves_at T kept log size size' old new payload bytes is are leaves in
    ap (λ (s : List ℕ). log_of (opened log.end s)) (left.seen t) ∙ (told_of T log (size log.side) old payload may t).later number entry read
