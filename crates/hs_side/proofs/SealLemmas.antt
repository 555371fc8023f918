-- What a seal does to a side that tells its contents.
use Rattle.std.proofs.Common.{◌≡◌, ◌∙◌, inl, ℕ, ◌+◌, ◌<◌, max, List, [], ◌∷◌, ◌++◌, Option, None, Some, IsSome, IfSome, MatchOption, sym, subst, arith, ap}
use Rattle.hs_ports.specs.declared.disk.Side.{Side}
use Rattle.hs_ports.specs.Moments.{EachMoment}
use Rattle.hs_ports.proofs.MomentLemmas.{then_run, weaker}
use Rattle.hs_ports.specs.Disk.{Loose, IsImage, Standing, settled, written}
use Rattle.hs_side.specs.declared.header.Header.{Header}
use Rattle.hs_entry.specs.declared.entry.Entry.{Entry}
use Rattle.hs_side.specs.Reading.{log_of, with_frame}
use Rattle.hs_side.specs.Giving.{GivesEither}
use Rattle.hs_side.specs.Standing.{SideState, HasLog, HasBytes, Waits, Stands, opened}
use Rattle.hs_side.proofs.CrashLemmas.{firm_log, sealed, gate_crash, log_more}
use Rattle.hs_side.proofs.AppendLemmas.{has_log, has_bytes}

-- the value after it
abbrev pub sealed_log : SideState → ℕ → SideState
sealed_log log next = record log { places = log.places ++ log.end ∷ []; end = next; waiting = None }

pub record Sealed (log : SideState) (next : ℕ) (seen : List ℕ) (loose : Loose) : Type 0 where
  pub has : HasBytes 165 (sealed_log log next) (opened log.end seen) (settled (opened log.end seen))
  pub grown : (x : ℕ × Entry) × (log_of (opened log.end seen) ≡ with_frame (record { place = log.end; number = x.0; entry = x.1 }) (log_of seen))
  pub before : (content : List ℕ) → IsImage loose content → GivesEither seen (opened log.end seen) content
  pub during : (content : List ℕ) → IsImage (written log.end 1 (settled seen)) content → GivesEither seen (opened log.end seen) content

at_some : (P : Type 0) (Q : ℕ → Type 0) (o : Option ℕ) (x : ℕ) → o ≡ Some x → MatchOption o P Q → Q x
at_some P Q None x e has = absurd cc
at_some P Q (Some y) x e has = let is : y ≡ x = cc in subst Q is has

pub seal_told : (log : SideState) (next : ℕ) (seen : List ℕ) (loose : Loose) → IsSome log.head → log.waiting ≡ Some next → HasBytes 165 log seen loose → Sealed log next seen loose
seal_told log next seen loose some waits has =
    let found = has_log 165 log seen loose some has in
    let h : Header × ℕ = found.0 in
    let old = found.2 in
    let waiting : Waits 165 old.follow log.end next old.rest = at_some _ _ log.waiting next waits old.waits in
    let new : HasLog 165 h.0 h.1 (sealed_log log next) (opened log.end seen) (settled (opened log.end seen)) = sealed h.0 h.1 log seen loose old next waiting in
    record {
      has = has_bytes 165 (sealed_log log next) (opened log.end seen) (settled (opened log.end seen)) h found.1 new;
      grown = ((waiting.found.number, waiting.found.entry), log_more h.0 h.1 log seen loose old next waiting);
      before = λ content image. record { one = inl (firm_log h.0 h.1 log seen loose old content (old.firm content image)) };
      during = λ content image. record { one = gate_crash h.0 h.1 log seen loose old content image };
    }

-- the conditions of a seal
pub record MaySeal (T : Type 0) (log : SideState) (next : ℕ) (size : ℕ) (disk : Standing) : Type 0 where
  pub stands : Stands T log size disk
  pub holds : IsSome log.head
  pub waits : log.waiting ≡ Some next

pub told_of : (T : Type 0) (log : SideState) (next size : ℕ) (disk : Standing) → MaySeal T log next size disk → T → Sealed log next (disk.seen log.side) (disk.loose log.side)
told_of T log next size disk may t = seal_told log next (disk.seen log.side) (disk.loose log.side) may.holds may.waits (may.stands.told t)

-- its first sync
pub seal_first :
    (T : Type 0) (before now : ℕ) (kept log : SideState) (next size : ℕ) (old new : Standing) → MaySeal T log next size old → kept ≡ log → T
    → EachMoment before now kept.side old new (IsImage (old.loose kept.side)) → EachMoment before now log.side old new (GivesEither (old.seen log.side) (opened log.end (old.seen log.side)))
seal_first T before now kept log next size old new may is t run =
    let there : EachMoment before now log.side old new (IsImage (old.loose log.side)) = subst (λ (k : SideState). EachMoment before now k.side old new (IsImage (old.loose k.side))) is run in
    weaker there (told_of T log next size old may t).before

-- its gate too
pub seal_second :
    (T : Type 0) (before middle now : ℕ) (kept log : SideState) (next size : ℕ) (old mid new : Standing) → MaySeal T log next size old → kept ≡ log → T
    → EachMoment before middle kept.side old mid (IsImage (old.loose kept.side)) → mid.loose kept.side ≡ settled (old.seen kept.side)
    → EachMoment middle now kept.side mid new (IsImage (written kept.end 1 (mid.loose kept.side))) → EachMoment before now log.side old new (GivesEither (old.seen log.side) (opened log.end (old.seen log.side)))
seal_second T before middle now kept log next size old mid new may is t first rests second =
    let still : mid.loose log.side ≡ settled (old.seen log.side) = subst (λ (k : SideState). mid.loose k.side ≡ settled (old.seen k.side)) is rests in
    let there : EachMoment middle now log.side mid new (IsImage (written log.end 1 (mid.loose log.side))) =
    subst (λ (k : SideState). EachMoment middle now k.side mid new (IsImage (written k.end 1 (mid.loose k.side)))) is second in
    let acts : EachMoment middle now log.side mid new (IsImage (written log.end 1 (settled (old.seen log.side)))) =
    subst (λ (l : Loose). EachMoment middle now log.side mid new (IsImage (written log.end 1 l))) still there in
    then_run (weaker acts (told_of T log next size old may t).during) (seal_first T before middle kept log next size old mid may is t first)

-- how the side stands then
pub seal_stands :
    (T : Type 0) (kept log value : SideState) (next : ℕ) (size : Side → ℕ) (size' : ℕ) (old new : Standing) → MaySeal T log next (size log.side) old → kept ≡ log
    → size' ≡ max (size kept.side) (kept.end + 1) → (T → new.seen kept.side ≡ opened kept.end (old.seen kept.side)) → (T → new.loose kept.side ≡ settled (opened kept.end (old.seen kept.side)))
    → value ≡ sealed_log log next → Stands T value size' new
seal_stands T kept log value next size size' old new may is grown seen loose value_is =
    let room_is : next < size log.side = room log.head may.holds log.waiting may.waits may.stands.room in
    let size_is : size' ≡ max (size log.side) (log.end + 1) = subst (λ (k : SideState). size' ≡ max (size k.side) (k.end + 1)) is grown in
    let there : Stands T (sealed_log log next) size' new = record {
      room = fits log.head (omega arith);
      told = λ t.
          subst (λ (l : Loose). HasBytes 165 (sealed_log log next) (new.seen log.side) l) (sym (subst (λ (k : SideState). new.loose k.side ≡ settled (opened k.end (old.seen k.side))) is (loose t)))
          (subst (λ (s : List ℕ). HasBytes 165 (sealed_log log next) s (settled (opened log.end (old.seen log.side)))) (sym (subst (λ (k : SideState). new.seen k.side ≡ opened k.end (old.seen k.side)) is (seen t)))
          (told_of T log next (size log.side) old may t).has);
    } in
    subst (λ (k : SideState). Stands T k size' new) (sym value_is) there
  where
    room : (o : Option (Header × ℕ)) → IsSome o → (w : Option ℕ) → w ≡ Some next → MatchOption o (Unit {0}) (λ head. MatchOption w (log.end < size log.side) (λ n. (log.end < n) × (n < size log.side))) → next < size log.side
    room None some w e has = absurd cc
    room (Some head) some None e has = absurd cc
    room (Some head) some (Some n) e has = let is : n ≡ next = cc in omega (arith, has.1)

    fits : (o : Option (Header × ℕ)) → next < size' → MatchOption o (Unit {0}) (λ head. next < size')
    fits None h = tt
    fits (Some head) h = h

-- the conditions, from the value as it is kept
pub may_seal : (T : Type 0) (kept log : SideState) (next size : ℕ) (disk : Standing) → kept ≡ log → Stands T log size disk → kept.waiting ≡ Some next → IsSome kept.head → MaySeal T log next size disk
may_seal T kept log next size disk is stands waits holds = record {
  stands = stands;
  holds = subst (λ (k : SideState). IsSome k.head) is holds;
  waits = subst (λ (k : SideState). k.waiting ≡ Some next) is waits;
}

-- what holds of the number in an option
pub if_some : (o : Option ℕ) (x : ℕ) (P : ℕ → Type 0) → o ≡ Some x → IfSome o P → P x
if_some None x P e has = absurd cc
if_some (Some y) x P e has = let is : y ≡ x = cc in subst P is has

-- the list grows by the frame that waited
pub seal_grown :
    (T : Type 0) (kept log : SideState) (next size : ℕ) (old new : Standing) → MaySeal T log next size old → kept ≡ log → T → new.seen kept.side ≡ opened kept.end (old.seen kept.side)
    → (x : ℕ × Entry) × (log_of (new.seen log.side) ≡ with_frame (record { place = log.end; number = x.0; entry = x.1 }) (log_of (old.seen log.side)))
seal_grown T kept log next size old new may is t seen =
    let there : new.seen log.side ≡ opened log.end (old.seen log.side) = subst (λ (k : SideState). new.seen k.side ≡ opened k.end (old.seen k.side)) is seen in
    let grown = (told_of T log next size old may t).grown in
    (grown.0, ap log_of there ∙ grown.1)
