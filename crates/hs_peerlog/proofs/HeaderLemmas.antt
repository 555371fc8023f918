-- The header of a side, and of the disk of a peer.
use Rattle.std.proofs.Common.{◌≡◌, ◌∙◌, inl, inr, ℕ, ◌==◌, ◌&&◌, Bool, true, false, List, [], take, drop, Option, Some, None, IfSome, Result, Ok, refl, ap, sym, subst, if◌then◌else◌}
use Rattle.std.specs.Option.{option_map}
use Rattle.std.specs.Prelude.{MatchOption, unwrap_or}
use Rattle.std.proofs.lemmas.Bool.{eqb-true, false≢true}
use Rattle.hs_limits.specs.Fields.{◌>>=◌}
use Rattle.hs_limits.specs.declared.shape.Shape.{Shape}
use Rattle.hs_limits.proofs.FieldLemmas.{bind_ok}
use Rattle.hs_ports.specs.declared.disk.Side.{Side}
use Rattle.hs_ports.specs.Disk.{Standing}
use Rattle.hs_side.specs.declared.header.Header.{Header}
use Rattle.hs_side.specs.Current.{current, generation_in, header_in}
use Rattle.hs_side.specs.Follow.{start}
use Rattle.hs_side.specs.Giving.{GivesEmpty}
use Rattle.hs_side.specs.Headers.{own_header}
use Rattle.hs_side.specs.Opening.{Shows}
use Rattle.hs_side.specs.Reading.{Log, frames, head_of, is_blank, log_of}
use Rattle.hs_side.specs.Standing.{HasLog, HasNone, SideState, Stands}
use Rattle.hs_side.proofs.CrashLemmas.{log_is}
use Rattle.hs_peerlog.specs.declared.fault.LogFault.TheVariants.{WrongShape}
use Rattle.hs_peerlog.specs.Heads.{IsBlankOrOf, LeavesHeader, head_found, own_head}
use Rattle.hs_peerlog.specs.Images.{IsAlone}
use Rattle.hs_peerlog.specs.Opening.{is_own, refused_head}
use Rattle.hs_peerlog.proofs.ImageLemmas.{current-same, image-is, log-generation}
use Rattle.hs_peerlog.proofs.NumberedLemmas.{log-blank}

-- ---- the header of a side

abbrev given : Log → Result (Option Log) ℕ
given log = Ok (Some log)

pub log-header : (bytes : List ℕ) (log : Log) → log_of bytes ≡ Ok (Some log) → header_in bytes ≡ Ok (Some log.header)
unfolding log_of
log-header bytes log e = go (is_blank bytes) e
  where
    blank : Result (Option Log) ℕ
    blank = Ok None

    none : Result (Option Header) ℕ
    none = Ok None

    read : Result (Option Log) ℕ
    read = head_of (take 17 bytes) >>= λ head. frames 17 start 0 (drop 17 bytes) >>= λ found. Ok (Some (record { header = head.0; generation = head.1; frames = found }))

    told : Result (Option Header) ℕ
    told = head_of (take 17 bytes) >>= λ head. Ok (Some head.0)

    same : {a b : Log} → given a ≡ given b → a.header ≡ b.header
    same e = ap (λ (x : Result (Option Log) ℕ). header_or x) e
      where
        header_or : Result (Option Log) ℕ → Header
        header_or (Ok (Some log)) = log.header
        header_or other = record { shards = 0; copies = 0; peer = 0 }

    go : (b : Bool) → (if b then blank else read) ≡ Ok (Some log) → (if b then none else told) ≡ Ok (Some log.header)
    go true k = cc k
    go false k =
        let head = bind_ok (head_of (take 17 bytes)) (λ head. frames 17 start 0 (drop 17 bytes) >>= λ found. Ok (Some (record { header = head.0; generation = head.1; frames = found }))) (Some log) k in
        let found = bind_ok (frames 17 start 0 (drop 17 bytes)) (λ found. Ok (Some (record { header = head.0.0; generation = head.0.1; frames = found }))) (Some log) head.2 in
        ap (λ (r : Result (Header × ℕ) ℕ). r >>= λ head. Ok (Some head.0)) head.1 ∙ ap (λ (h : Header). Ok (Some h)) (same found.2)

pub blank-header : (bytes : List ℕ) → is_blank bytes ≡ true → header_in bytes ≡ Ok None
blank-header bytes blank = rw blank refl

pub blank-headed : (header : Header) (bytes : List ℕ) → is_blank bytes ≡ true → IsBlankOrOf header bytes
blank-headed header bytes blank = record { one = inl (blank-header bytes blank) }

pub log-headed : (bytes : List ℕ) (log : Log) → log_of bytes ≡ Ok (Some log) → IsBlankOrOf log.header bytes
log-headed bytes log read = record { one = inr (log-header bytes log read) }

-- while an empty log is written
pub empty-headed : (header : Header) (generation : ℕ) (bytes : List ℕ) → GivesEmpty header generation bytes → IsBlankOrOf header bytes
empty-headed header generation bytes g = elim g.one [
  | inl none ↦ blank-headed header bytes (log-blank bytes none)
  | inr read ↦ log-headed bytes (record { header = header; generation = generation; frames = [] }) read
]

-- bytes of one log have its header
pub same-headed : (header : Header) (seen bytes : List ℕ) (log : Log) → log_of seen ≡ Ok (Some log) → log.header ≡ header → log_of bytes ≡ log_of seen → IsBlankOrOf header bytes
same-headed header seen bytes log read is same = subst (λ (h : Header). IsBlankOrOf h bytes) is (log-headed bytes log (same ∙ read))

-- a log whose side has its header has it
abbrev told : Option Header → Result (Option Header) ℕ
told header = Ok header

ok_some : (a b : Header) → told (Some a) ≡ told (Some b) → a ≡ b
ok_some a b e = cc e

ok_none : (a : Header) → told (Some a) ≡ told None → ⊥
ok_none a e = cc e

pub headed-log : (header : Header) (bytes : List ℕ) (log : Log) → IsBlankOrOf header bytes → log_of bytes ≡ Ok (Some log) → log.header ≡ header
headed-log header bytes log h read = elim h.one [
  | inl none ↦ absurd (ok_none log.header (sym (log-header bytes log read) ∙ none))
  | inr is ↦ ok_some log.header header (sym (log-header bytes log read) ∙ is)
]

-- ---- the header of a disk

-- a side stands with its head
pub stands-header : (tells : Type 0) (log : SideState) (size : ℕ) (disk : Standing) (head : Header × ℕ) → Stands tells log size disk → tells → log.head ≡ Some head → header_in (disk.seen log.side) ≡ Ok (Some head.0)
stands-header tells log size disk head s told is = log-header (disk.seen log.side) _ (log_is head.0 head.1 log (disk.seen log.side) (disk.loose log.side) has)
  where
    has : HasLog 165 head.0 head.1 log (disk.seen log.side) (disk.loose log.side)
    has = subst (λ h. MatchOption h (HasNone log (disk.seen log.side) (disk.loose log.side)) (λ x. HasLog 165 x.0 x.1 log (disk.seen log.side) (disk.loose log.side))) is (s.told told)

-- a disk at rest
pub alone-headed : (tells : Type 0) (log : SideState) (size : ℕ) (disk : Standing) → Stands tells log size disk → tells → IsAlone log.side disk → (head : Header × ℕ) → log.head ≡ Some head → LeavesHeader disk head.0
alone-headed tells log size disk s told alone head is image left =
    let same = image-is disk image alone.settled left.sides in
    let here : image (current image) ≡ disk.seen log.side = ap (λ x. image x) (current-same disk.seen image same ∙ alone.current) ∙ same log.side in
    record { one = inr (ap (λ b. header_in b) here ∙ stands-header tells log size disk head s told is) }

-- ---- the header of a peer

both_true : (a b : Bool) → (a && b) ≡ true → (a ≡ true) × (b ≡ true)
both_true true true e = (refl, refl)
both_true true false e = absurd (false≢true e)
both_true false b e = absurd (false≢true e)

pub own_is : (shape : Shape) (peer : ℕ) (found : Header) → is_own shape peer found ≡ true → found ≡ own_header shape peer
own_is shape peer found h =
    let outer = both_true (found.shards == shape.shards && found.copies == shape.copies) (found.peer == peer) h in
    let inner = both_true (found.shards == shape.shards) (found.copies == shape.copies) outer.0 in
    let shards : found.shards ≡ shape.shards = eqb-true found.shards shape.shards inner.0 in
    let copies : found.copies ≡ shape.copies = eqb-true found.copies shape.copies inner.1 in
    let place : found.peer ≡ peer = eqb-true found.peer peer outer.1 in
    λ i. record { shards = shards i; copies = copies i; peer = place i }

-- what is not refused is this peer's
accepted_own : (shape : Shape) (peer : ℕ) (found : Header) → refused_head shape peer (Ok (Some found)) ≡ None → found ≡ own_header shape peer
accepted_own shape peer found accepted = go (is_own shape peer found) refl accepted
  where
    go : (b : Bool) → is_own shape peer found ≡ b → (if b then None else Some (WrongShape found)) ≡ None → found ≡ own_header shape peer
    go true own e = own_is shape peer found own
    go false own e = cc e

-- the head that opening finds
pub open-head : (shape : Shape) (peer : ℕ) (seen : Side → List ℕ) (log : SideState) (content : Option Log) → refused_head shape peer (header_in (seen (current seen))) ≡ None → log_of (seen (current seen)) ≡ Ok content → Shows log content
    → log.head ≡ head_found shape peer seen
open-head shape peer seen log None accepted read shows =
    let none : generation_in (seen (current seen)) ≡ None = rw (log-blank (seen (current seen)) read) refl in
    shows.head ∙ sym (ap (λ g. option_map (λ generation. (own_header shape peer, generation)) g) none)
open-head shape peer seen log (Some found) accepted read shows =
    let header : header_in (seen (current seen)) ≡ Ok (Some found.header) = log-header (seen (current seen)) found read in
    let own : found.header ≡ own_header shape peer = accepted_own shape peer found.header (sym (ap (λ h. refused_head shape peer h) header) ∙ accepted) in
    shows.head ∙ ap (λ (h : Header). Some (h, found.generation)) own
    ∙ sym (ap (λ g. option_map (λ generation. (own_header shape peer, generation)) g) (log-generation (seen (current seen)) found read))

-- and that which its log has
abbrev made : Header → Option (Header × ℕ) → Header × ℕ
made header head = unwrap_or head (header, 1)

pub found-head : (shape : Shape) (peer : ℕ) (seen : Side → List ℕ) (head : Option (Header × ℕ)) → head ≡ head_found shape peer seen → Some (unwrap_or head (own_header shape peer, 1)) ≡ Some (own_head shape peer seen)
found-head shape peer seen head is = ap (λ h. Some (made (own_header shape peer) h)) is ∙ ap (λ (h : Header × ℕ). Some h) (go (own_header shape peer) (generation_in (seen (current seen))))
  where
    with_one : Header → Option ℕ → Header × ℕ
    with_one header g = (header, unwrap_or g 1)

    go : (header : Header) (g : Option ℕ) → made header (option_map (λ generation. (header, generation)) g) ≡ with_one header g
    go header None = refl
    go header (Some n) = refl

-- ---- the head of a value

-- the header that a value tells
pub some-header : (o : Option (Header × ℕ)) (head : Header × ℕ) (header : Header) → o ≡ Some head → IfSome o (λ x. header ≡ x.0) → header ≡ head.0
some-header None head header is h = cc is
some-header (Some x) head header is h = h ∙ ap (λ (y : Header × ℕ). y.0) (some_is x head is)
  where
    some_is : (a b : Header × ℕ) → Some a ≡ Some b → a ≡ b
    some_is a b e = cc e

-- and that which it got
pub some-head : (o : Option (Header × ℕ)) (header : Header) (generation : ℕ) (head : Header × ℕ) → o ≡ Some (header, generation) → o ≡ Some head → header ≡ head.0
some-head o header generation head made is = ap (λ (y : Header × ℕ). y.0) (some_is (header, generation) head (sym made ∙ is))
  where
    some_is : (a b : Header × ℕ) → Some a ≡ Some b → a ≡ b
    some_is a b e = cc e
