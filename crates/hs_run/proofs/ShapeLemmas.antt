-- Disks of another store, as they are refused and as their headers say.
use Rattle.std.proofs.Common.{◌≡◌, ◌∙◌, ap, sym, subst, ℕ, ◌==◌, ◌&&◌, ◌+◌, ◌<◌, ◌≤◌, Bool, true, false, List, Option, Some, None, Result, Ok, Err, refl, arith, length, min, if◌then◌else◌}
use Rattle.std.proofs.lemmas.Bool.{eqb-true, false≢true}
use Rattle.std.proofs.lemmas.List.{get_or_past}
use Rattle.hs_limits.specs.declared.shape.Shape.{Shape}
use Rattle.hs_peerlog.specs.declared.fault.LogFault.TheVariants as log
use Rattle.hs_peerlog.specs.Images.{LeavesAll}
use Rattle.hs_peerlog.specs.Opening.{is_own, refusal_in, refused_head, refused_log}
use Rattle.hs_ports.specs.declared.disk.Side.{Side}
use Rattle.hs_ports.specs.Disk.{Standing}
use Rattle.hs_ports.specs.MemoryDisk.{untold}
use Rattle.hs_ports.specs.Unwritten.{IsUnwritten}
use Rattle.hs_side.specs.Current.{current, header_in}
use Rattle.hs_side.specs.declared.header.Header.{Header}
use Rattle.hs_side.specs.Headers.{own_header}
use Rattle.hs_side.specs.Reading.{Log, log_of}
use Rattle.hs_taking.specs.Disks.{DiskSeen, seen_at}
use Rattle.hs_taking.specs.Viewed.{IsOnlyRead}

-- ---- headers

both_true : (a b : Bool) → (a && b) ≡ true → (a ≡ true) × (b ≡ true)
both_true true true e = (refl, refl)
both_true true false e = absurd (false≢true e)
both_true false b e = absurd (false≢true e)

same_number : (n : ℕ) → (n == n) ≡ true
same_number n = grind arith

own_is : (shape : Shape) (peer : ℕ) (found : Header) → is_own shape peer found ≡ true → found ≡ own_header shape peer
own_is shape peer found h =
    let outer = both_true (found.shards == shape.shards && found.copies == shape.copies) (found.peer == peer) h in
    let inner = both_true (found.shards == shape.shards) (found.copies == shape.copies) outer.0 in
    let shards : found.shards ≡ shape.shards = eqb-true found.shards shape.shards inner.0 in
    let copies : found.copies ≡ shape.copies = eqb-true found.copies shape.copies inner.1 in
    let place : found.peer ≡ peer = eqb-true found.peer peer outer.1 in
    λ i. record { shards = shards i; copies = copies i; peer = place i }

is_own_own : (shape : Shape) (peer : ℕ) → is_own shape peer (own_header shape peer) ≡ true
is_own_own shape peer = ap (λ b. (b && (shape.copies == shape.copies)) && (peer == peer)) (same_number shape.shards) ∙ ap (λ b. (true && b) && (peer == peer)) (same_number shape.copies) ∙ same_number peer

not_own : (shape : Shape) (peer : ℕ) (found : Header) → (found ≡ own_header shape peer → ⊥) → is_own shape peer found ≡ false
not_own shape peer found other = go (is_own shape peer found) refl
  where
    go : (b : Bool) → is_own shape peer found ≡ b → b ≡ false
    go true e = absurd (other (own_is shape peer found e))
    go false e = refl

-- a header that says something else is why a disk is refused
pub refusal_of : (shape : Shape) (peer : ℕ) (seen : Side → List ℕ) (found : Header) → header_in (seen (current seen)) ≡ Ok (Some found) → (found ≡ own_header shape peer → ⊥) → refusal_in shape peer seen ≡ Some (log.WrongShape found)
refusal_of shape peer seen found header other =
    ap (λ (h : Result (Option Header) ℕ). refused_log (refused_head shape peer h) (log_of (seen (current seen)))) header
    ∙ ap (λ (b : Bool). refused_log (if b then None else Some (log.WrongShape found)) (log_of (seen (current seen)))) (not_own shape peer found other)

some_shape : (found other : Header) → Some (log.WrongShape found) ≡ Some (log.WrongShape other) → found ≡ other
some_shape found other e = cc

-- and the other way about
pub record SaysOther (shape : Shape) (peer : ℕ) (seen : Side → List ℕ) (found : Header) : Type 0 where
  pub header : header_in (seen (current seen)) ≡ Ok (Some found)
  pub other : found ≡ own_header shape peer → ⊥

pub says_other : (shape : Shape) (peer : ℕ) (seen : Side → List ℕ) (found : Header) → refusal_in shape peer seen ≡ Some (log.WrongShape found) → SaysOther shape peer seen found
says_other shape peer seen found h = go (header_in (seen (current seen))) refl h
  where
    no_log : (read : Result (Option Log) ℕ) → refused_log None read ≡ Some (log.WrongShape found) → ⊥
    no_log (Err at) e = cc
    no_log (Ok content) e = cc

    by_own : (head : Header) → header_in (seen (current seen)) ≡ Ok (Some head) → (b : Bool) → is_own shape peer head ≡ b
        → refused_log (if b then None else Some (log.WrongShape head)) (log_of (seen (current seen))) ≡ Some (log.WrongShape found) → SaysOther shape peer seen found
    by_own head is true own e = absurd (no_log (log_of (seen (current seen))) e)
    by_own head is false own e =
        let same : head ≡ found = some_shape head found e in
        record {
          header = is ∙ ap (λ (x : Header). Ok (Some x)) same;
          other = λ same_own. false≢true (sym own ∙ ap (is_own shape peer) (same ∙ same_own) ∙ is_own_own shape peer);
        }

    go : (o : Result (Option Header) ℕ) → header_in (seen (current seen)) ≡ o → refused_log (refused_head shape peer o) (log_of (seen (current seen))) ≡ Some (log.WrongShape found) → SaysOther shape peer seen found
    go (Err at) is e = absurd (no_place at e)
      where
        no_place : (at : ℕ) → Some (log.NotALog at) ≡ Some (log.WrongShape found) → ⊥
        no_place at e = cc
    go (Ok None) is e = absurd (no_log (log_of (seen (current seen))) e)
    go (Ok (Some head)) is e = by_own head is (is_own shape peer head) refl e

pub same_refusal : (shape : Shape) (peer : ℕ) (seen : Side → List ℕ) (found other : Header) → refusal_in shape peer seen ≡ Some (log.WrongShape found) → refusal_in shape peer seen ≡ Some (log.WrongShape other) → found ≡ other
same_refusal shape peer seen found other one two = some_shape found other (sym one ∙ two)

-- ---- counts

-- one that stands below its end did not rise; top: at which it stands still
pub not_risen : (top a b : ℕ) → min (a + 1) top ≤ b → b ≡ a → a < top → ⊥
not_risen top a b rose same low = omega (arith, rose, same, low)

-- ---- disks that were only read

pub unwritten_at : (tells : Type 0) (before now : ℕ) (old new : DiskSeen) → tells → old.stands.last ≤ before → IsOnlyRead tells before now old new → IsUnwritten before old.stands new.stands
unwritten_at tells before now old new told last read =
    let all : LeavesAll before now old.stands new.stands = read.moments told last in
    record {
      seen = read.seen told;
      later = λ side content is. all.standing side content is;
      since = λ m side content above early is. all.each side m above early content is;
    }

-- past the last disk none is written
pub seen_past : (disks : List DiskSeen) (k : ℕ) → length disks ≤ k → (seen_at disks k).stands ≡ untold
seen_past disks k past = ap (λ (d : DiskSeen). d.stands) (get_or_past disks k (record { size = λ side. 0; stands = untold; faults = 0 }) past)

pub unwritten_past : (before : ℕ) (old new : Standing) → old ≡ untold → new ≡ untold → IsUnwritten before old new
unwritten_past before old new was is =
    subst (λ (d : Standing). IsUnwritten before d new) (sym was)
    (subst (λ (d : Standing). IsUnwritten before untold d) (sym is) (record {
      seen = λ side. refl;
      later = λ side content h. h;
      since = λ m side content above early h. h;
    }))
