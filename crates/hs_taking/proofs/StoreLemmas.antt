-- From the disks as they were to what a store opens with.
use Rattle.std.proofs.Common.{◌≡◌, ◌∙◌, sym, subst, ℕ, ◌*◌, ◌<◌, ◌≤◌, List, length, Option, Some, None, Result, Ok, Err, arith}
use Rattle.std.specs.Prelude.{IfErr, IfOk, IfSome, IsOkUnless, OnOk, slice_index_or}
use Rattle.hs_fold.specs.Shards.Setting.{Setting}
use Rattle.hs_limits.specs.declared.shape.Shape.{Shape}
use Rattle.hs_peerlog.proofs.ImageLemmas.{Since}
use Rattle.hs_peerlog.specs.declared.fault.LogFault.TheVariants as log
use Rattle.hs_peerlog.specs.Opening.{refusal_in}
use Rattle.hs_peerlog.specs.Views.{Viewing}
use Rattle.hs_ports.specs.Fault.{HasRisen}
use Rattle.hs_side.specs.declared.header.Header.{Header}
use Rattle.hs_taking.proofs.OpenedLemmas.{all_opened, peer_is, read_one, unread_one}
use Rattle.hs_taking.proofs.ViewLemmas.{view_of}
use Rattle.hs_taking.specs.Copies.{HasEvened}
use Rattle.hs_taking.specs.declared.fault.TakeFault.{TakeFault}
use Rattle.hs_taking.specs.declared.fault.TakeFault.TheVariants.{WrongShape, NoMemory}
use Rattle.hs_taking.specs.declared.shares.Taking.{Taking}
use Rattle.hs_taking.specs.Disks.{DiskSeen, seen_at}
use Rattle.hs_taking.specs.Evens.{TakesAll}
use Rattle.hs_taking.specs.Shares.{Span, Taken}
use Rattle.hs_taking.specs.Spared.{SparesDisks}
use Rattle.hs_taking.specs.Store.{HasRead}
use Rattle.hs_taking.specs.Viewed.{IsOnlyRead, IsOther, IsViewed, IsViewOf}

-- ---- counts

risen_then : (a b c : ℕ) → HasRisen a b → b ≤ c → HasRisen a c
risen_then a b c h low = omega (arith, h, low)

-- ---- as the call answers

abbrev parts : Taking → Taken
parts t = record { logs = t.logs.items; shares = t.shares.items }

module _ (tells : Type 0) (set : Setting) (before mid now : ℕ) (old via new : List DiskSeen) (views : List (Option Viewing)) (up : before ≤ mid) (on : mid ≤ now) (many : length views ≡ set.shape.shards * set.shape.copies)
    (read : (peer : ℕ) → peer < set.shape.shards * set.shape.copies → IsOnlyRead tells before mid (seen_at old peer) (seen_at via peer)) (viewed : (peer : ℕ) → peer < set.shape.shards * set.shape.copies → IsViewed tells set.shape peer (seen_at old peer) (seen_at via peer) (slice_index_or views peer None))
    (since : (peer : ℕ) → tells → Since (seen_at via peer).stands) where
  abbrev whole : Span
  whole = record { before = before; now = now; old = old; new = new }

  stand : (peer : ℕ) → peer < set.shape.shards * set.shape.copies → IfSome (slice_index_or views peer None) (IsViewOf tells set.shape peer (seen_at via peer))
  stand peer low = view_of tells set.shape peer (seen_at old peer) (seen_at via peer) (slice_index_or views peer None) (read peer low).seen (viewed peer low).some

  opened : (t : Taking) → length t.shares.items ≡ set.shape.shards → TakesAll tells set mid now via new views (parts t) → HasEvened tells set whole (parts t)
  opened t count takes = all_opened tells set before mid now old via new views (parts t) up on count many read viewed stand since takes

  pub opened_ok : (r : Result Taking TakeFault) → IfOk r (λ t. length t.shares.items ≡ set.shape.shards) → IfOk r (λ t. TakesAll tells set mid now via new views (parts t)) → IfOk r (λ t. HasEvened tells set whole (parts t))
  opened_ok (Ok t) count takes = opened t count takes
  opened_ok (Err fault) count takes = tt

  pub read_ok : (r : Result Taking TakeFault) → set.shape.copies ≡ 1 → ((peer : ℕ) → peer < set.shape.shards * set.shape.copies → (seen_at via peer).faults ≤ (seen_at new peer).faults) → IfOk r (λ t. length t.shares.items ≡ set.shape.shards) → IfOk r (λ t. TakesAll tells set mid now via new views (parts t)) → IfOk r (λ t. HasRead tells set whole (parts t))
  read_ok (Err fault) one counted count takes = tt
  read_ok (Ok t) one counted count takes =
      let has = opened t count takes in
      read_one tells set whole (parts t) one has (λ peer low none.
      unread_one tells set before mid now old via new views (parts t) up on count many read viewed stand since takes peer low (peer_is tells set whole (parts t) one has peer low) none counted)

pub no_other : {T : Type 0} (tells : Type 0) (shape : Shape) (old new : List DiskSeen) (r : Result T TakeFault) → IsOkUnless r NoMemory → IfErr r (IsOther tells shape old new)
no_other tells shape old new (Ok t) only = tt
no_other tells shape old new (Err fault) only = subst (λ f. IsOther tells shape old new f) (sym only) tt

pub no_wrong : {T : Type 0} (P : Type 0) (r : Result T TakeFault) → IsOkUnless r NoMemory → IfErr r (λ fault. (at : ℕ) (found : Header) → fault ≡ WrongShape at found → P)
no_wrong P (Ok t) only = tt
no_wrong P (Err fault) only = λ at found is. cc (sym only ∙ is)

pub other_rose : {T : Type 0} (tells : Type 0) (shape : Shape) (old via new : List DiskSeen) (views : List (Option Viewing)) (total : ℕ) (r : Result T TakeFault)
    → ((peer : ℕ) → peer < total → IsViewed tells shape peer (seen_at old peer) (seen_at via peer) (slice_index_or views peer None)) → ((peer : ℕ) → peer < total → (seen_at via peer).faults ≤ (seen_at new peer).faults) → tells
    → OnOk r ((peer : ℕ) (found : Header) → peer < total → refusal_in shape peer (seen_at old peer).stands.seen ≡ Some (log.WrongShape found) → HasRisen (seen_at old peer).faults (seen_at new peer).faults)
other_rose tells shape old via new views total (Ok t) viewed up told = λ peer found low refused. risen_then (seen_at old peer).faults (seen_at via peer).faults (seen_at new peer).faults ((viewed peer low).own told found refused) (up peer low)
other_rose tells shape old via new views total (Err fault) viewed up told = tt

-- the disks were read and not written, or each that is of another store failed
pub spares_read : (tells : Type 0) (shape : Shape) (span : Span) → ((peer : ℕ) → peer < length span.old → IsOnlyRead tells span.before span.now (seen_at span.old peer) (seen_at span.new peer)) → SparesDisks tells shape span
spares_read tells shape span read = record { none = λ told at found low refused calm. read }

pub spares_taken : (tells : Type 0) (shape : Shape) (span : Span) (via : List DiskSeen) (views : List (Option Viewing)) → ((peer : ℕ) → peer < length span.old → IsViewed tells shape peer (seen_at span.old peer) (seen_at via peer) (slice_index_or views peer None))
    → ((peer : ℕ) → peer < length span.old → (seen_at via peer).faults ≤ (seen_at span.new peer).faults) → SparesDisks tells shape span
spares_taken tells shape span via views viewed up = record {
  none = λ told at found low refused calm. absurd (calm (risen_then (seen_at span.old at).faults (seen_at via at).faults (seen_at span.new at).faults ((viewed at low).own told found refused) (up at low)));
}
