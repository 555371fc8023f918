-- Copying a list to a peer.
use Rattle.std.proofs.Common.{◌≡◌, ◌∙◌, inl, inr, ap, sym, subst, ℕ, ◌<◌, ◌≤◌, ◌++◌, List, [], map, length, None}
use Rattle.std.specs.Prelude.{Err, IfOk, Ok, Result, slice_index_or, slice_set}
use Rattle.hs_entry.specs.declared.entry.Entry.{Entry}
use Rattle.hs_limits.specs.declared.shape.Shape.{Shape}
use Rattle.hs_peerlog.specs.Images.{IsOne, LeavesEach, LeavesOnly}
use Rattle.hs_peerlog.specs.Lists.{HasLog, Keeping}
use Rattle.hs_peerlog.specs.Past.{PastStays}
use Rattle.hs_peerlog.specs.Views.{HasView, Viewing}
use Rattle.hs_ports.specs.Fault.{HasRisen}
use Rattle.hs_scrub.proofs.CopyLemmas.{calls_put, calls_then, each_then, each_weaker}
use Rattle.hs_scrub.specs.Copied.{IsLeft, IsOldOrFront}
use Rattle.hs_scrub.specs.CopySteps.{Calls, CopyFronts, CopyOutcome, HasAll, HasFronts, IsEmptied, IsFront, IsOpen, IsStopped, Outcome}
use Rattle.hs_scrub.specs.declared.giving.Given.{Given}
use Rattle.hs_scrub.specs.declared.giving.Given.TheVariants.{Ended, Left, Whole}
use Rattle.hs_side.specs.Standing.{Stands}
use Rattle.hs_taking.proofs.DiskLemmas.{seen_here, seen_is, seen_there}
use Rattle.hs_taking.specs.Disks.{DiskSeen, seen_at}

pub ok_weaker : {X E : Type 0} {P Q : X → Type 0} (r : Result X E) → IfOk r P → ((x : X) → P x → Q x) → IfOk r Q
ok_weaker (Ok x) h f = f x h
ok_weaker (Err fault) h f = tt

old_or_empty : (held whole es : List (ℕ × Entry)) → IsOne held [] es → IsOldOrFront held whole es
old_or_empty held whole es (inl same) = record { one = inl same }
old_or_empty held whole es (inr none) = record { one = inr (whole, sym (none_front whole es none)) }
  where
    none_front : (whole es : List (ℕ × Entry)) → es ≡ [] → es ++ whole ≡ whole
    none_front whole es e = ap (λ xs. xs ++ whole) e

or_front : (held whole es : List (ℕ × Entry)) → IsFront whole es → IsOldOrFront held whole es
or_front held whole es h = record { one = inr h.front }

module _ {A : Type 0} (f : A → DiskSeen) (tells : Type 0) (shape : Shape) (source : Viewing) (from place before mid now : ℕ) (disks : List A) (y d : A) (differ : from ≡ place → ⊥) (low : place < length disks) where
  abbrev old : List DiskSeen
  old = map f disks

  abbrev via : List DiskSeen
  via = map f (slice_set disks place y)

  was : f (slice_index_or disks place d) ≡ seen_at old place
  was = sym (seen_is f disks place d low)

  is : seen_at via place ≡ f y
  is = seen_here f disks place y low

  there : seen_at via from ≡ seen_at old from
  there = seen_there f disks place from y differ

  -- the disk was emptied, and is left
  pub left_empty : IsLeft tells shape place (f (slice_index_or disks place d)) (f y) → CopyOutcome tells shape source before from place old via Left
  left_empty h = (subst (λ (s : DiskSeen). IsLeft tells shape place (seen_at old place) s) (sym is) (subst (λ (s : DiskSeen). IsLeft tells shape place s (f y)) was h), ap (λ (s : DiskSeen). s.faults) there)

  pub calls_empty : (tells → (f (slice_index_or disks place d)).stands.last ≤ before → PastStays before mid (f (slice_index_or disks place d)).stands (f y).stands) → (f (slice_index_or disks place d)).faults ≤ (f y).faults → before ≤ mid → Calls tells from place before mid old via
  calls_empty past up later = calls_put f tells from place before mid disks y d differ low past up later

  pub fronts_empty : (tells → (f (slice_index_or disks place d)).stands.last ≤ before → (list : List (ℕ × Entry)) → LeavesOnly (f (slice_index_or disks place d)).stands list → LeavesEach before mid (f (slice_index_or disks place d)).stands (f y).stands (IsOne list []))
      → CopyFronts tells source before mid (seen_at old from) (seen_at old place) (seen_at via place)
  fronts_empty moments = λ told last whole has held leaves.
      let one = moments told (subst (λ (s : DiskSeen). s.stands.last ≤ before) (sym was) last) held (subst (λ (s : DiskSeen). LeavesOnly s.stands held) (sym was) leaves) in
      let weak = each_weaker (IsOne held []) (IsOldOrFront held whole) (old_or_empty held whole) one in
      subst (λ (s : DiskSeen). LeavesEach before mid s.stands (seen_at via place).stands (IsOldOrFront held whole)) was
      (subst (λ (s : DiskSeen). LeavesEach before mid (f (slice_index_or disks place d)).stands s.stands (IsOldOrFront held whole)) (sym is) weak)

  pub opens_empty : (log : Keeping) → IsEmptied tells before (f (slice_index_or disks place d)) (f y) log → IsOpen tells (seen_at via place) log
  opens_empty log h = subst (λ (s : DiskSeen). IsOpen tells s log) (sym is) h.opens

  pub source_empty : Stands tells source.log ((seen_at old from).size source.log.side) (seen_at old from).stands → Stands tells source.log ((seen_at via from).size source.log.side) (seen_at via from).stands
  source_empty h = subst (λ (s : DiskSeen). Stands tells source.log (s.size source.log.side) s.stands) (sym there) h

  -- and then it got the list
  module _ (new : List DiskSeen) (log : Keeping) (emptied : IsEmptied tells before (f (slice_index_or disks place d)) (f y) log) (first : Calls tells from place before mid old via) where
    has_via : tells → (whole : List (ℕ × Entry)) → HasView source (seen_at old from).stands.seen whole → HasView source (seen_at via from).stands.seen whole
    has_via told whole has = subst (λ (s : DiskSeen). HasView source s.stands.seen whole) (sym there) has

    own_via : tells → (seen_at old place).stands.last ≤ before → HasLog log (seen_at via place).stands [] None
    own_via told last = subst (λ (s : DiskSeen). HasLog log s.stands [] None) (sym is) (emptied.list told (subst (λ (s : DiskSeen). s.stands.last ≤ before) (sym was) last))

    last_via : tells → (seen_at old place).stands.last ≤ before → (seen_at via place).stands.last ≤ mid
    last_via told last = (first.past told last).last

    calm_via : (seen_at via place).faults ≡ (seen_at old place).faults
    calm_via = ap (λ (s : DiskSeen). s.faults) is ∙ emptied.calm ∙ ap (λ (s : DiskSeen). s.faults) was

    calm_from : (seen_at via from).faults ≡ (seen_at old from).faults
    calm_from = ap (λ (s : DiskSeen). s.faults) there

    pub copy_calls : Calls tells from place mid now via new → Calls tells from place before now old new
    copy_calls second = calls_then tells from place before mid now old via new first second

    pub copy_fronts : CopyFronts tells source before mid (seen_at old from) (seen_at old place) (seen_at via place) → HasFronts tells source mid now (seen_at via from) (seen_at via place) (seen_at new place) log 0
        → CopyFronts tells source before now (seen_at old from) (seen_at old place) (seen_at new place)
    copy_fronts one two = λ told last whole has held leaves.
        each_then (IsOldOrFront held whole) (one told last whole has held leaves)
        (each_weaker (IsFront whole) (IsOldOrFront held whole) (or_front held whole) (two told (last_via told last) whole (has_via told whole has) (own_via told last)))

    pub copy_outcome : (given : Given) → Outcome tells (HasView source (seen_at via from).stands.seen) from place via new (HasAll tells source mid (seen_at via from) (seen_at via place) (seen_at new place) log) given
        → CopyOutcome tells shape source before from place old new given
    copy_outcome Whole h = (record { source = h.0.source ∙ calm_from; target = h.0.target ∙ calm_via }, record { list = λ told last whole has. h.1.list told (last_via told last) whole (has_via told whole has) (own_via told last) })
    copy_outcome Left h = (inl (subst (λ n. HasRisen n (seen_at new place).faults) calm_via h.0), h.1 ∙ calm_from)
    copy_outcome (Ended mark) h =
        subst (λ (s : DiskSeen). IsStopped tells (HasView source s.stands.seen) (seen_at old from).faults (seen_at new from).faults mark) there
        (subst (λ n. IsStopped tells (HasView source (seen_at via from).stands.seen) n (seen_at new from).faults mark) calm_from h)
