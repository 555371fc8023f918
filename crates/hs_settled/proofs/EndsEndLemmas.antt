-- How a run ends in which nothing failed, by its status.
use Rattle.std.proofs.Common.{◌≡◌, ap, inl, inr, ℕ, ◌+◌, ◌≤◌, List, ◌++◌, length, refl, arith}
use Rattle.std.proofs.lemmas.List.{length-append}
use Rattle.hs_promise.specs.Causes.{Cause}
use Rattle.hs_promise.specs.Completes.{EndsWell, FullBeyond, MayEndWell}
use Rattle.hs_promise.specs.declared.status.Status.{Status}
use Rattle.hs_promise.specs.declared.status.Status.TheVariants as status
use Rattle.hs_promise.specs.Ends.{Ends, HasEnded}
use Rattle.hs_promise.specs.Run.{Ran, Script}
use Rattle.hs_script.specs.Lines.{lines_of}
use Rattle.hs_script.specs.Reading.{commands}
use Rattle.hs_settled.proofs.BoundLemmas.{most_bound}
use Rattle.hs_settled.specs.Ending.{HasItsCause}

-- how many bytes parts of a script have
parts_long : (taken left script : List ℕ) → taken ++ left ≡ script → length taken ≤ length script
parts_long taken left script is =
    let whole : length (taken ++ left) ≡ length taken + length left = length-append taken left in
    let same : length (taken ++ left) ≡ length script = ap (λ (bytes : List ℕ). length bytes) is in
    omega (arith, whole, same)

-- ---- by the status

module _ (S : Script) (r : Ran) (script left : List ℕ) (says : (n : ℕ) → S.commands n ≡ commands script n) (its : HasItsCause S r) (ends : Ends r script left) (beyond : FullBeyond S r) (may : MayEndWell S script r) where
  by_status : (x : Status) → r.ending ≡ x → Cause S r x → HasEnded x (lines_of script) r.line ends.taken left → EndsWell S r
  by_status status.Done is cause ended = inl is
  by_status status.Usage is cause ended = absurd (its.asked is)
  by_status (status.BadLine n) is cause ended = absurd (may.good n ended.1)
  by_status (status.ShardLost shard) is cause ended = inr (inr (shard, is, cause.1))
  by_status status.ReadFault is cause ended = absurd (may.calm.source cause.1)
  by_status status.WriteFault is cause ended = absurd (may.calm.sink cause.1)
  by_status status.NoMemory is cause ended = inr (inl is)
  by_status (status.WrongShape peer found) is cause ended =
      let other = (its.shape peer found is).first.other in
      absurd (other.other (may.headers peer found other.within other.header))
  by_status status.OpsFull is cause ended =
      let over = beyond is in
      let few = most_bound S script says r.line ends.within in
      let room = may.room in
      absurd (omega (arith, over, few, room))
  by_status status.InputFull is cause ended =
      let long = parts_long ends.taken left script ends.parted in
      let all = ended.1 in
      let short = may.short in
      absurd (omega (arith, long, all, short))
  by_status (status.Mismatch session place told kept) is cause ended = absurd cause
  by_status (status.Torn peer place told kept) is cause ended = absurd cause
  by_status (status.NotEmpty blocks roots) is cause ended = absurd cause
  by_status (status.Refused reply) is cause ended = absurd cause
  by_status (status.NotATree address) is cause ended = absurd cause
  by_status (status.NoSource peer) is cause ended = absurd cause
  by_status (status.CopyFull blocks) is cause ended = absurd cause

  pub ends_well : EndsWell S r
  ends_well = by_status r.ending refl its.cause ends.cause
