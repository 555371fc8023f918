-- Emptying the disk of a peer.
use Rattle.std.proofs.Common.{◌≡◌, ◌∙◌, inl, sym, subst, ℕ, ◌≤◌, List, [], Option, Some, None, IsSome, refl}
use Rattle.std.specs.Prelude.{Err, IfOk, IfSome, MatchOption, Ok, Result}
use Rattle.hs_entry.specs.declared.entry.Entry.{Entry}
use Rattle.hs_limits.specs.declared.shape.Shape.{Shape}
use Rattle.hs_peerlog.proofs.StayLemmas.{seen-list}
use Rattle.hs_peerlog.specs.Caused.{IsCalm}
use Rattle.hs_peerlog.specs.declared.fault.LogFault.{LogFault}
use Rattle.hs_peerlog.specs.declared.fault.LogFault.TheVariants as log
use Rattle.hs_peerlog.specs.Images.{Is, IsOne, LeavesEach, LeavesOnly}
use Rattle.hs_peerlog.specs.Lists.{HasLog, Keeping}
use Rattle.hs_peerlog.specs.Opening.{refusal_in}
use Rattle.hs_ports.specs.declared.disk.Side.{Side}
use Rattle.hs_ports.specs.Disk.{IsImage, Standing}
use Rattle.hs_ports.specs.Fault.{HasRisen}
use Rattle.hs_scrub.proofs.CopyLemmas.{append_each, each_then}
use Rattle.hs_scrub.specs.Copied.{IsLeft}
use Rattle.hs_scrub.specs.CopySteps.{IsEmptied, IsOpen}
use Rattle.hs_scrub.specs.declared.fault.ScrubFault.{ScrubFault}
use Rattle.hs_taking.proofs.ViewLemmas.{no_list}
use Rattle.hs_taking.specs.Disks.{DiskSeen}

pub listed_of : (o : Option (List (ℕ × Entry))) → IsSome o → (list : List (ℕ × Entry)) × (o ≡ Some list)
listed_of None h = cc h
listed_of (Some list) h = (list, refl)

-- an empty log was made, or the disk failed
module _ (tells : Type 0) (shape : Shape) (peer before : ℕ) (old via new : DiskSeen) (same : via.faults ≡ old.faults) where
  emptied_by : (o : Option Keeping) → IfSome o (IsOpen tells new) → (tells → old.stands.last ≤ before → IfSome o (λ own. HasLog own new.stands [] None)) → (IsSome o → new.faults ≡ via.faults) → (o ≡ None → HasRisen via.faults new.faults)
      → MatchOption o (IsLeft tells shape peer old new) (IsEmptied tells before old new)
  emptied_by None opens list calm rose = inl (subst (λ n. HasRisen n new.faults) same (rose refl))
  emptied_by (Some log) opens list calm rose = record { opens = opens; list = list; calm = calm refl ∙ same }

  pub emptied_ok : (r : Result (Option Keeping) ScrubFault) → IfOk r (λ o. IfSome o (IsOpen tells new)) → (tells → old.stands.last ≤ before → IfOk r (λ o. IfSome o (λ own. HasLog own new.stands [] None)))
      → IfOk r (λ o. IsSome o → new.faults ≡ via.faults) → IfOk r (λ o. o ≡ None → HasRisen via.faults new.faults) → IfOk r (λ o. MatchOption o (IsLeft tells shape peer old new) (IsEmptied tells before old new))
  emptied_ok (Ok o) opens list calm rose = emptied_by o opens list calm rose
  emptied_ok (Err fault) opens list calm rose = tt

-- ---- moments

pub empty_each : {before mid now : ℕ} {a b c : Standing} (list : List (ℕ × Entry)) → LeavesEach before mid a b (Is list) → LeavesEach mid now b c (IsOne list []) → LeavesEach before now a c (IsOne list [])
empty_each list one two = each_then (IsOne list []) (append_each list [] one) two

-- a disk of which a stop leaves a list is a log
pub no_log_not : (shape : Shape) (peer at : ℕ) (disk : Standing) (list : List (ℕ × Entry)) → ((side : Side) → IsImage (disk.loose side) (disk.seen side)) → LeavesOnly disk list → refusal_in shape peer disk.seen ≡ Some (log.NotALog at) → ⊥
no_log_not shape peer at disk list stays leaves refused = some_not list (sym (seen-list disk list stays leaves) ∙ no_list shape peer at disk.seen refused)
  where
    some_not : (list : List (ℕ × Entry)) → Some list ≡ None → ⊥
    some_not list e = cc e

-- no call failed where the disk is told to be no log
abbrev refused : LogFault → Result Keeping LogFault
refused fault = Err fault

pub calm_no_log : (fault : LogFault) (at before now : ℕ) → fault ≡ log.NotALog at → IsCalm before now (refused fault) → now ≡ before
calm_no_log fault at before now is calm = subst (λ k. IsCalm before now (refused k)) is calm
