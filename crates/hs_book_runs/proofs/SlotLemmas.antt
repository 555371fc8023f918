-- Logs and disks of several peers, of which one has a job.
use Rattle.std.proofs.Common.{◌≡◌, ◌∙◌, sym, subst, ℕ, zero, suc, ◌<◌, List, [], ◌∷◌, Option, None, length, map, refl, arith}
use Rattle.std.specs.Prelude.{slice_index_or}
use Rattle.hs_peerlog.specs.Lists.{Keeping}
use Rattle.hs_taking.specs.Disks.{AreReady, DiskSeen, IsSlotReady}
pub use Rattle.hs_taking.proofs.DiskLemmas.{ready_slot, slot_at}

any_else : {B : Type 0} (xs : List B) (i : ℕ) (d e : B) → i < length xs → slice_index_or xs i d ≡ slice_index_or xs i e
any_else [] i d e low = absurd (omega (arith, low))
any_else (x ∷ xs) zero d e low = refl
any_else (x ∷ xs) (suc i) d e low = any_else xs i d e (omega (arith, low))

-- the log and the disk of a peer that is there
pub slot_there : {A : Type 0} (tells : Type 0) (logs : List (Option Keeping)) (disks : List A) (f : A → DiskSeen) (at : ℕ) (slot : Option Keeping) (disk : A)
    → AreReady tells logs (map f disks) → length logs ≡ length disks → at < length logs → slot ≡ slice_index_or logs at slot → disk ≡ slice_index_or disks at disk → IsSlotReady tells slot (f disk).size (f disk).stands
slot_there {A = A} tells logs disks f at slot disk ready count low is there =
    let within : at < length disks = omega (arith, count, low) in
    subst (λ (d : A). IsSlotReady tells slot (f d).size (f d).stands) (sym there)
    (slot_at tells logs disks f at slot disk ready (is ∙ any_else logs at slot None low) within)
