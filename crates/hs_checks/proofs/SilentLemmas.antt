-- Runs that run no script: their time, and the counts of their disks.
use Rattle.std.proofs.Common.{◌≡◌, sym, subst, ℕ, zero, suc, ◌<◌, ◌≤◌, List, [], ◌∷◌, Option, length, arith}
use Rattle.hs_cluster.specs.Counts.{NoneFalls}
use Rattle.hs_ports.specs.Objects.{CountsStand, KeepsTime, Objects}
use Rattle.hs_run.proofs.DisksLemmas.{falls_is}
use Rattle.hs_run.proofs.PrintedLemmas.{stamped_both, stamped_none, stamped_on}
use Rattle.hs_run.specs.Machine.{AreHanded}
use Rattle.hs_run.specs.Puts.{IsStamped}
use Rattle.hs_taking.specs.Disks.{DiskSeen, seen_at}

-- no count falls, where none of a disk does that is there
pub none_falls : (old new : List DiskSeen) → ((k : ℕ) → k < length old → (seen_at old k).faults ≤ (seen_at new k).faults) → NoneFalls old new
none_falls [] new each k = omega arith
none_falls (d ∷ old) new each zero = each 0 (omega arith)
none_falls (d ∷ old) [] each (suc k) = none_falls old [] (λ j low. each (suc j) (omega (arith, low))) k
none_falls (d ∷ old) (e ∷ new) each (suc k) = none_falls old new (λ j low. each (suc j) (omega (arith, low))) k

pub counts_of : (old new : Objects) (disks left : List DiskSeen) → AreHanded old disks → AreHanded new left → ((k : ℕ) → k < length disks → (seen_at disks k).faults ≤ (seen_at left k).faults)
    → old.sink_faults ≤ new.sink_faults → old.source_faults ≤ new.source_faults → CountsStand old new
counts_of old new disks left was is each sink source = record { disks = falls_is old new disks left was is (none_falls disks left each); sink = sink; source = source }

-- nothing was put
pub time_without : (old new : Objects) → old.moment ≤ new.moment → new.got ≡ old.got → KeepsTime old new
time_without old new later same =
    let none : IsStamped old.moment new.moment old.got new.got = subst (λ (got : Option (List (ℕ × ℕ))). IsStamped old.moment new.moment old.got got) (sym same) (stamped_on old.moment old.moment new.moment old.got old.got later (stamped_none old.moment old.got)) in
    record { later = later; puts = record { more = none.more; put = none.put; stamped = none.stamped } }

-- all was put from a moment on
pub time_with : (old new : Objects) (mid : ℕ) → old.moment ≤ mid → mid ≤ new.moment → IsStamped mid new.moment old.got new.got → KeepsTime old new
time_with old new mid first then stamped =
    let all : IsStamped old.moment new.moment old.got new.got = stamped_both old.moment mid mid new.moment old.got old.got new.got first then (stamped_on old.moment old.moment mid old.got old.got first (stamped_none old.moment old.got)) stamped in
    record { later = omega (arith, first, then); puts = record { more = all.more; put = all.put; stamped = all.stamped } }
