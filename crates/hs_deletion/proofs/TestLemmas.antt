-- What the tests of blocks and roots tell.
use Rattle.std.proofs.Common.{◌≡◌, ℕ, ◌+◌, ◌-◌, ◌≤◌, ◌<◌, Bool, true, false, ◌&&◌, refl, arith, Option, Some, None, nat_eq}
use Rattle.std.proofs.lemmas.Bool.Decides.{nat_tests}
use Rattle.hs_deletion.specs.Records.{BlockRecord, RootRecord, begins, root_begins, is_found, is_old_drop, is_released, is_removed}
use Rattle.hs_deletion.specs.Anchors.{NotBefore}

-- ---- entering

-- what begins to count is uncounted
pub begins_tells : (epoch : ℕ) (b : BlockRecord) → begins epoch b ≡ true → b.counted ≡ false
begins_tells epoch b t = grind arith

-- what is older and does not begin to count is counted
pub not_begins_tells : (epoch : ℕ) (b : BlockRecord) → b.born < epoch → begins epoch b ≡ false → b.counted ≡ true
not_begins_tells epoch b l f = grind (arith, nat_tests)

pub root_begins_tells : (epoch : ℕ) (r : RootRecord) → root_begins epoch r ≡ true → r.counted ≡ false
root_begins_tells epoch r t = grind arith

pub root_not_begins_tells : (epoch : ℕ) (r : RootRecord) → r.created < epoch → root_begins epoch r ≡ false → r.counted ≡ true
root_not_begins_tells epoch r l f = grind (arith, nat_tests)

-- ---- searching

-- a new zero block is counted, no zero block yet, named by nothing, and old
pub record IsFoundSo (epoch : ℕ) (b : BlockRecord) : Type 0 where
  pub counted : b.counted ≡ true
  pub nonzero : b.zero ≡ false
  pub none : b.count ≡ 0
  pub old : b.mark + 2 ≤ epoch

pub found_tells : (epoch : ℕ) (b : BlockRecord) → is_found epoch b ≡ true → IsFoundSo epoch b
found_tells epoch b t = record { counted = counted; nonzero = nonzero; none = none; old = old }
  where
    counted : b.counted ≡ true
    counted = grind arith

    nonzero : b.zero ≡ false
    nonzero = grind arith

    none : b.count ≡ 0
    none = grind (arith, nat_tests)

    old : b.mark + 2 ≤ epoch
    old = grind (arith, nat_tests)

-- an old counted block that is no zero block and no new one has a count
pub not_found_tells : (epoch : ℕ) (b : BlockRecord) → b.counted ≡ true → b.zero ≡ false → b.mark + 2 ≤ epoch → is_found epoch b ≡ false → 1 ≤ b.count
not_found_tells epoch b c z l f = grind (arith, nat_tests)

-- a released root is counted
pub released_tells : (round epoch : ℕ) (r : RootRecord) → is_released round epoch r ≡ true → r.counted ≡ true
released_tells round epoch r t = grind arith

-- a root that counts in the run is not released
pub counts_unreleased : (round epoch run : ℕ) (r : RootRecord) → epoch ≤ run → NotBefore (run - 1) r.dropped → is_released round epoch r ≡ false
counts_unreleased round epoch run r le n = go (nat_eq round 0) r.counted (young r.dropped n)
  where
    young : (d : Option ℕ) → NotBefore (run - 1) d → is_old_drop epoch d ≡ false
    young None n = refl
    young (Some d) n = grind (arith, nat_tests)

    go : (s t : Bool) → is_old_drop epoch r.dropped ≡ false → s && (t && is_old_drop epoch r.dropped) ≡ false
    go true true e = e
    go true false e = refl
    go false t e = refl

-- a counted root that round 0 does not release counts in the run
pub unreleased_counts : (round epoch : ℕ) (r : RootRecord) → round ≡ 0 → r.counted ≡ true → is_released round epoch r ≡ false → NotBefore (epoch - 1) r.dropped
unreleased_counts round epoch r z c f = young r.dropped (drop f)
  where
    drop : is_released round epoch r ≡ false → is_old_drop epoch r.dropped ≡ false
    drop f = grind (arith, nat_tests)

    young : (d : Option ℕ) → is_old_drop epoch d ≡ false → NotBefore (epoch - 1) d
    young None f = tt
    young (Some d) f = grind (arith, nat_tests)

-- ---- sweeping

-- a sweep removes zero blocks that were not given in the epoch
pub removed_tells : (epoch : ℕ) (b : BlockRecord) → is_removed epoch b ≡ true → (b.zero ≡ true) × (b.mark < epoch)
removed_tells epoch b t = (zero, old)
  where
    zero : b.zero ≡ true
    zero = grind arith

    old : b.mark < epoch
    old = grind (arith, nat_tests)

-- and each of those
pub removed_is : (epoch : ℕ) (b : BlockRecord) → b.zero ≡ true → b.mark < epoch → is_removed epoch b ≡ true
removed_is epoch b z l = grind (arith, nat_tests)
