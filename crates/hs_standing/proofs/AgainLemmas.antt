-- An operation that starts again with a view is the one that it was.
use Rattle.std.proofs.Common.{◌≡◌, ◌∙◌, sym, ap, ℕ, ◌==◌, ◌&&◌, Bool, true, false, not, Option, Some, None, refl}
use Rattle.std.specs.BTreeMap.{is_at}
use Rattle.std.specs.Option.{option_map}
use Rattle.std.specs.Ordering.{nat_cmp}
use Rattle.std.specs.Prelude.{if◌then◌else◌}
use Rattle.hs_anatomy.proofs.LookLemmas.{found_map}
use Rattle.hs_awaiting.specs.declared.wait.Wait.TheVariants as wait
use Rattle.hs_awaiting.specs.declared.waiting.Waiting.{Waiting}
use Rattle.hs_awaiting.specs.Views.{is_within, restarted}
use Rattle.hs_core_words.specs.Looking.{operation_of}
use Rattle.hs_core_words.specs.State.{Core}
use Rattle.hs_core_words.specs.Views.{restart_at}

-- the operation of a line, as it was
pub record Was (c : Core) (line : ℕ) (w : Waiting) : Type 0 where
  pub waiting : Waiting
  pub at : operation_of line c ≡ Some waiting
  pub same : waiting.operation ≡ w.operation

again_same : (shard last : ℕ) (w : Waiting) → (restarted shard last w).operation ≡ w.operation
again_same shard last w = go (w.shard == shard && not (is_within last w.wait))
  where
    go : (b : Bool) → (if b then record w { wait = wait.View } else w).operation ≡ w.operation
    go true = refl
    go false = refl

some_waits : (x w : Waiting) → Some x ≡ Some w → x ≡ w
some_waits x w e = cc e

pub was : (shard last : ℕ) (c : Core) (line : ℕ) (w : Waiting) → operation_of line (restart_at shard last c) ≡ Some w → Was c line w
was shard last c line w at = go (operation_of line c) refl (sym (found_map (restarted shard last) (is_at (nat_cmp line)) c.operations) ∙ at)
  where
    go : (o : Option Waiting) → operation_of line c ≡ o → option_map (restarted shard last) o ≡ Some w → Was c line w
    go None there e = absurd (cc e)
    go (Some u) there e = record { waiting = u; at = there; same = sym (again_same shard last u) ∙ ap (λ (x : Waiting). x.operation) (some_waits (restarted shard last u) w e) }
