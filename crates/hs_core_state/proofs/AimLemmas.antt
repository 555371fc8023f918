-- What an operation is about.
use Rattle.std.proofs.Common.{◌≡◌, ◌∙◌, ap, ℕ, Option}
use Rattle.hs_awaiting.specs.declared.wait.Wait.TheVariants as wait
use Rattle.hs_awaiting.specs.Kinds.{puts_root, writes_block}
use Rattle.hs_core_state.specs.declared.aim.Aim.{Aim}
use Rattle.hs_core_state.specs.Going.{aim_of}
use Rattle.hs_core_words.specs.State.{Core}
use Rattle.hs_limits.specs.declared.address.Address.{Address}
use Rattle.hs_model.specs.declared.op.Op.{Op}
use Rattle.hs_ops.specs.Speaking.{wanted_address}

-- what an operation is about, by the shard and the address that it was found to have
pub aimed : (o : Op) (core : Core) (shard judged : ℕ) (address : Option Address) (same : Op) → same ≡ o → shard ≡ judged → address ≡ wanted_address core.sessions o
    → record { shard = shard; address = address; writes = writes_block same; roots = puts_root same } ≡ aim_of judged o core
aimed o core shard judged address same is places wants =
    ap (λ (x : Op). aim shard address x) is ∙ ap (λ k. aim k address o) places ∙ ap (λ a. aim judged a o) wants
  where
    aim : ℕ → Option Address → Op → Aim
    aim k a x = record { shard = k; address = a; writes = writes_block x; roots = puts_root x }
