-- The refusals of an operation as it is told are those of the operation.
use Rattle.std.proofs.Common.{◌≡◌, Bool, false, refl}
use Rattle.hs_limits.specs.declared.limits.Limits.{Limits}
use Rattle.hs_model.specs.declared.op.Op.{Op}
use Rattle.hs_model.specs.declared.op.Op.TheVariants as op
use Rattle.hs_model.specs.Deeds.{refusals_told}
use Rattle.hs_model.specs.Judge.{asked_of, given_address, refusals, written}
use Rattle.hs_model.specs.Refusals.{is_other}
use Rattle.hs_model.specs.Store.{Store, block_at}

-- whether another block is there than a write asks for
abbrev pub is_collision : Store → Op → Bool
is_collision s (op.Write name payload handles address) = is_other (block_at s (given_address address)) (written s name payload handles)
is_collision s other = false

pub told_refusals : (limits : Limits) (s : Store) (o : Op) → refusals limits s o ≡ refusals_told limits s (asked_of o) (is_collision s o)
unfolding refusals refusals_told
told_refusals limits s (op.Open name) = refl
told_refusals limits s (op.Close name) = refl
told_refusals limits s (op.Write name payload handles address) = refl
told_refusals limits s (op.Read name handle) = refl
told_refusals limits s (op.Look name key) = refl
told_refusals limits s (op.Root name key handle) = refl
told_refusals limits s (op.Drop key) = refl
told_refusals limits s (op.Forget name handle) = refl
told_refusals limits s (op.Name name handle) = refl
told_refusals limits s op.Delete = refl
told_refusals limits s op.Stat = refl
