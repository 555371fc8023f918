-- Which replies an operation may be told, by its kind.
use Rattle.std.proofs.Common.{◌≡◌, sym, subst, ◌∙◌, Bool, true, refl}
use Rattle.std.specs.Prelude.{IsTrue}
use Rattle.hs_asking.specs.Telling.{MayBeTold, grants, may_be_told}
use Rattle.hs_model.specs.declared.op.Op.{Op}
use Rattle.hs_model.specs.declared.op.Op.TheVariants as op
use Rattle.hs_model.specs.declared.reply.Reply.{Reply}
use Rattle.hs_asker.specs.Kinds.{kind_may, kind_of}

pub by_kind : (o : Op) (told : Reply) → may_be_told o told ≡ kind_may (kind_of o) told
unfolding may_be_told grants
by_kind (op.Open name) told = refl
by_kind (op.Close name) told = refl
by_kind (op.Write name payload handles address) told = refl
by_kind (op.Read name handle) told = refl
by_kind (op.Look name key) told = refl
by_kind (op.Root name key handle) told = refl
by_kind (op.Drop key) told = refl
by_kind (op.Forget name handle) told = refl
by_kind (op.Name name handle) told = refl
by_kind op.Delete told = refl
by_kind op.Stat told = refl

is_true : (b : Bool) → b ≡ true → IsTrue b
is_true b e = subst (λ (c : Bool). IsTrue c) (sym e) refl

pub may_by : (o : Op) (told : Reply) → kind_may (kind_of o) told ≡ true → MayBeTold o told
may_by o told h = is_true (may_be_told o told) (by_kind o told ∙ h)
