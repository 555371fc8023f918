-- The first refusal of a list, where one holds.
use Rattle.std.proofs.Common.{◌≡◌, List, [], ◌∷◌, Option, Some, None, inl, inr, refl, Contains}
use Rattle.hs_limits.specs.declared.limits.Limits.{Limits}
use Rattle.hs_model.specs.declared.op.Op.{Op}
use Rattle.hs_model.specs.declared.reply.Reply.{Reply}
use Rattle.hs_model.specs.Judge.{judge, refusals}
use Rattle.hs_model.specs.Refusals.{first}
use Rattle.hs_model.specs.Store.{Store}
use Rattle.hs_model.proofs.Members.{Member, member_from_contains}

first-some : (rs : List (Option Reply)) (refusal : Reply) → Member (Some refusal) rs → (r : Reply) × (first rs ≡ Some r)
first-some [] refusal m = elim m [ ]
first-some (Some r ∷ rs) refusal m = (r, refl)
first-some (None ∷ rs) refusal (inl e) = cc e
first-some (None ∷ rs) refusal (inr m) = first-some rs refusal m

pub refused_leaves : (limits : Limits) (s : Store) (o : Op) (refusal : Reply) → Contains (refusals limits s o) (Some refusal) → (judge limits s o).store ≡ s
unfolding judge
refused_leaves limits s o refusal h =
    let r = first-some (refusals limits s o) refusal (member_from_contains (Some refusal) (refusals limits s o) h) in
    rw r.1

pub refused_tells : (limits : Limits) (s : Store) (o : Op) (refusal : Reply) → first (refusals limits s o) ≡ Some refusal → (judge limits s o).reply ≡ refusal
unfolding judge
refused_tells limits s o refusal h = rw h
