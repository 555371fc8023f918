-- What the view alone answers.
use Rattle.std.proofs.Common.{◌≡◌, ℕ, List, ◌⊎◌, Option, Some, None, count_by, inl, inr, is_none, length, refl, sym, ap, ◌∙◌}
use Rattle.std.specs.Option.{option_map, option_or}
use Rattle.hs_limits.specs.declared.address.Address.{Address}
use Rattle.hs_limits.specs.declared.limits.Limits.{Limits}
use Rattle.hs_model.specs.Judge.{granted, judge, refusals}
use Rattle.hs_model.specs.Refusals.{first}
use Rattle.hs_model.specs.Store.{Root, Session, Store, next_of, root_epoch}
use Rattle.hs_model.specs.declared.op.Op.{Op}
use Rattle.hs_model.specs.declared.op.Op.TheVariants as op
use Rattle.hs_model.specs.declared.reply.Reply.{Reply}
use Rattle.hs_model.specs.declared.reply.Reply.TheVariants as reply
use Rattle.hs_ops.specs.Going.{at_once, judged_in}
use Rattle.hs_ops.specs.Refusals.{refusal_of}
use Rattle.hs_ops.specs.Views.{OpView, kept_in, open_in}
use Rattle.hs_shown.proofs.RowLemmas.{close_refusal, delete_refusal, drop_refusal, forget_refusal, look_refusal, name_refusal, open_refusal, read_refusal, root_refusal, stat_refusal, write_refused}
use Rattle.hs_shown.proofs.ShownLemmas.{address_is, look_now, session_is, sessions_count}
use Rattle.hs_shown.specs.Showing.{Shows}

-- ---- the judge

pub judge_refused : (limits : Limits) (s : Store) (o : Op) (r : Reply) → first (refusals limits s o) ≡ Some r → (judge limits s o).reply ≡ r
unfolding judge
judge_refused limits s o r e = rw e refl

pub judge_granted : (limits : Limits) (s : Store) (o : Op) → first (refusals limits s o) ≡ None → (judge limits s o).reply ≡ (granted s o).reply
unfolding judge
judge_granted limits s o e = rw e refl

-- ---- each refusal

refused_is : (limits : Limits) (s : Store) (o : Op) (v : OpView) (r : Reply) → Shows limits s o v → refusal_of v o ≡ Some r → first (refusals limits s o) ≡ Some r
refused_is limits s (op.Open name) v r shows e = open_refusal limits s v name shows ∙ e
refused_is limits s (op.Close name) v r shows e = close_refusal limits s v name shows ∙ e
refused_is limits s (op.Write name payload handles address) v r shows e = write_refused limits s v name payload handles address r shows e
refused_is limits s (op.Read name handle) v r shows e = read_refusal limits s v name handle shows ∙ e
refused_is limits s (op.Look name key) v r shows e = look_refusal limits s v name key shows ∙ e
refused_is limits s (op.Root name key handle) v r shows e = root_refusal limits s v name key handle shows ∙ e
refused_is limits s (op.Drop key) v r shows e = drop_refusal limits s v key shows ∙ e
refused_is limits s (op.Forget name handle) v r shows e = forget_refusal limits s v name handle shows ∙ e
refused_is limits s (op.Name name handle) v r shows e = name_refusal limits s v name handle shows ∙ e
refused_is limits s op.Delete v r shows e = delete_refusal limits s v shows ∙ e
refused_is limits s op.Stat v r shows e = stat_refusal limits s v ∙ e

-- ---- what is answered at once

some_is : {A : Type 0} (x y : A) → Some x ≡ Some y → x ≡ y
some_is x y e = cc

mapped_const : {A : Type 0} (x : Option A) (q r : Reply) → option_map (λ y. q) x ≡ Some r → q ≡ r
mapped_const None q r e = cc
mapped_const (Some y) q r e = some_is q r e

at_once_is : (limits : Limits) (s : Store) (o : Op) (v : OpView) (r : Reply) → Shows limits s o v → refusal_of v o ≡ None → at_once v o ≡ Some r → (judge limits s o).reply ≡ r
unfolding granted
at_once_is limits s (op.Open name) v r shows n e = judge_granted limits s _ (open_refusal limits s v name shows ∙ n) ∙ some_is _ _ e
at_once_is limits s (op.Close name) v r shows n e = judge_granted limits s _ (close_refusal limits s v name shows ∙ n) ∙ some_is _ _ e
at_once_is limits s (op.Write name payload handles address) v r shows n e = cc
at_once_is limits s (op.Read name handle) v r shows n e = cc
at_once_is limits s (op.Look name key) v r shows n e =
    judge_granted limits s _ (look_refusal limits s v name key shows ∙ n)
    ∙ ap (λ (session : Option Session). reply.Held (next_of session) (root_epoch s key)) (session_is limits s _ v shows name)
    ∙ ap (λ (now : ℕ). reply.Held (next_of (open_in v name)) now) (look_now limits s v name key shows) ∙ some_is _ _ e
at_once_is limits s (op.Root name key handle) v r shows n e =
    judge_granted limits s _ (root_refusal limits s v name key handle shows ∙ n) ∙ mapped_const (kept_in v key) reply.Ok r e
at_once_is limits s (op.Drop key) v r shows n e = cc
at_once_is limits s (op.Forget name handle) v r shows n e = judge_granted limits s _ (forget_refusal limits s v name handle shows ∙ n) ∙ some_is _ _ e
at_once_is limits s (op.Name name handle) v r shows n e =
    judge_granted limits s _ (name_refusal limits s v name handle shows ∙ n)
    ∙ ap (λ (a : Address). reply.Name a) (address_is limits s _ v shows name handle) ∙ some_is _ _ e
at_once_is limits s op.Delete v r shows n e = cc
at_once_is limits s op.Stat v r shows n e =
    judge_granted limits s _ (stat_refusal limits s v ∙ n)
    ∙ ap (λ (b : ℕ). reply.Stat b (count_by (λ (root : Root). is_none root.dropped) s.roots) (length s.sessions) s.epochs s.swept) (sym shows.blocks)
    ∙ ap (λ (b : ℕ). reply.Stat v.blocks b (length s.sessions) s.epochs s.swept) (sym shows.retained)
    ∙ ap (λ (b : ℕ). reply.Stat v.blocks v.retained b s.epochs s.swept) (sessions_count limits s _ v shows)
    ∙ ap (λ (l : List ℕ). reply.Stat v.blocks v.retained (length v.seats) l s.swept) (sym shows.epochs)
    ∙ ap (λ (l : List ℕ). reply.Stat v.blocks v.retained (length v.seats) v.epochs l) (sym shows.swept) ∙ some_is _ _ e

-- ---- both

split_or : (a b : Option Reply) (r : Reply) → option_or a b ≡ Some r → (a ≡ Some r) ⊎ ((a ≡ None) × (b ≡ Some r))
split_or None b r e = inr (refl, e)
split_or (Some q) b r e = inl e

pub by_the_view : (limits : Limits) (s : Store) (o : Op) (v : OpView) (r : Reply) → Shows limits s o v → judged_in v o ≡ Some r → (judge limits s o).reply ≡ r
unfolding judged_in
by_the_view limits s o v r shows e = go (split_or (refusal_of v o) (at_once v o) r e)
  where
    go : (refusal_of v o ≡ Some r) ⊎ ((refusal_of v o ≡ None) × (at_once v o ≡ Some r)) → (judge limits s o).reply ≡ r
    go (inl h) = judge_refused limits s o r (refused_is limits s o v r shows h)
    go (inr h) = at_once_is limits s o v r shows h.0 h.1
