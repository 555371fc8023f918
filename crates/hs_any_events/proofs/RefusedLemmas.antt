-- A client's line that is refused by what it sees leaves sessions, and the operations that wait; another line's write comes with the address that its session gives.
use Rattle.std.proofs.Common.{◌≡◌, ◌∙◌, sym, ap, subst, ◌⊎◌, inl, inr, ℕ, List, Option, Some, None, refl}
use Rattle.std.specs.Option.{option_map_or}
use Rattle.std.specs.Ordering.{nat_cmp}
use Rattle.hs_answered.proofs.AnswerLemmas.{view_refusal_stops}
use Rattle.hs_answered.specs.Telling.{Judging}
use Rattle.hs_any_events.proofs.BytesLemmas.{undone}
use Rattle.hs_awaiting.specs.declared.wait.Wait.TheVariants as wait
use Rattle.hs_awaiting.specs.declared.waiting.Waiting.{Waiting}
use Rattle.hs_core_words.specs.Changing.{add_operation}
use Rattle.hs_core_words.specs.Looking.{operation_of, shape_of}
use Rattle.hs_core_words.specs.Operating.{begin_line, busy_line, take_step}
use Rattle.hs_core_words.specs.Seeing.{view_for}
use Rattle.hs_core_words.specs.State.{Core}
use Rattle.hs_effects.proofs.LookLemmas.{gone, insert_other, number_exact, once_insert, one_or_other, remove_other}
use Rattle.hs_effects.proofs.StepLemmas.{has_block}
use Rattle.hs_effects.specs.Logged.{AreOnce, HasBlock, IsCalled}
use Rattle.hs_events.proofs.AddressLemmas.{address_found}
use Rattle.hs_events.specs.Asked.{addressed}
use Rattle.hs_limits.specs.declared.address.Address.{Address}
use Rattle.hs_model.specs.declared.op.Op.{Op}
use Rattle.hs_model.specs.declared.op.Op.TheVariants as op
use Rattle.hs_model.specs.declared.reply.Reply.{Reply}
use Rattle.hs_ops.specs.declared.step.OpStep.{OpStep}
use Rattle.hs_ops.specs.declared.step.OpStep.TheVariants.{Answer}
use Rattle.hs_ops.specs.Going.{begin, go, judged_in}
use Rattle.hs_ops.specs.Operations.{new_operation}
use Rattle.hs_ops.specs.Refusals.{refusal_of}
use Rattle.hs_ops.specs.Speaking.{asked_block, judging_shard}
use Rattle.hs_ops.specs.Views.{OpView}
use Rattle.hs_standing.proofs.LegalStepLemmas.{refused_judged}
use Rattle.hs_standing.specs.Commands.{AreCommanded, IsCommanded}
use Rattle.hs_tokens.specs.Seats.{Seats}

-- what a line sees as it begins
abbrev pub seen_at_line : ℕ → Op → Core → OpView
seen_at_line line o core = record (view_for (judging_shard (shape_of core).shards core.sessions o) o (record core { progress = record core.progress { last_line = line } })) { busy = busy_line o core }

begin_answers : (v : OpView) (line : ℕ) (o : Op) (r : Reply) → judged_in v o ≡ Some r → begin v line o ≡ Answer r
unfolding begin
begin_answers v line o r j = ap (λ (x : Option Reply). option_map_or Answer x (go v line o)) j

-- ---- a line that is not refused

-- its write has a block, and so the address of that
pub called_is : (name : List ℕ → Address) (line : ℕ) (core : Core) (o : Op) → IsCalled name core.sessions o → refusal_of (seen_at_line line o core) o ≡ None → addressed name core.sessions o ≡ o
unfolding asked_block
called_is name line core (op.Write session payload handles address) called free =
    let has : HasBlock core.sessions session payload handles = has_block (seen_at_line line (op.Write session payload handles address) core) session payload handles address free in
    ap (λ (x : Option Address). op.Write session payload handles x) (address_found name core.sessions session payload handles has.held has.few has.short ∙ sym (called has))
called_is name line core (op.Open session) called free = refl
called_is name line core (op.Close session) called free = refl
called_is name line core (op.Read session handle) called free = refl
called_is name line core (op.Look session key) called free = refl
called_is name line core (op.Root session key handle) called free = refl
called_is name line core (op.Drop key) called free = refl
called_is name line core (op.Forget session handle) called free = refl
called_is name line core (op.Name session handle) called free = refl
called_is name line core op.Delete called free = refl
called_is name line core op.Stat called free = refl

-- ---- one that is

module _ (core : Core) (once : AreOnce core.operations) (line : ℕ) (o : Op) (new : operation_of line core ≡ None) (q : Reply) (stops : refusal_of (seen_at_line line o core) o ≡ Some q) where
  abbrev w : Waiting
  w = record { operation = new_operation line o; shard = judging_shard (shape_of core).shards core.sessions o; wait = wait.View }

  abbrev with_it : Core
  with_it = add_operation line w (record core { progress = record core.progress { last_line = line } })

  begun_is : begin_line line o core ≡ take_step line w (Answer q) with_it
  begun_is = ap (λ (s : OpStep). take_step line w s with_it) (begin_answers (seen_at_line line o core) line o q (refused_judged (seen_at_line line o core) o q stops))

  answer_seats : (take_step line w (Answer q) with_it).sessions ≡ core.sessions
  answer_seats = undone line w q with_it (view_refusal_stops (seen_at_line line o core) o q stops)

  pub refused_seats : (begin_line line o core).sessions ≡ core.sessions
  refused_seats = ap (λ (c : Core). c.sessions) begun_is ∙ answer_seats

  pub refused_commands : (by : Judging) → AreCommanded by core → AreCommanded by (begin_line line o core)
  refused_commands by its = subst (λ (c : Core). AreCommanded by c) (sym begun_is) others
    where
      others : AreCommanded by (take_step line w (Answer q) with_it)
      others l x e = by_line (one_or_other l line)
        where
          by_line : (l ≡ line) ⊎ (l ≡ line → ⊥) → IsCommanded by (take_step line w (Answer q) with_it).sessions l x.operation.op
          by_line (inl is) = absurd (none (sym (gone line with_it.operations (once_insert line core.operations w new once)) ∙ subst (λ (k : ℕ). operation_of k (take_step line w (Answer q) with_it) ≡ Some x) is e))
            where
              none : None ≡ Some x → ⊥
              none h = cc h
          by_line (inr d) =
              subst (λ (seats : Seats). IsCommanded by seats l x.operation.op) (sym answer_seats)
              (its l x (sym (remove_other nat_cmp number_exact with_it.operations line l d ∙ insert_other nat_cmp number_exact core.operations line l w d) ∙ e))
