-- Each operation that waits stays its line's command.
use Rattle.std.proofs.Common.{◌≡◌, ◌∙◌, sym, ap, subst, ◌⊎◌, inl, inr, ℕ, List, Option, Some, None, refl}
use Rattle.std.specs.BTreeMap.{is_at}
use Rattle.std.specs.Map.{lookup, set_value}
use Rattle.std.specs.Ordering.{nat_cmp}
use Rattle.hs_answered.specs.Telling.{Judging}
use Rattle.hs_awaiting.specs.declared.waiting.Waiting.{Waiting}
use Rattle.hs_awaiting.specs.Words.{change_with}
use Rattle.hs_core_words.specs.Looking.{operation_of}
use Rattle.hs_core_words.specs.Operating.{go_on_with, take_step}
use Rattle.hs_core_words.specs.Seeing.{pointers_for, view_for}
use Rattle.hs_core_words.specs.State.{Core}
use Rattle.hs_effects.proofs.LookLemmas.{found_set, gone, number_exact, one_or_other, remove_other, set_other}
use Rattle.hs_effects.proofs.OrderlyLemmas.{session_in}
use Rattle.hs_effects.proofs.SeatLemmas.{seats_other}
use Rattle.hs_effects.specs.Logged.{AreOnce, IsOrderly}
use Rattle.hs_standing.proofs.MuteLemmas.{Stays, Words, step_stays}
use Rattle.hs_standing.proofs.SayLemmas.{commanded_on}
use Rattle.hs_standing.specs.Commands.{AreCommanded, IsCommanded}
use Rattle.hs_limits.specs.declared.address.Address.{Address}
use Rattle.hs_model.specs.declared.op.Op.{Op}
use Rattle.hs_model.specs.declared.reply.Reply.{Reply}
use Rattle.hs_ops.specs.Answers.{gained}
use Rattle.hs_ops.specs.declared.step.OpStep.{OpStep}
use Rattle.hs_ops.specs.declared.step.OpStep.TheVariants.{Answer, Compare, Propose, Wait}
use Rattle.hs_ops.specs.Operations.{Operation}
use Rattle.hs_ops.specs.Views.{OpView}
use Rattle.hs_tokens.specs.Seats.{Seats, seat_of}

-- no line and no session has two operations
pub record AreApart (c : Core) : Type 0 where
  pub once : AreOnce c.operations
  pub alone : (l m : ℕ) (v w : Waiting) (q : List ℕ) → operation_of l c ≡ Some v → operation_of m c ≡ Some w → session_in v ≡ Some q → session_in w ≡ Some q → l ≡ m

pub apart_of : (name : List ℕ → Address) (c : Core) → IsOrderly name c → AreApart c
apart_of name c order = record { once = order.once; alone = order.alone }

some_is : (x y : Waiting) → Some x ≡ Some y → x ≡ y
some_is x y e = cc e

-- where operations and sessions are the same
pub commands_same : (by : Judging) (a b : Core) → b.operations ≡ a.operations → b.sessions ≡ a.sessions → AreCommanded by a → AreCommanded by b
commands_same by a b operations sessions its line w at =
    subst (λ (seats : Seats). IsCommanded by seats line w.operation.op) (sym sessions)
    (its line w (sym (ap (λ (es : List (ℕ × Waiting)). lookup (is_at (nat_cmp line)) es) operations) ∙ at))

module _ (by : Judging) (c : Core) (order : AreApart c) (its : AreCommanded by c) (line : ℕ) (u : Waiting) (at : operation_of line c ≡ Some u) where
  -- its operation is over, and its session may have changed
  commands_answer : (r : Reply) → AreCommanded by (take_step line u (Answer r) c)
  commands_answer r l w e = by_line (one_or_other l line)
    where
      by_line : (l ≡ line) ⊎ (l ≡ line → ⊥) → IsCommanded by (take_step line u (Answer r) c).sessions l w.operation.op
      by_line (inl is) = absurd (none (sym (gone line c.operations order.once) ∙ subst (λ (k : ℕ). operation_of k (take_step line u (Answer r) c) ≡ Some w) is e))
        where
          none : None ≡ Some w → ⊥
          none h = cc h
      by_line (inr d) = commanded_on by c.sessions (take_step line u (Answer r) c).sessions l w.operation.op same (its l w old)
        where
          old : operation_of l c ≡ Some w
          old = sym (remove_other nat_cmp number_exact c.operations line l d) ∙ e

          same : (q : List ℕ) → session_in w ≡ Some q → seat_of q (take_step line u (Answer r) c).sessions ≡ seat_of q c.sessions
          same q s =
              seats_other (gained (view_for u.shard u.operation.op c) (pointers_for u.shard u.operation.op c) u.operation.op) u.operation.op r c.sessions q
              (λ t. d (order.alone l line w u q old at s t))

  -- it stands there at another stage
  commands_stay : (s : OpStep) → Stays c (take_step line u s c) line u → AreCommanded by (take_step line u s c)
  commands_stay s stays l w e = subst (λ (seats : Seats). IsCommanded by seats l w.operation.op) (sym (ap (λ (x : Words). x.sessions) stays.words)) (by_line (one_or_other l line))
    where
      there : lookup (is_at (nat_cmp l)) (set_value (is_at (nat_cmp line)) c.operations stays.next) ≡ Some w
      there = sym (ap (λ (x : Words). lookup (is_at (nat_cmp l)) x.operations) stays.words) ∙ e

      by_line : (l ≡ line) ⊎ (l ≡ line → ⊥) → IsCommanded by c.sessions l w.operation.op
      by_line (inl is) = subst (λ (o : Op). IsCommanded by c.sessions l o) op_is (subst (λ (k : ℕ). IsCommanded by c.sessions k u.operation.op) (sym is) (its line u at))
        where
          next_is : stays.next ≡ w
          next_is = some_is stays.next w
              (sym (found_set line c.operations u stays.next at) ∙ subst (λ (k : ℕ). lookup (is_at (nat_cmp k)) (set_value (is_at (nat_cmp line)) c.operations stays.next) ≡ Some w) is there)

          op_is : u.operation.op ≡ w.operation.op
          op_is = sym stays.same ∙ ap (λ (x : Waiting). x.operation.op) next_is
      by_line (inr d) = its l w (sym (set_other nat_cmp number_exact c.operations line l stays.next d) ∙ there)

  pub commands_step : (s : OpStep) → AreCommanded by (take_step line u s c)
  commands_step (Answer r) = commands_answer r
  commands_step (Propose entry) = commands_stay (Propose entry) (step_stays line u (Propose entry) c (λ r h. cc h))
  commands_step (Compare number) = commands_stay (Compare number) (step_stays line u (Compare number) c (λ r h. cc h))
  commands_step Wait = commands_stay Wait (step_stays line u Wait c (λ r h. cc h))

pub commands_go_on : (by : Judging) (next : OpView → Operation → OpStep) (line : ℕ) (c : Core) → AreApart c → AreCommanded by c → AreCommanded by (go_on_with next line c)
commands_go_on by next line c order its = by_operation (operation_of line c) refl
  where
    by_operation : (x : Option Waiting) → operation_of line c ≡ x → AreCommanded by (change_with x (λ w. take_step line w (next (view_for w.shard w.operation.op c) w.operation)) c)
    by_operation None at = its
    by_operation (Some u) at = commands_step by c order its line u at (next (view_for u.shard u.operation.op c) u.operation)
