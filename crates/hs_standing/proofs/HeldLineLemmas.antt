-- A client's line leaves each Mark that waits the block that its line writes.
use Rattle.std.proofs.Common.{◌≡◌, ◌∙◌, sym, subst, ℕ, List, Option, Some, None, refl}
use Rattle.std.specs.Ordering.{nat_cmp}
use Rattle.hs_awaiting.specs.declared.wait.Wait.TheVariants as wait
use Rattle.hs_awaiting.specs.declared.waiting.Waiting.{Waiting}
use Rattle.hs_core_words.specs.Changing.{add_operation}
use Rattle.hs_core_words.specs.Looking.{shape_of}
use Rattle.hs_core_words.specs.Operating.{answer, begin_line, busy_line, take_step}
use Rattle.hs_core_words.specs.Seeing.{view_for}
use Rattle.hs_core_words.specs.State.{Core}
use Rattle.hs_effects.specs.Logged.{IsNewLine, IsOrderly}
use Rattle.hs_effects.proofs.BeginLemmas.{added, begin_is, seats_apart}
use Rattle.hs_effects.proofs.LookLemmas.{found_insert, insert_other, number_exact, remove_other}
use Rattle.hs_effects.proofs.OrderlyLemmas.{IsFree}
use Rattle.hs_fold.specs.Runs.Facts.{Catalogue as Folded}
use Rattle.hs_standing.specs.Held.{AreWritten}
use Rattle.hs_standing.proofs.AnswerLemmas.{from_no_mark}
use Rattle.hs_standing.proofs.WrittenLemmas.{changed_written, no_mark_well, stepped_written}
use Rattle.hs_limits.specs.declared.address.Address.{Address}
use Rattle.hs_model.specs.declared.op.Op.{Op}
use Rattle.hs_model.specs.declared.reply.Reply.{Reply}
use Rattle.hs_ops.specs.Answers.{seats_after}
use Rattle.hs_ops.specs.declared.step.OpStep.TheVariants as step
use Rattle.hs_ops.specs.Going.{judged_in}
use Rattle.hs_ops.specs.Operations.{after_step, go_step, new_operation}
use Rattle.hs_ops.specs.Speaking.{judging_shard}
use Rattle.hs_ops.specs.Views.{OpView}

module _ (name : List ℕ → Address) (cs : List Folded) (line : ℕ) (o : Op) (c : Core) (order : IsOrderly name c) (may : IsNewLine name c line o) (its : AreWritten c cs) where
  abbrev begun : Core
  begun = record c { progress = record c.progress { last_line = line } }

  abbrev shard : ℕ
  shard = judging_shard (shape_of c).shards c.sessions o

  abbrev w : Waiting
  w = record { operation = new_operation line o; shard = shard; wait = wait.View }

  abbrev v : OpView
  v = record (view_for shard o begun) { busy = busy_line o c }

  abbrev with_it : Core
  with_it = add_operation line w begun

  -- no entry of a new line waits
  free : IsFree c line
  free = λ g place e at by. cc (sym may.new ∙ (order.asked g place line e at by).at)

  added_written : AreWritten with_it cs
  added_written = changed_written c with_it cs line free
      (record { waiting = λ g. refl; others = λ l d. insert_other nat_cmp number_exact c.operations line l w d; seats = λ l u q d at s. refl }) its

  -- it is answered at its line: no other line has an operation of its session, or it is told that this is busy
  answered_written : (x : Waiting) (r : Reply) → x.operation.op ≡ o → judged_in v o ≡ Some r → AreWritten (answer line x r with_it) cs
  unfolding seats_after
  answered_written x r same j = changed_written c (answer line x r with_it) cs line free (record {
    waiting = λ g. refl;
    others = λ l d. remove_other nat_cmp number_exact with_it.operations line l d ∙ insert_other nat_cmp number_exact c.operations line l w d;
    seats = seats_apart name line o c order may.new may.counted may.called x r same j;
  }) its

  pub line_written : AreWritten (begin_line line o c) cs
  line_written = by_judge (judged_in v o) refl
    where
      by_judge : (x : Option Reply) → judged_in v o ≡ x → AreWritten (begin_line line o c) cs
      by_judge (Some r) j =
          subst (λ taken. AreWritten (take_step line w taken with_it) cs) (sym (begin_is v line o r j))
          (answered_written (record w { operation = after_step (step.Answer r) w.operation }) r refl j)
      by_judge None j =
          stepped_written with_it cs line (λ g place e at by. free g place e at by) (added name line o c order may.new may.counted may.called j).alone added_written w (found_insert line c.operations w)
          (go_step v w.operation) (no_mark_well with_it cs line w (go_step v w.operation) (from_no_mark v line o w.operation.stage))

pub written_line : (name : List ℕ → Address) (cs : List Folded) (c : Core) → IsOrderly name c → AreWritten c cs → (line : ℕ) (o : Op) → IsNewLine name c line o → AreWritten (begin_line line o c) cs
written_line name cs c order its line o may = line_written name cs line o c order may its
