-- A client's line: what it tells is a deed, or nothing.
use Rattle.std.proofs.Common.{◌≡◌, ◌∙◌, sym, ap, ℕ, List, [], ◌∷◌, Option, Some, None, IsSome, refl}
use Rattle.std.specs.Option.{option_map}
use Rattle.hs_standing.proofs.LegalLineLemmas.{apart, some_op}
use Rattle.hs_answered.proofs.CoreLemmas.{busy_at_its_line}
use Rattle.hs_answered.specs.Asked.{IsAsked, busy_with, first_step}
use Rattle.hs_answered.specs.Judged.{IsBusy}
use Rattle.hs_answered.specs.Standing.{IsFolded, store_with}
use Rattle.hs_awaiting.specs.declared.wait.Wait.TheVariants as wait
use Rattle.hs_awaiting.specs.declared.waiting.Waiting.{Waiting}
use Rattle.hs_core_words.specs.Changing.{add_operation}
use Rattle.hs_core_words.specs.Looking.{operation_of, shape_of}
use Rattle.hs_core_words.specs.Operating.{begin_line, busy_line, take_step}
use Rattle.hs_core_words.specs.Seeing.{view_for}
use Rattle.hs_core_words.specs.State.{Core}
use Rattle.hs_effects.specs.Logged.{IsOrderly}
use Rattle.hs_fold.specs.Runs.Facts.{Catalogue as Folded}
use Rattle.hs_journal.specs.Order.{session_of}
use Rattle.hs_standing.proofs.Laws.{Steps}
use Rattle.hs_standing.proofs.MuteLemmas.{Books, Stays, Words, books_of, step_books, step_stays}
use Rattle.hs_model.specs.declared.op.Op.{Op}
use Rattle.hs_model.specs.declared.reply.Reply.{Reply}
use Rattle.hs_ops.specs.declared.step.OpStep.{OpStep}
use Rattle.hs_ops.specs.declared.step.OpStep.TheVariants.{Answer, Compare, Propose, Wait}
use Rattle.hs_ops.specs.Operations.{go_step, new_operation}
use Rattle.hs_ops.specs.Speaking.{judging_shard}
use Rattle.hs_ops.specs.Views.{OpView}
use Rattle.hs_tokens.specs.Seats.{Seats, seat_of}
use Rattle.hs_told.proofs.BusyLemmas.{Busy as IsBusyWith, busy_from}
use Rattle.hs_told.specs.Lines.{busy_entry}
use Rattle.hs_deeds.proofs.OnLemmas.{judged_on, silent_on}
use Rattle.hs_limits.specs.declared.address.Address.{Address}
use Rattle.hs_limits.specs.declared.limits.Limits.{Limits}
use Rattle.hs_model.specs.Deeds.{Busy}
use Rattle.hs_deeds.specs.On.{AreUnanswered, DeedsOn}
use Rattle.hs_model.specs.Hollow.{hollow}

module _ (name : List ℕ → Address) (limits : Limits) (cs : List Folded) (core : Core) (order : IsOrderly name core) (line : ℕ) (o : Op) (asked : IsAsked (store_with cs core.sessions) o) where
  abbrev begun : Core
  begun = record core { progress = record core.progress { last_line = line } }

  abbrev shard : ℕ
  shard = judging_shard (shape_of core).shards core.sessions o

  abbrev w : Waiting
  w = record { operation = new_operation line o; shard = shard; wait = wait.View }

  abbrev v : OpView
  v = record (view_for shard o begun) { busy = busy_line o core }

  abbrev with_it : Core
  with_it = add_operation line w begun

  books : books_of (begin_line line o core) ≡ books_of core
  books = step_books line w (go_step v w.operation) with_it

  -- ---- what it tells

  module _ (laws : Steps) (same : core.limits ≡ limits) (folded : IsFolded core cs) where
    if_busy : (other : ℕ) → busy_with o core ≡ Some other → DeedsOn (AreUnanswered core) limits cs cs core (begin_line line o core)
    if_busy other e = record {
      more = busy_entry line core.moment other o ∷ [];
      journal = ap (λ (b : Books). b.journal) books;
      refused = ap (λ (b : Books). b.refused) books;
      told = is_busy.told;
      deeds = λ before known. (record { printed = refl; done = Busy other refl (known other with_other_waits.0 with_other_waits.1) }, tt);
      left = ap (λ (seats : Seats). hollow (store_with cs seats)) (sym is_busy.sessions);
    }
      where
        with_other : IsBusyWith core o other
        with_other = busy_from core o other (apart core.operations order.once) e

        opened : IsSome (seat_of with_other.name core.sessions)
        opened = by_operation (operation_of other core) refl with_other.by.at
          where
            by_operation : (x : Option Waiting) → operation_of other core ≡ x → option_map (λ (u : Waiting). u.operation.op) x ≡ Some with_other.by.o → IsSome (seat_of with_other.name core.sessions)
            by_operation None at is = absurd (cc is)
            by_operation (Some u) at is =
                (order.pending other u at).opened with_other.name (ap (λ (p : Op). session_of (Some p)) (some_op u.operation.op with_other.by.o is) ∙ with_other.by.same)

        with_other_waits : (u : Waiting) × (operation_of other core ≡ Some u)
        with_other_waits = by_operation (operation_of other core) refl with_other.by.at
          where
            by_operation : (x : Option Waiting) → operation_of other core ≡ x → option_map (λ (u : Waiting). u.operation.op) x ≡ Some with_other.by.o → (u : Waiting) × (operation_of other core ≡ Some u)
            by_operation None at is = absurd (cc is)
            by_operation (Some u) at is = (u, at)

        is_busy : IsBusy core (begin_line line o core) line other o
        is_busy = busy_at_its_line core line other o with_other.name with_other.asks with_other.apart opened with_other.line

    if_waits : (s : OpStep) → first_step line o core ≡ s → ((r : Reply) → s ≡ Answer r → ⊥) → DeedsOn (AreUnanswered core) limits cs cs core (begin_line line o core)
    if_waits s e never =
        silent_on (AreUnanswered core) limits cs cs core (begin_line line o core) (ap (λ (b : Books). b.journal) books) (ap (λ (b : Books). b.refused) books)
        (ap (λ (c : Core). c.entries) begun_is ∙ ap (λ (x : Words). x.entries) stays.words)
        (ap (λ (c : Core). store_with cs c.sessions) begun_is ∙ ap (λ (x : Words). store_with cs x.sessions) stays.words)
      where
        begun_is : begin_line line o core ≡ take_step line w s with_it
        begun_is = ap (λ (t : OpStep). take_step line w t with_it) e

        stays : Stays with_it (take_step line w s with_it) line w
        stays = step_stays line w s with_it never

    pub line_deeds : DeedsOn (AreUnanswered core) limits cs cs core (begin_line line o core)
    line_deeds = by_busy (busy_with o core) refl
      where
        by_step : busy_with o core ≡ None → (s : OpStep) → first_step line o core ≡ s → DeedsOn (AreUnanswered core) limits cs cs core (begin_line line o core)
        by_step free (Answer r) e =
            judged_on (AreUnanswered core) limits cs core (begin_line line o core) line o same (laws.first cs core line o r folded asked free e)
            (ap (λ (b : Books). b.journal) books) (ap (λ (b : Books). b.refused) books)
        by_step free (Propose entry) e = if_waits (Propose entry) e (λ r h. cc h)
        by_step free (Compare number) e = if_waits (Compare number) e (λ r h. cc h)
        by_step free Wait e = if_waits Wait e (λ r h. cc h)

        by_busy : (b : Option ℕ) → busy_with o core ≡ b → DeedsOn (AreUnanswered core) limits cs cs core (begin_line line o core)
        by_busy (Some other) e = if_busy other e
        by_busy None e = by_step e (first_step line o core) refl
