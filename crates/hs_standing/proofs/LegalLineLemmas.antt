-- A client's line: it tells what the judge says, that its session is busy, or nothing, and an operation that waits is its command's.
use Rattle.std.proofs.Common.{◌≡◌, ◌∙◌, sym, ap, subst, ◌⊎◌, inl, inr, ℕ, Bool, true, false, cond, List, [], ◌∷◌, Option, Some, None, IsSome, refl, bytes_eq}
use Rattle.std.proofs.lemmas.Slice.Eq.{bytes_eq-Decides}
use Rattle.std.specs.Option.{option_map}
use Rattle.std.specs.Ordering.{nat_cmp}
use Rattle.hs_answered.proofs.CoreLemmas.{busy_at_its_line}
use Rattle.hs_answered.proofs.EarlyLemmas.{IsEarly, addressed_or_early}
use Rattle.hs_answered.proofs.TellingLemmas.{tells_busy}
use Rattle.hs_answered.specs.Asked.{IsAsked, busy_with, first_step}
use Rattle.hs_answered.specs.Judged.{IsBusy}
use Rattle.hs_answered.specs.Standing.{IsAddressed, IsFolded, store_with}
use Rattle.hs_answered.specs.Telling.{Judging, Tells}
use Rattle.hs_awaiting.specs.declared.wait.Wait.TheVariants as wait
use Rattle.hs_awaiting.specs.declared.waiting.Waiting.{Waiting}
use Rattle.hs_core_words.specs.Changing.{add_operation}
use Rattle.hs_core_words.specs.Looking.{operation_of, shape_of}
use Rattle.hs_core_words.specs.Operating.{begin_line, busy_line, take_step}
use Rattle.hs_core_words.specs.Seeing.{pointers_for, view_for}
use Rattle.hs_core_words.specs.State.{Core}
use Rattle.hs_effects.proofs.BeginLemmas.{added, begin_is, busy_by, busy_refused, unanswered_alone}
use Rattle.hs_effects.proofs.LookLemmas.{found_insert, gone, insert_other, number_exact, once_insert, one_or_other, remove_other}
use Rattle.hs_effects.proofs.OrderlyLemmas.{session_in}
use Rattle.hs_effects.proofs.QuietLemmas.{Quiet, both, carried_quiet}
use Rattle.hs_effects.proofs.SeatLemmas.{seats_other}
use Rattle.hs_effects.specs.Logged.{AreOnce, IsOrderly}
use Rattle.hs_fold.specs.Runs.Facts.{Catalogue as Folded}
use Rattle.hs_journal.specs.Order.{session_of}
use Rattle.hs_standing.proofs.CommandLemmas.{apart_of, commands_step}
use Rattle.hs_standing.proofs.Laws.{Steps}
use Rattle.hs_standing.proofs.MuteLemmas.{Books, Stays, Words, books_of, step_books, step_stays}
use Rattle.hs_standing.proofs.SayLemmas.{commanded_on}
use Rattle.hs_standing.proofs.TellLemmas.{TellsOn, judged_on, silent_on}
use Rattle.hs_standing.specs.Commands.{AreCommanded, IsCommanded, IsLineOf}
use Rattle.hs_limits.specs.declared.address.Held.{Held}
use Rattle.hs_model.specs.declared.deed.Deed.TheVariants as deed
use Rattle.hs_model.specs.declared.op.Op.{Op}
use Rattle.hs_model.specs.declared.op.Op.TheVariants as op
use Rattle.hs_model.specs.declared.reply.Reply.{Reply}
use Rattle.hs_model.specs.Judge.{asked_of}
use Rattle.hs_model.specs.Store.{Store}
use Rattle.hs_ops.specs.Answers.{gained, seated, seats_after}
use Rattle.hs_ops.specs.declared.step.OpStep.{OpStep}
use Rattle.hs_ops.specs.declared.step.OpStep.TheVariants.{Answer, Compare, Propose, Wait}
use Rattle.hs_ops.specs.Going.{judged_in}
use Rattle.hs_ops.specs.Operations.{after_step, go_step, new_operation}
use Rattle.hs_ops.specs.Speaking.{judging_shard}
use Rattle.hs_ops.specs.Views.{OpView}
use Rattle.hs_tokens.specs.Seats.{Seats, seat_of}
use Rattle.hs_told.proofs.BusyLemmas.{Busy, busy_from, unjudged_refusal}
use Rattle.hs_told.proofs.SaidLemmas.{asked_from_said}
use Rattle.hs_told.specs.Apart.{Apart}
use Rattle.hs_told.specs.Lines.{busy_entry}

-- ---- plain facts

pub apart : (es : List (ℕ × Waiting)) → AreOnce es → Apart es
apart [] once = tt
apart (e ∷ es) once = (once.0, apart es once.1)

pub some_op : (a b : Op) → Some a ≡ Some b → a ≡ b
some_op a b e = cc e

pub some_waiting : (a b : Waiting) → Some a ≡ Some b → a ≡ b
some_waiting a b e = cc e

pub some_name : (a b : List ℕ) → Some a ≡ Some b → a ≡ b
some_name a b e = cc e

-- one of no session is busy with none
pub free_of : (core : Core) (o : Op) → session_of (Some o) ≡ None → busy_line o core ≡ None
free_of core (op.Open name) s = absurd (cc s)
free_of core (op.Close name) s = absurd (cc s)
free_of core (op.Write name payload handles address) s = absurd (cc s)
free_of core (op.Read name handle) s = absurd (cc s)
free_of core (op.Look name key) s = absurd (cc s)
free_of core (op.Root name key handle) s = absurd (cc s)
free_of core (op.Drop key) s = refl
free_of core (op.Forget name handle) s = absurd (cc s)
free_of core (op.Name name handle) s = absurd (cc s)
free_of core op.Delete s = refl
free_of core op.Stat s = refl

module _ (by : Judging) (cs : List Folded) (core : Core) (order : IsOrderly by.name core) (commands : AreCommanded by core) (line : ℕ) (o : Op) (its : IsLineOf by core line o) where
  abbrev begun : Core
  begun = record core { progress = record core.progress { last_line = line } }

  abbrev shard : ℕ
  shard = judging_shard (shape_of core).shards core.sessions o

  abbrev w : Waiting
  w = record { operation = new_operation line o; shard = shard; wait = wait.View }

  abbrev v : OpView
  v = record (view_for shard o begun) { busy = busy_line o core }

  abbrev with_it : Core
  with_it = add_operation line w begun

  asked : IsAsked (store_with cs core.sessions) o
  asked = asked_from_said by.name (store_with cs core.sessions) its.says.said o (its.says.same cs)

  books : books_of (begin_line line o core) ≡ books_of core
  books = step_books line w (go_step v w.operation) with_it

  -- ---- what it tells

  module _ (laws : Steps) (limits : core.limits ≡ by.limits) (folded : IsFolded core cs) where
    if_busy : (other : ℕ) → busy_with o core ≡ Some other → TellsOn by cs cs core (begin_line line o core)
    if_busy other e = record {
      more = busy_entry line core.moment other o ∷ [];
      journal = ap (λ (b : Books). b.journal) books;
      refused = ap (λ (b : Books). b.refused) books;
      told = is_busy.told;
      tells =
          subst (λ (s : Store). Tells by (store_with cs core.sessions) (busy_entry line core.moment other o ∷ []) s) (sym (ap (λ (seats : Seats). store_with cs seats) is_busy.sessions))
          (tells_busy by (store_with cs core.sessions) line core.moment other (deed.Refused (asked_of o)));
    }
      where
        with_other : Busy core o other
        with_other = busy_from core o other (apart core.operations order.once) e

        opened : IsSome (seat_of with_other.name core.sessions)
        opened = by_operation (operation_of other core) refl with_other.by.at
          where
            by_operation : (x : Option Waiting) → operation_of other core ≡ x → option_map (λ (u : Waiting). u.operation.op) x ≡ Some with_other.by.o → IsSome (seat_of with_other.name core.sessions)
            by_operation None at is = absurd (cc is)
            by_operation (Some u) at is =
                (order.pending other u at).opened with_other.name (ap (λ (p : Op). session_of (Some p)) (some_op u.operation.op with_other.by.o is) ∙ with_other.by.same)

        is_busy : IsBusy core (begin_line line o core) line other o
        is_busy = busy_at_its_line core line other o with_other.name with_other.asks with_other.apart opened with_other.line

    if_waits : (s : OpStep) → first_step line o core ≡ s → ((r : Reply) → s ≡ Answer r → ⊥) → TellsOn by cs cs core (begin_line line o core)
    if_waits s e never =
        silent_on by cs cs core (begin_line line o core) (ap (λ (b : Books). b.journal) books) (ap (λ (b : Books). b.refused) books)
        (ap (λ (c : Core). c.entries) same ∙ ap (λ (x : Words). x.entries) stays.words)
        (ap (λ (c : Core). store_with cs c.sessions) same ∙ ap (λ (x : Words). store_with cs x.sessions) stays.words)
      where
        same : begin_line line o core ≡ take_step line w s with_it
        same = ap (λ (t : OpStep). take_step line w t with_it) e

        stays : Stays with_it (take_step line w s with_it) line w
        stays = step_stays line w s with_it never

    pub tells_line : TellsOn by cs cs core (begin_line line o core)
    tells_line = by_busy (busy_with o core) refl
      where
        by_step : busy_with o core ≡ None → (s : OpStep) → first_step line o core ≡ s → TellsOn by cs cs core (begin_line line o core)
        by_step free (Answer r) e =
            judged_on by cs core (begin_line line o core) line o limits its.says (laws.first cs core line o r folded asked free e)
            (ap (λ (b : Books). b.journal) books) (ap (λ (b : Books). b.refused) books)
        by_step free (Propose entry) e = if_waits (Propose entry) e (λ r h. cc h)
        by_step free (Compare number) e = if_waits (Compare number) e (λ r h. cc h)
        by_step free Wait e = if_waits Wait e (λ r h. cc h)

        by_busy : (b : Option ℕ) → busy_with o core ≡ b → TellsOn by cs cs core (begin_line line o core)
        by_busy (Some other) e = if_busy other e
        by_busy None e = by_step e (first_step line o core) refl

  -- ---- what waits

  added_once : AreOnce with_it.operations
  added_once = once_insert line core.operations w its.fresh.new order.once

  -- where it is answered the others are as they were
  answered : (r : Reply) → judged_in v o ≡ Some r → AreCommanded by (take_step line w (Answer r) with_it)
  unfolding seats_after
  answered r j l x e = by_line (one_or_other l line)
    where
      gains : List Held
      gains = gained (view_for shard o with_it) (pointers_for shard o with_it) o

      -- the session of one that waits has no other, or the answer is a refusal
      seats : (m : ℕ) (u : Waiting) (q : List ℕ) → operation_of m core ≡ Some u → session_in u ≡ Some q → seat_of q (take_step line w (Answer r) with_it).sessions ≡ seat_of q core.sessions
      seats m u q at s = by_session (session_of (Some o)) refl
        where
          mine : session_of (Some o) ≡ Some q → (b : Option ℕ) → busy_line o core ≡ b → seat_of q (take_step line w (Answer r) with_it).sessions ≡ seat_of q core.sessions
          mine t None f = absurd (busy_by core m u o q at s t f)
          mine t (Some k) f = ap (λ (b : Bool). seat_of q (cond b (seated gains o core.sessions) core.sessions)) (busy_refused v o q k t ((order.pending m u at).opened q s) f r j)

          by_name : (n : List ℕ) → session_of (Some o) ≡ Some n → (b : Bool) → bytes_eq n q ≡ b → seat_of q (take_step line w (Answer r) with_it).sessions ≡ seat_of q core.sessions
          by_name n t true f = mine (t ∙ ap (λ (k : List ℕ). Some k) ((bytes_eq-Decides n q).0 f)) (busy_line o core) refl
          by_name n t false f = seats_other gains o r core.sessions q (λ h. cc (sym f ∙ (bytes_eq-Decides n q).1 (some_name n q (sym t ∙ h))))

          by_session : (z : Option (List ℕ)) → session_of (Some o) ≡ z → seat_of q (take_step line w (Answer r) with_it).sessions ≡ seat_of q core.sessions
          by_session None t = seats_other gains o r core.sessions q (λ h. cc (sym t ∙ h))
          by_session (Some n) t = by_name n t (bytes_eq n q) refl

      by_line : (l ≡ line) ⊎ (l ≡ line → ⊥) → IsCommanded by (take_step line w (Answer r) with_it).sessions l x.operation.op
      by_line (inl is) = absurd (none (sym (gone line with_it.operations added_once) ∙ subst (λ (k : ℕ). operation_of k (take_step line w (Answer r) with_it) ≡ Some x) is e))
        where
          none : None ≡ Some x → ⊥
          none h = cc h
      by_line (inr d) = commanded_on by core.sessions (take_step line w (Answer r) with_it).sessions l x.operation.op (λ q s. seats l x q old s) (commands l x old)
        where
          old : operation_of l core ≡ Some x
          old = sym (remove_other nat_cmp number_exact with_it.operations line l d ∙ insert_other nat_cmp number_exact core.operations line l w d) ∙ e

  -- where it is not, it has the address of its block
  module _ (j : judged_in v o ≡ None) where
    free : busy_line o core ≡ None
    free = by_session (session_of (Some o)) refl
      where
        by_session : (z : Option (List ℕ)) → session_of (Some o) ≡ z → busy_line o core ≡ None
        by_session None s = free_of core o s
        by_session (Some q) s = (unanswered_alone v o q j s).free

    has_address : IsAddressed core.sessions o
    has_address = by_early (addressed_or_early core.limits (store_with cs core.sessions) v refl free o asked)
      where
        by_early : IsAddressed core.sessions o ⊎ IsEarly core.limits (store_with cs core.sessions) v refl free o → IsAddressed core.sessions o
        by_early (inl h) = h
        by_early (inr early) = absurd (cc (subst (λ (x : Option Reply). IsSome x) (sym early.alike ∙ (unjudged_refusal v o j).0) early.some))

    with_commands : AreCommanded by with_it
    with_commands l x e = by_line (one_or_other l line)
      where
        by_line : (l ≡ line) ⊎ (l ≡ line → ⊥) → IsCommanded by core.sessions l x.operation.op
        by_line (inl is) = subst (λ (k : ℕ). IsCommanded by core.sessions k x.operation.op) (sym is) (subst (λ (p : Op). IsCommanded by core.sessions line p) op_is (record { says = its.says; has = has_address }))
          where
            op_is : o ≡ x.operation.op
            op_is = ap (λ (u : Waiting). u.operation.op) (some_waiting w x (sym (found_insert line core.operations w) ∙ subst (λ (k : ℕ). operation_of k with_it ≡ Some x) is e))
        by_line (inr d) = commands l x (sym (insert_other nat_cmp number_exact core.operations line l w d) ∙ e)

    waits : AreCommanded by (begin_line line o core)
    waits =
        commands_step by with_it (apart_of by.name with_it (added by.name line o core order its.fresh.new its.fresh.counted its.fresh.called j)) with_commands line w (found_insert line core.operations w) (go_step v w.operation)

  pub commands_line : AreCommanded by (begin_line line o core)
  commands_line = by_judge (judged_in v o) refl
    where
      by_judge : (x : Option Reply) → judged_in v o ≡ x → AreCommanded by (begin_line line o core)
      by_judge (Some r) j = subst (λ (s : OpStep). AreCommanded by (take_step line w s with_it)) (sym (begin_is v line o r j)) (answered r j)
      by_judge None j = waits j

-- ---- catalogues and members

pub begun_quiet : (line : ℕ) (o : Op) (core : Core) → Quiet core (begin_line line o core)
begun_quiet line o core = both core at_line (begin_line line o core) (record { catalogues = refl; members = refl; limits = refl; moment = refl })
    (carried_quiet line (record asking { operation = after_step first asking.operation }) first at_line)
  where
    asking : Waiting
    asking = record { operation = new_operation line o; shard = judging_shard (shape_of core).shards core.sessions o; wait = wait.View }

    at_line : Core
    at_line = add_operation line asking (record core { progress = record core.progress { last_line = line } })

    first : OpStep
    first = go_step (record (view_for (judging_shard (shape_of core).shards core.sessions o) o (record core { progress = record core.progress { last_line = line } })) { busy = busy_line o core }) asking.operation
