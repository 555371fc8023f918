-- An operation that goes on, or is told bytes: it tells what the judge says, or nothing.
use Rattle.std.proofs.Common.{◌≡◌, ◌∙◌, sym, ap, subst, ◌⊎◌, inl, inr, ℕ, List, Option, Some, None, refl}
use Rattle.std.specs.Option.{option_map_or, option_or}
use Rattle.hs_answered.specs.Judged.{IsJudged}
use Rattle.hs_answered.specs.Standing.{IsFolded, store_with}
use Rattle.hs_answered.specs.Telling.{Judging}
use Rattle.hs_awaiting.specs.declared.waiting.Waiting.{Waiting}
use Rattle.hs_awaiting.specs.Words.{change_with}
use Rattle.hs_core_words.specs.Effects.{tell_operation}
use Rattle.hs_core_words.specs.Looking.{operation_of, shape_of}
use Rattle.hs_core_words.specs.Operating.{go_on_with, resume, take_step}
use Rattle.hs_core_words.specs.Seeing.{pointers_for, view_for}
use Rattle.hs_core_words.specs.State.{Core}
use Rattle.hs_desk.specs.declared.what.What.{What}
use Rattle.hs_desk.specs.declared.what.What.TheVariants as what
use Rattle.hs_effects.specs.Logged.{IsOrderly}
use Rattle.hs_fold.specs.Runs.Facts.{Catalogue as Folded}
use Rattle.hs_standing.proofs.Laws.{Steps}
use Rattle.hs_standing.proofs.MuteLemmas.{Books, Stays, Words, step_books, step_stays}
use Rattle.hs_standing.proofs.TellLemmas.{TellsOn, judged_on, same_on, silent_on}
use Rattle.hs_standing.specs.Bytes.{AreOfBlock}
use Rattle.hs_standing.specs.Commands.{AreCommanded, IsCommanded}
use Rattle.hs_limits.specs.declared.address.Address.{Address}
use Rattle.hs_model.specs.declared.op.Op.{Op}
use Rattle.hs_model.specs.declared.op.Op.TheVariants as op
use Rattle.hs_model.specs.declared.reply.Reply.{Reply}
use Rattle.hs_ops.specs.declared.operation.Stage.TheVariants as stage
use Rattle.hs_ops.specs.declared.step.OpStep.{OpStep}
use Rattle.hs_ops.specs.declared.step.OpStep.TheVariants.{Answer, Compare, Propose, Wait}
use Rattle.hs_ops.specs.Going.{at_once, compared, go, judged_in, on_bytes, on_effect}
use Rattle.hs_ops.specs.Operations.{after_step, bytes_step, effect_step, go_step, wanted_number}
use Rattle.hs_ops.specs.Refusals.{refusal_of}
use Rattle.hs_ops.specs.Speaking.{judging_shard}
use Rattle.hs_ops.specs.Views.{OpView}

-- ---- plain facts

pub same_answer : (q r : Reply) → Answer q ≡ Answer r → q ≡ r
same_answer q r e = cc e

pub refused_judged : (v : OpView) (o : Op) (r : Reply) → refusal_of v o ≡ Some r → judged_in v o ≡ Some r
unfolding judged_in
refused_judged v o r e = ap (λ (x : Option Reply). option_or x (at_once v o)) e

-- an effect by which nothing was done: the operation goes on, or is refused by what it sees
abbrev pub IsQuiet : What → Type 0
IsQuiet what.Nothing = Unit {0}
IsQuiet (what.Viewed view) = ⊥
IsQuiet what.Stored = ⊥
IsQuiet what.Marked = ⊥
IsQuiet what.Again = Unit {0}
IsQuiet what.Rooted = ⊥
IsQuiet what.Dropped = ⊥
IsQuiet (what.Entered epoch) = ⊥
IsQuiet what.Refused = Unit {0}

pub quiet_answer : (v : OpView) (line : ℕ) (did : What) (o : Op) (r : Reply) → IsQuiet did → on_effect v line did o ≡ Answer r → (refusal_of v o ≡ Some r) ⊎ (go v line o ≡ Answer r)
unfolding on_effect
quiet_answer v line what.Nothing o r quiet e = inr e
quiet_answer v line (what.Viewed view) o r quiet e = absurd quiet
quiet_answer v line what.Stored o r quiet e = absurd quiet
quiet_answer v line what.Marked o r quiet e = absurd quiet
quiet_answer v line what.Again o r quiet e = inr e
quiet_answer v line what.Rooted o r quiet e = absurd quiet
quiet_answer v line what.Dropped o r quiet e = absurd quiet
quiet_answer v line (what.Entered epoch) o r quiet e = absurd quiet
quiet_answer v line what.Refused o r quiet e = by_refusal (refusal_of v o) refl e
  where
    by_refusal : (x : Option Reply) → refusal_of v o ≡ x → option_map_or Answer x (go v line o) ≡ Answer r → (refusal_of v o ≡ Some r) ⊎ (go v line o ≡ Answer r)
    by_refusal None f h = inr h
    by_refusal (Some q) f h = inl (f ∙ ap (λ (x : Reply). Some x) (same_answer q r h))

-- of an operation that compares nothing bytes bring a refusal alone
bytes_refuse : (v : OpView) (line number : ℕ) (bytes : Option (List ℕ)) (pointers : List Address) (o : Op) (r : Reply) → compared v line (record { number = number; bytes = bytes; pointers = pointers }) o ≡ Wait → on_bytes v line (record { number = number; bytes = bytes; pointers = pointers }) o ≡ Answer r → refusal_of v o ≡ Some r
unfolding on_bytes
bytes_refuse v line number bytes pointers o r waits e = by_refusal (refusal_of v o) refl e
  where
    never : Wait ≡ Answer r → ⊥
    never h = cc h

    by_refusal : (x : Option Reply) → refusal_of v o ≡ x → option_map_or Answer x (compared v line (record { number = number; bytes = bytes; pointers = pointers }) o) ≡ Answer r → refusal_of v o ≡ Some r
    by_refusal None f h = absurd (never (sym waits ∙ h))
    by_refusal (Some q) f h = f ∙ ap (λ (x : Reply). Some x) (same_answer q r h)

-- where an operation is refused by what it sees, bytes bring that refusal
bytes_refused : (v : OpView) (line number : ℕ) (bytes : Option (List ℕ)) (pointers : List Address) (o : Op) (q r : Reply) → refusal_of v o ≡ Some q → on_bytes v line (record { number = number; bytes = bytes; pointers = pointers }) o ≡ Answer r → q ≡ r
unfolding on_bytes
bytes_refused v line number bytes pointers o q r stops e = same_answer q r (sym (ap (λ (x : Option Reply). option_map_or Answer x (compared v line (record { number = number; bytes = bytes; pointers = pointers }) o)) stops) ∙ e)

-- what compares no bytes
abbrev ComparesNone : Op → Type 0
ComparesNone o = (v : OpView) (line number : ℕ) (bytes : Option (List ℕ)) (pointers : List Address) → compared v line (record { number = number; bytes = bytes; pointers = pointers }) o ≡ Wait

-- ---- one step

module _ (by : Judging) (cs : List Folded) (core : Core) (limits : core.limits ≡ by.limits) (line : ℕ) (w : Waiting) (its : IsCommanded by core.sessions line w.operation.op) where
  pub step_tells : (s : OpStep) → ((r : Reply) → s ≡ Answer r → IsJudged cs core (take_step line w (Answer r) core) line w.operation.op) → TellsOn by cs cs core (take_step line w s core)
  step_tells s judges = by_step s refl
    where
      quietly : (t : OpStep) → ((r : Reply) → t ≡ Answer r → ⊥) → TellsOn by cs cs core (take_step line w t core)
      quietly t never =
          let stays : Stays core (take_step line w t core) line w = step_stays line w t core never in
          silent_on by cs cs core (take_step line w t core) (ap (λ (b : Books). b.journal) (step_books line w t core)) (ap (λ (b : Books). b.refused) (step_books line w t core))
          (ap (λ (x : Words). x.entries) stays.words) (ap (λ (x : Words). store_with cs x.sessions) stays.words)

      by_step : (t : OpStep) → s ≡ t → TellsOn by cs cs core (take_step line w t core)
      by_step (Answer r) e = judged_on by cs core (take_step line w (Answer r) core) line w.operation.op limits its.says (judges r e) refl refl
      by_step (Propose entry) e = quietly (Propose entry) (λ r h. cc h)
      by_step (Compare number) e = quietly (Compare number) (λ r h. cc h)
      by_step Wait e = quietly Wait (λ r h. cc h)

-- ---- an operation goes on

module _ (laws : Steps) (by : Judging) (cs : List Folded) (core : Core) (limits : core.limits ≡ by.limits) (folded : IsFolded core cs) where
  pub tells_goes : IsOrderly by.name core → AreCommanded by core → (line : ℕ) → TellsOn by cs cs core (resume line core)
  tells_goes order commands line = by_operation (operation_of line core) refl
    where
      by_operation : (x : Option Waiting) → operation_of line core ≡ x → TellsOn by cs cs core (change_with x (λ w. take_step line w (go_step (view_for w.shard w.operation.op core) w.operation)) core)
      by_operation None e = same_on by cs core
      by_operation (Some w) e =
          step_tells by cs core limits line w (commands line w e) (go_step (view_for w.shard w.operation.op core) w.operation)
          (λ r s. laws.later cs core line w r folded (commands line w e).has (order.pending line w e).judges s)

  module _ (line : ℕ) (w : Waiting) (at : operation_of line core ≡ Some w) (its : IsCommanded by core.sessions line w.operation.op) (place : w.shard ≡ judging_shard (shape_of core).shards core.sessions w.operation.op) where
    abbrev v : OpView
    v = view_for w.shard w.operation.op core

    -- it is refused by what it sees
    refused : (r : Reply) → refusal_of v w.operation.op ≡ Some r → IsJudged cs core (take_step line w (Answer r) core) line w.operation.op
    refused r e = laws.answered cs core line (record w { operation = after_step (Answer r) w.operation }) r folded its.has place (refused_judged v w.operation.op r e)

    -- it goes on anew
    anew : (r : Reply) → go v w.operation.line w.operation.op ≡ Answer r → IsJudged cs core (take_step line w (Answer r) core) line w.operation.op
    anew r e = laws.later cs core line (record w { operation = record w.operation { stage = stage.Waiting } }) r folded its.has place e

    -- it hears of an entry by which nothing was done
    pub tells_quiet : (did : What) → IsQuiet did → TellsOn by cs cs core (tell_operation line did core)
    tells_quiet did quiet =
        subst (λ (x : Option Waiting). TellsOn by cs cs core (change_with x (λ u. take_step line u (effect_step (view_for u.shard u.operation.op core) did u.operation)) core)) (sym at)
        (step_tells by cs core limits line w its (effect_step v did w.operation) (λ r s. by_answer r (quiet_answer v w.operation.line did w.operation.op r quiet s)))
      where
        by_answer : (r : Reply) → (refusal_of v w.operation.op ≡ Some r) ⊎ (go v w.operation.line w.operation.op ≡ Answer r) → IsJudged cs core (take_step line w (Answer r) core) line w.operation.op
        by_answer r (inl e) = refused r e
        by_answer r (inr e) = anew r e

    -- ---- it is told bytes

    others : (bytes : Option (List ℕ)) (o : Op) (r : Reply) → w.operation.op ≡ o → ComparesNone o → bytes_step v bytes (pointers_for w.shard w.operation.op core) w.operation ≡ Answer r → IsJudged cs core (take_step line w (Answer r) core) line w.operation.op
    others bytes o r is none e =
        refused r (bytes_refuse v w.operation.line (wanted_number w.operation.stage) bytes (pointers_for w.shard w.operation.op core) w.operation.op r
        (ap (λ (p : Op). compared v w.operation.line (record { number = wanted_number w.operation.stage; bytes = bytes; pointers = pointers_for w.shard w.operation.op core }) p) is
        ∙ none v w.operation.line (wanted_number w.operation.stage) bytes (pointers_for w.shard w.operation.op core)) e)

    -- a read whose bytes are its block's, where it is not refused
    read_judged : (bytes : Option (List ℕ)) (name : List ℕ) (handle : ℕ) (r : Reply) → w.operation.op ≡ op.Read name handle → AreOfBlock (store_with cs core.sessions) core bytes w (op.Read name handle)
        → bytes_step v bytes (pointers_for w.shard w.operation.op core) w.operation ≡ Answer r → IsJudged cs core (take_step line w (Answer r) core) line w.operation.op
    read_judged bytes name handle r is true_bytes e = by_refusal (refusal_of v w.operation.op) refl
      where
        by_refusal : (x : Option Reply) → refusal_of v w.operation.op ≡ x → IsJudged cs core (take_step line w (Answer r) core) line w.operation.op
        by_refusal None free =
            laws.read cs core line bytes w name handle r folded its.has place is
            (true_bytes (ap (λ (o : Op). refusal_of (view_for w.shard o core) o) (sym is) ∙ free)) e
        by_refusal (Some q) stops =
            refused r (stops ∙ ap (λ (x : Reply). Some x) (bytes_refused v w.operation.line (wanted_number w.operation.stage) bytes (pointers_for w.shard w.operation.op core) w.operation.op q r stops e))

    told_judged : (bytes : Option (List ℕ)) (o : Op) (r : Reply) → w.operation.op ≡ o → AreOfBlock (store_with cs core.sessions) core bytes w o → bytes_step v bytes (pointers_for w.shard w.operation.op core) w.operation ≡ Answer r
        → IsJudged cs core (take_step line w (Answer r) core) line w.operation.op
    unfolding compared
    told_judged bytes (op.Read name handle) r is true_bytes e = read_judged bytes name handle r is true_bytes e
    told_judged bytes (op.Write name payload handles address) r is true_bytes e = laws.write cs core line bytes w name payload handles address r folded its.has place is true_bytes e
    told_judged bytes (op.Open name) r is true_bytes e = others bytes (op.Open name) r is (λ u l n bs ps. refl) e
    told_judged bytes (op.Close name) r is true_bytes e = others bytes (op.Close name) r is (λ u l n bs ps. refl) e
    told_judged bytes (op.Look name key) r is true_bytes e = others bytes (op.Look name key) r is (λ u l n bs ps. refl) e
    told_judged bytes (op.Root name key handle) r is true_bytes e = others bytes (op.Root name key handle) r is (λ u l n bs ps. refl) e
    told_judged bytes (op.Drop key) r is true_bytes e = others bytes (op.Drop key) r is (λ u l n bs ps. refl) e
    told_judged bytes (op.Forget name handle) r is true_bytes e = others bytes (op.Forget name handle) r is (λ u l n bs ps. refl) e
    told_judged bytes (op.Name name handle) r is true_bytes e = others bytes (op.Name name handle) r is (λ u l n bs ps. refl) e
    told_judged bytes op.Delete r is true_bytes e = others bytes op.Delete r is (λ u l n bs ps. refl) e
    told_judged bytes op.Stat r is true_bytes e = others bytes op.Stat r is (λ u l n bs ps. refl) e

    pub tells_told : (bytes : Option (List ℕ)) → AreOfBlock (store_with cs core.sessions) core bytes w w.operation.op
        → TellsOn by cs cs core (go_on_with (λ u o. bytes_step u bytes (pointers_for w.shard w.operation.op core) o) line core)
    tells_told bytes true_bytes =
        subst (λ (x : Option Waiting). TellsOn by cs cs core (change_with x (λ y. take_step line y (bytes_step (view_for y.shard y.operation.op core) bytes (pointers_for w.shard w.operation.op core) y.operation)) core)) (sym at)
        (step_tells by cs core limits line w its (bytes_step v bytes (pointers_for w.shard w.operation.op core) w.operation) (λ r s. told_judged bytes w.operation.op r refl true_bytes s))
