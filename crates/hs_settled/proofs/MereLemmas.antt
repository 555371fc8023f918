-- While an event is done, no line that is no client's tells of a sweep or that a run is done.
use Rattle.std.proofs.Common.{◌≡◌, ◌∙◌, sym, subst, inl, inr, ℕ, ◌++◌, List, [], ◌∷◌, Option, Some, None, IsSome, refl}
use Rattle.std.specs.List.{AllByRecursion}
use Rattle.hs_answered.proofs.RefusalLemmas.{IsNotBusy}
use Rattle.hs_awaiting.specs.declared.waiting.Waiting.{Waiting}
use Rattle.hs_awaiting.specs.Views.{restarted}
use Rattle.hs_core_words.specs.Changing.{note, put_operation}
use Rattle.hs_core_words.specs.declared.event.Event.{Event}
use Rattle.hs_core_words.specs.declared.event.Event.TheVariants as event
use Rattle.hs_core_words.specs.Looking.{operation_of}
use Rattle.hs_core_words.specs.Operating.{answer}
use Rattle.hs_core_words.specs.State.{Core}
use Rattle.hs_core_words.specs.Step.{do_event, line_of}
use Rattle.hs_core_words.specs.Views.{restart_at}
use Rattle.hs_settled.proofs.ReplyLemmas.{IsNotDone, refusal_undone}
use Rattle.hs_settled.proofs.SaidLemmas.{IsPlain, Says, line_says, noted_told}
use Rattle.hs_settled.specs.Deletion.{IsMereRefusal}
use Rattle.hs_journal.specs.declared.entry.JournalEntry.{JournalEntry}
use Rattle.hs_journal.specs.declared.entry.Who.{Who}
use Rattle.hs_journal.specs.declared.entry.Who.TheVariants as who
use Rattle.hs_journal.specs.Events.{client_op}
use Rattle.hs_standing.specs.Telling.{told_so_far}
use Rattle.hs_model.specs.declared.command.Command.{Command}
use Rattle.hs_model.specs.declared.deed.Deed.{Deed}
use Rattle.hs_model.specs.declared.deed.Deed.TheVariants as deed
use Rattle.hs_model.specs.declared.op.Op.{Op}
use Rattle.hs_model.specs.declared.reply.Reply.{Reply}
use Rattle.hs_settled.proofs.NotingLemmas.{OfEach, all_append, all_weaker, lines_map, lines_remove, lines_set}
use Rattle.hs_ops.specs.Answers.{deed_of}
use Rattle.hs_told.proofs.OrderLemmas.{event_stays, refused_does}
use Rattle.hs_told.proofs.OrderLemmas.{IsOther as IsNoLine}
use Rattle.hs_told.proofs.StirLemmas.{Stirs}
use Rattle.hs_told.specs.InTurn.{refusal_in}
use Rattle.hs_told.specs.Part.{Part, part_of}

-- ---- a client's line

some_is_none : (o : Option Op) → IsSome o → o ≡ None → ⊥
some_is_none None some none = cc some
some_is_none (Some said) some none = cc none

module _ (commands : ℕ → Option Command) where
  -- what is told of one tells of no other
  of_client : (e : JournalEntry) (line : ℕ) → e.who ≡ who.Line line → IsSome (client_op (commands line)) → IsMereRefusal commands e
  of_client e line is client n of nobody = absurd (some_is_none (client_op (commands n)) (subst (λ (k : ℕ). IsSome (client_op (commands k))) (same (sym is ∙ of)) client) nobody)
    where
      same : who.Line line ≡ who.Line n → line ≡ n
      same h = cc h

  pub plain_mere : (e : JournalEntry) → IsPlain commands e → IsMereRefusal commands e
  plain_mere e (inl spoken) = of_client e spoken.line spoken.of spoken.client
  plain_mere e (inr other) = λ n of nobody. other

  pub says_mere : (a b : Core) → Says (IsPlain commands) a b → AllByRecursion (IsMereRefusal commands) (told_so_far a) → AllByRecursion (IsMereRefusal commands) (told_so_far b)
  says_mere a b says mere =
      subst (λ (es : List JournalEntry). AllByRecursion (IsMereRefusal commands) es) (sym says.told)
      (all_append (IsMereRefusal commands) (told_so_far a) says.more mere (all_weaker (IsPlain commands) (IsMereRefusal commands) plain_mere says.more says.each))

  -- ---- any other event

  -- each operation that waits is of a client's line
  abbrev pub OfClients : List (ℕ × Waiting) → Type 0
  OfClients operations = OfEach (λ n. IsSome (client_op (commands n))) operations

-- and no line that is no client's has told of a sweep or of the end of a run
record Mere (commands : ℕ → Option Command) (p : Part) : Type 0 where
  pub asking : OfEach (λ n. IsSome (client_op (commands n))) p.operations
  pub told : AllByRecursion (IsMereRefusal commands) ((p.journal ++ p.refused) ++ p.entries)

module _ (commands : ℕ → Option Command) where
  -- an entry more
  mere_note : (e : JournalEntry) (c : Core) → told_so_far (record c { entries = c.entries ++ e ∷ [] }) ≡ told_so_far c ++ e ∷ [] → IsMereRefusal commands e → AllByRecursion (IsMereRefusal commands) (told_so_far c)
      → AllByRecursion (IsMereRefusal commands) (told_so_far (record c { entries = c.entries ++ e ∷ [] }))
  mere_note e c told its mere = subst (λ (es : List JournalEntry). AllByRecursion (IsMereRefusal commands) es) (sym told) (all_append (IsMereRefusal commands) (told_so_far c) (e ∷ []) mere (its, tt))

  waits_on : (line : ℕ) (w was : Waiting) (c : Core) → operation_of line c ≡ Some was → w.operation.op ≡ was.operation.op → Mere commands (part_of c) → Mere commands (part_of (put_operation line w c))
  waits_on line w was c at same p = record { asking = lines_set (λ n. IsSome (client_op (commands n))) c.operations p.asking line w was at; told = p.told }

  answers_on : (line : ℕ) (w was : Waiting) (told : Reply) (c : Core) → operation_of line c ≡ Some was → w.operation.op ≡ was.operation.op → IsNotBusy told → Mere commands (part_of c) → Mere commands (part_of (answer line w told c))
  answers_on line w was told c at same calm p = record {
    asking = lines_remove (λ n. IsSome (client_op (commands n))) c.operations p.asking line was at;
    told = mere_note (record { who = who.Line line; moment = c.moment; deed = deed_of c.sessions w.operation.op told; reply = told }) c
        (noted_told (who.Line line) (deed_of c.sessions w.operation.op told) told c)
        (of_client commands (record { who = who.Line line; moment = c.moment; deed = deed_of c.sessions w.operation.op told; reply = told }) line refl (p.asking line was at)) p.told;
  }

  restarts_on : (shard last : ℕ) (c : Core) → Mere commands (part_of c) → Mere commands (part_of (restart_at shard last c))
  restarts_on shard last c p = record { asking = lines_map (λ n. IsSome (client_op (commands n))) c.operations p.asking (restarted shard last); told = p.told }

  notes_on : (of : Who) (did : Deed) (told : Reply) (c : Core) → ((n : ℕ) → of ≡ who.Line n → ⊥) → Mere commands (part_of c) → Mere commands (part_of (note of did told c))
  notes_on of did told c nobody p = record {
    asking = p.asking;
    told = mere_note (record { who = of; moment = c.moment; deed = did; reply = told }) c (noted_told of did told c) (λ n is none. absurd (nobody n is)) p.told;
  }

  stirs_mere : Stirs (λ (c : Core). Mere commands (part_of c))
  stirs_mere = record {
    beside = λ c d same p. subst (λ (x : Part). Mere commands x) (sym same) p;
    waits = waits_on;
    answers = answers_on;
    restarts = restarts_on;
    notes = notes_on;
  }

  module _ (e : Event) (other : IsNoLine e) (c : Core) (asking : OfClients commands c.operations) (mere : AllByRecursion (IsMereRefusal commands) (told_so_far c)) where
    -- it is refused
    refused_mere : (r : Reply) → refusal_in e c ≡ Some r → AllByRecursion (IsMereRefusal commands) (told_so_far (do_event e c))
    refused_mere r is =
        subst (λ (x : Core). AllByRecursion (IsMereRefusal commands) (told_so_far x)) (sym (refused_does e c r is))
        (mere_note (record { who = who.Line (line_of e); moment = c.moment; deed = deed.Nothing; reply = r }) c (noted_told (who.Line (line_of e)) deed.Nothing r c)
        (λ n of none. record { no_sweep = λ shard h. cc h; no_done = λ epoch h. subst (λ (q : Reply). IsNotDone q) h (refusal_undone e c r is) }) mere)

    -- or not
    other_mere : AllByRecursion (IsMereRefusal commands) (told_so_far (do_event e c))
    other_mere = by_refusal (refusal_in e c) refl
      where
        by_refusal : (x : Option Reply) → refusal_in e c ≡ x → AllByRecursion (IsMereRefusal commands) (told_so_far (do_event e c))
        by_refusal (Some r) is = refused_mere r is
        by_refusal None free =
            let there : Mere commands (part_of (do_event e c)) = event_stays stirs_mere e c other free (record { asking = asking; told = mere }) in
            there.told

  -- the line of an event that is a client's
  abbrev pub HasClient : Event → Type 0
  HasClient (event.Line line o) = IsSome (client_op (commands line))
  HasClient other = Unit {0}

  pub does_mere : (e : Event) (c : Core) → HasClient e → OfClients commands c.operations → AllByRecursion (IsMereRefusal commands) (told_so_far c) → AllByRecursion (IsMereRefusal commands) (told_so_far (do_event e c))
  does_mere (event.Line line o) c client asking mere = says_mere commands c (do_event (event.Line line o) c) (line_says commands line o c client) mere
  does_mere (event.Report peer d) c client asking mere = other_mere (event.Report peer d) tt c asking mere
  does_mere (event.Turn line peer) c client asking mere = other_mere (event.Turn line peer) tt c asking mere
  does_mere (event.Deliver line number) c client asking mere = other_mere (event.Deliver line number) tt c asking mere
  does_mere (event.Lose line number) c client asking mere = other_mere (event.Lose line number) tt c asking mere
  does_mere (event.Repeat line number) c client asking mere = other_mere (event.Repeat line number) tt c asking mere
  does_mere (event.Nudge line peer) c client asking mere = other_mere (event.Nudge line peer) tt c asking mere
  does_mere (event.Fail line peer) c client asking mere = other_mere (event.Fail line peer) tt c asking mere
  does_mere (event.Start line peer) c client asking mere = other_mere (event.Start line peer) tt c asking mere
