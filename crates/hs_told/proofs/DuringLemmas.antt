-- The order stays within an event, where operations wait, are answered or start again.
use Rattle.std.proofs.Common.{◌≡◌, inl, inr, ℕ, ◌++◌, Bool, true, false, List, [], ◌∷◌, Option, Some, None, IsSome, map, refl, sym, ap, subst, ◌∙◌}
use Rattle.std.proofs.lemmas.Bool.{cases_eq}
use Rattle.std.proofs.lemmas.List.{append_assoc}
use Rattle.std.specs.BTreeMap.{is_at}
use Rattle.std.specs.Map.{lookup, remove_entry, set_value}
use Rattle.std.specs.Option.{option_map}
use Rattle.std.specs.Ordering.{nat_cmp}
use Rattle.std.specs.Prelude.{if◌then◌else◌}
use Rattle.hs_answered.proofs.RefusalLemmas.{IsNotBusy}
use Rattle.hs_awaiting.specs.declared.wait.Wait.TheVariants as wait
use Rattle.hs_awaiting.specs.declared.waiting.Waiting.{Waiting}
use Rattle.hs_awaiting.specs.Views.{restarted}
use Rattle.hs_core_words.specs.Changing.{note, put_operation}
use Rattle.hs_core_words.specs.Looking.{operation_of}
use Rattle.hs_core_words.specs.Operating.{answer}
use Rattle.hs_core_words.specs.Seeing.{pointers_for, view_for}
use Rattle.hs_core_words.specs.State.{Core}
use Rattle.hs_core_words.specs.Views.{restart_at}
use Rattle.hs_journal.specs.declared.entry.JournalEntry.{JournalEntry}
use Rattle.hs_journal.specs.declared.entry.Who.{Who}
use Rattle.hs_journal.specs.declared.entry.Who.TheVariants as who
use Rattle.hs_journal.specs.Order.{IsOrdered, IsPrompt, session_of}
use Rattle.hs_limits.specs.declared.address.Held.{Held}
use Rattle.hs_model.specs.declared.command.Command.{Command}
use Rattle.hs_model.specs.declared.deed.Deed.{Deed}
use Rattle.hs_model.specs.declared.op.Op.{Op}
use Rattle.hs_model.specs.declared.op.Op.TheVariants as op
use Rattle.hs_model.specs.declared.reply.Reply.{Reply}
use Rattle.hs_ops.specs.Answers.{deed_of, gained}
use Rattle.hs_tokens.specs.Seats.{seat_of}
use Rattle.hs_told.proofs.OperationLemmas.{map_apart, map_at, remove_apart, remove_here, remove_other, set_apart, set_here, set_other}
use Rattle.hs_told.proofs.SeatLemmas.{Closes, seats_stay}
use Rattle.hs_told.proofs.StirLemmas.{Stirs}
use Rattle.hs_told.proofs.TurnLemmas.{turns_answered, turns_noted, turns_same}
use Rattle.hs_told.specs.Apart.{Apart}
use Rattle.hs_told.specs.Part.{Part, asking, part_of}
use Rattle.hs_told.specs.Turns.{Turns}

-- within an event of a line
pub record During (commands : ℕ → Option Command) (bound line : ℕ) (p : Part) : Type 0 where
  pub turns : Turns commands bound p.moment (p.journal ++ p.entries) (asking p.operations)
  pub journal : IsOrdered commands p.journal
  pub apart : Apart p.operations
  pub opened : (n : ℕ) (o : Op) (name : List ℕ) → asking p.operations n ≡ Some o → session_of (Some o) ≡ Some name → IsSome (seat_of name p.sessions)
  pub clean : p.refused ≡ []
  pub at : p.event_line ≡ line

abbrev pub op_of : Option Waiting → Option Op
op_of w = option_map (λ (x : Waiting). x.operation.op) w

closes_prompt : (o : Op) (q : List ℕ) → Closes o q → IsPrompt (Some o)
closes_prompt (op.Open name) q h = tt
closes_prompt (op.Close name) q h = tt
closes_prompt (op.Write name payload handles address) q h = absurd h
closes_prompt (op.Read name handle) q h = absurd h
closes_prompt (op.Look name key) q h = absurd h
closes_prompt (op.Root name key handle) q h = absurd h
closes_prompt (op.Drop key) q h = absurd h
closes_prompt (op.Forget name handle) q h = absurd h
closes_prompt (op.Name name handle) q h = absurd h
closes_prompt op.Delete q h = absurd h
closes_prompt op.Stat q h = absurd h

restarted_op : (shard last : ℕ) (w : Waiting) → (restarted shard last w).operation.op ≡ w.operation.op
restarted_op shard last w = go _
  where
    go : (b : Bool) → (if b then record w { wait = wait.View } else w).operation.op ≡ w.operation.op
    go true = refl
    go false = refl

module _ (commands : ℕ → Option Command) (bound line : ℕ) where
  abbrev pub P : Core → Type 0
  P c = During commands bound line (part_of c)

  -- the same operations wait
  same_wait : (c : Core) (operations : List (ℕ × Waiting)) → Apart operations → ((n : ℕ) → asking operations n ≡ asking c.operations n) → P c → P (record c { operations = operations })
  same_wait c operations apart same p = record {
    turns = turns_same commands bound c.moment (c.journal ++ c.entries) (asking c.operations) p.turns (asking operations) same;
    journal = p.journal;
    apart = apart;
    opened = λ n o name h s. p.opened n o name (sym (same n) ∙ h) s;
    clean = p.clean;
    at = p.at;
  }

  waits_on : (n : ℕ) (w was : Waiting) (c : Core) → operation_of n c ≡ Some was → w.operation.op ≡ was.operation.op → P c → P (put_operation n w c)
  waits_on n w was c here same p = same_wait c (set_value (is_at (nat_cmp n)) c.operations w) (set_apart c.operations n w p.apart) each p
    where
      each : (m : ℕ) → asking (set_value (is_at (nat_cmp n)) c.operations w) m ≡ asking c.operations m
      each m = elim (cases_eq m n) [
        | inl e ↦
            ap (λ k. asking (set_value (is_at (nat_cmp n)) c.operations w) k) e ∙ ap op_of (set_here c.operations n w was here) ∙ ap (λ x. Some x) same
            ∙ sym (ap op_of here) ∙ ap (λ k. asking c.operations k) (sym e)
        | inr d ↦ ap op_of (set_other c.operations n m w d)
      ]

  restarts_on : (shard last : ℕ) (c : Core) → P c → P (restart_at shard last c)
  restarts_on shard last c p = same_wait c (map (λ e. (e.0, restarted shard last e.1)) c.operations) (map_apart (restarted shard last) c.operations p.apart) each p
    where
      one : (x : Option Waiting) → op_of (option_map (restarted shard last) x) ≡ op_of x
      one None = refl
      one (Some w) = ap (λ o. Some o) (restarted_op shard last w)

      each : (m : ℕ) → asking (map (λ e. (e.0, restarted shard last e.1)) c.operations) m ≡ asking c.operations m
      each m = ap op_of (map_at (restarted shard last) c.operations m) ∙ one (lookup (is_at (nat_cmp m)) c.operations)

  notes_on : (of : Who) (did : Deed) (told : Reply) (c : Core) → ((n : ℕ) → of ≡ who.Line n → ⊥) → P c → P (note of did told c)
  notes_on of did told c nobody p = record {
    turns = subst (λ entries. Turns commands bound c.moment entries (asking c.operations)) (append_assoc c.journal c.entries (e ∷ [])) (turns_noted commands bound c.moment (c.journal ++ c.entries) (asking c.operations) p.turns e nobody refl);
    journal = p.journal;
    apart = p.apart;
    opened = p.opened;
    clean = p.clean;
    at = p.at;
  }
    where
      e : JournalEntry
      e = record { who = of; moment = c.moment; deed = did; reply = told }

  answers_on : (n : ℕ) (w was : Waiting) (told : Reply) (c : Core) → operation_of n c ≡ Some was → w.operation.op ≡ was.operation.op → IsNotBusy told → P c → P (answer n w told c)
  answers_on n w was told c here same calm p = record {
    turns = subst (λ entries. Turns commands bound c.moment entries (asking operations)) (append_assoc c.journal c.entries (e ∷ []))
        (turns_answered commands bound c.moment (c.journal ++ c.entries) (asking c.operations) p.turns n was.operation.op e (asking operations) asked (ap op_of (remove_here c.operations n p.apart))
        (λ m d. ap op_of (remove_other c.operations n m d)) refl refl (λ l f. subst (λ r. IsNotBusy r) f calm));
    journal = p.journal;
    apart = remove_apart c.operations n p.apart;
    opened = λ m q name h s. seats_stay gains w.operation.op told c.sessions name (λ closes. quiet (closes_prompt w.operation.op name closes)) (p.opened m q name (back m q h) s);
    clean = p.clean;
    at = p.at;
  }
    where
      operations : List (ℕ × Waiting)
      operations = remove_entry (is_at (nat_cmp n)) c.operations

      gains : List Held
      gains = gained (view_for w.shard w.operation.op c) (pointers_for w.shard w.operation.op c) w.operation.op

      e : JournalEntry
      e = record { who = who.Line n; moment = c.moment; deed = deed_of c.sessions w.operation.op told; reply = told }

      asked : asking c.operations n ≡ Some was.operation.op
      asked = ap op_of here

      quiet : IsPrompt (Some w.operation.op) → ⊥
      quiet h = (p.turns.asked n was.operation.op asked).waits (subst (λ o. IsPrompt (Some o)) same h)

      back : (m : ℕ) (q : Op) → asking operations m ≡ Some q → asking c.operations m ≡ Some q
      back m q h = elim (cases_eq m n) [
        | inl eq ↦ let f : asking operations m ≡ None = ap (asking operations) eq ∙ ap op_of (remove_here c.operations n p.apart) in absurd (cc (f, h))
        | inr d ↦ sym (ap op_of (remove_other c.operations n m d)) ∙ h
      ]

  pub stirs : Stirs P
  stirs = record {
    beside = λ c d e p. subst (λ x. During commands bound line x) (sym e) p;
    waits = waits_on;
    answers = answers_on;
    restarts = restarts_on;
    notes = notes_on;
  }
