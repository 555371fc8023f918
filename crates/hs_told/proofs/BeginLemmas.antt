-- The order stays where a client's line begins.
use Rattle.std.proofs.Common.{◌≡◌, inl, inr, ℕ, ◌+◌, ◌<◌, ◌++◌, List, [], ◌∷◌, Option, Some, None, IsSome, refl, sym, ap, subst, ◌∙◌, arith}
use Rattle.std.proofs.lemmas.Bool.{cases_eq}
use Rattle.std.proofs.lemmas.List.{append_assoc}
use Rattle.std.specs.BTreeMap.{insert_entry, is_at}
use Rattle.std.specs.Map.{lookup, remove_entry, set_value}
use Rattle.std.specs.Option.{option_map, option_map_or}
use Rattle.std.specs.Ordering.{nat_cmp}
use Rattle.hs_anatomy.proofs.AsideLemmas.{kept_propose, kept_with}
use Rattle.hs_answered.proofs.CoreLemmas.{busy_step}
use Rattle.hs_answered.proofs.CoreLemmas.{free_sees}
use Rattle.hs_answered.proofs.RefusalLemmas.{IsNotBusy}
use Rattle.hs_answered.proofs.StepLemmas.{step_sees}
use Rattle.hs_answered.specs.Asked.{busy_with, first_step}
use Rattle.hs_awaiting.specs.declared.wait.Wait.TheVariants as wait
use Rattle.hs_awaiting.specs.declared.waiting.Waiting.{Waiting}
use Rattle.hs_awaiting.specs.Words.{change_with}
use Rattle.hs_core_words.specs.Changing.{add_operation, put_operation}
use Rattle.hs_core_words.specs.Looking.{group_of, lead_of, shape_of}
use Rattle.hs_core_words.specs.Operating.{add_read, answer, begin_line, busy_line, propose_entry, take_step, what_holds}
use Rattle.hs_core_words.specs.Seeing.{view_for}
use Rattle.hs_core_words.specs.State.{Core}
use Rattle.hs_journal.specs.declared.entry.JournalEntry.{JournalEntry}
use Rattle.hs_journal.specs.declared.entry.Who.TheVariants as who
use Rattle.hs_journal.specs.Events.{client_op}
use Rattle.hs_journal.specs.Order.{IsOpen, IsPrompt, session_of}
use Rattle.hs_limits.specs.declared.address.Held.{Held}
use Rattle.hs_model.specs.declared.command.Command.{Command}
use Rattle.hs_model.specs.declared.op.Op.{Op}
use Rattle.hs_model.specs.declared.op.Op.TheVariants as op
use Rattle.hs_model.specs.declared.reply.Reply.{Reply}
use Rattle.hs_model.specs.declared.reply.Reply.TheVariants as reply
use Rattle.hs_ops.specs.declared.step.OpStep.{OpStep}
use Rattle.hs_ops.specs.declared.step.OpStep.TheVariants as step
use Rattle.hs_ops.specs.Answers.{deed_of, seats_after}
use Rattle.hs_ops.specs.Going.{begin, go, judged_in}
use Rattle.hs_ops.specs.Operations.{after_step, new_operation}
use Rattle.hs_ops.specs.Speaking.{judging_shard}
use Rattle.hs_ops.specs.Views.{OpView}
use Rattle.hs_replica.specs.Group.{last_number}
use Rattle.hs_tokens.specs.Seats.{Seats, seat_of}
use Rattle.hs_told.proofs.BusyLemmas.{Busy, busy_from, free_from, unjudged_open, unjudged_refusal, unjudged_waits}
use Rattle.hs_told.proofs.CalmLemmas.{sees_calm}
use Rattle.hs_told.proofs.StirLemmas.{part_still}
use Rattle.hs_told.proofs.DuringLemmas.{During, op_of}
use Rattle.hs_told.proofs.OperationLemmas.{insert_apart, insert_here, insert_other, remove_apart, remove_here, remove_other, set_apart, set_here, set_other}
use Rattle.hs_told.proofs.SeatLemmas.{Closes, seats_stay}
use Rattle.hs_told.proofs.TurnLemmas.{turns_begins, turns_now, turns_same}
use Rattle.hs_told.specs.InTurn.{bare}
use Rattle.hs_told.specs.Part.{asking, part_of}
use Rattle.hs_told.specs.Turns.{Turns}

-- ---- the operation of a line

bare_session : (o : Op) → session_of (Some (bare o)) ≡ session_of (Some o)
bare_session (op.Open name) = refl
bare_session (op.Close name) = refl
bare_session (op.Write name payload handles address) = refl
bare_session (op.Read name handle) = refl
bare_session (op.Look name key) = refl
bare_session (op.Root name key handle) = refl
bare_session (op.Drop key) = refl
bare_session (op.Forget name handle) = refl
bare_session (op.Name name handle) = refl
bare_session op.Delete = refl
bare_session op.Stat = refl

to_bare_prompt : (o : Op) → IsPrompt (Some o) → IsPrompt (Some (bare o))
to_bare_prompt (op.Open name) h = h
to_bare_prompt (op.Close name) h = h
to_bare_prompt (op.Write name payload handles address) h = h
to_bare_prompt (op.Read name handle) h = h
to_bare_prompt (op.Look name key) h = h
to_bare_prompt (op.Root name key handle) h = h
to_bare_prompt (op.Drop key) h = h
to_bare_prompt (op.Forget name handle) h = h
to_bare_prompt (op.Name name handle) h = h
to_bare_prompt op.Delete h = h
to_bare_prompt op.Stat h = h

from_bare_prompt : (o : Op) → IsPrompt (Some (bare o)) → IsPrompt (Some o)
from_bare_prompt (op.Open name) h = h
from_bare_prompt (op.Close name) h = h
from_bare_prompt (op.Write name payload handles address) h = h
from_bare_prompt (op.Read name handle) h = h
from_bare_prompt (op.Look name key) h = h
from_bare_prompt (op.Root name key handle) h = h
from_bare_prompt (op.Drop key) h = h
from_bare_prompt (op.Forget name handle) h = h
from_bare_prompt (op.Name name handle) h = h
from_bare_prompt op.Delete h = h
from_bare_prompt op.Stat h = h

to_bare_open : (o : Op) → IsOpen (Some o) → IsOpen (Some (bare o))
to_bare_open (op.Open name) h = h
to_bare_open (op.Close name) h = h
to_bare_open (op.Write name payload handles address) h = h
to_bare_open (op.Read name handle) h = h
to_bare_open (op.Look name key) h = h
to_bare_open (op.Root name key handle) h = h
to_bare_open (op.Drop key) h = h
to_bare_open (op.Forget name handle) h = h
to_bare_open (op.Name name handle) h = h
to_bare_open op.Delete h = h
to_bare_open op.Stat h = h

from_bare_open : (o : Op) → IsOpen (Some (bare o)) → IsOpen (Some o)
from_bare_open (op.Open name) h = h
from_bare_open (op.Close name) h = h
from_bare_open (op.Write name payload handles address) h = h
from_bare_open (op.Read name handle) h = h
from_bare_open (op.Look name key) h = h
from_bare_open (op.Root name key handle) h = h
from_bare_open (op.Drop key) h = h
from_bare_open (op.Forget name handle) h = h
from_bare_open (op.Name name handle) h = h
from_bare_open op.Delete h = h
from_bare_open op.Stat h = h

-- what is asked for at a line is its command's, but for an address
pub record IsSaid (command : Option Command) (o : Op) : Type 0 where
  pub named : IsSome command
  pub same : session_of (client_op command) ≡ session_of (Some o)
  pub prompt : IsPrompt (client_op command) → IsPrompt (Some o)
  pub opens : IsOpen (client_op command) → IsOpen (Some o)
  pub opened : IsOpen (Some o) → IsOpen (client_op command)

pub said_is : (command : Option Command) (o : Op) → option_map bare (client_op command) ≡ Some (bare o) → IsSaid command o
said_is command o e = go (client_op command) refl e
  where
    there : (c : Option Command) (said : Op) → client_op c ≡ Some said → IsSome c
    there None said f = absurd (cc f)
    there (Some x) said f = refl

    go : (x : Option Op) → client_op command ≡ x → option_map bare x ≡ Some (bare o) → IsSaid command o
    go None f h = absurd (cc h)
    go (Some said) f h = record {
      named = there command said f;
      same = ap (λ x. session_of x) f ∙ sym (bare_session said) ∙ ap (λ (q : Op). session_of (Some q)) (some_is h) ∙ bare_session o;
      prompt = λ k. from_bare_prompt o (subst (λ (q : Op). IsPrompt (Some q)) (some_is h) (to_bare_prompt said (subst (λ x. IsPrompt x) f k)));
      opens = λ k. from_bare_open o (subst (λ (q : Op). IsOpen (Some q)) (some_is h) (to_bare_open said (subst (λ x. IsOpen x) f k)));
      opened = λ k. subst (λ x. IsOpen x) (sym f) (from_bare_open said (subst (λ (q : Op). IsOpen (Some q)) (sym (some_is h)) (to_bare_open o k)));
    }
      where
        some_is : Some (bare said) ≡ Some (bare o) → bare said ≡ bare o
        some_is g = cc g

-- what the view alone answers is the first step
answers_first : (v : OpView) (line : ℕ) (o : Op) (r : Reply) → judged_in v o ≡ Some r → begin v line o ≡ step.Answer r
unfolding begin
answers_first v line o r e = ap (λ (z : Option Reply). option_map_or step.Answer z (go v line o)) e

opens_prompt : (o : Op) → IsOpen (Some o) → IsPrompt (Some o)
opens_prompt (op.Open name) h = tt
opens_prompt (op.Close name) h = tt
opens_prompt (op.Write name payload handles address) h = absurd h
opens_prompt (op.Read name handle) h = absurd h
opens_prompt (op.Look name key) h = tt
opens_prompt (op.Root name key handle) h = absurd h
opens_prompt (op.Drop key) h = absurd h
opens_prompt (op.Forget name handle) h = tt
opens_prompt (op.Name name handle) h = tt
opens_prompt op.Delete h = absurd h
opens_prompt op.Stat h = tt

busy_seats : (helds : List Held) (o : Op) (other : ℕ) (seats : Seats) → seats_after helds o (reply.Busy other) seats ≡ seats
unfolding seats_after
busy_seats helds o other seats = refl

-- ---- it begins

module _ (commands : ℕ → Option Command) (last line : ℕ) (o : Op) (x : Core) (p : During commands line last (part_of x)) (said : IsSaid (commands line) o) where
  abbrev g : ℕ
  g = judging_shard (shape_of x).shards x.sessions o

  abbrev begun : Core
  begun = record x { progress = record x.progress { last_line = line } }

  abbrev w : Waiting
  w = record { operation = new_operation line o; shard = g; wait = wait.View }

  abbrev with_it : Core
  with_it = add_operation line w begun

  abbrev v : OpView
  v = view_for g o begun

  -- nobody waits at the line yet
  new_line : lookup (is_at (nat_cmp line)) x.operations ≡ None
  new_line = by_lookup (lookup (is_at (nat_cmp line)) x.operations) refl
    where
      by_lookup : (found : Option Waiting) → lookup (is_at (nat_cmp line)) x.operations ≡ found → found ≡ None
      by_lookup None f = refl
      by_lookup (Some y) f = let low : line < line = p.turns.below line y.operation.op (ap op_of f) in absurd (omega (arith, low))

  -- ---- it is told of at once

  abbrev ended : List (ℕ × Waiting)
  ended = remove_entry (is_at (nat_cmp line)) (insert_entry nat_cmp x.operations line w)

  ended_same : (n : ℕ) → asking ended n ≡ asking x.operations n
  ended_same n = elim (cases_eq n line) [
    | inl e ↦ ap (asking ended) e ∙ ap op_of (remove_here (insert_entry nat_cmp x.operations line w) line (insert_apart x.operations line w new_line p.apart)) ∙ sym (ap op_of new_line) ∙ ap (asking x.operations) (sym e)
    | inr d ↦ ap op_of (remove_other (insert_entry nat_cmp x.operations line w) line n d ∙ insert_other x.operations line n w d)
  ]

  told_now : (u : Waiting) (r : Reply) → u.operation.op ≡ o
      → ((session : List ℕ) → session_of (Some o) ≡ Some session → (IsOpen (Some o) → ⊥) → (l : ℕ) (q : Op) → asking x.operations l ≡ Some q → session_of (Some q) ≡ Some session → r ≡ reply.Busy l)
      → ((l : ℕ) → r ≡ reply.Busy l → (session : List ℕ) × (q : Op) × (session_of (Some o) ≡ Some session) × (IsOpen (Some o) → ⊥) × (asking x.operations l ≡ Some q) × (session_of (Some q) ≡ Some session))
      → ((n : ℕ) (q : Op) (name : List ℕ) → asking x.operations n ≡ Some q → session_of (Some q) ≡ Some name → IsSome (seat_of name (answer line u r with_it).sessions))
      → During commands (line + 1) last (part_of (answer line u r with_it))
  told_now u r is busy only unlocked = record {
    turns = waits_same (subst (λ entries. Turns commands (line + 1) x.moment entries (asking x.operations)) (append_assoc x.journal x.entries (e ∷ []))
        (turns_now commands line x.moment (x.journal ++ x.entries) (asking x.operations) p.turns e refl (omega arith) said.named
        (λ session s d l q h t. busy session (sym said.same ∙ s) (λ h. d (said.opened h)) l q h t)
        (λ l f. let it = only l f in (it.0, it.1, said.same ∙ it.2, (λ h. it.3 (said.opens h)), it.4, it.5))));
    journal = p.journal;
    apart = remove_apart (insert_entry nat_cmp x.operations line w) line (insert_apart x.operations line w new_line p.apart);
    opened = λ n q name h s. unlocked n q name (sym (ended_same n) ∙ h) s;
    clean = p.clean;
    at = p.at;
  }
    where
      e : JournalEntry
      e = record { who = who.Line line; moment = x.moment; deed = deed_of x.sessions u.operation.op r; reply = r }

      waits_same : Turns commands (line + 1) x.moment (x.journal ++ (x.entries ++ e ∷ [])) (asking x.operations) → Turns commands (line + 1) x.moment (x.journal ++ (x.entries ++ e ∷ [])) (asking ended)
      waits_same t = turns_same commands (line + 1) x.moment (x.journal ++ (x.entries ++ e ∷ [])) (asking x.operations) t (asking ended) ended_same

  -- that its session is busy
  told_busy : (other : ℕ) → busy_with o x ≡ Some other → During commands (line + 1) last (part_of (begin_line line o x))
  told_busy other e =
      subst (λ c. During commands (line + 1) last (part_of c)) (sym (ap (λ (s : OpStep). take_step line w s with_it) first))
      (told_now u (reply.Busy other) refl
      (λ session s d l q h t. ap (λ k. reply.Busy k) (p.turns.alone other l it.by.o q session it.by.at h (it.by.same ∙ sym it.asks ∙ s) t))
      (λ l f. (it.name, it.by.o, it.asks, it.apart, subst (λ k. asking x.operations k ≡ Some it.by.o) (busy_one l f) it.by.at, it.by.same))
      (λ n q name h s. subst (λ seats. IsSome (seat_of name seats)) (sym (busy_seats _ o other x.sessions)) (p.opened n q name h s)))
    where
      it : Busy x o other
      it = busy_from x o other p.apart e

      u : Waiting
      u = record w { operation = after_step (step.Answer (reply.Busy other)) w.operation }

      first : first_step line o x ≡ step.Answer (reply.Busy other)
      first = busy_step [] x line o other it.name it.asks it.apart (p.opened other it.by.o it.name it.by.at it.by.same) it.line

      busy_one : (l : ℕ) → reply.Busy other ≡ reply.Busy l → other ≡ l
      busy_one l f = cc f

  -- ---- its session has no other

  module _ (free : busy_with o x ≡ None) where
    nobody : (IsOpen (Some o) → ⊥) → (name : List ℕ) → session_of (Some o) ≡ Some name → (n : ℕ) (q : Op) → asking x.operations n ≡ Some q → session_of (Some q) ≡ Some name → ⊥
    nobody d name s n q h t = free_from x o name n q d free s h t

    closes_none : (name : List ℕ) → Closes o name → (n : ℕ) (q : Op) → asking x.operations n ≡ Some q → session_of (Some q) ≡ Some name → ⊥
    closes_none name closes n q h t = nobody (closes_apart o name closes) name (closes_its o name closes) n q h t
      where
        closes_apart : (k : Op) (name : List ℕ) → Closes k name → IsOpen (Some k) → ⊥
        closes_apart (op.Open n) name c h = c
        closes_apart (op.Close n) name c h = h
        closes_apart (op.Write n payload handles address) name c h = c
        closes_apart (op.Read n handle) name c h = c
        closes_apart (op.Look n key) name c h = c
        closes_apart (op.Root n key handle) name c h = c
        closes_apart (op.Drop key) name c h = c
        closes_apart (op.Forget n handle) name c h = c
        closes_apart (op.Name n handle) name c h = c
        closes_apart op.Delete name c h = c
        closes_apart op.Stat name c h = c

        closes_its : (k : Op) (name : List ℕ) → Closes k name → session_of (Some k) ≡ Some name
        closes_its (op.Open n) name c = absurd c
        closes_its (op.Close n) name c = ap (λ z. Some z) c
        closes_its (op.Write n payload handles address) name c = absurd c
        closes_its (op.Read n handle) name c = absurd c
        closes_its (op.Look n key) name c = absurd c
        closes_its (op.Root n key handle) name c = absurd c
        closes_its (op.Drop key) name c = absurd c
        closes_its (op.Forget n handle) name c = absurd c
        closes_its (op.Name n handle) name c = absurd c
        closes_its op.Delete name c = absurd c
        closes_its op.Stat name c = absurd c

    told_free : (r : Reply) → first_step line o x ≡ step.Answer r → During commands (line + 1) last (part_of (take_step line w (step.Answer r) with_it))
    told_free r e =
        told_now u r refl (λ session s d l q h t. absurd (nobody d session s l q h t)) (λ l f. absurd (subst (λ k. IsNotBusy k) f calm))
        (λ n q name h s. seats_stay _ o r x.sessions name (λ closes. closes_none name closes n q h s) (p.opened n q name h s))
      where
        u : Waiting
        u = record w { operation = after_step (step.Answer r) w.operation }

        calm : IsNotBusy r
        calm = sees_calm v o r refl (free_sees v (busy_line o x) o x r free refl (step_sees (record v { busy = busy_line o x }) w.operation r e))

    -- ---- it waits

    waiting : (u : Waiting) → u.operation.op ≡ o → (at_first : (r : Reply) → first_step line o x ≡ step.Answer r → ⊥) → During commands (line + 1) last (part_of (put_operation line u with_it))
    waiting u is unanswered = record {
      turns = turns_begins commands line x.moment (x.journal ++ x.entries) (asking x.operations) p.turns o (asking now) here others (record { named = said.named; same = said.same; slow = λ h. slow (said.prompt h); waits = slow })
          (λ l q name h s t. nobody (λ opens. slow (opens_prompt o opens)) name t l q h s);
      journal = p.journal;
      apart = set_apart (insert_entry nat_cmp x.operations line w) line u (insert_apart x.operations line w new_line p.apart);
      opened = λ n q name h s. elim (cases_eq n line) [
        | inl e ↦ open_here name (ap (λ (z : Op). session_of (Some z)) (op_is q (sym here ∙ ap (asking now) (sym e) ∙ h)) ∙ s)
        | inr d ↦ p.opened n q name (sym (others n d) ∙ h) s
      ];
      clean = p.clean;
      at = p.at;
    }
      where
        now : List (ℕ × Waiting)
        now = set_value (is_at (nat_cmp line)) (insert_entry nat_cmp x.operations line w) u

        here : asking now line ≡ Some o
        here = ap op_of (set_here (insert_entry nat_cmp x.operations line w) line u w (insert_here x.operations line w)) ∙ ap (λ z. Some z) is

        others : (n : ℕ) → (n ≡ line → ⊥) → asking now n ≡ asking x.operations n
        others n d = ap op_of (set_other (insert_entry nat_cmp x.operations line w) line n u d ∙ insert_other x.operations line n w d)

        op_is : (q : Op) → Some o ≡ Some q → o ≡ q
        op_is q h = cc h

        seen : OpView
        seen = record v { busy = busy_line o x }

        unjudged : judged_in seen o ≡ None
        unjudged = by_reply (judged_in seen o) refl
          where
            by_reply : (z : Option Reply) → judged_in seen o ≡ z → z ≡ None
            by_reply None f = refl
            by_reply (Some r) f = absurd (unanswered r (answers_first seen line o r f))

        slow : IsPrompt (Some o) → ⊥
        slow = unjudged_waits seen o (unjudged_refusal seen o unjudged).1

        open_here : (name : List ℕ) → session_of (Some o) ≡ Some name → IsSome (seat_of name x.sessions)
        open_here name s = unjudged_open seen o name (unjudged_refusal seen o unjudged).0 slow s

    -- its first step
    steps : (s : OpStep) → first_step line o x ≡ s → During commands (line + 1) last (part_of (take_step line w s with_it))
    steps (step.Answer r) e = told_free r e
    steps (step.Propose entry) e =
        let u : Waiting = record w { operation = after_step (step.Propose entry) w.operation; wait = wait.Entry (last_number (group_of g with_it) + 1) } in
        subst (λ q. During commands (line + 1) last q) (sym (part_still (put_operation line u with_it) (propose_entry g entry (put_operation line u with_it)) (kept_propose g entry (put_operation line u with_it)))) (waiting u refl (λ r f. let h : step.Propose entry ≡ step.Answer r = sym e ∙ f in cc h))
    steps (step.Compare number) e =
        let u : Waiting = record w { operation = after_step (step.Compare number) w.operation; wait = wait.Bytes number } in
        subst (λ q. During commands (line + 1) last q) (sym (part_still (put_operation line u with_it) (change_with (lead_of g with_it) (add_read number line) (put_operation line u with_it)) (kept_with (lead_of g with_it) (add_read number line) (put_operation line u with_it) (λ peer y. refl))))
        (waiting u refl (λ r f. let h : step.Compare number ≡ step.Answer r = sym e ∙ f in cc h))
    steps step.Wait e =
        let u : Waiting = record w { operation = after_step step.Wait w.operation } in
        waiting (record u { wait = what_holds u with_it }) refl (λ r f. let h : step.Wait ≡ step.Answer r = sym e ∙ f in cc h)

  -- it keeps the order
  pub begins : During commands (line + 1) last (part_of (begin_line line o x))
  begins = by_busy (busy_with o x) refl
    where
      by_busy : (b : Option ℕ) → busy_with o x ≡ b → During commands (line + 1) last (part_of (begin_line line o x))
      by_busy (Some other) e = told_busy other e
      by_busy None e = steps e (first_step line o x) refl
