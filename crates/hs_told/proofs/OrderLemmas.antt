-- Every event keeps the order of answers.
use Rattle.std.proofs.Common.{◌≡◌, inl, inr, ℕ, ◌+◌, ◌<◌, ◌≤◌, ◌==◌, ◌++◌, Bool, true, false, List, [], ◌∷◌, length, Option, Some, None, IsSome, is_none, nat_lt, refl, sym, ap, subst, ◌∙◌, arith}
use Rattle.std.proofs.lemmas.Bool.{cases_eq}
use Rattle.std.proofs.lemmas.Bool.Decides.{nat_tests}
use Rattle.std.proofs.lemmas.List.{append-nil, append_assoc}
use Rattle.std.specs.Prelude.{if◌then◌else◌}
use Rattle.hs_anatomy.proofs.AsideLemmas.{kept_if}
use Rattle.hs_answered.proofs.RefusalLemmas.{IsNotBusy, IsOfKind}
use Rattle.hs_awaiting.specs.Words.{change_if}
use Rattle.hs_core_words.specs.declared.event.Event.{Event}
use Rattle.hs_core_words.specs.declared.event.Event.TheVariants as event
use Rattle.hs_core_words.specs.Asking.{deliver, lose, no_peer, not_down, not_up, nudge_good, send_again, unless_refused, with_message}
use Rattle.hs_core_words.specs.Changing.{change_pool, refuse}
use Rattle.hs_core_words.specs.Failing.{go_down}
use Rattle.hs_core_words.specs.Joining.{start}
use Rattle.hs_core_words.specs.Operating.{begin_line}
use Rattle.hs_core_words.specs.State.{Core}
use Rattle.hs_core_words.specs.Step.{begin_event, do_event, end_event, is_first_line, keep_entries, line_of, refuse_entries, run_event, step}
use Rattle.hs_desk.specs.declared.fault.CoreFault.{CoreFault}
use Rattle.hs_desk.specs.declared.fault.CoreFault.TheVariants as fault
use Rattle.hs_journal.specs.declared.entry.JournalEntry.{JournalEntry}
use Rattle.hs_journal.specs.declared.entry.Who.TheVariants as who
use Rattle.hs_journal.specs.Events.{client_op}
use Rattle.hs_journal.specs.Order.{session_of}
use Rattle.hs_model.specs.declared.command.Command.{Command}
use Rattle.hs_model.specs.declared.deed.Deed.TheVariants as deed
use Rattle.hs_model.specs.declared.op.Op.{Op}
use Rattle.hs_model.specs.declared.reply.Reply.{Reply}
use Rattle.hs_model.specs.declared.reply.Reply.TheVariants as reply
use Rattle.hs_model.specs.Refusals.{first, refused_when}
use Rattle.hs_post.specs.declared.message.Message.{Message}
use Rattle.hs_post.specs.Pool.{is_full, message_at, restart_numbers}
use Rattle.hs_told.proofs.BeginLemmas.{begins, said_is}
use Rattle.hs_told.proofs.DuringLemmas.{During, stirs}
use Rattle.hs_told.proofs.StirLemmas.{Stirs, part_still, stays_event}
use Rattle.hs_told.proofs.TurnLemmas.{turns_later, turns_now, turns_raised}
use Rattle.hs_told.specs.InTurn.{AllMayCome, ClientMay, IsInTurn, MayBegin, MayCome, OtherMay, after_all, message_refusal, refusal_in, repeat_refusal}
use Rattle.hs_told.specs.Part.{Part, asking, part_of}
use Rattle.hs_told.specs.Turns.{Turns}

-- ---- events that are no client's

abbrev pub IsOther : Event → Type 0
IsOther (event.Line line o) = ⊥
IsOther other = Unit {0}

no_line : (e : Event) → IsOther e → (line : ℕ) (o : Op) → e ≡ event.Line line o → ⊥
no_line e other line o is = subst (λ x. IsOther x) is other

refused_unless : (line : ℕ) (rows : List (Option Reply)) (f : Core → Core) (c : Core) (r : Reply) → first rows ≡ Some r → unless_refused line rows f c ≡ refuse line r c
refused_unless line rows f c r e = rw e refl

allowed_unless : (line : ℕ) (rows : List (Option Reply)) (f : Core → Core) (c : Core) → first rows ≡ None → unless_refused line rows f c ≡ f c
allowed_unless line rows f c e = rw e refl

refused_message : (line number : ℕ) (f : Message → Core → Core) (c : Core) (r : Reply) → message_refusal number (message_at number c.pool) ≡ Some r → with_message line number f c ≡ refuse line r c
refused_message line number f c r e = go (message_at number c.pool) refl e
  where
    go : (m : Option Message) → message_at number c.pool ≡ m → message_refusal number m ≡ Some r → with_message line number f c ≡ refuse line r c
    go None h k = rw h (ap (λ q. refuse line q c) (some_is k))
      where
        some_is : Some (reply.NoMessage number) ≡ Some r → reply.NoMessage number ≡ r
        some_is x = cc x
    go (Some m) h k = absurd (cc k)

refused_repeat : (line number : ℕ) (c : Core) (r : Reply) → repeat_refusal number c (message_at number c.pool) ≡ Some r → with_message line number (send_again line) c ≡ refuse line r c
refused_repeat line number c r e = go (message_at number c.pool) refl e
  where
    some_is : (q : Reply) → Some q ≡ Some r → q ≡ r
    some_is q x = cc x

    by_room : (m : Message) (b : Bool) → is_full c.pool ≡ b → (if b then Some (reply.PoolFull c.pool.limit) else None) ≡ Some r → send_again line m c ≡ refuse line r c
    by_room m true h k = rw h (ap (λ q. refuse line q c) (some_is _ k))
    by_room m false h k = absurd (cc k)

    go : (m : Option Message) → message_at number c.pool ≡ m → repeat_refusal number c m ≡ Some r → with_message line number (send_again line) c ≡ refuse line r c
    go None h k = rw h (ap (λ q. refuse line q c) (some_is _ k))
    go (Some m) h k = rw h (by_room m (is_full c.pool) refl k)

-- an event that is refused tells so and does nothing else
pub refused_does : (e : Event) (c : Core) (r : Reply) → refusal_in e c ≡ Some r → do_event e c ≡ refuse (line_of e) r c
refused_does (event.Line line o) c r e = absurd (cc e)
refused_does (event.Report peer d) c r e = absurd (cc e)
refused_does (event.Turn line peer) c r e = refused_unless line (no_peer peer c ∷ not_up peer c ∷ []) (λ x. x) c r e
refused_does (event.Deliver line number) c r e = refused_message line number (deliver number) c r e
refused_does (event.Lose line number) c r e = refused_message line number (lose number) c r e
refused_does (event.Repeat line number) c r e = refused_repeat line number c r e
refused_does (event.Nudge line peer) c r e = refused_unless line (no_peer peer c ∷ not_up peer c ∷ []) (nudge_good peer) c r e
refused_does (event.Fail line peer) c r e = refused_unless line (no_peer peer c ∷ not_up peer c ∷ []) (go_down peer) c r e
refused_does (event.Start line peer) c r e = refused_unless line (no_peer peer c ∷ not_down peer c ∷ []) (start peer) c r e

-- and is no reply that a session is busy
two_calm : (b d : Bool) (q r : Reply) → IsNotBusy q → IsNotBusy r → IsOfKind IsNotBusy (first (refused_when b q ∷ refused_when d r ∷ []))
two_calm true d q r h k = h
two_calm false true q r h k = k
two_calm false false q r h k = tt

message_calm : (number : ℕ) (m : Option Message) → IsOfKind IsNotBusy (message_refusal number m)
message_calm number None = tt
message_calm number (Some m) = tt

repeat_calm : (number : ℕ) (c : Core) (m : Option Message) → IsOfKind IsNotBusy (repeat_refusal number c m)
repeat_calm number c None = tt
repeat_calm number c (Some m) = go (is_full c.pool)
  where
    go : (b : Bool) → IsOfKind IsNotBusy (if b then Some (reply.PoolFull c.pool.limit) else None)
    go true = tt
    go false = tt

refusal_calm : (e : Event) (c : Core) → IsOfKind IsNotBusy (refusal_in e c)
refusal_calm (event.Line line o) c = tt
refusal_calm (event.Report peer d) c = tt
refusal_calm (event.Turn line peer) c = two_calm _ _ (reply.NoPeer peer) (reply.NotUp peer) tt tt
refusal_calm (event.Deliver line number) c = message_calm number (message_at number c.pool)
refusal_calm (event.Lose line number) c = message_calm number (message_at number c.pool)
refusal_calm (event.Repeat line number) c = repeat_calm number c (message_at number c.pool)
refusal_calm (event.Nudge line peer) c = two_calm _ _ (reply.NoPeer peer) (reply.NotUp peer) tt tt
refusal_calm (event.Fail line peer) c = two_calm _ _ (reply.NoPeer peer) (reply.NotUp peer) tt tt
refusal_calm (event.Start line peer) c = two_calm _ _ (reply.NoPeer peer) (reply.NotDown peer) tt tt

-- an event that is no client's line and is not refused
pub event_stays : {P : Core → Type 0} → Stirs P → (e : Event) (c : Core) → IsOther e → refusal_in e c ≡ None → P c → P (do_event e c)
event_stays S e c other none p = stays_event S e c (no_line e other) none p

-- ---- an event begins

begun_part : (line moment : ℕ) (core : Core) → part_of (begin_event line moment core) ≡ record (part_of core) { moment = moment; event_line = if line == 0 then core.progress.event_line else line }
begun_part line moment core =
    ap (λ (p : Part). record p { moment = moment; event_line = if line == 0 then core.progress.event_line else line })
    (part_still core (is_first_line line core) (kept_if _ (change_pool restart_numbers) core (λ x. refl)))

pub same_refusal : (e : Event) (line moment : ℕ) (core : Core) → refusal_in e (begin_event line moment core) ≡ refusal_in e core
same_refusal e line moment core = go _ e
  where
    go : (b : Bool) (e : Event) → refusal_in e (record (change_if b (change_pool restart_numbers) core) { moment = moment; progress = record core.progress { event_line = if line == 0 then core.progress.event_line else line } }) ≡ refusal_in e core
    go true (event.Line l o) = refl
    go true (event.Report peer d) = refl
    go true (event.Turn l peer) = refl
    go true (event.Deliver l number) = refl
    go true (event.Lose l number) = refl
    go true (event.Repeat l number) = refl
    go true (event.Nudge l peer) = refl
    go true (event.Fail l peer) = refl
    go true (event.Start l peer) = refl
    go false (event.Line l o) = refl
    go false (event.Report peer d) = refl
    go false (event.Turn l peer) = refl
    go false (event.Deliver l number) = refl
    go false (event.Lose l number) = refl
    go false (event.Repeat l number) = refl
    go false (event.Nudge l peer) = refl
    go false (event.Fail l peer) = refl
    go false (event.Start l peer) = refl

-- ---- and ends

module _ (commands : ℕ → Option Command) where
  pub ended : (l : ℕ) (c : Core) → During commands (l + 1) l (part_of c) → IsInTurn commands (end_event c)
  ended l c p = go (nat_lt c.limits.ops (length c.journal + length c.entries))
    where
      turns : Turns commands (c.progress.event_line + 1) c.moment (c.journal ++ c.entries) (asking c.operations)
      turns = subst (λ n. Turns commands (n + 1) c.moment (c.journal ++ c.entries) (asking c.operations)) (sym p.at) p.turns

      all : (c.journal ++ c.entries) ++ c.refused ≡ c.journal ++ c.entries
      all = ap (λ entries. (c.journal ++ c.entries) ++ entries) p.clean ∙ append-nil (c.journal ++ c.entries)

      some_none : Some fault.OpsFull ≡ None → ⊥
      some_none e = cc e

      go : (b : Bool) → IsInTurn commands (if b then refuse_entries c else keep_entries c)
      go true = record { turns = turns; journal = p.journal; apart = p.apart; opened = p.opened; told = refl; going = λ e. absurd (some_none e) }
      go false = record {
        turns = subst (λ entries. Turns commands (c.progress.event_line + 1) c.moment entries (asking c.operations)) (sym all) turns;
        journal = p.turns.ordered;
        apart = p.apart;
        opened = p.opened;
        told = refl;
        going = λ e. p.clean;
      }

  module _ (core : Core) (moment : ℕ) (turn : IsInTurn commands core) (goes : core.ended ≡ None) (later : core.moment ≤ moment) where
    -- nothing has been told of it yet
    at_moment : Turns commands (core.progress.event_line + 1) moment (core.journal ++ core.entries) (asking core.operations)
    at_moment =
        turns_later commands (core.progress.event_line + 1) core.moment (core.journal ++ core.entries) (asking core.operations)
        (subst (λ entries. Turns commands (core.progress.event_line + 1) core.moment (core.journal ++ entries) (asking core.operations)) (turn.going goes ∙ sym turn.told) turn.turns) moment later

    -- so does it begin, where no client's line lies between
    started : (bound l line : ℕ) → core.progress.event_line + 1 ≤ bound → ((k : ℕ) → core.progress.event_line + 1 ≤ k → k < bound → client_op (commands k) ≡ None) → (if line == 0 then core.progress.event_line else line) ≡ l
        → During commands bound l (part_of (begin_event line moment core))
    started bound l line le nobody is = subst (λ q. During commands bound l q) (sym (begun_part line moment core)) (record {
      turns = turns_raised commands (core.progress.event_line + 1) moment (core.journal ++ core.entries) (asking core.operations) at_moment bound le nobody;
      journal = turn.journal;
      apart = turn.apart;
      opened = turn.opened;
      clean = turn.going goes;
      at = is;
    })

    -- its line is then the last one
    line_is : (line : ℕ) → core.progress.event_line ≤ line → (if line == 0 then core.progress.event_line else line) ≡ line
    line_is line le = elim (cases_eq line 0) [
      | inl e ↦ let t : (line == 0) ≡ true = grind (arith, nat_tests, e) in rw t (omega (arith, le, e))
      | inr d ↦ let t : (line == 0) ≡ false = grind (arith, nat_tests, d) in rw t refl
    ]

    -- ---- a client's line

    client_turn : (line : ℕ) (o : Op) → ClientMay commands core line o → IsInTurn commands (run_event (event.Line line o) moment core)
    client_turn line o may =
        ended line (begin_line line o (begin_event line moment core)) (begins commands line line o (begin_event line moment core)
        (started line line line (let u : core.progress.event_line < line = may.above in omega (arith, u)) (λ k low high. may.next k (omega (arith, low)) high) (line_is line (let u : core.progress.event_line < line = may.above in omega (arith, u))))
        (said_is (commands line) o may.asks))

    -- ---- a report

    report_turn : (e : Event) → IsOther e → line_of e ≡ 0 → refusal_in e core ≡ None → IsInTurn commands (run_event e moment core)
    report_turn e other zero free =
        ended core.progress.event_line (do_event e (begin_event (line_of e) moment core)) (stays_event (stirs commands (core.progress.event_line + 1) core.progress.event_line) e (begin_event (line_of e) moment core) (no_line e other)
        (same_refusal e (line_of e) moment core ∙ free)
        (started (core.progress.event_line + 1) core.progress.event_line (line_of e) (omega arith) (λ k low high. absurd (omega (arith, low, high))) (ap (λ line. if line == 0 then core.progress.event_line else line) zero)))

    -- ---- another line

    other_turn : (e : Event) → IsOther e → OtherMay commands core (line_of e) e → IsInTurn commands (run_event e moment core)
    other_turn e other may = by_refusal (refusal_in e core) refl
      where
        line : ℕ
        line = line_of e

        x : Core
        x = begin_event line moment core

        nobody : (k : ℕ) → core.progress.event_line + 1 ≤ k → k < line + 1 → client_op (commands k) ≡ None
        nobody k low high = elim (cases_eq k line) [ inl eq ↦ ap (λ n. client_op (commands n)) eq ∙ may.nobody | inr d ↦ may.next k (omega (arith, low)) (omega (arith, high, d)) ]

        by_refusal : (r : Option Reply) → refusal_in e core ≡ r → IsInTurn commands (run_event e moment core)
        by_refusal None free =
            ended line (do_event e x) (stays_event (stirs commands (line + 1) line) e x (no_line e other) (same_refusal e line moment core ∙ free)
            (started (line + 1) line line (let u : core.progress.event_line ≤ line = may.upward in omega (arith, u)) nobody (line_is line may.upward)))
        by_refusal (Some r) stops = elim may.once [
          | inl above ↦ subst (λ c. IsInTurn commands (end_event c)) (sym (refused_does e x r (same_refusal e line moment core ∙ stops))) (ended line (refuse line r x) (refused above.0 above.1))
          | inr free ↦ let f : Some r ≡ None = sym stops ∙ free in absurd (cc f)
        ]
          where
            calm : (l : ℕ) → r ≡ reply.Busy l → ⊥
            calm l f = subst (λ q. IsNotBusy q) f (subst (λ q. IsOfKind IsNotBusy q) stops (refusal_calm e core))

            refused : core.progress.event_line < line → IsSome (commands line) → During commands (line + 1) line (part_of (refuse line r x))
            refused above named = record {
              turns = subst (λ entries. Turns commands (line + 1) x.moment entries (asking x.operations)) (append_assoc x.journal x.entries (told ∷ []))
                  (turns_now commands line x.moment (x.journal ++ x.entries) (asking x.operations) p.turns told refl (omega arith) named
                  (λ session s d l o h t. let f : session_of (client_op (commands line)) ≡ None = ap (λ o. session_of o) may.nobody in absurd (cc (f, s)))
                  (λ l f. absurd (calm l f)));
              journal = p.journal;
              apart = p.apart;
              opened = p.opened;
              clean = p.clean;
              at = p.at;
            }
              where
                p : During commands line line (part_of x)
                p = started line line line (omega (arith, above)) (λ k low high. may.next k (omega (arith, low)) high) (line_is line may.upward)

                told : JournalEntry
                told = record { who = who.Line line; moment = x.moment; deed = deed.Nothing; reply = r }

    -- ---- any event

    run_turn : (e : Event) → MayBegin commands core e → IsInTurn commands (run_event e moment core)
    run_turn (event.Line line o) may = client_turn line o may
    run_turn (event.Report peer d) may = report_turn (event.Report peer d) tt refl refl
    run_turn (event.Turn line peer) may = other_turn (event.Turn line peer) tt may
    run_turn (event.Deliver line number) may = other_turn (event.Deliver line number) tt may
    run_turn (event.Lose line number) may = other_turn (event.Lose line number) tt may
    run_turn (event.Repeat line number) may = other_turn (event.Repeat line number) tt may
    run_turn (event.Nudge line peer) may = other_turn (event.Nudge line peer) tt may
    run_turn (event.Fail line peer) may = other_turn (event.Fail line peer) tt may
    run_turn (event.Start line peer) may = other_turn (event.Start line peer) tt may

  pub step_turn : (e : Event) (moment : ℕ) (core : Core) → IsInTurn commands core → (core.ended ≡ None → MayCome commands core e moment) → IsInTurn commands (step e moment core)
  step_turn e moment core turn may = go core.ended refl
    where
      go : (x : Option CoreFault) → core.ended ≡ x → IsInTurn commands (change_if (is_none x) (run_event e moment) core)
      go None f = run_turn core moment turn f (may f).later e (may f).begins
      go (Some found) f = turn

  pub all_turn : (core : Core) (es : List (Event × ℕ)) → IsInTurn commands core → AllMayCome commands core es → IsInTurn commands (after_all core es)
  all_turn core [] turn may = turn
  all_turn core (e ∷ es) turn may = all_turn (step e.0 e.1 core) es (step_turn e.0 e.1 core turn may.0) may.1
