-- Journals that tell runs, one behind another, and of one entry.
use Rattle.std.proofs.Common.{◌≡◌, ℕ, Bool, true, false, List, [], ◌∷◌, ◌++◌, Option, Some, None, refl, sym, ap, subst, ◌∙◌}
use Rattle.hs_answered.proofs.AnswerLemmas.{judge_granted, judge_refused}
use Rattle.hs_answered.proofs.RefusalLemmas.{IsNotBusy, IsOfKind, not_busy, store_stops}
use Rattle.hs_answered.specs.Telling.{Judging, Tells, events_in}
use Rattle.hs_journal.specs.declared.entry.JournalEntry.{JournalEntry}
use Rattle.hs_journal.specs.declared.entry.Who.TheVariants as who
use Rattle.hs_journal.specs.Events.{HasAnswer, addressed, asked, client_op, event_at, line_event, store_by, with_event}
use Rattle.hs_limits.specs.declared.address.Address.{Address}
use Rattle.hs_limits.specs.declared.limits.Limits.{Limits}
use Rattle.hs_model.specs.declared.deed.Deed.{Deed}
use Rattle.hs_model.specs.declared.op.Op.{Op}
use Rattle.hs_model.specs.declared.op.Op.TheVariants as op
use Rattle.hs_model.specs.declared.reply.Reply.{Reply}
use Rattle.hs_model.specs.declared.reply.Reply.TheVariants as reply
use Rattle.hs_model.specs.Judge.{Judged, granted, judge, refusals, written_reply}
use Rattle.hs_model.specs.Refusals.{first}
use Rattle.hs_model.specs.Run.{Event, IsAllowed, IsLegal, asks, run}
use Rattle.hs_model.specs.Store.{Store}

-- an event, where there is one, is allowed
abbrev pub MayBe : Store → Option Event → Type 0
MayBe s None = Unit {0}
MayBe s (Some event) = IsAllowed s event

module _ (by : Judging) where
  -- ---- one behind another

  split_legal : (start : Store) (e : Option Event) (events : List Event) → IsLegal by.limits start (with_event e events) → MayBe start e × IsLegal by.limits (store_by by.limits start e) events
  split_legal start None events h = (tt, h)
  split_legal start (Some event) events h = (h.0, h.1)

  join_legal : (start : Store) (e : Option Event) (events : List Event) → MayBe start e → IsLegal by.limits (store_by by.limits start e) events → IsLegal by.limits start (with_event e events)
  join_legal start None events may h = h
  join_legal start (Some event) events may h = (may, h)

  run_with : (start : Store) (e : Option Event) (events : List Event) → run by.limits start (with_event e events) ≡ run by.limits (store_by by.limits start e) events
  run_with start None events = refl
  run_with start (Some event) events = refl

  pub tells_none : (s : Store) → Tells by s [] s
  tells_none s = record { legal = tt; answered = tt; left = refl }

  pub tells_join : (front back : List JournalEntry) (start mid after : Store) → Tells by start front mid → Tells by mid back after → Tells by start (front ++ back) after
  tells_join [] back start mid after one two = subst (λ s. Tells by s back after) (sym one.left) two
  tells_join (e ∷ front) back start mid after one two =
      let event : Option Event = event_at by.commands by.name start e in
      let next : Store = store_by by.limits start event in
      let parts : MayBe start event × IsLegal by.limits next (events_in by next front) = split_legal start event (events_in by next front) one.legal in
      let rest : Tells by next (front ++ back) after =
      tells_join front back next mid after (record { legal = parts.1; answered = one.answered.1; left = sym (run_with start event (events_in by next front)) ∙ one.left }) two in
      record {
        legal = join_legal start event (events_in by next (front ++ back)) parts.0 rest.legal;
        answered = (one.answered.0, rest.answered);
        left = run_with start event (events_in by next (front ++ back)) ∙ rest.left;
      }

  -- ---- one entry

  pub tells_one : (s : Store) (entry : JournalEntry) → MayBe s (event_at by.commands by.name s entry) → HasAnswer by.limits s entry (event_at by.commands by.name s entry)
      → Tells by s (entry ∷ []) (store_by by.limits s (event_at by.commands by.name s entry))
  tells_one s entry may has = record {
    legal = join_legal s (event_at by.commands by.name s entry) [] may tt;
    answered = (has, tt);
    left = run_with s (event_at by.commands by.name s entry) [];
  }

  -- one that tells of this event
  pub tells_event : (s : Store) (entry : JournalEntry) (e : Option Event) → event_at by.commands by.name s entry ≡ e → MayBe s e → HasAnswer by.limits s entry e → Tells by s (entry ∷ []) (store_by by.limits s e)
  tells_event s entry e is may has =
      subst (λ x. Tells by s (entry ∷ []) (store_by by.limits s x)) is
      (tells_one s entry (subst (λ x. MayBe s x) (sym is) may) (subst (λ x. HasAnswer by.limits s entry x) (sym is) has))

-- ---- the plain store refuses nobody as busy

granted_not_busy : (s : Store) (o : Op) → IsNotBusy (granted s o).reply
unfolding granted
granted_not_busy s (op.Open name) = tt
granted_not_busy s (op.Close name) = tt
granted_not_busy s (op.Write name payload handles address) = go _ _ _
  where
    go : (dup : Bool) (handle epoch : ℕ) → IsNotBusy (written_reply dup handle epoch)
    go true handle epoch = tt
    go false handle epoch = tt
granted_not_busy s (op.Read name handle) = tt
granted_not_busy s (op.Look name key) = tt
granted_not_busy s (op.Root name key handle) = tt
granted_not_busy s (op.Drop key) = tt
granted_not_busy s (op.Forget name handle) = tt
granted_not_busy s (op.Name name handle) = tt
granted_not_busy s op.Delete = tt
granted_not_busy s op.Stat = tt

pub judge_not_busy : (limits : Limits) (s : Store) (o : Op) → IsNotBusy (judge limits s o).reply
judge_not_busy limits s o = go (first (refusals limits s o)) refl
  where
    go : (x : Option Reply) → first (refusals limits s o) ≡ x → IsNotBusy (judge limits s o).reply
    go None e = subst (λ (j : Judged). IsNotBusy j.reply) (sym (judge_granted limits s o e)) (granted_not_busy s o)
    go (Some q) e =
        subst (λ (j : Judged). IsNotBusy j.reply) (sym (judge_refused limits s o q e))
        (subst (λ x. IsOfKind IsNotBusy x) e (store_stops IsNotBusy not_busy limits s o))

-- ---- entries of lines

asked_event : (name : List ℕ → Address) (s : Store) (o : Option Op) (r : Reply) → IsNotBusy r → line_event name s o r ≡ asked name s o
asked_event name s o (reply.Busy line) h = absurd h
asked_event name s o other h = refl

pub nobodys_event : (name : List ℕ → Address) (s : Store) (r : Reply) → line_event name s None r ≡ None
nobodys_event name s (reply.Busy line) = refl
nobodys_event name s other = refl

module _ (by : Judging) (s : Store) (line moment : ℕ) where
  abbrev entry : Deed → Reply → JournalEntry
  entry d r = record { who = who.Line line; moment = moment; deed = d; reply = r }

  -- what the judge says of a client's operation
  pub tells_judged : (said o : Op) → client_op (by.commands line) ≡ Some said → addressed by.name s said ≡ o
      → Tells by s (entry (judge by.limits s o).deed (judge by.limits s o).reply ∷ []) (judge by.limits s o).store
  tells_judged said o line_is same = tells_event by s (entry (judge by.limits s o).deed (judge by.limits s o).reply) (Some (asks o)) event tt (refl, refl)
    where
      event : event_at by.commands by.name s (entry (judge by.limits s o).deed (judge by.limits s o).reply) ≡ Some (asks o)
      event =
          asked_event by.name s (client_op (by.commands line)) (judge by.limits s o).reply (judge_not_busy by.limits s o)
          ∙ ap (λ x. asked by.name s x) line_is ∙ ap (λ (x : Op). Some (asks x)) same

  -- that its session is busy
  pub tells_busy : (other : ℕ) (d : Deed) → Tells by s (entry d (reply.Busy other) ∷ []) s
  tells_busy other d = tells_event by s (entry d (reply.Busy other)) None refl tt tt

  -- what is told a line that is no client's
  pub tells_nobody : (d : Deed) (r : Reply) → client_op (by.commands line) ≡ None → Tells by s (entry d r ∷ []) s
  tells_nobody d r none = tells_event by s (entry d r) None (ap (λ o. line_event by.name s o r) none ∙ nobodys_event by.name s r) tt tt
