-- An ask whose journal is lawful is judged on the plain store.
use Rattle.std.proofs.Common.{◌≡◌, ℕ, List, [], ◌∷◌, ◌++◌, Option, Some, None, refl, sym, ap, ◌∙◌, subst}
use Rattle.std.specs.List.{AllByRecursion}
use Rattle.hs_journal.specs.Events.{HasAnswer, IsAnswered, addressed, client_op, event_at, events_of, store_by, with_event}
use Rattle.hs_journal.specs.declared.entry.JournalEntry.{JournalEntry}
use Rattle.hs_journal.specs.declared.entry.Who.TheVariants as who
use Rattle.hs_limits.specs.declared.address.Address.{Address}
use Rattle.hs_limits.specs.declared.limits.Limits.{Limits}
use Rattle.hs_model.specs.Judge.{judge}
use Rattle.hs_model.specs.Run.{Event, IsLegal, asks, enters, run, step, sweeps}
use Rattle.hs_model.specs.Store.{Store}
use Rattle.hs_model.specs.declared.command.Command.{Command}
use Rattle.hs_model.specs.declared.op.Op.{Op}
use Rattle.hs_model.specs.declared.reply.Reply.{Reply}
use Rattle.hs_asking.proofs.EventLemmas.{FindsTheSame, addressed-sessions, answered_left, answered_right, events-append, events-same, inner_events, legal_left, legal_right, line_event-told, run-append}
use Rattle.hs_asking.specs.Asked.{HasAsked, IsOfAnother, IsOfNoLine}
use Rattle.hs_asking.specs.Judged.{IsInner, IsJudged}
use Rattle.hs_asking.specs.Lawful.{AreAnswersOf, IsForALine}
use Rattle.hs_asking.specs.Shown.{Began, Shown, store_now}
use Rattle.hs_asking.specs.Telling.{MayBeTold}

-- what shards do leaves the sessions
pub inner-sessions : (limits : Limits) (s : Store) (es : List Event) → AllByRecursion IsInner es → (run limits s es).sessions ≡ s.sessions
inner-sessions limits s [] h = refl
inner-sessions limits s (asks o ∷ es) h = absurd h.0
inner-sessions limits s (enters shard ∷ es) h = inner-sessions limits (step limits s (enters shard)).store es h.1
inner-sessions limits s (sweeps shard ∷ es) h = inner-sessions limits (step limits s (sweeps shard)).store es h.1

all_left : {A : Type 0} (P : A → Type 0) (xs ys : List A) → AllByRecursion P (xs ++ ys) → AllByRecursion P xs
all_left P [] ys h = tt
all_left P (x ∷ xs) ys h = (h.0, all_left P xs ys h.1)

all_right : {A : Type 0} (P : A → Type 0) (xs ys : List A) → AllByRecursion P (xs ++ ys) → AllByRecursion P ys
all_right P [] ys h = h
all_right P (x ∷ xs) ys h = all_right P xs ys h.1

each_finds : (c d : ℕ → Option Command) (line : ℕ) → ((other : ℕ) → (other ≡ line → ⊥) → client_op (d other) ≡ client_op (c other)) → (xs : List JournalEntry) → AllByRecursion (IsOfAnother line) xs → AllByRecursion (FindsTheSame c d) xs
each_finds c d line others [] h = tt
each_finds c d line others (x ∷ xs) h = ((λ n e. sym (others n (λ z. h.0 (e ∙ ap (λ k. who.Line k) z)))), each_finds c d line others xs h.1)

module _ (commands : ℕ → Option Command) (name : List ℕ → Address) (limits : Limits) where
  -- from a store on, entries of no line, one of a line that is answered, and more of no line
  pub parts_judged : (s : Store) (front : List JournalEntry) (entry : JournalEntry) (back : List JournalEntry) (line : ℕ) (o : Op) (told : Reply)
      → AllByRecursion IsOfNoLine front → AllByRecursion IsOfNoLine back
      → entry.who ≡ who.Line line → client_op (commands line) ≡ Some o → entry.reply ≡ told → MayBeTold o told
      → addressed name s o ≡ o
      → AllByRecursion IsForALine (front ++ entry ∷ back)
      → IsAnswered commands name limits s (front ++ entry ∷ back)
      → IsLegal limits s (events_of commands name limits s (front ++ entry ∷ back))
      → IsJudged limits s (run limits s (events_of commands name limits s (front ++ entry ∷ back))) o told
  parts_judged s front entry back line o told nf nb of_line asks_it answer may named led answered legal =
      let es : List Event = events_of commands name limits s front in
      let u : Store = run limits s es in
      let rest : List JournalEntry = entry ∷ back in
      let split : events_of commands name limits s (front ++ rest) ≡ es ++ events_of commands name limits u rest = events-append commands name limits s front rest in
      let legal_split : IsLegal limits s (es ++ events_of commands name limits u rest) = subst (IsLegal limits s) split legal in
      let inner : AllByRecursion IsInner es = inner_events commands name limits s front nf (all_left IsForALine front rest led) (answered_left commands name limits s front rest answered) in
      let named_there : addressed name u o ≡ o = addressed-sessions name u s o (inner-sessions limits s es inner) ∙ named in
      let event : event_at commands name u entry ≡ Some (asks o) = rw (of_line, asks_it, answer) (line_event-told name u o told may ∙ ap (λ x. Some (asks x)) named_there) in
      let whole : run limits s (events_of commands name limits s (front ++ rest)) ≡ run limits u (events_of commands name limits u rest) = ap (λ x. run limits s x) split ∙ run-append limits s es (events_of commands name limits u rest) in
      subst (λ t. IsJudged limits s t o told) (sym whole)
      (later u es inner (legal_left limits s es _ legal_split) refl (event_at commands name u entry) event
      (answered_right commands name limits s front rest answered) (legal_right limits s es _ legal_split))
    where
      later : (u : Store) (es : List Event) → AllByRecursion IsInner es → IsLegal limits s es → run limits s es ≡ u
          → (e : Option Event) → e ≡ Some (asks o)
          → HasAnswer limits u entry e × IsAnswered commands name limits (store_by limits u e) back
          → IsLegal limits u (with_event e (events_of commands name limits (store_by limits u e) back))
          → IsJudged limits s (run limits u (with_event e (events_of commands name limits (store_by limits u e) back))) o told
      later u es inner legal_es leaves None e h l = cc e
      later u es inner legal_es leaves (Some ev) e h l =
          let is : ev ≡ asks o = cc e in
          let t : Store = (judge limits u o).store in
          let h' : HasAnswer limits u entry (Some (asks o)) × IsAnswered commands name limits t back = subst (λ z. HasAnswer limits u entry (Some z) × IsAnswered commands name limits (step limits u z).store back) is h in
          let l' : IsLegal limits u (asks o ∷ events_of commands name limits t back) = subst (λ z. IsLegal limits u (z ∷ events_of commands name limits (step limits u z).store back)) is l in
          subst (λ z. IsJudged limits s (run limits u (z ∷ events_of commands name limits (step limits u z).store back)) o told) (sym is)
          (record {
            at = u;
            before = record { events = es; inner = inner; legal = legal_es; leaves = leaves };
            reply = sym h'.0.0 ∙ answer;
            behind = record {
              events = events_of commands name limits t back;
              inner = inner_events commands name limits t back nb (all_right IsForALine front (entry ∷ back) led).1 h'.1;
              legal = l'.1;
              leaves = refl;
            };
          })

pub ask_judged : {tells : Type 0} → (b : Began) (old new : Shown tells) (o : Op) (told : Reply) → AreAnswersOf b new → HasAsked old new o told → addressed b.name (store_now b old) o ≡ o → IsJudged b.limits (store_now b old) (store_now b new) o told
ask_judged b old new o told law h named =
    let rest : List JournalEntry = h.front ++ h.entry ∷ h.back in
    let d : ℕ → Option Command = new.commands in
    let same : events_of old.commands b.name b.limits b.store old.journal ≡ events_of d b.name b.limits b.store old.journal = events-same old.commands d b.name b.limits b.store old.journal (each_finds old.commands d h.line h.others old.journal h.unused) in
    let es : List Event = events_of d b.name b.limits b.store old.journal in
    let s : Store = run b.limits b.store es in
    let here : store_now b old ≡ s = ap (λ x. run b.limits b.store x) same in
    let split : events_of d b.name b.limits b.store (old.journal ++ rest) ≡ es ++ events_of d b.name b.limits s rest = events-append d b.name b.limits b.store old.journal rest in
    let legal_all : IsLegal b.limits b.store (es ++ events_of d b.name b.limits s rest) = subst (IsLegal b.limits b.store) (ap (λ x. events_of d b.name b.limits b.store x) h.journal ∙ split) law.legal in
    let answered_all : IsAnswered d b.name b.limits b.store (old.journal ++ rest) = subst (IsAnswered d b.name b.limits b.store) h.journal law.answered in
    let led_all : AllByRecursion IsForALine (old.journal ++ rest) = subst (AllByRecursion IsForALine) h.journal law.led in
    let there : store_now b new ≡ run b.limits s (events_of d b.name b.limits s rest) = ap (λ x. run b.limits b.store x) (ap (λ x. events_of d b.name b.limits b.store x) h.journal ∙ split) ∙ run-append b.limits b.store es (events_of d b.name b.limits s rest) in
    let named_there : addressed b.name s o ≡ o = subst (λ z. addressed b.name z o ≡ o) here named in
    let found : IsJudged b.limits s (run b.limits s (events_of d b.name b.limits s rest)) o told =
    parts_judged d b.name b.limits s h.front h.entry h.back h.line o told h.before h.behind h.of_line h.asks h.answer h.may named_there (all_right IsForALine old.journal rest led_all) (answered_right d b.name b.limits b.store old.journal rest answered_all) (legal_right b.limits b.store es _ legal_all) in
    subst (λ z. IsJudged b.limits z (store_now b new) o told) (sym here) (subst (λ z. IsJudged b.limits s z o told) (sym there) found)
