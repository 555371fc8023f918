-- Events and answers of joined journals, and of journals whose other lines ask for something else.
use Rattle.std.proofs.Common.{◌≡◌, ℕ, List, [], ◌∷◌, ◌++◌, Option, Some, None, false, true, refl, ap, ◌∙◌, subst}
use Rattle.std.specs.List.{AllByRecursion}
use Rattle.hs_journal.specs.Events.{HasAnswer, IsAnswered, addressed, client_op, event_at, events_of, line_event, shard_event, store_by, with_event}
use Rattle.hs_journal.specs.declared.entry.JournalEntry.{JournalEntry}
use Rattle.hs_journal.specs.declared.entry.Who.{Who}
use Rattle.hs_journal.specs.declared.entry.Who.TheVariants as who
use Rattle.hs_limits.specs.declared.address.Address.{Address}
use Rattle.hs_limits.specs.declared.limits.Limits.{Limits}
use Rattle.hs_model.specs.Run.{Event, IsLegal, asks, run, step}
use Rattle.hs_model.specs.Store.{Session, Store, with_sessions}
use Rattle.hs_model.specs.declared.command.Command.{Command}
use Rattle.hs_model.specs.declared.deed.Deed.{Deed}
use Rattle.hs_model.specs.declared.deed.Deed.TheVariants as deed
use Rattle.hs_model.specs.declared.op.Op.{Op}
use Rattle.hs_model.specs.declared.op.Op.TheVariants as op
use Rattle.hs_model.specs.declared.reply.Reply.{Reply}
use Rattle.hs_model.specs.declared.reply.Reply.TheVariants as reply
use Rattle.hs_asking.specs.Asked.{IsOfNoLine}
use Rattle.hs_asking.specs.Judged.{IsInner}
use Rattle.hs_asking.specs.Lawful.{IsForALine}
use Rattle.hs_asking.specs.Telling.{MayBeTold, grants, may_be_told}

-- ---- runs

pub run-append : (limits : Limits) (s : Store) (es fs : List Event) → run limits s (es ++ fs) ≡ run limits (run limits s es) fs
run-append limits s [] fs = refl
run-append limits s (e ∷ es) fs = run-append limits (step limits s e).store es fs

pub legal_left : (limits : Limits) (s : Store) (es fs : List Event) → IsLegal limits s (es ++ fs) → IsLegal limits s es
legal_left limits s [] fs h = tt
legal_left limits s (e ∷ es) fs h = (h.0, legal_left limits (step limits s e).store es fs h.1)

pub legal_right : (limits : Limits) (s : Store) (es fs : List Event) → IsLegal limits s (es ++ fs) → IsLegal limits (run limits s es) fs
legal_right limits s [] fs h = h
legal_right limits s (e ∷ es) fs h = legal_right limits (step limits s e).store es fs h.1

-- ---- journals

module _ (commands : ℕ → Option Command) (name : List ℕ → Address) (limits : Limits) where
  abbrev pub events : Store → List JournalEntry → List Event
  events s xs = events_of commands name limits s xs

  pub events-append : (s : Store) (xs ys : List JournalEntry) → events s (xs ++ ys) ≡ events s xs ++ events (run limits s (events s xs)) ys
  events-append s [] ys = refl
  events-append s (x ∷ xs) ys = go (λ t. events-append t xs ys) (event_at commands name s x)
    where
      go : ((t : Store) → events t (xs ++ ys) ≡ events t xs ++ events (run limits t (events t xs)) ys) → (e : Option Event) → with_event e (events (store_by limits s e) (xs ++ ys)) ≡ with_event e (events (store_by limits s e) xs) ++ events (run limits s (with_event e (events (store_by limits s e) xs))) ys
      go ih None = ih s
      go ih (Some ev) = ap (λ es. ev ∷ es) (ih (step limits s ev).store)

  pub answered_left : (s : Store) (xs ys : List JournalEntry) → IsAnswered commands name limits s (xs ++ ys) → IsAnswered commands name limits s xs
  answered_left s [] ys h = tt
  answered_left s (x ∷ xs) ys h = (h.0, answered_left (store_by limits s (event_at commands name s x)) xs ys h.1)

  pub answered_right : (s : Store) (xs ys : List JournalEntry) → IsAnswered commands name limits s (xs ++ ys) → IsAnswered commands name limits (run limits s (events s xs)) ys
  answered_right s [] ys h = h
  answered_right s (x ∷ xs) ys h = go (λ t. answered_right t xs ys) (event_at commands name s x) h.1
    where
      go : ((t : Store) → IsAnswered commands name limits t (xs ++ ys) → IsAnswered commands name limits (run limits t (events t xs)) ys) → (e : Option Event) → IsAnswered commands name limits (store_by limits s e) (xs ++ ys) → IsAnswered commands name limits (run limits s (with_event e (events (store_by limits s e) xs))) ys
      go ih None g = ih s g
      go ih (Some ev) g = ih (step limits s ev).store g

  -- ---- entries of no line

  abbrev AreInner : Option Event → Type 0
  AreInner None = Unit {0}
  AreInner (Some e) = IsInner e

  inner_event : (s : Store) (x : JournalEntry) → IsOfNoLine x → IsForALine x → HasAnswer limits s x (event_at commands name s x) → AreInner (event_at commands name s x)
  inner_event s x nobody led = go x.who refl
    where
      by_deed : (g : ℕ) → x.who ≡ who.Shard g → (d : Deed) → HasAnswer limits s x (shard_event g d) → AreInner (shard_event g d)
      by_deed g e (deed.Entered other) h = λ z. led (e ∙ ap (λ n. who.Shard n) z) (h.1 ∙ ap (λ n. deed.Entered n) z)
      by_deed g e (deed.Swept other) h = tt
      by_deed g e other h = tt

      go : (w : Who) → x.who ≡ w → HasAnswer limits s x (event_at commands name s x) → AreInner (event_at commands name s x)
      go (who.Line n) e h = absurd (nobody n e)
      go (who.Shard g) e h = let k = rw e at h in rw e (by_deed g e x.deed k)
      go who.Store e h = rw e tt

  pub inner_events : (s : Store) (xs : List JournalEntry) → AllByRecursion IsOfNoLine xs → AllByRecursion IsForALine xs → IsAnswered commands name limits s xs → AllByRecursion IsInner (events s xs)
  inner_events s [] n l h = tt
  inner_events s (x ∷ xs) n l h = go (event_at commands name s x) (inner_event s x n.0 l.0 h.0) (λ e g. inner_events (store_by limits s e) xs n.1 l.1 g) h.1
    where
      go : (e : Option Event) → AreInner e → ((f : Option Event) → IsAnswered commands name limits (store_by limits s f) xs → AllByRecursion IsInner (events (store_by limits s f) xs)) → IsAnswered commands name limits (store_by limits s e) xs → AllByRecursion IsInner (with_event e (events (store_by limits s e) xs))
      go None i f g = f None g
      go (Some ev) i f g = (i, f (Some ev) g)

-- ---- other commands

-- an entry of a line finds the same operation there
abbrev pub FindsTheSame : (ℕ → Option Command) → (ℕ → Option Command) → JournalEntry → Type 0
FindsTheSame c d entry = (line : ℕ) → entry.who ≡ who.Line line → client_op (c line) ≡ client_op (d line)

module _ (c d : ℕ → Option Command) (name : List ℕ → Address) (limits : Limits) where
  event-same : (s : Store) (x : JournalEntry) → FindsTheSame c d x → event_at c name s x ≡ event_at d name s x
  event-same s x h = go x.who refl
    where
      go : (w : Who) → x.who ≡ w → event_at c name s x ≡ event_at d name s x
      go (who.Line n) e = rw e (ap (λ o. line_event name s o x.reply) (h n e))
      go (who.Shard g) e = rw e refl
      go who.Store e = rw e refl

  pub events-same : (s : Store) (xs : List JournalEntry) → AllByRecursion (FindsTheSame c d) xs → events_of c name limits s xs ≡ events_of d name limits s xs
  events-same s [] h = refl
  events-same s (x ∷ xs) h = go (λ t. events-same t xs h.1) (event_at c name s x) (event_at d name s x) (event-same s x h.0)
    where
      go : ((t : Store) → events_of c name limits t xs ≡ events_of d name limits t xs) → (e f : Option Event) → e ≡ f → with_event e (events_of c name limits (store_by limits s e) xs) ≡ with_event f (events_of d name limits (store_by limits s f) xs)
      go ih e f same = subst (λ z. with_event e (events_of c name limits (store_by limits s e) xs) ≡ with_event z (events_of d name limits (store_by limits s z) xs)) same (ap (λ es. with_event e es) (ih (store_by limits s e)))

-- ---- an operation that is answered

-- what other sessions make of an operation's address
pub addressed-sessions : (name : List ℕ → Address) (s t : Store) (o : Op) → s.sessions ≡ t.sessions → addressed name s o ≡ addressed name t o
addressed-sessions name s t (op.Write session payload handles address) e = ap (λ (x : List (List ℕ × Session)). addressed name (with_sessions s x) (op.Write session payload handles address)) e
addressed-sessions name s t other e = refl

never : false ≡ true → ⊥
never h = cc h

-- nothing is told that an asker's line is busy
busy_never : (o : Op) (line : ℕ) → MayBeTold o (reply.Busy line) → ⊥
unfolding may_be_told grants
busy_never (op.Open name) line h = never h
busy_never (op.Close name) line h = never h
busy_never (op.Write name payload handles address) line h = never h
busy_never (op.Read name handle) line h = never h
busy_never (op.Look name key) line h = never h
busy_never (op.Root name key handle) line h = never h
busy_never (op.Drop key) line h = never h
busy_never (op.Forget name handle) line h = never h
busy_never (op.Name name handle) line h = never h
busy_never op.Delete line h = never h
busy_never op.Stat line h = never h

pub line_event-told : (name : List ℕ → Address) (s : Store) (o : Op) (told : Reply) → MayBeTold o told → line_event name s (Some o) told ≡ Some (asks (addressed name s o))
line_event-told name s o (reply.Busy line) may = absurd (busy_never o line may)
line_event-told name s o other may = refl
