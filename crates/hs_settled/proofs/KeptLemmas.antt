-- What stands between two events of a run, and stays so along them.
use Rattle.std.proofs.Common.{◌≡◌, inr, ◌∙◌, ap, sym, subst, ℕ, ◌*◌, ◌<◌, ◌++◌, true, List, [], ◌∷◌, Option, Some, None, IsSome, refl, arith, length, append-nil}
use Rattle.std.proofs.lemmas.List.{append_assoc}
use Rattle.std.specs.Option.{option_map}
use Rattle.hs_settled.proofs.AddingLemmas.{Ends, GoesOn, Grows, IsLate, step_grows}
use Rattle.hs_settled.proofs.AskLemmas.{AllAsk, Asks}
use Rattle.hs_settled.proofs.DatedLemmas.{dated_first, dated_on}
use Rattle.hs_settled.proofs.CausesFirstLemmas.{ends_first, limits_first, line_first, members_first, seats_first}
use Rattle.hs_settled.proofs.SeatLemmas.{Seated, failed_low, peers_in, seats_run}
use Rattle.hs_core_words.specs.declared.event.Event.{Event}
use Rattle.hs_core_words.specs.declared.event.Event.TheVariants as event
use Rattle.hs_core_words.specs.Looking.{shape_of}
use Rattle.hs_core_words.specs.Opening.{Taken, open_core}
use Rattle.hs_core_words.specs.State.{Core}
use Rattle.hs_core_words.specs.Step.{line_of, step}
use Rattle.hs_desk.specs.declared.done.Done.{Done}
use Rattle.hs_desk.specs.declared.done.Done.TheVariants as done
use Rattle.hs_events.specs.Course.{steps}
use Rattle.hs_events.specs.Due.{Events, is_answer}
use Rattle.hs_journal.specs.declared.entry.JournalEntry.{JournalEntry}
use Rattle.hs_journal.specs.Events.{client_op}
use Rattle.hs_journal.specs.Telling.{AreDated}
use Rattle.hs_limits.specs.declared.limits.Limits.{Limits}
use Rattle.hs_limits.specs.declared.shape.Shape.{Shape}
use Rattle.hs_standing.proofs.LinesStepLemmas.{step_line}
use Rattle.hs_members.specs.Members.{Members}
use Rattle.hs_model.specs.declared.command.Command.{Command}
use Rattle.hs_model.specs.declared.op.Op.{Op}
use Rattle.hs_settled.proofs.NotedEventLemmas.{line_then, step_noted}
use Rattle.hs_settled.proofs.NotedOpenLemmas.{opened_noted}
use Rattle.hs_settled.specs.Noted.{AllAreOwn, AllAnswer, IsAnswering, IsNoted, IsOfPeer, IsOwnEvent}
use Rattle.hs_told.proofs.OpenedLemmas.{opened_turn}
use Rattle.hs_told.proofs.OrderLemmas.{step_turn}
use Rattle.hs_told.specs.InTurn.{AllMayCome, IsInTurn, MayBegin, MayCome, bare, told_of}

abbrev pub peers_of_shape : Shape → ℕ
peers_of_shape shape = shape.shards * shape.copies

-- whoever it is
abbrev pub Anyone : ℕ → Type 0
Anyone x = Unit {0}

-- answers are in order, entries stand for something, notes have their line, and the core is of this shape with these limits
pub record Kept (commands : ℕ → Option Command) (shape : Shape) (limits : Limits) (c : Core) : Type 0 where
  pub turn : IsInTurn commands c
  pub noted : IsNoted commands c
  pub dated : AreDated commands (told_of c)
  pub seats : Seated (peers_of_shape shape) Anyone (peers_in c)
  pub shaped : shape_of c ≡ shape
  pub limited : c.limits ≡ limits
  pub ends : Ends c

-- ---- as a core opens

pub first_kept : (commands : ℕ → Option Command) (shape : Shape) (limits : Limits) (found : Taken) (moment : ℕ) → client_op (commands 0) ≡ None → length found.good ≡ shape.shards * shape.copies
    → Kept commands shape limits (open_core shape limits found moment)
first_kept commands shape limits found moment nobody peers =
    let turn : IsInTurn commands (open_core shape limits found moment) = opened_turn commands shape limits found moment nobody in
    record {
      turn = turn;
      noted = opened_noted commands shape limits found moment peers;
      dated = dated_first commands (open_core shape limits found moment) nobody (line_first shape limits found moment peers) turn;
      seats = seats_first shape limits found moment peers;
      shaped = ap (λ (m : Members). m.shape) (members_first shape limits found moment peers);
      limited = limits_first shape limits found moment peers;
      ends = ends_first shape limits found moment peers;
    }

module _ (commands : ℕ → Option Command) (shape : Shape) (limits : Limits) where
  abbrev K : Core → Type 0
  K c = Kept commands shape limits c

  -- ---- an event is of its line

  asks_some : (c : Option Command) (o : Op) → option_map bare (client_op c) ≡ Some (bare o) → IsSome (client_op c)
  asks_some c o e = go (client_op c) e
    where
      go : (x : Option Op) → option_map bare x ≡ Some (bare o) → IsSome x
      go None k = absurd (cc k)
      go (Some p) k = refl

  of_peer : (c : Core) (peer : ℕ) (d : Done) → K c → is_answer c peer d ≡ true → IsOfPeer (shape_of c) d
  of_peer c peer (done.Failed disk) p e = subst (λ (z : Shape). disk < z.shards * z.copies) (sym p.shaped) (failed_low (peers_of_shape shape) Anyone c p.seats peer disk e)
  of_peer c peer (done.Stored number) p e = tt
  of_peer c peer (done.Sealed number) p e = tt
  of_peer c peer (done.Bytes number bytes) p e = tt
  of_peer c peer (done.Gone number) p e = tt
  of_peer c peer done.Emptied p e = tt
  of_peer c peer (done.Copied number) p e = tt
  of_peer c peer (done.Stepped switched) p e = tt

  pub own_event : (e : Event) (c : Core) → K c → MayBegin commands c e → Asks commands c e → IsOwnEvent commands c e
  own_event (event.Line line o) c p may asks = (let above : c.progress.event_line < line = may.above in omega (arith, above), asks_some (commands line) o may.asks)
  own_event (event.Report peer d) c p may asks = of_peer c peer d p asks
  own_event (event.Turn line peer) c p may asks = (may.upward, inr asks)
  own_event (event.Deliver line number) c p may asks = (may.upward, asks)
  own_event (event.Lose line number) c p may asks = (may.upward, inr asks)
  own_event (event.Repeat line number) c p may asks = (may.upward, inr asks)
  own_event (event.Nudge line peer) c p may asks = (may.upward, asks)
  own_event (event.Fail line peer) c p may asks = (may.upward, inr asks)
  own_event (event.Start line peer) c p may asks = (may.upward, inr asks)

  pub answering : (e : Event) (c : Core) → Asks commands c e → IsAnswering c e
  answering (event.Line line o) c asks = tt
  answering (event.Report peer d) c asks = asks
  answering (event.Turn line peer) c asks = tt
  answering (event.Deliver line number) c asks = tt
  answering (event.Lose line number) c asks = tt
  answering (event.Repeat line number) c asks = tt
  answering (event.Nudge line peer) c asks = tt
  answering (event.Fail line peer) c asks = tt
  answering (event.Start line peer) c asks = tt

  -- ---- one event

  pub grows_by : (e : Event) (moment : ℕ) (c : Core) → K c → c.ended ≡ None → Grows (IsLate c.progress.event_line (line_then (line_of e) c)) c (step e moment c)
  grows_by e moment c p goes = step_grows commands c p.noted goes p.ends.fits e moment

  pub step_kept : (e : Event) (moment : ℕ) (c : Core) → K c → c.ended ≡ None → MayCome commands c e moment → Asks commands c e → K (step e moment c)
  step_kept e moment c p goes may asks = record {
    turn = turn;
    noted = step_noted commands e moment c p.noted (λ g. own_event e c p may.begins asks);
    dated = dated_on commands c (step e moment c) (line_then (line_of e) c) p.turn turn p.noted (step_line e moment c goes) grows p.dated;
    seats = seats_run (peers_of_shape shape) Anyone e moment c (λ x f low. tt) p.seats;
    shaped = grows.shape ∙ p.shaped;
    limited = grows.limits ∙ p.limited;
    ends = grows.ends;
  }
    where
      turn : IsInTurn commands (step e moment c)
      turn = step_turn commands e moment c p.turn (λ g. may)

      grows : Grows (IsLate c.progress.event_line (line_then (line_of e) c)) c (step e moment c)
      grows = grows_by e moment c p goes

  -- ---- any number of them

  pub all_kept : (c : Core) (es : Events) → K c → AllMayCome commands c es → AllAsk commands c es → K (steps c es)
  all_kept c [] p may ask = p
  all_kept c (e ∷ es) p may ask = all_kept (step e.0 e.1 c) es (step_kept e.0 e.1 c p ask.0.0 (may.0 ask.0.0) ask.0.1) may.1 ask.1

  pub all_go_on : (c : Core) (es : Events) → K c → AllMayCome commands c es → AllAsk commands c es → GoesOn c.journal (steps c es).journal
  all_go_on c [] p may ask = record { rest = []; is = sym (append-nil c.journal) }
  all_go_on c (e ∷ es) p may ask =
      let one : GoesOn c.journal (step e.0 e.1 c).journal = (grows_by e.0 e.1 c p ask.0.0).journal in
      let rest : GoesOn (step e.0 e.1 c).journal (steps (step e.0 e.1 c) es).journal = all_go_on (step e.0 e.1 c) es (step_kept e.0 e.1 c p ask.0.0 (may.0 ask.0.0) ask.0.1) may.1 ask.1 in
      record { rest = one.rest ++ rest.rest; is = rest.is ∙ ap (λ (js : List JournalEntry). js ++ rest.rest) one.is ∙ append_assoc c.journal one.rest rest.rest }

  pub all_own : (c : Core) (es : Events) → K c → AllMayCome commands c es → AllAsk commands c es → AllAreOwn commands c es
  all_own c [] p may ask = tt
  all_own c (e ∷ es) p may ask = ((λ g. own_event e.0 c p (may.0 ask.0.0).begins ask.0.1), all_own (step e.0 e.1 c) es (step_kept e.0 e.1 c p ask.0.0 (may.0 ask.0.0) ask.0.1) may.1 ask.1)

  pub all_answer : (c : Core) (es : Events) → AllAsk commands c es → AllAnswer c es
  all_answer c [] ask = tt
  all_answer c (e ∷ es) ask = (ask.0.0, answering e.0 c ask.0.1, all_answer (step e.0 e.1 c) es ask.1)

-- the parts of events one after another
pub come_first : (commands : ℕ → Option Command) (c : Core) (es fs : Events) → AllMayCome commands c (es ++ fs) → AllMayCome commands c es
come_first commands c [] fs a = tt
come_first commands c (e ∷ es) fs a = (a.0, come_first commands (step e.0 e.1 c) es fs a.1)

pub come_rest : (commands : ℕ → Option Command) (c : Core) (es fs : Events) → AllMayCome commands c (es ++ fs) → AllMayCome commands (steps c es) fs
come_rest commands c [] fs a = a
come_rest commands c (e ∷ es) fs a = come_rest commands (step e.0 e.1 c) es fs a.1

pub ask_first : (commands : ℕ → Option Command) (c : Core) (es fs : Events) → AllAsk commands c (es ++ fs) → AllAsk commands c es
ask_first commands c [] fs a = tt
ask_first commands c (e ∷ es) fs a = (a.0, ask_first commands (step e.0 e.1 c) es fs a.1)

pub ask_rest : (commands : ℕ → Option Command) (c : Core) (es fs : Events) → AllAsk commands c (es ++ fs) → AllAsk commands (steps c es) fs
ask_rest commands c [] fs a = a
ask_rest commands c (e ∷ es) fs a = ask_rest commands (step e.0 e.1 c) es fs a.1
