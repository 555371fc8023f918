-- Behind each of any events that come, a core's journal is one of deeds, where it was one before.
use Rattle.std.proofs.Common.{◌≡◌, sym, ap, subst, ℕ, suc, ◌==◌, ◌<◌, ◌||◌, Bool, true, false, List, [], ◌∷◌, map, Option, None, is_some, refl, arith, not, append-nil, ◌∙◌, ◌++◌}
use Rattle.std.proofs.lemmas.Bool.Decides.{nat_tests}
use Rattle.std.specs.List.{list_any}
use Rattle.std.specs.Option.{option_map, option_map_or}
use Rattle.hs_any_events.proofs.AlongLemmas.{any_report, line_more as steady_more, new_line}
use Rattle.hs_any_events.proofs.BytesLemmas.{ReadsAnyBytes}
use Rattle.hs_any_events.proofs.CodedLemmas.{Code, coded_name}
use Rattle.hs_any_events.proofs.CodedTableLemmas.{brought_by, is_tabled}
use Rattle.hs_any_events.specs.Events.{ComesNext, LineBringsAddress}
use Rattle.hs_awaiting.specs.declared.waiting.Waiting.{Waiting}
use Rattle.hs_core_words.specs.Calls.{last_line_after}
use Rattle.hs_core_words.specs.declared.event.Event.{Event}
use Rattle.hs_core_words.specs.declared.event.Event.TheVariants as event
use Rattle.hs_core_words.specs.Looking.{shape_of}
use Rattle.hs_core_words.specs.State.{Core}
use Rattle.hs_core_words.specs.Step.{step}
use Rattle.hs_deeds.proofs.GivenDeedLemmas.{ByPointers}
use Rattle.hs_deeds.proofs.WalkLemmas.{IsClean, MayComeHere, TellsDeeds, is_others, views_tell, walks_tell}
use Rattle.hs_deeds.specs.History.{AreClients, HasTold, deeds_of}
use Rattle.hs_deeds.specs.On.{AreUnanswered}
use Rattle.hs_effects.proofs.SweepLemmas.{ByViews}
use Rattle.hs_journal.specs.declared.entry.JournalEntry.{JournalEntry}
use Rattle.hs_journal.specs.declared.entry.Who.{Who}
use Rattle.hs_journal.specs.declared.entry.Who.TheVariants as who
use Rattle.hs_journal.specs.Deeds.{as_deed, line_answered}
use Rattle.hs_journal.specs.Events.{client_op}
use Rattle.hs_journal.specs.Order.{IsOfLine}
use Rattle.hs_limits.specs.declared.address.Address.{Address}
use Rattle.hs_limits.specs.declared.limits.Limits.{Limits}
use Rattle.hs_model.proofs.Members.{Member}
use Rattle.hs_model.specs.declared.command.Command.{Command}
use Rattle.hs_model.specs.declared.op.Op.{Op}
use Rattle.hs_model.specs.Deeds.{is_answered}
use Rattle.hs_model.specs.Store.{Store}
use Rattle.hs_moments.proofs.CoreLemmas.{line_at}
use Rattle.hs_standing.proofs.AlongWalkLemmas.{copies_step}
use Rattle.hs_standing.proofs.Laws.{Entries, Steps}
use Rattle.hs_standing.specs.Copies.{ComesOn}
use Rattle.hs_standing.specs.Held.{GivesAddresses}
use Rattle.hs_standing.specs.Walks.{MayEvent}
use Rattle.hs_told.specs.InTurn.{IsInTurn}

-- ---- lines

same_number : (a b : ℕ) → (a == b) ≡ true → a ≡ b
same_number a b e = grind (arith, nat_tests, e)

-- where no entry is of a line, none answers it
none_answers : (es : List JournalEntry) (n : ℕ) → ((i : ℕ) → IsOfLine es i n → ⊥) → is_answered (map as_deed es) n ≡ false
none_answers [] n none = refl
none_answers (e ∷ es) n none = by e.who refl (none_answers es n (λ i of. none (suc i) (record { entry = of.entry; at = of.at; line = of.line })))
  where
    others : Bool
    others = list_any (λ x. option_map_or (λ k. k == n) x.line false) (map as_deed es)

    by : (w : Who) → e.who ≡ w → others ≡ false → (option_map_or (λ k. k == n) (line_answered e.who) false || others) ≡ false
    by (who.Line k) is rest = ap (λ (x : Who). option_map_or (λ m. m == n) (line_answered x) false || others) is ∙ go (k == n) refl
      where
        go : (b : Bool) → (k == n) ≡ b → (b || others) ≡ false
        go false at = rest
        go true at = absurd (none 0 (record { entry = e; at = refl; line = is ∙ ap (λ (m : ℕ). who.Line m) (same_number k n at) }))
    by (who.Shard g) is rest = ap (λ (x : Who). option_map_or (λ m. m == n) (line_answered x) false || others) is ∙ rest
    by who.Store is rest = ap (λ (x : Who). option_map_or (λ m. m == n) (line_answered x) false || others) is ∙ rest

-- where each entry is of a line that is a client's, none is of another
all_clean : (clients : ℕ → Bool) (es : List JournalEntry) → ((i n : ℕ) → IsOfLine es i n → clients n ≡ true) → IsClean clients (map as_deed es)
all_clean clients [] all = refl
all_clean clients (e ∷ es) all = by e.who refl (all_clean clients es (λ i n of. all (suc i) n (record { entry = of.entry; at = of.at; line = of.line })))
  where
    others : Bool
    others = list_any (is_others clients) (map as_deed es)

    by : (w : Who) → e.who ≡ w → others ≡ false → (option_map_or (λ (n : ℕ). not (clients n)) (line_answered e.who) false || others) ≡ false
    by (who.Line k) is rest =
        ap (λ (x : Who). option_map_or (λ (n : ℕ). not (clients n)) (line_answered x) false || others) is
        ∙ ap (λ (b : Bool). not b || others) (all 0 k (record { entry = e; at = refl; line = is })) ∙ rest
    by (who.Shard g) is rest = ap (λ (x : Who). option_map_or (λ (n : ℕ). not (clients n)) (line_answered x) false || others) is ∙ rest
    by who.Store is rest = ap (λ (x : Who). option_map_or (λ (n : ℕ). not (clients n)) (line_answered x) false || others) is ∙ rest

-- ---- a core between two events

abbrev pub clients_of : (ℕ → Option Command) → ℕ → Bool
clients_of commands n = is_some (client_op (commands n))

pub record GoesOnTelling (code : Code) (limits : Limits) (start : Store) (commands : ℕ → Option Command) (c : Core) : Type 0 where
  pub turn : IsInTurn commands c
  pub tells : TellsDeeds code limits c.progress.last_line start (clients_of commands) c

-- an event is a client's line, a report, or of a line that is no client's
abbrev pub IsNobodys : (ℕ → Option Command) → Event → Type 0
IsNobodys commands (event.Line line o) = Unit {0}
IsNobodys commands (event.Report peer d) = Unit {0}
IsNobodys commands (event.Turn line peer) = client_op (commands line) ≡ None
IsNobodys commands (event.Deliver line number) = client_op (commands line) ≡ None
IsNobodys commands (event.Lose line number) = client_op (commands line) ≡ None
IsNobodys commands (event.Repeat line number) = client_op (commands line) ≡ None
IsNobodys commands (event.Nudge line peer) = client_op (commands line) ≡ None
IsNobodys commands (event.Fail line peer) = client_op (commands line) ≡ None
IsNobodys commands (event.Start line peer) = client_op (commands line) ≡ None

-- what comes next in such a core
pub record ComesThere (code : Code) (commands : ℕ → Option Command) (event : Event) (core : Core) : Type 0 where
  pub next : ComesNext event core
  pub within : (a : Address) → Member a (brought_by event) → Member a code.table
  pub nobodys : IsNobodys commands event

-- no operation that waits is answered
none_answered : (commands : ℕ → Option Command) (c : Core) → IsInTurn commands c → AreUnanswered c (deeds_of c)
none_answered commands c turn line w at =
    ap (λ (es : List JournalEntry). is_answered (map as_deed es) line) (ap (λ (es : List JournalEntry). (c.journal ++ c.refused) ++ es) turn.told ∙ append-nil (c.journal ++ c.refused))
    ∙ none_answers (c.journal ++ c.refused) line (turn.turns.unanswered line w.operation.op (ap (λ (x : Option Waiting). option_map (λ (u : Waiting). u.operation.op) x) at))

-- so where each line of a command is a client's, all that was told is deeds
pub has_told : (code : Code) (limits : Limits) (start : Store) (commands : ℕ → Option Command) (c : Core) → AreClients commands → GoesOnTelling code limits start commands c → HasTold limits start c
has_told code limits start commands c clients its =
    its.tells.told
    (subst (λ (es : List JournalEntry). IsClean (clients_of commands) (map as_deed es)) (sym (ap (λ (es : List JournalEntry). (c.journal ++ c.refused) ++ es) its.turn.told ∙ append-nil (c.journal ++ c.refused)))
    (all_clean (clients_of commands) (c.journal ++ c.refused) (λ i n of. clients n (its.turn.turns.ordered.named i n of))))

-- ---- one event

module _ (views : ByViews) (shown : ByPointers) (steps : Steps) (reads : ReadsAnyBytes) (laws : Entries) (code : Code) (names : GivesAddresses (coded_name code)) (limits : Limits) (start : Store) (commands : ℕ → Option Command) where
  abbrev Goes : Core → Type 0
  Goes c = GoesOnTelling code limits start commands c

  module _ (core : Core) (its : GoesOnTelling code limits start commands core) where
    none_of : (line : ℕ) → client_op (commands line) ≡ None → clients_of commands line ≡ false
    none_of line none = ap (λ (x : Option Op). is_some x) none

    may_event : (e : Event) → ComesThere code commands e core → MayEvent (λ line o c. MayComeHere code (last_line_after e core) line o c) (λ number bytes w c. Unit {0}) (λ line. clients_of commands line ≡ false) e core
    may_event (event.Line line o) comes =
        let up : core.progress.last_line < line = comes.next.next in
        let given : LineBringsAddress (event.Line line o) core = comes.next.given in
        record {
          tabled = record { new = new_line code limits core its.tells.its line up; counted = omega (arith, up); until = omega arith; tabled = is_tabled code core.sessions o comes.within given };
          unanswered = none_answered commands core its.turn;
        }
    may_event (event.Report peer d) comes = any_report peer d core
    may_event (event.Turn line peer) comes = none_of line comes.nobodys
    may_event (event.Deliver line number) comes = none_of line comes.nobodys
    may_event (event.Lose line number) comes = none_of line comes.nobodys
    may_event (event.Repeat line number) comes = none_of line comes.nobodys
    may_event (event.Nudge line peer) comes = none_of line comes.nobodys
    may_event (event.Fail line peer) comes = none_of line comes.nobodys
    may_event (event.Start line peer) comes = none_of line comes.nobodys

    line_more : (e : Event) → ComesThere code commands e core → TellsDeeds code limits (last_line_after e core) start (clients_of commands) core
    line_more e comes = record {
      its = steady_more code limits core its.tells.its e comes.next.next;
      points = its.tells.points;
      told = its.tells.told;
    }

  -- with any number of copies
  pub next_tells : (e : Event) (at : ℕ) (c : Core) → c.ended ≡ None → c.refused ≡ [] → ComesOn (ComesThere code commands) e c → IsInTurn commands (step e at c) → GoesOnTelling code limits start commands c → GoesOnTelling code limits start commands (step e at c)
  next_tells e at c going clean come turn s =
      let last : ℕ = last_line_after e c in
      record {
        turn = turn;
        tells = subst (λ (n : ℕ). TellsDeeds code limits n start (clients_of commands) (step e at c)) (sym (line_at c e at going))
            (copies_step (walks_tell views shown steps reads laws code names limits last start (clients_of commands)) c (views_tell views shown steps reads laws code names limits last start (clients_of commands) (shape_of c)) e at going
            come.seated come.known come.room clean (may_event c s e come.may) (line_more c s e come.may));
      }
