-- The events of lines are events that may begin, and with their moments events that may come.
use Rattle.std.proofs.Common.{◌≡◌, ◌⊎◌, inl, inr, ◌∙◌, ap, sym, subst, ℕ, ◌+◌, ◌<◌, ◌≤◌, ◌==◌, ◌&&◌, ◌++◌, Bool, true, false, not, List, [], ◌∷◌, Option, Some, None, IsSome, refl, length, is_none, ◌||◌, arith}
use Rattle.std.proofs.lemmas.Bool.{cases_eq, ne_eqb}
use Rattle.std.specs.Option.{option_and_then, option_map, option_map_or}
use Rattle.std.specs.Prelude.{if◌then◌else◌}
use Rattle.hs_core_words.specs.declared.event.Event.{Event}
use Rattle.hs_core_words.specs.declared.event.Event.TheVariants as event
use Rattle.hs_core_words.specs.State.{Core}
use Rattle.hs_core_words.specs.Step.{line_of, step}
use Rattle.hs_events.proofs.GoingLemmas.{step_goes}
use Rattle.hs_events.specs.Asked.{addressed}
use Rattle.hs_events.specs.Commands.{AreOfLine, BeginsWith, LineAt}
use Rattle.hs_events.specs.Course.{steps}
use Rattle.hs_events.specs.declared.due.Due.{Due}
use Rattle.hs_events.specs.declared.due.Place.{Place}
use Rattle.hs_events.specs.Due.{Events, MomentsRise, Walked, first_place, is_it, is_one, is_walk, next_due, place_after, raises_known, turn_behind, walk}
use Rattle.hs_journal.specs.Events.{client_op}
use Rattle.hs_limits.specs.declared.address.Address.{Address}
use Rattle.hs_standing.proofs.DueLemmas.{Fits, IsPart, behind_fits, is_part, next_fits, part_line}
use Rattle.hs_standing.proofs.LinesStepLemmas.{step_at, step_moves, went}
use Rattle.hs_standing.specs.Script.{AreLines, IsNext, Script, all_events}
use Rattle.hs_model.specs.declared.command.Command.{Command}
use Rattle.hs_model.specs.declared.command.Command.TheVariants as command
use Rattle.hs_model.specs.declared.op.Op.{Op}
use Rattle.hs_model.specs.declared.op.Op.TheVariants as op
use Rattle.hs_told.specs.InTurn.{AllMayCome, MayBegin, NoneBetween, OtherMay, bare}

-- each event may begin where it comes
abbrev pub AllBegin : (ℕ → Option Command) → Core → Events → Type 0
AllBegin commands core [] = Unit {0}
AllBegin commands core (e ∷ es) = (core.ended ≡ None → MayBegin commands core e.0) × AllBegin commands (step e.0 e.1 core) es

-- a line that is no client's is the last one, or is next
pub record IsUpTo (commands : ℕ → Option Command) (core : Core) (line : ℕ) : Type 0 where
  pub upward : core.progress.event_line ≤ line
  pub next : NoneBetween commands core line
  pub nobody : client_op (commands line) ≡ None

module _ (commands : ℕ → Option Command) where
  next_up : (core : Core) (line : ℕ) → IsNext commands core line → client_op (commands line) ≡ None → IsUpTo commands core line
  next_up core line its none = let above : core.progress.event_line < line = its.above in record { upward = omega (arith, above); next = its.next; nobody = none }

  up_next : (core : Core) (line : ℕ) → IsUpTo commands core line → IsNext commands core (line + 1)
  up_next core line up = record {
    above = let below : core.progress.event_line ≤ line = up.upward in omega (arith, below);
    next = λ k low high. elim (cases_eq k line) [ inl e ↦ ap (λ n. client_op (commands n)) e ∙ up.nobody | inr d ↦ up.next k low (omega (arith, high, d)) ];
  }

  up_moved : (c d : Core) (line : ℕ) → IsUpTo commands c line → (d.progress.event_line ≡ c.progress.event_line) ⊎ (d.progress.event_line ≡ line) → IsUpTo commands d line
  up_moved c d line up (inl e) = record {
    upward = let below : c.progress.event_line ≤ line = up.upward in omega (arith, below, e);
    next = λ k low high. up.next k (omega (arith, low, e)) high;
    nobody = up.nobody;
  }
  up_moved c d line up (inr e) = record {
    upward = omega (arith, e);
    next = λ k low high. absurd (omega (arith, low, high, e));
    nobody = up.nobody;
  }

  -- ---- what is due

  part_begins : (line : ℕ) (core : Core) (e : Event) → IsUpTo commands core line → IsPart line core e → MayBegin commands core e
  part_begins line core (event.Line l o) up p = absurd p
  part_begins line core (event.Report peer r) up p = tt
  part_begins line core (event.Turn l peer) up p = absurd p
  part_begins line core (event.Deliver l number) up p =
      subst (λ n. OtherMay commands core n (event.Deliver l number)) (sym p.0) (record { upward = up.upward; next = up.next; nobody = up.nobody; once = inr p.1 })
  part_begins line core (event.Lose l number) up p = absurd p
  part_begins line core (event.Repeat l number) up p = absurd p
  part_begins line core (event.Nudge l peer) up p =
      subst (λ n. OtherMay commands core n (event.Nudge l peer)) (sym p.0) (record { upward = up.upward; next = up.next; nobody = up.nobody; once = inr p.1 })
  part_begins line core (event.Fail l peer) up p = absurd p
  part_begins line core (event.Start l peer) up p = absurd p

  part_moves : (line : ℕ) (core : Core) (e : Event) (at : ℕ) → IsUpTo commands core line → IsPart line core e → IsUpTo commands (step e at core) line
  part_moves line core e at up p = up_moved core (step e at core) line up (step_moves e at line core (part_line line core e p))

  -- some events may begin, and the line is then still one that may go on
  pub record Goes (line : ℕ) (core : Core) (es : Events) : Type 0 where
    pub begin : AllBegin commands core es
    pub up : IsUpTo commands (steps core es) line

  -- from where they stand
  walk_goes : (due : Place → Core → Option Due) → ((place : Place) (core : Core) (d : Due) → due place core ≡ Some d → Fits core d)
      → (line : ℕ) (at : Walked) (es : Events) (end : Walked) → walk due line at es ≡ Some end → IsUpTo commands at.core line → Goes line at.core es
  walk_goes due fits line at [] end h up = record { begin = tt; up = up }
  walk_goes due fits line at (e ∷ es) end h up = by_due (λ next g p. walk_goes due fits line next es end g p) (due at.place at.core) refl h
    where
      Again : Type 0
      Again = (next : Walked) → walk due line next es ≡ Some end → IsUpTo commands next.core line → Goes line next.core es

      after : Core
      after = step e.0 e.1 at.core

      behind : Due → Walked
      behind d = record { place = place_after d (raises_known at.core after) at.place; core = after }

      by_it : Again → (d : Due) (b : Bool) → due at.place at.core ≡ Some d → is_it line at.core d e.0 ≡ b
          → option_and_then (λ next. walk due line next es) (if b then Some (behind d) else None) ≡ Some end → Goes line at.core (e ∷ es)
      by_it again d true is it k =
          let p : IsPart line at.core e.0 = is_part line at.core d e.0 (fits at.place at.core d is) it in
          let rest : Goes line after es = again (behind d) k (part_moves line at.core e.0 e.1 up p) in
          record { begin = (λ going. part_begins line at.core e.0 up p, rest.begin); up = rest.up }
      by_it again d false is it k = absurd (cc k)

      by_due : Again → (o : Option Due) → due at.place at.core ≡ o
          → option_and_then (λ next. walk due line next es) (option_and_then (λ d. if is_it line at.core d e.0 then Some (behind d) else None) o) ≡ Some end → Goes line at.core (e ∷ es)
      by_due again None is k = absurd (cc k)
      by_due again (Some d) is k = by_it again d (is_it line at.core d e.0) is refl k

  pub settle_goes : (whole : Bool) (line : ℕ) (core : Core) (es : Events) → is_walk next_due whole line core es ≡ true → IsUpTo commands core line → Goes line core es
  settle_goes whole line core es h up = by_end (walk next_due line (record { place = first_place; core = core }) es) refl h
    where
      by_end : (o : Option Walked) → walk next_due line (record { place = first_place; core = core }) es ≡ o
          → option_map_or (λ at. not whole || is_none (next_due at.place at.core)) o false ≡ true → Goes line core es
      by_end None e k = absurd (cc k)
      by_end (Some end) e k = walk_goes next_due next_fits line (record { place = first_place; core = core }) es end e up

  pub opening_goes : (whole : Bool) (core : Core) (es : Events) → client_op (commands 0) ≡ None → core.progress.event_line ≡ 0 → is_walk next_due whole 0 core es ≡ true → Goes 0 core es
  opening_goes whole core es none zero walks =
      settle_goes whole 0 core es walks (record { upward = omega (arith, zero); next = λ k low high. absurd (omega (arith, high)); nobody = none })

  pub first_next : (whole : Bool) (core : Core) (es : Events) → client_op (commands 0) ≡ None → core.progress.event_line ≡ 0 → is_walk next_due whole 0 core es ≡ true → IsNext commands (steps core es) 1
  first_next whole core es none zero walks = up_next (steps core es) 0 (opening_goes whole core es none zero walks).up

  one_goes : (line : ℕ) (core : Core) (whole : Bool) (o : Option Due) (es : Events) → ((d : Due) → o ≡ Some d → Fits core d)
      → is_one o whole line core es ≡ true → IsUpTo commands core line → Goes line core es
  one_goes line core whole None [] fits h up = record { begin = tt; up = up }
  one_goes line core whole None (e ∷ es) fits h up = absurd (cc h)
  one_goes line core whole (Some d) [] fits h up = record { begin = tt; up = up }
  one_goes line core whole (Some d) (e ∷ []) fits h up = by_it (is_it line core d e.0) refl h
    where
      by_it : (b : Bool) → is_it line core d e.0 ≡ b → (b && true) ≡ true → Goes line core (e ∷ [])
      by_it true it k =
          let p : IsPart line core e.0 = is_part line core d e.0 (fits d refl) it in
          record { begin = (λ going. part_begins line core e.0 up p, tt); up = part_moves line core e.0 e.1 up p }
      by_it false it k = absurd (cc k)
  one_goes line core whole (Some d) (e ∷ f ∷ es) fits h up = by_it (is_it line core d e.0) h
    where
      more : (length (f ∷ es) == 0) ≡ false
      more = ne_eqb (length (f ∷ es)) 0 (λ n. omega (arith, n))

      by_it : (b : Bool) → (b && (length (f ∷ es) == 0)) ≡ true → Goes line core (e ∷ f ∷ es)
      by_it true k = let both : false ≡ true = sym more ∙ k in absurd (cc both)
      by_it false k = absurd (cc k)

  -- ---- a line

  -- its events may begin, and where it was gone past, the line behind it is next
  pub record Passes (at : LineAt) : Type 0 where
    pub begin : AllBegin commands at.core at.events
    pub next : at.whole ≡ true → at.core.ended ≡ None → IsNext commands (steps at.core at.events) (at.line + 1)

  goes_passes : (at : LineAt) → Goes at.line at.core at.events → Passes at
  goes_passes at goes = record { begin = goes.begin; next = λ whole going. up_next (steps at.core at.events) at.line goes.up }

  other_passes : (at : LineAt) (asked : Event) (due : Core → Option Due) → ((core : Core) (d : Due) → due core ≡ Some d → Fits core d)
      → IsUpTo commands at.core at.line → line_of asked ≡ at.line → MayBegin commands at.core asked → BeginsWith at asked due → Passes at
  other_passes at asked due fits up of may begins = go at.events begins
    where
      it : Events → LineAt
      it es = record { line = at.line; core = at.core; events = es; whole = at.whole }

      go : (es : Events) → BeginsWith (it es) asked due → Passes (it es)
      go [] cut = record { begin = tt; next = λ whole going. let both : false ≡ true = sym cut ∙ whole in absurd (cc both) }
      go (e ∷ es) (same, one) =
          let after : Core = step e.0 e.1 at.core in
          let up_after : IsUpTo commands after at.line = up_moved at.core after at.line up (step_moves e.0 e.1 at.line at.core (inr (ap line_of same ∙ of))) in
          let rest : Goes at.line after es = one_goes at.line after at.whole (due after) es (fits after) one up_after in
          goes_passes (it (e ∷ es)) (record { begin = (λ going. subst (λ x. MayBegin commands at.core x) (sym same) may, rest.begin); up = rest.up })

  same_bare : (name : List ℕ → Address) (core : Core) (o : Op) → bare o ≡ bare (addressed name core.sessions o)
  same_bare name core (op.Open session) = refl
  same_bare name core (op.Close session) = refl
  same_bare name core (op.Write session payload handles address) = refl
  same_bare name core (op.Read session handle) = refl
  same_bare name core (op.Look session key) = refl
  same_bare name core (op.Root session key handle) = refl
  same_bare name core (op.Drop key) = refl
  same_bare name core (op.Forget session handle) = refl
  same_bare name core (op.Name session handle) = refl
  same_bare name core op.Delete = refl
  same_bare name core op.Stat = refl

  client_passes : (name : List ℕ → Address) (at : LineAt) (o : Op) → commands at.line ≡ Some (command.Client o) → IsNext commands at.core at.line
      → BeginsWith at (event.Line at.line (addressed name at.core.sessions o)) (λ core. None) → Passes at
  client_passes name at o is its begins = go at.events begins
    where
      it : Events → LineAt
      it es = record { line = at.line; core = at.core; events = es; whole = at.whole }

      asked : Event
      asked = event.Line at.line (addressed name at.core.sessions o)

      may : MayBegin commands at.core asked
      may = record { above = its.above; next = its.next; asks = ap (λ c. option_map bare (client_op c)) is ∙ ap (λ x. Some x) (same_bare name at.core o) }

      last : (e : Event × ℕ) → e.0 ≡ asked → at.core.ended ≡ None → (step e.0 e.1 at.core).progress.event_line ≡ at.line
      last e same going = step_at e.0 e.1 at.line at.core going (ap line_of same) (let above : at.core.progress.event_line < at.line = its.above in omega (arith, above))

      go : (es : Events) → BeginsWith (it es) asked (λ core. None) → Passes (it es)
      go [] cut = record { begin = tt; next = λ whole going. let both : false ≡ true = sym cut ∙ whole in absurd (cc both) }
      go (e ∷ []) (same, one) = record {
        begin = (λ going. subst (λ x. MayBegin commands at.core x) (sym same) may, tt);
        next = λ whole going. record {
          above = omega (arith, last e same going);
          next = λ k low high. absurd (omega (arith, low, high, last e same going));
        };
      }
      go (e ∷ f ∷ es) (same, one) = absurd (cc one)

  pub line_passes : (name : List ℕ → Address) (at : LineAt) → IsNext commands at.core at.line → AreOfLine name at (commands at.line) → Passes at
  line_passes name at its are = by_command (commands at.line) refl are
    where
      up : (c : Option Command) → commands at.line ≡ c → client_op c ≡ None → IsUpTo commands at.core at.line
      up c is none = next_up at.core at.line its (ap client_op is ∙ none)

      may : (c : Command) (e : Event) → commands at.line ≡ Some c → client_op (Some c) ≡ None → OtherMay commands at.core at.line e
      may c e is none =
          let u : IsUpTo commands at.core at.line = up (Some c) is none in
          record { upward = u.upward; next = u.next; nobody = u.nobody; once = inl (its.above, subst (λ o. IsSome o) (sym is) refl) }

      nothing : (core : Core) (d : Due) → None ≡ Some d → Fits core d
      nothing core d h = absurd (cc h)

      by_command : (c : Option Command) → commands at.line ≡ c → AreOfLine name at c → Passes at
      by_command None is empty =
          goes_passes at (subst (λ es. Goes at.line at.core es) (sym empty) (record { begin = tt; up = up None is refl }))
      by_command (Some (command.Client o)) is a = client_passes name at o is its a
      by_command (Some command.Settle) is a = goes_passes at (settle_goes at.whole at.line at.core at.events a (up (Some command.Settle) is refl))
      by_command (Some (command.Turn peer)) is a =
          other_passes at (event.Turn at.line peer) (turn_behind peer) (behind_fits peer) (up (Some (command.Turn peer)) is refl) refl (may (command.Turn peer) (event.Turn at.line peer) is refl) a
      by_command (Some (command.Nudge peer)) is a =
          other_passes at (event.Nudge at.line peer) (λ core. None) nothing (up (Some (command.Nudge peer)) is refl) refl (may (command.Nudge peer) (event.Nudge at.line peer) is refl) a
      by_command (Some (command.Deliver number)) is a =
          other_passes at (event.Deliver at.line number) (λ core. None) nothing (up (Some (command.Deliver number)) is refl) refl (may (command.Deliver number) (event.Deliver at.line number) is refl) a
      by_command (Some (command.Lose number)) is a =
          other_passes at (event.Lose at.line number) (λ core. None) nothing (up (Some (command.Lose number)) is refl) refl (may (command.Lose number) (event.Lose at.line number) is refl) a
      by_command (Some (command.Repeat number)) is a =
          other_passes at (event.Repeat at.line number) (λ core. None) nothing (up (Some (command.Repeat number)) is refl) refl (may (command.Repeat number) (event.Repeat at.line number) is refl) a
      by_command (Some (command.Fail peer)) is a =
          other_passes at (event.Fail at.line peer) (λ core. None) nothing (up (Some (command.Fail peer)) is refl) refl (may (command.Fail peer) (event.Fail at.line peer) is refl) a
      by_command (Some (command.Start peer)) is a =
          other_passes at (event.Start at.line peer) (λ core. None) nothing (up (Some (command.Start peer)) is refl) refl (may (command.Start peer) (event.Start at.line peer) is refl) a
      by_command (Some (command.Reclaim peer)) is a = absurd a

  -- ---- lines

  all_append : (core : Core) (es fs : Events) → AllBegin commands core es → AllBegin commands (steps core es) fs → AllBegin commands core (es ++ fs)
  all_append core [] fs a b = b
  all_append core (e ∷ es) fs a b = (a.0, all_append (step e.0 e.1 core) es fs a.1 b)

  -- with their moments
  pub all_come : (core : Core) (es : Events) (from to : ℕ) → (core.ended ≡ None → core.moment ≤ from) → MomentsRise from es to → AllBegin commands core es → AllMayCome commands core es
  all_come core [] from to low rise a = tt
  all_come core (e ∷ es) from to low rise a = (
    (λ going. record { later = let l : core.moment ≤ from = low going in let r : from ≤ e.1 = rise.0 in omega (arith, l, r); begins = a.0 going }),
    all_come (step e.0 e.1 core) es e.1 to (λ going. let at : (step e.0 e.1 core).moment ≡ e.1 = (step_goes e.0 e.1 core (went e.0 e.1 core going)).moment in omega (arith, at)) rise.1 a.1,
  )

pub lines_begin : (s : Script) (line : ℕ) (core : Core) (lines : List Events) → IsNext s.commands core line → AreLines s line core lines → AllBegin s.commands core (all_events lines)
lines_begin s line core [] its are = tt
lines_begin s line core (es ∷ []) its are =
    all_append s.commands core es [] (line_passes s.commands s.name (record { line = line; core = core; events = es; whole = s.past }) its are.events).begin tt
lines_begin s line core (es ∷ next ∷ rest) its are =
    let first : Passes s.commands (record { line = line; core = core; events = es; whole = true }) = line_passes s.commands s.name (record { line = line; core = core; events = es; whole = true }) its are.0.events in
    all_append s.commands core es (all_events (next ∷ rest)) first.begin (lines_begin s (line + 1) (steps core es) (next ∷ rest) (first.next refl are.0.going) are.1)
