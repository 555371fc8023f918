-- Lines that are answered in their own event have their entries.
use Rattle.std.proofs.Common.{◌≡◌, ◌⊎◌, inl, inr, ◌∙◌, ap, sym, subst, ℕ, zero, suc, ◌+◌, ◌<◌, ◌≤◌, ◌++◌, Bool, true, List, [], ◌∷◌, Some, None, IfSome, refl, arith, length, append-nil}
use Rattle.std.proofs.lemmas.Bool.{cases_eq}
use Rattle.std.proofs.lemmas.Grind.{flat_map-append}
use Rattle.std.specs.Prelude.{flat_map}
use Rattle.hs_settled.proofs.AddingLemmas.{GoesOn}
use Rattle.hs_settled.proofs.AskLemmas.{AllAsk, LastSpoke, line_reached, line_says, next_going, prompt_one, prompt_speaks}
use Rattle.hs_settled.proofs.DatedLemmas.{of_left, prompt_told}
use Rattle.hs_settled.proofs.KeptLemmas.{Kept, all_go_on, all_kept, ask_first, ask_rest, come_first, come_rest, grows_by}
use Rattle.hs_settled.proofs.CausesListLemmas.{both_nil, not_both}
use Rattle.hs_settled.proofs.CausesRunLemmas.{are_lines, begun_kept, flat_is, last_behind, last_kept, lined, lines_asked, lines_come, mute_is}
use Rattle.hs_settled.specs.Printing.{FailsInText}
use Rattle.hs_core_words.specs.declared.event.Event.{Event}
use Rattle.hs_core_words.specs.State.{Core}
use Rattle.hs_desk.specs.declared.fault.CoreFault.{CoreFault}
use Rattle.hs_desk.specs.declared.fault.CoreFault.TheVariants as fault
use Rattle.hs_events.proofs.RunLemmas.{steps_append}
use Rattle.hs_events.specs.Commands.{LineAt}
use Rattle.hs_events.specs.Course.{steps}
use Rattle.hs_events.specs.Due.{Events}
use Rattle.hs_events.specs.Found.{first_core}
use Rattle.hs_journal.specs.declared.entry.JournalEntry.{JournalEntry}
use Rattle.hs_journal.specs.Events.{client_op}
use Rattle.hs_journal.specs.Order.{IsOfLine, IsPrompt}
use Rattle.hs_limits.specs.declared.limits.Limits.{Limits}
use Rattle.hs_limits.specs.declared.shape.Shape.{Shape}
use Rattle.hs_standing.specs.Script.{AreLines, Script as Lined, all_events}
use Rattle.hs_promise.specs.Completes.{HasPrompt, MayLack}
use Rattle.hs_promise.specs.declared.status.Status.{Status}
use Rattle.hs_promise.specs.declared.status.Status.TheVariants as status
use Rattle.hs_promise.specs.Ending.{ending_of}
use Rattle.hs_promise.specs.Machine.{Went}
use Rattle.hs_promise.specs.Run.{Ran, Script}
use Rattle.hs_promise.specs.Story.{Story, last_core}
use Rattle.hs_told.specs.InTurn.{AllMayCome, told_of}

-- the events of some lines
abbrev pub flat : List Events → Events
flat lines = flat_map (λ line. line) lines

-- ---- the last of some lines

flat_parts : (front : List Events) (es : Events) → flat (front ++ es ∷ []) ≡ flat front ++ es
flat_parts front es = flat_map-append (λ line. line) front (es ∷ []) ∙ ap (λ xs. flat front ++ xs) (append-nil es)

-- behind all of them is behind it
pub parts_behind : (core : Core) (lines front : List Events) (es : Events) → lines ≡ front ++ es ∷ [] → steps core (all_events lines) ≡ steps (steps core (flat front)) es
parts_behind core lines front es e =
    ap (λ xs. steps core xs) (sym (flat_is lines) ∙ ap flat e ∙ flat_parts front es) ∙ steps_append core (flat front) es

not_nil : (front : List Events) (es : Events) → front ++ es ∷ [] ≡ [] → ⊥
not_nil front es e = let none : es ∷ [] ≡ [] = (both_nil front (es ∷ []) e).1 in cc none

tail_are : (s : Lined) (line : ℕ) (core : Core) (es : Events) (rest : List Events) → (rest ≡ [] → ⊥) → AreLines s line core (es ∷ rest) → AreLines s (line + 1) (steps core es) rest
tail_are s line core es [] some are = absurd (some refl)
tail_are s line core es (next ∷ rest) some are = are.1

-- it came to a core that went on
pub going_at : (s : Lined) (line : ℕ) (core : Core) (lines : List Events) → AreLines s line core lines → (front : List Events) (es : Events) → lines ≡ front ++ es ∷ [] → (steps core (flat front)).ended ≡ None
going_at s line core lines are [] es e = next_going s line core es [] (subst (λ ls. AreLines s line core ls) e are)
going_at s line core lines are (f ∷ front) es e =
    let tail : AreLines s (line + 1) (steps core f) (front ++ es ∷ []) = tail_are s line core f (front ++ es ∷ []) (not_nil front es) (subst (λ ls. AreLines s line core ls) e are) in
    ap (λ (c : Core). c.ended) (steps_append core f (flat front)) ∙ going_at s (line + 1) (steps core f) (front ++ es ∷ []) tail front es refl

-- so that the last line of a run whose core has ended had an event
pub ended_spoke : (s : Lined) (line : ℕ) (core : Core) (lines : List Events) (f : CoreFault) → AreLines s line core lines → (steps core (all_events lines)).ended ≡ Some f → LastSpoke lines
ended_spoke s line core lines f are over front es e none =
    let going : (steps core (flat front)).ended ≡ None = going_at s line core lines are front es e in
    let same : (steps core (all_events lines)).ended ≡ (steps core (flat front)).ended =
    ap (λ (c : Core). c.ended) (parts_behind core lines front es e ∙ ap (λ xs. steps (steps core (flat front)) xs) none) in
    let both : Some f ≡ None = sym over ∙ same ∙ going in
    cc both

-- ---- a line

-- the last line was gone past or had an event, and nothing was refused; or it lengthened the journal
abbrev Closing : Bool → Core → Events → Type 0
Closing past c es = (((past ≡ true) ⊎ (es ≡ [] → ⊥)) × ((steps c es).refused ≡ [])) ⊎ (length c.journal < length (steps c es).journal)

abbrev Shut : Bool → Core → List Events → Type 0
Shut past core lines = (front : List Events) (es : Events) → lines ≡ front ++ es ∷ [] → Closing past (steps core (flat front)) es

abbrev Placed : List JournalEntry → ℕ → Type 0
Placed entries k = (i : ℕ) × IsOfLine entries i k

in_journal : (c : Core) (k : ℕ) → c.refused ≡ [] → Placed (told_of c) k → Placed c.journal k
in_journal c k clean at = (at.0, subst (λ es. IsOfLine es at.0 k) (ap (λ (es : List JournalEntry). c.journal ++ es) clean ∙ append-nil c.journal) at.1)

module _ (s : Lined) (shape : Shape) (limits : Limits) where
  abbrev K : Core → Type 0
  K c = Kept s.commands shape limits c

  -- an event that lengthens the journal is not refused
  clean_of : (core : Core) (es : Events) → K core → core.ended ≡ None → (es ≡ []) ⊎ ((e : Event × ℕ) × (es ≡ e ∷ [])) → length core.journal < length (steps core es).journal → (steps core es).refused ≡ []
  clean_of core es kept going (inl none) lt = let bad : length core.journal < length core.journal = subst (λ xs. length core.journal < length (steps core xs).journal) none lt in absurd (omega (arith, bad))
  clean_of core es kept going (inr one) lt =
      subst (λ xs. (steps core xs).refused ≡ []) (sym one.1)
      (elim (grows_by s.commands shape limits one.0.0 one.0.1 core kept going).room [
        | inl clean ↦ clean
        | inr same ↦
            let more : length core.journal < length (steps core (one.0 ∷ [])).journal = subst (λ xs. length core.journal < length (steps core xs).journal) one.1 lt in
            let equal : length (steps core (one.0 ∷ [])).journal ≡ length core.journal = ap (λ (es : List JournalEntry). length es) same in
            absurd (omega (arith, more, equal))
      ])

  -- the entry of a line of which this core has its event
  told_at : (at : LineAt) (c : Core) → at.core.ended ≡ None → 1 ≤ at.line → IsPrompt (client_op (s.commands at.line)) → (at.events ≡ [] → ⊥) → AreLines s at.line at.core (at.events ∷ []) ⊎ ((next : Events) × (rest : List Events) × AreLines s at.line at.core (at.events ∷ next ∷ rest))
      → steps at.core at.events ≡ c → K c → c.refused ≡ [] → Placed c.journal at.line
  told_at at c going one prompt some are is kept clean = in_journal c at.line clean (prompt_told s.commands c kept.turn at.line prompt (subst (λ (x : Core). at.line ≤ x.progress.event_line) is (by_lines are)))
    where
      by_lines : AreLines s at.line at.core (at.events ∷ []) ⊎ ((next : Events) × (rest : List Events) × AreLines s at.line at.core (at.events ∷ next ∷ rest)) → at.line ≤ (steps at.core at.events).progress.event_line
      by_lines (inl last) =
          line_reached s.name s.commands (record { line = at.line; core = at.core; events = at.events; whole = s.past }) going one (prompt_speaks (s.commands at.line) prompt) last.events some
      by_lines (inr more) =
          line_reached s.name s.commands (record { line = at.line; core = at.core; events = at.events; whole = true }) going one (prompt_speaks (s.commands at.line) prompt) more.2.0.events some

  placed : (line : ℕ) (core : Core) (lines : List Events) → AreLines s line core lines → K core → AllMayCome s.commands core (all_events lines) → AllAsk s.commands core (all_events lines)
      → 1 ≤ line → (k : ℕ) → line ≤ k → k < line + length lines → IsPrompt (client_op (s.commands k)) → (k + 1 < line + length lines) ⊎ Shut s.past core lines
      → Placed (steps core (all_events lines)).journal k
  placed line core [] are kept may ask one k from to prompt shut = absurd (omega (arith, from, to))
  placed line core (es ∷ []) are kept may ask one k from to prompt shut =
      subst (λ (c : Core). Placed c.journal k) (sym (steps_append core es []))
      (subst (λ j. Placed (steps core es).journal j) (sym here) (told_at at (steps core es) are.going one prompt_here some (inl are) refl after clean))
    where
      at : LineAt
      at = record { line = line; core = core; events = es; whole = s.past }

      here : k ≡ line
      here = omega (arith, from, to)

      prompt_here : IsPrompt (client_op (s.commands line))
      prompt_here = subst (λ j. IsPrompt (client_op (s.commands j))) here prompt

      after : K (steps core es)
      after = all_kept s.commands shape limits core es kept (come_first s.commands core es [] may) (ask_first s.commands core es [] ask)

      closing : Closing s.past core es
      closing = elim shut [
        | inl more ↦ absurd (omega (arith, more, here))
        | inr close ↦ close [] es refl
      ]

      some : es ≡ [] → ⊥
      some none = elim closing [
        | inl how ↦ elim how.0 [
          | inl past ↦ not_both (sym past ∙ (line_says s.name at (s.commands line) (prompt_speaks (s.commands line) prompt_here) are.events).silent none)
          | inr not ↦ not none
        ]
        | inr more ↦ let bad : length core.journal < length core.journal = subst (λ xs. length core.journal < length (steps core xs).journal) none more in omega (arith, bad)
      ]

      clean : (steps core es).refused ≡ []
      clean = elim closing [
        | inl how ↦ how.1
        | inr more ↦ clean_of core es kept are.going (prompt_one s.name at (s.commands line) prompt_here are.events) more
      ]
  placed line core (es ∷ next ∷ rest) are kept may ask one k from to prompt shut =
      subst (λ (c : Core). Placed c.journal k) (sym (steps_append core es (all_events (next ∷ rest))))
      (elim (cases_eq k line) [
        | inl e ↦ first_one e
        | inr d ↦ placed (line + 1) (steps core es) (next ∷ rest) are.1 after may_rest ask_after (omega arith) k (omega (arith, from, d)) (omega (arith, to)) prompt shut_next
      ])
    where
      at : LineAt
      at = record { line = line; core = core; events = es; whole = true }

      after : K (steps core es)
      after = all_kept s.commands shape limits core es kept (come_first s.commands core es (all_events (next ∷ rest)) may) (ask_first s.commands core es (all_events (next ∷ rest)) ask)

      may_rest : AllMayCome s.commands (steps core es) (all_events (next ∷ rest))
      may_rest = come_rest s.commands core es (all_events (next ∷ rest)) may

      ask_after : AllAsk s.commands (steps core es) (all_events (next ∷ rest))
      ask_after = ask_rest s.commands core es (all_events (next ∷ rest)) ask

      first_one : k ≡ line → Placed (steps (steps core es) (all_events (next ∷ rest))).journal k
      first_one e =
          let prompt_here : IsPrompt (client_op (s.commands line)) = subst (λ j. IsPrompt (client_op (s.commands j))) e prompt in
          let some : es ≡ [] → ⊥ = λ none. not_both ((line_says s.name at (s.commands line) (prompt_speaks (s.commands line) prompt_here) are.0.events).silent none) in
          let clean : (steps core es).refused ≡ [] = after.turn.going (next_going s (line + 1) (steps core es) next rest are.1) in
          let here : Placed (steps core es).journal line = told_at at (steps core es) are.0.going one prompt_here some (inr (next, rest, are)) refl after clean in
          let on : GoesOn (steps core es).journal (steps (steps core es) (all_events (next ∷ rest))).journal = all_go_on s.commands shape limits (steps core es) (all_events (next ∷ rest)) after may_rest ask_after in (
            here.0,
            subst (λ j. IsOfLine (steps (steps core es) (all_events (next ∷ rest))).journal here.0 j) (sym e)
                (subst (λ xs. IsOfLine xs here.0 line) (sym on.is) (of_left (steps core es).journal on.rest here.0 line here.1)),
          )

      shut_next : (k + 1 < (line + 1) + length (next ∷ rest)) ⊎ Shut s.past (steps core es) (next ∷ rest)
      shut_next = elim shut [
        | inl more ↦ inl (omega (arith, more))
        | inr close ↦ inr (λ front xs e. subst (λ (c : Core). Closing s.past c xs) (steps_append core es (flat front)) (close (es ∷ front) xs (ap (λ (ys : List Events). es ∷ ys) e)))
      ]

-- ---- a run

module _ (S : Script) (r : Ran) (story : Story) (went : Went S r story) (wrote : FailsInText S r story) where
  abbrev behind : Core
  behind = steps (first_core S.set story.found) story.opening

  same_last : (front : List Events) (es : Events) → story.lines ≡ front ++ es ∷ [] → last_core S story ≡ steps (steps behind (flat front)) es
  same_last front es e = last_behind S r story went ∙ parts_behind behind story.lines front es e

  clean_last : (last_core S story).refused ≡ [] → (front : List Events) (es : Events) → story.lines ≡ front ++ es ∷ [] → (steps (steps behind (flat front)) es).refused ≡ []
  clean_last clean front es e = ap (λ (c : Core). c.refused) (sym (same_last front es e)) ∙ clean

  past_shut : (ending_of r.ending).past ≡ true → Shut (ending_of r.ending).past behind story.lines
  past_shut past front es e = inl (inl past, clean_last ((last_kept S r story went).turn.going (went.ends.past past)) front es e)

  lost_shut : (shard : ℕ) → (last_core S story).ended ≡ Some (fault.ShardLost shard) → Shut (ending_of r.ending).past behind story.lines
  lost_shut shard over front es e =
      inl (
        inr (ended_spoke (lined S r) 1 behind story.lines (fault.ShardLost shard) (are_lines S r story went) (ap (λ (c : Core). c.ended) (sym (last_behind S r story went)) ∙ over) front es e),
        clean_last ((last_kept S r story went).ends.clean shard over) front es e,
      )

  written_shut : r.ending ≡ status.WriteFault → Shut (ending_of r.ending).past behind story.lines
  written_shut fails front es e =
      let more : length (steps (first_core S.set story.found) (story.opening ++ flat front)).journal < length r.journal = wrote fails front es e in
      inr (subst (λ (js : List JournalEntry). length (steps behind (flat front)).journal < length js) (went.journal ∙ ap (λ (c : Core). c.journal) (same_last front es e))
      (subst (λ (c : Core). length c.journal < length r.journal) (steps_append (first_core S.set story.found) story.opening (flat front)) more))

  scripted : (ending_of r.ending).unscripted ≡ true → ⊥
  scripted other = not_both (sym other ∙ went.ends.scripted)

  shut_of : (line : ℕ) → line ≡ r.line → (MayLack r line → ⊥) → (st : Status) → r.ending ≡ st → Shut (ending_of r.ending).past behind story.lines
  shut_of line here lacks status.Done e = past_shut (ap (λ st. (ending_of st).past) e)
  shut_of line here lacks status.Usage e = absurd (not_both (sym (ap (λ st. (ending_of st).closed) e) ∙ went.ends.opened))
  shut_of line here lacks (status.BadLine n) e = past_shut (ap (λ st. (ending_of st).past) e)
  shut_of line here lacks (status.ShardLost shard) e = lost_shut shard (subst (λ (st : Status). IfSome (ending_of st).lost (λ g. (last_core S story).ended ≡ Some (fault.ShardLost g))) e went.ends.lost)
  shut_of line here lacks status.ReadFault e = past_shut (ap (λ st. (ending_of st).past) e)
  shut_of line here lacks status.WriteFault e = written_shut e
  shut_of line here lacks status.NoMemory e = absurd (lacks (here, inl (ap (λ st. (ending_of st).wanting) e)))
  shut_of line here lacks (status.WrongShape peer found) e = absurd (not_both (sym (ap (λ st. (ending_of st).closed) e) ∙ went.ends.opened))
  shut_of line here lacks status.OpsFull e = absurd (lacks (here, inr (ap (λ st. (ending_of st).full) e)))
  shut_of line here lacks status.InputFull e = past_shut (ap (λ st. (ending_of st).past) e)
  shut_of line here lacks (status.Mismatch session place told kept) e = absurd (scripted (ap (λ st. (ending_of st).unscripted) e))
  shut_of line here lacks (status.Torn peer place told kept) e = absurd (scripted (ap (λ st. (ending_of st).unscripted) e))
  shut_of line here lacks (status.NotEmpty blocks roots) e = absurd (scripted (ap (λ st. (ending_of st).unscripted) e))
  shut_of line here lacks (status.Refused reply) e = absurd (scripted (ap (λ st. (ending_of st).unscripted) e))
  shut_of line here lacks (status.NotATree address) e = absurd (scripted (ap (λ st. (ending_of st).unscripted) e))
  shut_of line here lacks (status.NoSource peer) e = absurd (scripted (ap (λ st. (ending_of st).unscripted) e))
  shut_of line here lacks (status.CopyFull blocks) e = absurd (scripted (ap (λ st. (ending_of st).unscripted) e))

  prompt_at : (line : ℕ) → 1 ≤ line → HasPrompt S r line
  prompt_at line one low prompt lacks =
      let at : Placed (steps behind (all_events story.lines)).journal line =
      placed (lined S r) S.set.shape S.set.limits 1 behind story.lines (are_lines S r story went) (begun_kept S r story went) (lines_come S r story went) (lines_asked S r story went) (omega arith) line one
      (let count : r.line ≡ length story.lines = went.line in omega (arith, low, count))
      (subst (λ c. IsPrompt (client_op c)) (sym (mute_is S.commands line one)) prompt)
      (elim (cases_eq line r.line) [
        | inl e ↦ inr (shut_of line e lacks r.ending refl)
        | inr d ↦ inl (let count : r.line ≡ length story.lines = went.line in omega (arith, low, count, d))
      ]) in
      (at.0, subst (λ es. IsOfLine es at.0 line) (sym (went.journal ∙ ap (λ (c : Core). c.journal) (last_behind S r story went))) at.1)

  pub has_prompt : client_op (S.commands 0) ≡ None → (line : ℕ) → HasPrompt S r line
  has_prompt nobody zero low prompt lacks = absurd (subst (λ o. IsPrompt o) nobody prompt)
  has_prompt nobody (suc line) low prompt lacks = prompt_at (suc line) (omega arith) low prompt lacks
