-- A `start` line of a run that was not refused has no entry: so there are fewer entries of lines, by as many.
use Rattle.std.proofs.Common.{◌≡◌, ◌⊎◌, inl, inr, ◌∙◌, ap, sym, subst, ℕ, zero, suc, ◌+◌, ◌≤◌, ◌==◌, ◌&&◌, ◌++◌, Bool, true, false, cond, List, [], ◌∷◌, Option, Some, None, refl, arith, length, is_none, is_some}
use Rattle.std.proofs.lemmas.List.{append_assoc}
use Rattle.std.specs.Prelude.{if◌then◌else◌, slice_get}
use Rattle.hs_core_words.specs.Asking.{no_peer, not_down}
use Rattle.hs_core_words.specs.declared.event.Event.{Event}
use Rattle.hs_core_words.specs.declared.event.Event.TheVariants as event
use Rattle.hs_core_words.specs.State.{Core}
use Rattle.hs_core_words.specs.Step.{step}
use Rattle.hs_desk.specs.declared.fault.CoreFault.{CoreFault}
use Rattle.hs_events.proofs.RunLemmas.{steps_append}
use Rattle.hs_events.specs.Commands.{AreOfLine, BeginsWith, LineAt}
use Rattle.hs_events.specs.Course.{steps}
use Rattle.hs_events.specs.Due.{Events}
use Rattle.hs_events.specs.Found.{first_core}
use Rattle.hs_journal.specs.Order.{IsOfLine}
use Rattle.hs_limits.specs.declared.address.Address.{Address}
use Rattle.hs_model.specs.declared.command.Command.{Command}
use Rattle.hs_model.specs.declared.command.Command.TheVariants as command
use Rattle.hs_model.specs.declared.reply.Reply.{Reply}
use Rattle.hs_model.specs.Refusals.{first}
use Rattle.hs_promise.specs.Machine.{Went, opening_is_whole}
use Rattle.hs_promise.specs.Run.{Ran, Script}
use Rattle.hs_promise.specs.Story.{Story, last_core}
use Rattle.hs_room.proofs.SoFarLemmas.{starts_both}
use Rattle.hs_room.specs.Room.{starts_in, starts_peer}
use Rattle.hs_settled.proofs.AskLemmas.{AllIts, Its, line_its, opening_its}
use Rattle.hs_settled.proofs.CausesRunLemmas.{are_lines, lined, mute}
use Rattle.hs_settled.proofs.EndsCountLemmas.{many}
use Rattle.hs_settled.proofs.PartLemmas.{OwnLine, own_line}
use Rattle.hs_settled.proofs.StartLineLemmas.{unheard}
use Rattle.hs_standing.specs.Script.{AreLines, Script as Lined, all_events}
use Rattle.hs_told.specs.InTurn.{told_of}

-- ---- the starts of some events

abbrev one_of : Bool → ℕ
one_of b = cond b 1 0

abbrev one_start : Core → Event → ℕ
one_start c e = one_of (is_none c.ended && is_some (starts_peer c e))

never : (b : Bool) → one_of (b && false) ≡ 0
never true = refl
never false = refl

most_one : (b : Bool) → one_of b ≤ 1
most_one true = omega arith
most_one false = omega arith

module _ (commands : ℕ → Option Command) (nobody : commands 0 ≡ None) where
  -- an event starts nobody, or its line asks for it
  event_starts : (line : ℕ) (c : Core) (e : Event) → Its commands line c e → (one_start c e ≡ 0) ⊎ ((p : ℕ) × (commands line ≡ Some (command.Start p)))
  event_starts line c (event.Line l o) its = inl (never (is_none c.ended))
  event_starts line c (event.Report peer d) its = inl (never (is_none c.ended))
  event_starts line c (event.Turn l peer) its = inl (never (is_none c.ended))
  event_starts line c (event.Deliver l number) its = inl (never (is_none c.ended))
  event_starts line c (event.Lose l number) its = inl (never (is_none c.ended))
  event_starts line c (event.Repeat l number) its = inl (never (is_none c.ended))
  event_starts line c (event.Nudge l peer) its = inl (never (is_none c.ended))
  event_starts line c (event.Fail l peer) its = inl (never (is_none c.ended))
  event_starts line c (event.Start l peer) its = by_line its.of
    where
      by_line : (l ≡ 0) ⊎ (l ≡ line) → (one_start c (event.Start l peer) ≡ 0) ⊎ ((p : ℕ) × (commands line ≡ Some (command.Start p)))
      by_line (inl no_line) = let both : None ≡ Some (command.Start peer) = sym nobody ∙ ap commands (sym no_line) ∙ its.asks in absurd (cc both)
      by_line (inr here) = inr (peer, ap commands (sym here) ∙ its.asks)

  pub starts_or : (line : ℕ) (c : Core) (es : Events) → AllIts commands line c es → (starts_in c es ≡ 0) ⊎ ((p : ℕ) × (commands line ≡ Some (command.Start p)))
  starts_or line c [] its = inl refl
  starts_or line c (e ∷ es) its = both (event_starts line c e.0 its.0) (starts_or line (step e.0 e.1 c) es its.1)
    where
      both : (one_start c e.0 ≡ 0) ⊎ ((p : ℕ) × (commands line ≡ Some (command.Start p))) → (starts_in (step e.0 e.1 c) es ≡ 0) ⊎ ((p : ℕ) × (commands line ≡ Some (command.Start p)))
          → (starts_in c (e ∷ es) ≡ 0) ⊎ ((p : ℕ) × (commands line ≡ Some (command.Start p)))
      both (inr asked) rest = inr asked
      both (inl none) (inr asked) = inr asked
      both (inl none) (inl rest) = inl (let a = none in let b = rest in omega (arith, a, b))

  -- ---- one line

  -- its events start nobody; or it has one, which is its start, and is not refused
  data LineStarts (line : ℕ) (c : Core) (es : Events) : Type 0 where
    Nobody : starts_in c es ≡ 0 → LineStarts line c es
    One : (p : ℕ) (e : Event × ℕ) → es ≡ e ∷ [] → e.0 ≡ event.Start line p → first (no_peer p c ∷ not_down p c ∷ []) ≡ None → starts_in c es ≡ 1 → LineStarts line c es

  one_event : (line p : ℕ) (c : Core) (e : Event × ℕ) → c.ended ≡ None → e.0 ≡ event.Start line p → LineStarts line c (e ∷ [])
  one_event line p c e going own = go (first (no_peer p c ∷ not_down p c ∷ [])) refl
    where
      is : (o : Option Reply) → first (no_peer p c ∷ not_down p c ∷ []) ≡ o → one_start c e.0 ≡ one_of (is_none c.ended && is_some (if is_none o then Some p else None))
      is o fits = ap (one_start c) own ∙ ap (λ (x : Option Reply). one_of (is_none c.ended && is_some (if is_none x then Some p else None))) fits

      on : (b : Bool) → one_of (is_none c.ended && b) ≡ one_of b
      on b = ap (λ (o : Option CoreFault). one_of (is_none o && b)) going

      go : (o : Option Reply) → first (no_peer p c ∷ not_down p c ∷ []) ≡ o → LineStarts line c (e ∷ [])
      go None fits = One p e refl own fits (let a : one_start c e.0 ≡ 1 = is None fits ∙ on true in omega (arith, a))
      go (Some reply) fits = Nobody (let a : one_start c e.0 ≡ 0 = is (Some reply) fits ∙ on false in omega (arith, a))

  line_starts : (name : List ℕ → Address) (at : LineAt) → at.core.ended ≡ None → AreOfLine name at (commands at.line) → AllIts commands at.line at.core at.events → LineStarts at.line at.core at.events
  line_starts name at going are its = by_asked (starts_or at.line at.core at.events its)
    where
      with_events : Events → LineAt
      with_events es = record { line = at.line; core = at.core; events = es; whole = at.whole }

      by_events : (p : ℕ) (es : Events) → BeginsWith (with_events es) (event.Start at.line p) (λ core. None) → LineStarts at.line at.core es
      by_events p [] begins = Nobody refl
      by_events p (e ∷ []) (same, one) = one_event at.line p at.core e going same
      by_events p (e ∷ f ∷ es) (same, one) = absurd (cc one)

      by_asked : (starts_in at.core at.events ≡ 0) ⊎ ((p : ℕ) × (commands at.line ≡ Some (command.Start p))) → LineStarts at.line at.core at.events
      by_asked (inl none) = Nobody none
      by_asked (inr asked) = by_events asked.0 at.events (subst (λ c. AreOfLine name at c) asked.1 are)

-- ---- the lines of a run

-- of each line whether it may have an entry
abbrev pub heards : Core → List Events → List Bool
heards c [] = []
heards c (es ∷ rest) = (starts_in c es == 0) ∷ heards (steps c es) rest

pub heards_long : (c : Core) (lines : List Events) → length (heards c lines) ≡ length lines
heards_long c [] = refl
heards_long c (es ∷ rest) = let later : length (heards (steps c es) rest) ≡ length rest = heards_long (steps c es) rest in omega (arith, later)

rest_lines : (s : Lined) (k : ℕ) (c : Core) (es : Events) (rest : List Events) → AreLines s k c (es ∷ rest) → AreLines s (k + 1) (steps c es) rest
rest_lines s k c es [] are = tt
rest_lines s k c es (next ∷ rest) are = are.1

module _ (S : Script) (r : Ran) (story : Story) (went : Went S r story) where
  abbrev opened : Core
  opened = first_core S.set story.found

  starts_of : (k : ℕ) (c : Core) (es : Events) (rest : List Events) → AreLines (lined S r) k c (es ∷ rest) → LineStarts (mute S.commands) refl k c es
  starts_of k c es rest are =
      let own : OwnLine (lined S r) k c es rest = own_line (lined S r) k c es rest are in
      line_starts (mute S.commands) refl S.set.name (record { line = k; core = c; events = es; whole = own.whole }) own.line.going own.line.events
      (line_its (mute S.commands) S.set.name (record { line = k; core = c; events = es; whole = own.whole }) own.line.going own.line.events)

  -- they and the starts are no more than the lines
  lines_sum : (k : ℕ) (c : Core) (lines : List Events) → AreLines (lined S r) k c lines → many (λ (b : Bool). b) (heards c lines) + starts_in c (all_events lines) ≤ length lines
  lines_sum k c [] are = omega arith
  lines_sum k c (es ∷ rest) are =
      let later : many (λ (b : Bool). b) (heards (steps c es) rest) + starts_in (steps c es) (all_events rest) ≤ length rest = lines_sum (k + 1) (steps c es) rest (rest_lines (lined S r) k c es rest are) in
      let here : one_of (starts_in c es == 0) + starts_in c es ≤ 1 = by_line (starts_of k c es rest are) in
      let all : starts_in c (es ++ all_events rest) ≡ starts_in c es + starts_in (steps c es) (all_events rest) = starts_both c es (all_events rest) in
      omega (arith, later, here, all)
    where
      by_line : LineStarts (mute S.commands) refl k c es → one_of (starts_in c es == 0) + starts_in c es ≤ 1
      by_line (Nobody none) = let most : one_of (starts_in c es == 0) ≤ 1 = most_one (starts_in c es == 0) in omega (arith, most, none)
      by_line (One p e is own free one) = let zero_is : one_of (starts_in c es == 0) ≡ 0 = ap (λ (n : ℕ). one_of (n == 0)) one in omega (arith, zero_is, one)

  -- and no entry is of a line that started somebody
  unheard_from : (k : ℕ) (front : Events) (lines : List Events) → story.opening ++ all_events story.lines ≡ front ++ all_events lines → AreLines (lined S r) k (steps (first_core S.set story.found) front) lines
      → (i : ℕ) → slice_get (heards (steps (first_core S.set story.found) front) lines) i ≡ Some false → (j : ℕ) → IsOfLine (told_of (last_core S story)) j (k + i) → ⊥
  unheard_from k front [] is are i at j of = absurd (cc at)
  unheard_from k front (es ∷ rest) is are zero at j of = by_line (starts_of k (steps opened front) es rest are)
    where
      some : (starts_in (steps (first_core S.set story.found) front) es == 0) ≡ false
      some = cc at

      here : IsOfLine (told_of (last_core S story)) j k
      here = let same : k + 0 ≡ k = omega arith in subst (λ n. IsOfLine (told_of (last_core S story)) j n) same of

      by_line : LineStarts (mute S.commands) refl k (steps (first_core S.set story.found) front) es → ⊥
      by_line (Nobody none) = let both : true ≡ false = sym (ap (λ (n : ℕ). n == 0) none) ∙ some in cc both
      by_line (One p e only own free one) = unheard S r story went p k front e (all_events rest) (is ∙ ap (λ xs. front ++ (xs ++ all_events rest)) only) own free j here
  unheard_from k front (es ∷ rest) is are (suc i) at j of =
      let same : steps opened (front ++ es) ≡ steps (steps opened front) es = steps_append opened front es in
      let number : k + suc i ≡ k + 1 + i = omega arith in
      unheard_from (k + 1) (front ++ es) rest (is ∙ sym (append_assoc front es (all_events rest)))
      (subst (λ (c : Core). AreLines (lined S r) (k + 1) c rest) (sym same) (rest_lines (lined S r) k (steps opened front) es rest are))
      i (subst (λ (c : Core). slice_get (heards c rest) i ≡ Some false) (sym same) at) j (subst (λ n. IsOfLine (told_of (last_core S story)) j n) number of)

  -- ---- all lines

  abbrev begun : Core
  begun = steps opened story.opening

  pub unheard_line : (i : ℕ) → slice_get (heards (steps (first_core S.set story.found) story.opening) story.lines) i ≡ Some false → (j : ℕ) → IsOfLine (told_of (last_core S story)) j (1 + i) → ⊥
  unheard_line i at j of = unheard_from 1 story.opening story.lines refl (are_lines S r story went) i at j of

  -- nobody is started in opening
  opening_none : starts_in (first_core S.set story.found) story.opening ≡ 0
  opening_none = go (starts_or (mute S.commands) refl 0 opened story.opening (opening_its (mute S.commands) (opening_is_whole r story.lines) opened story.opening went.opening))
    where
      go : (starts_in (first_core S.set story.found) story.opening ≡ 0) ⊎ ((p : ℕ) × (mute S.commands 0 ≡ Some (command.Start p))) → starts_in (first_core S.set story.found) story.opening ≡ 0
      go (inl none) = none
      go (inr asked) = let both : None ≡ Some (command.Start asked.0) = asked.1 in absurd (cc both)

  pub heard_sum : many (λ (b : Bool). b) (heards (steps (first_core S.set story.found) story.opening) story.lines) + starts_in (first_core S.set story.found) (story.opening ++ all_events story.lines) ≤ length story.lines
  heard_sum =
      let lines : many (λ (b : Bool). b) (heards begun story.lines) + starts_in begun (all_events story.lines) ≤ length story.lines = lines_sum 1 begun story.lines (are_lines S r story went) in
      let all : starts_in opened (story.opening ++ all_events story.lines) ≡ starts_in opened story.opening + starts_in begun (all_events story.lines) = starts_both opened story.opening (all_events story.lines) in
      let none : starts_in opened story.opening ≡ 0 = opening_none in
      omega (arith, lines, all, none)
