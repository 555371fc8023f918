-- A run whose journal has room for its lines does not end as the journal is full.
use Rattle.std.proofs.Common.{◌≡◌, ◌⊎◌, inl, inr, ◌∙◌, ap, sym, subst, ℕ, zero, suc, ◌+◌, ◌-◌, ◌*◌, ◌<◌, ◌≤◌, ◌++◌, Bool, true, false, List, [], ◌∷◌, Option, Some, IsSome, refl, arith, length, take}
use Rattle.std.proofs.lemmas.Bool.{cases_lt}
use Rattle.std.specs.Prelude.{count_by, slice_get}
use Rattle.hs_clauses.specs.Asked.{start_of}
use Rattle.hs_clauses.specs.Shown.{RunsSoundly}
use Rattle.hs_core_words.specs.declared.event.Event.{Event}
use Rattle.hs_core_words.specs.declared.event.Event.TheVariants as event
use Rattle.hs_core_words.specs.State.{Core}
use Rattle.hs_core_words.specs.Step.{step}
use Rattle.hs_desk.specs.declared.fault.CoreFault.TheVariants as fault
use Rattle.hs_events.specs.Course.{steps}
use Rattle.hs_events.specs.Due.{Events}
use Rattle.hs_events.specs.Found.{first_core}
use Rattle.hs_events.specs.Taken.{peer_count}
use Rattle.hs_journal.specs.Events.{client_op}
use Rattle.hs_journal.specs.Order.{IsOfLine}
use Rattle.hs_limits.specs.declared.limits.Limits.{Limits}
use Rattle.hs_measure.specs.Promised.{KeepsPromise}
use Rattle.hs_model.specs.declared.command.Command.{Command}
use Rattle.hs_model.specs.declared.command.Command.TheVariants as command
use Rattle.hs_promise.specs.Completes.{FullBeyond, deletes_up_to, entries_most}
use Rattle.hs_promise.specs.Ending.{ending_of}
use Rattle.hs_promise.specs.Run.{Ran, Script}
use Rattle.hs_promise.specs.Story.{Story, all_events, last_core}
use Rattle.hs_promise.specs.declared.status.Status.TheVariants as status
use Rattle.hs_room.proofs.CalmLemmas.{RoomLaws, line_within, most_of, noted_last}
use Rattle.hs_room.proofs.NotedLemmas.{Noting}
use Rattle.hs_room.proofs.RiseLemmas.{most_more}
use Rattle.hs_room.proofs.StartedLemmas.{heard_sum, heards, heards_long, unheard_line}
use Rattle.hs_room.specs.Room.{starts_in}
use Rattle.hs_settled.proofs.CausesRunLemmas.{all_ask_so, all_come_so, flat_is, last_line, mute, mute_some, opened_kept}
use Rattle.hs_settled.proofs.EndsCountLemmas.{many, many-counted}
use Rattle.hs_settled.proofs.KeptLemmas.{all_own}
use Rattle.hs_settled.proofs.KindLemmas.{lines_by}
use Rattle.hs_settled.proofs.ListLemmas.{take_all}
use Rattle.hs_settled.proofs.StepLemmas.{is_of_line}
use Rattle.hs_settled.specs.Noted.{AllAreOwn, IsOwnEvent}
use Rattle.hs_standing.specs.Run.{MayRun}
use Rattle.hs_standing.specs.Script.{all_events as flat_events}
use Rattle.hs_standing.specs.Standing.{AllMayKeep}
use Rattle.hs_standing.specs.Start.{Start}
use Rattle.hs_told.specs.InTurn.{told_of}

-- ---- own events are so where line 0 has a command too

module _ (commands : ℕ → Option Command) where
  clients_too : (line : ℕ) → IsSome (client_op (mute commands line)) → IsSome (client_op (commands line))
  clients_too zero some = absurd (cc some)
  clients_too (suc line) some = some

  side_too : {A : Type 0} (line : ℕ) (x : Command) → A ⊎ (mute commands line ≡ Some x) → A ⊎ (commands line ≡ Some x)
  side_too line x (inl free) = inl free
  side_too line x (inr its) = inr (mute_some commands line x its)

  own_too : (e : Event) (c : Core) → IsOwnEvent (mute commands) c e → IsOwnEvent commands c e
  own_too (event.Line line o) c own = (own.0, clients_too line own.1)
  own_too (event.Report peer d) c own = own
  own_too (event.Turn line peer) c own = (own.0, side_too line (command.Turn peer) own.1)
  own_too (event.Deliver line number) c own = (own.0, side_too line (command.Deliver number) own.1)
  own_too (event.Lose line number) c own = (own.0, side_too line (command.Lose number) own.1)
  own_too (event.Repeat line number) c own = (own.0, side_too line (command.Repeat number) own.1)
  own_too (event.Nudge line peer) c own = (own.0, side_too line (command.Nudge peer) own.1)
  own_too (event.Fail line peer) c own = (own.0, side_too line (command.Fail peer) own.1)
  own_too (event.Start line peer) c own = (own.0, side_too line (command.Start peer) own.1)

  all_too : (es : Events) (c : Core) → AllAreOwn (mute commands) c es → AllAreOwn commands c es
  all_too [] c own = tt
  all_too (e ∷ es) c own = ((λ going. own_too e.0 c (own.0 going)), all_too es (step e.0 e.1 c) own.1)

-- ---- a run

module _ (laws : RoomLaws) (S : Script) (r : Ran) (story : Story) (run : RunsSoundly S r story) (may : AllMayKeep (start_of S r) (MayRun (start_of S r)) (first_core S.set story.found) (all_events story)) where
  abbrev start : Start
  start = start_of S r

  abbrev es : Events
  es = all_events story

  own : AllAreOwn S.commands (first_core S.set story.found) (all_events story)
  own =
      all_too S.commands (all_events story) (first_core S.set story.found)
      (subst (λ (es : Events). AllAreOwn (mute S.commands) (first_core S.set story.found) es) (ap (λ es. story.opening ++ es) (sym (flat_is story.lines)))
      (all_own (mute S.commands) S.set.shape S.set.limits (first_core S.set story.found) (story.opening ++ flat_events story.lines) (opened_kept S r story run.went) (all_come_so S r story run.went) (all_ask_so S r story run.went)))

  -- the core behind all of them
  there : steps (first_core S.set story.found) (take (length (all_events story)) (all_events story)) ≡ last_core S story
  there = ap (λ (xs : Events). steps (first_core S.set story.found) xs) (take_all (all_events story))

  same_events : all_events story ≡ story.opening ++ flat_events story.lines
  same_events = ap (λ xs. story.opening ++ xs) (flat_is story.lines)

  noted : Noting (mute S.commands) S.set.shape S.set.limits (last_core S story)
  noted = subst (λ (c : Core). Noting (mute S.commands) S.set.shape S.set.limits c) there (noted_last laws start story.found es run.begins may own)

  keeps : KeepsPromise (start_of S r) (last_core S story)
  keeps = subst (λ (c : Core). KeepsPromise start c) there (laws.keeps start story.found es run.begins may (length es))

  -- ---- the lines that have an entry

  abbrev heard : List Bool
  heard = heards (steps (first_core S.set story.found) story.opening) story.lines

  long : length (heards (steps (first_core S.set story.found) story.opening) story.lines) ≡ r.line
  long = heards_long (steps (first_core S.set story.found) story.opening) story.lines ∙ sym run.went.line

  low : (last_core S story).progress.event_line ≤ r.line
  low = last_line S r story run.went

  within : (i n : ℕ) → IsOfLine (told_of (last_core S story)) i n → (1 ≤ n) × (n < 1 + length (heards (steps (first_core S.set story.found) story.opening) story.lines))
  within i n of =
      let is = line_within (start_of S r) (last_core S story) noted i n of in
      (is.0, (let upto = is.1 in let last = low in let l = long in omega (arith, upto, last, l)))

  of_lines : many (is_of_line (λ o. true) S) (told_of (last_core S story)) ≤ many (λ (b : Bool). b) (heards (steps (first_core S.set story.found) story.opening) story.lines)
  of_lines =
      let most : many (is_of_line (λ o. true) S) (told_of (last_core S story)) ≤ count_by (λ (b : Bool). b) heard =
      lines_by S heard (told_of (last_core S story)) within keeps.answers.ordered.once (λ o. true) (λ (b : Bool). b) (λ i b at j of is. by_mark i b at j of) in
      let counted : many (λ (b : Bool). b) heard ≡ count_by (λ (b : Bool). b) heard = many-counted (λ (b : Bool). b) heard in
      omega (arith, most, counted)
    where
      by_mark : (i : ℕ) (b : Bool) → slice_get (heards (steps (first_core S.set story.found) story.opening) story.lines) i ≡ Some b → (j : ℕ) → IsOfLine (told_of (last_core S story)) j (1 + i) → b ≡ true
      by_mark i true at j of = refl
      by_mark i false at j of = absurd (unheard_line S r story run.went i at j of)

  starts_same : starts_in (first_core S.set story.found) (take (length (all_events story)) (all_events story)) ≡ starts_in (first_core S.set story.found) (story.opening ++ flat_events story.lines)
  starts_same = ap (λ (xs : Events). starts_in (first_core S.set story.found) xs) (take_all (all_events story) ∙ same_events)

  most : length (told_of (last_core S story)) ≤ entries_most S.commands S.set.shape r.line
  most =
      let heard_few : many (is_of_line (λ o. true) S) (told_of (steps (first_core S.set story.found) (take (length es) es))) ≤ many (λ (b : Bool). b) heard =
      subst (λ (c : Core). many (is_of_line (λ o. true) S) (told_of c) ≤ many (λ (b : Bool). b) heard) (sym there) of_lines in
      let all : length (told_of (steps (first_core S.set story.found) (take (length es) es)))
      ≤ many (λ (b : Bool). b) heard + (2 * S.set.shape.shards + 1) * (deletes_up_to S.commands (steps (first_core S.set story.found) (take (length es) es)).progress.event_line + 2)
      + (peer_count S.set.shape + starts_in (first_core S.set story.found) (take (length es) es)) = most_of laws start story.found es run.begins may own (many (λ (b : Bool). b) heard) heard_few in
      let same : length (told_of (steps (first_core S.set story.found) (take (length es) es))) ≡ length (told_of (last_core S story)) = ap (λ (c : Core). length (told_of c)) there in
      let line_same : (2 * S.set.shape.shards + 1) * (deletes_up_to S.commands (steps (first_core S.set story.found) (take (length es) es)).progress.event_line + 2) ≡ (2 * S.set.shape.shards + 1) * (deletes_up_to S.commands (last_core S story).progress.event_line + 2) =
      ap (λ (c : Core). (2 * S.set.shape.shards + 1) * (deletes_up_to S.commands c.progress.event_line + 2)) there in
      let rises : entries_most S.commands S.set.shape (last_core S story).progress.event_line + (r.line - (last_core S story).progress.event_line) ≤ entries_most S.commands S.set.shape r.line =
      most_more S.commands S.set.shape (last_core S story).progress.event_line r.line low in
      let sum : many (λ (b : Bool). b) heard + starts_in (first_core S.set story.found) (story.opening ++ flat_events story.lines) ≤ length story.lines = heard_sum S r story run.went in
      let count : r.line ≡ length story.lines = run.went.line in
      let starts = starts_same in
      let upto = low in
      omega (arith, all, same, line_same, rises, sum, count, starts, upto)

  never_full : entries_most S.commands S.set.shape r.line ≤ S.set.limits.ops → r.ending ≡ status.OpsFull → ⊥
  never_full fits is =
      let ended : (last_core S story).ended ≡ Some fault.OpsFull = run.went.ends.full (ap (λ s. (ending_of s).full) is) in
      let over : (last_core S story).limits.ops < length (told_of (last_core S story)) = noted.ends.full ended in
      let limit : (last_core S story).limits.ops ≡ S.set.limits.ops = ap (λ (l : Limits). l.ops) noted.limited in
      let all = most in
      omega (arith, over, limit, all, fits)

  -- so the limit has no room for these
  pub full_beyond : FullBeyond S r
  full_beyond is = elim (cases_lt S.set.limits.ops (entries_most S.commands S.set.shape r.line)) [
    | inl low ↦ low
    | inr fits ↦ absurd (never_full fits is)
  ]
