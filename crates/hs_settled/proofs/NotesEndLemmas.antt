-- With one copy a shard the core ends with the event of a note, so that only notes stand behind one.
use Rattle.std.proofs.Common.{◌≡◌, ◌⊎◌, inl, inr, ◌∙◌, ap, sym, subst, ℕ, zero, suc, ◌+◌, ◌*◌, ◌<◌, ◌==◌, ◌++◌, Bool, true, false, cond, List, [], ◌∷◌, Option, Some, None, refl, arith, length, nat_lt}
use Rattle.std.proofs.lemmas.Bool.{cases_lt, eq-eqb}
use Rattle.std.proofs.lemmas.List.Sums.{sum_by-cons}
use Rattle.std.proofs.lemmas.Option.{slice_get_within}
use Rattle.std.specs.List.{AllByRecursion, slice_get}
use Rattle.std.specs.Option.{option_map_or}
use Rattle.hs_settled.proofs.AskLemmas.{AllAsk, Asks}
use Rattle.hs_settled.proofs.CausesCountLemmas.{firsts_past}
use Rattle.hs_settled.proofs.DatedLemmas.{down_left}
use Rattle.hs_settled.proofs.FallLemmas.{Fallen, down_entry, reported}
use Rattle.hs_settled.proofs.CausesFirstLemmas.{IsFirst, members_first, told_first}
use Rattle.hs_settled.proofs.CausesGoodLemmas.{last_opened}
use Rattle.hs_settled.proofs.KeptLemmas.{Anyone, Kept, answering, peers_of_shape, step_kept}
use Rattle.hs_settled.proofs.CausesListLemmas.{all_at, at_either, at_left, count_none, count_parts, not_both, one_if, some_is}
use Rattle.hs_settled.proofs.LostLemmas.{all_good, steps_over}
use Rattle.hs_settled.proofs.CausesRunLemmas.{all_ask_so, all_come_so, last_is, mute, opened_kept}
use Rattle.hs_settled.proofs.SeatLemmas.{failed_low}
use Rattle.hs_awaiting.specs.Words.{change_if}
use Rattle.hs_core_words.specs.Changing.{change_pool}
use Rattle.hs_core_words.specs.declared.event.Event.{Event}
use Rattle.hs_core_words.specs.declared.event.Event.TheVariants as event
use Rattle.hs_core_words.specs.Looking.{shape_of, status_of}
use Rattle.hs_core_words.specs.State.{Core}
use Rattle.hs_core_words.specs.Step.{begin_event, do_event, end_event, keep_entries, refuse_entries, step}
use Rattle.hs_desk.specs.declared.done.Done.TheVariants as done
use Rattle.hs_desk.specs.declared.fault.CoreFault.{CoreFault}
use Rattle.hs_events.specs.Course.{steps}
use Rattle.hs_events.specs.Due.{Events, is_answer}
use Rattle.hs_events.specs.Found.{first_core, opens_with}
use Rattle.hs_journal.specs.declared.entry.JournalEntry.{JournalEntry}
use Rattle.hs_journal.specs.Notes.{down_in, is_note, note_count}
use Rattle.hs_journal.specs.Telling.{IsDownAt}
use Rattle.hs_limits.specs.declared.limits.Limits.{Limits}
use Rattle.hs_limits.specs.declared.shape.Shape.{Shape}
use Rattle.hs_standing.specs.Script.{all_events}
use Rattle.hs_members.specs.Members.{Members, is_good_status, status}
use Rattle.hs_model.specs.declared.command.Command.{Command}
use Rattle.hs_model.specs.declared.reply.Reply.TheVariants as reply
use Rattle.hs_settled.proofs.NotedCountLemmas.{step_counts, told_by}
use Rattle.hs_settled.proofs.NotedFirstLemmas.{first_notes}
use Rattle.hs_settled.proofs.RefusalLemmas.{at_first, before_is, clean, ended_told, runs}
use Rattle.hs_post.specs.Pool.{restart_numbers}
use Rattle.hs_promise.specs.Lost.{NotesComeLast, NotesEnd}
use Rattle.hs_promise.specs.Machine.{Went}
use Rattle.hs_promise.specs.Run.{Ran, Script}
use Rattle.hs_promise.specs.Story.{Story, last_core}
use Rattle.hs_told.specs.InTurn.{AllMayCome, MayCome, told_of}

-- ---- entries without a note

abbrev pub Untold : List JournalEntry → Type 0
Untold entries = (peer : ℕ) → note_count peer entries ≡ 0

pub none_counted : (peer : ℕ) (es : List JournalEntry) → note_count peer es ≡ 0 → AllByRecursion (λ e. is_note peer e ≡ false) es
none_counted peer [] zero_count = tt
none_counted peer (e ∷ es) zero_count = go (is_note peer e) refl (λ k. none_counted peer es k)
  where
    all : note_count peer (e ∷ es) ≡ one_if (is_note peer e) + note_count peer es
    all = sum_by-cons (λ (x : JournalEntry). one_if (is_note peer x)) e es

    go : (b : Bool) → is_note peer e ≡ b → (note_count peer es ≡ 0 → AllByRecursion (λ e. is_note peer e ≡ false) es) → AllByRecursion (λ e. is_note peer e ≡ false) (e ∷ es)
    go true t ih = let one : one_if (is_note peer e) ≡ 1 = ap one_if t in absurd (omega (arith, all, one, zero_count))
    go false t ih = let none : one_if (is_note peer e) ≡ 0 = ap one_if t in (t, ih (omega (arith, all, none, zero_count)))

-- where there is no note nothing stands behind one
none_down : (es : List JournalEntry) → Untold es → (i peer line : ℕ) → IsDownAt es i peer line → ⊥
none_down es untold i peer line b =
    let no_note : is_note peer b.note ≡ false = all_at (λ (e : JournalEntry). is_note peer e ≡ false) es i b.note (none_counted peer es (untold peer)) b.at in
    let a_note : is_note peer b.note ≡ true = ap (λ o. option_map_or (λ (d : ℕ × ℕ). d.0 == peer) o false) (ap down_in b.told) ∙ eq-eqb peer peer refl in
    not_both (sym a_note ∙ no_note)

only_first : (e x : JournalEntry) (k : ℕ) → slice_get (e ∷ []) k ≡ Some x → k ≡ 0
only_first e x zero at = refl
only_first e x (suc k) at = absurd (cc at)

-- nor where the last entry is the first that may be one
one_last : (es : List JournalEntry) (e : JournalEntry) → Untold es → NotesComeLast (es ++ e ∷ [])
one_last es e untold i j peer line entry b lt at = elim (at_either es (e ∷ []) i b.note b.at) [
  | inl old ↦ absurd (none_down es untold i peer line (record { note = b.note; at = old; store = b.store; told = b.told }))
  | inr here ↦ elim (at_either es (e ∷ []) j entry at) [
    | inl old ↦
        let low : j < length es = slice_get_within es j entry old in
        let high : i ≡ length es + here.place = here.is in
        absurd (omega (arith, low, high, lt))
    | inr there ↦
        let two : j ≡ length es + there.place = there.is in
        let one : i ≡ length es + here.place = here.is in
        let first : there.place ≡ 0 = only_first e entry there.place there.at in
        absurd (omega (arith, one, two, first, lt))
  ]
]

line_of_note : (p q k l : ℕ) → reply.Down p k ≡ reply.Down q l → k ≡ l
line_of_note p q k l e = cc e

-- first notes are all of line 0
firsts_last : (n : ℕ) (es : List JournalEntry) → AllByRecursion (λ (e : JournalEntry). IsFirst n e) es → NotesComeLast es
firsts_last n es all i j peer line entry b lt at =
    let one : IsFirst n b.note = all_at (λ (e : JournalEntry). IsFirst n e) es i b.note all b.at in
    let other : IsFirst n entry = all_at (λ (e : JournalEntry). IsFirst n e) es j entry all at in
    let same : 0 ≡ line = line_of_note one.peer peer 0 line (sym one.told ∙ b.told) in
    (other.peer, record { note = entry; at = at; store = other.store; told = other.told ∙ ap (λ k. reply.Down other.peer k) same })

last_left : (xs ys : List JournalEntry) → NotesComeLast (xs ++ ys) → NotesComeLast xs
last_left xs ys all i j peer line entry b lt at =
    let there : (other : ℕ) × IsDownAt (xs ++ ys) j other line = all i j peer line entry (down_left xs ys i peer line b) lt (at_left xs ys j entry at) in
    let same : there.1.note ≡ entry = some_is there.1.note entry (sym there.1.at ∙ at_left xs ys j entry at) in
    (there.0, record { note = there.1.note; at = at ∙ ap (λ e. Some e) (sym same); store = there.1.store; told = there.1.told })

none_last : (es : List JournalEntry) → Untold es → NotesComeLast es
none_last es untold i j peer line entry b lt at = absurd (none_down es untold i peer line b)

-- ---- an event

-- a report of a failed disk
record IsFailure (e : Event) : Type 0 where
  peer : ℕ
  disk : ℕ
  is : e ≡ event.Report peer (done.Failed disk)

-- the core has ended, with notes behind all else
pub record EndsNoted (c : Core) : Type 0 where
  pub ended : c.ended ≡ None → ⊥
  pub last : NotesComeLast (told_of c)

end_members : (x : Core) → (end_event x).members ≡ x.members
end_members x = go (nat_lt x.limits.ops (length x.journal + length x.entries))
  where
    go : (b : Bool) → (cond b (refuse_entries x) (keep_entries x)).members ≡ x.members
    go true = refl
    go false = refl

which : (c : Core) (e : Event) → IsFailure e ⊎ ((disk : ℕ) → told_by disk e c ≡ 0)
which c (event.Report peer (done.Failed disk)) = inl (record { peer = peer; disk = disk; is = refl })
which c (event.Report peer (done.Stored number)) = inr (λ d. refl)
which c (event.Report peer (done.Sealed number)) = inr (λ d. refl)
which c (event.Report peer (done.Bytes number bytes)) = inr (λ d. refl)
which c (event.Report peer (done.Gone number)) = inr (λ d. refl)
which c (event.Report peer done.Emptied) = inr (λ d. refl)
which c (event.Report peer (done.Copied number)) = inr (λ d. refl)
which c (event.Report peer (done.Stepped switched)) = inr (λ d. refl)
which c (event.Line line o) = inr (λ d. refl)
which c (event.Turn line peer) = inr (λ d. refl)
which c (event.Deliver line number) = inr (λ d. refl)
which c (event.Lose line number) = inr (λ d. refl)
which c (event.Repeat line number) = inr (λ d. refl)
which c (event.Nudge line peer) = inr (λ d. refl)
which c (event.Fail line peer) = inr (λ d. refl)
which c (event.Start line peer) = inr (λ d. refl)

module _ (commands : ℕ → Option Command) (shape : Shape) (limits : Limits) (one : shape.copies ≡ 1) where
  abbrev K : Core → Type 0
  K c = Kept commands shape limits c

  one_copy : (c : Core) → K c → (shape_of c).copies ≡ 1
  one_copy c kept = ap (λ (z : Shape). z.copies) kept.shaped ∙ one

  -- of a core that goes on every peer is good
  pub bad_ended : (c : Core) → K c → (x : ℕ) → x < peers_of_shape shape → is_good_status (status_of x c) ≡ false → c.ended ≡ None → ⊥
  bad_ended c kept x low bad going =
      let count : peers_of_shape shape ≡ shape.shards = ap (λ k. shape.shards * k) one ∙ omega arith in
      let shards : (shape_of c).shards ≡ shape.shards = ap (λ (z : Shape). z.shards) kept.shaped in
      not_both (sym (ap is_good_status (all_good c (one_copy c kept) (kept.ends.going going) x (omega (arith, low, count, shards)))) ∙ bad)

  module _ (c : Core) (kept : K c) (going : c.ended ≡ None) (untold : Untold (told_of c)) (at : ℕ) where
    -- a report of a failure tells just that
    by_failure : (peer disk : ℕ) → MayCome commands c (event.Report peer (done.Failed disk)) at → is_answer c peer (done.Failed disk) ≡ true → EndsNoted (step (event.Report peer (done.Failed disk)) at c)
    by_failure peer disk may answer = record {
      ended = bad_ended after (step_kept commands shape limits e at c kept going may answer) disk low
          (ap (λ (x : Core). is_good_status (status_of disk x)) runs_so ∙ ap (λ (m : Members). is_good_status (status disk m)) (end_members (do_event e begun)) ∙ fallen.down);
      last = subst (λ es. NotesComeLast es) (sym told) (one_last (told_of c) (down_entry disk begun) untold);
    }
      where
        e : Event
        e = event.Report peer (done.Failed disk)

        begun : Core
        begun = begin_event 0 at c

        after : Core
        after = step (event.Report peer (done.Failed disk)) at c

        low : disk < peers_of_shape shape
        low = failed_low (peers_of_shape shape) Anyone c kept.seats peer disk answer

        begun_members : (begin_event 0 at c).members ≡ c.members
        begun_members = go _
          where
            go : (b : Bool) → (record (change_if b (change_pool restart_numbers) c) { moment = at; progress = record c.progress { event_line = cond (0 == 0) c.progress.event_line 0 } }).members ≡ c.members
            go true = refl
            go false = refl

        begun_answer : is_answer (begin_event 0 at c) peer (done.Failed disk) ≡ is_answer c peer (done.Failed disk)
        begun_answer = go _
          where
            go : (b : Bool) → is_answer (record (change_if b (change_pool restart_numbers) c) { moment = at; progress = record c.progress { event_line = cond (0 == 0) c.progress.event_line 0 } }) peer (done.Failed disk) ≡ is_answer c peer (done.Failed disk)
            go true = refl
            go false = refl

        fallen : Fallen disk (begin_event 0 at c) (do_event (event.Report peer (done.Failed disk)) (begin_event 0 at c))
        fallen = reported peer disk (begin_event 0 at c)
            (ap (λ (m : Members). m.shape.copies) begun_members ∙ one_copy c kept)
            (let long : length (begin_event 0 at c).members.statuses ≡ length c.members.statuses = ap (λ (m : Members). length m.statuses) begun_members in
            let count : length c.members.statuses ≡ peers_of_shape shape = kept.seats.statuses in
            let l : disk < peers_of_shape shape = low in omega (arith, l, long, count))
            (begun_answer ∙ answer)

        runs_so : after ≡ end_event (do_event e begun)
        runs_so = runs commands c kept.noted going e at

        told : told_of after ≡ told_of c ++ down_entry disk begun ∷ []
        told =
            ap (λ (x : Core). told_of x) runs_so ∙ ended_told (do_event e begun) (fallen.refused ∙ clean commands c kept.noted going e at)
            ∙ ap (λ (es : List JournalEntry). es ++ (do_event e begun).entries) (fallen.journal ∙ (at_first commands c kept.noted going e at).journal ∙ sym (before_is commands c kept.noted going e at))
            ∙ ap (λ (es : List JournalEntry). told_of c ++ es) (fallen.entries ∙ ap (λ (es : List JournalEntry). es ++ down_entry disk begun ∷ []) ((at_first commands c kept.noted going e at).entries ∙ kept.noted.quiet))

    by_event : (e : Event) → MayCome commands c e at → Asks commands c e → Untold (told_of (step e at c)) ⊎ EndsNoted (step e at c)
    by_event e may asks = elim (which c e) [
      | inl failure ↦ inr (subst (λ x. EndsNoted (step x at c)) (sym failure.is)
          (by_failure failure.peer failure.disk (subst (λ x. MayCome commands c x at) failure.is may) (subst (λ x. Asks commands c x) failure.is asks)))
      | inr none ↦ inl (λ g.
          let all : note_count g (told_of (step e at c)) ≡ note_count g (told_of c) + told_by g e c = step_counts commands c kept.noted going at g e (answering commands shape limits e c asks) in
          let old : note_count g (told_of c) ≡ 0 = untold g in
          let new : told_by g e c ≡ 0 = none g in
          omega (arith, all, old, new))
    ]

  -- ---- any number of events

  pub all_noted : (c : Core) (es : Events) → K c → AllMayCome commands c es → AllAsk commands c es → c.ended ≡ None → Untold (told_of c) → Untold (told_of (steps c es)) ⊎ EndsNoted (steps c es)
  all_noted c [] kept may ask going untold = inl untold
  all_noted c (e ∷ es) kept may ask going untold = go (λ on told. all_noted (step e.0 e.1 c) es next may.1 ask.1 on told) (step e.0 e.1 c).ended refl
    where
      next : K (step e.0 e.1 c)
      next = step_kept commands shape limits e.0 e.1 c kept going (may.0 going) ask.0.1

      here : Untold (told_of (step e.0 e.1 c)) ⊎ EndsNoted (step e.0 e.1 c)
      here = by_event c kept going untold e.1 e.0 (may.0 going) ask.0.1

      go : ((step e.0 e.1 c).ended ≡ None → Untold (told_of (step e.0 e.1 c)) → Untold (told_of (steps (step e.0 e.1 c) es)) ⊎ EndsNoted (steps (step e.0 e.1 c) es))
          → (o : Option CoreFault) → (step e.0 e.1 c).ended ≡ o → Untold (told_of (steps (step e.0 e.1 c) es)) ⊎ EndsNoted (steps (step e.0 e.1 c) es)
      go ih None is = elim here [
        | inl told ↦ ih is told
        | inr over ↦ absurd (over.ended is)
      ]
      go ih (Some f) is = subst (λ (x : Core). Untold (told_of x) ⊎ EndsNoted x) (sym (steps_over (step e.0 e.1 c) es f is)) here

-- ---- a run

module _ (S : Script) (r : Ran) (story : Story) (went : Went S r story) (one : S.set.shape.copies ≡ 1) where
  abbrev opened : Core
  opened = first_core S.set story.found

  abbrev n : ℕ
  n = S.set.shape.shards * S.set.shape.copies

  firsts : AllByRecursion (λ (e : JournalEntry). IsFirst n e) (told_of opened)
  firsts = told_first S.set.shape S.set.limits (opens_with S.set story.found) story.found.opened went.found.goods

  kept : Kept (mute S.commands) S.set.shape S.set.limits opened
  kept = opened_kept S r story went

  -- a core that goes on behind its opening has told nothing
  pub first_untold : opened.ended ≡ None → Untold (told_of opened)
  first_untold going peer = elim (cases_lt peer n) [
    | inl low ↦ by_good low (is_good_status (status_of peer opened)) refl
    | inr high ↦ count_none peer (told_of opened) (firsts_past n peer (told_of opened) high firsts)
  ]
    where
      counted : peer < n → note_count peer (told_of opened) ≡ cond (is_good_status (status_of peer opened)) 0 1
      counted low =
          first_notes S.set.shape S.set.limits (opens_with S.set story.found) story.found.opened peer low
          ∙ ap (λ (m : Members). cond (is_good_status (status peer m)) 0 1) (sym (members_first S.set.shape S.set.limits (opens_with S.set story.found) story.found.opened went.found.goods))

      by_good : peer < n → (b : Bool) → is_good_status (status_of peer opened) ≡ b → note_count peer (told_of opened) ≡ 0
      by_good low true good = counted low ∙ ap (λ b. cond b 0 1) good
      by_good low false bad = absurd (bad_ended (mute S.commands) S.set.shape S.set.limits one opened kept peer low bad going)

  -- what the last core has told
  all_told : Untold (told_of (last_core S story)) ⊎ EndsNoted (last_core S story)
  all_told = go opened.ended refl
    where
      go : (o : Option CoreFault) → opened.ended ≡ o → Untold (told_of (last_core S story)) ⊎ EndsNoted (last_core S story)
      go None going = subst (λ (c : Core). Untold (told_of c) ⊎ EndsNoted c) (sym (last_is S r story went))
          (all_noted (mute S.commands) S.set.shape S.set.limits one opened (story.opening ++ all_events story.lines) kept (all_come_so S r story went) (all_ask_so S r story went) going (first_untold going))
      go (Some f) over = subst (λ (c : Core). Untold (told_of c) ⊎ EndsNoted c) (sym (last_opened S r story went f over))
          (inr (record { ended = λ none. clash f (sym none ∙ over); last = firsts_last n (told_of opened) firsts }))
        where
          clash : (f : CoreFault) → None ≡ Some f → ⊥
          clash f e = cc e

  part_untold : Untold (told_of (last_core S story)) → Untold r.journal
  part_untold untold peer =
      let all : note_count peer (told_of (last_core S story)) ≡ note_count peer (last_core S story).journal + note_count peer (last_core S story).refused = count_parts peer (last_core S story).journal (last_core S story).refused in
      let none : note_count peer (told_of (last_core S story)) ≡ 0 = untold peer in
      let same : note_count peer r.journal ≡ note_count peer (last_core S story).journal = ap (λ (es : List JournalEntry). note_count peer es) went.journal in
      omega (arith, all, none, same)

  pub notes_end : NotesEnd r
  notes_end = record {
    past = λ past. elim all_told [
      | inl untold ↦ part_untold untold
      | inr over ↦ absurd (over.ended (went.ends.past past))
    ];
    last = elim all_told [
      | inl untold ↦ none_last r.journal (part_untold untold)
      | inr over ↦ subst (λ es. NotesComeLast es) (sym went.journal) (last_left (last_core S story).journal (last_core S story).refused over.last)
    ];
  }

pub never_notes : (r : Ran) → r.journal ≡ [] → NotesEnd r
never_notes r none = record {
  past = λ past peer. untold peer;
  last = none_last r.journal untold;
}
  where
    untold : Untold r.journal
    untold peer = ap (λ (es : List JournalEntry). note_count peer es) none
