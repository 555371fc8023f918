-- A settle that was gone past leaves nothing open; it has answered all earlier lines, and leaves the store level.
use Rattle.std.proofs.Common.{◌≡◌, ◌∙◌, ◌⊎◌, inl, inr, sym, ap, subst, ℕ, zero, suc, ◌+◌, ◌*◌, ◌<◌, ◌≤◌, ◌++◌, ◌-◌, true, false, List, [], ◌∷◌, Option, Some, None, IsSome, refl, length, arith, slice_get, take, drop, take-append-drop, append-nil, append_assoc, length-append}
use Rattle.std.proofs.lemmas.Bool.{cases_eq}
use Rattle.std.proofs.lemmas.Grind.{flat_map-append}
use Rattle.std.specs.List.{AllByRecursion}
use Rattle.std.specs.Prelude.{flat_map}
use Rattle.hs_answered.specs.Telling.{Judging, events_in}
use Rattle.hs_settled.proofs.AskLemmas.{opening_due}
use Rattle.hs_settled.proofs.CausesFirstLemmas.{line_first}
use Rattle.hs_settled.proofs.CausesRunLemmas.{flat_is, mute}
use Rattle.hs_core_words.specs.Looking.{shape_of}
use Rattle.hs_core_words.specs.State.{Core}
use Rattle.hs_core_words.specs.Step.{step}
use Rattle.hs_settled.proofs.RuleLemmas.{all_front}
use Rattle.hs_settled.proofs.BegunLemmas.{Told, begin_all, ranked, stands, valid}
use Rattle.hs_effects.specs.Logged.{MayBeginAll}
use Rattle.hs_events.proofs.RunLemmas.{steps_append}
use Rattle.hs_events.specs.Commands.{AreOfLine}
use Rattle.hs_events.specs.Course.{steps}
use Rattle.hs_events.specs.Due.{Events, is_walk, next_due}
use Rattle.hs_events.specs.Found.{first_core, opens_with}
use Rattle.hs_fold.specs.Runs.Facts.{Catalogue as Folded}
use Rattle.hs_journal.specs.declared.entry.JournalEntry.{JournalEntry}
use Rattle.hs_journal.specs.declared.entry.Who.TheVariants as who
use Rattle.hs_journal.specs.Events.{client_op}
use Rattle.hs_journal.specs.Order.{IsOfLine}
use Rattle.hs_journal.specs.Telling.{IsAnsweredBefore, IsFirstAbove}
use Rattle.hs_laws.specs.Kept.{IsLevel}
use Rattle.hs_laws.specs.Valid.{IsValid}
use Rattle.hs_limits.specs.declared.address.Address.{Address}
use Rattle.hs_limits.specs.declared.limits.Limits.{Limits}
use Rattle.hs_limits.specs.declared.shape.Shape.{Shape}
use Rattle.hs_standing.specs.Telling.{told_so_far}
use Rattle.hs_standing.proofs.LinesLineLemmas.{first_next}
use Rattle.hs_standing.proofs.ValidLemmas.{told_valid}
use Rattle.hs_standing.proofs.TakenLemmas.{FoldsInMemory}
use Rattle.hs_standing.specs.Run.{MayRun, RunBegins}
use Rattle.hs_standing.specs.Standing.{AllMayKeep}
use Rattle.hs_standing.specs.Start.{Start}
use Rattle.hs_standing.specs.Legal.{IsStanding}
use Rattle.hs_standing.specs.Script.{AreLines, IsNext, all_events}
use Rattle.hs_model.specs.declared.command.Command.{Command}
use Rattle.hs_model.specs.declared.command.Command.TheVariants as command
use Rattle.hs_model.specs.declared.op.Op.{Op}
use Rattle.hs_model.specs.Run.{IsLegal, run}
use Rattle.hs_model.specs.Store.{Store}
use Rattle.hs_moments.proofs.JournalLemmas.{journal_after}
use Rattle.hs_promise.specs.Answers.{Answers, store_before}
use Rattle.hs_promise.specs.Completes.{Settles, SettlesEach}
use Rattle.hs_promise.specs.Ending.{ending_of}
use Rattle.hs_promise.specs.Lost.{IsPast}
use Rattle.hs_promise.specs.Machine.{Went, opening_is_whole}
use Rattle.hs_promise.specs.Run.{Ran, Script}
use Rattle.hs_promise.specs.Story.{Story, all_events as all_of, last_core}
use Rattle.hs_quiet.proofs.KeptRoundsLemmas.{have_rounds}
use Rattle.hs_quiet.proofs.NothingLemmas.{left_open}
use Rattle.hs_quiet.proofs.RunLemmas.{going_before as going_from, run_up}
use Rattle.hs_quiet.proofs.StoryLemmas.{settle_of_run}
use Rattle.hs_quiet.proofs.SweptLemmas.{Below}
use Rattle.hs_quiet.specs.Settled.{HaveRounds, IsLeft}
use Rattle.hs_settled.proofs.FirstLemmas.{run_told}
use Rattle.hs_settled.proofs.LevelLemmas.{IsCalm, Level, le_or, legal_front, level_along}
use Rattle.hs_settled.proofs.LineLemmas.{Reached, going_before, joined, lined, reached}
use Rattle.hs_settled.proofs.ListLemmas.{all_at, all_take, at_within, get_back, get_front, take_all, take_back}
use Rattle.hs_settled.proofs.LossLemmas.{first_tuned, first_up, logs}
use Rattle.hs_settled.proofs.OpenLemmas.{none_ask, open_level}
use Rattle.hs_settled.proofs.StartedLemmas.{there_kept}
use Rattle.hs_settled.specs.Opened.{OpensRanked}
use Rattle.hs_settled.specs.Settled.{IsNoFirst, NothingOpen, core_behind, events_up_to}
use Rattle.hs_told.specs.InTurn.{IsInTurn, told_of}
use Rattle.hs_told.specs.Part.{asking}
use Rattle.hs_told.specs.Turns.{Turns}

-- ---- some events, and those behind them

record More (core : Core) (es : Events) : Type 0 where
  more : List JournalEntry
  is : (steps core es).journal ≡ core.journal ++ more

journal_more : (core : Core) (es : Events) → More core es
journal_more core [] = record { more = []; is = sym (append-nil core.journal) }
journal_more core (e ∷ es) =
    let rest : More (step e.0 e.1 core) es = journal_more (step e.0 e.1 core) es in
    let one = journal_after e.0 e.1 core in
    record { more = _ ++ rest.more; is = rest.is ∙ ap (λ (js : List JournalEntry). js ++ rest.more) one ∙ append_assoc core.journal _ rest.more }

abbrev flat : List Events → Events
flat lines = flat_map (λ (events : Events). events) lines

-- the events of a run are those up to a line, and then the others
parted_events : (story : Story) (line : ℕ) → events_up_to story line ++ flat (drop line story.lines) ≡ all_of story
parted_events story line =
    append_assoc story.opening (flat (take line story.lines)) (flat (drop line story.lines))
    ∙ ap (λ (es : Events). story.opening ++ es) (sym (flat_map-append (λ (events : Events). events) (take line story.lines) (drop line story.lines)))
    ∙ ap (λ (ls : List Events). story.opening ++ flat ls) (take-append-drop line story.lines)

-- by what the journal of a script is judged
abbrev pub judging : Script → Judging
judging S = record { commands = S.commands; name = S.set.name; limits = S.set.limits }

-- ---- what is known of the events of a run

-- from a valid store on the core stands behind each front of them, its lines are new, and it tells of no Enter of shard 0 by itself; a shard whose list has no entry has had no view
pub record StandsAlong (S : Script) (story : Story) (entry : Store) : Type 0 where
  pub valid : IsValid entry
  pub ranked : OpensRanked S.set story.found
  pub stands : (before after : Events) → all_of story ≡ before ++ after → (cs : List Folded) × IsStanding (judging S) entry (steps (first_core S.set story.found) before) cs
  pub begins : (before after : Events) → all_of story ≡ before ++ after → (steps (first_core S.set story.found) before).ended ≡ None → MayBeginAll S.set.name before (first_core S.set story.found)
  pub first : AllByRecursion IsNoFirst (told_of (last_core S story))

-- so it is of a run over sound lists
pub along : Told → FoldsInMemory → (S : Script) (entry : Store) (story : Story) → RunBegins (record { set = S.set; commands = S.commands; entry = entry }) story.found
    → AllMayKeep (record { set = S.set; commands = S.commands; entry = entry }) (MayRun (record { set = S.set; commands = S.commands; entry = entry })) (first_core S.set story.found) (all_of story) → StandsAlong S story entry
along told memory S entry story b may = record {
  valid = valid start story.found b memory;
  ranked = ranked start story.found b;
  stands = stands start story.found b memory (all_of story) may told;
  begins = begin_all start story.found b memory (all_of story) may;
  first = run_told memory start story.found (all_of story) b may;
}
  where
    start : Start
    start = record { set = S.set; commands = S.commands; entry = entry }

op_is : (o : Option Op) → IsSome o → (said : Op) × (o ≡ Some said)
op_is None h = absurd (cc h)
op_is (Some said) h = (said, refl)

none_asks : (n : ℕ) (p : Op) → asking [] n ≡ Some p → ⊥
none_asks n p e = cc e

begin_parts : (name : List ℕ → Address) (es fs : Events) (c : Core) → MayBeginAll name (es ++ fs) c → MayBeginAll name es c × MayBeginAll name fs (steps c es)
begin_parts name [] fs c may = (tt, may)
begin_parts name (e ∷ es) fs c may = let rest = begin_parts name es fs (step e.0 e.1 c) may.1 in ((may.0, rest.0), rest.1)

-- the commands of a run are those without line 0, which has none
mute_same : (commands : ℕ → Option Command) → commands 0 ≡ None → mute commands ≡ commands
mute_same commands none = λ i n. at n i
  where
    at : (n : ℕ) → mute commands n ≡ commands n
    at zero = sym none
    at (suc n) = refl

module _ (S : Script) (r : Ran) (story : Story) (went : Went S r story) (none : S.commands 0 ≡ None) (entry : Store) (known : StandsAlong S story entry) where
  abbrev first : Core
  first = first_core S.set story.found

  abbrev begun : Core
  begun = steps (first_core S.set story.found) story.opening

  nobody : client_op (S.commands 0) ≡ None
  nobody = ap (λ (c : Option Command). client_op c) none

  next_line : IsNext S.commands (steps (first_core S.set story.found) story.opening) 1
  next_line =
      first_next S.commands false first story.opening nobody (line_first S.set.shape S.set.limits (opens_with S.set story.found) story.found.opened went.found.goods)
      (opening_due (opening_is_whole r story.lines) first story.opening went.opening)

  are_lines : AreLines (lined S r) 1 (steps (first_core S.set story.found) story.opening) story.lines
  are_lines = joined S r 1 begun story.lines went.lines

  behind_is : (n : ℕ) → core_behind S story n ≡ steps (steps (first_core S.set story.found) story.opening) (all_events (take n story.lines))
  behind_is n = steps_append first story.opening (flat (take n story.lines)) ∙ ap (λ (es : Events). steps begun es) (flat_is (take n story.lines))

  -- ---- a line that was gone past

  module _ (count : ℕ) (past : IsPast r (suc count)) where
    low : count < length story.lines
    low = by_past past
      where
        by_past : IsPast r (suc count) → count < length story.lines
        by_past (inl less) = let e = went.line in omega (arith, less, e)
        by_past (inr last) = let e = went.line in let is = last.0 in omega (arith, is, e)

    gone : suc count ≡ length story.lines → (ending_of r.ending).past ≡ true
    gone last = by_past past
      where
        by_past : IsPast r (suc count) → (ending_of r.ending).past ≡ true
        by_past (inl less) = let e = went.line in absurd (omega (arith, less, e, last))
        by_past (inr here) = here.1

    there : Reached (lined S r) 1 begun story.lines count
    there = reached (lined S r) 1 begun story.lines next_line are_lines count low gone

    next : IsNext S.commands (core_behind S story (suc count)) (suc count + 1)
    next =
        subst (λ (n : ℕ). IsNext S.commands (core_behind S story (suc count)) (n + 1)) (let e = there.is in omega (arith, e))
        (subst (λ (c : Core). IsNext S.commands c (there.line + 1)) (sym (behind_is (suc count) ∙ there.behind)) there.next)

    pub going : (core_behind S story (suc count)).ended ≡ None
    going = by_last (le_or (length story.lines) (suc count))
      where
        by_last : (length story.lines ≤ suc count) ⊎ (suc count < length story.lines) → (core_behind S story (suc count)).ended ≡ None
        by_last (inr less) = ap (λ (c : Core). c.ended) (behind_is (suc count)) ∙ going_before (lined S r) 1 begun story.lines are_lines (suc count) less
        by_last (inl all) =
            let last : suc count ≡ length story.lines = (let l = low in omega (arith, l, all)) in
            ap (λ (ls : List Events). (steps first (story.opening ++ flat ls)).ended) (ap (λ n. take n story.lines) last ∙ take_all story.lines) ∙ went.ends.past (gone last)

    abbrev E : Core
    E = core_behind S story (suc count)

    -- its events so far, and the others
    split : story.opening ++ all_events story.lines ≡ events_up_to story (suc count) ++ flat (drop (suc count) story.lines)
    split = ap (λ es. story.opening ++ es) (sym (flat_is story.lines)) ∙ sym (parted_events story (suc count))

    turn : IsInTurn S.commands (core_behind S story (suc count))
    turn = subst (λ (c : ℕ → Option Command). IsInTurn c (core_behind S story (suc count))) (mute_same S.commands none)
        (there_kept S r story went (events_up_to story (suc count)) (flat (drop (suc count) story.lines)) split).turn

    -- what the run answered behind it
    rest : More (core_behind S story (suc count)) (flat (drop (suc count) story.lines))
    rest = journal_more E (flat (drop (suc count) story.lines))

    journal_is : r.journal ≡ (core_behind S story (suc count)).journal ++ rest.more
    journal_is =
        went.journal
        ∙ ap (λ (es : Events). (steps first es).journal) (sym (parted_events story (suc count)))
        ∙ ap (λ (c : Core). c.journal) (steps_append first (events_up_to story (suc count)) (flat (drop (suc count) story.lines)))
        ∙ rest.is

    clean : (core_behind S story (suc count)).refused ≡ []
    clean = turn.going going

    quiet : (core_behind S story (suc count)).entries ≡ []
    quiet = turn.told

    told_is : told_of (core_behind S story (suc count)) ≡ (core_behind S story (suc count)).journal
    told_is = ap (λ (es : List JournalEntry). E.journal ++ es) clean ∙ append-nil E.journal

    turns : Turns S.commands (E.progress.event_line + 1) E.moment (core_behind S story (suc count)).journal (asking E.operations)
    turns = subst (λ (es : List JournalEntry). Turns S.commands (E.progress.event_line + 1) E.moment es (asking E.operations)) told_is turn.turns

    -- an entry below is of no later line
    front_at : (i : ℕ) (n : ℕ) → i < length E.journal → IsOfLine r.journal i n → IsOfLine (core_behind S story (suc count)).journal i n
    front_at i n less of = record {
      entry = of.entry;
      at = sym (get_front E.journal rest.more i less) ∙ sym (ap (λ (es : List JournalEntry). slice_get es i) journal_is) ∙ of.at;
      line = of.line;
    }

    not_later : (i n : ℕ) → i < length E.journal → suc count < n → IsOfLine r.journal i n → ⊥
    not_later i n less later of =
        let bound : n < E.progress.event_line + 1 = turns.begun i n (front_at i n less of) in
        let below : E.progress.event_line < suc count + 1 = next.above in
        omega (arith, bound, below, later)

    module _ (nothing : NothingOpen (core_behind S story (suc count))) where
      -- a client's line up to it has its entry
      record Placed (n : ℕ) : Type 0 where
        place : ℕ
        within : place < length (core_behind S story (suc count)).journal
        of : IsOfLine r.journal place n

      placed : (n : ℕ) → n < suc count → IsSome (client_op (S.commands n)) → Placed n
      placed n less some = by_turn (turns.each n said.0 below said.1)
        where
          said : (o : Op) × (client_op (S.commands n) ≡ Some o)
          said = op_is (client_op (S.commands n)) some

          below : n < E.progress.event_line + 1
          below = by_line (le_or n E.progress.event_line)
            where
              by_line : (n ≤ E.progress.event_line) ⊎ (E.progress.event_line < n) → n < E.progress.event_line + 1
              by_line (inl h) = omega (arith, h)
              by_line (inr h) = let both : None ≡ Some said.0 = sym (next.next n h (omega (arith, less))) ∙ said.1 in absurd (cc both)

          by_turn : ((i : ℕ) × IsOfLine E.journal i n) ⊎ ((p : Op) × (asking E.operations n ≡ Some p)) → Placed n
          by_turn (inl (i, of)) =
              let within : i < length E.journal = at_within E.journal i of.entry of.at in
              record {
                place = i;
                within = within;
                of = record { entry = of.entry; at = ap (λ (es : List JournalEntry). slice_get es i) journal_is ∙ get_front E.journal rest.more i within ∙ of.at; line = of.line };
              }
          by_turn (inr (p, asks)) = absurd (none_asks n p (sym (ap (λ ops. asking ops n) (none_ask E nothing)) ∙ asks))

      answered : (n : ℕ) → n < suc count → IsSome (client_op (S.commands n)) → IsAnsweredBefore r.journal (suc count) n
      answered n less some =
          let its : Placed n = placed n less some in
          record { place = its.place; at = its.of; first = λ other k later of. first_is its other k later of (le_or (length E.journal) other) }
        where
          first_is : (its : Placed n) (other k : ℕ) → suc count < k → IsOfLine r.journal other k → (length E.journal ≤ other) ⊎ (other < length E.journal) → its.place < other
          first_is its other k later of (inl h) = let w = its.within in omega (arith, w, h)
          first_is its other k later of (inr h) = absurd (not_later other k h later of)

      -- ---- the store is level

      abbrev by : Judging
      by = judging S

      told_all : told_so_far (core_behind S story (suc count)) ≡ (core_behind S story (suc count)).journal
      told_all = ap (λ (es : List JournalEntry). told_of E ++ es) quiet ∙ append-nil (told_of E) ∙ told_is

      level_here : Level (run S.set.limits entry (events_in (judging S) entry (core_behind S story (suc count)).journal))
      level_here =
          let its = known.stands (events_up_to story (suc count)) (flat (drop (suc count) story.lines)) (sym (parted_events story (suc count))) in
          subst (λ (es : List JournalEntry). Level (run S.set.limits entry (events_in by entry es))) told_all
          (subst (λ (s : Store). Level s) (sym its.1.tells.left)
          (open_level E its.0 its.1.lawful.folded (told_valid by entry (told_so_far E) _ known.valid its.1.tells) nothing))

      module _ (answers : Answers S entry r.journal) (settle : S.commands (suc count) ≡ Some command.Settle) (place : ℕ) (above : IsFirstAbove r.journal (suc count) place) where
        journal_long : length r.journal ≡ length E.journal + length rest.more
        journal_long = ap (λ (es : List JournalEntry). length es) journal_is ∙ length-append E.journal rest.more

        behind : length (core_behind S story (suc count)).journal ≤ place
        behind = by_place (le_or (length E.journal) place)
          where
            by_here : place < length E.journal → (place ≡ length r.journal) ⊎ ((n : ℕ) × (suc count < n) × IsOfLine r.journal place n) → ⊥
            by_here h (inl end) = let long = journal_long in omega (arith, h, end, long)
            by_here h (inr (n, later, of)) = not_later place n h later of

            by_place : (length E.journal ≤ place) ⊎ (place < length E.journal) → length E.journal ≤ place
            by_place (inl h) = h
            by_place (inr h) = absurd (by_here h above.here)

        abbrev k : ℕ
        k = place - length E.journal

        place_is : place ≡ length E.journal + k
        place_is = let b = behind in omega (arith, b)

        taken_is : take place r.journal ≡ (core_behind S story (suc count)).journal ++ take k rest.more
        taken_is = ap (λ (es : List JournalEntry). take place es) journal_is ∙ take_back E.journal rest.more place k place_is

        firsts : AllByRecursion IsNoFirst r.journal
        firsts = subst (λ (es : List JournalEntry). AllByRecursion IsNoFirst es) (sym went.journal) (all_front IsNoFirst (last_core S story).journal (last_core S story).refused known.first)

        calm_at : (i : ℕ) (x : JournalEntry) → i < k → slice_get rest.more i ≡ Some x → IsCalm S.commands x
        calm_at i x less at = record { nobody = of_nobody; first = all_at IsNoFirst r.journal j x here firsts }
          where
            j : ℕ
            j = length E.journal + i

            j_low : j < place
            j_low = let is = place_is in omega (arith, is, less)

            here : slice_get r.journal j ≡ Some x
            here = ap (λ (es : List JournalEntry). slice_get es j) journal_is ∙ get_back E.journal rest.more j i refl ∙ at

            of_nobody : (n : ℕ) → x.who ≡ who.Line n → client_op (S.commands n) ≡ None
            of_nobody n of = by_op (client_op (S.commands n)) refl
              where
                its : IsOfLine r.journal j n
                its = record { entry = x; at = here; line = of }

                by_line : (o : Op) → client_op (S.commands n) ≡ Some o → (n ≤ suc count) ⊎ (suc count < n) → ⊥
                by_line o says (inr later) = above.none j n j_low later its
                by_line o says (inl h) = elim (cases_eq n (suc count)) [
                  | inl same ↦ (let both : None ≡ Some o = sym (ap (λ m. client_op (S.commands m)) same ∙ ap (λ (c : Option Command). client_op c) settle) ∙ says in cc both)
                  | inr apart ↦ (
                      let p : Placed n = placed n (omega (arith, h, apart)) (subst (λ (q : Option Op). IsSome q) (sym says) refl) in
                      let same : p.place ≡ j = answers.ordered.once p.place j n p.of its in
                      let w = p.within in
                      omega (arith, same, w)
                      )
                ]

                by_op : (o : Option Op) → client_op (S.commands n) ≡ o → client_op (S.commands n) ≡ None
                by_op None e = e
                by_op (Some o) e = absurd (by_line o e (le_or n (suc count)))

        level : IsLevel (store_before S entry r.journal place)
        level = subst (λ (es : List JournalEntry). IsLevel (run S.set.limits entry (events_in by entry es))) (sym taken_is)
            (level_along by entry E.journal (take k rest.more) (all_take (IsCalm S.commands) k rest.more calm_at) legal level_here).level
          where
            legal : IsLegal S.set.limits entry (events_in by entry (E.journal ++ take k rest.more))
            legal = subst (λ (es : List JournalEntry). IsLegal S.set.limits entry (events_in by entry es)) taken_is
                (legal_front by entry (take place r.journal) (drop place r.journal)
                (subst (λ (es : List JournalEntry). IsLegal S.set.limits entry (events_in by entry es)) (sym (take-append-drop place r.journal)) answers.legal))

      pub settles_past : Answers S entry r.journal → S.commands (suc count) ≡ Some command.Settle → Settles S entry r (suc count)
      settles_past answers settle = record { answered = answered; level = λ place above. level answers settle place above }

  -- of any line
  pub settles : (line : ℕ) → Answers S entry r.journal → S.commands line ≡ Some command.Settle → IsPast r line → NothingOpen (core_behind S story line) → Settles S entry r line
  settles zero answers settle past nothing = let both : None ≡ Some command.Settle = sym none ∙ settle in absurd (cc both)
  settles (suc count) answers settle past nothing = settles_past count past nothing answers settle

  -- ---- what a settle leaves

  module _ (below : Below)
      (room : 2 * S.set.shape.shards < S.set.limits.pool) (count : ℕ) (past : IsPast r (suc count)) (settle : S.commands (suc count) ≡ Some command.Settle) where
    abbrev its : Reached (lined S r) 1 (steps (first_core S.set story.found) story.opening) story.lines count
    its = there count past

    at_is : (there count past).at ≡ core_behind S story count
    at_is = its.before ∙ sym (behind_is count)

    parted_here : events_up_to story (suc count) ≡ events_up_to story count ++ (there count past).events
    parted_here =
        ap (λ (es : Events). story.opening ++ es) (flat_is (take (suc count) story.lines) ∙ its.parted ∙ ap (λ (es : Events). es ++ its.events) (sym (flat_is (take count story.lines))))
        ∙ sym (append_assoc story.opening (flat (take count story.lines)) its.events)

    end_is : steps (core_behind S story count) (there count past).events ≡ core_behind S story (suc count)
    end_is = ap (λ (c : Core). steps c its.events) (sym at_is) ∙ sym (behind_is (suc count) ∙ its.behind)

    ends_going : (steps (core_behind S story count) (there count past).events).ended ≡ None
    ends_going = ap (λ (c : Core). c.ended) end_is ∙ going count past

    walks : is_walk next_due true (there count past).line (core_behind S story count) (there count past).events ≡ true
    walks =
        subst (λ (c : Core). is_walk next_due true its.line c its.events ≡ true) at_is
        (subst (λ (c : Option Command). AreOfLine S.set.name (record { line = its.line; core = its.at; events = its.events; whole = true }) c) said its.here.events)
      where
        said : S.commands its.line ≡ Some command.Settle
        said = ap (λ n. S.commands n) (same its.is) ∙ settle
          where
            same : its.line ≡ 1 + count → its.line ≡ suc count
            same e = omega (arith, e)

    -- the events up to it, those of it, and the others
    three : (before after : Events) → (there count past).events ≡ before ++ after → all_of story ≡ (events_up_to story count ++ before) ++ (after ++ flat (drop (suc count) story.lines))
    three before after is =
        sym (parted_events story (suc count)) ∙ ap (λ xs. xs ++ flat (drop (suc count) story.lines)) (parted_here ∙ ap (λ xs. events_up_to story count ++ xs) is ∙ sym (append_assoc (events_up_to story count) before after))
        ∙ append_assoc (events_up_to story count ++ before) after (flat (drop (suc count) story.lines))

    two : all_of story ≡ events_up_to story count ++ ((there count past).events ++ flat (drop (suc count) story.lines))
    two = sym (parted_events story (suc count)) ∙ ap (λ xs. xs ++ flat (drop (suc count) story.lines)) parted_here ∙ append_assoc (events_up_to story count) its.events (flat (drop (suc count) story.lines))

    rounds : HaveRounds (core_behind S story count) (there count past).events
    rounds = have_rounds (judging S) entry its.events (core_behind S story count) each
      where
        each : (before after : Events) → its.events ≡ before ++ after
            → (cs : List Folded) × IsStanding (judging S) entry (steps (core_behind S story count) before) cs × (2 * (shape_of (steps (core_behind S story count) before)).shards < (steps (core_behind S story count) before).pool.limit)
        each before after is =
            let core_is : steps (first_core S.set story.found) (events_up_to story count ++ before) ≡ steps (core_behind S story count) before = steps_append (first_core S.set story.found) (events_up_to story count) before in
            let stands = known.stands (events_up_to story count ++ before) (after ++ flat (drop (suc count) story.lines)) (three before after is) in
            let kept = there_kept S r story went (events_up_to story count ++ before) (after ++ flat (drop (suc count) story.lines)) (ap (λ es. story.opening ++ es) (sym (flat_is story.lines)) ∙ three before after is) in
            let roomy : 2 * (shape_of (steps (first_core S.set story.found) (events_up_to story count ++ before))).shards < (steps (first_core S.set story.found) (events_up_to story count ++ before)).pool.limit =
            (let shards = ap (λ (z : Shape). z.shards) kept.shaped in let pool = kept.noted.pool in let limit = ap (λ (l : Limits). l.pool) kept.limited in omega (arith, room, shards, pool, limit)) in
            subst (λ (c : Core). (cs : List Folded) × IsStanding (judging S) entry c cs × (2 * (shape_of c).shards < c.pool.limit)) core_is (stands.0, stands.1, roomy)

    leaves : IsLeft (core_behind S story (suc count)) × ((core_behind S story (suc count)).operations ≡ [])
    leaves =
        let begin_all = known.begins (events_up_to story (suc count)) (flat (drop (suc count) story.lines)) (sym (parted_events story (suc count))) (going count past) in
        let parts = begin_parts S.set.name (events_up_to story count) its.events (first_core S.set story.found) (subst (λ xs. MayBeginAll S.set.name xs (first_core S.set story.found)) parted_here begin_all) in
        subst (λ (c : Core). IsLeft c × (c.operations ≡ [])) end_is
        (settle_of_run S.set.name S.set.shape S.set.limits (opens_with S.set story.found) story.found.opened (events_up_to story count) its.events its.line known.ranked.shape
        (logs S.set story.found went.found.goods known.ranked) parts.0 parts.1 rounds walks ends_going)

    opens_going : (first_core S.set story.found).ended ≡ None
    opens_going = going_from (events_up_to story (suc count)) (first_core S.set story.found) (going count past)

    pub nothing_open : IsLeft (core_behind S story (suc count)) × NothingOpen (core_behind S story (suc count))
    nothing_open =
        let stands = known.stands (events_up_to story (suc count)) (flat (drop (suc count) story.lines)) (sym (parted_events story (suc count))) in
        let tuned = run_up (events_up_to story (suc count)) (first_core S.set story.found) (first_tuned S.set story.found went.found.goods known.ranked opens_going) (first_up S.set story.found went.found.goods known.ranked) (going count past) in
        (leaves.0, left_open below (judging S) entry (core_behind S story (suc count)) stands.0 known.valid stands.1 tuned.0 leaves.0 leaves.1)

  module _ (below : Below) where
    -- nothing is open behind it, and no peer is joining
    pub rests : 2 * S.set.shape.shards < S.set.limits.pool → (line : ℕ) → S.commands line ≡ Some command.Settle → IsPast r line → IsLeft (core_behind S story line) × NothingOpen (core_behind S story line)
    rests room zero settle past = let both : None ≡ Some command.Settle = sym none ∙ settle in absurd (cc both)
    rests room (suc count) settle past = nothing_open below room count past settle

    -- so each settle settles
    pub settles_each : Answers S entry r.journal → SettlesEach S entry r
    settles_each answers room line settle past = settles line answers settle past (rests room line settle past).1
