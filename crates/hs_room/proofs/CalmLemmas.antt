-- How many entries a core has told, by the lines that came.
use Rattle.std.proofs.Common.{◌≡◌, ◌∙◌, ap, subst, ℕ, zero, suc, ◌+◌, ◌*◌, ◌<◌, ◌≤◌, true, List, [], ◌∷◌, Option, Some, None, refl, arith, length, map, take, count_by, slice_get}
use Rattle.std.proofs.lemmas.List.{length-map}
use Rattle.std.proofs.lemmas.List.Elements.{All-from_recursion}
use Rattle.std.proofs.lemmas.List.FromFn.{length-range_with_len}
use Rattle.std.specs.List.{AllByRecursion, range_with_len}
use Rattle.hs_core_words.specs.Looking.{shape_of}
use Rattle.hs_core_words.specs.State.{Core}
use Rattle.hs_events.specs.Course.{steps}
use Rattle.hs_events.specs.Due.{Events}
use Rattle.hs_events.specs.Found.{Found, first_core, opens_with}
use Rattle.hs_events.specs.Taken.{peer_count}
use Rattle.hs_fold.specs.Runs.Facts.{Catalogue as Folded, plain}
use Rattle.hs_fold.specs.Runs.Opened.{catalogues, store_of}
use Rattle.hs_fold.specs.Shards.Setting.{Numbered, Setting}
use Rattle.hs_journal.specs.declared.entry.JournalEntry.{JournalEntry}
use Rattle.hs_journal.specs.declared.entry.Who.{Who}
use Rattle.hs_journal.specs.declared.entry.Who.TheVariants as who
use Rattle.hs_journal.specs.Events.{client_op}
use Rattle.hs_journal.specs.Order.{IsOfLine}
use Rattle.hs_journal.specs.Telling.{MayTell}
use Rattle.hs_journal.specs.Notes.{note_count}
use Rattle.hs_laws.specs.Valid.{IsValid}
use Rattle.hs_limits.specs.declared.limits.Limits.{Limits}
use Rattle.hs_limits.specs.declared.shape.Shape.{Shape}
use Rattle.hs_measure.proofs.EventLemmas.{all_come}
use Rattle.hs_measure.specs.Promised.{KeepsPromise}
use Rattle.hs_model.specs.declared.command.Command.{Command}
use Rattle.hs_model.specs.declared.command.Command.TheVariants as command
use Rattle.hs_model.specs.declared.op.Op.TheVariants as op
use Rattle.hs_model.specs.Store.{Store}
use Rattle.hs_ports.specs.Objects.{Objects}
use Rattle.hs_promise.specs.Answers.{IsEntry}
use Rattle.hs_promise.specs.Completes.{deletes_up_to, entries_most, is_delete as asks_delete}
use Rattle.hs_promise.specs.declared.status.Status.TheVariants as status
use Rattle.hs_promise.specs.Run.{Ran, Script}
use Rattle.hs_room.proofs.NotedLemmas.{Noting, mute_all, noting_all, noting_first, own_front}
use Rattle.hs_room.proofs.NotesLemmas.{few_all, few_first, first_lead, started_most}
use Rattle.hs_room.specs.Room.{HasRoom, started, starts_in}
use Rattle.hs_settled.proofs.CausesListLemmas.{all_at}
use Rattle.hs_settled.proofs.CausesRunLemmas.{mute}
use Rattle.hs_settled.proofs.DeletesRunLemmas.{may_front}
use Rattle.hs_settled.proofs.BegunLemmas.{ranked, valid}
use Rattle.hs_settled.proofs.EndsCountLemmas.{many, many-all, many-counted, sum_both, sum_from, sum_ones}
use Rattle.hs_settled.proofs.KindLemmas.{lines_most}
use Rattle.hs_settled.proofs.LedLemmas.{led_by}
use Rattle.hs_settled.proofs.NotingLemmas.{all_append, all_weaker}
use Rattle.hs_settled.proofs.PromiseLemmas.{deletes_of}
use Rattle.hs_settled.proofs.ShortLemmas.{calm_most}
use Rattle.hs_settled.proofs.StepLemmas.{is_delete, is_deletion, is_of_line}
use Rattle.hs_settled.specs.Calm.{IsCalm}
use Rattle.hs_settled.specs.Noted.{AllAreOwn, StandsFor}
use Rattle.hs_settled.specs.Settled.{IsNoFirst}
use Rattle.hs_standing.specs.Lists.{Lists, whole_from}
use Rattle.hs_standing.specs.Opening.{opened_folds, opened_lists}
use Rattle.hs_standing.proofs.TakenLemmas.{FoldsInMemory}
use Rattle.hs_standing.specs.Run.{MayRun, RunBegins}
use Rattle.hs_standing.specs.Standing.{AllMayKeep}
use Rattle.hs_standing.specs.Start.{Start}
use Rattle.hs_told.specs.InTurn.{AllMayCome, told_of}

-- ---- the store at entry has its shards

catalogues_long : (set : Setting) (shard : ℕ) (lists : List Numbered) → length (catalogues set shard lists) ≡ length lists
catalogues_long set shard [] = refl
catalogues_long set shard (list ∷ lists) = ap (λ n. suc n) (catalogues_long set (shard + 1) lists)

whole_long : (lists : Lists) (shard n : ℕ) → length (whole_from lists shard n) ≡ n
whole_long lists shard zero = refl
whole_long lists shard (suc n) = ap (λ k. suc k) (whole_long lists (shard + 1) n)

store_long : (cs : List Folded) → length (store_of cs).epochs ≡ length cs
store_long cs = length-map (map plain cs) _ ∙ length-map cs plain

shards_long : (start : Start) (found : Found) → start.entry ≡ store_of (opened_folds start.set found) → length start.entry.epochs ≡ start.set.shape.shards
shards_long start found is =
    ap (λ (s : Store). length s.epochs) is ∙ store_long (opened_folds start.set found)
    ∙ catalogues_long start.set 0 (whole_from (opened_lists start.set found) 0 start.set.shape.shards) ∙ whole_long (opened_lists start.set found) 0 start.set.shape.shards

-- ---- lines

range_at : (from n i x : ℕ) → slice_get (range_with_len from n) i ≡ Some x → from + i ≡ x
range_at from zero i x at = absurd (cc at)
range_at from (suc n) zero x at = let is : from ≡ x = cc at in omega (arith, is)
range_at from (suc n) (suc i) x at = let rest : (from + 1) + i ≡ x = range_at (from + 1) n i x at in omega (arith, rest)

deletion_asked : (c : Option Command) → is_deletion (client_op c) ≡ true → asks_delete c ≡ true
deletion_asked (Some (command.Client op.Delete)) e = refl
deletion_asked (Some (command.Client other)) e = e
deletion_asked other e = cc e

mute_tells : (shape : Shape) (limits : Limits) (commands : ℕ → Option Command) (n : ℕ) (entry : JournalEntry) → MayTell shape limits (mute commands n) entry → (1 ≤ n) × MayTell shape limits (commands n) entry
mute_tells shape limits commands zero entry h = absurd h
mute_tells shape limits commands (suc n) entry h = (omega arith, h)

-- ---- one core

-- nothing was handed to it
no_objects : Objects
no_objects = record { moment = 0; disks = []; got = None; left = None; disk_faults = []; sink_faults = 0; source_faults = 0 }

module _ (start : Start) (core : Core) where
  abbrev S : Script
  S = record { set = start.set; commands = start.commands }

  abbrev last : ℕ
  last = core.progress.event_line

  -- the run that has told just this
  abbrev ran : Ran
  ran = record { ending = status.Done; line = 0; journal = told_of core; kept = []; stored = []; refused = []; course = []; old = no_objects; new = no_objects }

  abbrev Stands : JournalEntry → Type 0
  Stands e = StandsFor (mute start.commands) start.set.shape start.set.limits last e

  entry_is : (e : JournalEntry) → Stands e → IsEntry S last e
  entry_is e s = go e.who s
    where
      go : (w : Who) → Stands (record e { who = w }) → IsEntry S last (record e { who = w })
      go (who.Line n) h = (h.0, (mute_tells start.set.shape start.set.limits start.commands n (record e { who = who.Line n }) h.1).1)
      go (who.Shard g) h = h
      go who.Store h = h

  line_is : (e : JournalEntry) (n : ℕ) → e.who ≡ who.Line n → Stands e → (1 ≤ n) × (n ≤ last)
  line_is e n is s =
      let h : Stands (record e { who = who.Line n }) = subst (λ (w : Who). Stands (record e { who = w })) is s in
      ((mute_tells start.set.shape start.set.limits start.commands n (record e { who = who.Line n }) h.1).0, h.0)

  module _ (its : Noting (mute start.commands) start.set.shape start.set.limits core) where
    stand : (es : List JournalEntry) → AllByRecursion (StandsFor (mute start.commands) (shape_of core) core.limits last) es → AllByRecursion Stands es
    stand es h =
        subst (λ (z : Shape). AllByRecursion (StandsFor (mute start.commands) z start.set.limits last) es) its.shaped
        (subst (λ (l : Limits). AllByRecursion (StandsFor (mute start.commands) (shape_of core) l last) es) its.limited h)

    all_stand : AllByRecursion Stands (told_of core)
    all_stand = all_append Stands core.journal core.refused (stand core.journal its.noted.journal) (stand core.refused its.noted.refused)

    -- an entry of a line is of one up to the last
    pub line_within : (i n : ℕ) → IsOfLine (told_of core) i n → (1 ≤ n) × (n ≤ core.progress.event_line)
    line_within i n of = line_is of.entry n of.line (all_at Stands (told_of core) i of.entry all_stand of.at)

    within : (i n : ℕ) → IsOfLine (told_of core) i n → (1 ≤ n) × (n < 1 + length (range_with_len 1 last))
    within i n of =
        let is : (1 ≤ n) × (n ≤ last) = line_within i n of in
        let long : length (range_with_len 1 last) ≡ last = length-range_with_len 1 last in
        (is.0, (let low : n ≤ last = is.1 in omega (arith, low, long)))

    module _ (keeps : KeepsPromise start core) (led : AllByRecursion IsNoFirst (told_of core)) (caps : ℕ → ℕ) (spare : ℕ) (few : (peer : ℕ) → peer < peer_count start.set.shape → note_count peer (told_of core) ≤ caps peer)
        (sum : sum_from 0 (peer_count start.set.shape) caps ≤ peer_count start.set.shape + spare) (valid : IsValid start.entry) (shards : length start.entry.epochs ≡ start.set.shape.shards) where
      calm : IsCalm S start.entry last ran
      calm = record {
        answers = record { legal = keeps.answers.legal; replied = keeps.answers.replied; ordered = keeps.answers.ordered };
        deletes = deletes_of S start.entry ran keeps.deletes.told;
        entries = All-from_recursion (IsEntry S last) (told_of core) (all_weaker Stands (IsEntry S last) entry_is (told_of core) all_stand);
        led = led_by (told_of core) led;
      }

      of_lines : many (is_of_line (λ o. true) S) (told_of core) ≤ last
      of_lines =
          let most : many (is_of_line (λ o. true) S) (told_of core) ≤ count_by (λ (line : ℕ). true) (range_with_len 1 last) =
          lines_most S (range_with_len 1 last) (told_of core) within keeps.answers.ordered.once (λ o. true) (λ (line : ℕ). true) (λ i line at is. refl) in
          let counted : many (λ (line : ℕ). true) (range_with_len 1 last) ≡ count_by (λ (line : ℕ). true) (range_with_len 1 last) = many-counted (λ (line : ℕ). true) (range_with_len 1 last) in
          let whole : many (λ (line : ℕ). true) (range_with_len 1 last) ≡ length (range_with_len 1 last) = many-all (range_with_len 1 last) in
          let long : length (range_with_len 1 last) ≡ last = length-range_with_len 1 last in
          omega (arith, most, counted, whole, long)

      deletions : many (is_delete S) (told_of core) ≤ deletes_up_to start.commands last
      deletions = lines_most S (range_with_len 1 last) (told_of core) within keeps.answers.ordered.once is_deletion (λ (line : ℕ). asks_delete (start.commands line)) (λ i line at is.
          subst (λ k. asks_delete (start.commands k) ≡ true) (range_at 1 last i line at) (deletion_asked (start.commands (1 + i)) is))

      -- of so many lines' entries
      pub most_by : (lines : ℕ) → many (is_of_line (λ o. true) S) (told_of core) ≤ lines → length (told_of core) ≤ lines + (2 * start.set.shape.shards + 1) * (deletes_up_to start.commands last + 2) + (peer_count start.set.shape + spare)
      most_by lines heard = calm_most S start.entry last lines (deletes_up_to start.commands last) (peer_count start.set.shape + spare) caps ran valid shards calm heard deletions few sum

      pub has_room : HasRoom start spare core
      has_room = record {
        most = most;
        room = λ fits full.
            let over : core.limits.ops < length (told_of core) = its.ends.full full in
            let limit : core.limits.ops ≡ start.set.limits.ops = ap (λ (l : Limits). l.ops) its.limited in
            let all : length (told_of core) ≤ entries_most start.commands start.set.shape last + spare = most in
            let room : entries_most start.commands start.set.shape last + spare ≤ start.set.limits.ops = fits in
            omega (arith, over, limit, all, room);
      }
        where
          most : length (told_of core) ≤ entries_most start.commands start.set.shape last + spare
          most =
              let all = most_by last of_lines in
              omega (arith, all)

-- ---- behind each front of events

-- the laws below, in one place
pub record RoomLaws : Type 0 where
  pub keeps : (start : Start) (found : Found) (events : Events) → RunBegins start found → AllMayKeep start (MayRun start) (first_core start.set found) events → (n : ℕ) → KeepsPromise start (steps (first_core start.set found) (take n events))
  pub led : (start : Start) (found : Found) (events : Events) → RunBegins start found → AllMayKeep start (MayRun start) (first_core start.set found) events → AllByRecursion IsNoFirst (told_of (steps (first_core start.set found) events))
  pub memory : FoldsInMemory

module _ (laws : RoomLaws) (start : Start) (found : Found) (events : Events) (b : RunBegins start found) (may : AllMayKeep start (MayRun start) (first_core start.set found) events) (own : AllAreOwn start.commands (first_core start.set found) events) where
  come : AllMayCome start.commands (first_core start.set found) events
  come = all_come start events (first_core start.set found) may

  mute_own : (n : ℕ) → AllAreOwn (mute start.commands) (first_core start.set found) (take n events)
  mute_own n = own_front (mute start.commands) events (first_core start.set found) (mute_all start.commands events (first_core start.set found) come own) n

  first_noting : Noting (mute start.commands) start.set.shape start.set.limits (first_core start.set found)
  first_noting = noting_first (mute start.commands) start.set.shape start.set.limits (opens_with start.set found) found.opened b.soundly.many

  pub noting_at : (n : ℕ) → Noting (mute start.commands) start.set.shape start.set.limits (steps (first_core start.set found) (take n events))
  noting_at n = noting_all (mute start.commands) start.set.shape start.set.limits (take n events) (first_core start.set found) first_noting (mute_own n)

  abbrev caps : ℕ → ℕ → ℕ
  caps n peer = 1 + started peer (first_core start.set found) (take n events)

  few_at : (n peer : ℕ) → peer < peer_count start.set.shape → note_count peer (told_of (steps (first_core start.set found) (take n events))) ≤ caps n peer
  few_at n peer low =
      let few =
      few_all (mute start.commands) start.set.shape start.set.limits peer (take n events) (first_core start.set found) first_noting (mute_own n) (first_lead start.set found b.soundly.many (ranked start found b)) 0
      (few_first start.set found b.soundly.many (ranked start found b) peer low) in
      omega (arith, few)

  sum_at : (n : ℕ) → sum_from 0 (peer_count start.set.shape) (caps n) ≤ peer_count start.set.shape + starts_in (first_core start.set found) (take n events)
  sum_at n =
      let both : sum_from 0 (peer_count start.set.shape) (caps n)
      ≡ sum_from 0 (peer_count start.set.shape) (λ peer. 1) + sum_from 0 (peer_count start.set.shape) (λ peer. started peer (first_core start.set found) (take n events)) =
      sum_both (λ peer. 1) (λ peer. started peer (first_core start.set found) (take n events)) 0 (peer_count start.set.shape) in
      let ones = sum_ones 0 (peer_count start.set.shape) in
      let rest = started_most (take n events) (first_core start.set found) 0 (peer_count start.set.shape) in
      omega (arith, both, ones, rest)

  pub room_at : (n : ℕ) → HasRoom start (starts_in (first_core start.set found) (take n events)) (steps (first_core start.set found) (take n events))
  room_at n =
      has_room start (steps (first_core start.set found) (take n events)) (noting_at n) (laws.keeps start found events b may n)
      (laws.led start found (take n events) b (may_front start events (first_core start.set found) may n)) (caps n) (starts_in (first_core start.set found) (take n events)) (few_at n) (sum_at n)
      (valid start found b laws.memory) (shards_long start found b.entry)

  -- of all events, where so many of the lines have an entry
  pub most_of : (lines : ℕ) → many (is_of_line (λ o. true) (record { set = start.set; commands = start.commands })) (told_of (steps (first_core start.set found) (take (length events) events))) ≤ lines
      → length (told_of (steps (first_core start.set found) (take (length events) events)))
      ≤ lines + (2 * start.set.shape.shards + 1) * (deletes_up_to start.commands (steps (first_core start.set found) (take (length events) events)).progress.event_line + 2)
      + (peer_count start.set.shape + starts_in (first_core start.set found) (take (length events) events))
  most_of lines heard =
      most_by start (steps (first_core start.set found) (take (length events) events)) (noting_at (length events)) (laws.keeps start found events b may (length events))
      (laws.led start found (take (length events) events) b (may_front start events (first_core start.set found) may (length events))) (caps (length events)) (starts_in (first_core start.set found) (take (length events) events))
      (few_at (length events)) (sum_at (length events)) (valid start found b laws.memory) (shards_long start found b.entry) lines heard

  pub noted_last : Noting (mute start.commands) start.set.shape start.set.limits (steps (first_core start.set found) (take (length events) events))
  noted_last = noting_at (length events)
