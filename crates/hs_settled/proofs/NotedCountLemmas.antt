-- A disk that fails is told once, and nothing else tells that a peer is down.
use Rattle.std.proofs.Common.{◌≡◌, ◌∙◌, sym, ap, subst, ℕ, ◌+◌, ◌==◌, ◌&&◌, Bool, true, false, cond, drop, length, List, [], ◌∷◌, ◌++◌, Option, Some, None, refl, arith}
use Rattle.std.proofs.lemmas.List.Sums.{sum_by-append, sum_by_push}
use Rattle.std.specs.Option.{option_map, option_map_or}
use Rattle.hs_awaiting.specs.Words.{change_if, change_with}
use Rattle.hs_core_words.specs.Changing.{change_pool, note, refuse, set_tasks}
use Rattle.hs_core_words.specs.declared.event.Event.{Event}
use Rattle.hs_core_words.specs.declared.event.Event.TheVariants as event
use Rattle.hs_core_words.specs.declared.task.Task.{Task}
use Rattle.hs_core_words.specs.Looking.{first_task, shape_of, tasks_of}
use Rattle.hs_core_words.specs.Reporting.{on_report, take_report}
use Rattle.hs_core_words.specs.State.{Core}
use Rattle.hs_core_words.specs.Step.{begin_event, do_event, line_of, step}
use Rattle.hs_desk.specs.Answers.{answers}
use Rattle.hs_desk.specs.declared.done.Done.TheVariants as done
use Rattle.hs_events.specs.Due.{is_answer}
use Rattle.hs_events.specs.Reports.{costs, failures}
use Rattle.hs_journal.specs.declared.entry.JournalEntry.{JournalEntry}
use Rattle.hs_journal.specs.declared.entry.Who.TheVariants as who
use Rattle.hs_journal.specs.Notes.{is_note, note_count}
use Rattle.hs_limits.specs.declared.shape.Shape.{Shape}
use Rattle.hs_model.specs.declared.command.Command.{Command}
use Rattle.hs_model.specs.declared.deed.Deed.TheVariants as deed
use Rattle.hs_model.specs.declared.reply.Reply.{Reply}
use Rattle.hs_model.specs.declared.reply.Reply.TheVariants as reply
use Rattle.hs_settled.proofs.CalmLemmas.{IsNoNote, refusal_tells}
use Rattle.hs_settled.proofs.NotedEventLemmas.{step_noted}
use Rattle.hs_settled.proofs.RefusalLemmas.{at_first, before_is, clean, ended_told, runs}
use Rattle.hs_settled.proofs.NotedWalkLemmas.{Tells, stays_fail, tells_event}
use Rattle.hs_settled.specs.Noted.{AllAnswer, AllAreOwn, IsAnswering, IsNoted}
use Rattle.hs_ops.specs.Answers.{deed_of}
use Rattle.hs_post.specs.Pool.{restart_numbers}
use Rattle.hs_told.specs.InTurn.{after_all, told_of}

-- ---- counting

count_both : (disk : ℕ) (xs ys : List JournalEntry) → note_count disk (xs ++ ys) ≡ note_count disk xs + note_count disk ys
count_both disk xs ys = sum_by-append (λ (e : JournalEntry). cond (is_note disk e) 1 0) xs ys

pub count_more : (disk : ℕ) (xs : List JournalEntry) (e : JournalEntry) → note_count disk (xs ++ e ∷ []) ≡ note_count disk xs + cond (is_note disk e) 1 0
count_more disk xs e = sum_by_push (λ (x : JournalEntry). cond (is_note disk x) 1 0) xs e

nothing_more : (n : ℕ) → n + 0 ≡ n
nothing_more n = omega arith

-- an entry that tells of no peer that it is down counts for none
count_same : (disk : ℕ) (xs : List JournalEntry) (e : JournalEntry) → IsNoNote e.reply → note_count disk (xs ++ e ∷ []) ≡ note_count disk xs
count_same disk xs e none =
    count_more disk xs e ∙ ap (λ o. note_count disk xs + cond (option_map_or (λ (d : ℕ × ℕ). d.0 == disk) o false) 1 0) none ∙ nothing_more (note_count disk xs)

-- ---- while an event is done

-- the journal is as it was, and so many notes of a disk were told
pub record Counts (shape : Shape) (disk n : ℕ) (before : List JournalEntry) (c : Core) : Type 0 where
  pub groups : length c.groups ≡ shape.shards
  pub journal : c.journal ≡ before
  pub refused : c.refused ≡ []
  pub count : note_count disk c.entries ≡ n

module _ (shape : Shape) (disk n : ℕ) (before : List JournalEntry) where
  -- another entry, which is no note
  more : (c : Core) (e : JournalEntry) → IsNoNote e.reply → Counts shape disk n before c → Counts shape disk n before (record c { entries = c.entries ++ e ∷ [] })
  more c e none p = record { groups = p.groups; journal = p.journal; refused = p.refused; count = count_same disk c.entries e none ∙ p.count }

  pub counts_tells : Tells shape (λ (c : Core). Counts shape disk n before c)
  counts_tells = record {
    beside = λ c d s p. record { groups = s.groups ∙ p.groups; journal = s.journal ∙ p.journal; refused = s.refused ∙ p.refused; count = ap (λ (es : List JournalEntry). note_count disk es) s.entries ∙ p.count };
    groups = λ c p. p.groups;
    waits = λ line w was c at p. record { groups = p.groups; journal = p.journal; refused = p.refused; count = p.count };
    answers = λ line w was told c at calm p. record { groups = p.groups; journal = p.journal; refused = p.refused; count = count_same disk c.entries (record { who = who.Line line; moment = c.moment; deed = deed_of c.sessions w.operation.op told; reply = told }) calm ∙ p.count };
    restarts = λ shard number c p. record { groups = p.groups; journal = p.journal; refused = p.refused; count = p.count };
    sweeps = λ shard epoch removed c low p. more c (record { who = who.Shard shard; moment = c.moment; deed = deed.Swept shard; reply = reply.Sweep epoch removed }) refl p;
    enters = λ shard epoch c low p. more c (record { who = who.Shard shard; moment = c.moment; deed = deed.Entered shard; reply = reply.Enter epoch }) refl p;
    dones = λ epoch c p. more c (record { who = who.Store; moment = c.moment; deed = deed.Nothing; reply = reply.Done epoch }) refl p;
  }

  -- a line's refusal is no note
  refused_counts : (line : ℕ) (r : Reply) (c : Core) → IsNoNote r → Counts shape disk n before c → Counts shape disk n before (refuse line r c)
  refused_counts line r c none p = more c (record { who = who.Line line; moment = c.moment; deed = deed.Nothing; reply = r }) none p

  abbrev C : Core → Type 0
  C c = Counts shape disk n before c

  -- whatever an event does that reports no failure
  other_counts : (e : Event) (c : Core) → ((peer failed : ℕ) → e ≡ event.Report peer (done.Failed failed) → ⊥) → C c → C (do_event e c)
  other_counts e c none p = tells_event counts_tells e c (λ line o is. record { groups = p.groups; journal = p.journal; refused = p.refused; count = p.count })
      (λ r why. refused_counts (line_of e) r c (refusal_tells e c r why) p) (λ by disk is x q. absurd (none by disk is)) p

-- a report of a failure is told, where it answers the peer's first job
failed_counts : (shape : Shape) (disk n : ℕ) (before : List JournalEntry) (peer failed : ℕ) (c : Core) → is_answer c peer (done.Failed failed) ≡ true → Counts shape disk n before c
    → Counts shape disk (n + cond (failed == disk) 1 0) before (on_report peer (done.Failed failed) c)
failed_counts shape disk n before peer failed c answered p = go (first_task peer c) answered
  where
    m : ℕ
    m = n + cond (failed == disk) 1 0

    one : Core
    one = set_tasks peer (drop 1 (tasks_of peer c)) c

    noted : Counts shape disk m before (note who.Store deed.Nothing (reply.Down failed one.progress.event_line) one)
    noted = record {
      groups = p.groups;
      journal = p.journal;
      refused = p.refused;
      count =
          count_more disk c.entries (record { who = who.Store; moment = c.moment; deed = deed.Nothing; reply = reply.Down failed one.progress.event_line }) ∙ ap (λ k. k + cond (failed == disk) 1 0) p.count;
    }

    taken : (line : ℕ) → Counts shape disk m before (take_report peer line (done.Failed failed) one)
    taken line = stays_fail (counts_tells shape disk m before) failed one noted

    by_answer : (task : Task) (b : Bool) → b ≡ true → Counts shape disk m before (change_if b (λ x. take_report peer task.line (done.Failed failed) (set_tasks peer (drop 1 (tasks_of peer x)) x)) c)
    by_answer task true e = taken task.line
    by_answer task false e = absurd (cc e)

    go : (o : Option Task) → option_map_or (λ j. answers peer j (done.Failed failed)) (option_map (λ (task : Task). task.job) o) false ≡ true
        → Counts shape disk m before (change_with o (λ task. change_if (answers peer task.job (done.Failed failed)) (λ x. take_report peer task.line (done.Failed failed) (set_tasks peer (drop 1 (tasks_of peer x)) x))) c)
    go None e = absurd (cc e)
    go (Some task) e = by_answer task (answers peer task.job (done.Failed failed)) e

-- ---- an event

-- how many notes of a disk an event tells
abbrev pub told_by : ℕ → Event → Core → ℕ
told_by disk e core = cond (costs true disk core e) 1 0

module _ (commands : ℕ → Option Command) (core : Core) (its : IsNoted commands core) (goes : core.ended ≡ None) (moment disk : ℕ) where
  begun_counts : (e : Event) → Counts (shape_of core) disk 0 core.journal (begin_event (line_of e) moment core)
  begun_counts e = record {
    groups = begun_groups;
    journal = (at_first commands core its goes e moment).journal;
    refused = clean commands core its goes e moment;
    count = ap (λ (es : List JournalEntry). note_count disk es) ((at_first commands core its goes e moment).entries ∙ its.quiet);
  }
    where
      begun_groups : length (begin_event (line_of e) moment core).groups ≡ (shape_of core).shards
      begun_groups = go _
        where
          go : (b : Bool) → length (record (change_if b (change_pool restart_numbers) core) { moment = moment; progress = record core.progress { event_line = cond (line_of e == 0) core.progress.event_line (line_of e) } }).groups ≡ (shape_of core).shards
          go true = its.groups
          go false = its.groups

  -- what an event that has begun tells
  does_counts : (e : Event) (c : Core) → IsAnswering c e → Counts (shape_of core) disk 0 core.journal c → Counts (shape_of core) disk (told_by disk e c) core.journal (do_event e c)
  does_counts (event.Report peer (done.Failed failed)) c may p = subst (λ k. Counts (shape_of core) disk k core.journal (on_report peer (done.Failed failed) c)) (one_of (failed == disk)) (failed_counts (shape_of core) disk 0 core.journal peer failed c may p)
    where
      one_of : (b : Bool) → 0 + cond b 1 0 ≡ cond (b && true) 1 0
      one_of true = refl
      one_of false = refl
  does_counts (event.Report peer (done.Stored number)) c may p = other_counts (shape_of core) disk 0 core.journal (event.Report peer (done.Stored number)) c (λ q f is. cc is) p
  does_counts (event.Report peer (done.Sealed number)) c may p = other_counts (shape_of core) disk 0 core.journal (event.Report peer (done.Sealed number)) c (λ q f is. cc is) p
  does_counts (event.Report peer (done.Bytes number bytes)) c may p = other_counts (shape_of core) disk 0 core.journal (event.Report peer (done.Bytes number bytes)) c (λ q f is. cc is) p
  does_counts (event.Report peer (done.Gone number)) c may p = other_counts (shape_of core) disk 0 core.journal (event.Report peer (done.Gone number)) c (λ q f is. cc is) p
  does_counts (event.Report peer done.Emptied) c may p = other_counts (shape_of core) disk 0 core.journal (event.Report peer done.Emptied) c (λ q f is. cc is) p
  does_counts (event.Report peer (done.Copied number)) c may p = other_counts (shape_of core) disk 0 core.journal (event.Report peer (done.Copied number)) c (λ q f is. cc is) p
  does_counts (event.Report peer (done.Stepped switched)) c may p = other_counts (shape_of core) disk 0 core.journal (event.Report peer (done.Stepped switched)) c (λ q f is. cc is) p
  does_counts (event.Line line o) c may p = other_counts (shape_of core) disk 0 core.journal (event.Line line o) c (λ q f is. cc is) p
  does_counts (event.Turn line peer) c may p = other_counts (shape_of core) disk 0 core.journal (event.Turn line peer) c (λ q f is. cc is) p
  does_counts (event.Deliver line number) c may p = other_counts (shape_of core) disk 0 core.journal (event.Deliver line number) c (λ q f is. cc is) p
  does_counts (event.Lose line number) c may p = other_counts (shape_of core) disk 0 core.journal (event.Lose line number) c (λ q f is. cc is) p
  does_counts (event.Repeat line number) c may p = other_counts (shape_of core) disk 0 core.journal (event.Repeat line number) c (λ q f is. cc is) p
  does_counts (event.Nudge line peer) c may p = other_counts (shape_of core) disk 0 core.journal (event.Nudge line peer) c (λ q f is. cc is) p
  does_counts (event.Fail line peer) c may p = other_counts (shape_of core) disk 0 core.journal (event.Fail line peer) c (λ q f is. cc is) p
  does_counts (event.Start line peer) c may p = other_counts (shape_of core) disk 0 core.journal (event.Start line peer) c (λ q f is. cc is) p

  -- a report answers behind the event's beginning as before it
  same_answer : (e : Event) → IsAnswering core e → IsAnswering (begin_event (line_of e) moment core) e
  same_answer (event.Report peer d) may = same ∙ may
    where
      go : (b : Bool) → is_answer (record (change_if b (change_pool restart_numbers) core) { moment = moment; progress = record core.progress { event_line = cond (0 == 0) core.progress.event_line 0 } }) peer d ≡ is_answer core peer d
      go true = refl
      go false = refl

      same : is_answer (begin_event 0 moment core) peer d ≡ is_answer core peer d
      same = go _
  same_answer (event.Line line o) may = may
  same_answer (event.Turn line peer) may = may
  same_answer (event.Deliver line number) may = may
  same_answer (event.Lose line number) may = may
  same_answer (event.Repeat line number) may = may
  same_answer (event.Nudge line peer) may = may
  same_answer (event.Fail line peer) may = may
  same_answer (event.Start line peer) may = may

  -- what an event costs rests on its report alone
  same_cost : (e : Event) (c : Core) → costs true disk c e ≡ costs true disk core e
  same_cost (event.Report peer d) c = refl
  same_cost (event.Line line o) c = refl
  same_cost (event.Turn line peer) c = refl
  same_cost (event.Deliver line number) c = refl
  same_cost (event.Lose line number) c = refl
  same_cost (event.Repeat line number) c = refl
  same_cost (event.Nudge line peer) c = refl
  same_cost (event.Fail line peer) c = refl
  same_cost (event.Start line peer) c = refl

  pub step_counts : (e : Event) → IsAnswering core e → note_count disk (told_of (step e moment core)) ≡ note_count disk (told_of core) + told_by disk e core
  step_counts e may =
      ap (λ (x : Core). note_count disk (told_of x)) (runs commands core its goes e moment)
      ∙ ap (λ (es : List JournalEntry). note_count disk es) (ended_told (do_event e b) c.refused)
      ∙ count_both disk (do_event e b).journal (do_event e b).entries
      ∙ ap (λ k. note_count disk (do_event e b).journal + k) c.count
      ∙ ap (λ (es : List JournalEntry). note_count disk es + told_by disk e b) (c.journal ∙ sym (before_is commands core its goes e moment))
      ∙ ap (λ t. note_count disk (told_of core) + cond t 1 0) (same_cost e b)
    where
      b : Core
      b = begin_event (line_of e) moment core

      c : Counts (shape_of core) disk (told_by disk e b) core.journal (do_event e b)
      c = does_counts e b (same_answer e may) (begun_counts e)

-- any number of them
pub all_counts : (commands : ℕ → Option Command) (disk : ℕ) (core : Core) (es : List (Event × ℕ)) → IsNoted commands core → AllAreOwn commands core es → AllAnswer core es
    → note_count disk (told_of (after_all core es)) ≡ note_count disk (told_of core) + failures true disk core es
all_counts commands disk core [] its own may = sym (nothing_more (note_count disk (told_of core)))
all_counts commands disk core (e ∷ es) its own may =
    all_counts commands disk (step e.0 e.1 core) es (step_noted commands e.0 e.1 core its own.0) own.1 may.2
    ∙ ap (λ k. k + failures true disk (step e.0 e.1 core) es) (step_counts commands core its may.0 e.1 disk e.0 may.1)
    ∙ shift (note_count disk (told_of core)) (told_by disk e.0 core) (failures true disk (step e.0 e.1 core) es)
  where
    shift : (a b c : ℕ) → (a + b) + c ≡ a + (b + c)
    shift a b c = omega arith
