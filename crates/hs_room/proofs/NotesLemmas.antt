-- Of each peer there is at most one note, and one more for each of its `start` lines that was not refused.
use Rattle.std.proofs.Common.{◌≡◌, ◌≢◌, ◌⊎◌, inl, inr, ◌∙◌, ap, sym, subst, ℕ, zero, suc, ◌+◌, ◌*◌, ◌<◌, ◌≤◌, ◌==◌, ◌&&◌, ◌++◌, Bool, true, false, cond, List, [], ◌∷◌, Option, Some, None, refl, arith, tests, length, map, drop, append-nil, is_none, is_some}
use Rattle.std.proofs.lemmas.Bool.{cases_eq, ne_eqb}
use Rattle.std.specs.Option.{option_map, option_map_or}
use Rattle.std.specs.Prelude.{if◌then◌else◌, slice_index_or}
use Rattle.hs_awaiting.specs.Words.{change_if, change_with}
use Rattle.hs_copies.proofs.StatusLemmas.{become_other}
use Rattle.hs_core_words.specs.Asking.{no_peer, not_down}
use Rattle.hs_core_words.specs.Changing.{change_pool, note, set_tasks}
use Rattle.hs_core_words.specs.declared.event.Event.{Event}
use Rattle.hs_core_words.specs.declared.event.Event.TheVariants as event
use Rattle.hs_core_words.specs.declared.task.Task.{Task}
use Rattle.hs_core_words.specs.Looking.{first_task, shape_of, status_of, tasks_of}
use Rattle.hs_core_words.specs.Opening.{new_core}
use Rattle.hs_core_words.specs.Reporting.{on_report, take_report}
use Rattle.hs_core_words.specs.State.{Core}
use Rattle.hs_core_words.specs.Step.{begin_event, do_event, end_event, keep_entries, refuse_entries, step}
use Rattle.hs_desk.specs.Answers.{answers}
use Rattle.hs_desk.specs.declared.done.Done.{Done}
use Rattle.hs_desk.specs.declared.done.Done.TheVariants as done
use Rattle.hs_desk.specs.declared.fault.CoreFault.{CoreFault}
use Rattle.hs_events.specs.Course.{steps}
use Rattle.hs_events.specs.Due.{Events, is_answer}
use Rattle.hs_events.specs.Found.{Found, first_core, opens_with}
use Rattle.hs_events.specs.Reports.{costs}
use Rattle.hs_events.specs.Taken.{peer_count}
use Rattle.hs_fold.specs.Shards.Setting.{Setting}
use Rattle.hs_journal.specs.declared.entry.JournalEntry.{JournalEntry}
use Rattle.hs_journal.specs.declared.entry.Who.TheVariants as who
use Rattle.hs_journal.specs.Notes.{note_count}
use Rattle.hs_limits.specs.declared.limits.Limits.{Limits}
use Rattle.hs_limits.specs.declared.limits.PeerStatus.{PeerStatus}
use Rattle.hs_limits.specs.declared.limits.PeerStatus.TheVariants.{Down, Good, Joining}
use Rattle.hs_limits.specs.declared.shape.Shape.{Shape}
use Rattle.hs_members.specs.Members.{Members, become, is_down, is_good_status, status}
use Rattle.hs_model.specs.declared.command.Command.{Command}
use Rattle.hs_model.specs.declared.deed.Deed.TheVariants as deed
use Rattle.hs_model.specs.declared.reply.Reply.{Reply}
use Rattle.hs_model.specs.declared.reply.Reply.TheVariants as reply
use Rattle.hs_model.specs.Refusals.{first}
use Rattle.hs_post.specs.Pool.{restart_numbers}
use Rattle.hs_quiet.proofs.FailedLemmas.{failed_up}
use Rattle.hs_quiet.proofs.StartLemmas.{down_now, down_there}
use Rattle.hs_quiet.proofs.StepLemmas.{step_shape, step_tuned}
use Rattle.hs_quiet.proofs.TurningLemmas.{falls_members, step_turns}
use Rattle.hs_quiet.specs.Keeping.{AreInStep}
use Rattle.hs_quiet.specs.Turning.{FailsByDisk, FailsByLine, Joins, Starts, Stays, TurnsBy}
use Rattle.hs_room.proofs.NotedLemmas.{Noting, noting_step}
use Rattle.hs_room.specs.Room.{started, starts_in, starts_peer}
use Rattle.hs_settled.proofs.CausesFirstLemmas.{members_first}
use Rattle.hs_settled.proofs.DeletesRunLemmas.{steps_ended}
use Rattle.hs_settled.proofs.EndsCountLemmas.{one, sum_both, sum_from}
use Rattle.hs_settled.proofs.LossLemmas.{first_tuned}
use Rattle.hs_settled.proofs.LostLemmas.{all_good}
use Rattle.hs_settled.proofs.NotedCountLemmas.{step_counts, told_by}
use Rattle.hs_settled.proofs.NotedFirstLemmas.{first_notes}
use Rattle.hs_settled.proofs.RefusalLemmas.{at_first, before_is, clean, ended_told, runs}
use Rattle.hs_settled.specs.Noted.{AllAreOwn, IsAnswering}
use Rattle.hs_settled.specs.Opened.{OpensRanked}
use Rattle.hs_told.specs.InTurn.{told_of}
use Rattle.hs_whole_copies.proofs.FollowEventLemmas.{step_follows}
use Rattle.hs_whole_copies.specs.Whole.{FollowsLead}

-- ---- a report that answers no job changes nothing

idle_report : (peer : ℕ) (d : Done) (c : Core) → is_answer c peer d ≡ false → on_report peer d c ≡ c
idle_report peer d c idle = go (first_task peer c) idle
  where
    by_answer : (task : Task) (b : Bool) → b ≡ false → change_if b (λ x. take_report peer task.line d (set_tasks peer (drop 1 (tasks_of peer x)) x)) c ≡ c
    by_answer task true e = absurd (cc e)
    by_answer task false e = refl

    go : (o : Option Task) → option_map_or (λ j. answers peer j d) (option_map (λ (task : Task). task.job) o) false ≡ false
        → change_with o (λ task. change_if (answers peer task.job d) (λ x. take_report peer task.line d (set_tasks peer (drop 1 (tasks_of peer x)) x))) c ≡ c
    go None e = refl
    go (Some task) e = by_answer task (answers peer task.job d) e

-- a core behind the beginning of a report
begun_members : (at : ℕ) (c : Core) → (begin_event 0 at c).members ≡ c.members
begun_members at c = go _
  where
    go : (b : Bool) → (record (change_if b (change_pool restart_numbers) c) { moment = at; progress = record c.progress { event_line = cond (0 == 0) c.progress.event_line 0 } }).members ≡ c.members
    go true = refl
    go false = refl

begun_answer : (at peer : ℕ) (d : Done) (c : Core) → is_answer (begin_event 0 at c) peer d ≡ is_answer c peer d
begun_answer at peer d c = go _
  where
    go : (b : Bool) → is_answer (record (change_if b (change_pool restart_numbers) c) { moment = at; progress = record c.progress { event_line = cond (0 == 0) c.progress.event_line 0 } }) peer d ≡ is_answer c peer d
    go true = refl
    go false = refl

end_members : (x : Core) → (end_event x).members ≡ x.members
end_members x = go _
  where
    go : (b : Bool) → (cond b (refuse_entries x) (keep_entries x)).members ≡ x.members
    go true = refl
    go false = refl

-- a report of a failed disk, or an event that tells of none
record IsFailure (e : Event) : Type 0 where
  peer : ℕ
  disk : ℕ
  is : e ≡ event.Report peer (done.Failed disk)

which : (c : Core) (e : Event) → IsFailure e ⊎ ((disk : ℕ) → told_by disk e c ≡ 0)
which c (event.Report peer (done.Failed disk)) = inl (record { peer = peer; disk = disk; is = refl })
which c (event.Report peer (done.Stored number)) = inr (λ d. refl)
which c (event.Report peer (done.Sealed number)) = inr (λ d. refl)
which c (event.Report peer (done.Bytes number bytes)) = inr (λ d. refl)
which c (event.Report peer (done.Gone number)) = inr (λ d. refl)
which c (event.Report peer done.Emptied) = inr (λ d. refl)
which c (event.Report peer (done.Copied number)) = inr (λ d. refl)
which c (event.Report peer (done.Stepped switched)) = inr (λ d. refl)
which c (event.Line line o) = inr (λ d. refl)
which c (event.Turn line peer) = inr (λ d. refl)
which c (event.Deliver line number) = inr (λ d. refl)
which c (event.Lose line number) = inr (λ d. refl)
which c (event.Repeat line number) = inr (λ d. refl)
which c (event.Nudge line peer) = inr (λ d. refl)
which c (event.Fail line peer) = inr (λ d. refl)
which c (event.Start line peer) = inr (λ d. refl)

one_most : (b : Bool) → cond b 1 0 ≤ 1
one_most true = omega arith
one_most false = omega arith

-- 1 of a peer that is down
abbrev pub down_one : PeerStatus → ℕ
down_one kind = cond (is_down kind) 1 0

-- ---- a core that goes on

-- it is in step, and joining peers follow their lead
pub record InLead (c : Core) : Type 0 where
  pub in_step : AreInStep c
  pub follows : (g : ℕ) → g < (shape_of c).shards → FollowsLead g c

pub lead_step : (e : Event) (at : ℕ) (c : Core) → InLead c → (step e at c).ended ≡ None → InLead (step e at c)
lead_step e at c k on = record {
  in_step = step_tuned e at c k.in_step on;
  follows = λ g low.
      let there : g < (shape_of c).shards = subst (λ (z : Shape). g < z.shards) (step_shape e at c on) low in
      let t = k.in_step.each g there in
      step_follows g e at c t.0 t.1 (k.follows g there) on;
}

-- ---- who is down stays so, or is started

abbrev started_one : ℕ → Core → Event → ℕ
started_one p c e = cond (option_map_or (λ k. k == p) (starts_peer c e) false) 1 0

module _ (p : ℕ) (c : Core) (e : Event) (d : Core) where
  abbrev Kept : Type 0
  Kept = down_one (status_of p c) ≤ down_one (status_of p d) + started_one p c e

  kept_same : status_of p d ≡ status_of p c → Kept
  kept_same same = let is : down_one (status_of p d) ≡ down_one (status_of p c) = ap (λ k. down_one k) same in omega (arith, is)

  kept_down : (q : ℕ) → p ≡ q → d.members ≡ become q Down c.members → Kept
  kept_down q same m =
      let is : down_one (status_of p d) ≡ 1 = ap (λ k. down_one k) (ap (λ (x : Members). status p x) m ∙ ap (λ k. status p (become k Down c.members)) (sym same) ∙ down_now p c.members) in
      let most : down_one (status_of p c) ≤ 1 = one_most (is_down (status_of p c)) in
      omega (arith, is, most)

  kept_started : (line q : ℕ) → p ≡ q → e ≡ event.Start line q → first (no_peer q c ∷ not_down q c ∷ []) ≡ None → Kept
  kept_started line q same is fits =
      let test : (q == p) ≡ true = grind (arith, tests, same) in
      let starts : started_one p c e ≡ 1 =
      ap (λ x. started_one p c x) is ∙ ap (λ o. cond (option_map_or (λ k. k == p) (if is_none o then Some q else None) false) 1 0) fits ∙ ap (λ b. cond b 1 0) test in
      let most : down_one (status_of p c) ≤ 1 = one_most (is_down (status_of p c)) in
      omega (arith, starts, most)

  kept_joined : (q : ℕ) → p ≡ q → status_of q c ≡ Joining → Kept
  kept_joined q same joins =
      let none : down_one (status_of p c) ≡ 0 = ap (λ k. down_one k) (ap (λ k. status_of k c) same ∙ joins) in
      omega (arith, none)

  by_case : (q : ℕ) (kind : PeerStatus) → d.members ≡ become q kind c.members → (p ≡ q → Kept) → Kept
  by_case q kind m here = go (cases_eq p q)
    where
      go : (p ≡ q) ⊎ (p ≢ q) → Kept
      go (inl same) = here same
      go (inr n) = kept_same (ap (λ (x : Members). status p x) m ∙ become_other q p kind c.members n)

  kept_by : TurnsBy c e d → Kept
  kept_by (Stays m) = kept_same (ap (λ (x : Members). status p x) m)
  kept_by (FailsByLine line q is fits m) = by_case q Down m (λ same. kept_down q same m)
  kept_by (FailsByDisk by q is answer m) = by_case q Down m (λ same. kept_down q same m)
  kept_by (Starts line q is fits m) = by_case q Joining m (λ same. kept_started line q same is fits)
  kept_by (Joins q did is joins m) = by_case q Good m (λ same. kept_joined q same joins)

-- ---- a report that a disk failed leaves its peer down

fell : (by disk : ℕ) (c : Core) → is_answer c by (done.Failed disk) ≡ true → (on_report by (done.Failed disk) c).members ≡ become disk Down c.members
fell by disk c answer = go (first_task by c) answer
  where
    by_answer : (task : Task) (b : Bool) → b ≡ true → (change_if b (λ x. take_report by task.line (done.Failed disk) (set_tasks by (drop 1 (tasks_of by x)) x)) c).members ≡ become disk Down c.members
    by_answer task true e =
        falls_members disk (note who.Store deed.Nothing (reply.Down disk c.progress.event_line) (set_tasks by (drop 1 (tasks_of by c)) c))
    by_answer task false e = absurd (cc e)

    go : (o : Option Task) → option_map_or (λ j. answers by j (done.Failed disk)) (option_map (λ (task : Task). task.job) o) false ≡ true
        → (change_with o (λ task. change_if (answers by task.job (done.Failed disk)) (λ x. take_report by task.line (done.Failed disk) (set_tasks by (drop 1 (tasks_of by x)) x))) c).members ≡ become disk Down c.members
    go None e = absurd (cc e)
    go (Some task) e = by_answer task (answers by task.job (done.Failed disk)) e

not_down_none : (kind : PeerStatus) → kind ≢ Down → down_one kind ≡ 0
not_down_none Good n = refl
not_down_none Joining n = refl
not_down_none Down n = absurd (n refl)

-- ---- an event

module _ (commands : ℕ → Option Command) (shape : Shape) (limits : Limits) where
  abbrev N : Core → Type 0
  N c = Noting commands shape limits c

  module _ (c : Core) (its : N c) (going : c.ended ≡ None) (lead : InLead c) (at p k : ℕ) (few : note_count p (told_of c) ≤ down_one (status_of p c) + k) where
    abbrev Few : Event → Type 0
    Few e = note_count p (told_of (step e at c)) ≤ down_one (status_of p (step e at c)) + (k + started_one p c e)

    stays_down : (e : Event) → down_one (status_of p c) ≤ down_one (status_of p (step e at c)) + started_one p c e
    stays_down e = kept_by p c e (step e at c) (step_turns e at c lead.in_step)

    untold : (e : Event) → note_count p (told_of (step e at c)) ≡ note_count p (told_of c) → Few e
    untold e same = let stays = stays_down e in omega (arith, few, same, stays)

    -- a report that its disk failed
    failed : (by : ℕ) → is_answer c by (done.Failed p) ≡ true → note_count p (told_of (step (event.Report by (done.Failed p)) at c)) ≤ note_count p (told_of c) + 1 → Few (event.Report by (done.Failed p))
    failed by answer more =
        let e : Event = event.Report by (done.Failed p) in
        let begun : Core = begin_event 0 at c in
        let was : down_one (status_of p c) ≡ 0 = not_down_none (status_of p c) (failed_up c lead.in_step lead.follows by p answer) in
        let members : (step e at c).members ≡ become p Down c.members =
        ap (λ (x : Core). x.members) (runs commands c its.noted going e at) ∙ end_members (do_event e begun) ∙ fell by p begun (begun_answer at by (done.Failed p) c ∙ answer) ∙ ap (become p Down) (begun_members at c) in
        let now : down_one (status_of p (step e at c)) ≡ 1 = ap (λ kind. down_one kind) (ap (λ (x : Members). status p x) members ∙ down_now p c.members) in
        omega (arith, few, more, was, now)

    answering_few : (e : Event) → IsAnswering c e → Few e
    answering_few e may = elim (which c e) [
      | inl failure ↦ subst (λ x. Few x) (sym failure.is) (by_disk failure.peer failure.disk (subst (λ x. IsAnswering c x) failure.is may) (cases_eq failure.disk p))
      | inr none ↦
          let all : note_count p (told_of (step e at c)) ≡ note_count p (told_of c) + told_by p e c = step_counts commands c its.noted going at p e may in
          let new : told_by p e c ≡ 0 = none p in
          untold e (omega (arith, all, new))
    ]
      where
        by_disk : (by disk : ℕ) → is_answer c by (done.Failed disk) ≡ true → (disk ≡ p) ⊎ (disk ≢ p) → Few (event.Report by (done.Failed disk))
        by_disk by disk answer (inl same) =
            subst (λ x. Few (event.Report by (done.Failed x))) (sym same)
            (let mine : is_answer c by (done.Failed p) ≡ true = subst (λ x. is_answer c by (done.Failed x) ≡ true) same answer in
            let all : note_count p (told_of (step (event.Report by (done.Failed p)) at c)) ≡ note_count p (told_of c) + told_by p (event.Report by (done.Failed p)) c =
            step_counts commands c its.noted going at p (event.Report by (done.Failed p)) mine in
            let most : told_by p (event.Report by (done.Failed p)) c ≤ 1 = one_most (costs true p c (event.Report by (done.Failed p))) in
            failed by mine (omega (arith, all, most)))
        by_disk by disk answer (inr other) =
            let all : note_count p (told_of (step (event.Report by (done.Failed disk)) at c)) ≡ note_count p (told_of c) + told_by p (event.Report by (done.Failed disk)) c =
            step_counts commands c its.noted going at p (event.Report by (done.Failed disk)) answer in
            let test : (disk == p) ≡ false = ne_eqb disk p other in
            let new : told_by p (event.Report by (done.Failed disk)) c ≡ 0 = ap (λ b. cond (b && true) 1 0) test in
            untold (event.Report by (done.Failed disk)) (omega (arith, all, new))

    -- a report that answers no job tells nothing
    idle_told : (peer : ℕ) (d : Done) → is_answer c peer d ≡ false → told_of (step (event.Report peer d) at c) ≡ told_of c
    idle_told peer d idle =
        let e : Event = event.Report peer d in
        let begun : Core = begin_event 0 at c in
        ap (λ (x : Core). told_of x) (runs commands c its.noted going e at)
        ∙ ap (λ (x : Core). told_of (end_event x)) (idle_report peer d begun (begun_answer at peer d c ∙ idle))
        ∙ ended_told begun (clean commands c its.noted going e at)
        ∙ ap (λ (es : List JournalEntry). es ++ begun.entries) (at_first commands c its.noted going e at).journal
        ∙ ap (λ (es : List JournalEntry). c.journal ++ es) ((at_first commands c its.noted going e at).entries ∙ its.noted.quiet)
        ∙ append-nil c.journal ∙ sym (before_is commands c its.noted going e at)

    few_here : (e : Event) → Few e
    few_here (event.Report peer d) = go (is_answer c peer d) refl
      where
        go : (b : Bool) → is_answer c peer d ≡ b → Few (event.Report peer d)
        go true answer = answering_few (event.Report peer d) answer
        go false idle = untold (event.Report peer d) (ap (λ (es : List JournalEntry). note_count p es) (idle_told peer d idle))
    few_here (event.Line line o) = answering_few (event.Line line o) tt
    few_here (event.Turn line peer) = answering_few (event.Turn line peer) tt
    few_here (event.Deliver line number) = answering_few (event.Deliver line number) tt
    few_here (event.Lose line number) = answering_few (event.Lose line number) tt
    few_here (event.Repeat line number) = answering_few (event.Repeat line number) tt
    few_here (event.Nudge line peer) = answering_few (event.Nudge line peer) tt
    few_here (event.Fail line peer) = answering_few (event.Fail line peer) tt
    few_here (event.Start line peer) = answering_few (event.Start line peer) tt

  -- ---- any number of events

  pub few_all : (p : ℕ) (es : Events) (c : Core) → N c → AllAreOwn commands c es → (c.ended ≡ None → InLead c) → (k : ℕ) → note_count p (told_of c) ≤ down_one (status_of p c) + k
      → note_count p (told_of (steps c es)) ≤ 1 + (k + started p c es)
  few_all p [] c its own lead k few = let most : down_one (status_of p c) ≤ 1 = one_most (is_down (status_of p c)) in omega (arith, few, most)
  few_all p (e ∷ es) c its own lead k few =
      go (λ going more. few_all p es (step e.0 e.1 c) (noting_step commands shape limits e.0 e.1 c its own.0) own.1 (λ on. lead_step e.0 e.1 c (lead going) on) (k + started_one p c e.0) more) c.ended refl
    where
      go : (c.ended ≡ None → note_count p (told_of (step e.0 e.1 c)) ≤ down_one (status_of p (step e.0 e.1 c)) + (k + started_one p c e.0) → note_count p (told_of (steps (step e.0 e.1 c) es)) ≤ 1 + ((k + started_one p c e.0) + started p (step e.0 e.1 c) es))
          → (o : Option CoreFault) → c.ended ≡ o → note_count p (told_of (steps c (e ∷ es))) ≤ 1 + (k + started p c (e ∷ es))
      go later None going =
          let rest = later going (few_here c its going (lead going) e.1 p k few e.0) in
          let here : cond (is_none c.ended && option_map_or (λ j. j == p) (starts_peer c e.0) false) 1 0 ≡ started_one p c e.0 = ap (λ (x : Option CoreFault). cond (is_none x && option_map_or (λ j. j == p) (starts_peer c e.0) false) 1 0) going in
          omega (arith, rest, here)
      go later (Some f) over =
          let same : note_count p (told_of (steps c (e ∷ es))) ≡ note_count p (told_of c) = ap (λ (x : Core). note_count p (told_of x)) (steps_ended c (e ∷ es) f over) in
          let most : down_one (status_of p c) ≤ 1 = one_most (is_down (status_of p c)) in
          omega (arith, few, same, most)

  -- ---- with one copy a shard no peer is started

  module _ (single : shape.copies ≡ 1) where
    not_started : (c : Core) → N c → c.ended ≡ None → (q : ℕ) → first (no_peer q c ∷ not_down q c ∷ []) ≡ None → ⊥
    not_started c its going q fits =
        let there = down_there q c fits in
        let low : q < length c.members.statuses = there.0 in
        let shards : (shape_of c).shards ≡ shape.shards = ap (λ (z : Shape). z.shards) its.shaped in
        let copies : (shape_of c).copies ≡ 1 = ap (λ (z : Shape). z.copies) its.shaped ∙ single in
        let count : length c.members.statuses ≡ (shape_of c).shards = its.noted.peers ∙ ap (λ n. (shape_of c).shards * n) copies ∙ omega arith in
        let both : Good ≡ Down = sym (all_good c copies (its.ends.going going) q (omega (arith, low, count))) ∙ there.1 in
        cc both

    none_starts : (c : Core) → N c → (e : Event) → one (is_none c.ended && is_some (starts_peer c e)) ≡ 0
    none_starts c its e = go c.ended refl
      where
        by_refusal : c.ended ≡ None → (q : ℕ) (r : Option Reply) → first (no_peer q c ∷ not_down q c ∷ []) ≡ r → one (is_some (if is_none r then Some q else None)) ≡ 0
        by_refusal going q None fits = absurd (not_started c its going q fits)
        by_refusal going q (Some r) fits = refl

        by_event : c.ended ≡ None → (x : Event) → one (is_some (starts_peer c x)) ≡ 0
        by_event going (event.Start line q) = by_refusal going q (first (no_peer q c ∷ not_down q c ∷ [])) refl
        by_event going (event.Report peer d) = refl
        by_event going (event.Line line o) = refl
        by_event going (event.Turn line peer) = refl
        by_event going (event.Deliver line number) = refl
        by_event going (event.Lose line number) = refl
        by_event going (event.Repeat line number) = refl
        by_event going (event.Nudge line peer) = refl
        by_event going (event.Fail line peer) = refl

        go : (o : Option CoreFault) → c.ended ≡ o → one (is_none o && is_some (starts_peer c e)) ≡ 0
        go None going = by_event going e
        go (Some f) over = refl

    pub starts_none : (es : Events) (c : Core) → N c → AllAreOwn commands c es → starts_in c es ≡ 0
    starts_none [] c its own = refl
    starts_none (e ∷ es) c its own =
        let here = none_starts c its e.0 in
        let rest = starts_none es (step e.0 e.1 c) (noting_step commands shape limits e.0 e.1 c its own.0) own.1 in
        omega (arith, here, rest)

-- ---- all peers

zeros : (n m : ℕ) → sum_from n m (λ k. 0) ≡ 0
zeros n zero = refl
zeros n (suc m) = let rest = zeros (suc n) m in omega (arith, rest)

point_none : (q n m : ℕ) → q < n → sum_from n m (λ p. cond (q == p) 1 0) ≡ 0
point_none q n zero low = refl
point_none q n (suc m) low =
    let test : (q == n) ≡ false = grind (arith, tests, low) in
    let here : one (q == n) ≡ 0 = ap (λ b. one b) test in
    let rest = point_none q (suc n) m (omega (arith, low)) in
    omega (arith, here, rest)

point_most : (q n m : ℕ) → sum_from n m (λ p. cond (q == p) 1 0) ≤ 1
point_most q n zero = omega arith
point_most q n (suc m) = go (cases_eq q n) (point_most q (suc n) m)
  where
    go : (q ≡ n) ⊎ (q ≢ n) → sum_from (suc n) m (λ p. cond (q == p) 1 0) ≤ 1 → cond (q == n) 1 0 + sum_from (suc n) m (λ p. cond (q == p) 1 0) ≤ 1
    go (inl same) rest =
        let none = point_none q (suc n) m (omega (arith, same)) in
        let most : one (q == n) ≤ 1 = one_most (q == n) in
        omega (arith, none, most)
    go (inr other) rest =
        let test : (q == n) ≡ false = ne_eqb q n other in
        let here : one (q == n) ≡ 0 = ap (λ b. one b) test in
        omega (arith, here, rest)

event_most : (b : Bool) (o : Option ℕ) (n m : ℕ) → sum_from n m (λ p. cond (b && option_map_or (λ k. k == p) o false) 1 0) ≤ cond (b && is_some o) 1 0
event_most false o n m = let none : sum_from n m (λ p. cond (false && option_map_or (λ k. k == p) o false) 1 0) ≡ 0 = zeros n m in omega (arith, none)
event_most true None n m = let none : sum_from n m (λ p. cond (true && option_map_or (λ k. k == p) None false) 1 0) ≡ 0 = zeros n m in omega (arith, none)
event_most true (Some q) n m = point_most q n m

-- the starts of all peers are no more than there are
pub started_most : (es : Events) (c : Core) (n m : ℕ) → sum_from n m (λ p. started p c es) ≤ starts_in c es
started_most [] c n m = let none : sum_from n m (λ p. started p c []) ≡ 0 = zeros n m in omega (arith, none)
started_most (e ∷ es) c n m =
    let both : sum_from n m (λ p. started p c (e ∷ es)) ≡ sum_from n m (λ p. cond (is_none c.ended && option_map_or (λ k. k == p) (starts_peer c e.0) false) 1 0) + sum_from n m (λ p. started p (step e.0 e.1 c) es) =
    sum_both (λ p. cond (is_none c.ended && option_map_or (λ k. k == p) (starts_peer c e.0) false) 1 0) (λ p. started p (step e.0 e.1 c) es) n m in
    let here = event_most (is_none c.ended) (starts_peer c e.0) n m in
    let rest = started_most es (step e.0 e.1 c) n m in
    omega (arith, both, here, rest)

-- ---- as a core opens

abbrev as_told : Bool → PeerStatus
as_told b = if b then Good else Down

not_joining : (goods : List Bool) (p : ℕ) → slice_index_or (map as_told goods) p Down ≡ Joining → ⊥
not_joining [] p e = cc e
not_joining (true ∷ goods) zero e = cc e
not_joining (false ∷ goods) zero e = cc e
not_joining (b ∷ goods) (suc p) e = not_joining goods p e

abbrev bad : Bool → ℕ
bad b = cond b 0 1

bad_one : (kind : PeerStatus) → (kind ≡ Joining → ⊥) → bad (is_good_status kind) ≡ down_one kind
bad_one Good n = refl
bad_one Down n = refl
bad_one Joining n = absurd (n refl)

module _ (set : Setting) (found : Found) (many : length found.good ≡ peer_count set.shape) (opens : OpensRanked set found) where
  first_status : (p : ℕ) → status_of p (first_core set found) ≡ slice_index_or (map as_told found.good) p Down
  first_status p = ap (λ (m : Members). status p m) (members_first set.shape set.limits (opens_with set found) found.opened many)

  none_joins : (p : ℕ) → status_of p (first_core set found) ≡ Joining → ⊥
  none_joins p e = not_joining found.good p (sym (first_status p) ∙ e)

  pub first_lead : (first_core set found).ended ≡ None → InLead (first_core set found)
  first_lead on = record {
    in_step = first_tuned set found many opens on;
    follows = λ g low p r own joins came. absurd (none_joins p joins);
  }

  pub few_first : (p : ℕ) → p < peer_count set.shape → note_count p (told_of (first_core set found)) ≤ down_one (status_of p (first_core set found)) + 0
  few_first p low =
      let noted = first_notes set.shape set.limits (opens_with set found) found.opened p low in
      let same : bad (is_good_status (status p (new_core set.shape set.limits (opens_with set found) found.opened).members)) ≡ bad (is_good_status (status_of p (first_core set found))) =
      ap (λ (m : Members). bad (is_good_status (status p m))) (sym (members_first set.shape set.limits (opens_with set found) found.opened many)) in
      let down = bad_one (status_of p (first_core set found)) (none_joins p) in
      omega (arith, noted, same, down)
