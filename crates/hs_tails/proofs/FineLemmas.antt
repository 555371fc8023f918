-- The acts of an event, where a shard's View is reached only as it takes effect.
use Rattle.std.proofs.Common.{◌≡◌, ◌∙◌, sym, ap, subst, ℕ, zero, suc, ◌+◌, ◌-◌, ◌<◌, ◌==◌, Bool, true, false, cond, List, [], ◌∷◌, Option, Some, None, refl, drop, eqb-true, length}
use Rattle.hs_anatomy.proofs.ClassLemmas.{after_is}
use Rattle.hs_anatomy.proofs.OnceLemmas.{once_acts}
use Rattle.hs_anatomy.proofs.ReadyLemmas.{AreReady, PassesIdle, ready_on, ready_where, view_idle, wakes_idle}
use Rattle.hs_anatomy.proofs.StepLemmas.{committed_low, length_set, message_by, unless_by}
use Rattle.hs_anatomy.specs.Acts.{Act, Acts, AndThen, Asks, Aside, ByCopying, ByDisk, ByEmptying, ByLine, ByNudge, ByRound, Copies, Empties, Enters, Falls, FindsDown, Gets, Goes, Hands, Hears, IsAnswered, IsAside, IsBehind, IsComing, IsFalling, IsFelled, IsLevel, IsNudged, IsUrged, Joins, Loses, NoAct, Opens, Refuses, Repeats, Reports, Resends, Seals, SendsRound, Starts, Takes, TakesEffect, TellsDown, Views, bytes_report, copied_by, emptied_by, fallen, joined, sealed_by, without_job}
use Rattle.hs_anatomy.specs.Effect.{OfRound, class_of, done_by, goes_class, taken, tells_class, told_at_once}
use Rattle.hs_anatomy.specs.Once.{AreOnce, IsIdle}
use Rattle.hs_anatomy.specs.Refusing.{refusal_in}
use Rattle.hs_awaiting.specs.declared.wait.Wait.{Wait}
use Rattle.hs_awaiting.specs.declared.wait.Wait.TheVariants as wait
use Rattle.hs_awaiting.specs.declared.waiting.Waiting.{Waiting}
use Rattle.hs_awaiting.specs.Words.{change_if, change_with, each, times, ◌▸◌}
use Rattle.hs_core_words.specs.Asking.{deliver, lose, no_peer, not_down, not_up, nudge, nudge_good, send_again, send_round, send_rounds}
use Rattle.hs_core_words.specs.Changing.{change_group, change_pool, note, post, refuse, set_tasks, set_viewed}
use Rattle.hs_core_words.specs.declared.event.Event.{Event}
use Rattle.hs_core_words.specs.declared.event.Event.TheVariants as event
use Rattle.hs_core_words.specs.declared.task.Task.{Task}
use Rattle.hs_core_words.specs.Delivering.{is_new_round, take_copy}
use Rattle.hs_core_words.specs.Effects.{commit, commit_next, is_for_view, note_sweep, take_effect, wakes}
use Rattle.hs_core_words.specs.Entering.{is_enter_due, propose_due}
use Rattle.hs_core_words.specs.Failing.{commit_rest, go_down}
use Rattle.hs_core_words.specs.Joining.{is_level_with_lead, join, join_if_level, start}
use Rattle.hs_core_words.specs.Looking.{catalogue_of, first_task, front_of, group_of, home, lead_of, operation_of, status_of, tasks_of}
use Rattle.hs_core_words.specs.Operating.{go_on_with, lines_where, propose_entry, resume, resume_where}
use Rattle.hs_core_words.specs.Pending.{named}
use Rattle.hs_core_words.specs.Reporting.{is_reading, on_report, take_report, tell_bytes}
use Rattle.hs_core_words.specs.Seeing.{pointers_for}
use Rattle.hs_core_words.specs.State.{Core}
use Rattle.hs_core_words.specs.Step.{do_event, line_of}
use Rattle.hs_desk.specs.Answers.{answers, is_read_of}
use Rattle.hs_desk.specs.declared.done.Done.{Done}
use Rattle.hs_desk.specs.declared.done.Done.TheVariants as done
use Rattle.hs_desk.specs.declared.job.Job.{Job}
use Rattle.hs_desk.specs.declared.job.Job.TheVariants as job
use Rattle.hs_entry.specs.declared.entry.Entry.{Entry}
use Rattle.hs_entry.specs.declared.entry.Entry.TheVariants as kind
use Rattle.hs_journal.specs.declared.entry.Who.TheVariants as who
use Rattle.hs_members.specs.Members.{has_good, is_good_status}
use Rattle.hs_model.specs.declared.deed.Deed.TheVariants as deed
use Rattle.hs_model.specs.declared.op.Op.{Op}
use Rattle.hs_model.specs.declared.reply.Reply.{Reply}
use Rattle.hs_model.specs.declared.reply.Reply.TheVariants as reply
use Rattle.hs_ops.specs.Operations.{bytes_step, go_step}
use Rattle.hs_post.specs.declared.message.Message.{Message}
use Rattle.hs_post.specs.declared.message.Message.TheVariants as message
use Rattle.hs_post.specs.Pool.{is_full, message_at, without}
use Rattle.hs_replica.specs.Group.{commit_front, committed, is_peer, on_have, take_committed, takes}
use Rattle.hs_shard.specs.declared.effect.Effect.{Effect}
use Rattle.hs_tails.proofs.SameViewLemmas.{HasSameViews, ReachesNone, both_same, same_aside, same_begins, same_goes, same_propose, same_round, same_told}

-- all acts but that a View is reached, a peer falls or joins, and a first view begins
abbrev pub IsPlain : {s : Core} {e : Option Event} {a b : Core} → Act s e a b → Type 0
IsPlain (IsAside x) = ReachesNone x
IsPlain (Refuses now refusal is why) = Unit {0}
IsPlain (TellsDown by peer is) = Unit {0}
IsPlain (FindsDown peer is bad) = Unit {0}
IsPlain (Asks line o start is) = Unit {0}
IsPlain (Goes line w at idle) = Unit {0}
IsPlain (Hands peer number line bytes w k) = Unit {0}
IsPlain (TakesEffect shard number entry next) = Unit {0}
IsPlain (Enters shard urged due) = Unit {0}
IsPlain (Gets number from to epoch round total deltas k new) = Unit {0}
IsPlain (SendsRound back shard peer k) = Unit {0}
IsPlain (Falls peer k) = ⊥
IsPlain (Joins peer k) = ⊥
IsPlain (Opens shard is good) = ⊥

-- one after another, from the core as the event has begun
pub data Fine (s : Core) (e : Option Event) : Core → Type 0 where
  NoneYet : Fine s e s
  Then : {a b : Core} → Fine s e a → (x : Act s e a b) → IsPlain x → HasSameViews a b → Fine s e b
  ThenView : {a : Core} (shard number view : ℕ) → Fine s e a → committed (group_of shard a) ≡ Some (number, kind.View view) → view ≡ (group_of shard a).view → Fine s e (set_viewed shard true (told_at_once shard (kind.View view) a))
  ThenFalls : {a : Core} (peer : ℕ) → Fine s e a → IsFalling s e a peer → Fine s e (fallen peer a)
  ThenJoins : {a : Core} (peer : ℕ) → Fine s e a → IsLevel s e a peer → Fine s e (joined peer a)

pub acts_of : {s : Core} {e : Option Event} {b : Core} → Fine s e b → Acts s e b
acts_of NoneYet = NoAct
acts_of (Then xs x plain same) = AndThen (acts_of xs) x
acts_of (ThenView shard number view xs next is) = AndThen (AndThen (acts_of xs) (TakesEffect shard number (kind.View view) next)) (IsAside (Views shard))
acts_of (ThenFalls peer xs k) = AndThen (acts_of xs) (Falls peer k)
acts_of (ThenJoins peer xs k) = AndThen (acts_of xs) (Joins peer k)

-- ---- what a report answers

read_is : (number : ℕ) (j : Job) → is_read_of number j ≡ true → j ≡ job.Read number
read_is number (job.Read n) e = ap (λ k. job.Read k) (sym (eqb-true number n e))
read_is number other e = absurd (cc e)

reading_is : (number : ℕ) (x : Wait) → is_reading number x ≡ true → x ≡ wait.Bytes number
reading_is number (wait.Bytes n) e = ap (λ k. wait.Bytes k) (eqb-true n number e)
reading_is number other e = absurd (cc e)

first_reads : (p number : ℕ) (c : Core) (task : Task) → first_task p c ≡ Some task → is_read_of number task.job ≡ true → first_task p c ≡ Some (record { job = job.Read number; line = task.line })
first_reads p number c task first fits = first ∙ ap (λ (j : Job). Some (record { job = j; line = task.line })) (read_is number task.job fits)

round_long : (shard : ℕ) (entry : Entry) (effect : Effect) (c : Core) → length (tells_class OfRound shard effect (taken shard entry c)).groups ≡ length c.groups
round_long shard entry effect c = swept effect.removed ∙ length_set c.groups shard (take_committed (group_of shard c))
  where
    swept : (removed : Option ℕ) → length (change_with removed (note_sweep shard) (taken shard entry c)).groups ≡ length (taken shard entry c).groups
    swept None = refl
    swept (Some n) = go _
      where
        go : (b : Bool) → length (change_if b (note who.Store deed.Nothing (reply.Done (catalogue_of shard (taken shard entry c)).swept)) (note (who.Shard shard) (deed.Swept shard) (reply.Sweep (catalogue_of shard (taken shard entry c)).swept n) (taken shard entry c))).groups ≡ length (taken shard entry c).groups
        go true = refl
        go false = refl

module _ {s : Core} {e : Option Event} where
  fine_if : (b : Bool) (f : Core → Core) (c : Core) → Fine s e c → ((x : Core) → Fine s e x → Fine s e (f x)) → Fine s e (change_if b f c)
  fine_if true f c xs k = k c xs
  fine_if false f c xs k = xs

  -- an act beside
  beside_fine : (a b : Core) → Fine s e a → (x : Aside s e a b) → ReachesNone x → Fine s e b
  beside_fine a b xs x none = Then xs (IsAside x) none (same_aside x none)

  -- ---- a due Enter, and a nudge

  due_fine : (shard : ℕ) (c : Core) → IsUrged s e c shard → Fine s e c → Fine s e (propose_due shard c)
  due_fine shard c urged xs = go (is_enter_due shard c) refl
    where
      go : (b : Bool) → is_enter_due shard c ≡ b → Fine s e (change_if b (propose_entry shard (kind.Enter 0 ((catalogue_of shard c).epoch + 1))) c)
      go true due = Then xs (Enters shard urged due) tt (same_propose shard (kind.Enter 0 ((catalogue_of shard c).epoch + 1)) c)
      go false late = xs

  sends_fine : (back shard peer : ℕ) → IsNudged s e shard peer → (c : Core) → Fine s e c → Fine s e (send_round back shard c)
  sends_fine back shard peer known c xs = Then xs (SendsRound back shard peer known) tt (same_round back shard c)

  round_fine : (shard peer : ℕ) → IsNudged s e shard peer → (c : Core) → Fine s e c → Fine s e (send_rounds shard (propose_due shard c))
  round_fine shard peer known c xs =
      sends_fine 0 shard peer known _ (sends_fine 1 shard peer known (propose_due shard c) (due_fine shard c (ByNudge peer known) xs))

  nudge_fine : (peer : ℕ) (c : Core) → IsNudged s e (home peer c) peer → Fine s e c → Fine s e (nudge peer c)
  nudge_fine peer c known xs =
      beside_fine _ (nudge peer c) (fine_if (is_peer peer (lead_of (home peer c) c)) (λ core. core ▸ propose_due (home peer c) ▸ send_rounds (home peer c)) c xs (λ x ys. round_fine (home peer c) peer known x ys))
      (Resends (home peer c) peer known) tt

  -- ---- operations, where the event is no client's line

  module _ (calm : (line : ℕ) (o : Op) → e ≡ Some (event.Line line o) → ⊥) where
    resume_fine : (line : ℕ) (c : Core) → (AreOnce s.operations → (w : Waiting) → operation_of line c ≡ Some w → IsIdle w.wait) → Fine s e c → Fine s e (resume line c)
    resume_fine line c idle xs = go (operation_of line c) refl
      where
        go : (o : Option Waiting) → operation_of line c ≡ o → Fine s e (resume line c)
        go None at = rw at xs
        go (Some w) at = Then xs (Goes line w at (λ once. idle once w at)) tt (same_goes go_step line c)

    lines_fine : (lines : List ℕ) (c : Core) → (AreOnce s.operations → AreReady c lines) → Fine s e c → Fine s e (each lines resume c)
    lines_fine [] c ready xs = xs
    lines_fine (line ∷ rest) c ready xs =
        lines_fine rest (resume line c) (λ once. ready_on c line rest (ready once).0 (ready once).2) (resume_fine line c (λ once. (ready once).1) xs)

    where_fine : (shard : ℕ) (test : Waiting → Bool) → PassesIdle test → (c : Core) → Fine s e c → Fine s e (resume_where shard test c)
    where_fine shard test idle c xs = lines_fine (lines_where shard test c) c (λ once. ready_where shard test idle c (once_acts calm (acts_of xs) once)) xs

    -- ---- entries that take effect

    -- what goes on by it
    goes_fine : (shard number : ℕ) (entry : Entry) (c : Core) → committed (group_of shard c) ≡ Some (number, entry) → Fine s e c → Fine s e (goes_class (class_of entry) shard (told_at_once shard entry c))
    goes_fine shard number (kind.View view) c next xs =
        go (view == (group_of shard (told_at_once shard (kind.View view) c)).view) refl
      where
        told : Core
        told = told_at_once shard (kind.View view) c

        go : (b : Bool) → (view == (group_of shard told).view) ≡ b → Fine s e (change_if b (λ x. resume_where shard is_for_view (set_viewed shard true x)) told)
        go false other = Then xs (TakesEffect shard number (kind.View view) next) tt (same_told shard (kind.View view) c)
        go true same =
            where_fine shard is_for_view view_idle (set_viewed shard true told)
            (ThenView shard number view xs next (eqb-true view (group_of shard told).view same ∙ (same_told shard (kind.View view) c).views shard))
    goes_fine shard number (kind.Block line least bytes) c next xs = Then xs (TakesEffect shard number (kind.Block line least bytes) next) tt (same_told shard (kind.Block line least bytes) c)
    goes_fine shard number (kind.Mark line least block address) c next xs = Then xs (TakesEffect shard number (kind.Mark line least block address) next) tt (same_told shard (kind.Mark line least block address) c)
    goes_fine shard number (kind.Root line held address key) c next xs = Then xs (TakesEffect shard number (kind.Root line held address key) next) tt (same_told shard (kind.Root line held address key) c)
    goes_fine shard number (kind.Drop line key) c next xs = Then xs (TakesEffect shard number (kind.Drop line key) next) tt (same_told shard (kind.Drop line key) c)
    goes_fine shard number (kind.Enter line epoch) c next xs = Then xs (TakesEffect shard number (kind.Enter line epoch) next) tt (same_told shard (kind.Enter line epoch) c)
    goes_fine shard number (kind.Got sender epoch round total deltas) c next xs =
        let entry : Entry = kind.Got sender epoch round total deltas in
        due_fine shard (told_at_once shard entry c)
        (ByRound (subst (λ n. shard < n) (sym (round_long shard entry (done_by shard entry c).effect c)) (committed_low shard (number, entry) c next)))
        (Then xs (TakesEffect shard number entry next) tt (same_told shard entry c))
    goes_fine shard number (kind.Base view epoch swept round frames) c next xs = Then xs (TakesEffect shard number (kind.Base view epoch swept round frames) next) tt (same_told shard (kind.Base view epoch swept round frames) c)
    goes_fine shard number (kind.KeptBlock born mark flags count bytes) c next xs = Then xs (TakesEffect shard number (kind.KeptBlock born mark flags count bytes) next) tt (same_told shard (kind.KeptBlock born mark flags count bytes) c)
    goes_fine shard number (kind.KeptRoot created dropped counted address key) c next xs = Then xs (TakesEffect shard number (kind.KeptRoot created dropped counted address key) next) tt (same_told shard (kind.KeptRoot created dropped counted address key) c)
    goes_fine shard number (kind.KeptRound way other epoch round total deltas) c next xs = Then xs (TakesEffect shard number (kind.KeptRound way other epoch round total deltas) next) tt (same_told shard (kind.KeptRound way other epoch round total deltas) c)

    effect_fine : (shard number : ℕ) (entry : Entry) (c : Core) → committed (group_of shard c) ≡ Some (number, entry) → Fine s e c → Fine s e (take_effect shard entry c)
    effect_fine shard number entry c next xs =
        subst (λ x. Fine s e (resume_where shard (wakes entry (named entry c) x) x)) (sym (after_is shard entry (done_by shard entry c).effect (taken shard entry c)))
        (where_fine shard (wakes entry (named entry c) after) (wakes_idle entry (named entry c) after) after (goes_fine shard number entry c next xs))
      where
        after : Core
        after = goes_class (class_of entry) shard (told_at_once shard entry c)

    next_fine : (shard : ℕ) (c : Core) → Fine s e c → Fine s e (commit_next shard c)
    next_fine shard c xs = go (committed (group_of shard c)) refl
      where
        go : (o : Option (ℕ × Entry)) → committed (group_of shard c) ≡ o → Fine s e (change_with o (λ (x : ℕ × Entry). take_effect shard x.1) c)
        go None none = xs
        go (Some x) next = effect_fine shard x.0 x.1 c next xs

    times_fine : (n shard : ℕ) (c : Core) → Fine s e c → Fine s e (times n (commit_next shard) c)
    times_fine zero shard c xs = xs
    times_fine (suc n) shard c xs = times_fine n shard (commit_next shard c) (next_fine shard c xs)

    commit_fine : (shard : ℕ) (c : Core) → Fine s e c → Fine s e (commit shard c)
    commit_fine shard c xs = times_fine (commit_front (group_of shard c) - front_of shard c) shard c xs

    -- ---- peers

    down_fine : (peer : ℕ) (c : Core) → IsFalling s e c peer → Fine s e c → Fine s e (go_down peer c)
    down_fine peer c falling xs =
        fine_if (is_good_status (status_of peer c)) (commit_rest (home peer c)) (fallen peer c) (ThenFalls peer xs falling) (λ x ys.
        fine_if (has_good (home peer c) x.members) (commit (home peer c)) x ys (λ y zs. commit_fine (home peer c) y zs))

    level_fine : (peer : ℕ) (c : Core) → IsBehind s e c peer → Fine s e c → Fine s e (join_if_level peer c)
    level_fine peer c behind xs = go (is_level_with_lead peer c) refl
      where
        go : (b : Bool) → is_level_with_lead peer c ≡ b → Fine s e (change_if b (join peer) c)
        go true level = commit_fine (home peer c) (joined peer c) (ThenJoins peer xs (record { level = level; behind = behind }))
        go false low = xs

    -- ---- messages

    message_fine : (number : ℕ) (m : Message) (c : Core) → IsComing s e c number m → Fine s e c → Fine s e (deliver number m c)
    message_fine number (message.Copy shard to view next entry) c known xs = go (takes to view next (group_of shard c)) refl
      where
        gone : Core
        gone = change_pool (without number) c

        go : (b : Bool) → takes to view next (group_of shard c) ≡ b → Fine s e (change_if b (take_copy shard to next entry) gone)
        go true fits = beside_fine c _ xs (Takes number shard to view next entry known fits) tt
        go false late = beside_fine c gone xs (Loses number (message.Copy shard to view next entry) known.at) tt
    message_fine number (message.Have shard from to view sealed) c known xs = go (is_good_status (status_of to c)) refl
      where
        gone : Core
        gone = change_pool (without number) c

        go : (b : Bool) → is_good_status (status_of to c) ≡ b → Fine s e (change_if b (λ core. core ▸ change_group shard (on_have from view sealed) ▸ commit shard) gone)
        go true good = commit_fine shard (change_group shard (on_have from view sealed) gone) (beside_fine c _ xs (Hears number shard from to view sealed known good) tt)
        go false bad = beside_fine c gone xs (Loses number (message.Have shard from to view sealed) known.at) tt
    message_fine number (message.Round from to epoch round total deltas) c known xs = go (is_new_round to from epoch round gone) refl
      where
        gone : Core
        gone = change_pool (without number) c

        same_gone : HasSameViews c (propose_entry to (kind.Got from epoch round total deltas) gone)
        same_gone = both_same c gone (propose_entry to (kind.Got from epoch round total deltas) gone) (record { viewed = refl; views = λ g. refl }) (same_propose to (kind.Got from epoch round total deltas) gone)

        go : (b : Bool) → is_new_round to from epoch round gone ≡ b → Fine s e (change_if b (propose_entry to (kind.Got from epoch round total deltas)) gone)
        go true new = Then xs (Gets number from to epoch round total deltas known new) tt same_gone
        go false old = beside_fine c gone xs (Loses number (message.Round from to epoch round total deltas) known.at) tt

    -- ---- reports

    at_start : (c : Core) (peer : ℕ) (d : Done) → IsAnswered s e c peer d → IsAnswered s e s peer d
    at_start c peer d known = subst (λ x. IsAnswered s e x peer d) known.start known

    falling_by : (c : Core) (peer : ℕ) (a : Core) → IsFelled s e peer → c ≡ s → a.members ≡ c.members → a.groups ≡ c.groups → a.catalogues ≡ c.catalogues → IsFalling s e a peer
    falling_by c peer a why start members lists catalogues = record {
      why = why;
      members = members ∙ ap (λ (x : Core). x.members) start;
      lists = lists ∙ ap (λ (x : Core). x.groups) start;
      catalogues = catalogues ∙ ap (λ (x : Core). x.catalogues) start;
    }

    bytes_fine : (peer number line : ℕ) (bytes : Option (List ℕ)) (c : Core) → IsAnswered s e c peer (bytes_report number bytes) → first_task peer c ≡ Some (record { job = job.Read number; line = line })
        → Fine s e c → Fine s e (tell_bytes line number bytes (without_job peer c))
    bytes_fine peer number line bytes c known first xs = go (operation_of line c) refl
      where
        x : Core
        x = without_job peer c

        done : Fine s e x
        done = beside_fine c x xs (Reports peer (bytes_report number bytes) known) tt

        same : (w : Waiting) → HasSameViews c (go_on_with (λ v o. bytes_step v bytes (pointers_for w.shard w.operation.op x) o) line x)
        same w = both_same c x _ (record { viewed = refl; views = λ g. refl }) (same_goes (λ v o. bytes_step v bytes (pointers_for w.shard w.operation.op x) o) line x)

        reading : (w : Waiting) → operation_of line c ≡ Some w → (b : Bool) → is_reading number w.wait ≡ b → Fine s e (change_if b (λ y. go_on_with (λ v o. bytes_step v bytes (pointers_for w.shard w.operation.op y) o) line y) x)
        reading w at true r = Then xs (Hands peer number line bytes w (record { answered = known; first = first; at = at; waits = reading_is number w.wait r })) tt (same w)
        reading w at false r = done

        go : (o : Option Waiting) → operation_of line c ≡ o → Fine s e (change_with o (λ w. change_if (is_reading number w.wait) (λ y. go_on_with (λ v o. bytes_step v bytes (pointers_for w.shard w.operation.op y) o) line y)) x)
        go None at = done
        go (Some w) at = reading w at (is_reading number w.wait) refl

    done_fine : (peer : ℕ) (d : Done) (c : Core) (known : IsAnswered s e c peer d) → Fine s e c → Fine s e (take_report peer known.task.line d (without_job peer c))
    done_fine peer (done.Stored number) c known xs = beside_fine c _ xs (Reports peer (done.Stored number) known) tt
    done_fine peer (done.Sealed number) c known xs =
        commit_fine (home peer c) (sealed_by peer number (without_job peer c)) (beside_fine c _ xs (Seals peer number known) tt)
    done_fine peer (done.Bytes number bytes) c known xs =
        bytes_fine peer number known.task.line (Some bytes) c known (first_reads peer number c known.task known.first known.fits) xs
    done_fine peer (done.Gone number) c known xs =
        bytes_fine peer number known.task.line None c known (first_reads peer number c known.task known.first known.fits) xs
    done_fine peer done.Emptied c known xs =
        level_fine peer (emptied_by peer (without_job peer c)) (ByEmptying (at_start c peer done.Emptied known) (ap (λ x. emptied_by peer (without_job peer x)) known.start)) (beside_fine c _ xs (Empties peer known) tt)
    done_fine peer (done.Copied number) c known xs =
        level_fine peer (copied_by peer number (without_job peer c)) (ByCopying number (at_start c peer (done.Copied number) known) (ap (λ x. copied_by peer number (without_job peer x)) known.start)) (beside_fine c _ xs (Copies peer number known) tt)
    done_fine peer (done.Stepped switched) c known xs = beside_fine c _ xs (Reports peer (done.Stepped switched) known) tt
    done_fine peer (done.Failed disk) c known xs =
        let x : Core = without_job peer c in
        let told : Core = note who.Store deed.Nothing (reply.Down disk x.progress.event_line) x in
        down_fine disk told (falling_by c disk told (ByDisk peer known.reported) known.start refl refl refl)
        (Then (beside_fine c x xs (Reports peer (done.Failed disk) known) tt) (TellsDown peer disk known.reported) tt (record { viewed = refl; views = λ g. refl }))

    report_fine : (peer : ℕ) (d : Done) (c : Core) → c ≡ s → e ≡ Some (event.Report peer d) → Fine s e c → Fine s e (on_report peer d c)
    report_fine peer d c start reported xs = go (first_task peer c) refl
      where
        answered : (task : Task) → first_task peer c ≡ Some task → (b : Bool) → answers peer task.job d ≡ b → Fine s e (change_if b (λ x. take_report peer task.line d (set_tasks peer (drop 1 (tasks_of peer x)) x)) c)
        answered task first true fits = done_fine peer d c (record { start = start; reported = reported; task = task; first = first; fits = fits }) xs
        answered task first false fits = xs

        go : (o : Option Task) → first_task peer c ≡ o → Fine s e (change_with o (λ task. change_if (answers peer task.job d) (λ x. take_report peer task.line d (set_tasks peer (drop 1 (tasks_of peer x)) x))) c)
        go None first = xs
        go (Some task) first = answered task first (answers peer task.job d) refl

-- ---- events

module _ (s : Core) where
  again_fine : (line number : ℕ) (m : Message) → message_at number s.pool ≡ Some m → Fine s (Some (event.Repeat line number)) (send_again line m s)
  again_fine line number m at = go (is_full s.pool) refl
    where
      go : (b : Bool) → is_full s.pool ≡ b → Fine s (Some (event.Repeat line number)) (cond b (refuse line (reply.PoolFull s.pool.limit) s) (post (m ∷ []) s))
      go true full = Then NoneYet (Refuses (event.Repeat line number) (reply.PoolFull s.pool.limit) refl (rw (at, full) refl)) tt (record { viewed = refl; views = λ g. refl })
      go false room = beside_fine s _ NoneYet (Repeats number m at room) tt

  good_fine : (line peer : ℕ) → Fine s (Some (event.Nudge line peer)) (nudge_good peer s)
  good_fine line peer = go (is_good_status (status_of peer s)) refl
    where
      go : (b : Bool) → is_good_status (status_of peer s) ≡ b → Fine s (Some (event.Nudge line peer)) (change_if b (nudge peer) s)
      go true good = nudge_fine peer s (record { line = line; asked = refl; good = good; home = refl }) NoneYet
      go false bad = NoneYet

  refused : (x : Event) (r : Reply) → refusal_in x s ≡ Some r → Fine s (Some x) (refuse (line_of x) r s)
  refused x r why = Then NoneYet (Refuses x r refl why) tt (record { viewed = refl; views = λ g. refl })

  pub does_fine : (x : Event) → Fine s (Some x) (do_event x s)
  does_fine (event.Line line o) = Then NoneYet (Asks line o refl refl) tt (same_begins line o s)
  does_fine (event.Report peer d) = report_fine (λ line o is. cc is) peer d s refl refl NoneYet
  does_fine (event.Turn line peer) =
      unless_by line (no_peer peer s ∷ not_up peer s ∷ []) (λ core. core) s (λ c. Fine s (Some (event.Turn line peer)) c) (λ r why. refused (event.Turn line peer) r why) (λ none. NoneYet)
  does_fine (event.Deliver line number) =
      message_by line number (deliver number) s (λ c. Fine s (Some (event.Deliver line number)) c) (λ none. refused (event.Deliver line number) (reply.NoMessage number) (rw none refl))
      (λ m at. message_fine (λ l o is. cc is) number m s (record { start = refl; line = line; delivered = refl; at = at }) NoneYet)
  does_fine (event.Lose line number) =
      message_by line number (lose number) s (λ c. Fine s (Some (event.Lose line number)) c) (λ none. refused (event.Lose line number) (reply.NoMessage number) (rw none refl))
      (λ m at. beside_fine s _ NoneYet (Loses number m at) tt)
  does_fine (event.Repeat line number) =
      message_by line number (send_again line) s (λ c. Fine s (Some (event.Repeat line number)) c) (λ none. refused (event.Repeat line number) (reply.NoMessage number) (rw none refl))
      (λ m at. again_fine line number m at)
  does_fine (event.Nudge line peer) =
      unless_by line (no_peer peer s ∷ not_up peer s ∷ []) (nudge_good peer) s (λ c. Fine s (Some (event.Nudge line peer)) c) (λ r why. refused (event.Nudge line peer) r why) (λ none. good_fine line peer)
  does_fine (event.Fail line peer) =
      unless_by line (no_peer peer s ∷ not_up peer s ∷ []) (go_down peer) s (λ c. Fine s (Some (event.Fail line peer)) c) (λ r why. refused (event.Fail line peer) r why)
      (λ none. down_fine (λ l o is. cc is) peer s (record { why = ByLine line refl none; members = refl; lists = refl; catalogues = refl }) NoneYet)
  does_fine (event.Start line peer) =
      unless_by line (no_peer peer s ∷ not_down peer s ∷ []) (start peer) s (λ c. Fine s (Some (event.Start line peer)) c) (λ r why. refused (event.Start line peer) r why)
      (λ none. beside_fine s _ NoneYet (Starts line peer refl refl none) tt)
