-- What becomes of causes where a good peer's job is done: it goes, and the operation that it was for goes on.
use Rattle.std.proofs.Common.{◌≡◌, ◌∙◌, sym, ap, ◌⊎◌, inl, inr, ℕ, zero, suc, Bool, true, false, List, drop, Option, Some, None, refl, slice_get}
use Rattle.std.proofs.lemmas.Bool.{eq-eqb, eqb-true}
use Rattle.std.proofs.lemmas.List.{length-set}
use Rattle.hs_awaiting.specs.declared.wait.Wait.{Wait}
use Rattle.hs_awaiting.specs.declared.wait.Wait.TheVariants as wait
use Rattle.hs_awaiting.specs.declared.waiting.Waiting.{Waiting}
use Rattle.hs_awaiting.specs.Words.{change_if, change_with}
use Rattle.hs_core_words.specs.declared.task.Task.{Task}
use Rattle.hs_core_words.specs.Changing.{change_group, post, set_tasks}
use Rattle.hs_core_words.specs.Looking.{group_of, home, operation_of, tasks_of}
use Rattle.hs_core_words.specs.Operating.{go_on_with}
use Rattle.hs_core_words.specs.Reporting.{is_reading, take_sealed, tell_bytes}
use Rattle.hs_core_words.specs.Seeing.{pointers_for, view_for}
use Rattle.hs_core_words.specs.State.{Core}
use Rattle.hs_desk.specs.Answers.{is_read_of}
use Rattle.hs_effects.proofs.GoingLemmas.{IsIdle, idle_free}
use Rattle.hs_effects.proofs.GroupLemmas.{at_front}
use Rattle.hs_effects.proofs.OrderlyLemmas.{alike_orderly, group_alike, some_is}
use Rattle.hs_effects.proofs.StepLemmas.{told_asks}
use Rattle.hs_quiet.specs.Causes.{HasCause, IsToBeRead, asker_of, read_of, reads_bytes}
use Rattle.hs_quiet.proofs.BesideLemmas.{posted_good}
use Rattle.hs_quiet.proofs.EffectLemmas.{commit_good}
use Rattle.hs_quiet.proofs.GoingGoodLemmas.{IsGood, Most, NoLine, NoShard, Or, ViewWaits, good_stays, good_turn, went_good}
use Rattle.hs_quiet.proofs.StayLemmas.{IsLed, group_stays, led_by, tasks_changed}
use Rattle.hs_quiet.proofs.WaitLemmas.{Fits, told_fits}
use Rattle.hs_limits.specs.declared.address.Address.{Address}
use Rattle.hs_ops.specs.declared.step.OpStep.{OpStep}
use Rattle.hs_ops.specs.Operations.{Operation, bytes_step}
use Rattle.hs_ops.specs.Views.{OpView}
use Rattle.hs_replica.specs.Group.{have, on_sealed}

-- ---- a job goes

-- an operation waits for the bytes that the job was to read for it
pub record IsServed (task : Task) (line : ℕ) (w : Waiting) : Type 0 where
  pub number : ℕ
  pub waits : w.wait ≡ wait.Bytes number
  pub job_is : task ≡ read_of number line

module _ (name : List ℕ → Address) (p : ℕ) (task : Task) (c : Core) (first : slice_get (tasks_of p c) 0 ≡ Some task) where
  abbrev y : Core
  y = set_tasks p (drop 1 (tasks_of p c)) c

  read_left : (l : ℕ) (w : Waiting) (n : ℕ) → w.wait ≡ wait.Bytes n → IsToBeRead c w.shard (read_of n l) → IsServed task l w ⊎ IsToBeRead y w.shard (read_of n l)
  read_left l w n waits h = by_peer (tasks_changed p (drop 1 (tasks_of p c)) c h.peer)
    where
      by_place : (h.peer ≡ p) → (tasks_of h.peer (set_tasks p (drop 1 (tasks_of p c)) c) ≡ drop 1 (tasks_of p c)) → (place : ℕ) → slice_get (tasks_of p c) place ≡ Some (read_of n l)
          → IsServed task l w ⊎ IsToBeRead (set_tasks p (drop 1 (tasks_of p c)) c) w.shard (read_of n l)
      by_place is jobs zero at = inl (record { number = n; waits = waits; job_is = some_is task (read_of n l) (sym first ∙ at) })
      by_place is jobs (suc place) at = inr (record { peer = h.peer; own = h.own; good = h.good; jobs = record { place = place; at = ap (λ (ts : List Task). slice_get ts place) jobs ∙ at_front (tasks_of p c) place ∙ at } })

      by_peer : (tasks_of h.peer (set_tasks p (drop 1 (tasks_of p c)) c) ≡ tasks_of h.peer c) ⊎ ((h.peer ≡ p) × (tasks_of h.peer (set_tasks p (drop 1 (tasks_of p c)) c) ≡ drop 1 (tasks_of p c)))
          → IsServed task l w ⊎ IsToBeRead (set_tasks p (drop 1 (tasks_of p c)) c) w.shard (read_of n l)
      by_peer (inl same) = inr (record { peer = h.peer; own = h.own; good = h.good; jobs = record { place = h.jobs.place; at = ap (λ (ts : List Task). slice_get ts h.jobs.place) same ∙ h.jobs.at } })
      by_peer (inr is) = by_place is.0 is.1 h.jobs.place (ap (λ k. slice_get (tasks_of k c) h.jobs.place) (sym is.0) ∙ h.jobs.at)

  served_by : (l : ℕ) (w : Waiting) (what : Wait) → w.wait ≡ what → HasCause name c (asker_of l w) what → IsServed task l w ⊎ HasCause name y (asker_of l w) what
  served_by l w wait.View is h = inr h
  served_by l w wait.Address is h = inr (record { place = h.place; entry = h.entry; at = h.at; is = h.is })
  served_by l w wait.Room is h = inr (record { place = h.place; entry = h.entry; at = h.at; is = h.is })
  served_by l w (wait.Bytes n) is h = by_job (read_left l w n is h.1)
    where
      by_job : IsServed task l w ⊎ IsToBeRead y w.shard (read_of n l) → IsServed task l w ⊎ ((reads_bytes w.operation.op ≡ true) × IsToBeRead y w.shard (read_of n l))
      by_job (inl served) = inl served
      by_job (inr k) = inr (h.0, k)
  served_by l w (wait.Entry n) is h = inr (record { place = h.place; entry = h.entry; at = h.at; numbered = h.numbered; asked = h.asked })

  served_most : Most name NoLine NoShard c → Most name (IsServed task) NoShard y
  served_most m = record {
    views = m.views;
    viewing = λ g low off. by_view g (m.viewing g low off);
    caused = λ l w at. by_line l w (m.caused l w at);
  }
    where
      by_view : (g : ℕ) → NoShard g ⊎ ViewWaits c g → NoShard g ⊎ ViewWaits y g
      by_view g (inl u) = inl u
      by_view g (inr h) = inr (record { place = h.place; entry = h.entry; at = h.at; is = h.is })

      by_line : (l : ℕ) (w : Waiting) → NoLine l w ⊎ HasCause name c (asker_of l w) w.wait → IsServed task l w ⊎ HasCause name y (asker_of l w) w.wait
      by_line l w (inl u) = absurd u
      by_line l w (inr h) = served_by l w w.wait refl h

  served_led : IsLed c → IsLed y
  served_led h = led_by c y h refl refl (length-set c.tasks p (drop 1 (tasks_of p c))) (λ g. refl)

  served_good : IsGood name NoLine NoShard c → IsGood name (IsServed task) NoShard y
  served_good g = record {
    orderly = alike_orderly name c y (record { operations = refl; sessions = refl; limits = refl; shape = refl; waiting = λ k. refl; front = λ k. refl; catalogue = λ k. refl }) g.orderly;
    led = served_led g.led;
    valid = g.valid;
    most = served_most g.most;
  }

  -- a job that is no Read was for nobody
  pub unserved_good : ((number line : ℕ) → task ≡ read_of number line → ⊥) → IsGood name NoLine NoShard c → IsGood name NoLine NoShard y
  unserved_good unread g = good_turn name (IsServed task) NoLine NoShard NoShard y (λ l w at served. absurd (unread served.number l served.job_is)) (λ k u. u) (served_good g)

  -- ---- an entry is sealed

  pub sealed_good : (number : ℕ) → ((number line : ℕ) → task ≡ read_of number line → ⊥) → IsGood name NoLine NoShard c → IsGood name NoLine NoShard (take_sealed p number y)
  sealed_good number unread g =
      let sent : Core = post (have p number (group_of (home p y) y)) y in
      let sealed : Core = change_group (home p y) (on_sealed p number) sent in
      let first_good : IsGood name NoLine NoShard sent = posted_good name NoLine NoShard (have p number (group_of (home p y) y)) y (unserved_good unread g) in
      commit_good name (home p y) sealed
      (good_stays name NoLine NoShard sent sealed first_good
      (group_stays (home p y) (on_sealed p number) sent (length-set (group_of (home p y) sent).copies _ _) refl refl (λ place e at. at))
      refl (alike_orderly name sent sealed (group_alike (home p y) (on_sealed p number) sent refl refl) first_good.orderly))

  pub stored_good : ((number line : ℕ) → task ≡ read_of number line → ⊥) → IsGood name NoLine NoShard c → IsGood name NoLine NoShard y
  stored_good unread g = unserved_good unread g

  -- ---- bytes are told

  module _ (k : ℕ) (bytes : Option (List ℕ)) (reads : is_read_of k task.job ≡ true) (g : IsGood name NoLine NoShard c) where
    own_line : (l : ℕ) (w : Waiting) → IsServed task l w → l ≡ task.line
    own_line l w served = sym (ap (λ (t : Task). t.line) served.job_is)

    -- the operation of the job's line still waits for these bytes
    still_reads : (l : ℕ) (w : Waiting) → IsServed task l w → is_reading k w.wait ≡ true
    still_reads l w served =
        let same : k ≡ served.number = eqb-true k served.number (sym (ap (λ (t : Task). is_read_of k t.job) served.job_is) ∙ reads) in
        ap (λ (x : Wait). is_reading k x) served.waits ∙ eq-eqb served.number k (sym same)

    reads_of : (line : ℕ) (w : Waiting) (x : Wait) → is_reading k x ≡ true → HasCause name c (asker_of line w) x → reads_bytes w.operation.op ≡ true
    reads_of line w wait.View e h = absurd (cc e)
    reads_of line w wait.Address e h = absurd (cc e)
    reads_of line w wait.Room e h = absurd (cc e)
    reads_of line w (wait.Bytes m) e h = h.0
    reads_of line w (wait.Entry m) e h = absurd (cc e)

    reads_by : (line : ℕ) (w : Waiting) → is_reading k w.wait ≡ true → NoLine line w ⊎ HasCause name c (asker_of line w) w.wait → reads_bytes w.operation.op ≡ true
    reads_by line w e (inl u) = absurd u
    reads_by line w e (inr h) = reads_of line w w.wait e h

    idle_by : (x : Wait) → is_reading k x ≡ true → IsIdle x
    idle_by wait.View e = tt
    idle_by wait.Address e = tt
    idle_by wait.Room e = tt
    idle_by (wait.Bytes m) e = tt
    idle_by (wait.Entry m) e = absurd (cc e)

    at_line : (l : ℕ) (w : Waiting) → IsServed task l w → operation_of l y ≡ Some w → operation_of task.line y ≡ Some w
    at_line l w served at = ap (λ j. operation_of j y) (sym (own_line l w served)) ∙ at

    abbrev next : Waiting → OpView → Operation → OpStep
    next w v q = bytes_step v bytes (pointers_for w.shard w.operation.op y) q

    reading_good : (w : Waiting) → operation_of task.line y ≡ Some w → is_reading k w.wait ≡ true → IsGood name NoLine NoShard (go_on_with (next w) task.line y)
    reading_good w at e =
        went_good name NoLine NoShard (next w) (told_asks bytes (pointers_for w.shard w.operation.op y)) task.line y fits
        (idle_free name y task.line (served_good g).orderly (λ u there. idle_by u.wait (same u there)))
        (good_turn name (IsServed task) (Or NoLine task.line) NoShard NoShard y (λ l u there served. inl (inl (own_line l u served))) (λ j u. u) (served_good g))
      where
        same : (u : Waiting) → operation_of task.line y ≡ Some u → is_reading k u.wait ≡ true
        same u there = ap (λ (x : Waiting). is_reading k x.wait) (some_is u w (sym there ∙ at)) ∙ e

        fits : (u : Waiting) → operation_of task.line y ≡ Some u → Fits (view_for u.shard u.operation.op y) u.operation.op (next w (view_for u.shard u.operation.op y) u.operation)
        fits u there = told_fits bytes (pointers_for w.shard w.operation.op y) (view_for u.shard u.operation.op y) u.operation (reads_by task.line u (same u there) (g.most.caused task.line u there))

    pub bytes_good : IsGood name NoLine NoShard (tell_bytes task.line k bytes y)
    bytes_good = by_operation (operation_of task.line y) refl
      where
        nobody : operation_of task.line y ≡ None → (l : ℕ) (w : Waiting) → operation_of l y ≡ Some w → IsServed task l w → NoLine l w ⊎ HasCause name y (asker_of l w) w.wait
        nobody e l w at served = absurd (cc (sym e ∙ at_line l w served at))

        not_this : (w : Waiting) → operation_of task.line y ≡ Some w → is_reading k w.wait ≡ false → (l : ℕ) (u : Waiting) → operation_of l y ≡ Some u → IsServed task l u → NoLine l u ⊎ HasCause name y (asker_of l u) u.wait
        not_this w e f l u at served =
            let is : w ≡ u = some_is w u (sym e ∙ at_line l u served at) in
            absurd (cc (sym f ∙ ap (λ (x : Waiting). is_reading k x.wait) is ∙ still_reads l u served))

        by_reading : (w : Waiting) → operation_of task.line y ≡ Some w → (b : Bool) → is_reading k w.wait ≡ b
            → IsGood name NoLine NoShard (change_if b (λ x. go_on_with (λ v q. bytes_step v bytes (pointers_for w.shard w.operation.op x) q) task.line x) y)
        by_reading w e true f = reading_good w e f
        by_reading w e false f = good_turn name (IsServed task) NoLine NoShard NoShard y (not_this w e f) (λ j u. u) (served_good g)

        by_operation : (o : Option Waiting) → operation_of task.line y ≡ o
            → IsGood name NoLine NoShard (change_with o (λ w. change_if (is_reading k w.wait) (λ x. go_on_with (λ v q. bytes_step v bytes (pointers_for w.shard w.operation.op x) q) task.line x)) y)
        by_operation None e = good_turn name (IsServed task) NoLine NoShard NoShard y (nobody e) (λ j u. u) (served_good g)
        by_operation (Some w) e = by_reading w e (is_reading k w.wait) refl
