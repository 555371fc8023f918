-- Entries that take effect: behind each of them every operation has its cause again.
use Rattle.std.proofs.Common.{◌≡◌, ◌∙◌, sym, ap, subst, ◌⊎◌, inl, inr, ℕ, zero, suc, ◌+◌, ◌-◌, ◌<◌, ◌≤◌, ◌==◌, ◌&&◌, Bool, true, false, cond, List, [], ◌∷◌, length, Option, Some, None, refl, arith, is_some}
use Rattle.std.proofs.lemmas.Bool.{and_from, eq-eqb}
use Rattle.std.proofs.lemmas.Bool.Decides.{nat_tests}
use Rattle.std.proofs.lemmas.List.{get_or-set_other, get_or-set_same, length-set}
use Rattle.std.specs.Prelude.{slice_index_or}
use Rattle.hs_awaiting.specs.declared.wait.Wait.{Wait}
use Rattle.hs_awaiting.specs.declared.wait.Wait.TheVariants as wait
use Rattle.hs_awaiting.specs.declared.waiting.Waiting.{Waiting}
use Rattle.hs_awaiting.specs.Words.{change_if, change_with, each, times}
use Rattle.hs_core_words.specs.Changing.{note, set_viewed}
use Rattle.hs_core_words.specs.Effects.{after_entry, commit, commit_next, is_for_view, note_enter, note_sweep, reach_view, take_effect, tell_enter, tell_operation, wakes}
use Rattle.hs_core_words.specs.Entering.{is_enter_due, propose_due}
use Rattle.hs_core_words.specs.Looking.{catalogue_of, front_of, group_of, operation_of}
use Rattle.hs_core_words.specs.Operating.{lines_where, propose_entry, resume, resume_where}
use Rattle.hs_core_words.specs.Pending.{named}
use Rattle.hs_core_words.specs.Seeing.{view_for}
use Rattle.hs_core_words.specs.State.{Core}
use Rattle.hs_desk.specs.declared.what.What.{What}
use Rattle.hs_desk.specs.declared.what.What.TheVariants as what
use Rattle.hs_effects.specs.Logged.{asked_by}
use Rattle.hs_effects.specs.Taking.{done_by, taken}
use Rattle.hs_effects.proofs.EffectLemmas.{committed_named, due_orderly, taken_free, view_idle, wakes_idle}
use Rattle.hs_effects.proofs.GoingLemmas.{AreReady, PassesIdle, idle_free, ready_lines, ready_on}
use Rattle.hs_effects.proofs.LookLemmas.{each_found, one_or_other}
use Rattle.hs_effects.proofs.OrderlyLemmas.{IsFree, alike_orderly}
use Rattle.hs_effects.proofs.StepLemmas.{done_asks, going_asks}
use Rattle.hs_entry.specs.declared.entry.Entry.{Entry}
use Rattle.hs_entry.specs.declared.entry.Entry.TheVariants as kind
use Rattle.hs_quiet.specs.Causes.{HasCause, asker_of}
use Rattle.hs_quiet.proofs.BesideLemmas.{IsAside, aside_good, aside_same}
use Rattle.hs_quiet.proofs.GoingGoodLemmas.{IsGood, Most, NoLine, NoShard, Or, ViewWaits, good_stays, good_turn, went_good}
use Rattle.hs_quiet.proofs.GoingListLemmas.{IsAmong, found_among}
use Rattle.hs_quiet.proofs.StayLemmas.{IsLed, Stays, led_by, proposal_operations, proposal_stays, stays_same}
use Rattle.hs_quiet.proofs.TakenLemmas.{Left, Unseen, Woken, taken_good, wakes_nobody, woken_wakes}
use Rattle.hs_quiet.proofs.WaitLemmas.{done_fits, going_fits}
use Rattle.hs_journal.specs.declared.entry.Who.TheVariants as who
use Rattle.hs_limits.specs.declared.address.Address.{Address}
use Rattle.hs_model.specs.declared.deed.Deed.TheVariants as deed
use Rattle.hs_model.specs.declared.reply.Reply.TheVariants as reply
use Rattle.hs_ops.specs.Operations.{effect_step, go_step}
use Rattle.hs_replica.specs.Group.{commit_front, committed}
use Rattle.hs_shard.specs.declared.effect.Effect.{Effect}

-- ---- what waits goes on, one line after another

module _ (name : List ℕ → Address) where
  each_good : (lines : List ℕ) (c : Core) → AreReady c lines → IsGood name (λ m w. IsAmong m lines) NoShard c → IsGood name NoLine NoShard (each lines resume c)
  each_good [] c ready g = good_turn name (λ m w. IsAmong m []) NoLine NoShard NoShard c (λ l w at left. absurd left) (λ k u. u) g
  each_good (line ∷ rest) c ready g =
      each_good rest (resume line c) (ready_on c line rest ready.0 ready.2)
      (went_good name (λ m w. IsAmong m rest) NoShard go_step going_asks line c (λ u at. going_fits (view_for u.shard u.operation.op c) u.operation) (idle_free name c line g.orderly ready.1) g)

  -- those of a shard that pass a test
  resumed_good : (shard : ℕ) (test : Waiting → Bool) (but : ℕ → Waiting → Type 0) (c : Core) → PassesIdle test → ((m : ℕ) (w : Waiting) → but m w → (w.shard ≡ shard) × (test w ≡ true))
      → IsGood name but NoShard c → IsGood name NoLine NoShard (resume_where shard test c)
  resumed_good shard test but c idle passes g =
      each_good (lines_where shard test c) c (ready_lines shard test idle c c.operations g.orderly.once (each_found c.operations g.orderly.once))
      (good_turn name but (λ m w. IsAmong m (lines_where shard test c)) NoShard NoShard c (λ l w at left. inl (among l w at (passes l w left))) (λ k u. u) g)
    where
      among : (l : ℕ) (w : Waiting) → operation_of l c ≡ Some w → (w.shard ≡ shard) × (test w ≡ true) → IsAmong l (lines_where shard test c)
      among l w at p = found_among (λ (x : Waiting). x.shard == shard && test x) l w c.operations at (and_from (w.shard == shard) (test w) (eq-eqb w.shard shard p.0) p.1)

-- ---- what is told beside

sweep_aside : (shard removed : ℕ) (c : Core) → IsAside c (note_sweep shard removed c)
sweep_aside shard removed c = by_all _
  where
    by_all : (b : Bool) → IsAside c (change_if b (note who.Store deed.Nothing (reply.Done (catalogue_of shard c).swept)) (note (who.Shard shard) (deed.Swept shard) (reply.Sweep (catalogue_of shard c).swept removed) c))
    by_all true = record { members = refl; viewed = refl; groups = refl; tasks = refl; operations = refl; sessions = refl; limits = refl; catalogues = refl }
    by_all false = record { members = refl; viewed = refl; groups = refl; tasks = refl; operations = refl; sessions = refl; limits = refl; catalogues = refl }

enter_aside : (shard : ℕ) (did : What) (c : Core) → IsAside c (note_enter shard did c)
enter_aside shard what.Nothing c = aside_same c
enter_aside shard (what.Viewed view) c = aside_same c
enter_aside shard what.Stored c = aside_same c
enter_aside shard what.Marked c = aside_same c
enter_aside shard what.Again c = aside_same c
enter_aside shard what.Rooted c = aside_same c
enter_aside shard what.Dropped c = aside_same c
enter_aside shard (what.Entered epoch) c = record { members = refl; viewed = refl; groups = refl; tasks = refl; operations = refl; sessions = refl; limits = refl; catalogues = refl }
enter_aside shard what.Refused c = aside_same c

-- ---- a due Enter

pub due_stays : (shard : ℕ) (c : Core) → Stays c (propose_due shard c)
due_stays shard c = by_due (is_enter_due shard c)
  where
    by_due : (b : Bool) → Stays c (change_if b (propose_entry shard (kind.Enter 0 ((catalogue_of shard c).epoch + 1))) c)
    by_due true = proposal_stays shard (kind.Enter 0 ((catalogue_of shard c).epoch + 1)) c
    by_due false = stays_same c

pub due_operations : (shard : ℕ) (c : Core) → (propose_due shard c).operations ≡ c.operations
due_operations shard c = by_due (is_enter_due shard c)
  where
    by_due : (b : Bool) → (change_if b (propose_entry shard (kind.Enter 0 ((catalogue_of shard c).epoch + 1))) c).operations ≡ c.operations
    by_due true = proposal_operations shard (kind.Enter 0 ((catalogue_of shard c).epoch + 1)) c
    by_due false = refl

-- ---- behind an entry

same_line : (line m : ℕ) → Some line ≡ Some m → m ≡ line
same_line line m e = cc

enter_line : (line m : ℕ) (b : Bool) → cond b None (Some line) ≡ Some m → m ≡ line
enter_line line m true e = absurd (cc e)
enter_line line m false e = same_line line m e

module _ (name : List ℕ → Address) (shard view : ℕ) (c : Core) (here : view ≡ (group_of shard c).view) where
  -- what an entry that is no View leaves
  not_seen : (entry : Entry) → ((v : ℕ) → entry ≡ kind.View v → ⊥) → (g : ℕ) → Unseen shard entry view g → NoShard g
  not_seen entry plain g u = plain view u.1

  -- the operation that asked for the entry hears of it
  told_good : (line : ℕ) (entry : Entry) (did : What) → asked_by entry ≡ Some line → ((v : ℕ) → entry ≡ kind.View v → ⊥) → IsFree c line
      → IsGood name (Left name shard entry) (Unseen shard entry view) c → IsGood name (Woken name shard entry) NoShard (tell_operation line did c)
  told_good line entry did by plain free g =
      went_good name (Woken name shard entry) NoShard (λ v o. effect_step v did o) (done_asks did) line c (λ u at. done_fits did (view_for u.shard u.operation.op c) u.operation) free
      (good_turn name (Left name shard entry) (Or (Woken name shard entry) line) (Unseen shard entry view) NoShard c (λ l w at left. inl (turned l w left)) (not_seen entry plain) g)
    where
      turned : (l : ℕ) (w : Waiting) → Left name shard entry l w → (Or (Woken name shard entry) line) l w
      turned l w (inl is) = inl (same_line line l (sym by ∙ is))
      turned l w (inr woken) = inr woken

  -- an Enter is told to its operation, where there is one
  entered_good : (line epoch : ℕ) (did : What) → ((line == 0) ≡ false → IsFree c line) → IsGood name (Left name shard (kind.Enter line epoch)) (Unseen shard (kind.Enter line epoch) view) c
      → IsGood name (Woken name shard (kind.Enter line epoch)) NoShard (tell_enter shard line did c)
  entered_good line epoch did free g = by_operation (operation_of line c) refl
    where
      plain : (v : ℕ) → kind.Enter line epoch ≡ kind.View v → ⊥
      plain v e = cc e

      counted : 1 ≤ line → (line == 0) ≡ false
      counted low = grind (arith, nat_tests, low)

      turned : operation_of line c ≡ None → (l : ℕ) (w : Waiting) → operation_of l c ≡ Some w → Left name shard (kind.Enter line epoch) l w
          → Woken name shard (kind.Enter line epoch) l w ⊎ HasCause name c (asker_of l w) w.wait
      turned e l w at (inl is) = absurd (cc (sym e ∙ sym (ap (λ k. operation_of k c) (enter_line line l (line == 0) is)) ∙ at))
      turned e l w at (inr woken) = inl woken

      by_operation : (o : Option Waiting) → operation_of line c ≡ o → IsGood name (Woken name shard (kind.Enter line epoch)) NoShard (cond (is_some o) (tell_operation line did c) (note_enter shard did c))
      by_operation None e =
          aside_good name (Woken name shard (kind.Enter line epoch)) NoShard c (note_enter shard did c) (enter_aside shard did c)
          (good_turn name (Left name shard (kind.Enter line epoch)) (Woken name shard (kind.Enter line epoch)) (Unseen shard (kind.Enter line epoch) view) NoShard c (turned e) (not_seen (kind.Enter line epoch) plain) g)
      by_operation (Some u) e =
          let low : (line == 0) ≡ false = counted ((g.orderly.pending line u e).counted) in
          told_good line (kind.Enter line epoch) did (ap (λ b. cond b None (Some line)) low) plain (free low) g

  -- a Got is told where it ends a run, and a due Enter is proposed
  swept_good : (entry : Entry) (removed : Option ℕ) → asked_by entry ≡ None → ((v : ℕ) → entry ≡ kind.View v → ⊥) → IsGood name (Left name shard entry) (Unseen shard entry view) c
      → IsGood name (Woken name shard entry) NoShard (propose_due shard (change_with removed (note_sweep shard) c))
  swept_good entry removed by plain g = due (change_with removed (note_sweep shard) c) (swept removed)
    where
      turned : (l : ℕ) (w : Waiting) → Left name shard entry l w → Woken name shard entry l w
      turned l w (inl is) = absurd (cc (sym by ∙ is))
      turned l w (inr woken) = woken

      first : IsGood name (Woken name shard entry) NoShard c
      first = good_turn name (Left name shard entry) (Woken name shard entry) (Unseen shard entry view) NoShard c (λ l w at left. inl (turned l w left)) (not_seen entry plain) g

      swept : (o : Option ℕ) → IsGood name (Woken name shard entry) NoShard (change_with o (note_sweep shard) c)
      swept None = first
      swept (Some n) = aside_good name (Woken name shard entry) NoShard c (note_sweep shard n c) (sweep_aside shard n c) first

      due : (x : Core) → IsGood name (Woken name shard entry) NoShard x → IsGood name (Woken name shard entry) NoShard (propose_due shard x)
      due x h = good_stays name (Woken name shard entry) NoShard x (propose_due shard x) h (due_stays shard x) (due_operations shard x) (due_orderly name shard x h.orderly)

  -- an entry that nothing is told of
  silent_good : (entry : Entry) → asked_by entry ≡ None → ((v : ℕ) → entry ≡ kind.View v → ⊥) → IsGood name (Left name shard entry) (Unseen shard entry view) c → IsGood name (Woken name shard entry) NoShard c
  silent_good entry by plain g = good_turn name (Left name shard entry) (Woken name shard entry) (Unseen shard entry view) NoShard c (λ l w at left. inl (turned l w left)) (not_seen entry plain) g
    where
      turned : (l : ℕ) (w : Waiting) → Left name shard entry l w → Woken name shard entry l w
      turned l w (inl is) = absurd (cc (sym by ∙ is))
      turned l w (inr woken) = woken

  -- ---- a View

  -- the operations that wait for it
  abbrev ForView : ℕ → Waiting → Type 0
  ForView m w = (w.shard ≡ shard) × (w.wait ≡ wait.View)

  for_view : (w : Waiting) → w.wait ≡ wait.View → is_for_view w ≡ true
  for_view w e = ap (λ (x : Wait). is_for_view (record w { wait = x })) e

  nobody : (v : ℕ) (l : ℕ) (w : Waiting) → Left name shard (kind.View v) l w → ⊥
  nobody v l w (inl is) = cc is
  nobody v l w (inr woken) = wakes_nobody name (kind.View v) w refl refl refl woken.1

  -- it is reached
  viewed_cause : (l : ℕ) (w : Waiting) (x : Wait) → w.wait ≡ x → HasCause name c (asker_of l w) x → ForView l w ⊎ HasCause name (set_viewed shard true c) (asker_of l w) x
  viewed_cause l w wait.View is h = by_shard (one_or_other w.shard shard)
    where
      by_shard : (w.shard ≡ shard) ⊎ (w.shard ≡ shard → ⊥) → ForView l w ⊎ (slice_index_or (set_viewed shard true c).progress.viewed w.shard false ≡ false)
      by_shard (inl s) = inl (s, is)
      by_shard (inr d) = inr (get_or-set_other c.progress.viewed shard w.shard true false d ∙ h)
  viewed_cause l w wait.Address is h = inr (record { place = h.place; entry = h.entry; at = h.at; is = h.is })
  viewed_cause l w wait.Room is h = inr (record { place = h.place; entry = h.entry; at = h.at; is = h.is })
  viewed_cause l w (wait.Bytes n) is h = inr (h.0, record { peer = h.1.peer; own = h.1.own; good = h.1.good; jobs = record { place = h.1.jobs.place; at = h.1.jobs.at } })
  viewed_cause l w (wait.Entry n) is h = inr (record { place = h.place; entry = h.entry; at = h.at; numbered = h.numbered; asked = h.asked })

  viewed_most : (v : ℕ) → Most name (Left name shard (kind.View v)) (Unseen shard (kind.View v) view) c → Most name ForView NoShard (set_viewed shard true c)
  viewed_most v m = record {
    views = length-set c.progress.viewed shard true ∙ m.views;
    viewing = λ g low off. by_shard g low off (one_or_other g shard);
    caused = λ l w at. by_line l w (m.caused l w at);
  }
    where
      by_view : (g : ℕ) → (g ≡ shard → ⊥) → Unseen shard (kind.View v) view g ⊎ ViewWaits c g → NoShard g ⊎ ViewWaits (set_viewed shard true c) g
      by_view g d (inl u) = absurd (d u.0)
      by_view g d (inr h) = inr (record { place = h.place; entry = h.entry; at = h.at; is = h.is })

      by_shard : (g : ℕ) → g < c.members.shape.shards → slice_index_or (set_viewed shard true c).progress.viewed g false ≡ false → (g ≡ shard) ⊎ (g ≡ shard → ⊥) → NoShard g ⊎ ViewWaits (set_viewed shard true c) g
      by_shard g low off (inl is) =
          let inside : shard < length c.progress.viewed = subst (λ k. shard < k) (sym m.views) (subst (λ k. k < c.members.shape.shards) is low) in
          let seen : slice_index_or (set_viewed shard true c).progress.viewed g false ≡ true =
          ap (λ k. slice_index_or (set_viewed shard true c).progress.viewed k false) is ∙ get_or-set_same c.progress.viewed shard true false inside in
          absurd (cc (sym seen ∙ off))
      by_shard g low off (inr d) = by_view g d (m.viewing g low (sym (get_or-set_other c.progress.viewed shard g true false d) ∙ off))

      by_line : (l : ℕ) (w : Waiting) → Left name shard (kind.View v) l w ⊎ HasCause name c (asker_of l w) w.wait → ForView l w ⊎ HasCause name (set_viewed shard true c) (asker_of l w) w.wait
      by_line l w (inl left) = absurd (nobody v l w left)
      by_line l w (inr h) = viewed_cause l w w.wait refl h

  viewed_led : IsLed c → IsLed (set_viewed shard true c)
  viewed_led h = led_by c (set_viewed shard true c) h refl refl refl (λ g. refl)

  view_good : (v : ℕ) → IsGood name (Left name shard (kind.View v)) (Unseen shard (kind.View v) view) c → IsGood name (Woken name shard (kind.View v)) NoShard (reach_view shard v c)
  view_good v g = by_view (v == (group_of shard c).view) refl
    where
      seen : IsGood name ForView NoShard (set_viewed shard true c)
      seen = record {
        orderly = alike_orderly name c (set_viewed shard true c) (record { operations = refl; sessions = refl; limits = refl; shape = refl; waiting = λ g. refl; front = λ g. refl; catalogue = λ g. refl }) g.orderly;
        led = viewed_led g.led;
        valid = g.valid;
        most = viewed_most v g.most;
      }

      is_it : (a b : ℕ) → kind.View a ≡ kind.View b → a ≡ b
      is_it a b e = cc e

      by_view : (b : Bool) → (v == (group_of shard c).view) ≡ b → IsGood name (Woken name shard (kind.View v)) NoShard (change_if b (λ x. resume_where shard is_for_view (set_viewed shard true x)) c)
      by_view true e =
          good_turn name NoLine (Woken name shard (kind.View v)) NoShard NoShard (resume_where shard is_for_view (set_viewed shard true c)) (λ l w at left. absurd left) (λ k u. u)
          (resumed_good name shard is_for_view ForView (set_viewed shard true c) view_idle (λ m w left. (left.0, for_view w left.1)) seen)
      by_view false e =
          good_turn name (Left name shard (kind.View v)) (Woken name shard (kind.View v)) (Unseen shard (kind.View v) view) NoShard c (λ l w at left. absurd (nobody v l w left))
          (λ k u. absurd (cc (sym e ∙ eq-eqb v (group_of shard c).view (is_it v view u.1 ∙ here)))) g

-- by the kind of the entry
behind_good : (name : List ℕ → Address) (shard view : ℕ) (c : Core) (entry : Entry) (effect : Effect) → view ≡ (group_of shard c).view → ((line : ℕ) → asked_by entry ≡ Some line → IsFree c line)
    → IsGood name (Left name shard entry) (Unseen shard entry view) c → IsGood name (Woken name shard entry) NoShard (after_entry shard entry effect c)
behind_good name shard view c (kind.View v) effect here free g = view_good name shard view c here v g
behind_good name shard view c (kind.Block line least bytes) effect here free g = told_good name shard view c here line (kind.Block line least bytes) effect.what refl (λ v e. absurd (cc e)) (free line refl) g
behind_good name shard view c (kind.Mark line least block a) effect here free g = told_good name shard view c here line (kind.Mark line least block a) effect.what refl (λ v e. absurd (cc e)) (free line refl) g
behind_good name shard view c (kind.Root line held a key) effect here free g = told_good name shard view c here line (kind.Root line held a key) effect.what refl (λ v e. absurd (cc e)) (free line refl) g
behind_good name shard view c (kind.Drop line key) effect here free g = told_good name shard view c here line (kind.Drop line key) effect.what refl (λ v e. absurd (cc e)) (free line refl) g
behind_good name shard view c (kind.Enter line epoch) effect here free g = entered_good name shard view c here line epoch effect.what (λ e. free line (ap (λ b. cond b None (Some line)) e)) g
behind_good name shard view c (kind.Got from epoch round total deltas) effect here free g = swept_good name shard view c here (kind.Got from epoch round total deltas) effect.removed refl (λ v e. absurd (cc e)) g
behind_good name shard view c (kind.Base v epoch swept round frames) effect here free g = silent_good name shard view c here (kind.Base v epoch swept round frames) refl (λ k e. absurd (cc e)) g
behind_good name shard view c (kind.KeptBlock born mark flags count bytes) effect here free g = silent_good name shard view c here (kind.KeptBlock born mark flags count bytes) refl (λ k e. absurd (cc e)) g
behind_good name shard view c (kind.KeptRoot created dropped counted address key) effect here free g = silent_good name shard view c here (kind.KeptRoot created dropped counted address key) refl (λ k e. absurd (cc e)) g
behind_good name shard view c (kind.KeptRound way other epoch round total deltas) effect here free g = silent_good name shard view c here (kind.KeptRound way other epoch round total deltas) refl (λ k e. absurd (cc e)) g

-- ---- one entry, and all that are committed

effect_good : (name : List ℕ → Address) (shard number : ℕ) (entry : Entry) (c : Core) → committed (group_of shard c) ≡ Some (number, entry) → IsGood name NoLine NoShard c → IsGood name NoLine NoShard (take_effect shard entry c)
effect_good name shard number entry c next g =
    let out : Core = taken shard entry c in
    let effect : Effect = (done_by shard entry c).effect in
    let told : Core = after_entry shard entry effect out in
    let view : ℕ = (group_of shard out).view in
    let behind : IsGood name (Woken name shard entry) NoShard told =
    behind_good name shard view out entry effect refl (λ line by k place x at of. taken_free name shard number line entry c g.orderly next by k place x at of) (taken_good name shard number entry c next g) in
    resumed_good name shard (wakes entry (named entry c) told) (Woken name shard entry) told (wakes_idle entry (named entry c) told)
    (λ m w woken. (woken.0, woken_wakes name told w entry (named entry c) (committed_named name c shard number entry g.orderly next) woken.1)) behind

next_good : (name : List ℕ → Address) (shard : ℕ) (c : Core) → IsGood name NoLine NoShard c → IsGood name NoLine NoShard (commit_next shard c)
next_good name shard c g = by_next (committed (group_of shard c)) refl
  where
    by_next : (o : Option (ℕ × Entry)) → committed (group_of shard c) ≡ o → IsGood name NoLine NoShard (change_with o (λ (e : ℕ × Entry). take_effect shard e.1) c)
    by_next None e = g
    by_next (Some x) e = effect_good name shard x.0 x.1 c e g

times_good : (name : List ℕ → Address) (shard n : ℕ) (c : Core) → IsGood name NoLine NoShard c → IsGood name NoLine NoShard (times n (commit_next shard) c)
times_good name shard zero c g = g
times_good name shard (suc n) c g = times_good name shard n (commit_next shard c) (next_good name shard c g)

pub commit_good : (name : List ℕ → Address) (shard : ℕ) (c : Core) → IsGood name NoLine NoShard c → IsGood name NoLine NoShard (commit shard c)
commit_good name shard c g = times_good name shard (commit_front (group_of shard c) - front_of shard c) c g
