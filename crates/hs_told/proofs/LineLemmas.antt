-- What the event of a client's line tells.
use Rattle.std.proofs.Common.{◌≡◌, ℕ, ◌+◌, ◌==◌, ◌++◌, Bool, true, false, List, [], ◌∷◌, length, Option, Some, None, is_none, nat_lt, refl, sym, ap, subst, ◌∙◌}
use Rattle.std.proofs.lemmas.List.{append-nil}
use Rattle.std.specs.List.{list_any}
use Rattle.std.specs.Option.{option_map_or}
use Rattle.std.specs.Prelude.{if◌then◌else◌, ◌||◌}
use Rattle.hs_answered.proofs.CoreLemmas.{busy_at_its_line, busy_step}
use Rattle.hs_answered.proofs.TellingLemmas.{tells_busy, tells_join, tells_judged, tells_none}
use Rattle.hs_answered.specs.Asked.{IsAsked, busy_with, first_step}
use Rattle.hs_answered.specs.Judged.{IsBusy, IsJudged, entry_of, judged_at}
use Rattle.hs_answered.specs.Standing.{IsFolded, forget_all, store_with}
use Rattle.hs_answered.specs.Telling.{Judging, Tells}
use Rattle.hs_awaiting.specs.declared.wait.Wait.TheVariants as wait
use Rattle.hs_awaiting.specs.declared.waiting.Waiting.{Waiting}
use Rattle.hs_awaiting.specs.Words.{change_if, change_with}
use Rattle.hs_core_words.specs.declared.event.Event.TheVariants as event
use Rattle.hs_core_words.specs.Changing.{add_entry_tasks, add_operation, change_group, change_pool, post, put_operation}
use Rattle.hs_core_words.specs.Looking.{group_of, lead_of, shape_of}
use Rattle.hs_core_words.specs.Operating.{add_read, begin_line, busy_line, take_step}
use Rattle.hs_core_words.specs.Pending.{is_address, is_coming, is_crowded, stored}
use Rattle.hs_core_words.specs.Seeing.{view_for}
use Rattle.hs_core_words.specs.State.{Core}
use Rattle.hs_core_words.specs.Step.{begin_event, end_event, keep_entries, refuse_entries, run_event, step}
use Rattle.hs_desk.specs.declared.fault.CoreFault.{CoreFault}
use Rattle.hs_entry.specs.declared.entry.Entry.{Entry}
use Rattle.hs_entry.specs.declared.entry.Entry.TheVariants as kind
use Rattle.hs_fold.specs.Runs.Facts.{Catalogue as Folded}
use Rattle.hs_fold.specs.Runs.Own.{AreOwn}
use Rattle.hs_journal.specs.declared.entry.JournalEntry.{JournalEntry}
use Rattle.hs_journal.specs.Events.{addressed, client_op}
use Rattle.hs_limits.specs.declared.address.Address.{Address}
use Rattle.hs_limits.specs.declared.limits.Limits.{Limits}
use Rattle.hs_limits.specs.Shape.{IsShape}
use Rattle.hs_members.specs.Members.{Members}
use Rattle.hs_model.specs.declared.command.Command.{Command}
use Rattle.hs_model.specs.declared.op.Op.{Op}
use Rattle.hs_model.specs.declared.op.Op.TheVariants as op
use Rattle.hs_model.specs.declared.deed.Deed.TheVariants as deed
use Rattle.hs_model.specs.declared.reply.Reply.{Reply}
use Rattle.hs_model.specs.declared.reply.Reply.TheVariants as reply
use Rattle.hs_model.specs.Judge.{asked_of, judge}
use Rattle.hs_model.specs.Store.{Store}
use Rattle.hs_ops.specs.declared.step.OpStep.{OpStep}
use Rattle.hs_ops.specs.declared.step.OpStep.TheVariants.{Answer, Compare, Propose, Wait}
use Rattle.hs_ops.specs.Operations.{after_step, go_step, new_operation}
use Rattle.hs_ops.specs.Speaking.{judging_shard}
use Rattle.hs_post.specs.Pool.{Pool, restart_numbers}
use Rattle.hs_replica.specs.Group.{last_number, proposal, propose}
use Rattle.hs_shard.specs.Facts.{Catalogue}
use Rattle.hs_tokens.specs.Seats.{Seats}
use Rattle.hs_told.proofs.BusyLemmas.{Busy, busy_from}
use Rattle.hs_told.specs.InTurn.{IsInTurn, told_of}
use Rattle.hs_told.specs.Lines.{TakesLine, busy_entry, left_line, told_line}

-- what hs_answered says of first steps
abbrev pub ByFirst : Type 0
ByFirst = (cs : List Folded) (core : Core) (line : ℕ) (o : Op) (r : Reply) → IsFolded core cs → IsAsked (store_with cs core.sessions) o → busy_with o core ≡ None
    → first_step line o core ≡ Answer r → IsJudged cs core (begin_line line o core) line o

-- ---- a step that does not answer

record Rest : Type 0 where
  limits : Limits
  members : Members
  catalogues : List Catalogue
  sessions : Seats
  journal : List JournalEntry
  entries : List JournalEntry
  refused : List JournalEntry

abbrev rest_of : Core → Rest
rest_of c = record {
  limits = c.limits;
  members = c.members;
  catalogues = c.catalogues;
  sessions = c.sessions;
  journal = c.journal;
  entries = c.entries;
  refused = c.refused;
}

rest_with : {B : Type 0} (o : Option B) (f : B → Core → Core) (c : Core) → ((y : B) (x : Core) → rest_of (f y x) ≡ rest_of x) → rest_of (change_with o f c) ≡ rest_of c
rest_with None f c h = refl
rest_with (Some y) f c h = h y c

rest_step : (line : ℕ) (w : Waiting) (s : OpStep) (c : Core) → ((r : Reply) → s ≡ Answer r → ⊥) → rest_of (take_step line w s c) ≡ rest_of c
rest_step line w (Answer r) c h = absurd (h r refl)
rest_step line w (Propose entry) c h =
    let u : Waiting = record w { operation = after_step (Propose entry) w.operation; wait = wait.Entry (last_number (group_of w.shard c) + 1) } in
    let one : Core = put_operation line u c in
    rest_with (lead_of w.shard one) (λ peer. add_entry_tasks peer (last_number (group_of w.shard one) + 1) entry) (post (proposal entry (group_of w.shard one)) (change_group w.shard (propose entry) one)) (λ peer x. refl)
rest_step line w (Compare number) c h =
    let u : Waiting = record w { operation = after_step (Compare number) w.operation; wait = wait.Bytes number } in
    rest_with (lead_of w.shard c) (add_read number line) (put_operation line u c) (λ peer x. refl)
rest_step line w Wait c h = refl

-- the catalogues are folds still
abbrev AreFolds : List Folded → Rest → Type 0
AreFolds cs r = IsShape r.members.shape × (length cs ≡ r.members.shape.shards) × AreOwn r.members.shape.shards 0 cs × (r.catalogues ≡ forget_all r.members.shape 0 cs)

folds_rest : (cs : List Folded) (c d : Core) → rest_of d ≡ rest_of c → IsFolded c cs → IsFolded d cs
folds_rest cs c d same folded =
    let it : AreFolds cs (rest_of d) = subst (λ r. AreFolds cs r) (sym same) (folded.valid, folded.shards, folded.own, folded.catalogues) in
    record { valid = it.0; shards = it.1; own = it.2; catalogues = it.3 }

-- ---- the core at which the line begins

-- it is the core, but for its moment, its line and its pool
abbrev begun : Core → Pool → ℕ → ℕ → Core
begun core pool moment line = record core { pool = pool; moment = moment; progress = record core.progress { event_line = line } }

begun_is : (line moment : ℕ) (core : Core) → (pool : Pool) × (begin_event line moment core ≡ begun core pool moment (if line == 0 then core.progress.event_line else line))
begun_is line moment core = go _
  where
    go : (b : Bool) → (pool : Pool) × (record (change_if b (change_pool restart_numbers) core) { moment = moment; progress = record core.progress { event_line = if line == 0 then core.progress.event_line else line } } ≡ begun core pool moment (if line == 0 then core.progress.event_line else line))
    go true = (restart_numbers core.pool, refl)
    go false = (core.pool, refl)

busy_same : (o : Op) (core : Core) (pool : Pool) (moment line : ℕ) → busy_with o (begun core pool moment line) ≡ busy_with o core
busy_same (op.Open name) core pool moment line = refl
busy_same (op.Close name) core pool moment line = refl
busy_same (op.Write name payload handles address) core pool moment line = refl
busy_same (op.Read name handle) core pool moment line = refl
busy_same (op.Look name key) core pool moment line = refl
busy_same (op.Root name key handle) core pool moment line = refl
busy_same (op.Drop key) core pool moment line = refl
busy_same (op.Forget name handle) core pool moment line = refl
busy_same (op.Name name handle) core pool moment line = refl
busy_same op.Delete core pool moment line = refl
busy_same op.Stat core pool moment line = refl

stored_same : (entry : Entry) (core : Core) (pool : Pool) (moment line n : ℕ) → stored entry (record (begun core pool moment line) { progress = record (begun core pool moment line).progress { last_line = n } }) ≡ stored entry (record core { progress = record core.progress { last_line = n } })
stored_same (kind.View view) core pool moment line n = refl
stored_same (kind.Block m least bytes) core pool moment line n = refl
stored_same (kind.Mark m least block a) core pool moment line n = refl
stored_same (kind.Root m held a key) core pool moment line n = refl
stored_same (kind.Drop m key) core pool moment line n = refl
stored_same (kind.Enter m epoch) core pool moment line n = refl
stored_same (kind.Got from epoch round total deltas) core pool moment line n = refl
stored_same (kind.Base view epoch swept round frames) core pool moment line n = refl
stored_same (kind.KeptBlock born mark flags count bytes) core pool moment line n = refl
stored_same (kind.KeptRoot created dropped counted address key) core pool moment line n = refl
stored_same (kind.KeptRound way other epoch round total deltas) core pool moment line n = refl

coming_same : (shard : ℕ) (a : Option Address) (core : Core) (pool : Pool) (moment line n : ℕ) → is_coming shard a (record (begun core pool moment line) { progress = record (begun core pool moment line).progress { last_line = n } }) ≡ is_coming shard a (record core { progress = record core.progress { last_line = n } })
coming_same shard a core pool moment line n =
    λ i. option_map_or (λ b. list_any (λ entry. is_address b (stored_same entry core pool moment line n i)) (group_of shard core).waiting) a false

first_same : (n : ℕ) (o : Op) (core : Core) (pool : Pool) (moment line : ℕ) → first_step n o (begun core pool moment line) ≡ first_step n o core
first_same n (op.Open name) core pool moment line = refl
first_same n (op.Close name) core pool moment line = refl
first_same n (op.Write name payload handles address) core pool moment line =
    let o : Op = op.Write name payload handles address in
    let g : ℕ = judging_shard (shape_of core).shards core.sessions o in
    ap (λ (b : Bool). go_step (record (view_for g o core) { pending = b || is_crowded g o core; busy = busy_line o core }) (new_operation n o)) (coming_same g address core pool moment line n)
first_same n (op.Read name handle) core pool moment line = refl
first_same n (op.Look name key) core pool moment line = refl
first_same n (op.Root name key handle) core pool moment line = refl
first_same n (op.Drop key) core pool moment line = refl
first_same n (op.Forget name handle) core pool moment line = refl
first_same n (op.Name name handle) core pool moment line = refl
first_same n op.Delete core pool moment line = refl
first_same n op.Stat core pool moment line = refl

-- ---- the line

-- what it tells and leaves, before the event ends
record Told (cs : List Folded) (core after : Core) (expected : List JournalEntry) (store : Store) : Type 0 where
  limits : after.limits ≡ core.limits
  journal : after.journal ≡ core.journal
  entries : after.entries ≡ expected
  refused : after.refused ≡ core.refused
  left : store_with cs after.sessions ≡ store
  folded : IsFolded after cs

module _ (cs : List Folded) (core : Core) (line moment : ℕ) (o : Op) where
  told_if_busy : (other : ℕ) → busy_with o core ≡ Some other → told_line cs core line moment o ≡ busy_entry line moment other o ∷ []
  told_if_busy other e = rw e refl

  left_if_busy : (other : ℕ) → busy_with o core ≡ Some other → left_line cs core line o ≡ store_with cs core.sessions
  left_if_busy other e = rw e refl

  told_if_answered : (r : Reply) → busy_with o core ≡ None → first_step line o core ≡ Answer r → told_line cs core line moment o ≡ entry_of line moment (judged_at cs core o) ∷ []
  told_if_answered r e f = rw e (rw f refl)

  left_if_answered : (r : Reply) → busy_with o core ≡ None → first_step line o core ≡ Answer r → left_line cs core line o ≡ (judged_at cs core o).store
  left_if_answered r e f = rw e (rw f refl)

  told_if_waits : (s : OpStep) → busy_with o core ≡ None → first_step line o core ≡ s → ((r : Reply) → s ≡ Answer r → ⊥) → (told_line cs core line moment o ≡ []) × (left_line cs core line o ≡ store_with cs core.sessions)
  told_if_waits (Answer r) e f h = absurd (h r refl)
  told_if_waits (Propose entry) e f h = (rw e (rw f refl), rw e (rw f refl))
  told_if_waits (Compare number) e f h = (rw e (rw f refl), rw e (rw f refl))
  told_if_waits Wait e f h = (rw e (rw f refl), rw e (rw f refl))

module _ (law : ByFirst) (commands : ℕ → Option Command) (cs : List Folded) (core : Core) (line moment : ℕ) (o : Op)
    (turn : IsInTurn commands core) (folds : IsFolded core cs) (asked : IsAsked (store_with cs core.sessions) o) where
  abbrev last : ℕ
  last = if line == 0 then core.progress.event_line else line

  module _ (pool : Pool) where
    abbrev x : Core
    x = begun core pool moment last

    abbrev w : Waiting
    w = record { operation = new_operation line o; shard = judging_shard (shape_of core).shards core.sessions o; wait = wait.View }

    abbrev with_it : Core
    with_it = add_operation line w (record x { progress = record x.progress { last_line = line } })

    here : IsFolded x cs
    here = record { valid = folds.valid; shards = folds.shards; own = folds.own; catalogues = folds.catalogues }

    answer_is : (r : Reply) → first_step line o x ≡ Answer r → begin_line line o x ≡ take_step line w (Answer r) with_it
    answer_is r e = ap (λ (s : OpStep). take_step line w s with_it) e

    -- its session is busy
    if_busy : (other : ℕ) → busy_with o core ≡ Some other → Told cs core (begin_line line o x) (told_line cs core line moment o) (left_line cs core line o)
    if_busy other e = record {
      limits = ap (λ (c : Core). c.limits) same;
      journal = ap (λ (c : Core). c.journal) same;
      entries = its.told ∙ ap (λ entries. entries ++ busy_entry line moment other o ∷ []) turn.told ∙ sym (told_if_busy cs core line moment o other e);
      refused = ap (λ (c : Core). c.refused) same;
      left = ap (λ seats. store_with cs seats) its.sessions ∙ sym (left_if_busy cs core line moment o other e);
      folded = folds_busy (begin_line line o x) (ap (λ (c : Core). c.members) same) its.catalogues;
    }
      where
        by : Busy core o other
        by = busy_from core o other turn.apart e

        same : begin_line line o x ≡ take_step line w (Answer (reply.Busy other)) with_it
        same = answer_is (reply.Busy other) (busy_step cs x line o other by.name by.asks by.apart (turn.opened other by.by.o by.name by.by.at by.by.same) by.line)

        its : IsBusy x (begin_line line o x) line other o
        its = busy_at_its_line x line other o by.name by.asks by.apart (turn.opened other by.by.o by.name by.by.at by.by.same) by.line

        folds_busy : (d : Core) → d.members ≡ core.members → d.catalogues ≡ core.catalogues → IsFolded d cs
        folds_busy d m c = record {
          valid = subst (λ (ms : Members). IsShape ms.shape) (sym m) folds.valid;
          shards = subst (λ (ms : Members). length cs ≡ ms.shape.shards) (sym m) folds.shards;
          own = subst (λ (ms : Members). AreOwn ms.shape.shards 0 cs) (sym m) folds.own;
          catalogues = c ∙ subst (λ (ms : Members). core.catalogues ≡ forget_all ms.shape 0 cs) (sym m) folds.catalogues;
        }

    -- its first step answers
    if_answered : (r : Reply) → busy_with o core ≡ None → first_step line o core ≡ Answer r → Told cs core (begin_line line o x) (told_line cs core line moment o) (left_line cs core line o)
    if_answered r free e = record {
      limits = ap (λ (c : Core). c.limits) same;
      journal = ap (λ (c : Core). c.journal) same;
      entries = its.told ∙ ap (λ entries. entries ++ entry_of line moment (judged_at cs core o) ∷ []) turn.told ∙ sym (told_if_answered cs core line moment o r free e);
      refused = ap (λ (c : Core). c.refused) same;
      left = its.left ∙ sym (left_if_answered cs core line moment o r free e);
      folded = its.folded;
    }
      where
        first : first_step line o x ≡ Answer r
        first = first_same line o core pool moment last ∙ e

        same : begin_line line o x ≡ take_step line w (Answer r) with_it
        same = answer_is r first

        its : IsJudged cs x (begin_line line o x) line o
        its = law cs x line o r here asked (busy_same o core pool moment last ∙ free) first

    -- it waits
    if_waits : (s : OpStep) → busy_with o core ≡ None → first_step line o core ≡ s → ((r : Reply) → s ≡ Answer r → ⊥) → Told cs core (begin_line line o x) (told_line cs core line moment o) (left_line cs core line o)
    if_waits s free e none = record {
      limits = ap (λ (r : Rest). r.limits) same;
      journal = ap (λ (r : Rest). r.journal) same;
      entries = ap (λ (r : Rest). r.entries) same ∙ turn.told ∙ sym quiet.0;
      refused = ap (λ (r : Rest). r.refused) same;
      left = ap (λ (r : Rest). store_with cs r.sessions) same ∙ sym quiet.1;
      folded = folds_rest cs x (begin_line line o x) same here;
    }
      where
        first : first_step line o x ≡ s
        first = first_same line o core pool moment last ∙ e

        same : rest_of (begin_line line o x) ≡ rest_of x
        same = ap (λ (t : OpStep). rest_of (take_step line w t with_it)) first ∙ rest_step line w s with_it none

        quiet : (told_line cs core line moment o ≡ []) × (left_line cs core line o ≡ store_with cs core.sessions)
        quiet = told_if_waits cs core line moment o s free e none

    told_at_line : Told cs core (begin_line line o x) (told_line cs core line moment o) (left_line cs core line o)
    told_at_line = by_busy (busy_with o core) refl
      where
        by_step : busy_with o core ≡ None → (s : OpStep) → first_step line o core ≡ s → Told cs core (begin_line line o x) (told_line cs core line moment o) (left_line cs core line o)
        by_step free (Answer r) e = if_answered r free e
        by_step free (Propose entry) e = if_waits (Propose entry) free e (λ r h. cc h)
        by_step free (Compare number) e = if_waits (Compare number) free e (λ r h. cc h)
        by_step free Wait e = if_waits Wait free e (λ r h. cc h)

        by_busy : (b : Option ℕ) → busy_with o core ≡ b → Told cs core (begin_line line o x) (told_line cs core line moment o) (left_line cs core line o)
        by_busy (Some other) e = if_busy other e
        by_busy None e = by_step e (first_step line o core) refl

  -- ---- the event

  abbrev told : List JournalEntry
  told = told_line cs core line moment o

  abbrev is_full : Bool
  is_full = nat_lt core.limits.ops (length core.journal + length told)

  -- how an event ends that tells this
  pub record Ends (after : Core) : Type 0 where
    pub room : is_full ≡ false → (after.journal ≡ core.journal ++ told) × (after.refused ≡ [])
    pub full : is_full ≡ true → (after.journal ≡ core.journal) × (after.refused ≡ told)
    pub left : store_with cs after.sessions ≡ left_line cs core line o
    pub folded : IsFolded after cs

  ends : (c : Core) → Told cs core c told (left_line cs core line o) → core.refused ≡ [] → Ends (end_event c)
  ends c its clean = go (nat_lt c.limits.ops (length c.journal + length c.entries)) refl
    where
      test : nat_lt c.limits.ops (length c.journal + length c.entries) ≡ is_full
      test =
          ap (λ (l : Limits). nat_lt l.ops (length c.journal + length c.entries)) its.limits
          ∙ ap (λ (j : List JournalEntry). nat_lt core.limits.ops (length j + length c.entries)) its.journal
          ∙ ap (λ (j : List JournalEntry). nat_lt core.limits.ops (length core.journal + length j)) its.entries

      go : (b : Bool) → nat_lt c.limits.ops (length c.journal + length c.entries) ≡ b → Ends (if b then refuse_entries c else keep_entries c)
      go true e = record {
        room = λ f. let g : true ≡ false = sym e ∙ test ∙ f in absurd (cc g);
        full = λ f. (its.journal, its.entries);
        left = its.left;
        folded = record { valid = its.folded.valid; shards = its.folded.shards; own = its.folded.own; catalogues = its.folded.catalogues };
      }
      go false e = record {
        room = λ f. (ap (λ j. j ++ c.entries) its.journal ∙ ap (λ j. core.journal ++ j) its.entries, its.refused ∙ clean);
        full = λ f. let g : false ≡ true = sym e ∙ test ∙ f in absurd (cc g);
        left = its.left;
        folded = record { valid = its.folded.valid; shards = its.folded.shards; own = its.folded.own; catalogues = its.folded.catalogues };
      }

  run_ends : core.refused ≡ [] → Ends (run_event (event.Line line o) moment core)
  run_ends clean =
      let it = begun_is line moment core in
      subst (λ c. Ends (end_event (begin_line line o c))) (sym it.1) (ends (begin_line line o (x it.0)) (told_at_line it.0) clean)

  pub step_ends : core.ended ≡ None → Ends (step (event.Line line o) moment core)
  step_ends goes = subst (λ (e : Option CoreFault). Ends (change_if (is_none e) (run_event (event.Line line o) moment) core)) (sym goes) (run_ends (turn.going goes))

  pub takes_line : core.ended ≡ None → TakesLine cs core line moment o
  takes_line goes = let it = step_ends goes in record { room = it.room; full = it.full; left = it.left; folded = it.folded }

  -- ---- the run of the plain store

  tells_line : (by : Judging) (said : Op) → by.limits ≡ core.limits → client_op (by.commands line) ≡ Some said → addressed by.name (store_with cs core.sessions) said ≡ o
      → Tells by (store_with cs core.sessions) told (left_line cs core line o)
  tells_line by said limits line_is same = by_busy (busy_with o core) refl
    where
      s : Store
      s = store_with cs core.sessions

      quietly : (told ≡ []) × (left_line cs core line o ≡ s) → Tells by s told (left_line cs core line o)
      quietly q = subst (λ entries. Tells by s entries (left_line cs core line o)) (sym q.0) (subst (λ left. Tells by s [] left) (sym q.1) (tells_none by s))

      by_step : busy_with o core ≡ None → (t : OpStep) → first_step line o core ≡ t → Tells by s told (left_line cs core line o)
      by_step free (Answer r) e =
          subst (λ entries. Tells by s entries (left_line cs core line o)) (sym (told_if_answered cs core line moment o r free e))
          (subst (λ left. Tells by s (entry_of line moment (judged_at cs core o) ∷ []) left) (sym (left_if_answered cs core line moment o r free e))
          (subst (λ l. Tells by s (entry_of line moment (judge l s o) ∷ []) (judge l s o).store) limits (tells_judged by s line moment said o line_is same)))
      by_step free (Propose entry) e = quietly (told_if_waits cs core line moment o (Propose entry) free e (λ r h. cc h))
      by_step free (Compare number) e = quietly (told_if_waits cs core line moment o (Compare number) free e (λ r h. cc h))
      by_step free Wait e = quietly (told_if_waits cs core line moment o Wait free e (λ r h. cc h))

      by_busy : (b : Option ℕ) → busy_with o core ≡ b → Tells by s told (left_line cs core line o)
      by_busy (Some other) e =
          subst (λ entries. Tells by s entries (left_line cs core line o)) (sym (told_if_busy cs core line moment o other e))
          (subst (λ left. Tells by s (busy_entry line moment other o ∷ []) left) (sym (left_if_busy cs core line moment o other e))
          (tells_busy by s line moment other (deed.Refused (asked_of o))))
      by_busy None e = by_step e (first_step line o core) refl

  pub keeps_telling : (by : Judging) (start : Store) (said : Op) → core.ended ≡ None → by.limits ≡ core.limits → client_op (by.commands line) ≡ Some said → addressed by.name (store_with cs core.sessions) said ≡ o
      → Tells by start (told_of core) (store_with cs core.sessions)
      → Tells by start (told_of (step (event.Line line o) moment core)) (store_with cs (step (event.Line line o) moment core).sessions)
  keeps_telling by start said goes limits line_is same before =
      subst (λ entries. Tells by start entries (store_with cs after.sessions)) (sym (all is_full refl))
      (subst (λ left. Tells by start (core.journal ++ told) left) (sym its.left)
      (tells_join by core.journal told start (store_with cs core.sessions) (left_line cs core line o)
      (subst (λ entries. Tells by start entries (store_with cs core.sessions)) (ap (λ j. core.journal ++ j) (turn.going goes) ∙ append-nil core.journal) before)
      (tells_line by said limits line_is same)))
    where
      after : Core
      after = step (event.Line line o) moment core

      its : Ends after
      its = step_ends goes

      all : (b : Bool) → is_full ≡ b → told_of after ≡ core.journal ++ told
      all true e = ap (λ j. j ++ after.refused) (its.full e).0 ∙ ap (λ j. core.journal ++ j) (its.full e).1
      all false e = ap (λ j. j ++ after.refused) (its.room e).0 ∙ ap (λ j. (core.journal ++ told) ++ j) (its.room e).1 ∙ append-nil (core.journal ++ told)
