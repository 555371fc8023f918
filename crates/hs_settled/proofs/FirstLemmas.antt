-- Shard 0 is never told to have entered an epoch by itself: a client's line asks for each of its Enters, and is told of it.
use Rattle.std.proofs.Common.{◌≡◌, ◌∙◌, sym, ap, subst, ℕ, zero, suc, ◌+◌, Bool, true, false, cond, List, [], ◌∷◌, ◌++◌, Option, Some, None, refl, arith, slice_get, is_some, append_assoc, nat_lt}
use Rattle.std.proofs.lemmas.Bool.{ne_eqb}
use Rattle.std.specs.BTreeMap.{is_at}
use Rattle.std.specs.List.{AllByRecursion, list_all}
use Rattle.std.specs.Map.{lookup}
use Rattle.std.specs.Ordering.{nat_cmp}
use Rattle.std.specs.Prelude.{if◌then◌else◌, nat_le}
use Rattle.hs_standing.proofs.AlongWalkLemmas.{along as along_events, copies_step}
use Rattle.hs_standing.specs.Changes.{IsBeside, tells_at_once, told_at_once}
use Rattle.hs_standing.specs.Copies.{AllComeOn}
use Rattle.hs_standing.specs.Walks.{MayEvent, MayReport, Walks, WalksViews}
use Rattle.hs_awaiting.specs.declared.wait.Wait.TheVariants as wait
use Rattle.hs_awaiting.specs.declared.waiting.Waiting.{Waiting}
use Rattle.hs_awaiting.specs.Words.{change_if, change_with}
use Rattle.hs_core_words.specs.Asking.{send_round}
use Rattle.hs_core_words.specs.Changing.{add_operation, change_pool, note, refuse}
use Rattle.hs_core_words.specs.declared.event.Event.{Event}
use Rattle.hs_core_words.specs.declared.event.Event.TheVariants as event
use Rattle.hs_core_words.specs.Effects.{note_enter, note_sweep, tell_enter, tell_operation}
use Rattle.hs_core_words.specs.Entering.{is_enter_due}
use Rattle.hs_core_words.specs.Looking.{catalogue_of, front_of, group_of, operation_of, shape_of}
use Rattle.hs_core_words.specs.Opening.{Taken, new_core, open_core}
use Rattle.hs_core_words.specs.Operating.{begin_line, busy_line, go_on_with, resume, take_step}
use Rattle.hs_core_words.specs.Seeing.{pointers_for, view_for}
use Rattle.hs_core_words.specs.State.{Core}
use Rattle.hs_core_words.specs.Views.{begin_view}
use Rattle.hs_settled.proofs.RuleLemmas.{all_front}
use Rattle.hs_settled.proofs.BegunLemmas.{begins_on, come}
use Rattle.hs_settled.proofs.DeletesRunLemmas.{steps_ended}
use Rattle.hs_settled.proofs.SaidLemmas.{Says, again_told, more_told, proposed_told, same_told, says_nothing, says_note, view_told}
use Rattle.hs_desk.specs.declared.done.Done.{Done}
use Rattle.hs_desk.specs.declared.done.Done.TheVariants as done
use Rattle.hs_desk.specs.declared.fault.CoreFault.{CoreFault}
use Rattle.hs_desk.specs.declared.what.What.{What}
use Rattle.hs_desk.specs.declared.what.What.TheVariants as what
use Rattle.hs_effects.proofs.EventLemmas.{none_wait, open_orderly}
use Rattle.hs_effects.proofs.ViewLemmas.{view_began}
use Rattle.hs_effects.specs.Logged.{HasAsked, IsCalled, IsNewLine, IsOrderly, MayBegin, asked_by}
use Rattle.hs_effects.specs.Taking.{done_by, taken}
use Rattle.hs_entry.specs.declared.entry.Entry.{Entry}
use Rattle.hs_entry.specs.declared.entry.Entry.TheVariants as kind
use Rattle.hs_events.specs.Course.{steps}
use Rattle.hs_events.specs.Due.{Events}
use Rattle.hs_events.specs.Found.{Found, first_core, opens_with}
use Rattle.hs_journal.specs.declared.entry.JournalEntry.{JournalEntry}
use Rattle.hs_journal.specs.declared.entry.Who.TheVariants as who
use Rattle.hs_standing.proofs.MuteLemmas.{Words, step_books, step_stays}
use Rattle.hs_standing.proofs.OrderLemmas.{again_alike, orderly_again, orderly_beside, orderly_downed, orderly_due, orderly_effect, orderly_goes, orderly_line, orderly_refused, orderly_round, orderly_told}
use Rattle.hs_standing.specs.Telling.{told_so_far}
use Rattle.hs_limits.specs.declared.address.Address.{Address}
use Rattle.hs_limits.specs.declared.limits.Limits.{Limits}
use Rattle.hs_limits.specs.declared.shape.Shape.{Shape}
use Rattle.hs_model.specs.declared.deed.Deed.TheVariants as deed
use Rattle.hs_model.specs.declared.op.Op.{Op}
use Rattle.hs_model.specs.declared.reply.Reply.{Reply}
use Rattle.hs_model.specs.declared.reply.Reply.TheVariants as reply
use Rattle.hs_settled.proofs.NotingLemmas.{all_append}
use Rattle.hs_ops.specs.Answers.{deed_of}
use Rattle.hs_ops.specs.declared.step.OpStep.{OpStep}
use Rattle.hs_ops.specs.declared.step.OpStep.TheVariants.{Answer, Compare, Propose, Wait}
use Rattle.hs_ops.specs.Operations.{Operation, bytes_step, effect_step, go_step, new_operation}
use Rattle.hs_ops.specs.Speaking.{judging_shard}
use Rattle.hs_ops.specs.Views.{OpView}
use Rattle.hs_post.specs.Pool.{without}
use Rattle.hs_replica.specs.Group.{Group, commit_front, committed}
use Rattle.hs_standing.proofs.RestsListLemmas.{each_viewed}
use Rattle.hs_settled.specs.Settled.{IsNoFirst}
use Rattle.hs_settled.proofs.OwnLemmas.{AreCounted, NoneOwn, going_asks, own_begin, own_effect, own_go_on, own_propose, own_same, telling_asks}
use Rattle.hs_shard.specs.declared.effect.Effect.{Effect}
use Rattle.hs_shard.specs.Facts.{Catalogue}
use Rattle.hs_standing.proofs.FirstLemmas.{KeepsFirst, first_held}
use Rattle.hs_standing.proofs.TakenLemmas.{FoldsInMemory}
use Rattle.hs_standing.specs.Run.{MayRun, RunBegins}
use Rattle.hs_standing.specs.Standing.{AllMayKeep, judging_of}
use Rattle.hs_standing.specs.Start.{Start}
use Rattle.hs_told.proofs.OpenedLemmas.{opened_turn}
use Rattle.hs_told.specs.InTurn.{IsInTurn, told_of}
use Rattle.hs_tokens.specs.Seats.{Seats}
use Rattle.std.specs.Option.{option_map}

-- ---- what is told

-- nothing that was told so far is such an entry
abbrev pub NoneFirst : Core → Type 0
NoneFirst c = AllByRecursion IsNoFirst (told_so_far c)

tells_on : (a b : Core) → Says IsNoFirst a b → NoneFirst a → NoneFirst b
tells_on a b says none = subst (λ (es : List JournalEntry). AllByRecursion IsNoFirst es) (sym says.told) (all_append IsNoFirst (told_so_far a) says.more none says.each)

-- ---- operations

step_says : (line : ℕ) (w : Waiting) (s : OpStep) (c : Core) → Says IsNoFirst c (take_step line w s c)
step_says line w s c = by_step s
  where
    quietly : (t : OpStep) → ((r : Reply) → t ≡ Answer r → ⊥) → Says IsNoFirst c (take_step line w t c)
    quietly t never = says_nothing IsNoFirst c (take_step line w t c) (same_told c (take_step line w t c) (step_books line w t c) (ap (λ (x : Words). x.entries) (step_stays line w t c never).words))

    by_step : (t : OpStep) → Says IsNoFirst c (take_step line w t c)
    by_step (Answer r) =
        let e : JournalEntry = record { who = who.Line line; moment = c.moment; deed = deed_of c.sessions w.operation.op r; reply = r } in
        record { more = e ∷ []; told = more_told c (take_step line w (Answer r) c) (e ∷ []) refl refl; each = ((λ epoch is did. cc is), tt) }
    by_step (Propose entry) = quietly (Propose entry) (λ r h. cc h)
    by_step (Compare number) = quietly (Compare number) (λ r h. cc h)
    by_step Wait = quietly Wait (λ r h. cc h)

go_on_says : (next : OpView → Operation → OpStep) (line : ℕ) (c : Core) → Says IsNoFirst c (go_on_with next line c)
go_on_says next line c = go (operation_of line c)
  where
    go : (o : Option Waiting) → Says IsNoFirst c (change_with o (λ w. take_step line w (next (view_for w.shard w.operation.op c) w.operation)) c)
    go None = says_nothing IsNoFirst c c refl
    go (Some w) = step_says line w (next (view_for w.shard w.operation.op c) w.operation) c

line_says : (line : ℕ) (o : Op) (c : Core) → Says IsNoFirst c (begin_line line o c)
line_says line o c = record { more = s.more; told = s.told; each = s.each }
  where
    begun : Core
    begun = record c { progress = record c.progress { last_line = line } }

    w : Waiting
    w = record { operation = new_operation line o; shard = judging_shard (shape_of c).shards c.sessions o; wait = wait.View }

    v : OpView
    v = record (view_for (judging_shard (shape_of c).shards c.sessions o) o begun) { busy = busy_line o c }

    s : Says IsNoFirst (add_operation line w begun) (take_step line w (go_step v w.operation) (add_operation line w begun))
    s = step_says line w (go_step v w.operation) (add_operation line w begun)

-- ---- an entry that takes effect

-- a shard other than the first enters
enter_says : (shard : ℕ) (did : What) (c : Core) → (shard ≡ 0 → ⊥) → Says IsNoFirst c (note_enter shard did c)
enter_says shard (what.Entered epoch) c other =
    says_note IsNoFirst (who.Shard shard) (deed.Entered shard) (reply.Enter epoch) c (λ n is did. other (shard_is is))
  where
    shard_is : who.Shard shard ≡ who.Shard 0 → shard ≡ 0
    shard_is e = cc e
enter_says shard did c other = says_nothing IsNoFirst c c refl

sweep_says : (shard : ℕ) (removed : Option ℕ) (c : Core) → Says IsNoFirst c (change_with removed (note_sweep shard) c)
sweep_says shard None c = says_nothing IsNoFirst c c refl
sweep_says shard (Some n) c = go (list_all (λ (d : Catalogue). nat_le (catalogue_of shard c).swept d.swept) c.catalogues)
  where
    swept : Core
    swept = note (who.Shard shard) (deed.Swept shard) (reply.Sweep (catalogue_of shard c).swept n) c

    one : Says IsNoFirst c (note (who.Shard shard) (deed.Swept shard) (reply.Sweep (catalogue_of shard c).swept n) c)
    one = says_note IsNoFirst (who.Shard shard) (deed.Swept shard) (reply.Sweep (catalogue_of shard c).swept n) c (λ epoch is did. cc did)

    two : Says IsNoFirst swept (note who.Store deed.Nothing (reply.Done (catalogue_of shard c).swept) swept)
    two = says_note IsNoFirst who.Store deed.Nothing (reply.Done (catalogue_of shard c).swept) swept (λ epoch is did. cc is)

    go : (b : Bool) → Says IsNoFirst c (change_if b (note who.Store deed.Nothing (reply.Done (catalogue_of shard c).swept)) (note (who.Shard shard) (deed.Swept shard) (reply.Sweep (catalogue_of shard c).swept n) c))
    go true = record {
      more = one.more ++ two.more;
      told = two.told ∙ ap (λ (es : List JournalEntry). es ++ two.more) one.told ∙ append_assoc (told_so_far c) one.more two.more;
      each = all_append IsNoFirst one.more two.more one.each two.each;
    }
    go false = one

pair_is : (a b : ℕ × Entry) → Some a ≡ Some b → a ≡ b
pair_is a b e = cc e

-- an entry that is committed is the first that waits
first_of : (g : Group) (number : ℕ) (entry : Entry) → committed g ≡ Some (number, entry) → slice_get g.waiting 0 ≡ Some entry
first_of g number entry e = by_front (nat_lt g.front (commit_front g)) e
  where
    by_entry : (o : Option Entry) → option_map {U = ℕ × Entry} (λ (x : Entry). (g.front + 1, x)) o ≡ Some (number, entry) → o ≡ Some entry
    by_entry None h = absurd (cc h)
    by_entry (Some x) h = ap (λ (p : ℕ × Entry). Some p.1) (pair_is (g.front + 1, x) (number, entry) h)

    by_front : (b : Bool) → (if b then option_map {U = ℕ × Entry} (λ (x : Entry). (g.front + 1, x)) (slice_get g.waiting 0) else None) ≡ Some (number, entry) → slice_get g.waiting 0 ≡ Some entry
    by_front true h = by_entry (slice_get g.waiting 0) h
    by_front false h = absurd (cc h)

module _ (name : List ℕ → Address) (c : Core) (orderly : IsOrderly name c) (own : NoneOwn c) where
  -- an Enter of the first shard has its line
  enter_asked : (line epoch number : ℕ) → committed (group_of 0 c) ≡ Some (number, kind.Enter line epoch) → is_some (operation_of line c) ≡ true
  enter_asked zero epoch number leads = absurd (own 0 epoch (first_of (group_of 0 c) number (kind.Enter 0 epoch) leads))
  enter_asked (suc n) epoch number leads =
      let asked : HasAsked name c 0 (front_of 0 c + 1 + 0) (suc n) (kind.Enter (suc n) epoch) = orderly.asked 0 0 (suc n) (kind.Enter (suc n) epoch) (first_of (group_of 0 c) number (kind.Enter (suc n) epoch) leads) by_line in
      ap (λ (o : Option Waiting). is_some o) asked.at
    where
      by_line : asked_by (kind.Enter (suc n) epoch) ≡ Some (suc n)
      by_line = ap (λ (b : Bool). if b then None else Some (suc n)) (ne_eqb (suc n) 0 (λ e. omega (arith, e)))

  tell_enter_says : (shard line epoch number : ℕ) (did : What) → committed (group_of shard c) ≡ Some (number, kind.Enter line epoch) → Says IsNoFirst (taken shard (kind.Enter line epoch) c) (tell_enter shard line did (taken shard (kind.Enter line epoch) c))
  tell_enter_says shard line epoch number did leads = go (is_some (operation_of line c)) refl
    where
      x : Core
      x = taken shard (kind.Enter line epoch) c

      go : (b : Bool) → is_some (operation_of line c) ≡ b → Says IsNoFirst (taken shard (kind.Enter line epoch) c) (cond b (tell_operation line did (taken shard (kind.Enter line epoch) c)) (note_enter shard did (taken shard (kind.Enter line epoch) c)))
      go true e = go_on_says (λ v o. effect_step v did o) line x
      go false e = enter_says shard did x (λ zero_is. let yes = enter_asked line epoch number (subst (λ (k : ℕ). committed (group_of k c) ≡ Some (number, kind.Enter line epoch)) zero_is leads) in let both : true ≡ false = sym yes ∙ e in cc both)

  at_once_says : (shard number : ℕ) (entry : Entry) (effect : Effect) → committed (group_of shard c) ≡ Some (number, entry) → Says IsNoFirst (taken shard entry c) (tells_at_once shard entry effect (taken shard entry c))
  at_once_says shard number (kind.View view) effect leads = says_nothing IsNoFirst (taken shard (kind.View view) c) (taken shard (kind.View view) c) refl
  at_once_says shard number (kind.Block line least bytes) effect leads = go_on_says (λ v o. effect_step v effect.what o) line (taken shard (kind.Block line least bytes) c)
  at_once_says shard number (kind.Mark line least block a) effect leads = go_on_says (λ v o. effect_step v effect.what o) line (taken shard (kind.Mark line least block a) c)
  at_once_says shard number (kind.Root line held a key) effect leads = go_on_says (λ v o. effect_step v effect.what o) line (taken shard (kind.Root line held a key) c)
  at_once_says shard number (kind.Drop line key) effect leads = go_on_says (λ v o. effect_step v effect.what o) line (taken shard (kind.Drop line key) c)
  at_once_says shard number (kind.Enter line epoch) effect leads = tell_enter_says shard line epoch number effect.what leads
  at_once_says shard number (kind.Got from epoch round total deltas) effect leads = sweep_says shard effect.removed (taken shard (kind.Got from epoch round total deltas) c)
  at_once_says shard number (kind.Base view epoch swept round frames) effect leads = says_nothing IsNoFirst (taken shard (kind.Base view epoch swept round frames) c) (taken shard (kind.Base view epoch swept round frames) c) refl
  at_once_says shard number (kind.KeptBlock born mark flags count bytes) effect leads = says_nothing IsNoFirst (taken shard (kind.KeptBlock born mark flags count bytes) c) (taken shard (kind.KeptBlock born mark flags count bytes) c) refl
  at_once_says shard number (kind.KeptRoot created dropped counted address key) effect leads = says_nothing IsNoFirst (taken shard (kind.KeptRoot created dropped counted address key) c) (taken shard (kind.KeptRoot created dropped counted address key) c) refl
  at_once_says shard number (kind.KeptRound way other epoch round total deltas) effect leads = says_nothing IsNoFirst (taken shard (kind.KeptRound way other epoch round total deltas) c) (taken shard (kind.KeptRound way other epoch round total deltas) c) refl

  effect_first : (shard number : ℕ) (entry : Entry) → committed (group_of shard c) ≡ Some (number, entry) → NoneFirst c → NoneFirst (told_at_once shard entry c)
  effect_first shard number entry leads none = tells_on (taken shard entry c) (told_at_once shard entry c) (at_once_says shard number entry (done_by shard entry c).effect leads) none

-- ---- every single change keeps it

record Asked (name : List ℕ → Address) (c : Core) : Type 0 where
  orderly : IsOrderly name c
  own : NoneOwn c
  none : NoneFirst c

abbrev MayAsk : (List ℕ → Address) → ℕ → Op → Core → Type 0
MayAsk name line o c = IsNewLine name c line o

module _ (name : List ℕ → Address) where
  counted : (c : Core) → IsOrderly name c → AreCounted c
  counted c orderly line w at = let its = orderly.pending line w at in let is = its.of_line in let one = its.counted in omega (arith, is, one)

  new_beside : (line : ℕ) (o : Op) (a b : Core) → IsBeside a b → IsNewLine name a line o → IsNewLine name b line o
  new_beside line o a b beside its = record {
    new = ap (λ (es : List (ℕ × Waiting)). lookup (is_at (nat_cmp line)) es) beside.operations ∙ its.new;
    counted = its.counted;
    called = subst (λ (seats : Seats). IsCalled name seats o) (sym beside.sessions) its.called;
  }

  -- an Enter is due in another shard than the first
  due_elsewhere : (shard : ℕ) (c : Core) → is_enter_due shard c ≡ true → shard ≡ 0 → ⊥
  due_elsewhere zero c due e = absurd (cc due)
  due_elsewhere (suc n) c due e = omega (arith, e)

  asks : Walks (MayAsk name) (λ number bytes w c. Unit {0}) (λ line. Unit {0}) (λ c. Asked name c)
  asks = record {
    once = λ c q. q.orderly.once;
    line_beside = new_beside;
    tell_beside = λ number bytes w a b beside may. tt;
    beside = λ a b beside q. record {
      orderly = orderly_beside name a q.orderly b beside;
      own = own_same a b (beside.waiting 0) q.own;
      none = subst (λ (es : List JournalEntry). AllByRecursion IsNoFirst es) (sym beside.told) q.none;
    };
    downed = λ peer line c q. record {
      orderly = orderly_downed name c q.orderly peer line;
      own = q.own;
      none = tells_on c (note who.Store deed.Nothing (reply.Down peer line) c) (says_note IsNoFirst who.Store deed.Nothing (reply.Down peer line) c (λ epoch is did. cc is)) q.none;
    };
    refused = λ line refusal c may q. record {
      orderly = orderly_refused name c q.orderly line refusal;
      own = q.own;
      none = tells_on c (refuse line refusal c) (says_note IsNoFirst (who.Line line) deed.Nothing refusal c (λ epoch is did. cc is)) q.none;
    };
    line = λ line o c may q. record {
      orderly = orderly_line name c q.orderly line o may;
      own = own_begin line o c may.counted q.own;
      none = tells_on c (begin_line line o c) (line_says line o c) q.none;
    };
    goes = λ line c idle q. record {
      orderly = orderly_goes name c q.orderly line idle;
      own = own_go_on go_step going_asks line c (counted c q.orderly) q.own;
      none = tells_on c (resume line c) (go_on_says go_step line c) q.none;
    };
    told = λ line number bytes w c at waits may q. record {
      orderly = orderly_told name c q.orderly line number bytes w at waits;
      own = own_go_on (λ v o. bytes_step v bytes (pointers_for w.shard w.operation.op c) o) (telling_asks bytes (pointers_for w.shard w.operation.op c)) line c (counted c q.orderly) q.own;
      none = tells_on c (go_on_with (λ v o. bytes_step v bytes (pointers_for w.shard w.operation.op c) o) line c) (go_on_says (λ v o. bytes_step v bytes (pointers_for w.shard w.operation.op c) o) line c) q.none;
    };
    effect = λ shard number entry c low leads few q. record {
      orderly = orderly_effect name c q.orderly shard number entry leads;
      own = own_effect shard entry c (counted c q.orderly) q.own;
      none = effect_first name c q.orderly q.own shard number entry leads q.none;
    };
    due = λ shard c low due q. record {
      orderly = orderly_due name c q.orderly shard;
      own = own_propose shard (kind.Enter 0 ((catalogue_of shard c).epoch + 1)) c (λ zero_is. absurd (due_elsewhere shard c due zero_is)) q.own;
      none = subst (λ (es : List JournalEntry). AllByRecursion IsNoFirst es) (sym (proposed_told shard (kind.Enter 0 ((catalogue_of shard c).epoch + 1)) c)) q.none;
    };
    round = λ number from to epoch round total deltas c low at new q. record {
      orderly = orderly_round name c q.orderly number from to epoch round total deltas;
      own = own_propose to (kind.Got from epoch round total deltas) (change_pool (without number) c) (λ zero_is n is. cc is) q.own;
      none = subst (λ (es : List JournalEntry). AllByRecursion IsNoFirst es) (sym (proposed_told to (kind.Got from epoch round total deltas) (change_pool (without number) c))) q.none;
    };
    again = λ back shard c q. record {
      orderly = orderly_again name c q.orderly back shard;
      own = own_again back shard c q.own;
      none = subst (λ (es : List JournalEntry). AllByRecursion IsNoFirst es) (sym (again_told back shard c)) q.none;
    };
  }
    where
      own_again : (back shard : ℕ) (c : Core) → NoneOwn c → NoneOwn (send_round back shard c)
      own_again back shard c its = own_same c (send_round back shard c) ((again_alike back shard c).waiting 0) its

-- ---- a view begins

view_own : (shard : ℕ) (c : Core) → NoneOwn c → NoneOwn (begin_view shard c)
view_own shard c its place epoch at =
    each_viewed shard c (λ k n x. k ≡ 0 → (e : ℕ) → x ≡ kind.Enter 0 e → ⊥) (λ zero_is e is. cc is)
    (λ k p x there zero_is e is. its p e (subst (λ (j : ℕ). slice_get (group_of j c).waiting p ≡ Some (kind.Enter 0 e)) zero_is (there ∙ ap (λ (y : Entry). Some y) is)))
    0 place (kind.Enter 0 epoch) at refl epoch refl

views_told : (shard : ℕ) (c : Core) → NoneFirst c → NoneFirst (begin_view shard c)
views_told shard c none = subst (λ (es : List JournalEntry). AllByRecursion IsNoFirst es) (sym (view_told shard c)) none

views_ask : (name : List ℕ → Address) (shape : Shape) → WalksViews shape (λ c. Asked name c)
views_ask name shape = λ shard c same low more q. record { orderly = view_began name shard c q.orderly; own = view_own shard c q.own; none = views_told shard c q.none }

-- ---- as a core opens

record Opened (c : Core) : Type 0 where
  own : NoneOwn c
  none : NoneFirst c

keeps_opened : KeepsFirst Opened
keeps_opened = record {
  beside = λ a b beside q. record {
    own = own_same a b (beside.waiting 0) q.own;
    none = subst (λ (es : List JournalEntry). AllByRecursion IsNoFirst es) (sym beside.told) q.none;
  };
  downed = λ peer c q. record {
    own = q.own;
    none = tells_on c (note who.Store deed.Nothing (reply.Down peer 0) c) (says_note IsNoFirst who.Store deed.Nothing (reply.Down peer 0) c (λ epoch is did. cc is)) q.none;
  };
  views = λ shard c low none q. record { own = view_own shard c q.own; none = views_told shard c q.none };
}

module _ (name : List ℕ → Address) (shape : Shape) (limits : Limits) (taken : Taken) (moment : ℕ) where
  new_own : NoneOwn (new_core shape limits taken moment)
  new_own place epoch at = nothing place (sym (ap (λ (es : List Entry). slice_get es place) (none_wait name shape taken _ 0 _ refl)) ∙ at)
    where
      nothing : (k : ℕ) → slice_get [] k ≡ Some (kind.Enter 0 epoch) → ⊥
      nothing zero e = cc e
      nothing (suc k) e = cc e

  opened_first : Opened (open_core shape limits taken moment)
  opened_first = first_held Opened keeps_opened shape limits taken moment (record { own = new_own; none = tt })

-- ---- along events, for any number of copies

ask_report : (peer : ℕ) (d : Done) (c : Core) → MayReport (λ number bytes w x. Unit {0}) peer d c
ask_report peer (done.Bytes number bytes) c = λ w r. tt
ask_report peer (done.Gone number) c = λ w r. tt
ask_report peer (done.Stored number) c = tt
ask_report peer (done.Sealed number) c = tt
ask_report peer done.Emptied c = tt
ask_report peer (done.Copied number) c = tt
ask_report peer (done.Stepped switched) c = tt
ask_report peer (done.Failed disk) c = tt

ask_begin : (name : List ℕ → Address) (e : Event) (c : Core) → MayBegin name e c → MayEvent (MayAsk name) (λ number bytes w x. Unit {0}) (λ line. Unit {0}) e c
ask_begin name (event.Line line o) c may = may
ask_begin name (event.Report peer d) c may = ask_report peer d c
ask_begin name (event.Turn line peer) c may = tt
ask_begin name (event.Deliver line number) c may = tt
ask_begin name (event.Lose line number) c may = tt
ask_begin name (event.Repeat line number) c may = tt
ask_begin name (event.Nudge line peer) c may = tt
ask_begin name (event.Fail line peer) c may = tt
ask_begin name (event.Start line peer) c may = tt

module _ (name : List ℕ → Address) (shape : Shape) (limits : Limits) (taken : Taken) (moment : ℕ) where
  abbrev opened : Core
  opened = open_core shape limits taken moment

  turn : IsInTurn (λ n. None) (open_core shape limits taken moment)
  turn = opened_turn (λ n. None) shape limits taken moment refl

  all_asked : (es : Events) → AllComeOn (MayBegin name) opened es → NoneFirst (steps opened es)
  all_asked es may = go opened.ended refl
    where
      first : Opened (open_core shape limits taken moment)
      first = opened_first name shape limits taken moment

      go : (o : Option CoreFault) → opened.ended ≡ o → NoneFirst (steps opened es)
      go (Some fault) over = subst (λ (x : Core). NoneFirst x) (sym (steps_ended opened es fault over)) first.none
      go None going =
          let last : Asked name (steps opened es) =
          along_events (MayBegin name) (λ c. Asked name c) (λ e at c on none quiet comes q. copies_step (asks name) c (views_ask name (shape_of c)) e at on comes.seated comes.known comes.room none (ask_begin name e c comes.may) q)
          es opened (turn.going going) turn.told may (record { orderly = open_orderly name shape limits taken moment; own = first.own; none = first.none }) in
          last.none

  pub copies_told : (es : Events) → AllComeOn (MayBegin name) (open_core shape limits taken moment) es → AllByRecursion IsNoFirst (told_of (steps (open_core shape limits taken moment) es))
  copies_told es may =
      let last : Core = steps opened es in
      all_front IsNoFirst (told_of last) last.entries (all_asked es may)

-- of a run the journal, and what found it full
pub run_told : FoldsInMemory → (start : Start) (found : Found) (es : Events) → RunBegins start found → AllMayKeep start (MayRun start) (first_core start.set found) es → AllByRecursion IsNoFirst (told_of (steps (first_core start.set found) es))
run_told memory start found es b may =
    copies_told start.set.name start.set.shape start.set.limits (opens_with start.set found) found.opened es
    (begins_on (judging_of start) start.entry (first_core start.set found) es (come start found b memory es may))
