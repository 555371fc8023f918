-- Each single change of a core leaves each Round and each Got as sent.
use Rattle.std.proofs.Common.{◌≡◌, ◌∙◌, sym, ap, subst, ◌⊎◌, inl, inr, ℕ, zero, suc, ◌<◌, ◌==◌, ◌&&◌, Bool, true, false, cond, not, List, [], ◌∷◌, ◌++◌, IfSome, Contains, length, Option, Some, None, is_none, is_some, refl, slice_get}
use Rattle.std.proofs.lemmas.Bool.{and_from, and_parts, eq-eqb, lt-ltb, or_parts}
use Rattle.std.proofs.lemmas.List.Elements.{All-contains, All-nil, All-weaker}
use Rattle.std.proofs.lemmas.Map.Views.{All-map-remove_entry, IfSome-lookup_from_All}
use Rattle.std.specs.BTreeMap.{is_at}
use Rattle.std.specs.List.{list_all, list_any}
use Rattle.std.specs.Map.{values_of}
use Rattle.std.specs.Ordering.{nat_cmp}
use Rattle.std.specs.Prelude.{nat_le}
use Rattle.hs_answered.specs.Standing.{IsFolded}
use Rattle.hs_standing.specs.Changes.{IsBeside, tells_at_once, told_at_once}
use Rattle.hs_awaiting.specs.declared.wait.Wait.TheVariants as wait
use Rattle.hs_awaiting.specs.declared.waiting.Waiting.{Waiting}
use Rattle.hs_awaiting.specs.Words.{change_if, change_with}
use Rattle.hs_core_words.specs.Asking.{send_round}
use Rattle.hs_core_words.specs.Changing.{add_operation, change_group, change_pool, note, post, refuse, set_viewed}
use Rattle.hs_core_words.specs.Delivering.{is_new_round}
use Rattle.hs_core_words.specs.Effects.{note_enter, note_sweep, round_messages, tell_enter, tell_operation}
use Rattle.hs_core_words.specs.Looking.{catalogue_of, group_of, operation_of, shape_of}
use Rattle.hs_core_words.specs.Opening.{Taken, new_core}
use Rattle.hs_core_words.specs.Operating.{begin_line, busy_line, go_on_with, propose_entry, resume, take_step}
use Rattle.hs_core_words.specs.Seeing.{view_for}
use Rattle.hs_core_words.specs.State.{Core}
use Rattle.hs_core_words.specs.Views.{begin_view, restart}
use Rattle.hs_desk.specs.declared.what.What.{What}
use Rattle.hs_desk.specs.declared.what.What.TheVariants as what
use Rattle.hs_effects.specs.Lawful.{IsLawful}
use Rattle.hs_effects.specs.Logged.{IsCalled, IsOrderly}
use Rattle.hs_effects.specs.Taking.{done_by, next_deed, setting_of, taken}
use Rattle.hs_effects.proofs.EventLemmas.{none_wait}
use Rattle.hs_effects.proofs.GroupLemmas.{group_changed}
use Rattle.hs_effects.proofs.LawfulLemmas.{set_same}
use Rattle.hs_effects.proofs.QuietLemmas.{Quiet, both, carried_quiet, going_quiet, proposed_quiet, sweep_quiet, told_enter_quiet, told_quiet, with_quiet}
use Rattle.hs_effects.proofs.StepLemmas.{done_asks, going_asks, told_asks}
use Rattle.hs_effects.proofs.ViewLemmas.{at_cut}
use Rattle.hs_entry.specs.declared.entry.Entry.{Entry}
use Rattle.hs_entry.specs.declared.entry.Entry.TheVariants as kind
use Rattle.hs_events.specs.Alone.{is_round}
use Rattle.hs_fold.specs.Lawful.{Deed}
use Rattle.hs_fold.specs.Runs.Facts.{Catalogue as Folded}
use Rattle.hs_fold.specs.Runs.Fits.{HasSent, catalogue_at}
use Rattle.hs_fold.specs.Runs.History.{follow_all, no_entries}
use Rattle.hs_fold.specs.Runs.Rounds.{is_accepted}
use Rattle.hs_fold.specs.Runs.Rounds as fold
use Rattle.hs_fold.specs.Shards.Setting.{Setting}
use Rattle.hs_journal.specs.declared.entry.Who.TheVariants as who
use Rattle.hs_limits.specs.declared.address.Address.{Address}
use Rattle.hs_limits.specs.declared.delta.Delta.{Delta}
use Rattle.hs_limits.specs.declared.limits.Limits.{Limits}
use Rattle.hs_limits.specs.declared.shape.Shape.{Shape}
use Rattle.hs_members.specs.Members.{view_of}
use Rattle.hs_memory.specs.Forget.{forget}
use Rattle.hs_model.proofs.Members.{Member, member_of_map}
use Rattle.hs_model.specs.declared.deed.Deed.TheVariants as deed
use Rattle.hs_model.specs.declared.op.Op.{Op}
use Rattle.hs_model.specs.declared.reply.Reply.{Reply}
use Rattle.hs_model.specs.declared.reply.Reply.TheVariants as reply
use Rattle.hs_ops.specs.Operations.{after_step, bytes_step, effect_step, go_step, new_operation}
use Rattle.hs_ops.specs.Speaking.{judging_shard}
use Rattle.hs_ops.specs.Views.{OpView}
use Rattle.hs_post.specs.declared.message.Message.{Message}
use Rattle.hs_post.specs.declared.message.Message.TheVariants as message
use Rattle.hs_post.specs.Pool.{message_at, without}
use Rattle.hs_replica.specs.declared.replica.Replica.{Replica}
use Rattle.hs_replica.specs.Group.{Group, committed, copies_above, entries_above, others, renew, renewal}
use Rattle.hs_replica.specs.Kinds.{is_got}
use Rattle.hs_rounds.specs.declared.body.RoundBody.{RoundBody}
use Rattle.hs_rounds.specs.declared.place.Place.{Place}
use Rattle.hs_rounds.specs.Rounds.{body, body_at, sent_back}
use Rattle.hs_shard.specs.declared.effect.Effect.{Effect}
use Rattle.hs_shard.specs.declared.effect.Sent.{Sent}
use Rattle.hs_shard.specs.Facts.{Catalogue}
use Rattle.hs_shard.specs.Rounds.{is_due, messages}
use Rattle.hs_standing.specs.Sent.{AreSent, HasGot, IsOfSent, WasSent, got_of}
use Rattle.hs_standing.proofs.AcceptLemmas.{accepted_by}
use Rattle.hs_standing.proofs.CarryLemmas.{AreCalled, are_called, carried_sent, going_sent, no_got, no_got_sent, posted_sent, proposed_sent}
use Rattle.hs_standing.proofs.MemoryLemmas.{memory_of}
use Rattle.hs_standing.proofs.PoolLemmas.{of_all, of_each}
use Rattle.hs_standing.proofs.SendLemmas.{due_alike, messages_kept}
use Rattle.hs_standing.proofs.SentTakenLemmas.{sent_behind}
use Rattle.hs_standing.proofs.WasLemmas.{is_now, sender_low}

-- ---- what a core is set up with

setting : (List ℕ → Address) → Limits → Shape → Setting
setting name limits shape = record { name = name; limits = limits; shape = shape }

pub set_on : (name : List ℕ → Address) (a b : Core) → b.limits ≡ a.limits → shape_of b ≡ shape_of a → setting_of name b ≡ setting_of name a
unfolding setting
set_on name a b limits shape = ap (λ (x : Limits). setting name x (shape_of b)) limits ∙ ap (λ (x : Shape). setting name a.limits x) shape

-- where none of a list passes, no place has one that does
none_any : {X : Type 0} (test : X → Bool) (xs : List X) (at : ℕ) (x : X) → list_any test xs ≡ false → slice_get xs at ≡ Some x → test x ≡ false
none_any test [] zero x e f = absurd (cc f)
none_any test [] (suc at) x e f = absurd (cc f)
none_any test (y ∷ ys) zero x e f = let is : y ≡ x = cc f in ap test (sym is) ∙ (or_parts (test y) (list_any test ys) e).0
none_any test (y ∷ ys) (suc at) x e f = none_any test ys at x (or_parts (test y) (list_any test ys) e).1 f

-- where nothing that it is set up with changes
on_quiet : (name : List ℕ → Address) (history : List Deed) (a b : Core) → Quiet a b → AreSent (setting_of name a) history b → AreSent (setting_of name b) history b
on_quiet name history a b q s = subst (λ (set : Setting). AreSent set history b) (sym (set_same name a b q)) s

module _ (name : List ℕ → Address) (history : List Deed) where
  -- ---- beside

  pub sent_beside : (a b : Core) → AreSent (setting_of name a) history a → IsBeside a b → AreSent (setting_of name b) history b
  sent_beside a b s same = subst (λ (set : Setting). AreSent set history b) (sym (set_on name a b same.limits same.shape)) there
    where
      set : Setting
      set = setting_of name a

      was : (g at : ℕ) (place : Place) (told : RoundBody) → HasGot b g at place told → HasGot a g at place told
      was g at place told h = sym (ap (λ es. slice_get es at) (same.waiting g)) ∙ h

      of_sent : (m : Message) → (is_round m ≡ true → Contains (values_of a.pool.messages) m) → IsOfSent (setting_of name a) history m
      of_sent (message.Copy g to view k e) h = tt
      of_sent (message.Have g from to view sealed) h = tt
      of_sent (message.Round from to epoch round total deltas) h = All-contains (IsOfSent (setting_of name a) history) (values_of a.pool.messages) (message.Round from to epoch round total deltas) s.messages (h refl)

      there : AreSent (setting_of name a) history b
      there = record {
        messages = All-weaker (λ (m : Message). is_round m ≡ true → Contains (values_of a.pool.messages) m) (IsOfSent (setting_of name a) history) of_sent (values_of b.pool.messages) same.rounds;
        gots = λ g at place told h. s.gots g at place told (was g at place told h);
        due = λ g at place told cs gives h. s.due g at place told cs gives (was g at place told h);
        once = λ g p q place told other x y. s.once g p q place told other (was g p place told x) (was g q place other y);
      }

  -- ---- what is noted

  pub sent_downed : (c : Core) → AreSent (setting_of name c) history c → (peer line : ℕ) → AreSent (setting_of name (note who.Store deed.Nothing (reply.Down peer line) c)) history (note who.Store deed.Nothing (reply.Down peer line) c)
  sent_downed c s peer line = record { messages = s.messages; gots = s.gots; due = s.due; once = s.once }

  pub sent_refused : (c : Core) → AreSent (setting_of name c) history c → (line : ℕ) (refusal : Reply) → AreSent (setting_of name (refuse line refusal c)) history (refuse line refusal c)
  sent_refused c s line refusal = record { messages = s.messages; gots = s.gots; due = s.due; once = s.once }

  -- ---- operations

  pub sent_line : (c : Core) → AreSent (setting_of name c) history c → (line : ℕ) (o : Op) → IsCalled name c.sessions o → AreSent (setting_of name (begin_line line o c)) history (begin_line line o c)
  sent_line c s line o called = on_quiet name history c (begin_line line o c) quiet there
    where
      begun : Core
      begun = record c { progress = record c.progress { last_line = line } }

      w : Waiting
      w = record { operation = new_operation line o; shard = judging_shard (shape_of c).shards c.sessions o; wait = wait.View }

      v : OpView
      v = record (view_for (judging_shard (shape_of c).shards c.sessions o) o begun) { busy = busy_line o c }

      with_it : Core
      with_it = add_operation line w begun

      quiet : Quiet c (take_step line w (go_step v w.operation) with_it)
      quiet = both c with_it (take_step line w (go_step v w.operation) with_it) (record { catalogues = refl; members = refl; limits = refl; moment = refl })
          (carried_quiet line (record w { operation = after_step (go_step v w.operation) w.operation }) (go_step v w.operation) with_it)

      here : AreSent (setting_of name c) history with_it
      here = record { messages = s.messages; gots = s.gots; due = s.due; once = s.once }

      there : AreSent (setting_of name c) history (take_step line w (go_step v w.operation) with_it)
      there = carried_sent (setting_of name c) history line (record w { operation = after_step (go_step v w.operation) w.operation }) (go_step v w.operation) with_it
          (λ entry e. no_got name c.sessions line o entry (going_asks name v w.operation called entry e).0) here

  pub sent_goes : (c : Core) → IsOrderly name c → AreSent (setting_of name c) history c → (line : ℕ) → AreSent (setting_of name (resume line c)) history (resume line c)
  sent_goes c order s line = on_quiet name history c (resume line c) (going_quiet go_step line c) (going_sent (setting_of name c) history go_step going_asks name line c (are_called name c order) s)

  pub sent_told : (c : Core) → IsOrderly name c → AreSent (setting_of name c) history c → (line : ℕ) (bytes : Option (List ℕ)) (pointers : List Address)
      → AreSent (setting_of name (go_on_with (λ v o. bytes_step v bytes pointers o) line c)) history (go_on_with (λ v o. bytes_step v bytes pointers o) line c)
  sent_told c order s line bytes pointers =
      on_quiet name history c (go_on_with (λ v o. bytes_step v bytes pointers o) line c) (going_quiet (λ v o. bytes_step v bytes pointers o) line c)
      (going_sent (setting_of name c) history (λ v o. bytes_step v bytes pointers o) (told_asks bytes pointers) name line c (are_called name c order) s)

  -- ---- an Enter that is due

  pub sent_due : (c : Core) → AreSent (setting_of name c) history c → (shard epoch : ℕ) → AreSent (setting_of name (propose_entry shard (kind.Enter 0 epoch) c)) history (propose_entry shard (kind.Enter 0 epoch) c)
  sent_due c s shard epoch =
      on_quiet name history c (propose_entry shard (kind.Enter 0 epoch) c) (proposed_quiet shard (kind.Enter 0 epoch) c)
      (no_got_sent (setting_of name c) history shard (kind.Enter 0 epoch) c (λ place told e. cc e) s)

  -- ---- a first view

  of_view : (set : Setting) (group : Group) (m : Message) → Member m (renewal group) → IsOfSent set history m
  of_view set group m k =
      of_all (IsOfSent set history) (λ (x : ℕ × Replica). copies_above x.0 (length x.1.stamps) group)
      (λ x y j. of_each (IsOfSent set history) (λ (e : ℕ × Entry). message.Copy group.shard x.0 group.view e.0 e.1) (λ e. tt) (entries_above (length x.1.stamps) group) y j) (others group) m k

  renewed : (set : Setting) (shard : ℕ) (c : Core) → AreSent set history c → AreSent set history (change_group shard (renew c.members) c)
  renewed set shard c s = record {
    messages = s.messages;
    gots = λ g at place told h. s.gots g at place told (was g at (got_of place told) h);
    due = λ g at place told cs gives h. s.due g at place told cs gives (was g at (got_of place told) h);
    once = λ g p q place told other x y. s.once g p q place told other (was g p (got_of place told) x) (was g q (got_of place other) y);
  }
    where
      was : (g at : ℕ) (e : Entry) → slice_get (group_of g (change_group shard (renew c.members) c)).waiting at ≡ Some e → slice_get (group_of g c).waiting at ≡ Some e
      was g at e h = by (group_changed shard (renew c.members) c g)
        where
          by : (group_of g (change_group shard (renew c.members) c) ≡ group_of g c) ⊎ ((g ≡ shard) × (group_of g (change_group shard (renew c.members) c) ≡ renew c.members (group_of shard c))) → slice_get (group_of g c).waiting at ≡ Some e
          by (inl same) = sym (ap (λ (x : Group). slice_get x.waiting at) same) ∙ h
          by (inr is) =
              let cut : slice_get (renew c.members (group_of shard c)).waiting at ≡ Some e = sym (ap (λ (x : Group). slice_get x.waiting at) is.1) ∙ h in
              subst (λ j. slice_get (group_of j c).waiting at ≡ Some e) (sym is.0) (at_cut _ (group_of shard c).waiting at e cut)

  pub sent_opens : (c : Core) → AreSent (setting_of name c) history c → (shard : ℕ) → AreSent (setting_of name (begin_view shard c)) history (begin_view shard c)
  sent_opens c s shard = on_quiet name history c (begin_view shard c) quiet there
    where
      viewed : Core
      viewed = set_viewed shard false c

      cut : Core
      cut = restart shard (change_group shard (renew c.members) viewed)

      told : Core
      told = post (renewal (group_of shard cut)) cut

      quiet : Quiet c (propose_entry shard (kind.View (view_of shard c.members)) told)
      quiet = both c told (propose_entry shard (kind.View (view_of shard c.members)) told) (record { catalogues = refl; members = refl; limits = refl; moment = refl }) (proposed_quiet shard (kind.View (view_of shard c.members)) told)

      here : AreSent (setting_of name c) history viewed
      here = record { messages = s.messages; gots = s.gots; due = s.due; once = s.once }

      changed : AreSent (setting_of name c) history (change_group shard (renew c.members) viewed)
      changed = renewed (setting_of name c) shard viewed here

      again : AreSent (setting_of name c) history cut
      again = record { messages = changed.messages; gots = changed.gots; due = changed.due; once = changed.once }

      there : AreSent (setting_of name c) history (propose_entry shard (kind.View (view_of shard c.members)) told)
      there = no_got_sent (setting_of name c) history shard (kind.View (view_of shard c.members)) told (λ place body e. cc e)
          (posted_sent (setting_of name c) history (renewal (group_of shard cut)) cut (λ m k. of_view (setting_of name c) (group_of shard cut) m k) again)

  -- ---- as the core opens

  pub sent_new : (shape : Shape) (limits : Limits) (found : Taken) (moment : ℕ) → AreSent (setting_of name (new_core shape limits found moment)) history (new_core shape limits found moment)
  sent_new shape limits found moment = record {
    messages = All-nil (IsOfSent (setting_of name (new_core shape limits found moment)) history);
    gots = λ g at place told h. absurd (never g at (got_of place told) h);
    due = λ g at place told cs gives h. absurd (never g at (got_of place told) h);
    once = λ g p q place told other x y. absurd (never g p (got_of place told) x);
  }
    where
      nothing : (at : ℕ) (e : Entry) → slice_get [] at ≡ Some e → ⊥
      nothing zero e f = cc f
      nothing (suc at) e f = cc f

      never : (g at : ℕ) (e : Entry) → slice_get (group_of g (new_core shape limits found moment)).waiting at ≡ Some e → ⊥
      never g at e h = nothing at e (sym (ap (λ es. slice_get es at) (none_wait name shape found _ g _ refl)) ∙ h)

-- ---- an entry takes effect

module _ (name : List ℕ → Address) (set : Setting) (history : List Deed) (shard : ℕ) (core : Core) (called : AreCalled name core) (s : AreSent set history core) where
  tells_operation : (line : ℕ) (did : What) → AreSent set history (tell_operation line did core)
  tells_operation line did = going_sent set history (λ v o. effect_step v did o) (done_asks did) name line core called s

  notes_enter : (did : What) → AreSent set history (note_enter shard did core)
  notes_enter what.Nothing = s
  notes_enter (what.Viewed view) = s
  notes_enter what.Stored = s
  notes_enter what.Marked = s
  notes_enter what.Again = s
  notes_enter what.Rooted = s
  notes_enter what.Dropped = s
  notes_enter (what.Entered epoch) = record { messages = s.messages; gots = s.gots; due = s.due; once = s.once }
  notes_enter what.Refused = s

  tells_enter : (line : ℕ) (did : What) → AreSent set history (tell_enter shard line did core)
  tells_enter line did = go (operation_of line core)
    where
      go : (o : Option Waiting) → AreSent set history (cond (is_some o) (tell_operation line did core) (note_enter shard did core))
      go None = notes_enter did
      go (Some w) = tells_operation line did

  notes_sweep : (removed : ℕ) → AreSent set history (note_sweep shard removed core)
  notes_sweep removed = go (list_all (λ (c : Catalogue). nat_le (catalogue_of shard core).swept c.swept) core.catalogues)
    where
      go : (b : Bool) → AreSent set history (change_if b (note who.Store deed.Nothing (reply.Done (catalogue_of shard core).swept)) (note (who.Shard shard) (deed.Swept shard) (reply.Sweep (catalogue_of shard core).swept removed) core))
      go true = record { messages = s.messages; gots = s.gots; due = s.due; once = s.once }
      go false = record { messages = s.messages; gots = s.gots; due = s.due; once = s.once }

  swept_or_not : (removed : Option ℕ) → AreSent set history (change_with removed (note_sweep shard) core)
  swept_or_not None = s
  swept_or_not (Some n) = notes_sweep n

  tells_sent : (entry : Entry) (effect : Effect) → AreSent set history (tells_at_once shard entry effect core)
  tells_sent (kind.View view) effect = s
  tells_sent (kind.Block line least bytes) effect = tells_operation line effect.what
  tells_sent (kind.Mark line least block a) effect = tells_operation line effect.what
  tells_sent (kind.Root line held a key) effect = tells_operation line effect.what
  tells_sent (kind.Drop line key) effect = tells_operation line effect.what
  tells_sent (kind.Enter line epoch) effect = tells_enter line effect.what
  tells_sent (kind.Got from epoch round total deltas) effect = swept_or_not effect.removed
  tells_sent (kind.Base view epoch swept round frames) effect = s
  tells_sent (kind.KeptBlock born mark flags count bytes) effect = s
  tells_sent (kind.KeptRoot created dropped counted address key) effect = s
  tells_sent (kind.KeptRound way other epoch round total deltas) effect = s

tells_quiet : (shard : ℕ) (entry : Entry) (effect : Effect) (core : Core) → Quiet core (tells_at_once shard entry effect core)
tells_quiet shard (kind.View view) effect core = record { catalogues = refl; members = refl; limits = refl; moment = refl }
tells_quiet shard (kind.Block line least bytes) effect core = told_quiet line effect.what core
tells_quiet shard (kind.Mark line least block a) effect core = told_quiet line effect.what core
tells_quiet shard (kind.Root line held a key) effect core = told_quiet line effect.what core
tells_quiet shard (kind.Drop line key) effect core = told_quiet line effect.what core
tells_quiet shard (kind.Enter line epoch) effect core = told_enter_quiet shard line effect.what core
tells_quiet shard (kind.Got from epoch round total deltas) effect core = with_quiet effect.removed (note_sweep shard) core (λ removed x. sweep_quiet shard removed x)
tells_quiet shard (kind.Base view epoch swept round frames) effect core = record { catalogues = refl; members = refl; limits = refl; moment = refl }
tells_quiet shard (kind.KeptBlock born mark flags count bytes) effect core = record { catalogues = refl; members = refl; limits = refl; moment = refl }
tells_quiet shard (kind.KeptRoot created dropped counted address key) effect core = record { catalogues = refl; members = refl; limits = refl; moment = refl }
tells_quiet shard (kind.KeptRound way other epoch round total deltas) effect core = record { catalogues = refl; members = refl; limits = refl; moment = refl }

-- ---- with the folds

module _ (name : List ℕ → Address) (cs : List Folded) (core : Core) (lawful : IsLawful name core cs) (s : AreSent (setting_of name core) lawful.lawful.history core) where
  abbrev set : Setting
  set = setting_of name core

  abbrev history : List Deed
  history = lawful.lawful.history

  abbrev folds : List Folded
  folds = follow_all (setting_of name core) (no_entries (setting_of name core)) lawful.lawful.history

  pub sent_effect : IsOrderly name core → (shard number : ℕ) (entry : Entry) → shard < (shape_of core).shards → committed (group_of shard core) ≡ Some (number, entry)
      → AreSent (setting_of name (told_at_once shard entry core)) (history ++ next_deed shard entry core ∷ []) (told_at_once shard entry core)
  sent_effect order shard number entry low at_first =
      let here : Core = taken shard entry core in
      let effect : Effect = (done_by shard entry core).effect in
      on_quiet name (history ++ next_deed shard entry core ∷ []) here (told_at_once shard entry core) (tells_quiet shard entry effect here)
      (tells_sent name set (history ++ next_deed shard entry core ∷ []) shard here (are_called name core order) (sent_behind name cs core lawful s shard number entry low at_first) entry effect)

  -- ---- a round is sent again

  folds_at : (shard : ℕ) → catalogue_of shard core ≡ forget (shape_of core) shard (catalogue_at folds shard)
  folds_at shard = memory_of name folds core (subst (λ (x : List Folded). IsFolded core x) (sym lawful.lawful.gives) lawful.folded) shard

  long : length folds ≡ (shape_of core).shards
  long = ap (λ (x : List Folded). length x) lawful.lawful.gives ∙ lawful.folded.shards

  again_sent : (shard epoch round : ℕ) (m : Message) → Member m (round_messages shard (messages (catalogue_of shard core).shape.shards epoch round (catalogue_of shard core).run)) → IsOfSent set history m
  again_sent shard epoch round m k =
      let r = member_of_map (λ (x : Sent). message.Round shard x.to x.epoch x.round x.body.total x.body.deltas) m (messages (catalogue_of shard core).shape.shards epoch round (catalogue_of shard core).run) k in
      let x : Sent = r.0 in
      let here : HasSent (catalogue_at folds shard).sent x.to x.epoch x.round x.body =
      subst (λ (c : Catalogue). HasSent c.run.sent x.to x.epoch x.round x.body) (folds_at shard) (messages_kept (catalogue_of shard core).shape.shards epoch round (catalogue_of shard core).run x r.1) in
      let low : shard < (shape_of core).shards = subst (λ n. shard < n) long (sender_low folds shard x.to x.epoch x.round x.body here) in
      subst (λ (y : Message). IsOfSent set history y) (sym r.2) (is_now set history x.to (record { epoch = x.epoch; round = x.round; from = shard }) x.body low here)

  pub sent_again : (back shard : ℕ) → AreSent (setting_of name (send_round back shard core)) history (send_round back shard core)
  sent_again back shard = go (sent_back back (catalogue_of shard core).run)
    where
      go : (o : Option (ℕ × ℕ)) → AreSent (setting_of name (change_with o (λ at. post (round_messages shard (messages (catalogue_of shard core).shape.shards at.0 at.1 (catalogue_of shard core).run))) core)) history
          (change_with o (λ at. post (round_messages shard (messages (catalogue_of shard core).shape.shards at.0 at.1 (catalogue_of shard core).run))) core)
      go None = s
      go (Some at) = posted_sent set history (round_messages shard (messages (catalogue_of shard core).shape.shards at.0 at.1 (catalogue_of shard core).run)) core (λ m k. again_sent shard at.0 at.1 m k) s

  -- ---- a new Round is proposed as a Got

  lost : (number : ℕ) → AreSent set history (change_pool (without number) core)
  lost number = record { messages = All-map-remove_entry (is_at (nat_cmp number)) (λ (e : ℕ × Message). e.1) (IsOfSent set history) core.pool.messages s.messages; gots = s.gots; due = s.due; once = s.once }

  under_way : (number from to epoch round total : ℕ) (deltas : List Delta) → message_at number core.pool ≡ Some (message.Round from to epoch round total deltas)
      → WasSent set history to (record { epoch = epoch; round = round; from = from }) (record { total = total; deltas = deltas })
  under_way number from to epoch round total deltas at = subst (λ (o : Option Message). IfSome o (IsOfSent set history)) at (IfSome-lookup_from_All (IsOfSent set history) (is_at (nat_cmp number)) core.pool.messages s.messages)

  pub sent_round : (number from to epoch round total : ℕ) (deltas : List Delta) → message_at number core.pool ≡ Some (message.Round from to epoch round total deltas) → is_new_round to from epoch round (change_pool (without number) core) ≡ true
      → AreSent (setting_of name (propose_entry to (kind.Got from epoch round total deltas) (change_pool (without number) core))) history (propose_entry to (kind.Got from epoch round total deltas) (change_pool (without number) core))
  sent_round number from to epoch round total deltas at new =
      on_quiet name history left (propose_entry to (kind.Got from epoch round total deltas) left) (proposed_quiet to (kind.Got from epoch round total deltas) left)
      (proposed_sent set history to (kind.Got from epoch round total deltas) left (record { sent = was; due = accepted; new = alone }) (lost number))
    where
      left : Core
      left = change_pool (without number) core

      was : WasSent (setting_of name core) lawful.lawful.history to (record { epoch = epoch; round = round; from = from }) (record { total = total; deltas = deltas })
      was = under_way number from to epoch round total deltas at

      parts : (is_due (record { epoch = epoch; round = round; from = from }) (catalogue_of to core) ≡ true)
          × ((is_none (body from epoch round (catalogue_of to core).run) && not (list_any (is_got from epoch round) (group_of to core).waiting)) ≡ true)
      parts = and_parts (is_due (record { epoch = epoch; round = round; from = from }) (catalogue_of to core)) (is_none (body from epoch round (catalogue_of to core).run) && not (list_any (is_got from epoch round) (group_of to core).waiting)) new

      rest : (is_none (body from epoch round (catalogue_of to core).run) ≡ true) × (not (list_any (is_got from epoch round) (group_of to core).waiting) ≡ true)
      rest = and_parts (is_none (body from epoch round (catalogue_of to core).run)) (not (list_any (is_got from epoch round) (group_of to core).waiting)) parts.1

      due_here : fold.is_due (catalogue_at folds to) epoch round ≡ true
      due_here =
          sym (due_alike name (shape_of core) to (catalogue_at folds to) (record { epoch = epoch; round = round; from = from }))
          ∙ sym (ap (λ (x : Catalogue). is_due (record { epoch = epoch; round = round; from = from }) x) (folds_at to)) ∙ parts.0

      none_here : is_none (body_at (record { epoch = epoch; round = round; from = from }) (catalogue_at folds to).got) ≡ true
      none_here = sym (ap (λ (x : Catalogue). is_none (body from epoch round x.run)) (folds_at to)) ∙ rest.0

      ok : is_accepted (shape_of core).shards (catalogue_at folds to) (record { epoch = epoch; round = round; from = from }) ≡ true
      ok = accepted_by (shape_of core).shards (catalogue_at folds to) (record { epoch = epoch; round = round; from = from }) (lt-ltb from (shape_of core).shards was.of) none_here due_here

      accepted : (cs : List Folded) → follow_all (setting_of name core) (no_entries (setting_of name core)) lawful.lawful.history ≡ cs → is_accepted (shape_of core).shards (catalogue_at cs to) (record { epoch = epoch; round = round; from = from }) ≡ true
      accepted cs gives = subst (λ (x : List Folded). is_accepted (shape_of core).shards (catalogue_at x to) (record { epoch = epoch; round = round; from = from }) ≡ true) gives ok

      flipped : (b : Bool) → not b ≡ true → b ≡ false
      flipped true e = cc e
      flipped false e = refl

      itself : (other : RoundBody) → is_got from epoch round (got_of (record { epoch = epoch; round = round; from = from }) other) ≡ true
      itself other = and_from (from == from) (epoch == epoch && round == round) (eq-eqb from from refl) (and_from (epoch == epoch) (round == round) (eq-eqb epoch epoch refl) (eq-eqb round round refl))

      alone : (at : ℕ) (other : RoundBody) → HasGot (change_pool (without number) core) to at (record { epoch = epoch; round = round; from = from }) other → ⊥
      alone at other there = clash (none_any (is_got from epoch round) (group_of to core).waiting at (got_of (record { epoch = epoch; round = round; from = from }) other) (flipped (list_any (is_got from epoch round) (group_of to core).waiting) rest.1) there)
        where
          clash : is_got from epoch round (got_of (record { epoch = epoch; round = round; from = from }) other) ≡ false → ⊥
          clash e = cc (sym (itself other) ∙ e)
