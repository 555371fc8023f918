-- Every event keeps the order.
use Rattle.std.proofs.Common.{◌≡◌, ◌∙◌, sym, ap, subst, inl, count_by, ℕ, zero, suc, ◌+◌, ◌==◌, ◌&&◌, Bool, true, false, cond, not, length, map, List, [], ◌∷◌, Option, Some, None, refl, is_none, nat_lt, slice_get}
use Rattle.std.specs.BTreeMap.{is_at}
use Rattle.std.specs.Map.{lookup}
use Rattle.std.specs.Ordering.{nat_cmp}
use Rattle.std.specs.Prelude.{slice_index_or}
use Rattle.hs_anatomy.proofs.AsideLemmas.{kept_aside, kept_follow, kept_joining, kept_round}
use Rattle.hs_anatomy.proofs.EventLemmas.{acts_keep, does_acts, next_acts, opening_acts}
use Rattle.hs_anatomy.proofs.ListLemmas.{HasSameLists, lists_aside, lists_follow, lists_joining, lists_round}
use Rattle.hs_anatomy.specs.Acts.{Act, Asks, Enters, Falls, FindsDown, Gets, Goes, Hands, IsAside, Joins, NoAct, Opens, Refuses, SendsRound, TakesEffect, TellsDown, fallen, joined, without_job}
use Rattle.hs_anatomy.specs.Kept.{Kept, kept_of}
use Rattle.hs_anatomy.specs.Once.{AreOnce, IsIdle}
use Rattle.hs_awaiting.specs.declared.waiting.Waiting.{Waiting}
use Rattle.hs_awaiting.specs.Words.{change_if, each}
use Rattle.hs_core_words.specs.Changing.{change_pool, set_rejoin, set_status}
use Rattle.hs_core_words.specs.declared.event.Event.{Event}
use Rattle.hs_core_words.specs.declared.event.Event.TheVariants as event
use Rattle.hs_core_words.specs.Effects.{commit_next}
use Rattle.hs_core_words.specs.Failing.{leave}
use Rattle.hs_core_words.specs.Joining.{begin_joining, joining_peers}
use Rattle.hs_core_words.specs.Looking.{catalogue_of, home, lead_of, shape_of, status_of}
use Rattle.hs_core_words.specs.Opening.{Taken, begin_views, new_core, note_down, open_core, taken_group}
use Rattle.hs_core_words.specs.Seeing.{pointers_for}
use Rattle.hs_core_words.specs.State.{Core}
use Rattle.hs_core_words.specs.Step.{begin_event, do_event, end_event, keep_entries, line_of, refuse_entries, run_event, step}
use Rattle.hs_core_words.specs.Views.{change_view}
use Rattle.hs_model.specs.declared.op.Op.{Op}
use Rattle.hs_shard.specs.Facts.{empty_catalogue}
use Rattle.hs_effects.specs.Logged.{IsCalled, IsOrderly, MayBegin, MayBeginAll, steps}
use Rattle.hs_effects.proofs.BeginLemmas.{begun_orderly}
use Rattle.hs_effects.proofs.EffectLemmas.{effect_orderly}
use Rattle.hs_effects.proofs.GoingLemmas.{IsIdle, going_orderly, idle_free}
use Rattle.hs_effects.proofs.OrderlyLemmas.{Alike, alike_orderly, own_orderly, some_is}
use Rattle.hs_effects.proofs.StepLemmas.{going_asks, told_asks}
use Rattle.hs_effects.proofs.ViewLemmas.{view_began, view_changed}
use Rattle.hs_entry.specs.declared.entry.Entry.{Entry}
use Rattle.hs_entry.specs.declared.entry.Entry.TheVariants as kind
use Rattle.hs_limits.specs.declared.address.Address.{Address}
use Rattle.hs_limits.specs.declared.limits.Limits.{Limits}
use Rattle.hs_limits.specs.declared.shape.Shape.{Shape}
use Rattle.hs_members.specs.Members.{is_good_status}
use Rattle.hs_tokens.specs.Seats.{Seats}
use Rattle.hs_limits.specs.declared.limits.PeerStatus.TheVariants.{Good}
use Rattle.hs_ops.specs.Operations.{bytes_step, go_step}
use Rattle.hs_post.specs.Pool.{is_empty, restart_numbers, without}
use Rattle.hs_replica.specs.Group.{Group, is_peer}
use Rattle.hs_replica.specs.Kinds.{is_block, is_root}

-- where an act changes none of it
alike_of : (a b : Core) → kept_of b ≡ kept_of a → HasSameLists a b → Alike a b
alike_of a b kept lists = record {
  operations = ap (λ (k : Kept). k.operations) kept;
  sessions = ap (λ (k : Kept). k.sessions) kept;
  limits = ap (λ (k : Kept). k.limits) kept;
  shape = lists.shape;
  waiting = lists.waiting;
  front = lists.front;
  catalogue = λ g.
      ap (λ (s : Shape). slice_index_or b.catalogues g (empty_catalogue s g)) lists.shape
      ∙ ap (λ (k : Kept). slice_index_or k.catalogues g (empty_catalogue (shape_of a) g)) kept;
}

module _ (name : List ℕ → Address) where
  abbrev O : Core → Type 0
  O c = IsOrderly name c

  fallen_orderly : (peer : ℕ) (c : Core) → O c → O (fallen peer c)
  fallen_orderly peer c its = rejoined (is_peer peer (lead_of (home peer c) c)) (viewed (is_good_status (status_of peer c)))
    where
      left : Core
      left = leave peer c

      viewed : (b : Bool) → O (change_if b (change_view (home peer c)) (leave peer c))
      viewed true = view_changed name (home peer c) left (alike_orderly name c left (alike_of c left refl (record { shape = refl; waiting = λ g. refl; front = λ g. refl })) its)
      viewed false = alike_orderly name c left (alike_of c left refl (record { shape = refl; waiting = λ g. refl; front = λ g. refl })) its

      rejoined : (b : Bool) {x : Core} → O x → O (change_if b (λ core. each (joining_peers (home peer c) core) begin_joining core) x)
      rejoined true {x} h = alike_orderly name x (each (joining_peers (home peer c) x) begin_joining x) (alike_of x _ (kept_joining (joining_peers (home peer c) x) x) (lists_joining (joining_peers (home peer c) x) x)) h
      rejoined false {x} h = h

  joined_orderly : (peer : ℕ) (c : Core) → O c → O (joined peer c)
  joined_orderly peer c its =
      let good : Core = set_rejoin peer None (set_status peer Good c) in
      let viewed : Core = change_view (home peer c) good in
      alike_orderly name viewed (joined peer c) (alike_of viewed (joined peer c) (kept_follow (home peer c) viewed) (lists_follow (home peer c) viewed))
      (view_changed name (home peer c) good (alike_orderly name c good (alike_of c good refl (record { shape = refl; waiting = λ g. refl; front = λ g. refl })) its))

  -- ---- acts

  module _ {s : Core} {e : Option Event} (once : AreOnce s.operations) (calm : (line : ℕ) (o : Op) → e ≡ Some (event.Line line o) → ⊥) where
    act_orderly : (a b : Core) → Act s e a b → O a → O b
    act_orderly a b (IsAside x) its = alike_orderly name a b (alike_of a b (kept_aside x) (lists_aside x)) its
    act_orderly a b (Refuses now refusal is why) its = alike_orderly name a b (record { operations = refl; sessions = refl; limits = refl; shape = refl; waiting = λ g. refl; front = λ g. refl; catalogue = λ g. refl }) its
    act_orderly a b (TellsDown by peer is) its = alike_orderly name a b (record { operations = refl; sessions = refl; limits = refl; shape = refl; waiting = λ g. refl; front = λ g. refl; catalogue = λ g. refl }) its
    act_orderly a b (FindsDown peer is bad) its = alike_orderly name a b (record { operations = refl; sessions = refl; limits = refl; shape = refl; waiting = λ g. refl; front = λ g. refl; catalogue = λ g. refl }) its
    act_orderly a b (Asks line o start is) its = absurd (calm line o is)
    act_orderly a b (Goes line w at idle) its =
        going_orderly go_step going_asks name line a its (idle_free name a line its (λ u f. subst (λ (x : Waiting). IsIdle x.wait) (some_is w u (sym at ∙ f)) (idle once)))
    act_orderly a b (Hands peer number line bytes w known) its =
        let x : Core = without_job peer a in
        let its_x : O x = alike_orderly name a x (alike_of a x refl (record { shape = refl; waiting = λ g. refl; front = λ g. refl })) its in
        going_orderly (λ v o. bytes_step v bytes (pointers_for w.shard w.operation.op x) o) (told_asks bytes (pointers_for w.shard w.operation.op x)) name line x its_x
        (idle_free name x line its_x (λ u f. subst (λ (y : Waiting). IsIdle y.wait) (some_is w u (sym known.at ∙ f)) (subst (λ y. IsIdle y) (sym known.waits) tt)))
    act_orderly a b (TakesEffect shard number entry next) its = effect_orderly name shard number entry a its next
    act_orderly a b (Enters shard urged due) its = own_orderly name shard (kind.Enter 0 ((catalogue_of shard a).epoch + 1)) a refl its
    act_orderly a b (Gets number from to epoch round total deltas known new) its =
        let gone : Core = change_pool (without number) a in
        own_orderly name to (kind.Got from epoch round total deltas) gone refl (alike_orderly name a gone (alike_of a gone refl (record { shape = refl; waiting = λ g. refl; front = λ g. refl })) its)
    act_orderly a b (SendsRound back shard peer known) its = alike_orderly name a b (alike_of a b (kept_round back shard a) (lists_round back shard a)) its
    act_orderly a b (Falls peer known) its = fallen_orderly peer a its
    act_orderly a b (Joins peer level) its = joined_orderly peer a its
    act_orderly a b (Opens shard is good) its = view_began name shard a its

  -- what is committed in a shard takes effect
  pub next_orderly : (shard : ℕ) (c : Core) → O c → O (commit_next shard c)
  next_orderly shard c its = acts_keep O (act_orderly {s = c} {e = None} its.once (λ line o is. cc is)) (commit_next shard c) (next_acts (λ line o is. cc is) shard c NoAct) its

  -- ---- all events

  other_orderly : (e : Event) → ((line : ℕ) (o : Op) → Some e ≡ Some (event.Line line o) → ⊥) → (c : Core) → O c → O (do_event e c)
  other_orderly e calm c its = acts_keep O (act_orderly its.once calm) (do_event e c) (does_acts c e) its

  done_orderly : (e : Event) (c : Core) → O c → MayBegin name e c → O (do_event e c)
  done_orderly (event.Line line o) c its may = begun_orderly name line o c its may.new may.counted may.called
  done_orderly (event.Report peer d) c its may = other_orderly (event.Report peer d) (λ line o is. cc is) c its
  done_orderly (event.Turn line peer) c its may = other_orderly (event.Turn line peer) (λ l o is. cc is) c its
  done_orderly (event.Deliver line number) c its may = other_orderly (event.Deliver line number) (λ l o is. cc is) c its
  done_orderly (event.Lose line number) c its may = other_orderly (event.Lose line number) (λ l o is. cc is) c its
  done_orderly (event.Repeat line number) c its may = other_orderly (event.Repeat line number) (λ l o is. cc is) c its
  done_orderly (event.Nudge line peer) c its may = other_orderly (event.Nudge line peer) (λ l o is. cc is) c its
  done_orderly (event.Fail line peer) c its may = other_orderly (event.Fail line peer) (λ l o is. cc is) c its
  done_orderly (event.Start line peer) c its may = other_orderly (event.Start line peer) (λ l o is. cc is) c its

  -- ---- one event at a moment

  began_alike : (line moment : ℕ) (c : Core) → Alike c (begin_event line moment c)
  began_alike line moment c = go ((c.progress.event_line == 0 && not (line == 0)) && is_empty c.pool)
    where
      go : (b : Bool) → Alike c (record (change_if b (change_pool restart_numbers) c) { moment = moment; progress = record c.progress { event_line = cond (line == 0) c.progress.event_line line } })
      go true = record { operations = refl; sessions = refl; limits = refl; shape = refl; waiting = λ g. refl; front = λ g. refl; catalogue = λ g. refl }
      go false = record { operations = refl; sessions = refl; limits = refl; shape = refl; waiting = λ g. refl; front = λ g. refl; catalogue = λ g. refl }

  ended_alike : (c : Core) → Alike c (end_event c)
  ended_alike c = go (nat_lt c.limits.ops (length c.journal + length c.entries))
    where
      go : (b : Bool) → Alike c (cond b (refuse_entries c) (keep_entries c))
      go true = record { operations = refl; sessions = refl; limits = refl; shape = refl; waiting = λ g. refl; front = λ g. refl; catalogue = λ g. refl }
      go false = record { operations = refl; sessions = refl; limits = refl; shape = refl; waiting = λ g. refl; front = λ g. refl; catalogue = λ g. refl }

  may_alike : (e : Event) (a b : Core) → Alike a b → MayBegin name e a → MayBegin name e b
  may_alike (event.Line line o) a b same may = record {
    new = ap (λ (es : List (ℕ × Waiting)). lookup (is_at (nat_cmp line)) es) same.operations ∙ may.new;
    counted = may.counted;
    called = subst (λ (seats : Seats). IsCalled name seats o) (sym same.sessions) may.called;
  }
  may_alike (event.Report peer d) a b same may = tt
  may_alike (event.Turn line peer) a b same may = tt
  may_alike (event.Deliver line number) a b same may = tt
  may_alike (event.Lose line number) a b same may = tt
  may_alike (event.Repeat line number) a b same may = tt
  may_alike (event.Nudge line peer) a b same may = tt
  may_alike (event.Fail line peer) a b same may = tt
  may_alike (event.Start line peer) a b same may = tt

  run_orderly : (e : Event) (moment : ℕ) (c : Core) → O c → MayBegin name e c → O (run_event e moment c)
  run_orderly e moment c its may =
      let began : Core = begin_event (line_of e) moment c in
      let did : Core = do_event e began in
      alike_orderly name did (end_event did) (ended_alike did)
      (done_orderly e began (alike_orderly name c began (began_alike (line_of e) moment c) its) (may_alike e c began (began_alike (line_of e) moment c) may))

  pub step_orderly : (e : Event) (moment : ℕ) (c : Core) → O c → MayBegin name e c → O (step e moment c)
  step_orderly e moment c its may = go (is_none c.ended)
    where
      go : (b : Bool) → O (change_if b (run_event e moment) c)
      go true = run_orderly e moment c its may
      go false = its

  pub steps_orderly : (es : List (Event × ℕ)) (c : Core) → O c → MayBeginAll name es c → O (steps c es)
  steps_orderly [] c its may = its
  steps_orderly (e ∷ es) c its may = steps_orderly es (step e.0 e.1 c) (step_orderly e.0 e.1 c its may.0) may.1

  -- ---- as the core opens

  pub none_wait : (shape : Shape) (taken : Taken) (shards : List ℕ) (g : ℕ) (none : Group) → none.waiting ≡ [] → (slice_index_or (map (taken_group shape taken) shards) g none).waiting ≡ []
  none_wait shape taken [] g none e = e
  none_wait shape taken (s ∷ shards) zero none e = refl
  none_wait shape taken (s ∷ shards) (suc g) none e = none_wait shape taken shards g none e

  pub new_orderly : (shape : Shape) (limits : Limits) (taken : Taken) (moment : ℕ) → O (new_core shape limits taken moment)
  new_orderly shape limits taken moment = record {
    once = tt;
    pending = λ line w at. absurd (cc at);
    alone = λ l m v w q e f s t. absurd (cc e);
    asked = λ g place line e at by. absurd (nothing place e (sym (ap (λ es. slice_get es place) (none_wait shape taken _ g _ refl)) ∙ at));
    roomy = λ g. record { blocks = inl (ap (λ es. count_by is_block es) (none_wait shape taken _ g _ refl)); roots = inl (ap (λ es. count_by is_root es) (none_wait shape taken _ g _ refl)) };
  }
    where
      nothing : (place : ℕ) (e : Entry) → slice_get [] place ≡ Some e → ⊥
      nothing zero e f = cc f
      nothing (suc place) e f = cc f

  pub open_orderly : (shape : Shape) (limits : Limits) (taken : Taken) (moment : ℕ) → O (open_core shape limits taken moment)
  open_orderly shape limits taken moment =
      let new : Core = new_core shape limits taken moment in
      let its : O new = new_orderly shape limits taken moment in
      let noted : Core = note_down (begin_views new) in
      alike_orderly name noted (end_event noted) (ended_alike noted) (acts_keep O (act_orderly {s = new} {e = None} its.once (λ line o is. cc is)) noted (opening_acts new) its)
