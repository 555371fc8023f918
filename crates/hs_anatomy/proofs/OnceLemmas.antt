-- Behind each act no line has two operations where none had before, but for a client's line.
use Rattle.std.proofs.Common.{◌≡◌, sym, ap, subst, ℕ, ◌+◌, Bool, true, false, cond, List, Option, Some, None, refl}
use Rattle.std.specs.List.{list_all}
use Rattle.std.specs.Prelude.{is_some, nat_le}
use Rattle.hs_anatomy.proofs.AsideLemmas.{kept_aside, kept_follow, kept_joining, kept_propose, kept_round, kept_with}
use Rattle.hs_anatomy.proofs.LookLemmas.{once_map, once_remove, once_set}
use Rattle.hs_anatomy.specs.Acts.{Act, Acts, AndThen, Asks, Enters, Falls, FindsDown, Gets, Goes, Hands, IsAside, Joins, NoAct, Opens, Refuses, SendsRound, TakesEffect, TellsDown, fallen, joined, without_job}
use Rattle.hs_anatomy.specs.Effect.{Class, OfBase, OfEnter, OfLine, OfRound, OfView, class_of, done_by, taken, tells_class}
use Rattle.hs_anatomy.specs.Kept.{Kept, kept_of}
use Rattle.hs_anatomy.specs.Once.{AreOnce}
use Rattle.hs_awaiting.specs.declared.wait.Wait.TheVariants as wait
use Rattle.hs_awaiting.specs.declared.waiting.Waiting.{Waiting}
use Rattle.hs_awaiting.specs.Views.{restarted}
use Rattle.hs_awaiting.specs.Words.{change_if, change_with, each}
use Rattle.hs_core_words.specs.Changing.{change_group, change_pool, note, post, set_rejoin, set_status, set_viewed}
use Rattle.hs_core_words.specs.declared.event.Event.{Event}
use Rattle.hs_core_words.specs.declared.event.Event.TheVariants as event
use Rattle.hs_core_words.specs.Effects.{note_enter, note_sweep, tell_enter, tell_operation}
use Rattle.hs_core_words.specs.Failing.{leave}
use Rattle.hs_core_words.specs.Joining.{begin_joining, joining_peers}
use Rattle.hs_core_words.specs.Looking.{catalogue_of, group_of, home, lead_of, operation_of, status_of}
use Rattle.hs_core_words.specs.Operating.{add_read, go_on_with, propose_entry, take_step, wait_for}
use Rattle.hs_core_words.specs.Seeing.{pointers_for, view_for}
use Rattle.hs_core_words.specs.State.{Core}
use Rattle.hs_core_words.specs.Views.{begin_view, change_view, restart}
use Rattle.hs_desk.specs.declared.what.What.{What}
use Rattle.hs_desk.specs.declared.what.What.TheVariants as what
use Rattle.hs_entry.specs.declared.entry.Entry.TheVariants as kind
use Rattle.hs_journal.specs.declared.entry.Who.TheVariants as who
use Rattle.hs_limits.specs.declared.limits.PeerStatus.TheVariants.{Good}
use Rattle.hs_members.specs.Members.{has_good, is_good_status, view_of}
use Rattle.hs_model.specs.declared.deed.Deed.TheVariants as deed
use Rattle.hs_model.specs.declared.op.Op.{Op}
use Rattle.hs_model.specs.declared.reply.Reply.TheVariants as reply
use Rattle.hs_ops.specs.declared.step.OpStep.{OpStep}
use Rattle.hs_ops.specs.declared.step.OpStep.TheVariants as step
use Rattle.hs_ops.specs.Operations.{Operation, after_step, bytes_step, effect_step, go_step}
use Rattle.hs_ops.specs.Views.{OpView}
use Rattle.hs_post.specs.Pool.{without}
use Rattle.hs_replica.specs.Group.{is_peer, last_number, renew, renewal}
use Rattle.hs_shard.specs.declared.effect.Effect.{Effect}
use Rattle.hs_shard.specs.Facts.{Catalogue}

abbrev Once : Core → Type 0
Once c = AreOnce c.operations

-- where the operations are the same
once_kept : (a b : Core) → kept_of b ≡ kept_of a → Once a → Once b
once_kept a b same h = subst (λ (es : List (ℕ × Waiting)). AreOnce es) (sym (ap (λ (k : Kept). k.operations) same)) h

once_if : (b : Bool) (f : Core → Core) (c : Core) → ((x : Core) → Once x → Once (f x)) → Once c → Once (change_if b f c)
once_if true f c k h = k c h
once_if false f c k h = h

-- ---- operations

once_step : (line : ℕ) (w : Waiting) (taken : OpStep) (c : Core) → Once c → Once (take_step line w taken c)
once_step line w (step.Answer told) c h = once_remove line c.operations h
once_step line w (step.Propose entry) c h =
    let waits : Core = wait_for line (record w { operation = after_step (step.Propose entry) w.operation }) (wait.Entry (last_number (group_of w.shard c) + 1)) c in
    once_kept waits (propose_entry w.shard entry waits) (kept_propose w.shard entry waits) (once_set line c.operations _ h)
once_step line w (step.Compare number) c h =
    let waits : Core = wait_for line (record w { operation = after_step (step.Compare number) w.operation }) (wait.Bytes number) c in
    once_kept waits (change_with (lead_of w.shard c) (add_read number line) waits) (kept_with (lead_of w.shard c) (add_read number line) waits (λ peer x. refl)) (once_set line c.operations _ h)
once_step line w step.Wait c h = once_set line c.operations _ h

once_go_on : (next : OpView → Operation → OpStep) (line : ℕ) (c : Core) → Once c → Once (go_on_with next line c)
once_go_on next line c h = go (operation_of line c)
  where
    go : (o : Option Waiting) → Once (change_with o (λ w. take_step line w (next (view_for w.shard w.operation.op c) w.operation)) c)
    go None = h
    go (Some w) = once_step line w (next (view_for w.shard w.operation.op c) w.operation) c h

-- ---- an entry that takes effect

once_entered : (shard : ℕ) (did : What) (c : Core) → Once c → Once (note_enter shard did c)
once_entered shard (what.Entered epoch) c h = h
once_entered shard other c h = h

once_enter : (shard line : ℕ) (did : What) (c : Core) → Once c → Once (tell_enter shard line did c)
once_enter shard line did c h = go (is_some (operation_of line c))
  where
    go : (b : Bool) → Once (cond b (tell_operation line did c) (note_enter shard did c))
    go true = once_go_on (λ v o. effect_step v did o) line c h
    go false = once_entered shard did c h

once_sweep : (shard : ℕ) (removed : Option ℕ) (c : Core) → Once c → Once (change_with removed (note_sweep shard) c)
once_sweep shard None c h = h
once_sweep shard (Some removed) c h =
    once_if (list_all (λ (x : Catalogue). nat_le (catalogue_of shard c).swept x.swept) c.catalogues) (note who.Store deed.Nothing (reply.Done (catalogue_of shard c).swept))
    (note (who.Shard shard) (deed.Swept shard) (reply.Sweep (catalogue_of shard c).swept removed) c) (λ x k. k) h

once_class : (class : Class) (shard : ℕ) (effect : Effect) (c : Core) → Once c → Once (tells_class class shard effect c)
once_class (OfLine line) shard effect c h = once_go_on (λ v o. effect_step v effect.what o) line c h
once_class (OfEnter line) shard effect c h = once_enter shard line effect.what c h
once_class (OfView view) shard effect c h = h
once_class OfRound shard effect c h = once_sweep shard effect.removed c h
once_class OfBase shard effect c h = h

-- ---- views and peers

once_view : (shard : ℕ) (c : Core) → Once c → Once (begin_view shard c)
once_view shard c h =
    let told : Core = change_group shard (renew c.members) (set_viewed shard false c) in
    let again : Core = restart shard told in
    let sent : Core = post (renewal (group_of shard again)) again in
    once_kept sent (begin_view shard c) (kept_propose shard (kind.View (view_of shard sent.members)) sent) (once_map (restarted shard (last_number (group_of shard told))) c.operations h)

once_change : (shard : ℕ) (c : Core) → Once c → Once (change_view shard c)
once_change shard c h = once_if (has_good shard c.members) (begin_view shard) c (λ x k. once_view shard x k) h

once_fallen : (peer : ℕ) (c : Core) → Once c → Once (fallen peer c)
once_fallen peer c h =
    let shard : ℕ = home peer c in
    let left : Core = leave peer c in
    let viewed : Core = change_if (is_good_status (status_of peer c)) (change_view shard) left in
    once_if (is_peer peer (lead_of shard c)) (λ x. each (joining_peers shard x) begin_joining x) viewed (λ x k. once_kept x (each (joining_peers shard x) begin_joining x) (kept_joining (joining_peers shard x) x) k)
    (once_if (is_good_status (status_of peer c)) (change_view shard) left (λ x k. once_change shard x k) h)

once_joined : (peer : ℕ) (c : Core) → Once c → Once (joined peer c)
once_joined peer c h =
    let good : Core = set_rejoin peer None (set_status peer Good c) in
    let viewed : Core = change_view (home peer c) good in
    once_kept viewed (joined peer c) (kept_follow (home peer c) viewed) (once_change (home peer c) good h)

-- ---- acts

module _ {s : Core} {e : Option Event} (calm : (line : ℕ) (o : Op) → e ≡ Some (event.Line line o) → ⊥) where
  once_act : {a b : Core} → Act s e a b → Once a → Once b
  once_act {a = a} {b = b} (IsAside x) h = once_kept a b (kept_aside x) h
  once_act (Refuses now refusal is why) h = h
  once_act (TellsDown by peer is) h = h
  once_act (FindsDown peer is bad) h = h
  once_act (Asks line o start is) h = absurd (calm line o is)
  once_act {a = a} (Goes line w at idle) h = once_go_on go_step line a h
  once_act {a = a} (Hands peer number line bytes w known) h = once_go_on (λ v o. bytes_step v bytes (pointers_for w.shard w.operation.op (without_job peer a)) o) line (without_job peer a) h
  once_act {a = a} (TakesEffect shard number entry next) h = once_class (class_of entry) shard (done_by shard entry a).effect (taken shard entry a) h
  once_act {a = a} {b = b} (Enters shard urged due) h = once_kept a b (kept_propose shard (kind.Enter 0 ((catalogue_of shard a).epoch + 1)) a) h
  once_act {a = a} (Gets number from to epoch round total deltas known new) h =
      let gone : Core = change_pool (without number) a in
      once_kept gone (propose_entry to (kind.Got from epoch round total deltas) gone) (kept_propose to (kind.Got from epoch round total deltas) gone) h
  once_act {a = a} {b = b} (SendsRound back shard peer known) h = once_kept a b (kept_round back shard a) h
  once_act {a = a} (Falls peer known) h = once_fallen peer a h
  once_act {a = a} (Joins peer level) h = once_joined peer a h
  once_act {a = a} (Opens shard is good) h = once_view shard a h

  pub once_acts : {b : Core} → Acts s e b → Once s → Once b
  once_acts NoAct h = h
  once_acts (AndThen xs x) h = once_act x (once_acts xs h)
