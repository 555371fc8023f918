-- Changes by which no shard reaches its View, and none comes to another view.
use Rattle.std.proofs.Common.{◌≡◌, ◌∙◌, ap, sym, refl, inl, inr, ℕ, ◌+◌, Bool, true, false, List, [], ◌∷◌, Option, Some, None}
use Rattle.std.specs.List.{list_all}
use Rattle.std.specs.Option.{option_map_or}
use Rattle.std.specs.Prelude.{drop, if◌then◌else◌, is_some, nat_le}
use Rattle.hs_anatomy.specs.Acts.{Aside, Copies, Empties, Hears, Loses, Repeats, Reports, Resends, Seals, Starts, Takes, Views, without_job}
use Rattle.hs_anatomy.specs.Effect.{Class, OfBase, OfEnter, OfLine, OfRound, OfView, class_of, done_by, taken, tells_class, told_at_once}
use Rattle.hs_awaiting.specs.declared.wait.Wait.TheVariants as wait
use Rattle.hs_awaiting.specs.declared.waiting.Waiting.{Waiting}
use Rattle.hs_awaiting.specs.Words.{change_if, change_with, each}
use Rattle.hs_core_words.specs.Asking.{send_round}
use Rattle.hs_core_words.specs.Changing.{add_entry_tasks, add_operation, change_group, change_pool, change_rejoin, note, post}
use Rattle.hs_core_words.specs.declared.event.Event.{Event}
use Rattle.hs_core_words.specs.Effects.{note_enter, note_sweep, round_messages, tell_enter, tell_operation}
use Rattle.hs_core_words.specs.Joining.{begin_joining, follow_lead, joining_peers}
use Rattle.hs_core_words.specs.Looking.{catalogue_of, group_of, home, lead_of, operation_of, shape_of}
use Rattle.hs_core_words.specs.Operating.{add_read, begin_line, busy_line, carry_out, go_on_with, propose_entry, take_step, wait_for}
use Rattle.hs_core_words.specs.Seeing.{view_for}
use Rattle.hs_core_words.specs.State.{Core}
use Rattle.hs_desk.specs.declared.what.What.{What}
use Rattle.hs_desk.specs.declared.what.What.TheVariants as what
use Rattle.hs_effects.proofs.GroupLemmas.{group_changed}
use Rattle.hs_entry.specs.declared.entry.Entry.{Entry}
use Rattle.hs_journal.specs.declared.entry.Who.TheVariants as who
use Rattle.hs_model.specs.declared.deed.Deed.TheVariants as deed
use Rattle.hs_model.specs.declared.op.Op.{Op}
use Rattle.hs_model.specs.declared.reply.Reply.TheVariants as reply
use Rattle.hs_ops.specs.declared.step.OpStep.{OpStep}
use Rattle.hs_ops.specs.declared.step.OpStep.TheVariants as step
use Rattle.hs_ops.specs.Operations.{Operation, after_step, effect_step, go_step, new_operation}
use Rattle.hs_ops.specs.Speaking.{judging_shard}
use Rattle.hs_ops.specs.Views.{OpView}
use Rattle.hs_post.specs.Pool.{without}
use Rattle.hs_rejoin.specs.Rejoin.{copied, emptied, follow}
use Rattle.hs_replica.specs.Group.{Group, committed, have, hears, last_number, lead, on_copied, on_emptied, on_have, on_sealed, proposal, propose, take_committed, take_entry}
use Rattle.hs_rounds.specs.Rounds.{sent_back}
use Rattle.hs_shard.specs.Rounds.{messages}
use Rattle.hs_shard.specs.declared.effect.Effect.{Effect}
use Rattle.hs_shard.specs.Facts.{Catalogue}

-- which Views were reached, and the views of all lists, are the same
pub record HasSameViews (a b : Core) : Type 0 where
  pub viewed : b.progress.viewed ≡ a.progress.viewed
  pub views : (g : ℕ) → (group_of g b).view ≡ (group_of g a).view

pub same_views : (c : Core) → HasSameViews c c
same_views c = record { viewed = refl; views = λ g. refl }

pub both_same : (a b c : Core) → HasSameViews a b → HasSameViews b c → HasSameViews a c
both_same a b c f h = record { viewed = h.viewed ∙ f.viewed; views = λ g. h.views g ∙ f.views g }

pub same_if : (b : Bool) (f : Core → Core) (c : Core) → ((x : Core) → HasSameViews x (f x)) → HasSameViews c (change_if b f c)
same_if true f c k = k c
same_if false f c k = same_views c

pub same_with : {B : Type 0} (o : Option B) (f : B → Core → Core) (c : Core) → ((y : B) (x : Core) → HasSameViews x (f y x)) → HasSameViews c (change_with o f c)
same_with None f c k = same_views c
same_with (Some y) f c k = k y c

pub same_each : {B : Type 0} (ys : List B) (f : B → Core → Core) (c : Core) → ((y : B) (x : Core) → HasSameViews x (f y x)) → HasSameViews c (each ys f c)
same_each [] f c k = same_views c
same_each (y ∷ ys) f c k = both_same c (f y c) (each ys f (f y c)) (k y c) (same_each ys f (f y c) k)

-- ---- lists

pub same_group : (shard : ℕ) (f : Group → Group) (c : Core) → (f (group_of shard c)).view ≡ (group_of shard c).view → HasSameViews c (change_group shard f c)
same_group shard f c keeps = record {
  viewed = refl;
  views = λ g. elim (group_changed shard f c g) [
    | inl is ↦ ap (λ (x : Group). x.view) is
    | inr is ↦ ap (λ (x : Group). x.view) is.1 ∙ keeps ∙ ap (λ k. (group_of k c).view) (sym is.0)
  ];
}

proposed_view : (entry : Entry) (x : Group) → (propose entry x).view ≡ x.view
proposed_view entry x = go (lead x) refl
  where
    go : (o : Option ℕ) → lead x ≡ o → (propose entry x).view ≡ x.view
    go None e = rw e refl
    go (Some l) e = rw e refl

pub taken_view : (x : Group) → (take_committed x).view ≡ x.view
taken_view x = go (committed x)
  where
    go : (o : Option (ℕ × Entry)) → (option_map_or (λ (y : ℕ × Entry). record x { front = y.0; waiting = drop 1 x.waiting }) o x).view ≡ x.view
    go None = refl
    go (Some y) = refl

had_view : (peer view sealed : ℕ) (x : Group) → (on_have peer view sealed x).view ≡ x.view
had_view peer view sealed x = go (hears peer view x) refl
  where
    go : (b : Bool) → hears peer view x ≡ b → (on_have peer view sealed x).view ≡ x.view
    go true e = rw e refl
    go false e = rw e refl

-- ---- operations

pub same_propose : (shard : ℕ) (entry : Entry) (c : Core) → HasSameViews c (propose_entry shard entry c)
same_propose shard entry c =
    let told : Core = change_group shard (propose entry) c in
    let posted : Core = post (proposal entry (group_of shard c)) told in
    both_same c told (propose_entry shard entry c) (same_group shard (propose entry) c (proposed_view entry (group_of shard c)))
    (both_same told posted (propose_entry shard entry c) (record { viewed = refl; views = λ g. refl })
    (same_with (lead_of shard c) (λ peer. add_entry_tasks peer (last_number (group_of shard c) + 1) entry) posted (λ peer x. record { viewed = refl; views = λ g. refl })))

pub same_carry : (line : ℕ) (w : Waiting) (taken : OpStep) (c : Core) → HasSameViews c (carry_out line w taken c)
same_carry line w (step.Answer told) c = record { viewed = refl; views = λ g. refl }
same_carry line w (step.Propose entry) c =
    let waits : Core = wait_for line w (wait.Entry (last_number (group_of w.shard c) + 1)) c in
    both_same c waits (carry_out line w (step.Propose entry) c) (record { viewed = refl; views = λ g. refl }) (same_propose w.shard entry waits)
same_carry line w (step.Compare number) c =
    let waits : Core = wait_for line w (wait.Bytes number) c in
    both_same c waits (carry_out line w (step.Compare number) c) (record { viewed = refl; views = λ g. refl }) (same_with (lead_of w.shard waits) (add_read number line) waits (λ peer x. record { viewed = refl; views = λ g. refl }))
same_carry line w step.Wait c = record { viewed = refl; views = λ g. refl }

pub same_goes : (next : OpView → Operation → OpStep) (line : ℕ) (c : Core) → HasSameViews c (go_on_with next line c)
same_goes next line c = go (operation_of line c)
  where
    go : (o : Option Waiting) → HasSameViews c (change_with o (λ w. take_step line w (next (view_for w.shard w.operation.op c) w.operation)) c)
    go None = same_views c
    go (Some w) =
        let taken : OpStep = next (view_for w.shard w.operation.op c) w.operation in
        same_carry line (record w { operation = after_step taken w.operation }) taken c

pub same_begins : (line : ℕ) (o : Op) (c : Core) → HasSameViews c (begin_line line o c)
same_begins line o c =
    let begun : Core = record c { progress = record c.progress { last_line = line } } in
    let shard : ℕ = judging_shard (shape_of c).shards c.sessions o in
    let w : Waiting = record { operation = new_operation line o; shard = shard; wait = wait.View } in
    let v : OpView = record (view_for shard o begun) { busy = busy_line o c } in
    let added : Core = add_operation line w begun in
    let taken : OpStep = go_step v w.operation in
    both_same c added (begin_line line o c) (record { viewed = refl; views = λ g. refl }) (same_carry line (record w { operation = after_step taken w.operation }) taken added)

-- ---- an entry takes effect

same_entered : (shard : ℕ) (did : What) (c : Core) → HasSameViews c (note_enter shard did c)
same_entered shard what.Nothing c = same_views c
same_entered shard (what.Viewed view) c = same_views c
same_entered shard what.Stored c = same_views c
same_entered shard what.Marked c = same_views c
same_entered shard what.Again c = same_views c
same_entered shard what.Rooted c = same_views c
same_entered shard what.Dropped c = same_views c
same_entered shard (what.Entered epoch) c = record { viewed = refl; views = λ g. refl }
same_entered shard what.Refused c = same_views c

same_enter : (shard line : ℕ) (did : What) (c : Core) → HasSameViews c (tell_enter shard line did c)
same_enter shard line did c = go (is_some (operation_of line c))
  where
    go : (b : Bool) → HasSameViews c (if b then tell_operation line did c else note_enter shard did c)
    go true = same_goes (λ v o. effect_step v did o) line c
    go false = same_entered shard did c

same_swept : (shard removed : ℕ) (c : Core) → HasSameViews c (note_sweep shard removed c)
same_swept shard removed c =
    let noted : Core = note (who.Shard shard) (deed.Swept shard) (reply.Sweep (catalogue_of shard c).swept removed) c in
    both_same c noted (note_sweep shard removed c) (record { viewed = refl; views = λ g. refl })
    (same_if (list_all (λ (x : Catalogue). nat_le (catalogue_of shard c).swept x.swept) c.catalogues) (note who.Store deed.Nothing (reply.Done (catalogue_of shard c).swept)) noted (λ x. record { viewed = refl; views = λ g. refl }))

same_class : (class : Class) (shard : ℕ) (effect : Effect) (c : Core) → HasSameViews c (tells_class class shard effect c)
same_class (OfLine line) shard effect c = same_goes (λ v o. effect_step v effect.what o) line c
same_class (OfEnter line) shard effect c = same_enter shard line effect.what c
same_class (OfView view) shard effect c = same_views c
same_class OfRound shard effect c = same_with effect.removed (note_sweep shard) c (λ removed x. same_swept shard removed x)
same_class OfBase shard effect c = same_views c

pub same_taken : (shard : ℕ) (entry : Entry) (c : Core) → HasSameViews c (taken shard entry c)
same_taken shard entry c =
    let x : Core = change_group shard take_committed c in
    both_same c x (taken shard entry c) (same_group shard take_committed c (taken_view (group_of shard c))) (record { viewed = refl; views = λ g. refl })

pub same_told : (shard : ℕ) (entry : Entry) (c : Core) → HasSameViews c (told_at_once shard entry c)
same_told shard entry c = both_same c (taken shard entry c) (told_at_once shard entry c) (same_taken shard entry c) (same_class (class_of entry) shard (done_by shard entry c).effect (taken shard entry c))

-- ---- acts beside

pub same_follow : (shard : ℕ) (c : Core) → HasSameViews c (follow_lead shard c)
same_follow shard c =
    same_with (lead_of shard c) (λ lead x. each (joining_peers shard x) (λ peer. change_rejoin peer (follow lead)) x) c
    (λ lead x. same_each (joining_peers shard x) (λ peer. change_rejoin peer (follow lead)) x (λ peer y. record { viewed = refl; views = λ g. refl }))

pub same_joining : (peers : List ℕ) (c : Core) → HasSameViews c (each peers begin_joining c)
same_joining peers c = same_each peers begin_joining c (λ peer x. record { viewed = refl; views = λ g. refl })

pub same_round : (back shard : ℕ) (c : Core) → HasSameViews c (send_round back shard c)
same_round back shard c =
    let run = (catalogue_of shard c).run in
    same_with (sent_back back run) (λ sent. post (round_messages shard (messages (catalogue_of shard c).shape.shards sent.0 sent.1 run))) c (λ sent x. record { viewed = refl; views = λ g. refl })

-- none but that a View was reached
abbrev pub ReachesNone : {s : Core} {e : Option Event} {a b : Core} → Aside s e a b → Type 0
ReachesNone (Reports peer d k) = Unit {0}
ReachesNone (Seals peer number k) = Unit {0}
ReachesNone (Empties peer k) = Unit {0}
ReachesNone (Copies peer number k) = Unit {0}
ReachesNone (Loses number m at) = Unit {0}
ReachesNone (Takes number shard to view next entry k fits) = Unit {0}
ReachesNone (Hears number shard from to view sealed k good) = Unit {0}
ReachesNone (Repeats number m at space) = Unit {0}
ReachesNone (Resends shard peer k) = Unit {0}
ReachesNone (Starts line peer start asked may) = Unit {0}
ReachesNone (Views shard) = ⊥

pub same_aside : {s : Core} {e : Option Event} {a b : Core} (x : Aside s e a b) → ReachesNone x → HasSameViews a b
same_aside (Reports peer d k) none = record { viewed = refl; views = λ g. refl }
same_aside {a = a} {b = b} (Seals peer number k) none =
    let posted : Core = post (have peer number (group_of (home peer (without_job peer a)) (without_job peer a))) (without_job peer a) in
    both_same a posted b (record { viewed = refl; views = λ g. refl }) (same_group (home peer posted) (on_sealed peer number) posted refl)
same_aside {a = a} {b = b} (Empties peer k) none =
    let x : Core = change_rejoin peer emptied (without_job peer a) in
    both_same a x b (record { viewed = refl; views = λ g. refl }) (same_group (home peer x) (on_emptied peer) x refl)
same_aside {a = a} {b = b} (Copies peer number k) none =
    let x : Core = change_rejoin peer (copied number) (without_job peer a) in
    both_same a x b (record { viewed = refl; views = λ g. refl }) (same_group (home peer x) (on_copied peer number) x refl)
same_aside (Loses number m at) none = record { viewed = refl; views = λ g. refl }
same_aside {a = a} {b = b} (Takes number shard to view next entry k fits) none =
    let gone : Core = change_pool (without number) a in
    let got : Core = change_group shard (take_entry to entry) gone in
    let asked : Core = add_entry_tasks to next entry got in
    both_same a gone b (record { viewed = refl; views = λ g. refl })
    (both_same gone got b (same_group shard (take_entry to entry) gone refl) (both_same got asked b (record { viewed = refl; views = λ g. refl }) (same_follow shard asked)))
same_aside {a = a} {b = b} (Hears number shard from to view sealed k good) none =
    let gone : Core = change_pool (without number) a in
    both_same a gone b (record { viewed = refl; views = λ g. refl }) (same_group shard (on_have from view sealed) gone (had_view from view sealed (group_of shard gone)))
same_aside (Repeats number m at space) none = record { viewed = refl; views = λ g. refl }
same_aside (Resends shard peer k) none = record { viewed = refl; views = λ g. refl }
same_aside (Starts line peer start asked may) none = record { viewed = refl; views = λ g. refl }
same_aside (Views shard) none = absurd none
