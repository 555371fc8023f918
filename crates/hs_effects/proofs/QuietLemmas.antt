-- What goes on beside the catalogues: it leaves them, and the members, as they are.
use Rattle.std.proofs.Common.{◌≡◌, ◌∙◌, ap, ℕ, ◌+◌, ◌==◌, ◌&&◌, Bool, true, false, cond, filter, map, List, [], ◌∷◌, Option, Some, None, refl, is_some}
use Rattle.hs_awaiting.specs.declared.waiting.Waiting.{Waiting}
use Rattle.hs_awaiting.specs.Words.{change_if, change_with, each}
use Rattle.hs_awaiting.specs.declared.wait.Wait.TheVariants as wait
use Rattle.hs_core_words.specs.Changing.{add_entry_tasks, change_group, post, set_viewed}
use Rattle.hs_core_words.specs.Effects.{after_entry, is_for_view, note_enter, note_sweep, reach_view, tell_enter, tell_operation}
use Rattle.hs_core_words.specs.Entering.{is_enter_due, propose_due}
use Rattle.hs_core_words.specs.Looking.{catalogue_of, group_of, lead_of, operation_of}
use Rattle.hs_core_words.specs.Operating.{add_read, carry_out, go_on_with, lines_where, propose_entry, resume, resume_where, take_step, wait_for}
use Rattle.hs_core_words.specs.Seeing.{view_for}
use Rattle.hs_core_words.specs.State.{Core}
use Rattle.hs_desk.specs.declared.what.What.{What}
use Rattle.hs_desk.specs.declared.what.What.TheVariants as what
use Rattle.hs_entry.specs.declared.entry.Entry.{Entry}
use Rattle.hs_entry.specs.declared.entry.Entry.TheVariants as kind
use Rattle.hs_ops.specs.declared.step.OpStep.{OpStep}
use Rattle.hs_ops.specs.declared.step.OpStep.TheVariants as step
use Rattle.hs_ops.specs.Operations.{Operation, after_step, effect_step, go_step}
use Rattle.hs_ops.specs.Views.{OpView}
use Rattle.hs_replica.specs.Group.{last_number, proposal, propose}
use Rattle.hs_shard.specs.declared.effect.Effect.{Effect}

pub record Quiet (a b : Core) : Type 0 where
  pub catalogues : b.catalogues ≡ a.catalogues
  pub members : b.members ≡ a.members
  pub limits : b.limits ≡ a.limits
  pub moment : b.moment ≡ a.moment

pub both : (a b c : Core) → Quiet a b → Quiet b c → Quiet a c
both a b c p q = record {
  catalogues = q.catalogues ∙ p.catalogues;
  members = q.members ∙ p.members;
  limits = q.limits ∙ p.limits;
  moment = q.moment ∙ p.moment;
}

-- ---- how changes are joined

same : (c : Core) → Quiet c c
same c = record { catalogues = refl; members = refl; limits = refl; moment = refl }

if_quiet : (b : Bool) (f : Core → Core) (c : Core) → ((x : Core) → Quiet x (f x)) → Quiet c (change_if b f c)
if_quiet true f c h = h c
if_quiet false f c h = same c

pub with_quiet : {B : Type 0} (o : Option B) (f : B → Core → Core) (c : Core) → ((y : B) (x : Core) → Quiet x (f y x)) → Quiet c (change_with o f c)
with_quiet None f c h = same c
with_quiet (Some y) f c h = h y c

each_quiet : {B : Type 0} (ys : List B) (f : B → Core → Core) (c : Core) → ((y : B) (x : Core) → Quiet x (f y x)) → Quiet c (each ys f c)
each_quiet [] f c h = same c
each_quiet (y ∷ ys) f c h = both c (f y c) (each ys f (f y c)) (h y c) (each_quiet ys f (f y c) h)

-- ---- entries that are proposed, and operations that go on

pub proposed_quiet : (shard : ℕ) (entry : Entry) (c : Core) → Quiet c (propose_entry shard entry c)
proposed_quiet shard entry c = go (lead_of shard c)
  where
    sent : Core
    sent = post (proposal entry (group_of shard c)) (change_group shard (propose entry) c)

    go : (lead : Option ℕ) → Quiet c (change_with lead (λ peer. add_entry_tasks peer (last_number (group_of shard c) + 1) entry) sent)
    go None = record { catalogues = refl; members = refl; limits = refl; moment = refl }
    go (Some peer) = record { catalogues = refl; members = refl; limits = refl; moment = refl }

pub carried_quiet : (line : ℕ) (w : Waiting) (taken : OpStep) (c : Core) → Quiet c (carry_out line w taken c)
carried_quiet line w (step.Answer told) c = record { catalogues = refl; members = refl; limits = refl; moment = refl }
carried_quiet line w (step.Propose entry) c =
    let waits : Core = wait_for line w (wait.Entry (last_number (group_of w.shard c) + 1)) c in
    both c waits (propose_entry w.shard entry waits) (record { catalogues = refl; members = refl; limits = refl; moment = refl }) (proposed_quiet w.shard entry waits)
carried_quiet line w (step.Compare number) c =
    let waits : Core = wait_for line w (wait.Bytes number) c in
    both c waits (change_with (lead_of w.shard c) (add_read number line) waits) (record { catalogues = refl; members = refl; limits = refl; moment = refl })
    (with_quiet (lead_of w.shard c) (add_read number line) waits (λ peer x. record { catalogues = refl; members = refl; limits = refl; moment = refl }))
carried_quiet line w step.Wait c = record { catalogues = refl; members = refl; limits = refl; moment = refl }

pub going_quiet : (next : OpView → Operation → OpStep) (line : ℕ) (c : Core) → Quiet c (go_on_with next line c)
going_quiet next line c =
    with_quiet (operation_of line c) (λ w. take_step line w (next (view_for w.shard w.operation.op c) w.operation)) c
    (λ w x. carried_quiet line (record w { operation = after_step (next (view_for w.shard w.operation.op c) w.operation) w.operation }) (next (view_for w.shard w.operation.op c) w.operation) x)

pub resumed_quiet : (shard : ℕ) (test : Waiting → Bool) (c : Core) → Quiet c (resume_where shard test c)
resumed_quiet shard test c = each_quiet (lines_where shard test c) resume c (λ line x. going_quiet go_step line x)

-- ---- behind an entry

due_quiet : (shard : ℕ) (c : Core) → Quiet c (propose_due shard c)
due_quiet shard c = if_quiet (is_enter_due shard c) (propose_entry shard (kind.Enter 0 ((catalogue_of shard c).epoch + 1))) c (λ x. proposed_quiet shard (kind.Enter 0 ((catalogue_of shard c).epoch + 1)) x)

pub sweep_quiet : (shard removed : ℕ) (c : Core) → Quiet c (note_sweep shard removed c)
sweep_quiet shard removed c =
    both c _ _ (record { catalogues = refl; members = refl; limits = refl; moment = refl })
    (if_quiet _ _ _ (λ x. record { catalogues = refl; members = refl; limits = refl; moment = refl }))

enter_quiet : (shard : ℕ) (did : What) (c : Core) → Quiet c (note_enter shard did c)
enter_quiet shard what.Nothing c = same c
enter_quiet shard (what.Viewed view) c = same c
enter_quiet shard what.Stored c = same c
enter_quiet shard what.Marked c = same c
enter_quiet shard what.Again c = same c
enter_quiet shard what.Rooted c = same c
enter_quiet shard what.Dropped c = same c
enter_quiet shard (what.Entered epoch) c = record { catalogues = refl; members = refl; limits = refl; moment = refl }
enter_quiet shard what.Refused c = same c

pub told_quiet : (line : ℕ) (did : What) (c : Core) → Quiet c (tell_operation line did c)
told_quiet line did c = going_quiet (λ v o. effect_step v did o) line c

pub told_enter_quiet : (shard line : ℕ) (did : What) (c : Core) → Quiet c (tell_enter shard line did c)
told_enter_quiet shard line did c = go (is_some (operation_of line c))
  where
    go : (b : Bool) → Quiet c (cond b (tell_operation line did c) (note_enter shard did c))
    go true = told_quiet line did c
    go false = enter_quiet shard did c

view_quiet : (shard view : ℕ) (c : Core) → Quiet c (reach_view shard view c)
view_quiet shard view c =
    if_quiet _ (λ x. resume_where shard is_for_view (set_viewed shard true x)) c
    (λ x. both x (set_viewed shard true x) (resume_where shard is_for_view (set_viewed shard true x)) (record { catalogues = refl; members = refl; limits = refl; moment = refl })
    (resumed_quiet shard is_for_view (set_viewed shard true x)))

pub behind_quiet : (shard : ℕ) (entry : Entry) (effect : Effect) (c : Core) → Quiet c (after_entry shard entry effect c)
behind_quiet shard (kind.View view) effect c = view_quiet shard view c
behind_quiet shard (kind.Block line least bytes) effect c = told_quiet line effect.what c
behind_quiet shard (kind.Mark line least block a) effect c = told_quiet line effect.what c
behind_quiet shard (kind.Root line held a key) effect c = told_quiet line effect.what c
behind_quiet shard (kind.Drop line key) effect c = told_quiet line effect.what c
behind_quiet shard (kind.Enter line epoch) effect c = told_enter_quiet shard line effect.what c
behind_quiet shard (kind.Got from epoch round total deltas) effect c =
    let swept : Core = change_with effect.removed (note_sweep shard) c in
    both c swept (propose_due shard swept) (with_quiet effect.removed (note_sweep shard) c (λ removed x. sweep_quiet shard removed x)) (due_quiet shard swept)
behind_quiet shard (kind.Base view epoch swept round frames) effect c = same c
behind_quiet shard (kind.KeptBlock born mark flags count bytes) effect c = same c
behind_quiet shard (kind.KeptRoot created dropped counted address key) effect c = same c
behind_quiet shard (kind.KeptRound way other epoch round total deltas) effect c = same c

-- ---- what tells nothing

pub record Mute (a b : Core) : Type 0 where
  pub entries : b.entries ≡ a.entries
  pub sessions : b.sessions ≡ a.sessions

proposed_mute : (shard : ℕ) (entry : Entry) (c : Core) → Mute c (propose_entry shard entry c)
proposed_mute shard entry c = go (lead_of shard c)
  where
    sent : Core
    sent = post (proposal entry (group_of shard c)) (change_group shard (propose entry) c)

    go : (lead : Option ℕ) → Mute c (change_with lead (λ peer. add_entry_tasks peer (last_number (group_of shard c) + 1) entry) sent)
    go None = record { entries = refl; sessions = refl }
    go (Some peer) = record { entries = refl; sessions = refl }

pub due_mute : (shard : ℕ) (c : Core) → Mute c (propose_due shard c)
due_mute shard c = go (is_enter_due shard c)
  where
    go : (b : Bool) → Mute c (change_if b (propose_entry shard (kind.Enter 0 ((catalogue_of shard c).epoch + 1))) c)
    go true = proposed_mute shard (kind.Enter 0 ((catalogue_of shard c).epoch + 1)) c
    go false = record { entries = refl; sessions = refl }

none_pass : (test : ℕ × Waiting → Bool) → ((e : ℕ × Waiting) → test e ≡ false) → (es : List (ℕ × Waiting)) → filter test es ≡ []
none_pass test never [] = refl
none_pass test never (e ∷ es) = ap (λ b. cond b (e ∷ filter test es) (filter test es)) (never e) ∙ none_pass test never es

-- where nothing that waits passes nothing goes on
pub resumed_none : (shard : ℕ) (c : Core) → resume_where shard (λ w. false) c ≡ c
resumed_none shard c = ap (λ (es : List (ℕ × Waiting)). each (map (λ e. e.0) es) resume c) (none_pass (λ (e : ℕ × Waiting). e.1.shard == shard && false) (λ e. go (e.1.shard == shard)) c.operations)
  where
    go : (b : Bool) → (b && false) ≡ false
    go true = refl
    go false = refl
