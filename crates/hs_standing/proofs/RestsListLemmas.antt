-- What is so of each entry that waits, where a list changes and where an operation goes on.
use Rattle.std.proofs.Common.{◌≡◌, ◌∙◌, sym, ap, subst, ◌⊎◌, inl, inr, ℕ, suc, ◌+◌, ◌≤◌, Bool, true, false, cond, List, [], ◌∷◌, ◌++◌, length, Option, Some, None, refl, arith, is_some, slice_get}
use Rattle.hs_standing.specs.Changes.{tells_at_once}
use Rattle.hs_awaiting.specs.declared.wait.Wait.TheVariants as wait
use Rattle.hs_awaiting.specs.declared.waiting.Waiting.{Waiting}
use Rattle.hs_awaiting.specs.Words.{change_if, change_with}
use Rattle.hs_core_words.specs.Asking.{send_round}
use Rattle.hs_core_words.specs.Changing.{add_entry_tasks, add_operation, change_group, note, post, set_viewed}
use Rattle.hs_core_words.specs.Effects.{note_enter, note_sweep, round_messages, tell_enter, tell_operation}
use Rattle.hs_core_words.specs.Looking.{catalogue_of, front_of, group_of, lead_of, operation_of, shape_of}
use Rattle.hs_core_words.specs.Operating.{add_read, begin_line, busy_line, carry_out, go_on_with, propose_entry, take_step, wait_for}
use Rattle.hs_core_words.specs.Seeing.{view_for}
use Rattle.hs_core_words.specs.State.{Core}
use Rattle.hs_core_words.specs.Views.{begin_view, restart}
use Rattle.hs_desk.specs.declared.what.What.{What}
use Rattle.hs_desk.specs.declared.what.What.TheVariants as what
use Rattle.hs_effects.specs.Taking.{taken}
use Rattle.hs_effects.proofs.GroupLemmas.{IsFirst, at_end, at_front, committed_first, group_changed, propose_front}
use Rattle.hs_effects.proofs.ViewLemmas.{at_cut}
use Rattle.hs_entry.specs.declared.entry.Entry.{Entry}
use Rattle.hs_entry.specs.declared.entry.Entry.TheVariants as kind
use Rattle.hs_journal.specs.declared.entry.Who.TheVariants as who
use Rattle.hs_members.specs.Members.{view_of}
use Rattle.hs_model.specs.declared.deed.Deed.TheVariants as deed
use Rattle.hs_model.specs.declared.op.Op.{Op}
use Rattle.hs_model.specs.declared.reply.Reply.TheVariants as reply
use Rattle.hs_ops.specs.declared.step.OpStep.{OpStep}
use Rattle.hs_ops.specs.declared.step.OpStep.TheVariants as step
use Rattle.hs_ops.specs.Operations.{Operation, after_step, effect_step, go_step, new_operation}
use Rattle.hs_ops.specs.Speaking.{judging_shard}
use Rattle.hs_ops.specs.Views.{OpView}
use Rattle.hs_replica.specs.Group.{Group, committed, last_number, proposal, propose, renew, renewal, take_committed}
use Rattle.hs_rounds.specs.Rounds.{sent_back}
use Rattle.hs_shard.specs.declared.effect.Effect.{Effect}
use Rattle.hs_shard.specs.Rounds.{messages}

-- each entry that waits is so, in its shard and behind that shard's front
abbrev pub Each : (ℕ → ℕ → Entry → Type 0) → Core → Type 0
Each P core = (shard place : ℕ) (entry : Entry) → slice_get (group_of shard core).waiting place ≡ Some entry → P shard (front_of shard core) entry

-- a list is as it was, or it is the one that changes
abbrev Changed : ℕ → (Group → Group) → Core → ℕ → Type 0
Changed shard f c g = (group_of g (change_group shard f c) ≡ group_of g c) ⊎ ((g ≡ shard) × (group_of g (change_group shard f c) ≡ f (group_of shard c)))

pub each_same : (P : ℕ → ℕ → Entry → Type 0) (a b : Core) → ((g : ℕ) → (group_of g b).waiting ≡ (group_of g a).waiting) → ((g : ℕ) → front_of g b ≡ front_of g a) → Each P a → Each P b
each_same P a b waiting front all shard place entry at =
    subst (λ n. P shard n entry) (sym (front shard)) (all shard place entry (sym (ap (λ (es : List Entry). slice_get es place) (waiting shard)) ∙ at))

-- ---- an entry more

listed : (P : ℕ → ℕ → Entry → Type 0) (shard : ℕ) (entry : Entry) (c : Core) → P shard (front_of shard c) entry → Each P c → Each P (change_group shard (propose entry) c)
listed P shard entry c new all g place e at = go (group_changed shard (propose entry) c g)
  where
    last : (slice_get (group_of shard c).waiting place ≡ Some e) ⊎ ((place ≡ length (group_of shard c).waiting) × (entry ≡ e)) → P shard (front_of shard c) e
    last (inl old) = all shard place e old
    last (inr is) = subst (λ x. P shard (front_of shard c) x) is.1 new

    go : Changed shard (propose entry) c g → P g (front_of g (change_group shard (propose entry) c)) e
    go (inl same) = subst (λ (x : Group). P g x.front e) (sym same) (all g place e (sym (ap (λ (x : Group). slice_get x.waiting place) same) ∙ at))
    go (inr is) =
        let front : front_of g (change_group shard (propose entry) c) ≡ front_of shard c = ap (λ (x : Group). x.front) is.1 ∙ propose_front entry (group_of shard c) in
        let there : slice_get ((group_of shard c).waiting ++ entry ∷ []) place ≡ Some e = sym (ap (λ (x : Group). slice_get x.waiting place) is.1) ∙ at in
        subst (λ j. P j (front_of g (change_group shard (propose entry) c)) e) (sym is.0)
        (subst (λ n. P shard n e) (sym front) (last (at_end (group_of shard c).waiting entry e place there)))

pub each_proposed : (P : ℕ → ℕ → Entry → Type 0) (shard : ℕ) (entry : Entry) (c : Core) → P shard (front_of shard c) entry → Each P c → Each P (propose_entry shard entry c)
each_proposed P shard entry c new all = go (lead_of shard c)
  where
    sent : Core
    sent = post (proposal entry (group_of shard c)) (change_group shard (propose entry) c)

    go : (lead : Option ℕ) → Each P (change_with lead (λ peer. add_entry_tasks peer (last_number (group_of shard c) + 1) entry) sent)
    go None = listed P shard entry c new all
    go (Some peer) = listed P shard entry c new all

front_listed : (g shard : ℕ) (entry : Entry) (c : Core) → front_of g (change_group shard (propose entry) c) ≡ front_of g c
front_listed g shard entry c = go (group_changed shard (propose entry) c g)
  where
    go : Changed shard (propose entry) c g → front_of g (change_group shard (propose entry) c) ≡ front_of g c
    go (inl same) = ap (λ (x : Group). x.front) same
    go (inr is) = ap (λ (x : Group). x.front) is.1 ∙ propose_front entry (group_of shard c) ∙ ap (λ j. front_of j c) (sym is.0)

pub front_proposed : (g shard : ℕ) (entry : Entry) (c : Core) → front_of g (propose_entry shard entry c) ≡ front_of g c
front_proposed g shard entry c = go (lead_of shard c)
  where
    sent : Core
    sent = post (proposal entry (group_of shard c)) (change_group shard (propose entry) c)

    go : (lead : Option ℕ) → front_of g (change_with lead (λ peer. add_entry_tasks peer (last_number (group_of shard c) + 1) entry) sent) ≡ front_of g c
    go None = front_listed g shard entry c
    go (Some peer) = front_listed g shard entry c

-- ---- an entry less

-- the others are where they were, one place nearer to the front in the list of the entry that is taken
pub each_taken : (P Q : ℕ → ℕ → Entry → Type 0) (shard number : ℕ) (entry : Entry) (c : Core) → committed (group_of shard c) ≡ Some (number, entry)
    → ((g n : ℕ) (x : Entry) → front_of g c ≤ n → P g (front_of g c) x → Q g n x) → Each P c → Each Q (taken shard entry c)
each_taken P Q shard number entry c e keep all g place x at = go (group_changed shard take_committed c g)
  where
    one : IsFirst (group_of shard c) number entry
    one = committed_first (group_of shard c) number entry e

    go : Changed shard take_committed c g → Q g (front_of g (change_group shard take_committed c)) x
    go (inl same) =
        subst (λ (y : Group). Q g y.front x) (sym same)
        (keep g (front_of g c) x (omega arith) (all g place x (sym (ap (λ (y : Group). slice_get y.waiting place) same) ∙ at)))
    go (inr is) =
        let there : slice_get (group_of shard c).waiting (suc place) ≡ Some x =
        sym (at_front (group_of shard c).waiting place) ∙ sym (ap (λ (es : List Entry). slice_get es place) one.taken.waiting) ∙ sym (ap (λ (y : Group). slice_get y.waiting place) is.1) ∙ at in
        let front : front_of g (change_group shard take_committed c) ≡ front_of shard c + 1 = ap (λ (y : Group). y.front) is.1 ∙ one.taken.front in
        subst (λ j. Q j (front_of g (change_group shard take_committed c)) x) (sym is.0)
        (subst (λ n. Q shard n x) (sym front) (keep shard (front_of shard c + 1) x (omega arith) (all shard (suc place) x there)))

-- ---- what waits of a list, where nothing comes to it

pub each_fewer : (P : ℕ → ℕ → Entry → Type 0) (shard : ℕ) (f : Group → Group) (c : Core) → (f (group_of shard c)).front ≡ front_of shard c
    → ((place : ℕ) (x : Entry) → slice_get (f (group_of shard c)).waiting place ≡ Some x → slice_get (group_of shard c).waiting place ≡ Some x) → Each P c → Each P (change_group shard f c)
each_fewer P shard f c front fewer all g place e at = go (group_changed shard f c g)
  where
    go : Changed shard f c g → P g (front_of g (change_group shard f c)) e
    go (inl same) = subst (λ (x : Group). P g x.front e) (sym same) (all g place e (sym (ap (λ (x : Group). slice_get x.waiting place) same) ∙ at))
    go (inr is) =
        subst (λ j. P j (front_of g (change_group shard f c)) e) (sym is.0)
        (subst (λ n. P shard n e) (sym (ap (λ (x : Group). x.front) is.1 ∙ front))
        (all shard place e (fewer place e (sym (ap (λ (x : Group). slice_get x.waiting place) is.1) ∙ at))))

pub front_kept : (g shard : ℕ) (f : Group → Group) (c : Core) → (f (group_of shard c)).front ≡ front_of shard c → front_of g (change_group shard f c) ≡ front_of g c
front_kept g shard f c front = go (group_changed shard f c g)
  where
    go : Changed shard f c g → front_of g (change_group shard f c) ≡ front_of g c
    go (inl same) = ap (λ (x : Group). x.front) same
    go (inr is) = ap (λ (x : Group). x.front) is.1 ∙ front ∙ ap (λ j. front_of j c) (sym is.0)

-- ---- one step of an operation

carried : (P : ℕ → ℕ → Entry → Type 0) (line : ℕ) (w : Waiting) (made : OpStep) (c : Core) → ((entry : Entry) → made ≡ step.Propose entry → P w.shard (front_of w.shard c) entry) → Each P c → Each P (carry_out line w made c)
carried P line w (step.Answer told) c new all = all
carried P line w (step.Propose entry) c new all = each_proposed P w.shard entry (wait_for line w (wait.Entry (last_number (group_of w.shard c) + 1)) c) (new entry refl) all
carried P line w (step.Compare number) c new all = go (lead_of w.shard c)
  where
    go : (lead : Option ℕ) → Each P (change_with lead (add_read number line) (wait_for line w (wait.Bytes number) c))
    go None = all
    go (Some peer) = all
carried P line w step.Wait c new all = all

stepped : (P : ℕ → ℕ → Entry → Type 0) (line : ℕ) (u : Waiting) (made : OpStep) (c : Core) → ((entry : Entry) → made ≡ step.Propose entry → P u.shard (front_of u.shard c) entry) → Each P c → Each P (take_step line u made c)
stepped P line u made c new all = carried P line (record u { operation = after_step made u.operation }) made c new all

pub each_goes : (P : ℕ → ℕ → Entry → Type 0) (next : OpView → Operation → OpStep) (line : ℕ) (c : Core)
    → ((u : Waiting) → operation_of line c ≡ Some u → (entry : Entry) → next (view_for u.shard u.operation.op c) u.operation ≡ step.Propose entry → P u.shard (front_of u.shard c) entry)
    → Each P c → Each P (go_on_with next line c)
each_goes P next line c new all = go (operation_of line c) refl
  where
    go : (o : Option Waiting) → operation_of line c ≡ o → Each P (change_with o (λ w. take_step line w (next (view_for w.shard w.operation.op c) w.operation)) c)
    go None at = all
    go (Some u) at = stepped P line u (next (view_for u.shard u.operation.op c) u.operation) c (new u at) all

-- the first step of a line's operation
abbrev pub first_made : ℕ → Op → Core → OpStep
first_made line o c =
    go_step (record (view_for (judging_shard (shape_of c).shards c.sessions o) o (record c { progress = record c.progress { last_line = line } })) { busy = busy_line o c }) (new_operation line o)

pub each_begun : (P : ℕ → ℕ → Entry → Type 0) (line : ℕ) (o : Op) (c : Core)
    → ((entry : Entry) → first_made line o c ≡ step.Propose entry → P (judging_shard (shape_of c).shards c.sessions o) (front_of (judging_shard (shape_of c).shards c.sessions o) c) entry)
    → Each P c → Each P (begin_line line o c)
each_begun P line o c new all = stepped P line w (first_made line o c) (add_operation line w (record c { progress = record c.progress { last_line = line } })) new all
  where
    w : Waiting
    w = record { operation = new_operation line o; shard = judging_shard (shape_of c).shards c.sessions o; wait = wait.View }

-- ---- no step moves a front

front_carried : (g line : ℕ) (w : Waiting) (made : OpStep) (c : Core) → front_of g (carry_out line w made c) ≡ front_of g c
front_carried g line w (step.Answer told) c = refl
front_carried g line w (step.Propose entry) c = front_proposed g w.shard entry (wait_for line w (wait.Entry (last_number (group_of w.shard c) + 1)) c)
front_carried g line w (step.Compare number) c = go (lead_of w.shard c)
  where
    go : (lead : Option ℕ) → front_of g (change_with lead (add_read number line) (wait_for line w (wait.Bytes number) c)) ≡ front_of g c
    go None = refl
    go (Some peer) = refl
front_carried g line w step.Wait c = refl

pub front_goes : (g : ℕ) (next : OpView → Operation → OpStep) (line : ℕ) (c : Core) → front_of g (go_on_with next line c) ≡ front_of g c
front_goes g next line c = go (operation_of line c)
  where
    go : (o : Option Waiting) → front_of g (change_with o (λ w. take_step line w (next (view_for w.shard w.operation.op c) w.operation)) c) ≡ front_of g c
    go None = refl
    go (Some u) = front_carried g line (record u { operation = after_step (next (view_for u.shard u.operation.op c) u.operation) u.operation }) (next (view_for u.shard u.operation.op c) u.operation) c

pub front_begun : (g line : ℕ) (o : Op) (c : Core) → front_of g (begin_line line o c) ≡ front_of g c
front_begun g line o c =
    front_carried g line (record w { operation = after_step (first_made line o c) w.operation }) (first_made line o c) (add_operation line w (record c { progress = record c.progress { last_line = line } }))
  where
    w : Waiting
    w = record { operation = new_operation line o; shard = judging_shard (shape_of c).shards c.sessions o; wait = wait.View }

-- ---- a round is sent again, and a first view begins

pub group_again : (g back shard : ℕ) (c : Core) → group_of g (send_round back shard c) ≡ group_of g c
group_again g back shard c = go (sent_back back (catalogue_of shard c).run)
  where
    go : (o : Option (ℕ × ℕ)) → group_of g (change_with o (λ at. post (round_messages shard (messages (catalogue_of shard c).shape.shards at.0 at.1 (catalogue_of shard c).run))) c) ≡ group_of g c
    go None = refl
    go (Some at) = refl

module _ (shard : ℕ) (c : Core) where
  abbrev cut : Core
  cut = change_group shard (renew c.members) (set_viewed shard false c)

  abbrev renewed : Core
  renewed = post (renewal (group_of shard (restart shard cut))) (restart shard cut)

  pub each_viewed : (P : ℕ → ℕ → Entry → Type 0) → P shard (front_of shard c) (kind.View (view_of shard c.members)) → Each P c → Each P (begin_view shard c)
  each_viewed P new all =
      each_proposed P shard (kind.View (view_of shard c.members)) renewed (subst (λ n. P shard n (kind.View (view_of shard c.members))) (sym (front_kept shard shard (renew c.members) (set_viewed shard false c) refl)) new)
      (each_fewer P shard (renew c.members) (set_viewed shard false c) refl (λ place x at. at_cut _ (group_of shard c).waiting place x at) all)

  pub front_viewed : (g : ℕ) → front_of g (begin_view shard c) ≡ front_of g c
  front_viewed g = front_proposed g shard (kind.View (view_of shard c.members)) renewed ∙ front_kept g shard (renew c.members) (set_viewed shard false c) refl

-- ---- what is told at once of an entry

entered : (P : ℕ → ℕ → Entry → Type 0) (shard : ℕ) (did : What) (c : Core) → Each P c → Each P (note_enter shard did c)
entered P shard what.Nothing c all = all
entered P shard (what.Viewed view) c all = all
entered P shard what.Stored c all = all
entered P shard what.Marked c all = all
entered P shard what.Again c all = all
entered P shard what.Rooted c all = all
entered P shard what.Dropped c all = all
entered P shard (what.Entered epoch) c all = all
entered P shard what.Refused c all = all

swept : (P : ℕ → ℕ → Entry → Type 0) (shard removed : ℕ) (c : Core) → Each P c → Each P (note_sweep shard removed c)
swept P shard removed c all = go _
  where
    go : (b : Bool) → Each P (change_if b (note who.Store deed.Nothing (reply.Done (catalogue_of shard c).swept)) (note (who.Shard shard) (deed.Swept shard) (reply.Sweep (catalogue_of shard c).swept removed) c))
    go true = all
    go false = all

tells_enter : (P : ℕ → ℕ → Entry → Type 0) (shard line : ℕ) (did : What) (c : Core) → Each P (tell_operation line did c) → Each P c → Each P (tell_enter shard line did c)
tells_enter P shard line did c told all = go (is_some (operation_of line c))
  where
    go : (b : Bool) → Each P (cond b (tell_operation line did c) (note_enter shard did c))
    go true = told
    go false = entered P shard did c all

pub each_told : (P : ℕ → ℕ → Entry → Type 0) (shard : ℕ) (c : Core) (x : Entry) (effect : Effect) → ((line : ℕ) (did : What) → Each P (tell_operation line did c)) → Each P c → Each P (tells_at_once shard x effect c)
each_told P shard c (kind.View view) effect told all = all
each_told P shard c (kind.Block line least bytes) effect told all = told line effect.what
each_told P shard c (kind.Mark line least block a) effect told all = told line effect.what
each_told P shard c (kind.Root line held a key) effect told all = told line effect.what
each_told P shard c (kind.Drop line key) effect told all = told line effect.what
each_told P shard c (kind.Enter line epoch) effect told all = tells_enter P shard line effect.what c (told line effect.what) all
each_told P shard c (kind.Got from epoch round total deltas) effect told all = go effect.removed
  where
    go : (removed : Option ℕ) → Each P (change_with removed (note_sweep shard) c)
    go None = all
    go (Some n) = swept P shard n c all
each_told P shard c (kind.Base view epoch swept round frames) effect told all = all
each_told P shard c (kind.KeptBlock born mark flags count bytes) effect told all = all
each_told P shard c (kind.KeptRoot created dropped counted address key) effect told all = all
each_told P shard c (kind.KeptRound way other epoch round total deltas) effect told all = all

-- nor does that move a front
front_entered : (g shard : ℕ) (did : What) (c : Core) → front_of g (note_enter shard did c) ≡ front_of g c
front_entered g shard what.Nothing c = refl
front_entered g shard (what.Viewed view) c = refl
front_entered g shard what.Stored c = refl
front_entered g shard what.Marked c = refl
front_entered g shard what.Again c = refl
front_entered g shard what.Rooted c = refl
front_entered g shard what.Dropped c = refl
front_entered g shard (what.Entered epoch) c = refl
front_entered g shard what.Refused c = refl

front_swept : (g shard removed : ℕ) (c : Core) → front_of g (note_sweep shard removed c) ≡ front_of g c
front_swept g shard removed c = go _
  where
    go : (b : Bool) → front_of g (change_if b (note who.Store deed.Nothing (reply.Done (catalogue_of shard c).swept)) (note (who.Shard shard) (deed.Swept shard) (reply.Sweep (catalogue_of shard c).swept removed) c)) ≡ front_of g c
    go true = refl
    go false = refl

front_operation : (g line : ℕ) (did : What) (c : Core) → front_of g (tell_operation line did c) ≡ front_of g c
front_operation g line did c = front_goes g (λ v o. effect_step v did o) line c

front_tells_enter : (g shard line : ℕ) (did : What) (c : Core) → front_of g (tell_enter shard line did c) ≡ front_of g c
front_tells_enter g shard line did c = go (is_some (operation_of line c))
  where
    go : (b : Bool) → front_of g (cond b (tell_operation line did c) (note_enter shard did c)) ≡ front_of g c
    go true = front_operation g line did c
    go false = front_entered g shard did c

pub front_told : (g shard : ℕ) (c : Core) (x : Entry) (effect : Effect) → front_of g (tells_at_once shard x effect c) ≡ front_of g c
front_told g shard c (kind.View view) effect = refl
front_told g shard c (kind.Block line least bytes) effect = front_operation g line effect.what c
front_told g shard c (kind.Mark line least block a) effect = front_operation g line effect.what c
front_told g shard c (kind.Root line held a key) effect = front_operation g line effect.what c
front_told g shard c (kind.Drop line key) effect = front_operation g line effect.what c
front_told g shard c (kind.Enter line epoch) effect = front_tells_enter g shard line effect.what c
front_told g shard c (kind.Got from epoch round total deltas) effect = go effect.removed
  where
    go : (removed : Option ℕ) → front_of g (change_with removed (note_sweep shard) c) ≡ front_of g c
    go None = refl
    go (Some n) = front_swept g shard n c
front_told g shard c (kind.Base view epoch swept round frames) effect = refl
front_told g shard c (kind.KeptBlock born mark flags count bytes) effect = refl
front_told g shard c (kind.KeptRoot created dropped counted address key) effect = refl
front_told g shard c (kind.KeptRound way other epoch round total deltas) effect = refl
