-- What goes on behind an entry changes no catalogue, its entries come behind those that wait, and nothing more is known of copies.
use Rattle.std.proofs.Common.{◌≡◌, ◌∙◌, sym, ap, ◌⊎◌, inl, inr, ℕ, ◌+◌, Bool, true, false, cond, List, [], ◌∷◌, ◌++◌, append-nil, append_assoc, Option, Some, None, refl, is_some}
use Rattle.std.specs.Prelude.{slice_index_or}
use Rattle.hs_standing.specs.Changes.{tells_at_once}
use Rattle.hs_awaiting.specs.declared.wait.Wait.{Wait}
use Rattle.hs_awaiting.specs.declared.wait.Wait.TheVariants as wait
use Rattle.hs_awaiting.specs.declared.waiting.Waiting.{Waiting}
use Rattle.hs_awaiting.specs.Words.{change_if, change_with, each}
use Rattle.hs_core_words.specs.Asking.{send_round}
use Rattle.hs_core_words.specs.Changing.{add_entry_tasks, add_operation, change_group, note, post}
use Rattle.hs_core_words.specs.Effects.{note_enter, note_sweep, round_messages, tell_enter, tell_operation}
use Rattle.hs_core_words.specs.Looking.{catalogue_of, front_of, group_of, lead_of, operation_of, shape_of}
use Rattle.hs_core_words.specs.Operating.{add_read, answer, begin_line, busy_line, carry_out, go_on_with, propose_entry, take_step, wait_for, what_holds}
use Rattle.hs_core_words.specs.Seeing.{view_for}
use Rattle.hs_core_words.specs.State.{Core}
use Rattle.hs_desk.specs.declared.what.What.{What}
use Rattle.hs_desk.specs.declared.what.What.TheVariants as what
use Rattle.hs_effects.proofs.GroupLemmas.{group_changed, propose_front}
use Rattle.hs_entry.specs.declared.entry.Entry.{Entry}
use Rattle.hs_entry.specs.declared.entry.Entry.TheVariants as kind
use Rattle.hs_journal.specs.declared.entry.Who.TheVariants as who
use Rattle.hs_limits.specs.declared.shape.Shape.{Shape}
use Rattle.hs_model.specs.declared.deed.Deed.TheVariants as deed
use Rattle.hs_model.specs.declared.op.Op.{Op}
use Rattle.hs_model.specs.declared.reply.Reply.TheVariants as reply
use Rattle.hs_ops.specs.declared.step.OpStep.{OpStep}
use Rattle.hs_ops.specs.declared.step.OpStep.TheVariants as step
use Rattle.hs_ops.specs.Operations.{Operation, after_step, effect_step, go_step, new_operation}
use Rattle.hs_ops.specs.Speaking.{judging_shard}
use Rattle.hs_ops.specs.Views.{OpView}
use Rattle.hs_standing.proofs.KnownLemmas.{proposed_front}
use Rattle.hs_replica.specs.Group.{Group, commit_front, last_number, proposal, propose}
use Rattle.hs_rounds.specs.Rounds.{sent_back}
use Rattle.hs_shard.specs.declared.effect.Effect.{Effect}
use Rattle.hs_shard.specs.Facts.{Catalogue, empty_catalogue}
use Rattle.hs_shard.specs.Rounds.{messages}

pub record Grown (a b : Core) : Type 0 where
  pub shape : shape_of b ≡ shape_of a
  pub catalogues : b.catalogues ≡ a.catalogues
  pub waiting : (g : ℕ) → (more : List Entry) × ((group_of g b).waiting ≡ (group_of g a).waiting ++ more)
  pub front : (g : ℕ) → front_of g b ≡ front_of g a
  pub known : (g : ℕ) → commit_front (group_of g b) ≡ commit_front (group_of g a)

-- the lists are the same
pub grown_still : (a b : Core) → shape_of b ≡ shape_of a → b.catalogues ≡ a.catalogues → ((g : ℕ) → group_of g b ≡ group_of g a) → Grown a b
grown_still a b shape catalogues groups = record {
  shape = shape;
  catalogues = catalogues;
  waiting = λ g. ([], ap (λ (x : Group). x.waiting) (groups g) ∙ sym (append-nil (group_of g a).waiting));
  front = λ g. ap (λ (x : Group). x.front) (groups g);
  known = λ g. ap commit_front (groups g);
}

pub grown_same : (c : Core) → Grown c c
grown_same c = grown_still c c refl refl (λ g. refl)

pub grown_both : (a b c : Core) → Grown a b → Grown b c → Grown a c
grown_both a b c p q = record {
  shape = q.shape ∙ p.shape;
  catalogues = q.catalogues ∙ p.catalogues;
  waiting = λ g. let one = p.waiting g in let two = q.waiting g in
      (one.0 ++ two.0, two.1 ∙ ap (λ ws. ws ++ two.0) one.1 ∙ append_assoc (group_of g a).waiting one.0 two.0);
  front = λ g. q.front g ∙ p.front g;
  known = λ g. q.known g ∙ p.known g;
}

-- a part of a list stays where one list changes but for it
part_stays : {X : Type 0} (part : Group → X) (shard : ℕ) (f : Group → Group) (c : Core) → part (f (group_of shard c)) ≡ part (group_of shard c) → (g : ℕ) → part (group_of g (change_group shard f c)) ≡ part (group_of g c)
part_stays part shard f c same g = go (group_changed shard f c g)
  where
    go : (group_of g (change_group shard f c) ≡ group_of g c) ⊎ ((g ≡ shard) × (group_of g (change_group shard f c) ≡ f (group_of shard c))) → part (group_of g (change_group shard f c)) ≡ part (group_of g c)
    go (inl e) = ap part e
    go (inr e) = ap part e.1 ∙ same ∙ ap (λ k. part (group_of k c)) (sym e.0)

-- one changes, but not what waits in it or what is known of it
pub grown_group : (shard : ℕ) (f : Group → Group) (c : Core) → (f (group_of shard c)).waiting ≡ (group_of shard c).waiting → (f (group_of shard c)).front ≡ front_of shard c → commit_front (f (group_of shard c)) ≡ commit_front (group_of shard c)
    → Grown c (change_group shard f c)
grown_group shard f c waits front known = record {
  shape = refl;
  catalogues = refl;
  waiting = λ g. ([], part_stays (λ (x : Group). x.waiting) shard f c waits g ∙ sym (append-nil (group_of g c).waiting));
  front = part_stays (λ (x : Group). x.front) shard f c front;
  known = part_stays commit_front shard f c known;
}

pub grown_with : {B : Type 0} (o : Option B) (f : B → Core → Core) (c : Core) → ((y : B) (x : Core) → Grown x (f y x)) → Grown c (change_with o f c)
grown_with None f c h = grown_same c
grown_with (Some y) f c h = h y c

pub grown_each : {B : Type 0} (ys : List B) (f : B → Core → Core) (c : Core) → ((y : B) (x : Core) → Grown x (f y x)) → Grown c (each ys f c)
grown_each [] f c h = grown_same c
grown_each (y ∷ ys) f c h = grown_both c (f y c) (each ys f (f y c)) (h y c) (grown_each ys f (f y c) h)

pub grown_catalogue : (a b : Core) → Grown a b → (g : ℕ) → catalogue_of g b ≡ catalogue_of g a
grown_catalogue a b p g =
    ap (λ (s : Shape). slice_index_or b.catalogues g (empty_catalogue s g)) p.shape
    ∙ ap (λ (cs : List Catalogue). slice_index_or cs g (empty_catalogue (shape_of a) g)) p.catalogues

-- ---- an entry is proposed

grown_listed : (shard : ℕ) (entry : Entry) (c : Core) → Grown c (change_group shard (propose entry) c)
grown_listed shard entry c = record {
  shape = refl;
  catalogues = refl;
  waiting = λ g. go g (group_changed shard (propose entry) c g);
  front = part_stays (λ (x : Group). x.front) shard (propose entry) c (propose_front entry (group_of shard c));
  known = part_stays commit_front shard (propose entry) c (proposed_front entry (group_of shard c));
}
  where
    go : (g : ℕ) → (group_of g (change_group shard (propose entry) c) ≡ group_of g c) ⊎ ((g ≡ shard) × (group_of g (change_group shard (propose entry) c) ≡ propose entry (group_of shard c)))
        → (more : List Entry) × ((group_of g (change_group shard (propose entry) c)).waiting ≡ (group_of g c).waiting ++ more)
    go g (inl same) = ([], ap (λ (x : Group). x.waiting) same ∙ sym (append-nil (group_of g c).waiting))
    go g (inr is) = (entry ∷ [], ap (λ (x : Group). x.waiting) is.1 ∙ ap (λ k. (group_of k c).waiting ++ entry ∷ []) (sym is.0))

pub grown_proposes : (shard : ℕ) (entry : Entry) (c : Core) → Grown c (propose_entry shard entry c)
grown_proposes shard entry c = grown_both c (change_group shard (propose entry) c) (propose_entry shard entry c) (grown_listed shard entry c) (go (lead_of shard c))
  where
    sent : Core
    sent = post (proposal entry (group_of shard c)) (change_group shard (propose entry) c)

    go : (lead : Option ℕ) → Grown (change_group shard (propose entry) c) (change_with lead (λ peer. add_entry_tasks peer (last_number (group_of shard c) + 1) entry) sent)
    go None = grown_still (change_group shard (propose entry) c) sent refl refl (λ g. refl)
    go (Some peer) = grown_still (change_group shard (propose entry) c) (add_entry_tasks peer (last_number (group_of shard c) + 1) entry sent) refl refl (λ g. refl)

-- ---- an operation goes on

grown_waits : (line : ℕ) (w : Waiting) (what : Wait) (c : Core) → Grown c (wait_for line w what c)
grown_waits line w what c = grown_still c (wait_for line w what c) refl refl (λ g. refl)

grown_reads : (lead : Option ℕ) (number line : ℕ) (c : Core) → Grown c (change_with lead (add_read number line) c)
grown_reads None number line c = grown_same c
grown_reads (Some peer) number line c = grown_still c (add_read number line peer c) refl refl (λ g. refl)

grown_carries : (line : ℕ) (w : Waiting) (taken : OpStep) (c : Core) → Grown c (carry_out line w taken c)
grown_carries line w (step.Answer told) c = grown_still c (answer line w told c) refl refl (λ g. refl)
grown_carries line w (step.Propose entry) c =
    let waits : Core = wait_for line w (wait.Entry (last_number (group_of w.shard c) + 1)) c in
    grown_both c waits (propose_entry w.shard entry waits) (grown_waits line w (wait.Entry (last_number (group_of w.shard c) + 1)) c) (grown_proposes w.shard entry waits)
grown_carries line w (step.Compare number) c =
    let waits : Core = wait_for line w (wait.Bytes number) c in
    grown_both c waits (change_with (lead_of w.shard c) (add_read number line) waits) (grown_waits line w (wait.Bytes number) c) (grown_reads (lead_of w.shard c) number line waits)
grown_carries line w step.Wait c = grown_waits line w (what_holds w c) c

pub grown_goes : (next : OpView → Operation → OpStep) (line : ℕ) (c : Core) → Grown c (go_on_with next line c)
grown_goes next line c = go (operation_of line c)
  where
    go : (o : Option Waiting) → Grown c (change_with o (λ w. take_step line w (next (view_for w.shard w.operation.op c) w.operation)) c)
    go None = grown_same c
    go (Some w) =
        let taken : OpStep = next (view_for w.shard w.operation.op c) w.operation in
        grown_carries line (record w { operation = after_step taken w.operation }) taken c

-- a client's line begins one
pub grown_begins : (line : ℕ) (o : Op) (c : Core) → Grown c (begin_line line o c)
grown_begins line o c =
    let begun : Core = record c { progress = record c.progress { last_line = line } } in
    let shard : ℕ = judging_shard (shape_of c).shards c.sessions o in
    let w : Waiting = record { operation = new_operation line o; shard = shard; wait = wait.View } in
    let v : OpView = record (view_for shard o begun) { busy = busy_line o c } in
    let added : Core = add_operation line w begun in
    let taken : OpStep = go_step v w.operation in
    grown_both c added (begin_line line o c) (grown_still c added refl refl (λ g. refl)) (grown_carries line (record w { operation = after_step taken w.operation }) taken added)

-- ---- a round is sent again

pub grown_round : (back shard : ℕ) (c : Core) → Grown c (send_round back shard c)
grown_round back shard c =
    let run = (catalogue_of shard c).run in
    grown_with (sent_back back run) (λ sent. post (round_messages shard (messages (catalogue_of shard c).shape.shards sent.0 sent.1 run))) c (λ sent x. grown_still x _ refl refl (λ g. refl))

-- ---- what is told of an entry

grown_sweeps : (shard removed : ℕ) (c : Core) → Grown c (note_sweep shard removed c)
grown_sweeps shard removed c = go _
  where
    first : Core
    first = note (who.Shard shard) (deed.Swept shard) (reply.Sweep (catalogue_of shard c).swept removed) c

    go : (b : Bool) → Grown c (change_if b (note who.Store deed.Nothing (reply.Done (catalogue_of shard c).swept)) (note (who.Shard shard) (deed.Swept shard) (reply.Sweep (catalogue_of shard c).swept removed) c))
    go true = grown_still c (note who.Store deed.Nothing (reply.Done (catalogue_of shard c).swept) first) refl refl (λ g. refl)
    go false = grown_still c first refl refl (λ g. refl)

grown_enters : (shard : ℕ) (did : What) (c : Core) → Grown c (note_enter shard did c)
grown_enters shard what.Nothing c = grown_same c
grown_enters shard (what.Viewed view) c = grown_same c
grown_enters shard what.Stored c = grown_same c
grown_enters shard what.Marked c = grown_same c
grown_enters shard what.Again c = grown_same c
grown_enters shard what.Rooted c = grown_same c
grown_enters shard what.Dropped c = grown_same c
grown_enters shard (what.Entered epoch) c = grown_still c (note (who.Shard shard) (deed.Entered shard) (reply.Enter epoch) c) refl refl (λ g. refl)
grown_enters shard what.Refused c = grown_same c

grown_told : (line : ℕ) (did : What) (c : Core) → Grown c (tell_operation line did c)
grown_told line did c = grown_goes (λ v o. effect_step v did o) line c

grown_entered : (shard line : ℕ) (did : What) (c : Core) → Grown c (tell_enter shard line did c)
grown_entered shard line did c = go (is_some (operation_of line c))
  where
    go : (b : Bool) → Grown c (cond b (tell_operation line did c) (note_enter shard did c))
    go true = grown_told line did c
    go false = grown_enters shard did c

pub grown_tells : (shard : ℕ) (entry : Entry) (effect : Effect) (c : Core) → Grown c (tells_at_once shard entry effect c)
grown_tells shard (kind.View view) effect c = grown_same c
grown_tells shard (kind.Block line least bytes) effect c = grown_told line effect.what c
grown_tells shard (kind.Mark line least block a) effect c = grown_told line effect.what c
grown_tells shard (kind.Root line held a key) effect c = grown_told line effect.what c
grown_tells shard (kind.Drop line key) effect c = grown_told line effect.what c
grown_tells shard (kind.Enter line epoch) effect c = grown_entered shard line effect.what c
grown_tells shard (kind.Got from epoch round total deltas) effect c = go effect.removed
  where
    go : (o : Option ℕ) → Grown c (change_with o (note_sweep shard) c)
    go None = grown_same c
    go (Some removed) = grown_sweeps shard removed c
grown_tells shard (kind.Base view epoch swept round frames) effect c = grown_same c
grown_tells shard (kind.KeptBlock born mark flags count bytes) effect c = grown_same c
grown_tells shard (kind.KeptRoot created dropped counted address key) effect c = grown_same c
grown_tells shard (kind.KeptRound way other epoch round total deltas) effect c = grown_same c
