-- Operations, lines of clients and what is told of an entry only bring entries to the ends of lists: nothing takes effect, and no View comes.
use Rattle.std.proofs.Common.{◌≡◌, ◌≢◌, ◌∙◌, ap, sym, subst, inl, inr, ℕ, ◌+◌, ◌<◌, ◌==◌, Bool, true, false, cond, List, [], ◌∷◌, ◌++◌, Option, Some, None, refl, length, append-nil, append_assoc}
use Rattle.std.proofs.lemmas.Bool.{cases_eq, cases_lt, eq-eqb, ne_eqb}
use Rattle.std.proofs.lemmas.List.{get_or-set_other, get_or-set_same, set_past}
use Rattle.std.specs.List.{AllByRecursion, list_all}
use Rattle.std.specs.Prelude.{is_some, nat_le, slice_index_or}
use Rattle.hs_standing.specs.Changes.{IsBeside, tells_at_once}
use Rattle.hs_awaiting.specs.declared.wait.Wait.{Wait}
use Rattle.hs_awaiting.specs.declared.wait.Wait.TheVariants as wait
use Rattle.hs_awaiting.specs.declared.waiting.Waiting.{Waiting}
use Rattle.hs_awaiting.specs.Words.{change_if, change_with}
use Rattle.hs_core_words.specs.Asking.{send_round}
use Rattle.hs_core_words.specs.Changing.{add_entry_tasks, add_operation, change_group, note, post}
use Rattle.hs_core_words.specs.Effects.{note_enter, note_sweep, round_messages, tell_enter, tell_operation}
use Rattle.hs_core_words.specs.Looking.{catalogue_of, front_of, group_of, lead_of, operation_of, shape_of}
use Rattle.hs_core_words.specs.Operating.{add_read, answer, begin_line, busy_line, carry_out, go_on_with, propose_entry, take_step, wait_for, what_holds}
use Rattle.hs_core_words.specs.Seeing.{view_for}
use Rattle.hs_core_words.specs.State.{Core}
use Rattle.hs_desk.specs.declared.what.What.{What}
use Rattle.hs_desk.specs.declared.what.What.TheVariants as what
use Rattle.hs_entry.specs.declared.entry.Entry.{Entry}
use Rattle.hs_entry.specs.declared.entry.Entry.TheVariants as kind
use Rattle.hs_fold.proofs.Shards.LawfulLemmas.{each-append}
use Rattle.hs_journal.specs.declared.entry.Who.TheVariants as who
use Rattle.hs_model.specs.declared.deed.Deed.TheVariants as deed
use Rattle.hs_model.specs.declared.op.Op.{Op}
use Rattle.hs_model.specs.declared.reply.Reply.TheVariants as reply
use Rattle.hs_ops.specs.declared.step.OpStep.{OpStep}
use Rattle.hs_ops.specs.declared.step.OpStep.TheVariants as step
use Rattle.hs_ops.specs.Operations.{Operation, after_step, effect_step, go_step, new_operation}
use Rattle.hs_ops.specs.Speaking.{judging_shard}
use Rattle.hs_ops.specs.Views.{OpView}
use Rattle.hs_replica.specs.Group.{Group, last_number, lead, lead_takes, new_group, proposal, propose}
use Rattle.hs_rounds.specs.Rounds.{sent_back}
use Rattle.hs_shard.specs.declared.effect.Effect.{Effect}
use Rattle.hs_shard.specs.Rounds.{messages}
use Rattle.hs_standing.proofs.QuietLemmas.{BringsNoView, ProposesNoView, quiet_effect, quiet_step}

-- ---- what comes to the ends of lists

pub record Proposes (a b : Core) : Type 0 where
  pub limits : b.limits ≡ a.limits
  pub shape : shape_of b ≡ shape_of a
  pub front : (g : ℕ) → front_of g b ≡ front_of g a
  pub more : ℕ → List Entry
  pub waiting : (g : ℕ) → (group_of g b).waiting ≡ (group_of g a).waiting ++ more g
  pub quiet : (g : ℕ) → AllByRecursion BringsNoView (more g)

-- nothing comes where lists are as they were
pub proposes_as : (a b : Core) → b.limits ≡ a.limits → shape_of b ≡ shape_of a → ((g : ℕ) → group_of g b ≡ group_of g a) → Proposes a b
proposes_as a b limits shape same = record {
  limits = limits;
  shape = shape;
  front = λ g. ap (λ (y : Group). y.front) (same g);
  more = λ g. [];
  waiting = λ g. ap (λ (y : Group). y.waiting) (same g) ∙ sym (append-nil (group_of g a).waiting);
  quiet = λ g. tt;
}

pub proposes_same : (c : Core) → Proposes c c
proposes_same c = proposes_as c c refl refl (λ g. refl)

pub proposes_both : (a b c : Core) → Proposes a b → Proposes b c → Proposes a c
proposes_both a b c p q = record {
  limits = q.limits ∙ p.limits;
  shape = q.shape ∙ p.shape;
  front = λ g. q.front g ∙ p.front g;
  more = λ g. p.more g ++ q.more g;
  waiting = λ g. q.waiting g ∙ ap (λ ws. ws ++ q.more g) (p.waiting g) ∙ append_assoc (group_of g a).waiting (p.more g) (q.more g);
  quiet = λ g. each-append BringsNoView (p.more g) (q.more g) (p.quiet g) (q.quiet g);
}

pub proposes_beside : (a b : Core) → IsBeside a b → Proposes a b
proposes_beside a b beside = record {
  limits = beside.limits;
  shape = beside.shape;
  front = beside.front;
  more = λ g. [];
  waiting = λ g. beside.waiting g ∙ sym (append-nil (group_of g a).waiting);
  quiet = λ g. tt;
}

proposes_if : (b : Bool) (f : Core → Core) (c : Core) → ((x : Core) → Proposes x (f x)) → Proposes c (change_if b f c)
proposes_if true f c h = h c
proposes_if false f c h = proposes_same c

pub proposes_with : {B : Type 0} (o : Option B) (f : B → Core → Core) (c : Core) → ((y : B) (x : Core) → Proposes x (f y x)) → Proposes c (change_with o f c)
proposes_with None f c h = proposes_same c
proposes_with (Some y) f c h = h y c

-- ---- one entry

propose_front : (entry : Entry) (group : Group) → (propose entry group).front ≡ group.front
propose_front entry group = by_lead (lead group)
  where
    by_lead : (l : Option ℕ) → (lead_takes l entry group).front ≡ group.front
    by_lead None = refl
    by_lead (Some l) = refl

module _ (shard : ℕ) (entry : Entry) (c : Core) (quiet : BringsNoView entry) where
  abbrev one : Core
  one = change_group shard (propose entry) c

  abbrev none : ℕ → Group
  none g = new_group (shape_of c) g 0 0 []

  abbrev one_more : ℕ → List Entry
  one_more g = cond (g == shard) (entry ∷ []) []

  -- there is such a list
  list_goes : shard < length c.groups → Proposes c (change_group shard (propose entry) c)
  list_goes low = record { limits = refl; shape = refl; front = front_is; more = one_more; waiting = waiting_is; quiet = λ g. quiet_is (g == shard) }
    where
      here : group_of shard one ≡ propose entry (group_of shard c)
      here = get_or-set_same c.groups shard (propose entry (group_of shard c)) (none shard) low

      there : (g : ℕ) → g ≢ shard → group_of g one ≡ group_of g c
      there g differs = get_or-set_other c.groups shard g (propose entry (group_of shard c)) (none g) differs

      front_is : (g : ℕ) → front_of g one ≡ front_of g c
      front_is g = elim (cases_eq g shard) [
        | inl same ↦ subst (λ k. front_of k one ≡ front_of k c) (sym same) (ap (λ (y : Group). y.front) here ∙ propose_front entry (group_of shard c))
        | inr differs ↦ ap (λ (y : Group). y.front) (there g differs)
      ]

      waiting_is : (g : ℕ) → (group_of g one).waiting ≡ (group_of g c).waiting ++ cond (g == shard) (entry ∷ []) []
      waiting_is g = elim (cases_eq g shard) [
        | inl same ↦ subst (λ k. (group_of k one).waiting ≡ (group_of k c).waiting ++ cond (k == shard) (entry ∷ []) []) (sym same)
            (ap (λ (y : Group). y.waiting) here ∙ ap (λ b. (group_of shard c).waiting ++ cond b (entry ∷ []) []) (sym (eq-eqb shard shard refl)))
        | inr differs ↦ ap (λ (y : Group). y.waiting) (there g differs) ∙ sym (append-nil (group_of g c).waiting) ∙ ap (λ b. (group_of g c).waiting ++ cond b (entry ∷ []) []) (sym (ne_eqb g shard differs))
      ]

      quiet_is : (b : Bool) → AllByRecursion BringsNoView (cond b (entry ∷ []) [])
      quiet_is true = (quiet, tt)
      quiet_is false = tt

  list_proposes : Proposes c (change_group shard (propose entry) c)
  list_proposes = elim (cases_lt shard (length c.groups)) [
    | inl low ↦ list_goes low
    | inr high ↦ proposes_as c one refl refl (λ g. ap (λ gs. slice_index_or gs g (none g)) (set_past c.groups shard (propose entry (group_of shard c)) high))
  ]

  pub proposes_entry : Proposes c (propose_entry shard entry c)
  proposes_entry =
      let two : Core = post (proposal entry (group_of shard c)) one in
      proposes_both c one (propose_entry shard entry c) list_proposes
      (proposes_both one two (propose_entry shard entry c) (proposes_as one two refl refl (λ g. refl))
      (proposes_with (lead_of shard c) (λ peer. add_entry_tasks peer (last_number (group_of shard c) + 1) entry) two (λ peer x. proposes_as x (add_entry_tasks peer (last_number (group_of shard c) + 1) entry x) refl refl (λ g. refl))))

-- ---- operations

proposes_wait : (line : ℕ) (w : Waiting) (held : Wait) (c : Core) → Proposes c (wait_for line w held c)
proposes_wait line w held c = proposes_as c (wait_for line w held c) refl refl (λ g. refl)

proposes_carry : (line : ℕ) (w : Waiting) (taken : OpStep) (c : Core) → ProposesNoView taken → Proposes c (carry_out line w taken c)
proposes_carry line w (step.Answer told) c h = proposes_as c (answer line w told c) refl refl (λ g. refl)
proposes_carry line w (step.Propose entry) c h =
    let x : Core = wait_for line w (wait.Entry (last_number (group_of w.shard c) + 1)) c in
    proposes_both c x (propose_entry w.shard entry x) (proposes_wait line w (wait.Entry (last_number (group_of w.shard c) + 1)) c) (proposes_entry w.shard entry x h)
proposes_carry line w (step.Compare number) c h =
    let x : Core = wait_for line w (wait.Bytes number) c in
    proposes_both c x (change_with (lead_of w.shard c) (add_read number line) x) (proposes_wait line w (wait.Bytes number) c)
    (proposes_with (lead_of w.shard c) (add_read number line) x (λ peer y. proposes_as y (add_read number line peer y) refl refl (λ g. refl)))
proposes_carry line w step.Wait c h = proposes_wait line w (what_holds w c) c

proposes_step : (line : ℕ) (w : Waiting) (taken : OpStep) (c : Core) → ProposesNoView taken → Proposes c (take_step line w taken c)
proposes_step line w taken c h = proposes_carry line (record w { operation = after_step taken w.operation }) taken c h

pub proposes_go_on : (next : OpView → Operation → OpStep) (line : ℕ) (c : Core) → ((v : OpView) (o : Operation) → ProposesNoView (next v o)) → Proposes c (go_on_with next line c)
proposes_go_on next line c h =
    proposes_with (operation_of line c) (λ w. take_step line w (next (view_for w.shard w.operation.op c) w.operation)) c
    (λ w x. proposes_step line w (next (view_for w.shard w.operation.op c) w.operation) x (h (view_for w.shard w.operation.op c) w.operation))

pub proposes_line : (line : ℕ) (o : Op) (c : Core) → Proposes c (begin_line line o c)
proposes_line line o c =
    let begun : Core = record c { progress = record c.progress { last_line = line } } in
    let shard : ℕ = judging_shard (shape_of c).shards c.sessions o in
    let w : Waiting = record { operation = new_operation line o; shard = shard; wait = wait.View } in
    let v : OpView = record (view_for shard o begun) { busy = busy_line o c } in
    proposes_both c (add_operation line w begun) (begin_line line o c) (proposes_as c (add_operation line w begun) refl refl (λ g. refl))
    (proposes_step line w (go_step v w.operation) (add_operation line w begun) (quiet_step v w.operation))

-- ---- what is told of an entry

proposes_tell : (line : ℕ) (did : What) (c : Core) → Proposes c (tell_operation line did c)
proposes_tell line did c = proposes_go_on (λ v o. effect_step v did o) line c (λ v o. quiet_effect v did o)

proposes_sweep : (shard removed : ℕ) (c : Core) → Proposes c (note_sweep shard removed c)
proposes_sweep shard removed c = by_all (list_all (λ x. nat_le (catalogue_of shard c).swept x.swept) c.catalogues)
  where
    by_all : (all : Bool) → Proposes c (change_if all (note who.Store deed.Nothing (reply.Done (catalogue_of shard c).swept)) (note (who.Shard shard) (deed.Swept shard) (reply.Sweep (catalogue_of shard c).swept removed) c))
    by_all true = proposes_as c (note who.Store deed.Nothing (reply.Done (catalogue_of shard c).swept) (note (who.Shard shard) (deed.Swept shard) (reply.Sweep (catalogue_of shard c).swept removed) c)) refl refl (λ g. refl)
    by_all false = proposes_as c (note (who.Shard shard) (deed.Swept shard) (reply.Sweep (catalogue_of shard c).swept removed) c) refl refl (λ g. refl)

proposes_enter : (shard : ℕ) (did : What) (c : Core) → Proposes c (note_enter shard did c)
proposes_enter shard what.Nothing c = proposes_same c
proposes_enter shard (what.Viewed view) c = proposes_same c
proposes_enter shard what.Stored c = proposes_same c
proposes_enter shard what.Marked c = proposes_same c
proposes_enter shard what.Again c = proposes_same c
proposes_enter shard what.Rooted c = proposes_same c
proposes_enter shard what.Dropped c = proposes_same c
proposes_enter shard (what.Entered epoch) c = proposes_as c (note_enter shard (what.Entered epoch) c) refl refl (λ g. refl)
proposes_enter shard what.Refused c = proposes_same c

proposes_tell_enter : (shard line : ℕ) (did : What) (c : Core) → Proposes c (tell_enter shard line did c)
proposes_tell_enter shard line did c = by_operation (is_some (operation_of line c)) refl
  where
    by_operation : (b : Bool) → is_some (operation_of line c) ≡ b → Proposes c (tell_enter shard line did c)
    by_operation false e = rw e (proposes_enter shard did c)
    by_operation true e = rw e (proposes_tell line did c)

pub proposes_told : (shard : ℕ) (entry : Entry) (effect : Effect) (c : Core) → Proposes c (tells_at_once shard entry effect c)
proposes_told shard (kind.View view) effect c = proposes_same c
proposes_told shard (kind.Block line least bytes) effect c = proposes_tell line effect.what c
proposes_told shard (kind.Mark line least block a) effect c = proposes_tell line effect.what c
proposes_told shard (kind.Root line held a key) effect c = proposes_tell line effect.what c
proposes_told shard (kind.Drop line key) effect c = proposes_tell line effect.what c
proposes_told shard (kind.Enter line epoch) effect c = proposes_tell_enter shard line effect.what c
proposes_told shard (kind.Got from epoch round total deltas) effect c = proposes_with effect.removed (note_sweep shard) c (λ removed x. proposes_sweep shard removed x)
proposes_told shard (kind.Base view epoch swept round frames) effect c = proposes_same c
proposes_told shard (kind.KeptBlock born mark flags count bytes) effect c = proposes_same c
proposes_told shard (kind.KeptRoot created dropped counted address key) effect c = proposes_same c
proposes_told shard (kind.KeptRound way other epoch round total deltas) effect c = proposes_same c

-- ---- rounds

pub proposes_round : (back shard : ℕ) (c : Core) → Proposes c (send_round back shard c)
proposes_round back shard c =
    let run = (catalogue_of shard c).run in
    proposes_with (sent_back back run) (λ at. post (round_messages shard (messages (catalogue_of shard c).shape.shards at.0 at.1 run))) c
    (λ at x. proposes_as x (post (round_messages shard (messages (catalogue_of shard c).shape.shards at.0 at.1 run)) x) refl refl (λ g. refl))
