-- What holds at each step of an event: each operation has its cause, but for those that go on later in it.
use Rattle.std.proofs.Common.{◌≡◌, ◌∙◌, sym, ap, subst, ◌⊎◌, inl, inr, ℕ, ◌+◌, ◌-◌, ◌<◌, ◌≤◌, Bool, true, false, List, length, Option, Some, None, refl, arith, slice_index, unwrap_or}
use Rattle.std.proofs.Math.Nat.{mod-lt}
use Rattle.std.specs.BTreeMap.{is_at}
use Rattle.std.specs.Map.{lookup}
use Rattle.std.specs.Option.{option_map, option_or}
use Rattle.std.specs.Ordering.{nat_cmp}
use Rattle.std.specs.Prelude.{slice_index_or}
use Rattle.hs_awaiting.specs.declared.wait.Wait.TheVariants as wait
use Rattle.hs_awaiting.specs.declared.waiting.Waiting.{Waiting}
use Rattle.hs_awaiting.specs.Words.{change_with}
use Rattle.hs_core_words.specs.Changing.{add_task}
use Rattle.hs_core_words.specs.Looking.{front_of, group_of, lead_of, operation_of}
use Rattle.hs_core_words.specs.Operating.{add_read, carry_out, go_on_with, propose_entry, take_step, wait_for, what_holds}
use Rattle.hs_core_words.specs.Seeing.{view_for}
use Rattle.hs_core_words.specs.State.{Core}
use Rattle.hs_effects.specs.Logged.{AreOnce, IsEntryOf, IsOrderly, asked_by}
use Rattle.hs_effects.proofs.GoingLemmas.{going_orderly}
use Rattle.hs_effects.proofs.LookLemmas.{found_set, gone, number_exact, one_or_other, remove_other, set_other}
use Rattle.hs_effects.proofs.OrderlyLemmas.{IsFree, some_is}
use Rattle.hs_effects.proofs.StepLemmas.{AsksWith}
use Rattle.hs_entry.specs.declared.entry.Entry.{Entry}
use Rattle.hs_entry.specs.declared.entry.Entry.TheVariants as kind
use Rattle.hs_quiet.specs.Causes.{AreCaused, HasCause, OwnWaits, SomeWaits, asker_of, read_of, reads_bytes}
use Rattle.hs_quiet.proofs.StayLemmas.{IsLed, Leads, Stays, carried_stays, cause_stays, lead_is, led_stays, proposal_operations, proposal_stays, proposal_there, stays_by, stays_same, task_there}
use Rattle.hs_quiet.proofs.WaitLemmas.{Fits, own_asked, wait_cause}
use Rattle.hs_joint.proofs.HistoryLemmas.{shape_some}
use Rattle.hs_limits.specs.declared.address.Address.{Address}
use Rattle.hs_limits.specs.Shape.{IsShape, shard_of, shard_of_key}
use Rattle.hs_members.specs.Members.{Members}
use Rattle.hs_model.specs.declared.reply.Reply.{Reply}
use Rattle.hs_ops.specs.declared.step.OpStep.{OpStep}
use Rattle.hs_ops.specs.declared.step.OpStep.TheVariants as step
use Rattle.hs_ops.specs.Operations.{Operation, after_step}
use Rattle.hs_model.specs.Op.{named_key}
use Rattle.hs_ops.specs.Speaking.{wanted_address}
use Rattle.hs_ops.specs.Views.{OpView}
use Rattle.hs_replica.specs.Group.{last_number}

-- ---- all but some

-- the View of a shard's current view stands in its list
abbrev pub ViewWaits : Core → ℕ → Type 0
ViewWaits c shard = SomeWaits c shard (λ entry. entry ≡ kind.View (group_of shard c).view)

-- causes as AreCaused has them, but for some operations and some shards
pub record Most (name : List ℕ → Address) (but : ℕ → Waiting → Type 0) (unseen : ℕ → Type 0) (c : Core) : Type 0 where
  pub views : length c.progress.viewed ≡ c.members.shape.shards
  pub viewing : (shard : ℕ) → shard < c.members.shape.shards → slice_index_or c.progress.viewed shard false ≡ false → unseen shard ⊎ ViewWaits c shard
  pub caused : (line : ℕ) (w : Waiting) → operation_of line c ≡ Some w → but line w ⊎ HasCause name c (asker_of line w) w.wait

-- no operation, no shard, and one line more
abbrev pub NoLine : ℕ → Waiting → Type 0
NoLine m w = ⊥

abbrev pub NoShard : ℕ → Type 0
NoShard g = ⊥

abbrev pub Or : (ℕ → Waiting → Type 0) → ℕ → ℕ → Waiting → Type 0
Or but line m w = (m ≡ line) ⊎ but m w

pub most_all : (name : List ℕ → Address) (c : Core) → AreCaused name c → Most name NoLine NoShard c
most_all name c h = record { views = h.views; viewing = λ g low off. inr (h.viewing g low off); caused = λ l w at. inr (h.caused l w at) }

pub all_most : (name : List ℕ → Address) (c : Core) → Most name NoLine NoShard c → AreCaused name c
all_most name c m = record { views = m.views; viewing = λ g low off. by_view g (m.viewing g low off); caused = λ l w at. by_line l w (m.caused l w at) }
  where
    by_view : (g : ℕ) → ⊥ ⊎ ViewWaits c g → ViewWaits c g
    by_view g (inl u) = absurd u
    by_view g (inr h) = h

    by_line : (l : ℕ) (w : Waiting) → ⊥ ⊎ HasCause name c (asker_of l w) w.wait → HasCause name c (asker_of l w) w.wait
    by_line l w (inl u) = absurd u
    by_line l w (inr h) = h

-- what is left out has its cause after all, or is left out otherwise
pub most_turn : (name : List ℕ → Address) (but more : ℕ → Waiting → Type 0) (un unmore : ℕ → Type 0) (c : Core)
    → ((l : ℕ) (w : Waiting) → operation_of l c ≡ Some w → but l w → more l w ⊎ HasCause name c (asker_of l w) w.wait)
    → ((g : ℕ) → un g → unmore g) → Most name but un c → Most name more unmore c
most_turn name but more un unmore c turn shards m = record { views = m.views; viewing = λ g low off. by_view g (m.viewing g low off); caused = λ l w at. by_line l w at (m.caused l w at) }
  where
    by_view : (g : ℕ) → un g ⊎ ViewWaits c g → unmore g ⊎ ViewWaits c g
    by_view g (inl u) = inl (shards g u)
    by_view g (inr h) = inr h

    by_line : (l : ℕ) (w : Waiting) → operation_of l c ≡ Some w → but l w ⊎ HasCause name c (asker_of l w) w.wait → more l w ⊎ HasCause name c (asker_of l w) w.wait
    by_line l w at (inl u) = turn l w at u
    by_line l w at (inr h) = inr h

-- ---- where nothing goes

module _ (name : List ℕ → Address) (a b : Core) (s : Stays a b) where
  views_stay : length a.progress.viewed ≡ a.members.shape.shards → length b.progress.viewed ≡ b.members.shape.shards
  views_stay e = ap (λ (vs : List Bool). length vs) s.viewed ∙ e ∙ ap (λ (m : Members). m.shape.shards) (sym s.members)

  view_stays : (un : ℕ → Type 0) (g : ℕ) → un g ⊎ ViewWaits a g → un g ⊎ ViewWaits b g
  view_stays un g (inl u) = inl u
  view_stays un g (inr h) = inr (record { place = h.place; entry = h.entry; at = s.waits g h.place h.entry h.at; is = h.is ∙ ap (λ v. kind.View v) (sym (s.view g)) })

  viewing_stays : (un : ℕ → Type 0) → ((g : ℕ) → g < a.members.shape.shards → slice_index_or a.progress.viewed g false ≡ false → un g ⊎ ViewWaits a g)
      → (g : ℕ) → g < b.members.shape.shards → slice_index_or b.progress.viewed g false ≡ false → un g ⊎ ViewWaits b g
  viewing_stays un h g low off =
      view_stays un g (h g (subst (λ (x : Members). g < x.shape.shards) s.members low) (sym (ap (λ (vs : List Bool). slice_index_or vs g false) s.viewed) ∙ off))

  pub most_stays : (but : ℕ → Waiting → Type 0) (un : ℕ → Type 0) → b.operations ≡ a.operations → Most name but un a → Most name but un b
  most_stays but un same m = record {
    views = views_stay m.views;
    viewing = viewing_stays un m.viewing;
    caused = λ l w at. by_line l w (m.caused l w (sym (ap (λ (es : List (ℕ × Waiting)). lookup (is_at (nat_cmp l)) es) same) ∙ at));
  }
    where
      by_line : (l : ℕ) (w : Waiting) → but l w ⊎ HasCause name a (asker_of l w) w.wait → but l w ⊎ HasCause name b (asker_of l w) w.wait
      by_line l w (inl u) = inl u
      by_line l w (inr h) = inr (cause_stays name a b (asker_of l w) w.wait s h)

-- ---- one step of an operation

read_operations : (lead : Option ℕ) (number line : ℕ) (c : Core) → (change_with lead (add_read number line) c).operations ≡ c.operations
read_operations None number line c = refl
read_operations (Some peer) number line c = refl

-- the other operations stay
carried_other : (line m : ℕ) (w : Waiting) (taken : OpStep) (c : Core) → (m ≡ line → ⊥) → operation_of m (carry_out line w taken c) ≡ operation_of m c
carried_other line m w (step.Answer told) c d = remove_other nat_cmp number_exact c.operations line m d
carried_other line m w (step.Propose entry) c d =
    ap (λ (es : List (ℕ × Waiting)). lookup (is_at (nat_cmp m)) es) (proposal_operations w.shard entry (wait_for line w (wait.Entry (last_number (group_of w.shard c) + 1)) c))
    ∙ set_other nat_cmp number_exact c.operations line m (record w { wait = wait.Entry (last_number (group_of w.shard c) + 1) }) d
carried_other line m w (step.Compare number) c d =
    ap (λ (es : List (ℕ × Waiting)). lookup (is_at (nat_cmp m)) es) (read_operations (lead_of w.shard c) number line (wait_for line w (wait.Bytes number) c))
    ∙ set_other nat_cmp number_exact c.operations line m (record w { wait = wait.Bytes number }) d
carried_other line m w step.Wait c d = set_other nat_cmp number_exact c.operations line m (record w { wait = what_holds w c }) d

place_is : (front more : ℕ) → front + more + 1 ≡ front + 1 + more
place_is front more = omega arith

module _ (name : List ℕ → Address) (c : Core) (line : ℕ) (w : Waiting) where
  -- the step asks for the line's own entry, for bytes where the operation reads them, or it waits for something that is there
  abbrev pub IsProper : OpStep → Type 0
  IsProper (step.Answer told) = Unit {0}
  IsProper (step.Propose entry) = asked_by entry ≡ Some line
  IsProper (step.Compare number) = reads_bytes w.operation.op ≡ true
  IsProper step.Wait = HasCause name c (asker_of line w) (what_holds w c)

  module _ (u : Waiting) (at : operation_of line c ≡ Some u) (once : AreOnce c.operations) (led : IsLed c) (low : w.shard < c.members.shape.shards) where
    answered_gone : (told : Reply) (x : Waiting) → operation_of line (carry_out line w (step.Answer told) c) ≡ Some x → ⊥
    answered_gone told x e = cc (sym (gone line c.operations once) ∙ e)

    proposed_own : (entry : Entry) → asked_by entry ≡ Some line → (x : Waiting) → operation_of line (carry_out line w (step.Propose entry) c) ≡ Some x
        → HasCause name (carry_out line w (step.Propose entry) c) (asker_of line x) x.wait
    proposed_own entry asked x e =
        let number : ℕ = last_number (group_of w.shard c) + 1 in
        let waiting : Waiting = record w { wait = wait.Entry (last_number (group_of w.shard c) + 1) } in
        let waits : Core = wait_for line w (wait.Entry (last_number (group_of w.shard c) + 1)) c in
        let after : Core = propose_entry w.shard entry waits in
        let front : front_of w.shard after ≡ front_of w.shard c = (proposal_stays w.shard entry waits).front w.shard in
        let own : OwnWaits after w.shard number line = record {
          place = length (group_of w.shard c).waiting;
          entry = entry;
          at = proposal_there w.shard entry waits (subst (λ k. w.shard < k) (sym led.groups) low);
          numbered = place_is (front_of w.shard c) (length (group_of w.shard c).waiting) ∙ ap (λ f. f + 1 + length (group_of w.shard c).waiting) (sym front);
          asked = asked;
        } in
        let found : operation_of line after ≡ Some waiting =
        ap (λ (es : List (ℕ × Waiting)). lookup (is_at (nat_cmp line)) es) (proposal_operations w.shard entry waits) ∙ found_set line c.operations u waiting at in
        subst (λ (y : Waiting). HasCause name after (asker_of line y) y.wait) (some_is waiting x (sym found ∙ e)) own

    read_own : (number : ℕ) → reads_bytes w.operation.op ≡ true → (x : Waiting) → operation_of line (carry_out line w (step.Compare number) c) ≡ Some x
        → HasCause name (carry_out line w (step.Compare number) c) (asker_of line x) x.wait
    read_own number reads x e =
        let waiting : Waiting = record w { wait = wait.Bytes number } in
        let waits : Core = wait_for line w (wait.Bytes number) c in
        let l : Leads c w.shard = lead_is c w.shard led low in
        let after : Core = add_task l.peer (read_of number line) waits in
        let same : carry_out line w (step.Compare number) c ≡ after = ap (λ (o : Option ℕ). change_with o (add_read number line) waits) l.is in
        let cause : HasCause name after (asker_of line waiting) (wait.Bytes number) = (reads, record { peer = l.peer; own = l.own; good = l.good; jobs = task_there l.peer (read_of number line) waits l.low }) in
        let found : operation_of line after ≡ Some waiting = found_set line c.operations u waiting at in
        let is : waiting ≡ x = some_is waiting x (sym found ∙ sym (ap (λ (y : Core). operation_of line y) same) ∙ e) in
        subst (λ (y : Core). HasCause name y (asker_of line x) x.wait) (sym same) (subst (λ (y : Waiting). HasCause name after (asker_of line y) y.wait) is cause)

    waits_own : HasCause name c (asker_of line w) (what_holds w c) → (x : Waiting) → operation_of line (carry_out line w step.Wait c) ≡ Some x
        → HasCause name (carry_out line w step.Wait c) (asker_of line x) x.wait
    waits_own cause x e =
        let waiting : Waiting = record w { wait = what_holds w c } in
        let after : Core = wait_for line w (what_holds w c) c in
        let found : operation_of line after ≡ Some waiting = found_set line c.operations u waiting at in
        let there : HasCause name after (asker_of line w) (what_holds w c) = cause_stays name c after (asker_of line w) (what_holds w c) (stays_by c after refl refl refl refl) cause in
        subst (λ (y : Waiting). HasCause name after (asker_of line y) y.wait) (some_is waiting x (sym found ∙ e)) there

    carried_own : (taken : OpStep) → IsProper taken → (x : Waiting) → operation_of line (carry_out line w taken c) ≡ Some x → HasCause name (carry_out line w taken c) (asker_of line x) x.wait
    carried_own (step.Answer told) p x e = absurd (answered_gone told x e)
    carried_own (step.Propose entry) p x e = proposed_own entry p x e
    carried_own (step.Compare number) p x e = read_own number p x e
    carried_own step.Wait p x e = waits_own p x e

    pub carried_most : (but : ℕ → Waiting → Type 0) (un : ℕ → Type 0) (taken : OpStep) → IsProper taken → Most name (Or but line) un c → Most name but un (carry_out line w taken c)
    carried_most but un taken p m = record {
      views = views_stay name c (carry_out line w taken c) s m.views;
      viewing = viewing_stays name c (carry_out line w taken c) s un m.viewing;
      caused = λ l x e. by_line l x e (one_or_other l line);
    }
      where
        s : Stays c (carry_out line w taken c)
        s = carried_stays line w taken c

        by_other : (l : ℕ) (x : Waiting) → (l ≡ line → ⊥) → (Or but line) l x ⊎ HasCause name c (asker_of l x) x.wait → but l x ⊎ HasCause name (carry_out line w taken c) (asker_of l x) x.wait
        by_other l x d (inl (inl is)) = absurd (d is)
        by_other l x d (inl (inr left)) = inl left
        by_other l x d (inr h) = inr (cause_stays name c (carry_out line w taken c) (asker_of l x) x.wait (carried_stays line w taken c) h)

        by_line : (l : ℕ) (x : Waiting) → operation_of l (carry_out line w taken c) ≡ Some x → (l ≡ line) ⊎ (l ≡ line → ⊥) → but l x ⊎ HasCause name (carry_out line w taken c) (asker_of l x) x.wait
        by_line l x e (inl is) =
            inr (subst (λ k. HasCause name (carry_out line w taken c) (asker_of k x) x.wait) (sym is) (carried_own taken p x (subst (λ k. operation_of k (carry_out line w taken c) ≡ Some x) is e)))
        by_line l x e (inr d) = by_other l x d (m.caused l x (sym (carried_other line l w taken c d) ∙ e))

-- ---- which steps are proper

pub proper : (name : List ℕ → Address) (c : Core) (line : ℕ) (u : Waiting) → IsOrderly name c → 1 ≤ line → (taken : OpStep) → Fits (view_for u.shard u.operation.op c) u.operation.op taken
    → ((entry : Entry) → taken ≡ step.Propose entry → IsEntryOf name c.sessions line u.operation.op entry) → IsProper name c line (record u { operation = after_step taken u.operation }) taken
proper name c line u its low (step.Answer told) fits asks = tt
proper name c line u its low (step.Propose entry) fits asks = own_asked name c line u.operation.op entry low (asks entry refl)
proper name c line u its low (step.Compare number) fits asks = fits
proper name c line u its low step.Wait fits asks = wait_cause name c line (record u { operation = after_step step.Wait u.operation }) its fits

-- ---- the shard of an operation

pub judging_low : (shards : ℕ) → 0 < shards → (key : Option (List ℕ)) (a : Option Address) → unwrap_or (option_or (option_map (shard_of_key shards) key) (option_map (shard_of shards) a)) 0 < shards
judging_low shards some (Some key) a = mod-lt (slice_index key (length key - 1)) some
judging_low shards some None (Some a) = mod-lt (slice_index a.0 31) some
judging_low shards some None None = some

pub judged_low : (name : List ℕ → Address) (c : Core) (line : ℕ) (w : Waiting) → 0 < c.members.shape.shards → IsOrderly name c → operation_of line c ≡ Some w → w.shard < c.members.shape.shards
judged_low name c line w some its at =
    subst (λ k. k < c.members.shape.shards) (sym ((its.pending line w at).judges)) (judging_low c.members.shape.shards some (named_key w.operation.op) (wanted_address c.sessions w.operation.op))

-- ---- an operation goes on

-- a core at a step of an event
pub record IsGood (name : List ℕ → Address) (but : ℕ → Waiting → Type 0) (un : ℕ → Type 0) (c : Core) : Type 0 where
  pub orderly : IsOrderly name c
  pub led : IsLed c
  pub valid : IsShape c.members.shape
  pub most : Most name but un c

pub good_by : (name : List ℕ → Address) (but more : ℕ → Waiting → Type 0) (un unmore : ℕ → Type 0) (a b : Core) → IsGood name but un a → Stays a b → IsOrderly name b → Most name more unmore b → IsGood name more unmore b
good_by name but more un unmore a b g s orderly most = record {
  orderly = orderly;
  led = led_stays a b s g.led;
  valid = subst (λ (m : Members). IsShape m.shape) (sym s.members) g.valid;
  most = most;
}

pub good_stays : (name : List ℕ → Address) (but : ℕ → Waiting → Type 0) (un : ℕ → Type 0) (a b : Core) → IsGood name but un a → Stays a b → b.operations ≡ a.operations → IsOrderly name b → IsGood name but un b
good_stays name but un a b g s same orderly = good_by name but but un un a b g s orderly (most_stays name a b s but un same g.most)

pub good_turn : (name : List ℕ → Address) (but more : ℕ → Waiting → Type 0) (un unmore : ℕ → Type 0) (c : Core)
    → ((l : ℕ) (w : Waiting) → operation_of l c ≡ Some w → but l w → more l w ⊎ HasCause name c (asker_of l w) w.wait)
    → ((g : ℕ) → un g → unmore g) → IsGood name but un c → IsGood name more unmore c
good_turn name but more un unmore c turn shards g = record { orderly = g.orderly; led = g.led; valid = g.valid; most = most_turn name but more un unmore c turn shards g.most }

pub went_stays : (next : OpView → Operation → OpStep) (line : ℕ) (c : Core) → Stays c (go_on_with next line c)
went_stays next line c = by_operation (operation_of line c)
  where
    by_operation : (o : Option Waiting) → Stays c (change_with o (λ w. take_step line w (next (view_for w.shard w.operation.op c) w.operation)) c)
    by_operation None = stays_same c
    by_operation (Some u) =
        carried_stays line (record u { operation = after_step (next (view_for u.shard u.operation.op c) u.operation) u.operation }) (next (view_for u.shard u.operation.op c) u.operation) c

module _ (name : List ℕ → Address) (but : ℕ → Waiting → Type 0) (un : ℕ → Type 0) (next : OpView → Operation → OpStep) (asks : AsksWith next) (line : ℕ) (c : Core) where
  went_most : ((u : Waiting) → operation_of line c ≡ Some u → Fits (view_for u.shard u.operation.op c) u.operation.op (next (view_for u.shard u.operation.op c) u.operation))
      → IsGood name (Or but line) un c → Most name but un (go_on_with next line c)
  went_most fits g = by_operation (operation_of line c) refl
    where
      asked : (u : Waiting) → operation_of line c ≡ Some u → (entry : Entry) → next (view_for u.shard u.operation.op c) u.operation ≡ step.Propose entry → IsEntryOf name c.sessions line u.operation.op entry
      asked u at entry e =
          subst (λ k. IsEntryOf name c.sessions k u.operation.op entry) ((g.orderly.pending line u at).of_line) ((asks name (view_for u.shard u.operation.op c) u.operation ((g.orderly.pending line u at).called) entry e).0)

      none : operation_of line c ≡ None → (l : ℕ) (w : Waiting) → operation_of l c ≡ Some w → (Or but line) l w → but l w ⊎ HasCause name c (asker_of l w) w.wait
      none e l w at (inl is) = absurd (cc (sym e ∙ sym (ap (λ k. operation_of k c) is) ∙ at))
      none e l w at (inr left) = inl left

      by_operation : (o : Option Waiting) → operation_of line c ≡ o → Most name but un (change_with o (λ w. take_step line w (next (view_for w.shard w.operation.op c) w.operation)) c)
      by_operation None e = most_turn name (Or but line) but un un c (none e) (λ k u. u) g.most
      by_operation (Some u) e =
          carried_most name c line (record u { operation = after_step (next (view_for u.shard u.operation.op c) u.operation) u.operation }) u e g.orderly.once g.led (judged_low name c line u (shape_some c.members.shape g.valid) g.orderly e) but un
          (next (view_for u.shard u.operation.op c) u.operation)
          (proper name c line u g.orderly ((g.orderly.pending line u e).counted) (next (view_for u.shard u.operation.op c) u.operation) (fits u e) (asked u e))
          g.most

  pub went_good : ((u : Waiting) → operation_of line c ≡ Some u → Fits (view_for u.shard u.operation.op c) u.operation.op (next (view_for u.shard u.operation.op c) u.operation))
      → IsFree c line → IsGood name (Or but line) un c → IsGood name but un (go_on_with next line c)
  went_good fits free g = good_by name (Or but line) but un un c (go_on_with next line c) g (went_stays next line c) (going_orderly next asks name line c g.orderly free) (went_most fits g)
