-- Single changes of a core leave its Rounds and Gots as sent.
use Rattle.std.proofs.Common.{◌≡◌, ◌∙◌, sym, ap, subst, ◌⊎◌, inl, inr, ℕ, ◌+◌, List, All, length, Option, Some, None, refl, slice_get, true}
use Rattle.std.specs.Map.{values_of}
use Rattle.hs_awaiting.specs.declared.wait.Wait.TheVariants as wait
use Rattle.hs_awaiting.specs.declared.waiting.Waiting.{Waiting}
use Rattle.hs_awaiting.specs.Words.{change_with}
use Rattle.hs_core_words.specs.Changing.{add_entry_tasks, change_group, post}
use Rattle.hs_core_words.specs.Looking.{group_of, lead_of, operation_of}
use Rattle.hs_core_words.specs.Operating.{add_read, carry_out, go_on_with, propose_entry, take_step, wait_for}
use Rattle.hs_core_words.specs.Seeing.{view_for}
use Rattle.hs_core_words.specs.State.{Core}
use Rattle.hs_effects.specs.Logged.{IsCalled, IsEntryOf, IsOrderly}
use Rattle.hs_effects.proofs.GroupLemmas.{at_end, group_changed}
use Rattle.hs_effects.proofs.StepLemmas.{AsksWith}
use Rattle.hs_entry.specs.declared.entry.Entry.{Entry}
use Rattle.hs_entry.specs.declared.entry.Entry.TheVariants as kind
use Rattle.hs_fold.specs.Lawful.{Deed}
use Rattle.hs_fold.specs.Runs.Facts.{Catalogue as Folded}
use Rattle.hs_fold.specs.Runs.Fits.{catalogue_at}
use Rattle.hs_fold.specs.Runs.History.{follow_all, no_entries}
use Rattle.hs_fold.specs.Runs.Rounds.{is_accepted}
use Rattle.hs_fold.specs.Shards.Setting.{Setting}
use Rattle.hs_limits.specs.declared.address.Address.{Address}
use Rattle.hs_model.proofs.Members.{Member}
use Rattle.hs_model.specs.declared.op.Op.{Op}
use Rattle.hs_model.specs.declared.op.Op.TheVariants as op
use Rattle.hs_ops.specs.declared.step.OpStep.{OpStep}
use Rattle.hs_ops.specs.declared.step.OpStep.TheVariants as step
use Rattle.hs_ops.specs.Operations.{Operation, after_step}
use Rattle.hs_ops.specs.Views.{OpView}
use Rattle.hs_post.specs.declared.message.Message.{Message}
use Rattle.hs_post.specs.declared.message.Message.TheVariants as message
use Rattle.hs_replica.specs.declared.replica.Replica.{Replica}
use Rattle.hs_replica.specs.Group.{Group, last_number, others, proposal, propose, send_all}
use Rattle.hs_rounds.specs.declared.body.RoundBody.{RoundBody}
use Rattle.hs_rounds.specs.declared.place.Place.{Place}
use Rattle.hs_tokens.specs.Seats.{Seats}
use Rattle.hs_standing.specs.Sent.{AreSent, HasGot, IsOfSent, WasSent, got_of}
use Rattle.hs_standing.proofs.PoolLemmas.{all_sent, of_each}

-- ---- messages

pub posted_sent : (set : Setting) (history : List Deed) (ms : List Message) (core : Core) → ((m : Message) → Member m ms → IsOfSent set history m) → AreSent set history core → AreSent set history (post ms core)
posted_sent set history ms core h s = record { messages = all_sent (IsOfSent set history) ms core.pool h s.messages; gots = s.gots; due = s.due; once = s.once }

-- ---- an entry is proposed

-- what holds of a Got's place and of what it told
abbrev pub OfGot : (Place → RoundBody → Type 0) → Entry → Type 0
OfGot P (kind.View view) = Unit {0}
OfGot P (kind.Block line least bytes) = Unit {0}
OfGot P (kind.Mark line least block a) = Unit {0}
OfGot P (kind.Root line held a key) = Unit {0}
OfGot P (kind.Drop line key) = Unit {0}
OfGot P (kind.Enter line epoch) = Unit {0}
OfGot P (kind.Got from epoch round total deltas) = P (record { epoch = epoch; round = round; from = from }) (record { total = total; deltas = deltas })
OfGot P (kind.Base view epoch swept round frames) = Unit {0}
OfGot P (kind.KeptBlock born mark flags count bytes) = Unit {0}
OfGot P (kind.KeptRoot created dropped counted address key) = Unit {0}
OfGot P (kind.KeptRound way other epoch round total deltas) = Unit {0}

of_got : (P : Place → RoundBody → Type 0) (entry : Entry) (place : Place) (told : RoundBody) → OfGot P entry → entry ≡ got_of place told → P place told
of_got P entry place told h e = subst (λ (x : Entry). OfGot P x) e h

-- an entry is no Got
abbrev pub IsNoGot : Entry → Type 0
IsNoGot entry = (place : Place) (told : RoundBody) → entry ≡ got_of place told → ⊥

of_none : (P : Place → RoundBody → Type 0) (entry : Entry) → IsNoGot entry → OfGot P entry
of_none P (kind.View view) none = tt
of_none P (kind.Block line least bytes) none = tt
of_none P (kind.Mark line least block a) none = tt
of_none P (kind.Root line held a key) none = tt
of_none P (kind.Drop line key) none = tt
of_none P (kind.Enter line epoch) none = tt
of_none P (kind.Got from epoch round total deltas) none = absurd (none (record { epoch = epoch; round = round; from = from }) (record { total = total; deltas = deltas }) refl)
of_none P (kind.Base view epoch swept round frames) none = tt
of_none P (kind.KeptBlock born mark flags count bytes) none = tt
of_none P (kind.KeptRoot created dropped counted address key) none = tt
of_none P (kind.KeptRound way other epoch round total deltas) none = tt

-- an entry may come to a shard's list: a Got was sent, would be accepted, and stands there not yet
pub record MayCome (set : Setting) (history : List Deed) (core : Core) (shard : ℕ) (entry : Entry) : Type 0 where
  pub sent : OfGot (λ place told. WasSent set history shard place told) entry
  pub due : OfGot (λ place told. (cs : List Folded) → follow_all set (no_entries set) history ≡ cs → is_accepted set.shape.shards (catalogue_at cs shard) place ≡ true) entry
  pub new : OfGot (λ place told. (at : ℕ) (other : RoundBody) → HasGot core shard at place other → ⊥) entry

may_come : (set : Setting) (history : List Deed) (core : Core) (shard : ℕ) (entry : Entry) → IsNoGot entry → MayCome set history core shard entry
may_come set history core shard entry none = record {
  sent = of_none (λ place told. WasSent set history shard place told) entry none;
  due = of_none (λ place told. (cs : List Folded) → follow_all set (no_entries set) history ≡ cs → is_accepted set.shape.shards (catalogue_at cs shard) place ≡ true) entry none;
  new = of_none (λ place told. (at : ℕ) (other : RoundBody) → HasGot core shard at place other → ⊥) entry none;
}

-- what waits then waited before, or is the entry at the end
waits_or_new : (shard : ℕ) (entry : Entry) (core : Core) (g at : ℕ) (e : Entry) → slice_get (group_of g (propose_entry shard entry core)).waiting at ≡ Some e
    → (slice_get (group_of g core).waiting at ≡ Some e) ⊎ ((g ≡ shard) × (at ≡ length (group_of shard core).waiting) × (entry ≡ e))
waits_or_new shard entry core g at e there = by (group_changed shard (propose entry) core g)
  where
    same : (lead : Option ℕ) → (group_of g (change_with lead (λ peer. add_entry_tasks peer (last_number (group_of shard core) + 1) entry) (post (proposal entry (group_of shard core)) (change_group shard (propose entry) core)))).waiting
        ≡ (group_of g (change_group shard (propose entry) core)).waiting
    same None = refl
    same (Some peer) = refl

    listed : slice_get (group_of g (change_group shard (propose entry) core)).waiting at ≡ Some e
    listed = sym (ap (λ es. slice_get es at) (same (lead_of shard core))) ∙ there

    last_one : (slice_get (group_of shard core).waiting at ≡ Some e) ⊎ ((at ≡ length (group_of shard core).waiting) × (entry ≡ e)) → g ≡ shard
        → (slice_get (group_of g core).waiting at ≡ Some e) ⊎ ((g ≡ shard) × (at ≡ length (group_of shard core).waiting) × (entry ≡ e))
    last_one (inl old) is = inl (subst (λ j. slice_get (group_of j core).waiting at ≡ Some e) (sym is) old)
    last_one (inr last) is = inr (is, last.0, last.1)

    by : (group_of g (change_group shard (propose entry) core) ≡ group_of g core) ⊎ ((g ≡ shard) × (group_of g (change_group shard (propose entry) core) ≡ propose entry (group_of shard core)))
        → (slice_get (group_of g core).waiting at ≡ Some e) ⊎ ((g ≡ shard) × (at ≡ length (group_of shard core).waiting) × (entry ≡ e))
    by (inl old) = inl (sym (ap (λ (x : Group). slice_get x.waiting at) old) ∙ listed)
    by (inr is) = last_one (at_end (group_of shard core).waiting entry e at (sym (ap (λ (x : Group). slice_get x.waiting at) is.1) ∙ listed)) is.0

module _ (set : Setting) (history : List Deed) where
  pub proposed_sent : (shard : ℕ) (entry : Entry) (core : Core) → MayCome set history core shard entry → AreSent set history core → AreSent set history (propose_entry shard entry core)
  proposed_sent shard entry core may s = record { messages = posted (lead_of shard core); gots = waits; due = accepted; once = single }
    where
      copies : All (IsOfSent set history) (values_of (send_all (proposal entry (group_of shard core)) core.pool).messages)
      copies = all_sent (IsOfSent set history) (proposal entry (group_of shard core)) core.pool
          (λ m k. of_each (IsOfSent set history) (λ (x : ℕ × Replica). message.Copy (group_of shard core).shard x.0 (group_of shard core).view (last_number (group_of shard core) + 1) entry) (λ x. tt) (others (group_of shard core)) m k)
          s.messages

      posted : (lead : Option ℕ) → All (IsOfSent set history) (values_of (change_with lead (λ peer. add_entry_tasks peer (last_number (group_of shard core) + 1) entry) (post (proposal entry (group_of shard core)) (change_group shard (propose entry) core))).pool.messages)
      posted None = copies
      posted (Some peer) = copies

      waits : (g at : ℕ) (place : Place) (told : RoundBody) → HasGot (propose_entry shard entry core) g at place told → WasSent set history g place told
      waits g at place told there = elim (waits_or_new shard entry core g at (got_of place told) there) [
        | inl old ↦ s.gots g at place told old
        | inr new ↦ subst (λ j. WasSent set history j place told) (sym new.0) (of_got (λ place told. WasSent set history shard place told) entry place told may.sent new.2)
      ]

      accepted : (g at : ℕ) (place : Place) (told : RoundBody) (cs : List Folded) → follow_all set (no_entries set) history ≡ cs → HasGot (propose_entry shard entry core) g at place told → is_accepted set.shape.shards (catalogue_at cs g) place ≡ true
      accepted g at place told cs gives there = elim (waits_or_new shard entry core g at (got_of place told) there) [
        | inl old ↦ s.due g at place told cs gives old
        | inr new ↦ subst (λ j. is_accepted set.shape.shards (catalogue_at cs j) place ≡ true) (sym new.0)
            (of_got (λ place told. (cs : List Folded) → follow_all set (no_entries set) history ≡ cs → is_accepted set.shape.shards (catalogue_at cs shard) place ≡ true) entry place told may.due new.2 cs gives)
      ]

      never : (g at : ℕ) (place : Place) (told other : RoundBody) → g ≡ shard → entry ≡ got_of place told → HasGot core g at place other → ⊥
      never g at place told other is e there =
          of_got (λ place told. (at : ℕ) (other : RoundBody) → HasGot core shard at place other → ⊥) entry place told may.new e at other (subst (λ j. HasGot core j at place other) is there)

      single : (g p q : ℕ) (place : Place) (told other : RoundBody) → HasGot (propose_entry shard entry core) g p place told → HasGot (propose_entry shard entry core) g q place other → p ≡ q
      single g p q place told other a b = by (waits_or_new shard entry core g p (got_of place told) a) (waits_or_new shard entry core g q (got_of place other) b)
        where
          by : HasGot core g p place told ⊎ ((g ≡ shard) × (p ≡ length (group_of shard core).waiting) × (entry ≡ got_of place told)) → HasGot core g q place other ⊎ ((g ≡ shard) × (q ≡ length (group_of shard core).waiting) × (entry ≡ got_of place other)) → p ≡ q
          by (inl x) (inl y) = s.once g p q place told other x y
          by (inl x) (inr y) = absurd (never g p place other told y.0 y.2 x)
          by (inr x) (inl y) = absurd (never g q place told other x.0 x.2 y)
          by (inr x) (inr y) = x.1 ∙ sym y.1

  pub no_got_sent : (shard : ℕ) (entry : Entry) (core : Core) → IsNoGot entry → AreSent set history core → AreSent set history (propose_entry shard entry core)
  no_got_sent shard entry core none s = proposed_sent shard entry core (may_come set history core shard entry none) s

  -- ---- an operation goes on

  pub carried_sent : (line : ℕ) (w : Waiting) (taken : OpStep) (core : Core) → ((entry : Entry) → taken ≡ step.Propose entry → IsNoGot entry) → AreSent set history core → AreSent set history (carry_out line w taken core)
  carried_sent line w (step.Answer told) core none s = record { messages = s.messages; gots = s.gots; due = s.due; once = s.once }
  carried_sent line w (step.Propose entry) core none s =
      let waits : Core = wait_for line w (wait.Entry (last_number (group_of w.shard core) + 1)) core in
      let there : AreSent set history waits = record { messages = s.messages; gots = s.gots; due = s.due; once = s.once } in
      no_got_sent w.shard entry waits (none entry refl) there
  carried_sent line w (step.Compare number) core none s = read (lead_of w.shard core)
    where
      read : (lead : Option ℕ) → AreSent set history (change_with lead (add_read number line) (wait_for line w (wait.Bytes number) core))
      read None = record { messages = s.messages; gots = s.gots; due = s.due; once = s.once }
      read (Some peer) = record { messages = s.messages; gots = s.gots; due = s.due; once = s.once }
  carried_sent line w step.Wait core none s = record { messages = s.messages; gots = s.gots; due = s.due; once = s.once }

  going : (next : OpView → Operation → OpStep) (line : ℕ) (core : Core) → ((w : Waiting) → operation_of line core ≡ Some w → (entry : Entry) → next (view_for w.shard w.operation.op core) w.operation ≡ step.Propose entry → IsNoGot entry)
      → AreSent set history core → AreSent set history (go_on_with next line core)
  going next line core none s = go (operation_of line core) refl
    where
      go : (o : Option Waiting) → operation_of line core ≡ o → AreSent set history (change_with o (λ w. take_step line w (next (view_for w.shard w.operation.op core) w.operation)) core)
      go None at = s
      go (Some u) at = carried_sent line (record u { operation = after_step (next (view_for u.shard u.operation.op core) u.operation) u.operation }) (next (view_for u.shard u.operation.op core) u.operation) core (none u at) s

-- ---- what an operation asks for is no Got

pub no_got : (name : List ℕ → Address) (seats : Seats) (line : ℕ) (o : Op) (entry : Entry) → IsEntryOf name seats line o entry → IsNoGot entry
no_got name seats line (op.Write session payload handles address) entry asks place told e = go asks
  where
    go : IsEntryOf name seats line (op.Write session payload handles address) entry → ⊥
    go (inl is) = cc (sym is.0 ∙ e)
    go (inr is) = cc (sym is.1 ∙ e)
no_got name seats line (op.Root session key handle) entry asks place told e = cc (sym asks ∙ e)
no_got name seats line (op.Drop key) entry asks place told e = cc (sym asks ∙ e)
no_got name seats line op.Delete entry asks place told e = cc (sym asks.1 ∙ e)
no_got name seats line (op.Open session) entry asks place told e = asks
no_got name seats line (op.Close session) entry asks place told e = asks
no_got name seats line (op.Read session handle) entry asks place told e = asks
no_got name seats line (op.Look session key) entry asks place told e = asks
no_got name seats line (op.Forget session handle) entry asks place told e = asks
no_got name seats line (op.Name session handle) entry asks place told e = asks
no_got name seats line op.Stat entry asks place told e = asks

-- each write without an answer has the address of its block
abbrev pub AreCalled : (List ℕ → Address) → Core → Type 0
AreCalled name core = (line : ℕ) (w : Waiting) → operation_of line core ≡ Some w → IsCalled name core.sessions w.operation.op

pub are_called : (name : List ℕ → Address) (core : Core) → IsOrderly name core → AreCalled name core
are_called name core order line w at = (order.pending line w at).called

pub going_sent : (set : Setting) (history : List Deed) (next : OpView → Operation → OpStep) → AsksWith next → (name : List ℕ → Address) (line : ℕ) (core : Core) → AreCalled name core → AreSent set history core → AreSent set history (go_on_with next line core)
going_sent set history next asks name line core called s =
    going set history next line core
    (λ w at entry e. no_got name core.sessions w.operation.line w.operation.op entry (asks name (view_for w.shard w.operation.op core) w.operation (called line w at) entry e).0) s
