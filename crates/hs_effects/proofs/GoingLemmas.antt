-- Operations that go on keep the order.
use Rattle.std.proofs.Common.{◌≡◌, ◌∙◌, sym, ap, subst, inl, inr, ℕ, ◌+◌, ◌==◌, Bool, true, false, cond, List, [], ◌∷◌, Option, Some, None, refl}
pub use Rattle.hs_anatomy.proofs.ReadyLemmas.{AreReady, PassesIdle, ready_lines, ready_on}
use Rattle.hs_anatomy.proofs.ReadyLemmas.{ready_where}
pub use Rattle.hs_anatomy.specs.Once.{IsIdle}
use Rattle.hs_awaiting.specs.declared.wait.Wait.TheVariants as wait
use Rattle.hs_awaiting.specs.declared.waiting.Waiting.{Waiting}
use Rattle.hs_awaiting.specs.Words.{change_with, each}
use Rattle.hs_core_words.specs.Changing.{put_operation}
use Rattle.hs_core_words.specs.Looking.{group_of, lead_of, operation_of}
use Rattle.hs_core_words.specs.Operating.{add_read, carry_out, go_on_with, lines_where, propose_entry, resume, resume_where, take_step, wait_for, what_holds}
use Rattle.hs_core_words.specs.Seeing.{view_for}
use Rattle.hs_core_words.specs.State.{Core}
use Rattle.hs_effects.specs.Logged.{HasAsked, IsEntryOf, IsOrderly, IsOwn, asked_by}
use Rattle.hs_effects.specs.Taking.{taken}
use Rattle.hs_effects.proofs.LookLemmas.{found_set}
use Rattle.hs_effects.proofs.OrderlyLemmas.{Alike, IsFree, alike_orderly, alike_same, answered_orderly, proposed_orderly, waits_orderly}
use Rattle.hs_effects.proofs.RoomLemmas.{HasPlace, placed}
use Rattle.hs_effects.proofs.StepLemmas.{AsksWith, Passes, going_asks}
use Rattle.hs_entry.specs.declared.entry.Entry.{Entry}
use Rattle.hs_limits.specs.declared.address.Address.{Address}
use Rattle.hs_model.specs.declared.op.Op.{Op}
use Rattle.hs_model.specs.declared.op.Op.TheVariants as op
use Rattle.hs_ops.specs.declared.step.OpStep.{OpStep}
use Rattle.hs_ops.specs.declared.step.OpStep.TheVariants as step
use Rattle.hs_ops.specs.Operations.{Operation, after_step, go_step}
use Rattle.hs_ops.specs.Views.{OpView}
use Rattle.hs_replica.specs.Group.{last_number}
use Rattle.hs_tokens.specs.Seats.{Seats}

-- ---- the line of an entry is its operation's

same_line : (line k : ℕ) → Some line ≡ Some k → k ≡ line
same_line line k e = cc

enter_line : (line k : ℕ) (b : Bool) → cond b None (Some line) ≡ Some k → k ≡ line
enter_line line k true e = absurd (cc e)
enter_line line k false e = same_line line k e

entry_line : (name : List ℕ → Address) (seats : Seats) (line k : ℕ) (o : Op) (entry : Entry) → IsEntryOf name seats line o entry → asked_by entry ≡ Some k → k ≡ line
entry_line name seats line k (op.Write session payload handles address) entry asks by = go asks
  where
    go : IsEntryOf name seats line (op.Write session payload handles address) entry → k ≡ line
    go (inl is) = same_line line k (sym (ap (λ x. asked_by x) is.0) ∙ by)
    go (inr is) = same_line line k (sym (ap (λ x. asked_by x) is.1) ∙ by)
entry_line name seats line k (op.Root session key handle) entry asks by = same_line line k (sym (ap (λ x. asked_by x) asks) ∙ by)
entry_line name seats line k (op.Drop key) entry asks by = same_line line k (sym (ap (λ x. asked_by x) asks) ∙ by)
entry_line name seats line k op.Delete entry asks by = enter_line line k (line == 0) (sym (ap (λ x. asked_by x) asks.1) ∙ by)
entry_line name seats line k (op.Open session) entry asks by = absurd asks
entry_line name seats line k (op.Close session) entry asks by = absurd asks
entry_line name seats line k (op.Read session handle) entry asks by = absurd asks
entry_line name seats line k (op.Look session key) entry asks by = absurd asks
entry_line name seats line k (op.Forget session handle) entry asks by = absurd asks
entry_line name seats line k (op.Name session handle) entry asks by = absurd asks
entry_line name seats line k op.Stat entry asks by = absurd asks

-- ---- one step

module _ (name : List ℕ → Address) (c : Core) (line : ℕ) (its : IsOrderly name c) (free : IsFree c line) (u : Waiting) (at : operation_of line c ≡ Some u) where
  -- w is u at another stage
  module _ (w : Waiting) (same : w.operation.op ≡ u.operation.op) (lines : w.operation.line ≡ u.operation.line) (places : w.shard ≡ u.shard) where
    proposes : (entry : Entry) → IsEntryOf name c.sessions line w.operation.op entry × IsOwn c.limits c.sessions w.operation.op × HasPlace c w.shard entry
        → IsOrderly name (propose_entry w.shard entry (wait_for line w (wait.Entry (last_number (group_of w.shard c) + 1)) c))
    proposes entry asks = proposed_orderly name w.shard entry waits (waits_orderly name c line its free u at waiting same lines places) (λ k by.
        subst (λ j. HasAsked name waits w.shard (last_number (group_of w.shard c) + 1) j entry) (sym (entry_line name c.sessions line k w.operation.op entry asks.0 by)) here)
        (record { blocks = asks.2.blocks; roots = asks.2.roots })
      where
        waiting : Waiting
        waiting = record w { wait = wait.Entry (last_number (group_of w.shard c) + 1) }

        waits : Core
        waits = put_operation line waiting c

        here : HasAsked name (put_operation line (record w { wait = wait.Entry (last_number (group_of w.shard c) + 1) }) c) w.shard (last_number (group_of w.shard c) + 1) line entry
        here = record { waiting = waiting; at = found_set line c.operations u waiting at; waits = refl; judges = refl; asks = asks.0; own = asks.1 }

    -- a Read is put into a queue
    reads : (number : ℕ) (lead : Option ℕ) (x : Core) → Alike x (change_with lead (add_read number line) x)
    reads number None x = alike_same x
    reads number (Some peer) x = record { operations = refl; sessions = refl; limits = refl; shape = refl; waiting = λ g. refl; front = λ g. refl; catalogue = λ g. refl }

    carried : (taken : OpStep) → ((entry : Entry) → taken ≡ step.Propose entry → IsEntryOf name c.sessions line w.operation.op entry × IsOwn c.limits c.sessions w.operation.op × HasPlace c w.shard entry) → IsOrderly name (carry_out line w taken c)
    carried (step.Answer told) asks = answered_orderly name c line its free u at w told same
    carried (step.Propose entry) asks = proposes entry (asks entry refl)
    carried (step.Compare number) asks =
        let waits : Core = wait_for line w (wait.Bytes number) c in
        alike_orderly name waits (change_with (lead_of w.shard c) (add_read number line) waits) (reads number (lead_of w.shard c) waits)
        (waits_orderly name c line its free u at (record w { wait = wait.Bytes number }) same lines places)
    carried step.Wait asks = waits_orderly name c line its free u at (record w { wait = what_holds w c }) same lines places

  pub stepped : (taken : OpStep) → ((entry : Entry) → taken ≡ step.Propose entry → IsEntryOf name c.sessions line u.operation.op entry × IsOwn c.limits c.sessions u.operation.op × HasPlace c u.shard entry) → IsOrderly name (take_step line u taken c)
  stepped taken asks = carried (record u { operation = after_step taken u.operation }) refl refl refl taken asks

pub going_orderly : (next : OpView → Operation → OpStep) → AsksWith next → (name : List ℕ → Address) (line : ℕ) (c : Core) → IsOrderly name c → IsFree c line → IsOrderly name (go_on_with next line c)
going_orderly next asks name line c its free = go (operation_of line c) refl
  where
    here : (u : Waiting) → operation_of line c ≡ Some u → (entry : Entry)
        → IsEntryOf name c.sessions u.operation.line u.operation.op entry × IsOwn c.limits c.sessions u.operation.op × Passes (view_for u.shard u.operation.op c) entry
        → IsEntryOf name c.sessions line u.operation.op entry × IsOwn c.limits c.sessions u.operation.op × HasPlace c u.shard entry
    here u at entry is = (
      subst (λ k. IsEntryOf name c.sessions k u.operation.op entry) ((its.pending line u at).of_line) is.0,
      is.1,
      placed name c.sessions u.operation.line c u.shard u.operation.op entry is.0 is.2,
    )

    go : (o : Option Waiting) → operation_of line c ≡ o → IsOrderly name (change_with o (λ w. take_step line w (next (view_for w.shard w.operation.op c) w.operation)) c)
    go None at = its
    go (Some u) at = stepped name c line its free u at (next (view_for u.shard u.operation.op c) u.operation)
        (λ entry e. here u at entry (asks name (view_for u.shard u.operation.op c) u.operation ((its.pending line u at).called) entry e))

-- ---- which lines may go on

pub idle_free : (name : List ℕ → Address) (c : Core) (line : ℕ) → IsOrderly name c → ((w : Waiting) → operation_of line c ≡ Some w → IsIdle w.wait) → IsFree c line
idle_free name c line its idle = λ shard place entry at by.
    let h = its.asked shard place line entry at by in
    subst (λ x. IsIdle x) h.waits (idle h.waiting h.at)

pub each_orderly : (name : List ℕ → Address) (lines : List ℕ) (c : Core) → IsOrderly name c → AreReady c lines → IsOrderly name (each lines resume c)
each_orderly name [] c its ready = its
each_orderly name (line ∷ rest) c its ready =
    each_orderly name rest (resume line c) (going_orderly go_step going_asks name line c its (idle_free name c line its ready.1)) (ready_on c line rest ready.0 ready.2)

pub resumed_orderly : (name : List ℕ → Address) (shard : ℕ) (test : Waiting → Bool) → PassesIdle test → (c : Core) → IsOrderly name c → IsOrderly name (resume_where shard test c)
resumed_orderly name shard test idle c its =
    each_orderly name (lines_where shard test c) c its (ready_where shard test idle c its.once)
