-- An operation at its own line: it is answered, or it has a cause to wait.
use Rattle.std.proofs.Common.{◌≡◌, ◌∙◌, sym, ap, subst, ◌⊎◌, inl, inr, ℕ, ◌<◌, ◌≤◌, List, Option, Some, None, refl}
use Rattle.std.specs.Option.{option_map_or}
use Rattle.std.specs.Ordering.{nat_cmp}
use Rattle.hs_awaiting.specs.declared.wait.Wait.TheVariants as wait
use Rattle.hs_awaiting.specs.declared.waiting.Waiting.{Waiting}
use Rattle.hs_core_words.specs.Changing.{add_operation}
use Rattle.hs_core_words.specs.Looking.{operation_of, shape_of}
use Rattle.hs_core_words.specs.Operating.{begin_line, busy_line, take_step}
use Rattle.hs_core_words.specs.Seeing.{view_for}
use Rattle.hs_core_words.specs.State.{Core}
use Rattle.hs_effects.specs.Logged.{IsCalled, IsEntryOf, IsOrderly}
use Rattle.hs_effects.proofs.BeginLemmas.{added, begun_orderly}
use Rattle.hs_effects.proofs.LookLemmas.{found_insert, insert_other, number_exact, once_insert, one_or_other}
use Rattle.hs_effects.proofs.OrderlyLemmas.{alike_orderly}
use Rattle.hs_effects.proofs.StepLemmas.{going_asks}
use Rattle.hs_entry.specs.declared.entry.Entry.{Entry}
use Rattle.hs_quiet.specs.Causes.{HasCause, asker_of}
use Rattle.hs_quiet.proofs.GoingGoodLemmas.{IsGood, IsProper, Most, NoLine, NoShard, Or, ViewWaits, carried_most, good_by, judging_low, proper}
use Rattle.hs_quiet.proofs.StayLemmas.{Stays, carried_stays, cause_stays, led_stays, stays_both, stays_by}
use Rattle.hs_quiet.proofs.WaitLemmas.{Fits, going_fits, pending_same}
use Rattle.hs_joint.proofs.HistoryLemmas.{shape_some}
use Rattle.hs_limits.specs.declared.address.Address.{Address}
use Rattle.hs_model.specs.declared.op.Op.{Op}
use Rattle.hs_model.specs.declared.reply.Reply.{Reply}
use Rattle.hs_ops.specs.declared.step.OpStep.{OpStep}
use Rattle.hs_ops.specs.declared.step.OpStep.TheVariants as step
use Rattle.hs_ops.specs.Going.{begin, go, judged_in}
use Rattle.hs_ops.specs.Operations.{after_step, go_step, new_operation}
use Rattle.hs_model.specs.Op.{named_key}
use Rattle.hs_ops.specs.Speaking.{judging_shard, wanted_address}
use Rattle.hs_ops.specs.Views.{OpView}

module _ (name : List ℕ → Address) (line : ℕ) (o : Op) (c : Core) (g : IsGood name NoLine NoShard c) (new : operation_of line c ≡ None) (counted : 1 ≤ line) (called : IsCalled name c.sessions o) where
  abbrev begun : Core
  begun = record c { progress = record c.progress { last_line = line } }

  abbrev shard : ℕ
  shard = judging_shard (shape_of c).shards c.sessions o

  abbrev w : Waiting
  w = record { operation = new_operation line o; shard = shard; wait = wait.View }

  abbrev v : OpView
  v = record (view_for shard o begun) { busy = busy_line o c }

  abbrev with_it : Core
  with_it = add_operation line w begun

  it_stays : Stays c with_it
  it_stays = stays_by c with_it refl refl refl refl

  with_most : Most name (Or NoLine line) NoShard with_it
  with_most = record {
    views = g.most.views;
    viewing = λ k low off. by_view k (g.most.viewing k low off);
    caused = λ l x e. by_line l x e (one_or_other l line);
  }
    where
      by_view : (k : ℕ) → NoShard k ⊎ ViewWaits c k → NoShard k ⊎ ViewWaits with_it k
      by_view k (inl u) = inl u
      by_view k (inr h) = inr (record { place = h.place; entry = h.entry; at = h.at; is = h.is })

      by_other : (l : ℕ) (x : Waiting) → NoLine l x ⊎ HasCause name c (asker_of l x) x.wait → (Or NoLine line) l x ⊎ HasCause name with_it (asker_of l x) x.wait
      by_other l x (inl u) = absurd u
      by_other l x (inr h) = inr (cause_stays name c with_it (asker_of l x) x.wait it_stays h)

      by_line : (l : ℕ) (x : Waiting) → operation_of l with_it ≡ Some x → (l ≡ line) ⊎ (l ≡ line → ⊥) → (Or NoLine line) l x ⊎ HasCause name with_it (asker_of l x) x.wait
      by_line l x e (inl is) = inl (inl is)
      by_line l x e (inr d) = by_other l x (g.most.caused l x (sym (insert_other nat_cmp number_exact c.operations line l w d) ∙ e))

  low : shard < c.members.shape.shards
  low = judging_low c.members.shape.shards (shape_some c.members.shape g.valid) (named_key o) (wanted_address c.sessions o)

  -- the step that it takes then
  stepped : (taken : OpStep) → IsProper name with_it line (record w { operation = after_step taken w.operation }) taken → Most name NoLine NoShard (take_step line w taken with_it)
  stepped taken fine =
      carried_most name with_it line (record w { operation = after_step taken w.operation }) w (found_insert line c.operations w) (once_insert line c.operations w new g.orderly.once)
      (led_stays c with_it it_stays g.led) low NoLine NoShard taken fine with_most

  begin_is : (r : Reply) → judged_in v o ≡ Some r → begin v line o ≡ step.Answer r
  unfolding begin
  begin_is r j = ap (λ (x : Option Reply). option_map_or step.Answer x (go v line o)) j

  -- what is pending is the same with the operation as without it
  fits_on : IsOrderly name with_it → (taken : OpStep) → Fits v o taken → Fits (view_for shard o with_it) o taken
  fits_on its (step.Answer told) f = tt
  fits_on its (step.Propose entry) f = tt
  fits_on its (step.Compare number) f = f
  fits_on its step.Wait (inl off) = inl off
  fits_on its step.Wait (inr p) = inr (pending_same name begun with_it shard o began its refl refl ∙ p.0, p.1)
    where
      began : IsOrderly name begun
      began = alike_orderly name c begun (record { operations = refl; sessions = refl; limits = refl; shape = refl; waiting = λ k. refl; front = λ k. refl; catalogue = λ k. refl }) g.orderly

  asked : (entry : Entry) → go_step v w.operation ≡ step.Propose entry → IsEntryOf name c.sessions line o entry
  asked entry e = (going_asks name v w.operation called entry e).0

  begun_most : Most name NoLine NoShard (begin_line line o c)
  begun_most = by_judge (judged_in v o) refl
    where
      by_judge : (x : Option Reply) → judged_in v o ≡ x → Most name NoLine NoShard (begin_line line o c)
      by_judge (Some r) j = subst (λ taken. Most name NoLine NoShard (take_step line w taken with_it)) (sym (begin_is r j)) (stepped (step.Answer r) tt)
      by_judge None j =
          let its : IsOrderly name with_it = added name line o c g.orderly new counted called j in
          stepped (go_step v w.operation) (proper name with_it line w its counted (go_step v w.operation) (fits_on its (go_step v w.operation) (going_fits v w.operation)) asked)

  pub begun_good : IsGood name NoLine NoShard (begin_line line o c)
  begun_good =
      good_by name NoLine NoLine NoShard NoShard c (begin_line line o c) g
      (stays_both c with_it (begin_line line o c) it_stays (carried_stays line (record w { operation = after_step (go_step v w.operation) w.operation }) (go_step v w.operation) with_it))
      (begun_orderly name line o c g.orderly new counted called) begun_most
