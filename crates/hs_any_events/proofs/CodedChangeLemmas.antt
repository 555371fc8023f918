-- Each single change of a core leaves it beside one whose writes have payloads that tell their addresses.
use Rattle.std.proofs.Common.{◌≡◌, ◌∙◌, sym, ap, subst, ◌⊎◌, inl, inr, ℕ, ◌+◌, ◌==◌, ◌&&◌, Bool, true, false, cond, not, List, map, Option, Some, None, is_none, is_some, refl, nat_le}
use Rattle.std.specs.List.{list_all, list_any}
use Rattle.std.specs.Option.{option_map}
use Rattle.std.specs.Prelude.{slice_set}
use Rattle.hs_any_events.proofs.CodedCoreLemmas.{IsCoded, any_alike, busy_coded, coded_waiting, group_alike, judging_coded, named_alike, named_outlined, operation_is, pointers_coded, same_catalogue, same_front, view_coded}
use Rattle.hs_any_events.proofs.CodedEntryLemmas.{AreBlocks, Outline, applied_alike, enter_outlined, got_outlined, outline, same_or_blocks}
use Rattle.hs_any_events.proofs.CodedGroupLemmas.{bare, take_alike}
use Rattle.hs_any_events.proofs.CodedLemmas.{Code, coded_op}
use Rattle.hs_any_events.proofs.CodedOpLemmas.{bytes_kept, coded_bytes, coded_operation, effect_kept, step_kept, step_outline}
use Rattle.hs_any_events.proofs.CodedPoolLemmas.{without_alike}
use Rattle.hs_any_events.proofs.CodedStepLemmas.{add_coded, going_coded, group_coded, post_coded, propose_coded, step_coded, told_coded}
use Rattle.hs_awaiting.specs.declared.wait.Wait.TheVariants as wait
use Rattle.hs_awaiting.specs.declared.waiting.Waiting.{Waiting}
use Rattle.hs_awaiting.specs.Words.{change_if, change_with}
use Rattle.hs_core_words.specs.Asking.{send_round}
use Rattle.hs_core_words.specs.Changing.{add_operation, change_group, change_pool, note, post, set_catalogue}
use Rattle.hs_core_words.specs.Delivering.{is_new_round}
use Rattle.hs_core_words.specs.Effects.{note_enter, note_sweep, round_messages, tell_enter, tell_operation}
use Rattle.hs_core_words.specs.Entering.{has_begun, is_enter_due}
use Rattle.hs_core_words.specs.Looking.{catalogue_of, front_of, group_of, operation_of, shape_of}
use Rattle.hs_core_words.specs.Operating.{begin_line, busy_line, go_on_with, propose_entry, resume, take_step}
use Rattle.hs_core_words.specs.Pending.{named}
use Rattle.hs_core_words.specs.Seeing.{pointers_for, view_for}
use Rattle.hs_core_words.specs.State.{Core}
use Rattle.hs_desk.specs.declared.what.What.{What}
use Rattle.hs_desk.specs.declared.what.What.TheVariants as what
use Rattle.hs_effects.specs.Answered.{HoldAddresses}
use Rattle.hs_effects.specs.Taking.{done_by, taken}
use Rattle.hs_entry.specs.declared.entry.Entry.{Entry}
use Rattle.hs_entry.specs.declared.entry.Entry.TheVariants as kind
use Rattle.hs_journal.specs.declared.entry.Who.TheVariants as who
use Rattle.hs_limits.specs.declared.address.Address.{Address}
use Rattle.hs_model.specs.declared.deed.Deed.TheVariants as deed
use Rattle.hs_model.specs.declared.op.Op.{Op}
use Rattle.hs_model.specs.declared.reply.Reply.TheVariants as reply
use Rattle.hs_ops.specs.Operations.{bytes_step, effect_step, go_step, new_operation, wanted_number}
use Rattle.hs_ops.specs.Speaking.{judging_shard}
use Rattle.hs_ops.specs.Views.{OpView}
use Rattle.hs_post.specs.declared.message.Message.{Message}
use Rattle.hs_post.specs.Pool.{without}
use Rattle.hs_replica.specs.Group.{take_committed}
use Rattle.hs_replica.specs.Kinds.{enters as entering, is_got}
use Rattle.hs_rounds.specs.Rounds.{body, sent_back}
use Rattle.hs_shard.specs.Apply.{apply}
use Rattle.hs_shard.specs.Clients.{Applied}
use Rattle.hs_shard.specs.declared.effect.Effect.{Effect}
use Rattle.hs_shard.specs.Facts.{Catalogue}
use Rattle.hs_shard.specs.Rounds.{is_due, messages}
use Rattle.hs_standing.specs.Changes.{tells_at_once, told_at_once}

module _ (code : Code) (c d : Core) (r : IsCoded code c d) where
  -- ---- what is sent and proposed by no operation

  pub again_coded : (back shard : ℕ) → IsCoded code (send_round back shard c) (send_round back shard d)
  again_coded back shard =
      subst (λ (k : Catalogue). IsCoded code (send_round back shard c) (change_with (sent_back back k.run) (λ at. post (round_messages shard (messages k.shape.shards at.0 at.1 k.run))) d)) (sym (same_catalogue code c d r shard))
      (by (sent_back back (catalogue_of shard c).run))
    where
      by : (x : Option (ℕ × ℕ)) → IsCoded code (change_with x (λ at. post (round_messages shard (messages (catalogue_of shard c).shape.shards at.0 at.1 (catalogue_of shard c).run))) c)
          (change_with x (λ at. post (round_messages shard (messages (catalogue_of shard c).shape.shards at.0 at.1 (catalogue_of shard c).run))) d)
      by None = r
      by (Some at) =
          let ms : List Message = round_messages shard (messages (catalogue_of shard c).shape.shards at.0 at.1 (catalogue_of shard c).run) in
          post_coded code c d ms ms refl r

  pub due_alike : (shard : ℕ) → is_enter_due shard d ≡ is_enter_due shard c
  due_alike shard =
      ap (λ (k : Catalogue). (not (shard == 0) && k.swept == k.epoch) && (has_begun (k.epoch + 1) k.run && not (list_any (entering (k.epoch + 1)) (group_of shard d).waiting))) (same_catalogue code c d r shard)
      ∙ ap (λ (b : Bool). (not (shard == 0) && (catalogue_of shard c).swept == (catalogue_of shard c).epoch) && (has_begun ((catalogue_of shard c).epoch + 1) (catalogue_of shard c).run && not b))
      (any_alike code c d r (entering ((catalogue_of shard c).epoch + 1)) (enter_outlined ((catalogue_of shard c).epoch + 1)) shard)

  pub due_coded : (shard : ℕ) → IsCoded code (propose_entry shard (kind.Enter 0 ((catalogue_of shard c).epoch + 1)) c) (propose_entry shard (kind.Enter 0 ((catalogue_of shard d).epoch + 1)) d)
  due_coded shard =
      propose_coded code c d shard (kind.Enter 0 ((catalogue_of shard c).epoch + 1)) (kind.Enter 0 ((catalogue_of shard d).epoch + 1))
      (ap (λ (k : Catalogue). outline (kind.Enter 0 (k.epoch + 1))) (same_catalogue code c d r shard)) r

  left_coded : (number : ℕ) → IsCoded code (change_pool (without number) c) (change_pool (without number) d)
  left_coded number = record { same = r.same; operations = r.operations; groups = r.groups; pool = without_alike number c.pool d.pool r.pool }

  pub new_alike : (number to from epoch round : ℕ) → is_new_round to from epoch round (change_pool (without number) d) ≡ is_new_round to from epoch round (change_pool (without number) c)
  new_alike number to from epoch round =
      ap (λ (k : Catalogue). is_due (record { epoch = epoch; round = round; from = from }) k && (is_none (body from epoch round k.run) && not (list_any (is_got from epoch round) (group_of to d).waiting))) (same_catalogue code c d r to)
      ∙ ap (λ (b : Bool). is_due (record { epoch = epoch; round = round; from = from }) (catalogue_of to c) && (is_none (body from epoch round (catalogue_of to c).run) && not b))
      (any_alike code c d r (is_got from epoch round) (got_outlined from epoch round) to)

  pub round_coded : (number to : ℕ) (entry : Entry) → IsCoded code (propose_entry to entry (change_pool (without number) c)) (propose_entry to entry (change_pool (without number) d))
  round_coded number to entry = propose_coded code (change_pool (without number) c) (change_pool (without number) d) to entry entry refl (left_coded number)

  -- ---- operations

  module _ (holds : HoldAddresses c.sessions) where
    pub goes_coded : (line : ℕ) → IsCoded code (resume line c) (resume line d)
    goes_coded line = going_coded code c d go_step go_step line (λ w at. step_kept code (view_for w.shard w.operation.op c) holds w.operation) r

    same_waiting : (u w : Waiting) → Some u ≡ Some w → u ≡ w
    same_waiting u w e = cc e

    pub bytes_coded : (line : ℕ) (bytes : Option (List ℕ)) (w : Waiting) → operation_of line c ≡ Some w
        → IsCoded code (go_on_with (λ v o. bytes_step v bytes (pointers_for w.shard w.operation.op c) o) line c)
        (go_on_with (λ v o. bytes_step v (coded_bytes code c.sessions w.operation.op bytes) (pointers_for w.shard (coded_op code w.operation.op) d) o) line d)
    bytes_coded line bytes w at =
        going_coded code c d (λ v o. bytes_step v bytes (pointers_for w.shard w.operation.op c) o) (λ v o. bytes_step v (coded_bytes code c.sessions w.operation.op bytes) (pointers_for w.shard (coded_op code w.operation.op) d) o) line
        (λ u there. subst (λ (x : Waiting). AreAlike x) (same_waiting w u (sym at ∙ there)) its) r
      where
        AreAlike : Waiting → Type 0
        AreAlike u =
            step_outline (bytes_step (view_for u.shard u.operation.op c) (coded_bytes code c.sessions w.operation.op bytes) (pointers_for w.shard (coded_op code w.operation.op) d) (coded_operation code u.operation))
            ≡ step_outline (bytes_step (view_for u.shard u.operation.op c) bytes (pointers_for w.shard w.operation.op c) u.operation)

        v : OpView
        v = view_for w.shard w.operation.op c

        its : AreAlike w
        its =
            ap (λ (ps : List Address). step_outline (bytes_step v (coded_bytes code c.sessions w.operation.op bytes) ps (coded_operation code w.operation))) (pointers_coded code c d r w.shard w.operation.op)
            ∙ bytes_kept code v holds w.operation.line (wanted_number w.operation.stage) (pointers_for w.shard w.operation.op c) bytes w.operation.op

    pub line_coded : (line : ℕ) (o : Op) → IsCoded code (begin_line line o c) (begin_line line (coded_op code o) d)
    line_coded line o =
        subst (λ (k : ℕ). IsCoded code (begin_line line o c) (begun_at k)) (sym (judging_coded code c d r o))
        (step_coded code (add_operation line w begun) (add_operation line (coded_waiting code w) other) line w (go_step v w.operation) (go_step (seen shard) (coded_operation code w.operation))
        (ap (λ (x : OpView). step_outline (go_step x (coded_operation code w.operation))) (λ i. record (view_coded code begun other begun_coded shard o i) { busy = busy_coded code c d r o i }) ∙ step_kept code v holds w.operation)
        (add_coded code begun other line w begun_coded))
      where
        shard : ℕ
        shard = judging_shard (shape_of c).shards c.sessions o

        begun : Core
        begun = record c { progress = record c.progress { last_line = line } }

        other : Core
        other = record d { progress = record d.progress { last_line = line } }

        begun_coded : IsCoded code begun other
        begun_coded = record { same = r.same; operations = r.operations; groups = r.groups; pool = r.pool }

        w : Waiting
        w = record { operation = new_operation line o; shard = shard; wait = wait.View }

        v : OpView
        v = record (view_for shard o begun) { busy = busy_line o c }

        seen : ℕ → OpView
        seen k = record (view_for k (coded_op code o) other) { busy = busy_line (coded_op code o) d }

        begun_at : ℕ → Core
        begun_at k =
            let u : Waiting = record { operation = new_operation line (coded_op code o); shard = k; wait = wait.View } in
            take_step line u (go_step (seen k) u.operation) (add_operation line u other)

    -- ---- what is told of an entry

    module _ (shard : ℕ) (x : Effect) where
      tells : (line : ℕ) → IsCoded code (tell_operation line x.what c) (tell_operation line x.what d)
      tells line = going_coded code c d (λ v o. effect_step v x.what o) (λ v o. effect_step v x.what o) line (λ w at. effect_kept code (view_for w.shard w.operation.op c) holds w.operation.line x.what w.operation.op) r

      enters_alone : (did : What) → IsCoded code (note_enter shard did c) (note_enter shard did d)
      enters_alone (what.Entered epoch) = told_coded code c d (note_enter shard (what.Entered epoch) c).entries (note_enter shard (what.Entered epoch) d).entries r
      enters_alone other = r

      asked_alike : (y : Option Waiting) → is_some (option_map (coded_waiting code) y) ≡ is_some y
      asked_alike None = refl
      asked_alike (Some w) = refl

      enters : (line : ℕ) → IsCoded code (tell_enter shard line x.what c) (tell_enter shard line x.what d)
      enters line =
          subst (λ (b : Bool). IsCoded code (tell_enter shard line x.what c) (cond b (tell_operation line x.what d) (note_enter shard x.what d)))
          (sym (ap (λ (y : Option Waiting). is_some y) (operation_is code c d r line) ∙ asked_alike (operation_of line c)))
          (by (is_some (operation_of line c)))
        where
          by : (b : Bool) → IsCoded code (cond b (tell_operation line x.what c) (note_enter shard x.what c)) (cond b (tell_operation line x.what d) (note_enter shard x.what d))
          by true = tells line
          by false = enters_alone x.what

      swept_is : (n : ℕ) (k : Core) → note_sweep shard n k ≡ record k { entries = (note_sweep shard n k).entries }
      swept_is n k = by (list_all (λ (y : Catalogue). nat_le epoch y.swept) k.catalogues)
        where
          epoch : ℕ
          epoch = (catalogue_of shard k).swept

          told : Core
          told = note (who.Shard shard) (deed.Swept shard) (reply.Sweep epoch n) k

          by : (b : Bool) → change_if b (note who.Store deed.Nothing (reply.Done epoch)) told ≡ record k { entries = (change_if b (note who.Store deed.Nothing (reply.Done epoch)) told).entries }
          by true = refl
          by false = refl

      sweeps : (removed : Option ℕ) → IsCoded code (change_with removed (note_sweep shard) c) (change_with removed (note_sweep shard) d)
      sweeps None = r
      sweeps (Some n) =
          subst (λ (k : Core). IsCoded code (note_sweep shard n c) k) (sym (swept_is n d))
          (subst (λ (k : Core). IsCoded code k (record d { entries = (note_sweep shard n d).entries })) (sym (swept_is n c)) (told_coded code c d (note_sweep shard n c).entries (note_sweep shard n d).entries r))

      one : (e : Entry) → IsCoded code (tells_at_once shard e x c) (tells_at_once shard e x d)
      one (kind.Block line least bytes) = tells line
      one (kind.Mark line least block a) = tells line
      one (kind.Root line held a key) = tells line
      one (kind.Drop line key) = tells line
      one (kind.Enter line epoch) = enters line
      one (kind.Got from epoch round total deltas) = sweeps x.removed
      one other = r

      pub at_once_coded : (e f : Entry) → outline f ≡ outline e → IsCoded code (tells_at_once shard e x c) (tells_at_once shard f x d)
      at_once_coded e f same = by (same_or_blocks e f same)
        where
          by : (f ≡ e) ⊎ AreBlocks e f → IsCoded code (tells_at_once shard e x c) (tells_at_once shard f x d)
          by (inl is) = subst (λ (y : Entry). IsCoded code (tells_at_once shard e x c) (tells_at_once shard y x d)) (sym is) (one e)
          by (inr b) =
              subst (λ (y : Entry). IsCoded code (tells_at_once shard e x c) (tells_at_once shard y x d)) (sym b.second)
              (subst (λ (y : Entry). IsCoded code (tells_at_once shard y x c) (tell_operation b.line x.what d)) (sym b.first) (tells b.line))

  -- ---- an entry that takes effect

  pub done_alike : (shard : ℕ) (e f : Entry) → outline f ≡ outline e → done_by shard f d ≡ done_by shard e c
  done_alike shard e f same =
      (λ i. apply (same_front code c d r shard i + 1) f (address i) (same_catalogue code c d r shard i)) ∙ applied_alike (front_of shard c + 1) e f (named e c) (catalogue_of shard c) same
    where
      address : named f d ≡ named e c
      address = named_alike code c d r f ∙ named_outlined code c d r c f ∙ ap (λ (o : Outline). named o.entry c) same ∙ sym (named_outlined code c d r c e)

  catalogue_coded : (k l : Core) (shard : ℕ) (x y : Catalogue) → y ≡ x → IsCoded code k l → IsCoded code (set_catalogue shard x k) (set_catalogue shard y l)
  catalogue_coded k l shard x y e s = record { same = λ i. record (s.same i) { catalogues = slice_set (s.same i).catalogues shard (e i) }; operations = s.operations; groups = s.groups; pool = s.pool }

  pub taken_coded : (shard : ℕ) (e f : Entry) → outline f ≡ outline e → IsCoded code (taken shard e c) (taken shard f d)
  taken_coded shard e f same =
      post_coded code (set_catalogue shard (done_by shard e c).catalogue (change_group shard take_committed c)) (set_catalogue shard (done_by shard f d).catalogue (change_group shard take_committed d))
      (round_messages shard (done_by shard e c).effect.sends) (round_messages shard (done_by shard f d).effect.sends)
      (ap (λ (y : Applied). map bare (round_messages shard y.effect.sends)) did)
      (catalogue_coded (change_group shard take_committed c) (change_group shard take_committed d) shard (done_by shard e c).catalogue (done_by shard f d).catalogue (ap (λ (y : Applied). y.catalogue) did)
      (group_coded code c d shard take_committed take_committed (take_alike (group_of shard c) (group_of shard d) (group_alike code c d r shard)) r))
    where
      did : done_by shard f d ≡ done_by shard e c
      did = done_alike shard e f same

pub effect_coded : (code : Code) (c d : Core) → IsCoded code c d → HoldAddresses c.sessions → (shard : ℕ) (e f : Entry) → outline f ≡ outline e → IsCoded code (told_at_once shard e c) (told_at_once shard f d)
effect_coded code c d r holds shard e f same =
    subst (λ (x : Applied). IsCoded code (told_at_once shard e c) (tells_at_once shard f x.effect (taken shard f d))) (sym (done_alike code c d r shard e f same))
    (at_once_coded code (taken shard e c) (taken shard f d) (taken_coded code c d r shard e f same) holds shard (done_by shard e c).effect e f same)
