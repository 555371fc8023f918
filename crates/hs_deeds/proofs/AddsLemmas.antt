-- What a core tells in one change, and one beside it whose writes have payloads that tell their addresses: the same, but for the length of a refused write without data.
use Rattle.std.proofs.Common.{◌≡◌, ◌∙◌, sym, ap, subst, ◌⊎◌, inl, inr, ℕ, Bool, true, false, cond, List, [], ◌∷◌, ◌++◌, length, map, Option, Some, None, is_some, refl, append-nil, append_assoc, nat_le}
use Rattle.std.specs.List.{list_all}
use Rattle.std.specs.Option.{option_map}
use Rattle.hs_any_events.proofs.CodedChangeLemmas.{done_alike, taken_coded}
use Rattle.hs_any_events.proofs.CodedCoreLemmas.{IsCoded, busy_coded, coded_waiting, judging_coded, operation_is, pointers_coded, same_catalogue, same_sessions, view_coded}
use Rattle.hs_any_events.proofs.CodedEntryLemmas.{AreBlocks, outline, same_or_blocks}
use Rattle.hs_any_events.proofs.CodedLemmas.{Code, coded_op, coded_payload}
use Rattle.hs_any_events.proofs.CodedOpLemmas.{StepOutline, bytes_kept, coded_bytes, coded_operation, effect_kept, step_kept, step_outline}
use Rattle.hs_awaiting.specs.declared.wait.Wait.TheVariants as wait
use Rattle.hs_awaiting.specs.declared.waiting.Waiting.{Waiting}
use Rattle.hs_awaiting.specs.Words.{change_if, change_with}
use Rattle.hs_core_words.specs.Changing.{add_operation, note}
use Rattle.hs_core_words.specs.Effects.{note_enter, note_sweep, tell_enter, tell_operation}
use Rattle.hs_core_words.specs.Looking.{catalogue_of, operation_of, shape_of}
use Rattle.hs_core_words.specs.Operating.{begin_line, busy_line, go_on_with, resume, take_step}
use Rattle.hs_core_words.specs.Seeing.{pointers_for, view_for}
use Rattle.hs_core_words.specs.State.{Core}
use Rattle.hs_deeds.proofs.AlikeLemmas.{longer, longer_entry, one_at_least}
use Rattle.hs_desk.specs.declared.what.What.{What}
use Rattle.hs_desk.specs.declared.what.What.TheVariants as what
use Rattle.hs_effects.specs.Answered.{HoldAddresses}
use Rattle.hs_effects.specs.Taking.{done_by, taken}
use Rattle.hs_entry.specs.declared.entry.Entry.{Entry}
use Rattle.hs_entry.specs.declared.entry.Entry.TheVariants as kind
use Rattle.hs_journal.specs.declared.entry.JournalEntry.{JournalEntry}
use Rattle.hs_journal.specs.declared.entry.Who.TheVariants as who
use Rattle.hs_journal.specs.Deeds.{as_deed}
use Rattle.hs_limits.specs.declared.address.Address.{Address}
use Rattle.hs_model.specs.declared.deed.Deed.{Deed}
use Rattle.hs_model.specs.declared.deed.Deed.TheVariants as deed
use Rattle.hs_model.specs.declared.op.Asked.TheVariants as asked
use Rattle.hs_model.specs.declared.op.Op.{Op}
use Rattle.hs_model.specs.declared.op.Op.TheVariants as op
use Rattle.hs_model.specs.declared.reply.Reply.{Reply}
use Rattle.hs_model.specs.declared.reply.Reply.TheVariants as reply
use Rattle.hs_model.specs.Judge.{written_deed}
use Rattle.hs_ops.specs.Answers.{deed_of, handle_in, is_done, is_dup}
use Rattle.hs_ops.specs.declared.step.OpStep.{OpStep}
use Rattle.hs_ops.specs.declared.step.OpStep.TheVariants as step
use Rattle.hs_ops.specs.Operations.{Operation, bytes_step, effect_step, go_step, new_operation, wanted_number}
use Rattle.hs_ops.specs.Speaking.{asked_pointers, judging_shard}
use Rattle.hs_ops.specs.Views.{OpView}
use Rattle.hs_shard.specs.Clients.{Applied}
use Rattle.hs_shard.specs.declared.effect.Effect.{Effect}
use Rattle.hs_shard.specs.Facts.{Catalogue}
use Rattle.hs_standing.proofs.MuteLemmas.{Words, step_stays}
use Rattle.hs_standing.specs.Changes.{tells_at_once, told_at_once}
use Rattle.hs_tokens.specs.Seats.{Seats}

-- ---- entries more

pub record AddsAlike (before after other later : List JournalEntry) : Type 0 where
  pub mine : List JournalEntry
  pub theirs : List JournalEntry
  pub told : after ≡ before ++ mine
  pub also : later ≡ other ++ theirs
  pub alike : map as_deed theirs ≡ map longer_entry (map as_deed mine)

none_alike : (before after other later : List JournalEntry) → after ≡ before → later ≡ other → AddsAlike before after other later
none_alike before after other later e f = record { mine = []; theirs = []; told = e ∙ sym (append-nil before); also = f ∙ sym (append-nil other); alike = refl }

-- ---- the deed of an answer

by_done : (b : Bool) (x y : Deed) → longer x ≡ x → longer y ≡ y → cond b x y ≡ longer (cond b x y)
by_done true x y e f = sym e
by_done false x y e f = sym f

written_long : (b : Bool) (name : List ℕ) (a : Address) (ps : List Address) (h : ℕ) → longer (written_deed b name a ps h) ≡ written_deed b name a ps h
written_long true name a ps h = refl
written_long false name a ps h = refl

bytes_long : (code : Code) (a : Address) (payload : List ℕ) → length (coded_payload code a payload) ≡ one_at_least (length payload)
bytes_long code a [] = refl
bytes_long code a (n ∷ rest) = refl

deed_alike : (code : Code) (seats : Seats) (o : Op) (r : Reply) → deed_of seats (coded_op code o) r ≡ longer (deed_of seats o r)
unfolding deed_of
deed_alike code seats (op.Write session payload handles (Some a)) r = go (is_done r)
  where
    go : (b : Bool) → cond b (written_deed (is_dup r) session a (asked_pointers seats session handles) (handle_in r)) (deed.Refused (asked.Write session (length (coded_payload code a payload)) handles (Some a)))
        ≡ longer (cond b (written_deed (is_dup r) session a (asked_pointers seats session handles) (handle_in r)) (deed.Refused (asked.Write session (length payload) handles (Some a))))
    go true = sym (written_long (is_dup r) session a (asked_pointers seats session handles) (handle_in r))
    go false = ap (λ (n : ℕ). deed.Refused (asked.Write session n handles (Some a))) (bytes_long code a payload)
deed_alike code seats (op.Write session payload handles None) r = by_done (is_done r) _ _ (written_long (is_dup r) session _ (asked_pointers seats session handles) (handle_in r)) refl
deed_alike code seats (op.Open name) r = by_done (is_done r) _ _ refl refl
deed_alike code seats (op.Close name) r = by_done (is_done r) _ _ refl refl
deed_alike code seats (op.Read name handle) r = by_done (is_done r) _ _ refl refl
deed_alike code seats (op.Look name key) r = by_done (is_done r) _ _ refl refl
deed_alike code seats (op.Root name key handle) r = by_done (is_done r) _ _ refl refl
deed_alike code seats (op.Drop key) r = by_done (is_done r) _ _ refl refl
deed_alike code seats (op.Forget name handle) r = by_done (is_done r) _ _ refl refl
deed_alike code seats (op.Name name handle) r = by_done (is_done r) _ _ refl refl
deed_alike code seats op.Delete r = by_done (is_done r) _ _ refl refl
deed_alike code seats op.Stat r = by_done (is_done r) _ _ refl refl

-- ---- a step

same_answer : (q r : Reply) → step.Answer q ≡ step.Answer r → q ≡ r
same_answer q r e = cc e

silent : (line : ℕ) (w : Waiting) (t : OpStep) (c : Core) → ((r : Reply) → t ≡ step.Answer r → ⊥) → (take_step line w t c).entries ≡ c.entries
silent line w t c never = ap (λ (x : Words). x.entries) (step_stays line w t c never).words

module _ (code : Code) where
  step_adds : (c d : Core) (line : ℕ) (w : Waiting) (s t : OpStep) → d.sessions ≡ c.sessions → step_outline t ≡ step_outline s
      → AddsAlike c.entries (take_step line w s c).entries d.entries (take_step line (coded_waiting code w) t d).entries
  step_adds c d line w (step.Answer q) (step.Answer r) seats same =
      subst (λ (x : Reply). AddsAlike c.entries (take_step line w (step.Answer q) c).entries d.entries (take_step line (coded_waiting code w) (step.Answer x) d).entries) (sym (same_answer r q (ap (λ (s : StepOutline). s.step) same)))
      (record {
        mine = record { who = who.Line line; moment = c.moment; deed = deed_of c.sessions w.operation.op q; reply = q } ∷ [];
        theirs = record { who = who.Line line; moment = d.moment; deed = deed_of d.sessions (coded_op code w.operation.op) q; reply = q } ∷ [];
        told = refl;
        also = refl;
        alike = ap (λ (x : Deed). record { line = Some line; deed = x; reply = q } ∷ []) (ap (λ (x : Seats). deed_of x (coded_op code w.operation.op) q) seats ∙ deed_alike code c.sessions w.operation.op q);
      })
  step_adds c d line w (step.Propose e) (step.Propose f) seats same = none_alike _ _ _ _ (silent line w (step.Propose e) c (λ r h. cc h)) (silent line (coded_waiting code w) (step.Propose f) d (λ r h. cc h))
  step_adds c d line w (step.Compare m) (step.Compare n) seats same = none_alike _ _ _ _ (silent line w (step.Compare m) c (λ r h. cc h)) (silent line (coded_waiting code w) (step.Compare n) d (λ r h. cc h))
  step_adds c d line w step.Wait step.Wait seats same = none_alike _ _ _ _ (silent line w step.Wait c (λ r h. cc h)) (silent line (coded_waiting code w) step.Wait d (λ r h. cc h))
  step_adds c d line w (step.Answer q) (step.Propose f) seats same = absurd (cc (ap (λ (s : StepOutline). s.step) same))
  step_adds c d line w (step.Answer q) (step.Compare n) seats same = absurd (cc (ap (λ (s : StepOutline). s.step) same))
  step_adds c d line w (step.Answer q) step.Wait seats same = absurd (cc (ap (λ (s : StepOutline). s.step) same))
  step_adds c d line w (step.Propose e) (step.Answer r) seats same = absurd (cc (ap (λ (s : StepOutline). s.step) same))
  step_adds c d line w (step.Propose e) (step.Compare n) seats same = absurd (cc (ap (λ (s : StepOutline). s.step) same))
  step_adds c d line w (step.Propose e) step.Wait seats same = absurd (cc (ap (λ (s : StepOutline). s.step) same))
  step_adds c d line w (step.Compare m) (step.Answer r) seats same = absurd (cc (ap (λ (s : StepOutline). s.step) same))
  step_adds c d line w (step.Compare m) (step.Propose f) seats same = absurd (cc (ap (λ (s : StepOutline). s.step) same))
  step_adds c d line w (step.Compare m) step.Wait seats same = absurd (cc (ap (λ (s : StepOutline). s.step) same))
  step_adds c d line w step.Wait (step.Answer r) seats same = absurd (cc (ap (λ (s : StepOutline). s.step) same))
  step_adds c d line w step.Wait (step.Propose f) seats same = absurd (cc (ap (λ (s : StepOutline). s.step) same))
  step_adds c d line w step.Wait (step.Compare n) seats same = absurd (cc (ap (λ (s : StepOutline). s.step) same))

  module _ (c d : Core) (r : IsCoded code c d) where
    going_adds : (next other : OpView → Operation → OpStep) (line : ℕ)
        → ((w : Waiting) → operation_of line c ≡ Some w → step_outline (other (view_for w.shard w.operation.op c) (coded_operation code w.operation)) ≡ step_outline (next (view_for w.shard w.operation.op c) w.operation))
        → AddsAlike c.entries (go_on_with next line c).entries d.entries (go_on_with other line d).entries
    going_adds next other line alike =
        subst (λ (x : Option Waiting). AddsAlike c.entries (go_on_with next line c).entries d.entries (change_with x (λ w. take_step line w (other (view_for w.shard w.operation.op d) w.operation)) d).entries) (sym (operation_is code c d r line))
        (by (operation_of line c) refl)
      where
        by : (x : Option Waiting) → operation_of line c ≡ x
            → AddsAlike c.entries (change_with x (λ w. take_step line w (next (view_for w.shard w.operation.op c) w.operation)) c).entries d.entries
            (change_with (option_map (coded_waiting code) x) (λ w. take_step line w (other (view_for w.shard w.operation.op d) w.operation)) d).entries
        by None at = none_alike c.entries c.entries d.entries d.entries refl refl
        by (Some w) at =
            step_adds c d line w (next (view_for w.shard w.operation.op c) w.operation) (other (view_for w.shard (coded_op code w.operation.op) d) (coded_operation code w.operation)) (same_sessions code c d r)
            (ap (λ (v : OpView). step_outline (other v (coded_operation code w.operation))) (view_coded code c d r w.shard w.operation.op) ∙ alike w at)

    module _ (holds : HoldAddresses c.sessions) where
      pub goes_adds : (line : ℕ) → AddsAlike c.entries (resume line c).entries d.entries (resume line d).entries
      goes_adds line = going_adds go_step go_step line (λ w at. step_kept code (view_for w.shard w.operation.op c) holds w.operation)

      same_waiting : (u w : Waiting) → Some u ≡ Some w → u ≡ w
      same_waiting u w e = cc e

      pub bytes_adds : (line : ℕ) (bytes : Option (List ℕ)) (w : Waiting) → operation_of line c ≡ Some w
          → AddsAlike c.entries (go_on_with (λ v o. bytes_step v bytes (pointers_for w.shard w.operation.op c) o) line c).entries d.entries
          (go_on_with (λ v o. bytes_step v (coded_bytes code c.sessions w.operation.op bytes) (pointers_for w.shard (coded_op code w.operation.op) d) o) line d).entries
      bytes_adds line bytes w at =
          going_adds (λ v o. bytes_step v bytes (pointers_for w.shard w.operation.op c) o) (λ v o. bytes_step v (coded_bytes code c.sessions w.operation.op bytes) (pointers_for w.shard (coded_op code w.operation.op) d) o) line
          (λ u there. subst (λ (x : Waiting). AreAlike x) (same_waiting w u (sym at ∙ there)) its)
        where
          AreAlike : Waiting → Type 0
          AreAlike u =
              step_outline (bytes_step (view_for u.shard u.operation.op c) (coded_bytes code c.sessions w.operation.op bytes) (pointers_for w.shard (coded_op code w.operation.op) d) (coded_operation code u.operation))
              ≡ step_outline (bytes_step (view_for u.shard u.operation.op c) bytes (pointers_for w.shard w.operation.op c) u.operation)

          v : OpView
          v = view_for w.shard w.operation.op c

          its : AreAlike w
          its =
              ap (λ (ps : List Address). step_outline (bytes_step v (coded_bytes code c.sessions w.operation.op bytes) ps (coded_operation code w.operation))) (pointers_coded code c d r w.shard w.operation.op)
              ∙ bytes_kept code v holds w.operation.line (wanted_number w.operation.stage) (pointers_for w.shard w.operation.op c) bytes w.operation.op

      pub line_adds : (line : ℕ) (o : Op) → AddsAlike c.entries (begin_line line o c).entries d.entries (begin_line line (coded_op code o) d).entries
      line_adds line o =
          subst (λ (k : ℕ). AddsAlike c.entries (begin_line line o c).entries d.entries (begun_at k).entries) (sym (judging_coded code c d r o))
          (step_adds (add_operation line w begun) (add_operation line (coded_waiting code w) other) line w (go_step v w.operation) (go_step (seen shard) (coded_operation code w.operation)) (same_sessions code c d r)
          (ap (λ (x : OpView). step_outline (go_step x (coded_operation code w.operation))) (λ i. record (view_coded code begun other begun_coded shard o i) { busy = busy_coded code c d r o i }) ∙ step_kept code v holds w.operation))
        where
          shard : ℕ
          shard = judging_shard (shape_of c).shards c.sessions o

          begun : Core
          begun = record c { progress = record c.progress { last_line = line } }

          other : Core
          other = record d { progress = record d.progress { last_line = line } }

          begun_coded : IsCoded code begun other
          begun_coded = record { same = r.same; operations = r.operations; groups = r.groups; pool = r.pool }

          w : Waiting
          w = record { operation = new_operation line o; shard = shard; wait = wait.View }

          v : OpView
          v = record (view_for shard o begun) { busy = busy_line o c }

          seen : ℕ → OpView
          seen k = record (view_for k (coded_op code o) other) { busy = busy_line (coded_op code o) d }

          begun_at : ℕ → Core
          begun_at k =
              let u : Waiting = record { operation = new_operation line (coded_op code o); shard = k; wait = wait.View } in
              take_step line u (go_step (seen k) u.operation) (add_operation line u other)

      -- ---- what is told of an entry

      module _ (shard : ℕ) (x : Effect) where
        tells : (line : ℕ) → AddsAlike c.entries (tell_operation line x.what c).entries d.entries (tell_operation line x.what d).entries
        tells line = going_adds (λ v o. effect_step v x.what o) (λ v o. effect_step v x.what o) line (λ w at. effect_kept code (view_for w.shard w.operation.op c) holds w.operation.line x.what w.operation.op)

        enters_alone : (did : What) → AddsAlike c.entries (note_enter shard did c).entries d.entries (note_enter shard did d).entries
        enters_alone (what.Entered epoch) = record {
          mine = record { who = who.Shard shard; moment = c.moment; deed = deed.Entered shard; reply = reply.Enter epoch } ∷ [];
          theirs = record { who = who.Shard shard; moment = d.moment; deed = deed.Entered shard; reply = reply.Enter epoch } ∷ [];
          told = refl;
          also = refl;
          alike = refl;
        }
        enters_alone other = none_alike c.entries c.entries d.entries d.entries refl refl

        asked_alike : (y : Option Waiting) → is_some (option_map (coded_waiting code) y) ≡ is_some y
        asked_alike None = refl
        asked_alike (Some w) = refl

        enters : (line : ℕ) → AddsAlike c.entries (tell_enter shard line x.what c).entries d.entries (tell_enter shard line x.what d).entries
        enters line =
            subst (λ (b : Bool). AddsAlike c.entries (tell_enter shard line x.what c).entries d.entries (cond b (tell_operation line x.what d) (note_enter shard x.what d)).entries)
            (sym (ap (λ (y : Option Waiting). is_some y) (operation_is code c d r line) ∙ asked_alike (operation_of line c)))
            (by (is_some (operation_of line c)))
          where
            by : (b : Bool) → AddsAlike c.entries (cond b (tell_operation line x.what c) (note_enter shard x.what c)).entries d.entries (cond b (tell_operation line x.what d) (note_enter shard x.what d)).entries
            by true = tells line
            by false = enters_alone x.what

        -- a sweep, and that its run is done
        abbrev swept_entries : ℕ → ℕ → Bool → ℕ → List JournalEntry
        swept_entries n epoch all moment =
            cond all (record { who = who.Shard shard; moment = moment; deed = deed.Swept shard; reply = reply.Sweep epoch n } ∷ record { who = who.Store; moment = moment; deed = deed.Nothing; reply = reply.Done epoch } ∷ [])
            (record { who = who.Shard shard; moment = moment; deed = deed.Swept shard; reply = reply.Sweep epoch n } ∷ [])

        noted : (n : ℕ) (k : Core) → (note_sweep shard n k).entries ≡ k.entries ++ swept_entries n (catalogue_of shard k).swept (list_all (λ (y : Catalogue). nat_le (catalogue_of shard k).swept y.swept) k.catalogues) k.moment
        noted n k = by (list_all (λ (y : Catalogue). nat_le epoch y.swept) k.catalogues)
          where
            epoch : ℕ
            epoch = (catalogue_of shard k).swept

            by : (b : Bool) → (change_if b (note who.Store deed.Nothing (reply.Done (catalogue_of shard k).swept)) (note (who.Shard shard) (deed.Swept shard) (reply.Sweep (catalogue_of shard k).swept n) k)).entries ≡ k.entries ++ swept_entries n (catalogue_of shard k).swept b k.moment
            by true = append_assoc k.entries _ _
            by false = refl

        sweeps : (removed : Option ℕ) → AddsAlike c.entries (change_with removed (note_sweep shard) c).entries d.entries (change_with removed (note_sweep shard) d).entries
        sweeps None = none_alike c.entries c.entries d.entries d.entries refl refl
        sweeps (Some n) = record {
          mine = swept_entries n (catalogue_of shard c).swept (list_all (λ (y : Catalogue). nat_le (catalogue_of shard c).swept y.swept) c.catalogues) c.moment;
          theirs = swept_entries n (catalogue_of shard d).swept (list_all (λ (y : Catalogue). nat_le (catalogue_of shard d).swept y.swept) d.catalogues) d.moment;
          told = noted n c;
          also = noted n d;
          alike =
              (λ i. map as_deed (swept_entries n (same_catalogue code c d r shard i).swept (list_all (λ (y : Catalogue). nat_le (same_catalogue code c d r shard i).swept y.swept) (r.same i).catalogues) d.moment))
              ∙ by (list_all (λ (y : Catalogue). nat_le (catalogue_of shard c).swept y.swept) c.catalogues);
        }
          where
            by : (b : Bool) → map as_deed (swept_entries n (catalogue_of shard c).swept b d.moment) ≡ map longer_entry (map as_deed (swept_entries n (catalogue_of shard c).swept b c.moment))
            by true = refl
            by false = refl

        one : (e : Entry) → AddsAlike c.entries (tells_at_once shard e x c).entries d.entries (tells_at_once shard e x d).entries
        one (kind.Block line least bytes) = tells line
        one (kind.Mark line least block a) = tells line
        one (kind.Root line held a key) = tells line
        one (kind.Drop line key) = tells line
        one (kind.Enter line epoch) = enters line
        one (kind.Got from epoch round total deltas) = sweeps x.removed
        one other = none_alike c.entries c.entries d.entries d.entries refl refl

        at_once_adds : (e f : Entry) → outline f ≡ outline e → AddsAlike c.entries (tells_at_once shard e x c).entries d.entries (tells_at_once shard f x d).entries
        at_once_adds e f same = by (same_or_blocks e f same)
          where
            by : (f ≡ e) ⊎ AreBlocks e f → AddsAlike c.entries (tells_at_once shard e x c).entries d.entries (tells_at_once shard f x d).entries
            by (inl is) = subst (λ (y : Entry). AddsAlike c.entries (tells_at_once shard e x c).entries d.entries (tells_at_once shard y x d).entries) (sym is) (one e)
            by (inr b) =
                subst (λ (y : Entry). AddsAlike c.entries (tells_at_once shard e x c).entries d.entries (tells_at_once shard y x d).entries) (sym b.second)
                (subst (λ (y : Entry). AddsAlike c.entries (tells_at_once shard y x c).entries d.entries (tell_operation b.line x.what d).entries) (sym b.first) (tells b.line))

pub effect_adds : (code : Code) (c d : Core) → IsCoded code c d → HoldAddresses c.sessions → (shard : ℕ) (e f : Entry) → outline f ≡ outline e → AddsAlike c.entries (told_at_once shard e c).entries d.entries (told_at_once shard f d).entries
effect_adds code c d r holds shard e f same =
    subst (λ (x : Applied). AddsAlike c.entries (told_at_once shard e c).entries d.entries (tells_at_once shard f x.effect (taken shard f d)).entries) (sym (done_alike code c d r shard e f same))
    (at_once_adds code (taken shard e c) (taken shard f d) (taken_coded code c d r shard e f same) holds shard (done_by shard e c).effect e f same)
