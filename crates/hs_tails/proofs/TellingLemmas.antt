-- Of what an entry tells that takes effect: the operation of its line alone goes on.
use Rattle.std.proofs.Common.{◌≡◌, ◌∙◌, ap, sym, subst, inl, inr, ℕ, ◌+◌, Bool, true, false, List, Option, Some, None, refl, arith}
use Rattle.std.proofs.lemmas.Bool.{cases_eq, eq-eqb, ne_eqb}
use Rattle.std.specs.BTreeMap.{is_at}
use Rattle.std.specs.List.{list_all}
use Rattle.std.specs.Map.{lookup}
use Rattle.std.specs.Ordering.{nat_cmp}
use Rattle.std.specs.Prelude.{if◌then◌else◌, is_some, nat_le}
use Rattle.hs_anatomy.specs.Effect.{done_by, taken, told_at_once}
use Rattle.hs_awaiting.specs.declared.waiting.Waiting.{Waiting}
use Rattle.hs_awaiting.specs.Words.{change_if, change_with}
use Rattle.hs_core_words.specs.Changing.{note}
use Rattle.hs_core_words.specs.Effects.{note_enter, note_sweep, tell_operation}
use Rattle.hs_core_words.specs.Looking.{catalogue_of, front_of, group_of, operation_of}
use Rattle.hs_core_words.specs.Operating.{take_step}
use Rattle.hs_core_words.specs.Seeing.{view_for}
use Rattle.hs_core_words.specs.State.{Core}
use Rattle.hs_desk.specs.declared.what.What.{What}
use Rattle.hs_desk.specs.declared.what.What.TheVariants as what
use Rattle.hs_effects.proofs.GroupLemmas.{committed_first}
use Rattle.hs_effects.specs.Logged.{HasAsked, IsOrderly, asked_by}
use Rattle.hs_entry.specs.declared.entry.Entry.{Entry}
use Rattle.hs_entry.specs.declared.entry.Entry.TheVariants as kind
use Rattle.hs_journal.specs.declared.entry.Who.TheVariants as who
use Rattle.hs_limits.specs.declared.address.Address.{Address}
use Rattle.hs_model.specs.declared.deed.Deed.TheVariants as deed
use Rattle.hs_model.specs.declared.reply.Reply.TheVariants as reply
use Rattle.hs_ops.specs.declared.step.OpStep.{OpStep}
use Rattle.hs_ops.specs.Operations.{effect_step}
use Rattle.hs_replica.specs.Group.{committed}
use Rattle.hs_shard.specs.Facts.{Catalogue}
use Rattle.hs_tails.proofs.LinedLemmas.{TellsLine}
use Rattle.hs_tails.proofs.MovedLemmas.{carried, effect_wants}
use Rattle.hs_tails.specs.Lines.{is_viewed}

some_line : (j k : ℕ) → Some j ≡ Some k → j ≡ k
some_line j k e = cc e

no_line : (o : Option ℕ) (k : ℕ) → o ≡ None → o ≡ Some k → ⊥
no_line o k none some = let wrong : None ≡ Some k = sym none ∙ some in cc wrong

entered_operations : (shard : ℕ) (did : What) (c : Core) → (note_enter shard did c).operations ≡ c.operations
entered_operations shard what.Nothing c = refl
entered_operations shard (what.Viewed view) c = refl
entered_operations shard what.Stored c = refl
entered_operations shard what.Marked c = refl
entered_operations shard what.Again c = refl
entered_operations shard what.Rooted c = refl
entered_operations shard what.Dropped c = refl
entered_operations shard (what.Entered epoch) c = refl
entered_operations shard what.Refused c = refl

swept_operations : (shard removed : ℕ) (c : Core) → (note_sweep shard removed c).operations ≡ c.operations
swept_operations shard removed c = go (list_all (λ (x : Catalogue). nat_le (catalogue_of shard c).swept x.swept) c.catalogues)
  where
    go : (b : Bool) → (change_if b (note who.Store deed.Nothing (reply.Done (catalogue_of shard c).swept)) (note (who.Shard shard) (deed.Swept shard) (reply.Sweep (catalogue_of shard c).swept removed) c)).operations ≡ c.operations
    go true = refl
    go false = refl

removed_operations : (shard : ℕ) (removed : Option ℕ) (c : Core) → (change_with removed (note_sweep shard) c).operations ≡ c.operations
removed_operations shard None c = refl
removed_operations shard (Some n) c = swept_operations shard n c

module _ (g : ℕ) (s : Core) (Tail : List Entry → Type 0) (name : List ℕ → Address) (a : Core) (orderly : IsOrderly name a) (shard number : ℕ) where
  -- nothing is told to a line
  none_told : (entry : Entry) (b : Core) → b.operations ≡ a.operations → asked_by entry ≡ None → TellsLine g s Tail shard entry a b
  none_told entry b same none = record {
    others = λ k apart. ap (λ (es : List (ℕ × Waiting)). lookup (is_at (nat_cmp k)) es) same;
    own = λ k u is there. absurd (no_line (asked_by entry) k none is);
  }

  module _ (entry : Entry) (next : committed (group_of shard a) ≡ Some (number, entry)) (line : ℕ) (is : asked_by entry ≡ Some line) where
    asked : HasAsked name a shard (front_of shard a + 1 + 0) line entry
    asked = orderly.asked shard 0 line entry (committed_first (group_of shard a) number entry next).first is

    pub line_told : (did : What) → TellsLine g s Tail shard entry a (tell_operation line did (taken shard entry a))
    line_told did =
        let x : Core = taken shard entry a in
        let w : Waiting = asked.waiting in
        let step : OpStep = effect_step (view_for w.shard w.operation.op x) did w.operation in
        let left : tell_operation line did x ≡ take_step line w step x = ap (λ (o : Option Waiting). change_with o (λ v. take_step line v (effect_step (view_for v.shard v.operation.op x) did v.operation)) x) asked.at in
        let moves = carried line w x orderly.once w asked.at step in
        record {
          others = λ k apart. ap (λ (c : Core). operation_of k c) left ∙ moves.others k (λ same. apart (is ∙ ap (λ n. Some n) (sym same)));
          own = λ k u asks there. (
              let same : line ≡ k = some_line line k (sym is ∙ asks) in
              let own = moves.own u (sym (ap (λ (c : Core). operation_of line c) left) ∙ ap (λ n. operation_of n (tell_operation line did x)) same ∙ there) in
              (own.0 ∙ asked.judges, (own.1.0, λ v. own.1.1 (let v_here : is_viewed asked.waiting.shard a ≡ false = subst (λ n. is_viewed n a ≡ false) (sym asked.judges) v in (v_here, effect_wants (view_for w.shard w.operation.op x) did w.operation v_here))))
              );
        }

  pub tells_line : (entry : Entry) → committed (group_of shard a) ≡ Some (number, entry) → TellsLine g s Tail shard entry a (told_at_once shard entry a)
  tells_line (kind.View view) next = none_told (kind.View view) (told_at_once shard (kind.View view) a) refl refl
  tells_line (kind.Block line least bytes) next = line_told (kind.Block line least bytes) next line refl (done_by shard (kind.Block line least bytes) a).effect.what
  tells_line (kind.Mark line least block address) next = line_told (kind.Mark line least block address) next line refl (done_by shard (kind.Mark line least block address) a).effect.what
  tells_line (kind.Root line held address key) next = line_told (kind.Root line held address key) next line refl (done_by shard (kind.Root line held address key) a).effect.what
  tells_line (kind.Drop line key) next = line_told (kind.Drop line key) next line refl (done_by shard (kind.Drop line key) a).effect.what
  tells_line (kind.Enter line epoch) next = elim (cases_eq line 0) [
    | inl zero ↦ by_itself zero
    | inr some ↦ by_client some
  ]
    where
      entry : Entry
      entry = kind.Enter line epoch

      x : Core
      x = taken shard (kind.Enter line epoch) a

      did : What
      did = (done_by shard (kind.Enter line epoch) a).effect.what

      nobody : line ≡ 0 → (o : Option Waiting) → operation_of line a ≡ o → o ≡ None
      nobody zero None at = refl
      nobody zero (Some w) at = let counted = (orderly.pending line w at).counted in absurd (omega (arith, counted, zero))

      by_itself : line ≡ 0 → TellsLine g s Tail shard (kind.Enter line epoch) a (told_at_once shard (kind.Enter line epoch) a)
      by_itself zero =
          let left : told_at_once shard (kind.Enter line epoch) a ≡ note_enter shard did x = ap (λ (o : Option Waiting). if is_some o then tell_operation line did x else note_enter shard did x) (nobody zero (operation_of line a) refl) in
          none_told (kind.Enter line epoch) (told_at_once shard (kind.Enter line epoch) a) (ap (λ (c : Core). c.operations) left ∙ entered_operations shard did x) (ap (λ b. if b then None else Some line) (eq-eqb line 0 zero))

      by_client : (line ≡ 0 → ⊥) → TellsLine g s Tail shard (kind.Enter line epoch) a (told_at_once shard (kind.Enter line epoch) a)
      by_client some =
          let is : asked_by (kind.Enter line epoch) ≡ Some line = ap (λ b. if b then None else Some line) (ne_eqb line 0 some) in
          let left : told_at_once shard (kind.Enter line epoch) a ≡ tell_operation line did x = ap (λ (o : Option Waiting). if is_some o then tell_operation line did x else note_enter shard did x) (asked (kind.Enter line epoch) next line is).at in
          subst (λ (c : Core). TellsLine g s Tail shard (kind.Enter line epoch) a c) (sym left) (line_told (kind.Enter line epoch) next line is did)
  tells_line (kind.Got sender epoch round total deltas) next =
      let entry : Entry = kind.Got sender epoch round total deltas in
      none_told entry (told_at_once shard entry a) (removed_operations shard (done_by shard entry a).effect.removed (taken shard entry a)) refl
  tells_line (kind.Base view epoch swept round frames) next = none_told (kind.Base view epoch swept round frames) (told_at_once shard (kind.Base view epoch swept round frames) a) refl refl
  tells_line (kind.KeptBlock born mark flags count bytes) next = none_told (kind.KeptBlock born mark flags count bytes) (told_at_once shard (kind.KeptBlock born mark flags count bytes) a) refl refl
  tells_line (kind.KeptRoot created dropped counted address key) next = none_told (kind.KeptRoot created dropped counted address key) (told_at_once shard (kind.KeptRoot created dropped counted address key) a) refl refl
  tells_line (kind.KeptRound way other epoch round total deltas) next = none_told (kind.KeptRound way other epoch round total deltas) (told_at_once shard (kind.KeptRound way other epoch round total deltas) a) refl refl

  -- the operation of an entry's line is of its shard
  pub line_judges : (entry : Entry) → committed (group_of shard a) ≡ Some (number, entry) → (k : ℕ) → asked_by entry ≡ Some k → (w : Waiting) → operation_of k a ≡ Some w → w.shard ≡ shard
  line_judges entry next k is w at =
      let h = asked entry next k is in
      let same : h.waiting ≡ w = same_waiting h.waiting w (sym h.at ∙ at) in
      ap (λ (x : Waiting). x.shard) (sym same) ∙ h.judges
    where
      same_waiting : (u v : Waiting) → Some u ≡ Some v → u ≡ v
      same_waiting u v e = cc e
