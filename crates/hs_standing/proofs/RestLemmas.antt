-- What waits rests on what is there: what single changes keep.
use Rattle.std.proofs.Common.{◌≡◌, ◌∙◌, sym, ap, subst, inl, inr, ℕ, zero, suc, ◌+◌, ◌<◌, ◌≤◌, true, false, List, [], length, Option, Some, None, refl, arith, slice_get}
use Rattle.std.proofs.lemmas.Bool.{cases_eq}
use Rattle.hs_standing.specs.Changes.{IsBeside, told_at_once}
use Rattle.hs_answered.specs.Standing.{IsFolded, store_with}
use Rattle.hs_awaiting.specs.declared.waiting.Waiting.{Waiting}
use Rattle.hs_core_words.specs.Asking.{send_round}
use Rattle.hs_core_words.specs.Changing.{change_pool, note, refuse}
use Rattle.hs_core_words.specs.Effects.{tell_operation}
use Rattle.hs_core_words.specs.Entering.{is_enter_due}
use Rattle.hs_core_words.specs.Looking.{catalogue_of, front_of, group_of, operation_of, shape_of}
use Rattle.hs_core_words.specs.Opening.{Taken, new_core}
use Rattle.hs_core_words.specs.Operating.{begin_line, busy_line, go_on_with, propose_entry, resume}
use Rattle.hs_core_words.specs.Seeing.{pointers_for, view_for}
use Rattle.hs_core_words.specs.State.{Core}
use Rattle.hs_core_words.specs.Views.{begin_view}
use Rattle.hs_desk.specs.declared.what.What.{What}
use Rattle.hs_effects.specs.Lawful.{MayFollow}
use Rattle.hs_effects.specs.Taking.{IsNamed, done_by, folds_behind, next_deed, setting_of, taken}
use Rattle.hs_effects.proofs.EffectLemmas.{committed_named}
use Rattle.hs_effects.proofs.EventLemmas.{none_wait}
use Rattle.hs_effects.proofs.FoldLemmas.{taken_folds}
use Rattle.hs_effects.proofs.GroupLemmas.{committed_first}
use Rattle.hs_entry.specs.declared.entry.Entry.{Entry}
use Rattle.hs_entry.specs.declared.entry.Entry.TheVariants as kind
use Rattle.hs_entry.specs.Entries.{is_of_base}
use Rattle.hs_fold.specs.Runs.Facts.{Catalogue as Folded}
use Rattle.hs_fold.specs.Runs.History.{applied}
use Rattle.hs_fold.specs.Shards.Parted.{NamesUpTo}
use Rattle.hs_fold.specs.Shards.Sound.{most_records}
use Rattle.hs_fold.proofs.Shards.PlaceLemmas.{length-set}
use Rattle.hs_journal.specs.declared.entry.Who.TheVariants as who
use Rattle.hs_laws.specs.Valid.{IsValid}
use Rattle.hs_limits.specs.declared.address.Address.{Address}
use Rattle.hs_limits.specs.declared.delta.Delta.{Delta}
use Rattle.hs_limits.specs.declared.limits.Limits.{Limits}
use Rattle.hs_limits.specs.declared.shape.Shape.{Shape}
use Rattle.hs_members.specs.Members.{view_of}
use Rattle.hs_model.specs.declared.deed.Deed.TheVariants as deed
use Rattle.hs_model.specs.declared.op.Op.{Op}
use Rattle.hs_model.specs.declared.reply.Reply.{Reply}
use Rattle.hs_model.specs.declared.reply.Reply.TheVariants as reply
use Rattle.hs_ops.specs.declared.step.OpStep.{OpStep}
use Rattle.hs_ops.specs.Operations.{Operation, bytes_step, effect_step, go_step, new_operation}
use Rattle.hs_ops.specs.Speaking.{judging_shard}
use Rattle.hs_ops.specs.Views.{OpView}
use Rattle.hs_post.specs.Pool.{without}
use Rattle.hs_replica.specs.Group.{Group, committed}
use Rattle.hs_standing.specs.Rests.{AreResting, AreStored, GotsWait, IsGrounded, IsResting}
use Rattle.hs_standing.proofs.AskLemmas.{Seeks, done_seeks, going_seeks, told_seeks}
use Rattle.hs_standing.proofs.EnterLemmas.{due_waits}
use Rattle.hs_standing.proofs.FollowLemmas.{is_a_got, may_follow, names_elsewhere, names_grow, names_no_later, stays_behind}
use Rattle.hs_standing.proofs.GroundLemmas.{sought_rests}
use Rattle.hs_standing.proofs.RestsListLemmas.{Each, each_begun, each_goes, each_proposed, each_same, each_taken, each_told, each_viewed, group_again}
use Rattle.hs_standing.proofs.StoredLemmas.{taken_stored}
use Rattle.hs_standing.proofs.ValidLemmas.{valid_behind}
use Rattle.hs_waiting.specs.Waits.{EntryWaits}
use Rattle.hs_waiting.proofs.StayLemmas.{NamesAnother}

-- ---- but for Gots

-- an entry that waits has what it rests on, if it is no Got
record IsRestingBut (cs : List Folded) (shard front : ℕ) (entry : Entry) : Type 0 where
  of : shard < length cs
  ordinary : is_of_base entry ≡ false
  names : NamesUpTo front entry
  waits : is_a_got entry ≡ false → EntryWaits cs shard entry

but : (cs : List Folded) (shard front : ℕ) (entry : Entry) → IsResting cs shard front entry → IsRestingBut cs shard front entry
but cs shard front entry r = record { of = r.of; ordinary = r.ordinary; names = r.names; waits = λ none. r.waits }

-- with the Gots, each has
whole : (cs : List Folded) (c : Core) → GotsWait c cs → Each (λ shard front entry. IsRestingBut cs shard front entry) c → AreResting c cs
whole cs c gots all shard place entry at =
    let r : IsRestingBut cs shard (front_of shard c) entry = all shard place entry at in
    record { of = r.of; ordinary = r.ordinary; names = r.names; waits = by entry at r.waits }
  where
    by : (x : Entry) → slice_get (group_of shard c).waiting place ≡ Some x → (is_a_got x ≡ false → EntryWaits cs shard x) → EntryWaits cs shard x
    by (kind.Got from epoch round total deltas) e w = gots shard place from epoch round total deltas e
    by (kind.View view) e w = w refl
    by (kind.Block line least bytes) e w = w refl
    by (kind.Mark line least block a) e w = w refl
    by (kind.Root line held a key) e w = w refl
    by (kind.Drop line key) e w = w refl
    by (kind.Enter line epoch) e w = w refl
    by (kind.Base view epoch swept round frames) e w = w refl
    by (kind.KeptBlock born mark flags count bytes) e w = w refl
    by (kind.KeptRoot created dropped counted address key) e w = w refl
    by (kind.KeptRound way other epoch round total deltas) e w = w refl

-- ---- changes beside

pub rests_beside : (cs : List Folded) (a b : Core) → AreResting a cs → IsBeside a b → AreResting b cs
rests_beside cs a b rests beside = each_same (λ shard front entry. IsResting cs shard front entry) a b beside.waiting beside.front rests

pub rests_downed : (cs : List Folded) (c : Core) → AreResting c cs → (peer line : ℕ) → AreResting (note who.Store deed.Nothing (reply.Down peer line) c) cs
rests_downed cs c rests peer line = rests

pub rests_refused : (cs : List Folded) (c : Core) → AreResting c cs → (line : ℕ) (refusal : Reply) → AreResting (refuse line refusal c) cs
rests_refused cs c rests line refusal = rests

pub rests_again : (cs : List Folded) (c : Core) → AreResting c cs → (back shard : ℕ) → AreResting (send_round back shard c) cs
rests_again cs c rests back shard =
    each_same (λ shard front entry. IsResting cs shard front entry) c (send_round back shard c)
    (λ g. ap (λ (x : Group). x.waiting) (group_again g back shard c)) (λ g. ap (λ (x : Group). x.front) (group_again g back shard c)) rests

-- ---- as the core opens

pub rests_new : (cs : List Folded) (shape : Shape) (limits : Limits) (found : Taken) (moment : ℕ) → AreResting (new_core shape limits found moment) cs
rests_new cs shape limits found moment shard place entry at = absurd (nothing place (sym (ap (λ (es : List Entry). slice_get es place) (none_wait (λ bytes. record { 0 = bytes }) shape found _ shard _ refl)) ∙ at))
  where
    nothing : (k : ℕ) → slice_get [] k ≡ Some entry → ⊥
    nothing zero e = cc e
    nothing (suc k) e = cc e

pub rests_opens : (cs : List Folded) (c : Core) → AreResting c cs → (shard : ℕ) → shard < length cs → AreResting (begin_view shard c) cs
rests_opens cs c rests shard low =
    let new : IsResting cs shard (front_of shard c) (kind.View (view_of shard c.members)) = record { of = low; ordinary = refl; names = tt; waits = tt } in
    each_viewed shard c (λ shard front entry. IsResting cs shard front entry) new rests

-- ---- entries that are proposed

pub rests_due : (name : List ℕ → Address) (cs : List Folded) (c : Core) → IsGrounded name c cs → (shard : ℕ) → shard < (shape_of c).shards → is_enter_due shard c ≡ true
    → AreResting (propose_entry shard (kind.Enter 0 ((catalogue_of shard c).epoch + 1)) c) cs
rests_due name cs c its shard low due =
    let each = its.lawful.folded.shards in
    let new : IsResting cs shard (front_of shard c) (kind.Enter 0 ((catalogue_of shard c).epoch + 1)) =
    record { of = omega (arith, low, each); ordinary = refl; names = tt; waits = due_waits name cs c its.lawful shard low due } in
    each_proposed (λ shard front entry. IsResting cs shard front entry) shard (kind.Enter 0 ((catalogue_of shard c).epoch + 1)) c new its.resting

-- ---- operations that go on

module _ (name : List ℕ → Address) (cs : List Folded) (c : Core) (its : IsGrounded name c cs) where
  -- whatever judges a step, where it proposes only what is sought
  steps_rest : (next : OpView → Operation → OpStep) (line : ℕ) → ((w : Waiting) → operation_of line c ≡ Some w → Seeks (view_for w.shard w.operation.op c) (pointers_for w.shard w.operation.op c) w.operation.line w.operation.op (next (view_for w.shard w.operation.op c) w.operation))
      → AreResting (go_on_with next line c) cs
  steps_rest next line seeks = each_goes (λ shard front entry. IsResting cs shard front entry) next line c (λ w at entry e.
      sought_rests name cs c its.lawful.folded its.valid its.holds its.stored w.shard w.operation.line None w.operation.op (its.orderly.pending line w at).judges entry (seeks w at entry e)) its.resting

  pub rests_goes : (line : ℕ) → AreResting (resume line c) cs
  rests_goes line = steps_rest go_step line (λ w at. going_seeks (view_for w.shard w.operation.op c) (pointers_for w.shard w.operation.op c) w.operation)

  pub rests_told : (line : ℕ) (bytes : Option (List ℕ)) (w : Waiting) → operation_of line c ≡ Some w → AreResting (go_on_with (λ v o. bytes_step v bytes (pointers_for w.shard w.operation.op c) o) line c) cs
  rests_told line bytes w at = steps_rest (λ v o. bytes_step v bytes (pointers_for w.shard w.operation.op c) o) line (λ u found.
      subst (λ (x : Waiting). Seeks (view_for x.shard x.operation.op c) (pointers_for x.shard x.operation.op c) x.operation.line x.operation.op (bytes_step (view_for x.shard x.operation.op c) bytes (pointers_for w.shard w.operation.op c) x.operation))
      (same w u (sym at ∙ found)) (told_seeks (view_for w.shard w.operation.op c) (pointers_for w.shard w.operation.op c) bytes w.operation))
    where
      same : (x y : Waiting) → Some x ≡ Some y → x ≡ y
      same x y e = cc e

  pub rests_line : (line : ℕ) (o : Op) → AreResting (begin_line line o c) cs
  rests_line line o = each_begun (λ shard front entry. IsResting cs shard front entry) line o c (λ entry e.
      sought_rests name cs begun folded its.valid its.holds its.stored shard line (busy_line o c) o refl entry
      (going_seeks (record (view_for shard o begun) { busy = busy_line o c }) (pointers_for shard o begun) (new_operation line o) entry e)) its.resting
    where
      begun : Core
      begun = record c { progress = record c.progress { last_line = line } }

      shard : ℕ
      shard = judging_shard (shape_of c).shards c.sessions o

      folded : IsFolded (record c { progress = record c.progress { last_line = line } }) cs
      folded = record { valid = its.lawful.folded.valid; shards = its.lawful.folded.shards; own = its.lawful.folded.own; catalogues = its.lawful.folded.catalogues }

  -- ---- a Got of a round that has come

  pub rests_round : (number from to epoch round total : ℕ) (deltas : List Delta) → to < (shape_of c).shards
      → GotsWait (propose_entry to (kind.Got from epoch round total deltas) (change_pool (without number) c)) cs → AreResting (propose_entry to (kind.Got from epoch round total deltas) (change_pool (without number) c)) cs
  rests_round number from to epoch round total deltas low gots =
      let each = its.lawful.folded.shards in
      let new : IsRestingBut cs to (front_of to c) (kind.Got from epoch round total deltas) = record { of = omega (arith, low, each); ordinary = refl; names = tt; waits = λ none. absurd (cc none) } in
      whole cs (propose_entry to (kind.Got from epoch round total deltas) (change_pool (without number) c)) gots
      (each_proposed (λ shard front entry. IsRestingBut cs shard front entry) to (kind.Got from epoch round total deltas) (change_pool (without number) c) new
      (λ shard place entry at. but cs shard (front_of shard c) entry (its.resting shard place entry at)))

-- ---- an entry takes effect

module _ (name : List ℕ → Address) (cs : List Folded) (c : Core) (its : IsGrounded name c cs) (shard number : ℕ) (entry : Entry) (low : shard < (shape_of c).shards) (leads : committed (group_of shard c) ≡ Some (number, entry))
    (few : (g : ℕ) → length (catalogue_of g (taken shard entry c)).roots ≤ most_records) where
  abbrev here : Core
  here = taken shard entry c

  abbrev behind : List Folded
  behind = folds_behind name cs shard entry c

  called : IsNamed name entry c
  called = committed_named name c shard number entry its.orderly leads

  -- it may come
  pub rests_follows : MayFollow (setting_of name c) cs (next_deed shard entry c)
  rests_follows = may_follow name cs c its.lawful shard entry low called few (its.resting shard 0 entry (committed_first (group_of shard c) number entry leads).first).waits

  same_length : length (folds_behind name cs shard entry c) ≡ length cs
  same_length = length-set cs shard (applied (setting_of name c) cs (next_deed shard entry c))

  another : (g : ℕ) (x : Entry) → NamesUpTo (front_of g c) x → NamesAnother shard (front_of shard c + 1) g x
  another g x names = elim (cases_eq g shard) [
    | inl is ↦ (let e : front_of g c ≡ front_of shard c = ap (λ k. front_of k c) is in names_no_later (front_of g c) (front_of shard c + 1) shard g x (omega (arith, e)) names)
    | inr apart ↦ names_elsewhere shard (front_of shard c + 1) g x apart
  ]

  keep : (g n : ℕ) (x : Entry) → front_of g c ≤ n → IsResting cs g (front_of g c) x → IsRestingBut (folds_behind name cs shard entry c) g n x
  keep g n x l r =
      let of = r.of in
      let longer = same_length in
      let each = its.lawful.folded.shards in
      record {
        of = omega (arith, of, longer);
        ordinary = r.ordinary;
        names = names_grow (front_of g c) n x l r.names;
        waits = λ none. stays_behind name cs c its.lawful shard entry low called rests_follows g (omega (arith, of, each)) x none (another g x r.names) r.waits;
      }

  taken_rests : Each (λ g n x. IsRestingBut (folds_behind name cs shard entry c) g n x) (taken shard entry c)
  taken_rests = each_taken (λ g n x. IsResting cs g n x) (λ g n x. IsRestingBut (folds_behind name cs shard entry c) g n x) shard number entry c leads (λ g n x l r. keep g n x l r) its.resting

  folded_here : IsFolded (taken shard entry c) (folds_behind name cs shard entry c)
  folded_here = taken_folds name cs c shard entry its.lawful.folded low called

  valid_here : IsValid (store_with (folds_behind name cs shard entry c) c.sessions)
  valid_here = valid_behind name cs c its.lawful its.valid shard entry rests_follows

  stored_here : AreStored (taken shard entry c) (folds_behind name cs shard entry c)
  stored_here = taken_stored name cs c its.lawful its.stored shard number entry low leads

  -- an operation that hears of it proposes what rests on what is there behind it
  told_rests : (line : ℕ) (did : What) → Each (λ g n x. IsRestingBut (folds_behind name cs shard entry c) g n x) (tell_operation line did (taken shard entry c))
  told_rests line did = each_goes (λ g n x. IsRestingBut behind g n x) (λ v o. effect_step v did o) line here (λ w at x e.
      but behind w.shard (front_of w.shard here) x
      (sought_rests name behind here folded_here valid_here its.holds stored_here w.shard w.operation.line None w.operation.op (its.orderly.pending line w at).judges x
      (done_seeks (view_for w.shard w.operation.op here) (pointers_for w.shard w.operation.op here) did w.operation x e))) taken_rests

  pub rests_effect : GotsWait (told_at_once shard entry c) (folds_behind name cs shard entry c) → AreResting (told_at_once shard entry c) (folds_behind name cs shard entry c)
  rests_effect gots =
      whole behind (told_at_once shard entry c) gots
      (each_told (λ g n x. IsRestingBut behind g n x) shard here entry (done_by shard entry c).effect told_rests taken_rests)
