-- A Drop that takes effect while its key is retained.
use Rattle.std.proofs.Common.{◌≡◌, ◌∙◌, sym, ap, inl, inr, ℕ, ◌+◌, cond, List, [], ◌∷◌, ◌++◌, Option, Some, None, IsSome, refl, is_none}
use Rattle.std.proofs.lemmas.Bool.{eq-eqb}
use Rattle.std.specs.Option.{option_map}
use Rattle.hs_answered.specs.Judged.{entry_of, judged_at}
use Rattle.hs_answered.specs.Standing.{store_with}
use Rattle.hs_awaiting.specs.declared.waiting.Waiting.{Waiting}
use Rattle.hs_awaiting.specs.Words.{change_with}
use Rattle.hs_core_words.specs.Effects.{tell_operation}
use Rattle.hs_core_words.specs.Looking.{catalogue_of, front_of, group_of, shape_of}
use Rattle.hs_core_words.specs.Operating.{answer, take_step}
use Rattle.hs_core_words.specs.Seeing.{view_for}
use Rattle.hs_core_words.specs.State.{Core}
use Rattle.hs_desk.specs.declared.what.What.TheVariants as what
use Rattle.hs_effects.specs.Answered.{IsAnsweredBy, heard}
use Rattle.hs_effects.specs.Lawful.{IsLawful, MayFollow}
use Rattle.hs_effects.specs.Logged.{HasAsked, IsEntryOf, IsOrderly}
use Rattle.hs_effects.specs.Taking.{done_by, folds_behind, next_deed, setting_of, taken}
use Rattle.hs_effects.proofs.FoldLemmas.{quiet_folds, taken_folds}
use Rattle.hs_effects.proofs.GroupLemmas.{committed_first}
use Rattle.hs_effects.proofs.QuietLemmas.{behind_quiet}
use Rattle.hs_effects.proofs.SweepLemmas.{ByViews, store_is}
use Rattle.hs_entry.specs.declared.entry.Entry.{Entry}
use Rattle.hs_entry.specs.declared.entry.Entry.TheVariants as kind
use Rattle.hs_fold.specs.Runs.Facts.{Catalogue as Folded}
use Rattle.hs_fold.specs.Runs.Opened.{store_of}
use Rattle.hs_fold.specs.Shards.Change.{drops}
use Rattle.hs_fold.specs.Shards.Happening.{Happening, changes, happen_by}
use Rattle.hs_joint.specs.Along.{happening_by}
use Rattle.hs_limits.specs.declared.address.Address.{Address}
use Rattle.hs_limits.specs.Shape.{shard_of_key}
use Rattle.hs_model.specs.declared.op.Op.{Op}
use Rattle.hs_model.specs.declared.op.Op.TheVariants as op
use Rattle.hs_model.specs.declared.reply.Reply.TheVariants as reply
use Rattle.hs_model.specs.Judge.{Judged, dropped, granted, judge, judged, refusals}
use Rattle.hs_model.specs.Refusals.{first, refused_when}
use Rattle.hs_model.specs.Store.{Root, Store, retained_at, with_sessions}
use Rattle.hs_ops.specs.declared.step.OpStep.TheVariants as step
use Rattle.hs_journal.specs.declared.entry.Who.TheVariants as who
use Rattle.hs_core_words.specs.Seeing.{pointers_for}
use Rattle.hs_ops.specs.Speaking.{judging_shard}
use Rattle.hs_replica.specs.Group.{committed}
use Rattle.hs_ops.specs.Answers.{deed_of, gained, seats_after}
use Rattle.hs_ops.specs.Going.{on_effect}
use Rattle.hs_ops.specs.Operations.{after_step, effect_step}
use Rattle.hs_ops.specs.Views.{OpView}
use Rattle.hs_roots.specs.declared.root.RootRecord.{RootRecord}
use Rattle.hs_roots.specs.Roots.{retained_of}
use Rattle.hs_roots.specs.Roots.{drop_root as without_root}
use Rattle.hs_shard.specs.Clients.{drop_root, only}
use Rattle.hs_shard.specs.Facts.{Catalogue}
use Rattle.hs_shown.specs.Showing.{as_sessions}
use Rattle.hs_tokens.specs.Seats.{Seats}

-- ---- the operation of a Drop

same_key : (line k : ℕ) (key other : List ℕ) → kind.Drop line key ≡ kind.Drop k other → op.Drop other ≡ op.Drop key
same_key line k key other e = cc

pub drop_op : (name : List ℕ → Address) (seats : Seats) (line k : ℕ) (key : List ℕ) (o : Op) → IsEntryOf name seats k o (kind.Drop line key) → o ≡ op.Drop key
drop_op name seats line k key (op.Drop other) asks = same_key line k key other asks
drop_op name seats line k key (op.Write session payload handles address) asks = go asks
  where
    go : IsEntryOf name seats k (op.Write session payload handles address) (kind.Drop line key) → op.Write session payload handles address ≡ op.Drop key
    go (inl is) = absurd (cc is.0)
    go (inr is) = absurd (cc is.1)
drop_op name seats line k key (op.Root session other handle) asks = absurd (cc asks)
drop_op name seats line k key op.Delete asks = absurd (cc asks.1)
drop_op name seats line k key (op.Open session) asks = absurd asks
drop_op name seats line k key (op.Close session) asks = absurd asks
drop_op name seats line k key (op.Read session handle) asks = absurd asks
drop_op name seats line k key (op.Look session other) asks = absurd asks
drop_op name seats line k key (op.Forget session handle) asks = absurd asks
drop_op name seats line k key (op.Name session handle) asks = absurd asks
drop_op name seats line k key op.Stat asks = absurd asks

-- ---- what the judge says

judge_drops : (core : Core) (s : Store) (key : List ℕ) → IsSome (retained_at s key) → judge core.limits s (op.Drop key) ≡ dropped s key
unfolding judge refusals granted
judge_drops core s key kept = go (retained_at s key) kept
  where
    go : (root : Option Root) → IsSome root → judged s (op.Drop key) (first (refused_when (is_none root) (reply.NoKey key) ∷ [])) ≡ dropped s key
    go None h = absurd (cc h)
    go (Some root) h = refl

some_map : {A B X : Type 0} (f : A → X) (g : B → X) (a : Option A) (b : Option B) → option_map f a ≡ option_map g b → IsSome a → IsSome b
some_map f g None b e h = absurd (cc h)
some_map f g (Some x) None e h = absurd (cc e)
some_map f g (Some x) (Some y) e h = refl

-- ---- the answer

drop_done : (key : List ℕ) (c : Catalogue) → IsSome (retained_of key c.roots) → (drop_root key c).effect.what ≡ what.Dropped
drop_done key c kept = go (retained_of key c.roots) kept
  where
    go : (root : Option RootRecord) → IsSome root → (cond (is_none root) (only what.Refused c) (only what.Dropped (record c { roots = without_root key c.epoch c.roots }))).effect.what ≡ what.Dropped
    go None h = absurd (cc h)
    go (Some root) h = refl

dropped_step : (v : OpView) (line : ℕ) (o : Op) → on_effect v line what.Dropped o ≡ step.Answer reply.Ok
unfolding on_effect
dropped_step v line o = refl

-- what the answer of a Drop leaves
drop_entries : (line : ℕ) (w : Waiting) (key : List ℕ) (c : Core) (s : Store) → w.operation.op ≡ op.Drop key → (answer line w reply.Ok c).entries ≡ c.entries ++ entry_of line c.moment (dropped s key) ∷ []
unfolding deed_of
drop_entries line w key c s e = ap (λ o. c.entries ++ record { who = who.Line line; moment = c.moment; deed = deed_of c.sessions o reply.Ok; reply = reply.Ok } ∷ []) e

drop_seats : (line : ℕ) (w : Waiting) (key : List ℕ) (c : Core) → w.operation.op ≡ op.Drop key → (answer line w reply.Ok c).sessions ≡ c.sessions
unfolding seats_after
drop_seats line w key c e = ap (λ o. seats_after (gained (view_for w.shard o c) (pointers_for w.shard o c) o) o reply.Ok c.sessions) e

module _ (views : ByViews) (name : List ℕ → Address) (cs : List Folded) (core : Core) (shard number line : ℕ) (key : List ℕ) where
  abbrev entry : Entry
  entry = kind.Drop line key

  module _ (its : IsLawful name core cs) (order : IsOrderly name core) (leads : committed (group_of shard core) ≡ Some (number, entry)) (may : MayFollow (setting_of name core) cs (next_deed shard entry core)) (kept : IsSome (retained_of key (catalogue_of shard core).roots)) where
    abbrev here : Core
    here = taken shard entry core

    abbrev s : Store
    s = store_with cs core.sessions

    h : HasAsked name core shard (front_of shard core + 1 + 0) line entry
    h = order.asked shard 0 line entry (committed_first (group_of shard core) number entry leads).first refl

    is_drop : h.waiting.operation.op ≡ op.Drop key
    is_drop = drop_op name core.sessions line line key h.waiting.operation.op h.asks

    -- its shard is the one that judges
    place : shard ≡ shard_of_key (shape_of core).shards key
    place = sym h.judges ∙ (order.pending line h.waiting h.at).judges ∙ ap (λ o. judging_shard (shape_of core).shards core.sessions o) is_drop

    retained : IsSome (retained_at s key)
    retained = some_map (λ (r : RootRecord). r.address) (λ (r : Root). r.address) (retained_of key (catalogue_of shard core).roots) (retained_at s key)
        (ap (λ k. option_map (λ (r : RootRecord). r.address) (retained_of key (catalogue_of k core).roots)) place ∙ (views cs core (op.Drop key) its.folded tt).kept key refl) kept

    says : judged_at cs core (op.Drop key) ≡ dropped s key
    says = judge_drops core s key retained

    happens : happening_by (setting_of name core) cs (next_deed shard entry core) ≡ Some (changes (drops key))
    happens = ap (λ b. cond b (Some (changes (drops key))) None) (eq-eqb (shard_of_key (shape_of core).shards key) shard (sym place))

    abbrev after : Waiting
    after = record h.waiting { operation = after_step (step.Answer reply.Ok) h.waiting.operation }

    heard_is : heard shard entry core ≡ answer line (record h.waiting { operation = after_step (step.Answer reply.Ok) h.waiting.operation }) reply.Ok here
    heard_is =
        ap (λ did. tell_operation line did here) (drop_done key (catalogue_of shard core) kept)
        ∙ ap (λ (o : Option Waiting). change_with o (λ w. take_step line w (effect_step (view_for w.shard w.operation.op here) what.Dropped w.operation)) here) h.at
        ∙ ap (λ taken. take_step line h.waiting taken here) (dropped_step (view_for h.waiting.shard h.waiting.operation.op here) h.waiting.operation.line h.waiting.operation.op)

    left_is : store_with (folds_behind name cs shard entry core) core.sessions ≡ (dropped s key).store
    left_is = store_is views name cs core shard entry its may refl ∙ ap (λ (x : Option Happening). with_sessions (happen_by (store_of cs) x) (as_sessions core.sessions)) happens

    pub dropped_answer : IsAnsweredBy cs (folds_behind name cs shard entry core) core (heard shard entry core) line (op.Drop key)
    dropped_answer = record {
      told = ap (λ (c : Core). c.entries) heard_is ∙ drop_entries line after key here s is_drop ∙ ap (λ (j : Judged). core.entries ++ entry_of line core.moment j ∷ []) (sym says);
      left =
          ap (λ (c : Core). store_with (folds_behind name cs shard entry core) c.sessions) heard_is
          ∙ ap (λ seats. store_with (folds_behind name cs shard entry core) seats) (drop_seats line after key here is_drop)
          ∙ left_is ∙ ap (λ (j : Judged). j.store) (sym says);
      folded = quiet_folds here (heard shard entry core) (folds_behind name cs shard entry core) (behind_quiet shard entry (done_by shard entry core).effect here)
          (taken_folds name cs core shard entry its.folded may.of refl);
    }
