-- An accepted deletion: the Enter of shard 0 that an operation asked for takes effect.
use Rattle.std.proofs.Common.{◌≡◌, ◌∙◌, sym, ap, subst, ◌&&◌, inl, inr, ℕ, ◌+◌, ◌<◌, ◌≤◌, Bool, true, false, cond, ◌==◌, List, [], ◌∷◌, Option, Some, None, refl, arith, nat_le, nat_lt, slice_index}
use Rattle.std.proofs.lemmas.Bool.{eqb-true, false≢true, le-ltb, lt-leb}
use Rattle.hs_answered.specs.Judged.{judged_at}
use Rattle.hs_answered.specs.Standing.{store_with}
use Rattle.hs_answered.proofs.AnswerLemmas.{judge_granted}
use Rattle.hs_core_words.specs.Looking.{catalogue_of, front_of, group_of, shape_of}
use Rattle.hs_core_words.specs.State.{Core}
use Rattle.hs_desk.specs.declared.what.What.TheVariants as what
use Rattle.hs_effects.specs.Answered.{IsAnsweredBy, heard}
use Rattle.hs_effects.specs.Lawful.{IsLawful, MayFollow}
use Rattle.hs_effects.specs.Logged.{HasAsked, IsEntryOf, IsOrderly, asked_by}
use Rattle.hs_effects.specs.Taking.{done_by, folds_behind, next_deed, setting_of, taken}
use Rattle.hs_effects.proofs.AnsweredLemmas.{by_parts, seats_behind}
use Rattle.hs_effects.proofs.EndingLemmas.{enter_did}
use Rattle.hs_effects.proofs.FoldLemmas.{memory_at, taken_folds}
use Rattle.hs_effects.proofs.GroupLemmas.{committed_first}
use Rattle.hs_effects.proofs.SweepLemmas.{ByViews, epoch_before, left_of, store_is, swept_before}
use Rattle.hs_entry.specs.declared.entry.Entry.{Entry}
use Rattle.hs_entry.specs.declared.entry.Entry.TheVariants as kind
use Rattle.hs_fold.specs.Runs.Facts.{Catalogue as Folded}
use Rattle.hs_fold.specs.Runs.Opened.{store_of}
use Rattle.hs_fold.specs.Shards.Happening.{Happening, happen_by}
use Rattle.hs_fold.specs.Shards.Happening.{enters as entering}
use Rattle.hs_joint.specs.Along.{happening_by}
use Rattle.hs_limits.specs.declared.address.Address.{Address}
use Rattle.hs_model.specs.declared.op.Op.{Op}
use Rattle.hs_model.specs.declared.op.Op.TheVariants as op
use Rattle.hs_model.specs.declared.reply.Reply.{Reply}
use Rattle.hs_model.specs.declared.reply.Reply.TheVariants as reply
use Rattle.hs_model.specs.Inner.{enter}
use Rattle.hs_model.specs.Judge.{deleted, granted, refusals}
use Rattle.hs_model.specs.Refusals.{first, refused_when}
use Rattle.hs_model.specs.Store.{Store, with_sessions}
use Rattle.hs_ops.specs.Answers.{deed_of, seats_after}
use Rattle.hs_ops.specs.Speaking.{judging_shard}
use Rattle.hs_replica.specs.Group.{committed}
use Rattle.hs_shard.specs.Facts.{Catalogue}
use Rattle.hs_shard.specs.Rounds.{may_enter as memory_may_enter}
use Rattle.hs_shown.specs.Showing.{as_sessions}
use Rattle.hs_tokens.specs.Seats.{Seats}

-- ---- the operation of an Enter

pub delete_op : (name : List ℕ → Address) (seats : Seats) (line k epoch : ℕ) (o : Op) → IsEntryOf name seats k o (kind.Enter line epoch) → o ≡ op.Delete
delete_op name seats line k epoch op.Delete asks = refl
delete_op name seats line k epoch (op.Write session payload handles address) asks = go asks
  where
    go : IsEntryOf name seats k (op.Write session payload handles address) (kind.Enter line epoch) → op.Write session payload handles address ≡ op.Delete
    go (inl is) = absurd (cc is.0)
    go (inr is) = absurd (cc is.1)
delete_op name seats line k epoch (op.Drop key) asks = absurd (cc asks)
delete_op name seats line k epoch (op.Root session key handle) asks = absurd (cc asks)
delete_op name seats line k epoch (op.Open session) asks = absurd asks
delete_op name seats line k epoch (op.Close session) asks = absurd asks
delete_op name seats line k epoch (op.Read session handle) asks = absurd asks
delete_op name seats line k epoch (op.Look session key) asks = absurd asks
delete_op name seats line k epoch (op.Forget session handle) asks = absurd asks
delete_op name seats line k epoch (op.Name session handle) asks = absurd asks
delete_op name seats line k epoch op.Stat asks = absurd asks

-- ---- the judge

none_holds : (a b : Bool) (p q : Reply) → a ≡ false → b ≡ false → first (refused_when a p ∷ refused_when b q ∷ []) ≡ None
none_holds a b p q e f = ap (λ x. first (refused_when x p ∷ refused_when b q ∷ [])) e ∙ ap (λ x. first (refused_when x q ∷ [])) f

right_of : (a b : Bool) → (a && b) ≡ true → b ≡ true
right_of true b e = e
right_of false b e = absurd (false≢true e)

allows : (core : Core) (s : Store) → slice_index s.swept 0 ≡ slice_index s.epochs 0 → slice_index s.epochs 0 < core.limits.epochs → first (refusals core.limits s op.Delete) ≡ None
unfolding refusals
allows core s level below =
    none_holds (nat_lt (slice_index s.swept 0) (slice_index s.epochs 0)) (nat_le core.limits.epochs (slice_index s.epochs 0)) (reply.Running (slice_index s.epochs 0)) (reply.EpochEnd core.limits.epochs)
    (le-ltb (slice_index s.swept 0) (slice_index s.epochs 0) (omega (arith, level))) (lt-leb core.limits.epochs (slice_index s.epochs 0) below)

grants : (s : Store) → granted s op.Delete ≡ deleted s
unfolding granted
grants s = refl

run_deed : (seats : Seats) (epoch : ℕ) (s : Store) → deed_of seats op.Delete (reply.Run epoch) ≡ (deleted s).deed
unfolding deed_of
run_deed seats epoch s = refl

run_seats : (shard epoch : ℕ) (c : Core) → seats_behind shard op.Delete (reply.Run epoch) c ≡ c.sessions
unfolding seats_after
run_seats shard epoch c = refl

entered_then : (b : Bool) (epoch : ℕ) → cond b (what.Entered epoch) what.Refused ≡ what.Entered epoch → b ≡ true
entered_then true epoch e = refl
entered_then false epoch e = absurd (cc e)

pub by_line : (line epoch : ℕ) → 1 ≤ line → asked_by (kind.Enter line epoch) ≡ Some line
by_line line epoch counted = go (line == 0) refl
  where
    go : (b : Bool) → (line == 0) ≡ b → cond b None (Some line) ≡ Some line
    go false e = refl
    go true e = let zero_is = eqb-true line 0 e in absurd (omega (arith, zero_is, counted))

-- ---- the answer

module _ (views : ByViews) (name : List ℕ → Address) (cs : List Folded) (core : Core) (shard number line epoch : ℕ) (counted : 1 ≤ line) where
  abbrev entry : Entry
  entry = kind.Enter line epoch

  module _ (its : IsLawful name core cs) (order : IsOrderly name core) (leads : committed (group_of shard core) ≡ Some (number, entry)) (may : MayFollow (setting_of name core) cs (next_deed shard entry core)) (enters : (done_by shard entry core).effect.what ≡ what.Entered epoch) where
    abbrev here : Core
    here = taken shard entry core

    abbrev s : Store
    s = store_with cs core.sessions

    abbrev old : Catalogue
    old = catalogue_of shard core

    h : HasAsked name core shard (front_of shard core + 1 + 0) line entry
    h = order.asked shard 0 line entry (committed_first (group_of shard core) number entry leads).first (by_line line epoch counted)

    is_delete : h.waiting.operation.op ≡ op.Delete
    is_delete = delete_op name core.sessions line line epoch h.waiting.operation.op h.asks

    -- it is shard 0's
    place : shard ≡ 0
    place = sym h.judges ∙ (order.pending line h.waiting h.at).judges ∙ ap (λ o. judging_shard (shape_of core).shards core.sessions o) is_delete

    enters_now : memory_may_enter epoch old ≡ true
    enters_now = entered_then (memory_may_enter epoch old) epoch (sym (enter_did epoch old) ∙ enters)

    next : epoch ≡ old.epoch + 1
    next = eqb-true epoch (old.epoch + 1) (left_of (epoch == old.epoch + 1) (old.swept == old.epoch) enters_now)

    level : old.swept ≡ old.epoch
    level = eqb-true old.swept old.epoch (right_of (epoch == old.epoch + 1) (old.swept == old.epoch) enters_now)

    epoch_is : slice_index s.epochs 0 ≡ old.epoch
    epoch_is = ap (λ k. slice_index s.epochs k) (sym place) ∙ epoch_before views name cs core shard entry its may refl

    swept_is : slice_index s.swept 0 ≡ old.swept
    swept_is = ap (λ k. slice_index s.swept k) (sym place) ∙ swept_before views name cs core shard entry its may refl

    says : old.epoch < core.limits.epochs → judged_at cs core op.Delete ≡ deleted s
    says below =
        judge_granted core.limits s op.Delete (allows core s (swept_is ∙ level ∙ sym epoch_is) (subst (λ n. n < core.limits.epochs) (sym epoch_is) below)) ∙ grants s

    happens : happening_by (setting_of name core) cs (next_deed shard entry core) ≡ Some (entering shard)
    happens = ap (λ b. cond b (Some (entering shard)) None) (ap (λ (c : Catalogue). memory_may_enter epoch c) (sym (memory_at name cs core shard entry its.folded may.of)) ∙ enters_now)

    left_is : store_with (folds_behind name cs shard entry core) core.sessions ≡ (deleted s).store
    left_is =
        store_is views name cs core shard entry its may refl ∙ ap (λ (x : Option Happening). with_sessions (happen_by (store_of cs) x) (as_sessions core.sessions)) happens
        ∙ ap (λ k. enter s k) place

    pub entered_answer : old.epoch < core.limits.epochs → IsAnsweredBy cs (folds_behind name cs shard entry core) core (heard shard entry core) line op.Delete
    entered_answer below =
        by_parts core shard line entry h.waiting op.Delete (what.Entered epoch) (reply.Run epoch) cs (folds_behind name cs shard entry core)
        (by_line line epoch counted) h.at h.judges is_delete enters refl (taken_folds name cs core shard entry its.folded may.of refl)
        (deleted s) (says below) (ap (λ n. reply.Run n) (next ∙ ap (λ n. n + 1) (sym epoch_is))) (run_deed core.sessions epoch s)
        (ap (λ seats. store_with (folds_behind name cs shard entry core) seats) (run_seats shard epoch here) ∙ left_is)
