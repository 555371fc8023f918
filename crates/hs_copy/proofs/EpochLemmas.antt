-- The epoch of shard 0 rises by deletions alone, once for each.
use Rattle.std.proofs.Common.{◌≡◌, ℕ, ◌+◌, ◌≤◌, List, [], ◌∷◌, Option, Some, None, refl, sym, ap, subst, arith, slice_index, slice_set}
use Rattle.hs_asking.proofs.SaneLemmas.{step_sane}
use Rattle.hs_asking.proofs.SeatLemmas.{put-epochs}
use Rattle.hs_asking.proofs.StayLemmas.{Drifted, drift}
use Rattle.hs_asking.specs.Judged.{IsJudged}
use Rattle.hs_asking.specs.Seats.{IsSane}
use Rattle.hs_asking.specs.Shown.{Began, Shown, store_now}
use Rattle.hs_copy.proofs.HeardLemmas.{deletes-append}
use Rattle.hs_copy.specs.Heard.{AreHeard, ops_of}
use Rattle.hs_copy.specs.Rounds.{epoch_now}
use Rattle.hs_copy.specs.Writing.{deletes_in}
use Rattle.hs_limits.specs.declared.limits.Limits.{Limits}
use Rattle.hs_model.proofs.JudgeLemmas.{judge_granted, judge_refused}
use Rattle.hs_model.specs.Judge.{given_address, granted, judge, refusals, written}
use Rattle.hs_model.specs.Refusals.{first}
use Rattle.hs_model.specs.Run.{asks}
use Rattle.hs_model.specs.Store.{Store, with_block}
use Rattle.hs_model.specs.declared.op.Op.{Op}
use Rattle.hs_model.specs.declared.op.Op.TheVariants as op
use Rattle.hs_model.specs.declared.reply.Reply.{Reply}
use Rattle.hs_tree.specs.Calls.{Hears}

abbrev first_epoch : Store → ℕ
first_epoch s = slice_index s.epochs 0

-- it rises by n at most
abbrev RisesBy : ℕ → Store → Store → Type 0
RisesBy n s t = (first_epoch s ≤ first_epoch t) × (first_epoch t ≤ first_epoch s + n)

same_epochs : (s u : Store) (n : ℕ) → u.epochs ≡ s.epochs → RisesBy n s u
same_epochs s u n e =
    let same : first_epoch u ≡ first_epoch s = ap (λ z. slice_index z 0) e in
    (omega (arith, same), omega (arith, same))

one_more : (xs ys : List ℕ) → ys ≡ slice_set xs 0 (slice_index xs 0 + 1) → (slice_index xs 0 ≤ slice_index ys 0) × (slice_index ys 0 ≤ slice_index xs 0 + 1)
one_more [] ys e = let same : slice_index ys 0 ≡ slice_index [] 0 = ap (λ z. slice_index z 0) e in (omega (arith, same), omega (arith, same))
one_more (x ∷ xs) ys e = let same : slice_index ys 0 ≡ x + 1 = ap (λ z. slice_index z 0) e in (omega (arith, same), omega (arith, same))

granted_rises : (s : Store) (o : Op) → RisesBy (deletes_in (o ∷ [])) s (granted s o).store
unfolding granted
granted_rises s (op.Open name) = same_epochs s (granted s (op.Open name)).store 0 refl
granted_rises s (op.Close name) = same_epochs s (granted s (op.Close name)).store 0 refl
granted_rises s (op.Write name payload handles address) = same_epochs s (granted s (op.Write name payload handles address)).store 0 (put-epochs (with_block s (given_address address) (written s name payload handles)) name _)
granted_rises s (op.Read name handle) = same_epochs s (granted s (op.Read name handle)).store 0 (put-epochs s name _)
granted_rises s (op.Look name key) = same_epochs s (granted s (op.Look name key)).store 0 (put-epochs s name _)
granted_rises s (op.Root name key handle) = same_epochs s (granted s (op.Root name key handle)).store 0 refl
granted_rises s (op.Drop key) = same_epochs s (granted s (op.Drop key)).store 0 refl
granted_rises s (op.Forget name handle) = same_epochs s (granted s (op.Forget name handle)).store 0 (put-epochs s name _)
granted_rises s (op.Name name handle) = same_epochs s (granted s (op.Name name handle)).store 0 refl
granted_rises s op.Delete = one_more s.epochs (granted s op.Delete).store.epochs refl
granted_rises s op.Stat = same_epochs s (granted s op.Stat).store 0 refl

judge_rises : (limits : Limits) (s : Store) (o : Op) → RisesBy (deletes_in (o ∷ [])) s (judge limits s o).store
judge_rises limits s o = go (first (refusals limits s o)) refl
  where
    go : (found : Option Reply) → first (refusals limits s o) ≡ found → RisesBy (deletes_in (o ∷ [])) s (judge limits s o).store
    go (Some r) e = same_epochs s (judge limits s o).store (deletes_in (o ∷ [])) (ap (λ x. x.store.epochs) (judge_refused limits s o r e))
    go None e = subst (λ z. RisesBy (deletes_in (o ∷ [])) s z.store) (sym (judge_granted limits s o e)) (granted_rises s o)

judged_rises : (limits : Limits) (s t : Store) (o : Op) (told : Reply) → IsSane s → IsJudged limits s t o told → RisesBy (deletes_in (o ∷ [])) s t × IsSane t
judged_rises limits s t o told sane j =
    let u : Store = (judge limits j.at o).store in
    let before : Drifted s j.at = drift limits s j.at j.before sane in
    let behind : Drifted u t = drift limits u t j.behind (step_sane limits j.at (asks o) tt before.sane) in
    let one : first_epoch j.at ≡ first_epoch s = before.first in
    let two : first_epoch t ≡ first_epoch u = behind.first in
    let rises = judge_rises limits j.at o in
    let low : first_epoch j.at ≤ first_epoch u = rises.0 in
    let high : first_epoch u ≤ first_epoch j.at + deletes_in (o ∷ []) = rises.1 in
    ((omega (arith, one, two, low), omega (arith, one, two, high)), behind.sane)

-- so it is of what was heard
pub record Risen {tells : Type 0} (old new : Shown tells) (n : ℕ) : Type 0 where
  pub low : epoch_now old ≤ epoch_now new
  pub high : epoch_now new ≤ epoch_now old + n
  pub sane : IsSane (store_now new.began new)

pub heard_rises : {tells : Type 0} (old new : Shown tells) (hs : List (Op × Reply)) → tells → AreHeard old new hs → IsSane (store_now old.began old) → Risen old new (deletes_in (ops_of hs))
heard_rises old new [] is h sane = subst (λ z. Risen old z 0) (sym h) (record { low = omega arith; high = omega arith; sane = sane })
heard_rises old new (x ∷ hs) is h sane =
    let mid = h.0 in
    let hears : Hears old mid x.0 x.1 = h.1 in
    let one = judged_rises old.began.limits (store_now old.began old) (store_now old.began mid) x.0 x.1 sane (hears.judged is) in
    let at : RisesBy (deletes_in (x.0 ∷ [])) (store_now old.began old) (store_now mid.began mid) × IsSane (store_now mid.began mid) = subst (λ (b : Began). RisesBy (deletes_in (x.0 ∷ [])) (store_now old.began old) (store_now b mid) × IsSane (store_now b mid)) (sym hears.began) one in
    let rest = heard_rises mid new hs is h.2 at.1 in
    let low : epoch_now mid ≤ epoch_now new = rest.low in
    let high : epoch_now new ≤ epoch_now mid + deletes_in (ops_of hs) = rest.high in
    let here : epoch_now old ≤ epoch_now mid = at.0.0 in
    let there : epoch_now mid ≤ epoch_now old + deletes_in (x.0 ∷ []) = at.0.1 in
    let both : deletes_in (ops_of (x ∷ hs)) ≡ deletes_in (x.0 ∷ []) + deletes_in (ops_of hs) = deletes-append (x.0 ∷ []) (ops_of hs) in
    record { low = omega (arith, low, here); high = omega (arith, high, there, both); sane = rest.sane }
