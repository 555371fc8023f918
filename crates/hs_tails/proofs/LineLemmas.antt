-- Lines of a tail stay open, but for one that is answered.
use Rattle.std.proofs.Common.{◌≡◌, ◌∙◌, ap, sym, inl, inr, ℕ, ◌==◌, ◌&&◌, Bool, true, false, cond, not, List, Option, Some, None, refl}
use Rattle.std.specs.BTreeMap.{is_at}
use Rattle.std.specs.Map.{lookup}
use Rattle.std.specs.Option.{option_map}
use Rattle.std.specs.Ordering.{nat_cmp}
use Rattle.hs_anatomy.proofs.LookLemmas.{found_map, found_set, insert_other, number_exact, one_or_other, remove_other, set_other}
use Rattle.hs_anatomy.proofs.StillLemmas.{kept_still}
use Rattle.hs_anatomy.specs.Kept.{Kept}
use Rattle.hs_anatomy.specs.Strokes.{Adds, Answers, IsStill, Notes, Renews, Stroke, TakesOut, Waits, new_waiting, renewed}
use Rattle.hs_awaiting.specs.declared.wait.Wait.TheVariants as wait
use Rattle.hs_awaiting.specs.declared.waiting.Waiting.{Waiting}
use Rattle.hs_awaiting.specs.Views.{is_within, restarted}
use Rattle.hs_core_words.specs.declared.event.Event.{Event}
use Rattle.hs_core_words.specs.Changing.{change_group, set_viewed}
use Rattle.hs_core_words.specs.Looking.{group_of, operation_of}
use Rattle.hs_core_words.specs.Operating.{answer}
use Rattle.hs_core_words.specs.State.{Core}
use Rattle.hs_entry.specs.declared.entry.Entry.{Entry}
use Rattle.hs_replica.specs.Group.{last_number, renew}
use Rattle.hs_tails.specs.Tails.{AnswersNone, HasOpenLines, IsAnswered, IsNew, IsOpenAt}

same_waiting : (v w : Waiting) → Some v ≡ Some w → v ≡ w
same_waiting v w e = cc e

none_there : (w : Waiting) → None ≡ Some w → ⊥
none_there w e = cc e

-- the operation is another's, or as it was
open_same : (a b : Core) (g line : ℕ) → operation_of line b ≡ operation_of line a → IsOpenAt a g line → IsOpenAt b g line
open_same a b g line same o = record { waiting = o.waiting; at = same ∙ o.at; judges = o.judges }

-- an operation that starts again is of the same shard
again_shard : (g last : ℕ) (w : Waiting) → (restarted g last w).shard ≡ w.shard
again_shard g last w = go (w.shard == g && not (is_within last w.wait))
  where
    go : (b : Bool) → (cond b (record w { wait = wait.View }) w).shard ≡ w.shard
    go true = refl
    go false = refl

open_renewed : (shard : ℕ) (a : Core) (g line : ℕ) → IsOpenAt a g line → IsOpenAt (renewed shard a) g line
open_renewed shard a g line o =
    let last : ℕ = last_number (group_of shard (change_group shard (renew a.members) (set_viewed shard false a))) in
    record {
      waiting = restarted shard last o.waiting;
      at = found_map (restarted shard last) (is_at (nat_cmp line)) a.operations ∙ ap (λ (w : Option Waiting). option_map (restarted shard last) w) o.at;
      judges = again_shard shard last o.waiting ∙ o.judges;
    }

-- ---- a stroke

-- a line that it does not answer stays open, where a client's line is new
pub open_on : {s : Core} {e : Option Event} (a b : Core) → Stroke s e a b → IsNew e s → (g line : ℕ) → (IsAnswered a b line → ⊥) → IsOpenAt a g line → IsOpenAt b g line
open_on a b (IsStill x) new g line none o = open_same a b g line (ap (λ (k : Kept). lookup (is_at (nat_cmp line)) k.operations) (kept_still x)) o
open_on a b (Notes by) new g line none o = record { waiting = o.waiting; at = o.at; judges = o.judges }
open_on a b (Adds k said start is) new g line none o = elim (one_or_other line k) [
  | inl same ↦ absurd (none_there o.waiting (sym (new k said is) ∙ ap (λ (c : Core). operation_of k c) (sym start) ∙ ap (λ j. operation_of j a) (sym same) ∙ o.at))
  | inr apart ↦ record { waiting = o.waiting; at = insert_other nat_cmp number_exact a.operations k line (new_waiting k said a) apart ∙ o.at; judges = o.judges }
]
open_on a b (Waits k w was at one) new g line none o = elim (one_or_other line k) [
  | inl same ↦ record {
    waiting = w;
    at = ap (λ j. operation_of j b) same ∙ found_set k a.operations was w at;
    judges = one.shard ∙ ap (λ (x : Waiting). x.shard) (same_waiting was o.waiting (sym at ∙ ap (λ j. operation_of j a) (sym same) ∙ o.at)) ∙ o.judges;
  }
  | inr apart ↦ record { waiting = o.waiting; at = set_other nat_cmp number_exact a.operations k line w apart ∙ o.at; judges = o.judges }
]
open_on a b (Answers k w was told at one by) new g line none o = elim (one_or_other line k) [
  | inl same ↦ absurd (none (record { waiting = w; reply = told; is = ap (λ j. answer j w told a) (sym same) }))
  | inr apart ↦ record { waiting = o.waiting; at = remove_other nat_cmp number_exact a.operations k line apart ∙ o.at; judges = o.judges }
]
open_on a b (TakesOut shard number entry next) new g line none o = record { waiting = o.waiting; at = o.at; judges = o.judges }
open_on a b (Renews shard) new g line none o = open_renewed shard a g line o

pub lines_on : {s : Core} {e : Option Event} (a b : Core) → Stroke s e a b → IsNew e s → (g : ℕ) (tail : List Entry)
    → AnswersNone a b tail → HasOpenLines a g tail → HasOpenLines b g tail
lines_on a b x new g tail none t = record {
  asked = λ at line entry there asks. open_on a b x new g line (none at line entry there asks) (t.asked at line entry there asks);
  once = t.once;
}
