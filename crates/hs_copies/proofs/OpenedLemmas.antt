-- The laws, from what stays right.
use Rattle.std.proofs.Common.{◌≡◌, ℕ, suc, ◌≤◌, Bool, true, false, List, [], ◌∷◌, ◌++◌, inl, inr, refl, arith, length, Some}
use Rattle.std.specs.Prelude.{slice_get, take}
use Rattle.hs_copies.specs.Lists.{Item, IsFront, AreBelow, Rises, IsBehind, Agree, IsAtMost, rank_by_stamps, end_view}
use Rattle.hs_copies.specs.Machine.{Good, Following, Copies, CopyEvent, Propose, Send, CopyComes, Sealed, HaveComes, TakesEffect, Fail, GiveUp, Start, Cleared, Copying, Copied, Join, after_event, after_events}
use Rattle.hs_copies.specs.Invariant.{reach, IsGoodCopy, AreFaithful}
use Rattle.hs_copies.specs.Opened.{copy_with, taken_copies, opened_copies, IsCopyRun}
use Rattle.hs_copies.proofs.ListLemmas.{front_refl, front_trans, front_append, front_both, below_prefix, behind_prefix, agree_up_to, behind_less, agree_refl, rises_prefix, append_nil, lineage, view_ap}
use Rattle.hs_copies.proofs.ChangeLemmas.{Stays, next_view, log_below}
use Rattle.hs_copies.proofs.ViewKeeps.{keeps_right}

module _ {X : Type 0} (view : ℕ) (log : List (Item X)) (good : ℕ → Bool) (lead : ℕ) (x : X) (rises : Rises 0 log) (below : AreBelow (suc view) log) (leads : good lead ≡ true) where
  with_reach : (b : Bool) → IsFront (reach (copy_with log b)) log
  with_reach true = rw (append_nil log) (front_refl log)
  with_reach false = tt

  with_agree : (a b : Bool) → Agree (reach (copy_with log a)) (reach (copy_with log b))
  with_agree true true = agree_refl (reach (copy_with log true))
  with_agree true false = agree_none (log ++ [])
    where
      agree_none : (xs : List (Item X)) → Agree xs []
      agree_none [] = tt
      agree_none (x ∷ xs) = tt
  with_agree false b = tt

  with_good : (b : Bool) → (copy_with log b).stage ≡ Good → IsGoodCopy log log (copy_with log b)
  with_good true e = record { prefix = front_refl log; nothing = refl; told = omega arith; held = omega arith; front = omega arith }
  with_good false e = absurd (cc e)

  with_following : (b : Bool) → (copy_with log b).stage ≡ Following → IsFront (reach (copy_with log b)) log × (length (copy_with log b).list ≡ (copy_with log b).sealed)
  with_following true e = absurd (cc e)
  with_following false e = absurd (cc e)

  taken_right : AreFaithful (taken_copies view log good)
  taken_right =
      record {
        rises = rises;
        risen = λ p. rises_prefix 0 (reach (copy_with log (good p))) log (with_reach (good p)) rises;
        below = λ p. below_prefix (suc view) (reach (copy_with log (good p))) log (with_reach (good p)) below;
        behind = λ p. behind_prefix (reach (copy_with log (good p))) log (with_reach (good p));
        agree = λ p q. with_agree (good p) (good q);
        led = (lead, rw leads refl, rw leads refl);
        good = λ p. with_good (good p);
        following = λ p. with_following (good p);
        took = front_refl log;
        sent = λ m k. absurd k;
      }

  lead_list : (b : Bool) → b ≡ true → (copy_with log b).list ≡ log
  lead_list true e = refl
  lead_list false e = absurd (cc e)

  with_stays : (l : List (Item X)) → l ≡ log → (b : Bool) → (copy_with log b).stage ≡ Good → Stays l log (copy_with log b)
  with_stays l w true e = record { prefix = rw w (front_refl log); nothing = refl; held = omega arith; front = omega arith }
  with_stays l w false e = absurd (cc e)

  pub opened_right : AreFaithful (opened_copies view log good lead x)
  opened_right =
      let w : (copy_with log (good lead)).list ≡ log = lead_list (good lead) leads in
      next_view (taken_copies view log good) taken_right lead x (λ q. copy_with log (good q)) (λ q. refl) (rw leads refl)
      (rw w (front_refl log)) (λ q g. with_stays (copy_with log (good lead)).list w (good q) g)
      (λ q g. let k = with_following (good q) g in (rw w k.0, k.1))

pub lives_right : {X : Type 0} (s : Copies X) → IsCopyRun s → AreFaithful s
lives_right s l =
    rw (← l.here) (keeps_right (opened_copies l.view l.taken_log l.good l.lead l.what) l.events (opened_right l.view l.taken_log l.good l.lead l.what l.rises l.below l.leads) l.legal)

pub took_good : {X : Type 0} (s : Copies X) (r : AreFaithful s) (p : ℕ) → (s.peers p).stage ≡ Good → IsFront s.took (s.peers p).list
took_good s r p g = let k = r.good p g in front_both s.took (s.peers p).list s.log r.took k.prefix (omega (arith, k.front, k.told, k.held))

pub took_after : {X : Type 0} (s : Copies X) (e : CopyEvent X) → IsFront s.took (after_event e s).took
took_after s (Propose lead x) = front_refl s.took
took_after s (Send m) = front_refl s.took
took_after s (CopyComes to place x) = front_refl s.took
took_after s (Sealed p n) = front_refl s.took
took_after s (HaveComes p n) = front_refl s.took
took_after s (TakesEffect x) = front_append s.took (x ∷ [])
took_after s (Fail p lead again x) = front_refl s.took
took_after s (GiveUp p) = front_refl s.took
took_after s (Start p) = front_refl s.took
took_after s (Cleared p n) = front_refl s.took
took_after s (Copying p more) = front_refl s.took
took_after s (Copied p) = front_refl s.took
took_after s (Join p lead x) = front_refl s.took

pub took_run : {X : Type 0} (s : Copies X) (es : List (CopyEvent X)) → IsFront s.took (after_events s es).took
took_run s [] = front_refl s.took
took_run s (e ∷ es) = front_trans s.took (after_event e s).took (after_events (after_event e s) es).took (took_after s e) (took_run (after_event e s) es)

pub one_up_to : {X : Type 0} (s : Copies X) (r : AreFaithful s) (p q n : ℕ) (x y : Item X) → slice_get (reach (s.peers p)) n ≡ Some x → slice_get (reach (s.peers q)) n ≡ Some y → x.view ≡ y.view → take (suc n) (reach (s.peers p)) ≡ take (suc n) (reach (s.peers q))
one_up_to s r p q n x y e f g = agree_up_to (reach (s.peers p)) (reach (s.peers q)) n x y (r.agree p q) e f g

pub lineage_right : {X : Type 0} (s : Copies X) (r : AreFaithful s) (p y : ℕ) (front other : List (Item X)) → (s.peers p).stage ≡ Good → IsFront front (s.peers p).list → IsFront other (reach (s.peers y)) → IsAtMost (rank_by_stamps front) (rank_by_stamps other) → IsFront front other
lineage_right s r p y front other g f h l =
    lineage front other s.log r.rises (front_trans front (s.peers p).list s.log f (r.good p g).prefix) (behind_less other (reach (s.peers y)) s.log h (r.behind y)) l

pub has_effects : {X : Type 0} (s : Copies X) (r : AreFaithful s) (p y : ℕ) (front other : List (Item X)) → (s.peers p).stage ≡ Good → IsFront front (s.peers p).list → (s.peers p).known ≤ length front → IsFront other (reach (s.peers y)) → IsAtMost (rank_by_stamps front) (rank_by_stamps other) → IsFront s.took other
has_effects s r p y front other g f k h a =
    front_trans s.took front other
    (front_both s.took front (s.peers p).list (took_good s r p g) f (omega (arith, k, (r.good p g).front)))
    (lineage_right s r p y front other g f h a)

rises_down : {X : Type 0} (v w : ℕ) (xs : List (Item X)) → v ≤ w → Rises w xs → Rises v xs
rises_down v w [] l r = tt
rises_down v w (x ∷ xs) l r = (omega (arith, r.0), r.1)

-- a list whose views are all the greatest, or more, is a front of the log
high_front : {X : Type 0} (v : ℕ) (hs log : List (Item X)) → Rises v hs → IsBehind hs log → AreBelow (suc v) log → IsFront hs log
high_front v [] log r b l = tt
high_front v (h ∷ hs) [] r b l = absurd b
high_front v (h ∷ hs) (k ∷ log) r (inl b) l = (b.0, high_front v hs log (rises_down v h.view hs r.0 r.1) b.1 l.1)
high_front v (h ∷ hs) (k ∷ log) r (inr b) l = absurd (omega (arith, r.0, b.0, l.0))

settled_from : {X : Type 0} (d v : ℕ) (fs hs log : List (Item X)) → Rises d hs → IsBehind hs log → AreBelow (suc v) log → IsFront fs hs → IsFront fs log → end_view d fs ≡ v → IsFront hs log
settled_from d v [] hs log r b l p q e = high_front v hs log (rw (← e) r) b l
settled_from d v (f ∷ fs) [] log r b l p q e = tt
settled_from d v (f ∷ fs) (h ∷ hs) [] r b l p q e = absurd b
settled_from d v (f ∷ fs) (h ∷ hs) (k ∷ log) r (inl b) l p q e =
    (b.0, settled_from f.view v fs hs log (rw p.0 r.1) b.1 l.1 p.1 q.1 e)
settled_from d v (f ∷ fs) (h ∷ hs) (k ∷ log) r (inr b) l p q e = absurd (omega (arith, view_ap f h p.0, view_ap f k q.0, b.0))

pub settled_right : {X : Type 0} (s : Copies X) (r : AreFaithful s) → end_view 0 s.took ≡ s.view → (y : ℕ) (other : List (Item X)) → IsFront other (reach (s.peers y)) → IsFront s.took other → IsFront other s.log
settled_right s r e y other h t =
    settled_from 0 s.view s.took other s.log (rises_prefix 0 other (reach (s.peers y)) h (r.risen y)) (behind_less other (reach (s.peers y)) s.log h (r.behind y)) (log_below s r) t r.took e
