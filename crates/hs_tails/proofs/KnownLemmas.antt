-- Where the lists of copies come from: each was there before, or is a front of the lead's.
use Rattle.std.proofs.Common.{◌≡◌, ◌⊎◌, ◌∙◌, ap, sym, subst, refl, inl, inr, arith, ℕ, suc, ◌<◌, List, [], ◌∷◌, ◌++◌}
use Rattle.hs_copies.proofs.ChangeLemmas.{log_below}
use Rattle.hs_copies.proofs.GrownLemmas.{IsGrown, grown, items_added}
use Rattle.hs_copies.proofs.ListLemmas.{append_nil, front_trans}
use Rattle.hs_copies.proofs.OpenedLemmas.{settled_right}
use Rattle.hs_copies.proofs.ViewKeeps.{after_right}
use Rattle.hs_copies.specs.Invariant.{AreFaithful, reach}
use Rattle.hs_copies.specs.Lists.{AreBelow, IsBehind, IsFront, Item, end_view}
use Rattle.hs_copies.specs.Machine.{CanCome, Cleared, Copied, Copies, CopyComes, CopyEvent, Copying, Fail, GiveUp, HaveComes, Join, Propose, Sealed, Send, Start, TakesEffect, after_event}
use Rattle.hs_entry.specs.declared.entry.Entry.{Entry}
use Rattle.hs_tails.specs.Known.{IsKnown}

-- ---- lists

below_end : {X : Type 0} (v : ℕ) (ys : List (Item X)) (z : Item X) → AreBelow v (ys ++ z ∷ []) → z.view < v
below_end v [] z b = b.0
below_end v (y ∷ ys) z b = below_end v ys z b.1

-- a list that ends with the greatest view is a front of the log that it follows
top_front : {X : Type 0} (ys log : List (Item X)) (z : Item X) → IsBehind (ys ++ z ∷ []) log → AreBelow (suc z.view) log → IsFront (ys ++ z ∷ []) log
top_front [] [] z b low = absurd b
top_front [] (l ∷ log) z (inl b) low = (b.0, tt)
top_front [] (l ∷ log) z (inr b) low = absurd (omega (arith, b.0, low.0))
top_front (y ∷ ys) [] z b low = absurd b
top_front (y ∷ ys) (l ∷ log) z (inl b) low = (b.0, top_front ys log z b.1 low.1)
top_front (y ∷ ys) (l ∷ log) z (inr b) low = let end = below_end l.view ys z b.1 in absurd (omega (arith, end, low.0))

-- ---- an event

-- it adds nothing, or an item of the view that is behind it
abbrev Adds : Copies Entry → CopyEvent Entry → Type 0
Adds s e = (items_added e s ≡ []) ⊎ ((z : Item Entry) × (items_added e s ≡ z ∷ []) × (z.view ≡ (after_event e s).view))

adds : (s : Copies Entry) (e : CopyEvent Entry) → Adds s e
adds s (Propose lead x) = inr (record { view = s.view; what = x }, refl, refl)
adds s (Fail p lead again x) = inr (record { view = suc s.view; what = x }, refl, refl)
adds s (Join p lead x) = inr (record { view = suc s.view; what = x }, refl, refl)
adds s (Send m) = inl refl
adds s (CopyComes to place x) = inl refl
adds s (Sealed p n) = inl refl
adds s (HaveComes p n) = inl refl
adds s (TakesEffect x) = inl refl
adds s (GiveUp p) = inl refl
adds s (Start p) = inl refl
adds s (Cleared p n) = inl refl
adds s (Copying p more) = inl refl
adds s (Copied p) = inl refl

module _ (s : Copies Entry) (e : CopyEvent Entry) (r : AreFaithful s) (a : CanCome s e) where
  abbrev t : Copies Entry
  t = after_event e s

  after : AreFaithful (after_event e s)
  after = after_right s r e a

  own_list : (q : ℕ) → IsGrown s e q (reach ((after_event e s).peers q)) → IsKnown s (reach ((after_event e s).peers q)) ⊎ IsFront (reach ((after_event e s).peers q)) (after_event e s).log
  own_list q (inl log) = inl (inl log)
  own_list q (inr (inl own)) = inl (inr (q, own))
  own_list q (inr (inr new)) = go (adds s e)
    where
      xs : List (Item Entry)
      xs = reach ((after_event e s).peers q)

      go : Adds s e → IsKnown s (reach ((after_event e s).peers q)) ⊎ IsFront (reach ((after_event e s).peers q)) (after_event e s).log
      go (inl none) =
          let is : reach ((after_event e s).peers q) ≡ new.0 = new.2 ∙ ap (λ zs. new.0 ++ zs) none ∙ append_nil new.0 in
          inl (inl (subst (λ zs. IsFront zs s.log) (sym is) new.1))
      go (inr one) =
          let is : reach ((after_event e s).peers q) ≡ new.0 ++ one.0 ∷ [] = new.2 ∙ ap (λ zs. new.0 ++ zs) one.1 in
          let below : AreBelow (suc (one.0).view) (after_event e s).log = subst (λ v. AreBelow (suc v) (after_event e s).log) (sym one.2) (log_below (after_event e s) after) in
          inr (subst (λ zs. IsFront zs (after_event e s).log) (sym is) (top_front new.0 (after_event e s).log one.0 (subst (λ zs. IsBehind zs (after_event e s).log) is (after.behind q)) below))

  pub known_on : (list : List (Item Entry)) → IsKnown (after_event e s) list → IsKnown s list ⊎ IsFront list (after_event e s).log
  known_on list (inl log) = inr log
  known_on list (inr k) = by (own_list k.0 (grown s r e a k.0))
    where
      xs : List (Item Entry)
      xs = reach ((after_event e s).peers k.0)

      within : IsKnown s (reach ((after_event e s).peers k.0)) → IsKnown s list
      within (inl log) = inl (front_trans list (reach ((after_event e s).peers k.0)) s.log k.1 log)
      within (inr own) = inr (own.0, front_trans list (reach ((after_event e s).peers k.0)) (reach (s.peers own.0)) k.1 own.1)

      by : IsKnown s (reach ((after_event e s).peers k.0)) ⊎ IsFront (reach ((after_event e s).peers k.0)) (after_event e s).log → IsKnown s list ⊎ IsFront list (after_event e s).log
      by (inl known) = inl (within known)
      by (inr log) = inr (front_trans list (reach ((after_event e s).peers k.0)) (after_event e s).log k.1 log)

-- once the View of the view has taken effect, a list that has all that took effect is the lead's
pub known_settled : (s : Copies Entry) → AreFaithful s → end_view 0 s.took ≡ s.view → (list : List (Item Entry)) → IsKnown s list → IsFront s.took list → IsFront list s.log
known_settled s r e list (inl log) has = log
known_settled s r e list (inr k) has = settled_right s r e k.0 list k.1 has
