-- Ranks as the disks tell them.
use Rattle.std.proofs.Common.{◌≡◌, ℕ, zero, suc, ◌≤◌, ◌<◌, List, [], ◌∷◌, ◌++◌, ◌⊎◌, inl, inr, refl, sym, arith, length, ap, ◌∙◌}
use Rattle.std.specs.Prelude.{take}
use Rattle.hs_copies.specs.Lists.{Item, IsFront, Agree, IsAtMost, rank_by_stamps, end_view}
use Rattle.hs_copies.specs.Machine.{Good, Down, put_at, begin_again, Copies, CopyEvent, Propose, Send, CopyComes, Sealed, HaveComes, TakesEffect, Fail, GiveUp, Start, Cleared, Copying, Copied, Join, item, CanCome, after_event}
use Rattle.hs_copies.specs.Invariant.{reach, AreFaithful}
use Rattle.hs_copies.specs.Stamps.{view_told, rank_told, ToldRises, AreStamped, TellsView, AreStampsTold}
use Rattle.hs_copies.proofs.ListLemmas.{front_trans, front_length, front_both, view_ap, append_nil, agree_front_of}
use Rattle.hs_copies.proofs.PeerLemmas.{reach_none}
use Rattle.hs_copies.proofs.GrownLemmas.{grown, IsGrown, items_added, StandsBehind}
use Rattle.hs_copies.proofs.OpenedLemmas.{took_after, took_good, lineage_right}

pub stamped_prefix : {X : Type 0} (tells : ℕ → X → ℕ) (n v : ℕ) (xs ys : List (Item X)) → IsFront xs ys → AreStamped tells n v ys → AreStamped tells n v xs
stamped_prefix tells n v [] ys p t = tt
stamped_prefix tells n v (x ∷ xs) [] p t = absurd p
stamped_prefix tells zero v (x ∷ xs) (y ∷ ys) p t =
    let e = view_ap x y p.0 in
    let w : tells v x.what ≡ tells v y.what = ap (λ k. tells v k.what) p.0 in
    (e ∙ t.0 ∙ sym w, stamped_prefix tells zero x.view xs ys p.1 (rw e t.1))
stamped_prefix tells (suc n) v (x ∷ xs) (y ∷ ys) p t = (view_ap x y p.0 ∙ t.0, stamped_prefix tells n v xs ys p.1 t.1)

-- one more item, behind those of opening
pub stamped_more : {X : Type 0} (tells : ℕ → X → ℕ) (n v : ℕ) (xs : List (Item X)) (x : Item X) → n ≤ length xs → AreStamped tells n v xs → x.view ≡ tells (end_view v xs) x.what → AreStamped tells n v (xs ++ x ∷ [])
stamped_more tells zero v [] x l t e = (e, tt)
stamped_more tells (suc n) v [] x l t e = absurd (omega arith)
stamped_more tells zero v (y ∷ xs) x l t e = (t.0, stamped_more tells zero y.view xs x (omega arith) t.1 e)
stamped_more tells (suc n) v (y ∷ xs) x l t e =
    (t.0, stamped_more tells n v xs x (omega arith) t.1 (rw (← t.0) e))

-- the view of the last item is what it tells
pub stamped_last : {X : Type 0} (tells : ℕ → X → ℕ) (n v : ℕ) (xs : List (Item X)) (x : Item X) → n ≤ length xs → AreStamped tells n v (xs ++ x ∷ []) → x.view ≡ tells (end_view v xs) x.what
stamped_last tells zero v [] x l t = t.0
stamped_last tells (suc n) v [] x l t = absurd (omega (arith, l))
stamped_last tells zero v (y ∷ xs) x l t = stamped_last tells zero y.view xs x (omega arith) t.1
stamped_last tells (suc n) v (y ∷ xs) x l t = rw t.0 (stamped_last tells n v xs x (omega (arith, l)) t.1)

pub last_view_append : {X : Type 0} (v : ℕ) (xs : List (Item X)) (x : Item X) → end_view v (xs ++ x ∷ []) ≡ x.view
last_view_append v [] x = refl
last_view_append v (y ∷ xs) x = last_view_append y.view xs x

-- behind the items of opening the two views are one
same_behind : {X : Type 0} (tells : ℕ → X → ℕ) (v : ℕ) (xs : List (Item X)) → AreStamped tells 0 v xs → view_told tells v xs ≡ end_view v xs
same_behind tells v [] t = refl
same_behind tells v (x ∷ xs) t = rw (← t.0) (same_behind tells x.view xs t.1)

-- the views told in a front of the list of opening are no higher than that of the whole
pub told_low : {X : Type 0} (tells : ℕ → X → ℕ) (d : ℕ) (start : List (Item X)) → ToldRises tells d start → d ≤ view_told tells d start
told_low tells d [] a = omega arith
told_low tells d (x ∷ xs) a = omega (arith, a.0, told_low tells (tells d x.what) xs a.1)

-- a list whose first items are those of opening: what it tells is at most its view, and just that once all of them are there
module _ {X : Type 0} (tells : ℕ → X → ℕ) (v : ℕ) where
  told_at_most : (d : ℕ) (start xs : List (Item X)) → ToldRises tells d start → view_told tells d start ≡ v → AreStamped tells (length start) v xs → IsFront (take (length start) xs) start → view_told tells d xs ≤ (end_view v xs)
  told_at_most d [] xs a e t p = omega (arith, same_behind tells v xs t, ap (λ k. view_told tells k xs) e)
  told_at_most d (y ∷ start) [] a e t p = omega (arith, e, told_low tells d (y ∷ start) a)
  told_at_most d (y ∷ start) (x ∷ xs) a e t p =
      let w : tells d x.what ≡ tells d y.what = ap (λ k. tells d k.what) p.0 in
      let k = told_at_most (tells d y.what) start xs a.1 e t.1 p.1 in
      rw (w, t.0) k

  told_same : (d : ℕ) (start xs : List (Item X)) → view_told tells d start ≡ v → AreStamped tells (length start) v xs → IsFront start xs → view_told tells d xs ≡ end_view v xs
  told_same d [] xs e t p = rw e (same_behind tells v xs t)
  told_same d (y ∷ start) [] e t p = absurd p
  told_same d (y ∷ start) (x ∷ xs) e t p =
      let w : tells d y.what ≡ tells d x.what = ap (λ k. tells d k.what) p.0 in
      rw (← w, t.0) (told_same (tells d y.what) start xs e t.1 p.1)

-- lists that agree and are all of one view there are one
agree_front : {X : Type 0} (tells : ℕ → X → ℕ) (v : ℕ) (start xs log : List (Item X)) → AreStamped tells (length start) v xs → AreStamped tells (length start) v log → IsFront start log → Agree xs log → IsFront (take (length start) xs) start
agree_front tells v [] [] log t u p a = tt
agree_front tells v [] (x ∷ xs) log t u p a = tt
agree_front tells v (y ∷ start) [] log t u p a = tt
agree_front tells v (y ∷ start) (x ∷ xs) [] t u p a = absurd p
agree_front tells v (y ∷ start) (x ∷ xs) (l ∷ log) t u p (inl a) = (a.0 ∙ sym p.0, agree_front tells v start xs log t.1 u.1 p.1 a.1)
agree_front tells v (y ∷ start) (x ∷ xs) (l ∷ log) t u p (inr a) = absurd (a.0 (t.0 ∙ sym u.0))

less_or_same : (a b : ℕ) → a ≤ b → (a < b) ⊎ (a ≡ b)
less_or_same zero zero l = inr refl
less_or_same zero (suc b) l = inl (omega arith)
less_or_same (suc a) zero l = absurd (omega arith)
less_or_same (suc a) (suc b) l = elim (less_or_same a b (omega arith)) [ inl k ↦ inl (omega arith) | inr k ↦ inr (omega arith) ]

-- from ranks as told to ranks by views
to_rank : {X : Type 0} (tells : ℕ → X → ℕ) (v : ℕ) (front other : List (Item X)) → view_told tells 0 front ≡ end_view v front → view_told tells 0 other ≤ end_view v other → IsAtMost (rank_told tells front) (rank_told tells other) → IsFront front other ⊎ IsAtMost (rank_by_stamps front) (rank_by_stamps other)
to_rank tells v [] other same low a = inl tt
to_rank tells v (f ∷ fs) [] same low a = absurd (elim a [ inl k ↦ omega (arith, k) | inr k ↦ omega (arith, k.1) ])
to_rank tells v (f ∷ fs) (h ∷ hs) same low (inl k) = inr (inl (omega (arith, same, low, k)))
to_rank tells v (f ∷ fs) (h ∷ hs) same low (inr k) =
    inr (elim (less_or_same (end_view f.view fs) (end_view h.view hs) (omega (arith, same, low, k.0))) [ inl j ↦ inl j | inr j ↦ inr (j, k.1) ])

module _ {X : Type 0} (tells : ℕ → X → ℕ) (start : List (Item X)) (v : ℕ) (s : Copies X) (r : AreFaithful s) (k : AreStampsTold tells start v s) where
  log_reach : reach (s.peers r.led.0) ≡ s.log
  log_reach = reach_none (s.peers r.led.0) (r.good r.led.0 r.led.1).nothing ∙ r.led.2

  pub log_tells : AreStamped tells (length start) v s.log
  log_tells = rw (← log_reach) (k.each r.led.0)

  start_log : IsFront start s.log
  start_log = front_trans start s.took s.log k.opening r.took

  log_agree : (q : ℕ) → Agree (reach (s.peers q)) s.log
  log_agree q = rw (← log_reach) (r.agree q r.led.0)

  grown_tells : (e : CopyEvent X) → TellsView tells s e → (q : ℕ) (xs : List (Item X)) → IsGrown s e q xs → AreStamped tells (length start) v xs
  grown_tells e t q xs (inl p) = stamped_prefix tells (length start) v xs s.log p log_tells
  grown_tells e t q xs (inr (inl p)) = stamped_prefix tells (length start) v xs (reach (s.peers q)) p (k.each q)
  grown_tells e t q xs (inr (inr g)) = rw g.2 (more e t g.0 g.1 g.3)
    where
      low : IsFront start s.took
      low = k.opening

      more : (e : CopyEvent X) → TellsView tells s e → (ys : List (Item X)) → IsFront ys s.log → StandsBehind e s ys → AreStamped tells (length start) v (ys ++ items_added e s)
      more (Propose lead x) t ys p w =
          stamped_more tells (length start) v ys (item s.view x) (rw w (front_length start s.log start_log)) (stamped_prefix tells (length start) v ys s.log p log_tells) (rw (w, k.current v, t) refl)
      more (Fail a lead again x) t ys p w =
          stamped_more tells (length start) v ys (item (suc s.view) x) (omega (arith, w, front_length start s.took low)) (stamped_prefix tells (length start) v ys s.log p log_tells) (sym (t (end_view v ys)))
      more (Join a lead x) t ys p w =
          stamped_more tells (length start) v ys (item (suc s.view) x) (omega (arith, w, front_length start s.took low)) (stamped_prefix tells (length start) v ys s.log p log_tells) (sym (t (end_view v ys)))
      more (Send m) t ys p w = rw (append_nil ys) (stamped_prefix tells (length start) v ys s.log p log_tells)
      more (CopyComes to place x) t ys p w = rw (append_nil ys) (stamped_prefix tells (length start) v ys s.log p log_tells)
      more (Sealed a n) t ys p w = rw (append_nil ys) (stamped_prefix tells (length start) v ys s.log p log_tells)
      more (HaveComes a n) t ys p w = rw (append_nil ys) (stamped_prefix tells (length start) v ys s.log p log_tells)
      more (TakesEffect x) t ys p w = rw (append_nil ys) (stamped_prefix tells (length start) v ys s.log p log_tells)
      more (GiveUp a) t ys p w = rw (append_nil ys) (stamped_prefix tells (length start) v ys s.log p log_tells)
      more (Start a) t ys p w = rw (append_nil ys) (stamped_prefix tells (length start) v ys s.log p log_tells)
      more (Cleared a n) t ys p w = rw (append_nil ys) (stamped_prefix tells (length start) v ys s.log p log_tells)
      more (Copying a m) t ys p w = rw (append_nil ys) (stamped_prefix tells (length start) v ys s.log p log_tells)
      more (Copied a) t ys p w = rw (append_nil ys) (stamped_prefix tells (length start) v ys s.log p log_tells)

  current_after : (e : CopyEvent X) (d : ℕ) → end_view d (after_event e s).log ≡ (after_event e s).view
  current_after (Propose lead x) d = last_view_append d s.log (item s.view x)
  current_after (Fail p lead again x) d = last_view_append d (begin_again again (put_at p (record (s.peers p) { stage = Down }) s.peers lead)).list (item (suc s.view) x)
  current_after (Join p lead x) d = last_view_append d (put_at p (record (s.peers p) { stage = Good }) s.peers lead).list (item (suc s.view) x)
  current_after (Send m) d = k.current d
  current_after (CopyComes to place x) d = k.current d
  current_after (Sealed p n) d = k.current d
  current_after (HaveComes p n) d = k.current d
  current_after (TakesEffect x) d = k.current d
  current_after (GiveUp p) d = k.current d
  current_after (Start p) d = k.current d
  current_after (Cleared p n) d = k.current d
  current_after (Copying p more) d = k.current d
  current_after (Copied p) d = k.current d

  pub tells_after : (e : CopyEvent X) → CanCome s e → TellsView tells s e → AreStampsTold tells start v (after_event e s)
  tells_after e a t =
      record {
        opening = front_trans start s.took (after_event e s).took k.opening (took_after s e);
        ascends = k.ascends;
        ends = k.ends;
        each = λ q. grown_tells e t q (reach ((after_event e s).peers q)) (grown s r e a q);
        current = λ d. current_after e d;
      }

  -- lineage by the ranks that the disks tell
  pub told_lineage : (p y : ℕ) (front other : List (Item X)) → (s.peers p).stage ≡ Good → IsFront front (s.peers p).list → length s.took ≤ length front → IsFront other (reach (s.peers y)) → IsAtMost (rank_told tells front) (rank_told tells other) → IsFront front other
  told_lineage p y front other g f l h a =
      let took : IsFront s.took front = front_both s.took front (s.peers p).list (took_good s r p g) f l in
      let front_tells = stamped_prefix tells (length start) v front s.log (front_trans front (s.peers p).list s.log f (r.good p g).prefix) log_tells in
      let same : view_told tells 0 front ≡ end_view v front = told_same tells v 0 start front k.ends front_tells (front_trans start s.took front k.opening took) in
      let other_tells = stamped_prefix tells (length start) v other (reach (s.peers y)) h (k.each y) in
      let other_front = agree_front tells v start other s.log other_tells log_tells start_log (agree_front_of other (reach (s.peers y)) s.log h (log_agree y)) in
      let low : view_told tells 0 other ≤ end_view v other = told_at_most tells v 0 start other k.ascends k.ends other_tells other_front in
      elim (to_rank tells v front other same low a) [ inl d ↦ d | inr d ↦ lineage_right s r p y front other g f h d ]
