-- The images stay fine, and the one of greatest rank has all that took effect.
use Rattle.std.proofs.Common.{◌≡◌, ℕ, suc, ◌≤◌, Bool, true, false, List, [], ◌∷◌, ◌++◌, inl, inr, refl, arith, length, ap, ◌∙◌}
use Rattle.std.specs.Prelude.{Some, slice_get, take}
use Rattle.hs_copies.specs.Lists.{Agree, Item, IsFront}
use Rattle.hs_copies.specs.Machine.{Stage, Good, Clearing, Following, Down, PeerCopy, Copies, CopyEvent, Propose, Send, CopyComes, Sealed, HaveComes, TakesEffect, Fail, GiveUp, Start, Cleared, Copying, Copied, Join, put_at, item, told_copy, stage_again, begin_again, with_new_view, CanCome, after_event}
use Rattle.hs_copies.specs.Invariant.{reach, AreFaithful}
use Rattle.hs_copies.specs.Images.{KeepsSealed, IsFine, IsReported, AreImages, HasGreatestRank}
use Rattle.hs_copies.proofs.ListLemmas.{agree_entry, agree_front_of, agree_sym, front_refl, front_trans, front_more, front_both, append_nil, take_length}
use Rattle.hs_copies.proofs.PeerLemmas.{put_cases, reach_none}
use Rattle.hs_copies.proofs.OpenedLemmas.{took_good, lineage_right}

pub keeps_good : (k : Stage) → k ≡ Good → KeepsSealed k
keeps_good Good e = tt
keeps_good Clearing e = absurd (cc e)
keeps_good Following e = absurd (cc e)
keeps_good Down e = absurd (cc e)

keeps_following : (k : Stage) → k ≡ Following → KeepsSealed k
keeps_following Good e = absurd (cc e)
keeps_following Clearing e = absurd (cc e)
keeps_following Following e = tt
keeps_following Down e = absurd (cc e)

keeps_again : (k : Stage) → KeepsSealed (stage_again k) → KeepsSealed k
keeps_again Good h = tt
keeps_again Clearing h = h
keeps_again Following h = absurd h
keeps_again Down h = h

fine_begins : {X : Type 0} (again : Bool) (c : PeerCopy X) (l : List (Item X)) → IsFine c l → IsFine (begin_again again c) l
fine_begins true c l f = record { front = f.front; sealed = λ h. f.sealed (keeps_again c.stage h) }
fine_begins false c l f = f

fine_longer : {X : Type 0} (c : PeerCopy X) (more : List (Item X)) (n : ℕ) (l : List (Item X)) → c.adding ≡ [] → IsFine c l → IsFine (record c { list = c.list ++ more; known = n }) l
fine_longer c more n l e f =
    let p : IsFront l c.list = rw (← reach_none c e) f.front in
    record { front = rw (reach_none (record c { list = c.list ++ more; known = n }) e) (front_more l c.list more p); sealed = λ h. f.sealed h }

module _ {X : Type 0} (s : Copies X) (r : AreFaithful s) (q : ℕ) (l : List (Item X)) (f : IsFine (s.peers q) l) where
  one : (p : ℕ) (c : PeerCopy X) → (q ≡ p → IsFine c l) → IsFine (put_at p c s.peers q) l
  one p c h = put_cases (λ k. IsFine k l) p c s.peers q h (λ e. f)

  get_one : (p : ℕ) → q ≡ p → IsFine (s.peers p) l
  get_one p e = rw (← e) f

  -- a new view over peers with these lists
  view_fine : (lead : ℕ) (x : X) (peers : ℕ → PeerCopy X) → (peers lead).adding ≡ [] → IsFine (peers q) l → IsFine ((with_new_view lead x peers s).peers q) l
  view_fine lead x peers e g =
      put_cases (λ k. IsFine k l) lead (record (told_copy (peers lead)) { list = (peers lead).list ++ item (suc s.view) x ∷ [] }) (λ a. told_copy (peers a)) q
      (λ i. fine_longer (peers lead) (item (suc s.view) x ∷ []) (peers lead).sealed l e (rw (← i) g))
      (λ i. record { front = g.front; sealed = g.sealed })

  pub fine_after : (e : CopyEvent X) → CanCome s e → IsReported s e q l → IsFine ((after_event e s).peers q) l
  fine_after (Propose lead x) a t =
      one lead (record (s.peers lead) { list = s.log ++ item s.view x ∷ [] })
      (λ i. rw (← a.1) (fine_longer (s.peers lead) (item s.view x ∷ []) (s.peers lead).known l (r.good lead a.0).nothing (get_one lead i)))
  fine_after (Send m) a t = f
  fine_after (CopyComes to place x) a t =
      one to (record (s.peers to) { list = (s.peers to).list ++ x ∷ [] })
      (λ i. fine_longer (s.peers to) (x ∷ []) (s.peers to).known l (r.good to a.0).nothing (get_one to i))
  fine_after (Sealed p n) a t =
      one p (record (s.peers p) { sealed = n }) (λ i. record { front = (get_one p i).front; sealed = λ h. t i })
  fine_after (HaveComes p n) a t =
      one p (record (s.peers p) { known = n }) (λ i. record { front = (get_one p i).front; sealed = (get_one p i).sealed })
  fine_after (TakesEffect x) a t = f
  fine_after (Fail p lead again x) a t =
      view_fine lead x (λ k. begin_again again (put_at p (record (s.peers p) { stage = Down }) s.peers k))
      (put_cases (λ k. (begin_again again k).adding ≡ []) p (record (s.peers p) { stage = Down }) s.peers lead (λ e. absurd (a.0 e)) (λ e. begins_adding again (s.peers lead) ∙ (r.good lead a.2).nothing))
      (put_cases (λ k. IsFine (begin_again again k) l) p (record (s.peers p) { stage = Down }) s.peers q
      (λ i. fine_begins again (record (s.peers p) { stage = Down }) l (record { front = (get_one p i).front; sealed = λ h. absurd h }))
      (λ i. fine_begins again (s.peers q) l f))
    where
      begins_adding : (again : Bool) (c : PeerCopy X) → (begin_again again c).adding ≡ c.adding
      begins_adding true c = refl
      begins_adding false c = refl
  fine_after (GiveUp p) a t =
      one p (record (s.peers p) { stage = Down }) (λ i. record { front = (get_one p i).front; sealed = λ h. absurd h })
  fine_after (Start p) a t =
      one p (record (s.peers p) { stage = Clearing }) (λ i. record { front = (get_one p i).front; sealed = λ h. absurd h })
  fine_after (Cleared p n) a t =
      one p (record (s.peers p) { stage = Following; list = take n (s.peers p).list; adding = []; sealed = n })
      (λ i. record { front = rw ((t i).0, append_nil (take n (s.peers p).list)) (front_refl (take n (s.peers p).list)); sealed = λ h. omega (arith, ap (λ k. length k) (t i).0, take_length n (s.peers p).list (t i).1) })
  fine_after (Copying p more) a t =
      one p (record (s.peers p) { adding = more })
      (λ i. record { front = front_more l (s.peers p).list more (rw (← reach_none (s.peers p) a.2) (get_one p i).front); sealed = (get_one p i).sealed })
  fine_after (Copied p) a t =
      one p (record (s.peers p) { list = (s.peers p).list ++ (s.peers p).adding; adding = []; sealed = length ((s.peers p).list ++ (s.peers p).adding) })
      (λ i. record { front = rw (t i, append_nil ((s.peers p).list ++ (s.peers p).adding)) (front_refl ((s.peers p).list ++ (s.peers p).adding)); sealed = λ h. omega (arith, ap (λ k. length k) (t i)) })
  fine_after (Join p lead x) a t =
      view_fine lead x (put_at p (record (s.peers p) { stage = Good }) s.peers)
      (put_cases (λ k. k.adding ≡ []) p (record (s.peers p) { stage = Good }) s.peers lead (λ e. a.1) (λ e. (r.good lead (a.3.0 e)).nothing))
      (one p (record (s.peers p) { stage = Good }) (λ i. record { front = (get_one p i).front; sealed = λ h. (get_one p i).sealed (keeps_following (s.peers p).stage a.0) }))

-- at a stop the list of greatest rank has all that took effect, and comes from some peer's list
pub stop : {X : Type 0} (s : Copies X) (r : AreFaithful s) (p y : ℕ) (images : ℕ → List (Item X)) → AreImages s p images → HasGreatestRank images y → IsFront s.took (images y) × IsFront (images y) (reach (s.peers y))
stop s r p y images g h =
    let c = r.good p g.is_good in
    let n : (s.peers p).sealed ≤ length (images p) = g.of_good.sealed (keeps_good (s.peers p).stage g.is_good) in
    let front : IsFront (images p) (s.peers p).list = rw (← reach_none (s.peers p) c.nothing) g.of_good.front in
    let took : IsFront s.took (images p) = front_both s.took (images p) (s.peers p).list (took_good s r p g.is_good) front (omega (arith, n, c.told, c.front)) in
    let here : IsFront (images y) (reach (s.peers y)) = elim (g.others y) [ inl k ↦ k.front | inr k ↦ rw k tt ] in
    (front_trans s.took (images p) (images y) took (lineage_right s r p y (images p) (images y) g.is_good front here (h p)), here)

-- ---- two of them

-- entries of one view at one number are equal, whatever two disks are left with
pub one_entry : {X : Type 0} (s : Copies X) → AreFaithful s → (p q n : ℕ) (l k : List (Item X)) (x y : Item X) → IsFine (s.peers p) l → IsFine (s.peers q) k → slice_get l n ≡ Some x → slice_get k n ≡ Some y → x.view ≡ y.view → x ≡ y
one_entry s r p q n l k x y f g a b e =
    let one : Agree l (reach (s.peers q)) = agree_front_of l (reach (s.peers p)) (reach (s.peers q)) f.front (r.agree p q) in
    let two : Agree k l = agree_front_of k (reach (s.peers q)) l g.front (agree_sym l (reach (s.peers q)) one) in
    agree_entry l k n x y (agree_sym k l two) a b e

-- that of a good peer with a front of the lead's list
pub good_front : {X : Type 0} (s : Copies X) → AreFaithful s → (p : ℕ) (l : List (Item X)) → (s.peers p).stage ≡ Good → IsFine (s.peers p) l → IsFront l s.log
good_front s r p l g f =
    let good = r.good p g in
    let own : IsFront l (s.peers p).list = rw (← reach_none (s.peers p) good.nothing) f.front in
    front_trans l (s.peers p).list s.log own good.prefix
