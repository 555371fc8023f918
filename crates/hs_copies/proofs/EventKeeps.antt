-- Each event that is allowed keeps the copies right.
use Rattle.std.proofs.Common.{◌≡◌, ℕ, zero, suc, ◌≤◌, List, [], ◌∷◌, ◌++◌, inl, inr, refl, arith, length, Some, ap}
use Rattle.std.specs.Prelude.{slice_get, take}
use Rattle.hs_copies.specs.Lists.{Item, IsFront, AreBelow, Rises, IsBehind, Agree}
use Rattle.hs_copies.specs.Machine.{Stage, Good, Clearing, Following, Down, PeerCopy, Notice, EntryNotice, SealedNotice, Copies, Propose, Send, CopyComes, Sealed, HaveComes, TakesEffect, GiveUp, Start, Cleared, Copying, Copied, put_at, item, MaySend, IsCommon, CanCome, after_event}
use Rattle.hs_copies.specs.Invariant.{reach, IsGoodCopy, IsTrue, AreFaithful}
use Rattle.hs_copies.proofs.ListLemmas.{front_refl, front_append, front_more, front_step, get_more, get_low, take_length, length_append, below_append, rises_append, behind_prefix, behind_less, behind_more, agree_refl, agree_sym, agree_end, common_prefix}
use Rattle.hs_copies.proofs.PeerLemmas.{put_cases, put_self, reach_none}
use Rattle.hs_copies.proofs.ChangeLemmas.{log_below, log_agree, one_peer}

stage_apart : (a b : Stage) → a ≡ Good → b ≡ Following → a ≡ b → ⊥
stage_apart a b e f g = cc (e, f, g)

module _ {X : Type 0} (s : Copies X) (r : AreFaithful s) where
  -- propose
  module _ (lead : ℕ) (x : X) (isgood : (s.peers lead).stage ≡ Good) (list : (s.peers lead).list ≡ s.log) where
    longer : List (Item X)
    longer = s.log ++ item s.view x ∷ []

    c : PeerCopy X
    c = record (s.peers lead) { list = s.log ++ item s.view x ∷ [] }

    new_below : AreBelow (suc s.view) (s.log ++ item s.view x ∷ [])
    new_below = below_append (suc s.view) s.log (item s.view x ∷ []) (log_below s r) (omega arith, tt)

    lead_reach : reach c ≡ s.log ++ item s.view x ∷ []
    unfolding c
    lead_reach = reach_none (record (s.peers lead) { list = s.log ++ item s.view x ∷ [] }) (r.good lead isgood).nothing

    new_rises : Rises 0 (s.log ++ item s.view x ∷ [])
    new_rises = rises_append 0 0 s.log (item s.view x) r.rises (log_below s r) (omega arith)

    new_agree : (q : ℕ) → Agree (s.log ++ item s.view x ∷ []) (reach (s.peers q))
    new_agree q = agree_end s.log (reach (s.peers q)) (item s.view x) (log_agree s r q) (r.behind q) (log_below s r)

    propose_fits : (m : Notice X) → IsTrue s m → IsTrue (after_event (Propose lead x) s) m
    unfolding c
    propose_fits (EntryNotice to view place y) f = (f.0, λ e. get_more s.log (item s.view x ∷ []) place y (f.1 e))
    propose_fits (SealedNotice from view number) f =
        (f.0, λ e. put_cases (λ k. (k.stage ≡ Good) × (number ≤ k.sealed)) lead c s.peers from (λ i. let g = rw i at (f.1 e) in (g.0, g.1)) (λ i. f.1 e))

    pub propose : AreFaithful (after_event (Propose lead x) s)
    unfolding c
    propose =
        record {
          rises = new_rises;
          risen = λ q. put_cases (λ k. Rises 0 (reach k)) lead c s.peers q (λ e. rw lead_reach new_rises) (λ e. r.risen q);
          below = λ q. put_cases (λ k. AreBelow (suc s.view) (reach k)) lead c s.peers q (λ e. rw lead_reach new_below) (λ e. r.below q);
          behind = λ q. put_cases (λ k. IsBehind (reach k) (s.log ++ item s.view x ∷ [])) lead c s.peers q
              (λ e. rw lead_reach (behind_prefix (s.log ++ item s.view x ∷ []) (s.log ++ item s.view x ∷ []) (front_refl (s.log ++ item s.view x ∷ []))))
              (λ e. behind_more (reach (s.peers q)) s.log (item s.view x ∷ []) (r.behind q));
          agree = λ a b. put_cases (λ k. Agree (reach k) (reach (put_at lead c s.peers b))) lead c s.peers a
              (λ e. put_cases (λ k. Agree (reach c) (reach k)) lead c s.peers b (λ e. agree_refl (reach c)) (λ e. rw lead_reach (new_agree b)))
              (λ e. put_cases (λ k. Agree (reach (s.peers a)) (reach k)) lead c s.peers b (λ e. rw lead_reach (agree_sym (s.log ++ item s.view x ∷ []) (reach (s.peers a)) (new_agree a))) (λ e. r.agree a b));
          led = (lead, put_self (λ k. k.stage ≡ Good) lead c s.peers isgood, put_self (λ k. k.list ≡ s.log ++ item s.view x ∷ []) lead c s.peers refl);
          good = λ q. put_cases (λ k. k.stage ≡ Good → IsGoodCopy (s.log ++ item s.view x ∷ []) s.took k) lead c s.peers q
              (λ e g. record { prefix = front_refl (s.log ++ item s.view x ∷ []); nothing = (r.good lead isgood).nothing; told = (r.good lead isgood).told; held = omega (arith, (r.good lead isgood).held, ap (λ k. length k) list, length_append s.log (item s.view x ∷ [])); front = (r.good lead isgood).front })
              (λ e g. record { prefix = front_more (s.peers q).list s.log (item s.view x ∷ []) (r.good q g).prefix; nothing = (r.good q g).nothing; told = (r.good q g).told; held = (r.good q g).held; front = (r.good q g).front });
          following = λ q. put_cases (λ k. k.stage ≡ Following → IsFront (reach k) (s.log ++ item s.view x ∷ []) × (length k.list ≡ k.sealed)) lead c s.peers q
              (λ e g. absurd (stage_apart (s.peers lead).stage (s.peers lead).stage isgood g refl))
              (λ e g. (front_more (reach (s.peers q)) s.log (item s.view x ∷ []) (r.following q g).0, (r.following q g).1));
          took = front_more s.took s.log (item s.view x ∷ []) r.took;
          sent = λ m k. propose_fits m (r.sent m k);
        }

  -- send
  send_fits : (m : Notice X) → MaySend s m → IsTrue s m
  send_fits (EntryNotice to view place x) a = (omega (arith, a.0), λ e. a.1)
  send_fits (SealedNotice from view number) a = (omega (arith, a.0), λ e. (a.1, a.2))

  fits_same : (m n : Notice X) → IsTrue s m → IsTrue (after_event (Send n) s) m
  fits_same (EntryNotice to view place x) n f = f
  fits_same (SealedNotice from view number) n f = f

  pub send : (m : Notice X) → MaySend s m → AreFaithful (after_event (Send m) s)
  send m a =
      record {
        rises = r.rises;
        risen = r.risen;
        below = r.below;
        behind = r.behind;
        agree = r.agree;
        led = r.led;
        good = r.good;
        following = r.following;
        took = r.took;
        sent = λ n k. elim k [ inl e ↦ fits_same n m (rw e (send_fits m a)) | inr k ↦ fits_same n m (r.sent n k) ];
      }

  -- a copy comes
  pub copy_comes : (to place : ℕ) (x : Item X) → CanCome s (CopyComes to place x) → AreFaithful (after_event (CopyComes to place x) s)
  copy_comes to place x a =
      let g = r.good to a.0 in
      let here : slice_get s.log (length (s.peers to).list) ≡ Some x = rw (← a.1) ((r.sent (EntryNotice to s.view place x) a.2).1 refl) in
      let p : IsFront ((s.peers to).list ++ x ∷ []) s.log = front_step (s.peers to).list s.log x g.prefix here in
      let c : PeerCopy X = record (s.peers to) { list = (s.peers to).list ++ x ∷ [] } in
      one_peer s r to c (inl (rw (reach_none c g.nothing) p)) (λ e. (e, omega arith))
      (λ e f. absurd (omega (arith, get_low s.log (length (s.peers to).list) x here, ap (λ k. length k) f)))
      (λ e. record { prefix = p; nothing = g.nothing; told = g.told; held = omega (arith, g.held, length_append (s.peers to).list (x ∷ [])); front = g.front })
      (λ e. absurd (stage_apart (s.peers to).stage (s.peers to).stage a.0 e refl))

  -- sealed
  pub seals : (p n : ℕ) → CanCome s (Sealed p n) → AreFaithful (after_event (Sealed p n) s)
  seals p n a =
      let g = r.good p a.0 in
      let c : PeerCopy X = record (s.peers p) { sealed = n } in
      one_peer s r p c (inr (front_refl (reach (s.peers p)))) (λ e. (e, a.1)) (λ e f. f)
      (λ e. record { prefix = g.prefix; nothing = g.nothing; told = omega (arith, g.told, a.1); held = a.2; front = g.front })
      (λ e. absurd (stage_apart (s.peers p).stage (s.peers p).stage a.0 e refl))

  known_of : (p n : ℕ) → CanCome s (HaveComes p n) → ((s.peers p).stage ≡ Good) × (n ≤ (s.peers p).sealed)
  known_of p n a = elim a.1 [ inl k ↦ k | inr k ↦ (r.sent (SealedNotice p s.view n) k).1 refl ]

  pub have_comes : (p n : ℕ) → CanCome s (HaveComes p n) → AreFaithful (after_event (HaveComes p n) s)
  have_comes p n a =
      let k = known_of p n a in
      let g = r.good p k.0 in
      let c : PeerCopy X = record (s.peers p) { known = n } in
      one_peer s r p c (inr (front_refl (reach (s.peers p)))) (λ e. (e, omega arith)) (λ e f. f)
      (λ e. record { prefix = g.prefix; nothing = g.nothing; told = k.1; held = g.held; front = omega (arith, g.front, a.0) })
      (λ e. absurd (stage_apart (s.peers p).stage (s.peers p).stage k.0 e refl))

  -- an entry takes effect
  effect_fits : (x : Item X) (m : Notice X) → IsTrue s m → IsTrue (after_event (TakesEffect x) s) m
  effect_fits y (EntryNotice to view place x) f = f
  effect_fits y (SealedNotice from view number) f = f

  pub takes_effect : (x : Item X) → CanCome s (TakesEffect x) → AreFaithful (after_event (TakesEffect x) s)
  takes_effect x a =
      record {
        rises = r.rises;
        risen = r.risen;
        below = r.below;
        behind = r.behind;
        agree = r.agree;
        led = r.led;
        good = λ q g. let k = r.good q g in record { prefix = k.prefix; nothing = k.nothing; told = k.told; held = k.held; front = omega (arith, a.1 q g, length_append s.took (x ∷ [])) };
        following = r.following;
        took = front_step s.took s.log x r.took a.0;
        sent = λ m k. effect_fits x m (r.sent m k);
      }

  -- joining
  down_not : (k : Stage) → k ≡ Down → k ≡ Good → ⊥
  down_not k a b = cc (a, b)

  clearing_not : (k : Stage) → k ≡ Clearing → k ≡ Good → ⊥
  clearing_not k a b = cc (a, b)

  following_not : (k : Stage) → k ≡ Following → k ≡ Good → ⊥
  following_not k a b = cc (a, b)

  pub give_up : (p : ℕ) → CanCome s (GiveUp p) → AreFaithful (after_event (GiveUp p) s)
  give_up p a =
      let c : PeerCopy X = record (s.peers p) { stage = Down } in
      one_peer s r p c (inr (front_refl (reach (s.peers p)))) (λ e. absurd (a e)) (λ e f. f) (λ e. absurd (cc e)) (λ e. absurd (cc e))

  pub starts : (p : ℕ) → CanCome s (Start p) → AreFaithful (after_event (Start p) s)
  starts p a =
      let c : PeerCopy X = record (s.peers p) { stage = Clearing } in
      one_peer s r p c (inr (front_refl (reach (s.peers p)))) (λ e. absurd (a e)) (λ e f. f) (λ e. absurd (cc e)) (λ e. absurd (cc e))

  pub cleared_common : (p n : ℕ) → IsCommon s p n → IsFront (take n (s.peers p).list) s.log × (length (take n (s.peers p).list) ≡ n)
  cleared_common p zero a = (tt, refl)
  cleared_common p (suc n) a =
      let b = behind_less (s.peers p).list (reach (s.peers p)) s.log (front_append (s.peers p).list (s.peers p).adding) (r.behind p) in
      (common_prefix 0 (s.peers p).list s.log n a.0 a.1 r.rises b a.2 a.3 a.4, take_length (suc n) (s.peers p).list (omega (arith, get_low (s.peers p).list n a.0 a.2)))

  pub cleared : (p n : ℕ) → CanCome s (Cleared p n) → AreFaithful (after_event (Cleared p n) s)
  cleared p n a =
      let k = cleared_common p n a.1 in
      let c : PeerCopy X = record (s.peers p) { stage = Following; list = take n (s.peers p).list; adding = []; sealed = n } in
      let e : reach c ≡ take n (s.peers p).list = reach_none c refl in
      one_peer s r p c (inl (rw e k.0)) (λ g. absurd (clearing_not (s.peers p).stage a.0 g)) (λ g. absurd (clearing_not (s.peers p).stage a.0 g)) (λ g. absurd (cc g)) (λ g. (rw e k.0, k.1))

  pub copying : (p : ℕ) (more : List (Item X)) → CanCome s (Copying p more) → AreFaithful (after_event (Copying p more) s)
  copying p more a =
      let c : PeerCopy X = record (s.peers p) { adding = more } in
      one_peer s r p c (inl a.1) (λ g. absurd (following_not (s.peers p).stage a.0 g)) (λ g. absurd (following_not (s.peers p).stage a.0 g)) (λ g. absurd (following_not (s.peers p).stage a.0 g)) (λ g. (a.1, (r.following p a.0).1))

  pub copied : (p : ℕ) → CanCome s (Copied p) → AreFaithful (after_event (Copied p) s)
  copied p a =
      let c : PeerCopy X = record (s.peers p) { list = (s.peers p).list ++ (s.peers p).adding; adding = []; sealed = length ((s.peers p).list ++ (s.peers p).adding) } in
      let e : reach c ≡ reach (s.peers p) = reach_none c refl in
      let k = (r.following p a).0 in
      one_peer s r p c (inl (rw e k)) (λ g. absurd (following_not (s.peers p).stage a g)) (λ g. absurd (following_not (s.peers p).stage a g)) (λ g. absurd (following_not (s.peers p).stage a g)) (λ g. (rw e k, refl))
