-- What leaves every list as it was, or with more behind it, and what each peer has sealed.
use Rattle.std.proofs.Common.{◌≡◌, ◌≢◌, ◌⊎◌, ◌∙◌, ap, sym, subst, refl, inl, inr, ℕ, Bool, true, false, Option, List, [], ◌∷◌, ◌++◌, length}
use Rattle.hs_entry.specs.declared.entry.Entry.{Entry}
use Rattle.hs_copies.specs.CoreCopies.{CoreCopies}
use Rattle.hs_copies.specs.Lists.{IsFront, Item}
use Rattle.hs_copies.specs.Machine.{CanCome, CanComeAll, Cleared, Copied, Copies, CopyComes, CopyEvent, Copying, Down, Fail, GiveUp, Good, HaveComes, Join, PeerCopy, Propose, Sealed, Send, Start, TakesEffect, after_event, after_events, begin_again, put_at, stage_again}
use Rattle.hs_copies.specs.Standing.{Continues, StandsFor}
use Rattle.hs_copies.proofs.ListLemmas.{front_append, front_refl, front_trans}
use Rattle.hs_copies.proofs.PeerLemmas.{put_cases, put_here, put_other}

-- no report of a peer
abbrev pub IsQuiet : {X : Type 0} → CopyEvent X → Type 0
IsQuiet (Propose lead x) = Unit {0}
IsQuiet (Send m) = Unit {0}
IsQuiet (CopyComes to place x) = Unit {0}
IsQuiet (Sealed p n) = ⊥
IsQuiet (HaveComes p n) = Unit {0}
IsQuiet (TakesEffect x) = Unit {0}
IsQuiet (Fail p lead again x) = Unit {0}
IsQuiet (GiveUp p) = Unit {0}
IsQuiet (Start p) = Unit {0}
IsQuiet (Cleared p n) = ⊥
IsQuiet (Copying p more) = Unit {0}
IsQuiet (Copied p) = ⊥
IsQuiet (Join p lead x) = Unit {0}

-- ---- one peer

module _ {X : Type 0} (s : Copies X) where
  -- its list has more behind it
  longer : (p : ℕ) (new : PeerCopy X) → IsFront (s.peers p).list new.list → (q : ℕ) → IsFront (s.peers q).list (put_at p new s.peers q).list
  longer p new h q = put_cases (λ k. IsFront (s.peers q).list k.list) p new s.peers q (λ e. rw e h) (λ n. front_refl (s.peers q).list)

  as_sealed : (p : ℕ) (new : PeerCopy X) → new.sealed ≡ (s.peers p).sealed → (q : ℕ) → (put_at p new s.peers q).sealed ≡ (s.peers q).sealed
  as_sealed p new h q = put_cases (λ k. k.sealed ≡ (s.peers q).sealed) p new s.peers q (λ e. rw e h) (λ n. refl)

  -- ---- a view

  again_list : (again : Bool) (c : PeerCopy X) → (begin_again again c).list ≡ c.list
  again_list true c = refl
  again_list false c = refl

  again_sealed : (again : Bool) (c : PeerCopy X) → (begin_again again c).sealed ≡ c.sealed
  again_sealed true c = refl
  again_sealed false c = refl

  viewed_lists : (lead : ℕ) (x : Item X) (peers : ℕ → PeerCopy X) → ((q : ℕ) → (peers q).list ≡ (s.peers q).list)
      → (q : ℕ) → IsFront (s.peers q).list (put_at lead (record (peers lead) { known = (peers lead).sealed; list = (peers lead).list ++ x ∷ [] }) (λ r. record (peers r) { known = (peers r).sealed }) q).list
  viewed_lists lead x peers same q =
      put_cases (λ k. IsFront (s.peers q).list k.list) lead (record (peers lead) { known = (peers lead).sealed; list = (peers lead).list ++ x ∷ [] }) (λ r. record (peers r) { known = (peers r).sealed }) q
      (λ e. rw (e, same lead) (front_append (s.peers lead).list (x ∷ []))) (λ n. rw (same q) (front_refl (s.peers q).list))

  viewed_seals : (lead : ℕ) (x : Item X) (peers : ℕ → PeerCopy X) → ((q : ℕ) → (peers q).sealed ≡ (s.peers q).sealed)
      → (q : ℕ) → (put_at lead (record (peers lead) { known = (peers lead).sealed; list = (peers lead).list ++ x ∷ [] }) (λ r. record (peers r) { known = (peers r).sealed }) q).sealed ≡ (s.peers q).sealed
  viewed_seals lead x peers same q =
      put_cases (λ k. k.sealed ≡ (s.peers q).sealed) lead (record (peers lead) { known = (peers lead).sealed; list = (peers lead).list ++ x ∷ [] }) (λ r. record (peers r) { known = (peers r).sealed }) q
      (λ e. rw e (same lead)) (λ n. same q)

  fallen_list : (p : ℕ) (again : Bool) (q : ℕ) → (begin_again again (put_at p (record (s.peers p) { stage = Down }) s.peers q)).list ≡ (s.peers q).list
  fallen_list p again q =
      again_list again (put_at p (record (s.peers p) { stage = Down }) s.peers q)
      ∙ put_cases (λ k. k.list ≡ (s.peers q).list) p (record (s.peers p) { stage = Down }) s.peers q (λ e. rw e refl) (λ n. refl)

  fallen_sealed : (p : ℕ) (again : Bool) (q : ℕ) → (begin_again again (put_at p (record (s.peers p) { stage = Down }) s.peers q)).sealed ≡ (s.peers q).sealed
  fallen_sealed p again q =
      again_sealed again (put_at p (record (s.peers p) { stage = Down }) s.peers q)
      ∙ put_cases (λ k. k.sealed ≡ (s.peers q).sealed) p (record (s.peers p) { stage = Down }) s.peers q (λ e. rw e refl) (λ n. refl)

  risen_list : (p q : ℕ) → (put_at p (record (s.peers p) { stage = Good }) s.peers q).list ≡ (s.peers q).list
  risen_list p q = put_cases (λ k. k.list ≡ (s.peers q).list) p (record (s.peers p) { stage = Good }) s.peers q (λ e. rw e refl) (λ n. refl)

  risen_sealed : (p q : ℕ) → (put_at p (record (s.peers p) { stage = Good }) s.peers q).sealed ≡ (s.peers q).sealed
  risen_sealed p q = put_cases (λ k. k.sealed ≡ (s.peers q).sealed) p (record (s.peers p) { stage = Good }) s.peers q (λ e. rw e refl) (λ n. refl)

-- ---- an event

pub quiet_lists : {X : Type 0} (e : CopyEvent X) (s : Copies X) → IsQuiet e → CanCome s e → (q : ℕ) → IsFront (s.peers q).list ((after_event e s).peers q).list
quiet_lists (Propose lead x) s k a q = longer s lead _ (rw a.1 (front_append s.log _)) q
quiet_lists (Send m) s k a q = front_refl (s.peers q).list
quiet_lists (CopyComes to place x) s k a q = longer s to _ (front_append (s.peers to).list (x ∷ [])) q
quiet_lists (Sealed p n) s k a q = absurd k
quiet_lists (HaveComes p n) s k a q = longer s p _ (front_refl (s.peers p).list) q
quiet_lists (TakesEffect x) s k a q = front_refl (s.peers q).list
quiet_lists (Fail p lead again x) s k a q = viewed_lists s lead _ (λ r. begin_again again (put_at p (record (s.peers p) { stage = Down }) s.peers r)) (fallen_list s p again) q
quiet_lists (GiveUp p) s k a q = longer s p _ (front_refl (s.peers p).list) q
quiet_lists (Start p) s k a q = longer s p _ (front_refl (s.peers p).list) q
quiet_lists (Cleared p n) s k a q = absurd k
quiet_lists (Copying p more) s k a q = longer s p _ (front_refl (s.peers p).list) q
quiet_lists (Copied p) s k a q = absurd k
quiet_lists (Join p lead x) s k a q = viewed_lists s lead _ (put_at p (record (s.peers p) { stage = Good }) s.peers) (risen_list s p) q

pub quiet_seals : {X : Type 0} (e : CopyEvent X) (s : Copies X) → IsQuiet e → (q : ℕ) → ((after_event e s).peers q).sealed ≡ (s.peers q).sealed
quiet_seals (Propose lead x) s k q = as_sealed s lead _ refl q
quiet_seals (Send m) s k q = refl
quiet_seals (CopyComes to place x) s k q = as_sealed s to _ refl q
quiet_seals (Sealed p n) s k q = absurd k
quiet_seals (HaveComes p n) s k q = as_sealed s p _ refl q
quiet_seals (TakesEffect x) s k q = refl
quiet_seals (Fail p lead again x) s k q = viewed_seals s lead _ (λ r. begin_again again (put_at p (record (s.peers p) { stage = Down }) s.peers r)) (fallen_sealed s p again) q
quiet_seals (GiveUp p) s k q = as_sealed s p _ refl q
quiet_seals (Start p) s k q = as_sealed s p _ refl q
quiet_seals (Cleared p n) s k q = absurd k
quiet_seals (Copying p more) s k q = as_sealed s p _ refl q
quiet_seals (Copied p) s k q = absurd k
quiet_seals (Join p lead x) s k q = viewed_seals s lead _ (put_at p (record (s.peers p) { stage = Good }) s.peers) (risen_sealed s p) q

-- ---- a peer seals, and more is known of it

pub sealed_list : {X : Type 0} (p n : ℕ) (s : Copies X) (q : ℕ) → ((after_event (Sealed p n) s).peers q).list ≡ (s.peers q).list
sealed_list p n s q = put_cases (λ k. k.list ≡ (s.peers q).list) p (record (s.peers p) { sealed = n }) s.peers q (λ e. rw e refl) (λ i. refl)

pub sealed_number : {X : Type 0} (p n : ℕ) (s : Copies X) → ((after_event (Sealed p n) s).peers p).sealed ≡ n
sealed_number {X = X} p n s = ap (λ (k : PeerCopy X). k.sealed) (put_here p (record (s.peers p) { sealed = n }) s.peers)

pub sealed_other : {X : Type 0} (p n : ℕ) (s : Copies X) (q : ℕ) → q ≢ p → ((after_event (Sealed p n) s).peers q).sealed ≡ (s.peers q).sealed
sealed_other {X = X} p n s q i = ap (λ (k : PeerCopy X). k.sealed) (put_other p (record (s.peers p) { sealed = n }) s.peers q i)

pub known_list : {X : Type 0} (p n : ℕ) (s : Copies X) (q : ℕ) → ((after_event (HaveComes p n) s).peers q).list ≡ (s.peers q).list
known_list p n s q = put_cases (λ k. k.list ≡ (s.peers q).list) p (record (s.peers p) { known = n }) s.peers q (λ e. rw e refl) (λ i. refl)

pub known_sealed : {X : Type 0} (p n : ℕ) (s : Copies X) (q : ℕ) → ((after_event (HaveComes p n) s).peers q).sealed ≡ (s.peers q).sealed
known_sealed p n s q = put_cases (λ k. k.sealed ≡ (s.peers q).sealed) p (record (s.peers p) { known = n }) s.peers q (λ e. rw e refl) (λ i. refl)

-- ---- who is good

-- an event that takes nothing from a peer's list leaves it as it was, or the peer is good behind it
abbrev IsIdle : {X : Type 0} → PeerCopy X → PeerCopy X → Type 0
IsIdle old new = (new.list ≡ old.list) ⊎ (new.stage ≡ Good)

-- it lets no good peer fall
abbrev pub IsCalm : {X : Type 0} → CopyEvent X → Type 0
IsCalm (Propose lead x) = Unit {0}
IsCalm (Send m) = Unit {0}
IsCalm (CopyComes to place x) = Unit {0}
IsCalm (Sealed p n) = Unit {0}
IsCalm (HaveComes p n) = Unit {0}
IsCalm (TakesEffect x) = Unit {0}
IsCalm (Fail p lead again x) = ⊥
IsCalm (GiveUp p) = Unit {0}
IsCalm (Start p) = Unit {0}
IsCalm (Cleared p n) = Unit {0}
IsCalm (Copying p more) = Unit {0}
IsCalm (Copied p) = Unit {0}
IsCalm (Join p lead x) = Unit {0}

module _ {X : Type 0} (s : Copies X) where
  one_idle : (p : ℕ) (new : PeerCopy X) → IsIdle (s.peers p) new → (q : ℕ) → IsIdle (s.peers q) (put_at p new s.peers q)
  one_idle p new h q = put_cases (λ k. IsIdle (s.peers q) k) p new s.peers q (λ e. rw e h) (λ n. inl refl)

  view_idle : (lead : ℕ) (x : Item X) (peers : ℕ → PeerCopy X) → (peers lead).stage ≡ Good → ((q : ℕ) → (peers q).list ≡ (s.peers q).list)
      → (q : ℕ) → IsIdle (s.peers q) (put_at lead (record (peers lead) { known = (peers lead).sealed; list = (peers lead).list ++ x ∷ [] }) (λ r. record (peers r) { known = (peers r).sealed }) q)
  view_idle lead x peers good same q =
      put_cases (λ k. IsIdle (s.peers q) k) lead (record (peers lead) { known = (peers lead).sealed; list = (peers lead).list ++ x ∷ [] }) (λ r. record (peers r) { known = (peers r).sealed }) q
      (λ e. inr good) (λ n. inl (same q))

  one_kept : (p : ℕ) (new : PeerCopy X) → ((s.peers p).stage ≡ Good → new.stage ≡ Good) → (q : ℕ) → (s.peers q).stage ≡ Good → (put_at p new s.peers q).stage ≡ Good
  one_kept p new h q = put_cases (λ k. (s.peers q).stage ≡ Good → k.stage ≡ Good) p new s.peers q (λ e. rw e h) (λ n i. i)

  view_kept : (lead : ℕ) (x : Item X) (peers : ℕ → PeerCopy X) → ((q : ℕ) → (s.peers q).stage ≡ Good → (peers q).stage ≡ Good)
      → (q : ℕ) → (s.peers q).stage ≡ Good
      → (put_at lead (record (peers lead) { known = (peers lead).sealed; list = (peers lead).list ++ x ∷ [] }) (λ r. record (peers r) { known = (peers r).sealed }) q).stage ≡ Good
  view_kept lead x peers same q =
      put_cases (λ k. (s.peers q).stage ≡ Good → k.stage ≡ Good) lead (record (peers lead) { known = (peers lead).sealed; list = (peers lead).list ++ x ∷ [] }) (λ r. record (peers r) { known = (peers r).sealed }) q
      (λ e i. same lead (rw (← e) i)) (λ n i. same q i)

  again_good : (again : Bool) (c : PeerCopy X) → c.stage ≡ Good → (begin_again again c).stage ≡ Good
  again_good true c e = ap stage_again e
  again_good false c e = e

  fallen_lead : (p lead : ℕ) (again : Bool) → lead ≢ p → (s.peers lead).stage ≡ Good → (begin_again again (put_at p (record (s.peers p) { stage = Down }) s.peers lead)).stage ≡ Good
  fallen_lead p lead again n e =
      again_good again (put_at p (record (s.peers p) { stage = Down }) s.peers lead) (ap (λ (k : PeerCopy X). k.stage) (put_other p (record (s.peers p) { stage = Down }) s.peers lead n) ∙ e)

  risen_lead : (p lead : ℕ) → (lead ≢ p → (s.peers lead).stage ≡ Good) → (put_at p (record (s.peers p) { stage = Good }) s.peers lead).stage ≡ Good
  risen_lead p lead h = put_cases (λ k. k.stage ≡ Good) p (record (s.peers p) { stage = Good }) s.peers lead (λ e. refl) (λ n. h n)

quiet_idle : {X : Type 0} (e : CopyEvent X) (s : Copies X) → IsQuiet e → CanCome s e → (q : ℕ) → IsIdle (s.peers q) ((after_event e s).peers q)
quiet_idle (Propose lead x) s k a q = one_idle s lead _ (inr a.0) q
quiet_idle (Send m) s k a q = inl refl
quiet_idle (CopyComes to place x) s k a q = one_idle s to _ (inr a.0) q
quiet_idle (Sealed p n) s k a q = absurd k
quiet_idle (HaveComes p n) s k a q = one_idle s p _ (inl refl) q
quiet_idle (TakesEffect x) s k a q = inl refl
quiet_idle (Fail p lead again x) s k a q =
    view_idle s lead _ (λ r. begin_again again (put_at p (record (s.peers p) { stage = Down }) s.peers r)) (fallen_lead s p lead again a.0 a.2) (fallen_list s p again) q
quiet_idle (GiveUp p) s k a q = one_idle s p _ (inl refl) q
quiet_idle (Start p) s k a q = one_idle s p _ (inl refl) q
quiet_idle (Cleared p n) s k a q = absurd k
quiet_idle (Copying p more) s k a q = one_idle s p _ (inl refl) q
quiet_idle (Copied p) s k a q = absurd k
quiet_idle (Join p lead x) s k a q = view_idle s lead _ (put_at p (record (s.peers p) { stage = Good }) s.peers) (risen_lead s p lead a.3.0) (risen_list s p) q

calm_kept : {X : Type 0} (e : CopyEvent X) (s : Copies X) → IsQuiet e → IsCalm e → CanCome s e → (q : ℕ) → (s.peers q).stage ≡ Good → ((after_event e s).peers q).stage ≡ Good
calm_kept (Propose lead x) s k c a q = one_kept s lead _ (λ i. i) q
calm_kept (Send m) s k c a q = λ i. i
calm_kept (CopyComes to place x) s k c a q = one_kept s to _ (λ i. i) q
calm_kept (Sealed p n) s k c a q = absurd k
calm_kept (HaveComes p n) s k c a q = one_kept s p _ (λ i. i) q
calm_kept (TakesEffect x) s k c a q = λ i. i
calm_kept (Fail p lead again x) s k c a q = absurd c
calm_kept (GiveUp p) s k c a q = one_kept s p _ (λ i. absurd (a i)) q
calm_kept (Start p) s k c a q = one_kept s p _ (λ i. absurd (a i)) q
calm_kept (Cleared p n) s k c a q = absurd k
calm_kept (Copying p more) s k c a q = one_kept s p _ (λ i. i) q
calm_kept (Copied p) s k c a q = absurd k
calm_kept (Join p lead x) s k c a q =
    view_kept s lead _ (put_at p (record (s.peers p) { stage = Good }) s.peers) (λ r. one_kept s p (record (s.peers p) { stage = Good }) (λ i. refl) r) q

-- ---- one state behind another

-- no list loses an entry, no peer has sealed other than before, and what is not good has the list it had
pub record Grows {X : Type 0} (old new : Copies X) : Type 0 where
  pub lists : (peer : ℕ) → IsFront (old.peers peer).list (new.peers peer).list
  pub seals : (peer : ℕ) → (new.peers peer).sealed ≡ (old.peers peer).sealed
  pub idle : (peer : ℕ) → ((new.peers peer).list ≡ (old.peers peer).list) ⊎ ((new.peers peer).stage ≡ Good)

-- and every good peer is good still
pub record Stays {X : Type 0} (old new : Copies X) : Type 0 where
  pub grows : Grows old new
  pub good : (peer : ℕ) → (old.peers peer).stage ≡ Good → (new.peers peer).stage ≡ Good

pub same_stays : {X : Type 0} (s : Copies X) → Stays s s
same_stays s = record { grows = record { lists = λ q. front_refl (s.peers q).list; seals = λ q. refl; idle = λ q. inl refl }; good = λ q i. i }

-- first the one, and then one in which no good peer falls
pub grows_on : {X : Type 0} (a b c : Copies X) → Grows a b → Stays b c → Grows a c
grows_on a b c f h = record {
  lists = λ q. front_trans (a.peers q).list (b.peers q).list (c.peers q).list (f.lists q) (h.grows.lists q);
  seals = λ q. h.grows.seals q ∙ f.seals q;
  idle = λ q. elim (h.grows.idle q) [
    | inr good ↦ inr good
    | inl same ↦ elim (f.idle q) [ inl was ↦ inl (same ∙ was) | inr good ↦ inr (h.good q good) ]
  ];
}

pub stays_on : {X : Type 0} (a b c : Copies X) → Stays a b → Stays b c → Stays a c
stays_on a b c f h = record { grows = grows_on a b c f.grows h; good = λ q i. h.good q (f.good q i) }

-- where the peers are the same
pub grows_alike : {X : Type 0} (a b c : Copies X) → c.peers ≡ b.peers → Grows a b → Grows a c
grows_alike {X = X} a b c e g = record {
  lists = λ q. subst (λ (ps : ℕ → PeerCopy X). IsFront (a.peers q).list (ps q).list) (sym e) (g.lists q);
  seals = λ q. ap (λ (ps : ℕ → PeerCopy X). (ps q).sealed) e ∙ g.seals q;
  idle = λ q. subst (λ (ps : ℕ → PeerCopy X). ((ps q).list ≡ (a.peers q).list) ⊎ ((ps q).stage ≡ Good)) (sym e) (g.idle q);
}

pub stays_alike : {X : Type 0} (a b c : Copies X) → c.peers ≡ b.peers → Stays a b → Stays a c
stays_alike {X = X} a b c e g = record { grows = grows_alike a b c e g.grows; good = λ q i. ap (λ (ps : ℕ → PeerCopy X). (ps q).stage) e ∙ g.good q i }

pub event_grows : {X : Type 0} (e : CopyEvent X) (s : Copies X) → IsQuiet e → CanCome s e → Grows s (after_event e s)
event_grows e s k a = record { lists = quiet_lists e s k a; seals = quiet_seals e s k; idle = quiet_idle e s k a }

pub event_stays : {X : Type 0} (e : CopyEvent X) (s : Copies X) → IsQuiet e → IsCalm e → CanCome s e → Stays s (after_event e s)
event_stays e s k c a = record { grows = event_grows e s k a; good = calm_kept e s k c a }

-- ---- calls of the core

-- it goes on quietly
pub record Quietly (line : Entry → Option ℕ) (c : CoreCopies) (s : Copies Entry) : Type 0 where
  pub events : List (CopyEvent Entry)
  pub allowed : CanComeAll s events
  pub stands : StandsFor line c (after_events s events)
  pub stays : Stays s (after_events s events)

-- or but for good peers that may fall
pub record Falling (line : Entry → Option ℕ) (c : CoreCopies) (s : Copies Entry) : Type 0 where
  pub events : List (CopyEvent Entry)
  pub allowed : CanComeAll s events
  pub stands : StandsFor line c (after_events s events)
  pub grows : Grows s (after_events s events)

-- as behind this event, but for what was sent
pub record Becomes (line : Entry → Option ℕ) (c : CoreCopies) (s : Copies Entry) (e : CopyEvent Entry) : Type 0 where
  pub events : List (CopyEvent Entry)
  pub allowed : CanComeAll s events
  pub stands : StandsFor line c (after_events s events)
  pub first : CanCome s e
  pub peers : (after_events s events).peers ≡ (after_event e s).peers

pub becomes_quietly : {line : Entry → Option ℕ} (c : CoreCopies) (s : Copies Entry) (e : CopyEvent Entry) → IsQuiet e → IsCalm e → Becomes line c s e → Quietly line c s
becomes_quietly c s e q calm k = record {
  events = k.events;
  allowed = k.allowed;
  stands = k.stands;
  stays = stays_alike s (after_event e s) (after_events s k.events) k.peers (event_stays e s q calm k.first);
}

pub becomes_falling : {line : Entry → Option ℕ} (c : CoreCopies) (s : Copies Entry) (e : CopyEvent Entry) → IsQuiet e → Becomes line c s e → Falling line c s
becomes_falling c s e q k = record {
  events = k.events;
  allowed = k.allowed;
  stands = k.stands;
  grows = grows_alike s (after_event e s) (after_events s k.events) k.peers (event_grows e s q k.first);
}

-- a peer has sealed so many; the lists are as they were
pub record SealsSome (line : Entry → Option ℕ) (c : CoreCopies) (s : Copies Entry) (peer number : ℕ) : Type 0 where
  pub events : List (CopyEvent Entry)
  pub allowed : CanComeAll s events
  pub stands : StandsFor line c (after_events s events)
  pub lists : (other : ℕ) → ((after_events s events).peers other).list ≡ (s.peers other).list
  pub here : ((after_events s events).peers peer).sealed ≡ number
  pub others : (other : ℕ) → other ≢ peer → ((after_events s events).peers other).sealed ≡ (s.peers other).sealed

-- a joining peer has this list, all of it sealed; the others are as they were
pub record GetsList (line : Entry → Option ℕ) (c : CoreCopies) (s : Copies Entry) (peer : ℕ) (list : List (Item Entry)) : Type 0 where
  pub events : List (CopyEvent Entry)
  pub allowed : CanComeAll s events
  pub stands : StandsFor line c (after_events s events)
  pub here : ((after_events s events).peers peer).list ≡ list
  pub sealed : ((after_events s events).peers peer).sealed ≡ length list
  pub others : (other : ℕ) → other ≢ peer → (after_events s events).peers other ≡ s.peers other

pub goes_quietly : {line : Entry → Option ℕ} (c : CoreCopies) (s : Copies Entry) → Quietly line c s → Continues line c s
goes_quietly c s k = record { events = k.events; allowed = k.allowed; stands = k.stands }

pub goes_falling : {line : Entry → Option ℕ} (c : CoreCopies) (s : Copies Entry) → Falling line c s → Continues line c s
goes_falling c s k = record { events = k.events; allowed = k.allowed; stands = k.stands }

pub goes_sealing : {line : Entry → Option ℕ} (c : CoreCopies) (s : Copies Entry) (peer number : ℕ) → SealsSome line c s peer number → Continues line c s
goes_sealing c s peer number k = record { events = k.events; allowed = k.allowed; stands = k.stands }

pub goes_getting : {line : Entry → Option ℕ} (c : CoreCopies) (s : Copies Entry) (peer : ℕ) (list : List (Item Entry)) → GetsList line c s peer list → Continues line c s
goes_getting c s peer list k = record { events = k.events; allowed = k.allowed; stands = k.stands }

pub quiet_event : {line : Entry → Option ℕ} (c : CoreCopies) (s : Copies Entry) (e : CopyEvent Entry) → IsQuiet e → IsCalm e → CanCome s e → StandsFor line c (after_event e s) → Quietly line c s
quiet_event c s e q calm a st = record { events = e ∷ []; allowed = (a, tt); stands = st; stays = event_stays e s q calm a }

pub no_quiet : {line : Entry → Option ℕ} (c : CoreCopies) (s : Copies Entry) → StandsFor line c s → Quietly line c s
no_quiet c s st = record { events = []; allowed = tt; stands = st; stays = same_stays s }
