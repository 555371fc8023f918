-- What follows where copies of the core stand for copies of the machine, and what a change of one peer must keep.
use Rattle.std.proofs.Common.{◌≡◌, ◌≢◌, ℕ, ◌-◌, Bool, true, false, nat_eq, eqb-true, List, [], ◌∷◌, ◌⊎◌, inl, inr, refl, sym, arith, length, Some, ap, ◌∙◌, Option}
use Rattle.std.proofs.lemmas.Bool.Decides.{nat_tests}
use Rattle.std.proofs.lemmas.List.{length-map}
use Rattle.std.specs.Prelude.{slice_index_or, ◌&&◌}
use Rattle.hs_entry.specs.declared.entry.Entry.{Entry}
use Rattle.hs_limits.specs.declared.limits.PeerStatus.{PeerStatus}
use Rattle.hs_rejoin.specs.Rejoin.{Rejoin}
use Rattle.hs_replica.specs.declared.replica.Replica.{Replica}
use Rattle.hs_replica.specs.Group.{IsHome, copy_of, last_view, lead, length_of}
use Rattle.hs_copies.specs.CoreCopies.{CoreCopies}
use Rattle.hs_copies.specs.Lines.{IsLineEntry}
use Rattle.hs_copies.specs.Lists.{IsAmong, Item, end_view}
use Rattle.hs_copies.specs.Machine.{Clearing, Copies, Down, Following, Good, PeerCopy, Stage}
use Rattle.hs_copies.specs.Standing.{ArePeers, IsCopyOf, StandsFor, is_good_stage, stage_of, stamps_of}
use Rattle.hs_copies.proofs.HomeLemmas.{Leads, home_or_not, lead_found}
use Rattle.hs_copies.proofs.LineLemmas.{among_waiting}
use Rattle.hs_copies.proofs.ListLemmas.{front_whole}

pub good_stage : (k : Stage) → is_good_stage k ≡ true → k ≡ Good
good_stage Good e = refl
good_stage Clearing e = let wrong : false ≡ true = e in cc
good_stage Following e = let wrong : false ≡ true = e in cc
good_stage Down e = let wrong : false ≡ true = e in cc

pub stage_good : (k : Stage) → k ≡ Good → is_good_stage k ≡ true
stage_good k e = rw e refl

pub not_good_down : (k : Stage) → k ≡ Good → k ≡ Down → ⊥
not_good_down k a b = cc (a, b)

pub not_good_following : (k : Stage) → k ≡ Good → k ≡ Following → ⊥
not_good_following k a b = cc (a, b)

pub and_left : (a b : Bool) → (a && b) ≡ true → a ≡ true
and_left true b e = refl
and_left false b e = e

pub and_right : (a b : Bool) → (a && b) ≡ true → b ≡ true
and_right true b e = e
and_right false b e = let wrong : false ≡ true = e in cc

-- ---- the lead

-- the lead of the group: its list is the lead's of the machine
pub record HasLead (c : CoreCopies) (s : Copies Entry) : Type 0 where
  pub peer : ℕ
  pub is : lead c.group ≡ Some peer
  pub leads : Leads c.group peer
  pub good : (s.peers peer).stage ≡ Good
  pub whole : (s.peers peer).list ≡ s.log

module _ {line : Entry → Option ℕ} (c : CoreCopies) (s : Copies Entry) (st : StandsFor line c s) where
  pub good_home : (p : ℕ) → (s.peers p).stage ≡ Good → IsHome c.group p
  good_home p g =
      elim (home_or_not c.group p) [ inl h ↦ h | inr n ↦ absurd (not_good_down (s.peers p).stage g (st.peers.elsewhere p n)) ]

  pub good_copy : (p : ℕ) → IsHome c.group p → (s.peers p).stage ≡ Good → (copy_of c.group p).good ≡ true
  good_copy p h g = (st.peers.each p h).good ∙ stage_good (s.peers p).stage g

  pub good_peer : (p : ℕ) → IsHome c.group p → (copy_of c.group p).good ≡ true → (s.peers p).stage ≡ Good
  good_peer p h g = good_stage (s.peers p).stage (sym (st.peers.each p h).good ∙ g)

  pub length_is : (p : ℕ) → IsHome c.group p → length_of c.group p ≡ length (s.peers p).list
  length_is p h = ap (λ k. length k) (st.peers.each p h).stamps ∙ length-map (s.peers p).list (λ x. x.view)

  pub stands_lead : HasLead c s
  stands_lead =
      let r = st.faithful in
      let h = good_home r.led.0 r.led.1 in
      let f = lead_found c.group r.led.0 st.copies h (good_copy r.led.0 h r.led.1) in
      let k : Leads c.group f.0 = f.2 in
      let g = good_peer f.0 k.home k.good in
      record {
        peer = f.0;
        is = f.1;
        leads = k;
        good = g;
        whole = front_whole (s.peers f.0).list s.log (r.good f.0 g).prefix
            (omega (arith, k.longest r.led.0 h (good_copy r.led.0 h r.led.1), length_is r.led.0 h, length_is f.0 k.home, ap (λ k. length k) r.led.2));
      }

  -- where no entry that waits is of a line, the lead's list has none above what took effect
  pub none_waits : (k : ℕ) → ((x : Entry) → IsAmong x c.group.waiting → line x ≡ Some k → ⊥) → (n : ℕ) → IsLineEntry line s.took s.log n k → ⊥
  none_waits k h n i = h i.entry.what (rw st.waiting (among_waiting s.log (length s.took) n i.entry i.above i.here)) i.of_line

-- ---- the last stamp

get_last : (x : Item Entry) (xs : List (Item Entry)) → slice_index_or (stamps_of (x ∷ xs)) (length (stamps_of xs)) 0 ≡ end_view x.view xs
get_last x [] = refl
get_last x (y ∷ ys) = get_last y ys

pub last_stamp : (xs : List (Item Entry)) → last_view (stamps_of xs) ≡ end_view 0 xs
last_stamp [] = refl
last_stamp (x ∷ xs) = let e : length (stamps_of (x ∷ xs)) - 1 ≡ length (stamps_of xs) = omega arith in rw e (get_last x xs)

pub end_view_any : (v w : ℕ) (xs : List (Item Entry)) → (length xs ≡ 0 → v ≡ w) → end_view v xs ≡ end_view w xs
end_view_any v w [] h = h refl
end_view_any v w (x ∷ xs) h = refl

-- ---- one peer changes

other_peer : (a b : ℕ) → nat_eq a b ≡ false → a ≢ b
other_peer a b e = grind (arith, nat_tests)

pub same_or_other : (a b : ℕ) → (a ≡ b) ⊎ (a ≢ b)
same_or_other a b = go (nat_eq a b) refl
  where
    go : (t : Bool) → nat_eq a b ≡ t → (a ≡ b) ⊎ (a ≢ b)
    go true e = inl (eqb-true a b e)
    go false e = inr (other_peer a b e)

module _ (home : ℕ → Type 0) (copy copy2 : ℕ → Replica) (status status2 : ℕ → PeerStatus) (rejoins rejoins2 : ℕ → Rejoin) (peers peers2 : ℕ → PeerCopy Entry) (p : ℕ)
    (old : ArePeers home copy status rejoins peers)
    (own : home p)
    (copies : (q : ℕ) → home q → q ≢ p → copy2 q ≡ copy q)
    (statuses : (q : ℕ) → home q → q ≢ p → status2 q ≡ status q)
    (others : (q : ℕ) → q ≢ p → rejoins2 q ≡ rejoins q)
    (same : (q : ℕ) → q ≢ p → peers2 q ≡ peers q)
    (each : IsCopyOf (copy2 p) (peers2 p))
    (stage : (peers2 p).stage ≡ stage_of (status2 p) (rejoins2 p).empty)
    (counted : (peers2 p).stage ≡ Following → (rejoins2 p).len ≡ length (peers2 p).list)
    (still : (peers2 p).stage ≡ Following → (peers2 p).adding ≡ []) where
  pub one_changes : ArePeers home copy2 status2 rejoins2 peers2
  one_changes =
      record {
        each = λ q h. elim (same_or_other q p) [ inl e ↦ rw e each | inr n ↦ rw (copies q h n, same q n) (old.each q h) ];
        stage = λ q h. elim (same_or_other q p) [ inl e ↦ rw e stage | inr n ↦ rw (statuses q h n, others q n, same q n) (old.stage q h) ];
        counted = λ q h. elim (same_or_other q p) [ inl e ↦ rw e counted | inr n ↦ rw (others q n, same q n) (old.counted q h) ];
        still = λ q h. elim (same_or_other q p) [ inl e ↦ rw e still | inr n ↦ rw (same q n) (old.still q h) ];
        elsewhere = λ q h. elim (same_or_other q p) [ inl e ↦ absurd (h (rw e own)) | inr n ↦ rw (same q n) (old.elsewhere q h) ];
      }
