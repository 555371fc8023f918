-- What holds of a shard's copies in the core.
use Rattle.std.proofs.Common.{◌≡◌, ℕ, ◌≤◌, ◌-◌, true, List, [], ◌∷◌, arith, length, Some, ap, sym, ◌∙◌, drop, Option}
use Rattle.std.proofs.lemmas.List.{length-drop, length-map}
use Rattle.hs_entry.specs.declared.entry.Entry.{Entry}
use Rattle.hs_replica.specs.Group.{IsHome, copy_of, last_number, lead, length_of}
use Rattle.hs_copies.specs.CoreCopies.{CoreCopies}
use Rattle.hs_copies.specs.Lists.{IsFront, Item}
use Rattle.hs_copies.specs.Machine.{Copies}
use Rattle.hs_copies.specs.Standing.{StandsFor, stamps_of}
use Rattle.hs_copies.proofs.ListLemmas.{front_length}
use Rattle.hs_copies.proofs.OpenedLemmas.{took_good}
use Rattle.hs_copies.proofs.StandLemmas.{good_peer, length_is, stands_lead}

front_stamps : (xs ys : List (Item Entry)) → IsFront xs ys → IsFront (stamps_of xs) (stamps_of ys)
front_stamps [] ys p = tt
front_stamps (x ∷ xs) [] p = absurd p
front_stamps (x ∷ xs) (y ∷ ys) p = (ap (λ (z : Item Entry). z.view) p.0, front_stamps xs ys p.1)

module _ {line : Entry → Option ℕ} (c : CoreCopies) (s : Copies Entry) (st : StandsFor line c s) where
  pub good_stamps : (p l : ℕ) → IsHome c.group p → (copy_of c.group p).good ≡ true → lead c.group ≡ Some l → IsFront (copy_of c.group p).stamps (copy_of c.group l).stamps
  good_stamps p l own good e =
      let d = stands_lead c s st in
      let same : d.peer ≡ l = let k : Some d.peer ≡ Some l = sym d.is ∙ e in cc k in
      let k : (copy_of c.group d.peer).stamps ≡ stamps_of s.log = (st.peers.each d.peer d.leads.home).stamps ∙ ap stamps_of d.whole in
      rw (← same, k, (st.peers.each p own).stamps) (front_stamps (s.peers p).list s.log (st.faithful.good p (good_peer c s st p own good)).prefix)

  pub front_within : (p : ℕ) → IsHome c.group p → (copy_of c.group p).good ≡ true → c.group.front ≤ length_of c.group p
  front_within p own good =
      omega (arith, st.front, length_is c s st p own, front_length s.took (s.peers p).list (took_good s st.faithful p (good_peer c s st p own good)))

  pub last_is_leads : (l : ℕ) → lead c.group ≡ Some l → last_number c.group ≡ length_of c.group l
  last_is_leads l e =
      let d = stands_lead c s st in
      let same : d.peer ≡ l = let k : Some d.peer ≡ Some l = sym d.is ∙ e in cc k in
      let waits : length c.group.waiting ≡ length s.log - length s.took =
      ap (λ k. length k) st.waiting ∙ length-map (drop (length s.took) s.log) (λ x. x.what) ∙ length-drop (length s.took) s.log in
      rw (← same) (omega (arith, st.front, waits, front_length s.took s.log st.faithful.took, length_is c s st d.peer d.leads.home, ap (λ k. length k) d.whole))
