-- Lineage of what disks may have.
use Rattle.std.proofs.Common.{◌≡◌, ◌∙◌, ap, sym, refl, arith, ℕ, zero, suc, ◌≤◌, List, [], ◌∷◌, Some, None, length}
use Rattle.std.proofs.lemmas.Option.{slice_get_within}
use Rattle.std.specs.Prelude.{slice_get, take}
use Rattle.hs_copies.proofs.ListLemmas.{front_trans}
use Rattle.hs_copies.proofs.OpenedLemmas.{one_up_to}
use Rattle.hs_copies.specs.Invariant.{reach}
use Rattle.hs_copies.specs.Lists.{IsAtMost, IsFront, Item, rank_by_stamps}
use Rattle.hs_copies.specs.Machine.{Copies}
use Rattle.hs_core_copies.proofs.RunLemmas.{lineage_in_step, rank_in_step}
use Rattle.hs_core_copies.specs.InStep.{IsOf}
use Rattle.hs_core_words.specs.Looking.{group_of, status_of}
use Rattle.hs_entry.specs.declared.entry.Entry.{Entry}
use Rattle.hs_events.specs.Whole.{Whole}
use Rattle.hs_limits.specs.declared.limits.PeerStatus.TheVariants.{Good}
use Rattle.hs_replica.specs.Group.{copy_of}
use Rattle.hs_whole_copies.proofs.ReachLemmas.{longest_front}
use Rattle.hs_whole_copies.specs.Whole.{IsShardInStep, longest}

front_has : {X : Type 0} (xs ys : List X) (n : ℕ) (x : X) → IsFront xs ys → slice_get xs n ≡ Some x → slice_get ys n ≡ Some x
front_has {X = X} [] ys n x f e = let wrong : None ≡ Some x = e in absurd (cc wrong)
front_has (z ∷ xs) [] n x f e = absurd f
front_has (z ∷ xs) (y ∷ ys) zero x f e = ap Some (sym f.0) ∙ e
front_has (z ∷ xs) (y ∷ ys) (suc n) x f e = front_has xs ys n x f.1 e

front_takes : {X : Type 0} (xs ys : List X) (n : ℕ) → IsFront xs ys → n ≤ length xs → take n xs ≡ take n ys
front_takes xs ys zero f l = refl
front_takes [] ys (suc n) f l = absurd (omega (arith, l))
front_takes (x ∷ xs) [] (suc n) f l = absurd f
front_takes (x ∷ xs) (y ∷ ys) (suc n) f l = ap (λ z. z ∷ take n xs) f.0 ∙ ap (λ zs. y ∷ zs) (front_takes xs ys n f.1 (omega (arith, l)))

module _ (g : ℕ) (c : Whole) (s : Copies Entry) (k : IsShardInStep g c s) where
  pub goes_on_from : (p q : ℕ) (front list : List (Item Entry)) → IsOf c.core.members.shape g p → status_of p c.core ≡ Good → IsOf c.core.members.shape g q → IsFront front (s.peers p).list
      → IsFront list (longest q c.core s) → IsAtMost (rank_by_stamps front) (rank_by_stamps list) → IsFront front list
  goes_on_from p q front list own good other f h r =
      let m = longest_front g q c.core s k.in_step other in
      lineage_in_step g c.core s k.in_step p m.0 front list own good f (front_trans list (longest q c.core s) (reach (s.peers m.0)) h m.1) r

  pub has_all : (p q : ℕ) (front list : List (Item Entry)) → IsOf c.core.members.shape g p → status_of p c.core ≡ Good → IsOf c.core.members.shape g q → IsFront front (s.peers p).list
      → (copy_of (group_of g c.core) p).sealed ≤ length front → IsFront list (longest q c.core s) → IsAtMost (rank_by_stamps front) (rank_by_stamps list) → IsFront s.took list
  has_all p q front list own good other f long h r =
      let m = longest_front g q c.core s k.in_step other in
      rank_in_step g c.core s k.in_step p m.0 front list own good f long (front_trans list (longest q c.core s) (reach (s.peers m.0)) h m.1) r

  pub one_to : (p q n : ℕ) (x y : Item Entry) → IsOf c.core.members.shape g p → IsOf c.core.members.shape g q → slice_get (longest p c.core s) n ≡ Some x → slice_get (longest q c.core s) n ≡ Some y → x.view ≡ y.view
      → take (suc n) (longest p c.core s) ≡ take (suc n) (longest q c.core s)
  one_to p q n x y own other e f same =
      let a = longest_front g p c.core s k.in_step own in
      let b = longest_front g q c.core s k.in_step other in
      let low = slice_get_within (longest p c.core s) n x e in
      let high = slice_get_within (longest q c.core s) n y f in
      front_takes (longest p c.core s) (reach (s.peers a.0)) (suc n) a.1 (omega (arith, low))
      ∙ one_up_to s k.in_step.stands.faithful a.0 b.0 n x y (front_has (longest p c.core s) (reach (s.peers a.0)) n x a.1 e) (front_has (longest q c.core s) (reach (s.peers b.0)) n y b.1 f) same
      ∙ sym (front_takes (longest q c.core s) (reach (s.peers b.0)) (suc n) b.1 (omega (arith, high)))
