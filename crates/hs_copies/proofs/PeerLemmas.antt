-- One peer in the place of another.
use Rattle.std.proofs.Common.{◌≡◌, ◌≢◌, ℕ, Bool, true, false, if◌then◌else◌, nat_eq, eqb-true, refl, arith, List, [], ◌++◌, ◌∙◌, ap}
use Rattle.std.proofs.lemmas.Bool.Decides.{nat_tests}
use Rattle.hs_copies.specs.Lists.{Item}
use Rattle.hs_copies.specs.Machine.{PeerCopy, put_at}
use Rattle.hs_copies.specs.Invariant.{reach}
use Rattle.hs_copies.proofs.ListLemmas.{append_nil}

other_number : (a b : ℕ) → nat_eq a b ≡ false → a ≢ b
other_number a b e = grind (arith, nat_tests)

pub put_cases : {A : Type 0} (P : A → Type 0) (p : ℕ) (c : A) (values : ℕ → A) (q : ℕ) → (q ≡ p → P c) → (q ≢ p → P (values q)) → P (put_at p c values q)
put_cases {A = A} P p c values q same other = go (nat_eq q p) refl
  where
    go : (t : Bool) → nat_eq q p ≡ t → P (if t then c else values q)
    go true e = same (eqb-true q p e)
    go false e = other (other_number q p e)

pub put_self : {A : Type 0} (P : A → Type 0) (p : ℕ) (c : A) (values : ℕ → A) → P c → P (put_at p c values p)
put_self P p c values h = put_cases P p c values p (λ e. h) (λ n. absurd (n refl))

pub reach_none : {X : Type 0} (c : PeerCopy X) → c.adding ≡ [] → reach c ≡ c.list
reach_none {X = X} c e = ap (λ (a : List (Item X)). c.list ++ a) e ∙ append_nil c.list

pub put_other : {A : Type 0} (p : ℕ) (c : A) (values : ℕ → A) (q : ℕ) → q ≢ p → put_at p c values q ≡ values q
put_other p c values q n = put_cases (λ k. k ≡ values q) p c values q (λ e. absurd (n e)) (λ n. refl)

pub put_here : {A : Type 0} (p : ℕ) (c : A) (values : ℕ → A) → put_at p c values p ≡ c
put_here p c values = put_self (λ k. k ≡ c) p c values refl
