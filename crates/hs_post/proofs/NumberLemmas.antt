-- The numbers of a receiver: pairs in the order of their parts.
use Rattle.std.proofs.Common.{◌≡◌, ℕ, ◌<◌, ◌≤◌, Bool, true, false, cond, eqb, List, [], ◌∷◌, ◌&&◌, ◌||◌, refl, ap, sym, ◌∙◌, arith, ◌≢◌, Some, None}
use Rattle.std.specs.BTreeMap.{is_at}
use Rattle.std.specs.BTreeMap.Range.{IsInRange}
use Rattle.std.specs.BTreeSet.{BTreeSet, IsKeyInRange, IsKeyRangeOf}
use Rattle.std.specs.declared.cmp.Ordering.{Ordering}
use Rattle.std.specs.declared.cmp.Ordering.TheVariants.{Less, Equal, Greater}
use Rattle.std.specs.declared.ops.Bound.TheVariants.{Included, Unbounded}
use Rattle.std.specs.Cmp.{ranks, tied_then, unsigned_tied}
use Rattle.std.specs.Ordering.{MatchOrdering, is_eq, is_gt, nat_cmp, ordering_then}
use Rattle.std.specs.Prelude.{not, ◌==◌}
use Rattle.hs_post.specs.First.{IsFirst}
use Rattle.hs_post.specs.Inboxes.{has, inbox_cmp}

-- a pair is found where both parts are equal
pub at_pair : (r k to n : ℕ) → is_at (inbox_cmp (r, k)) (to, n) ≡ (r == to && k == n)
at_pair r k to n = sym (tied_then (nat_cmp r to) (nat_cmp k n)) ∙ rw (unsigned_tied r to, unsigned_tied k n) refl

with_true : (b x : Bool) → cond b true x ≡ (b || x)
with_true true x = refl
with_true false x = refl

with_false : (b x : Bool) → cond b false x ≡ (not b && x)
with_false true x = refl
with_false false x = refl

pub has_added : (old new : List (ℕ × ℕ)) (r k : ℕ) → ((q : ℕ × ℕ) → has new q.0 q.1 ≡ cond (is_at (inbox_cmp (r, k)) q) true (has old q.0 q.1))
    → (to n : ℕ) → has new to n ≡ (r == to && k == n || has old to n)
has_added old new r k h to n = h (to, n) ∙ (rw (at_pair r k to n) (with_true (r == to && k == n) (has old to n)))

pub has_removed : (old new : List (ℕ × ℕ)) (r k : ℕ) → ((q : ℕ × ℕ) → has new q.0 q.1 ≡ cond (is_at (inbox_cmp (r, k)) q) false (has old q.0 q.1))
    → (to n : ℕ) → has new to n ≡ (not (r == to && k == n) && has old to n)
has_removed old new r k h to n = h (to, n) ∙ (rw (at_pair r k to n) (with_false (r == to && k == n) (has old to n)))

-- what the order of two pairs says of their parts, and the other way round
pub parts_in_order : (a b c d : ℕ) → is_gt (inbox_cmp (a, b) (c, d)) ≡ false → (a ≤ c) × (a ≡ c → b ≤ d)
parts_in_order a b c d h = go (nat_cmp a c) (nat_cmp b d) (ranks a c) (ranks b d) h
  where
    go : (o p : Ordering) → MatchOrdering o (a < c) (a ≡ c) (c < a) → MatchOrdering p (b < d) (b ≡ d) (d < b)
        → is_gt (ordering_then o p) ≡ false → (a ≤ c) × (a ≡ c → b ≤ d)
    go Less p f g in_order = (omega arith, λ e. absurd (omega arith))
    go Equal Less f g in_order = (omega arith, λ e. omega arith)
    go Equal Equal f g in_order = (omega arith, λ e. omega arith)
    go Equal Greater f g in_order = cc
    go Greater p f g in_order = cc

pub in_order_by_parts : (a b d : ℕ) → b ≤ d → is_gt (inbox_cmp (a, b) (a, d)) ≡ false
in_order_by_parts a b d h = go (nat_cmp a a) (nat_cmp b d) (ranks a a) (ranks b d)
  where
    go : (o p : Ordering) → MatchOrdering o (a < a) (a ≡ a) (a < a) → MatchOrdering p (b < d) (b ≡ d) (d < b)
        → is_gt (ordering_then o p) ≡ false
    go Less p f g = absurd (omega arith)
    go Equal Less f g = refl
    go Equal Equal f g = refl
    go Equal Greater f g = absurd (omega arith)
    go Greater p f g = absurd (omega arith)

-- ---- the least number of a receiver: what stands first from its pair with 0 on

module _ (s : BTreeSet (ℕ × ℕ)) (receiver : ℕ) (r : List (ℕ × ℕ)) (part : IsKeyRangeOf inbox_cmp (Included (receiver, 0)) Unbounded s r) where
  -- a number of the receiver lies in the range
  lies_in : (n : ℕ) → IsInRange inbox_cmp (Included (receiver, 0)) Unbounded (receiver, n)
  lies_in n = (in_order_by_parts receiver 0 n (omega arith), tt)

  -- the first of the range is in the set, and above the receiver's pair with 0
  first_is_in : (x : ℕ × ℕ) (t : List (ℕ × ℕ)) → r ≡ x ∷ t → IsKeyInRange inbox_cmp (Included (receiver, 0)) Unbounded s x
  first_is_in x t e = rw e at part.1

  -- no number of the receiver is below it
  first_is_least : (x : ℕ × ℕ) (t : List (ℕ × ℕ)) → r ≡ x ∷ t → (n : ℕ) → has s.keys receiver n ≡ true → is_gt (inbox_cmp x (receiver, n)) ≡ false
  first_is_least x t e n found = rw e at (part.2 (receiver, n) (lies_in n) found)

  pub first_found : (x : ℕ × ℕ) (t : List (ℕ × ℕ)) → r ≡ x ∷ t → x.0 ≡ receiver → IsFirst (has s.keys receiver) (Some x.1)
  first_found x t e of_receiver = (
    rw (← of_receiver) (first_is_in x t e).1,
    λ n found. (parts_in_order x.0 x.1 receiver n (first_is_least x t e n found)).1 of_receiver,
  )

  pub first_of_other : (x : ℕ × ℕ) (t : List (ℕ × ℕ)) → r ≡ x ∷ t → x.0 ≢ receiver → IsFirst (has s.keys receiver) None
  first_of_other x t e other n = go (has s.keys receiver n) refl
    where
      go : (b : Bool) → has s.keys receiver n ≡ b → b ≡ false
      go false f = refl
      go true f =
          let above : receiver ≤ x.0 = (parts_in_order receiver 0 x.0 x.1 (first_is_in x t e).0.0).0 in
          let below : x.0 ≤ receiver = (parts_in_order x.0 x.1 receiver n (first_is_least x t e n f)).0 in
          absurd (other (omega arith))

  pub first_of_none : r ≡ [] → IsFirst (has s.keys receiver) None
  first_of_none e n = part.5 e (receiver, n) (lies_in n)
