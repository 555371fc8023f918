-- The labels of rows rise, and are told by what was sent before.
use Rattle.std.proofs.Common.{◌≡◌, ℕ, zero, suc, ◌+◌, ◌-◌, ◌≤◌, ◌<◌, Bool, true, false, ◌&&◌, ◌⊎◌, inl, inr, refl, arith, if◌then◌else◌, nat_eq, nat_le}
use Rattle.std.proofs.lemmas.Bool.{cases_order}
use Rattle.std.proofs.lemmas.Bool.Decides.{nat_tests}
use Rattle.hs_deletion.specs.Machine.{Layout, ShardState}
use Rattle.hs_deletion.specs.Rounds.{total_in}
use Rattle.hs_deletion.specs.Clocks.{Label, label_after, label_of}

-- the row was the last of its run, or it was not
abbrev pub IsAfter : ℕ → Label → Label → Type 0
IsAfter total k l = (1 ≤ k.round) × (total ≡ 0) × (l.epoch ≡ k.epoch + 1) × (l.round ≡ 0) ⊎ ((k.round ≡ 0) ⊎ (1 ≤ total)) × (l.epoch ≡ k.epoch) × (l.round ≡ k.round + 1)

-- what the test of a last row tells
pub last_tells : (r s : ℕ) → nat_le 1 r && nat_eq s 0 ≡ true → (1 ≤ r) × (s ≡ 0)
last_tells r s e = (late r s e, none r s e)
  where
    late : (r s : ℕ) → nat_le 1 r && nat_eq s 0 ≡ true → 1 ≤ r
    late r s e = grind (arith, nat_tests)

    none : (r s : ℕ) → nat_le 1 r && nat_eq s 0 ≡ true → s ≡ 0
    none r s e = grind (arith, nat_tests)

pub not_last_tells : (r s : ℕ) → nat_le 1 r && nat_eq s 0 ≡ false → (r ≡ 0) ⊎ (1 ≤ s)
not_last_tells r s e = grind (arith, nat_tests)

is_after : (total : ℕ) (k : Label) → IsAfter total k (label_after total k)
is_after total k = go (nat_le 1 k.round && nat_eq total 0) refl
  where
    go : (t : Bool) → nat_le 1 k.round && nat_eq total 0 ≡ t → IsAfter total k (if t then record { epoch = k.epoch + 1; round = 0 } else record { epoch = k.epoch; round = k.round + 1 })
    go true e = let l = last_tells k.round total e in inl (l.0, l.1, refl, refl)
    go false e = inr (not_last_tells k.round total e, refl, refl)

pub label_next : (layout : Layout) (s : ℕ → ShardState) (n m : ℕ) → m ≡ suc n → IsAfter (total_in layout s n) (label_of layout s n) (label_of layout s m)
unfolding label_of
label_next layout s n m e = rw e (is_after (total_in layout s n) (label_of layout s n))

-- a label rests on the totals of the rows before
pub label_same : (layout : Layout) (s t : ℕ → ShardState) (n : ℕ) → ((j : ℕ) → j < n → total_in layout t j ≡ total_in layout s j) → label_of layout t n ≡ label_of layout s n
unfolding label_of
label_same layout s t zero e = refl
label_same layout s t (suc n) e = rw (e n (omega arith), label_same layout s t n (λ j l. e j (omega arith))) refl

-- labels rise in their order
pub label_rises : (layout : Layout) (s : ℕ → ShardState) (n d m : ℕ) → m ≡ n + suc d → ((label_of layout s n).epoch < (label_of layout s m).epoch) ⊎ ((label_of layout s n).epoch ≡ (label_of layout s m).epoch) × ((label_of layout s n).round < (label_of layout s m).round)
label_rises layout s n zero m e = elim (label_next layout s n m (omega (arith, e))) [ inl q ↦ inl (omega (arith, q.2)) | inr q ↦ inr (omega (arith, q.1), omega (arith, q.2)) ]
label_rises layout s n (suc d) m e = elim (label_next layout s (n + suc d) m (omega (arith, e))) [
  | inl q ↦ elim (label_rises layout s n d (n + suc d) refl) [ inl p ↦ inl (omega (arith, p, q.2)) | inr p ↦ inl (omega (arith, p.0, q.2)) ]
  | inr q ↦ elim (label_rises layout s n d (n + suc d) refl) [ inl p ↦ inl (omega (arith, p, q.1)) | inr p ↦ inr (omega (arith, p.0, q.1), omega (arith, p.1, q.2)) ]
]

-- their epochs never fall
pub epoch_rises : (layout : Layout) (s : ℕ → ShardState) (n m : ℕ) → n ≤ m → (label_of layout s n).epoch ≤ (label_of layout s m).epoch
epoch_rises layout s n m le = elim (cases_order n m) [
  | inl e ↦ rw e (omega arith)
  | inr (inl l) ↦ elim (label_rises layout s n (m - n - 1) m (omega (arith, l))) [ inl p ↦ omega (arith, p) | inr p ↦ omega (arith, p.0) ]
  | inr (inr l) ↦ absurd (omega (arith, l, le))
]

-- so a label tells its row
pub label_tells : (layout : Layout) (s : ℕ → ShardState) (n m : ℕ) → (label_of layout s n).epoch ≡ (label_of layout s m).epoch → (label_of layout s n).round ≡ (label_of layout s m).round → n ≡ m
label_tells layout s n m e r = elim (cases_order n m) [
  | inl is ↦ is
  | inr (inl l) ↦ absurd (elim (label_rises layout s n (m - n - 1) m (omega (arith, l))) [ inl x ↦ omega (arith, x, e) | inr x ↦ omega (arith, x.1, r) ])
  | inr (inr l) ↦ absurd (elim (label_rises layout s m (n - m - 1) n (omega (arith, l))) [ inl x ↦ omega (arith, x, e) | inr x ↦ omega (arith, x.1, r) ])
]
