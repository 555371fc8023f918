-- The joining peers of a shard, one peer after another.
use Rattle.std.proofs.Common.{◌≡◌, ℕ, ◌+◌, ◌-◌, ◌<◌, ◌≤◌, suc, Bool, true, false, ◌∷◌, refl, arith}
use Rattle.std.specs.List.{range_with_len}
use Rattle.std.specs.Prelude.{filter}
use Rattle.hs_awaiting.specs.Words.{change_if, each}
use Rattle.hs_core_words.specs.Joining.{begin_joining}
use Rattle.hs_core_words.specs.State.{Core}

-- those from a number on
abbrev pub each_from : {A : Type 0} → (ℕ → Bool) → (ℕ → A → A) → ℕ → ℕ → A → A
each_from test f first count x = each (filter test (range_with_len first count)) f x

pub each_from_next : {A : Type 0} (test : ℕ → Bool) (f : ℕ → A → A) (first i n : ℕ) (x : A) → i < n
    → each_from test f (first + i) (n - i) x ≡ each_from test f (first + (i + 1)) (n - (i + 1)) (change_if (test (first + i)) (f (first + i)) x)
each_from_next {A} test f first i n x h =
    let d : n - i ≡ suc (n - (i + 1)) = omega (arith, h) in
    let at : first + (i + 1) ≡ (first + i) + 1 = omega arith in
    rw (d, at) (go (test (first + i)) refl)
  where
    go : (b : Bool) → test (first + i) ≡ b
        → each (filter test ((first + i) ∷ range_with_len ((first + i) + 1) (n - (i + 1)))) f x
        ≡ each (filter test (range_with_len ((first + i) + 1) (n - (i + 1)))) f (change_if (test (first + i)) (f (first + i)) x)
    go true e = rw e refl
    go false e = rw e refl

pub each_from_end : {A : Type 0} (test : ℕ → Bool) (f : ℕ → A → A) (first i n : ℕ) (x : A) → n ≤ i → each_from test f (first + i) (n - i) x ≡ x
each_from_end test f first i n x h =
    let d : n - i ≡ 0 = omega (arith, h) in
    rw d refl

pub each_from_begin : {A : Type 0} (test : ℕ → Bool) (f : ℕ → A → A) (first n : ℕ) (x : A) → each_from test f (first + 0) (n - 0) x ≡ each_from test f first n x
each_from_begin test f first n x =
    let d : n - 0 ≡ n = omega arith in
    let at : first + 0 ≡ first = omega arith in
    rw (d, at) refl

-- a peer that begins to join leaves all statuses
pub members_if : (b : Bool) (peer : ℕ) (core : Core) → (change_if b (begin_joining peer) core).members ≡ core.members
members_if true peer core = refl
members_if false peer core = refl
