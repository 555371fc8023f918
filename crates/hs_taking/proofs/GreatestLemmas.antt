-- Of the peers of a shard one has the first log of greatest rank.
use Rattle.std.proofs.Common.{◌≡◌, ◌∙◌, ◌⊎◌, ap, sym, subst, inl, inr, ℕ, zero, suc, ◌+◌, ◌<◌, ◌≤◌, Bool, true, false, Option, Some, None, is_some, refl, arith}
use Rattle.std.proofs.lemmas.Bool.{cases_eq, cases_lt}
use Rattle.std.proofs.lemmas.Bool.Decides.{nat_tests}
use Rattle.hs_entry.specs.declared.rank.Rank.{Rank}
use Rattle.hs_entry.specs.Entries.{rank_of}
use Rattle.hs_fold.specs.Opened.{outranks}
use Rattle.hs_fold.specs.Shards.Setting.{Numbered}
use Rattle.hs_limits.specs.declared.shape.Shape.{Shape}
use Rattle.hs_limits.specs.Shape.{peer_of}
use Rattle.hs_taking.specs.Copies.{IsFirst, IsOf}

-- ---- ranks

-- none is above itself
pub not_above_itself : (a : Rank) → outranks a a ≡ false
not_above_itself a = grind (arith, nat_tests)

-- what is above one is above each that is not above that one
pub above_further : (a b c : Rank) → outranks a b ≡ true → outranks c b ≡ false → outranks a c ≡ true
above_further a b c above up = grind (arith, nat_tests)

-- and is not below it
pub not_above_back : (a b : Rank) → outranks a b ≡ true → outranks b a ≡ false
not_above_back a b above = grind (arith, nat_tests)

-- ---- one peer more

some_is : (x y : Numbered) → Some x ≡ Some y → x ≡ y
some_is x y e = cc e

none_is : (x : Numbered) → None ≡ Some x → ⊥
none_is x e = cc e

not_some : false ≡ true → ⊥
not_some e = cc e

module _ (logs : ℕ → Option Numbered) (low : ℕ) where
  -- of the peers from the first up to one
  record IsBest (high from : ℕ) : Type 0 where
    above : low ≤ from
    within : from < high
    some : (other : ℕ) → low ≤ other → other < high → is_some (logs other) ≡ true → is_some (logs from) ≡ true
    best : (other : ℕ) → low ≤ other → other < high → (list taken : Numbered) → logs other ≡ Some list → logs from ≡ Some taken → outranks (rank_of list) (rank_of taken) ≡ false
    first : (other : ℕ) → low ≤ other → other < from → (list taken : Numbered) → logs other ≡ Some list → logs from ≡ Some taken → outranks (rank_of taken) (rank_of list) ≡ true

  same_rank : (list taken : Numbered) (peer : ℕ) → logs peer ≡ Some list → logs peer ≡ Some taken → outranks (rank_of list) (rank_of taken) ≡ false
  same_rank list taken peer e t = subst (λ l. outranks (rank_of list) (rank_of l) ≡ false) (some_is list taken (sym e ∙ t)) (not_above_itself (rank_of list))

  one_best : IsBest (low + 1) low
  one_best = record {
    above = omega arith;
    within = omega arith;
    some = λ other l h s. subst (λ p. is_some (logs p) ≡ true) (here other l h) s;
    best = λ other l h list taken e t. same_rank list taken low (ap logs (sym (here other l h)) ∙ e) t;
    first = λ other l h. absurd (omega (arith, l, h));
  }
    where
      here : (other : ℕ) → low ≤ other → other < low + 1 → other ≡ low
      here other l h = omega (arith, l, h)

  -- the one before stays
  stays_best : (high from : ℕ) → IsBest high from → (is_some (logs high) ≡ true → is_some (logs from) ≡ true) → ((list taken : Numbered) → logs high ≡ Some list → logs from ≡ Some taken → outranks (rank_of list) (rank_of taken) ≡ false) → IsBest (high + 1) from
  stays_best high from b some up = record {
    above = b.above;
    within = let w = b.within in omega (arith, w);
    some = λ other l h s. elim (cases_eq other high) [
      | inl same ↦ some (subst (λ p. is_some (logs p) ≡ true) same s)
      | inr differs ↦ b.some other l (omega (arith, h, differs)) s
    ];
    best = λ other l h list taken e t. elim (cases_eq other high) [
      | inl same ↦ up list taken (ap logs (sym same) ∙ e) t
      | inr differs ↦ b.best other l (omega (arith, h, differs)) list taken e t
    ];
    first = b.first;
  }

  -- the one more is above all
  next_best : (high from : ℕ) (list : Numbered) → IsBest high from → logs high ≡ Some list → ((taken : Numbered) → logs from ≡ Some taken → outranks (rank_of list) (rank_of taken) ≡ true) → IsBest (high + 1) high
  next_best high from list b is above = record {
    above = let a = b.above in let w = b.within in omega (arith, a, w);
    within = omega arith;
    some = λ other l h s. ap (λ o. is_some o) is;
    best = λ other l h own taken e t. elim (cases_eq other high) [
      | inl same ↦ same_rank own taken high (ap logs (sym same) ∙ e) t
      | inr differs ↦ not_above_back (rank_of taken) (rank_of own) (below other own taken l (omega (arith, h, differs)) e t)
    ];
    first = λ other l h own taken e t. below other own taken l h e t;
  }
    where
      below : (other : ℕ) (own taken : Numbered) → low ≤ other → other < high → logs other ≡ Some own → logs high ≡ Some taken → outranks (rank_of taken) (rank_of own) ≡ true
      below other own taken l h e t = by (logs from) refl
        where
          by : (o : Option Numbered) → logs from ≡ o → outranks (rank_of taken) (rank_of own) ≡ true
          by None none = absurd (not_some (sym (ap (λ x. is_some x) none) ∙ b.some other l h (ap (λ x. is_some x) e)))
          by (Some was) there =
              subst (λ x. outranks (rank_of x) (rank_of own) ≡ true) (some_is list taken (sym is ∙ t))
              (above_further (rank_of list) (rank_of was) (rank_of own) (above was there) (b.best other l h own was e there))

  more_best : (high from : ℕ) → IsBest high from → (next : ℕ) × IsBest (high + 1) next
  more_best high from b = by (logs high) refl (logs from) refl
    where
      chosen : (list taken : Numbered) → logs high ≡ Some list → logs from ≡ Some taken → (above : Bool) → outranks (rank_of list) (rank_of taken) ≡ above → (next : ℕ) × IsBest (high + 1) next
      chosen list taken e t true above = (high, next_best high from list b e (λ other o. subst (λ x. outranks (rank_of list) (rank_of x) ≡ true) (some_is taken other (sym t ∙ o)) above))
      chosen list taken e t false above = (
        from,
        stays_best high from b (λ s. ap (λ o. is_some o) t) (λ own other o k.
            subst (λ x. outranks (rank_of x) (rank_of other) ≡ false) (some_is list own (sym e ∙ o)) (subst (λ x. outranks (rank_of list) (rank_of x) ≡ false) (some_is taken other (sym t ∙ k)) above)),
      )

      by : (o : Option Numbered) → logs high ≡ o → (p : Option Numbered) → logs from ≡ p → (next : ℕ) × IsBest (high + 1) next
      by None e p t = (from, stays_best high from b (λ s. absurd (not_some (sym (ap (λ o. is_some o) e) ∙ s))) (λ list taken o k. absurd (none_is list (sym e ∙ o))))
      by (Some list) e None t = (high, next_best high from list b e (λ taken k. absurd (none_is taken (sym t ∙ k))))
      by (Some list) e (Some taken) t = chosen list taken e t (outranks (rank_of list) (rank_of taken)) refl

  some_best : (n : ℕ) → (from : ℕ) × IsBest (low + suc n) from
  some_best zero = (low, one_best)
  some_best (suc n) =
      let one = some_best n in
      let next = more_best (low + suc n) one.0 one.1 in
      let e : low + suc n + 1 ≡ low + suc (suc n) = omega arith in
      (next.0, subst (λ high. IsBest high next.0) e next.1)

-- ---- a shard

pub some_first : (shape : Shape) (logs : ℕ → Option Numbered) (shard : ℕ) → 0 < shape.copies → (from : ℕ) × IsFirst shape logs shard from
some_first shape logs shard copies = by shape.copies refl copies
  where
    by : (n : ℕ) → shape.copies ≡ n → 0 < n → (from : ℕ) × IsFirst shape logs shard from
    by zero e low = absurd (omega (arith, low))
    by (suc n) e low =
        let b = some_best logs (peer_of shape shard 0) n in
        let one = b.1 in
        let high : (other : ℕ) → IsOf shape shard other → other < peer_of shape shard 0 + suc n = λ other of. subst (λ k. other < peer_of shape shard 0 + k) e of.to in (
          b.0,
          record {
            home = record { from = one.above; to = subst (λ k. b.0 < peer_of shape shard 0 + k) (sym e) one.within };
            some = λ other of s. one.some other of.from (high other of) s;
            best = λ other of list taken o t. one.best other of.from (high other of) list taken o t;
            first = λ other of less list taken o t. one.first other of.from less list taken o t;
          },
        )

-- ---- there is no other

true_is_not : true ≡ false → ⊥
true_is_not e = cc e

pub first_one : (shape : Shape) (logs : ℕ → Option Numbered) (shard a b : ℕ) → IsFirst shape logs shard a → IsFirst shape logs shard b → is_some (logs a) ≡ true → a ≡ b
first_one shape logs shard a b one two some = by (logs a) refl (logs b) refl
  where
    both : (list taken : Numbered) → logs a ≡ Some list → logs b ≡ Some taken → a ≡ b
    both list taken e t = elim (cases_lt a b) [
      | inl less ↦ absurd (true_is_not (sym (two.first a one.home less list taken e t) ∙ one.best b two.home taken list t e))
      | inr up ↦ elim (cases_lt b a) [
        | inl less ↦ absurd (true_is_not (sym (one.first b two.home less taken list t e) ∙ two.best a one.home list taken e t))
        | inr down ↦ omega (arith, up, down)
      ]
    ]

    by : (o : Option Numbered) → logs a ≡ o → (p : Option Numbered) → logs b ≡ p → a ≡ b
    by None e p t = absurd (not_some (sym (ap (λ x. is_some x) e) ∙ some))
    by (Some list) e None t = absurd (not_some (sym (ap (λ x. is_some x) t) ∙ two.some a one.home some))
    by (Some list) e (Some taken) t = both list taken e t

-- the first of all is that of those that were read, where it was
pub first_known : (shape : Shape) (logs entry : ℕ → Option Numbered) (shard from peer : ℕ) → IsFirst shape logs shard from → IsFirst shape entry shard peer → is_some (logs peer) ≡ true → ((other : ℕ) → IsOf shape shard other → (logs other ≡ entry other) ⊎ (logs other ≡ None)) → from ≡ peer
first_known shape logs entry shard from peer first whole some read = sym (first_one shape logs shard peer from own first some)
  where
    was : (other : ℕ) → IsOf shape shard other → (list : Numbered) → logs other ≡ Some list → entry other ≡ Some list
    was other of list e = elim (read other of) [ inl same ↦ sym same ∙ e | inr none ↦ absurd (none_is list (sym none ∙ e)) ]

    own : IsFirst shape logs shard peer
    own = record {
      home = whole.home;
      some = λ other of s. some;
      best = λ other of list taken e t. whole.best other of list taken (was other of list e) (was peer whole.home taken t);
      first = λ other of less list taken e t. whole.first other of less list taken (was other of list e) (was peer whole.home taken t);
    }
