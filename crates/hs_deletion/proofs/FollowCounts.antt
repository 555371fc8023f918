-- The counts of catalogues are those of the machine that they follow.
use Rattle.std.proofs.Common.{◌≡◌, ℕ, zero, suc, ◌+◌, ◌<◌, List, [], ◌∷◌, inl, inr, refl, sym, ◌∙◌, arith, filter, nat_eq, sum_by}
use Rattle.std.proofs.lemmas.Bool.{eq-eqb, ne_eqb}
use Rattle.std.proofs.lemmas.List.Sums.{sum_by-cons}
use Rattle.hs_limits.specs.declared.address.Address.{Address}
use Rattle.hs_model.proofs.Members.{member_of_filter}
use Rattle.hs_deletion.specs.Reached.{Member}
use Rattle.hs_deletion.specs.Records.{BlockRecord, RootRecord}
use Rattle.hs_deletion.specs.Machine.{Layout, Machine, sum_below, is_at}
use Rattle.hs_deletion.specs.Counts.{block_weight, root_weight, indegree, IsCount, raised_on_way, lowered_on_way}
use Rattle.hs_deletion.specs.Invariants.{IsRight}
use Rattle.hs_deletion.specs.Catalogue.{ShardCatalogue}
use Rattle.hs_deletion.specs.Following.{AreFollowing, named_in}
use Rattle.hs_deletion.proofs.SumLemmas.{sum_below_same, sum_below_none, sum_below_more}

sum_below_plus : (n : ℕ) (f h : ℕ → ℕ) → sum_below n (λ k. f k + h k) ≡ sum_below n f + sum_below n h
unfolding sum_below
sum_below_plus zero f h = refl
sum_below_plus (suc n) f h = omega (arith, sum_below_plus n f h)

-- the sums over the parts of a list make up that over the list
sum_by_parts : {X : Type 0} (n : ℕ) (part : X → ℕ) (w : X → ℕ) (xs : List X) → ((x : X) → Member x xs → part x < n) → sum_below n (λ g. sum_by w (filter (λ x. nat_eq (part x) g) xs)) ≡ sum_by w xs
sum_by_parts n part w [] low = sum_below_none n (λ g. 0) (λ k l. refl)
sum_by_parts {X = X} n part w (x ∷ xs) low =
    let more = sum_below_more n (part x) (λ g. sum_by w (filter (λ x. nat_eq (part x) g) xs)) (λ g. sum_by w (filter (λ x. nat_eq (part x) g) (x ∷ xs))) (w x) (low x (inl refl))
    (λ k l o. rw (ne_eqb (part x) k (λ e. o (sym e))) refl)
    (rw (eq-eqb (part x) (part x) refl) (omega (arith, sum_by-cons w x (filter (λ y. nat_eq (part y) (part x)) xs)))) in
    omega (arith, more, sum_by_parts n part w xs (λ y k. low y (inr k)), sum_by-cons w x xs)

module _ (layout : Layout) (m : Machine) (right : IsRight layout m) (catalogues : ℕ → ShardCatalogue) (follow : AreFollowing layout m catalogues) where
  -- what names an address in the catalogues is what names it in the machine
  pub named_is : (a : Address) → named_in layout catalogues a ≡ indegree m a
  unfolding indegree
  named_is a =
      let bs : sum_below layout.shards (λ g. sum_by (block_weight a) (catalogues g).blocks) ≡ sum_by (block_weight a) m.blocks = sum_below_same layout.shards _ _ (λ g l. (follow g l).blocks.sums (block_weight a)) ∙ sum_by_parts layout.shards (λ (b : BlockRecord). layout.home b.address) (block_weight a) m.blocks (λ b k. layout.within b.address) in
      let rs : sum_below layout.shards (λ g. sum_by (root_weight a) (catalogues g).roots) ≡ sum_by (root_weight a) m.roots = sum_below_same layout.shards _ _ (λ g l. (follow g l).roots.sums (root_weight a)) ∙ sum_by_parts layout.shards (λ (r : RootRecord). r.home) (root_weight a) m.roots right.homes in
      omega (arith, sum_below_plus layout.shards (λ g. sum_by (block_weight a) (catalogues g).blocks) (λ g. sum_by (root_weight a) (catalogues g).roots), bs, rs)

  pub counts_follow : (g : ℕ) → g < layout.shards → (b : BlockRecord) → Member b (catalogues g).blocks → b.count + raised_on_way layout m b.address ≡ named_in layout catalogues b.address + lowered_on_way layout m b.address
  counts_follow g l b k =
      let there = member_of_filter (is_at layout g) b m.blocks ((follow g l).blocks.into b k) in
      let h : IsCount layout m b.address b.count = right.counts.present b there.0 in
      omega (arith, h, named_is b.address)
