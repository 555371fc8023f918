-- The end of a round is that of what the machine sees, where counts stay within their bounds.
use Rattle.std.proofs.Common.{◌≡◌, inl, inr, ℕ, ◌+◌, List, [], ◌∷◌, map, filter, Bool, true, false, cond, not, refl, sym, ap, ◌∙◌, arith}
use Rattle.hs_limits.specs.declared.address.Address.{Address}
use Rattle.hs_model.proofs.Members.{Member}
use Rattle.hs_deletion.specs.Records.{searched, is_released, is_removed, spared}
use Rattle.hs_deletion.specs.Catalogue.{ShardCatalogue, recounted_in, searched_in, swept_in}
use Rattle.hs_fold.specs.Runs.Facts.{Facts, Catalogue, each_block}
use Rattle.hs_fold.specs.Runs.Rounds.{settled, is_new_zero, find_zero, search, is_gone, spare, sweep}
use Rattle.hs_fold.proofs.Runs.EndLemmas.{filter-map}
use Rattle.hs_joint.specs.Seen.{seen_block, seen_root, seen}
use Rattle.hs_joint.proofs.LikeLemmas.{IsLike, IsWithin, raised_open, lowered_open, settle, count_seen, settle_seen, seen_kept}
use Rattle.hs_joint.proofs.SameLists.{same_as}

found_seen : (epoch : ℕ) (e : Address × Facts) → seen_block (e.0, find_zero epoch e.1) ≡ searched epoch (seen_block e)
found_seen epoch e = go (is_new_zero epoch e.1)
  where
    go : (b : Bool) → seen_block (e.0, cond b (record e.1 { zero = true }) e.1) ≡ cond b (record (seen_block e) { zero = true }) (seen_block e)
    go true = refl
    go false = refl

spared_seen : (epoch : ℕ) (es : List (Address × Facts)) → map seen_block (each_block spare (filter (λ e. not (is_gone epoch e.1)) es)) ≡ map spared (filter (λ b. not (is_removed epoch b)) (map seen_block es))
spared_seen epoch [] = refl
spared_seen epoch (e ∷ es) = go (is_gone epoch e.1) (spared_seen epoch es)
  where
    one : (z : Bool) → map seen_block (each_block spare (filter (λ e. not (is_gone epoch e.1)) es)) ≡ map spared (filter (λ b. not (is_removed epoch b)) (map seen_block es))
        → seen_block (e.0, cond z (record e.1 { counted = false; zero = false }) e.1) ∷ map seen_block (each_block spare (filter (λ e. not (is_gone epoch e.1)) es)) ≡ cond z (record (seen_block e) { counted = false; zero = false }) (seen_block e) ∷ map spared (filter (λ b. not (is_removed epoch b)) (map seen_block es))
    one true ih = ap (λ bs. record (seen_block e) { counted = false; zero = false } ∷ bs) ih
    one false ih = ap (λ bs. seen_block e ∷ bs) ih

    go : (b : Bool) → map seen_block (each_block spare (filter (λ e. not (is_gone epoch e.1)) es)) ≡ map spared (filter (λ b. not (is_removed epoch b)) (map seen_block es))
        → map seen_block (each_block spare (cond (not b) (e ∷ filter (λ e. not (is_gone epoch e.1)) es) (filter (λ e. not (is_gone epoch e.1)) es))) ≡ map spared (cond (not b) (seen_block e ∷ filter (λ b. not (is_removed epoch b)) (map seen_block es)) (filter (λ b. not (is_removed epoch b)) (map seen_block es)))
    go true ih = ih
    go false ih = one e.1.zero ih

module _ (n shard : ℕ) (c : Catalogue) where
  abbrev C : ShardCatalogue
  C = seen shard c

  pub settled_seen : (es : List (Address × Facts)) → ((e : Address × Facts) → Member e es → IsWithin shard c n e) → map seen_block (map (settle shard c n) es) ≡ map (recounted_in n C) (map seen_block es)
  settled_seen [] w = refl
  settled_seen (e ∷ es) w = rw (settle_seen shard c n e (w e (inl refl)), settled_seen es (λ x m. w x (inr m))) refl

  searched_seen : (es : List (Address × Facts)) → ((e : Address × Facts) → Member e es → IsWithin shard c n e) → map seen_block (each_block (find_zero c.epoch) (map (settle shard c n) es)) ≡ map (λ b. searched c.epoch (recounted_in n C b)) (map seen_block es)
  searched_seen [] w = refl
  searched_seen (e ∷ es) w =
      let one : seen_block (e.0, find_zero c.epoch (settle shard c n e).1) ≡ searched c.epoch (recounted_in n C (seen_block e)) = found_seen c.epoch (settle shard c n e) ∙ ap (searched c.epoch) (settle_seen shard c n e (w e (inl refl))) in
      rw (one, searched_seen es (λ x m. w x (inr m))) refl

  pub search_like : ((e : Address × Facts) → Member e c.blocks → IsWithin shard c n e) → IsLike (seen shard (search n (settled n c))) (searched_in n C)
  search_like w = record {
    blocks = same_as (seen shard (search n (settled n c))).blocks (searched_in n C).blocks (searched_seen c.blocks w);
    roots = same_as (seen shard (search n (settled n c))).roots (searched_in n C).roots (sym (filter-map (seen_root shard) (λ r. not (is_released c.round c.epoch r)) c.roots));
    epoch = refl;
    swept = refl;
    round = λ l. refl;
    got = λ sender epoch round body e. seen_kept shard c c.epoch (c.round + 1) sender epoch round body e;
  }

  -- nothing is told of it
  pub record IsUntold (e : Address × Facts) : Type 0 where
    pub within : IsWithin shard c n e
    pub raised : raised_open shard c n e.0 ≡ 0
    pub lowered : lowered_open shard c n e.0 ≡ 0

  settle_same : (e : Address × Facts) → IsUntold e → settle shard c n e ≡ e
  settle_same e u =
      let up = u.raised in
      let down = u.lowered in
      let same : (settle shard c n e).1.count ≡ e.1.count = count_seen shard c n e u.within ∙ omega (arith, up, down) in
      λ i. (e.0, record e.1 { count = same i })

  settled_same : (es : List (Address × Facts)) → ((e : Address × Facts) → Member e es → IsUntold e) → map (settle shard c n) es ≡ es
  settled_same [] u = refl
  settled_same (e ∷ es) u = rw (settle_same e (u e (inl refl)), settled_same es (λ x m. u x (inr m))) refl

  pub sweep_like : ((e : Address × Facts) → Member e c.blocks → IsUntold e) → IsLike (seen shard (sweep (settled n c))) (swept_in C)
  sweep_like u = record {
    blocks = same_as (seen shard (sweep (settled n c))).blocks (swept_in C).blocks (ap (λ es. map seen_block (each_block spare (filter (λ e. not (is_gone c.epoch e.1)) es))) (settled_same c.blocks u) ∙ spared_seen c.epoch c.blocks);
    roots = same_as C.roots C.roots refl;
    epoch = refl;
    swept = refl;
    round = λ l. absurd (omega (arith, l));
    got = λ sender epoch round body e. seen_kept shard c c.epoch (c.round + 1) sender epoch round body e;
  }
