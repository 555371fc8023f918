-- How often an address is named in all catalogues is how often the machine's words say so of what it sees of them.
use Rattle.std.proofs.Common.{◌≡◌, ℕ, ◌+◌, ◌<◌, not, ◌&&◌, List, [], ◌∷◌, ◌++◌, length, map, cond, Bool, refl, sym, ap, ◌∙◌, arith, count_by, sum_by}
use Rattle.hs_limits.specs.declared.address.Address.{Address}
use Rattle.hs_model.specs.Reach.{is_same}
use Rattle.hs_deletion.specs.Counts.{block_weight, root_weight}
use Rattle.hs_deletion.specs.Following.{named_at, named_in}
use Rattle.hs_deletion.specs.Machine.{sum_below}
use Rattle.hs_deletion.specs.Records.{BlockRecord, RootRecord}
use Rattle.hs_deletion.specs.Rounds.{times}
use Rattle.hs_deletion.proofs.RoundLemmas.{times_append, times_pointers_where, times_addresses_where}
use Rattle.hs_deletion.proofs.SumLemmas.{sum_below_same, sum_by_filter, sum_by_same}
use Rattle.hs_fold.specs.Runs.Counts.{counts_block, counts_root, indegree}
use Rattle.hs_fold.specs.Runs.Facts.{Catalogue}
use Rattle.hs_fold.specs.Runs.Fits.{catalogue_at}
use Rattle.hs_fold.specs.Runs.Told.{pointers_of, addresses_of}
use Rattle.hs_joint.specs.Seen.{layout_of, seen_block, seen_root, seen, all_seen}
use Rattle.hs_joint.proofs.TellLemmas.{pointers_seen, addresses_seen}
use Rattle.hs_sound.proofs.PlaceLemmas.{sum_below_zero, sum_below_front}

abbrev named_of : Catalogue → List Address
named_of c = pointers_of counts_block c.blocks ++ addresses_of counts_root c.roots

-- ---- shard by shard

indegree_below : (a : Address) (cs : List Catalogue) → indegree a cs ≡ sum_below (length cs) (λ k. count_by (is_same a) (named_of (catalogue_at cs k)))
indegree_below a [] = sym (sum_below_zero (λ k. count_by (is_same a) (named_of (catalogue_at [] k))))
indegree_below a (c ∷ cs) =
    ap (λ k. count_by (is_same a) (named_of c) + k) (indegree_below a cs)
    ∙ sym (sum_below_front (length cs) (λ k. count_by (is_same a) (named_of (catalogue_at (c ∷ cs) k))))

-- ---- in one

times_is : (a : Address) (xs : List Address) → count_by (is_same a) xs ≡ times a xs
unfolding times
times_is a xs = refl

abbrev counts_there : BlockRecord → Bool
counts_there b = b.counted && not b.zero

abbrev root_counts_there : RootRecord → Bool
root_counts_there r = r.counted

block_weighs : (a : Address) (b : BlockRecord) → cond (counts_there b) (times a b.pointers) 0 ≡ block_weight a b
unfolding block_weight
block_weighs a b = refl

root_weighs : (a : Address) (r : RootRecord) → cond (root_counts_there r) (times a r.addresses) 0 ≡ root_weight a r
unfolding root_weight
root_weighs a r = refl

named_here : (a : Address) (shard : ℕ) (c : Catalogue) → count_by (is_same a) (named_of c) ≡ named_at a (seen shard c)
named_here a shard c =
    times_is a (named_of c)
    ∙ times_append a (pointers_of counts_block c.blocks) (addresses_of counts_root c.roots)
    ∙ (let one = blocks in let two = roots in omega (arith, one, two))
  where
    bs : List BlockRecord
    bs = map seen_block c.blocks

    rs : List RootRecord
    rs = map (seen_root shard) c.roots

    blocks : times a (pointers_of counts_block c.blocks) ≡ sum_by (block_weight a) (map seen_block c.blocks)
    blocks =
        ap (times a) (pointers_seen counts_block counts_there (λ e. refl) c.blocks)
        ∙ times_pointers_where a counts_there bs
        ∙ sum_by_filter (λ (b : BlockRecord). times a b.pointers) counts_there bs
        ∙ sum_by_same (λ (b : BlockRecord). cond (counts_there b) (times a b.pointers) 0) (block_weight a) bs (λ b m. block_weighs a b)

    roots : times a (addresses_of counts_root c.roots) ≡ sum_by (root_weight a) (map (seen_root shard) c.roots)
    roots =
        ap (times a) (addresses_seen shard counts_root root_counts_there (λ r. refl) c.roots)
        ∙ times_addresses_where a root_counts_there rs
        ∙ sum_by_filter (λ (r : RootRecord). times a r.addresses) root_counts_there rs
        ∙ sum_by_same (λ (r : RootRecord). cond (root_counts_there r) (times a r.addresses) 0) (root_weight a) rs (λ r m. root_weighs a r)

pub indegree_is : (n : ℕ) (some : 0 < n) (cs : List Catalogue) → length cs ≡ n → (a : Address) → indegree a cs ≡ named_in (layout_of n some) (all_seen cs) a
indegree_is n some cs each a =
    indegree_below a cs
    ∙ ap (λ k. sum_below k (λ j. count_by (is_same a) (named_of (catalogue_at cs j)))) each
    ∙ sum_below_same n (λ j. count_by (is_same a) (named_of (catalogue_at cs j))) (λ j. named_at a (all_seen cs j)) (λ j l. named_here a j (catalogue_at cs j))
