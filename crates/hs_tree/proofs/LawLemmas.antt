-- A file that is stored stays so, and stands at its root.
use Rattle.std.proofs.Common.{ℕ, List, [], ◌∷◌, zero, suc, sym, subst, map, length}
use Rattle.std.specs.List.{AllByRecursion, AllZip, flat_map}
use Rattle.hs_asking.proofs.HandLemmas.{all_left, all_right}
use Rattle.hs_asking.proofs.RootLemmas.{root_stays}
use Rattle.hs_asking.specs.Seats.{IsSane}
use Rattle.hs_asking.specs.Staying.{NeverDrops, Stays}
use Rattle.hs_laws.specs.Written.{IsBlockAt}
use Rattle.hs_limits.specs.Block.{Block, spell}
use Rattle.hs_limits.specs.declared.address.Address.{Address}
use Rattle.hs_limits.specs.declared.limits.Limits.{Limits}
use Rattle.hs_model.specs.Run.{Event, IsLegal, run}
use Rattle.hs_model.specs.Store.{Store}
use Rattle.hs_tree.proofs.PlantLemmas.{planted_present, planted_stays}
use Rattle.hs_tree.specs.Growing.{IsPlanted}
use Rattle.hs_tree.specs.Trees.{ArePresent, IsStored, IsTreeAt, IsTreeBelow, height, node, runs, span, stored_cut, top, tree, tree_of}

-- where all blocks of a tree are present it is planted
present_planted : (name : List ℕ → Address) (s : Store) (h : ℕ) (bytes : List ℕ) → ArePresent name s (tree stored_cut name h bytes) → IsPlanted name s h bytes
unfolding IsPlanted tree
present_planted name s zero bytes p = p.0
present_planted name s (suc h) bytes p =
    let P : Block → Type 0 = λ block. IsBlockAt s (name (spell block)) block in
    let below : AllByRecursion P (flat_map (tree stored_cut name h) (runs (span stored_cut h) bytes)) = all_left P (flat_map (tree stored_cut name h) (runs (span stored_cut h) bytes)) (node stored_cut name (suc h) bytes ∷ []) p in
    let here = all_right P (flat_map (tree stored_cut name h) (runs (span stored_cut h) bytes)) (node stored_cut name (suc h) bytes ∷ []) p in
    (each h (λ c q. present_planted name s h c q) (runs (span stored_cut h) bytes) below, here.0)
  where
    each : (h : ℕ) → ((c : List ℕ) → ArePresent name s (tree stored_cut name h c) → IsPlanted name s h c) → (cs : List (List ℕ)) → ArePresent name s (flat_map (tree stored_cut name h) cs) → AllByRecursion (IsPlanted name s h) cs
    each h f [] q = tt
    each h f (c ∷ cs) q =
        let P : Block → Type 0 = λ block. IsBlockAt s (name (spell block)) block in
        (f c (all_left P (tree stored_cut name h c) (flat_map (tree stored_cut name h) cs) q), each h f cs (all_right P (tree stored_cut name h c) (flat_map (tree stored_cut name h) cs) q))

pub stored_stays : (name : List ℕ → Address) (limits : Limits) (s : Store) (es : List Event) (key file : List ℕ) → IsSane s → IsLegal limits s es → AllByRecursion (NeverDrops key) es → IsStored name s key file → IsStored name (run limits s es) key file
unfolding top tree_of
stored_stays name limits s es key file sane legal never h =
    let t : Store = run limits s es in
    let r = root_stays limits s es key h.root sane legal never h.kept in
    let level : ℕ = height stored_cut (length file) in
    let stays : Stays s t (name (spell (node stored_cut name level file))) = subst (λ a. Stays s t a) h.tops r.1 in
    record {
      root = h.root;
      kept = r.0;
      tops = h.tops;
      tree = planted_present name t level file (planted_stays name s t level file (present_planted name s level file h.tree) stays);
    }

-- a planted tree stands at its name
planted_below : (name : List ℕ → Address) (s : Store) (h : ℕ) (bytes : List ℕ) → IsPlanted name s h bytes → IsTreeBelow s h (name (spell (node stored_cut name h bytes))) bytes
unfolding IsPlanted IsTreeBelow node
planted_below name s zero bytes p = p
planted_below name s (suc h) bytes p =
    (map (λ run. name (spell (node stored_cut name h run))) (runs (span stored_cut h) bytes), p.1, each h (λ c q. planted_below name s h c q) (runs (span stored_cut h) bytes) p.0)
  where
    each : (h : ℕ) → ((c : List ℕ) → IsPlanted name s h c → IsTreeBelow s h (name (spell (node stored_cut name h c))) c) → (cs : List (List ℕ)) → AllByRecursion (IsPlanted name s h) cs → AllZip (IsTreeBelow s h) (map (λ run. name (spell (node stored_cut name h run))) cs) cs
    each h f [] q = tt
    each h f (c ∷ cs) q = (f c q.0, each h f cs q.1)

pub stored_at : (name : List ℕ → Address) (s : Store) (key file : List ℕ) (h : IsStored name s key file) → IsTreeAt s h.root.address file
unfolding top tree_of
stored_at name s key file h = subst (λ a. IsTreeAt s a file) (sym h.tops) (planted_below name s (height stored_cut (length file)) file (present_planted name s (height stored_cut (length file)) file h.tree))
