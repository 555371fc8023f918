-- A tree grows by pieces and by blocks above runs, and its blocks are written children first.
use Rattle.std.proofs.Common.{◌≡◌, ℕ, ◌+◌, ◌≤◌, List, [], ◌∷◌, ◌++◌, suc, refl, sym, ap, ◌∙◌, subst, map, length, arith, append-nil, append_assoc}
use Rattle.std.proofs.lemmas.Grind.{flat_map-append}
use Rattle.std.specs.Int.{to_be_bytes, w64}
use Rattle.std.specs.List.{AllByRecursion, concat, flat_map}
use Rattle.hs_asking.specs.Shown.{Shown}
use Rattle.hs_laws.specs.Written.{IsBlockAt}
use Rattle.hs_limits.specs.Block.{spell}
use Rattle.hs_limits.specs.declared.address.Address.{Address}
use Rattle.hs_limits.specs.declared.spelling.TheConstants.{MOST_BYTES, MOST_POINTERS}
use Rattle.hs_model.specs.Store.{Store}
use Rattle.hs_tree.proofs.StepLemmas.{grows_above, joins}
use Rattle.hs_tree.specs.Growing.{ArePlanted, IsGrowing, IsGrown, IsPlanted, Place, block_of, name_of, piece_at, places_at, run_at, tree_below, write_above}
use Rattle.hs_tree.specs.Telling.{IsWrittenAs}
use Rattle.hs_tree.specs.Trees.{node, runs, span, stored_cut, tree}
use Rattle.hs_tree.specs.declared.grow.Node.{Node}

flat_last : (name : List ℕ → Address) (places : List Place) (p : Place) → flat_map (tree_below name) (places ++ p ∷ []) ≡ flat_map (tree_below name) places ++ tree_below name p
flat_last name places p = flat_map-append (tree_below name) places (p ∷ []) ∙ ap (λ z. flat_map (tree_below name) places ++ z) (append-nil (tree_below name p))

pub leaf_is : (name : List ℕ → Address) (piece : List ℕ) → record { pointers = map (λ (n : Node). n.address) []; bytes = piece } ≡ node stored_cut name 0 piece
unfolding node
leaf_is name piece = refl

pub leaf_tree : (name : List ℕ → Address) (piece : List ℕ) → tree stored_cut name 0 piece ≡ node stored_cut name 0 piece ∷ []
unfolding tree
leaf_tree name piece = refl

pub leaf_planted : (name : List ℕ → Address) (piece : List ℕ) (s : Store) → ArePlanted name s [] → IsBlockAt s (name (spell (node stored_cut name 0 piece))) (node stored_cut name 0 piece) → IsPlanted name s 0 piece
unfolding IsPlanted
leaf_planted name piece s none h = h

-- the tree with one more piece
pub leaf_blocks : (name : List ℕ → Address) (places : List Place) (piece : List ℕ) → flat_map (tree_below name) places ++ block_of name (piece_at piece) ∷ [] ≡ flat_map (tree_below name) (places ++ piece_at piece ∷ [])
leaf_blocks name places piece = ap (λ z. flat_map (tree_below name) places ++ z) (sym (leaf_tree name piece)) ∙ sym (flat_last name places (piece_at piece))

pub grows_piece : {tells : Type 0} → (name : List ℕ → Address) (session : List ℕ) (start old new : Shown tells) (nodes : List Node) (places : List Place) (piece : List ℕ) (handle : ℕ) (a : Address)
    → length nodes ≡ length places → length piece ≤ MOST_BYTES → length nodes + 1 ≤ 81
    → IsGrown name session start old nodes places → IsWrittenAs old new (write_above name session [] piece) handle
    → a ≡ name (spell (record { pointers = map (λ (n : Node). n.address) []; bytes = piece }))
    → IsGrown name session start new (nodes ++ record { handle = handle; address = a } ∷ []) (places ++ piece_at piece ∷ [])
grows_piece name session start old new nodes places piece handle a same short room h w named =
    let p : Place = piece_at piece in
    let none : nodes ++ [] ≡ nodes = append-nil nodes in
    let none_places : places ++ [] ≡ places = append-nil places in
    let before : IsGrowing name session start old (nodes ++ []) [] [] (flat_map (tree_below name) places) (places ++ []) =
    subst (λ z. IsGrowing name session start old z [] [] (flat_map (tree_below name) places) (places ++ [])) (sym none) (subst (λ z. IsGrowing name session start old nodes [] [] (flat_map (tree_below name) places) z) (sym none_places) h) in
    let room_there : length (nodes ++ []) + 1 ≤ 81 = subst (λ (z : List Node). length z + 1 ≤ 81) (sym none) room in
    let after : IsGrowing name session start new nodes [] (record { handle = handle; address = name_of name p } ∷ []) (flat_map (tree_below name) places ++ block_of name p ∷ []) (places ++ p ∷ []) =
    grows_above name session start old new nodes [] (flat_map (tree_below name) places) places [] p piece handle same (leaf_is name piece) (λ s none there. leaf_planted name piece s none there) (omega arith) short room_there before w in
    let joined = joins name session start new new nodes (record { handle = handle; address = name_of name p } ∷ []) (flat_map (tree_below name) places ++ block_of name p ∷ []) (places ++ p ∷ []) after in
    let blocks : flat_map (tree_below name) places ++ block_of name p ∷ [] ≡ flat_map (tree_below name) (places ++ p ∷ []) = leaf_blocks name places piece in
    let addr : name_of name p ≡ a = sym (named ∙ ap (λ z. name (spell z)) (leaf_is name piece)) in
    subst (λ z. IsGrowing name session start new (nodes ++ record { handle = handle; address = a } ∷ []) [] [] z (places ++ p ∷ [])) blocks
    (subst (λ z. IsGrowing name session start new (nodes ++ record { handle = handle; address = z } ∷ []) [] [] (flat_map (tree_below name) places ++ block_of name p ∷ []) (places ++ p ∷ [])) addr joined)

-- ---- a block above a run

pub node_is : (name : List ℕ → Address) (h : ℕ) (cs : List (List ℕ)) (addresses : List Address) → runs (span stored_cut h) (concat cs) ≡ cs → addresses ≡ map (name_of name) (places_at h cs)
    → record { pointers = addresses; bytes = to_be_bytes w64 (length (concat cs)) } ≡ node stored_cut name (suc h) (concat cs)
unfolding node
node_is name h cs addresses cut e =
    let all : (xs : List (List ℕ)) → map (name_of name) (places_at h xs) ≡ map (λ run. name (spell (node stored_cut name h run))) xs = map_places name h in
    let pointers : addresses ≡ map (λ run. name (spell (node stored_cut name h run))) (runs (span stored_cut h) (concat cs)) = e ∙ (all cs ∙ ap (λ z. map (λ run. name (spell (node stored_cut name h run))) z) (sym cut)) in
    ap (λ (z : List Address). record { pointers = z; bytes = to_be_bytes w64 (length (concat cs)) }) pointers
  where
    map_places : (name : List ℕ → Address) (h : ℕ) (xs : List (List ℕ)) → map (name_of name) (places_at h xs) ≡ map (λ run. name (spell (node stored_cut name h run))) xs
    map_places name h [] = refl
    map_places name h (x ∷ xs) = ap (λ z. name (spell (node stored_cut name h x)) ∷ z) (map_places name h xs)

pub run_planted : (name : List ℕ → Address) (h : ℕ) (cs : List (List ℕ)) (s : Store) → runs (span stored_cut h) (concat cs) ≡ cs → ArePlanted name s (places_at h cs) → IsBlockAt s (name (spell (node stored_cut name (suc h) (concat cs)))) (node stored_cut name (suc h) (concat cs)) → IsPlanted name s (suc h) (concat cs)
unfolding IsPlanted
run_planted name h cs s cut below there = (subst (λ z. AllByRecursion (IsPlanted name s h) z) (sym cut) (each cs below), there)
  where
    each : (xs : List (List ℕ)) → ArePlanted name s (places_at h xs) → AllByRecursion (IsPlanted name s h) xs
    each [] p = tt
    each (x ∷ xs) p = (p.0, each xs p.1)

run_tree : (name : List ℕ → Address) (h : ℕ) (cs : List (List ℕ)) → runs (span stored_cut h) (concat cs) ≡ cs → flat_map (tree_below name) (places_at h cs) ++ node stored_cut name (suc h) (concat cs) ∷ [] ≡ tree stored_cut name (suc h) (concat cs)
unfolding tree
run_tree name h cs cut = ap (λ z. z ++ node stored_cut name (suc h) (concat cs) ∷ []) (each cs ∙ ap (λ z. flat_map (tree stored_cut name h) z) (sym cut))
  where
    each : (xs : List (List ℕ)) → flat_map (tree_below name) (places_at h xs) ≡ flat_map (tree stored_cut name h) xs
    each [] = refl
    each (x ∷ xs) = ap (λ z. tree stored_cut name h x ++ z) (each xs)

-- the tree with a block above its last run
pub run_blocks : (name : List ℕ → Address) (fp : List Place) (h : ℕ) (cs : List (List ℕ)) → runs (span stored_cut h) (concat cs) ≡ cs → flat_map (tree_below name) (fp ++ places_at h cs) ++ block_of name (run_at h cs) ∷ [] ≡ flat_map (tree_below name) (fp ++ run_at h cs ∷ [])
run_blocks name fp h cs cut =
    let rp : List Place = places_at h cs in
    let p : Place = run_at h cs in
    ap (λ z. z ++ block_of name p ∷ []) (flat_map-append (tree_below name) fp rp) ∙ (append_assoc (flat_map (tree_below name) fp) (flat_map (tree_below name) rp) (block_of name p ∷ []) ∙ (ap (λ z. flat_map (tree_below name) fp ++ z) (run_tree name h cs cut) ∙ sym (flat_last name fp p)))

-- the names of the run's nodes
pub run_names : (name : List ℕ → Address) (front run : List Node) (fp rp : List Place) → length front ≡ length fp → map (λ (n : Node). n.address) (front ++ run) ≡ map (name_of name) (fp ++ rp) → map (λ (n : Node). n.address) run ≡ map (name_of name) rp
run_names name [] run [] rp l e = e
run_names name [] run (q ∷ ps) rp l e = absurd (omega (arith, l))
run_names name (n ∷ ns) run [] rp l e = absurd (omega (arith, l))
run_names name (n ∷ ns) run (q ∷ ps) rp l e = run_names name ns run ps rp (omega (arith, l)) (cc e)

pub grows_run : {tells : Type 0} → (name : List ℕ → Address) (session : List ℕ) (start old new : Shown tells) (front run : List Node) (fp : List Place) (h : ℕ) (cs : List (List ℕ)) (payload : List ℕ) (handle : ℕ) (a : Address)
    → length front ≡ length fp → runs (span stored_cut h) (concat cs) ≡ cs → payload ≡ to_be_bytes w64 (length (concat cs))
    → length run ≤ MOST_POINTERS → length payload ≤ MOST_BYTES → length (front ++ run) + 1 ≤ 81
    → IsGrown name session start old (front ++ run) (fp ++ places_at h cs) → IsWrittenAs old new (write_above name session run payload) handle
    → a ≡ name (spell (record { pointers = map (λ (n : Node). n.address) run; bytes = payload }))
    → IsGrowing name session start new front run (record { handle = handle; address = a } ∷ []) (flat_map (tree_below name) (fp ++ run_at h cs ∷ [])) (fp ++ run_at h cs ∷ [])
grows_run name session start old new front run fp h cs payload handle a same cut bytes few short room g w named =
    let p : Place = run_at h cs in
    let rp : List Place = places_at h cs in
    let names_all : map (λ (n : Node). n.address) (front ++ run) ≡ map (name_of name) (fp ++ rp) = ap (λ z. map (λ (n : Node). n.address) z) (sym (append-nil (front ++ run))) ∙ g.names in
    let pointers : map (λ (n : Node). n.address) run ≡ map (name_of name) rp = run_names name front run fp rp same names_all in
    let is_block : record { pointers = map (λ (n : Node). n.address) run; bytes = payload } ≡ block_of name p = ap (λ (z : List ℕ). record { pointers = map (λ (n : Node). n.address) run; bytes = z }) bytes ∙ node_is name h cs (map (λ (n : Node). n.address) run) cut pointers in
    let after = grows_above name session start old new front run (flat_map (tree_below name) (fp ++ rp)) fp rp p payload handle same is_block (λ s below there. run_planted name h cs s cut below there) few short room g w in
    let blocks : flat_map (tree_below name) (fp ++ rp) ++ block_of name p ∷ [] ≡ flat_map (tree_below name) (fp ++ p ∷ []) = run_blocks name fp h cs cut in
    let addr : name_of name p ≡ a = sym (named ∙ ap (λ z. name (spell z)) is_block) in
    subst (λ z. IsGrowing name session start new front run (record { handle = handle; address = a } ∷ []) z (fp ++ p ∷ [])) blocks
    (subst (λ z. IsGrowing name session start new front run (record { handle = handle; address = z } ∷ []) (flat_map (tree_below name) (fp ++ rp) ++ block_of name p ∷ []) (fp ++ p ∷ [])) addr after)
