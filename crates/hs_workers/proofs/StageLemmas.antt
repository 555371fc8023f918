-- Where a writer stands behind a block.
use Rattle.std.proofs.Common.{◌≡◌, ◌<◌, ℕ, Bool, cond, true, List, [], ◌∷◌, ◌++◌, length, sym, ap, arith, ◌∙◌}
use Rattle.std.specs.Prelude.{get_or, nat_lt, slice_index}
use Rattle.hs_limits.specs.Block.{spell}
use Rattle.hs_limits.specs.declared.address.Address.{Address}
use Rattle.hs_script.specs.Loads.{Leaf, Writer, behind_block, leaf_block, rooting, writing}
use Rattle.hs_script.specs.declared.plan.FilePlan.{FilePlan}

-- behind a leaf
pub behind_leaf : (w : Writer) (plan : FilePlan) (name : List ℕ → Address) (file handle leaf n : ℕ) (items : List ℕ) (leaves new : List Leaf) (address : Address)
    → w.name ≡ name → w.plan file ≡ plan → n ≡ length leaves → items ≡ plan.leaves → n < length items → leaf ≡ get_or items n 0
    → address ≡ name (spell (leaf_block leaf)) → new ≡ leaves ++ (handle, address) ∷ []
    → writing file new ≡ behind_block w file leaves handle
behind_leaf w plan name file handle leaf n items leaves new address named planned count listed below is addressed pushed =
    let same : (w.plan file).leaves ≡ items = ap (λ (p : FilePlan). p.leaves) planned ∙ sym listed in
    let inside : nat_lt (length leaves) (length (w.plan file).leaves) ≡ true = rw (same, ← count) (grind arith) in
    let here : slice_index (w.plan file).leaves (length leaves) ≡ leaf = rw (same, ← count) (sym is) in
    let one : new ≡ leaves ++ (handle, w.name (spell (leaf_block leaf))) ∷ [] = pushed ∙ ap (λ (a : Address). leaves ++ (handle, a) ∷ []) (addressed ∙ sym (ap (λ (f : List ℕ → Address). f (spell (leaf_block leaf))) named)) in
    ap (λ (ls : List Leaf). writing file ls) one
    ∙ sym (ap (λ (b : Bool). cond b (writing file (leaves ++ (handle, w.name (spell (leaf_block (slice_index (w.plan file).leaves (length leaves))))) ∷ [])) (rooting file handle)) inside
    ∙ ap (λ (k : ℕ). writing file (leaves ++ (handle, w.name (spell (leaf_block k))) ∷ [])) here)
