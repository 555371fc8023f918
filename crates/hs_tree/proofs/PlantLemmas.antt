-- Trees that are present stay so, and have all their blocks.
use Rattle.std.proofs.Common.{◌≡◌, ℕ, inl, inr, List, [], ◌∷◌, zero, suc, Some, refl, sym, ◌∙◌, subst, Contains}
use Rattle.std.specs.List.{AllByRecursion, flat_map}
use Rattle.hs_asking.proofs.HandLemmas.{all_append}
use Rattle.hs_asking.specs.Staying.{Stays}
use Rattle.hs_laws.specs.Written.{IsBlockAt}
use Rattle.hs_limits.specs.Block.{Block, spell}
use Rattle.hs_limits.specs.declared.address.Address.{Address}
use Rattle.hs_model.proofs.Members.{Member, contains_from_member, member-map}
use Rattle.hs_model.specs.Reach.{pointers_of}
use Rattle.hs_model.specs.Store.{Store, block_at}
use Rattle.hs_model.specs.declared.store.StoredBlock.{StoredBlock}
use Rattle.hs_tree.specs.Growing.{IsPlanted}
use Rattle.hs_tree.specs.Trees.{ArePresent, node, runs, span, stored_cut, tree}

-- ---- what stays of an address stays of its pointers

pub stays_next : (s t : Store) (a next : Address) (stored : StoredBlock) → Stays s t a → block_at s a ≡ Some stored → Member next stored.pointers → Stays s t next
stays_next s t a next stored h p m =
    let c : Contains (pointers_of (block_at s a)) next = subst (λ z. Contains (pointers_of z) next) (sym p) (contains_from_member next stored.pointers m) in
    record { leads = λ path b l. (h.leads (next ∷ path) b (c, l)).1; blocks = λ path b l. h.blocks (next ∷ path) b (c, l) }

pub block_stays : (s t : Store) (a : Address) (block : Block) → Stays s t a → IsBlockAt s a block → IsBlockAt t a block
block_stays s t a block h b = record { stored = b.stored; present = h.blocks [] a refl ∙ b.present; bytes = b.bytes; pointers = b.pointers }

-- ---- planted trees

module _ (name : List ℕ → Address) (s t : Store) where
  abbrev addr : ℕ → List ℕ → Address
  addr h bytes = name (spell (node stored_cut name h bytes))

  each_planted : (h : ℕ) → ((bytes : List ℕ) → IsPlanted name s h bytes → Stays s t (addr h bytes) → IsPlanted name t h bytes)
      → (cs : List (List ℕ)) → ((c : List ℕ) → Member c cs → Stays s t (addr h c)) → AllByRecursion (IsPlanted name s h) cs → AllByRecursion (IsPlanted name t h) cs
  each_planted h f [] stays p = tt
  each_planted h f (c ∷ cs) stays p = (f c p.0 (stays c (inl refl)), each_planted h f cs (λ d m. stays d (inr m)) p.1)

  pub planted_stays : (h : ℕ) (bytes : List ℕ) → IsPlanted name s h bytes → Stays s t (addr h bytes) → IsPlanted name t h bytes
  unfolding IsPlanted node
  planted_stays zero bytes p stays = block_stays s t (addr zero bytes) (node stored_cut name zero bytes) stays p
  planted_stays (suc h) bytes p stays =
      let cs : List (List ℕ) = runs (span stored_cut h) bytes in
      let b = p.1 in
      let below : (c : List ℕ) → Member c cs → Stays s t (addr h c) = λ c m. stays_next s t (addr (suc h) bytes) (addr h c) b.stored stays b.present (subst (λ z. Member (addr h c) z) (sym b.pointers) (member-map (λ run. addr h run) c cs m)) in
      (each_planted h (λ c q st. planted_stays h c q st) cs below p.0, block_stays s t (addr (suc h) bytes) (node stored_cut name (suc h) bytes) stays p.1)

all_flat : {A B : Type 0} (P : B → Type 0) (f : A → List B) (Q : A → Type 0) → ((x : A) → Q x → AllByRecursion P (f x)) → (xs : List A) → AllByRecursion Q xs → AllByRecursion P (flat_map f xs)
all_flat P f Q g [] h = tt
all_flat P f Q g (x ∷ xs) h = all_append P (f x) (flat_map f xs) (g x h.0) (all_flat P f Q g xs h.1)

-- all blocks of a planted tree are present
pub planted_present : (name : List ℕ → Address) (s : Store) (h : ℕ) (bytes : List ℕ) → IsPlanted name s h bytes → ArePresent name s (tree stored_cut name h bytes)
unfolding IsPlanted tree
planted_present name s zero bytes p = (p, tt)
planted_present name s (suc h) bytes p =
    all_append (λ (block : Block). IsBlockAt s (name (spell block)) block) (flat_map (tree stored_cut name h) (runs (span stored_cut h) bytes)) (node stored_cut name (suc h) bytes ∷ [])
    (all_flat (λ (block : Block). IsBlockAt s (name (spell block)) block) (tree stored_cut name h) (IsPlanted name s h) (λ c q. planted_present name s h c q) (runs (span stored_cut h) bytes) p.0) (p.1, tt)
