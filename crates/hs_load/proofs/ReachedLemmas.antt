-- Blocks whose addresses are all among what is reached.
use Rattle.std.proofs.Common.{◌≡◌, ◌∙◌, refl, sym, ap, subst, inl, inr, ◌&&◌, Bool, true, List, [], ◌∷◌, map, IsTrue}
use Rattle.std.proofs.lemmas.Bool.{and_parts}
use Rattle.std.specs.List.{list_all}
use Rattle.std.specs.Map.{keys_of}
use Rattle.hs_limits.specs.declared.address.Address.{Address}
use Rattle.hs_model.proofs.Members.{Member}
use Rattle.hs_model.proofs.PeelLemmas.{member_of_some, some_of_key}
use Rattle.hs_model.specs.declared.plain.PlainBlock.{PlainBlock}
use Rattle.hs_model.specs.Listed.{IsListOf, IsPresent}
use Rattle.hs_model.specs.Plain.{entry_of}
use Rattle.hs_model.specs.Reach.{IsReached, is_among}
use Rattle.hs_model.specs.Store.{Store}

-- what is so of the address of each block is so of each address that is present
all_keys : (p : Address → Bool) (blocks : List PlainBlock) → list_all (λ block. p block.address) blocks ≡ true → (a : Address) → Member a (keys_of (map entry_of blocks)) → p a ≡ true
all_keys p [] all a m = elim m [ ]
all_keys p (b ∷ bs) all a (inl e) = ap p e ∙ (and_parts (p b.address) (list_all (λ (block : PlainBlock). p block.address) bs) all).0
all_keys p (b ∷ bs) all a (inr m) = all_keys p bs (and_parts (p b.address) (list_all (λ (block : PlainBlock). p block.address) bs) all).1 a m

-- and where it is so of each address that is present, it is of that of each block
all_blocks : (p : Address → Bool) (blocks : List PlainBlock) → ((a : Address) → Member a (keys_of (map entry_of blocks)) → p a ≡ true) → list_all (λ block. p block.address) blocks ≡ true
all_blocks p [] all = refl
all_blocks p (b ∷ bs) all = λ i. all b.address (inl refl) i && all_blocks p bs (λ a m. all a (inr m)) i

pub reached_all : (s : Store) (blocks : List PlainBlock) (keys reached from : List Address) → s.blocks ≡ map entry_of blocks → IsListOf reached (IsReached s from) → ((a : Address) → is_among keys a ≡ is_among reached a)
    → ((a : Address) → IsPresent s a → IsReached s from a) → list_all (λ block. is_among keys block.address) blocks ≡ true
reached_all s blocks keys reached from is list same each =
    all_blocks (λ (x : Address). is_among keys x) blocks
    (λ a m. same a ∙ (list a).1 (each a (some_of_key s.blocks a (subst (λ es. Member a (keys_of es)) (sym is) m))))

pub each_reached : (s : Store) (blocks : List PlainBlock) (keys reached from : List Address) → s.blocks ≡ map entry_of blocks → IsListOf reached (IsReached s from) → ((a : Address) → is_among keys a ≡ is_among reached a)
    → list_all (λ block. is_among keys block.address) blocks ≡ true → (a : Address) → IsPresent s a → IsReached s from a
each_reached s blocks keys reached from is list same all a there =
    (list a).0 (sym (same a) ∙ all_keys (λ (x : Address). is_among keys x) blocks all a (subst (λ es. Member a (keys_of es)) is (member_of_some s.blocks a there)))
