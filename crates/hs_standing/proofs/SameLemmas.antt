-- What an entry of a client did, and that one by which nothing was done leaves its shard's fold.
use Rattle.std.proofs.Common.{◌≡◌, ◌∙◌, sym, ap, subst, ◌⊎◌, inl, inr, ℕ, ◌+◌, ◌==◌, ◌&&◌, ◌||◌, Bool, true, false, cond, not, nat_le, nat_lt, List, length, map, Option, Some, None, IsSome, is_none, is_some, Result, Ok, Err, refl, arith}
use Rattle.std.proofs.lemmas.List.{length-map}
use Rattle.std.proofs.lemmas.Map.Made.{lookup-map_values}
use Rattle.std.specs.BTreeMap.{insert_entry, is_at}
use Rattle.std.specs.Map.{lookup}
use Rattle.std.specs.Option.{option_map, option_map_or}
use Rattle.hs_desk.specs.declared.what.What.{What}
use Rattle.hs_desk.specs.declared.what.What.TheVariants as what
use Rattle.hs_fold.proofs.Runs.InsertLemmas.{length-insert_root}
use Rattle.hs_fold.specs.Catalogue.{fresh_present}
use Rattle.hs_fold.specs.Runs.Clients as fold
use Rattle.hs_fold.specs.Runs.Facts.{Catalogue as Folded, Facts as FoldedFacts, plain}
use Rattle.hs_fold.specs.Runs.Facts.{facts_at as fold_facts}
use Rattle.hs_fold.specs.Shards.Catalogue.{is_marked, is_rooted, retained_in}
use Rattle.hs_standing.proofs.LegalStepLemmas.{IsQuiet}
use Rattle.hs_limits.specs.declared.address.Address.{Address}
use Rattle.hs_limits.specs.declared.shape.Shape.{Shape}
use Rattle.hs_limits.specs.declared.spelling.SpellingFault.{SpellingFault}
use Rattle.hs_limits.specs.Block.{Block}
use Rattle.hs_limits.specs.Limits.{greatest_limits}
use Rattle.hs_limits.specs.Shape.{shard_of, shard_of_key}
use Rattle.hs_memory.specs.Forget.{forget, known_of, reading, record_of}
use Rattle.hs_model.specs.Store.{address_cmp}
use Rattle.hs_roots.specs.declared.root.RootRecord.{RootRecord}
use Rattle.hs_roots.specs.Roots.{retained_of}
use Rattle.hs_roots.specs.Roots.{drop_root as without_root, put_root as with_root}
use Rattle.hs_shard.specs.Clients.{change_at, drop_root, give, mark_block, new_facts, only, put_root, root_refusal, store_block, with_block}
use Rattle.hs_shard.specs.declared.facts.Facts.{Facts}
use Rattle.hs_shard.specs.Facts.{Catalogue, facts_at, has_room, is_fresh, is_mine}

-- ---- what was done

-- by whether the block is of the shard, present, its pointers fresh, and there is room
abbrev block_what : Bool → Bool → Bool → Bool → What
block_what false present fresh room = what.Nothing
block_what true true fresh room = what.Nothing
block_what true false false room = what.Refused
block_what true false true false = what.Refused
block_what true false true true = what.Stored

block_did : (number least : ℕ) (a : Address) (block : Block) (c : Catalogue) → (store_block number least a (Ok block) c).effect.what ≡ block_what (is_mine a c) (is_some (facts_at a c)) (is_fresh least c) (has_room c)
block_did number least a block c = go (is_mine a c) (is_some (facts_at a c)) (is_fresh least c) (has_room c)
  where
    go : (m p f r : Bool) → (cond (not m || p) (only what.Nothing c) (cond (not (f && r)) (only what.Refused c) (only what.Stored (with_block a (new_facts number c.epoch block.pointers) c)))).effect.what ≡ block_what m p f r
    go false p f r = refl
    go true true f r = refl
    go true false false r = refl
    go true false true false = refl
    go true false true true = refl

block_or : (m p f r : Bool) → (block_what m p f r ≡ what.Stored) ⊎ IsQuiet (block_what m p f r)
block_or false p f r = inr tt
block_or true true f r = inr tt
block_or true false false r = inr tt
block_or true false true false = inr tt
block_or true false true true = inl refl

-- a Block stores, or nothing was done
pub stored_or : (number least : ℕ) (a : Address) (read : Result Block SpellingFault) (c : Catalogue) → ((store_block number least a read c).effect.what ≡ what.Stored) ⊎ IsQuiet (store_block number least a read c).effect.what
stored_or number least a (Err fault) c = inr tt
stored_or number least a (Ok block) c =
    subst (λ (w : What). (w ≡ what.Stored) ⊎ IsQuiet w) (sym (block_did number least a block c)) (block_or (is_mine a c) (is_some (facts_at a c)) (is_fresh least c) (has_room c))

-- by whether the block is that of the entry, and what the Mark rests on is fresh
abbrev mark_what : Bool → Bool → What
mark_what false fresh = what.Again
mark_what true false = what.Refused
mark_what true true = what.Marked

mark_did : (least number : ℕ) (a : Address) (c : Catalogue) → (mark_block least number a c).effect.what ≡ mark_what (option_map_or (λ (f : Facts). f.number == number) (facts_at a c) false) (is_fresh least c)
mark_did least number a c = go (option_map_or (λ (f : Facts). f.number == number) (facts_at a c) false) (is_fresh least c)
  where
    go : (b f : Bool) → (cond (not b) (only what.Again c) (cond (not f) (only what.Refused c) (only what.Marked (record c { blocks = change_at a (give c.epoch) c.blocks })))).effect.what ≡ mark_what b f
    go false f = refl
    go true false = refl
    go true true = refl

mark_or : (b f : Bool) → (mark_what b f ≡ what.Marked) ⊎ IsQuiet (mark_what b f)
mark_or false f = inr tt
mark_or true false = inr tt
mark_or true true = inl refl

pub marked_or : (least number : ℕ) (a : Address) (c : Catalogue) → ((mark_block least number a c).effect.what ≡ what.Marked) ⊎ IsQuiet (mark_block least number a c).effect.what
marked_or least number a c =
    subst (λ (w : What). (w ≡ what.Marked) ⊎ IsQuiet w) (sym (mark_did least number a c)) (mark_or (option_map_or (λ (f : Facts). f.number == number) (facts_at a c) false) (is_fresh least c))

-- a Root retains its address, or it leaves the catalogue as it was
pub record IsLeft (did : What) (before after : Catalogue) : Type 0 where
  pub quiet : IsQuiet did
  pub same : after ≡ before

pub rooted_or : (held : ℕ) (a : Address) (key : List ℕ) (c : Catalogue)
    → ((put_root held a key c).effect.what ≡ what.Rooted) ⊎ IsLeft (put_root held a key c).effect.what c (put_root held a key c).catalogue
rooted_or held a key c = go (not (shard_of_key c.shape.shards key == c.shard)) (not (is_fresh held c) || is_some (root_refusal a key c))
  where
    go : (m f : Bool) → ((cond m (only what.Nothing c) (cond f (only what.Refused c) (only what.Rooted (record c { roots = with_root key a c.epoch c.roots })))).effect.what ≡ what.Rooted)
        ⊎ IsLeft (cond m (only what.Nothing c) (cond f (only what.Refused c) (only what.Rooted (record c { roots = with_root key a c.epoch c.roots })))).effect.what c
        (cond m (only what.Nothing c) (cond f (only what.Refused c) (only what.Rooted (record c { roots = with_root key a c.epoch c.roots })))).catalogue
    go true f = inr (record { quiet = tt; same = refl })
    go false true = inr (record { quiet = tt; same = refl })
    go false false = inl refl

-- a Drop finds its key retained, or nothing was done
pub dropped_or : (key : List ℕ) (c : Catalogue) → IsSome (retained_of key c.roots) ⊎ ((retained_of key c.roots ≡ None) × IsQuiet (drop_root key c).effect.what)
dropped_or key c = go (retained_of key c.roots)
  where
    go : (root : Option RootRecord) → IsSome root ⊎ ((root ≡ None) × IsQuiet (cond (is_none root) (only what.Refused c) (only what.Dropped (record c { roots = without_root key c.epoch c.roots }))).effect.what)
    go None = inr (refl, tt)
    go (Some root) = inl refl

-- ---- the fold of a shard

module _ (name : List ℕ → Address) (shape : Shape) (shard : ℕ) (c : Folded) where
  known_at : (a : Address) → facts_at a (forget shape shard c) ≡ option_map known_of (fold_facts c a)
  known_at a = lookup-map_values known_of (is_at (address_cmp a)) c.blocks

  plain_at : (a : Address) → lookup (is_at (address_cmp a)) (plain c).blocks ≡ option_map (λ (f : FoldedFacts). f.present) (fold_facts c a)
  plain_at a = lookup-map_values (λ (f : FoldedFacts). f.present) (is_at (address_cmp a)) c.blocks

  some_known : (x : Option FoldedFacts) → is_some (option_map known_of x) ≡ not (is_none (option_map (λ (f : FoldedFacts). f.present) x))
  some_known None = refl
  some_known (Some f) = refl

  as_many : length (forget shape shard c).blocks ≡ length (plain c).blocks
  as_many = length-map c.blocks (λ (e : Address × FoldedFacts). (e.0, known_of e.1)) ∙ sym (length-map c.blocks (λ (e : Address × FoldedFacts). (e.0, e.1.present)))

  -- the fold stores a block where memory does
  pub block_same : (number least : ℕ) (a : Address) (read : Result Block SpellingFault) → IsQuiet (store_block number least a read (forget shape shard c)).effect.what → fold.store_block (reading name shape shard) c number least a read ≡ c
  block_same number least a (Err fault) quiet = refl
  block_same number least a (Ok block) quiet = go (shard_of shape.shards a == shard) (is_none (lookup (is_at (address_cmp a)) (plain c).blocks)) (nat_le c.epoch (least + 1)) (nat_lt (length (plain c).blocks) greatest_limits.blocks) (subst (λ (w : What). IsQuiet w) did quiet)
    where
      did : (store_block number least a (Ok block) (forget shape shard c)).effect.what
          ≡ block_what (shard_of shape.shards a == shard) (not (is_none (lookup (is_at (address_cmp a)) (plain c).blocks))) (nat_le c.epoch (least + 1)) (nat_lt (length (plain c).blocks) greatest_limits.blocks)
      did =
          block_did number least a block (forget shape shard c)
          ∙ ap (λ p. block_what (shard_of shape.shards a == shard) p (nat_le c.epoch (least + 1)) (has_room (forget shape shard c)))
          (ap (λ (x : Option Facts). is_some x) (known_at a) ∙ some_known (fold_facts c a) ∙ ap (λ x. not (is_none x)) (sym (plain_at a)))
          ∙ ap (λ n. block_what (shard_of shape.shards a == shard) (not (is_none (lookup (is_at (address_cmp a)) (plain c).blocks))) (nat_le c.epoch (least + 1)) (nat_lt n greatest_limits.blocks)) as_many

      go : (m p f r : Bool) → IsQuiet (block_what m (not p) f r) → cond (((m && p) && f) && r) (record c { blocks = insert_entry address_cmp c.blocks a (fold.new_facts (fresh_present c.epoch number block)) }) c ≡ c
      go false p f r q = refl
      go true false f r q = refl
      go true true false r q = refl
      go true true true false q = refl
      go true true true true q = absurd q

  -- and gives one where memory does
  pub mark_same : (least number : ℕ) (a : Address) → IsQuiet (mark_block least number a (forget shape shard c)).effect.what → fold.give_block c least number a ≡ c
  mark_same least number a quiet = by_facts (fold_facts c a) (subst (λ (w : What). IsQuiet w) did quiet)
    where
      did : (mark_block least number a (forget shape shard c)).effect.what ≡ mark_what (option_map_or (λ (f : Facts). f.number == number) (option_map known_of (fold_facts c a)) false) (nat_le c.epoch (least + 1))
      did = mark_did least number a (forget shape shard c) ∙ ap (λ (x : Option Facts). mark_what (option_map_or (λ (f : Facts). f.number == number) x false) (nat_le c.epoch (least + 1))) (known_at a)

      go : (x : FoldedFacts) (b f : Bool) → IsQuiet (mark_what b f) → cond (b && f) (record c { blocks = fold.marked c.epoch (Some x) c.blocks a }) c ≡ c
      go x false f q = refl
      go x true false q = refl
      go x true true q = absurd q

      by_facts : (x : Option FoldedFacts) → IsQuiet (mark_what (option_map_or (λ (f : Facts). f.number == number) (option_map known_of x) false) (nat_le c.epoch (least + 1)))
          → cond (is_marked (plain c) least number (option_map (λ (f : FoldedFacts). f.present) x)) (record c { blocks = fold.marked c.epoch x c.blocks a }) c ≡ c
      by_facts None q = refl
      by_facts (Some x) q = go x (x.present.number == number) (nat_le c.epoch (least + 1)) q

  -- where memory has the same roots the fold put none
  pub root_same : (held : ℕ) (a : Address) (key : List ℕ) → forget shape shard (fold.keep_root (reading name shape shard) c held a key) ≡ forget shape shard c → fold.keep_root (reading name shape shard) c held a key ≡ c
  root_same held a key e = go (is_rooted (reading name shape shard) (plain c) held a key && is_none (retained_in (plain c) key)) (ap (λ (k : Catalogue). length k.roots) e)
    where
      go : (b : Bool) → length (map record_of (cond b (record c { roots = fold.insert_root (fold.new_root c.epoch a key) c.roots }) c).roots) ≡ length (map record_of c.roots) → cond b (record c { roots = fold.insert_root (fold.new_root c.epoch a key) c.roots }) c ≡ c
      go false l = refl
      go true l =
          let one = length-map (fold.insert_root (fold.new_root c.epoch a key) c.roots) record_of in
          let two = length-map c.roots record_of in
          let sum = length-insert_root c.roots (fold.new_root c.epoch a key) in
          absurd (omega (arith, l, one, two, sum))
