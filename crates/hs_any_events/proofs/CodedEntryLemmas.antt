-- Entries but for the data of their blocks: whatever a core reads of an entry does not depend on these.
use Rattle.std.proofs.Common.{◌≡◌, ◌∙◌, sym, ap, ◌⊎◌, inl, inr, ℕ, Bool, true, false, List, [], Option, Some, None, Result, Ok, Err, refl}
use Rattle.hs_entry.specs.declared.entry.Entry.{Entry}
use Rattle.hs_entry.specs.declared.entry.Entry.TheVariants as kind
use Rattle.hs_limits.specs.Block.{Block}
use Rattle.hs_limits.specs.declared.address.Address.{Address}
use Rattle.hs_limits.specs.declared.spelling.SpellingFault.{SpellingFault}
use Rattle.hs_limits.specs.Reading.{read_block}
use Rattle.hs_replica.specs.Group.{view_after}
use Rattle.hs_replica.specs.Kinds.{enters, is_block, is_got, is_root}
use Rattle.hs_shard.specs.Apply.{apply, named_as}
use Rattle.hs_shard.specs.Clients.{Applied, store_block}
use Rattle.hs_shard.specs.Facts.{Catalogue}

-- the pointers of the block that was read, where one was
abbrev pub pointers_read : Result Block SpellingFault → Option (List Address)
pointers_read (Ok block) = Some block.pointers
pointers_read (Err fault) = None

-- an entry with no bytes of a block, and the pointers of the block that its bytes spell
pub record Outline : Type 0 where
  pub entry : Entry
  pub pointers : Option (List Address)

abbrev pub outline : Entry → Outline
outline (kind.Block line least bytes) = record { entry = kind.Block line least []; pointers = pointers_read (read_block bytes) }
outline other = record { entry = other; pointers = None }

-- ---- what is read of an entry is read of its outline

pub block_outlined : (e : Entry) → is_block e ≡ is_block (outline e).entry
block_outlined (kind.Block line least bytes) = refl
block_outlined other = refl

pub root_outlined : (e : Entry) → is_root e ≡ is_root (outline e).entry
root_outlined (kind.Block line least bytes) = refl
root_outlined other = refl

pub enter_outlined : (epoch : ℕ) (e : Entry) → enters epoch e ≡ enters epoch (outline e).entry
enter_outlined epoch (kind.Block line least bytes) = refl
enter_outlined epoch other = refl

pub got_outlined : (from epoch round : ℕ) (e : Entry) → is_got from epoch round e ≡ is_got from epoch round (outline e).entry
got_outlined from epoch round (kind.Block line least bytes) = refl
got_outlined from epoch round other = refl

pub view_outlined : (before : ℕ) (e : Entry) → view_after before e ≡ view_after before (outline e).entry
view_outlined before (kind.Block line least bytes) = refl
view_outlined before other = refl

-- ---- two entries of one outline are the same, or two Blocks of one line whose blocks have the same pointers

pub record AreBlocks (e f : Entry) : Type 0 where
  pub line : ℕ
  pub least : ℕ
  pub bytes : List ℕ
  pub other : List ℕ
  pub first : e ≡ kind.Block line least bytes
  pub second : f ≡ kind.Block line least other
  pub alike : pointers_read (read_block other) ≡ pointers_read (read_block bytes)

-- an entry that is no Block is all of its outline
itself : (e : Entry) → is_block e ≡ false → (outline e).entry ≡ e
itself (kind.Block line least bytes) none = absurd (cc none)
itself other none = refl

same_kind : (line least l m : ℕ) (other : List ℕ) → kind.Block l m [] ≡ kind.Block line least [] → kind.Block l m other ≡ kind.Block line least other
same_kind line least l m other e = let line_is : l ≡ line = cc e in let least_is : m ≡ least = cc e in cc

blocks : (e f : Entry) → outline f ≡ outline e → is_block e ≡ true → is_block f ≡ true → AreBlocks e f
blocks (kind.Block line least bytes) (kind.Block l m other) same i j = record {
  line = line;
  least = least;
  bytes = bytes;
  other = other;
  first = refl;
  second = same_kind line least l m other (ap (λ (o : Outline). o.entry) same);
  alike = ap (λ (o : Outline). o.pointers) same;
}
blocks (kind.Block line least bytes) f same i j = absurd (cc j)
blocks e f same i j = absurd (cc i)

pub same_or_blocks : (e f : Entry) → outline f ≡ outline e → (f ≡ e) ⊎ AreBlocks e f
same_or_blocks e f same = by (is_block e) refl
  where
    kinds : is_block f ≡ is_block e
    kinds = block_outlined f ∙ ap (λ (o : Outline). is_block o.entry) same ∙ sym (block_outlined e)

    by : (b : Bool) → is_block e ≡ b → (f ≡ e) ⊎ AreBlocks e f
    by true i = inr (blocks e f same i (kinds ∙ i))
    by false i = inl (sym (itself f (kinds ∙ i)) ∙ ap (λ (o : Outline). o.entry) same ∙ itself e i)

-- so what is no Block has no other entry of its outline
pub same_entry : (e f : Entry) → outline f ≡ outline e → is_block e ≡ false → f ≡ e
same_entry e f same none = by (same_or_blocks e f same)
  where
    by : (f ≡ e) ⊎ AreBlocks e f → f ≡ e
    by (inl is) = is
    by (inr b) = absurd (cc (sym none ∙ ap (λ (x : Entry). is_block x) b.first))

-- ---- an entry that takes effect

with_pointers : (number least : ℕ) (a : Address) (c : Catalogue) → List Address → Applied
with_pointers number least a c pointers = store_block number least a (Ok (record { pointers = pointers; bytes = [] })) c

stored_alike : (number least : ℕ) (a : Address) (c : Catalogue) (x y : Result Block SpellingFault) → pointers_read y ≡ pointers_read x → store_block number least a y c ≡ store_block number least a x c
unfolding with_pointers
stored_alike number least a c (Ok x) (Ok y) e = let pointers : y.pointers ≡ x.pointers = cc e in ap (λ (ps : List Address). with_pointers number least a c ps) pointers
stored_alike number least a c (Ok x) (Err f) e = absurd (cc e)
stored_alike number least a c (Err f) (Ok y) e = absurd (cc e)
stored_alike number least a c (Err f) (Err g) e = refl

pub applied_alike : (number : ℕ) (e f : Entry) (a : Option Address) (c : Catalogue) → outline f ≡ outline e → apply number f a c ≡ apply number e a c
applied_alike number e f a c same = by (same_or_blocks e f same)
  where
    by : (f ≡ e) ⊎ AreBlocks e f → apply number f a c ≡ apply number e a c
    by (inl is) = ap (λ (x : Entry). apply number x a c) is
    by (inr b) =
        ap (λ (x : Entry). apply number x a c) b.second
        ∙ stored_alike number b.least (named_as a) c (read_block b.bytes) (read_block b.other) b.alike
        ∙ sym (ap (λ (x : Entry). apply number x a c) b.first)
