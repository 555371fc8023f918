-- The view that the core makes for an operation shows the plain store of its catalogues and sessions.
use Rattle.std.proofs.Common.{◌≡◌, ◌⊎◌, inl, inr, ℕ, ◌+◌, ◌-◌, ◌<◌, List, [], length, map, Bool, true, false, cond, not, Option, Some, None, IsSome, is_some, refl, sym, ap, ◌∙◌, arith, nat_le, nat_lt, find, sum_by, unwrap_or}
use Rattle.std.proofs.Math.Nat.{mod-lt}
use Rattle.std.proofs.lemmas.Bool.Decides.{nat_tests}
use Rattle.std.proofs.lemmas.Map.Made.{lookup-map_values}
use Rattle.std.specs.BTreeMap.{is_at}
use Rattle.std.specs.Option.{option_and_then, option_map, option_map_or, option_or}
use Rattle.std.specs.Prelude.{slice_index, slice_index_or}
use Rattle.hs_answered.specs.Standing.{IsAddressed, IsFolded, store_with}
use Rattle.hs_answered.proofs.MemoryLemmas.{IsBeside, beside, blocks_total, epochs_same, length_map, retained_record, retained_root, roots_total, shards_same, swept_same}
use Rattle.hs_awaiting.specs.Kinds.{puts_root}
use Rattle.hs_core_words.specs.Looking.{catalogue_of, shape_of}
use Rattle.hs_core_words.specs.Pending.{has_block_room, has_root_room}
use Rattle.hs_core_words.specs.Seeing.{facts_for, pointers_for, view_for}
use Rattle.hs_core_words.specs.State.{Core}
use Rattle.hs_fold.specs.Runs.Facts.{Catalogue as Folded, Facts as FoldedFacts, RootFacts, facts_at as fold_facts}
use Rattle.hs_limits.specs.declared.address.Address.{Address}
use Rattle.hs_limits.specs.declared.address.Held.{Held}
use Rattle.hs_limits.specs.declared.shape.Shape.{Shape}
use Rattle.hs_limits.specs.Shape.{IsShape, shard_of, shard_of_key}
use Rattle.hs_memory.specs.Forget.{forget, known_of, record_of}
use Rattle.hs_model.specs.declared.op.Op.{Op}
use Rattle.hs_model.specs.declared.op.Op.TheVariants as op
use Rattle.hs_model.specs.declared.store.StoredBlock.{StoredBlock}
use Rattle.hs_model.specs.Hollow.{looks_at}
use Rattle.hs_model.specs.Judge.{nothing, pointers_at}
use Rattle.hs_model.specs.Reach.{pointers_of}
use Rattle.hs_model.specs.Store.{Root, Session, Store, address_cmp, block_at, blocks_in, held_in, is_retained, retained_at, roots_in, session_at, shard_at, text_cmp}
use Rattle.hs_model.specs.Store.{held_at as store_held}
use Rattle.hs_model.specs.Op.{named_key}
use Rattle.hs_ops.specs.Speaking.{judging_shard, wanted_address}
use Rattle.hs_ops.specs.Views.{OpView, as_session, kept_in}
use Rattle.hs_roots.specs.declared.root.RootRecord.{RootRecord}
use Rattle.hs_roots.specs.Roots.{retained_count, retained_of}
use Rattle.hs_shard.specs.declared.facts.Facts.{Facts}
use Rattle.hs_shard.specs.Facts.{Catalogue, empty_catalogue, facts_at}
use Rattle.hs_shown.specs.Showing.{Shows, as_sessions, rooted_key}
use Rattle.hs_tokens.specs.Seats.{Seat, Seats, held_at, seat_of}

-- ---- what an operation looks at

held_same : (seat : Option Seat) (handle : ℕ) → held_in (option_map as_session seat) handle ≡ held_at seat handle
held_same None handle = refl
held_same (Some seat) handle = refl

pub held_is : (s : Store) (seats : Seats) → s.sessions ≡ as_sessions seats → (name : List ℕ) (handle : ℕ) → store_held s name handle ≡ held_at (seat_of name seats) handle
held_is s seats e name handle =
    ap (λ (sessions : List (List ℕ × Session)). held_in (lookup' sessions) handle) e
    ∙ ap (λ (session : Option Session). held_in session handle) (lookup-map_values as_session (is_at (text_cmp name)) seats)
    ∙ held_same (seat_of name seats) handle
  where
    lookup' : List (List ℕ × Session) → Option Session
    lookup' sessions = session_at (record s { sessions = sessions }) name

held_address : (held : Option Held) → IsSome held → option_map (λ (h : Held). h.address) held ≡ Some (unwrap_or held nothing).address
held_address None some = cc some
held_address (Some held) some = refl

-- an operation that is addressed wants the block that it looks at
pub wanted : (s : Store) (seats : Seats) (o : Op) (a : Address) → s.sessions ≡ as_sessions seats → IsAddressed seats o → looks_at s o ≡ Some a → wanted_address seats o ≡ Some a
wanted s seats (op.Open name) a e some looks = cc looks
wanted s seats (op.Close name) a e some looks = cc looks
wanted s seats (op.Write name payload handles None) a e some looks = cc some
wanted s seats (op.Write name payload handles (Some b)) a e some looks = looks
wanted s seats (op.Read name handle) a e some looks =
    held_address (held_at (seat_of name seats) handle) some
    ∙ ap (λ (held : Option Held). Some (unwrap_or held nothing).address) (sym (held_is s seats e name handle)) ∙ looks
wanted s seats (op.Look name key) a e some looks = cc looks
wanted s seats (op.Root name key handle) a e some looks = cc looks
wanted s seats (op.Drop key) a e some looks = cc looks
wanted s seats (op.Forget name handle) a e some looks = cc looks
wanted s seats (op.Name name handle) a e some looks = cc looks
wanted s seats op.Delete a e some looks = cc looks
wanted s seats op.Stat a e some looks = cc looks

-- its shard judges
judges_wanted : (shards : ℕ) (seats : Seats) (o : Op) (a : Address) → wanted_address seats o ≡ Some a → named_key o ≡ None → judging_shard shards seats o ≡ shard_of shards a
judges_wanted shards seats o a want none =
    ap (λ (k : Option (List ℕ)). unwrap_or (option_or (option_map (shard_of_key shards) k) (option_map (shard_of shards) (wanted_address seats o))) 0) none
    ∙ ap (λ (w : Option Address). unwrap_or (option_map (shard_of shards) w) 0) want

judges_named : (shards : ℕ) (seats : Seats) (o : Op) (key : List ℕ) → named_key o ≡ Some key → judging_shard shards seats o ≡ shard_of_key shards key
judges_named shards seats o key e =
    ap (λ (k : Option (List ℕ)). unwrap_or (option_or (option_map (shard_of_key shards) k) (option_map (shard_of shards) (wanted_address seats o))) 0) e

names_none : (s : Store) (o : Op) (a : Address) → looks_at s o ≡ Some a → named_key o ≡ None
names_none s (op.Open name) a looks = refl
names_none s (op.Close name) a looks = refl
names_none s (op.Write name payload handles address) a looks = refl
names_none s (op.Read name handle) a looks = refl
names_none s (op.Look name key) a looks = cc looks
names_none s (op.Root name key handle) a looks = cc looks
names_none s (op.Drop key) a looks = cc looks
names_none s (op.Forget name handle) a looks = refl
names_none s (op.Name name handle) a looks = refl
names_none s op.Delete a looks = refl
names_none s op.Stat a looks = refl

puts_none : (s : Store) (o : Op) (a : Address) → looks_at s o ≡ Some a → puts_root o ≡ false
puts_none s (op.Open name) a looks = refl
puts_none s (op.Close name) a looks = refl
puts_none s (op.Write name payload handles address) a looks = refl
puts_none s (op.Read name handle) a looks = refl
puts_none s (op.Look name key) a looks = refl
puts_none s (op.Root name key handle) a looks = cc looks
puts_none s (op.Drop key) a looks = refl
puts_none s (op.Forget name handle) a looks = refl
puts_none s (op.Name name handle) a looks = refl
puts_none s op.Delete a looks = refl
puts_none s op.Stat a looks = refl

puts_one : (o : Op) (key : List ℕ) → rooted_key o ≡ Some key → (puts_root o ≡ true) × (named_key o ≡ Some key)
puts_one (op.Open name) key e = cc e
puts_one (op.Close name) key e = cc e
puts_one (op.Write name payload handles address) key e = cc e
puts_one (op.Read name handle) key e = cc e
puts_one (op.Look name k) key e = cc e
puts_one (op.Root name k handle) key e = (refl, e)
puts_one (op.Drop k) key e = cc e
puts_one (op.Forget name handle) key e = cc e
puts_one (op.Name name handle) key e = cc e
puts_one op.Delete key e = cc e
puts_one op.Stat key e = cc e

-- ---- the judging shard is one of the store

judging_low : (shards : ℕ) → 0 < shards → (key : Option (List ℕ)) (a : Option Address) → unwrap_or (option_or (option_map (shard_of_key shards) key) (option_map (shard_of shards) a)) 0 < shards
judging_low shards some (Some key) a = mod-lt (slice_index key (length key - 1)) some
judging_low shards some None (Some a) = mod-lt (slice_index a.0 31) some
judging_low shards some None None = some

some_shard : (shape : Shape) → IsShape shape → 0 < shape.shards
some_shard shape valid = go valid.shards
  where
    go : (shape.shards ≡ 1) ⊎ (shape.shards ≡ 2) ⊎ (shape.shards ≡ 4) ⊎ (shape.shards ≡ 8) → 0 < shape.shards
    go (inl e) = omega (arith, e)
    go (inr (inl e)) = omega (arith, e)
    go (inr (inr (inl e))) = omega (arith, e)
    go (inr (inr (inr e))) = omega (arith, e)

-- ---- what is found

there_same : (found : Option FoldedFacts) → is_some (option_map (λ (f : Facts). f.number) (option_map known_of found)) ≡ is_some (option_map (λ (f : FoldedFacts). f.present.stored) found)
there_same None = refl
there_same (Some f) = refl

pointers_same : (found : Option FoldedFacts) → option_map_or (λ (f : Facts). f.pointers) (option_map known_of found) [] ≡ pointers_of (option_map (λ (f : FoldedFacts). f.present.stored) found)
pointers_same None = refl
pointers_same (Some f) = refl

addresses_same : (found : Option RootFacts) → option_map (λ (r : RootRecord). r.address) (option_map record_of found) ≡ option_map (λ (r : Root). r.address) (option_map (λ (r : RootFacts). r.root) found)
addresses_same None = refl
addresses_same (Some r) = refl

room_is : (n k : ℕ) → nat_lt (n + 0) k ≡ not (nat_le k n)
room_is n k = grind (arith, nat_tests)

-- ---- the view

module _ (cs : List Folded) (core : Core) (o : Op) (folded : IsFolded core cs) (addressed : IsAddressed core.sessions o) where
  abbrev shape : Shape
  shape = shape_of core

  abbrev seats : Seats
  seats = core.sessions

  abbrev s : Store
  s = store_with cs seats

  abbrev g : ℕ
  g = judging_shard shape.shards seats o

  abbrev v : OpView
  v = view_for g o core

  its : IsBeside shape cs g
  its = beside shape cs folded.shards folded.own g (judging_low shape.shards (some_shard shape folded.valid) (named_key o) (wanted_address seats o))

  shards_are : length s.epochs ≡ shape.shards
  shards_are = shards_same cs ∙ folded.shards

  -- there is room, by what is asked for
  abbrev if_root : Bool → Bool
  if_root b = cond b (has_root_room g 0 core) (has_block_room g 0 core)

  memory_is : catalogue_of g core ≡ forget shape g its.c
  memory_is = ap (λ (all : List Catalogue). slice_index_or all g (empty_catalogue shape g)) folded.catalogues ∙ its.memory (empty_catalogue shape g)

  module _ (a : Address) (looks : looks_at s o ≡ Some a) where
    want : wanted_address seats o ≡ Some a
    want = wanted s seats o a refl addressed looks

    here : shard_of shape.shards a ≡ g
    here = sym (judges_wanted shape.shards seats o a want (names_none s o a looks))

    facts_are : facts_for g o core ≡ option_map known_of (fold_facts its.c a)
    facts_are =
        ap (λ (w : Option Address). option_and_then (λ b. facts_at b (catalogue_of g core)) w) want
        ∙ ap (λ (c : Catalogue). facts_at a c) memory_is
        ∙ lookup-map_values known_of (is_at (address_cmp a)) its.c.blocks

    block_is : block_at s a ≡ option_map (λ (f : FoldedFacts). f.present.stored) (fold_facts its.c a)
    block_is = its.block a here

    present_is : is_some v.present ≡ is_some (block_at s a)
    present_is =
        ap (λ (found : Option Facts). is_some (option_map (λ (f : Facts). f.number) found)) facts_are
        ∙ there_same (fold_facts its.c a) ∙ ap (λ (found : Option StoredBlock). is_some found) (sym block_is)

    pub pointers_are : pointers_for g o core ≡ pointers_at s a
    pointers_are =
        ap (λ (found : Option Facts). option_map_or (λ (f : Facts). f.pointers) found []) facts_are
        ∙ pointers_same (fold_facts its.c a) ∙ ap (λ (found : Option StoredBlock). pointers_of found) (sym block_is)

    room_for_block : v.room ≡ not (nat_le core.limits.blocks (blocks_in s (shard_at s a)))
    room_for_block =
        ap (λ (b : Bool). if_root b) (puts_none s o a looks)
        ∙ ap (λ (c : Catalogue). nat_lt (length c.blocks + 0) core.limits.blocks) memory_is
        ∙ ap (λ (n : ℕ). nat_lt (n + 0) core.limits.blocks) (length_map {X = Address × FoldedFacts} {Y = Address × Facts} (λ e. (e.0, known_of e.1)) its.c.blocks)
        ∙ room_is (length its.c.blocks) core.limits.blocks
        ∙ ap (λ (n : ℕ). not (nat_le core.limits.blocks n)) (sym its.count)
        ∙ ap (λ (k : ℕ). not (nat_le core.limits.blocks (blocks_in s k))) (sym (ap (λ (n : ℕ). shard_of n a) shards_are ∙ here))

  kept_same : (key : List ℕ) → named_key o ≡ Some key → option_map (λ (r : RootRecord). r.address) (kept_in v key) ≡ option_map (λ (r : Root). r.address) (retained_at s key)
  kept_same key e =
      ap (λ (c : Catalogue). option_map (λ (r : RootRecord). r.address) (retained_of key c.roots)) memory_is
      ∙ ap (λ (found : Option RootRecord). option_map (λ (r : RootRecord). r.address) found) (retained_record key its.c.roots)
      ∙ addresses_same (find (λ r. is_retained key r.root) its.c.roots)
      ∙ ap (λ (found : Option Root). option_map (λ (r : Root). r.address) found) (sym (its.kept key (sym (judges_named shape.shards seats o key e)) ∙ retained_root key its.c.roots))

  room_for_root : (key : List ℕ) → rooted_key o ≡ Some key → v.room ≡ not (nat_le core.limits.roots (roots_in s (shard_of_key (length s.epochs) key)))
  room_for_root key e =
      ap (λ (b : Bool). if_root b) (puts_one o key e).0
      ∙ ap (λ (c : Catalogue). nat_lt (retained_count c.roots + 0) core.limits.roots) memory_is
      ∙ room_is (retained_count (map record_of its.c.roots)) core.limits.roots
      ∙ ap (λ (n : ℕ). not (nat_le core.limits.roots n)) (sym its.roots)
      ∙ ap (λ (k : ℕ). not (nat_le core.limits.roots (roots_in s k))) (judges_named shape.shards seats o key (puts_one o key e).1 ∙ ap (λ (n : ℕ). shard_of_key n key) (sym shards_are))

  pub shown : Shows core.limits s o v
  shown = record {
    limited = refl;
    sessions = refl;
    epochs = ap (λ (all : List Catalogue). map (λ (c : Catalogue). c.epoch) all) folded.catalogues ∙ epochs_same shape 0 cs;
    swept = ap (λ (all : List Catalogue). map (λ (c : Catalogue). c.swept) all) folded.catalogues ∙ swept_same shape 0 cs;
    judging = ap (λ (n : ℕ). judging_shard n seats o) (sym shards_are);
    blocks = ap (λ (all : List Catalogue). sum_by (λ (c : Catalogue). length c.blocks) all) folded.catalogues ∙ blocks_total shape 0 cs folded.own;
    retained = ap (λ (all : List Catalogue). sum_by (λ (c : Catalogue). retained_count c.roots) all) folded.catalogues ∙ roots_total shape 0 cs;
    free = refl;
    kept = kept_same;
    present = present_is;
    pointers = λ a looks. ap (λ (all : List Address). length all) (pointers_are a looks);
    room = room_for_block;
    root_room = room_for_root;
  }
