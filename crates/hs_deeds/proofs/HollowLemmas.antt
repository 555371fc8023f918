-- What is looked up in a store, what is reached in it and what changes it, without the bytes of its blocks.
use Rattle.std.proofs.Common.{◌≡◌, ◌∙◌, ◌++◌, ℕ, zero, suc, List, [], ◌∷◌, Bool, true, false, not, ◌&&◌, ◌==◌, cond, refl, sym, ap, map, filter, length, is_none, is_some, Option, None, Some, IsSome, nat_le, nat_lt}
use Rattle.std.proofs.lemmas.List.{length-map}
use Rattle.std.proofs.lemmas.List.Sums.{length-filter}
use Rattle.std.proofs.lemmas.Map.Made.{lookup-map_values}
use Rattle.std.specs.BTreeMap.{insert_entry, is_at}
use Rattle.std.specs.List.{count_by}
use Rattle.std.specs.Option.{option_map}
use Rattle.std.specs.Prelude.{slice_index, slice_set}
use Rattle.hs_limits.specs.declared.address.Address.{Address}
use Rattle.hs_limits.specs.declared.address.Held.{Held}
use Rattle.hs_limits.specs.declared.limits.Limits.{Limits}
use Rattle.hs_limits.specs.Block.{Block}
use Rattle.hs_limits.specs.Shape.{shard_of}
use Rattle.hs_model.proofs.MapLemmas.{map-insert_entry}
use Rattle.hs_model.specs.declared.op.Asked.{Asked}
use Rattle.hs_model.specs.declared.op.Asked.TheVariants as asked
use Rattle.hs_model.specs.declared.reply.Reply.{Reply}
use Rattle.hs_model.specs.declared.reply.Reply.TheVariants as reply
use Rattle.hs_model.specs.declared.store.StoredBlock.{StoredBlock}
use Rattle.hs_model.specs.Deeds.{is_too_long, refusals_told}
use Rattle.hs_model.specs.Hollow.{hollow, hollow_blocks, without_bytes}
use Rattle.hs_model.specs.Inner.{sweep}
use Rattle.hs_model.specs.Judge.{address_of, given_address, pointers_at, read, wrote}
use Rattle.hs_model.specs.Reach.{anchors, close, is_among, is_swept, left, pick, pointers_of, reached_from}
use Rattle.hs_model.specs.Refusals.{handles_full, no_handle, no_session, refused_when, shard_full, stale, too_many}
use Rattle.hs_model.specs.Store.{Session, Store, address_cmp, block_at, blocks_in, blocks_with, epoch_at, helds_of, hold_all, holding_all, put_session, session_at, shard_at, with_block}

abbrev Blocks : Type 0
Blocks = List (Address × StoredBlock)

-- ---- what is looked up

pub block_hollow : (s : Store) (a : Address) → block_at (hollow s) a ≡ option_map without_bytes (block_at s a)
block_hollow s a = lookup-map_values without_bytes (is_at (address_cmp a)) s.blocks

points_hollow : (o : Option StoredBlock) → pointers_of (option_map without_bytes o) ≡ pointers_of o
points_hollow None = refl
points_hollow (Some stored) = refl

pub pointers_hollow : (s : Store) (a : Address) → pointers_at (hollow s) a ≡ pointers_at s a
pointers_hollow s a = ap pointers_of (block_hollow s a) ∙ points_hollow (block_at s a)

there_hollow : (o : Option StoredBlock) → is_some (option_map without_bytes o) ≡ is_some o
there_hollow None = refl
there_hollow (Some stored) = refl

pub is_there_hollow : (s : Store) (a : Address) → is_some (block_at (hollow s) a) ≡ is_some (block_at s a)
is_there_hollow s a = ap (λ (o : Option StoredBlock). is_some o) (block_hollow s a) ∙ there_hollow (block_at s a)

absent_hollow : (o : Option StoredBlock) → is_none (option_map without_bytes o) ≡ is_none o
absent_hollow None = refl
absent_hollow (Some stored) = refl

-- ---- counts

pub length_hollow : (es : Blocks) → length (hollow_blocks es) ≡ length es
length_hollow es = length-map es (λ (e : Address × StoredBlock). (e.0, without_bytes e.1))

length_filtered : (p : Address → Bool) (es : Blocks) → length (filter (λ e. p e.0) (hollow_blocks es)) ≡ length (filter (λ e. p e.0) es)
length_filtered p [] = refl
length_filtered p (e ∷ es) = go (p e.0) (length_filtered p es)
  where
    go : (b : Bool) → length (filter (λ e. p e.0) (hollow_blocks es)) ≡ length (filter (λ e. p e.0) es)
        → length (cond b ((e.0, without_bytes e.1) ∷ filter (λ e. p e.0) (hollow_blocks es)) (filter (λ e. p e.0) (hollow_blocks es))) ≡ length (cond b (e ∷ filter (λ e. p e.0) es) (filter (λ e. p e.0) es))
    go true ih = ap (λ n. suc n) ih
    go false ih = ih

count_hollow : (p : Address → Bool) (es : Blocks) → count_by (λ e. p e.0) (hollow_blocks es) ≡ count_by (λ e. p e.0) es
count_hollow p es = sym (length-filter (λ (e : Address × StoredBlock). p e.0) (hollow_blocks es)) ∙ length_filtered p es ∙ length-filter (λ (e : Address × StoredBlock). p e.0) es

pub blocks_in_hollow : (s : Store) (shard : ℕ) → blocks_in (hollow s) shard ≡ blocks_in s shard
blocks_in_hollow s shard = count_hollow (λ a. shard_of (length s.epochs) a == shard) s.blocks

-- ---- refusals

shard_full_hollow : (limits : Limits) (s : Store) (a : Address) → shard_full limits (hollow s) a ≡ shard_full limits s a
shard_full_hollow limits s a =
    ap (λ (b : Bool). refused_when (b && nat_le limits.blocks (blocks_in (hollow s) (shard_at s a))) (reply.ShardFull limits.blocks)) (ap (λ (o : Option StoredBlock). is_none o) (block_hollow s a) ∙ absent_hollow (block_at s a))
    ∙ ap (λ (n : ℕ). refused_when (is_none (block_at s a) && nat_le limits.blocks n) (reply.ShardFull limits.blocks)) (blocks_in_hollow s (shard_at s a))

-- the bytes of blocks refuse nothing but a collision
pub told_hollow : (limits : Limits) (s : Store) (o : Asked) (collides : Bool) → refusals_told limits (hollow s) o collides ≡ refusals_told limits s o collides
unfolding refusals_told
told_hollow limits s (asked.Open name) collides = refl
told_hollow limits s (asked.Close name) collides = refl
told_hollow limits s (asked.Write name bytes handles address) collides =
    let a : Address = given_address address in
    ap (λ (full : Option Reply). no_session s name ∷ is_too_long bytes ∷ too_many handles ∷ no_handle s name handles ∷ handles_full limits s name 1 ∷ stale s name (epoch_at s a) handles ∷ refused_when collides reply.Collision ∷ full ∷ [])
    (shard_full_hollow limits s a)
told_hollow limits s (asked.Read name handle) collides =
    let a : Address = address_of s name handle in
    ap (λ (points : List Address). no_session s name ∷ no_handle s name (handle ∷ []) ∷ stale s name (epoch_at s a) (handle ∷ []) ∷ handles_full limits s name (length points) ∷ []) (pointers_hollow s a)
told_hollow limits s (asked.Look name key) collides = refl
told_hollow limits s (asked.Root name key handle) collides = refl
told_hollow limits s (asked.Drop key) collides = refl
told_hollow limits s (asked.Forget name handle) collides = refl
told_hollow limits s (asked.Name name handle) collides = refl
told_hollow limits s asked.Delete collides = refl
told_hollow limits s asked.Stat collides = refl

-- ---- what a session holds, and a block

pub put_hollow : (s : Store) (name : List ℕ) (session : Option Session) → hollow (put_session s name session) ≡ put_session (hollow s) name session
put_hollow s name None = refl
put_hollow s name (Some session) = refl

pub hold_hollow : (s : Store) (name : List ℕ) (helds : List Held) → hollow (hold_all s name helds) ≡ hold_all (hollow s) name helds
hold_hollow s name helds = put_hollow s name (option_map (holding_all helds) (session_at s name))

blocks_hollow : (there : Option StoredBlock) (es : Blocks) (a : Address) (block : Block) (epoch : ℕ)
    → hollow_blocks (blocks_with there es a block epoch) ≡ blocks_with (option_map without_bytes there) (hollow_blocks es) a (record { pointers = block.pointers; bytes = [] }) epoch
blocks_hollow None es a block epoch = map-insert_entry without_bytes address_cmp es a (record { pointers = block.pointers; bytes = block.bytes; born = epoch })
blocks_hollow (Some stored) es a block epoch = refl

-- a block is stored, its bytes elsewhere
with_hollow : (s : Store) (a : Address) (block : Block) → hollow (with_block s a block) ≡ with_block (hollow s) a (record { pointers = block.pointers; bytes = [] })
with_hollow s a block =
    ap (λ (es : Blocks). record (with_block s a block) { blocks = es })
    (blocks_hollow (block_at s a) s.blocks a block (epoch_at s a)
    ∙ ap (λ (there : Option StoredBlock). blocks_with there (hollow_blocks s.blocks) a (record { pointers = block.pointers; bytes = [] }) (epoch_at s a)) (sym (block_hollow s a)))

pub wrote_hollow : (s : Store) (name : List ℕ) (a : Address) (block : Block) → hollow (wrote s name a block).store ≡ (wrote (hollow s) name a (record { pointers = block.pointers; bytes = [] })).store
wrote_hollow s name a block =
    let helds : List Held = record { address = a; epoch = epoch_at s a } ∷ [] in
    hold_hollow (with_block s a block) name helds ∙ ap (λ (x : Store). hold_all x name helds) (with_hollow s a block)

-- of a block that is there the pointers that are written don't matter
pub marked_hollow : (s : Store) (name : List ℕ) (a : Address) (b c : Block) → IsSome (block_at s a) → (wrote s name a b).store ≡ (wrote s name a c).store
marked_hollow s name a b c there =
    ap (λ (es : Blocks). hold_all (record s { blocks = es; given = insert_entry address_cmp s.given a (epoch_at s a) }) name (record { address = a; epoch = epoch_at s a } ∷ [])) (go (block_at s a) there)
  where
    go : (o : Option StoredBlock) → IsSome o → blocks_with o s.blocks a b (epoch_at s a) ≡ blocks_with o s.blocks a c (epoch_at s a)
    go None h = absurd (cc h)
    go (Some stored) h = refl

pub read_hollow : (s : Store) (name : List ℕ) (held : Held) → hollow (read s name held).store ≡ (read (hollow s) name held).store
read_hollow s name held =
    hold_hollow s name (helds_of (pointers_at s held.address) held.epoch) ∙ ap (λ (points : List Address). hold_all (hollow s) name (helds_of points held.epoch)) (sym (pointers_hollow s held.address))

-- ---- what is reached

pick_hollow : (es : Blocks) (seen : List Address) → pick (hollow_blocks es) seen ≡ option_map without_bytes (pick es seen)
pick_hollow [] seen = refl
pick_hollow (e ∷ es) seen = go (is_among seen e.0) (pick_hollow es seen)
  where
    go : (b : Bool) → pick (hollow_blocks es) seen ≡ option_map without_bytes (pick es seen) → cond b (Some (without_bytes e.1)) (pick (hollow_blocks es) seen) ≡ option_map without_bytes (cond b (Some e.1) (pick es seen))
    go true ih = refl
    go false ih = ih

left_hollow : (es : Blocks) (seen : List Address) → left (hollow_blocks es) seen ≡ hollow_blocks (left es seen)
left_hollow [] seen = refl
left_hollow (e ∷ es) seen = go (is_among seen e.0) (left_hollow es seen)
  where
    go : (b : Bool) → left (hollow_blocks es) seen ≡ hollow_blocks (left es seen) → cond b (hollow_blocks es) ((e.0, without_bytes e.1) ∷ left (hollow_blocks es) seen) ≡ hollow_blocks (cond b es (e ∷ left es seen))
    go true ih = refl
    go false ih = ap (λ z. (e.0, without_bytes e.1) ∷ z) ih

close_hollow : (turns : ℕ) (es : Blocks) (seen : List Address) → close turns (hollow_blocks es) seen ≡ close turns es seen
close_hollow zero es seen = refl
close_hollow (suc turns) es seen =
    let points : pointers_of (pick (hollow_blocks es) seen) ≡ pointers_of (pick es seen) = ap pointers_of (pick_hollow es seen) ∙ points_hollow (pick es seen) in
    ap (λ z. close turns z (seen ++ pointers_of (pick (hollow_blocks es) seen))) (left_hollow es seen)
    ∙ ap (λ z. close turns (hollow_blocks (left es seen)) (seen ++ z)) points
    ∙ close_hollow turns (left es seen) (seen ++ pointers_of (pick es seen))

pub reached_hollow : (s : Store) (from : List Address) → reached_from (hollow s) from ≡ reached_from s from
reached_hollow s from = ap (λ n. close n (hollow_blocks s.blocks) from) (length_hollow s.blocks) ∙ close_hollow (length s.blocks) s.blocks from

-- ---- a sweep

swept_hollow : (s : Store) (run shard : ℕ) (e : Address × StoredBlock) → is_swept (hollow s) run shard (e.0, without_bytes e.1) ≡ is_swept s run shard e
swept_hollow s run shard e = ap (λ (seen : List Address). (shard_at s e.0 == shard && nat_lt e.1.born run) && not (is_among seen e.0)) (reached_hollow s (anchors s run))

filter_hollow : (p q : Address × StoredBlock → Bool) → ((e : Address × StoredBlock) → p (e.0, without_bytes e.1) ≡ q e) → (es : Blocks) → filter p (hollow_blocks es) ≡ hollow_blocks (filter q es)
filter_hollow p q same [] = refl
filter_hollow p q same (e ∷ es) = ap (λ (b : Bool). cond b ((e.0, without_bytes e.1) ∷ filter p (hollow_blocks es)) (filter p (hollow_blocks es))) (same e) ∙ go (q e) (filter_hollow p q same es)
  where
    go : (b : Bool) → filter p (hollow_blocks es) ≡ hollow_blocks (filter q es) → cond b ((e.0, without_bytes e.1) ∷ filter p (hollow_blocks es)) (filter p (hollow_blocks es)) ≡ hollow_blocks (cond b (e ∷ filter q es) (filter q es))
    go true ih = ap (λ z. (e.0, without_bytes e.1) ∷ z) ih
    go false ih = ih

addresses_hollow : (es : Blocks) → map (λ (e : Address × StoredBlock). e.0) (hollow_blocks es) ≡ map (λ (e : Address × StoredBlock). e.0) es
addresses_hollow [] = refl
addresses_hollow (e ∷ es) = ap (λ z. e.0 ∷ z) (addresses_hollow es)

pub sweep_hollow : (s : Store) (shard : ℕ) → hollow (sweep s shard) ≡ sweep (hollow s) shard
sweep_hollow s shard =
    sym (ap (λ (kept : Blocks). record s {
      blocks = kept;
      given = filter (λ (e : Address × ℕ). is_among (map (λ (b : Address × StoredBlock). b.0) kept) e.0) s.given;
      swept = slice_set s.swept shard epoch;
    }) kept_same
    ∙ ap (λ (stay : List Address). record s {
      blocks = hollow_blocks (kept_of s);
      given = filter (λ (e : Address × ℕ). is_among stay e.0) s.given;
      swept = slice_set s.swept shard epoch;
    }) (addresses_hollow (kept_of s)))
  where
    epoch : ℕ
    epoch = slice_index s.epochs shard

    kept_of : Store → Blocks
    kept_of x = filter (λ e. not (is_swept x epoch shard e)) x.blocks

    kept_same : kept_of (hollow s) ≡ hollow_blocks (kept_of s)
    kept_same = filter_hollow (λ e. not (is_swept (hollow s) epoch shard e)) (λ e. not (is_swept s epoch shard e)) (λ e. ap not (swept_hollow s epoch shard e)) s.blocks
