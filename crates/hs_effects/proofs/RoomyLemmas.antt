-- What takes effect has its room: no entry is refused for want of room.
use Rattle.std.proofs.Common.{◌≡◌, ◌∙◌, ap, subst, ◌⊎◌, inl, inr, ℕ, ◌+◌, Bool, true, false, cond, not, ◌&&◌, ◌||◌, ◌==◌, List, drop, length, count_by, Option, Some, None, is_none, is_some, Ok, Err, Result, refl, arith, nat_lt}
use Rattle.std.proofs.lemmas.Bool.{lt-ltb}
use Rattle.std.specs.Prelude.{slice_index_or, slice_set}
use Rattle.hs_core_words.specs.Looking.{catalogue_of, front_of, group_of, shape_of}
use Rattle.hs_core_words.specs.Pending.{named}
use Rattle.hs_core_words.specs.Seeing.{view_for}
use Rattle.hs_core_words.specs.State.{Core}
use Rattle.hs_desk.specs.declared.what.What.TheVariants as what
use Rattle.hs_effects.specs.Logged.{IsOrderly}
use Rattle.hs_effects.specs.Room.{Fit}
use Rattle.hs_effects.specs.Taking.{done_by, taken}
use Rattle.hs_effects.proofs.GroupLemmas.{committed_first, set_at}
use Rattle.hs_effects.proofs.RoomLemmas.{first_counts, one_fits}
use Rattle.hs_entry.specs.declared.entry.Entry.{Entry}
use Rattle.hs_entry.specs.declared.entry.Entry.TheVariants as kind
use Rattle.hs_limits.specs.Block.{Block}
use Rattle.hs_limits.specs.Reading.{read_block}
use Rattle.hs_limits.specs.Shape.{shard_of_key}
use Rattle.hs_limits.specs.declared.address.Address.{Address}
use Rattle.hs_limits.specs.declared.spelling.SpellingFault.{SpellingFault}
use Rattle.hs_model.specs.Refusals.{refused_when}
use Rattle.hs_model.specs.declared.op.Op.TheVariants as op
use Rattle.hs_model.specs.declared.reply.Reply.{Reply}
use Rattle.hs_model.specs.declared.reply.Reply.TheVariants as reply
use Rattle.hs_ops.specs.Refusals.{no_room_for_block, no_room_for_root}
use Rattle.hs_ops.specs.Views.{kept_in}
use Rattle.hs_replica.specs.Group.{committed}
use Rattle.hs_replica.specs.Kinds.{is_block, is_root}
use Rattle.hs_roots.specs.Roots.{retained_count}
use Rattle.hs_roots.specs.Roots.{put_root as with_root}
use Rattle.hs_shard.specs.Apply.{named_as}
use Rattle.hs_shard.specs.Clients.{new_facts, only, put_root, root_refusal, store_block, with_block}
use Rattle.hs_shard.specs.Facts.{Catalogue, empty_catalogue, facts_at, has_room, is_fresh, is_mine}

-- with room nothing is refused
no_refusal : (b room : Bool) (r : Reply) → room ≡ true → refused_when (b && not room) r ≡ None
no_refusal true room r e = ap (λ x. refused_when (not x) r) e
no_refusal false room r e = refl

module _ (name : List ℕ → Address) (core : Core) (shard number : ℕ) (entry : Entry) (its : IsOrderly name core) (leads : committed (group_of shard core) ≡ Some (number, entry)) where
  -- whatever is counted
  has_below : (p : Entry → Bool) (held limit : ℕ) → p entry ≡ true → Fit (count_by p (group_of shard core).waiting) held limit → nat_lt (held + 0) limit ≡ true
  has_below p held limit is fit =
      let counts : count_by p (group_of shard core).waiting ≡ 1 + count_by p (drop 1 (group_of shard core).waiting) =
      first_counts p (group_of shard core).waiting entry (committed_first (group_of shard core) number entry leads).first
      ∙ ap (λ b. cond b 1 0 + count_by p (drop 1 (group_of shard core).waiting)) is in
      let low = one_fits (count_by p (drop 1 (group_of shard core).waiting)) held limit (subst (λ n. Fit n held limit) counts fit) in
      lt-ltb (held + 0) limit (omega (arith, low))

  pub block_below : is_block entry ≡ true → nat_lt (length (catalogue_of shard core).blocks + 0) core.limits.blocks ≡ true
  block_below is = has_below is_block (length (catalogue_of shard core).blocks) core.limits.blocks is (its.roomy shard).blocks

  pub root_below : is_root entry ≡ true → nat_lt (retained_count (catalogue_of shard core).roots + 0) core.limits.roots ≡ true
  root_below is = has_below is_root (retained_count (catalogue_of shard core).roots) core.limits.roots is (its.roomy shard).roots

  -- where nothing changes in the catalogue, it is so behind the entry too
  same_behind : (done_by shard entry core).catalogue ≡ catalogue_of shard core → catalogue_of shard (taken shard entry core) ≡ catalogue_of shard core
  same_behind same = go (set_at (empty_catalogue (shape_of core) shard) core.catalogues shard (done_by shard entry core).catalogue)
    where
      go : (slice_index_or (slice_set core.catalogues shard (done_by shard entry core).catalogue) shard (empty_catalogue (shape_of core) shard) ≡ (done_by shard entry core).catalogue)
          ⊎ (slice_index_or (slice_set core.catalogues shard (done_by shard entry core).catalogue) shard (empty_catalogue (shape_of core) shard) ≡ slice_index_or core.catalogues shard (empty_catalogue (shape_of core) shard))
          → catalogue_of shard (taken shard entry core) ≡ catalogue_of shard core
      go (inl e) = e ∙ same
      go (inr e) = e

-- ---- what is refused leaves the catalogue

block_refused : (number least : ℕ) (a : Address) (read : Result Block SpellingFault) (c : Catalogue) → (store_block number least a read c).effect.what ≡ what.Refused → (store_block number least a read c).catalogue ≡ c
block_refused number least a (Err fault) c w = absurd (cc w)
block_refused number least a (Ok block) c w = go (not (is_mine a c) || is_some (facts_at a c)) (not (is_fresh least c && has_room c)) w
  where
    go : (p q : Bool) → (cond p (only what.Nothing c) (cond q (only what.Refused c) (only what.Stored (with_block a (new_facts number c.epoch block.pointers) c)))).effect.what ≡ what.Refused
        → (cond p (only what.Nothing c) (cond q (only what.Refused c) (only what.Stored (with_block a (new_facts number c.epoch block.pointers) c)))).catalogue ≡ c
    go true q w = absurd (cc w)
    go false true w = refl
    go false false w = absurd (cc w)

root_refused : (held : ℕ) (a : Address) (key : List ℕ) (c : Catalogue) → (put_root held a key c).effect.what ≡ what.Refused → (put_root held a key c).catalogue ≡ c
root_refused held a key c w = go (not (shard_of_key c.shape.shards key == c.shard)) (not (is_fresh held c) || is_some (root_refusal a key c)) w
  where
    go : (p q : Bool) → (cond p (only what.Nothing c) (cond q (only what.Refused c) (only what.Rooted (record c { roots = with_root key a c.epoch c.roots })))).effect.what ≡ what.Refused
        → (cond p (only what.Nothing c) (cond q (only what.Refused c) (only what.Rooted (record c { roots = with_root key a c.epoch c.roots })))).catalogue ≡ c
    go true q w = absurd (cc w)
    go false true w = refl
    go false false w = absurd (cc w)

-- ---- a write, and a root

module _ (name : List ℕ → Address) (core : Core) (shard number line least : ℕ) (bytes : List ℕ) (its : IsOrderly name core) (leads : committed (group_of shard core) ≡ Some (number, kind.Block line least bytes))
    (session payload handles : List ℕ) (address : Option Address) where
  abbrev block_entry : Entry
  block_entry = kind.Block line least bytes

  pub block_room : no_room_for_block (view_for shard (op.Write session payload handles address) core) ≡ None
  block_room = no_refusal (is_none (view_for shard (op.Write session payload handles address) core).present) _ (reply.ShardFull core.limits.blocks) (block_below name core shard number block_entry its leads refl)

  pub block_room_behind : (done_by shard block_entry core).effect.what ≡ what.Refused → no_room_for_block (view_for shard (op.Write session payload handles address) (taken shard block_entry core)) ≡ None
  block_room_behind did =
      no_refusal (is_none (view_for shard (op.Write session payload handles address) (taken shard block_entry core)).present) _ (reply.ShardFull core.limits.blocks)
      (ap (λ (c : Catalogue). nat_lt (length c.blocks + 0) core.limits.blocks)
      (same_behind name core shard number block_entry its leads (block_refused (front_of shard core + 1) least (named_as (named block_entry core)) (read_block bytes) (catalogue_of shard core) did))
      ∙ block_below name core shard number block_entry its leads refl)

module _ (name : List ℕ → Address) (core : Core) (shard number line epoch : ℕ) (a : Address) (key : List ℕ) (its : IsOrderly name core) (leads : committed (group_of shard core) ≡ Some (number, kind.Root line epoch a key))
    (session : List ℕ) (handle : ℕ) where
  abbrev root_entry : Entry
  root_entry = kind.Root line epoch a key

  pub root_room : no_room_for_root (view_for shard (op.Root session key handle) core) key ≡ None
  root_room = no_refusal (is_none (kept_in (view_for shard (op.Root session key handle) core) key)) _ (reply.RootsFull core.limits.roots) (root_below name core shard number root_entry its leads refl)

  pub root_room_behind : (done_by shard root_entry core).effect.what ≡ what.Refused → no_room_for_root (view_for shard (op.Root session key handle) (taken shard root_entry core)) key ≡ None
  root_room_behind did =
      no_refusal (is_none (kept_in (view_for shard (op.Root session key handle) (taken shard root_entry core)) key)) _ (reply.RootsFull core.limits.roots)
      (ap (λ (c : Catalogue). nat_lt (retained_count c.roots + 0) core.limits.roots)
      (same_behind name core shard number root_entry its leads (root_refused epoch a key (catalogue_of shard core) did))
      ∙ root_below name core shard number root_entry its leads refl)
