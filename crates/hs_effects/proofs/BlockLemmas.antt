-- A Block that stores its block.
use Rattle.std.proofs.Common.{◌≡◌, ◌∙◌, sym, ap, subst, inl, inr, ℕ, ◌+◌, Bool, true, false, cond, not, ◌&&◌, ◌||◌, ◌==◌, List, [], ◌∷◌, length, map, Option, Some, None, is_some, is_none, Ok, refl, arith, nat_le, nat_lt, slice_index, unwrap_or}
use Rattle.std.proofs.lemmas.Map.Made.{lookup-map_values}
use Rattle.std.specs.BTreeMap.{is_at}
use Rattle.std.specs.Map.{lookup}
use Rattle.std.specs.Option.{option_map}
use Rattle.hs_answered.specs.Judged.{judged_at}
use Rattle.hs_answered.specs.Standing.{store_with}
use Rattle.hs_answered.proofs.AnswerLemmas.{hold_is, session_is}
use Rattle.hs_answered.proofs.ShownLemmas.{held_is}
use Rattle.hs_awaiting.specs.declared.waiting.Waiting.{Waiting}
use Rattle.hs_core_words.specs.Looking.{catalogue_of, front_of, group_of, operation_of, shape_of}
use Rattle.hs_core_words.specs.Seeing.{view_for}
use Rattle.hs_core_words.specs.State.{Core}
use Rattle.hs_desk.specs.declared.what.What.TheVariants as what
use Rattle.hs_effects.specs.Answered.{HasAnswer, HoldAddresses, IsAnsweredBy, heard}
use Rattle.hs_effects.specs.Lawful.{IsLawful, MayFollow}
use Rattle.hs_effects.specs.Logged.{HasAsked, IsEntryOf, IsOrderly, IsOwn}
use Rattle.hs_effects.specs.Taking.{IsNamed, done_by, folds_behind, next_deed, setting_of, taken}
use Rattle.hs_effects.proofs.AnsweredLemmas.{by_parts, granted_is, has_answer, not_full, seats_behind, some_same}
use Rattle.hs_effects.proofs.EffectLemmas.{committed_named}
use Rattle.hs_effects.proofs.FoldLemmas.{memory_at, taken_folds}
use Rattle.hs_effects.proofs.FreeLemmas.{are_addressed, is_bounded, own_block, write_free}
use Rattle.hs_effects.proofs.GroupLemmas.{committed_first}
use Rattle.hs_effects.proofs.RoomyLemmas.{block_room}
use Rattle.hs_effects.proofs.SweepLemmas.{ByViews, epoch_before, epoch_left, epoch_seen, store_is}
use Rattle.hs_entry.specs.declared.entry.Entry.{Entry}
use Rattle.hs_entry.specs.declared.entry.Entry.TheVariants as kind
use Rattle.hs_fold.specs.Runs.Facts.{Catalogue as Folded}
use Rattle.hs_fold.specs.Runs.Facts.{Facts as FoldedFacts, plain}
use Rattle.hs_fold.specs.Runs.Fits.{catalogue_at}
use Rattle.hs_fold.specs.Runs.Opened.{store_of}
use Rattle.hs_fold.specs.Shards.Change.{may_store, stores}
use Rattle.hs_fold.specs.Shards.Happening.{Happening, block_happens, changes, happen_by}
use Rattle.hs_fold.specs.Shards.Setting.{shard_in}
use Rattle.hs_joint.specs.Along.{happening_by}
use Rattle.hs_limits.specs.Block.{Block, spell}
use Rattle.hs_limits.specs.Limits.{greatest_limits}
use Rattle.hs_limits.specs.Reading.{read_block}
use Rattle.hs_limits.proofs.ReadingLemmas.{read_again}
use Rattle.hs_limits.specs.Shape.{shard_of}
use Rattle.hs_limits.specs.declared.address.Address.{Address}
use Rattle.hs_limits.specs.declared.address.Held.{Held}
use Rattle.hs_limits.specs.declared.limits.Limits.{Limits}
use Rattle.hs_memory.specs.Forget.{forget, known_of}
use Rattle.hs_model.specs.declared.deed.Deed.TheVariants as deed
use Rattle.hs_model.specs.declared.op.Op.{Op}
use Rattle.hs_model.specs.declared.op.Op.TheVariants as op
use Rattle.hs_model.specs.declared.reply.Reply.{Reply}
use Rattle.hs_model.specs.declared.reply.Reply.TheVariants as reply
use Rattle.hs_model.specs.declared.store.StoredBlock.{StoredBlock}
use Rattle.hs_model.specs.Judge.{Judged, address_of, given_address, granted, judge, nothing, written, written_deed, wrote}
use Rattle.hs_model.specs.Refusals.{refused_when}
use Rattle.hs_model.specs.Store.{Session, Store, address_cmp, block_at, blocks_in, epoch_at, hold_all, next_of, session_at, shard_at, with_block, with_sessions}
use Rattle.hs_ops.specs.Answers.{deed_of, gained, is_done, seats_after}
use Rattle.hs_ops.specs.Going.{effect_reply}
use Rattle.hs_ops.specs.Refusals.{refusal_of}
use Rattle.hs_ops.specs.Speaking.{asked_block, helds, judging_shard, least_epoch}
use Rattle.hs_ops.specs.Views.{OpView, now_in, open_in}
use Rattle.hs_replica.specs.Group.{committed}
use Rattle.hs_shard.specs.declared.facts.Facts.{Facts}
use Rattle.hs_shard.specs.Apply.{named_as}
use Rattle.hs_shard.specs.Clients.{only, store_block, with_block as with_facts, new_facts}
use Rattle.hs_shard.specs.Facts.{Catalogue, facts_at, has_room, is_fresh, is_mine}
use Rattle.hs_shown.specs.Showing.{Shows, as_sessions}
use Rattle.hs_tokens.specs.Seats.{Seats, found}

-- what hs_shown says of a new block
abbrev pub ByStored : Type 0
ByStored = (limits : Limits) (s : Store) (v : OpView) (name payload handles : List ℕ) (address : Option Address)
    → Shows limits s (op.Write name payload handles address) v → refusal_of v (op.Write name payload handles address) ≡ None
    → block_at s (given_address address) ≡ None
    → effect_reply v what.Stored (op.Write name payload handles address) ≡ Some (judge limits s (op.Write name payload handles address)).reply

-- ---- what storing means

record IsStored (least : ℕ) (a : Address) (c : Catalogue) : Type 0 where
  pub mine : is_mine a c ≡ true
  pub absent : is_some (facts_at a c) ≡ false
  pub fresh : is_fresh least c ≡ true
  pub room : has_room c ≡ true

stored_tests : (number least : ℕ) (a : Address) (block : Block) (c : Catalogue) → (store_block number least a (Ok block) c).effect.what ≡ what.Stored
    → IsStored least a c × ((store_block number least a (Ok block) c).catalogue.epoch ≡ c.epoch)
stored_tests number least a block c e = go (is_mine a c) (is_some (facts_at a c)) (is_fresh least c) (has_room c) refl refl refl refl e
  where
    go : (m p f r : Bool) → is_mine a c ≡ m → is_some (facts_at a c) ≡ p → is_fresh least c ≡ f → has_room c ≡ r
        → (cond (not m || p) (only what.Nothing c) (cond (not (f && r)) (only what.Refused c) (only what.Stored (with_facts a (new_facts number c.epoch block.pointers) c)))).effect.what ≡ what.Stored
        → IsStored least a c × ((cond (not m || p) (only what.Nothing c) (cond (not (f && r)) (only what.Refused c) (only what.Stored (with_facts a (new_facts number c.epoch block.pointers) c)))).catalogue.epoch ≡ c.epoch)
    go false p f r me pe fe re w = absurd (cc w)
    go true true f r me pe fe re w = absurd (cc w)
    go true false false r me pe fe re w = absurd (cc w)
    go true false true false me pe fe re w = absurd (cc w)
    go true false true true me pe fe re w = (record { mine = me; absent = pe; fresh = fe; room = re }, refl)

some_of : {A B : Type 0} (f : A → B) (x : Option A) → is_some (option_map f x) ≡ is_some x
some_of f None = refl
some_of f (Some x) = refl

none_of : {A : Type 0} (x : Option A) → is_some x ≡ false → x ≡ None
none_of None e = refl
none_of (Some x) e = absurd (cc e)

-- an operation that asks for a Block is the write of its block
record IsBlockOp (name : List ℕ → Address) (seats : Seats) (least : ℕ) (bytes : List ℕ) (o : Op) : Type 0 where
  pub session : List ℕ
  pub payload : List ℕ
  pub handles : List ℕ
  pub is : o ≡ op.Write session payload handles (Some (name bytes))
  pub since : least ≡ least_epoch (helds seats session handles)
  pub spells : bytes ≡ spell (asked_block seats session payload handles)

block_op : (name : List ℕ → Address) (seats : Seats) (line least : ℕ) (bytes : List ℕ) (o : Op) → IsEntryOf name seats line o (kind.Block line least bytes) → IsBlockOp name seats least bytes o
block_op name seats line least bytes (op.Write session payload handles address) asks = go asks
  where
    go : IsEntryOf name seats line (op.Write session payload handles address) (kind.Block line least bytes) → IsBlockOp name seats least bytes (op.Write session payload handles address)
    go (inl is) =
        let spelled : bytes ≡ spell (asked_block seats session payload handles) = cc is.0 in
        record {
          session = session;
          payload = payload;
          handles = handles;
          is = ap (λ a. op.Write session payload handles a) (is.1 ∙ ap (λ bs. Some (name bs)) (sym spelled));
          since = cc is.0;
          spells = spelled;
        }
    go (inr is) = absurd (cc is.1)
block_op name seats line least bytes (op.Root session key handle) asks = absurd (cc asks)
block_op name seats line least bytes (op.Drop key) asks = absurd (cc asks)
block_op name seats line least bytes op.Delete asks = absurd (cc asks.1)
block_op name seats line least bytes (op.Open session) asks = absurd asks
block_op name seats line least bytes (op.Close session) asks = absurd asks
block_op name seats line least bytes (op.Read session handle) asks = absurd asks
block_op name seats line least bytes (op.Look session key) asks = absurd asks
block_op name seats line least bytes (op.Forget session handle) asks = absurd asks
block_op name seats line least bytes (op.Name session handle) asks = absurd asks
block_op name seats line least bytes op.Stat asks = absurd asks

grants : (s : Store) (session payload handles : List ℕ) (a : Address) → granted s (op.Write session payload handles (Some a)) ≡ wrote s session a (written s session payload handles)
unfolding granted
grants s session payload handles a = refl

new_deed : (seats : Seats) (session payload handles : List ℕ) (a : Address) (handle epoch : ℕ)
    → deed_of seats (op.Write session payload handles (Some a)) (reply.New handle epoch) ≡ deed.Wrote session a (asked_block seats session payload handles).pointers handle
unfolding deed_of asked_block
new_deed seats session payload handles a handle epoch = refl

module _ (views : ByViews) (law : ByStored) (name : List ℕ → Address) (cs : List Folded) (core : Core) (shard number line least : ℕ) (bytes session payload handles : List ℕ) where
  abbrev entry : Entry
  entry = kind.Block line least bytes

  abbrev a : Address
  a = name bytes

  abbrev o : Op
  o = op.Write session payload handles (Some (name bytes))

  abbrev asked : Block
  asked = asked_block core.sessions session payload handles

  module _ (its : IsLawful name core cs) (order : IsOrderly name core) (leads : committed (group_of shard core) ≡ Some (number, entry)) (may : MayFollow (setting_of name core) cs (next_deed shard entry core))
      (w : Waiting) (at : operation_of line core ≡ Some w) (is : w.operation.op ≡ o) (least_is : least ≡ least_epoch (helds core.sessions session handles)) (spelled : bytes ≡ spell asked)
      (all : HoldAddresses core.sessions) (did : (done_by shard entry core).effect.what ≡ what.Stored) where
    abbrev here : Core
    here = taken shard entry core

    abbrev s : Store
    s = store_with cs core.sessions

    abbrev behind : List Folded
    behind = folds_behind name cs shard entry core

    abbrev t : Store
    t = store_with behind core.sessions

    abbrev old : Catalogue
    old = catalogue_of shard core

    abbrev v : OpView
    v = view_for shard o core

    h : HasAsked name core shard (front_of shard core + 1 + 0) line entry
    h = order.asked shard 0 line entry (committed_first (group_of shard core) number entry leads).first refl

    judges : w.shard ≡ shard
    judges = ap (λ (x : Waiting). x.shard) (some_same w h.waiting (sym at ∙ h.at)) ∙ h.judges

    place : judging_shard (shape_of core).shards core.sessions o ≡ shard
    place = ap (λ p. judging_shard (shape_of core).shards core.sessions p) (sym is) ∙ sym (order.pending line w at).judges ∙ judges

    shows : Shows core.limits s o v
    shows = subst (λ k. Shows core.limits s o (view_for k o core)) place (views cs core o its.folded refl)

    own : IsOwn core.limits core.sessions o
    own = subst (λ (x : Op). IsOwn core.limits core.sessions x) (ap (λ (x : Waiting). x.operation.op) (some_same h.waiting w (sym h.at ∙ at)) ∙ is) h.own

    reads : read_block bytes ≡ Ok asked
    reads =
        ap (λ bs. read_block bs) spelled
        ∙ read_again asked (is_bounded core.sessions session payload handles (own_block core.limits core.sessions session payload handles (Some a) own)) (are_addressed core.sessions session payload all handles)

    called : IsNamed name entry core
    called = committed_named name core shard number entry order leads

    done_is : done_by shard entry core ≡ store_block (front_of shard core + 1) least a (Ok asked) old
    done_is =
        ap (λ x. store_block (front_of shard core + 1) least (named_as x) (read_block bytes) old) called
        ∙ ap (λ x. store_block (front_of shard core + 1) least a x old) reads

    tests : IsStored least a old × ((store_block (front_of shard core + 1) least a (Ok asked) old).catalogue.epoch ≡ old.epoch)
    tests = stored_tests (front_of shard core + 1) least a asked old (ap (λ x. x.effect.what) (sym done_is) ∙ did)

    -- what its operation saw before refuses nothing
    free : refusal_of v o ≡ None
    free =
        write_free v session payload handles (Some a) refl own
        (ap (λ k. nat_le (now_in v) (k + 1)) (sym least_is) ∙ ap (λ n. nat_le n (least + 1)) (epoch_seen views name cs core shard entry its may called) ∙ tests.0.fresh)
        (block_room name core shard number line least bytes order leads session payload handles (Some a))

    absent : block_at s a ≡ None
    absent = none_of (block_at s a) (sym (shows.present a refl) ∙ some_of (λ (f : Facts). f.number) (facts_at a old) ∙ tests.0.absent)

    same_now : now_in (view_for shard o here) ≡ now_in v
    same_now =
        epoch_left views name cs core shard entry its may called ∙ ap (λ x. x.catalogue.epoch) done_is ∙ tests.1
        ∙ sym (epoch_seen views name cs core shard entry its may called)

    now_is : now_in v ≡ epoch_at s a
    now_is = ap (λ (es : List ℕ). slice_index es shard) shows.epochs ∙ ap (λ k. slice_index s.epochs k) shows.judging

    epoch_is : epoch_at s a ≡ old.epoch
    epoch_is = ap (λ k. slice_index s.epochs k) (sym shows.judging) ∙ epoch_before views name cs core shard entry its may called

    -- what the operation is told
    abbrev r : Reply
    r = reply.New (next_of (open_in (view_for shard (op.Write session payload handles (Some (name bytes))) core) session)) (now_in (view_for shard (op.Write session payload handles (Some (name bytes))) core))

    told : effect_reply (view_for shard o here) what.Stored o ≡ Some r
    told = ap (λ n. Some (reply.New (next_of (open_in v session)) n)) same_now

    replies : r ≡ (judge core.limits s o).reply
    replies = some_same r (judge core.limits s o).reply (law core.limits s v session payload handles (Some a) shows free absent)

    says : judged_at cs core o ≡ wrote s session a (written s session payload handles)
    says = granted_is core.limits s o (ap (λ q. is_done q) (sym replies)) ∙ grants s session payload handles a

    same_block : asked ≡ written s session payload handles
    unfolding asked_block
    same_block = ap (λ (ps : List Address). record { pointers = ps; bytes = payload }) (each handles)
      where
        one : (handle : ℕ) → (found core.sessions session handle).address ≡ address_of s session handle
        one handle = ap (λ (held : Option Held). (unwrap_or held nothing).address) (sym (held_is s core.sessions refl session handle))

        each : (hs : List ℕ) → map (λ held. held.address) (map (λ handle. found core.sessions session handle) hs) ≡ map (λ handle. address_of s session handle) hs
        each [] = refl
        each (x ∷ xs) = ap (λ (b : Address). b ∷ map (λ held. held.address) (map (λ handle. found core.sessions session handle) xs)) (one x) ∙ ap (λ (rest : List Address). address_of s session x ∷ rest) (each xs)

    deeds : deed_of core.sessions o r ≡ (wrote s session a (written s session payload handles)).deed
    deeds =
        new_deed core.sessions session payload handles a (next_of (open_in v session)) (now_in v)
        ∙ ap (λ (b : Block). deed.Wrote session a b.pointers (next_of (open_in v session))) same_block
        ∙ ap (λ (x : Option Session). deed.Wrote session a (written s session payload handles).pointers (next_of x)) (sym (session_is s core.sessions refl session))
        ∙ ap (λ (x : Option StoredBlock). written_deed (is_some x) session a (written s session payload handles).pointers (next_of (session_at s session))) (sym absent)

    -- ---- the store

    mem : old ≡ forget (shape_of core) shard (catalogue_at cs shard)
    mem = memory_at name cs core shard entry its.folded may.of

    gone : lookup (is_at (address_cmp a)) (catalogue_at cs shard).blocks ≡ None
    gone = none_of _ (sym (some_of known_of (lookup (is_at (address_cmp a)) (catalogue_at cs shard).blocks))
        ∙ ap (λ x. is_some x) (sym (lookup-map_values known_of (is_at (address_cmp a)) (catalogue_at cs shard).blocks))
        ∙ ap (λ (c : Catalogue). is_some (facts_at a c)) (sym mem) ∙ tests.0.absent)

    mine : (shard_of (shape_of core).shards a == shard) ≡ true
    mine = ap (λ (c : Catalogue). is_mine a c) (sym mem) ∙ tests.0.mine

    happens : happening_by (setting_of name core) cs (next_deed shard entry core) ≡ Some (changes (stores least a asked))
    happens =
        ap (λ x. block_happens (shard_in (setting_of name core) shard) (plain (catalogue_at cs shard)) least a x) reads
        ∙ ap (λ b. cond (b && is_none (lookup (is_at (address_cmp a)) (map (λ (e : Address × FoldedFacts). (e.0, e.1.present)) (catalogue_at cs shard).blocks))) (Some (changes (stores least a asked))) None) mine
        ∙ ap (λ x. cond (is_none x) (Some (changes (stores least a asked))) None) (lookup-map_values (λ (f : FoldedFacts). f.present) (is_at (address_cmp a)) (catalogue_at cs shard).blocks ∙ ap (λ x. option_map (λ (f : FoldedFacts). f.present) x) gone)

    -- it has room below the greatest limits
    shows_wide : Shows greatest_limits s o (view_for shard o (record core { limits = greatest_limits }))
    shows_wide = subst (λ k. Shows greatest_limits s o (view_for k o (record core { limits = greatest_limits }))) place
        (views cs (record core { limits = greatest_limits }) o (record { valid = its.folded.valid; shards = its.folded.shards; own = its.folded.own; catalogues = its.folded.catalogues }) refl)

    roomy : nat_le greatest_limits.blocks (blocks_in s (shard_at s a)) ≡ false
    roomy = not_full _ (sym (ap (λ n. nat_lt n greatest_limits.blocks) (plus_none (length old.blocks)) ∙ tests.0.room) ∙ shows_wide.room a refl)
      where
        plus_none : (n : ℕ) → n + 0 ≡ n
        plus_none n = omega arith

    usable : may_store s least a ≡ true
    usable =
        ap (λ n. nat_le n (least + 1) && is_none (refused_when (is_none (block_at s a) && nat_le greatest_limits.blocks (blocks_in s (shard_at s a))) (reply.ShardFull greatest_limits.blocks))) epoch_is
        ∙ ap (λ b. b && is_none (refused_when (is_none (block_at s a) && nat_le greatest_limits.blocks (blocks_in s (shard_at s a))) (reply.ShardFull greatest_limits.blocks))) tests.0.fresh
        ∙ ap (λ x. is_none (refused_when (is_none x && nat_le greatest_limits.blocks (blocks_in s (shard_at s a))) (reply.ShardFull greatest_limits.blocks))) absent
        ∙ ap (λ b. is_none (refused_when b (reply.ShardFull greatest_limits.blocks))) roomy

    stored_is : t ≡ with_block s a (written s session payload handles)
    stored_is =
        store_is views name cs core shard entry its may called
        ∙ ap (λ (x : Option Happening). with_sessions (happen_by (store_of cs) x) (as_sessions core.sessions)) happens
        ∙ ap (λ b. with_sessions (cond b (with_block (store_of cs) a asked) (store_of cs)) (as_sessions core.sessions)) usable
        ∙ ap (λ (b : Block). with_block s a b) same_block

    leaves : store_with behind (seats_behind shard o r here) ≡ (wrote s session a (written s session payload handles)).store
    unfolding seats_after gained
    leaves =
        hold_is t core.sessions refl session (record { address = a; epoch = now_in (view_for shard o here) } ∷ [])
        ∙ ap (λ n. hold_all t session (record { address = a; epoch = n } ∷ [])) (same_now ∙ now_is)
        ∙ ap (λ (x : Store). hold_all x session (record { address = a; epoch = epoch_at s a } ∷ [])) stored_is

    stored_answer : IsAnsweredBy cs behind core (heard shard entry core) line o
    stored_answer =
        by_parts core shard line entry w o what.Stored r cs behind refl at judges is did told (taken_folds name cs core shard entry its.folded may.of called)
        (wrote s session a (written s session payload handles)) says (replies ∙ ap (λ (j : Judged). j.reply) says) deeds leaves

pub block_answer : ByViews → ByStored → (name : List ℕ → Address) (cs : List Folded) (core : Core) (shard number line least : ℕ) (bytes : List ℕ) → IsLawful name core cs → IsOrderly name core → HoldAddresses core.sessions
    → committed (group_of shard core) ≡ Some (number, kind.Block line least bytes) → MayFollow (setting_of name core) cs (next_deed shard (kind.Block line least bytes) core)
    → (done_by shard (kind.Block line least bytes) core).effect.what ≡ what.Stored
    → HasAnswer cs (folds_behind name cs shard (kind.Block line least bytes) core) core (heard shard (kind.Block line least bytes) core) line
block_answer views law name cs core shard number line least bytes its order all leads may did =
    let h = order.asked shard 0 line (kind.Block line least bytes) (committed_first (group_of shard core) number (kind.Block line least bytes) leads).first refl in
    let b = block_op name core.sessions line least bytes h.waiting.operation.op h.asks in
    has_answer cs (folds_behind name cs shard (kind.Block line least bytes) core) core (heard shard (kind.Block line least bytes) core) line h.waiting (op.Write b.session b.payload b.handles (Some (name bytes))) h.at b.is
    (stored_answer views law name cs core shard number line least bytes b.session b.payload b.handles its order leads may h.waiting h.at b.is b.since b.spells all did)
