-- A Mark that gives the block which is there.
use Rattle.std.proofs.Common.{◌≡◌, ◌∙◌, sym, ap, subst, inl, inr, ℕ, ◌+◌, Bool, true, false, cond, not, ◌&&◌, ◌==◌, List, [], ◌∷◌, Option, Some, None, is_none, is_some, refl, nat_le, slice_index}
use Rattle.std.proofs.lemmas.Map.Made.{lookup-map_values}
use Rattle.std.specs.BTreeMap.{insert_entry, is_at}
use Rattle.std.specs.Map.{lookup}
use Rattle.std.specs.Option.{option_map, option_map_or}
use Rattle.hs_answered.specs.Judged.{judged_at}
use Rattle.hs_answered.specs.Standing.{store_with}
use Rattle.hs_answered.proofs.AnswerLemmas.{hold_is, session_is}
use Rattle.hs_awaiting.specs.declared.waiting.Waiting.{Waiting}
use Rattle.hs_core_words.specs.Looking.{catalogue_of, front_of, group_of, operation_of, shape_of}
use Rattle.hs_core_words.specs.Seeing.{view_for}
use Rattle.hs_core_words.specs.State.{Core}
use Rattle.hs_desk.specs.declared.what.What.TheVariants as what
use Rattle.hs_effects.specs.Answered.{HasAnswer, IsAnsweredBy, IsWritten, heard}
use Rattle.hs_effects.specs.Lawful.{IsLawful, MayFollow}
use Rattle.hs_effects.specs.Logged.{HasAsked, IsCalled, IsEntryOf, IsOrderly, IsOwn}
use Rattle.hs_effects.specs.Taking.{done_by, folds_behind, next_deed, setting_of, taken}
use Rattle.hs_effects.proofs.AnsweredLemmas.{by_parts, granted_is, has_answer, seats_behind, some_same}
use Rattle.hs_effects.proofs.FoldLemmas.{memory_at, taken_folds}
use Rattle.hs_effects.proofs.FreeLemmas.{own_block, write_free}
use Rattle.hs_effects.proofs.GroupLemmas.{committed_first}
use Rattle.hs_effects.proofs.SweepLemmas.{ByViews, epoch_before, epoch_left, epoch_seen, store_is}
use Rattle.hs_entry.specs.declared.entry.Entry.{Entry}
use Rattle.hs_entry.specs.declared.entry.Entry.TheVariants as kind
use Rattle.hs_fold.specs.Runs.Facts.{Catalogue as Folded}
use Rattle.hs_fold.specs.Runs.Facts.{Facts as FoldedFacts}
use Rattle.hs_fold.specs.Runs.Fits.{catalogue_at}
use Rattle.hs_fold.specs.Runs.Opened.{store_of}
use Rattle.hs_fold.specs.Shards.Change.{gives}
use Rattle.hs_fold.specs.Shards.Happening.{Happening, changes, happen_by, mark_happens}
use Rattle.hs_joint.specs.Along.{happening_by}
use Rattle.hs_limits.specs.declared.address.Address.{Address}
use Rattle.hs_limits.specs.declared.limits.Limits.{Limits}
use Rattle.hs_memory.specs.Forget.{forget, known_of}
use Rattle.hs_model.specs.declared.deed.Deed.TheVariants as deed
use Rattle.hs_model.specs.declared.op.Op.{Op}
use Rattle.hs_model.specs.declared.op.Op.TheVariants as op
use Rattle.hs_model.specs.declared.reply.Reply.{Reply}
use Rattle.hs_model.specs.declared.reply.Reply.TheVariants as reply
use Rattle.hs_model.specs.declared.store.StoredBlock.{StoredBlock}
use Rattle.hs_model.specs.Judge.{Judged, given_address, granted, judge, written, written_deed, wrote}
use Rattle.hs_model.specs.Refusals.{is_block, refused_when}
use Rattle.hs_model.specs.Store.{Session, Store, address_cmp, block_at, blocks_with, epoch_at, hold_all, next_of, session_at, with_block, with_sessions}
use Rattle.hs_ops.specs.Answers.{deed_of, gained, is_done, seats_after}
use Rattle.hs_ops.specs.Going.{effect_reply}
use Rattle.hs_ops.specs.Refusals.{refusal_of}
use Rattle.hs_ops.specs.Speaking.{helds, judging_shard, least_epoch}
use Rattle.hs_ops.specs.Views.{OpView, now_in, open_in}
use Rattle.hs_replica.specs.Group.{committed}
use Rattle.hs_shard.specs.declared.facts.Facts.{Facts}
use Rattle.hs_shard.specs.Clients.{Applied, change_at, give, mark_block, only}
use Rattle.hs_shard.specs.Facts.{Catalogue, facts_at, is_fresh}
use Rattle.hs_shown.specs.Showing.{Shows, as_sessions}
use Rattle.hs_tokens.specs.Seats.{Seats}

-- what hs_shown says of a block that was there
abbrev pub ByMarked : Type 0
ByMarked = (limits : Limits) (s : Store) (v : OpView) (name payload handles : List ℕ) (address : Option Address) (stored : StoredBlock)
    → Shows limits s (op.Write name payload handles address) v → refusal_of v (op.Write name payload handles address) ≡ None
    → block_at s (given_address address) ≡ Some stored → is_block stored (written s name payload handles) ≡ true
    → effect_reply v what.Marked (op.Write name payload handles address) ≡ Some (judge limits s (op.Write name payload handles address)).reply

-- ---- what marking means

pub record IsMarked (least block : ℕ) (a : Address) (c : Catalogue) : Type 0 where
  pub there : option_map_or (λ (f : Facts). f.number == block) (facts_at a c) false ≡ true
  pub fresh : is_fresh least c ≡ true
  pub epoch : (mark_block least block a c).catalogue.epoch ≡ c.epoch

pub marked_tests : (least block : ℕ) (a : Address) (c : Catalogue) → (mark_block least block a c).effect.what ≡ what.Marked → IsMarked least block a c
marked_tests least block a c e = go (option_map_or (λ (f : Facts). f.number == block) (facts_at a c) false) (is_fresh least c) refl refl e
  where
    by : Bool → Bool → Applied
    by b f = cond (not b) (only what.Again c) (cond (not f) (only what.Refused c) (only what.Marked (record c { blocks = change_at a (give c.epoch) c.blocks })))

    go : (b f : Bool) → option_map_or (λ (x : Facts). x.number == block) (facts_at a c) false ≡ b → is_fresh least c ≡ f → (by b f).effect.what ≡ what.Marked → IsMarked least block a c
    go false f be fe w = absurd (cc w)
    go true false be fe w = absurd (cc w)
    go true true be fe w = record { there = be; fresh = fe; epoch = ap (λ b. (by b (is_fresh least c)).catalogue.epoch) be ∙ ap (λ f. (by true f).catalogue.epoch) fe }

none_known : (block : ℕ) (x : Option FoldedFacts) → option_map_or (λ (f : Facts). f.number == block) (option_map known_of x) false ≡ true → (least : ℕ) (a : Address)
    → mark_happens (option_map (λ (f : FoldedFacts). f.present) x) least block a ≡ Some (changes (gives least a))
none_known block None e least a = absurd (cc e)
none_known block (Some f) e least a = ap (λ b. cond b (Some (changes (gives least a))) None) e

some_there : (block : ℕ) (x : Option Facts) → option_map_or (λ (f : Facts). f.number == block) x false ≡ true → is_some (option_map (λ (f : Facts). f.number) x) ≡ true
some_there block None e = absurd (cc e)
some_there block (Some f) e = refl

-- a block that is there needs no room
no_room_asked : (x : Option ℕ) (room : Bool) (r : Reply) → is_some x ≡ true → refused_when (is_none x && not room) r ≡ None
no_room_asked None room r e = absurd (cc e)
no_room_asked (Some number) room r e = refl

grants : (s : Store) (session payload handles : List ℕ) (a : Address) → granted s (op.Write session payload handles (Some a)) ≡ wrote s session a (written s session payload handles)
unfolding granted
grants s session payload handles a = refl

dup_deed : (seats : Seats) (session payload handles : List ℕ) (a : Address) (handle epoch : ℕ)
    → deed_of seats (op.Write session payload handles (Some a)) (reply.Dup handle epoch) ≡ deed.Marked session a handle
unfolding deed_of
dup_deed seats session payload handles a handle epoch = refl

module _ (views : ByViews) (law : ByMarked) (name : List ℕ → Address) (cs : List Folded) (core : Core) (shard number line least block : ℕ) (a : Address) (session payload handles : List ℕ) where
  abbrev entry : Entry
  entry = kind.Mark line least block a

  abbrev o : Op
  o = op.Write session payload handles (Some a)

  module _ (its : IsLawful name core cs) (order : IsOrderly name core) (leads : committed (group_of shard core) ≡ Some (number, entry)) (may : MayFollow (setting_of name core) cs (next_deed shard entry core))
      (w : Waiting) (at : operation_of line core ≡ Some w) (is : w.operation.op ≡ o) (least_is : least ≡ least_epoch (helds core.sessions session handles)) (did : (done_by shard entry core).effect.what ≡ what.Marked) where
    abbrev here : Core
    here = taken shard entry core

    abbrev s : Store
    s = store_with cs core.sessions

    abbrev behind : List Folded
    behind = folds_behind name cs shard entry core

    abbrev t : Store
    t = store_with behind core.sessions

    abbrev old : Catalogue
    old = catalogue_of shard core

    abbrev v : OpView
    v = view_for shard o core

    h : HasAsked name core shard (front_of shard core + 1 + 0) line entry
    h = order.asked shard 0 line entry (committed_first (group_of shard core) number entry leads).first refl

    judges : w.shard ≡ shard
    judges = ap (λ (x : Waiting). x.shard) (some_same w h.waiting (sym at ∙ h.at)) ∙ h.judges

    place : judging_shard (shape_of core).shards core.sessions o ≡ shard
    place = ap (λ p. judging_shard (shape_of core).shards core.sessions p) (sym is) ∙ sym (order.pending line w at).judges ∙ judges

    shows : Shows core.limits s o v
    shows = subst (λ k. Shows core.limits s o (view_for k o core)) place (views cs core o its.folded refl)

    tests : IsMarked least block a old
    tests = marked_tests least block a old did

    same_now : now_in (view_for shard o here) ≡ now_in v
    same_now =
        epoch_left views name cs core shard entry its may refl ∙ tests.epoch
        ∙ sym (epoch_seen views name cs core shard entry its may refl)

    now_is : now_in v ≡ epoch_at s a
    now_is = ap (λ (es : List ℕ). slice_index es shard) shows.epochs ∙ ap (λ k. slice_index s.epochs k) shows.judging

    epoch_is : epoch_at s a ≡ old.epoch
    epoch_is = ap (λ k. slice_index s.epochs k) (sym shows.judging) ∙ epoch_before views name cs core shard entry its may refl

    -- what its operation saw before refuses nothing
    own : IsOwn core.limits core.sessions o
    own = subst (λ (x : Op). IsOwn core.limits core.sessions x) (ap (λ (x : Waiting). x.operation.op) (some_same h.waiting w (sym h.at ∙ at)) ∙ is) h.own

    there : is_some v.present ≡ true
    there = some_there block (facts_at a old) tests.there

    free : refusal_of v o ≡ None
    free =
        write_free v session payload handles (Some a) refl own
        (ap (λ k. nat_le (now_in v) (k + 1)) (sym least_is) ∙ ap (λ n. nat_le n (least + 1)) (epoch_seen views name cs core shard entry its may refl) ∙ tests.fresh)
        (no_room_asked v.present v.room (reply.ShardFull core.limits.blocks) there)

    module _ (stored : StoredBlock) (present : block_at (store_with cs core.sessions) a ≡ Some stored) (same : is_block stored (written (store_with cs core.sessions) session payload handles) ≡ true) where
      -- what the operation is told
      abbrev r : Reply
      r = reply.Dup (next_of (open_in (view_for shard (op.Write session payload handles (Some a)) core) session)) (now_in (view_for shard (op.Write session payload handles (Some a)) core))

      told : effect_reply (view_for shard o here) what.Marked o ≡ Some r
      told = ap (λ n. Some (reply.Dup (next_of (open_in v session)) n)) same_now

      replies : r ≡ (judge core.limits s o).reply
      replies = some_same r (judge core.limits s o).reply (law core.limits s v session payload handles (Some a) stored shows free present same)

      says : judged_at cs core o ≡ wrote s session a (written s session payload handles)
      says = granted_is core.limits s o (ap (λ q. is_done q) (sym replies)) ∙ grants s session payload handles a

      deeds : deed_of core.sessions o r ≡ (wrote s session a (written s session payload handles)).deed
      deeds =
          dup_deed core.sessions session payload handles a (next_of (open_in v session)) (now_in v)
          ∙ ap (λ (x : Option Session). deed.Marked session a (next_of x)) (sym (session_is s core.sessions refl session))
          ∙ ap (λ (x : Option StoredBlock). written_deed (is_some x) session a (written s session payload handles).pointers (next_of (session_at s session))) (sym present)

      -- ---- the store

      mem : old ≡ forget (shape_of core) shard (catalogue_at cs shard)
      mem = memory_at name cs core shard entry its.folded may.of

      known : option_map_or (λ (f : Facts). f.number == block) (option_map known_of (lookup (is_at (address_cmp a)) (catalogue_at cs shard).blocks)) false ≡ true
      known =
          ap (λ x. option_map_or (λ (f : Facts). f.number == block) x false) (sym (lookup-map_values known_of (is_at (address_cmp a)) (catalogue_at cs shard).blocks))
          ∙ ap (λ (c : Catalogue). option_map_or (λ (f : Facts). f.number == block) (facts_at a c) false) (sym mem) ∙ tests.there

      happens : happening_by (setting_of name core) cs (next_deed shard entry core) ≡ Some (changes (gives least a))
      happens =
          ap (λ x. mark_happens x least block a) (lookup-map_values (λ (f : FoldedFacts). f.present) (is_at (address_cmp a)) (catalogue_at cs shard).blocks)
          ∙ none_known block (lookup (is_at (address_cmp a)) (catalogue_at cs shard).blocks) known least a

      marked_is : t ≡ with_block s a (written s session payload handles)
      marked_is =
          store_is views name cs core shard entry its may refl
          ∙ ap (λ (x : Option Happening). with_sessions (happen_by (store_of cs) x) (as_sessions core.sessions)) happens
          ∙ ap (λ b. with_sessions (cond b (record (store_of cs) { given = insert_entry address_cmp (store_of cs).given a (epoch_at (store_of cs) a) }) (store_of cs)) (as_sessions core.sessions))
          (ap (λ n. nat_le n (least + 1)) epoch_is ∙ tests.fresh)
          ∙ ap (λ x. record s { blocks = blocks_with x s.blocks a (written s session payload handles) (epoch_at s a); given = insert_entry address_cmp s.given a (epoch_at s a) }) (sym present)

      leaves : store_with behind (seats_behind shard o r here) ≡ (wrote s session a (written s session payload handles)).store
      unfolding seats_after gained
      leaves =
          hold_is t core.sessions refl session (record { address = a; epoch = now_in (view_for shard o here) } ∷ [])
          ∙ ap (λ n. hold_all t session (record { address = a; epoch = n } ∷ [])) (same_now ∙ now_is)
          ∙ ap (λ (x : Store). hold_all x session (record { address = a; epoch = epoch_at s a } ∷ [])) marked_is

      marked_answer : IsAnsweredBy cs behind core (heard shard entry core) line o
      marked_answer =
          by_parts core shard line entry w o what.Marked r cs behind refl at judges is did told (taken_folds name cs core shard entry its.folded may.of refl)
          (wrote s session a (written s session payload handles)) says (replies ∙ ap (λ (j : Judged). j.reply) says) deeds leaves

    by_there : IsWritten cs core line a → IsAnsweredBy cs behind core (heard shard entry core) line o
    by_there written = go (block_at s a) refl (sym (shows.present a refl) ∙ there)
      where
        go : (x : Option StoredBlock) → block_at s a ≡ x → is_some x ≡ true → IsAnsweredBy cs behind core (heard shard entry core) line o
        go None is_at some = absurd (cc some)
        go (Some stored) is_at some = marked_answer stored is_at (written w session payload handles stored at is is_at)

-- ---- the operation of its line

-- an operation that asks for a Mark is a write at its address
record IsMarkOp (seats : Seats) (least : ℕ) (a : Address) (o : Op) : Type 0 where
  pub session : List ℕ
  pub payload : List ℕ
  pub handles : List ℕ
  pub is : o ≡ op.Write session payload handles (Some a)
  pub since : least ≡ least_epoch (helds seats session handles)

mark_op : (name : List ℕ → Address) (limits : Limits) (seats : Seats) (line least block : ℕ) (a : Address) (o : Op) → IsEntryOf name seats line o (kind.Mark line least block a) → IsCalled name seats o → IsOwn limits seats o → IsMarkOp seats least a o
mark_op name limits seats line least block a (op.Write session payload handles address) asks called own = go asks
  where
    go : IsEntryOf name seats line (op.Write session payload handles address) (kind.Mark line least block a) → IsMarkOp seats least a (op.Write session payload handles address)
    go (inl is) = absurd (cc is.0)
    go (inr is) =
        let names = called (own_block limits seats session payload handles address own) in
        let given : a ≡ given_address address = cc is.1 in
        record {
          session = session;
          payload = payload;
          handles = handles;
          is = ap (λ x. op.Write session payload handles x) (names ∙ ap (λ x. Some x) (sym (ap (λ x. given_address x) names)) ∙ ap (λ x. Some x) (sym given));
          since = cc is.1;
        }
mark_op name limits seats line least block a (op.Root session key handle) asks called own = absurd (cc asks)
mark_op name limits seats line least block a (op.Drop key) asks called own = absurd (cc asks)
mark_op name limits seats line least block a op.Delete asks called own = absurd (cc asks.1)
mark_op name limits seats line least block a (op.Open session) asks called own = absurd asks
mark_op name limits seats line least block a (op.Close session) asks called own = absurd asks
mark_op name limits seats line least block a (op.Read session handle) asks called own = absurd asks
mark_op name limits seats line least block a (op.Look session key) asks called own = absurd asks
mark_op name limits seats line least block a (op.Forget session handle) asks called own = absurd asks
mark_op name limits seats line least block a (op.Name session handle) asks called own = absurd asks
mark_op name limits seats line least block a op.Stat asks called own = absurd asks

pub mark_answer : ByViews → ByMarked → (name : List ℕ → Address) (cs : List Folded) (core : Core) (shard number line least block : ℕ) (a : Address) → IsLawful name core cs → IsOrderly name core → IsWritten cs core line a
    → committed (group_of shard core) ≡ Some (number, kind.Mark line least block a) → MayFollow (setting_of name core) cs (next_deed shard (kind.Mark line least block a) core)
    → (done_by shard (kind.Mark line least block a) core).effect.what ≡ what.Marked
    → HasAnswer cs (folds_behind name cs shard (kind.Mark line least block a) core) core (heard shard (kind.Mark line least block a) core) line
mark_answer views law name cs core shard number line least block a its order written leads may did =
    let h = order.asked shard 0 line (kind.Mark line least block a) (committed_first (group_of shard core) number (kind.Mark line least block a) leads).first refl in
    let m = mark_op name core.limits core.sessions line least block a h.waiting.operation.op h.asks (order.pending line h.waiting h.at).called h.own in
    has_answer cs (folds_behind name cs shard (kind.Mark line least block a) core) core (heard shard (kind.Mark line least block a) core) line h.waiting (op.Write m.session m.payload m.handles (Some a)) h.at m.is
    (by_there views law name cs core shard number line least block a m.session m.payload m.handles its order leads may h.waiting h.at m.is m.since did written)
