-- A Mark that gives its block: what its write is told is a deed, whichever bytes the block has.
use Rattle.std.proofs.Common.{◌≡◌, ◌∙◌, sym, ap, subst, ℕ, ◌+◌, ◌==◌, Bool, true, false, not, ◌&&◌, List, [], ◌∷◌, map, Option, Some, None, is_none, is_some, refl, nat_le}
use Rattle.std.specs.BTreeMap.{insert_entry}
use Rattle.std.specs.Option.{option_map, option_map_or}
use Rattle.hs_answered.specs.Standing.{IsAddressed, IsFolded, store_with}
use Rattle.hs_awaiting.specs.declared.waiting.Waiting.{Waiting}
use Rattle.hs_core_words.specs.Looking.{catalogue_of, front_of, group_of, shape_of}
use Rattle.hs_core_words.specs.Seeing.{view_for}
use Rattle.hs_core_words.specs.State.{Core}
use Rattle.hs_desk.specs.declared.what.What.TheVariants as what
use Rattle.hs_effects.proofs.GroupLemmas.{committed_first}
use Rattle.hs_effects.proofs.SweepLemmas.{ByViews}
use Rattle.hs_effects.specs.Lawful.{IsLawful, MayFollow}
use Rattle.hs_effects.specs.Logged.{HasAsked, IsOrderly, IsOwn}
use Rattle.hs_effects.specs.Taking.{done_by, folds_behind, next_deed, setting_of, taken}
use Rattle.hs_entry.specs.declared.entry.Entry.{Entry}
use Rattle.hs_entry.specs.declared.entry.Entry.TheVariants as kind
use Rattle.hs_fold.specs.Runs.Facts.{Catalogue as Folded}
use Rattle.hs_limits.specs.declared.address.Address.{Address}
use Rattle.hs_limits.specs.declared.address.Held.{Held}
use Rattle.hs_model.specs.declared.op.Op.{Op}
use Rattle.hs_model.specs.declared.op.Op.TheVariants as op
use Rattle.hs_model.specs.declared.reply.Reply.{Reply}
use Rattle.hs_model.specs.declared.reply.Reply.TheVariants as reply
use Rattle.hs_model.specs.Store.{Store, address_cmp, epoch_at, hold_all, next_of}
use Rattle.hs_ops.specs.Speaking.{judging_shard}
use Rattle.hs_ops.specs.Views.{now_in, open_in}
use Rattle.hs_replica.specs.Group.{committed}
use Rattle.hs_shard.specs.declared.facts.Facts.{Facts}
use Rattle.hs_shard.specs.Facts.{Catalogue, facts_at}
use Rattle.hs_standing.specs.Changes.{told_at_once}
use Rattle.hs_tokens.specs.Seats.{Seats}
use Rattle.std.proofs.lemmas.Bool.{eqb-true}
use Rattle.hs_answered.proofs.AnswerLemmas.{session_is}
use Rattle.hs_answered.proofs.ShownLemmas.{held_is}
use Rattle.hs_deeds.proofs.FreeLemmas.{StandsFree, free_at}
use Rattle.hs_deeds.proofs.GrantedLemmas.{fresh_each, is_open}
use Rattle.hs_deeds.proofs.HollowLemmas.{is_there_hollow, pointers_hollow, wrote_hollow}
use Rattle.hs_deeds.specs.On.{DeedsOn}
use Rattle.hs_deeds.specs.Points.{MarksPoint}
use Rattle.hs_effects.proofs.FreeLemmas.{write_free}
use Rattle.hs_effects.proofs.SweepLemmas.{epoch_seen}
use Rattle.hs_journal.specs.declared.entry.JournalEntry.{JournalEntry}
use Rattle.hs_journal.specs.declared.entry.Who.TheVariants as who
use Rattle.hs_limits.specs.Block.{Block}
use Rattle.hs_model.specs.declared.deed.Deed.{Deed}
use Rattle.hs_model.specs.declared.deed.Deed.TheVariants as deed
use Rattle.hs_model.specs.declared.store.StoredBlock.{StoredBlock}
use Rattle.hs_model.specs.Deeds.{DeedEntry, HoldsFresh, IsDeedOf, deed_store}
use Rattle.hs_model.specs.Deeds.{IsMarked as IsMarkedDeed}
use Rattle.hs_model.specs.Hollow.{hollow, looks_at}
use Rattle.hs_model.specs.Judge.{address_of, nothing, pointers_at, wrote}
use Rattle.hs_model.specs.Refusals.{refused_when}
use Rattle.hs_model.specs.Store.{Session, block_at, blocks_with, session_at}
use Rattle.hs_ops.specs.Answers.{deed_of}
use Rattle.hs_ops.specs.Refusals.{refusal_of}
use Rattle.hs_ops.specs.Speaking.{asked_pointers}
use Rattle.hs_any_events.proofs.GivenLemmas.{IsGiven, IsWriteAt, given_is}
use Rattle.hs_ops.specs.Views.{OpView}
use Rattle.hs_core_words.specs.Seeing.{pointers_for}
use Rattle.hs_tokens.specs.Seats.{found}
use Rattle.std.specs.List.{AllByRecursion}
use Rattle.std.specs.Prelude.{unwrap_or}

-- ---- its pointers

-- the pointers that the core finds are those of the store's block, as hs_answered has it
abbrev pub ByPointers : Type 0
ByPointers =
    (cs : List Folded) (core : Core) (o : Op) (a : Address) → IsFolded core cs → IsAddressed core.sessions o → looks_at (store_with cs core.sessions) o ≡ Some a
    → pointers_for (judging_shard (shape_of core).shards core.sessions o) o core ≡ pointers_at (store_with cs core.sessions) a

-- ---- what it leaves

module _ (Known : List DeedEntry → Type 0) (views : ByViews) (shown_pointers : ByPointers) (name : List ℕ → Address) (cs : List Folded) (core : Core) (shard number line least block : ℕ) (a : Address) (its : IsLawful name core cs) (order : IsOrderly name core)
    (leads : committed (group_of shard core) ≡ Some (number, kind.Mark line least block a)) (may : MayFollow (setting_of name core) cs (next_deed shard (kind.Mark line least block a) core))
    (did : (done_by shard (kind.Mark line least block a) core).effect.what ≡ what.Marked) (points : MarksPoint core) where
  abbrev entry : Entry
  entry = kind.Mark line least block a

  abbrev here : Core
  here = taken shard entry core

  abbrev behind : List Folded
  behind = folds_behind name cs shard entry core

  abbrev s : Store
  s = store_with cs core.sessions

  abbrev t : Store
  t = store_with behind core.sessions

  abbrev old : Catalogue
  old = catalogue_of shard core

  g : IsGiven name cs core shard line least block a
  g = given_is views name cs core shard number line least block a its order leads may did

  abbrev asked : HasAsked name core shard (front_of shard core + 1 + 0) line (kind.Mark line least block a)
  asked = g.asked

  abbrev w : Waiting
  w = g.asked.waiting

  abbrev write : IsWriteAt core.sessions least a g.asked.waiting.operation.op
  write = g.write

  abbrev o : Op
  o = op.Write g.write.session g.write.payload g.write.handles (Some a)

  abbrev held : Held
  held = record { address = a; epoch = epoch_at s a }

  abbrev r : Reply
  r = reply.Dup (next_of (open_in (view_for shard o here) write.session)) (now_in (view_for shard o here))

  -- ---- what it is told

  abbrev v : OpView
  v = view_for shard (op.Write write.session write.payload write.handles (Some a)) core

  own : IsOwn core.limits core.sessions o
  own = subst (λ (x : Op). IsOwn core.limits core.sessions x) write.is asked.own

  there_is : (block : ℕ) (x : Option Facts) → option_map_or (λ (f : Facts). f.number == block) x false ≡ true → (f : Facts) × (x ≡ Some f) × (f.number ≡ block)
  there_is block None e = absurd (cc e)
  there_is block (Some f) e = (f, refl, eqb-true f.number block e)

  known_there : (f : Facts) × (facts_at a (catalogue_of shard core) ≡ Some f) × (f.number ≡ block)
  known_there = there_is block (facts_at a old) g.tests.there

  present_is : is_some (view_for shard (op.Write write.session write.payload write.handles (Some a)) core).present ≡ true
  present_is = ap (λ (x : Option Facts). is_some (option_map (λ (f : Facts). f.number) x)) known_there.1

  no_room_asked : (x : Option ℕ) (room : Bool) (q : Reply) → is_some x ≡ true → refused_when (is_none x && not room) q ≡ None
  no_room_asked None room q e = absurd (cc e)
  no_room_asked (Some number) room q e = refl

  free : refusal_of (view_for shard (op.Write write.session write.payload write.handles (Some a)) core) (op.Write write.session write.payload write.handles (Some a)) ≡ None
  free =
      write_free v write.session write.payload write.handles (Some a) refl own
      (ap (λ k. nat_le (now_in v) (k + 1)) (sym write.least_is) ∙ ap (λ n. nat_le n (least + 1)) (epoch_seen views name cs core shard entry its may refl) ∙ g.tests.fresh)
      (no_room_asked v.present v.room (reply.ShardFull core.limits.blocks) present_is)

  stands : StandsFree core.limits (store_with cs core.sessions) write.session write.payload write.handles a
  stands = free_at core.limits s v write.session write.payload write.handles a g.shows free

  there_in_store : is_some (block_at (store_with cs core.sessions) a) ≡ true
  there_in_store = sym (g.shows.present a refl) ∙ present_is

  -- the block that is there points to what its handles stand for
  pointers_there : pointers_at (hollow (store_with cs core.sessions)) a ≡ map (λ handle. address_of (store_with cs core.sessions) write.session handle) write.handles
  pointers_there =
      pointers_hollow s a
      ∙ sym (subst (λ (k : ℕ). pointers_for k o core ≡ pointers_at s a) g.place (shown_pointers cs core o a its.folded refl refl))
      ∙ ap (λ (x : Option Facts). option_map_or (λ (f : Facts). f.pointers) x []) known_there.1
      ∙ points shard 0 line least block a w (committed_first (group_of shard core) number entry leads).first asked.at write.session write.payload write.handles known_there.0 write.is known_there.1 known_there.2
      ∙ each write.handles
    where
      one : (handle : ℕ) → (found core.sessions write.session handle).address ≡ address_of (store_with cs core.sessions) write.session handle
      one handle = ap (λ (held : Option Held). (unwrap_or held nothing).address) (sym (held_is s core.sessions refl write.session handle))

      each : (hs : List ℕ) → asked_pointers core.sessions write.session hs ≡ map (λ handle. address_of (store_with cs core.sessions) write.session handle) hs
      each [] = refl
      each (h ∷ hs) = λ i. one h i ∷ each hs i

  dup_deed : (seats : Seats) (session payload handles : List ℕ) (handle epoch : ℕ) → deed_of seats (op.Write session payload handles (Some a)) (reply.Dup handle epoch) ≡ deed.Marked session a handle
  unfolding deed_of
  dup_deed seats session payload handles handle epoch = refl

  -- what is told
  abbrev mine : JournalEntry
  mine = record { who = who.Line line; moment = core.moment; deed = deed_of core.sessions w.operation.op r; reply = r }

  deed_is : deed_of core.sessions asked.waiting.operation.op (reply.Dup (next_of (open_in (view_for shard (op.Write write.session write.payload write.handles (Some a)) here) write.session)) (now_in (view_for shard (op.Write write.session write.payload write.handles (Some a)) here))) ≡ deed.Marked write.session a (next_of (open_in (view_for shard (op.Write write.session write.payload write.handles (Some a)) here) write.session))
  deed_is = ap (λ (p : Op). deed_of core.sessions p r) write.is ∙ dup_deed core.sessions write.session write.payload write.handles (next_of (open_in (view_for shard o here) write.session)) (now_in (view_for shard o here))

  next_is : next_of (open_in (view_for shard (op.Write write.session write.payload write.handles (Some a)) here) write.session) ≡ next_of (session_at (store_with cs core.sessions) write.session)
  next_is = ap (λ (x : Option Session). next_of x) (sym (session_is s core.sessions refl write.session))

  is_marked : IsMarkedDeed (hollow (store_with cs core.sessions)) write.session a (next_of (open_in (view_for shard (op.Write write.session write.payload write.handles (Some a)) here) write.session)) r
  is_marked = record {
    is_open = is_open (session_at s write.session) (reply.NoSession write.session) stands.session;
    present = is_there_hollow s a ∙ there_in_store;
    held = subst (λ (ps : List Address). AllByRecursion (HoldsFresh (hollow s) write.session (epoch_at s a)) ps) (sym pointers_there) (fresh_each (hollow s) write.session (epoch_at s a) write.handles stands.held stands.fresh);
    next = next_is;
    reply = ap (λ (n : ℕ). reply.Dup (next_of (open_in (view_for shard o here) write.session)) n) g.now_is;
  }

  -- the store that it leaves
  with_it : (x : Option StoredBlock) → is_some x ≡ true → (blocks : List (Address × StoredBlock)) (block : Block) (epoch : ℕ) → blocks_with x blocks a block epoch ≡ blocks
  with_it None e blocks block epoch = absurd (cc e)
  with_it (Some stored) e blocks block epoch = refl

  left_is : store_with behind (told_at_once shard (kind.Mark line least block a) core).sessions ≡ (wrote (store_with cs core.sessions) write.session a (record { pointers = pointers_at (store_with cs core.sessions) a; bytes = [] })).store
  left_is =
      g.left
      ∙ ap (λ (x : Store). hold_all x write.session (held ∷ [])) g.behind_is
      ∙ ap (λ (es : List (Address × StoredBlock)). hold_all (record s { blocks = es; given = insert_entry address_cmp s.given a (epoch_at s a) }) write.session (held ∷ [])) (sym (with_it (block_at s a) there_in_store s.blocks (record { pointers = pointers_at s a; bytes = [] }) (epoch_at s a)))

  pub given_deeds : DeedsOn Known core.limits cs (folds_behind name cs shard (kind.Mark line least block a) core) core (told_at_once shard (kind.Mark line least block a) core)
  given_deeds = record {
    more = mine ∷ [];
    journal = ap (λ (c : Core). c.journal) g.told_is;
    refused = ap (λ (c : Core). c.refused) g.told_is;
    told = ap (λ (c : Core). c.entries) g.told_is;
    deeds = λ before k. (
      record { printed = refl; done = subst (λ (d : Deed). IsDeedOf core.limits (hollow s) before d r) (sym deed_is) is_marked },
      tt,
    );
    left =
        ap (λ (d : Deed). deed_store (hollow s) d) deed_is
        ∙ ap (λ (ps : List Address). (wrote (hollow s) write.session a (record { pointers = ps; bytes = [] })).store) (pointers_hollow s a)
        ∙ sym (wrote_hollow s write.session a (record { pointers = pointers_at s a; bytes = [] }))
        ∙ sym (ap (λ (x : Store). hollow x) left_is);
  }
