-- A Mark that gives its block, whatever its write writes: what it leaves, and that the plain store is valid then, since what the operation holds was given.
use Rattle.std.proofs.Common.{◌≡◌, ◌∙◌, sym, ap, subst, inl, inr, ℕ, ◌+◌, ◌==◌, true, false, cond, List, [], ◌∷◌, Option, Some, None, refl, nat_le, le_refl, slice_index}
use Rattle.std.proofs.lemmas.Map.Made.{lookup-map_values}
use Rattle.std.specs.BTreeMap.{insert_entry, is_at}
use Rattle.std.specs.Map.{lookup}
use Rattle.std.specs.Option.{option_map, option_map_or}
use Rattle.hs_answered.proofs.AnswerLemmas.{hold_is}
use Rattle.hs_answered.specs.Standing.{store_with}
use Rattle.hs_awaiting.specs.declared.waiting.Waiting.{Waiting}
use Rattle.hs_awaiting.specs.Words.{change_with}
use Rattle.hs_core_words.specs.Effects.{tell_operation}
use Rattle.hs_core_words.specs.Looking.{catalogue_of, front_of, group_of, shape_of}
use Rattle.hs_core_words.specs.Operating.{take_step}
use Rattle.hs_core_words.specs.Seeing.{view_for}
use Rattle.hs_core_words.specs.State.{Core}
use Rattle.hs_desk.specs.declared.what.What.{What}
use Rattle.hs_desk.specs.declared.what.What.TheVariants as what
use Rattle.hs_effects.proofs.AnsweredLemmas.{seats_behind}
use Rattle.hs_effects.proofs.FoldLemmas.{memory_at}
use Rattle.hs_effects.proofs.FreeLemmas.{own_block}
use Rattle.hs_effects.proofs.GroupLemmas.{committed_first}
use Rattle.hs_effects.proofs.MarkLemmas.{IsMarked, marked_tests}
use Rattle.hs_effects.proofs.SweepLemmas.{ByViews, epoch_before, epoch_left, store_is}
use Rattle.hs_effects.specs.Lawful.{IsLawful, MayFollow}
use Rattle.hs_effects.specs.Logged.{HasAsked, IsCalled, IsEntryOf, IsOrderly, IsOwn}
use Rattle.hs_effects.specs.Taking.{done_by, folds_behind, next_deed, setting_of, taken}
use Rattle.hs_entry.specs.declared.entry.Entry.{Entry}
use Rattle.hs_entry.specs.declared.entry.Entry.TheVariants as kind
use Rattle.hs_fold.specs.Runs.Facts.{Catalogue as Folded}
use Rattle.hs_fold.specs.Runs.Facts.{Facts as FoldedFacts}
use Rattle.hs_fold.specs.Runs.Fits.{catalogue_at}
use Rattle.hs_fold.specs.Runs.Opened.{store_of}
use Rattle.hs_fold.specs.Shards.Change.{gives}
use Rattle.hs_fold.specs.Shards.Happening.{Happening, changes, happen_by, mark_happens}
use Rattle.hs_joint.specs.Along.{happening_by}
use Rattle.hs_laws.proofs.EpochLemmas.{nat_le-true}
use Rattle.hs_laws.proofs.HoldKeeps.{hold_all_valid}
use Rattle.hs_laws.proofs.InsertLemmas.{insert-has}
use Rattle.hs_laws.proofs.ValidLemmas.{is_from_valid, starts-given, valid_from_is}
use Rattle.hs_laws.specs.Valid.{IsValid, rests_on, stands_in}
use Rattle.hs_limits.specs.declared.address.Address.{Address}
use Rattle.hs_limits.specs.declared.address.Held.{Held}
use Rattle.hs_limits.specs.declared.limits.Limits.{Limits}
use Rattle.hs_memory.specs.Forget.{forget, known_of}
use Rattle.hs_model.proofs.Members.{Member}
use Rattle.hs_model.proofs.ReachLemmas.{Reaches, start}
use Rattle.hs_model.specs.declared.op.Op.{Op}
use Rattle.hs_model.specs.declared.op.Op.TheVariants as op
use Rattle.hs_model.specs.declared.reply.Reply.{Reply}
use Rattle.hs_model.specs.declared.reply.Reply.TheVariants as reply
use Rattle.hs_model.specs.Judge.{given_address}
use Rattle.hs_model.specs.Store.{Root, Store, address_cmp, epoch_at, hold_all, next_of, with_sessions}
use Rattle.hs_ops.specs.Answers.{gained, seats_after}
use Rattle.hs_ops.specs.declared.step.OpStep.{OpStep}
use Rattle.hs_ops.specs.declared.step.OpStep.TheVariants.{Answer}
use Rattle.hs_ops.specs.Going.{on_effect}
use Rattle.hs_ops.specs.Operations.{effect_step}
use Rattle.hs_ops.specs.Speaking.{helds, judging_shard, least_epoch}
use Rattle.hs_ops.specs.Views.{now_in, open_in}
use Rattle.hs_replica.specs.Group.{committed}
use Rattle.hs_shard.specs.declared.facts.Facts.{Facts}
use Rattle.hs_shard.specs.Facts.{Catalogue, facts_at}
use Rattle.hs_shown.specs.Showing.{Shows, as_sessions}
use Rattle.hs_standing.proofs.ValidLemmas.{valid_behind}
use Rattle.hs_standing.specs.Changes.{told_at_once}
use Rattle.hs_tokens.specs.Seats.{Seats}

-- ---- the write of a Mark

-- an operation that asks for a Mark writes at its address
pub record IsWriteAt (seats : Seats) (least : ℕ) (a : Address) (o : Op) : Type 0 where
  pub session : List ℕ
  pub payload : List ℕ
  pub handles : List ℕ
  pub is : o ≡ op.Write session payload handles (Some a)
  pub least_is : least ≡ least_epoch (helds seats session handles)

write_at : (name : List ℕ → Address) (limits : Limits) (seats : Seats) (line least block : ℕ) (a : Address) (o : Op) → IsEntryOf name seats line o (kind.Mark line least block a) → IsCalled name seats o → IsOwn limits seats o → IsWriteAt seats least a o
write_at name limits seats line least block a (op.Write session payload handles address) asks called own = go asks
  where
    go : IsEntryOf name seats line (op.Write session payload handles address) (kind.Mark line least block a) → IsWriteAt seats least a (op.Write session payload handles address)
    go (inl is) = absurd (cc is.0)
    go (inr is) =
        let names = called (own_block limits seats session payload handles address own) in
        let given : a ≡ given_address address = cc is.1 in
        record {
          session = session;
          payload = payload;
          handles = handles;
          is = ap (λ x. op.Write session payload handles x) (names ∙ ap (λ x. Some x) (sym (ap (λ x. given_address x) names)) ∙ ap (λ x. Some x) (sym given));
          least_is = cc is.1;
        }
write_at name limits seats line least block a (op.Root session key handle) asks called own = absurd (cc asks)
write_at name limits seats line least block a (op.Drop key) asks called own = absurd (cc asks)
write_at name limits seats line least block a op.Delete asks called own = absurd (cc asks.1)
write_at name limits seats line least block a (op.Open session) asks called own = absurd asks
write_at name limits seats line least block a (op.Close session) asks called own = absurd asks
write_at name limits seats line least block a (op.Read session handle) asks called own = absurd asks
write_at name limits seats line least block a (op.Look session key) asks called own = absurd asks
write_at name limits seats line least block a (op.Forget session handle) asks called own = absurd asks
write_at name limits seats line least block a (op.Name session handle) asks called own = absurd asks
write_at name limits seats line least block a op.Stat asks called own = absurd asks

-- the block of the Mark's entry is there, so that something happens
gives_there : (block : ℕ) (x : Option FoldedFacts) → option_map_or (λ (f : Facts). f.number == block) (option_map known_of x) false ≡ true → (least : ℕ) (a : Address)
    → mark_happens (option_map (λ (f : FoldedFacts). f.present) x) least block a ≡ Some (changes (gives least a))
gives_there block None e least a = absurd (cc e)
gives_there block (Some f) e least a = ap (λ b. cond b (Some (changes (gives least a))) None) e

-- what is so where its entry takes effect and gives it
pub record IsGiven (name : List ℕ → Address) (cs : List Folded) (core : Core) (shard line least block : ℕ) (a : Address) : Type 0 where
  pub asked : HasAsked name core shard (front_of shard core + 1 + 0) line (kind.Mark line least block a)
  pub write : IsWriteAt core.sessions least a asked.waiting.operation.op
  pub place : judging_shard (shape_of core).shards core.sessions (op.Write write.session write.payload write.handles (Some a)) ≡ shard
  pub shows : Shows core.limits (store_with cs core.sessions) (op.Write write.session write.payload write.handles (Some a)) (view_for shard (op.Write write.session write.payload write.handles (Some a)) core)
  pub tests : IsMarked least block a (catalogue_of shard core)
  pub now_is : now_in (view_for shard (op.Write write.session write.payload write.handles (Some a)) (taken shard (kind.Mark line least block a) core)) ≡ epoch_at (store_with cs core.sessions) a
  pub behind_is : store_with (folds_behind name cs shard (kind.Mark line least block a) core) core.sessions
      ≡ with_sessions (record (store_of cs) { given = insert_entry address_cmp (store_of cs).given a (epoch_at (store_of cs) a) }) (as_sessions core.sessions)
  pub told_is : told_at_once shard (kind.Mark line least block a) core
      ≡ take_step line asked.waiting (Answer (reply.Dup (next_of (open_in (view_for shard (op.Write write.session write.payload write.handles (Some a)) (taken shard (kind.Mark line least block a) core)) write.session))
      (now_in (view_for shard (op.Write write.session write.payload write.handles (Some a)) (taken shard (kind.Mark line least block a) core))))) (taken shard (kind.Mark line least block a) core)
  pub left : store_with (folds_behind name cs shard (kind.Mark line least block a) core) (told_at_once shard (kind.Mark line least block a) core).sessions
      ≡ hold_all (store_with (folds_behind name cs shard (kind.Mark line least block a) core) core.sessions) write.session (record { address = a; epoch = epoch_at (store_with cs core.sessions) a } ∷ [])

-- ---- what it leaves

module _ (views : ByViews) (name : List ℕ → Address) (cs : List Folded) (core : Core) (shard number line least block : ℕ) (a : Address) (its : IsLawful name core cs) (order : IsOrderly name core)
    (leads : committed (group_of shard core) ≡ Some (number, kind.Mark line least block a)) (may : MayFollow (setting_of name core) cs (next_deed shard (kind.Mark line least block a) core))
    (did : (done_by shard (kind.Mark line least block a) core).effect.what ≡ what.Marked) where
  abbrev entry : Entry
  entry = kind.Mark line least block a

  abbrev here : Core
  here = taken shard entry core

  abbrev behind : List Folded
  behind = folds_behind name cs shard entry core

  abbrev s : Store
  s = store_with cs core.sessions

  abbrev t : Store
  t = store_with behind core.sessions

  abbrev old : Catalogue
  old = catalogue_of shard core

  tests : IsMarked least block a (catalogue_of shard core)
  tests = marked_tests least block a old did

  asked : HasAsked name core shard (front_of shard core + 1 + 0) line (kind.Mark line least block a)
  asked = order.asked shard 0 line entry (committed_first (group_of shard core) number entry leads).first refl

  abbrev w : Waiting
  w = asked.waiting

  write : IsWriteAt core.sessions least a asked.waiting.operation.op
  write = write_at name core.limits core.sessions line least block a w.operation.op asked.asks (order.pending line w asked.at).called asked.own

  abbrev o : Op
  o = op.Write write.session write.payload write.handles (Some a)

  place : judging_shard (shape_of core).shards core.sessions o ≡ shard
  place = ap (λ p. judging_shard (shape_of core).shards core.sessions p) (sym write.is) ∙ sym (order.pending line w asked.at).judges ∙ asked.judges

  shows : Shows core.limits s o (view_for shard o core)
  shows = subst (λ k. Shows core.limits s o (view_for k o core)) place (views cs core o its.folded refl)

  -- ---- epochs

  epoch_is : epoch_at s a ≡ old.epoch
  epoch_is = ap (λ k. slice_index s.epochs k) (sym shows.judging) ∙ epoch_before views name cs core shard entry its may refl

  now_is : now_in (view_for shard o here) ≡ epoch_at s a
  now_is = epoch_left views name cs core shard entry its may refl ∙ tests.epoch ∙ sym epoch_is

  -- ---- what was given

  mem : old ≡ forget (shape_of core) shard (catalogue_at cs shard)
  mem = memory_at name cs core shard entry its.folded may.of

  known : option_map_or (λ (f : Facts). f.number == block) (option_map known_of (lookup (is_at (address_cmp a)) (catalogue_at cs shard).blocks)) false ≡ true
  known =
      ap (λ x. option_map_or (λ (f : Facts). f.number == block) x false) (sym (lookup-map_values known_of (is_at (address_cmp a)) (catalogue_at cs shard).blocks))
      ∙ ap (λ (c : Catalogue). option_map_or (λ (f : Facts). f.number == block) (facts_at a c) false) (sym mem) ∙ tests.there

  happens : happening_by (setting_of name core) cs (next_deed shard entry core) ≡ Some (changes (gives least a))
  happens =
      ap (λ x. mark_happens x least block a) (lookup-map_values (λ (f : FoldedFacts). f.present) (is_at (address_cmp a)) (catalogue_at cs shard).blocks)
      ∙ gives_there block (lookup (is_at (address_cmp a)) (catalogue_at cs shard).blocks) known least a

  behind_is : t ≡ with_sessions (record (store_of cs) { given = insert_entry address_cmp (store_of cs).given a (epoch_at (store_of cs) a) }) (as_sessions core.sessions)
  behind_is =
      store_is views name cs core shard entry its may refl
      ∙ ap (λ (x : Option Happening). with_sessions (happen_by (store_of cs) x) (as_sessions core.sessions)) happens
      ∙ ap (λ b. with_sessions (cond b (record (store_of cs) { given = insert_entry address_cmp (store_of cs).given a (epoch_at (store_of cs) a) }) (store_of cs)) (as_sessions core.sessions))
      (ap (λ n. nat_le n (least + 1)) epoch_is ∙ tests.fresh)

  -- ---- what its operation holds

  abbrev held : Held
  held = record { address = a; epoch = epoch_at s a }

  abbrev r : Reply
  r = reply.Dup (next_of (open_in (view_for shard o here) write.session)) (now_in (view_for shard o here))

  answers : (p : Op) (k : ℕ) → p ≡ o → k ≡ shard → on_effect (view_for k p here) w.operation.line what.Marked p ≡ Answer r
  unfolding on_effect
  answers p k is at =
      ap (λ (q : Op). on_effect (view_for k q here) w.operation.line what.Marked q) is
      ∙ ap (λ j. on_effect (view_for j o here) w.operation.line what.Marked o) at

  told_is : told_at_once shard (kind.Mark line least block a) core ≡ take_step line w (Answer r) here
  told_is =
      ap (λ (done : What). tell_operation line done here) did
      ∙ ap (λ (x : Option Waiting). change_with x (λ u. take_step line u (effect_step (view_for u.shard u.operation.op here) what.Marked u.operation)) here) asked.at
      ∙ ap (λ (step : OpStep). take_step line w step here) (answers w.operation.op w.shard write.is asked.judges)

  seats_are : (take_step line w (Answer r) here).sessions ≡ seats_behind shard o r here
  seats_are = ap (λ k. seats_behind k w.operation.op r here) asked.judges ∙ ap (λ p. seats_behind shard p r here) write.is

  leaves : store_with behind (seats_behind shard o r here) ≡ hold_all t write.session (held ∷ [])
  unfolding seats_after gained
  leaves = hold_is t core.sessions refl write.session (record { address = a; epoch = now_in (view_for shard o here) } ∷ []) ∙ ap (λ n. hold_all t write.session (record { address = a; epoch = n } ∷ [])) now_is

  pub given_is : IsGiven name cs core shard line least block a
  given_is = record {
    asked = asked;
    write = write;
    place = place;
    shows = shows;
    tests = tests;
    now_is = now_is;
    behind_is = behind_is;
    told_is = told_is;
    left = ap (λ (c : Core). store_with behind c.sessions) told_is ∙ ap (λ (seats : Seats). store_with behind seats) seats_are ∙ leaves;
  }

-- ---- the store is valid then

module _ (views : ByViews) (name : List ℕ → Address) (cs : List Folded) (core : Core) (shard number line least block : ℕ) (a : Address) (its : IsLawful name core cs) (order : IsOrderly name core)
    (leads : committed (group_of shard core) ≡ Some (number, kind.Mark line least block a)) (may : MayFollow (setting_of name core) cs (next_deed shard (kind.Mark line least block a) core))
    (did : (done_by shard (kind.Mark line least block a) core).effect.what ≡ what.Marked) (valid : IsValid (store_with cs core.sessions)) where
  abbrev epoch : ℕ
  epoch = epoch_at (store_with cs core.sessions) a

  abbrev now : Store
  now = store_with (folds_behind name cs shard (kind.Mark line least block a) core) core.sessions

  g : IsGiven name cs core shard line least block a
  g = given_is views name cs core shard number line least block a its order leads may did

  given : Member (a, epoch_at (store_with cs core.sessions) a) now.given
  given = subst (λ (x : Store). Member (a, epoch) x.given) (sym g.behind_is) (insert-has (store_with cs core.sessions).given a epoch)

  rests : Reaches now.blocks (rests_on now epoch) a
  rests =
      start (starts-given (λ (root : Root). nat_le epoch (stands_in now root)) (λ (e : Address × ℕ). nat_le epoch e.1) now.roots now.given (a, epoch) given
      (nat_le-true epoch epoch (le_refl epoch)))

  pub given_valid : IsValid (store_with (folds_behind name cs shard (kind.Mark line least block a) core) (told_at_once shard (kind.Mark line least block a) core).sessions)
  given_valid =
      subst (λ (x : Store). IsValid x) (sym g.left)
      (is_from_valid (hold_all now g.write.session (record { address = a; epoch = epoch } ∷ []))
      (hold_all_valid now (valid_from_is now (valid_behind name cs core its valid shard (kind.Mark line least block a) may)) g.write.session (record { address = a; epoch = epoch } ∷ [])
      (λ x n l. elim n [
        | inl q ↦ subst (λ (z : Held). Reaches now.blocks (rests_on now z.epoch) z.address) (sym q) rests
        | inr k ↦ absurd k
      ])))
