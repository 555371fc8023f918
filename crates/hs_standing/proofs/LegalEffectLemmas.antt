-- An entry that takes effect: what is told of it leads from the store before it to the one behind it.
use Rattle.std.proofs.Common.{◌≡◌, ◌∙◌, sym, ap, subst, ◌⊎◌, inl, inr, ℕ, ◌+◌, ◌<◌, ◌≤◌, ◌==◌, Bool, true, false, cond, List, [], Option, Some, None, IsSome, refl, arith, is_some, slice_get, slice_index}
use Rattle.std.proofs.lemmas.List.{set-get_or}
use Rattle.std.proofs.lemmas.Bool.{eq-eqb, eqb-true}
use Rattle.std.specs.Option.{option_map}
use Rattle.std.specs.Prelude.{slice_index_or, slice_set}
use Rattle.hs_standing.specs.Changes.{tells_at_once, told_at_once}
use Rattle.hs_answered.proofs.TellingLemmas.{tells_none}
use Rattle.hs_answered.specs.Standing.{store_with}
use Rattle.hs_answered.specs.Telling.{Judging}
use Rattle.hs_awaiting.specs.declared.waiting.Waiting.{Waiting}
use Rattle.hs_awaiting.specs.Words.{change_with}
use Rattle.hs_core_words.specs.Effects.{note_enter, note_sweep, take_effect, tell_operation}
use Rattle.hs_core_words.specs.Entering.{propose_due}
use Rattle.hs_core_words.specs.Looking.{catalogue_of, front_of, group_of, operation_of, shape_of}
use Rattle.hs_core_words.specs.Pending.{named}
use Rattle.hs_core_words.specs.State.{Core}
use Rattle.hs_desk.specs.declared.what.What.{What}
use Rattle.hs_desk.specs.declared.what.What.TheVariants as what
use Rattle.hs_effects.proofs.DeleteLemmas.{by_line, delete_op}
use Rattle.hs_effects.proofs.DropLemmas.{drop_op}
use Rattle.hs_effects.proofs.EffectLemmas.{committed_named}
use Rattle.hs_effects.proofs.EndingLemmas.{enter_did}
use Rattle.hs_effects.proofs.FoldLemmas.{after_is, memory_at, taken_folds}
use Rattle.hs_effects.proofs.GroupLemmas.{committed_first}
use Rattle.hs_effects.proofs.QuietLemmas.{Mute, due_mute, resumed_none}
use Rattle.hs_effects.proofs.RefusedLemmas.{heard_by}
use Rattle.hs_effects.proofs.SweepLemmas.{ByViews, left_of, store_is}
use Rattle.hs_effects.specs.Answered.{HasAnswer, HoldAddresses, IsAnsweredBy, IsWritten, heard}
use Rattle.hs_effects.specs.Lawful.{IsLawful, MayFollow}
use Rattle.hs_effects.specs.Logged.{HasAsked, IsOrderly, asked_by}
use Rattle.hs_effects.specs.Taking.{IsNamed, done_by, folds_behind, next_deed, setting_of, taken}
use Rattle.hs_effects.specs.Telling.{HasHappened, HasSwept, IsSilent, done_entries}
use Rattle.hs_effects.specs.Telling.{event_at as done_at}
use Rattle.hs_entry.specs.declared.entry.Entry.{Entry}
use Rattle.hs_entry.specs.declared.entry.Entry.TheVariants as kind
use Rattle.hs_fold.specs.Runs.Facts.{Catalogue as Folded, empty_catalogue}
use Rattle.hs_fold.specs.Runs.Fits.{catalogue_at}
use Rattle.hs_fold.specs.Runs.Happening.{ends_run}
use Rattle.hs_fold.specs.Runs.History.{applied}
use Rattle.hs_fold.specs.Runs.Opened.{store_of}
use Rattle.hs_fold.specs.Runs.Rounds.{may_enter}
use Rattle.hs_fold.specs.Shards.Change.{drops}
use Rattle.hs_fold.specs.Shards.Happening.{Happening, changes, happen_by}
use Rattle.hs_fold.specs.Shards.Happening.{enters as entering, sweeps as sweeping}
use Rattle.hs_joint.specs.Along.{happening_by}
use Rattle.hs_journal.specs.declared.entry.JournalEntry.{JournalEntry}
use Rattle.hs_standing.proofs.CommandLemmas.{AreApart, commands_go_on, commands_same}
use Rattle.hs_standing.proofs.EpochLemmas.{epochs_go_on, epochs_same, epochs_taken, hearing_within}
use Rattle.hs_standing.proofs.Laws.{Entries, Steps}
use Rattle.hs_standing.proofs.MuteLemmas.{Books, Still, at_once_books, books_of, entered_still, going_books, removed_still}
use Rattle.hs_standing.proofs.SameLemmas.{IsLeft, block_same, dropped_or, mark_same, marked_or, root_same, rooted_or, stored_or}
use Rattle.hs_standing.proofs.LegalStepLemmas.{IsQuiet, tells_quiet}
use Rattle.hs_standing.proofs.TellLemmas.{TellsOn, answered_on, from_folds, happened_on, has_answer_on, silent_on, tells_done}
use Rattle.hs_standing.specs.Commands.{AreCommanded, IsOfCommand}
use Rattle.hs_standing.specs.Epochs.{HaveEpochs}
use Rattle.hs_limits.specs.declared.address.Address.{Address}
use Rattle.hs_limits.specs.declared.delta.Delta.{Delta}
use Rattle.hs_limits.specs.Reading.{read_block}
use Rattle.hs_limits.specs.Shape.{shard_of_key}
use Rattle.hs_memory.specs.Forget.{forget}
use Rattle.hs_model.specs.declared.op.Op.{Op}
use Rattle.hs_model.specs.declared.op.Op.TheVariants as op
use Rattle.hs_model.specs.Judge.{drop_root}
use Rattle.hs_model.specs.Run.{enters, sweeps}
use Rattle.hs_model.specs.Store.{Root, retained_at, root_epoch, with_roots, with_sessions}
use Rattle.hs_ops.specs.Operations.{effect_step}
use Rattle.hs_ops.specs.Speaking.{judging_shard}
use Rattle.hs_members.specs.Members.{Members}
use Rattle.hs_replica.specs.Group.{Group, committed, new_group}
use Rattle.hs_roots.specs.declared.root.RootRecord.{RootRecord}
use Rattle.hs_roots.specs.Roots.{retained_of}
use Rattle.hs_shard.specs.declared.effect.Effect.{Effect}
use Rattle.hs_shard.specs.Apply.{named_as}
use Rattle.hs_shard.specs.Clients.{mark_block, store_block}
use Rattle.hs_shard.specs.Facts.{Catalogue}
use Rattle.hs_shard.specs.Rounds.{may_enter as memory_may_enter}
use Rattle.hs_shown.specs.Showing.{as_sessions}

-- ---- plain facts

pub none_of : {A B X : Type 0} (f : A → X) (g : B → X) (a : Option A) (b : Option B) → option_map f a ≡ option_map g b → a ≡ None → b ≡ None
none_of f g a None e h = refl
none_of f g a (Some y) e h = absurd (cc (sym (ap (λ x. option_map f x) h) ∙ e))

-- what is asked of a core and its folds where an entry takes effect
pub record Ready (by : Judging) (core : Core) (cs : List Folded) : Type 0 where
  pub limits : core.limits ≡ by.limits
  pub orderly : IsOrderly by.name core
  pub lawful : IsLawful by.name core cs
  pub holds : HoldAddresses core.sessions
  pub commands : AreCommanded by core
  pub epochs : HaveEpochs core

-- where it is a Mark that gives its block, this is the write's
abbrev pub WritesIt : List Folded → Core → ℕ → Entry → Type 0
WritesIt cs core shard entry =
    (line least block : ℕ) (a : Address) → entry ≡ kind.Mark line least block a → (done_by shard (kind.Mark line least block a) core).effect.what ≡ what.Marked → IsWritten cs core line a

-- ---- one entry

module _ (views : ByViews) (steps : Steps) (laws : Entries) (by : Judging) (cs : List Folded) (core : Core) (shard number : ℕ) (its : Ready by core cs) where
  module _ (entry : Entry) (leads : committed (group_of shard core) ≡ Some (number, entry)) (may : MayFollow (setting_of by.name core) cs (next_deed shard entry core)) where
    abbrev here : Core
    here = taken shard entry core

    abbrev behind : List Folded
    behind = folds_behind by.name cs shard entry core

    called : IsNamed by.name entry core
    called = committed_named by.name core shard number entry its.orderly leads

    first : slice_get (group_of shard core).waiting 0 ≡ Some entry
    first = (committed_first (group_of shard core) number entry leads).first

    mem : catalogue_of shard core ≡ forget (shape_of core) shard (catalogue_at cs shard)
    mem = memory_at by.name cs core shard entry its.lawful.folded may.of

    -- the store behind it, by what happens
    store_by : (h : Option Happening) → happening_by (setting_of by.name core) cs (next_deed shard entry core) ≡ h → store_with (folds_behind by.name cs shard entry core) core.sessions ≡ with_sessions (happen_by (store_of cs) h) (as_sessions core.sessions)
    store_by h e = store_is views by.name cs core shard entry its.lawful may called ∙ ap (λ (x : Option Happening). with_sessions (happen_by (store_of cs) x) (as_sessions core.sessions)) e

    -- where its fold is the same the store is
    same_fold : applied (setting_of by.name core) cs (next_deed shard entry core) ≡ catalogue_at cs shard → store_with (folds_behind by.name cs shard entry core) core.sessions ≡ store_with cs core.sessions
    same_fold e = ap (λ (ds : List Folded). store_with ds core.sessions) (ap (λ (d : Folded). slice_set cs shard d) e ∙ set-get_or cs shard empty_catalogue)

    -- where nothing happens nothing need be told
    quietly : happening_by (setting_of by.name core) cs (next_deed shard entry core) ≡ None → TellsOn by cs (folds_behind by.name cs shard entry core) core (taken shard entry core)
    quietly none = silent_on by cs behind core here refl refl refl (store_by None none)

    -- its operation hears of it
    module _ (line : ℕ) (of : asked_by entry ≡ Some line) where
      h : HasAsked by.name core shard (front_of shard core + 1 + 0) line entry
      h = its.orderly.asked shard 0 line entry first of

      heard_is : heard shard entry core ≡ tell_operation line (done_by shard entry core).effect.what (taken shard entry core)
      heard_is = heard_by shard line entry (done_by shard entry core).effect (taken shard entry core) h.waiting of h.at

      heard_books : books_of (heard shard entry core) ≡ books_of core
      heard_books = ap (λ (c : Core). books_of c) heard_is ∙ going_books (λ v o. effect_step v (done_by shard entry core).effect.what o) line (taken shard entry core)

      -- nothing was done, and the store is as it was
      goes_on : IsQuiet (done_by shard entry core).effect.what → store_with (folds_behind by.name cs shard entry core) core.sessions ≡ store_with cs core.sessions → TellsOn by cs (folds_behind by.name cs shard entry core) core (heard shard entry core)
      goes_on quiet same = subst (λ (c : Core). TellsOn by cs behind core c) (sym heard_is)
          (from_folds by cs behind behind core (tell_operation line (done_by shard entry core).effect.what here) same
          (record { more = on.more; journal = on.journal; refused = on.refused; told = on.told; tells = on.tells }))
        where
          on : TellsOn by (folds_behind by.name cs shard entry core) (folds_behind by.name cs shard entry core) (taken shard entry core) (tell_operation line (done_by shard entry core).effect.what (taken shard entry core))
          on = tells_quiet steps by behind here its.limits (taken_folds by.name cs core shard entry its.lawful.folded may.of called) line h.waiting h.at (its.commands line h.waiting h.at) (its.orderly.pending line h.waiting h.at).judges
              (done_by shard entry core).effect.what quiet

      -- it is answered as the judge says
      answers : (o : Op) → h.waiting.operation.op ≡ o → IsAnsweredBy cs (folds_behind by.name cs shard entry core) core (heard shard entry core) line o → TellsOn by cs (folds_behind by.name cs shard entry core) core (heard shard entry core)
      answers o is answered =
          answered_on by cs behind core (heard shard entry core) line o its.limits (subst (λ (p : Op). IsOfCommand by core.sessions line p) is (its.commands line h.waiting h.at).says) answered
          (ap (λ (b : Books). b.journal) heard_books) (ap (λ (b : Books). b.refused) heard_books)

      has : HasAnswer cs (folds_behind by.name cs shard entry core) core (heard shard entry core) line → TellsOn by cs (folds_behind by.name cs shard entry core) core (heard shard entry core)
      has answer = has_answer_on by cs behind core (heard shard entry core) line its.limits its.commands answer (ap (λ (b : Books). b.journal) heard_books) (ap (λ (b : Books). b.refused) heard_books)

  -- ---- by its kind

  tells_block : (line least : ℕ) (bytes : List ℕ) → committed (group_of shard core) ≡ Some (number, kind.Block line least bytes) → MayFollow (setting_of by.name core) cs (next_deed shard (kind.Block line least bytes) core)
      → TellsOn by cs (folds_behind by.name cs shard (kind.Block line least bytes) core) core (heard shard (kind.Block line least bytes) core)
  tells_block line least bytes leads may = by_what (stored_or (front_of shard core + 1) least (named_as (named (kind.Block line least bytes) core)) (read_block bytes) (catalogue_of shard core))
    where
      by_what : ((done_by shard (kind.Block line least bytes) core).effect.what ≡ what.Stored) ⊎ IsQuiet (done_by shard (kind.Block line least bytes) core).effect.what
          → TellsOn by cs (folds_behind by.name cs shard (kind.Block line least bytes) core) core (heard shard (kind.Block line least bytes) core)
      by_what (inl did) = has (kind.Block line least bytes) leads may line refl (laws.stores by.name cs core shard number line least bytes its.lawful its.orderly its.holds leads may did)
      by_what (inr quiet) = goes_on (kind.Block line least bytes) leads may line refl quiet (same_fold (kind.Block line least bytes) leads may
          (block_same by.name (shape_of core) shard (catalogue_at cs shard) (front_of shard core + 1) least (by.name bytes) (read_block bytes) (subst (λ (w : What). IsQuiet w) did_is quiet)))
        where
          did_is : (done_by shard (kind.Block line least bytes) core).effect.what ≡ (store_block (front_of shard core + 1) least (by.name bytes) (read_block bytes) (forget (shape_of core) shard (catalogue_at cs shard))).effect.what
          did_is =
              ap (λ (a : Option Address). (store_block (front_of shard core + 1) least (named_as a) (read_block bytes) (catalogue_of shard core)).effect.what) (called (kind.Block line least bytes) leads may)
              ∙ ap (λ (c : Catalogue). (store_block (front_of shard core + 1) least (by.name bytes) (read_block bytes) c).effect.what) (mem (kind.Block line least bytes) leads may)

  tells_mark : (line least block : ℕ) (a : Address) → ((done_by shard (kind.Mark line least block a) core).effect.what ≡ what.Marked → IsWritten cs core line a) → committed (group_of shard core) ≡ Some (number, kind.Mark line least block a)
      → MayFollow (setting_of by.name core) cs (next_deed shard (kind.Mark line least block a) core) → TellsOn by cs (folds_behind by.name cs shard (kind.Mark line least block a) core) core (heard shard (kind.Mark line least block a) core)
  tells_mark line least block a written leads may = by_what (marked_or least block a (catalogue_of shard core))
    where
      by_what : ((done_by shard (kind.Mark line least block a) core).effect.what ≡ what.Marked) ⊎ IsQuiet (done_by shard (kind.Mark line least block a) core).effect.what
          → TellsOn by cs (folds_behind by.name cs shard (kind.Mark line least block a) core) core (heard shard (kind.Mark line least block a) core)
      by_what (inl did) = has (kind.Mark line least block a) leads may line refl (laws.marks by.name cs core shard number line least block a its.lawful its.orderly (written did) leads may did)
      by_what (inr quiet) = goes_on (kind.Mark line least block a) leads may line refl quiet (same_fold (kind.Mark line least block a) leads may
          (mark_same by.name (shape_of core) shard (catalogue_at cs shard) least block a
          (subst (λ (c : Catalogue). IsQuiet (mark_block least block a c).effect.what) (mem (kind.Mark line least block a) leads may) quiet)))

  tells_root : (line epoch : ℕ) (a : Address) (key : List ℕ) → committed (group_of shard core) ≡ Some (number, kind.Root line epoch a key) → MayFollow (setting_of by.name core) cs (next_deed shard (kind.Root line epoch a key) core)
      → TellsOn by cs (folds_behind by.name cs shard (kind.Root line epoch a key) core) core (heard shard (kind.Root line epoch a key) core)
  tells_root line epoch a key leads may = by_what (rooted_or epoch a key (catalogue_of shard core))
    where
      by_what : ((done_by shard (kind.Root line epoch a key) core).effect.what ≡ what.Rooted) ⊎ IsLeft (done_by shard (kind.Root line epoch a key) core).effect.what (catalogue_of shard core) (done_by shard (kind.Root line epoch a key) core).catalogue
          → TellsOn by cs (folds_behind by.name cs shard (kind.Root line epoch a key) core) core (heard shard (kind.Root line epoch a key) core)
      by_what (inl did) = has (kind.Root line epoch a key) leads may line refl (laws.roots by.name cs core shard number line epoch a key its.lawful its.orderly leads may did)
      by_what (inr left) = goes_on (kind.Root line epoch a key) leads may line refl left.quiet (same_fold (kind.Root line epoch a key) leads may
          (root_same by.name (shape_of core) shard (catalogue_at cs shard) epoch a key
          (sym (after_is by.name cs core shard (kind.Root line epoch a key) its.lawful.folded may.of (called (kind.Root line epoch a key) leads may)) ∙ left.same ∙ mem (kind.Root line epoch a key) leads may)))

  tells_drop : (line : ℕ) (key : List ℕ) → committed (group_of shard core) ≡ Some (number, kind.Drop line key) → MayFollow (setting_of by.name core) cs (next_deed shard (kind.Drop line key) core)
      → TellsOn by cs (folds_behind by.name cs shard (kind.Drop line key) core) core (heard shard (kind.Drop line key) core)
  tells_drop line key leads may = by_kept (dropped_or key (catalogue_of shard core))
    where
      asked : HasAsked by.name core shard (front_of shard core + 1 + 0) line (kind.Drop line key)
      asked = h (kind.Drop line key) leads may line refl

      is_drop : asked.waiting.operation.op ≡ op.Drop key
      is_drop = drop_op by.name core.sessions line line key asked.waiting.operation.op asked.asks

      -- its shard is the one that judges
      place : shard ≡ shard_of_key (shape_of core).shards key
      place = sym asked.judges ∙ (its.orderly.pending line asked.waiting asked.at).judges ∙ ap (λ (o : Op). judging_shard (shape_of core).shards core.sessions o) is_drop

      -- nothing is retained, so nothing is dropped
      same : retained_of key (catalogue_of shard core).roots ≡ None → store_with (folds_behind by.name cs shard (kind.Drop line key) core) core.sessions ≡ store_with cs core.sessions
      same none =
          store_by (kind.Drop line key) leads may (Some (changes (drops key))) (ap (λ (b : Bool). cond b (Some (changes (drops key))) None) (eq-eqb (shard_of_key (shape_of core).shards key) shard (sym place)))
          ∙ ap (λ (root : Option Root). with_roots (store_with cs core.sessions) (drop_root root (store_with cs core.sessions).roots key (root_epoch (store_with cs core.sessions) key))) gone
        where
          gone : retained_at (store_with cs core.sessions) key ≡ None
          gone = none_of (λ (r : RootRecord). r.address) (λ (r : Root). r.address) (retained_of key (catalogue_of shard core).roots) (retained_at (store_with cs core.sessions) key)
              (ap (λ (k : ℕ). option_map (λ (r : RootRecord). r.address) (retained_of key (catalogue_of k core).roots)) place ∙ (views cs core (op.Drop key) its.lawful.folded tt).kept key refl) none

      by_kept : IsSome (retained_of key (catalogue_of shard core).roots) ⊎ ((retained_of key (catalogue_of shard core).roots ≡ None) × IsQuiet (done_by shard (kind.Drop line key) core).effect.what)
          → TellsOn by cs (folds_behind by.name cs shard (kind.Drop line key) core) core (heard shard (kind.Drop line key) core)
      by_kept (inl kept) = answers (kind.Drop line key) leads may line refl (op.Drop key) is_drop (laws.drops by.name cs core shard number line key its.lawful its.orderly leads may kept)
      by_kept (inr none) = goes_on (kind.Drop line key) leads may line refl none.1 (same none.0)

  -- ---- an Enter

  module _ (line epoch : ℕ) (leads : committed (group_of shard core) ≡ Some (number, kind.Enter line epoch)) (may : MayFollow (setting_of by.name core) cs (next_deed shard (kind.Enter line epoch) core)) where
    abbrev asked_entry : Entry
    asked_entry = kind.Enter line epoch

    -- whether it changes something, in memory as in the fold
    both_enter : memory_may_enter epoch (catalogue_of shard core) ≡ may_enter (catalogue_at cs shard) epoch
    both_enter = ap (λ (c : Catalogue). memory_may_enter epoch c) (mem asked_entry leads may)

    happens : (b : Bool) → may_enter (catalogue_at cs shard) epoch ≡ b → happening_by (setting_of by.name core) cs (next_deed shard (kind.Enter line epoch) core) ≡ cond b (Some (entering shard)) None
    happens b e = ap (λ (x : Bool). cond x (Some (entering shard)) None) e

    -- all that is told of it is told at once
    at_once : take_effect shard (kind.Enter line epoch) core ≡ told_at_once shard (kind.Enter line epoch) core
    at_once = resumed_none shard (told_at_once shard (kind.Enter line epoch) core)

    journal : (told_at_once shard (kind.Enter line epoch) core).journal ≡ core.journal
    journal = ap (λ (b : Books). b.journal) (at_once_books shard asked_entry (done_by shard asked_entry core).effect (taken shard asked_entry core))

    refused : (told_at_once shard (kind.Enter line epoch) core).refused ≡ core.refused
    refused = ap (λ (b : Books). b.refused) (at_once_books shard asked_entry (done_by shard asked_entry core).effect (taken shard asked_entry core))

    -- no operation asked for it
    by_itself : operation_of line core ≡ None → TellsOn by cs (folds_behind by.name cs shard (kind.Enter line epoch) core) core (told_at_once shard (kind.Enter line epoch) core)
    by_itself alone = by_test (may_enter (catalogue_at cs shard) epoch) refl
      where
        by_test : (b : Bool) → may_enter (catalogue_at cs shard) epoch ≡ b → TellsOn by cs (folds_behind by.name cs shard (kind.Enter line epoch) core) core (told_at_once shard (kind.Enter line epoch) core)
        by_test true e =
            happened_on by cs (folds_behind by.name cs shard (kind.Enter line epoch) core) core (told_at_once shard (kind.Enter line epoch) core) shard (enters shard) [] its.limits (λ limits s. refl) (λ s. tells_none by s)
            (subst (λ (c : Core). HasHappened cs (folds_behind by.name cs shard (kind.Enter line epoch) core) core c shard (enters shard) []) at_once
            (laws.enters_by_itself by.name cs core shard line epoch its.lawful alone may (happens true e))) journal refused
        by_test false e = silent_on by cs (folds_behind by.name cs shard (kind.Enter line epoch) core) core (told_at_once shard (kind.Enter line epoch) core) journal refused quiet.told quiet.left
          where
            quiet : IsSilent cs (folds_behind by.name cs shard (kind.Enter line epoch) core) core (told_at_once shard (kind.Enter line epoch) core)
            quiet = subst (λ (c : Core). IsSilent cs (folds_behind by.name cs shard (kind.Enter line epoch) core) core c) at_once
                (laws.enters_nothing by.name cs core shard line epoch its.lawful alone may (happens false e))

    -- a deletion asked for it
    by_line_of : 1 ≤ line → TellsOn by cs (folds_behind by.name cs shard (kind.Enter line epoch) core) core (heard shard (kind.Enter line epoch) core)
    by_line_of counted = by_test (memory_may_enter epoch (catalogue_of shard core)) refl
      where
        of : asked_by (kind.Enter line epoch) ≡ Some line
        of = by_line line epoch counted

        asked : HasAsked by.name core shard (front_of shard core + 1 + 0) line (kind.Enter line epoch)
        asked = h (kind.Enter line epoch) leads may line of

        did_is : (b : Bool) → memory_may_enter epoch (catalogue_of shard core) ≡ b → (done_by shard (kind.Enter line epoch) core).effect.what ≡ cond b (what.Entered epoch) what.Refused
        did_is b e = enter_did epoch (catalogue_of shard core) ∙ ap (λ (x : Bool). cond x (what.Entered epoch) what.Refused) e

        -- it is of the next epoch, which is within the limit
        within : memory_may_enter epoch (catalogue_of shard core) ≡ true → (catalogue_of shard core).epoch < core.limits.epochs
        within e =
            let next : epoch ≡ (catalogue_of shard core).epoch + 1 = eqb-true epoch ((catalogue_of shard core).epoch + 1) (left_of (epoch == (catalogue_of shard core).epoch + 1) ((catalogue_of shard core).swept == (catalogue_of shard core).epoch) e) in
            let most : epoch ≤ core.limits.epochs = its.epochs shard 0 line epoch (first (kind.Enter line epoch) leads may) counted in
            omega (arith, next, most)

        by_test : (b : Bool) → memory_may_enter epoch (catalogue_of shard core) ≡ b → TellsOn by cs (folds_behind by.name cs shard (kind.Enter line epoch) core) core (heard shard (kind.Enter line epoch) core)
        by_test true e =
            answers (kind.Enter line epoch) leads may line of op.Delete (delete_op by.name core.sessions line line epoch asked.waiting.operation.op asked.asks)
            (laws.deletes by.name cs core shard number line epoch counted its.lawful its.orderly leads may (did_is true e) (within e))
        by_test false e =
            goes_on (kind.Enter line epoch) leads may line of (subst (λ (w : What). IsQuiet w) (sym (did_is false e)) tt)
            (store_by (kind.Enter line epoch) leads may None (happens false (sym both_enter ∙ e)))

    tells_enter : TellsOn by cs (folds_behind by.name cs shard (kind.Enter line epoch) core) core (told_at_once shard (kind.Enter line epoch) core)
    tells_enter = by_operation (operation_of line core) refl
      where
        by_operation : (x : Option Waiting) → operation_of line core ≡ x → TellsOn by cs (folds_behind by.name cs shard (kind.Enter line epoch) core) core (told_at_once shard (kind.Enter line epoch) core)
        by_operation None alone = by_itself alone
        by_operation (Some w) at = by_line_of (its.orderly.pending line w at).counted

  -- ---- a Got

  module _ (sender epoch round total : ℕ) (deltas : List Delta) (leads : committed (group_of shard core) ≡ Some (number, kind.Got sender epoch round total deltas))
      (may : MayFollow (setting_of by.name core) cs (next_deed shard (kind.Got sender epoch round total deltas) core)) where
    abbrev got : Entry
    got = kind.Got sender epoch round total deltas

    abbrev told : Core
    told = told_at_once shard (kind.Got sender epoch round total deltas) core

    -- what comes behind tells nothing
    mute : Mute (told_at_once shard (kind.Got sender epoch round total deltas) core) (take_effect shard (kind.Got sender epoch round total deltas) core)
    mute = subst (λ (x : Core). Mute told x) (sym (resumed_none shard (propose_due shard told))) (due_mute shard told)

    got_journal : (told_at_once shard (kind.Got sender epoch round total deltas) core).journal ≡ core.journal
    got_journal = ap (λ (b : Books). b.journal) (at_once_books shard got (done_by shard got core).effect (taken shard got core))

    got_refused : (told_at_once shard (kind.Got sender epoch round total deltas) core).refused ≡ core.refused
    got_refused = ap (λ (b : Books). b.refused) (at_once_books shard got (done_by shard got core).effect (taken shard got core))

    abbrev later : List Folded
    later = folds_behind by.name cs shard (kind.Got sender epoch round total deltas) core

    abbrev ends : Bool
    ends = ends_run (shape_of core).shards (catalogue_at cs shard) (record { epoch = epoch; round = round; from = sender }) (record { total = total; deltas = deltas })

    pub tells_got : TellsOn by cs (folds_behind by.name cs shard (kind.Got sender epoch round total deltas) core) core (told_at_once shard (kind.Got sender epoch round total deltas) core)
    tells_got = by_test ends refl
      where
        happens_got : (b : Bool) → ends ≡ b → happening_by (setting_of by.name core) cs (next_deed shard (kind.Got sender epoch round total deltas) core) ≡ cond b (Some (sweeping shard)) None
        happens_got b e = ap (λ (x : Bool). cond x (Some (sweeping shard)) None) e

        more : List JournalEntry
        more = done_entries core.moment (slice_index (store_with cs core.sessions).epochs shard) (done_at cs core (sweeps shard)).store

        by_test : (b : Bool) → ends ≡ b → TellsOn by cs (folds_behind by.name cs shard (kind.Got sender epoch round total deltas) core) core (told_at_once shard (kind.Got sender epoch round total deltas) core)
        by_test true e =
            let swept : HasSwept cs later core (take_effect shard got core) shard = laws.sweeps_last by.name cs core shard sender epoch round total deltas its.lawful may (happens_got true e) in
            happened_on by cs later core told shard (sweeps shard) more its.limits (λ limits x. refl)
            (λ x. tells_done by core.moment (slice_index (store_with cs core.sessions).epochs shard) x (done_at cs core (sweeps shard)).store)
            (record { allowed = swept.allowed; told = sym mute.entries ∙ swept.told; left = ap (λ seats. store_with later seats) (sym mute.sessions) ∙ swept.left }) got_journal got_refused
        by_test false e =
            let quiet : IsSilent cs later core (take_effect shard got core) = laws.sweeps_nothing by.name cs core shard sender epoch round total deltas its.lawful may (happens_got false e) in
            silent_on by cs later core told got_journal got_refused (sym mute.entries ∙ quiet.told) (ap (λ seats. store_with later seats) (sym mute.sessions) ∙ quiet.left)

  -- ---- of any kind

  pub tells_effect : (entry : Entry) → committed (group_of shard core) ≡ Some (number, entry) → MayFollow (setting_of by.name core) cs (next_deed shard entry core) → WritesIt cs core shard entry
      → TellsOn by cs (folds_behind by.name cs shard entry core) core (told_at_once shard entry core)
  tells_effect (kind.View view) leads may written = quietly (kind.View view) leads may refl
  tells_effect (kind.Block line least bytes) leads may written = tells_block line least bytes leads may
  tells_effect (kind.Mark line least block a) leads may written = tells_mark line least block a (written line least block a refl) leads may
  tells_effect (kind.Root line held a key) leads may written = tells_root line held a key leads may
  tells_effect (kind.Drop line key) leads may written = tells_drop line key leads may
  tells_effect (kind.Enter line epoch) leads may written = tells_enter line epoch leads may
  tells_effect (kind.Got sender epoch round total deltas) leads may written = tells_got sender epoch round total deltas leads may
  tells_effect (kind.Base view epoch swept round frames) leads may written = quietly (kind.Base view epoch swept round frames) leads may refl
  tells_effect (kind.KeptBlock born mark flags count bytes) leads may written = quietly (kind.KeptBlock born mark flags count bytes) leads may refl
  tells_effect (kind.KeptRoot created dropped counted address key) leads may written = quietly (kind.KeptRoot created dropped counted address key) leads may refl
  tells_effect (kind.KeptRound way other epoch round total deltas) leads may written = quietly (kind.KeptRound way other epoch round total deltas) leads may refl

-- ---- operations and lists behind it

-- each operation that waits stays its line's command
at_once_commands : (by : Judging) (shard : ℕ) (entry : Entry) (effect : Effect) (c : Core) → AreApart c → AreCommanded by c → AreCommanded by (tells_at_once shard entry effect c)
at_once_commands by shard (kind.View view) effect c apart its = its
at_once_commands by shard (kind.Block line least bytes) effect c apart its = commands_go_on by (λ v o. effect_step v effect.what o) line c apart its
at_once_commands by shard (kind.Mark line least block a) effect c apart its = commands_go_on by (λ v o. effect_step v effect.what o) line c apart its
at_once_commands by shard (kind.Root line held a key) effect c apart its = commands_go_on by (λ v o. effect_step v effect.what o) line c apart its
at_once_commands by shard (kind.Drop line key) effect c apart its = commands_go_on by (λ v o. effect_step v effect.what o) line c apart its
at_once_commands by shard (kind.Enter line epoch) effect c apart its = by_operation (is_some (operation_of line c))
  where
    still : Still c (note_enter shard effect.what c)
    still = entered_still shard effect.what c

    by_operation : (b : Bool) → AreCommanded by (cond b (tell_operation line effect.what c) (note_enter shard effect.what c))
    by_operation true = commands_go_on by (λ v o. effect_step v effect.what o) line c apart its
    by_operation false = commands_same by c (note_enter shard effect.what c) still.operations still.sessions its
at_once_commands by shard (kind.Got from epoch round total deltas) effect c apart its =
    let still : Still c (change_with effect.removed (note_sweep shard) c) = removed_still shard effect.removed c in
    commands_same by c (change_with effect.removed (note_sweep shard) c) still.operations still.sessions its
at_once_commands by shard (kind.Base view epoch swept round frames) effect c apart its = its
at_once_commands by shard (kind.KeptBlock born mark flags count bytes) effect c apart its = its
at_once_commands by shard (kind.KeptRoot created dropped counted address key) effect c apart its = its
at_once_commands by shard (kind.KeptRound way other epoch round total deltas) effect c apart its = its

pub commands_effect : (by : Judging) (shard : ℕ) (entry : Entry) (core : Core) → IsOrderly by.name core → AreCommanded by core → AreCommanded by (told_at_once shard entry core)
commands_effect by shard entry core order its =
    at_once_commands by shard entry (done_by shard entry core).effect (taken shard entry core) (record { once = order.once; alone = order.alone }) (commands_same by core (taken shard entry core) refl refl its)

-- each Enter of a client's that waits is within the limit
epochs_still : (a b : Core) → Still a b → HaveEpochs a → HaveEpochs b
epochs_still a b s its = epochs_same a b s.limits waiting its
  where
    waiting : (g : ℕ) → (group_of g b).waiting ≡ (group_of g a).waiting
    waiting g =
        ap (λ (groups : List Group). (slice_index_or groups g (new_group (shape_of b) g 0 0 [])).waiting) s.groups
        ∙ ap (λ (m : Members). (slice_index_or a.groups g (new_group m.shape g 0 0 [])).waiting) s.members

at_once_epochs : (shard : ℕ) (entry : Entry) (effect : Effect) (c : Core) → HaveEpochs c → HaveEpochs (tells_at_once shard entry effect c)
at_once_epochs shard (kind.View view) effect c its = its
at_once_epochs shard (kind.Block line least bytes) effect c its = epochs_go_on (λ v o. effect_step v effect.what o) (hearing_within effect.what) line c its
at_once_epochs shard (kind.Mark line least block a) effect c its = epochs_go_on (λ v o. effect_step v effect.what o) (hearing_within effect.what) line c its
at_once_epochs shard (kind.Root line held a key) effect c its = epochs_go_on (λ v o. effect_step v effect.what o) (hearing_within effect.what) line c its
at_once_epochs shard (kind.Drop line key) effect c its = epochs_go_on (λ v o. effect_step v effect.what o) (hearing_within effect.what) line c its
at_once_epochs shard (kind.Enter line epoch) effect c its = by_operation (is_some (operation_of line c))
  where
    by_operation : (b : Bool) → HaveEpochs (cond b (tell_operation line effect.what c) (note_enter shard effect.what c))
    by_operation true = epochs_go_on (λ v o. effect_step v effect.what o) (hearing_within effect.what) line c its
    by_operation false = epochs_still c (note_enter shard effect.what c) (entered_still shard effect.what c) its
at_once_epochs shard (kind.Got from epoch round total deltas) effect c its = epochs_still c (change_with effect.removed (note_sweep shard) c) (removed_still shard effect.removed c) its
at_once_epochs shard (kind.Base view epoch swept round frames) effect c its = its
at_once_epochs shard (kind.KeptBlock born mark flags count bytes) effect c its = its
at_once_epochs shard (kind.KeptRoot created dropped counted address key) effect c its = its
at_once_epochs shard (kind.KeptRound way other epoch round total deltas) effect c its = its

pub epochs_effect : (shard : ℕ) (entry : Entry) (core : Core) → HaveEpochs core → HaveEpochs (told_at_once shard entry core)
epochs_effect shard entry core its = at_once_epochs shard entry (done_by shard entry core).effect (taken shard entry core) (epochs_taken shard entry core its)
