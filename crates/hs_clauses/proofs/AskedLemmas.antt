-- Of a run on disks that tell, over sound ones, whose core goes on behind its opening: all that is asked of it follows, so that it runs soundly.
use Rattle.std.proofs.Common.{◌≡◌, ◌∙◌, ap, sym, subst, inl, inr, ℕ, zero, suc, ◌+◌, ◌*◌, ◌<◌, ◌≤◌, ◌++◌, Bool, true, false, List, [], ◌∷◌, Option, Some, None, refl, map, arith}
use Rattle.std.proofs.lemmas.Bool.{cases_lt}
use Rattle.std.proofs.lemmas.List.{get_or_past}
use Rattle.std.specs.List.{AllByRecursion, list_any, range_with_len}
use Rattle.std.specs.Prelude.{drop, if◌then◌else◌, slice_index_or, take, unwrap_or}
use Rattle.hs_standing.specs.Walks.{HasRecordRoom}
use Rattle.hs_standing.specs.Answered.{KeepsRecordRoom, TellTheirBlocks, judging_by}
use Rattle.hs_clauses.proofs.AtEntryLemmas.{OpensAtEntry, opens_at_entry}
use Rattle.hs_clauses.proofs.LineLemmas.{flat_same, joined, opening_due}
use Rattle.hs_clauses.proofs.ReadLemmas.{BringsAll, applied_all, from_empty, read_brings, read_from_one}
use Rattle.hs_clauses.proofs.RoomLemmas.{keeps_room}
use Rattle.hs_clauses.specs.Asked.{lined, start_of}
use Rattle.hs_clauses.specs.Shown.{HasItsDisks, IsShown, IsShownRun, IsToldAs, IsToldRun, OnDisks, RunsSoundly, RunsTold, ShownAs, ToldAs}
use Rattle.hs_cluster.specs.Kept.{AreTold}
use Rattle.hs_core_words.specs.State.{Core}
use Rattle.hs_desk.specs.declared.fault.CoreFault.{CoreFault}
use Rattle.hs_events.specs.Course.{steps}
use Rattle.hs_events.specs.Due.{Events, MomentsRise, is_walk, next_due}
use Rattle.hs_events.specs.Found.{Found, first_core, opened_catalogue, opened_list, starts_good}
use Rattle.hs_events.specs.Sane.{IsFromOne}
use Rattle.hs_events.specs.Taken.{or_blank, peer_count, taken_list}
use Rattle.hs_events.specs.Whole.{open_whole}
use Rattle.hs_entry.specs.Entries.{rank_of}
use Rattle.hs_fold.specs.Opened.{chosen, chosen_each, outranks}
use Rattle.hs_fold.specs.Runs.Opened.{catalogues, store_of}
use Rattle.hs_fold.specs.Shards.Setting.{Numbered}
use Rattle.hs_standing.specs.Held.{KeepsAddresses}
use Rattle.hs_members.specs.Members.{peers_of}
use Rattle.hs_ports.specs.declared.disk.Side.{Side}
use Rattle.hs_ports.specs.Moments.{disk_at}
use Rattle.hs_standing.specs.Script.{AreLines, all_events as lines_events}
use Rattle.hs_promise.specs.Ending.{ending_of}
use Rattle.hs_promise.specs.Entry.{IsSoundAtEntry, entry_store}
use Rattle.hs_promise.specs.Found.{IsReadAs}
use Rattle.hs_promise.specs.Machine.{Went, opening_is_whole}
use Rattle.hs_promise.specs.Run.{Ran, Script}
use Rattle.hs_promise.specs.Story.{Story, all_events}
use Rattle.hs_clauses.specs.Run.{script_of}
use Rattle.hs_shard.specs.Facts.{Catalogue, empty_catalogue}
use Rattle.hs_side.specs.Current.{list_in}
use Rattle.hs_sound.specs.Stay.{AreSoundAlong}
use Rattle.hs_answered.specs.Telling.{Judging}
use Rattle.hs_model.specs.Store.{Store}
use Rattle.hs_standing.proofs.LinesStepLemmas.{step_ended}
use Rattle.hs_standing.proofs.FirstRoomLemmas.{first_room}
use Rattle.hs_standing.proofs.TakenLemmas.{FoldsInMemory}
use Rattle.hs_standing.specs.Run.{RunBegins, RunOpens}
use Rattle.hs_standing.specs.Standing.{judging_of}
use Rattle.hs_standing.specs.Start.{Start}

-- ---- what is asked

-- of a story, on sound disks
pub record IsAskedOf (S : Script) (r : Ran) (story : Story) : Type 0 where
  pub on : OnDisks S r
  pub sound : IsSoundAtEntry S r
  pub read : (peer : ℕ) → peer < peer_count S.set.shape → IsReadAs r story peer
  pub going : (first_core S.set story.found).ended ≡ None
  pub few : HasRecordRoom (first_core S.set story.found)
  pub runs : RunsSoundly S r story

-- ---- what a disk was read as

disk_from_one : (seen : Side → List ℕ) → IsFromOne (unwrap_or (list_in seen) [])
disk_from_one seen = go (list_in seen) refl
  where
    go : (o : Option Numbered) → list_in seen ≡ o → IsFromOne (unwrap_or o [])
    go None e = from_empty
    go (Some list) e = read_from_one seen list e

each_range : (P : Catalogue → Type 0) (f : ℕ → Catalogue) (k n : ℕ) → ((j : ℕ) → k ≤ j → j < k + n → P (f j)) → AllByRecursion P (map f (range_with_len k n))
each_range P f k zero h = tt
each_range P f k (suc n) h = (h k (omega arith) (omega arith), each_range P f (k + 1) n (λ j low high. h j (omega (arith, low)) (omega (arith, high))))

-- ---- of the lists with which it opens, for any number of copies

module _ (P : Numbered → Type 0) (none : P []) where
  chosen_all : (lists : List Numbered) → AllByRecursion P lists → P (chosen lists)
  chosen_all [] all = none
  chosen_all (l ∷ ls) all = go (outranks (rank_of (chosen ls)) (rank_of l)) (chosen_all ls all.1)
    where
      go : (b : Bool) → P (chosen ls) → P (if b then chosen ls else l)
      go true h = h
      go false h = all.0

  taken_all : (n : ℕ) (lists : List Numbered) → AllByRecursion P lists → AllByRecursion P (take n lists)
  taken_all zero lists all = tt
  taken_all (suc n) [] all = tt
  taken_all (suc n) (l ∷ ls) all = (all.0, taken_all n ls all.1)

  dropped_all : (n : ℕ) (lists : List Numbered) → AllByRecursion P lists → AllByRecursion P (drop n lists)
  dropped_all zero lists all = all
  dropped_all (suc n) [] all = tt
  dropped_all (suc n) (l ∷ ls) all = dropped_all n ls all.1

  each_chosen : (n copies : ℕ) (lists : List Numbered) → AllByRecursion P lists → (k : ℕ) → P (slice_index_or (chosen_each n copies lists) k [])
  each_chosen zero copies lists all k = none
  each_chosen (suc n) copies lists all zero = chosen_all (take copies lists) (taken_all copies lists all)
  each_chosen (suc n) copies lists all (suc k) = each_chosen n copies (drop copies lists) (dropped_all copies lists all) k

  blanks_all : (logs : List (Option Numbered)) → ((peer : ℕ) → P (unwrap_or (slice_index_or logs peer None) [])) → AllByRecursion P (or_blank logs)
  blanks_all [] h = tt
  blanks_all (log ∷ logs) h = (h 0, blanks_all logs (λ peer. h (suc peer)))

-- what is so of each list that is read, and of none, is so of that with which a shard opens
module _ (S : Script) (r : Ran) (story : Story) (went : Went S r story) (read : (peer : ℕ) → peer < peer_count S.set.shape → IsReadAs r story peer) where
  opens_read : (P : Numbered → Type 0) → P [] → ((seen : Side → List ℕ) → P (unwrap_or (list_in seen) [])) → (shard : ℕ) → P (opened_list S.set story.found shard)
  opens_read P none of shard = go (list_any (starts_good story.found) (peers_of S.set.shape shard))
    where
      log : (peer : ℕ) → P (unwrap_or (slice_index_or story.found.logs peer None) [])
      log peer = elim (cases_lt peer (peer_count S.set.shape)) [
        | inl low ↦ elim (read peer low) [
          | inl same ↦ subst (λ (o : Option Numbered). P (unwrap_or o [])) (sym same) (of (disk_at r.old.disks peer).seen)
          | inr failed ↦ subst (λ (o : Option Numbered). P (unwrap_or o [])) (sym failed.0) none
        ]
        | inr high ↦ subst (λ (o : Option Numbered). P (unwrap_or o [])) (sym (get_or_past story.found.logs peer None (let long = went.found.logs in omega (arith, long, high)))) none
      ]

      go : (b : Bool) → P (if b then taken_list S.set.shape story.found.logs shard else [])
      go true = each_chosen P none S.set.shape.shards S.set.shape.copies (or_blank story.found.logs) (blanks_all P none story.found.logs log) shard
      go false = none

  -- where its core goes on it begins over the lists at entry
  pub begins_at_entry : HasItsDisks S r → IsSoundAtEntry S r → (first_core S.set story.found).ended ≡ None → RunBegins (start_of S r) story.found
  begins_at_entry on sound going = record {
    soundly = record {
      shape = on.shape;
      names = on.names;
      many = went.found.goods;
      lists = λ shard low. opens_read (λ list. IsFromOne list) from_empty disk_from_one shard;
      sound = subst (λ (ls : List Numbered). AreSoundAlong S.set ls) at_entry sound;
      addressed = each_range KeepsAddresses (opened_catalogue S.set story.found) 0 S.set.shape.shards
          (λ g low high. applied_all S.set.name on.names (opened_list S.set story.found g) (empty_catalogue S.set.shape g) (brings g) (record { blocks = tt; roots = tt }));
    };
    entry = ap (λ (ls : List Numbered). store_of (catalogues S.set 0 ls)) at_entry;
    nobody = on.nobody;
  }
    where
      at_entry : OpensAtEntry S r story
      at_entry = opens_at_entry S r story went read on.shape on.disks going

      brings : (g : ℕ) → BringsAll S.set.name on.names (opened_list S.set story.found g)
      brings g = opens_read (λ list. BringsAll S.set.name on.names list) tt (λ seen. go seen (list_in seen) refl) g
        where
          go : (seen : Side → List ℕ) (o : Option Numbered) → list_in seen ≡ o → BringsAll S.set.name on.names (unwrap_or o [])
          go seen None e = tt
          go seen (Some list) e = read_brings S.set.name on.names seen list e

-- ---- it follows

-- what hs_clauses says of reports
abbrev pub ReadsBlocks : Type 0
ReadsBlocks =
    (start : Start) (found : Found) (past done : Bool) (opening : Events) (lines : List Events) (to : ℕ) → RunBegins start found → MomentsRise found.opened (opening ++ lines_events lines) to
    → is_walk next_due done 0 (first_core start.set found) opening ≡ true → AreLines (script_of start past) 1 (steps (first_core start.set found) opening) lines
    → KeepsRecordRoom (first_core start.set found) (opening ++ lines_events lines) → AreTold (open_whole start.set found) (opening ++ lines_events lines)
    → TellTheirBlocks (judging_of start) start.entry (first_core start.set found) (opening ++ lines_events lines)

-- a core that has ended takes no reports
blocks_ended : (by : Judging) (entry : Store) (core : Core) (es : Events) (f : CoreFault) → core.ended ≡ Some f → TellTheirBlocks by entry core es
blocks_ended by entry core [] f over = tt
blocks_ended by entry core (e ∷ es) f over = (
  λ going. (let bad : None ≡ Some f = sym going ∙ over in absurd (cc bad)),
  subst (λ (d : Core). TellTheirBlocks by entry d es) (sym (step_ended e.0 e.1 core f over)) (blocks_ended by entry core es f over),
)

-- where its reports tell what the lists have they tell the bytes of their blocks
module _ (memory : FoldsInMemory) (reads : ReadsBlocks) (S : Script) (r : Ran) (story : Story) (run : RunsTold S r story) where
  rooms : KeepsRecordRoom (first_core S.set story.found) (all_events story)
  rooms = keeps_room (first_core S.set story.found) (all_events story) (λ goes. first_room S.set story.found memory run.begins.soundly.sound) run.rooms

  same_events : all_events story ≡ story.opening ++ lines_events story.lines
  same_events = ap (λ (es : Events). story.opening ++ es) (flat_same story.lines)

  blocks_going : (first_core S.set story.found).ended ≡ None → TellTheirBlocks (judging_by (lined S r) S.set.limits) (entry_store S r) (first_core S.set story.found) (all_events story)
  blocks_going going =
      subst (λ (es : Events). TellTheirBlocks (judging_by (lined S r) S.set.limits) (entry_store S r) (first_core S.set story.found) es) (sym same_events)
      (reads (start_of S r) story.found (ending_of r.ending).past false story.opening story.lines r.new.moment run.begins
      (subst (λ (es : Events). MomentsRise story.found.opened es r.new.moment) same_events run.went.rises)
      (opening_due (opening_is_whole r story.lines) (first_core S.set story.found) story.opening run.went.opening)
      (joined S r 1 (steps (first_core S.set story.found) story.opening) story.lines run.went.lines)
      (subst (λ (es : Events). KeepsRecordRoom (first_core S.set story.found) es) same_events rooms)
      (subst (λ (es : Events). AreTold (open_whole S.set story.found) es) same_events (run.told going)))

  blocks : TellTheirBlocks (judging_by (lined S r) S.set.limits) (entry_store S r) (first_core S.set story.found) (all_events story)
  blocks = go (first_core S.set story.found).ended refl
    where
      go : (o : Option CoreFault) → (first_core S.set story.found).ended ≡ o → TellTheirBlocks (judging_by (lined S r) S.set.limits) (entry_store S r) (first_core S.set story.found) (all_events story)
      go None going = blocks_going going
      go (Some f) over = blocks_ended (judging_by (lined S r) S.set.limits) (entry_store S r) (first_core S.set story.found) (all_events story) f over

  pub soundly_of : RunsSoundly S r story
  soundly_of = record { went = run.went; begins = run.begins; rooms = run.rooms; blocks = blocks }

-- so does a run on disks that tell, whose core goes on
pub runs_soundly : FoldsInMemory → ReadsBlocks → (S : Script) (r : Ran) (story : Story) → HasItsDisks S r → IsToldAs S r story → IsSoundAtEntry S r → (first_core S.set story.found).ended ≡ None → RunsSoundly S r story
runs_soundly memory reads S r story on told sound going =
    let begins : RunBegins (start_of S r) story.found = begins_at_entry S r story told.went told.read on sound going in
    soundly_of memory reads S r story (record { went = told.went; begins = begins; rooms = told.rooms; told = told.told begins.soundly })

-- ---- with one copy of each shard

pub its_disks : (S : Script) (r : Ran) → OnDisks S r → HasItsDisks S r
its_disks S r on = record {
  shape = on.shape;
  names = on.names;
  nobody = on.nobody;
  disks = on.disks ∙ (let all = ap (λ n. S.set.shape.shards * n) on.one in omega (arith, all));
}

pub told_as : (S : Script) (r : Ran) (story : Story) → IsShown S r story → IsToldAs S r story
told_as S r story shown = record { went = shown.went; read = shown.read; rooms = shown.rooms; told = λ soundly going. shown.told going }

pub told_run : (S : Script) (r : Ran) → IsShownRun S r → IsToldRun S r
told_run S r run = record { on = its_disks S r run.on; how = run.how; told = by_how run.how run.shown }
  where
    by_how : (how : Option Story) → ShownAs S r how → ToldAs S r how
    by_how None unopened = unopened.never
    by_how (Some story) shown = told_as S r story shown

pub asked_of : FoldsInMemory → ReadsBlocks → (S : Script) (r : Ran) (story : Story) → OnDisks S r → IsSoundAtEntry S r → IsShown S r story → (first_core S.set story.found).ended ≡ None → IsAskedOf S r story
asked_of memory reads S r story on sound shown going =
    let runs : RunsSoundly S r story = runs_soundly memory reads S r story (its_disks S r on) (told_as S r story shown) sound going in
    record { on = on; sound = sound; read = shown.read; going = going; few = first_room S.set story.found memory runs.begins.soundly.sound; runs = runs }

-- ---- it opens at the store at entry

pub run_opens : (S : Script) (r : Ran) (story : Story) → IsAskedOf S r story → RunOpens (start_of S r) story.found
run_opens S r story asked =
    let b = asked.runs.begins in
    record {
      well = record {
        one = asked.on.one;
        going = asked.going;
        many = b.soundly.many;
        lists = b.soundly.lists;
        sound = b.soundly.sound;
        nobody = b.nobody;
        few = asked.few;
      };
      shape = b.soundly.shape;
      entry = b.entry;
      names = b.soundly.names;
      addressed = b.soundly.addressed;
    }
