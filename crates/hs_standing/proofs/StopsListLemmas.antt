-- What the lists that a stop leaves of all shards amount to.
use Rattle.std.proofs.Common.{◌≡◌, ◌≢◌, ℕ, ◌+◌, ◌<◌, List, length, Option, sym, ap, ◌∙◌, subst, arith}
use Rattle.std.proofs.lemmas.List.Elements.{All-from_recursion}
use Rattle.std.specs.List.{AllByRecursion}
use Rattle.std.specs.Prelude.{All, AllPairs}
use Rattle.hs_limits.specs.Shape.{IsShape}
use Rattle.hs_model.specs.Store.{reborn}
use Rattle.hs_entry.specs.declared.entry.Entry.{Entry}
use Rattle.hs_fold.specs.Shards.Happening.{Happening, happen_all, happenings, AreLegal}
use Rattle.hs_fold.specs.Shards.Parted.{Parted, done_lists, whole_lists}
use Rattle.hs_fold.specs.Shards.Pending.{AreOneRun, changing_lines}
use Rattle.hs_fold.specs.Shards.Setting.{Numbered, Setting}
use Rattle.hs_fold.specs.Shards.Sound.{HasRisingViews}
use Rattle.hs_fold.specs.Runs.Facts.{Catalogue}
use Rattle.hs_fold.specs.Runs.History.{AreLawful, no_entries}
use Rattle.hs_fold.specs.Runs.Opened.{catalogues, store_of}
use Rattle.hs_fold.proofs.Shards.LawfulLemmas.{PairsBy, pairs-from, pairs-to}
use Rattle.hs_joint.specs.Along.{EachDoesItsPart, KeepFewRecords}
use Rattle.hs_journal.specs.declared.entry.JournalEntry.{JournalEntry}
use Rattle.hs_sound.specs.Stay.{AreSoundAlong}
use Rattle.hs_sound.proofs.SoundLemmas.{whole_along}
use Rattle.hs_waiting.specs.Lists.{MayAllWait, pending_deeds}
use Rattle.hs_waiting.proofs.ListLemmas.{gives_whole, runs}
use Rattle.hs_standing.specs.Left.{AreFronts, EachLineOnce, MayBeLeft, TookEffect}
use Rattle.hs_standing.specs.Lists.{Lists, settled, settled_catalogues, settled_from, whole_from}
use Rattle.hs_fold.specs.Shards.Outstanding.{MayPend, pending}
use Rattle.hs_standing.specs.Start.{Start, events_in, store_after}
use Rattle.hs_standing.proofs.PartLemmas.{parted, parted_awaited, parted_count, parted_done, parted_few, parted_lines, parted_pending, parted_views, parted_wait, parted_whole}
use Rattle.hs_standing.proofs.SessionLemmas.{all_left, legal_left}
use Rattle.hs_standing.proofs.ThinLemmas.{thins_pairs}
use Rattle.hs_standing.proofs.StopsWalkLemmas.{happened_along, few_all, parts_legal, parts_stand, pending_parts, walk_all}

-- what took effect is lawful, along a history without too many root records
pub record IsLawful (set : Setting) (lists : List Numbered) : Type 0 where
  pub lawful : AreLawful set lists (catalogues set 0 lists)
  pub records : KeepFewRecords set (no_entries set) lawful.history

module _ (start : Start) (journal : List JournalEntry) (Awaited : ℕ → Type 0) (lists : Lists) (shape : IsShape start.set.shape) (took : TookEffect start journal lists)
    (left : (shard : ℕ) → shard < start.set.shape.shards → MayBeLeft start.set Awaited lists shard) (some : List Numbered) (count : length some ≡ start.set.shape.shards) (fine : AreFronts lists 0 some) where
  abbrev set : Setting
  set = start.set

  abbrev parts : List Parted
  parts = parted lists 0 some

  abbrev done : List Catalogue
  done = catalogues set 0 (done_lists parts)

  abbrev now : List (Entry × Option Happening)
  now = pending set lists.front 0 some

  abbrev more : List Happening
  more = happenings now

  end : 0 + length some ≡ set.shape.shards
  end = zero_left (length some) ∙ count
    where
      zero_left : (n : ℕ) → 0 + n ≡ n
      zero_left n = omega arith

  whole_is : whole_lists parts ≡ some
  whole_is = parted_whole lists 0 some

  done_is : done_lists parts ≡ settled set lists
  done_is = parted_done lists 0 some fine ∙ ap (λ n. settled_from lists 0 n) count

  pub settled_is : done ≡ settled_catalogues set lists
  settled_is = ap (λ ls. catalogues set 0 ls) done_is

  now_is : now ≡ pending_parts set 0 parts
  now_is = parted_pending set Awaited lists 0 set.shape.shards some end fine left

  -- ---- what took effect, and what waits behind it

  law : IsLawful set (done_lists parts)
  law = subst (λ ls. IsLawful set ls) (sym done_is) (record { lawful = took.lawful; records = took.records })

  each : length parts ≡ set.shape.shards
  each = parted_count lists 0 some ∙ count

  waits : MayAllWait done 0 parts
  waits = subst (λ cs. MayAllWait cs 0 parts) (sym settled_is) (parted_wait set Awaited lists 0 set.shape.shards some end fine left)

  pub lists_few : KeepFewRecords set done (pending_deeds 0 parts)
  lists_few = few_all set parts (parted_few set Awaited lists 0 set.shape.shards some end fine left)

  views : All HasRisingViews (whole_lists parts)
  views = All-from_recursion HasRisingViews (whole_lists parts) (subst (λ ls. AllByRecursion HasRisingViews ls) (sym whole_is) (parted_views set Awaited lists 0 set.shape.shards some end fine left))

  each_part : EachDoesItsPart set done (pending_deeds 0 parts)
  each_part = (runs set parts law.lawful shape each law.records waits lists_few).parts

  pub lists_happen : happened_along set done (pending_deeds 0 parts) ≡ more
  lists_happen = walk_all set parts ∙ ap (λ es. happenings es) (sym now_is)

  stood : store_of done ≡ reborn (store_after start journal)
  stood = ap (λ cs. store_of cs) settled_is ∙ took.stood

  -- ---- so they reopen

  pub lists_sound : AreSoundAlong set some
  lists_sound = subst (λ ls. AreSoundAlong set ls) whole_is (whole_along set parts law.lawful shape each law.records waits lists_few views)

  pub lists_stand : store_of (catalogues set 0 some) ≡ reborn (happen_all (store_after start journal) more)
  lists_stand =
      ap (λ ls. store_of (catalogues set 0 ls)) (sym whole_is)
      ∙ ap (λ cs. store_of cs) (sym (gives_whole set parts))
      ∙ parts_stand set done (pending_deeds 0 parts) each_part
      ∙ ap (λ hs. happen_all (store_of done) hs) lists_happen
      ∙ ap (λ s. happen_all s more) stood
      ∙ sym (all_left (store_after start journal) more)

  pub lists_legal : AreOneRun set.limits start.entry (events_in start journal) more
  lists_legal = record {
    events_legal = took.legal;
    more_legal = legal_left (store_after start journal) more (subst (λ s. AreLegal s more) stood (subst (λ hs. AreLegal (store_of done) hs) lists_happen (parts_legal set done (pending_deeds 0 parts) each_part)));
  }

  pub lists_awaited : All (λ (e : Entry × Option Happening). MayPend Awaited e.0) now
  lists_awaited = subst (λ es. All (λ (e : Entry × Option Happening). MayPend Awaited e.0) es) (sym now_is)
      (All-from_recursion (λ (e : Entry × Option Happening). MayPend Awaited e.0) (pending_parts set 0 parts) (parted_awaited set Awaited lists 0 set.shape.shards some end fine left))

  pub lists_once : EachLineOnce start lists → AllPairs (λ (one other : ℕ). one ≢ other) (changing_lines now)
  lists_once once = pairs-to Other (changing_lines now) (subst (λ es. PairsBy Other (changing_lines es)) (sym now_is)
      (thins_pairs Other (changing_lines (pending_parts set 0 parts)) (changing_lines (pending set lists.front 0 (whole_from lists 0 (length some)))) (parted_lines set Awaited lists 0 set.shape.shards some end fine left)
      (pairs-from Other (changing_lines (pending set lists.front 0 (whole_from lists 0 (length some)))) (subst (λ n. AllPairs Other (changing_lines (pending set lists.front 0 (whole_from lists 0 n)))) (sym count) once))))
    where
      Other : ℕ → ℕ → Type 0
      Other one other = one ≢ other
