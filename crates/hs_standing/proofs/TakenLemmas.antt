-- Sound lists give a core that may open: its catalogues are the folds of a lawful history, and each block was stored by an entry of its list.
use Rattle.std.proofs.Common.{◌≡◌, ◌∙◌, ap, sym, subst, ℕ, zero, suc, ◌+◌, ◌<◌, false, List, [], ◌∷◌, map, Option, refl, arith, length}
use Rattle.std.proofs.lemmas.List.Elements.{All-head, All-tail}
use Rattle.std.proofs.lemmas.List.FromFn.{get_or-map-range_with_len, length-enumerate_from}
use Rattle.std.specs.List.{enumerate_from, range_with_len}
use Rattle.std.specs.Prelude.{All, slice_index}
use Rattle.hs_answered.specs.Standing.{IsFolded, forget_all}
use Rattle.hs_core_words.specs.Opening.{new_core}
use Rattle.hs_core_words.specs.State.{Core}
use Rattle.hs_effects.specs.Lawful.{AreOfHistory, IsLawful}
use Rattle.hs_entry.specs.declared.entry.Entry.{Entry}
use Rattle.hs_entry.specs.Entries.{is_of_base, rank_of}
use Rattle.hs_events.specs.Found.{Found, opened_catalogue, opened_list, opens_with}
use Rattle.hs_events.specs.Sane.{IsFromOne}
use Rattle.hs_fold.specs.Prefix.{GoOn, IsNumbered}
use Rattle.hs_fold.specs.Runs.Catalogue.{catalogue_of}
use Rattle.hs_fold.specs.Runs.Facts.{Catalogue as Folded, facts_at}
use Rattle.hs_fold.specs.Runs.Fits.{catalogue_at}
use Rattle.hs_fold.specs.Runs.Opened.{catalogues}
use Rattle.hs_fold.specs.Runs.Own.{AreOwn}
use Rattle.hs_fold.specs.Shards.Setting.{Numbered, Setting, shard_in}
use Rattle.hs_joint.proofs.HistoryLemmas.{history_goes, shape_few, shape_some}
use Rattle.hs_standing.specs.Opens.{MayOpen}
use Rattle.hs_limits.specs.declared.address.Address.{Address}
use Rattle.hs_limits.specs.declared.shape.Shape.{Shape}
use Rattle.hs_limits.specs.Shape.{IsShape}
use Rattle.hs_memory.specs.Forget.{apply_all, forget, reading}
use Rattle.hs_model.specs.declared.command.Command.{Command}
use Rattle.hs_moments.proofs.WorkLemmas.{last_is}
use Rattle.hs_standing.proofs.RestsOpenLemmas.{list_numbers, stored_new}
use Rattle.hs_shard.specs.Facts.{empty_catalogue}
use Rattle.hs_sound.specs.Stay.{AreSoundAlong}
use Rattle.hs_standing.specs.Lists.{Lists, whole_from}
use Rattle.hs_standing.specs.Opening.{OpensSoundly, opened_folds, opened_lists}
use Rattle.hs_standing.specs.Run.{RunBegins, RunOpens}
use Rattle.hs_standing.specs.Start.{Start}

-- a catalogue in memory is the fold of its list, as hs_memory has it
abbrev pub FoldsInMemory : Type 0
FoldsInMemory = (name : List ℕ → Address) (shape : Shape) (shard : ℕ) (entries : Numbered) → apply_all name (empty_catalogue shape shard) entries ≡ forget shape shard (catalogue_of (reading name shape shard) entries)

-- ---- lists

goes_counted : (n : ℕ) (es : List Entry) → All (λ e. is_of_base e ≡ false) es → GoOn n (enumerate_from (n + 1) es)
goes_counted n [] plain = tt
goes_counted n (x ∷ es) plain = (refl, All-head (λ e. is_of_base e ≡ false) x es plain, goes_counted (n + 1) es (All-tail (λ e. is_of_base e ≡ false) x es plain))

numbered_from : (list : Numbered) → IsFromOne list → IsNumbered list
numbered_from list l = subst (λ es. IsNumbered es) (sym l.counted) (goes_counted 0 l.entries l.plain)

count_of : (set : Setting) (k : ℕ) (lists : Lists) (n : ℕ) → length (catalogues set k (whole_from lists k n)) ≡ n
count_of set k lists zero = refl
count_of set k lists (suc n) = ap (λ m. suc m) (count_of set (k + 1) lists n)

fold_from : (set : Setting) (lists : Lists) (k n j : ℕ) → j < n → catalogue_at (catalogues set k (whole_from lists k n)) j ≡ catalogue_of (shard_in set (k + j)) (lists.whole (k + j))
fold_from set lists k zero j low = absurd (omega (arith, low))
fold_from set lists k (suc n) zero low = ap (λ m. catalogue_of (shard_in set m) (lists.whole m)) (zero_right k)
  where
    zero_right : (a : ℕ) → a ≡ a + 0
    zero_right a = omega arith
fold_from set lists k (suc n) (suc j) low = fold_from set lists (k + 1) n j (omega (arith, low)) ∙ ap (λ m. catalogue_of (shard_in set m) (lists.whole m)) (shift k j)
  where
    shift : (a b : ℕ) → a + 1 + b ≡ a + suc b
    shift a b = omega arith

-- ---- what a store opens with

module _ (memory : FoldsInMemory) (set : Setting) (found : Found) (shape : IsShape set.shape) (sound : AreSoundAlong set (whole_from (opened_lists set found) 0 set.shape.shards)) where
  abbrev fresh : Core
  fresh = new_core set.shape set.limits (opens_with set found) found.opened

  in_memory : (k n : ℕ) → map (opened_catalogue set found) (range_with_len k n) ≡ forget_all set.shape k (catalogues set k (whole_from (opened_lists set found) k n))
  in_memory k zero = refl
  in_memory k (suc n) =
      let one = memory set.name set.shape k (opened_list set found k) in
      let rest = in_memory (k + 1) n in
      λ i. one i ∷ rest i

  own : AreOwn set.shape.shards 0 (opened_folds set found)
  own =
      let l = sound.sound.lawful in
      subst (λ (ds : List Folded). AreOwn set.shape.shards 0 ds) l.gives
      (history_goes set (shape_some set.shape shape) (shape_few set.shape shape) l.history l.fits sound.records).standing.joined.own

  pub folded : IsFolded (new_core set.shape set.limits (opens_with set found) found.opened) (opened_folds set found)
  folded = record {
    valid = shape;
    shards = count_of set 0 (opened_lists set found) set.shape.shards;
    own = own;
    catalogues = in_memory 0 set.shape.shards;
  }

  abbrev pub history : AreOfHistory set (opened_folds set found)
  history = record { history = sound.sound.lawful.history; fits = sound.sound.lawful.fits; records = sound.records; gives = sound.sound.lawful.gives }

  abbrev pub opens_lawful : IsLawful set.name (new_core set.shape set.limits (opens_with set found) found.opened) (opened_folds set found)
  opens_lawful = record { folded = folded; lawful = history }

module _ (memory : FoldsInMemory) (set : Setting) (found : Found) (o : OpensSoundly set found) where
  zero_left : (a : ℕ) → 0 + a ≡ a
  zero_left a = omega arith

  long_is : (g : ℕ) → g < set.shape.shards → slice_index (opens_with set found).lengths g ≡ length (opened_list set found g)
  long_is g low =
      let l : IsFromOne (opened_list set found g) = o.lists g low in
      get_or-map-range_with_len (λ shard. (rank_of (opened_list set found shard)).number) 0 set.shape.shards g g 0 low (omega arith)
      ∙ ap (λ (es : Numbered). (rank_of es).number) l.counted ∙ last_is l.entries l.plain ∙ sym (ap (λ (es : Numbered). length es) l.counted ∙ length-enumerate_from 1 l.entries)

  fold_is : (g : ℕ) → g < set.shape.shards → catalogue_at (opened_folds set found) g ≡ catalogue_of (shard_in set g) (opened_list set found g)
  fold_is g low = fold_from set (opened_lists set found) 0 set.shape.shards g low ∙ ap (λ m. catalogue_of (shard_in set m) (opened_list set found m)) (zero_left g)

  pub may_open : (commands : ℕ → Option Command) → MayOpen (record { commands = commands; name = set.name; limits = set.limits }) set.shape (opens_with set found) found.opened (opened_folds set found)
  may_open commands = record {
    lawful = opens_lawful memory set found o.shape o.sound;
    stored = stored_new (opened_folds set found) set.shape set.limits (opens_with set found) found.opened (count_of set 0 (opened_lists set found) set.shape.shards)
        (λ g low a facts at.
        let up = list_numbers (shard_in set g) (opened_list set found g) (numbered_from (opened_list set found g) (o.lists g low)) a facts (ap (λ (c : Folded). facts_at c a) (sym (fold_is g low)) ∙ at) in
        let long = long_is g low in
        omega (arith, up, long));
    addressed = o.addressed;
  }

-- so a run opens
pub runs_soundly : (start : Start) (found : Found) → RunOpens start found → OpensSoundly start.set found
runs_soundly start found o = record { shape = o.shape; names = o.names; many = o.well.many; lists = o.well.lists; sound = o.well.sound; addressed = o.addressed }

pub run_begins : (start : Start) (found : Found) → RunOpens start found → RunBegins start found
run_begins start found o = record { soundly = runs_soundly start found o; entry = o.entry; nobody = o.well.nobody }
