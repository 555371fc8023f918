-- A lawful history in which no payload tells an address gives the same folds by the naming that finds addresses in payloads.
use Rattle.std.proofs.Common.{◌≡◌, ◌∙◌, sym, ap, subst, refl, ℕ, ◌+◌, ◌≤◌, List, [], ◌∷◌, slice_set, Result, Ok, Err, arith}
use Rattle.hs_any_events.proofs.CodedLemmas.{Code, BeginsBelow, ReadsBelow, coded_name, coded_other}
use Rattle.hs_core_words.specs.Looking.{shape_of}
use Rattle.hs_core_words.specs.State.{Core}
use Rattle.hs_effects.specs.Lawful.{AreOfHistory, IsLawful}
use Rattle.hs_entry.specs.declared.entry.Entry.{Entry}
use Rattle.hs_entry.specs.declared.entry.Entry.TheVariants as kind
use Rattle.hs_fold.specs.Lawful.{Deed}
use Rattle.hs_fold.specs.Runs.Catalogue.{apply}
use Rattle.hs_fold.specs.Runs.Clients.{store_block}
use Rattle.hs_fold.specs.Runs.Facts.{Catalogue as Folded}
use Rattle.hs_fold.specs.Runs.Fits.{catalogue_at}
use Rattle.hs_fold.specs.Runs.History.{FitAll, applied, follow, follow_all, no_entries}
use Rattle.hs_fold.specs.Shards.Setting.{Setting, shard_in}
use Rattle.hs_joint.specs.Along.{HaveFewRecords, KeepFewRecords}
use Rattle.hs_limits.specs.Block.{Block}
use Rattle.hs_limits.specs.declared.address.Address.{Address}
use Rattle.hs_limits.specs.declared.limits.Limits.{Limits}
use Rattle.hs_limits.specs.declared.shape.Shape.{Shape}
use Rattle.hs_limits.specs.declared.spelling.SpellingFault.{SpellingFault}
use Rattle.hs_limits.specs.Reading.{read_block}

-- ---- a base above the payloads of a history

-- an entry has no payload that starts from the base on
abbrev pub EntryBelow : ℕ → Entry → Type 0
EntryBelow base (kind.Block op least bytes) = ReadsBelow base (read_block bytes)
EntryBelow base other = Unit {0}

-- nor has any of some
abbrev pub AreBelow : ℕ → List Deed → Type 0
AreBelow base [] = Unit {0}
AreBelow base (deed ∷ deeds) = EntryBelow base deed.entry × AreBelow base deeds

-- a number above that with which a payload starts
abbrev pub payload_base : List ℕ → ℕ
payload_base [] = 0
payload_base (n ∷ rest) = n + 1

abbrev pub read_base : Result Block SpellingFault → ℕ
read_base (Ok block) = payload_base block.bytes
read_base (Err fault) = 0

abbrev pub entry_base : Entry → ℕ
entry_base (kind.Block op least bytes) = read_base (read_block bytes)
entry_base other = 0

-- one above those of all payloads of a history
abbrev pub base_of : List Deed → ℕ
base_of [] = 0
base_of (deed ∷ deeds) = entry_base deed.entry + base_of deeds

payload_above : (base : ℕ) (payload : List ℕ) → payload_base payload ≤ base → BeginsBelow base payload
payload_above base [] most = tt
payload_above base (n ∷ rest) most = omega (arith, most)

read_above : (base : ℕ) (read : Result Block SpellingFault) → read_base read ≤ base → ReadsBelow base read
read_above base (Ok block) most = payload_above base block.bytes most
read_above base (Err fault) most = tt

entry_above : (base : ℕ) (entry : Entry) → entry_base entry ≤ base → EntryBelow base entry
entry_above base (kind.Block op least bytes) most = read_above base (read_block bytes) most
entry_above base other most = tt

pub base_is_above : (history : List Deed) (base : ℕ) → base_of history ≤ base → AreBelow base history
base_is_above [] base most = tt
base_is_above (deed ∷ deeds) base most = (entry_above base deed.entry (omega (arith, most)), base_is_above deeds base (omega (arith, most)))

-- ---- the same folds

module _ (code : Code) (limits : Limits) (shape : Shape) where
  abbrev set : Setting
  set = record { name = code.name; limits = limits; shape = shape }

  abbrev coded : Setting
  coded = record { name = coded_name code; limits = limits; shape = shape }

  read_same : (shard number least : ℕ) (c : Folded) (a : Address) (read : Result Block SpellingFault) → store_block (shard_in coded shard) c number least a read ≡ store_block (shard_in set shard) c number least a read
  read_same shard number least c a (Ok block) = refl
  read_same shard number least c a (Err fault) = refl

  entry_same : (shard number : ℕ) (c : Folded) (entry : Entry) → EntryBelow code.base entry → apply (shard_in coded shard) c (number, entry) ≡ apply (shard_in set shard) c (number, entry)
  entry_same shard number c (kind.Block op least bytes) below =
      read_same shard number least c (coded_name code bytes) (read_block bytes)
      ∙ ap (λ (a : Address). store_block (shard_in set shard) c number least a (read_block bytes)) (coded_other code bytes below)
  entry_same shard number c other below = refl

  deed_same : (cs : List Folded) (deed : Deed) → EntryBelow code.base deed.entry → applied coded cs deed ≡ applied set cs deed
  deed_same cs deed below = entry_same deed.shard deed.number (catalogue_at cs deed.shard) deed.entry below

  follow_same : (cs : List Folded) (deed : Deed) → EntryBelow code.base deed.entry → follow coded cs deed ≡ follow set cs deed
  follow_same cs deed below = ap (λ (c : Folded). slice_set cs deed.shard c) (deed_same cs deed below)

  pub fits_same : (history : List Deed) (cs : List Folded) → AreBelow code.base history → FitAll set cs history → FitAll coded cs history
  fits_same [] cs below fits = tt
  fits_same (deed ∷ deeds) cs below fits = (
    fits.0,
    λ changes. fits.1 (λ same. changes (deed_same cs deed below.0 ∙ same)),
    subst (λ (ds : List Folded). FitAll coded ds deeds) (sym (follow_same cs deed below.0)) (fits_same deeds (follow set cs deed) below.1 fits.2),
  )

  pub records_same : (history : List Deed) (cs : List Folded) → AreBelow code.base history → KeepFewRecords set cs history → KeepFewRecords coded cs history
  records_same [] cs below few = tt
  records_same (deed ∷ deeds) cs below few =
      let back : follow set cs deed ≡ follow coded cs deed = sym (follow_same cs deed below.0) in
      (subst (λ (ds : List Folded). HaveFewRecords ds) back few.0, subst (λ (ds : List Folded). KeepFewRecords coded ds deeds) back (records_same deeds (follow set cs deed) below.1 few.1))

  pub gives_same : (history : List Deed) (cs : List Folded) → AreBelow code.base history → follow_all coded cs history ≡ follow_all set cs history
  gives_same [] cs below = refl
  gives_same (deed ∷ deeds) cs below =
      ap (λ (ds : List Folded). follow_all coded ds deeds) (follow_same cs deed below.0) ∙ gives_same deeds (follow set cs deed) below.1

  pub coded_history : (cs : List Folded) (its : AreOfHistory (record { name = code.name; limits = limits; shape = shape }) cs) → AreBelow code.base its.history
      → AreOfHistory (record { name = coded_name code; limits = limits; shape = shape }) cs
  coded_history cs its below = record {
    history = its.history;
    fits = fits_same its.history (no_entries set) below its.fits;
    records = records_same its.history (no_entries set) below its.records;
    gives = gives_same its.history (no_entries set) below ∙ its.gives;
  }

pub coded_lawful : (code : Code) (core : Core) (cs : List Folded) (its : IsLawful code.name core cs) → AreBelow code.base its.lawful.history → IsLawful (coded_name code) core cs
coded_lawful code core cs its below = record { folded = its.folded; lawful = coded_history code core.limits (shape_of core) cs its.lawful below }
