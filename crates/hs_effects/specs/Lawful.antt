-- The catalogues of a core as those of a lawful history of entries.
use Rattle.std.specs.Option.{option_map_or}
use Rattle.std.specs.Prelude.{◌≡◌, ℕ, zero, suc, ◌-◌, ◌<◌, List, Some}
use Rattle.hs_answered.specs.Standing.{IsFolded}
use Rattle.hs_core_words.specs.Effects.{commit_next}
use Rattle.hs_core_words.specs.Looking.{front_of, group_of}
use Rattle.hs_core_words.specs.State.{Core}
use Rattle.hs_effects.specs.Taking.{folds_behind, next_deed, setting_of}
use Rattle.hs_entry.specs.declared.entry.Entry.{Entry}
use Rattle.hs_fold.specs.Lawful.{Deed}
use Rattle.hs_fold.specs.Runs.Facts.{Catalogue as Folded}
use Rattle.hs_fold.specs.Runs.Fits.{MayCome, catalogue_at}
use Rattle.hs_fold.specs.Runs.History.{FitAll, applied, follow, follow_all, no_entries}
use Rattle.hs_fold.specs.Shards.Setting.{Setting}
use Rattle.hs_joint.specs.Along.{HaveFewRecords, KeepFewRecords}
use Rattle.hs_limits.specs.declared.address.Address.{Address}
use Rattle.hs_replica.specs.Group.{commit_front, committed}

-- folds are what a lawful history gives in which no shard has more root records than it takes
pub record AreOfHistory (set : Setting) (cs : List Folded) : Type 0 where
  pub history : List Deed
  pub fits : FitAll set (no_entries set) history
  pub records : KeepFewRecords set (no_entries set) history
  pub gives : follow_all set (no_entries set) history ≡ cs

-- an entry may come behind them: it is of a shard, what it rests on is there where it changes something, and no shard has more root records then
pub record MayFollow (set : Setting) (cs : List Folded) (deed : Deed) : Type 0 where
  pub of : deed.shard < set.shape.shards
  pub rests : (applied set cs deed ≡ catalogue_at cs deed.shard → ⊥) → MayCome cs deed.shard deed.entry
  pub records : HaveFewRecords (follow set cs deed)

-- the catalogues of a core are these folds, and these are of a lawful history
pub record IsLawful (name : List ℕ → Address) (core : Core) (cs : List Folded) : Type 0 where
  pub folded : IsFolded core cs
  pub lawful : AreOfHistory (setting_of name core) cs

-- ---- all that is committed

-- the folds behind the next entry of a shard that is committed, where there is one
abbrev pub folds_next : (List ℕ → Address) → ℕ → Core → List Folded → List Folded
folds_next name shard core cs = option_map_or (λ (e : ℕ × Entry). folds_behind name cs shard e.1 core) (committed (group_of shard core)) cs

-- it may come
abbrev pub MayComeNext : (List ℕ → Address) → ℕ → Core → List Folded → Type 0
MayComeNext name shard core cs = (number : ℕ) (entry : Entry) → committed (group_of shard core) ≡ Some (number, entry) → MayFollow (setting_of name core) cs (next_deed shard entry core)

-- the folds behind so many, one after another, and that each may come
abbrev pub folds_after : ℕ → (List ℕ → Address) → ℕ → Core → List Folded → List Folded
folds_after zero name shard core cs = cs
folds_after (suc n) name shard core cs = folds_after n name shard (commit_next shard core) (folds_next name shard core cs)

abbrev pub MayComeAll : ℕ → (List ℕ → Address) → ℕ → Core → List Folded → Type 0
MayComeAll zero name shard core cs = Unit {0}
MayComeAll (suc n) name shard core cs = MayComeNext name shard core cs × MayComeAll n name shard (commit_next shard core) (folds_next name shard core cs)

-- how many are committed
abbrev pub committed_count : ℕ → Core → ℕ
committed_count shard core = commit_front (group_of shard core) - front_of shard core
