-- Which blocks of a core are zero blocks, in the words of the plain store: of the store that its catalogues are, and what the anchors of a run reach there.
use Rattle.std.specs.Prelude.{◌≡◌, ◌⊎◌, ◌<◌, ℕ, true, false, Contains, List, Some}
use Rattle.hs_core_words.specs.State.{Core}
use Rattle.hs_effects.specs.Lawful.{IsLawful, MayFollow}
use Rattle.hs_effects.specs.Taking.{setting_of}
use Rattle.hs_fold.specs.Lawful.{Deed}
use Rattle.hs_fold.specs.Runs.Facts.{Facts, Catalogue as Folded}
use Rattle.hs_fold.specs.Runs.Fits.{catalogue_at}
use Rattle.hs_fold.specs.Runs.Opened.{store_of}
use Rattle.hs_fold.specs.Shards.Happening.{sweeps}
use Rattle.hs_fold.specs.Shards.Setting.{Setting}
use Rattle.hs_joint.specs.Along.{happening_by}
use Rattle.hs_laws.specs.Unreached.{IsUnreached}
use Rattle.hs_limits.specs.declared.address.Address.{Address}
use Rattle.hs_model.specs.Reach.{IsReached, anchors}

-- each present block of a shard that the anchors of the shard's epoch reach was given in that epoch, or is no zero block
abbrev pub NoReachedIsZero : List Folded → Type 0
NoReachedIsZero cs = (shard : ℕ) (a : Address) (facts : Facts) → Contains (catalogue_at cs shard).blocks (a, facts)
    → IsReached (store_of cs) (anchors (store_of cs) (catalogue_at cs shard).epoch) a
    → (facts.present.mark ≡ (catalogue_at cs shard).epoch) ⊎ (facts.zero ≡ false)

-- each of its blocks that was born before that epoch, and that these anchors don't reach, is a zero block, and was last given before it
abbrev pub EachUnreachedIsZero : List Folded → ℕ → Type 0
EachUnreachedIsZero cs shard = (a : Address) (facts : Facts) → Contains (catalogue_at cs shard).blocks (a, facts)
    → IsUnreached (store_of cs) (catalogue_at cs shard).epoch shard a facts.present.stored
    → (facts.zero ≡ true) × (facts.present.mark < (catalogue_at cs shard).epoch)

-- no zero block of these catalogues is a wrong one; and where an entry that may come next completes the last round of a run, so that its shard sweeps, each is there
pub record AreZerosRight (set : Setting) (cs : List Folded) : Type 0 where
  pub no_wrong_zero : NoReachedIsZero cs
  pub exact_zero : (deed : Deed) → MayFollow set cs deed → happening_by set cs deed ≡ Some (sweeps deed.shard) → EachUnreachedIsZero cs deed.shard

-- so it is of a core, whose catalogues are those of a lawful history of entries
pub record ZerosRight (name : List ℕ → Address) (core : Core) : Type 0 where
  pub folds : List Folded
  pub lawful : IsLawful name core folds
  pub now : AreZerosRight (setting_of name core) folds
