-- With what a core opens that stands.
use Rattle.std.specs.List.{AllByRecursion}
use Rattle.std.specs.Prelude.{ℕ, List}
use Rattle.hs_answered.specs.Telling.{Judging}
use Rattle.hs_core_words.specs.Opening.{Taken, new_core}
use Rattle.hs_effects.specs.Lawful.{IsLawful}
use Rattle.hs_fold.specs.Runs.Facts.{Catalogue as Folded}
use Rattle.hs_standing.specs.Held.{KeepsAddresses}
use Rattle.hs_limits.specs.declared.shape.Shape.{Shape}
use Rattle.hs_standing.specs.Rests.{AreStored}

-- the catalogues of the taken logs are folds of a lawful history, each block of them was stored by an entry of its log, and their addresses have 32 bytes
pub record MayOpen (by : Judging) (shape : Shape) (taken : Taken) (moment : ℕ) (cs : List Folded) : Type 0 where
  pub lawful : IsLawful by.name (new_core shape by.limits taken moment) cs
  pub stored : AreStored (new_core shape by.limits taken moment) cs
  pub addressed : AllByRecursion KeepsAddresses taken.catalogues
