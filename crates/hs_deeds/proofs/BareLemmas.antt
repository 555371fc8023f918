-- The store of a core without data is that of any folds which its catalogues are, without theirs.
use Rattle.std.proofs.Common.{◌≡◌, List, ap}
use Rattle.hs_answered.proofs.PlainLemmas.{plain_is}
use Rattle.hs_answered.specs.Standing.{IsFolded, store_with}
use Rattle.hs_core_words.specs.Looking.{shape_of}
use Rattle.hs_core_words.specs.State.{Core}
use Rattle.hs_deeds.specs.Bare.{bare_store}
use Rattle.hs_fold.specs.Runs.Facts.{Catalogue as Folded}
use Rattle.hs_model.specs.Hollow.{hollow}
use Rattle.hs_model.specs.Store.{Store, with_sessions}
use Rattle.hs_shown.specs.Showing.{as_sessions}

pub bare_is : (core : Core) (cs : List Folded) → IsFolded core cs → bare_store core ≡ hollow (store_with cs core.sessions)
bare_is core cs folded = ap (λ (s : Store). with_sessions s (as_sessions core.sessions)) (plain_is (shape_of core) core cs folded.own folded.catalogues)
