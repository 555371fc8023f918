-- The addresses of a store that folds make are distinct.
use Rattle.std.proofs.Common.{List, map}
use Rattle.std.specs.Map.{keys_of}
use Rattle.hs_answered.specs.Standing.{store_with}
use Rattle.hs_fold.proofs.Shards.StoreLemmas.{all-sorted}
use Rattle.hs_fold.specs.Runs.Facts.{plain}
use Rattle.hs_fold.specs.Catalogue.{Present}
use Rattle.hs_fold.specs.Runs.Facts.{Catalogue as Folded}
use Rattle.hs_fold.specs.Shards.Opened.{all_present}
use Rattle.hs_joint.proofs.KeyLemmas.{sorted-values}
use Rattle.hs_laws.specs.Distinct.{HasDistinctAddresses}
use Rattle.hs_model.proofs.SetLemmas.{distinct_from_sorted}
use Rattle.hs_tokens.specs.Seats.{Seats}

pub folded_apart : (cs : List Folded) (seats : Seats) → HasDistinctAddresses (store_with cs seats)
folded_apart cs seats = distinct_from_sorted (keys_of (store_with cs seats).blocks) (sorted-values (λ (q : Present). q.stored) (all_present (map plain cs)) (all-sorted (map plain cs)))
