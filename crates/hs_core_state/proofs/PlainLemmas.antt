-- Catalogues put into a plain store one after another, and roots left out of it.
use Rattle.std.proofs.Common.{◌≡◌, ◌∙◌, ap, sym, ℕ, ◌+◌, ◌<◌, List, drop, filter, length, map}
use Rattle.std.proofs.lemmas.List.{drop_more}
use Rattle.std.specs.Prelude.{slice_index_or}
use Rattle.hs_core_words.specs.Plain.{add_shards}
use Rattle.hs_model.specs.declared.plain.PlainRoot.{PlainRoot}
use Rattle.hs_model.specs.Inner.{stays_in}
use Rattle.hs_model.specs.Plain.{root_of}
use Rattle.hs_model.specs.Store.{Store}
use Rattle.hs_model.proofs.SetLemmas.{map_of_filter}
use Rattle.hs_shard.specs.Facts.{Catalogue}
use Rattle.hs_shard.specs.Plain.{add_shard}

-- with the next one too
pub one_more_added : (cs : List Catalogue) (place : ℕ) (d : Catalogue) (s now : Store) → place < length cs → now ≡ add_shard (slice_index_or cs place d) s → add_shards (drop (place + 1) cs) now ≡ add_shards (drop place cs) s
one_more_added cs place d s now low is =
    ap (λ (z : Store). add_shards (drop (place + 1) cs) z) is ∙ sym (ap (λ (xs : List Catalogue). add_shards xs s) (drop_more cs place d low))

-- the roots that are left are those that count
pub roots_left : (epochs : List ℕ) (old kept left now : List PlainRoot) → kept ≡ old → left ≡ filter (λ root. stays_in epochs (root_of root)) kept → now ≡ left → map root_of now ≡ filter (stays_in epochs) (map root_of old)
roots_left epochs old kept left now is filtered same =
    ap (λ (xs : List PlainRoot). map root_of xs) (same ∙ filtered ∙ ap (λ (xs : List PlainRoot). filter (λ root. stays_in epochs (root_of root)) xs) is)
    ∙ map_of_filter (stays_in epochs) root_of old
