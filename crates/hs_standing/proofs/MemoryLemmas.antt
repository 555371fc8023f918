-- The catalogues of a core as its folds, whatever the shard.
use Rattle.std.proofs.Common.{◌≡◌, ◌∙◌, sym, ap, subst, inl, inr, ℕ, zero, suc, ◌+◌, ◌<◌, ◌≤◌, List, [], ◌∷◌, length, refl, arith}
use Rattle.std.proofs.lemmas.Bool.{cases_lt}
use Rattle.std.proofs.lemmas.Grind.{common_steps}
use Rattle.std.specs.Prelude.{slice_index_or}
use Rattle.hs_answered.specs.Standing.{IsFolded, forget_all}
use Rattle.hs_core_words.specs.Looking.{catalogue_of, shape_of}
use Rattle.hs_core_words.specs.State.{Core}
use Rattle.hs_effects.proofs.FoldLemmas.{memory_at}
use Rattle.hs_entry.specs.declared.entry.Entry.TheVariants as kind
use Rattle.hs_fold.specs.Runs.Facts.{Catalogue as Folded, empty_catalogue as empty_fold}
use Rattle.hs_fold.specs.Runs.Fits.{catalogue_at}
use Rattle.hs_limits.specs.declared.address.Address.{Address}
use Rattle.hs_limits.specs.declared.shape.Shape.{Shape}
use Rattle.hs_memory.specs.Forget.{forget}
use Rattle.hs_shard.specs.Facts.{Catalogue, empty_catalogue}

past_memory : (shape : Shape) (from : ℕ) (cs : List Folded) (k : ℕ) → length cs ≤ k → (none : Catalogue) → slice_index_or (forget_all shape from cs) k none ≡ none
past_memory shape from [] k l none = refl
past_memory shape from (c ∷ cs) zero l none = absurd (omega (arith, l))
past_memory shape from (c ∷ cs) (suc k) l none = past_memory shape (from + 1) cs k (grind (arith, common_steps, l)) none

past_fold : (cs : List Folded) (k : ℕ) → length cs ≤ k → catalogue_at cs k ≡ empty_fold
past_fold [] k l = refl
past_fold (c ∷ cs) zero l = absurd (omega (arith, l))
past_fold (c ∷ cs) (suc k) l = past_fold cs k (grind (arith, common_steps, l))

blank : (shape : Shape) (shard : ℕ) → empty_catalogue shape shard ≡ forget shape shard empty_fold
blank shape shard = refl

-- what has taken effect in a shard, or would in one that is not there
pub memory_of : (name : List ℕ → Address) (cs : List Folded) (core : Core) → IsFolded core cs → (shard : ℕ) → catalogue_of shard core ≡ forget (shape_of core) shard (catalogue_at cs shard)
memory_of name cs core folded shard = elim (cases_lt shard (length cs)) [
  | inl low ↦ memory_at name cs core shard (kind.View 0) folded (subst (λ n. shard < n) folded.shards low)
  | inr high ↦ (
      ap (λ ks. slice_index_or ks shard (empty_catalogue (shape_of core) shard)) folded.catalogues
      ∙ past_memory (shape_of core) 0 cs shard high (empty_catalogue (shape_of core) shard)
      ∙ blank (shape_of core) shard
      ∙ ap (λ c. forget (shape_of core) shard c) (sym (past_fold cs shard high))
      )
]
