-- The plain store that a core gives is that of any folds which its catalogues are, without their bytes.
use Rattle.std.proofs.Common.{◌≡◌, ◌∙◌, ◌+◌, ℕ, suc, List, [], ◌∷◌, length, map, refl, sym, ap}
use Rattle.hs_answered.specs.Standing.{forget_all}
use Rattle.hs_core_words.specs.Plain.{add_shards, plain_store}
use Rattle.hs_core_words.specs.State.{Core}
use Rattle.hs_fold.specs.Opened.{chosen_each}
use Rattle.hs_fold.specs.Runs.Facts.{Catalogue as Folded, plain}
use Rattle.hs_fold.specs.Runs.Opened.{catalogues, opened, pruned, store_of}
use Rattle.hs_fold.specs.Runs.Own.{AreOwn}
use Rattle.hs_fold.specs.Shards.Opened.{store_of as listed}
use Rattle.hs_fold.specs.Shards.Setting.{Numbered, Setting}
use Rattle.hs_fold.proofs.Runs.OwnLemmas.{lists-own}
use Rattle.hs_limits.specs.declared.shape.Shape.{Shape}
use Rattle.hs_memory.proofs.WholeLemmas.{whole}
use Rattle.hs_memory.specs.Forget.{forget}
use Rattle.hs_memory.specs.Whole.{add_folds}
use Rattle.hs_model.specs.Hollow.{hollow}
use Rattle.hs_model.specs.Store.{Store, empty_store}
use Rattle.hs_shard.specs.Facts.{Catalogue}
use Rattle.hs_shard.specs.Plain.{add_shard}

added_is : (shape : Shape) (shard : ℕ) (cs : List Folded) (s : Store) → add_folds shape shard cs s ≡ add_shards (forget_all shape shard cs) s
added_is shape shard [] s = refl
added_is shape shard (c ∷ cs) s = added_is shape (shard + 1) cs (add_shard (forget shape shard c) s)

many_forgotten : (shape : Shape) (shard : ℕ) (cs : List Folded) → length (forget_all shape shard cs) ≡ length cs
many_forgotten shape shard [] = refl
many_forgotten shape shard (c ∷ cs) = ap (λ n. suc n) (many_forgotten shape (shard + 1) cs)

pub plain_is : (shape : Shape) (core : Core) (cs : List Folded) → AreOwn shape.shards 0 cs → core.catalogues ≡ forget_all shape 0 cs → plain_store core ≡ hollow (store_of cs)
plain_is shape core cs own is = ap (λ (s : Store). pruned s) all
  where
    all : add_shards core.catalogues (empty_store (length core.catalogues)) ≡ hollow (listed (map plain cs))
    all =
        ap (λ (ks : List Catalogue). add_shards ks (empty_store (length ks))) is
        ∙ ap (λ (n : ℕ). add_shards (forget_all shape 0 cs) (empty_store n)) (many_forgotten shape 0 cs)
        ∙ sym (added_is shape 0 cs (empty_store (length cs)))
        ∙ whole shape cs own

pub opened_is : (set : Setting) (lists : List Numbered) (core : Core) → core.catalogues ≡ forget_all set.shape 0 (catalogues set 0 (chosen_each set.shape.shards set.shape.copies lists)) → plain_store core ≡ hollow (opened set lists)
opened_is set lists core is = plain_is set.shape core (catalogues set 0 (chosen_each set.shape.shards set.shape.copies lists)) (lists-own set 0 (chosen_each set.shape.shards set.shape.copies lists)) is
