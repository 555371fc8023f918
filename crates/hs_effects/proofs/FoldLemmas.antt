-- An entry that takes effect, in the catalogues of a core and in their folds.
use Rattle.std.proofs.Common.{◌≡◌, ◌∙◌, sym, ap, subst, ℕ, zero, suc, ◌+◌, ◌<◌, List, [], ◌∷◌, length, refl, arith}
use Rattle.std.proofs.lemmas.Grind.{common_steps}
use Rattle.std.specs.Prelude.{slice_index_or, slice_set}
use Rattle.hs_answered.specs.Standing.{IsFolded, forget_all}
use Rattle.hs_core_words.specs.Effects.{after_entry, take_effect, wakes}
use Rattle.hs_core_words.specs.Looking.{catalogue_of, front_of, shape_of}
use Rattle.hs_core_words.specs.Pending.{named}
use Rattle.hs_core_words.specs.State.{Core}
use Rattle.hs_effects.specs.Taking.{IsNamed, done_by, folds_behind, next_deed, setting_of, taken}
use Rattle.hs_effects.proofs.QuietLemmas.{Quiet, behind_quiet, both, resumed_quiet}
use Rattle.hs_entry.specs.declared.entry.Entry.{Entry}
use Rattle.hs_fold.specs.Runs.Facts.{Catalogue as Folded}
use Rattle.hs_fold.specs.Runs.Fits.{catalogue_at}
use Rattle.hs_fold.specs.Runs.History.{applied}
use Rattle.hs_fold.specs.Runs.Own.{AreOwn, IsOwn}
use Rattle.hs_fold.specs.Shards.Setting.{shard_in}
use Rattle.hs_fold.proofs.Runs.OwnLemmas.{apply-own}
use Rattle.hs_fold.proofs.Shards.PlaceLemmas.{length-set}
use Rattle.hs_joint.proofs.StandLemmas.{own_at, own_set}
use Rattle.hs_limits.specs.declared.address.Address.{Address}
use Rattle.hs_limits.specs.declared.shape.Shape.{Shape}
use Rattle.hs_limits.specs.Shape.{IsShape}
use Rattle.hs_members.specs.Members.{Members}
use Rattle.hs_memory.specs.Forget.{forget}
use Rattle.hs_memory.specs.Forget.{named as named_by}
use Rattle.hs_memory.proofs.AgreeLemmas.{entry_alike}
use Rattle.hs_shard.specs.Apply.{apply}
use Rattle.hs_shard.specs.Facts.{Catalogue, empty_catalogue}

-- ---- folds of all shards, as memory has them

shift : (a b : ℕ) → a + 1 + b ≡ a + suc b
shift a b = omega arith

zero_right : (k : ℕ) → k ≡ k + 0
zero_right k = omega arith

zero_left : (k : ℕ) → 0 + k ≡ k
zero_left k = omega arith

forget_at : (shape : Shape) (from : ℕ) (cs : List Folded) (k : ℕ) → k < length cs → (none : Catalogue) → slice_index_or (forget_all shape from cs) k none ≡ forget shape (from + k) (catalogue_at cs k)
forget_at shape from [] k l none = absurd (omega (arith, l))
forget_at shape from (c ∷ cs) zero l none = ap (λ j. forget shape j c) (zero_right from)
forget_at shape from (c ∷ cs) (suc k) l none =
    forget_at shape (from + 1) cs k (grind (arith, common_steps, l)) none ∙ ap (λ j. forget shape j (catalogue_at cs k)) (shift from k)

forget_set : (shape : Shape) (from : ℕ) (cs : List Folded) (k : ℕ) (d : Folded) → slice_set (forget_all shape from cs) k (forget shape (from + k) d) ≡ forget_all shape from (slice_set cs k d)
forget_set shape from [] k d = refl
forget_set shape from (c ∷ cs) zero d = ap (λ j. forget shape j d ∷ forget_all shape (from + 1) cs) (sym (zero_right from))
forget_set shape from (c ∷ cs) (suc k) d =
    ap (λ j. forget shape from c ∷ slice_set (forget_all shape (from + 1) cs) k (forget shape j d)) (sym (shift from k))
    ∙ ap (λ rest. forget shape from c ∷ rest) (forget_set shape (from + 1) cs k d)

-- ---- what goes on beside leaves folds

pub quiet_folds : (a b : Core) (cs : List Folded) → Quiet a b → IsFolded a cs → IsFolded b cs
quiet_folds a b cs q folded = record {
  valid = subst (λ (m : Members). IsShape m.shape) (sym q.members) folded.valid;
  shards = folded.shards ∙ ap (λ (m : Members). m.shape.shards) (sym q.members);
  own = subst (λ (m : Members). AreOwn m.shape.shards 0 cs) (sym q.members) folded.own;
  catalogues = q.catalogues ∙ folded.catalogues ∙ ap (λ (m : Members). forget_all m.shape 0 cs) (sym q.members);
}

-- ---- the entry

-- all that goes on by an entry goes on beside the catalogues
pub effect_quiet : (shard : ℕ) (entry : Entry) (core : Core) → Quiet (taken shard entry core) (take_effect shard entry core)
effect_quiet shard entry core =
    let here : Core = taken shard entry core in
    let told : Core = after_entry shard entry (done_by shard entry core).effect here in
    both here told (take_effect shard entry core) (behind_quiet shard entry (done_by shard entry core).effect here)
    (resumed_quiet shard (wakes entry (named entry core) told) told)

module _ (name : List ℕ → Address) (cs : List Folded) (core : Core) (shard : ℕ) (entry : Entry) (folded : IsFolded core cs) (low : shard < (shape_of core).shards) where
  abbrev shape : Shape
  shape = shape_of core

  abbrev c : Folded
  c = catalogue_at cs shard

  abbrev number : ℕ
  number = front_of shard core + 1

  -- its shard's fold behind it
  abbrev next : Folded
  next = applied (setting_of name core) cs (next_deed shard entry core)

  pub low_here : shard < length cs
  low_here = subst (λ n. shard < n) (sym folded.shards) low

  pub own_here : IsOwn shape.shards shard c
  own_here = subst (λ k. IsOwn shape.shards k c) (zero_left shard) (own_at shape.shards 0 cs folded.own shard low_here)

  pub memory_at : catalogue_of shard core ≡ forget shape shard c
  memory_at =
      ap (λ ks. slice_index_or ks shard (empty_catalogue shape shard)) folded.catalogues
      ∙ forget_at shape 0 cs shard low_here (empty_catalogue shape shard) ∙ ap (λ k. forget shape k c) (zero_left shard)

  module _ (called : IsNamed name entry core) where
    pub after_is : (done_by shard entry core).catalogue ≡ forget shape shard next
    after_is =
        ap (λ a. (apply number entry a (catalogue_of shard core)).catalogue) called
        ∙ ap (λ k. (apply number entry (named_by name entry) k).catalogue) memory_at
        ∙ entry_alike name shape shard c own_here number entry

    pub taken_folds : IsFolded (taken shard entry core) (folds_behind name cs shard entry core)
    taken_folds = record {
      valid = folded.valid;
      shards = length-set cs shard next ∙ folded.shards;
      own = own_set shape.shards 0 cs folded.own shard low_here next
          (subst (λ k. IsOwn shape.shards k next) (sym (zero_left shard)) (apply-own (shard_in (setting_of name core) shard) c own_here number entry));
      catalogues =
          ap (λ ks. slice_set ks shard (done_by shard entry core).catalogue) folded.catalogues
          ∙ ap (λ k. slice_set (forget_all shape 0 cs) shard k) after_is
          ∙ ap (λ k. slice_set (forget_all shape 0 cs) shard (forget shape k next)) (sym (zero_left shard))
          ∙ forget_set shape 0 cs shard next;
    }

    pub entry_folds : IsFolded (take_effect shard entry core) (folds_behind name cs shard entry core)
    entry_folds = quiet_folds (taken shard entry core) (take_effect shard entry core) (folds_behind name cs shard entry core) (effect_quiet shard entry core) taken_folds
