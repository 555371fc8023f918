-- A lawful history with one entry more.
use Rattle.std.proofs.Common.{◌≡◌, ◌∙◌, sym, ap, subst, ℕ, List, [], ◌∷◌, ◌++◌}
use Rattle.hs_core_words.specs.Effects.{take_effect}
use Rattle.hs_core_words.specs.State.{Core}
use Rattle.hs_effects.specs.Lawful.{AreOfHistory, IsLawful, MayFollow}
use Rattle.hs_effects.specs.Taking.{IsNamed, folds_behind, next_deed, setting_of, taken}
use Rattle.hs_effects.proofs.FoldLemmas.{effect_quiet, entry_folds}
use Rattle.hs_effects.proofs.QuietLemmas.{Quiet}
use Rattle.hs_entry.specs.declared.entry.Entry.{Entry}
use Rattle.hs_fold.specs.Lawful.{Deed}
use Rattle.hs_fold.specs.Runs.Facts.{Catalogue as Folded}
use Rattle.hs_fold.specs.Runs.History.{follow, follow_all, no_entries}
use Rattle.hs_fold.specs.Shards.Setting.{Setting}
use Rattle.hs_joint.specs.Along.{DoesItsPart, KeepFewRecords}
use Rattle.hs_joint.proofs.HistoryLemmas.{goes_all, history_goes, shape_few, shape_some}
use Rattle.hs_limits.specs.declared.address.Address.{Address}
use Rattle.hs_limits.specs.declared.limits.Limits.{Limits}
use Rattle.hs_limits.specs.Shape.{IsShape}
use Rattle.hs_members.specs.Members.{Members}
use Rattle.hs_waiting.proofs.ListLemmas.{fit_append, follow_append}

few_append : (set : Setting) (cs : List Folded) (one more : List Deed) → KeepFewRecords set cs one → KeepFewRecords set (follow_all set cs one) more → KeepFewRecords set cs (one ++ more)
few_append set cs [] more f g = g
few_append set cs (d ∷ one) more f g = (f.0, few_append set (follow set cs d) one more f.1 g)

module _ (set : Setting) (shape : IsShape set.shape) (cs : List Folded) (its : AreOfHistory set cs) (deed : Deed) (may : MayFollow set cs deed) where
  pub does_its_part : DoesItsPart set cs deed
  does_its_part = subst (λ ds. MayFollow set ds deed → DoesItsPart set ds deed) its.gives there may
    where
      there : MayFollow set (follow_all set (no_entries set) its.history) deed → DoesItsPart set (follow_all set (no_entries set) its.history) deed
      there may =
          let behind = history_goes set (shape_some set.shape shape) (shape_few set.shape shape) its.history its.fits its.records in
          (goes_all set (shape_some set.shape shape) (shape_few set.shape shape) (deed ∷ []) (follow_all set (no_entries set) its.history) behind.later behind.standing behind.valid
          (may.of, may.rests, tt) (may.records, tt)).parts.0

  pub history_more : AreOfHistory set (follow set cs deed)
  history_more = record {
    history = its.history ++ deed ∷ [];
    fits = fit_append set (no_entries set) its.history (deed ∷ []) its.fits (there.of, there.rests, tt);
    records = few_append set (no_entries set) its.history (deed ∷ []) its.records (there.records, tt);
    gives = follow_append set (no_entries set) its.history (deed ∷ []) ∙ ap (λ ds. follow set ds deed) its.gives;
  }
    where
      there : MayFollow set (follow_all set (no_entries set) its.history) deed
      there = subst (λ ds. MayFollow set ds deed) (sym its.gives) may

-- what a core is set up with
set_by : (List ℕ → Address) → Limits → Members → Setting
set_by name limits members = record { name = name; limits = limits; shape = members.shape }

pub set_same : (name : List ℕ → Address) (a b : Core) → Quiet a b → setting_of name b ≡ setting_of name a
unfolding set_by
set_same name a b q = ap (λ (limits : Limits). set_by name limits b.members) q.limits ∙ ap (λ (members : Members). set_by name a.limits members) q.members

module _ (name : List ℕ → Address) (cs : List Folded) (core : Core) (shard : ℕ) (entry : Entry) (its : IsLawful name core cs) (may : MayFollow (setting_of name core) cs (next_deed shard entry core)) where
  pub entry_part : DoesItsPart (setting_of name core) cs (next_deed shard entry core)
  entry_part = does_its_part (setting_of name core) its.folded.valid cs its.lawful (next_deed shard entry core) may

  pub entry_lawful : IsNamed name entry core → IsLawful name (take_effect shard entry core) (folds_behind name cs shard entry core)
  entry_lawful called = record {
    folded = entry_folds name cs core shard entry its.folded may.of called;
    lawful = subst (λ set. AreOfHistory set (folds_behind name cs shard entry core)) (sym (set_same name (taken shard entry core) (take_effect shard entry core) (effect_quiet shard entry core)))
        (history_more (setting_of name core) its.folded.valid cs its.lawful (next_deed shard entry core) may);
  }
