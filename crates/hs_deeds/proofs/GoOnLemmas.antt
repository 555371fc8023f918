-- A change that tells deeds leaves a core whose journal is one of deeds.
use Rattle.std.proofs.Common.{◌≡◌, ◌∙◌, sym, ap, subst, List, [], ◌++◌, map, append_assoc}
use Rattle.hs_answered.specs.Standing.{IsFolded, store_with}
use Rattle.hs_core_words.specs.State.{Core}
use Rattle.hs_deeds.proofs.BareLemmas.{bare_is}
use Rattle.hs_deeds.proofs.OnLemmas.{after_join, deeds_join, map_join}
use Rattle.hs_deeds.specs.Bare.{bare_store}
use Rattle.hs_deeds.specs.History.{HasTold, deeds_of}
use Rattle.hs_deeds.specs.On.{DeedsOn}
use Rattle.hs_deeds.specs.Told.{store_after}
use Rattle.hs_fold.specs.Runs.Facts.{Catalogue as Folded}
use Rattle.hs_journal.specs.declared.entry.JournalEntry.{JournalEntry}
use Rattle.hs_journal.specs.Deeds.{as_deed}
use Rattle.hs_limits.specs.declared.limits.Limits.{Limits}
use Rattle.hs_model.specs.Deeds.{AreDeeds, DeedEntry}
use Rattle.hs_model.specs.Hollow.{hollow}
use Rattle.hs_model.specs.Store.{Store}
use Rattle.hs_standing.specs.Telling.{told_so_far}

-- a core that has told nothing
pub tells_nothing : (limits : Limits) (core : Core) → told_so_far core ≡ [] → HasTold limits (bare_store core) core
tells_nothing limits core none = record {
  deeds = subst (λ (es : List JournalEntry). AreDeeds limits (bare_store core) [] (map as_deed es)) (sym none) tt;
  left = ap (λ (es : List JournalEntry). store_after (bare_store core) (map as_deed es)) none;
}

told_on : (a b : Core) (more : List JournalEntry) → b.journal ≡ a.journal → b.refused ≡ a.refused → b.entries ≡ a.entries ++ more → told_so_far b ≡ told_so_far a ++ more
told_on a b more journal refused told =
    ap (λ (j : List JournalEntry). (j ++ b.refused) ++ b.entries) journal
    ∙ ap (λ (r : List JournalEntry). (a.journal ++ r) ++ b.entries) refused
    ∙ ap (λ (es : List JournalEntry). (a.journal ++ a.refused) ++ es) told
    ∙ sym (append_assoc (a.journal ++ a.refused) a.entries more)

-- a change that tells deeds keeps it
pub tells_on : (Known : List DeedEntry → Type 0) (limits : Limits) (start : Store) (cs behind : List Folded) (a b : Core) → IsFolded a cs → IsFolded b behind → DeedsOn Known limits cs behind a b → Known (deeds_of a) → HasTold limits start a → HasTold limits start b
tells_on Known limits start cs behind a b folded later on known its = record {
  deeds = subst (λ (es : List DeedEntry). AreDeeds limits start [] es) (sym all) (deeds_join limits start [] (deeds_of a) (map as_deed on.more) its.deeds (subst (λ (s : Store). AreDeeds limits s (deeds_of a) (map as_deed on.more)) (sym here) (on.deeds (deeds_of a) known)));
  left =
      ap (λ (es : List DeedEntry). store_after start es) all ∙ after_join start (deeds_of a) (map as_deed on.more)
      ∙ ap (λ (s : Store). store_after s (map as_deed on.more)) here ∙ on.left ∙ sym (bare_is b behind later);
}
  where
    all : deeds_of b ≡ deeds_of a ++ map as_deed on.more
    all = ap (λ (es : List JournalEntry). map as_deed es) (told_on a b on.more on.journal on.refused on.told) ∙ map_join as_deed (told_so_far a) on.more

    here : store_after start (deeds_of a) ≡ hollow (store_with cs a.sessions)
    here = its.left ∙ bare_is a cs folded
