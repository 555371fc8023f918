-- Sound lists are so whatever the limits of a run.
use Rattle.std.proofs.Common.{◌≡◌, ◌∙◌, ap, sym, subst, refl, ℕ, ◌+◌, List, [], ◌∷◌}
use Rattle.std.specs.Prelude.{All}
use Rattle.hs_fold.specs.Lawful.{Deed}
use Rattle.hs_fold.specs.Runs.Catalogue.{catalogue_of}
use Rattle.hs_fold.specs.Runs.Counts.{AreCounted}
use Rattle.hs_fold.specs.Runs.Facts.{Catalogue}
use Rattle.hs_fold.specs.Runs.History.{FitAll, follow, follow_all, no_entries}
use Rattle.hs_fold.specs.Runs.Opened.{catalogues, store_of}
use Rattle.hs_fold.specs.Runs.Sound.{AreSent, HasRoom}
use Rattle.hs_fold.specs.Shards.Setting.{Numbered, Setting, shard_in}
use Rattle.hs_joint.specs.Along.{KeepFewRecords}
use Rattle.hs_laws.specs.Valid.{IsValid}
use Rattle.hs_limits.specs.declared.limits.Limits.{Limits}
use Rattle.hs_sound.specs.Stay.{AreSoundAlong}

module _ (set : Setting) (limits : Limits) where
  abbrev other : Setting
  other = record set { limits = limits }

  same_catalogues : (shard : ℕ) (lists : List Numbered) → catalogues other shard lists ≡ catalogues set shard lists
  same_catalogues shard [] = refl
  same_catalogues shard (list ∷ lists) = ap (λ (cs : List Catalogue). catalogue_of (shard_in set shard) list ∷ cs) (same_catalogues (shard + 1) lists)

  same_behind : (cs : List Catalogue) (deeds : List Deed) → follow_all other cs deeds ≡ follow_all set cs deeds
  same_behind cs [] = refl
  same_behind cs (deed ∷ deeds) = same_behind (follow set cs deed) deeds

  fit_too : (cs : List Catalogue) (deeds : List Deed) → FitAll set cs deeds → FitAll other cs deeds
  fit_too cs [] h = h
  fit_too cs (deed ∷ deeds) h = (h.0, h.1, fit_too (follow set cs deed) deeds h.2)

  few_too : (cs : List Catalogue) (deeds : List Deed) → KeepFewRecords set cs deeds → KeepFewRecords other cs deeds
  few_too cs [] h = h
  few_too cs (deed ∷ deeds) h = (h.0, few_too (follow set cs deed) deeds h.1)

  pub sound_too : (lists : List Numbered) → AreSoundAlong set lists → AreSoundAlong other lists
  sound_too lists h =
      let same : catalogues set 0 lists ≡ catalogues other 0 lists = sym (same_catalogues 0 lists) in
      record {
        sound = record {
          valid = subst (λ (cs : List Catalogue). IsValid (store_of cs)) same h.sound.valid;
          room = subst (λ (cs : List Catalogue). All HasRoom cs) same h.sound.room;
          counted = subst (λ (cs : List Catalogue). All (AreCounted cs) cs) same h.sound.counted;
          sent = λ shard low. subst (λ (cs : List Catalogue). AreSent cs shard) same (h.sound.sent shard low);
          lawful = record {
            history = h.sound.lawful.history;
            ascends = h.sound.lawful.ascends;
            within = h.sound.lawful.within;
            fits = fit_too (no_entries set) h.sound.lawful.history h.sound.lawful.fits;
            gives = same_behind (no_entries set) h.sound.lawful.history ∙ h.sound.lawful.gives ∙ same;
          };
          views = h.sound.views;
        };
        records = few_too (no_entries set) h.sound.lawful.history h.records;
      }
