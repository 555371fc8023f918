-- A Got that takes effect tells nothing, or a sweep, with `done` directly behind it where it ends the run.
use Rattle.std.proofs.Common.{◌≡◌, ◌∙◌, sym, ap, subst, ℕ, ◌<◌, ◌≤◌, ◌++◌, Bool, true, false, cond, List, length, Some, None, refl}
use Rattle.std.specs.List.{AllByRecursion}
use Rattle.hs_standing.specs.Changes.{told_at_once}
use Rattle.hs_answered.specs.Standing.{store_with}
use Rattle.hs_answered.specs.Telling.{Judging}
use Rattle.hs_core_words.specs.Effects.{take_effect}
use Rattle.hs_core_words.specs.Entering.{propose_due}
use Rattle.hs_core_words.specs.Looking.{catalogue_of, group_of, shape_of}
use Rattle.hs_core_words.specs.State.{Core}
use Rattle.hs_settled.proofs.RuleLemmas.{Rule, all_front, rule_same}
use Rattle.hs_settled.proofs.SaidLemmas.{more_told, same_told}
use Rattle.hs_settled.specs.Deletion.{IsMereRefusal}
use Rattle.hs_effects.proofs.QuietLemmas.{Mute, due_mute, resumed_none}
use Rattle.hs_effects.proofs.SweepLemmas.{ByViews}
use Rattle.hs_effects.specs.Lawful.{MayFollow}
use Rattle.hs_effects.specs.Taking.{done_by, folds_behind, next_deed, setting_of, taken}
use Rattle.hs_effects.specs.Telling.{HasSwept, IsSilent}
use Rattle.hs_entry.specs.declared.entry.Entry.{Entry}
use Rattle.hs_entry.specs.declared.entry.Entry.TheVariants as kind
use Rattle.hs_fold.specs.Runs.Facts.{Catalogue as Folded}
use Rattle.hs_fold.specs.Runs.Fits.{catalogue_at}
use Rattle.hs_fold.specs.Runs.Happening.{ends_run}
use Rattle.hs_fold.specs.Shards.Happening.{sweeps as sweeping}
use Rattle.hs_fold.specs.Shards.Sound.{most_records}
use Rattle.hs_standing.specs.Held.{GivesAddresses}
use Rattle.hs_joint.specs.Along.{happening_by}
use Rattle.hs_journal.specs.declared.entry.JournalEntry.{JournalEntry}
use Rattle.hs_laws.specs.Valid.{IsValid}
use Rattle.hs_standing.proofs.Laws.{Entries, Steps}
use Rattle.hs_standing.proofs.MuteLemmas.{at_once_books, books_of}
use Rattle.hs_standing.proofs.StandingLemmas.{standing_follows}
use Rattle.hs_standing.specs.Legal.{IsStanding}
use Rattle.hs_standing.specs.Telling.{told_so_far}
use Rattle.hs_limits.specs.declared.delta.Delta.{Delta}
use Rattle.hs_model.specs.Store.{Store}
use Rattle.hs_replica.specs.Group.{committed}
use Rattle.hs_standing.proofs.ValidLemmas.{told_valid}
use Rattle.hs_swept.proofs.ApartLemmas.{folded_apart}
use Rattle.hs_swept.proofs.DoneLemmas.{group_swept}
use Rattle.hs_swept.proofs.ExactLemmas.{Blocks, Given}
use Rattle.hs_swept.proofs.JoinLemmas.{joined}
use Rattle.hs_swept.specs.Swept.{AreSwept, sweep_entries}

module _ (blocks : Blocks) (given : Given) (views : ByViews) (steps : Steps) (laws : Entries) (by : Judging) (names : GivesAddresses by.name) (start : Store) (valid : IsValid start) where
  module _ (c : Core) (cs : List Folded) (its : IsStanding by start c cs) (shard number sender epoch round total : ℕ) (deltas : List Delta) (low : shard < (shape_of c).shards)
      (leads : committed (group_of shard c) ≡ Some (number, kind.Got sender epoch round total deltas))
      (few : (g : ℕ) → length (catalogue_of g (taken shard (kind.Got sender epoch round total deltas) c)).roots ≤ most_records) where
    abbrev got : Entry
    got = kind.Got sender epoch round total deltas

    abbrev told : Core
    told = told_at_once shard (kind.Got sender epoch round total deltas) c

    abbrev later : List Folded
    later = folds_behind by.name cs shard (kind.Got sender epoch round total deltas) c

    abbrev s : Store
    s = store_with cs c.sessions

    may : MayFollow (setting_of by.name c) cs (next_deed shard (kind.Got sender epoch round total deltas) c)
    may = standing_follows views steps laws by names start valid c cs its shard number got low leads few

    -- what comes behind tells nothing
    mute : Mute (told_at_once shard (kind.Got sender epoch round total deltas) c) (take_effect shard (kind.Got sender epoch round total deltas) c)
    mute = subst (λ (x : Core). Mute told x) (sym (resumed_none shard (propose_due shard told))) (due_mute shard told)

    books : books_of (told_at_once shard (kind.Got sender epoch round total deltas) c) ≡ books_of c
    books = at_once_books shard got (done_by shard got c).effect (taken shard got c)

    abbrev ends : Bool
    ends = ends_run (shape_of c).shards (catalogue_at cs shard) (record { epoch = epoch; round = round; from = sender }) (record { total = total; deltas = deltas })

    happens : (b : Bool) → ends ≡ b → happening_by (setting_of by.name c) cs (next_deed shard (kind.Got sender epoch round total deltas) c) ≡ cond b (Some (sweeping shard)) None
    happens b e = ap (λ (x : Bool). cond x (Some (sweeping shard)) None) e

    -- it ends the last round
    sweeps_told : HasSwept cs (folds_behind by.name cs shard (kind.Got sender epoch round total deltas) c) c (take_effect shard (kind.Got sender epoch round total deltas) c) shard
        → told_so_far (told_at_once shard (kind.Got sender epoch round total deltas) c) ≡ told_so_far c ++ sweep_entries by (store_with cs c.sessions) shard c.moment
    sweeps_told swept = more_told c told (sweep_entries by s shard c.moment) books (sym mute.entries ∙ swept.told)

    swept_piece : HasSwept cs (folds_behind by.name cs shard (kind.Got sender epoch round total deltas) c) c (take_effect shard (kind.Got sender epoch round total deltas) c) shard
        → AreSwept by (store_with cs c.sessions) (sweep_entries by (store_with cs c.sessions) shard c.moment)
    swept_piece swept = group_swept blocks given by s (told_valid by start (told_so_far c) s valid its.tells) (folded_apart cs c.sessions) shard c.moment swept.allowed

    -- where it does
    swept_rule : HasSwept cs (folds_behind by.name cs shard (kind.Got sender epoch round total deltas) c) c (take_effect shard (kind.Got sender epoch round total deltas) c) shard
        → Rule by start c → Rule by start (told_at_once shard (kind.Got sender epoch round total deltas) c)
    swept_rule swept rule mere =
        subst (λ (es : List JournalEntry). AreSwept by start es) (sym (sweeps_told swept))
        (joined by start (told_so_far c) (sweep_entries by (store_with cs c.sessions) shard c.moment) (rule front)
        (subst (λ (t : Store). AreSwept by t (sweep_entries by (store_with cs c.sessions) shard c.moment)) (sym its.tells.left) (swept_piece swept)))
      where
        front : AllByRecursion (IsMereRefusal by.commands) (told_so_far c)
        front = all_front (IsMereRefusal by.commands) (told_so_far c) (sweep_entries by (store_with cs c.sessions) shard c.moment)
            (subst (λ (es : List JournalEntry). AllByRecursion (IsMereRefusal by.commands) es) (sweeps_told swept) mere)

    pub got_rule : Rule by start c → Rule by start (told_at_once shard (kind.Got sender epoch round total deltas) c)
    got_rule rule = by_test ends refl
      where
        by_test : (b : Bool) → ends ≡ b → Rule by start (told_at_once shard (kind.Got sender epoch round total deltas) c)
        by_test true e = swept_rule (laws.sweeps_last by.name cs c shard sender epoch round total deltas its.lawful may (happens true e)) rule
        by_test false e =
            let quiet : IsSilent cs later c (take_effect shard got c) = laws.sweeps_nothing by.name cs c shard sender epoch round total deltas its.lawful may (happens false e) in
            rule_same by start c told (same_told c told books (sym mute.entries ∙ quiet.told)) rule
