-- The store with the sessions of a core stays valid: behind an entry that takes effect, and along what a journal tells.
use Rattle.std.proofs.Common.{◌≡◌, ◌∙◌, ap, subst, inl, inr, ℕ, ◌<◌, ◌≤◌, List, length, arith}
use Rattle.std.proofs.lemmas.Bool.{cases_eq}
use Rattle.hs_answered.specs.Standing.{store_with}
use Rattle.hs_answered.specs.Telling.{Judging, Tells, events_in}
use Rattle.hs_core_words.specs.State.{Core}
use Rattle.hs_effects.specs.Lawful.{IsLawful, MayFollow}
use Rattle.hs_effects.specs.Taking.{folds_behind, next_deed, setting_of}
use Rattle.hs_entry.specs.declared.entry.Entry.{Entry}
use Rattle.hs_fold.specs.Lawful.{Deed}
use Rattle.hs_fold.specs.Runs.Facts.{Catalogue as Folded, empty_catalogue}
use Rattle.hs_fold.specs.Runs.Fits.{catalogue_at}
use Rattle.hs_fold.specs.Runs.History.{FitAll, applied, follow, follow_all, no_entries}
use Rattle.hs_fold.specs.Runs.Opened.{store_of}
use Rattle.hs_fold.specs.Shards.Setting.{Setting, shard_in}
use Rattle.hs_fold.proofs.Shards.PlaceLemmas.{length-set, other-at, same-at}
use Rattle.hs_joint.specs.Along.{KeepFewRecords}
use Rattle.hs_joint.proofs.AllowLemmas.{KeepsFresh}
use Rattle.hs_joint.proofs.DeedLemmas.{arrives}
use Rattle.hs_joint.proofs.HistoryLemmas.{history_goes, shape_few, shape_some}
use Rattle.hs_joint.proofs.ListedLemmas.{epoch-at, epochs-length}
use Rattle.hs_journal.specs.declared.entry.JournalEntry.{JournalEntry}
use Rattle.hs_laws.specs.Valid.{IsValid, least_epoch}
use Rattle.hs_laws.proofs.EpochLemmas.{least_epoch-at, least_epoch-greatest}
use Rattle.hs_laws.proofs.HoldKeeps.{sessions_valid}
use Rattle.hs_laws.proofs.JudgeKeeps.{run_valid}
use Rattle.hs_laws.proofs.ValidLemmas.{Valid, is_from_valid, valid_from_is}
use Rattle.hs_limits.specs.declared.address.Address.{Address}
use Rattle.hs_limits.specs.Shape.{IsShape}
use Rattle.hs_model.specs.Run.{run}
use Rattle.hs_model.specs.Store.{Store}
use Rattle.hs_shown.specs.Showing.{as_sessions}
use Rattle.hs_tokens.specs.Seats.{Seats}
use Rattle.hs_waiting.proofs.EpochLemmas.{epoch_rises}

-- what a journal tells from a valid store on leaves a valid store
pub told_valid : (by : Judging) (start : Store) (entries : List JournalEntry) (after : Store) → IsValid start → Tells by start entries after → IsValid after
told_valid by start entries after valid tells =
    subst (λ s. IsValid s) tells.left (is_from_valid (run by.limits start (events_in by start entries)) (run_valid by.limits start (valid_from_is start valid) (events_in by start entries) tells.legal))

-- ---- epochs never fall

module _ (set : Setting) (cs : List Folded) (deed : Deed) (low : deed.shard < length cs) where
  abbrev ds : List Folded
  ds = follow set cs deed

  rises : (k : ℕ) → (catalogue_at cs k).epoch ≤ (catalogue_at (follow set cs deed) k).epoch
  rises k = elim (cases_eq k deed.shard) [
    | inl is ↦ (
        let up = epoch_rises (shard_in set deed.shard) (catalogue_at cs deed.shard) deed.number deed.entry in
        let now : (catalogue_at ds k).epoch ≡ (applied set cs deed).epoch =
        ap (λ j. (catalogue_at ds j).epoch) is ∙ ap (λ (c : Folded). c.epoch) (same-at empty_catalogue cs deed.shard (applied set cs deed) low) in
        let was : (catalogue_at cs k).epoch ≡ (catalogue_at cs deed.shard).epoch = ap (λ j. (catalogue_at cs j).epoch) is in
        omega (arith, up, now, was)
        )
    | inr apart ↦ (let same : (catalogue_at ds k).epoch ≡ (catalogue_at cs k).epoch = ap (λ (c : Folded). c.epoch) (other-at empty_catalogue cs deed.shard k (applied set cs deed) apart) in omega (arith, same))
  ]

  least_rises : least_epoch (store_of cs) ≤ least_epoch (store_of (follow set cs deed))
  least_rises =
      let old = epochs-length cs in
      let new = epochs-length ds in
      let each = length-set cs deed.shard (applied set cs deed) in
      least_epoch-greatest (store_of ds) (least_epoch (store_of cs)) (omega (arith, low, new, each)) (λ i l. (
      let here : i < length cs = omega (arith, l, new, each) in
      let there : i < length ds = omega (arith, l, new) in
      let least = least_epoch-at (store_of cs) i (omega (arith, here, old)) in
      let e = epoch-at cs i here in
      let f = epoch-at ds i there in
      let up = rises i in
      omega (arith, least, e, f, up)
      ))

  -- sessions that a store was valid with, it is valid with behind an entry that keeps what is fresh
  seated : (seats : Seats) → IsValid (store_with cs seats) → KeepsFresh (store_of cs) (store_of (follow set cs deed)) → IsValid (store_with (follow set cs deed) seats)
  seated seats valid keeps =
      let v : Valid (store_with cs seats) = valid_from_is (store_with cs seats) valid in
      is_from_valid (store_with ds seats) (sessions_valid (store_of ds) keeps.0 (as_sessions seats)
      (λ held i l. keeps.1 held.epoch l held.address (v.held held i (let up = least_rises in omega (arith, l, up)))))

-- ---- behind a lawful history

history_valid : (set : Setting) (history : List Deed) (deed : Deed) (seats : Seats) → IsShape set.shape → FitAll set (no_entries set) history → KeepFewRecords set (no_entries set) history
    → MayFollow set (follow_all set (no_entries set) history) deed → IsValid (store_with (follow_all set (no_entries set) history) seats)
    → IsValid (store_with (follow set (follow_all set (no_entries set) history) deed) seats)
history_valid set history deed seats shape fit records may valid =
    let cs : List Folded = follow_all set (no_entries set) history in
    let some = shape_some set.shape shape in
    let few = shape_few set.shape shape in
    let g = history_goes set some few history fit records in
    let one = arrives set some cs g.later g.standing deed.shard may.of deed.number deed.entry few may.rests may.records in
    let each = g.standing.joined.each in
    let of = may.of in
    seated set cs deed (omega (arith, of, each)) seats valid (one.keeps g.valid)

pub valid_behind : (name : List ℕ → Address) (cs : List Folded) (core : Core) → IsLawful name core cs → IsValid (store_with cs core.sessions) → (shard : ℕ) (entry : Entry)
    → MayFollow (setting_of name core) cs (next_deed shard entry core) → IsValid (store_with (folds_behind name cs shard entry core) core.sessions)
valid_behind name cs core its valid shard entry may =
    subst (λ ds. MayFollow (setting_of name core) ds (next_deed shard entry core) → IsValid (store_with ds core.sessions) → IsValid (store_with (follow (setting_of name core) ds (next_deed shard entry core)) core.sessions)) its.lawful.gives
    (λ m v. history_valid (setting_of name core) its.lawful.history (next_deed shard entry core) core.sessions its.folded.valid its.lawful.fits its.lawful.records m v)
    may valid
