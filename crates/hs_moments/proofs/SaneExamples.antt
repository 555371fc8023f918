-- A store of one shard with one copy is sane as it opens and while its View stands unsealed, and not where its peer has failed.
use Rattle.std.proofs.Common.{◌≡◌, ℕ, zero, suc, ◌<◌, false, true, [], ◌∷◌, Some, refl, arith}
use Rattle.std.proofs.lemmas.List.Elements.{All-nil}
use Rattle.hs_core_words.specs.declared.event.Event.TheVariants as event
use Rattle.hs_desk.specs.declared.done.Done.TheVariants as done
use Rattle.hs_entry.specs.declared.entry.Entry.TheVariants as kind
use Rattle.hs_entry.specs.Entries.{is_of_base, rank_of}
use Rattle.hs_events.specs.Found.{Found, opened_list}
use Rattle.hs_events.specs.Sane.{IsFromOne, IsSane, appended_of}
use Rattle.hs_events.specs.Whole.{Whole, floor, open_whole, step_whole}
use Rattle.hs_fold.specs.Shards.Setting.{Setting}
use Rattle.hs_limits.specs.Limits.{greatest_limits}
use Rattle.hs_moments.proofs.OpeningLemmas.{opening_is_sane}
use Rattle.hs_moments.proofs.SaneLemmas.{sane_stays}

abbrev set : Setting
set = record { name = λ bytes. record { 0 = bytes }; limits = greatest_limits; shape = record { shards = 1; copies = 1 } }

-- a blank disk
abbrev found : Found
found = record { logs = Some [] ∷ []; lost = []; good = true ∷ []; opened = 0 }

abbrev opened : Whole
opened = open_whole set found

abbrev appended : Whole
appended = step_whole (event.Report 0 (done.Stored 1)) 1 opened

abbrev sealed : Whole
sealed = step_whole (event.Report 0 (done.Sealed 1)) 2 appended

none_opened : (shard : ℕ) → shard < 1 → IsFromOne (opened_list set found shard)
unfolding rank_of
none_opened zero low = record { entries = []; counted = refl; plain = All-nil (λ entry. is_of_base entry ≡ false) }
none_opened (suc shard) low = absurd (omega (arith, low))

it_opens_sane : IsSane opened
unfolding rank_of
it_opens_sane = opening_is_sane set found refl refl none_opened refl

it_stays_sane : IsSane sealed
unfolding rank_of
it_stays_sane = sane_stays appended (event.Report 0 (done.Sealed 1)) 2 (sane_stays opened (event.Report 0 (done.Stored 1)) 1 it_opens_sane refl) refl

-- its View is appended, and then sealed
it_was_appended : appended_of 0 appended.core ≡ Some (kind.View 1)
unfolding rank_of
it_was_appended = refl

it_was_sealed : floor sealed 0 ≡ 1
unfolding rank_of
it_was_sealed = refl

-- a store that has lost its only peer is not sane
a_lost_store_is_not : IsSane (step_whole (event.Fail 1 0) 1 opened) → ⊥
unfolding rank_of
a_lost_store_is_not sane = let going = sane.going in cc
