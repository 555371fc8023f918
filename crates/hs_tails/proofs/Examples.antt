-- Two copies, computed by the check: a lead fails with a list that nobody else has, which may be chosen until the next View has taken effect.
use Rattle.std.proofs.Common.{◌≡◌, ap, ◌==◌, true, false, [], ◌∷◌, Some, refl, if◌then◌else◌}
use Rattle.hs_core_words.specs.declared.event.Event.TheVariants as event
use Rattle.hs_core_words.specs.Looking.{front_of, lead_of}
use Rattle.hs_core_words.specs.Opening.{Taken, open_core}
use Rattle.hs_desk.specs.declared.done.Done.TheVariants as done
use Rattle.hs_entry.specs.declared.entry.Entry.{Entry}
use Rattle.hs_entry.specs.declared.entry.Entry.TheVariants as kind
use Rattle.hs_events.specs.Whole.{Whole, reach, step_whole}
use Rattle.hs_fold.specs.Shards.Setting.{Numbered}
use Rattle.hs_limits.specs.declared.shape.Shape.{Shape}
use Rattle.hs_limits.specs.Limits.{greatest_limits}
use Rattle.hs_shard.specs.Facts.{empty_catalogue}
use Rattle.hs_tails.specs.Chosen.{MayBeChosen, disks_of, lead_lists, tail_behind, took_of}

abbrev two : Shape
two = record { shards = 1; copies = 2 }

abbrev blank : Taken
blank = record { catalogues = empty_catalogue two 0 ∷ []; views = 0 ∷ []; lengths = 0 ∷ []; good = true ∷ true ∷ [] }

-- peer 0 leads, and has proposed its View
abbrev first : Whole
first = record { core = open_core two greatest_limits blank 0; lists = λ peer. if peer == 0 then (1, kind.View 1) ∷ [] else []; adds = λ peer. []; aside = λ peer. false }

-- it fails: peer 1 leads, and has proposed another View
abbrev failed : Whole
failed = step_whole (event.Fail 1 0) 1 first

abbrev old_list : Numbered
old_list = (1, kind.View 1) ∷ []

abbrev new_list : Numbered
new_list = (1, kind.View 2) ∷ []

failed_is : (reach failed 0 ≡ old_list) × (reach failed 1 ≡ new_list) × (lead_of 0 failed.core ≡ Some 1) × (front_of 0 failed.core ≡ 0)
failed_is = (refl, refl, refl, refl)

-- nothing took effect: both may be chosen, and so may none of either
old_may : MayBeChosen two (disks_of failed) (lead_lists failed) 0 old_list
old_may = record { peer = 0; home = refl; counts = refl; begins = ([], refl); has = (old_list, refl) }

new_may : MayBeChosen two (disks_of failed) (lead_lists failed) 0 new_list
new_may = record { peer = 1; home = refl; counts = refl; begins = ([], refl); has = (new_list, refl) }

none_may : MayBeChosen two (disks_of failed) (lead_lists failed) 0 []
none_may = record { peer = 0; home = refl; counts = refl; begins = (old_list, refl); has = ([], refl) }

tail_is : tail_behind (front_of 0 failed.core) (reach failed 0) ≡ kind.View 1 ∷ []
tail_is = refl

-- peer 1 seals its View, which takes effect
abbrev sealed : Whole
sealed = step_whole (event.Report 1 (done.Sealed 1)) 3 (step_whole (event.Report 1 (done.Stored 1)) 2 failed)

sealed_is : (reach sealed 0 ≡ old_list) × (took_of (lead_lists sealed) 0 ≡ new_list) × (front_of 0 sealed.core ≡ 1)
sealed_is = (refl, refl, refl)

-- so the old list may not be chosen any more
abbrev first_of : Numbered → Entry
first_of [] = kind.View 0
first_of (e ∷ es) = e.1

views_apart : (rest : Numbered) → (1, kind.View 1) ∷ [] ≡ (1, kind.View 2) ∷ rest → ⊥
views_apart rest e = let one : kind.View 1 ≡ kind.View 2 = ap (λ (list : Numbered). first_of list) e in cc one

old_may_not : MayBeChosen two (disks_of sealed) (lead_lists sealed) 0 old_list → ⊥
old_may_not m = views_apart m.has.0 m.has.1
