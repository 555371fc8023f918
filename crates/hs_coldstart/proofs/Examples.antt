-- Worked examples of choosing a log.
use Rattle.std.proofs.Common.{◌≡◌, ℕ, [], ◌∷◌, Option, Some, None, refl}
use Rattle.hs_entry.specs.declared.rank.Rank.{Rank}
use Rattle.hs_coldstart.specs.Choose.{choose}

abbrev rank : ℕ → ℕ → Option Rank
rank view number = Some (record { view = view; number = number })

-- lower view: the log of peer 0 is longer and of a lower view
lower_view : choose (rank 1 5 ∷ rank 2 3 ∷ []) ≡ Some 1
lower_view = refl

-- where no View of view 2 was stored, the longer log
longer_log : choose (rank 1 5 ∷ rank 1 2 ∷ []) ≡ Some 0
longer_log = refl

-- of equals the lowest peer; an empty log is a log, and a disk that was set aside has none
of_equals_the_lowest : choose (None ∷ rank 3 7 ∷ rank 3 7 ∷ rank 2 9 ∷ []) ≡ Some 1
of_equals_the_lowest = refl

empty_logs : choose (None ∷ rank 0 0 ∷ []) ≡ Some 1
empty_logs = refl

none_is_left : choose (None ∷ None ∷ []) ≡ None
none_is_left = refl
