-- What came of the comparing.
use Rattle.std.specs.Prelude.{◌≡◌, ◌⊎◌, false, None, Option, Some, slice_get}
use Rattle.hs_book.specs.Book.{Book}
use Rattle.hs_promise.specs.declared.status.Status.{Status}
use Rattle.hs_promise.specs.declared.status.Status.TheVariants as status
use Rattle.hs_workers.specs.declared.fault.WorkFault.TheVariants as work
use Rattle.hs_load.specs.declared.judgement.Judgement.{Judgement}
use Rattle.hs_load.specs.declared.judgement.Judgement.TheVariants as judgement
use Rattle.hs_load.specs.Joined.{IsApartAt}
use Rattle.hs_load.specs.Judged.{AreReported, AreSame, IsJudged, IsMismatch, Load, NoneTorn, Team, wants_memory}

-- so it is
abbrev pub IsJudgedSo : Load → Book → Team → Judgement → Type 0
IsJudgedSo load book team judgement.Same = AreSame load book team
IsJudgedSo load book team judgement.Wanting = Unit {0}
IsJudgedSo load book team (judgement.Job job) = (wants_memory team ≡ false) × (slice_get team.stops job.peer ≡ Some (Some (work.Torn job.place job.told job.kept)))
IsJudgedSo load book team (judgement.Numbers a) = (wants_memory team ≡ false) × IsApartAt team.stored book a
IsJudgedSo load book team (judgement.Ended f) = (wants_memory team ≡ false) × (NoneTorn team.stops) × (book.ended ≡ Some f) × AreReported team.stored book
IsJudgedSo load book team (judgement.Differs d) = (wants_memory team ≡ false) × (NoneTorn team.stops) × (book.ended ≡ None) × AreReported team.stored book
    × IsMismatch load.writers book.core.journal team.kept team.stored (record { session = d.session; place = d.place; said = d.told.value; had = d.kept.value })

-- how the load ends then, or that it goes on
abbrev pub IsTold : Load → Book → Team → Option Status → Type 0
IsTold load book team None = AreSame load book team
IsTold load book team (Some s) = (s ≡ status.NoMemory) ⊎ ((wants_memory team ≡ false) × IsJudged load book team s)
