-- What the calls of a desk make of a slip.
use Rattle.std.specs.Prelude.{ℕ, ◌==◌, ⊤, Bool, true, false, not, List, [], ◌∷◌, ◌++◌, Option, Some, None, Result, Ok, Err}
use Rattle.hs_entry.specs.Entries.{is_of_base}
use Rattle.hs_desk.specs.declared.done.Done.{Done}
use Rattle.hs_desk.specs.declared.done.Done.TheVariants as done
use Rattle.hs_desk.specs.declared.fault.CoreFault.{CoreFault}
use Rattle.hs_desk.specs.declared.job.Job.{Job}
use Rattle.hs_desk.specs.declared.job.Job.TheVariants as job
use Rattle.hs_desk.specs.declared.job.Next.{Next}
use Rattle.hs_desk.specs.declared.job.Next.TheVariants as next
use Rattle.hs_desk.specs.declared.job.Work.{Work}
use Rattle.hs_desk.specs.declared.job.Work.TheVariants as work
use Rattle.hs_desk.specs.declared.slip.Slip.{Slip}
use Rattle.hs_desk.specs.Faults.{fault_after}

-- the work that a job is: an Append, a Seal or a Read, and of other jobs none
abbrev pub work_of : Job → Option Work
work_of (job.Append number entry) = Some (work.Append number)
work_of (job.Seal number) = Some (work.Seal number)
work_of (job.Read number) = Some (work.Read number)
work_of job.Reset = None
work_of (job.Copy from number) = None
work_of job.Reclaim = None

-- the work that was handed out, where one was
abbrev pub work_in : Result Next CoreFault → Option Work
work_in (Ok (next.Do j)) = work_of j
work_in (Ok next.Handled) = None
work_in (Ok next.Idle) = None
work_in (Err fault) = None

-- whether there was neither a job nor a message
abbrev pub is_idle : Next → Bool
is_idle (next.Do j) = false
is_idle next.Handled = false
is_idle next.Idle = true

abbrev pub is_idle_in : Result Next CoreFault → Bool
is_idle_in (Ok n) = is_idle n
is_idle_in (Err fault) = false

-- the slip behind `next`
abbrev pub handed : Result Next CoreFault → Slip → Slip
handed result slip = record slip { work = work_in result; idle = is_idle_in result; fault = fault_after result slip.fault }

-- the numbers that a report adds where it is taken: that of an entry that was sealed, and 0 where the disk failed
abbrev pub stored_by : Done → List ℕ
stored_by (done.Stored number) = []
stored_by (done.Sealed number) = number ∷ []
stored_by (done.Bytes number bytes) = []
stored_by (done.Gone number) = []
stored_by done.Emptied = []
stored_by (done.Copied number) = []
stored_by (done.Stepped switched) = []
stored_by (done.Failed disk) = 0 ∷ []

-- what it shows: the number of an entry that was read, with its bytes
abbrev pub shown_by : Done → List (ℕ × List ℕ)
shown_by (done.Stored number) = []
shown_by (done.Sealed number) = []
shown_by (done.Bytes number bytes) = (number, bytes) ∷ []
shown_by (done.Gone number) = []
shown_by done.Emptied = []
shown_by (done.Copied number) = []
shown_by (done.Stepped switched) = []
shown_by (done.Failed disk) = []

-- the slip behind `report`: its work is over, and what the report adds was noted where it was taken
abbrev pub reported : Done → Result ⊤ CoreFault → Slip → Slip
reported d (Ok u) slip = record slip { work = None; stored = slip.stored ++ stored_by d; shown = slip.shown ++ shown_by d }
reported d (Err fault) slip = record slip { work = None; fault = Some fault }

-- whether a work is an Append, a Seal or a Read of this number
abbrev pub appends : ℕ → Work → Bool
appends n (work.Append number) = n == number
appends n (work.Seal number) = false
appends n (work.Read number) = false

abbrev pub seals : ℕ → Work → Bool
seals n (work.Append number) = false
seals n (work.Seal number) = n == number
seals n (work.Read number) = false

abbrev pub reads : ℕ → Work → Bool
reads n (work.Append number) = false
reads n (work.Seal number) = false
reads n (work.Read number) = n == number

-- a report answers the work of its kind and number; any work of a peer may fail, by the peer's disk
abbrev pub answers_one : Work → ℕ → Done → Bool
answers_one w peer (done.Stored number) = appends number w
answers_one w peer (done.Sealed number) = seals number w
answers_one w peer (done.Bytes number bytes) = reads number w
answers_one w peer (done.Gone number) = reads number w
answers_one w peer done.Emptied = false
answers_one w peer (done.Copied number) = false
answers_one w peer (done.Stepped switched) = false
answers_one w peer (done.Failed disk) = disk == peer

-- a report answers the work in hand; none where there is none
abbrev pub answers_work : Option Work → ℕ → Done → Bool
answers_work None peer d = false
answers_work (Some w) peer d = answers_one w peer d

-- whether what a desk hands out is of its own: an Append of no Base and of no kept frame, a Seal, a Read, or no job
abbrev pub is_own_job : Job → Bool
is_own_job (job.Append number entry) = not (is_of_base entry)
is_own_job (job.Seal number) = true
is_own_job (job.Read number) = true
is_own_job job.Reset = false
is_own_job (job.Copy from number) = false
is_own_job job.Reclaim = false

abbrev pub is_own_next : Next → Bool
is_own_next (next.Do j) = is_own_job j
is_own_next next.Handled = true
is_own_next next.Idle = true
