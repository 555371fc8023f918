-- What hand-outs and reports make of a slip, each job and report once.
use Rattle.std.proofs.Common.{◌≡◌, Bool, true, false, List, [], ◌∷◌, map, Option, Some, None, Ok, Err, refl}
use Rattle.hs_entry.specs.declared.entry.Entry.TheVariants as kind
use Rattle.hs_desk.specs.Slips.{answers_work, handed, is_own_next, reported, shown_by, stored_by, work_of}
use Rattle.hs_desk.specs.declared.done.Done.{Done}
use Rattle.hs_desk.specs.declared.done.Done.TheVariants as done
use Rattle.hs_desk.specs.declared.fault.CoreFault.{CoreFault}
use Rattle.hs_desk.specs.declared.fault.CoreFault.TheVariants as fault
use Rattle.hs_desk.specs.declared.job.Job.{Job}
use Rattle.hs_desk.specs.declared.job.Job.TheVariants as job
use Rattle.hs_desk.specs.declared.job.Next.TheVariants as next
use Rattle.hs_desk.specs.declared.job.Work.{Work}
use Rattle.hs_desk.specs.declared.job.Work.TheVariants as work
use Rattle.hs_desk.specs.declared.slip.Slip.{Slip}

-- peer 3, which sealed entries 5 and 6 and read entry 5
abbrev slip_with : Option Work → Bool → Option CoreFault → Slip
slip_with w idle f = record { peer = 3; work = w; stored = 5 ∷ 6 ∷ []; shown = (5, 104 ∷ []) ∷ []; idle = idle; fault = f }

-- ---- each job once

abbrev jobs : List Job
jobs = job.Append 7 (kind.View 1) ∷ job.Seal 7 ∷ job.Read 7 ∷ job.Reset ∷ job.Copy 5 7 ∷ job.Reclaim ∷ []

works : map work_of jobs ≡ Some (work.Append 7) ∷ Some (work.Seal 7) ∷ Some (work.Read 7) ∷ None ∷ None ∷ None ∷ []
works = refl

-- a Base is nobody's Append
own : map (λ j. is_own_next (next.Do j)) (job.Append 7 (kind.Base 1 1 0 0 0) ∷ jobs) ≡ false ∷ true ∷ true ∷ true ∷ false ∷ false ∷ false ∷ []
own = refl

-- ---- hand-outs

-- a job takes the place of what was in hand, and the peer is no longer idle
a_job : handed (Ok (next.Do (job.Seal 7))) (slip_with (Some (work.Append 7)) true None) ≡ slip_with (Some (work.Seal 7)) false None
a_job = refl

-- behind a message nothing is in hand
a_message : handed (Ok next.Handled) (slip_with (Some (work.Append 7)) true None) ≡ slip_with None false None
a_message = refl

nothing_at_all : handed (Ok next.Idle) (slip_with (Some (work.Append 7)) false None) ≡ slip_with None true None
nothing_at_all = refl

a_fault : handed (Err fault.OpsFull) (slip_with (Some (work.Append 7)) true None) ≡ slip_with None false (Some fault.OpsFull)
a_fault = refl

-- ---- reports

-- the reports of Examples: about entry 7 and peer 3's disk, each kind once
abbrev reports : List Done
reports = done.Stored 7 ∷ done.Sealed 7 ∷ done.Bytes 7 (105 ∷ []) ∷ done.Gone 7 ∷ done.Emptied ∷ done.Copied 7 ∷ done.Stepped true ∷ done.Failed 3 ∷ []

stored : map stored_by reports ≡ [] ∷ (7 ∷ []) ∷ [] ∷ [] ∷ [] ∷ [] ∷ [] ∷ (0 ∷ []) ∷ []
stored = refl

shown : map shown_by reports ≡ [] ∷ [] ∷ ((7, 105 ∷ []) ∷ []) ∷ [] ∷ [] ∷ [] ∷ [] ∷ [] ∷ []
shown = refl

-- which of them answer a work of peer 3
abbrev answering : Option Work → List Bool
answering w = map (answers_work w 3) reports

append : answering (Some (work.Append 7)) ≡ true ∷ false ∷ false ∷ false ∷ false ∷ false ∷ false ∷ true ∷ []
append = refl

seal : answering (Some (work.Seal 7)) ≡ false ∷ true ∷ false ∷ false ∷ false ∷ false ∷ false ∷ true ∷ []
seal = refl

read : answering (Some (work.Read 7)) ≡ false ∷ false ∷ true ∷ true ∷ false ∷ false ∷ false ∷ true ∷ []
read = refl

-- of another number none but the failure, and none at all where nothing is in hand
other_number : answering (Some (work.Seal 8)) ≡ false ∷ false ∷ false ∷ false ∷ false ∷ false ∷ false ∷ true ∷ []
other_number = refl

no_work : answering None ≡ false ∷ false ∷ false ∷ false ∷ false ∷ false ∷ false ∷ false ∷ []
no_work = refl

-- the disk of another peer is not this one's failure
other_disk : answers_work (Some (work.Seal 7)) 3 (done.Failed 2) ≡ false
other_disk = refl

sealed : reported (done.Sealed 7) (Ok tt) (slip_with (Some (work.Seal 7)) false None)
    ≡ record { peer = 3; work = None; stored = 5 ∷ 6 ∷ 7 ∷ []; shown = (5, 104 ∷ []) ∷ []; idle = false; fault = None }
sealed = refl

bytes_shown : reported (done.Bytes 6 (105 ∷ [])) (Ok tt) (slip_with (Some (work.Read 6)) false None)
    ≡ record { peer = 3; work = None; stored = 5 ∷ 6 ∷ []; shown = (5, 104 ∷ []) ∷ (6, 105 ∷ []) ∷ []; idle = false; fault = None }
bytes_shown = refl

-- a disk that failed is noted as 0, not by its number
failed : reported (done.Failed 3) (Ok tt) (slip_with (Some (work.Seal 7)) false None)
    ≡ record { peer = 3; work = None; stored = 5 ∷ 6 ∷ 0 ∷ []; shown = (5, 104 ∷ []) ∷ []; idle = false; fault = None }
failed = refl

-- a report that was refused adds nothing but the fault
refused : reported (done.Sealed 7) (Err (fault.ShardLost 1)) (slip_with (Some (work.Seal 7)) false None) ≡ slip_with None false (Some (fault.ShardLost 1))
refused = refl
