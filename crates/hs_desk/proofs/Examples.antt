-- Which reports answer which jobs, as a table.
use Rattle.std.proofs.Common.{◌≡◌, Bool, true, false, List, [], ◌∷◌, map, refl}
use Rattle.hs_entry.specs.declared.entry.Entry.TheVariants as kind
use Rattle.hs_desk.specs.Answers.{answers}
use Rattle.hs_desk.specs.declared.done.Done.{Done}
use Rattle.hs_desk.specs.declared.done.Done.TheVariants as done
use Rattle.hs_desk.specs.declared.job.Job.{Job}
use Rattle.hs_desk.specs.declared.job.Job.TheVariants as job

-- the reports about entry 7 and peer 3's disk, in the order of their kinds
abbrev reports : List Done
reports = done.Stored 7 ∷ done.Sealed 7 ∷ done.Bytes 7 [] ∷ done.Gone 7 ∷ done.Emptied ∷ done.Copied 7 ∷ done.Stepped true ∷ done.Failed 3 ∷ []

-- those that answer a job of peer 3
abbrev answering : Job → List Bool
answering j = map (answers 3 j) reports

append : answering (job.Append 7 (kind.View 1)) ≡ true ∷ false ∷ false ∷ false ∷ false ∷ false ∷ false ∷ true ∷ []
append = refl

seal : answering (job.Seal 7) ≡ false ∷ true ∷ false ∷ false ∷ false ∷ false ∷ false ∷ true ∷ []
seal = refl

read : answering (job.Read 7) ≡ false ∷ false ∷ true ∷ true ∷ false ∷ false ∷ false ∷ true ∷ []
read = refl

reset : answering job.Reset ≡ false ∷ false ∷ false ∷ false ∷ true ∷ false ∷ false ∷ true ∷ []
reset = refl

copy : answering (job.Copy 5 7) ≡ false ∷ false ∷ false ∷ false ∷ false ∷ true ∷ false ∷ true ∷ []
copy = refl

reclaim : answering job.Reclaim ≡ false ∷ false ∷ false ∷ false ∷ false ∷ false ∷ true ∷ true ∷ []
reclaim = refl

-- of another number none but the failure
other_number : answering (job.Read 8) ≡ false ∷ false ∷ false ∷ false ∷ false ∷ false ∷ false ∷ true ∷ []
other_number = refl

-- a copying step may fail by the disk that it copies from
failed_lead : map (answers 3 (job.Copy 5 7)) (done.Failed 5 ∷ done.Failed 4 ∷ []) ≡ true ∷ false ∷ []
failed_lead = refl
