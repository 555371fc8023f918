-- Which report answers which job.
use Rattle.std.specs.Prelude.{ℕ, ◌==◌, ◌||◌, Bool, true, false}
use Rattle.hs_desk.specs.declared.done.Done.{Done}
use Rattle.hs_desk.specs.declared.done.Done.TheVariants as done
use Rattle.hs_desk.specs.declared.job.Job.{Job}
use Rattle.hs_desk.specs.declared.job.Job.TheVariants as job

-- whether a job is an Append, a Seal, a Read or a Copy of this number
abbrev pub is_append_of : ℕ → Job → Bool
is_append_of n (job.Append number entry) = n == number
is_append_of n other = false

abbrev pub is_seal_of : ℕ → Job → Bool
is_seal_of n (job.Seal number) = n == number
is_seal_of n other = false

abbrev pub is_read_of : ℕ → Job → Bool
is_read_of n (job.Read number) = n == number
is_read_of n other = false

abbrev pub is_copy_of : ℕ → Job → Bool
is_copy_of n (job.Copy from number) = n == number
is_copy_of n other = false

-- whether a job empties the disk, or is a step of a reclamation
abbrev pub is_reset : Job → Bool
is_reset job.Reset = true
is_reset other = false

abbrev pub is_reclaim : Job → Bool
is_reclaim job.Reclaim = true
is_reclaim other = false

-- whether a job copies from this peer
abbrev pub is_copy_from : ℕ → Job → Bool
is_copy_from peer (job.Copy from number) = peer == from
is_copy_from peer other = false

-- a report answers the job of its kind and number; any job of a peer may fail, by the peer's disk or by the one that it copies from
abbrev pub answers : ℕ → Job → Done → Bool
answers peer j (done.Stored number) = is_append_of number j
answers peer j (done.Sealed number) = is_seal_of number j
answers peer j (done.Bytes number bytes) = is_read_of number j
answers peer j (done.Gone number) = is_read_of number j
answers peer j done.Emptied = is_reset j
answers peer j (done.Copied number) = is_copy_of number j
answers peer j (done.Stepped switched) = is_reclaim j
answers peer j (done.Failed disk) = disk == peer || is_copy_from disk j
