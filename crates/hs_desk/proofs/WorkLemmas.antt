-- What answers a job that is a work.
use Rattle.std.proofs.Common.{◌≡◌, ℕ, ◌==◌, IsSome, refl}
use Rattle.std.proofs.Math.Bool.{or-false}
use Rattle.hs_desk.specs.Answers.{answers}
use Rattle.hs_desk.specs.Slips.{answers_work, work_of}
use Rattle.hs_desk.specs.declared.done.Done.{Done}
use Rattle.hs_desk.specs.declared.done.Done.TheVariants as done
use Rattle.hs_desk.specs.declared.job.Job.{Job}
use Rattle.hs_desk.specs.declared.job.Job.TheVariants as job

-- a report answers a job that is a work as it answers the work
pub answers_work_of_job : (peer : ℕ) (j : Job) (d : Done) → IsSome (work_of j) → answers peer j d ≡ answers_work (work_of j) peer d
answers_work_of_job peer (job.Append number entry) (done.Stored n) is = refl
answers_work_of_job peer (job.Append number entry) (done.Sealed n) is = refl
answers_work_of_job peer (job.Append number entry) (done.Bytes n bytes) is = refl
answers_work_of_job peer (job.Append number entry) (done.Gone n) is = refl
answers_work_of_job peer (job.Append number entry) done.Emptied is = refl
answers_work_of_job peer (job.Append number entry) (done.Copied n) is = refl
answers_work_of_job peer (job.Append number entry) (done.Stepped switched) is = refl
answers_work_of_job peer (job.Append number entry) (done.Failed disk) is = or-false (disk == peer)
answers_work_of_job peer (job.Seal number) (done.Stored n) is = refl
answers_work_of_job peer (job.Seal number) (done.Sealed n) is = refl
answers_work_of_job peer (job.Seal number) (done.Bytes n bytes) is = refl
answers_work_of_job peer (job.Seal number) (done.Gone n) is = refl
answers_work_of_job peer (job.Seal number) done.Emptied is = refl
answers_work_of_job peer (job.Seal number) (done.Copied n) is = refl
answers_work_of_job peer (job.Seal number) (done.Stepped switched) is = refl
answers_work_of_job peer (job.Seal number) (done.Failed disk) is = or-false (disk == peer)
answers_work_of_job peer (job.Read number) (done.Stored n) is = refl
answers_work_of_job peer (job.Read number) (done.Sealed n) is = refl
answers_work_of_job peer (job.Read number) (done.Bytes n bytes) is = refl
answers_work_of_job peer (job.Read number) (done.Gone n) is = refl
answers_work_of_job peer (job.Read number) done.Emptied is = refl
answers_work_of_job peer (job.Read number) (done.Copied n) is = refl
answers_work_of_job peer (job.Read number) (done.Stepped switched) is = refl
answers_work_of_job peer (job.Read number) (done.Failed disk) is = or-false (disk == peer)
answers_work_of_job peer job.Reset d is = absurd (cc is)
answers_work_of_job peer (job.Copy from number) d is = absurd (cc is)
answers_work_of_job peer job.Reclaim d is = absurd (cc is)
