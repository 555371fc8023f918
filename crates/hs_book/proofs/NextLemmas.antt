-- What is next for a peer, by cases.
use Rattle.std.proofs.Common.{◌≡◌, ◌∙◌, ap, ℕ, ◌<◌, ◌≤◌, Bool, true, false, Option, Some, None, refl, arith}
use Rattle.std.proofs.lemmas.Bool.Decides.{nat_tests}
use Rattle.std.specs.Prelude.{Result, Ok, Err, IfOk, not, ◌||◌, ◌&&◌, is_none}
use Rattle.hs_book.specs.Book.{delivery_by, delivery_of, has_nothing, has_peer, next_by, handed_next, count_of_peers}
use Rattle.hs_core_words.specs.declared.event.Event.{Event}
use Rattle.hs_core_words.specs.declared.event.Event.TheVariants as event
use Rattle.hs_core_words.specs.Looking.{first_job, oldest_message}
use Rattle.hs_core_words.specs.State.{Core}
use Rattle.hs_desk.specs.declared.fault.CoreFault.{CoreFault}
use Rattle.hs_desk.specs.declared.job.Job.{Job}
use Rattle.hs_desk.specs.declared.job.Next.{Next}
use Rattle.hs_desk.specs.declared.job.Next.TheVariants as next
use Rattle.hs_desk.specs.Slips.{is_idle}

nothing_by : (there : Bool) (job : Option Job) (message : Option ℕ) → is_idle (next_by there job message) ≡ (not there || (is_none job && is_none message))
nothing_by false job message = refl
nothing_by true (Some job) message = refl
nothing_by true None (Some number) = refl
nothing_by true None None = refl

-- it is nothing exactly where the peer has nothing
pub idle_is_nothing : (peer : ℕ) (core : Core) → is_idle (handed_next peer core) ≡ has_nothing peer core
idle_is_nothing peer core = nothing_by (has_peer peer core) (first_job peer core) (oldest_message peer core)

-- what is next, and the event that it is
pub record IsNext (peer : ℕ) (core : Core) (n : Next) (e : Option Event) : Type 0 where
  pub next : handed_next peer core ≡ n
  pub event : delivery_of peer core ≡ e

by_parts : (there : Bool) (job : Option Job) (message : Option ℕ) (peer : ℕ) (core : Core) → has_peer peer core ≡ there → first_job peer core ≡ job → oldest_message peer core ≡ message
    → IsNext peer core (next_by there job message) (delivery_by there job message)
by_parts there job message peer core t j m = record { next = rw (t, j, m) refl; event = rw (t, j, m) refl }

there_is : (peer : ℕ) (core : Core) → peer < count_of_peers core → has_peer peer core ≡ true
there_is peer core h = grind (arith, nat_tests)

there_is_not : (peer : ℕ) (core : Core) → count_of_peers core ≤ peer → has_peer peer core ≡ false
there_is_not peer core h = grind (arith, nat_tests)

pub no_peer_is_next : (peer : ℕ) (core : Core) → count_of_peers core ≤ peer → IsNext peer core next.Idle None
no_peer_is_next peer core h = by_parts false (first_job peer core) (oldest_message peer core) peer core (there_is_not peer core h) refl refl

pub job_is_next : (peer : ℕ) (core : Core) (job : Job) → peer < count_of_peers core → first_job peer core ≡ Some job → IsNext peer core (next.Do job) None
job_is_next peer core job h is = by_parts true (Some job) (oldest_message peer core) peer core (there_is peer core h) is refl

pub message_is_next : (peer : ℕ) (core : Core) (number : ℕ) → peer < count_of_peers core → first_job peer core ≡ None → oldest_message peer core ≡ Some number
    → IsNext peer core next.Handled (Some (event.Deliver 0 number))
message_is_next peer core number h job is = by_parts true None (Some number) peer core (there_is peer core h) job is

pub nothing_is_next : (peer : ℕ) (core : Core) → peer < count_of_peers core → first_job peer core ≡ None → oldest_message peer core ≡ None → IsNext peer core next.Idle None
nothing_is_next peer core h job none = by_parts true None None peer core (there_is peer core h) job none

pub idle_of : (result : Result Next CoreFault) (peer : ℕ) (core : Core) → IfOk result (λ n. n ≡ handed_next peer core) → IfOk result (λ n. is_idle n ≡ has_nothing peer core)
idle_of (Ok n) peer core h = ap is_idle h ∙ idle_is_nothing peer core
idle_of (Err f) peer core h = tt
