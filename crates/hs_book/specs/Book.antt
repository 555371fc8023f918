-- The core behind a lock: what a book is, and what is next for its peers.
use Rattle.std.specs.Prelude.{ℕ, ◌*◌, ◌&&◌, ◌||◌, Bool, true, false, not, List, Option, Some, None, is_none, nat_lt}
use Rattle.hs_core_words.specs.declared.event.Event.{Event}
use Rattle.hs_core_words.specs.declared.event.Event.TheVariants as event
use Rattle.hs_core_words.specs.Looking.{first_job, oldest_message, shape_of}
use Rattle.hs_core_words.specs.State.{Core}
use Rattle.hs_desk.specs.declared.fault.CoreFault.{CoreFault}
use Rattle.hs_desk.specs.declared.job.Job.{Job}
use Rattle.hs_desk.specs.declared.job.Next.{Next}
use Rattle.hs_desk.specs.declared.job.Next.TheVariants as next

-- the core; by peer the numbers of the entries that it reported as sealed, in order, and a last 0 where its disk failed; why the book has ended
pub record Book : Type 0 where
  pub core : Core
  pub reported : List (List ℕ)
  pub ended : Option CoreFault

-- how many peers there are, and whether there is such a peer
abbrev pub count_of_peers : Core → ℕ
count_of_peers core = (shape_of core).shards * (shape_of core).copies

abbrev pub has_peer : ℕ → Core → Bool
has_peer peer core = nat_lt peer (count_of_peers core)

-- of a peer that is there or not, with this first job and this oldest message, what is next: the job, else the handling of the message, else nothing
abbrev pub next_by : Bool → Option Job → Option ℕ → Next
next_by false job message = next.Idle
next_by true (Some job) message = next.Do job
next_by true None (Some number) = next.Handled
next_by true None None = next.Idle

abbrev pub handed_next : ℕ → Core → Next
handed_next peer core = next_by (has_peer peer core) (first_job peer core) (oldest_message peer core)

-- the event that this is: a message is delivered where it is handled
abbrev pub delivery_by : Bool → Option Job → Option ℕ → Option Event
delivery_by false job message = None
delivery_by true (Some job) message = None
delivery_by true None (Some number) = Some (event.Deliver 0 number)
delivery_by true None None = None

abbrev pub delivery_of : ℕ → Core → Option Event
delivery_of peer core = delivery_by (has_peer peer core) (first_job peer core) (oldest_message peer core)

-- a peer has neither a job nor a message, or is not there
abbrev pub has_nothing : ℕ → Core → Bool
has_nothing peer core = not (has_peer peer core) || (is_none (first_job peer core) && is_none (oldest_message peer core))
