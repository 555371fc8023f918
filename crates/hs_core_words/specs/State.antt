-- The state of the core: all shards, peers, sessions, operations, messages and jobs, and what was answered.
use Rattle.std.specs.Prelude.{ℕ, Bool, List, Option}
use Rattle.hs_awaiting.specs.declared.waiting.Waiting.{Waiting}
use Rattle.hs_core_words.specs.declared.task.Task.{Task}
use Rattle.hs_desk.specs.declared.fault.CoreFault.{CoreFault}
use Rattle.hs_journal.specs.declared.entry.JournalEntry.{JournalEntry}
use Rattle.hs_limits.specs.declared.limits.Limits.{Limits}
use Rattle.hs_members.specs.Members.{Members}
use Rattle.hs_post.specs.Pool.{Pool}
use Rattle.hs_rejoin.specs.Rejoin.{Rejoin}
use Rattle.hs_replica.specs.Group.{Group}
use Rattle.hs_shard.specs.Facts.{Catalogue}
use Rattle.hs_tokens.specs.Seats.{Seats}

-- how far shards, peers and lines are
-- viewed: by shard, the current view's View has taken effect; rejoins: by peer, how far a joining one is
-- last_line: the line of the last client's operation; event_line: that of the last event that had one
pub record Progress : Type 0 where
  pub viewed : List Bool
  pub rejoins : List (Option Rejoin)
  pub last_line : ℕ
  pub event_line : ℕ

-- members: the view of each shard and the status of each peer
-- by shard: catalogues (what has taken effect), groups (the copies of its list); by peer: tasks (its jobs, in order)
-- operations: those without an answer, by line, ascending
-- entries: what the event so far has answered; refused: what the event would have answered that found the journal full
pub record Core : Type 0 where
  pub limits : Limits
  pub members : Members
  pub catalogues : List Catalogue
  pub groups : List Group
  pub tasks : List (List Task)
  pub progress : Progress
  pub pool : Pool
  pub sessions : Seats
  pub operations : List (ℕ × Waiting)
  pub journal : List JournalEntry
  pub entries : List JournalEntry
  pub refused : List JournalEntry
  pub ended : Option CoreFault
  pub moment : ℕ
