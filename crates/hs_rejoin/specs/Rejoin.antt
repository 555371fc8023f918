-- How a joining peer gets the lead's list.
use Rattle.std.specs.Prelude.{ℕ, ◌+◌, ◌==◌, ◌&&◌, Bool, true, false, not, Option, Some, None, nat_lt, if◌then◌else◌}
use Rattle.hs_desk.specs.declared.job.Job.{Job}
use Rattle.hs_desk.specs.declared.job.Job.TheVariants as job

-- from: the peer that is copied from; empty: whether the emptying is still due; len: how many entries it has copied
pub record Rejoin : Type 0 where
  pub from : ℕ
  pub empty : Bool
  pub len : ℕ

-- a peer that begins to join, or begins again
abbrev pub new_rejoin : ℕ → Rejoin
new_rejoin from = record { from = from; empty = true; len = 0 }

-- it is emptied first, and then copies what the lead has sealed, one entry a step
abbrev pub next_job : ℕ → Rejoin → Option Job
next_job lead_sealed r =
    if r.empty then Some job.Reset else
    if nat_lt r.len lead_sealed then Some (job.Copy r.from (r.len + 1)) else None

-- its disk was emptied
abbrev pub emptied : Rejoin → Rejoin
emptied r = record r { empty = false; len = 0 }

-- it got the lead's entry of this number, sealed
abbrev pub copied : ℕ → Rejoin → Rejoin
copied number r = record r { len = number }

-- the lead changed without going Down
abbrev pub follow : ℕ → Rejoin → Rejoin
follow from r = record r { from = from }

-- whether its list is as long as the lead's
abbrev pub is_level : ℕ → Rejoin → Bool
is_level lead_length r = not r.empty && r.len == lead_length
