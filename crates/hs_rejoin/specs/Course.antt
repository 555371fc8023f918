-- What the steps of a joining peer leave on its disk.
use Rattle.std.specs.Prelude.{◌≡◌, ℕ, ◌+◌, ◌-◌, ◌≤◌, false, List, [], ◌++◌, length, take, drop, if◌then◌else◌}
use Rattle.hs_desk.specs.declared.job.Job.{Job}
use Rattle.hs_desk.specs.declared.job.Job.TheVariants as job
use Rattle.hs_entry.specs.declared.entry.Entry.{Entry}
use Rattle.hs_rejoin.specs.Rejoin.{Rejoin, copied, emptied}

-- the list on the joining peer's disk after a step, where the disk that is copied from has the list `lead`
abbrev pub after_step : Job → List Entry → List Entry → List Entry
after_step job.Reset lead list = []
after_step (job.Copy from number) lead list = list ++ take 1 (drop (number - 1) lead)
after_step other lead list = list

-- what is counted when a step is reported
abbrev pub counted : Job → Rejoin → Rejoin
counted job.Reset r = emptied r
counted (job.Copy from number) r = copied number r
counted other r = r

-- once no emptying is due, the list on the joining peer's disk is the first entries of the lead's, as many as were counted
pub record Follows (lead list : List Entry) (r : Rejoin) : Type 0 where
  pub within : r.empty ≡ false → r.len ≤ length lead
  pub same : r.empty ≡ false → list ≡ take r.len lead

-- how many steps are left until the peer has what the lead has sealed
abbrev pub steps_left : ℕ → Rejoin → ℕ
steps_left lead_sealed r = if r.empty then lead_sealed + 1 else lead_sealed - r.len
