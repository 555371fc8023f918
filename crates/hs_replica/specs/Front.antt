-- How far all good peers have sealed, when a new view begins.
use Rattle.std.specs.Prelude.{◌≡◌, ℕ, ◌≤◌, true}
use Rattle.hs_members.specs.Members.{Members, is_good_status, status}
use Rattle.hs_replica.specs.Group.{Group, IsHome, commit_front, copy_of}

-- a peer of the shard is good as the members say
pub record IsGoodHome (members : Members) (group : Group) (peer : ℕ) : Type 0 where
  pub home : IsHome group peer
  pub good : is_good_status (status peer members) ≡ true

-- some peer is good in the new view, and each that is has sealed all up to the front
pub record HaveSealed (members : Members) (group : Group) : Type 0 where
  pub peer : ℕ
  pub some : IsGoodHome members group peer
  pub all : (peer : ℕ) → IsGoodHome members group peer → commit_front group ≤ (copy_of group peer).sealed
