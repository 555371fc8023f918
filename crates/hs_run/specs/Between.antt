-- Where a run on a cluster stands between two lines.
use Rattle.std.specs.Prelude.{List, None, Option, Some, [], length, ℕ, ◌*◌, ◌≡◌, ◌≤◌, ◌⊎◌}
use Rattle.hs_cache.specs.Cached.{cached}
use Rattle.hs_cluster.specs.Disks.{AreReady, DiskSeen}
use Rattle.hs_cluster.specs.Kept.{Span}
use Rattle.hs_cluster.specs.Running.{Running}

-- the moment, the cluster, its disks, what the sink has got, and how many lines were begun
pub record Point : Type 0 where
  pub now : ℕ
  pub cluster : Running
  pub disks : List DiskSeen
  pub got : Option (List (ℕ × ℕ))
  pub line : ℕ

-- the cluster may be asked its next line
pub record IsReadyAt (tells : Type 0) (at : Point) : Type 0 where
  pub going : at.cluster.core.ended ≡ None
  pub last : at.cluster.core.progress.last_line ≤ at.line
  pub moment : at.cluster.core.moment ≤ at.now
  pub count : length at.disks ≡ at.cluster.core.members.shape.shards * at.cluster.core.members.shape.copies
  pub ready : AreReady tells at.cluster.logs at.disks

-- the same cluster, or with an empty cache
abbrev pub IsCached : Running → Running → Type 0
IsCached old new = (new ≡ old) ⊎ ((most : ℕ) × (new ≡ record old { cache = Some (cached [] most) }))

-- from one to another, up to a moment
abbrev pub span_of : Point → ℕ → Point → Span
span_of old moment new = record { before = old.now; now = moment; old = old.cluster; new = new.cluster; disks = old.disks; left = new.disks }
