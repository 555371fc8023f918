-- The laws of `Disk` for a disk in memory.
use Rattle.std.specs.Prelude.{◌≡◌, ℕ, ◌<◌, ◌^◌, length}
use Rattle.std.proofs.Common.{arith}
use Rattle.hs_ports.specs.declared.disk.Side.{Side}
use Rattle.hs_ports.specs.declared.disk.Side.TheVariants.{Zero, One}
use Rattle.hs_ports.specs.Disk.{IsImage}
use Rattle.hs_ports.specs.Platter.{seen_of, loose_of, last_of, past_of}
use Rattle.hs_ports.specs.Replay.{Track}
use Rattle.hs_ports.specs.ReplayLaws.{since_by, stays_by}
use Rattle.hs_ports.specs.Sides.{standing_of, track_at}

pub fits_at : (zero one : Track) (side : Side) → length (seen_of zero) < 2 ^ 64 → length (seen_of one) < 2 ^ 64
    → length (seen_of (track_at zero one side)) < 2 ^ 64
fits_at zero one Zero first second = first
fits_at zero one One first second = second

since_of : (track : Track) (m : ℕ) → last_of track < m → past_of track m ≡ loose_of track
unfolding last_of past_of loose_of
since_of track m later = since_by track.first track.calls m later

pub since_at : (zero one : Track) (side : Side) (m : ℕ) → (standing_of zero one).last < m
    → (standing_of zero one).past m side ≡ (standing_of zero one).loose side
since_at zero one Zero m later = since_of zero m (omega arith)
since_at zero one One m later = since_of one m (omega arith)

stays_of : (track : Track) → IsImage (loose_of track) (seen_of track)
unfolding seen_of loose_of
stays_of track = stays_by track.first track.calls

pub stays_at : (zero one : Track) (side : Side)
    → IsImage ((standing_of zero one).loose side) ((standing_of zero one).seen side)
stays_at zero one side = stays_of (track_at zero one side)
