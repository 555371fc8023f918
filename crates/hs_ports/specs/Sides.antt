-- Both sides of a disk in memory, and what they stand for.
use Rattle.std.specs.Prelude.{◌≡◌, ℕ, ◌≤◌, Bool, max}
use Rattle.hs_ports.specs.declared.change.Deed.{Deed}
use Rattle.hs_ports.specs.declared.disk.Side.{Side}
use Rattle.hs_ports.specs.declared.disk.Side.TheVariants.{Zero, One}
use Rattle.hs_ports.specs.Disk.{Standing, Happens, Untouched, other_side}
use Rattle.hs_ports.specs.Platter.{seen_of, loose_of, last_of, past_of, after}
use Rattle.hs_ports.specs.Replay.{Track, seen_after, loose_after, loose_during}
use Rattle.hs_ports.specs.Watch.{Ticks}

-- the track of a side
abbrev pub track_at : Track → Track → Side → Track
track_at zero one Zero = zero
track_at zero one One = one

-- the meaning of a disk with these tracks
abbrev pub standing_of : Track → Track → Standing
standing_of zero one = record {
  seen = λ side. seen_of (track_at zero one side);
  loose = λ side. loose_of (track_at zero one side);
  past = λ m side. past_of (track_at zero one side) m;
  last = max (last_of zero) (last_of one);
}

-- a call failed, whether the record has it or not
abbrev pub HasFailed : ℕ → Deed → Track → Track → Type 0
HasFailed moment deed old new = (kept : Bool) × (new ≡ after moment deed kept old)

-- a deed on one side at a moment, and nothing on the other side
pub record Acts (side : Side) (moment : ℕ) (deed : Deed) (old new : Standing) : Type 0 where
  pub seen : new.seen side ≡ seen_after deed (old.seen side)
  pub loose : new.loose side ≡ loose_after deed (old.seen side) (old.loose side)
  pub happens : (before : ℕ) → old.last ≤ before → Ticks before moment
      → Happens side moment (loose_during deed (old.loose side)) old new
  pub other : Untouched (other_side side) old new
