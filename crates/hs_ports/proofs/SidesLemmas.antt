-- What a call on one side does to the meaning of the disk.
use Rattle.std.proofs.Common.{◌≡◌, ℕ, ◌<◌, max, Bool, List, [], refl, arith}
use Rattle.hs_ports.specs.declared.change.Deed.{Deed}
use Rattle.hs_ports.specs.declared.disk.Side.{Side}
use Rattle.hs_ports.specs.declared.disk.Side.TheVariants.{Zero, One}
use Rattle.hs_ports.specs.Disk.{Standing, settled}
use Rattle.hs_ports.specs.MemoryDisk.{IsFresh}
use Rattle.hs_ports.specs.Platter.{seen_of, loose_of, last_of, past_of, after}
use Rattle.hs_ports.specs.Replay.{Track, seen_after, loose_after, loose_during, seen_by, loose_by, last_by, past_by}
use Rattle.hs_ports.specs.ReplayLaws.{earlier_below, earlier_above, past_earlier, past_here}
use Rattle.hs_ports.specs.Sides.{standing_of, track_at, Acts}
use Rattle.hs_ports.specs.Called.{Called}

pub seen_of_after : (moment : ℕ) (deed : Deed) (kept : Bool) (track : Track)
    → seen_of (after moment deed kept track) ≡ seen_after deed (seen_of track)
unfolding seen_of seen_by
seen_of_after moment deed kept track = refl

pub loose_of_after : (moment : ℕ) (deed : Deed) (kept : Bool) (track : Track)
    → loose_of (after moment deed kept track) ≡ loose_after deed (seen_of track) (loose_of track)
unfolding seen_of loose_of loose_by
loose_of_after moment deed kept track = refl

pub last_of_after : (moment : ℕ) (deed : Deed) (kept : Bool) (track : Track)
    → last_of (after moment deed kept track) ≡ max (last_of track) moment
unfolding last_of last_by
last_of_after moment deed kept track = refl

pub past_of_before : (moment : ℕ) (deed : Deed) (kept : Bool) (track : Track) (m : ℕ) → m < moment
    → past_of (after moment deed kept track) m ≡ past_of track m
unfolding past_of
past_of_before moment deed kept track m low =
    let call : Called = record { moment = moment; deed = deed; kept = kept } in
    past_earlier track.first call track.calls m (earlier_below call track.calls m low)

pub past_of_here : (moment : ℕ) (deed : Deed) (kept : Bool) (track : Track) → last_of track < moment
    → past_of (after moment deed kept track) moment ≡ loose_during deed (loose_of track)
unfolding past_of loose_of last_of
past_of_here moment deed kept track later =
    let call : Called = record { moment = moment; deed = deed; kept = kept } in
    past_here track.first call track.calls (earlier_above call track.calls moment (omega arith) later)

-- a deed on one track, and the other as it was
pub on_zero : (moment : ℕ) (deed : Deed) (kept : Bool) (zero one : Track)
    → Acts Zero moment deed (standing_of zero one) (standing_of (after moment deed kept zero) one)
on_zero moment deed kept zero one = record {
  seen = seen_of_after moment deed kept zero;
  loose = loose_of_after moment deed kept zero;
  happens = λ before last ticks.
      let next = ticks.next in
      let grown = last_of_after moment deed kept zero in
      record {
        last = omega arith;
        here = λ fits. past_of_here moment deed kept zero (omega arith);
        earlier = λ m low. past_of_before moment deed kept zero m low;
      };
  other = record { seen = refl; loose = refl; past = λ m. refl };
}

pub on_one : (moment : ℕ) (deed : Deed) (kept : Bool) (zero one : Track)
    → Acts One moment deed (standing_of zero one) (standing_of zero (after moment deed kept one))
on_one moment deed kept zero one = record {
  seen = seen_of_after moment deed kept one;
  loose = loose_of_after moment deed kept one;
  happens = λ before last ticks.
      let next = ticks.next in
      let grown = last_of_after moment deed kept one in
      record {
        last = omega arith;
        here = λ fits. past_of_here moment deed kept one (omega arith);
        earlier = λ m low. past_of_before moment deed kept one m low;
      };
  other = record { seen = refl; loose = refl; past = λ m. refl };
}

-- the disk with these bytes
abbrev pub fresh_disk : List ℕ → List ℕ → Standing
fresh_disk zero one = standing_of (record { first = zero; calls = [] }) (record { first = one; calls = [] })

-- before the first call a crash leaves the first bytes
loose_first : (zero one : List ℕ) (side : Side)
    → (fresh_disk zero one).loose side ≡ settled ((fresh_disk zero one).seen side)
unfolding seen_of loose_of seen_by loose_by
loose_first zero one Zero = refl
loose_first zero one One = refl

past_first : (zero one : List ℕ) (m : ℕ) (side : Side)
    → (fresh_disk zero one).past m side ≡ settled ((fresh_disk zero one).seen side)
unfolding seen_of past_of seen_by past_by
past_first zero one m Zero = refl
past_first zero one m One = refl

pub fresh_of : (zero one : List ℕ) → IsFresh zero one (fresh_disk zero one)
unfolding seen_of last_of seen_by last_by
fresh_of zero one = record {
  zero_seen = refl;
  one_seen = refl;
  loose = loose_first zero one;
  past = past_first zero one;
  last = refl;
}

-- the last call on a side is not after the last on the disk
pub last_is_below : (zero one : Track) (side : Side) (m : ℕ) → max (last_of zero) (last_of one) < m
    → last_of (track_at zero one side) < m
last_is_below zero one Zero m later = omega arith
last_is_below zero one One m later = omega arith
