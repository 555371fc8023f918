use Rattle.std.proofs.Common.{◌≡◌, ◌+◌, drop}
use Rattle.std.specs.List.{range_with_len}
use Rattle.hs_model.specs.Store.{holding_all, helds_of}
use Rattle.hs_plain.proofs.seat.Seat.hold_each.Given as goal

-- the addresses so far are held, under the numbers so far
abbrev pub invariant-loop-address : goal.invariant-loop-address
invariant-loop-address l = record {
  numbers : l.handles ≡ range_with_len l.fn.self.next l.address-index;
  next : l.self.next ≡ l.fn.self.next + l.address-index;
  holds : holding_all (helds_of (drop l.address-index l.addresses) l.epoch) l.self ≡ holding_all (helds_of l.addresses l.epoch) l.fn.self;
}
