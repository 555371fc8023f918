use Rattle.std.proofs.Common.{◌≡◌, ◌-◌, take, ◌∙◌, arith}
use Rattle.hs_limits.specs.Reading.{addresses}
use Rattle.hs_shard.proofs.PointerLemmas.{addresses_go_on, addresses_are_done}
use Rattle.hs_shard.proofs.catalogue.clients.addresses_of.Goals as goal

pub loop-preserved : goal.loop-preserved
loop-preserved c =
    let front : c.copy_from_slice.new.self ≡ take 32 c.loop.rest.now = c.copy_from_slice.ensures.after ∙ c.split_at.ensures.front in
    record {
      items = rw (c.in_ok-push.ensures.items, front, c.split_at.ensures.back) (addresses_go_on c.loop.pointers.items c.args.count c.loop.counter c.loop.rest.now (addresses c.args.count c.args.bytes.now) c.loop-test.true c.loop.invariant.items);
      whole = omega (arith, c.split_at.ensures.back_len, c.loop.invariant.whole, c.loop-test.true);
    }

pub returns : goal.returns
returns c = addresses_are_done c.loop.pointers.items (c.args.count - c.loop.counter) c.loop.rest.now (addresses c.args.count c.args.bytes.now) (omega (arith, c.loop-test.false)) c.loop.invariant.items
