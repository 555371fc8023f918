use Rattle.std.proofs.Common.{◌≡◌, ◌∙◌, ap, arith, false, None, Some, sym, nat_le}
use Rattle.std.proofs.lemmas.Grind.{common_steps}
use Rattle.hs_model.specs.Store.{block_at, blocks_in, session_at, shard_at}
use Rattle.hs_plain.proofs.DeedLemmas.{room_of, take_found, take_only}
use Rattle.hs_plain.specs.Holding.{may_take}
use Rattle.hs_plain.proofs.memory_store.MemoryStore.may_take.Goals as goal

pub returns-in_default : goal.returns-in_default
returns-in_default c =
    let none : session_at c.args.self.now c.args.session.now ≡ None = grind (arith, common_steps) in
    (λ h. absurd (cc h), λ h. absurd (grind (arith, common_steps, none, h.gives.is_open)))

pub returns-then-is_present : goal.returns-then-is_present
returns-then-is_present c = (λ h. absurd (cc h), λ h. absurd (grind (arith, common_steps, h.absent)))

pub returns-then-is_shard_full : goal.returns-then-is_shard_full
returns-then-is_shard_full c =
    (λ h. absurd (cc h), λ h. absurd (grind (arith, common_steps, room_of c.args.limits c.args.self.now c.args.session.now c.args.address.now c.args.pointers.now c.args.handle h)))

pub returns : goal.returns
returns c =
    let a = c.args in
    let s = a.self.now in
    let here : session_at s a.session.now ≡ Some c.in-Some.seat.now = grind (arith, common_steps) in
    let absent : block_at s a.address.now ≡ None = grind (arith, common_steps) in
    let room : nat_le a.limits.blocks (blocks_in s (shard_at s a.address.now)) ≡ false = grind (arith, common_steps) in
    let e = c.may_take.ensures ∙ ap (λ n. may_take a.limits c.in-Some.seat.now n a.pointers.now a.handle) c.epoch_at.ensures in (
      λ h. take_found s a.session.now c.in-Some.seat.now here a.limits a.address.now a.pointers.now a.handle absent room (sym e ∙ h),
      λ h. e ∙ take_only s a.session.now c.in-Some.seat.now here a.limits a.address.now a.pointers.now a.handle h,
    )
