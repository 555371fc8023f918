use Rattle.std.proofs.Common.{◌≡◌, ◌∙◌, ◌+◌, ◌-◌, ◌<◌, ap, sym, false, true, is_some, length, arith}
use Rattle.hs_limits.specs.Shape.{peer_of}
use Rattle.hs_taking.proofs.ChoiceLemmas.{shard_within}
use Rattle.hs_taking.proofs.StepLemmas.{at_any}
use Rattle.hs_taking.proofs.TakeLemmas.{any_here, any_less}
use Rattle.hs_taking.specs.declared.slot.Slot.{Slot}
use Rattle.hs_taking.specs.declared.slot.Slot.TheVariants.{Aside}
use Rattle.hs_taking.specs.Evens.{log_of}
use Rattle.hs_taking.specs.Slots.{slot_at}
use Rattle.hs_taking.proofs.taking.has_kept.Goals as goal

pub loop-copy-preserved : goal.loop-copy-preserved
loop-copy-preserved c =
    let slots = c.args.slots.now in
    let i = c.from-place.result in
    let from = peer_of c.args.shape c.args.shard c.loop-copy.copy in
    let at : i ≡ from = c.from-place.ensures ∙ c.peer_of.ensures in
    let all = shard_within c.args.shape c.args.shard c.requires.shard in
    let low : i < length slots = omega (arith, at, all, c.loop-copy-test.true, c.requires.count) in
    let a = at_any slots i Aside c.index-slots-place.result low in
    let b = c.index-slots-place.is in
    let item : slot_at slots i ≡ c.index-slots-place.result = cc (a, b) in
    let none : is_some (log_of (slot_at slots from)) ≡ false = ap (λ n. is_some (log_of (slot_at slots n))) (sym at) ∙ ap (λ (s : Slot). is_some (log_of s)) item ∙ sym c.is_kept.ensures ∙ c.if-is_kept.false in
    c.loop-copy.invariant ∙ any_less (λ peer. is_some (log_of (slot_at slots peer))) from (peer_of c.args.shape c.args.shard (c.loop-copy.copy + 1)) (c.args.shape.copies - c.loop-copy.copy) (c.args.shape.copies - (c.loop-copy.copy + 1)) (omega arith) (omega (arith, c.loop-copy-test.true)) none

pub returns-then-is_kept : goal.returns-then-is_kept
returns-then-is_kept c =
    let slots = c.args.slots.now in
    let i = c.from-place.result in
    let from = peer_of c.args.shape c.args.shard c.loop-copy.copy in
    let at : i ≡ from = c.from-place.ensures ∙ c.peer_of.ensures in
    let all = shard_within c.args.shape c.args.shard c.requires.shard in
    let low : i < length slots = omega (arith, at, all, c.loop-copy-test.true, c.requires.count) in
    let a = at_any slots i Aside c.index-slots-place.result low in
    let b = c.index-slots-place.is in
    let item : slot_at slots i ≡ c.index-slots-place.result = cc (a, b) in
    let some : is_some (log_of (slot_at slots from)) ≡ true = ap (λ n. is_some (log_of (slot_at slots n))) (sym at) ∙ ap (λ (s : Slot). is_some (log_of s)) item ∙ sym c.is_kept.ensures ∙ c.if-is_kept.true in
    sym (c.loop-copy.invariant ∙ any_here (λ peer. is_some (log_of (slot_at slots peer))) from (c.args.shape.copies - c.loop-copy.copy) (c.args.shape.copies - (c.loop-copy.copy + 1)) (omega (arith, c.loop-copy-test.true)) some)
