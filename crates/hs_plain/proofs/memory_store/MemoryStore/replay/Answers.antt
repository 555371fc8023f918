use Rattle.std.proofs.Common.{◌≡◌, arith, refl, true}
use Rattle.hs_plain.proofs.ReplayLemmas.{first_is, goes_on, none_left}
use Rattle.hs_plain.proofs.memory_store.MemoryStore.replay.Goals as goal

pub returns-then-not-is_deed : goal.returns-then-not-is_deed
returns-then-not-is_deed c =
    let a = c.args in (
      λ h. absurd (cc h),
      λ h.
          let one = first_is a.limits c.loop-at.self c.loop-at.at c.index-entries-at.result a.entries.now c.loop-at-test.true c.index-entries-at.is (c.loop-at.invariant.1 h) in
          let is = c.in_ok-is_deed.ensures.only one in
          absurd (grind (arith, c.if-not-is_deed.true, is)),
    )

pub loop-at-preserved : goal.loop-at-preserved
loop-at-preserved c =
    let a = c.args in
    let yes : c.in_ok-is_deed.is_deed ≡ true = c.if-not-is_deed.false in
    let on = goes_on a.limits c.loop-at.self c.loop-at.at c.index-entries-at.result a.entries.now c.loop-at-test.true c.index-entries-at.is c.replay_entry.new.self (c.in_ok-is_deed.ensures.found yes) (c.in_ok-is_deed.ensures.leaves yes) in
    (λ h. c.loop-at.invariant.0 (on.0 h), λ h. on.1 (c.loop-at.invariant.1 h))

pub returns : goal.returns
returns c = (λ h. c.loop-at.invariant.0 (none_left c.args.limits c.loop-at.self c.loop-at.at c.args.entries.now (omega arith)), λ h. refl)
