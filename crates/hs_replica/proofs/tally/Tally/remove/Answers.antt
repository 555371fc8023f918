use Rattle.std.proofs.Common.{◌≡◌, ℕ, ◌+◌, ◌-◌, ◌<◌, None, Some, arith}
use Rattle.hs_replica.specs.Counting.{Differs, count_at}
use Rattle.hs_replica.proofs.TallyLemmas.{counted_less, number_in}
use Rattle.hs_replica.proofs.tally.Tally.remove.Goals as goal

pub returns-then-count-le1 : goal.returns-then-count-le1
returns-then-count-le1 c more =
    let gone : Differs c.args.place None c.args.self.now c.remove.new.self.entries = rw (← c.self.view_is) c.remove.ensures.updates.0 in
    let one : 0 + 1 ≡ count_at c.args.self.now c.args.place = omega (arith, more, c.count-count.ensures, c.if-count-le1.true) in
    counted_less c.args.place None c.args.self.now c.remove.new.self.entries gone one

pub returns-else-count-le1 : goal.returns-else-count-le1
returns-else-count-le1 c more =
    let count : ℕ = c.count-count.result in
    let less : count - 1 + 1 ≡ count_at c.args.self.now c.args.place = omega (arith, c.count-count.ensures, c.if-count-le1.false) in
    counted_less c.args.place (Some (count - 1)) c.args.self.now c.lower.new.self (c.lower.ensures more) less
