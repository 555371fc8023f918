use Rattle.std.proofs.Common.{◌≡◌, ◌+◌, ◌≤◌, ap, sym, ◌∙◌, length, arith, length-append}
use Rattle.hs_rounds.specs.Rounds.{changes_in, changes_of, told_by}
use Rattle.hs_rounds.proofs.EachLemmas.{each_below, each_more}
use Rattle.hs_rounds.proofs.gots.Gots.count_below.Goals as goal

one_more : (c : goal.After-changes_in) → c.loop-from.count + length c.changes_in.result.now ≡ length (changes_of (c.loop-from.from + 1) c.args.place.epoch c.args.place.round c.args.self.now)
one_more c =
    let told : c.changes_in.result.now ≡ changes_in (told_by c.args.place.epoch c.args.place.round c.args.self.now c.loop-from.from) = c.changes_in.ensures ∙ ap changes_in c.get.ensures in
    let more : length (changes_of (c.loop-from.from + 1) c.args.place.epoch c.args.place.round c.args.self.now) ≡ length (changes_of c.loop-from.from c.args.place.epoch c.args.place.round c.args.self.now) + length c.changes_in.result.now =
    ap length (each_more (λ from. changes_in (told_by c.args.place.epoch c.args.place.round c.args.self.now from)) c.loop-from.from) ∙ length-append _ _ ∙ ap (λ more. length (changes_of c.loop-from.from c.args.place.epoch c.args.place.round c.args.self.now) + length more) (sym told) in
    omega (arith, more, c.loop-from.invariant)

pub overflow_add-count : goal.overflow_add-count
overflow_add-count c =
    let below : length (changes_of (c.loop-from.from + 1) c.args.place.epoch c.args.place.round c.args.self.now) ≤ length (changes_of c.args.place.from c.args.place.epoch c.args.place.round c.args.self.now) =
    each_below (λ from. changes_in (told_by c.args.place.epoch c.args.place.round c.args.self.now from)) (c.loop-from.from + 1) c.args.place.from (omega (arith, c.loop-from-test.true)) in
    omega (arith, one_more c, below, c.requires)

pub loop-from-preserved : goal.loop-from-preserved
loop-from-preserved c = one_more c
