use Rattle.hs_side.proofs.BlankLemmas.{empty_gate}
use Rattle.hs_side.proofs.format.open_gate.Goals as goal

pub returns-clause-any_moment : goal.returns-clause-any_moment
returns-clause-any_moment g c told last =
    let head = c.requires.head told in
    empty_gate c.args.header c.args.generation _ _ head.0 c.args.side _ _ c.ranges.generation.fits head.1 (c.requires.still told) (c.put_and_settle.ensures.any_moment told last)
