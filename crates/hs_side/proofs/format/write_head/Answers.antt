use Rattle.std.proofs.Common.{◌<◌, length, arith}
use Rattle.hs_side.proofs.BlankLemmas.{blank_head}
use Rattle.hs_side.proofs.format.write_head.Goals as goal

pub returns-clause-any_moment : goal.returns-clause-any_moment
returns-clause-any_moment g c told last =
    let disk = c.args.disk.now in
    let size = g.met.D.Disk.sized told disk c.args.side in
    let one = c.requires.size in
    let some : 0 < length ((g.D.Disk.stands disk).seen c.args.side) = omega arith in
    blank_head c.args.header c.args.generation _ _ _ c.args.side _ _ some (c.requires.shut told) (c.requires.still told) (c.put_and_settle.ensures.any_moment told last)
