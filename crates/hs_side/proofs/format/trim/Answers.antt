use Rattle.std.proofs.Common.{inl, refl}
use Rattle.hs_ports.proofs.MomentLemmas.{weaker}
use Rattle.hs_side.proofs.BlankLemmas.{blank_log, cut_blank}
use Rattle.hs_side.proofs.format.trim.Goals as goal

pub returns-clause-any_moment : goal.returns-clause-any_moment
returns-clause-any_moment g c header generation told last =
    let disk = c.args.disk.now in
    weaker (c.cut_and_settle.ensures.any_moment told last) (λ content image.
    record { one = inl (blank_log content (cut_blank _ _ 1 refl (c.requires.blank told) (g.met.D.Disk.stays told disk c.args.side) content image)) })
