use Rattle.std.proofs.Common.{rules}
use Rattle.hs_ports.proofs.StampLemmas.{put_whole}
use Rattle.hs_ports.proofs.list_sink.add.Goals as goal

pub returns-clause-put : goal.returns-clause-put
returns-clause-put c =
    put_whole c.args.bytes.now.items c.args.moments.now.items c.args.piece.now c.extend_from_slice.new.self.items c.extend_from_slice-2.new.self.items c.args.moment
    c.requires (search rules) (search rules)
