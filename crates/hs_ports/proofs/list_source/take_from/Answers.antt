use Rattle.std.proofs.Common.{rules}
use Rattle.hs_ports.proofs.TakeLemmas.{took_piece}
use Rattle.hs_ports.proofs.list_source.take_from.Goals as goal

pub returns-clause-taken : goal.returns-clause-taken
returns-clause-taken c =
    took_piece c.args.at c.min-n.result c.args.max c.args.bytes.now c.args.into.now.items c.extend_from_slice.new.self.items
    c.requires.in_range (search rules) c.requires.some (search rules)
