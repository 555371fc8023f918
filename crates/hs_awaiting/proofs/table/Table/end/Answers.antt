use Rattle.std.proofs.Common.{None, ap, ◌∙◌}
use Rattle.hs_awaiting.specs.Indexing.{found_in}
use Rattle.hs_awaiting.specs.Putting.{keys_in}
use Rattle.hs_awaiting.proofs.table.Table.end.Goals as goal

pub returns-clause-index : goal.returns-clause-index
returns-clause-index c =
    let was = c.requires in
    let its = c.in_ok-move_line.ensures.index c.args.self.now.map.entries c.move_line.new.self.map.entries None
    (record { index = was.index; stored = was.stored; shards = was.shards })
    (c.in_ok-old.ensures ∙ ap keys_in c.remove-waiting.ensures.value) c.no_keys.ensures
    (λ q. ap (λ m. found_in m.entries q) c.in_ok-move_line.ensures.map ∙ c.remove-waiting.ensures.updates.0 q) in
    record { index = its.index; stored = its.stored; shards = its.shards }
