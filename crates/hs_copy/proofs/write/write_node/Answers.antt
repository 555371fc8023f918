use Rattle.std.proofs.Common.{◌∙◌}
use Rattle.hs_copy.proofs.StepLemmas.{may_write}
use Rattle.hs_limits.specs.Block.{spell}
use Rattle.hs_copy.proofs.write.write_node.Goals as goal

pub write-requires-clause-named : goal.write-requires-clause-named
write-requires-clause-named g c =
    may_write (g.A.Addresser.name c.args.naming.now) (g.B.Asker.shows c.args.asker.now) c.args.session.now c.args.nodes.now c.in_ok-addresses.addresses.items c.from_vec.result c.in_ok-payload.payload c.args.bytes.now c.in_ok-address.address c.requires.ours c.requires.few c.requires.short c.requires.named
    c.in_ok-addresses.ensures
    (c.from_vec.ensures ∙ c.in_ok-handles.ensures)
    c.in_ok-payload.ensures
    (c.in_ok-address.ensures.ok ∙ (λ i. g.A.Addresser.name c.args.naming.now (spell (record { pointers = c.deref.ensures.value i; bytes = c.args.bytes.now }))))
