use Rattle.std.proofs.Common.{arith, ◌∙◌, ap}
use Rattle.std.specs.BTreeMap.{insert_entry}
use Rattle.hs_model.specs.Store.{address_cmp}
use Rattle.hs_model.proofs.SetLemmas.{pointing_more}
use Rattle.hs_model.proofs.slow.pointing.pointing.Goals as goal

pub loop-block-preserved : goal.loop-block-preserved
loop-block-preserved c =
    let b = c.block-item.result in
    pointing_more c.args.blocks.now c.loop-block.block-index b c.loop-block.pointing.entries c.insert.new.self.entries c.requires (omega arith) c.block-item.is c.loop-block.invariant (c.in_ok-insert.ensures.entries ∙ ap (λ z. insert_entry address_cmp c.loop-block.pointing.entries b.address z) c.in_ok-copy.ensures)
