use Rattle.std.proofs.Common.{◌∙◌, ap, arith, sym}
use Rattle.hs_ops.specs.Going.{data_in}
use Rattle.hs_ops.proofs.DataLemmas.{read_ends}
use Rattle.hs_ops.proofs.comparing.head_len.Goals as goal

pub overflow_sub-result : goal.overflow_sub-result
overflow_sub-result c = (read_ends c.args.bytes.now _ (λ i. omega (arith, c.type_inv.bytes i)) c.in-Ok.ensures.exact).there

pub returns-in-Ok-clause-behind : goal.returns-in-Ok-clause-behind
returns-in-Ok-clause-behind c =
    (read_ends c.args.bytes.now _ (λ i. omega (arith, c.type_inv.bytes i)) c.in-Ok.ensures.exact).behind ∙ ap data_in (sym c.in-Ok.ensures.exact)
