use Rattle.std.proofs.Common.{arith}
use Rattle.hs_limits.specs.Reading.{addresses}
use Rattle.hs_limits.proofs.ReadingLemmas.{spelling_where_ok}
use Rattle.hs_limits.proofs.spelling.spelt.Goals as goal

pub returns-clause-exact : goal.returns-clause-exact
returns-clause-exact c =
    spelling_where_ok (λ x. record { pointers = addresses x.0 x.1.now; bytes = x.2.now }) c.parts_of.result c.is_ok.result c.args.bytes.now (λ i. omega (arith, c.type_inv.bytes i)) c.parts_of.ensures.exact c.is_ok.ensures.value
