use Rattle.hs_side.specs.Headers.{own_header}
use Rattle.hs_taking.proofs.HeadLemmas.{owns_none, owns_some, under_found}
use Rattle.hs_taking.proofs.leveling.recover_copy.Goals as goal

pub returns-in-Ok-clause-own : goal.returns-in-Ok-clause-own
returns-in-Ok-clause-own g c = λ told. owns_some (own_header c.args.shape c.args.peer) c.in-Ok.log (under_found c.args.shape c.args.peer (g.D.Disk.stands c.args.disk.now).seen c.in-Ok.log (c.in-Ok.ensures.head told))

pub returns-in-Ok-clause-headed : goal.returns-in-Ok-clause-headed
returns-in-Ok-clause-headed g c = λ told last leaves. record { past = c.from_view.ensures.past told last; keeps = c.from_view.ensures.headed told last leaves }

pub returns-then-is_memory-clause-headed : goal.returns-then-is_memory-clause-headed
returns-then-is_memory-clause-headed g c = λ told last leaves. record { past = c.from_view.ensures.past told last; keeps = c.from_view.ensures.headed told last leaves }

pub returns-else-is_memory-clause-own : goal.returns-else-is_memory-clause-own
returns-else-is_memory-clause-own g c = λ told. owns_none (own_header c.args.shape c.args.peer)

pub returns-else-is_memory-clause-headed : goal.returns-else-is_memory-clause-headed
returns-else-is_memory-clause-headed g c = λ told last leaves. record { past = c.from_view.ensures.past told last; keeps = c.from_view.ensures.headed told last leaves }
