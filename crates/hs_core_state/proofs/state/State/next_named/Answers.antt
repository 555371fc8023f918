use Rattle.hs_core_state.proofs.WakeLemmas.{passes_none}
use Rattle.hs_core_state.proofs.state.State.next_named.Goals as goal

pub returns-in-None : goal.returns-in-None
returns-in-None c = rw c.in-None.is (λ n far. passes_none c.args.self.now.operations n)
