use Rattle.hs_replica.proofs.stores.Stores.new.Goals as goal

pub invariant_of-result : goal.invariant_of-result
invariant_of-result c = λ n. rw c.new.ensures (c.new-2.ensures 0 n)
