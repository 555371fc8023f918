use Rattle.std.proofs.Common.{ℕ, ◌+◌, List, OnOk, subst, sym, ◌≡◌}
use Rattle.hs_replica.specs.Counting.{AreFiled, count_at, once}
use Rattle.hs_replica.proofs.StoreLemmas.{filed_added}
use Rattle.hs_replica.proofs.stores.Stores.add.Goals as goal
use Rattle.hs_rounds.specs.declared.place.Place.{Place}

pub invariant_of-self : goal.invariant_of-self
invariant_of-self c = subst (λ (lines : List (ℕ × ℕ)). AreFiled c.self.inside.counts lines) (sym c.in_err-add.ensures.same) c.self.invariant

pub invariant_of-self-2 : goal.invariant_of-self-2
invariant_of-self-2 c =
    filed_added c.args.line c.place_of.result c.self.inside.counts c.add-done.new.self c.self.inside.lines c.add.new.self c.clear.new.lines c.add-done.result c.place_of.ensures c.self.invariant
    c.in_ok-add.ensures.ok c.add-done.ensures.ok c.add-done.ensures.same c.clear.ensures

pub returns-clause-ok : goal.returns-clause-ok
returns-clause-ok c =
    rw (← c.self.view_is)
    (subst (λ (q : Place). OnOk c.add-done.result ((p : Place) → count_at c.add-done.new.self p ≡ once q p + count_at c.self.inside.counts p)) c.place_of.ensures c.add-done.ensures.ok)
