use Rattle.std.proofs.Common.{ap, sym, ◌∙◌}
use Rattle.hs_post.specs.Pool.{drop_for}
use Rattle.hs_post.proofs.LeadLemmas.{drop_none, drop_others, fewer_left}
use Rattle.hs_post.proofs.pool.Pool.drop_for.Goals as goal

pub loop-number-preserved : goal.loop-number-preserved
loop-number-preserved c =
    ap (drop_for c.args.peer) c.forget.ensures ∙ (drop_others c.loop-number.self c.args.peer c.in-Some.number c.in-Some.ensures.first.0 ∙ c.loop-number.invariant)

pub loop-number-smaller : goal.loop-number-smaller
loop-number-smaller c = rw c.forget.ensures (fewer_left c.loop-number.self c.args.peer c.in-Some.number c.in-Some.ensures.first.0)

pub returns : goal.returns
returns c = sym (drop_none c.loop-number.self c.args.peer c.oldest_of.ensures.valid c.in_default.ensures.first) ∙ c.loop-number.invariant
