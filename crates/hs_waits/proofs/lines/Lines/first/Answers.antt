use Rattle.std.proofs.Common.{sym, ◌∙◌, ap}
use Rattle.std.proofs.lemmas.Map.Iter.{rest_all}
use Rattle.std.specs.Map.Iter.{deref}
use Rattle.std.specs.Ordering.{is_eq}
use Rattle.hs_waits.proofs.LineLemmas.{first_found, first_of_none, first_of_other}
use Rattle.hs_waits.proofs.lines.Lines.first.Goals as goal

pub returns-then-is_eq : goal.returns-then-is_eq
returns-then-is_eq g c =
    rw (← c.self.view_is) (first_found g.K.Ord.cmp g.met.K.Ord.total _ _ _ _ (c.range.ensures.in_range tt) _ _ c.in-Some.ensures.steps
    (sym (c.is_eq.ensures ∙ ap is_eq c.cmp.ensures) ∙ c.if-is_eq.true))

pub returns : goal.returns
returns g c =
    rw (← c.self.view_is) (first_of_other g.K.Ord.cmp g.met.K.Ord.total _ _ _ _ (c.range.ensures.in_range tt) _ _ c.in-Some.ensures.steps
    (sym (c.is_eq.ensures ∙ ap is_eq c.cmp.ensures) ∙ c.if-is_eq.false))

pub returns-in_default : goal.returns-in_default
returns-in_default g c =
    rw (← c.self.view_is) (first_of_none g.K.Ord.cmp g.met.K.Ord.total _ _ _ _ (c.range.ensures.in_range tt) (rest_all deref _ _ _ c.in_default.is c.next.ensures.steps))
