use Rattle.std.proofs.Common.{ℕ, ◌+◌, ◌∙◌, ap, List, not, nat_le, rules}
use Rattle.std.proofs.lemmas.Fn.{filter_same}
use Rattle.std.specs.List.{list_all}
use Rattle.hs_plain.specs.declared.roots.DroppedRoot.{DroppedRoot}
use Rattle.hs_plain.specs.RootWords.{roots_of}
use Rattle.hs_plain.proofs.RootLemmas.{staying_is}
use Rattle.hs_plain.proofs.roots.Roots.keep_counting.Goals as goal

pub returns-clause-roots : goal.returns-clause-roots
returns-clause-roots c =
    let epochs = c.args.epochs.now in
    let left = filter_same _ (λ (root : DroppedRoot). not (list_all (λ (e : ℕ). nat_le (root.epoch + 2) e) epochs)) _ (λ x b f' t. search rules) c.self.inside.gone.items c.retain.new.self.items c.retain.ensures.filtered in
    rw (← c.self.view_is) (ap (λ (z : List DroppedRoot). roots_of c.self.inside.kept.entries z) left ∙ staying_is epochs c.self.inside.kept.entries c.self.inside.gone.items)
