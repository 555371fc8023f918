use Rattle.std.proofs.Common.{not, rules}
use Rattle.std.proofs.lemmas.Fn.{filter_same}
use Rattle.hs_roots.specs.declared.root.RootRecord.{RootRecord}
use Rattle.hs_roots.specs.Roots.{is_released}
use Rattle.hs_roots.proofs.root.forget_released.Goals as goal

pub returns : goal.returns
returns c = filter_same _ (λ (root : RootRecord). not (is_released c.args.epoch root)) _ (λ x b f' t. search rules) c.args.roots.now.items c.retain.new.self.items c.retain.ensures.filtered
