use Rattle.std.proofs.Common.{ℕ, rules}
use Rattle.std.proofs.lemmas.Map.Made.{filter_same_pairs}
use Rattle.std.specs.Map.{keys_of}
use Rattle.hs_limits.specs.declared.address.Address.{Address}
use Rattle.hs_model.specs.Reach.{is_among}
use Rattle.hs_plain.proofs.memory_store.sweep.remove_given.Goals as goal

pub returns : goal.returns
returns c =
    filter_same_pairs _ (λ (e : Address × ℕ). is_among (keys_of c.args.blocks.now.entries) e.0) _ (λ k v b w f' t. search rules) c.args.given.now.entries c.retain.new.self.entries c.retain.ensures.filtered
