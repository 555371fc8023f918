use Rattle.std.proofs.Common.{not, rules}
use Rattle.std.proofs.lemmas.Map.Made.{filter_same_pairs}
use Rattle.hs_limits.specs.declared.address.Address.{Address}
use Rattle.hs_model.specs.declared.store.StoredBlock.{StoredBlock}
use Rattle.hs_model.specs.Swept.{removes}
use Rattle.hs_plain.proofs.blocks.remove_blocks.Goals as goal

pub returns : goal.returns
returns c =
    filter_same_pairs _ (λ (e : Address × StoredBlock). not (removes c.args.run c.args.seen.now.keys e.0 e.1.born)) _ (λ k v b w f' t. search rules) c.args.blocks.now.entries c.retain.new.self.entries c.retain.ensures.filtered
