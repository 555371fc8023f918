use Rattle.std.proofs.Common.{◌∙◌, sym}
use Rattle.hs_wanted.proofs.ShapeLemmas.{shards_among}
use Rattle.hs_wanted.proofs.store.shards_word.Goals as goal

pub returns-then-is_shards-clause-shards : goal.returns-then-is_shards-clause-shards
returns-then-is_shards-clause-shards c = shards_among _ (sym c.is_shards.ensures ∙ c.if-is_shards.true)
