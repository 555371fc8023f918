use Rattle.std.proofs.Common.{◌∙◌, ap, is_some, sym}
use Rattle.hs_model.specs.Deeds.{is_there}
use Rattle.hs_model.specs.Store.{block_at}
use Rattle.hs_plain.proofs.memory_store.MemoryStore.is_there.Goals as goal

pub returns-in-Write : goal.returns-in-Write
returns-in-Write c =
    c.is_present.ensures ∙ ap (λ a. is_some (block_at c.args.self.now a)) c.given_address.ensures ∙ ap (λ o. is_there c.args.self.now o) (sym c.in-Write.is)
