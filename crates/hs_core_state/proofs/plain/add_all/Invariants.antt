-- So far the first shards were put in, and no catalogue has changed.
use Rattle.std.proofs.Common.{◌≡◌, drop}
use Rattle.hs_core_words.specs.Plain.{add_shards}
use Rattle.hs_model.specs.Plain.{IsPlain, plain_of}
use Rattle.hs_core_state.proofs.plain.add_all.Given as goal

abbrev pub invariant-loop-place : goal.invariant-loop-place
invariant-loop-place l = record {
  added : add_shards (drop l.place l.catalogues.items) (plain_of l.store) ≡ add_shards l.fn.catalogues.items (plain_of l.fn.store);
  plain : IsPlain l.store;
  shape : l.store.shape ≡ l.fn.store.shape;
  same : l.catalogues.items ≡ l.fn.catalogues.items;
}
