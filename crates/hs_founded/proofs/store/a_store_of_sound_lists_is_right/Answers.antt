use Rattle.hs_fold.specs.Runs.Opened.{catalogues}
use Rattle.hs_founded.proofs.BytesLemmas.{list_spelled}
use Rattle.hs_founded.proofs.StoreLemmas.{store_acyclic, store_distinct, store_named}
use Rattle.hs_founded.proofs.store.a_store_of_sound_lists_is_right.Goals as goal

pub returns : goal.returns
returns c = record {
  valid = λ set lists sound. sound.sound.valid;
  distinct = λ set lists. store_distinct (catalogues set 0 lists);
  acyclic = λ set lists shape sound. store_acyclic c.folds_follow_the_machine.ensures.joined set lists shape sound c.lawful_histories_keep_the_invariants.ensures.right;
  named = λ set lists shape sound spelled a stored at. store_named c.folds_follow_the_machine.ensures.joined set lists shape sound spelled a stored at;
  spelled = λ seen bytes. list_spelled seen bytes;
}
