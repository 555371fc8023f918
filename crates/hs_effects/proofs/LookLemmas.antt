-- What is found in a map of which one entry changes: of the anatomy.
pub use Rattle.hs_anatomy.proofs.LookLemmas.{IsExact, each_found, found_insert, found_map, found_set, gone, insert_other, name_exact, number_exact, once_insert, once_map, once_remove, once_set, one_or_other, other_at, remove_other, same_number, set_other}
