-- In which order the lists of a store are.
use Rattle.std.specs.Prelude.{◌≡◌, ℕ, false, List, Contains, AllPairs}
use Rattle.std.specs.List.Sorted.{IsStrictlySortedBy}
use Rattle.std.specs.Map.{keys_of}
use Rattle.std.specs.Ordering.{nat_cmp, is_gt}
use Rattle.hs_model.specs.Store.{Store, Session, text_cmp, address_cmp, root_cmp}

-- the lists of entries ascend by their keys, with no key twice; of the roots, which may repeat, none comes after a later one
pub record IsInOrder (s : Store) : Type 0 where
  pub blocks : IsStrictlySortedBy address_cmp (keys_of s.blocks)
  pub given : IsStrictlySortedBy address_cmp (keys_of s.given)
  pub sessions : IsStrictlySortedBy text_cmp (keys_of s.sessions)
  pub handles : (name : List ℕ) (session : Session) → Contains s.sessions (name, session) → IsStrictlySortedBy nat_cmp (keys_of session.handles)
  pub roots : AllPairs (λ first later. is_gt (root_cmp first later) ≡ false) s.roots
