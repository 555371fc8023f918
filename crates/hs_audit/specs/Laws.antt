-- What the text of an audit says of the store.
use Rattle.std.specs.List.Sorted.{IsStrictlySortedBy}
use Rattle.std.specs.Prelude.{◌≡◌, ◌↔◌, ◌++◌, ℕ, List, codes, IsTrue}
use Rattle.hs_limits.specs.declared.address.Address.{Address}
use Rattle.hs_model.specs.Listed.{IsPresent}
use Rattle.hs_model.specs.Reach.{IsReached, is_among}
use Rattle.hs_model.specs.Store.{Store, address_cmp}
use Rattle.hs_audit.specs.Missing.{kept_by_roots}

-- exactly the addresses that a root which is not dropped reaches and that are not present, ascending, each once
pub record AreMissing (s : Store) (addresses : List Address) : Type 0 where
  pub listed : (a : Address) → IsTrue (is_among addresses a) ↔ (IsReached s (kept_by_roots s) a × (IsPresent s a → ⊥))
  pub ascending : IsStrictlySortedBy address_cmp addresses

-- the last line of a text is `audit ok`
pub record EndsOk (text : List ℕ) : Type 0 where
  pub front : List ℕ
  pub ends : text ≡ front ++ codes "audit ok\n"
