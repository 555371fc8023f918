-- A listing that holds all that an address reaches.
use Rattle.std.specs.BTreeMap.{is_at}
use Rattle.std.specs.List.{AllZip}
use Rattle.std.specs.Map.{lookup}
use Rattle.std.specs.Prelude.{ℕ, ◌+◌, ◌≡◌, ◌≤◌, List, [], ◌∷◌, ◌++◌, None, Some, Contains, length, map, slice_get}
use Rattle.hs_asking.specs.Seats.{HasSeat}
use Rattle.hs_asking.specs.Shown.{IfTold, Shown, store_now}
use Rattle.hs_copy.specs.Listing.{AreDifferent, ReachesMore}
use Rattle.hs_copy.specs.declared.fault.PartFault.{PartFault}
use Rattle.hs_copy.specs.declared.fault.PartFault.TheVariants as part
use Rattle.hs_copy.specs.declared.list.Found.{Found}
use Rattle.hs_copy.specs.declared.list.Listed.{Listed}
use Rattle.hs_limits.specs.Limits.{greatest_limits}
use Rattle.hs_limits.specs.declared.address.Address.{Address}
use Rattle.hs_limits.specs.declared.address.Held.{Held}
use Rattle.hs_model.proofs.Members.{Member}
use Rattle.hs_model.specs.Reach.{IsReached}
use Rattle.hs_model.specs.Store.{Root, Store, address_cmp, block_at, held_at, retained_at}
use Rattle.hs_model.specs.declared.store.StoredBlock.{StoredBlock}
use Rattle.hs_tree.specs.Storing.{our_session}

-- the block of a number was listed as it is present at its address: its bytes, and the numbers of its pointers
pub record HasListedAt (s : Store) (found : List Address) (n : ℕ) (x : Listed) : Type 0 where
  pub address : Address
  pub at : slice_get found n ≡ Some address
  pub stored : StoredBlock
  pub present : block_at s address ≡ Some stored
  pub bytes : stored.bytes ≡ x.bytes
  pub pointers : map (λ k. slice_get found k) x.pointers ≡ map (λ a. Some a) stored.pointers

-- all addresses that were found are listed, each once and reached from the first one, with what they point to among them
pub record IsWhole (s : Store) (top : Address) (found : List Address) (listed : List Listed) : Type 0 where
  pub first : slice_get found 0 ≡ Some top
  pub counted : length found ≡ length listed
  pub once : AreDifferent found
  pub reached : (a : Address) → Contains found a → IsReached s (top ∷ []) a
  pub blocks : (n : ℕ) (x : Listed) → slice_get listed n ≡ Some x → HasListedAt s found n x

-- ---- on the way

-- the number of an address is its place among those that were found
pub record AreNumbered (numbers : List (Address × ℕ)) (found : List Address) : Type 0 where
  pub stands : (a : Address) (n : ℕ) → lookup (is_at (address_cmp a)) numbers ≡ Some n → slice_get found n ≡ Some a
  pub new : (a : Address) → lookup (is_at (address_cmp a)) numbers ≡ None → Contains found a → ⊥

abbrev pub addresses_of : List Found → List Address
addresses_of found = map (λ (f : Found). f.address) found

-- what was found is what an entry of the session holds
abbrev pub IsHeldAs : Found → ℕ × Held → Type 0
IsHeldAs f e = (f.handle ≡ e.0) × (f.address ≡ e.1.address)

-- some blocks are listed as they are present; of the addresses that were found k were read, and the session holds the others, and those that wait to be numbered, and nothing else
pub record IsListing (s : Store) (key : List ℕ) (root : Root) (numbers : List (Address × ℕ)) (found : List Found) (listed : List Listed) (k : ℕ) (waiting : List Found) : Type 0 where
  pub kept : retained_at s key ≡ Some root
  pub numbered : AreNumbered numbers (addresses_of found)
  pub once : AreDifferent (addresses_of found)
  pub first : slice_get (addresses_of (found ++ waiting)) 0 ≡ Some root.address
  pub reached : (f : Found) → Member f (found ++ waiting) → IsReached s (root.address ∷ []) f.address
  pub blocks : (n : ℕ) (x : Listed) → slice_get listed n ≡ Some x → HasListedAt s (addresses_of found) n x
  pub behind : List Found
  pub ahead : List Found
  pub split : found ≡ behind ++ ahead
  pub counted : length behind ≡ k
  pub next : ℕ
  pub entries : List (ℕ × Held)
  pub seat : HasSeat s our_session next entries
  pub held : AllZip IsHeldAs (ahead ++ waiting) entries

-- where the store is told, an address is what a handle of the session stands for
abbrev pub IsHeldAddress : {tells : Type 0} → Shown tells → List ℕ → ℕ → Address → Type 0
IsHeldAddress now session handle a = IfTold now (λ b. (held : Held) × (Some held ≡ held_at (store_now b now) session handle) × (held.address ≡ a))

-- what waited first was numbered
pub record NumbersOne {tells : Type 0} (old new : Shown tells) (handle : ℕ) (numbers numbers' : List (Address × ℕ)) (found found' : List Found) (n : ℕ) : Type 0 where
  pub more : List Found
  pub grown : found' ≡ found ++ more
  pub goes : IfTold old (λ b. (key : List ℕ) (root : Root) (listed : List Listed) (k : ℕ) (w : Found) (rest : List Found) → w.handle ≡ handle → IsListing (store_now b old) key root numbers found listed k (w ∷ rest) → IsListing (store_now b new) key root numbers' found' listed k rest × (slice_get (addresses_of found') n ≡ Some w.address))

-- what waited first was numbered, one after another
pub record NumbersAll {tells : Type 0} (old new : Shown tells) (handles : List ℕ) (numbers numbers' : List (Address × ℕ)) (found found' : List Found) (ptrs : List ℕ) : Type 0 where
  pub began : new.began ≡ old.began
  pub more : List Found
  pub grown : found' ≡ found ++ more
  pub goes : IfTold old (λ b. (key : List ℕ) (root : Root) (listed : List Listed) (k : ℕ) (ws rest : List Found) → map (λ (w : Found). w.handle) ws ≡ handles → IsListing (store_now b old) key root numbers found listed k (ws ++ rest) → IsListing (store_now b new) key root numbers' found' listed k rest × (map (λ n. slice_get (addresses_of found') n) ptrs ≡ map (λ (w : Found). Some w.address) ws))

-- what waited next was read where there was room for its handles: its block is listed, and its pointers were numbered
abbrev pub ReadsOne : {tells : Type 0} → Shown tells → Shown tells → ℕ → List (Address × ℕ) → List (Address × ℕ) → List Found → List Found → Listed → Type 0
ReadsOne old new handle numbers numbers' found found' x = IfTold old (λ b. b.limits ≡ greatest_limits → length found ≤ 4000 → (key : List ℕ) (root : Root) (listed : List Listed) (w : Found) → slice_get found (length listed) ≡ Some w → w.handle ≡ handle
    → IsListing (store_now b old) key root numbers found listed (length listed) [] → IsListing (store_now b new) key root numbers' found' (listed ++ x ∷ []) (length listed + 1) [])

-- a key keeps an address, for which this handle of the session stands, and the session holds nothing else
pub record HoldsRoot (s : Store) (key : List ℕ) (root : Root) (handle : ℕ) : Type 0 where
  pub kept : retained_at s key ≡ Some root
  pub next : ℕ
  pub entry : ℕ × Held
  pub seat : HasSeat s our_session next (entry ∷ [])
  pub is : IsHeldAs (record { address = root.address; handle = handle }) entry

-- from such a state on some addresses were found, and blocks listed
abbrev pub ListsSoFar : {tells : Type 0} → Shown tells → Shown tells → ℕ → List (Address × ℕ) → List Found → List Listed → Type 0
ListsSoFar old now handle numbers found listed = IfTold old (λ b. b.limits ≡ greatest_limits → (key : List ℕ) (root : Root) → HoldsRoot (store_now b old) key root handle → IsListing (store_now b now) key root numbers found listed (length listed) [])

-- and then all of them
abbrev pub ListsAll : {tells : Type 0} → Shown tells → Shown tells → ℕ → List Listed → Type 0
ListsAll old new handle listed = IfTold old (λ b. b.limits ≡ greatest_limits → (key : List ℕ) (root : Root) → HoldsRoot (store_now b old) key root handle → (found : List Address) × IsWhole (store_now b new) root.address found listed)

-- ---- why it stops

-- where the store is told no read or forget is refused, and too many are found only where the root reaches them
abbrev pub IsListCause : Store → Address → PartFault → Type 0
IsListCause s top (part.Core core) = Unit {0}
IsListCause s top (part.Refused told) = ⊥
IsListCause s top part.TooMany = ReachesMore s top 4000
IsListCause s top part.NoMemory = Unit {0}

abbrev pub NumberFails : {tells : Type 0} → Shown tells → ℕ → List (Address × ℕ) → List Found → PartFault → Type 0
NumberFails old handle numbers found f = IfTold old (λ b. (key : List ℕ) (root : Root) (listed : List Listed) (k : ℕ) (w : Found) (rest : List Found) → w.handle ≡ handle → IsListing (store_now b old) key root numbers found listed k (w ∷ rest) → IsListCause (store_now b old) root.address f)

abbrev pub NumbersFail : {tells : Type 0} → Shown tells → List ℕ → List (Address × ℕ) → List Found → PartFault → Type 0
NumbersFail old handles numbers found f = IfTold old (λ b. (key : List ℕ) (root : Root) (listed : List Listed) (k : ℕ) (ws rest : List Found) → map (λ (w : Found). w.handle) ws ≡ handles → IsListing (store_now b old) key root numbers found listed k (ws ++ rest) → IsListCause (store_now b old) root.address f)

abbrev pub ReadFails : {tells : Type 0} → Shown tells → ℕ → List (Address × ℕ) → List Found → PartFault → Type 0
ReadFails old handle numbers found f = IfTold old (λ b. b.limits ≡ greatest_limits → length found ≤ 4000 → (key : List ℕ) (root : Root) (listed : List Listed) (w : Found) → slice_get found (length listed) ≡ Some w → w.handle ≡ handle
    → IsListing (store_now b old) key root numbers found listed (length listed) [] → IsListCause (store_now b old) root.address f)

abbrev pub ListFails : {tells : Type 0} → Shown tells → ℕ → PartFault → Type 0
ListFails old handle f = IfTold old (λ b. b.limits ≡ greatest_limits → (key : List ℕ) (root : Root) → HoldsRoot (store_now b old) key root handle → IsListCause (store_now b old) root.address f)
