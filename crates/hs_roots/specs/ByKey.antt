-- Records by key, and of one key in the order in which they were put.
use Rattle.std.specs.Prelude.{◌≡◌, ℕ, Bool, true, if◌then◌else◌, List, count_by, AllPairs}
use Rattle.std.specs.declared.cmp.Ordering.{Ordering}
use Rattle.std.specs.Cmp.Lexicographic.{slice_cmp}
use Rattle.std.specs.List.{insert}
use Rattle.std.specs.Ordering.{is_le, is_lt, nat_cmp}

-- keys are in the order of their bytes
abbrev pub key_cmp : List ℕ → List ℕ → Ordering
key_cmp a b = slice_cmp nat_cmp a b

-- whether a key is at most another
abbrev pub is_upto : List ℕ → List ℕ → Bool
is_upto a b = is_le (key_cmp a b)

-- how many records have a key that is at most this one
abbrev pub count_upto : {X : Type 0} → (X → List ℕ) → List ℕ → List X → ℕ
count_upto key_of key records = count_by (λ one. is_upto (key_of one) key) records

-- the records with one more, behind all whose key is at most its own
abbrev pub insert_by_key : {X : Type 0} → (X → List ℕ) → X → List X → List X
insert_by_key key_of new records = insert records (count_upto key_of (key_of new) records) new

-- whether a record may stand before another: its key is lower, or the same, and it is none that ends its key's
abbrev pub may_precede : {X : Type 0} → (X → List ℕ) → (X → Bool) → X → X → Bool
may_precede key_of ends one later = if ends one then is_lt (key_cmp (key_of one) (key_of later)) else is_upto (key_of one) (key_of later)

-- records by key, and one that ends its key's is the last of them
abbrev pub StandByKey : {X : Type 0} → (X → List ℕ) → (X → Bool) → List X → Type 0
StandByKey key_of ends records = AllPairs (λ one later. may_precede key_of ends one later ≡ true) records
