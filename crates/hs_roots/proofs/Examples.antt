-- What the definitions give for scripts of the rules: keys under a limit of one root, and a root that is dropped between deletions.
use Rattle.std.proofs.Common.{◌≡◌, ℕ, List, [], ◌∷◌, map, replicate, Some, None, refl}
use Rattle.std.specs.Option.{option_map}
use Rattle.hs_limits.specs.declared.address.Address.{Address}
use Rattle.hs_roots.specs.declared.fault.RootFault.TheVariants.{KeyTaken, NoKey, RootsFull}
use Rattle.hs_roots.specs.declared.root.RootRecord.{RootRecord}
use Rattle.hs_roots.specs.Refusals.{put_refusal, drop_refusal}
use Rattle.hs_roots.specs.Roots.{retained_of, retained_count, put_root, drop_root, is_new, count_new, is_released, release, released_count, kept_by}

-- keys j, k and z, and two addresses
abbrev j : List ℕ
j = 106 ∷ []

abbrev k : List ℕ
k = 107 ∷ []

abbrev z : List ℕ
z = 122 ∷ []

abbrev a : ℕ → Address
a byte = record { 0 = replicate 32 byte }

-- root a k h0 in epoch 1
abbrev one : List RootRecord
one = put_root k (a 4) 1 []

-- with at most one root: root a k h0 / root a k h1 / root a j h1 / root a k h0
puts : map (λ (p : List ℕ × Address). put_refusal (record { roots = one; limit = 1 }) p.1 (retained_of p.0 one)) ((k, a 5) ∷ (j, a 5) ∷ (k, a 4) ∷ [])
    ≡ Some KeyTaken ∷ Some (RootsFull 1) ∷ None ∷ []
puts = refl

-- the same address again changes nothing
again : put_root k (a 4) 2 one ≡ one
again = refl

-- look b k / drop z / drop k / drop k
looks : option_map (λ root. root.address) (retained_of k one) ≡ Some (a 4)
looks = refl

drops : drop_refusal (retained_of z one) ∷ drop_refusal (retained_of k one) ∷ drop_refusal (retained_of k (drop_root k 1 one)) ∷ [] ≡ Some NoKey ∷ None ∷ Some NoKey ∷ []
drops = refl

-- root a k h0 / drop k / root a z h1 / root a j h1 / root a k h1: by key, and of one key as they were put
abbrev put : List RootRecord
put = put_root k (a 5) 2 (put_root j (a 5) 1 (put_root z (a 5) 1 (drop_root k 1 one)))

by_key : map (λ root. root.key) put ≡ j ∷ k ∷ k ∷ z ∷ []
by_key = refl

as_put : map (λ root. root.dropped) put ≡ None ∷ Some 1 ∷ None ∷ None ∷ []
as_put = refl

last_of_key : option_map (λ root. root.address) (retained_of k put) ∷ option_map (λ root. root.address) (retained_of k (drop_root k 2 put)) ∷ [] ≡ Some (a 5) ∷ None ∷ []
last_of_key = refl

-- root a k h0 / drop k / delete / delete: run 2 counts the root, which still counts there; run 3 forgets it
abbrev dropped : List RootRecord
dropped = drop_root k 1 one

run_2 : kept_by (is_new 2) dropped ∷ kept_by (is_released 2) (count_new 2 dropped) ∷ [] ≡ (a 4 ∷ []) ∷ [] ∷ []
run_2 = refl

run_3 : kept_by (is_new 3) (count_new 2 dropped) ∷ kept_by (is_released 3) (count_new 2 dropped) ∷ [] ≡ [] ∷ (a 4 ∷ []) ∷ []
run_3 = refl

forgotten : release 3 (count_new 3 (release 2 (count_new 2 dropped))) ≡ []
forgotten = refl

-- a root that was put in a run's epoch is not counted in it, and a key that was dropped may be put again
later : kept_by (is_new 2) (put_root k (a 5) 2 dropped) ∷ [] ≡ (a 4 ∷ []) ∷ []
later = refl

both : map (λ root. root.dropped) (put_root k (a 5) 2 dropped) ≡ Some 1 ∷ None ∷ []
both = refl

-- two roots that go are counted as two, whatever they keep
gone : released_count 3 (count_new 2 (drop_root j 1 (put_root j (a 4) 1 dropped))) ≡ 2
gone = refl

counts : retained_count (put_root k (a 5) 2 dropped) ≡ 1
counts = refl
