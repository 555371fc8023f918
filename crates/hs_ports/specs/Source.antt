-- What a take does to what is held and to what is left.
use Rattle.std.specs.Prelude.{◌≡◌, ℕ, ◌+◌, ◌≤◌, List, [], ◌++◌, length, take, Option, None, Some, IfSome}

-- the bytes that are held and then those that are left, where these are told
abbrev pub before : List ℕ → Option (List ℕ) → Option (List ℕ)
before held None = None
before held (Some rest) = Some (held ++ rest)

-- nothing is left, where that is told
abbrev pub IsEnded : Option (List ℕ) → Type 0
IsEnded left = IfSome left (λ rest. rest ≡ [])

-- n bytes, at most max, went from the front of what is left to the end of what is held
pub record Took (left : Option (List ℕ)) (held : List ℕ)
    (left' : Option (List ℕ)) (held' : List ℕ) (max n : ℕ) : Type 0 where
  pub stream : before held' left' ≡ before held left
  pub front : take (length held) held' ≡ held
  pub count : length held' ≡ length held + n
  pub bound : n ≤ max
  pub ended : n ≡ 0 → IsEnded left
  pub held_stays : n ≡ 0 → held' ≡ held
  pub left_stays : n ≡ 0 → left' ≡ left

-- nothing was taken
pub record Untaken (left : Option (List ℕ)) (held : List ℕ)
    (left' : Option (List ℕ)) (held' : List ℕ) : Type 0 where
  pub held_stays : held' ≡ held
  pub left_stays : left' ≡ left
