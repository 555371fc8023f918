-- What a put adds to a sink.
use Rattle.std.specs.Prelude.{◌≡◌, ℕ, ◌<◌, ◌≤◌, List, ◌++◌, length, map, take, drop, Option, None, Some}

-- each of these bytes with this moment
abbrev pub stamped : ℕ → List ℕ → List (ℕ × ℕ)
stamped moment bytes = map (λ byte. (byte, moment)) bytes

-- what was got and then more, where it is told
abbrev pub followed : {A : Type 0} → Option (List A) → List A → Option (List A)
followed None more = None
followed (Some got) more = Some (got ++ more)

-- the bytes that were got without their moments, where they are told
abbrev pub bytes_of : Option (List (ℕ × ℕ)) → Option (List ℕ)
bytes_of None = None
bytes_of (Some got) = Some (map (λ stamp. stamp.0) got)

-- the first n bytes of the piece were put at this moment
pub record Put (got got' : Option (List (ℕ × ℕ))) (moment : ℕ)
    (piece : List ℕ) (n : ℕ) : Type 0 where
  pub front : got' ≡ followed got (stamped moment (take n piece))
  pub bytes : bytes_of got' ≡ followed (bytes_of got) (take n piece)
  pub stream : followed (bytes_of got') (drop n piece) ≡ followed (bytes_of got) piece
  pub bound : n ≤ length piece
  pub some : 0 < length piece → 0 < n
