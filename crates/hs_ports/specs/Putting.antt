-- What was put: a text or a front of it, and what was got by a moment.
use Rattle.std.specs.Option.{option_map}
use Rattle.std.specs.Prelude.{Bool, List, Option, false, filter, nat_le, take, true, ℕ, ◌≡◌}
use Rattle.hs_ports.specs.Sink.{followed}

-- what a sink got by a moment, each byte with its moment
abbrev pub got_by : ℕ → Option (List (ℕ × ℕ)) → Option (List (ℕ × ℕ))
got_by moment got = option_map (λ bytes. filter (λ byte. nat_le byte.1 moment) bytes) got

-- a front of a text was put behind the bytes before, where they are told
pub record PutsFront (before : Option (List ℕ)) (bytes : List ℕ) (after : Option (List ℕ)) : Type 0 where
  pub count : ℕ
  pub put : after ≡ followed before (take count bytes)

-- a text was put, or a front of it
abbrev pub IsPut : Bool → Option (List ℕ) → List ℕ → Option (List ℕ) → Type 0
IsPut true before bytes after = PutsFront before bytes after
IsPut false before bytes after = after ≡ followed before bytes
