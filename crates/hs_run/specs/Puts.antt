-- What is put of a text, moment by moment.
use Rattle.std.specs.Prelude.{All, List, OnOk, Option, Result, ℕ, ⊤, ◌-◌, ◌<◌, ◌^◌, ◌≡◌, ◌≤◌}
use Rattle.hs_ports.specs.Putting.{PutsFront, got_by}
use Rattle.hs_ports.specs.Sink.{bytes_of, followed}
use Rattle.hs_ports.specs.Watch.{next_moment}
use Rattle.hs_run.specs.declared.stop.Stop.{Stop}

-- a front of some bytes was put at moments behind one and up to another: by a moment up to the first nothing of it, and by any moment a front
pub record PutsLate (before now : ℕ) (bytes : List ℕ) (got got' : Option (List (ℕ × ℕ))) : Type 0 where
  pub later : before ≤ now
  pub same : (m : ℕ) → m ≤ before → m < 2 ^ 64 - 1 → got_by m got' ≡ got_by m got
  pub front : (m : ℕ) → m < 2 ^ 64 - 1 → PutsFront (bytes_of (got_by m got)) bytes (bytes_of (got_by m got'))

-- whole: by a moment from the second on all of them
abbrev pub PutsAll : ℕ → List ℕ → Option (List (ℕ × ℕ)) → Option (List (ℕ × ℕ)) → Type 0
PutsAll now bytes got got' = (m : ℕ) → now ≤ m → m < 2 ^ 64 - 1 → bytes_of (got_by m got') ≡ followed (bytes_of (got_by m got)) bytes

-- what was put from a moment to another is stamped above the first, and not above the second
pub record IsStamped (before now : ℕ) (got got' : Option (List (ℕ × ℕ))) : Type 0 where
  pub more : List (ℕ × ℕ)
  pub put : got' ≡ followed got more
  pub stamped : All (λ byte. (next_moment before ≤ byte.1) × (byte.1 ≤ now)) more

-- some bytes were put from a moment to another: all of them, or a front of them where that did not come to its end
pub record Puts (before now : ℕ) (bytes : List ℕ) (got got' : Option (List (ℕ × ℕ))) (result : Result ⊤ Stop) : Type 0 where
  pub late : PutsLate before now bytes got got'
  pub stamped : IsStamped before now got got'
  pub front : PutsFront (bytes_of got) bytes (bytes_of got')
  pub whole : OnOk result (bytes_of got' ≡ followed (bytes_of got) bytes)
  pub all : OnOk result (PutsAll now bytes got got')
