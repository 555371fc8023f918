-- Epochs, and how long what was given may be used.
use Rattle.std.specs.Prelude.{ℕ, ◌+◌, ◌≤◌}

-- what was given in epoch held may be used where the epoch is now: in its own epoch, and in the one after
abbrev pub IsFresh : ℕ → ℕ → Type 0
IsFresh held now = now ≤ held + 1
