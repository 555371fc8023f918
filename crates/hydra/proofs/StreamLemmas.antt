-- What stands at the end of a list after a piece was appended.
use Rattle.std.proofs.Common.{◌≡◌, List, ℕ, ◌++◌, length, drop, Option, None, Some, refl}
use Rattle.std.specs.Io.KnownBytes.{Keeps}
use Rattle.std.proofs.Math.Seq.{drop-append_seam}

-- behind what was held stands what was appended
pub appended : (held held' piece : List ℕ) → held' ≡ held ++ piece → drop (length held) held' ≡ piece
appended held held' piece more = rw more (drop-append_seam held piece)

-- where nothing was read, what is left stays
pub kept_same : (left : Option (List ℕ)) → Keeps left left
kept_same None = tt
kept_same (Some rest) = refl
