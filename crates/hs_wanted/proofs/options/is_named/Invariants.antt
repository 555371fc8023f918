-- An option of the name is among the words where it is among what is left.
use Rattle.std.proofs.Common.{◌≡◌, length, map}
use Rattle.std.specs.Prelude.{string_bytes}
use Rattle.hs_wanted.specs.Asked.{is_named}
use Rattle.hs_wanted.proofs.options.is_named.Given as goal

abbrev pub invariant-words : goal.invariant-words
invariant-words l = is_named l.name (map (λ word. string_bytes word) l.words) ≡ is_named l.name (map (λ word. string_bytes word) l.rest)

abbrev pub decreases-words : goal.decreases-words
decreases-words l = length l.rest
