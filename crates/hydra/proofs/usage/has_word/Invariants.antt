-- A word is among these where it is among what is left.
use Rattle.std.proofs.Common.{◌≡◌, bytes_eq, length, map}
use Rattle.std.specs.List.{list_any}
use Rattle.std.specs.Prelude.{string_bytes}
use Rattle.hydra.proofs.usage.has_word.Given as goal

abbrev pub invariant-words : goal.invariant-words
invariant-words l = list_any (λ word. bytes_eq word l.wanted) (map (λ word. string_bytes word) l.words) ≡ list_any (λ word. bytes_eq word l.wanted) (map (λ word. string_bytes word) l.rest)

abbrev pub decreases-words : goal.decreases-words
decreases-words l = length l.rest
