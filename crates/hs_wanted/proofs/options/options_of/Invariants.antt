-- What is left and the options so far come to what all words and none do.
use Rattle.std.proofs.Common.{◌≡◌, [], Some, length, map}
use Rattle.std.specs.Prelude.{string_bytes}
use Rattle.hs_script.specs.CommandLine.{options_of, with_options}
use Rattle.hs_wanted.specs.Asked.{IsOptions}
use Rattle.hs_wanted.proofs.options.options_of.Given as goal

abbrev pub invariant-options : goal.invariant-options
invariant-options l = IsOptions l.options × (options_of l.which (map (λ word. string_bytes word) l.words) ≡ with_options l.which [] (map (λ word. string_bytes word) l.rest) (Some l.options))

abbrev pub decreases-options : goal.decreases-options
decreases-options l = length l.rest
