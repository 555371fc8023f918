-- Summaries of loads, computed.
use Rattle.std.proofs.Common.{◌≡◌, [], ◌∷◌, refl}
use Rattle.std.specs.Prelude.{codes}
use Rattle.std.specs.Fmt.{digits}
use Rattle.hs_script.specs.Summary.{summary_text}

two_writers : summary_text (record { files = 4; kept = 3 } ∷ record { files = 20; kept = 15 } ∷ []) 18 462 ≡ codes "writer 0 files 4 kept 3\nwriter 1 files 20 kept 15\nroots 18\nblocks 462\n"
unfolding digits
two_writers = refl

no_writer : summary_text [] 0 0 ≡ codes "roots 0\nblocks 0\n"
unfolding digits
no_writer = refl
