-- What the line of a verb says.
use Rattle.std.proofs.Common.{◌≡◌, true, List, ℕ, None, refl, bytes_eq, codes}
use Rattle.std.proofs.lemmas.Slice.Eq.{bytes_eq-Decides}
use Rattle.hs_model.specs.declared.command.Command.TheVariants as command
use Rattle.hs_model.specs.declared.op.Op.TheVariants as op
use Rattle.hs_script.specs.Parts.{name_of, handles_of, payload_of}
use Rattle.hs_script.specs.Reading.{says_by, leading, line_of}

-- the line of a write, where the verb passes the test
pub write_line : (verb : List ℕ) (words : List (List ℕ)) → bytes_eq verb (codes "write") ≡ true → line_of verb words ≡ says_by (λ p. command.Client (op.Write p.0 p.1.0 p.1.1 None)) (leading name_of (leading payload_of handles_of) words)
unfolding line_of
write_line verb words is = rw ((bytes_eq-Decides verb (codes "write")).0 is) refl
