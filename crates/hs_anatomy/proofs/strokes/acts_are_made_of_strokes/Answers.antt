use Rattle.hs_anatomy.proofs.StrokeLemmas.{strokes_of}
use Rattle.hs_anatomy.proofs.strokes.acts_are_made_of_strokes.Goals as goal

pub returns : goal.returns
returns c = λ begun event core xs. strokes_of xs
