use Rattle.hs_anatomy.proofs.EventLemmas.{does_acts}
use Rattle.hs_anatomy.proofs.SizeLemmas.{sizes_same}
use Rattle.hs_anatomy.proofs.StrokeLemmas.{strokes_of}
use Rattle.hs_anatomy.proofs.sizes.sizes_stay.Goals as goal
use Rattle.hs_core_words.specs.Step.{do_event}

pub returns : goal.returns
returns c = λ core event. sizes_same (do_event event core) (strokes_of (does_acts core event))
