use Rattle.hs_copies.proofs.ImageLemmas.{good_front, one_entry}
use Rattle.hs_copies.proofs.stop.entries_of_one_stamp_are_equal.Goals as goal

pub returns : goal.returns
returns c = record { entries = λ s p q n l k x y r f g a b e. one_entry s r p q n l k x y f g a b e; front = λ s p l r g f. good_front s r p l g f }
