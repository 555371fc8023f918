use Rattle.hs_tails.proofs.ImageLemmas.{all_greatest, images_reopen, left, peers}
use Rattle.hs_tails.proofs.run.images_of_copies_reopen.Goals as goal

pub returns : goal.returns
returns c = λ start stop journal images count at good.
    images_reopen start stop journal count at images good
    (c.the_lists_of_greatest_rank_reopen.ensures.stops start stop at.core (left start stop journal count at images good) (peers start stop journal count at images good) at.tells.sane.may (all_greatest start stop journal count at images good))
