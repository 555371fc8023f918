use Rattle.hs_loaded.proofs.LeavingLemmas.{leaves_reached}
use Rattle.hs_loaded.proofs.leaving.two_deletions_leave_what_roots_reach.Goals as goal

pub returns : goal.returns
returns c = λ limits s epoch before entries upto deeds quiet twice a stored at. leaves_reached limits s epoch before entries upto deeds quiet twice a stored at
