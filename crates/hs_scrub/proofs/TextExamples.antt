-- Texts of scrubs, computed.
use Rattle.std.proofs.Common.{◌≡◌, [], ◌∷◌, refl}
use Rattle.std.specs.Prelude.{codes}
use Rattle.std.specs.Fmt.{digits}
use Rattle.hs_scrub.specs.declared.mark.PeerMark.TheVariants.{Same, Behind, Differs, NoLog, Fault}
use Rattle.hs_scrub.specs.Text.{scrub_text}

-- example/scrub-differs: both lists are the same
two_copies : scrub_text 2 (2 ∷ []) (Same ∷ Same ∷ []) ≡ codes "peer 0 same 2\npeer 1 same 2\nscrub ok\n"
unfolding digits
two_copies = refl

-- a byte of peer 1's block is another
differs : scrub_text 2 (2 ∷ []) (Same ∷ Differs 2 ∷ []) ≡ codes "peer 0 same 2\npeer 1 differs 2\nscrub bad 1\n"
unfolding digits
differs = refl

-- example/scrub-nolog: byte 1 of disk 0 is another
no_log : scrub_text 2 (2 ∷ []) (NoLog 1 ∷ Same ∷ []) ≡ codes "peer 0 nolog 1\npeer 1 same 2\nscrub bad 1\n"
unfolding digits
no_log = refl

-- two shards of two copies, of which the second has no log
two_shards : scrub_text 2 (12 ∷ 0 ∷ []) (Behind 3 ∷ Same ∷ Fault ∷ NoLog 17 ∷ []) ≡ codes "peer 0 behind 3 12\npeer 1 same 12\npeer 2 fault\npeer 3 nolog 17\nscrub bad 3\n"
unfolding digits
two_shards = refl
