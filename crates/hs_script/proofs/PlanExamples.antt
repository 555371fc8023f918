-- Plans of files, computed. The numbers are those of the generator in Rust.
use Rattle.std.proofs.Common.{◌≡◌, [], ◌∷◌, refl}
use Rattle.rand_core.specs.Stream.{fill_bytes, next_u64}
use Rattle.rand_core.specs.Steps.{stream_of, u32_at, word_bytes}
use Rattle.hs_script.specs.Plans.{plan_of}

-- what an example computes with
unfoldable computing : Unit {0}
unfolding fill_bytes next_u64 stream_of word_bytes u32_at
computing = tt

the_first_file_of_seed_seven : plan_of 7 0 0 ≡ record { leaves = 3604 ∷ 2162 ∷ 316 ∷ 886 ∷ []; tag = 0 }
unfolding computing
the_first_file_of_seed_seven = refl

the_first_file_of_seed_one : plan_of 1 0 0 ≡ record { leaves = 141 ∷ 1312 ∷ 1750 ∷ 4004 ∷ 837 ∷ 1287 ∷ 545 ∷ 3024 ∷ 3094 ∷ 1609 ∷ []; tag = 0 }
unfolding computing
the_first_file_of_seed_one = refl
