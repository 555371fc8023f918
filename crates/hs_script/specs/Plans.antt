-- What the files of a load are made of.
use Rattle.std.specs.Prelude.{ℕ, zero, suc, ◌+◌, ◌*◌, ◌^◌, ◌%◌, List, [], ◌∷◌, map, bit_xor}
use Rattle.rand_core.specs.Stream.{Stream, next_u64}
use Rattle.rand_core.specs.Steps.{stream_of, steps_u64_high}
use Rattle.rand_xoshiro.specs.SplitMix64.{splitmix_seed}
use Rattle.rand_xoshiro.specs.Xoshiro256.{of_seed, plus_plus}
use Rattle.hs_script.specs.declared.plan.FilePlan.{FilePlan}

-- the stream of Xoshiro256++ that a number seeds
abbrev pub drawn_from : ℕ → Stream
drawn_from seed = stream_of (steps_u64_high plus_plus) (of_seed (splitmix_seed 32 seed))

-- the next words of a stream
abbrev pub drawn_words : ℕ → Stream → List ℕ
drawn_words zero s = []
drawn_words (suc n) s = (next_u64 s).0 ∷ drawn_words n (next_u64 s).1

-- the first word gives how many leaves there are, 3 to 12, and each of the next ones a leaf below 4,096
abbrev pub leaves_of : Stream → List ℕ
leaves_of s = map (λ word. word % 4096) (drawn_words (3 + (next_u64 s).0 % 10) (next_u64 s).1)

-- the writer's number above that of the file, which has 32 bits
abbrev pub tag_of : ℕ → ℕ → ℕ
tag_of writer file = writer * 2 ^ 32 + file

-- the plan of a writer's file in the load of a seed
abbrev pub plan_of : ℕ → ℕ → ℕ → FilePlan
plan_of seed writer file = record { leaves = leaves_of (drawn_from (bit_xor seed (tag_of writer file))); tag = tag_of writer file }
