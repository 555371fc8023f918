-- Short histories, computed by the check.
use Rattle.std.proofs.Common.{◌≡◌, ℕ, ◌%◌, ◌<◌, List, [], ◌∷◌, ◌++◌, refl, true, false, arith, slice_index, map}
use Rattle.std.proofs.Math.Nat.{mod-lt}
use Rattle.hs_limits.specs.declared.address.Address.{Address}
use Rattle.hs_deletion.specs.Records.{BlockRecord}
use Rattle.hs_deletion.specs.Machine.{Layout, empty_machine, set_at, sum_below}
use Rattle.hs_deletion.specs.Rounds.{times, pointers_where, addresses_where, raised_in, lowered_in, total_in}
use Rattle.hs_deletion.specs.History.{Effect, history, IsLawful}
use Rattle.hs_deletion.specs.History.Effect.{Stores, Gives, Puts, Drops, Enters, Completes}

-- so many shards by the first byte of an address
abbrev layout_of : (shards : ℕ) → 0 < shards → Layout
layout_of shards some = record { shards = shards; home = λ a. slice_index a.0 0 % shards; within = λ a. mod-lt (slice_index a.0 0) some }

abbrev one : Layout
one = layout_of 1 (omega arith)

abbrev two : Layout
two = layout_of 2 (omega arith)

abbrev address : ℕ → Address
address byte = record { 0 = byte ∷ [] }

-- the blocks that are left
abbrev left : Layout → List Effect → List BlockRecord
left layout effects = (history layout effects empty_machine).blocks

-- a block of one shard that nothing keeps is found in the second run after it was written, and removed
abbrev first_run : List Effect
first_run = Stores (address 0) [] ∷ Enters 0 ∷ Completes 0 ∷ Completes 0 ∷ []

abbrev second_run : List Effect
second_run = first_run ++ Enters 0 ∷ Completes 0 ∷ []

survives_the_first_run : left one first_run ≡ record { address = address 0; pointers = []; born = 1; mark = 1; counted = true; zero = false; count = 0 } ∷ []
unfolding set_at sum_below times pointers_where addresses_where raised_in lowered_in total_in
survives_the_first_run = refl

found_in_the_second : left one second_run ≡ record { address = address 0; pointers = []; born = 1; mark = 1; counted = true; zero = true; count = 0 } ∷ []
unfolding set_at sum_below times pointers_where addresses_where raised_in lowered_in total_in
found_in_the_second = refl

removed_in_the_second : left one (second_run ++ Completes 0 ∷ Completes 0 ∷ []) ≡ []
unfolding set_at sum_below times pointers_where addresses_where raised_in lowered_in total_in
removed_in_the_second = refl

-- and this history is lawful
only : (P : ℕ → Type 0) → P 0 → (shard : ℕ) → shard < 1 → P shard
only P p shard l = let e : shard ≡ 0 = omega (arith, l) in rw e p

removal_is_lawful : IsLawful one (second_run ++ Completes 0 ∷ Completes 0 ∷ []) empty_machine
unfolding set_at sum_below times pointers_where addresses_where raised_in lowered_in total_in
removal_is_lawful = (
  record { absent = λ p. elim p.stands [ ]; backed = λ p k. elim k [ ] },
  (
    record { within = omega arith; is_swept = refl; lowest = only _ (omega arith) },
    (
      record { within = omega arith; sent = only _ (omega arith) },
      (
        record { within = omega arith; sent = only _ (omega arith) },
        (
          record { within = omega arith; is_swept = refl; lowest = only _ (omega arith) },
          (
            record { within = omega arith; sent = only _ (omega arith) },
            (
              record { within = omega arith; sent = only _ (omega arith) },
              (
                record { within = omega arith; sent = only _ (omega arith) },
                tt,
              ),
            ),
          ),
        ),
      ),
    ),
  ),
)

-- where a write gives it in that run it is spared
spared_in_the_second : left one (second_run ++ Gives (address 0) ∷ Completes 0 ∷ Completes 0 ∷ []) ≡ record { address = address 0; pointers = []; born = 1; mark = 3; counted = false; zero = false; count = 0 } ∷ []
unfolding set_at sum_below times pointers_where addresses_where raised_in lowered_in total_in
spared_in_the_second = refl

-- a root that was dropped in epoch 1 keeps its block in the run of epoch 2, and is released in the run of epoch 3
abbrev dropped_root : List Effect
dropped_root = Stores (address 0) [] ∷ Puts 0 [] (address 0 ∷ []) ∷ Drops 0 [] ∷ Enters 0 ∷ Completes 0 ∷ Completes 0 ∷ []

kept_by_a_dropped_root : left one dropped_root ≡ record { address = address 0; pointers = []; born = 1; mark = 1; counted = true; zero = false; count = 1 } ∷ []
unfolding set_at sum_below times pointers_where addresses_where raised_in lowered_in total_in
kept_by_a_dropped_root = refl

removed_once_it_is_released : left one (dropped_root ++ Enters 0 ∷ Completes 0 ∷ Completes 0 ∷ Completes 0 ∷ Completes 0 ∷ []) ≡ []
unfolding set_at sum_below times pointers_where addresses_where raised_in lowered_in total_in
removed_once_it_is_released = refl

-- two shards: a block of shard 1 points to one of shard 0; the first is found in round 1, the second in the round after it
abbrev pointing : List Effect
pointing = Stores (address 0) [] ∷ Stores (address 1) (address 0 ∷ []) ∷ Enters 0 ∷ Enters 1 ∷ Completes 0 ∷ Completes 1 ∷ Completes 1 ∷ Completes 0 ∷ []

counted_across : map (λ (b : BlockRecord). b.count) (left two pointing) ≡ 0 ∷ 1 ∷ []
unfolding set_at sum_below times pointers_where addresses_where raised_in lowered_in total_in
counted_across = refl

found_across : map (λ (b : BlockRecord). b.zero) (left two (pointing ++ Enters 0 ∷ Enters 1 ∷ Completes 0 ∷ Completes 1 ∷ [])) ≡ true ∷ false ∷ []
unfolding set_at sum_below times pointers_where addresses_where raised_in lowered_in total_in
found_across = refl

both_removed : left two (pointing ++ Enters 0 ∷ Enters 1 ∷ Completes 0 ∷ Completes 1 ∷ Completes 0 ∷ Completes 1 ∷ Completes 0 ∷ Completes 1 ∷ Completes 0 ∷ Completes 1 ∷ []) ≡ []
unfolding set_at sum_below times pointers_where addresses_where raised_in lowered_in total_in
both_removed = refl
