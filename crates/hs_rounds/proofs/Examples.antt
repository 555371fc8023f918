-- What the definitions give along the worked examples: of each shard's rounds, those that it opens, gets and sends.
use Rattle.std.proofs.Common.{◌≡◌, ℕ, Bool, true, false, List, [], ◌∷◌, map, replicate, Option, Some, None, refl}
use Rattle.hs_limits.specs.declared.address.Address.{Address}
use Rattle.hs_limits.specs.declared.delta.Delta.{Delta}
use Rattle.hs_rounds.specs.declared.body.RoundBody.{RoundBody}
use Rattle.hs_rounds.specs.declared.place.Place.{Place}
use Rattle.hs_rounds.specs.Rounds.{Run, body, complete, empty_run, enter, finish, go_on, got, is_last, outgoing, received, sent_back}

abbrev a : ℕ → Address
a byte = record { 0 = replicate 32 byte }

abbrev by : ℕ → ℕ → Delta
by byte amount = record { address = a byte; amount = amount }

abbrev tells : ℕ → List Delta → RoundBody
tells total deltas = record { total = total; deltas = deltas }

abbrev of : ℕ → ℕ → ℕ → Place
of from epoch round = record { epoch = epoch; round = round; from = from }

infixl 3 ◌▸◌
-- a run, and then one call more
abbrev ◌▸◌ : Run → (Run → Run) → Run
run ▸ call = call run

-- what a caller asks before it goes on: the open round, whether it is complete, whether it is the last
record Seen : Type 0 where
  pub opened : Option (ℕ × ℕ)
  pub complete : Bool
  pub last : Bool

abbrev seen : Run → Seen
seen run = record { opened = run.opened; complete = complete run; last = is_last run }

-- ---- one shard: delete, its message lost, sent again, and repeated

abbrev one : Run
one = empty_run (record { shards = 1; copies = 1 }) 0

abbrev entered : Run
entered = one ▸ enter 2 []

nothing_came : seen entered ≡ record { opened = Some (2, 0); complete = false; last = false }
nothing_came = refl

-- what was sent is kept, so that it can be sent again
sent_again : outgoing 2 0 0 entered ≡ Some (tells 0 [])
sent_again = refl

-- round 0 is complete, and never the last
round_0_came : seen (entered ▸ got (of 0 2 0) (tells 0 [])) ≡ record { opened = Some (2, 0); complete = true; last = false }
round_0_came = refl

-- the repeated message changes nothing, before the round ends and behind it
abbrev round_1 : Run
round_1 = entered ▸ got (of 0 2 0) (tells 0 []) ▸ go_on 0 []

repeated : ((entered ▸ got (of 0 2 0) (tells 0 []) ▸ got (of 0 2 0) (tells 3 (by 6 1 ∷ []))) ≡ (entered ▸ got (of 0 2 0) (tells 0 [])))
    × ((round_1 ▸ got (of 0 2 0) (tells 0 [])) ≡ round_1)
repeated = (refl, refl)

-- round 1 with a total of 0 is the last; then no run is open
last_round : seen (round_1 ▸ got (of 0 2 1) (tells 0 [])) ≡ record { opened = Some (2, 1); complete = true; last = true }
last_round = refl

abbrev finished : Run
finished = round_1 ▸ got (of 0 2 1) (tells 0 []) ▸ finish

run_is_over : seen finished ≡ record { opened = None; complete = false; last = false }
run_is_over = refl

nothing_is_left : finished.gots ≡ []
nothing_is_left = refl

-- the last two rounds that were sent, and no third
two_are_kept : map (λ back. sent_back back finished) (0 ∷ 1 ∷ 2 ∷ []) ≡ Some (2, 1) ∷ Some (2, 0) ∷ None ∷ []
two_are_kept = refl

next_run : map (λ back. sent_back back (finished ▸ enter 3 [])) (0 ∷ 1 ∷ 2 ∷ []) ≡ Some (3, 0) ∷ Some (2, 1) ∷ None ∷ []
next_run = refl

-- ---- one shard: a parent 7 that points to a child 6; the first run counts them, the second finds both

abbrev counted : Run
counted = one ▸ enter 2 (by 6 1 ∷ []) ▸ got (of 0 2 0) (tells 0 (by 6 1 ∷ []))

increments : received counted ≡ by 6 1 ∷ []
increments = refl

-- the second run: round 1 tells of the parent, round 2 of the child, round 3 of none
abbrev parent : Run
parent = counted ▸ go_on 0 [] ▸ got (of 0 2 1) (tells 0 []) ▸ finish ▸ enter 3 [] ▸ got (of 0 3 0) (tells 0 []) ▸ go_on 1 (by 6 1 ∷ [])

told_of_parent : outgoing 3 1 0 parent ≡ Some (tells 1 (by 6 1 ∷ []))
told_of_parent = refl

abbrev parent_came : Run
parent_came = parent ▸ got (of 0 3 1) (tells 1 (by 6 1 ∷ []))

not_the_last : seen parent_came ≡ record { opened = Some (3, 1); complete = true; last = false }
not_the_last = refl

abbrev child : Run
child = parent_came ▸ go_on 1 [] ▸ got (of 0 3 2) (tells 1 [])

child_came : seen child ≡ record { opened = Some (3, 2); complete = true; last = false }
child_came = refl

none_left : seen (child ▸ go_on 0 [] ▸ got (of 0 3 3) (tells 0 [])) ≡ record { opened = Some (3, 3); complete = true; last = true }
none_left = refl

-- ---- two shards in different epochs: shard 1 has the round 0 of epoch 3 while its round 1 of epoch 2 is open

abbrev two : ℕ → Run
two shard = empty_run (record { shards = 2; copies = 1 }) shard

-- shard 0's round 0 comes before shard 1 enters, and waits
abbrev waiting : Run
waiting = two 1 ▸ got (of 0 2 0) (tells 0 (by 3 2 ∷ []))

waits : body 0 2 0 waiting ≡ Some (tells 0 (by 3 2 ∷ []))
waits = refl

-- of what goes out each shard is told of its own blocks
abbrev enters : Run
enters = waiting ▸ enter 2 (by 2 1 ∷ by 3 1 ∷ by 4 2 ∷ [])

own_blocks : (outgoing 2 0 0 enters ≡ Some (tells 0 (by 2 1 ∷ by 4 2 ∷ []))) × (outgoing 2 0 1 enters ≡ Some (tells 0 (by 3 1 ∷ [])))
own_blocks = (refl, refl)

-- what waited is of the open round; it is complete when both have come, whoever was first
half : (seen enters ≡ record { opened = Some (2, 0); complete = false; last = false }) × (received enters ≡ by 3 2 ∷ [])
half = (refl, refl)

abbrev both : Run
both = enters ▸ got (of 1 2 0) (tells 0 (by 3 1 ∷ []))

both_came : (seen both ≡ record { opened = Some (2, 0); complete = true; last = false }) × (received both ≡ by 3 2 ∷ by 3 1 ∷ [])
both_came = (refl, refl)

either_order : received (two 1 ▸ enter 2 [] ▸ got (of 1 2 0) (tells 0 (by 3 1 ∷ [])) ▸ got (of 0 2 0) (tells 0 (by 3 2 ∷ []))) ≡ by 3 2 ∷ by 3 1 ∷ []
either_order = refl

-- round 1 is open, shard 0 has swept and entered epoch 3: its round 0 waits, and is no part of the open round
abbrev ahead : Run
ahead = both ▸ go_on 0 [] ▸ got (of 0 2 1) (tells 0 []) ▸ got (of 0 3 0) (tells 0 (by 5 1 ∷ []))

ahead_waits : (body 0 3 0 ahead ≡ Some (tells 0 (by 5 1 ∷ []))) × (received ahead ≡ [])
ahead_waits = (refl, refl)

-- not before the last total of 0 is the round the last
last_of_two : (seen ahead ≡ record { opened = Some (2, 1); complete = false; last = false })
    × (seen (ahead ▸ got (of 1 2 1) (tells 0 [])) ≡ record { opened = Some (2, 1); complete = true; last = true })
last_of_two = (refl, refl)

one_total_is_more : seen (ahead ▸ got (of 1 2 1) (tells 1 [])) ≡ record { opened = Some (2, 1); complete = true; last = false }
one_total_is_more = refl

-- the end of the run forgets it, and what waits is there for the next
follows : received (ahead ▸ got (of 1 2 1) (tells 0 []) ▸ finish ▸ enter 3 []) ≡ by 5 1 ∷ []
follows = refl

-- a Got of an earlier epoch or round, or of no shard, changes nothing
nothing_else : ((both ▸ got (of 0 1 9) (tells 0 [])) ≡ both) × ((both ▸ go_on 0 [] ▸ got (of 0 2 0) (tells 0 [])) ≡ (both ▸ go_on 0 [])) × ((both ▸ got (of 2 2 0) (tells 0 [])) ≡ both)
nothing_else = (refl, refl, refl)

-- a run that is open is given up by the next
given_up : (seen (ahead ▸ enter 3 []) ≡ record { opened = Some (3, 0); complete = false; last = false }) × (body 0 2 1 (ahead ▸ enter 3 []) ≡ None)
given_up = (refl, refl)

-- ---- an undeleted block: the run of epoch 3 found parent and child, a write gave both, and the run of epoch 5 finds them anew

abbrev undeleted : Run
undeleted = child ▸ go_on 0 [] ▸ got (of 0 3 3) (tells 0 []) ▸ finish ▸ enter 4 (by 6 1 ∷ []) ▸ got (of 0 4 0) (tells 0 (by 6 1 ∷ [])) ▸ go_on 0 [] ▸ got (of 0 4 1) (tells 0 []) ▸ finish

counted_again : outgoing 5 1 0 (undeleted ▸ enter 5 [] ▸ got (of 0 5 0) (tells 0 []) ▸ go_on 1 (by 6 1 ∷ [])) ≡ Some (tells 1 (by 6 1 ∷ []))
counted_again = refl
