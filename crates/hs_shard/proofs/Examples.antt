-- What the definitions give along worked examples: the effects of a shard's entries, and the catalogue that they leave.
use Rattle.std.proofs.Common.{◌≡◌, ℕ, ◌+◌, ◌++◌, true, false, List, [], ◌∷◌, length, replicate, Option, Some, None, refl}
use Rattle.hs_desk.specs.declared.what.What.{What}
use Rattle.hs_desk.specs.declared.what.What.TheVariants as what
use Rattle.hs_entry.specs.declared.entry.Entry.{Entry}
use Rattle.hs_entry.specs.declared.entry.Entry.TheVariants as kind
use Rattle.hs_limits.specs.declared.address.Address.{Address}
use Rattle.hs_limits.specs.declared.delta.Delta.{Delta}
use Rattle.hs_limits.specs.Block.{spell}
use Rattle.hs_limits.specs.Reading.{addresses, block_at, read_block}
use Rattle.hs_model.specs.declared.store.StoredBlock.{StoredBlock}
use Rattle.hs_model.specs.Store.{Root, Store}
use Rattle.hs_shard.specs.declared.effect.Effect.{Effect}
use Rattle.hs_shard.specs.declared.effect.Sent.{Sent}
use Rattle.hs_shard.specs.declared.facts.Facts.{Facts}
use Rattle.hs_shard.specs.Apply.{apply}
use Rattle.hs_shard.specs.Facts.{Catalogue, empty_catalogue, pointers_at}
use Rattle.hs_shard.specs.Plain.{add_shard}

abbrev a : ℕ → Address
a byte = record { 0 = replicate 32 byte }

abbrev by : ℕ → ℕ → Delta
by byte amount = record { address = a byte; amount = amount }

-- an entry with its number, and for a Block its address
abbrev Step : Type 0
Step = ℕ × Entry × Option Address

abbrev after : Catalogue → List Step → Catalogue
after c [] = c
after c (s ∷ steps) = after (apply s.0 s.1 s.2 c).catalogue steps

abbrev effects : Catalogue → List Step → List Effect
effects c [] = []
effects c (s ∷ steps) = (apply s.0 s.1 s.2 c).effect ∷ effects (apply s.0 s.1 s.2 c).catalogue steps

abbrev block : ℕ → ℕ → ℕ → List Address → Step
block number least byte pointers = (number, kind.Block 1 least (spell (record { pointers = pointers; bytes = byte ∷ [] })), Some (a byte))

abbrev mark : ℕ → ℕ → ℕ → ℕ → Step
mark number least stored byte = (number, kind.Mark 1 least stored (a byte), None)

abbrev enter : ℕ → ℕ → Step
enter number epoch = (number, kind.Enter 1 epoch, None)

abbrev got : ℕ → ℕ → ℕ → ℕ → ℕ → List Delta → Step
got number sender epoch round total deltas = (number, kind.Got sender epoch round total deltas, None)

-- an effect with no message, and with one for shard 0
abbrev does : What → Effect
does what = record { what = what; sends = []; removed = None }

abbrev tells : What → ℕ → ℕ → ℕ → List Delta → Effect
tells what epoch round total deltas =
    record { what = what; sends = record { to = 0; epoch = epoch; round = round; body = record { total = total; deltas = deltas } } ∷ []; removed = None }

abbrev sweeps : ℕ → Effect
sweeps removed = record { what = what.Nothing; sends = []; removed = Some removed }

-- ---- one shard: a child and a parent become zero blocks, are written again before the sweep, and go two runs later

abbrev one : Catalogue
one = empty_catalogue (record { shards = 1; copies = 1 }) 0

abbrev written : List Step
written = (1, kind.View 1, None) ∷ block 2 281474976710655 6 [] ∷ block 3 1 7 (a 6 ∷ []) ∷ []

abbrev second_epoch : List Step
second_epoch = enter 4 2 ∷ got 5 0 2 0 0 (by 6 1 ∷ []) ∷ got 6 0 2 1 0 [] ∷ []

abbrev third_epoch : List Step
third_epoch = enter 7 3 ∷ got 8 0 3 0 0 [] ∷ got 9 0 3 1 1 (by 6 1 ∷ []) ∷ mark 10 281474976710655 2 6 ∷ mark 11 3 3 7 ∷ got 12 0 3 2 1 [] ∷ got 13 0 3 3 0 [] ∷ []

abbrev later_epochs : List Step
later_epochs =
    enter 14 4 ∷ got 15 0 4 0 0 (by 6 1 ∷ []) ∷ got 16 0 4 1 0 [] ∷ enter 17 5 ∷ got 18 0 5 0 0 [] ∷ got 19 0 5 1 1 (by 6 1 ∷ []) ∷ got 20 0 5 2 1 [] ∷ got 21 0 5 3 0 [] ∷ []

written_effects : effects one written ≡ does (what.Viewed 1) ∷ does what.Stored ∷ does what.Stored ∷ []
unfolding read_block block_at addresses
written_effects = refl

second_effects : effects (after one written) second_epoch ≡ tells (what.Entered 2) 2 0 0 (by 6 1 ∷ []) ∷ tells what.Nothing 2 1 0 [] ∷ sweeps 0 ∷ []
unfolding read_block block_at addresses
second_effects = refl

-- both are zero blocks when they are given again
third_effects : effects (after one (written ++ second_epoch)) third_epoch
    ≡ tells (what.Entered 3) 3 0 0 [] ∷ tells what.Nothing 3 1 1 (by 6 1 ∷ []) ∷ tells what.Nothing 3 2 1 []
    ∷ does what.Marked ∷ does what.Marked ∷ tells what.Nothing 3 3 0 [] ∷ sweeps 0 ∷ []
unfolding read_block block_at addresses
third_effects = refl

-- the sweep spares them: they stay, and count no more
abbrev spared : ℕ → List Address → Facts
spared number pointers = record { number = number; born = 1; mark = 3; counted = false; zero = false; count = 0; pointers = pointers }

third_blocks : (after one (written ++ second_epoch ++ third_epoch)).blocks ≡ (a 6, spared 2 []) ∷ (a 7, spared 3 (a 6 ∷ [])) ∷ []
unfolding read_block block_at addresses
third_blocks = refl

later_effects : effects (after one (written ++ second_epoch ++ third_epoch)) later_epochs
    ≡ tells (what.Entered 4) 4 0 0 (by 6 1 ∷ []) ∷ tells what.Nothing 4 1 0 [] ∷ sweeps 0
    ∷ tells (what.Entered 5) 5 0 0 [] ∷ tells what.Nothing 5 1 1 (by 6 1 ∷ []) ∷ tells what.Nothing 5 2 1 [] ∷ tells what.Nothing 5 3 0 [] ∷ sweeps 2 ∷ []
unfolding read_block block_at addresses
later_effects = refl

nothing_is_left : (after one (written ++ second_epoch ++ third_epoch ++ later_epochs)).blocks ≡ []
unfolding read_block block_at addresses
nothing_is_left = refl

-- ---- one shard: a dropped root is kept for one run more, and then forgotten

abbrev key : List ℕ
key = 107 ∷ []

abbrev rooted : List Step
rooted = block 1 281474976710655 6 [] ∷ (2, kind.Root 1 1 (a 6) key, None) ∷ (3, kind.Root 1 1 (a 7) key, None) ∷ enter 4 2 ∷ (5, kind.Drop 1 key, None) ∷ (6, kind.Drop 1 key, None) ∷ []

root_effects : effects one rooted ≡ does what.Stored ∷ does what.Rooted ∷ does what.Refused ∷ tells (what.Entered 2) 2 0 0 (by 6 1 ∷ []) ∷ does what.Dropped ∷ does what.Refused ∷ []
unfolding read_block block_at addresses
root_effects = refl

abbrev run_of : ℕ → ℕ → List Delta → List Step
run_of number epoch raised = got number 0 epoch 0 0 raised ∷ got (number + 1) 0 epoch 1 0 [] ∷ []

abbrev third_run : List Step
third_run = run_of 7 2 (by 6 1 ∷ []) ++ enter 9 3 ∷ run_of 10 3 []

still_kept : length (after one (rooted ++ third_run)).roots ≡ 1
unfolding read_block block_at addresses
still_kept = refl

let_go : effects (after one (rooted ++ third_run)) (enter 12 4 ∷ got 13 0 4 0 0 [] ∷ got 14 0 4 1 1 (by 6 1 ∷ []) ∷ got 15 0 4 2 1 [] ∷ got 16 0 4 3 0 [] ∷ [])
    ≡ tells (what.Entered 4) 4 0 0 [] ∷ tells what.Nothing 4 1 1 (by 6 1 ∷ []) ∷ tells what.Nothing 4 2 1 [] ∷ tells what.Nothing 4 3 0 [] ∷ sweeps 1 ∷ []
unfolding read_block block_at addresses
let_go = refl

-- ---- the second of two shards: what comes before its Enter waits, a round ends when both have told, and what is not its own changes nothing

abbrev two : Catalogue
two = empty_catalogue (record { shards = 2; copies = 1 }) 1

abbrev says : ℕ → ℕ → ℕ → ℕ → List Delta → Sent
says to epoch round total deltas = record { to = to; epoch = epoch; round = round; body = record { total = total; deltas = deltas } }

abbrev both : What → ℕ → ℕ → ℕ → List Delta → List Delta → Effect
both what epoch round total first second = record { what = what; sends = says 0 epoch round total first ∷ says 1 epoch round total second ∷ []; removed = None }

abbrev apart : List Step
apart =
    block 1 281474976710655 6 []
    ∷ block 2 281474976710655 7 (a 6 ∷ a 7 ∷ a 6 ∷ [])
    ∷ got 3 0 2 0 0 (by 7 1 ∷ [])
    ∷ got 4 0 2 0 0 (by 7 5 ∷ [])
    ∷ enter 5 3
    ∷ enter 6 2
    ∷ got 7 1 2 1 0 []
    ∷ got 8 1 2 0 0 (by 7 1 ∷ [])
    ∷ got 9 0 2 1 0 []
    ∷ []

apart_effects : effects two apart
    ≡ does what.Nothing ∷ does what.Stored ∷ does what.Nothing ∷ does what.Nothing ∷ does what.Refused
    ∷ both (what.Entered 2) 2 0 0 (by 6 2 ∷ []) (by 7 1 ∷ []) ∷ does what.Nothing ∷ both what.Nothing 2 1 0 [] [] ∷ sweeps 0 ∷ []
unfolding read_block block_at addresses
apart_effects = refl

abbrev counted_twice : Facts
counted_twice = record { number = 2; born = 1; mark = 1; counted = true; zero = false; count = 2; pointers = a 6 ∷ a 7 ∷ a 6 ∷ [] }

apart_blocks : (after two apart).blocks ≡ (a 7, counted_twice) ∷ []
unfolding read_block block_at addresses
apart_blocks = refl

apart_pointers : pointers_at 2 (after two apart).blocks ≡ Some (a 6 ∷ a 7 ∷ a 6 ∷ [])
unfolding read_block block_at addresses
apart_pointers = refl

-- ---- what a shard has in a plain store: the second of two shards puts its block between those of the first, and a dropped root before a retained one

abbrev plain_block_of : ℕ → List Address → StoredBlock
plain_block_of born pointers = record { pointers = pointers; bytes = []; born = born }

abbrev plain_root_of : ℕ → Option ℕ → Root
plain_root_of byte dropped = record { key = key; address = a byte; dropped = dropped }

abbrev first_shard : Store
first_shard = record {
  blocks = (a 6, plain_block_of 1 []) ∷ (a 8, plain_block_of 3 (a 6 ∷ [])) ∷ [];
  given = (a 6, 4) ∷ (a 8, 3) ∷ [];
  roots = [];
  epochs = 4 ∷ 1 ∷ [];
  swept = 4 ∷ 1 ∷ [];
  sessions = [];
}

abbrev kept_twice : List Step
kept_twice = (10, kind.Root 1 2 (a 7) key, None) ∷ (11, kind.Drop 1 key, None) ∷ (12, kind.Root 1 2 (a 6) key, None) ∷ mark 13 2 2 7 ∷ []

both_in_place : add_shard (after two (apart ++ kept_twice)) first_shard ≡ record {
  blocks = (a 6, plain_block_of 1 []) ∷ (a 7, plain_block_of 1 (a 6 ∷ a 7 ∷ a 6 ∷ [])) ∷ (a 8, plain_block_of 3 (a 6 ∷ [])) ∷ [];
  given = (a 6, 4) ∷ (a 7, 2) ∷ (a 8, 3) ∷ [];
  roots = plain_root_of 7 (Some 2) ∷ plain_root_of 6 None ∷ [];
  epochs = 4 ∷ 2 ∷ [];
  swept = 4 ∷ 2 ∷ [];
  sessions = [];
}
unfolding read_block block_at addresses
both_in_place = refl
