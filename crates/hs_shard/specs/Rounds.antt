-- The rounds of a deletion run at one shard: what becomes counted, what becomes a zero block, and what is swept.
use Rattle.std.specs.Prelude.{ℕ, zero, suc, ◌+◌, ◌-◌, ◌^◌, ◌==◌, ◌&&◌, ◌||◌, ◌++◌, Bool, true, false, not, if◌then◌else◌, List, [], ◌∷◌, length, Option, Some, None, is_none, map, filter, count_by, nat_le, nat_lt}
use Rattle.std.specs.List.{flat_map, range_with_len}
use Rattle.std.specs.Option.{option_map_or}
use Rattle.hs_desk.specs.declared.what.What.TheVariants.{Entered, Nothing, Refused}
use Rattle.hs_shard.specs.Tally.{tally}
use Rattle.hs_limits.specs.declared.address.Address.{Address}
use Rattle.hs_limits.specs.declared.delta.Delta.{Delta}
use Rattle.hs_roots.specs.declared.root.RootRecord.{RootRecord}
use Rattle.hs_roots.specs.Roots.{count_new, is_released, kept_by, release, released_count}
use Rattle.hs_roots.specs.Roots.{is_new as is_new_root}
use Rattle.hs_rounds.specs.declared.body.RoundBody.{RoundBody}
use Rattle.hs_rounds.specs.declared.place.Place.{Place}
use Rattle.hs_rounds.specs.Rounds.{Run, body_at, complete, finish, go_on, got, is_last, outgoing, received}
use Rattle.hs_rounds.specs.Rounds.{enter as enter_run}
use Rattle.hs_shard.specs.declared.effect.Effect.{Effect}
use Rattle.hs_shard.specs.declared.facts.Facts.{Facts}
use Rattle.hs_shard.specs.declared.effect.Sent.{Sent}
use Rattle.hs_shard.specs.Clients.{Applied, change_at, only}
use Rattle.hs_shard.specs.Facts.{BlockList, Catalogue}

-- ---- what is sent

-- what a round tells a shard, as it is sent, and what it tells each of so many
abbrev pub message_to : ℕ → ℕ → Run → ℕ → List Sent
message_to epoch round run to = option_map_or (λ body. record { to = to; epoch = epoch; round = round; body = body } ∷ []) (outgoing epoch round to run) []

abbrev pub messages : ℕ → ℕ → ℕ → Run → List Sent
messages shards epoch round run = flat_map (message_to epoch round run) (range_with_len 0 shards)

-- ---- all blocks at once

-- each block's facts changed by themselves
abbrev pub each_block : (Facts → Facts) → BlockList → BlockList
each_block change blocks = map (λ e. (e.0, change e.1)) blocks

-- the pointers of the blocks that pass a test
abbrev pub pointers_of : (Facts → Bool) → BlockList → List Address
pointers_of test [] = []
pointers_of test (e ∷ es) = (if test e.1 then e.1.pointers else []) ++ pointers_of test es

-- ---- Enter: what is older than the epoch counts, and round 0 raises what it names

abbrev pub is_new : ℕ → Facts → Bool
is_new epoch f = not f.counted && nat_lt f.born epoch

abbrev pub count_block : ℕ → Facts → Facts
count_block epoch f = if is_new epoch f then record f { counted = true } else f

abbrev pub first_deltas : ℕ → Catalogue → List Delta
first_deltas epoch c = tally (pointers_of (is_new epoch) c.blocks ++ kept_by (is_new_root epoch) c.roots)

abbrev pub enter_epoch : ℕ → Catalogue → Catalogue
enter_epoch epoch c = record c {
  blocks = each_block (count_block epoch) c.blocks;
  roots = count_new epoch c.roots;
  epoch = epoch;
  run = enter_run epoch (first_deltas epoch c) c.run;
}

-- ---- the end of a round: its deltas move the counts

-- round 0 raises, the others lower; a delta that would take a count outside 32 bits changes nothing
abbrev pub moved : ℕ → ℕ → ℕ → ℕ
moved round count amount =
    if round == 0 then (if nat_lt (count + amount) (2 ^ 32) then count + amount else count) else (if nat_le amount count then count - amount else count)

abbrev pub move_count : ℕ → ℕ → Facts → Facts
move_count round amount f = record f { count = moved round f.count amount }

-- each delta moves the count of its block; of an absent one nothing
abbrev pub settle : ℕ → List Delta → BlockList → BlockList
settle round [] blocks = blocks
settle round (d ∷ ds) blocks = settle round ds (change_at d.address (move_count round d.amount) blocks)

abbrev pub settled : ℕ → Catalogue → Catalogue
settled round c = record c { blocks = settle round (received c.run) c.blocks }

-- ---- a round that isn't the last: new zero blocks, and the next round

-- counted, no zero block yet, count 0, and given in no epoch of this run or the one before
abbrev pub is_new_zero : ℕ → Facts → Bool
is_new_zero epoch f = f.counted && (not f.zero && (f.count == 0 && nat_le (f.mark + 2) epoch))

abbrev pub find_zero : ℕ → Facts → Facts
find_zero epoch f = if is_new_zero epoch f then record f { zero = true } else f

-- with round 1 go the counted roots that were dropped in the epoch two before, or earlier: what they keep, and the roots that stay
abbrev pub let_go : ℕ → ℕ → List RootRecord → List Address
let_go epoch round roots = if round == 0 then kept_by (is_released epoch) roots else []

abbrev pub still_kept : ℕ → ℕ → List RootRecord → List RootRecord
still_kept epoch round roots = if round == 0 then release epoch roots else roots

-- how many roots go
abbrev pub let_go_count : ℕ → ℕ → List RootRecord → ℕ
let_go_count epoch round roots = if round == 0 then released_count epoch roots else 0

-- how many zero blocks are new, with how many roots go, and what they point to
abbrev pub next_total : ℕ → ℕ → Catalogue → ℕ
next_total epoch round c = count_by (λ e. is_new_zero epoch e.1) c.blocks + let_go_count epoch round c.roots

abbrev pub next_deltas : ℕ → ℕ → Catalogue → List Delta
next_deltas epoch round c = tally (pointers_of (is_new_zero epoch) c.blocks ++ let_go epoch round c.roots)

abbrev pub search : ℕ → ℕ → Catalogue → Catalogue
search epoch round c = record c {
  blocks = each_block (find_zero epoch) c.blocks;
  roots = still_kept epoch round c.roots;
  run = go_on (next_total epoch round c) (next_deltas epoch round c) c.run;
}

-- ---- the last round: the sweep

-- a zero block that no write gave in this epoch
abbrev pub is_gone : ℕ → Facts → Bool
is_gone epoch f = f.zero && nat_lt f.mark epoch

-- one that a write gave counts no more, and is no zero block
abbrev pub spare : Facts → Facts
spare f = if f.zero then record f { counted = false; zero = false } else f

abbrev pub sweep_blocks : ℕ → BlockList → BlockList
sweep_blocks epoch blocks = each_block spare (filter (λ e. not (is_gone epoch e.1)) blocks)

abbrev pub gone_count : ℕ → BlockList → ℕ
gone_count epoch blocks = count_by (λ e. is_gone epoch e.1) blocks

abbrev pub sweep : ℕ → Catalogue → Catalogue
sweep epoch c = record c { blocks = sweep_blocks epoch c.blocks; swept = epoch; run = finish c.run }

-- ---- one round after another

-- a step more: what it sends comes behind what was sent before
abbrev pub searched : ℕ → ℕ → Effect → Catalogue → Applied
searched epoch round before c = record {
  catalogue = search epoch round c;
  effect = record before { sends = before.sends ++ messages c.shape.shards epoch (round + 1) (search epoch round c).run };
}

abbrev pub swept : ℕ → Effect → Catalogue → Applied
swept epoch before c = record {
  catalogue = sweep epoch c;
  effect = record before { removed = Some (gone_count epoch c.blocks) };
}

-- the end of the open round of this epoch and number
abbrev pub end_round : ℕ → ℕ → Applied → Applied
end_round epoch round a =
    if is_last a.catalogue.run then swept epoch a.effect (settled round a.catalogue) else searched epoch round a.effect (settled round a.catalogue)

abbrev pub end_open : Option (ℕ × ℕ) → Applied → Applied
end_open None a = a
end_open (Some at) a = end_round at.0 at.1 a

-- rounds end while the open one is complete: on sound lists one at most, and no more than there are Gots
abbrev pub advance : ℕ → Applied → Applied
advance zero a = a
advance (suc turns) a = if complete a.catalogue.run then advance turns (end_open a.catalogue.run.opened a) else a

abbrev pub advanced : Applied → Applied
advanced a = advance (length a.catalogue.run.gots + 1) a

-- ---- the entries

-- an Enter is for the next epoch, once the shard's is swept
abbrev pub may_enter : ℕ → Catalogue → Bool
may_enter epoch c = epoch == c.epoch + 1 && c.swept == c.epoch

abbrev pub entered : ℕ → Catalogue → Applied
entered epoch c = record {
  catalogue = enter_epoch epoch c;
  effect = record { what = Entered epoch; sends = messages c.shape.shards epoch 0 (enter_epoch epoch c).run; removed = None };
}

-- it ends what came for its round 0 before, too
abbrev pub enter : ℕ → Catalogue → Applied
enter epoch c = if may_enter epoch c then advanced (entered epoch c) else only Refused c

-- a round may come where it is the open one or the next one of the run, or the first of the run after the epoch
abbrev pub is_of_run : Place → Run → Bool
is_of_run place run = option_map_or (λ at. place.epoch == at.0 && (place.round == at.1 || place.round == at.1 + 1)) run.opened false

abbrev pub is_due : Place → Catalogue → Bool
is_due place c = is_of_run place c.run || place.epoch == c.epoch + 1 && place.round == 0

-- a Got is taken where its sender is there, its round may come, and it did not come before
abbrev pub is_accepted : Place → Catalogue → Bool
is_accepted place c = nat_lt place.from c.shape.shards && (is_none (body_at place c.run.gots) && is_due place c)

abbrev pub log_got : Place → RoundBody → Catalogue → Catalogue
log_got place told c = record c { run = got place told c.run }

-- and ends what it completes
abbrev pub get_round : Place → RoundBody → Catalogue → Applied
get_round place told c = if is_accepted place c then advanced (only Nothing (log_got place told c)) else only Nothing c
