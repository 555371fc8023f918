-- Scripts run on the core, over disks that never fail: what the worked examples are computed by.
use Rattle.std.specs.List.{list_any, range_with_len}
use Rattle.std.specs.Option.{option_map, option_map_or, option_or}
use Rattle.std.specs.Prelude.{◌≡◌, ℕ, zero, suc, ◌*◌, ◌+◌, ◌-◌, ◌==◌, ◌&&◌, ◌||◌, ◌++◌, Bool, true, false, not, if◌then◌else◌, List, [], ◌∷◌, drop, filter_map, find, length, map, nat_le, nat_lt, Option, Some, None, is_none, is_some, replicate, slice_get, take}
use Rattle.hs_core_words.specs.declared.event.Event.{Event}
use Rattle.hs_core_words.specs.declared.event.Event.TheVariants as event
use Rattle.hs_core_words.specs.Asking.{no_peer, not_up}
use Rattle.hs_core_words.specs.Looking.{first_job, group_of, home, known_of, oldest_message, open_work, sealed_of, shape_of, status_of}
use Rattle.hs_core_words.specs.Opening.{Taken, open_core}
use Rattle.hs_core_words.specs.State.{Core}
use Rattle.hs_core_words.specs.Step.{step}
use Rattle.hs_desk.specs.declared.done.Done.{Done}
use Rattle.hs_desk.specs.declared.done.Done.TheVariants as done
use Rattle.hs_desk.specs.declared.job.Job.{Job}
use Rattle.hs_desk.specs.declared.job.Job.TheVariants as job
use Rattle.hs_desk.specs.declared.fault.CoreFault.{CoreFault}
use Rattle.hs_entry.specs.declared.entry.Entry.{Entry}
use Rattle.hs_entry.specs.declared.entry.Entry.TheVariants as kind
use Rattle.hs_journal.specs.declared.entry.JournalEntry.{JournalEntry}
use Rattle.hs_journal.specs.declared.entry.Who.{Who}
use Rattle.hs_limits.specs.declared.address.Address.{Address}
use Rattle.hs_limits.specs.declared.limits.Limits.{Limits}
use Rattle.hs_limits.specs.declared.shape.Shape.{Shape}
use Rattle.hs_limits.specs.Block.{spell}
use Rattle.hs_limits.specs.declared.spelling.TheConstants.{MOST_POINTERS, MOST_BYTES}
use Rattle.hs_members.specs.Members.{all_peers, is_good_status}
use Rattle.hs_model.specs.declared.command.Command.{Command}
use Rattle.hs_model.specs.declared.command.Command.TheVariants as command
use Rattle.hs_model.specs.declared.op.Op.{Op}
use Rattle.hs_model.specs.declared.op.Op.TheVariants as op
use Rattle.hs_model.specs.declared.reply.Reply.{Reply}
use Rattle.hs_model.specs.Refusals.{first}
use Rattle.hs_ops.specs.Speaking.{asked_block}
use Rattle.hs_replica.specs.Group.{length_of}
use Rattle.hs_shard.specs.Facts.{empty_catalogue}
use Rattle.hs_tokens.specs.Seats.{Seats, held_at, seat_of}

-- ---- disks

-- the blocks that were appended: shard, number of the entry, spelling
abbrev pub Appended : Type 0
Appended = List (ℕ × ℕ × List ℕ)

pub record World : Type 0 where
  pub core : Core
  pub kept : Appended

abbrev pub kept_with : ℕ → Job → Appended → Appended
kept_with shard (job.Append number (kind.Block line least bytes)) kept = (shard, number, bytes) ∷ kept
kept_with shard other kept = kept

abbrev pub read_block_of : ℕ → ℕ → Appended → Done
read_block_of shard number kept =
    option_map_or (λ e. done.Bytes number e.2) (find (λ e. e.0 == shard && e.1 == number) kept) (done.Gone number)

-- a job succeeds
abbrev pub report_of : ℕ → Appended → Job → Done
report_of shard kept (job.Append number entry) = done.Stored number
report_of shard kept (job.Seal number) = done.Sealed number
report_of shard kept (job.Read number) = read_block_of shard number kept
report_of shard kept job.Reset = done.Emptied
report_of shard kept (job.Copy from number) = done.Copied number
report_of shard kept job.Reclaim = done.Stepped true

-- ---- events

abbrev pub does : Event → World → World
does e w = record w { core = step e 0 w.core }

abbrev pub reports : ℕ → Option Job → World → World
reports peer None w = w
reports peer (Some j) w =
    let shard : ℕ = home peer w.core in
    record { core = step (event.Report peer (report_of shard w.kept j)) 0 w.core; kept = kept_with shard j w.kept }

abbrev pub delivers : ℕ → Option ℕ → World → World
delivers line None w = w
delivers line (Some number) w = does (event.Deliver line number) w

-- a turn of a peer: its first job, else the oldest message for it, else nothing
abbrev pub has_turn : Core → ℕ → Bool
has_turn core peer = is_some (first_job peer core) || is_some (oldest_message peer core)

abbrev pub turns : ℕ → ℕ → World → World
turns line peer w = if is_some (first_job peer w.core) then reports peer (first_job peer w.core) w else delivers line (oldest_message peer w.core) w

-- ---- settle

-- whose turn it is, who is nudged next, and whether this sequence of nudges has made a disk call or raised a known number
pub record Place : Type 0 where
  pub peer : ℕ
  pub nudger : ℕ
  pub progress : Bool

-- the next peer that has a turn, from this one on and round
abbrev pub next_turn : ℕ → Core → Option ℕ
next_turn peer core =
    let peers : List ℕ = all_peers (shape_of core) in
    find (has_turn core) (drop peer peers ++ take peer peers)

abbrev pub next_good : ℕ → Core → Option ℕ
next_good peer core = find (λ p. is_good_status (status_of p core)) (drop peer (all_peers (shape_of core)))

abbrev pub next_nudge : Place → Core → Option ℕ
next_nudge place core =
    if not (open_work core) then None else
    option_or (next_good place.nudger core) (if place.progress then next_good 0 core else None)

abbrev pub raises_known : Core → Core → Bool
raises_known before after = list_any (λ peer. nat_lt (known_of peer before) (known_of peer after)) (all_peers (shape_of before))

abbrev pub after_turn : ℕ → Bool → Core → Core → Place → Place
after_turn peer by_disk before after place = record place { peer = peer; progress = place.progress || (by_disk || raises_known before after) }

abbrev pub after_nudge : ℕ → Core → Core → Place → Place
after_nudge peer before after place =
    record { peer = 0; nudger = peer + 1; progress = nat_le place.nudger peer && (not (place.nudger == 0) && place.progress) || raises_known before after }

-- one turn or nudge more, if something is due
abbrev pub next_of_settle : ℕ → Place × World → Option (Place × World)
next_of_settle line (place, w) = if is_some w.core.ended then None else by_turn (next_turn place.peer w.core)
  where
    nudged : ℕ → Place × World
    nudged peer = (after_nudge peer w.core (does (event.Nudge line peer) w).core place, does (event.Nudge line peer) w)

    by_turn : Option ℕ → Option (Place × World)
    by_turn (Some peer) = Some (after_turn peer (is_some (first_job peer w.core)) w.core (turns line peer w).core place, turns line peer w)
    by_turn None = option_map nudged (next_nudge place w.core)

-- so many at most
abbrev pub settles : ℕ → ℕ → Place × World → World
settles zero line at = at.1
settles (suc n) line at = elim (next_of_settle line at) [ Some next ↦ settles n line next | None ↦ at.1 ]

abbrev pub first_place : Place
first_place = record { peer = 0; nudger = 0; progress = false }

-- passes until nobody has a turn, as after opening
abbrev pub passes : ℕ → World → World
passes zero w = w
passes (suc n) w = elim (next_turn 0 w.core) [ Some peer ↦ passes n (turns 0 peer w) | None ↦ w ]

-- ---- lines

-- the naming: the last 32 bytes of a block's spelling, behind zeros where there are fewer
abbrev pub tail_name : List ℕ → Address
tail_name bytes = record { 0 = replicate (32 - length bytes) 0 ++ drop (length bytes - 32) bytes }

-- a write has the address of its block, where it has a block
abbrev pub has_block : Seats → List ℕ → List ℕ → List ℕ → Bool
has_block seats name payload handles =
    not (list_any (λ h. is_none (held_at (seat_of name seats) h)) handles) && (nat_le (length handles) MOST_POINTERS && nat_le (length payload) MOST_BYTES)

abbrev pub addressed : Seats → Op → Op
addressed seats (op.Write name payload handles a) =
    op.Write name payload handles (if has_block seats name payload handles then Some (tail_name (spell (asked_block seats name payload handles))) else None)
addressed seats other = other

abbrev pub is_up : ℕ → Core → Bool
is_up peer core = is_none (first (no_peer peer core ∷ not_up peer core ∷ []))

-- a command of a line
abbrev pub does_command : ℕ → Command → World → World
does_command line (command.Client o) w = does (event.Line line (addressed w.core.sessions o)) w
does_command line command.Settle w = settles 400 line (first_place, w)
does_command line (command.Turn peer) w =
    if is_up peer w.core then turns line peer (does (event.Turn line peer) w) else does (event.Turn line peer) w
does_command line (command.Nudge peer) w = does (event.Nudge line peer) w
does_command line (command.Deliver number) w = does (event.Deliver line number) w
does_command line (command.Lose number) w = does (event.Lose line number) w
does_command line (command.Repeat number) w = does (event.Repeat line number) w
does_command line (command.Fail peer) w = does (event.Fail line peer) w
does_command line (command.Start peer) w = does (event.Start line peer) w
does_command line (command.Reclaim peer) w = w

-- some lines, from this number on
abbrev pub does_lines : ℕ → List Command → World → World
does_lines line [] w = w
does_lines line (c ∷ cs) w = does_lines (line + 1) cs (does_command line c w)

-- ---- what is said

-- an entry of the journal without its deed and its moment
abbrev pub said : Core → List (Who × Reply)
said core = map (λ e. (e.who, e.reply)) core.journal

-- of each peer how many entries its list has, and how many it has sealed
abbrev pub lists_of : Core → List (ℕ × ℕ)
lists_of core = map (λ peer. (length_of (group_of (home peer core) core) peer, sealed_of peer core)) (all_peers (shape_of core))

-- a store of this shape and these limits, with blank disks, just opened
abbrev pub opened : ℕ × ℕ → Limits → World
opened (shards, copies) limits =
    let shape : Shape = record { shards = shards; copies = copies } in
    let taken : Taken = record {
      catalogues = map (λ shard. empty_catalogue shape shard) (range_with_len 0 shards);
      views = replicate shards 0;
      lengths = replicate shards 0;
      good = replicate (shards * copies) true;
    } in
    passes 100 (record { core = open_core shape limits taken 0; kept = [] })

-- what a script tells from there, and how the core ends
pub record Says (shape : ℕ × ℕ) (limits : Limits) (lines : List Command) (expected : List (Who × Reply)) (end : Option CoreFault) : Type 0 where
  pub told : said (does_lines 1 lines (opened shape limits)).core ≡ expected
  pub ended : (does_lines 1 lines (opened shape limits)).core.ended ≡ end

-- what a script leaves from there: of each peer how many entries it has and how many it has sealed, and how many messages are under way
pub record Leaves (shape : ℕ × ℕ) (limits : Limits) (lines : List Command) (expected : List (ℕ × ℕ)) (under_way : ℕ) : Type 0 where
  pub lists : lists_of (does_lines 1 lines (opened shape limits)).core ≡ expected
  pub messages : length (does_lines 1 lines (opened shape limits)).core.pool.messages ≡ under_way
