-- One shard's side of the rounds of a deletion run.
use Rattle.std.specs.BTreeMap.{insert_entry, is_at}
use Rattle.std.specs.List.{flat_map, list_all, list_any, range_with_len}
use Rattle.std.specs.Map.{lookup}
use Rattle.std.specs.declared.cmp.Ordering.{Ordering}
use Rattle.std.specs.Option.{option_and_then, option_map, option_map_or}
use Rattle.std.specs.Ordering.{nat_cmp, ordering_then}
use Rattle.std.specs.Prelude.{◌≡◌, ℕ, ◌+◌, ◌<◌, ◌≤◌, All, IfSome, length, ◌==◌, ◌&&◌, ◌||◌, Bool, false, not, List, [], ◌∷◌, map, filter, find, take, Option, Some, None, is_none, is_some, nat_le, nat_lt, slice_get, if◌then◌else◌}
use Rattle.hs_limits.specs.declared.delta.Delta.{Delta}
use Rattle.hs_limits.specs.declared.shape.Shape.{Shape}
use Rattle.hs_limits.specs.Limits.{greatest_limits}
use Rattle.hs_limits.specs.Shape.{IsShape}
use Rattle.hs_rounds.specs.declared.body.RoundBody.{RoundBody}
use Rattle.hs_rounds.specs.declared.place.Place.{Place}
use Rattle.hs_rounds.specs.declared.sending.SentRound.{SentRound}
use Rattle.hs_rounds.specs.Changes.{AreChanges, changes_for}

-- what came, by epoch, round and sender
abbrev pub GotList : Type 0
GotList = List (Place × RoundBody)

-- opened: epoch and number of the open round, while a run is open; gots: what came for it, and what waits for later rounds; sent: the last two rounds that were sent, the last one first
pub record Run : Type 0 where
  pub shape : Shape
  pub shard : ℕ
  pub opened : Option (ℕ × ℕ)
  pub gots : GotList
  pub sent : List SentRound

-- no run is open, nothing came, and nothing was sent
abbrev pub empty_run : Shape → ℕ → Run
empty_run shape shard = record { shape = shape; shard = shard; opened = None; gots = []; sent = [] }

-- ---- what came

-- by epoch, then by round, then by sender
abbrev pub place_cmp : Place → Place → Ordering
place_cmp a b = ordering_then (nat_cmp a.epoch b.epoch) (ordering_then (nat_cmp a.round b.round) (nat_cmp a.from b.from))

-- what stands at a place
abbrev pub body_at : Place → GotList → Option RoundBody
body_at place gots = lookup (is_at (place_cmp place)) gots

-- what a sender told for a round
abbrev pub told_by : ℕ → ℕ → GotList → ℕ → Option RoundBody
told_by epoch round gots from = body_at (record { epoch = epoch; round = round; from = from }) gots

-- the same in a run
abbrev pub body : ℕ → ℕ → ℕ → Run → Option RoundBody
body from epoch round run = told_by epoch round run.gots from

-- each of so many senders has told for a round
abbrev pub have_told : ℕ → ℕ → ℕ → GotList → Bool
have_told shards epoch round gots = list_all (λ from. is_some (told_by epoch round gots from)) (range_with_len 0 shards)

-- the open round has come from every shard
abbrev pub complete : Run → Bool
complete run = option_map_or (λ at. have_told run.shape.shards at.0 at.1 run.gots) run.opened false

-- some shard has told for a round
abbrev pub has_come : ℕ → ℕ → Run → Bool
has_come epoch round run = list_any (λ e. e.0.epoch == epoch && e.0.round == round) run.gots

-- a total of 0 came
abbrev pub is_zero_total : Option RoundBody → Bool
is_zero_total told = option_map_or (λ body. body.total == 0) told false

-- each of so many senders has told a total of 0 for a round
abbrev pub have_told_zero : ℕ → ℕ → ℕ → GotList → Bool
have_told_zero shards epoch round gots = list_all (λ from. is_zero_total (told_by epoch round gots from)) (range_with_len 0 shards)

-- the open round is of 1 or more, and has come from every shard with a total of 0
abbrev pub is_last : Run → Bool
is_last run = option_map_or (λ at. nat_le 1 at.1 && have_told_zero run.shape.shards at.0 at.1 run.gots) run.opened false

-- the changes that came from a sender
abbrev pub changes_in : Option RoundBody → List Delta
changes_in told = option_map_or (λ body. body.deltas) told []

-- the changes that came for a round from so many senders, sender by sender
abbrev pub changes_of : ℕ → ℕ → ℕ → GotList → List Delta
changes_of shards epoch round gots = flat_map (λ from. changes_in (told_by epoch round gots from)) (range_with_len 0 shards)

-- the changes that came for the open round
abbrev pub received : Run → List Delta
received run = option_map_or (λ at. changes_of run.shape.shards at.0 at.1 run.gots) run.opened []

-- ---- a Got comes

-- whether a place is of an earlier epoch than this, or of an earlier round of it
abbrev pub is_before : ℕ → ℕ → Place → Bool
is_before epoch round place = nat_lt place.epoch epoch || place.epoch == epoch && nat_lt place.round round

-- whether a place is of an earlier round than the open one
abbrev pub is_past : Place → Run → Bool
is_past place run = option_map_or (λ at. is_before at.0 at.1 place) run.opened false

-- whether a Got is kept: its sender is a shard, its round is not past, and none of that round has come from there
abbrev pub is_kept : Place → Run → Bool
is_kept place run = (nat_lt place.from run.shape.shards && not (is_past place run)) && is_none (body_at place run.gots)

-- one that is kept has its place, and another changes nothing
abbrev pub got : Place → RoundBody → Run → Run
got place told run = if is_kept place run then record run { gots = insert_entry place_cmp run.gots place told } else run

-- what is kept of a sender: it is a shard, and the round is the open one or a later one
pub record IsGot (run : Run) (place : Place) (told : RoundBody) : Type 0 where
  pub sender : place.from < run.shape.shards
  pub due : is_past place run ≡ false
  pub changes : AreChanges told.deltas

-- what a shard is told: changes, no more than it may have blocks
pub record IsTold (told : RoundBody) : Type 0 where
  pub changes : AreChanges told.deltas
  pub few : length told.deltas ≤ greatest_limits.blocks

-- a round that was sent tells each shard something
pub record IsSent (shards : ℕ) (sent : SentRound) : Type 0 where
  pub bodies : length sent.bodies ≡ shards
  pub told : All IsTold sent.bodies

-- what a run keeps to
pub record IsRun (run : Run) : Type 0 where
  pub shape : IsShape run.shape
  pub shard : run.shard < run.shape.shards
  pub gots : (place : Place) → IfSome (body_at place run.gots) (IsGot run place)
  pub sent : All (IsSent run.shape.shards) run.sent
  pub two : length run.sent ≤ 2

-- ---- rounds are sent

-- what a round tells a shard, and what it tells each of so many
abbrev pub body_for : ℕ → ℕ → List Delta → ℕ → RoundBody
body_for shards total deltas to = record { total = total; deltas = changes_for shards deltas to }

abbrev pub bodies_for : ℕ → ℕ → List Delta → List RoundBody
bodies_for shards total deltas = map (body_for shards total deltas) (range_with_len 0 shards)

-- without what came for earlier rounds
abbrev pub from_round : ℕ → ℕ → GotList → GotList
from_round epoch round gots = filter (λ e. not (is_before epoch round e.0)) gots

-- a round is opened and sent
abbrev pub open_at : ℕ → ℕ → ℕ → List Delta → Run → Run
open_at epoch round total deltas run = record run {
  opened = Some (epoch, round);
  gots = from_round epoch round run.gots;
  sent = take 2 (record { epoch = epoch; round = round; bodies = bodies_for run.shape.shards total deltas } ∷ run.sent);
}

-- round 0 of an epoch is opened, whatever was open
abbrev pub enter : ℕ → List Delta → Run → Run
enter epoch increments run = open_at epoch 0 0 increments run

-- the round after the open one is opened
abbrev pub go_on : ℕ → List Delta → Run → Run
go_on total decrements run = next run.opened
  where
    next : Option (ℕ × ℕ) → Run
    next None = run
    next (Some at) = open_at at.0 (at.1 + 1) total decrements run

-- no round is open any more, and what came for the last one is forgotten
abbrev pub finish : Run → Run
finish run = after run.opened
  where
    after : Option (ℕ × ℕ) → Run
    after None = run
    after (Some at) = record run { opened = None; gots = from_round at.0 (at.1 + 1) run.gots }

-- ---- what was sent

-- whether a round is one of the last two, and what it told a shard
abbrev pub is_round : ℕ → ℕ → SentRound → Bool
is_round epoch round sent = sent.epoch == epoch && sent.round == round

abbrev pub was_sent : ℕ → ℕ → Run → Bool
was_sent epoch round run = is_some (find (is_round epoch round) run.sent)

abbrev pub outgoing : ℕ → ℕ → ℕ → Run → Option RoundBody
outgoing epoch round to run = option_and_then (λ s. slice_get s.bodies to) (find (is_round epoch round) run.sent)

-- epoch and number of the round sent last, or so many before it
abbrev pub sent_back : ℕ → Run → Option (ℕ × ℕ)
sent_back back run = option_map (λ s. (s.epoch, s.round)) (slice_get run.sent back)
