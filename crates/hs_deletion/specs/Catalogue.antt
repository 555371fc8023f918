-- The catalogue of one shard as deletion sees it: what the shard's own entries make of it. It knows other shards by their rounds.
use Rattle.std.specs.Prelude.{ℕ, zero, suc, ◌+◌, Bool, true, not, ◌==◌, ◌&&◌, ◌||◌, if◌then◌else◌, List, [], ◌∷◌, Option, Some, None, is_some, is_none, unwrap_or, map, filter, nat_le, nat_lt}
use Rattle.hs_limits.specs.declared.address.Address.{Address}
use Rattle.hs_model.specs.Reach.{is_same}
use Rattle.hs_deletion.specs.Records.{BlockRecord, RootRecord, change_if, new_block, given_in, new_root, is_under, dropped_in, entered, root_entered, recounted, searched, is_released, is_removed, spared}
use Rattle.hs_deletion.specs.Machine.{Round, empty_round, sum_below}
use Rattle.hs_deletion.specs.Rounds.{times, first_round, next_round}

-- its blocks and roots, its epoch, the epoch that it swept, its round, and what was logged by sender, epoch and round
pub record ShardCatalogue : Type 0 where
  pub blocks : List BlockRecord
  pub roots : List RootRecord
  pub epoch : ℕ
  pub swept : ℕ
  pub round : ℕ
  pub got : ℕ → ℕ → ℕ → Option Round

-- nothing is there, in epoch 1, which is swept
abbrev pub blank_catalogue : ShardCatalogue
blank_catalogue = record { blocks = []; roots = []; epoch = 1; swept = 1; round = 0; got = λ sender epoch round. None }

-- ---- clients

-- a write stores an absent block
abbrev pub stored_in : Address → List Address → ShardCatalogue → ShardCatalogue
stored_in a pointers c = record c { blocks = new_block a pointers c.epoch ∷ c.blocks }

-- a write gives a present block
abbrev pub marked_in : Address → ShardCatalogue → ShardCatalogue
marked_in a c = record c { blocks = map (change_if (λ b. is_same b.address a) (given_in c.epoch)) c.blocks }

-- a root is put
abbrev pub rooted_in : ℕ → List ℕ → List Address → ShardCatalogue → ShardCatalogue
rooted_in shard key addresses c = record c { roots = new_root shard key addresses c.epoch ∷ c.roots }

-- a retained root is dropped
abbrev pub unrooted_in : List ℕ → ShardCatalogue → ShardCatalogue
unrooted_in key c = record c { roots = map (change_if (is_under key) (dropped_in c.epoch)) c.roots }

-- ---- entering an epoch

-- what is sent as round 0
abbrev pub sends_first : ShardCatalogue → Round
sends_first c = first_round (c.epoch + 1) c.blocks c.roots

-- what is older begins to count
abbrev pub entered_in : ShardCatalogue → ShardCatalogue
entered_in c = record c {
  blocks = map (entered (c.epoch + 1)) c.blocks;
  roots = map (root_entered (c.epoch + 1)) c.roots;
  epoch = c.epoch + 1;
  round = 0;
}

-- ---- rounds

-- whether a test passes for each number below n
unfoldable pub all_below : ℕ → (ℕ → Bool) → Bool
all_below zero test = true
all_below (suc n) test = test n && all_below n test

-- the open round of a sender
abbrev pub open_round : ShardCatalogue → ℕ → Round
open_round c sender = unwrap_or (c.got sender c.epoch c.round) empty_round

-- a round is accepted where it is of a shard, was not logged, and is the open one, the one after it, or round 0 of the next run
abbrev pub is_accepted : ℕ → ShardCatalogue → ℕ → ℕ → ℕ → Bool
is_accepted shards c sender epoch round =
    let of_run : Bool = nat_lt c.swept c.epoch && (epoch == c.epoch && (round == c.round || round == c.round + 1)) in
    nat_lt sender shards && (is_none (c.got sender epoch round) && (of_run || epoch == c.epoch + 1 && round == 0))

-- the catalogue with a round logged
abbrev pub with_got : ℕ → ℕ → ℕ → Round → ShardCatalogue → ShardCatalogue
with_got sender epoch round body c =
    record c { got = λ s e r. if s == sender && (e == epoch && r == round) then Some body else c.got s e r }

-- the open round is complete where that of every shard was logged
abbrev pub is_complete : ℕ → ShardCatalogue → Bool
is_complete shards c = nat_lt c.swept c.epoch && all_below shards (λ sender. is_some (c.got sender c.epoch c.round))

-- it is the last of its run where it isn't round 0 and all totals are 0
abbrev pub is_open_last : ℕ → ShardCatalogue → Bool
is_open_last shards c = nat_le 1 c.round && sum_below shards (λ sender. (open_round c sender).total) == 0

-- a block whose count has what the open round of every shard says
abbrev pub recounted_in : ℕ → ShardCatalogue → BlockRecord → BlockRecord
recounted_in shards c =
    let raised : Address → ℕ = λ a. sum_below shards (λ sender. times a (open_round c sender).raises) in
    let lowered : Address → ℕ = λ a. sum_below shards (λ sender. times a (open_round c sender).lowers) in
    recounted raised lowered

-- what a search sends
abbrev pub sends_next : ℕ → ShardCatalogue → Round
sends_next shards c = next_round c.round c.epoch (map (recounted_in shards c) c.blocks) c.roots

-- what it leaves
abbrev pub searched_in : ℕ → ShardCatalogue → ShardCatalogue
searched_in shards c = record c {
  blocks = map (λ b. searched c.epoch (recounted_in shards c b)) c.blocks;
  roots = filter (λ r. not (is_released c.round c.epoch r)) c.roots;
  round = c.round + 1;
}

-- what a sweep leaves
abbrev pub swept_in : ShardCatalogue → ShardCatalogue
swept_in c = record c {
  blocks = map spared (filter (λ b. not (is_removed c.epoch b)) c.blocks);
  swept = c.epoch;
}

-- where the open round is complete the shard sweeps or searches
abbrev pub gone_on : ℕ → ShardCatalogue → ShardCatalogue
gone_on shards c =
    if is_complete shards c
    then (if is_open_last shards c then swept_in c else searched_in shards c)
    else c

-- ---- entries

-- the entries of a shard's log that deletion looks at
pub data ShardEntry : Type 0 where
  BlockEntry : (address : Address) → (pointers : List Address) → ShardEntry
  MarkEntry : (address : Address) → ShardEntry
  RootEntry : (key : List ℕ) → (addresses : List Address) → ShardEntry
  DropEntry : (key : List ℕ) → ShardEntry
  EnterEntry : ShardEntry
  GotEntry : (sender epoch round : ℕ) → (body : Round) → ShardEntry

-- the catalogue after an entry; a round that is not accepted changes nothing
abbrev pub catalogue_after : ℕ → ℕ → ShardEntry → ShardCatalogue → ShardCatalogue
catalogue_after shards shard (BlockEntry a pointers) c = stored_in a pointers c
catalogue_after shards shard (MarkEntry a) c = marked_in a c
catalogue_after shards shard (RootEntry key addresses) c = rooted_in shard key addresses c
catalogue_after shards shard (DropEntry key) c = unrooted_in key c
catalogue_after shards shard EnterEntry c = entered_in c
catalogue_after shards shard (GotEntry sender epoch round body) c =
    if is_accepted shards c sender epoch round then gone_on shards (with_got sender epoch round body c) else c
