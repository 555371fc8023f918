-- What a shard keeps for deletion runs.
use Rattle.std.specs.Prelude.{ℕ, Bool, List, [], map}
use Rattle.std.specs.BTreeMap.{is_at}
use Rattle.std.specs.Map.{lookup}
use Rattle.std.specs.Prelude.{Option}
use Rattle.hs_limits.specs.declared.address.Address.{Address}
use Rattle.hs_model.specs.Store.{Root, address_cmp}
use Rattle.hs_rounds.specs.declared.sending.SentRound.{SentRound}
use Rattle.hs_rounds.specs.Rounds.{GotList}
use Rattle.hs_fold.specs.Catalogue.{Present}
use Rattle.hs_fold.specs.Shards.Catalogue.{Catalogue as PlainCatalogue}
use Rattle.hs_fold.specs.Shards.Opened.{both_roots}

-- a present block: whether it counts, whether it is a zero block, and its counter
pub record Facts : Type 0 where
  pub present : Present
  pub counted : Bool
  pub zero : Bool
  pub count : ℕ

-- a root record, from when it was put until a run forgets it: the epoch in which it was put, and whether it counts
pub record RootFacts : Type 0 where
  pub root : Root
  pub created : ℕ
  pub counted : Bool

-- blocks by address; roots by key, and of one key as they were put; round: the open one where the epoch is not swept, and else 0;
-- got: what came for it and what waits; sent: the last two rounds, the last one first
pub record Catalogue : Type 0 where
  pub blocks : List (Address × Facts)
  pub roots : List RootFacts
  pub epoch : ℕ
  pub swept : ℕ
  pub view : ℕ
  pub round : ℕ
  pub got : GotList
  pub sent : List SentRound

-- before the first entry
abbrev pub empty_catalogue : Catalogue
empty_catalogue = record { blocks = []; roots = []; epoch = 1; swept = 1; view = 0; round = 0; got = []; sent = [] }

-- the root records without what runs know of them
abbrev pub roots_of : List RootFacts → List Root
roots_of roots = map (λ r. r.root) roots

-- the catalogue without deletion: what the plain store sees of it
abbrev pub plain : Catalogue → PlainCatalogue
plain c = record {
  blocks = map (λ e. (e.0, e.1.present)) c.blocks;
  roots = both_roots (roots_of c.roots) [];
  epoch = c.epoch;
  swept = c.swept;
  view = c.view;
}

-- what is known of the present block of an address
abbrev pub facts_at : Catalogue → Address → Option Facts
facts_at c a = lookup (is_at (address_cmp a)) c.blocks

-- each block's facts changed by themselves
abbrev pub each_block : (Facts → Facts) → List (Address × Facts) → List (Address × Facts)
each_block f blocks = map (λ e. (e.0, f e.1)) blocks
