-- What an entry of any kind rests on when it comes.
use Rattle.std.specs.Prelude.{◌≡◌, ℕ, List, Contains, IsTrue, Some, slice_get, slice_index_or}
use Rattle.hs_model.specs.Inner.{may_enter}
use Rattle.hs_entry.specs.declared.entry.Entry.{Entry}
use Rattle.hs_entry.specs.declared.entry.Entry.TheVariants as kind
use Rattle.hs_fold.specs.Shards.Fits.{BlockRests, MarkRests, RootRests}
use Rattle.hs_rounds.specs.declared.body.RoundBody.{RoundBody}
use Rattle.hs_rounds.specs.declared.sending.SentRound.{SentRound}
use Rattle.hs_fold.specs.Runs.Facts.{Catalogue, empty_catalogue, plain}
use Rattle.hs_fold.specs.Runs.Opened.{store_of}

-- the catalogue of a shard
abbrev pub catalogue_at : List Catalogue → ℕ → Catalogue
catalogue_at cs shard = slice_index_or cs shard empty_catalogue

-- one of the last two rounds that a shard has sent told this to another shard
pub record HasSent (sent : List SentRound) (to epoch round : ℕ) (told : RoundBody) : Type 0 where
  pub kept : SentRound
  pub among : Contains sent kept
  pub of_epoch : kept.epoch ≡ epoch
  pub of_round : kept.round ≡ round
  pub tells : slice_get kept.bodies to ≡ Some told

-- an entry of a shard may come where the catalogues are these: an Enter where the store allows it, a Got where its sender's fold has sent it
abbrev pub MayCome : List Catalogue → ℕ → Entry → Type 0
MayCome cs shard (kind.View view) = Unit {0}
MayCome cs shard (kind.Block op least bytes) = BlockRests (store_of cs) (plain (catalogue_at cs shard)) least bytes
MayCome cs shard (kind.Mark op least block address) = MarkRests (store_of cs) (plain (catalogue_at cs shard)) least block address
MayCome cs shard (kind.Root op held address key) = RootRests (store_of cs) (plain (catalogue_at cs shard)) held address
MayCome cs shard (kind.Drop op key) = Unit {0}
MayCome cs shard (kind.Enter op epoch) = IsTrue (may_enter (store_of cs) shard)
MayCome cs shard (kind.Got sender epoch round total deltas) =
    HasSent (catalogue_at cs sender).sent shard epoch round (record { total = total; deltas = deltas })
MayCome cs shard (kind.Base view epoch swept round frames) = Unit {0}
MayCome cs shard (kind.KeptBlock born mark flags count bytes) = Unit {0}
MayCome cs shard (kind.KeptRoot created dropped counted address key) = Unit {0}
MayCome cs shard (kind.KeptRound way other epoch round total deltas) = Unit {0}
