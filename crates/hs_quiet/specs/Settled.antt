-- What a settle leaves in a core, for any number of copies.
use Rattle.std.specs.List.{All}
use Rattle.std.specs.Map.{values_of}
use Rattle.std.specs.Prelude.{◌≡◌, ◌⊎◌, ℕ, ◌*◌, ◌<◌, false, [], ◌∷◌, length, Some, None, slice_get}
use Rattle.hs_core_words.specs.Delivering.{is_new_round}
use Rattle.hs_core_words.specs.Entering.{is_enter_due}
use Rattle.hs_core_words.specs.Looking.{catalogue_of, first_job, group_of, open_work, shape_of, status_of}
use Rattle.hs_core_words.specs.State.{Core}
use Rattle.hs_core_words.specs.Step.{step}
use Rattle.hs_events.specs.Due.{Events}
use Rattle.hs_limits.specs.declared.limits.PeerStatus.TheVariants.{Joining}
use Rattle.hs_limits.specs.declared.shape.Shape.{Shape}
use Rattle.hs_post.specs.declared.message.Message.{Message}
use Rattle.hs_post.specs.declared.message.Message.TheVariants as message
use Rattle.hs_rounds.specs.declared.sending.SentRound.{SentRound}

-- a Round is to a shard of the store
abbrev pub IsToShard : Shape → Message → Type 0
IsToShard shape (message.Copy of to view number entry) = Unit {0}
IsToShard shape (message.Have of from to view sealed) = Unit {0}
IsToShard shape (message.Round from to epoch round total deltas) = to < shape.shards

-- each Round that is under way is to a shard of the store, and each that a shard keeps as sent is to all of them; and the pool takes more than the last two rounds of a lead
pub record HasRounds (core : Core) : Type 0 where
  pub low : All (IsToShard core.members.shape) (values_of core.pool.messages)
  pub shape : (shard : ℕ) → shard < (shape_of core).shards → (catalogue_of shard core).shape.shards ≡ (shape_of core).shards
  pub bodies : (shard place : ℕ) (kept : SentRound) → shard < (shape_of core).shards → slice_get (catalogue_of shard core).run.sent place ≡ Some kept → length kept.bodies ≡ (shape_of core).shards
  pub room : 2 * (shape_of core).shards < core.pool.limit

-- so it is before each of some events, and behind them
abbrev pub HaveRounds : Core → Events → Type 0
HaveRounds core [] = HasRounds core
HaveRounds core (e ∷ es) = HasRounds core × HaveRounds (step e.0 e.1 core) es

-- no shard's lead would propose an Enter that nobody asked it for; and neither of the last two rounds that a shard keeps as sent is new to any shard
pub record IsQuiet (core : Core) : Type 0 where
  pub due : (shard : ℕ) → shard < (shape_of core).shards → is_enter_due shard core ≡ false
  pub came : (from place to : ℕ) (kept : SentRound) → from < (shape_of core).shards → to < (shape_of core).shards → place < 2
      → slice_get (catalogue_of from core).run.sent place ≡ Some kept → is_new_round to from kept.epoch kept.round core ≡ false

-- all entries have taken effect, no peer is joining, and to nobody anything new can come
pub record IsRested (core : Core) : Type 0 where
  pub lists : (shard : ℕ) → shard < (shape_of core).shards → (group_of shard core).waiting ≡ []
  pub joins : (peer : ℕ) → status_of peer core ≡ Joining → ⊥
  pub quiet : IsQuiet core

-- no peer has a job, and no message is under way; all entries have taken effect, and no peer is joining; and no work is open, or to nobody anything new can come
pub record IsLeft (core : Core) : Type 0 where
  pub jobs : (peer : ℕ) → first_job peer core ≡ None
  pub messages : core.pool.messages ≡ []
  pub lists : (shard : ℕ) → shard < (shape_of core).shards → (group_of shard core).waiting ≡ []
  pub joins : (peer : ℕ) → status_of peer core ≡ Joining → ⊥
  pub quiet : (open_work core ≡ false) ⊎ IsQuiet core
