-- Rounds under way.
use Rattle.std.specs.Map.{values_of}
use Rattle.std.specs.Prelude.{◌≡◌, All, Bool, Contains, true, false}
use Rattle.hs_core_words.specs.State.{Core}
use Rattle.hs_post.specs.declared.message.Message.{Message}
use Rattle.hs_post.specs.declared.message.Message.TheVariants as message

-- whether a message is a Round
abbrev pub is_round : Message → Bool
is_round (message.Copy shard to view number entry) = false
is_round (message.Have shard from to view sealed) = false
is_round (message.Round from to epoch round total deltas) = true

-- each round that is under way in one core was so in another
abbrev pub BringsNoRound : Core → Core → Type 0
BringsNoRound a b = All (λ m. is_round m ≡ true → Contains (values_of a.pool.messages) m) (values_of b.pool.messages)
