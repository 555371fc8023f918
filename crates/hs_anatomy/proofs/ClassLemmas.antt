-- An entry that takes effect, by its class.
use Rattle.std.proofs.Common.{◌≡◌, ℕ, refl}
use Rattle.hs_anatomy.specs.Effect.{class_of, goes_class, tells_class}
use Rattle.hs_core_words.specs.Effects.{after_entry}
use Rattle.hs_core_words.specs.State.{Core}
use Rattle.hs_entry.specs.declared.entry.Entry.{Entry}
use Rattle.hs_entry.specs.declared.entry.Entry.TheVariants as kind
use Rattle.hs_shard.specs.declared.effect.Effect.{Effect}

pub after_is : (shard : ℕ) (entry : Entry) (effect : Effect) (c : Core) → after_entry shard entry effect c ≡ goes_class (class_of entry) shard (tells_class (class_of entry) shard effect c)
after_is shard (kind.View view) effect c = refl
after_is shard (kind.Block line least bytes) effect c = refl
after_is shard (kind.Mark line least block a) effect c = refl
after_is shard (kind.Root line held a key) effect c = refl
after_is shard (kind.Drop line key) effect c = refl
after_is shard (kind.Enter line epoch) effect c = refl
after_is shard (kind.Got from epoch round total deltas) effect c = refl
after_is shard (kind.Base view epoch swept round frames) effect c = refl
after_is shard (kind.KeptBlock born mark flags count bytes) effect c = refl
after_is shard (kind.KeptRoot created dropped counted address key) effect c = refl
after_is shard (kind.KeptRound way other epoch round total deltas) effect c = refl
