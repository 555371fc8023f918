-- An entry takes effect: what is told of it at once, and what goes on by it.
use Rattle.std.specs.Prelude.{ℕ, ◌+◌, ◌==◌, true}
use Rattle.hs_awaiting.specs.Words.{change_if, change_with, ◌▸◌}
use Rattle.hs_core_words.specs.Changing.{change_group, post, set_catalogue, set_viewed}
use Rattle.hs_core_words.specs.Effects.{is_for_view, note_sweep, round_messages, tell_enter, tell_operation}
use Rattle.hs_core_words.specs.Entering.{propose_due}
use Rattle.hs_core_words.specs.Looking.{catalogue_of, front_of, group_of}
use Rattle.hs_core_words.specs.Operating.{resume_where}
use Rattle.hs_core_words.specs.Pending.{named}
use Rattle.hs_core_words.specs.State.{Core}
use Rattle.hs_entry.specs.declared.entry.Entry.{Entry}
use Rattle.hs_entry.specs.declared.entry.Entry.TheVariants as kind
use Rattle.hs_replica.specs.Group.{take_committed}
use Rattle.hs_shard.specs.Apply.{apply}
use Rattle.hs_shard.specs.Clients.{Applied}
use Rattle.hs_shard.specs.declared.effect.Effect.{Effect}

-- ---- classes

-- what an entry is to those that hear of it: the line's that asked for it, an Enter of a line or of its shard, the View of a view, a round that came, or one that is kept of an older log
pub data Class : Type 0 where
  OfLine : (line : ℕ) → Class
  OfEnter : (line : ℕ) → Class
  OfView : (view : ℕ) → Class
  OfRound : Class
  OfBase : Class

abbrev pub class_of : Entry → Class
class_of (kind.View view) = OfView view
class_of (kind.Block line least bytes) = OfLine line
class_of (kind.Mark line least block a) = OfLine line
class_of (kind.Root line held a key) = OfLine line
class_of (kind.Drop line key) = OfLine line
class_of (kind.Enter line epoch) = OfEnter line
class_of (kind.Got from epoch round total deltas) = OfRound
class_of (kind.Base view epoch swept round frames) = OfBase
class_of (kind.KeptBlock born mark flags count bytes) = OfBase
class_of (kind.KeptRoot created dropped counted address key) = OfBase
class_of (kind.KeptRound way other epoch round total deltas) = OfBase

-- ---- the entry

-- what an entry of a shard leaves of its catalogue, and its effect
abbrev pub done_by : ℕ → Entry → Core → Applied
done_by shard entry core = apply (front_of shard core + 1) entry (named entry core) (catalogue_of shard core)

-- the core after it, before anything is told or goes on by it
abbrev pub taken : ℕ → Entry → Core → Core
taken shard entry core =
    core ▸ change_group shard take_committed ▸ set_catalogue shard (done_by shard entry core).catalogue
    ▸ post (round_messages shard (done_by shard entry core).effect.sends)

-- what is told of it before anything goes on by it: the operation hears what its entry did, a shard has entered by itself, a shard has swept
abbrev pub tells_class : Class → ℕ → Effect → Core → Core
tells_class (OfLine line) shard effect core = tell_operation line effect.what core
tells_class (OfEnter line) shard effect core = tell_enter shard line effect.what core
tells_class (OfView view) shard effect core = core
tells_class OfRound shard effect core = change_with effect.removed (note_sweep shard) core
tells_class OfBase shard effect core = core

abbrev pub tells_at_once : ℕ → Entry → Effect → Core → Core
tells_at_once shard entry effect core = tells_class (class_of entry) shard effect core

-- the core then
abbrev pub told_at_once : ℕ → Entry → Core → Core
told_at_once shard entry core = tells_at_once shard entry (done_by shard entry core).effect (taken shard entry core)

-- what goes on by it, but for what waited for it: by a View what waited for the view, by a round a due Enter
abbrev pub goes_class : Class → ℕ → Core → Core
goes_class (OfLine line) shard core = core
goes_class (OfEnter line) shard core = core
goes_class (OfView view) shard core =
    core ▸ change_if (view == (group_of shard core).view) (λ core. core ▸ set_viewed shard true ▸ resume_where shard is_for_view)
goes_class OfRound shard core = propose_due shard core
goes_class OfBase shard core = core
