-- An entry takes effect once it was handed out, and a report is taken by the line of the job that it answers: for private clauses.
use Rattle.std.specs.Prelude.{ℕ, Option, Some, None, if◌then◌else◌, option_and_then}
use Rattle.hs_awaiting.specs.Words.{◌▸◌}
use Rattle.hs_core_words.specs.Changing.{post, set_catalogue}
use Rattle.hs_core_words.specs.Effects.{after_entry, round_messages, wakes}
use Rattle.hs_core_words.specs.Looking.{catalogue_of, first_task}
use Rattle.hs_core_words.specs.Operating.{resume_where}
use Rattle.hs_core_words.specs.Pending.{named}
use Rattle.hs_core_words.specs.State.{Core}
use Rattle.hs_desk.specs.Answers.{answers}
use Rattle.hs_desk.specs.declared.done.Done.{Done}
use Rattle.hs_entry.specs.declared.entry.Entry.{Entry}
use Rattle.hs_limits.specs.declared.address.Address.{Address}
use Rattle.hs_shard.specs.Apply.{apply}
use Rattle.hs_shard.specs.Clients.{Applied}

-- the entry of this number: its rounds go out, its operation is answered, a due Enter is proposed, and what waited for it goes on
abbrev pub take_handed : ℕ → ℕ → Entry → Core → Core
take_handed shard number entry core =
    let a : Option Address = named entry core in
    let applied : Applied = apply number entry a (catalogue_of shard core) in
    core ▸ set_catalogue shard applied.catalogue
    ▸ post (round_messages shard applied.effect.sends)
    ▸ after_entry shard entry applied.effect
    ▸ (λ core. resume_where shard (wakes entry a core) core)

-- the line of the operation that a peer's first job is for, where a report answers that job
abbrev pub answered_line : ℕ → Done → Core → Option ℕ
answered_line peer d core =
    option_and_then (λ task. if answers peer task.job d then Some task.line else None) (first_task peer core)
