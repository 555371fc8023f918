use Rattle.hs_settled.proofs.LedLemmas.{led_by, led_ended, led_never, led_went}
use Rattle.hs_settled.proofs.led.shard_0_is_led_by_lines.Goals as goal
use Rattle.hs_promise.specs.Entry.{entry_store}
use Rattle.hs_promise.specs.Story.{all_events, last_core}
use Rattle.hs_told.specs.InTurn.{told_of}

pub returns-clause-went : goal.returns-clause-went
returns-clause-went c = λ S r story went opens may.
    led_went S r story went (led_by (told_of (last_core S story)) (c.the_first_shard_enters_for_a_line.ensures (record { set = S.set; commands = S.commands; entry = entry_store S r }) story.found (all_events story) opens may))

pub returns-clause-ended : goal.returns-clause-ended
returns-clause-ended c = λ S r story fault went over. led_ended S r story went fault over

pub returns-clause-never : goal.returns-clause-never
returns-clause-never c = led_never
