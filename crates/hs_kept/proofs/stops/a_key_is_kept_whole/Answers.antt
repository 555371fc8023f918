use Rattle.hs_kept.proofs.LawLemmas.{Laws}
use Rattle.hs_kept.proofs.MomentLemmas.{MomentLaws}
use Rattle.hs_kept.proofs.StoppedLemmas.{ends_whole}
use Rattle.hs_kept.proofs.stops.a_key_is_kept_whole.Goals as goal

pub returns : goal.returns
returns g c =
    let laws : Laws = record {
      answers = c.a_run_is_answered.ensures.answers;
      soundly = c.a_run_stands.ensures.soundly;
      events = c.a_run_stands.ensures.events;
      led = c.shard_0_is_led_by_lines.ensures.went;
      led_ended = c.shard_0_is_led_by_lines.ensures.ended;
      led_never = c.shard_0_is_led_by_lines.ensures.never;
      told = record { opens = c.each_event_is_told.ensures.opens; events = c.each_event_is_told.ensures.events };
      here = record {
        opens = c.a_script_is_answered.ensures.opens;
        opening = c.a_script_is_answered.ensures.opening;
        lines = c.a_script_is_answered.ensures.lines;
        answers = c.a_script_is_answered.ensures.answers;
        memory = c.catalogues_in_memory_are_folds.ensures.list;
      };
      distinct = c.a_store_of_sound_lists_is_right.ensures.distinct;
      acyclic = c.a_store_of_sound_lists_is_right.ensures.acyclic;
      named = c.a_store_of_sound_lists_is_right.ensures.named;
      spelled = c.a_store_of_sound_lists_is_right.ensures.spelled;
    } in
    let moments : MomentLaws = record {
      opens = c.a_run_stands.ensures.opens;
      stands = c.a_run_stands.ensures.keeps;
      soundly = c.a_run_stands.ensures.soundly;
      running = c.a_run_goes_on.ensures.opens;
      goes_on = λ start. c.a_run_goes_on.ensures.goes_on start;
    } in
    λ name shape key r told one names sound h. ends_whole laws moments c.a_run_may_stop.ensures g.D.Disk.tells name shape r told one names sound key h
