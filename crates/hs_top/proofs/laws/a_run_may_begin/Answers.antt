use Rattle.std.specs.Prelude.{Bool, ℕ}
use Rattle.hs_events.specs.Taken.{taken_lists}
use Rattle.hs_promise.specs.Stops.{image_logs}
use Rattle.hs_promise.specs.Entry.{is_aside}
use Rattle.hs_promise.specs.Stops.{stop_at}
use Rattle.hs_top.specs.Next.{script_after}
use Rattle.hs_top.proofs.AsideLemmas.{kept_may, still_good, with_blanks}
use Rattle.hs_top.proofs.LimitLemmas.{sound_too}
use Rattle.hs_top.proofs.RestLemmas.{alone_may, blank_may, one_low, stopped_may}
use Rattle.hs_top.proofs.laws.a_run_may_begin.Goals as goal

pub returns-clause-blank : goal.returns-clause-blank
returns-clause-blank c = λ S images r low blank rest. blank_may S r images (c.waiting_lists_are_sound_with_runs.ensures.blank S.set low) blank rest

pub returns-clause-stopped : goal.returns-clause-stopped
returns-clause-stopped c = λ S entry r m images stops during good limits commands next rest same none.
    stopped_may (script_after S limits commands) next images
    (sound_too S.set limits (taken_lists S.set.shape (image_logs images)) (stops.reopens m during images good).sound) rest same none

pub returns-clause-kept : goal.returns-clause-kept
returns-clause-kept c = λ S entry r m images stops during good limits commands next rest same kept.
    let aside : ℕ → Bool = is_aside (script_after S limits commands) next in
    let others = with_blanks aside 0 images in
    let also = still_good S.set.shape (stop_at S r m) images aside good kept in
    kept_may (script_after S limits commands) next images
    (sound_too S.set limits (taken_lists S.set.shape (image_logs others)) (stops.reopens m during others also).sound) rest same

pub returns-clause-alone : goal.returns-clause-alone
returns-clause-alone c = λ S entry r m images shards copies stops during good limits commands next rest same.
    alone_may (script_after S limits commands) next images shards copies
    (c.waiting_lists_are_sound_with_runs.ensures.blank (record S.set { limits = limits }) (one_low S.set.shape.shards shards))
    (sound_too S.set limits (taken_lists S.set.shape (image_logs images)) (stops.reopens m during images good).sound) rest same
