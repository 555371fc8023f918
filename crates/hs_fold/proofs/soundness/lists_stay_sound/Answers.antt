use Rattle.hs_fold.proofs.Shards.SoundLemmas.{blank-sound, whole-sound}
use Rattle.hs_fold.proofs.Runs.BlankLemmas.{blank-sound as blank-with_runs}
use Rattle.hs_fold.proofs.soundness.lists_stay_sound.Goals as goal

pub returns-clause-blank : goal.returns-clause-blank
returns-clause-blank c = λ set some. blank-sound set some

pub returns-clause-blank_with_runs : goal.returns-clause-blank_with_runs
returns-clause-blank_with_runs c = λ set some. blank-with_runs set some

pub returns-clause-behind : goal.returns-clause-behind
returns-clause-behind c = λ set lists count sound waits records views. whole-sound set lists count sound waits records views
