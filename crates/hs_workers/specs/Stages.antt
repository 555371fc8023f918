-- Where a writer stands, as its value has it.
use Rattle.hs_script.specs.Loads.{Stage, dropping, opening, rooting, writing}
use Rattle.hs_workers.specs.declared.stage.Stage.{Stage as Held}
use Rattle.hs_workers.specs.declared.stage.Stage.TheVariants as stage

abbrev pub stage_told : Held → Stage
stage_told stage.Opening = opening
stage_told (stage.Writing file leaves) = writing file leaves
stage_told (stage.Rooting file handle) = rooting file handle
stage_told (stage.Dropping file) = dropping file
