-- What a stop leaves of a whole that stands reopens.
use Rattle.std.proofs.Common.{◌≡◌, sym, subst, List, length}
use Rattle.hs_events.specs.Whole.{Whole}
use Rattle.hs_fold.specs.Shards.Images.{AreGoodImages, Image, Stop}
use Rattle.hs_journal.specs.declared.entry.JournalEntry.{JournalEntry}
use Rattle.hs_journal.specs.Moments.{below}
use Rattle.hs_limits.specs.Shape.{IsShape}
use Rattle.hs_moments.specs.Joint.{AtMoment}
use Rattle.hs_moments.specs.WholeMachine.{whole_machine}
use Rattle.hs_standing.proofs.StandLemmas.{NoLineWaitsTwice, whole_stands}
use Rattle.hs_standing.specs.Standing.{AreBegun, IsStateAt, WholeStands}
use Rattle.hs_standing.proofs.ImageLemmas.{images_reopen}
use Rattle.hs_standing.specs.Reopens.{Reopens}
use Rattle.hs_standing.specs.Stands.{StandsWhereGood}
use Rattle.hs_standing.specs.Start.{Start}

-- a moment of a run of which this is the state
pub reopens_where : (start : Start) (stop : Stop) (journal : List JournalEntry) (images : List Image) (c : Whole) → IsShape start.set.shape → start.set.shape.copies ≡ 1 → length stop.disks ≡ start.set.shape.shards
    → AtMoment whole_machine (IsStateAt c) start.set.shape stop.course journal stop.moment stop.disks → StandsWhereGood whole_machine start stop c → AreGoodImages start.set.shape stop images
    → Reopens start stop (below stop.moment journal) images
reopens_where start stop journal images c shape one peers at owed good =
    images_reopen whole_machine (IsStateAt c) start stop journal shape one peers at (subst (λ (d : Whole). StandsWhereGood whole_machine start stop d) (sym at.tells.sane) owed) images good

pub reopens_there : (start : Start) (stop : Stop) (journal : List JournalEntry) (images : List Image) (c : Whole) → NoLineWaitsTwice → IsShape start.set.shape → start.set.shape.copies ≡ 1 → length stop.disks ≡ start.set.shape.shards
    → AtMoment whole_machine (IsStateAt c) start.set.shape stop.course journal stop.moment stop.disks → WholeStands start c → AreBegun start stop c.core → AreGoodImages start.set.shape stop images
    → Reopens start stop (below stop.moment journal) images
reopens_there start stop journal images c alone shape one peers at stands begun good =
    reopens_where start stop journal images c shape one peers at (λ each. whole_stands start c stands stop begun alone) good
