-- A run that runs no script.
use Rattle.std.specs.Prelude.{[], length, ◌≡◌}
use Rattle.hs_ports.specs.Objects.{CountsStand, KeepsTime}
use Rattle.hs_promise.specs.Run.{IsNoLoad, Ran}

-- it answers nothing and reads nothing from the source; time goes on, what is put has its moments, and no count falls
pub record RunsNoScript (r : Ran) : Type 0 where
  pub journal : r.journal ≡ []
  pub no_load : IsNoLoad r
  pub refused : r.refused ≡ []
  pub course : r.course ≡ []
  pub line : r.line ≡ 0
  pub left : r.new.left ≡ r.old.left
  pub handed_back : length r.new.disks ≡ length r.old.disks
  pub time : KeepsTime r.old r.new
  pub counts : CountsStand r.old r.new
