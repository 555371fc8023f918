-- What a run shows of how it ended.
use Rattle.std.specs.Prelude.{ℕ, ◌≡◌}
use Rattle.hs_promise.specs.Causes.{Cause}
use Rattle.hs_promise.specs.declared.status.Status.TheVariants as status
use Rattle.hs_promise.specs.Run.{Ran, Script}
use Rattle.hs_promise.specs.Shapes.{IsFoundOther}
use Rattle.hs_side.specs.declared.header.Header.{Header}

-- its status has its cause, it is no faulty command line, and disks of another store are what it says
pub record HasItsCause (S : Script) (r : Ran) : Type 0 where
  pub cause : Cause S r r.ending
  pub asked : r.ending ≡ status.Usage → ⊥
  pub shape : (peer : ℕ) (found : Header) → r.ending ≡ status.WrongShape peer found → IsFoundOther S r peer found
