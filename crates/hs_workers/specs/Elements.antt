-- What those that work beside each other come to.
use Rattle.std.specs.Prelude.{◌≡◌, ◌≤◌, ℕ, List, length, drop, None, IfOk}
use Rattle.hs_limits.specs.declared.address.Address.{Address}
use Rattle.hs_ports.specs.declared.disk.Side.{Side}
use Rattle.hs_ports.specs.Disk.{Standing}
use Rattle.hs_peerlog.specs.Lists.{IsReady}
use Rattle.hs_script.specs.Loads.{asked_behind, deletion_behind, session_name, writer_of}
use Rattle.hs_desk.specs.declared.slip.Slip.{Slip}
use Rattle.hs_desk.specs.declared.token.Token.{Token}
use Rattle.hs_workers.specs.Asks.{HasEnded, sum_of}
use Rattle.hs_workers.specs.Work.{WorkEnds, bench_of}
use Rattle.hs_workers.specs.declared.element.Element.{Element}
use Rattle.hs_workers.specs.declared.element.Element.TheVariants as element

module _ {S P D : Type 0} (seat : S → Slip) (pass : P → Token) (tells : Type 0) (size : D → Side → ℕ) (stands : D → Standing) where
  -- a worker to which nothing was handed out, over a log that is in place on its disk; a writer in its own session, or the deleter, that has asked nothing
  abbrev pub CanBegin : Element S P D → Type 0
  CanBegin (element.Worker w) = ((seat w.seat).fault ≡ None) × ((seat w.seat).work ≡ None) × IsReady tells w.log (size w.disk w.log.log.side) (stands w.disk)
  CanBegin (element.Writer w) = ((pass w.pass).fault ≡ None) × ((pass w.pass).asked ≡ None) × ((pass w.pass).session ≡ session_name w.number)
  CanBegin (element.Deleter w) = ((pass w.pass).fault ≡ None) × ((pass w.pass).asked ≡ None)

  module _ (faults : D → ℕ) (name : List ℕ → Address) (seed files : ℕ) where
    -- each did its own work, of which it has the end
    abbrev pub HasCome : Element S P D → Element S P D → Type 0
    HasCome (element.Worker a) (element.Worker b) =
        WorkEnds tells (seat a.seat) (seat b.seat) (bench_of size stands faults a.log a.disk) (bench_of size stands faults b.log b.disk) b.ended
        × (a.watch ≤ b.watch)
    HasCome (element.Writer a) (element.Writer b) =
        (b.number ≡ a.number)
        × HasEnded (asked_behind (writer_of name seed a.number files)) (pass a.pass) (pass b.pass) b.ended
        × IfOk b.ended (λ sum. sum ≡ sum_of (drop (length (pass a.pass).kept) (pass b.pass).kept))
    HasCome (element.Deleter a) (element.Deleter b) = HasEnded deletion_behind (pass a.pass) (pass b.pass) b.ended
    HasCome (element.Worker a) (element.Writer b) = ⊥
    HasCome (element.Worker a) (element.Deleter b) = ⊥
    HasCome (element.Writer a) (element.Worker b) = ⊥
    HasCome (element.Writer a) (element.Deleter b) = ⊥
    HasCome (element.Deleter a) (element.Worker b) = ⊥
    HasCome (element.Deleter a) (element.Writer b) = ⊥
