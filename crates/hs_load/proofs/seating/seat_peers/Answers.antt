use Rattle.std.proofs.Common.{rules, ◌≡◌, ◌∙◌, ◌++◌, [], ◌∷◌, ◌<◌, ap, sym, refl, ℕ, ◌+◌, None, get_or, length, map, arith}
use Rattle.hs_peerlog.specs.Lists.{Keeping}
use Rattle.hs_ports.specs.MemoryDisk.{untold}
use Rattle.hs_taking.specs.Disks.{DiskSeen, log_at, seen_as, seen_at}
use Rattle.hs_load.proofs.ListLemmas.{map_at, map_length, popped_at, popped_front, popped_low, snoc_length}
use Rattle.hs_load.proofs.seating.seat_peers.Goals as goal

pub loop-turn-preserved : goal.loop-turn-preserved
loop-turn-preserved g c =
    let disks = c.loop-turn.invariant.disks in
    let logs = c.loop-turn.invariant.logs in
    let disk_is = c.in-Some.ensures.items in
    let log_is = c.in-Some-pop.ensures.items in
    let rest = c.pop.new.self.items in
    let left = c.pop-in-loop-turn.new.self.items in
    let disk : g.row.D.Denot = c.in-Some.disk in
    let log = c.in-Some-pop.log in
    let seen : g.row.D.Denot → DiskSeen = λ disk. seen_as (g.D.Disk.size disk) (g.D.Disk.stands disk) (g.D.Disk.faults disk) in
    let olds = c.args.disks.items in
    let slots = c.args.logs.items in
    let one : length c.loop-turn.disks.items ≡ length rest + 1 = snoc_length rest c.loop-turn.disks.items disk (length rest) disk_is refl in
    let two : length c.loop-turn.logs.items ≡ length left + 1 = snoc_length left c.loop-turn.logs.items log (length left) log_is refl in
    let both = c.loop-turn.invariant.same in
    let same : length left ≡ length rest = omega (arith, one, two, both) in
    let peer : c.in-Ok.peer ≡ length rest = search rules in
    let low : c.in-Ok.peer < length olds = let l = popped_low olds c.loop-turn.disks.items rest disk (length c.loop-turn.disks.items) disks disk_is in omega (arith, l, peer) in
    let within : c.in-Ok.peer < length (map seen olds) = let e = map_length seen olds in omega (arith, e, low) in
    let log_there : log_at slots c.in-Ok.peer ≡ log
    = ap (λ (n : ℕ). get_or slots n None) (peer ∙ sym same) ∙ popped_at slots c.loop-turn.logs.items left log (length c.loop-turn.logs.items) logs log_is None in
    let disk_there : seen_at (map seen olds) c.in-Ok.peer ≡ seen disk
    = map_at seen olds c.in-Ok.peer disk (record { size = λ side. 0; stands = untold; faults = 0 }) low
    ∙ ap (λ (n : ℕ). seen (get_or olds n disk)) peer ∙ ap seen (popped_at olds c.loop-turn.disks.items rest disk (length c.loop-turn.disks.items) disks disk_is disk) in
    record {
      disks = popped_front olds c.loop-turn.disks.items rest disk (length c.loop-turn.disks.items) disks disk_is;
      same = same;
      logs = popped_front slots c.loop-turn.logs.items left log (length c.loop-turn.logs.items) logs log_is;
      seated = λ task all. c.in_ok-seat_peer.ensures.seated slots (map seen olds) task within log_there disk_there (c.loop-turn.invariant.seated task all);
      back = λ all. c.in_ok-seat_peer.ensures.back slots (map seen olds) log_there disk_there (c.loop-turn.invariant.back all);
      count = search rules;
    }
