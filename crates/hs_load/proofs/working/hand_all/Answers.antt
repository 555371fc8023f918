use Rattle.std.proofs.Common.{rules, ◌≡◌, ◌∙◌, ◌<◌, ◌+◌, length, ap, sym, vec_len, arith}
use Rattle.hs_taking.specs.Disks.{seen_as}
use Rattle.hs_load.proofs.JoinLemmas.{askers_none}
use Rattle.hs_load.proofs.ListLemmas.{map_length}
use Rattle.hs_load.proofs.working.hand_all.Goals as goal

pub returns-clause-worked : goal.returns-clause-worked
returns-clause-worked g c = λ slots old now task count long came back.
    let told = c.in_ok-told.told in
    let peers = c.in_ok-peers.peers in
    let askers = c.in_ok-askers.askers in
    let all_back = c.in_ok-gather_all.ensures.back slots old now task came back in
    let all_told = c.in_ok-gather_all.ensures.told slots old now task count came (askers_none task _ told.items c.in_ok-told.ensures.items) in
    let one : vec_len c.gather_all.new.back ≡ vec_len c.args.seated.back = c.in_ok-gather_all.ensures.back_count in
    let n = c.in_ok-told.ensures.count in
    let m = c.in_ok-gather_all.ensures.told_count in
    let w = c.from.ensures in
    let two : vec_len c.gather_all.new.told ≡ c.args.writers + 1 = omega (arith, n, m, w) in
    let disks_count = c.in_ok-peers.ensures.count in
    let stored_count = c.in_ok-peers.ensures.stored in
    let stops_count = c.in_ok-peers.ensures.stops in
    let logs_count = c.in_ok-peers.ensures.logs in
    let kept_count = c.in_ok-askers.ensures.kept in
    let ends_count = c.in_ok-askers.ensures.ends in
    record {
      count = let e = map_length (λ (disk : g.row.D.Denot). seen_as (g.D.Disk.size disk) (g.D.Disk.stands disk) (g.D.Disk.faults disk)) c.hand_peers.new.disks.items in omega (arith, e, disks_count, one, long, c.hand_peers.new.disks.ok.0);
      stored = omega (arith, stored_count, one, long, peers.stored.ok.0);
      stops = omega (arith, stops_count, one, long, peers.stops.ok.0);
      logs = omega (arith, logs_count, one, long, peers.logs.ok.0);
      peers = λ peer given stop low. c.in_ok-peers.ensures.each slots old all_back peer given stop (omega (arith, low, one, long));
      kept = omega (arith, kept_count, two, count, askers.kept.ok.0);
      ends = omega (arith, ends_count, two, count, askers.ends.ok.0);
      askers = λ number given end low. c.in_ok-askers.ensures.each task all_told number given end (omega (arith, low, two, count));
    }
