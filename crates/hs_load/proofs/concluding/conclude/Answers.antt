use Rattle.std.proofs.Common.{◌≡◌, ◌∙◌, ◌<◌, ◌^◌, ◌++◌, vec_len, List, [], Result, ap, sym, subst, refl, arith, drop, map, take, None, Option, Some, true, length}
use Rattle.std.specs.Prelude.{⊤}
use Rattle.std.proofs.lemmas.Bool.{false≢true}
use Rattle.std.proofs.lemmas.List.{length-map}
use Rattle.hs_book.specs.History.{NobodyJoins}
use Rattle.hs_cluster.specs.Resuming.{EndAsSealed}
use Rattle.hs_cluster.specs.Running.{Running}
use Rattle.hs_cluster.specs.declared.fault.ClusterFault.{ClusterFault}
use Rattle.hs_core_words.specs.State.{Core}
use Rattle.hs_peerlog.specs.Lists.{Keeping}
use Rattle.hs_promise.specs.declared.status.Status.{Status}
use Rattle.hs_run.specs.Between.{IsReadyAt}
use Rattle.hs_taking.specs.Disks.{AreReady, DiskSeen, seen_as}
use Rattle.hs_load.specs.Joined.{MayGoOn, team_of}
use Rattle.hs_load.specs.Judged.{AreSame, Team}
use Rattle.hs_load.specs.Judgement.{IsTold}
use Rattle.hs_load.specs.Loaded.{Cut, EndsWork, RunsLast, Stand, Unfit, refused_when}
use Rattle.hs_load.proofs.ConcludeLemmas.{ends_summed, ends_told, runs_last}
use Rattle.hs_load.proofs.ListLemmas.{written}
use Rattle.hs_load.proofs.RestLemmas.{may_there}
use Rattle.hs_load.proofs.concluding.conclude.Goals as goal
use Rattle.hs_load.proofs.concluding.conclude.Goals.{in-Ok, in-Err}

pub finish-did-requires-clause-ready : goal.finish-did-requires-clause-ready
finish-did-requires-clause-ready g c =
    let seen : g.row.D.Denot → DiskSeen = λ disk. seen_as (g.D.Disk.size disk) (g.D.Disk.stands disk) (g.D.Disk.faults disk) in
    let yes : c.can_resume.result ≡ true = c.if-not-can_resume.false in
    let line = c.last_line-line.ensures in
    let moment = c.can_resume.ensures.moment yes in
    let now = c.now.ensures.value in
    subst (λ (r : Running). IsReadyAt g.D.Disk.tells (record { now = c.args.watch.now; cluster = r; disks = map seen c.as_mut_slice.result.now; got = None; line = c.last_line-line.result })) (sym c.resume-cluster.ensures)
    (record {
      going = c.can_resume.ensures.going yes;
      last = omega (arith, line);
      moment = omega (arith, moment, now);
      count = length-map c.as_mut_slice.result.now seen ∙ c.as_mut_slice.ensures.len ∙ sym c.len.ensures ∙ c.can_resume.ensures.disks yes;
      ready = subst (λ xs. AreReady g.D.Disk.tells c.args.joined.peers.logs.items (map seen xs)) (sym c.as_mut_slice.ensures.value) c.requires.ready;
    })

pub finish-did-requires-clause-calm : goal.finish-did-requires-clause-calm
finish-did-requires-clause-calm g c = subst (λ (r : Running). NobodyJoins r.core) (sym c.resume-cluster.ensures) (c.can_resume.ensures.calm c.if-not-can_resume.false)

pub returns-clause-ticks : goal.returns-clause-ticks
returns-clause-ticks g c =
    let up = c.finish-did.ensures.ticks in
    elim c.match-did.branch [
      | in-Ok w ↦ (let on = w.put_summary-status.ensures.ticks in let is = w.watch-is in omega (arith, up, on, is))
      | in-Err w ↦ (let is = w.watch-is in omega (arith, up, is))
    ]

pub returns-in-Some-clause-ends : goal.returns-in-Some-clause-ends
returns-in-Some-clause-ends g c = λ load book named writers core rests so.
    let team : Team = team_of c.args.joined.peers c.args.joined.askers in (
      c.args.joined.core,
      c.outcome_of.ensures.journal,
      c.outcome_of.ensures.refused ∙ ap (λ (s : Status). refused_when s c.args.joined.core) (sym c.outcome_of.ensures.status),
      ends_told g.D.Disk.tells load book team _ _ c.args.joined.core _ c.in-Some.status (subst (λ (o : Option Status). IsTold load book team o) c.in-Some.is (c.status_of.ensures load book team so)) c.outcome_of.ensures.status (refl, refl) core refl,
    )

pub returns-then-not-can_resume-clause-ends : goal.returns-then-not-can_resume-clause-ends
returns-then-not-can_resume-clause-ends g c = λ load book named writers core rests so.
    let team : Team = team_of c.args.joined.peers c.args.joined.askers in
    let same : AreSame load book team = subst (λ (o : Option Status). IsTold load book team o) c.in_default.is (c.status_of.ensures load book team so) in
    let logs : c.as_slice.result.now ≡ c.args.joined.peers.logs.items = c.as_slice.ensures.value in
    let may : MayGoOn c.args.joined.core (length c.as_slice.result.now) c.len.result c.now.result
    = may_there book.core c.args.joined.core (length c.args.joined.peers.logs.items) (vec_len c.args.disks.now) c.args.watch.now _ _ _ (rests same.going) core (ap (λ (ls : List (Option Keeping)). length ls) logs) c.len.ensures c.now.ensures.value in (
      c.args.joined.core,
      c.outcome_of-then-not-can_resume.ensures.journal,
      c.outcome_of-then-not-can_resume.ensures.refused ∙ ap (λ (s : Status). refused_when s c.args.joined.core) (sym c.outcome_of-then-not-can_resume.ensures.status),
      Unfit same
          (λ fit low. false≢true (sym c.if-not-can_resume.true ∙ c.can_resume.ensures.only may
          (subst (λ (ls : List (Option Keeping)). EndAsSealed c.args.joined.core ls) (sym logs) (subst (λ (k : Core). EndAsSealed k team.logs) (sym core) fit))
          (subst (λ (k : Core). k.progress.last_line < 2 ^ 62) (sym core) low)))
          c.outcome_of-then-not-can_resume.ensures.status (refl, refl) core refl,
    )

pub returns-clause-ends : goal.returns-clause-ends
returns-clause-ends g c = λ load book named writers core rests so.
    let seen : g.row.D.Denot → DiskSeen = λ disk. seen_as (g.D.Disk.size disk) (g.D.Disk.stands disk) (g.D.Disk.faults disk) in
    let team : Team = team_of c.args.joined.peers c.args.joined.askers in
    let same : AreSame load book team = subst (λ (o : Option Status). IsTold load book team o) c.in_default.is (c.status_of.ensures load book team so) in
    let last = c.last_core-core.result.0 in
    let news = c.finish-did.new.disks in
    let count = c.finish-did.ensures.count in
    let len = c.as_mut_slice.ensures.len in
    let left : List DiskSeen = map seen c.args.disks.now.items in
    let new : List DiskSeen = map seen (take c.args.disks.now.len (news ++ drop (length news) c.args.disks.now.items)) in
    let back : take c.args.disks.now.len (news ++ drop (length news) c.args.disks.now.items) ≡ news = written c.args.disks.now.len news (drop (length news) c.args.disks.now.items) (omega (arith, count, len)) in
    let end : Stand = record { now = c.finish-did.new.watch; cluster = c.finish-did.new.cluster; disks = map seen news; line = c.finish-did.ensures.runs.0 } in
    let runs : RunsLast g.D.Disk.tells load book team left new last c.finish-did.result
    = runs_last g.D.Disk.tells load book team left new last c.finish-did.result (g.A.Addresser.name c.args.naming.now) c.args.watch.now c.last_line-line.result c.resume-cluster.result (map seen c.as_mut_slice.result.now) end c.finish-did.ensures.runs.1
    named (c.resume-cluster.ensures ∙ (λ i. record { core = core i; logs = team.logs; course = []; cache = None })) (ap (λ xs. map seen xs) c.as_mut_slice.ensures.value) (c.last_line-line.ensures ∙ ap (λ (k : Core). k.progress.last_line) core)
    c.last_core-core.ensures.core (ap (λ xs. map seen xs) back) (let moment = c.can_resume.ensures.moment c.if-not-can_resume.false in let now = c.now.ensures.value in let same = ap (λ (k : Core). k.moment) core in omega (arith, moment, now, same))
    (subst (λ (k : Core). EndAsSealed k team.logs) core (subst (λ (ls : List (Option Keeping)). EndAsSealed c.args.joined.core ls) c.as_slice.ensures.value (c.can_resume.ensures.lasts c.if-not-can_resume.false))) in (
      last,
      c.outcome_of-2.ensures.journal,
      c.outcome_of-2.ensures.refused ∙ ap (λ (s : Status). refused_when s last) (sym c.outcome_of-2.ensures.status),
      elim c.match-did.branch [
        | in-Ok w ↦ subst (λ sink. EndsWork g.D.Disk.tells load book team left new last (record { ending = c.outcome_of-2.result.status; old = g.K.Sink.got c.args.sink.now; new = g.K.Sink.got sink; old_faults = g.K.Sink.faults c.args.sink.now; new_faults = g.K.Sink.faults sink })) (sym w.sink-is)
            (ends_summed g.D.Disk.tells load book team left new last _ w.put_summary-status.result c.args.writers c.last_line-line.result w.as_slice-in-Ok.result.now same (subst (λ (r : Result ⊤ ClusterFault). RunsLast g.D.Disk.tells load book team left new last r) w.in-Ok.is runs) writers (c.last_line-line.ensures ∙ ap (λ (k : Core). k.progress.last_line) core) w.as_slice-in-Ok.ensures.value (c.outcome_of-2.ensures.status ∙ w.status-is) w.put_summary-status.ensures.puts)
        | in-Err w ↦ subst (λ sink. EndsWork g.D.Disk.tells load book team left new last (record { ending = c.outcome_of-2.result.status; old = g.K.Sink.got c.args.sink.now; new = g.K.Sink.got sink; old_faults = g.K.Sink.faults c.args.sink.now; new_faults = g.K.Sink.faults sink })) (sym w.sink-is)
            (Cut w.in-Err.fault same (subst (λ (r : Result ⊤ ClusterFault). RunsLast g.D.Disk.tells load book team left new last r) w.in-Err.is runs) (c.outcome_of-2.ensures.status ∙ w.status-is ∙ w.cluster_status-status.ensures) (refl, refl))
      ],
    )
