use Rattle.std.proofs.lemmas.Result.{err_from_is_err_and}
use Rattle.std.proofs.Common.{◌≡◌, arith, inl, inr, rules, subst}
use Rattle.hs_copy.proofs.DueLemmas.{deletes_then, forgets_so, on_ok_on, on_then}
use Rattle.hs_copy.specs.Due.{count_of}
use Rattle.hs_copy.proofs.RootLemmas.{broken_more}
use Rattle.hs_copy.proofs.StepLemmas.{err_map}
use Rattle.hs_copy.specs.Rounds.{AreForgettable, Forgets, RoundIs, RoundStops, RoundsStop}
use Rattle.hs_copy.specs.Rounds.RoundsStop.{in_forgets, in_round}
use Rattle.hs_copy.proofs.write.write_rounds.Goals as goal

pub returns-in_err-try_round-clause-err : goal.returns-in_err-try_round-clause-err
returns-in_err-try_round-clause-err g c =
    let p = err_from_is_err_and c.from_residual.result c.from_residual.ensures.1 in
    rw (p.1, p.2) (in_round c.rounds.broken c.rounds.invariant.most (g.B.Asker.shows c.rounds.asker) c.rounds.deleting.asked c.try_round.new.deleting.asked c.try_round.new.nodes.items c.rounds.invariant.broken c.in_err-try_round.ensures.err (inr c.in_err-try_round.ensures.caught))

pub returns-in_err-forget_all-clause-err : goal.returns-in_err-forget_all-clause-err
returns-in_err-forget_all-clause-err g c =
    let p = err_from_is_err_and c.from_residual-in_err-forget_all.result c.from_residual-in_err-forget_all.ensures.1 in
    let s = subst (λ z. RoundIs (g.A.Addresser.name c.args.naming.now) c.args.key.now (g.B.Asker.shows c.rounds.asker) (g.B.Asker.shows c.try_round.new.asker) c.args.placed.now c.try_round.new.nodes.items c.rounds.deleting.asked c.try_round.new.deleting.asked z) c.if-branch.false c.in_ok-try_round.ensures.ok in
    rw (p.1, p.2) (in_forgets c.rounds.broken c.rounds.invariant.most (g.B.Asker.shows c.rounds.asker) (g.B.Asker.shows c.try_round.new.asker) c.rounds.deleting.asked c.try_round.new.deleting.asked c.try_round.new.nodes.items c.rounds.invariant.broken s c.try_round.ensures.few c.in_err-forget_all.ensures.err
    (subst (λ z. AreForgettable (g.A.Addresser.name c.args.naming.now) (g.B.Asker.shows c.try_round.new.asker) z c.in_err-forget_all.field-0.0) c.deref.ensures.value c.in_err-forget_all.ensures.granted))

pub rounds-preserved : goal.rounds-preserved
rounds-preserved g c =
    let s = subst (λ z. RoundIs (g.A.Addresser.name c.args.naming.now) c.args.key.now (g.B.Asker.shows c.rounds.asker) (g.B.Asker.shows c.try_round.new.asker) c.args.placed.now c.try_round.new.nodes.items c.rounds.deleting.asked c.try_round.new.deleting.asked z) c.if-branch.false c.in_ok-try_round.ensures.ok in
    record {
      broken = broken_more (g.A.Addresser.name c.args.naming.now) c.args.key.now c.args.placed.now (g.B.Asker.shows c.args.asker.now) (g.B.Asker.shows c.rounds.asker) (g.B.Asker.shows c.try_round.new.asker) (g.B.Asker.shows c.forget_all.new.asker) c.rounds.broken c.args.deleting.now.asked c.rounds.deleting.asked c.try_round.new.deleting.asked c.try_round.new.nodes.items c.rounds.invariant.broken s
          (subst (λ z. Forgets (g.A.Addresser.name c.args.naming.now) (g.B.Asker.shows c.try_round.new.asker) (g.B.Asker.shows c.forget_all.new.asker) z) c.deref.ensures.value c.in_ok-forget_all.ensures.ok);
      due = forgets_so (g.A.Addresser.name c.args.naming.now) (count_of c.args.deleting.now) (count_of c.try_round.new.deleting) (g.B.Asker.shows c.args.asker.now) (g.B.Asker.shows c.try_round.new.asker) (g.B.Asker.shows c.forget_all.new.asker) _
          (deletes_then (count_of c.args.deleting.now) (count_of c.rounds.deleting) (count_of c.try_round.new.deleting) (g.B.Asker.shows c.args.asker.now) (g.B.Asker.shows c.rounds.asker) (g.B.Asker.shows c.try_round.new.asker) c.rounds.invariant.due c.in_ok-try_round.ensures.due)
          c.in_ok-forget_all.ensures.ok;
      most = omega (arith, c.rounds-test.true);
      few = c.try_round.ensures.few;
    }

pub returns-clause-err : goal.returns-clause-err
returns-clause-err g c =
    let four : c.rounds.broken ≡ 4 = search rules in
    err_map (λ f. RoundStops (g.A.Addresser.name c.args.naming.now) c.args.key.now (g.B.Asker.shows c.rounds.asker) (g.B.Asker.shows c.write_round.new.asker) c.args.placed.now c.write_round.new.nodes.items c.rounds.deleting.asked c.write_round.new.deleting.asked f)
    (λ f. RoundsStop (g.A.Addresser.name c.args.naming.now) c.args.key.now (g.B.Asker.shows c.args.asker.now) (g.B.Asker.shows c.write_round.new.asker) c.args.placed.now c.args.deleting.now.asked f) c.write_round.result
    (λ f h. in_round c.rounds.broken c.rounds.invariant.most (g.B.Asker.shows c.rounds.asker) c.rounds.deleting.asked c.write_round.new.deleting.asked c.write_round.new.nodes.items c.rounds.invariant.broken h (inl four)) c.write_round.ensures.err

pub returns-clause-due : goal.returns-clause-due
returns-clause-due g c = on_ok_on (count_of c.args.deleting.now) (count_of c.rounds.deleting) (count_of c.write_round.new.deleting) (g.B.Asker.shows c.args.asker.now) (g.B.Asker.shows c.rounds.asker) (g.B.Asker.shows c.write_round.new.asker) c.write_round.result c.rounds.invariant.due c.write_round.ensures.due

pub returns-then-branch-clause-due : goal.returns-then-branch-clause-due
returns-then-branch-clause-due g c = on_then (count_of c.args.deleting.now) (count_of c.rounds.deleting) (count_of c.try_round.new.deleting) (g.B.Asker.shows c.args.asker.now) (g.B.Asker.shows c.rounds.asker) (g.B.Asker.shows c.try_round.new.asker) c.rounds.invariant.due c.in_ok-try_round.ensures.due
