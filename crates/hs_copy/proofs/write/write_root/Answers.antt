use Rattle.hs_copy.proofs.StepLemmas.{err_map, open_holds}
use Rattle.hs_copy.proofs.DueLemmas.{begins_at_rest, opened_on}
use Rattle.std.proofs.Common.{subst}
use Rattle.std.proofs.lemmas.Result.{err_from_is_err_and}
use Rattle.hs_copy.proofs.CauseLemmas.{open_unrefused, rounds_cause}
use Rattle.hs_copy.specs.Calls.{CallFails}
use Rattle.hs_copy.specs.Rounds.{IsWriteCause, RootStops, RoundsStop}
use Rattle.hs_copy.specs.Rounds.RootStops.{opened}
use Rattle.hs_model.specs.declared.op.Op.TheVariants as op
use Rattle.hs_model.specs.declared.reply.Reply.TheVariants as reply
use Rattle.hs_tree.specs.Calls.{Hears}
use Rattle.hs_copy.proofs.write.write_root.Goals as goal

pub write_rounds-requires-clause-holds : goal.write_rounds-requires-clause-holds
write_rounds-requires-clause-holds g c = open_holds (g.A.Addresser.name c.args.naming.now) (g.B.Asker.shows c.args.asker.now) (g.B.Asker.shows c.open.new.asker) c.args.session.now c.requires.ours c.requires.idle c.known.ensures c.in_ok-open.ensures.ok

pub returns-clause-err : goal.returns-clause-err
returns-clause-err g c =
    err_map (λ f. RoundsStop (g.A.Addresser.name c.args.naming.now) c.args.key.now (g.B.Asker.shows c.open.new.asker) (g.B.Asker.shows c.write_rounds.new.asker) c.args.placed.now 0 f)
    (λ f. RootStops (g.A.Addresser.name c.args.naming.now) c.args.key.now (g.B.Asker.shows c.args.asker.now) (g.B.Asker.shows c.write_rounds.new.asker) c.args.placed.now f) c.write_rounds.result
    (λ f h. opened (g.B.Asker.shows c.open.new.asker) (subst (λ z. Hears (g.B.Asker.shows c.args.asker.now) (g.B.Asker.shows c.open.new.asker) (op.Open z) reply.Ok) c.requires.ours c.in_ok-open.ensures.ok) h) c.write_rounds.ensures.err

pub write_rounds-requires-clause-rest : goal.write_rounds-requires-clause-rest
write_rounds-requires-clause-rest g c = begins_at_rest c.args.every

pub returns-clause-due : goal.returns-clause-due
returns-clause-due g c = opened_on (record { every = c.args.every; since = 0; asked = 0 }) (g.B.Asker.shows c.args.asker.now) (g.B.Asker.shows c.open.new.asker) (g.B.Asker.shows c.write_rounds.new.asker) c.args.session.now c.write_rounds.result (begins_at_rest c.args.every) c.in_ok-open.ensures.ok c.write_rounds.ensures.due

pub returns-clause-cause : goal.returns-clause-cause
returns-clause-cause g c =
    let h = subst (λ z. Hears (g.B.Asker.shows c.args.asker.now) (g.B.Asker.shows c.open.new.asker) (op.Open z) reply.Ok) c.requires.ours c.in_ok-open.ensures.ok in
    err_map (λ f. RoundsStop (g.A.Addresser.name c.args.naming.now) c.args.key.now (g.B.Asker.shows c.open.new.asker) (g.B.Asker.shows c.write_rounds.new.asker) c.args.placed.now 0 f)
    (λ f. IsWriteCause c.args.key.now (g.B.Asker.shows c.args.asker.now) f) c.write_rounds.result
    (λ f r. rounds_cause (g.A.Addresser.name c.args.naming.now) (g.B.Asker.shows c.args.asker.now) c.requires.idle c.known.ensures c.args.key.now c.args.placed.now (g.B.Asker.shows c.open.new.asker) (g.B.Asker.shows c.write_rounds.new.asker) h f r) c.write_rounds.ensures.err

pub returns-in_err-open-clause-cause : goal.returns-in_err-open-clause-cause
returns-in_err-open-clause-cause g c =
    let p = err_from_is_err_and c.from_residual.result c.from_residual.ensures.1 in
    rw (p.1, p.2) (open_unrefused (g.A.Addresser.name c.args.naming.now) (g.B.Asker.shows c.args.asker.now) c.requires.idle c.known.ensures c.args.key.now (g.B.Asker.shows c.open.new.asker) c.in_err-open.field-0.0
    (subst (λ z. CallFails (g.B.Asker.shows c.args.asker.now) (g.B.Asker.shows c.open.new.asker) (op.Open z) c.in_err-open.field-0.0) c.requires.ours c.in_err-open.ensures.err))
