use Rattle.hs_kept.proofs.MomentLemmas.{MomentLaws, asked_then}
use Rattle.hs_kept.proofs.pending.what_is_pending_is_asked.Goals as goal

pub returns : goal.returns
returns c =
    let laws : MomentLaws = record {
      opens = c.a_run_stands.ensures.opens;
      stands = c.a_run_stands.ensures.keeps;
      soundly = c.a_run_stands.ensures.soundly;
      running = c.a_run_goes_on.ensures.opens;
      goes_on = λ start. c.a_run_goes_on.ensures.goes_on start;
    } in
    λ S r story on shown going may m during images count. asked_then laws S r story on shown going may m during images count
