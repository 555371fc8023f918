use Rattle.hs_tree.proofs.CallLemmas.{judged_where}
use Rattle.hs_copy.proofs.calls.ask.Goals as goal

pub returns-in-Ok : goal.returns-in-Ok
returns-in-Ok g c =
    let old = g.B.Asker.shows c.args.asker.now in
    let new = g.B.Asker.shows c.ask.new.self in
    let h = c.in-Ok.ensures.told in
    record {
      told = record {
        asked = c.ask.ensures.asked;
        going = c.in-Ok.ensures.going;
        began = c.ask.ensures.began;
        judged = judged_where old new c.args.op c.in-Ok.told c.ask.ensures.began c.known.ensures c.requires.named.1 h;
        entry = h;
        begun = c.ask.ensures.begun;
      };
      err = tt;
      core = tt;
    }
