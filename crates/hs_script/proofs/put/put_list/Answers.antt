use Rattle.std.proofs.lemmas.Result.{IfOk-equal}
use Rattle.hs_script.proofs.TextLemmas.{list_text_at, put_in_two}
use Rattle.hs_script.proofs.put.put_list.Goals as goal

pub returns-in_ok-write-in-len1-up : goal.returns-in_ok-write-in-len1-up
returns-in_ok-write-in-len1-up c =
    let first = c.in_ok-write-in-len1-up.ensures.bytes in
    let all = list_text_at c.args.numbers.now c.in-len1-up.len_at_least in
    IfOk-equal c.put_rest.result _ _ _ c.put_rest.ensures (put_in_two _ _ _ _ _ first all)
