use Rattle.std.proofs.Common.{◌<◌, length, arith}
use Rattle.std.proofs.lemmas.Bool.Decides.{nat_tests}
use Rattle.hs_script.specs.Giving.{more_words}
use Rattle.hs_script.proofs.WordsLemmas.{only_more}
use Rattle.hs_script.proofs.words.only_word.Goals as goal

pub returns-else-is_empty : goal.returns-else-is_empty
returns-else-is_empty c =
    let some : 0 < length c.in-Some.more.now = grind (arith, nat_tests) in
    only_more (more_words c.args.rest.now) c.in-Some.word.now c.in-Some.more.now c.in-Some.ensures.words some
