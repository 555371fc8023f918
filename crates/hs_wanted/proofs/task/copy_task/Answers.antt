use Rattle.std.proofs.Common.{◌∙◌, ap, sym, arith, List, ℕ}
use Rattle.std.specs.Prelude.{string_bytes}
use Rattle.hs_script.specs.CommandLine.{copy_task}
use Rattle.hs_wanted.proofs.WordsLemmas.{four_words}
use Rattle.hs_wanted.proofs.task.copy_task.Goals as goal

pub returns-in-len4-up-clause-exact : goal.returns-in-len4-up-clause-exact
returns-in-len4-up-clause-exact c =
    let words = four_words (λ word. string_bytes word) c.args.words.now c.key-item.result c.dir-item.result c.shards-item.result c.copies-item.result (omega (arith, c.in-len4-up.len_at_least)) c.key-item.is c.dir-item.is c.shards-item.is c.copies-item.is in
    let asked = rw (c.as_bytes.ensures.value, c.as_str.ensures.value, c.as_bytes-in-len4-up.ensures.value, c.as_bytes-in-len4-up-2.ensures.value) at c.copy_by.ensures.exact in
    asked ∙ sym (ap (λ (w : List (List ℕ)). copy_task w) words)
