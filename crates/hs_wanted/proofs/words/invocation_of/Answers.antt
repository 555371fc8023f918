use Rattle.std.proofs.Common.{◌∙◌, ap, sym, arith, List, ℕ}
use Rattle.std.specs.Prelude.{string_bytes}
use Rattle.hs_script.specs.CommandLine.{invocation_of}
use Rattle.hs_wanted.proofs.WordsLemmas.{four_words}
use Rattle.hs_wanted.proofs.words.invocation_of.Goals as goal

pub returns-in-len4-up-clause-exact : goal.returns-in-len4-up-clause-exact
unfolding invocation_of
returns-in-len4-up-clause-exact c =
    let words = four_words (λ word. string_bytes word) c.args.words.now c.command-item.result c.dir-item.result c.shards-item.result c.copies-item.result (omega (arith, c.in-len4-up.len_at_least)) c.command-item.is c.dir-item.is c.shards-item.is c.copies-item.is in
    let asked = rw (c.as_bytes.ensures.value, c.as_str.ensures.value, c.as_bytes-in-len4-up.ensures.value, c.as_bytes-in-len4-up-2.ensures.value) at c.invocation_by.ensures.exact in
    asked ∙ sym (ap (λ (w : List (List ℕ)). invocation_of w) words)
