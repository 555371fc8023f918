use Rattle.std.proofs.Common.{◌∙◌, ap, sym, arith, bytes_eq}
use Rattle.std.specs.Prelude.{string_bytes}
use Rattle.hs_wanted.proofs.OptionLemmas.{few_named, two_named}
use Rattle.hs_wanted.proofs.options.is_named.Goals as goal

pub returns-then-eq : goal.returns-then-eq
returns-then-eq c =
    let read = two_named (λ word. string_bytes word) c.args.name.now c.words.rest.now c.word-item.result (omega (arith, c.in-len2-up.len_at_least)) c.word-item.is in
    let same = ap (λ bytes. bytes_eq bytes c.args.name.now) (sym c.as_bytes.ensures.value) ∙ (sym c.eq.ensures ∙ c.if-eq.true) in
    sym (c.words.invariant ∙ rw same at read)

pub words-preserved : goal.words-preserved
words-preserved c =
    let read = two_named (λ word. string_bytes word) c.args.name.now c.words.rest.now c.word-item.result (omega (arith, c.in-len2-up.len_at_least)) c.word-item.is in
    let other = ap (λ bytes. bytes_eq bytes c.args.name.now) (sym c.as_bytes.ensures.value) ∙ (sym c.eq.ensures ∙ c.if-eq.false) in
    c.words.invariant ∙ rw other at read

pub returns : goal.returns
returns c = sym (c.words.invariant ∙ few_named (λ word. string_bytes word) c.args.name.now c.words.rest.now (omega (arith, c.in_default.len_below)))
