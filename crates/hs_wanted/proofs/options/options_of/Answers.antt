use Rattle.std.proofs.Common.{◌∙◌, ap, sym, arith, List, ℕ, Option, Some, []}
use Rattle.std.specs.Prelude.{string_bytes}
use Rattle.hs_script.specs.CommandLine.{with_options}
use Rattle.hs_script.specs.declared.invocation.Options.{Options}
use Rattle.hs_wanted.proofs.OptionLemmas.{behind, few_options, none_stays, once, twice, two_words}
use Rattle.hs_wanted.proofs.options.options_of.Goals as goal

pub returns-then-is_named-clause-exact : goal.returns-then-is_named-clause-exact
returns-then-is_named-clause-exact c =
    let read = two_words (λ word. string_bytes word) c.options.rest.now c.name-item.result c.value-item.result (omega (arith, c.in-len2-up.len_at_least)) c.name-item.is c.value-item.is in
    let named = rw c.as_bytes.ensures.value at (sym c.is_named.ensures ∙ c.if-is_named.true) in
    sym (c.options.invariant.1 ∙ ap (λ (words : List (List ℕ)). with_options c.args.which [] words (Some c.options.options)) read
    ∙ twice c.args.which (string_bytes c.name-item.result) (string_bytes c.value-item.result) (behind (λ word. string_bytes word) c.options.rest.now) (Some c.options.options) named)

pub options-preserved : goal.options-preserved
options-preserved c =
    let read = two_words (λ word. string_bytes word) c.options.rest.now c.name-item.result c.value-item.result (omega (arith, c.in-len2-up.len_at_least)) c.name-item.is c.value-item.is in
    let apart = rw c.as_bytes.ensures.value at (sym c.is_named.ensures ∙ c.if-is_named.false) in
    let lowered = rw (c.as_bytes-in-len2-up.ensures.value, c.as_bytes-in-len2-up-2.ensures.value) at (sym c.with_option.ensures.exact ∙ c.in-Some.is) in
    let kept = rw c.in-Some.is at (c.with_option.ensures.bounds c.options.invariant.0) in (
      kept,
      c.options.invariant.1 ∙ ap (λ (words : List (List ℕ)). with_options c.args.which [] words (Some c.options.options)) read
          ∙ once c.args.which (string_bytes c.name-item.result) (string_bytes c.value-item.result) (behind (λ word. string_bytes word) c.options.rest.now) (Some c.options.options) apart
          ∙ ap (λ (options : Option Options). with_options c.args.which [] (behind (λ word. string_bytes word) c.options.rest.now) options) lowered,
    )

pub returns-in-None-clause-exact : goal.returns-in-None-clause-exact
returns-in-None-clause-exact c =
    let read = two_words (λ word. string_bytes word) c.options.rest.now c.name-item.result c.value-item.result (omega (arith, c.in-len2-up.len_at_least)) c.name-item.is c.value-item.is in
    let apart = rw c.as_bytes.ensures.value at (sym c.is_named.ensures ∙ c.if-is_named.false) in
    let lowered = rw (c.as_bytes-in-len2-up.ensures.value, c.as_bytes-in-len2-up-2.ensures.value) at (sym c.with_option.ensures.exact ∙ c.in-None.is) in
    sym (c.options.invariant.1 ∙ ap (λ (words : List (List ℕ)). with_options c.args.which [] words (Some c.options.options)) read
    ∙ once c.args.which (string_bytes c.name-item.result) (string_bytes c.value-item.result) (behind (λ word. string_bytes word) c.options.rest.now) (Some c.options.options) apart
    ∙ ap (λ (options : Option Options). with_options c.args.which [] (behind (λ word. string_bytes word) c.options.rest.now) options) lowered
    ∙ none_stays c.args.which [] (behind (λ word. string_bytes word) c.options.rest.now))

pub returns-then-is_empty-clause-exact : goal.returns-then-is_empty-clause-exact
returns-then-is_empty-clause-exact c =
    let few = few_options (λ word. string_bytes word) c.args.which c.options.rest.now (Some c.options.options) (omega (arith, c.in_default.len_below)) in
    sym (c.options.invariant.1 ∙ rw (sym c.is_empty.ensures ∙ c.if-is_empty.true) at few)

pub returns-else-is_empty-clause-exact : goal.returns-else-is_empty-clause-exact
returns-else-is_empty-clause-exact c =
    let few = few_options (λ word. string_bytes word) c.args.which c.options.rest.now (Some c.options.options) (omega (arith, c.in_default.len_below)) in
    sym (c.options.invariant.1 ∙ rw (sym c.is_empty.ensures ∙ c.if-is_empty.false) at few)
