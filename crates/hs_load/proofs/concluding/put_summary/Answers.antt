use Rattle.std.proofs.Common.{rules, ◌∙◌, ◌≡◌, List, ℕ, ap, subst, sym, refl}
use Rattle.std.proofs.lemmas.Bool.{false≢true}
use Rattle.hs_ports.specs.Putting.{PutsFront}
use Rattle.hs_ports.specs.Sink.{bytes_of, followed}
use Rattle.hs_script.specs.Summary.{summary_text}
use Rattle.hs_load.specs.Loaded.{Put, Unagreed, Unput}
use Rattle.hs_load.specs.Tallied.{HasTallied, blocks_in, roots_in}
use Rattle.hs_load.proofs.concluding.put_summary.Goals as goal

pub returns-then-not-has_tallied-clause-puts : goal.returns-then-not-has_tallied-clause-puts
returns-then-not-has_tallied-clause-puts g c =
    Unagreed c.in-Ok.sums.items c.in-Ok.ensures
    (λ tallied. false≢true (sym c.if-not-has_tallied.true ∙ c.has_tallied.ensures.only (subst (λ sums. HasTallied sums c.args.core.now c.args.line) (sym c.as_slice.ensures.value) tallied)))
    refl (refl, refl)

pub returns-in-Ok-put_all-clause-puts : goal.returns-in-Ok-put_all-clause-puts
returns-in-Ok-put_all-clause-puts g c =
    let is : c.as_slice-3.result.now ≡ summary_text c.in-Ok.sums.items (roots_in c.args.core.now) (blocks_in c.args.core.now)
    = c.as_slice-3.ensures.value ∙ c.in-Ok-summary_of.ensures ∙ ap (λ s. summary_text s (roots_in c.args.core.now) (blocks_in c.args.core.now)) c.as_slice-2.ensures.value in
    let tallied : HasTallied c.in-Ok.sums.items c.args.core.now c.args.line = subst (λ sums. HasTallied sums c.args.core.now c.args.line) c.as_slice.ensures.value (c.has_tallied.ensures.found c.if-not-has_tallied.false) in
    Put c.in-Ok.sums.items c.in-Ok.ensures tallied refl
    (subst (λ (text : List ℕ). bytes_of (g.K.Sink.got c.put_all.new.sink) ≡ followed (bytes_of (g.K.Sink.got c.args.sink.now)) text) is c.in-Ok-put_all.ensures.put)
    c.in-Ok-put_all.ensures.cause.later

pub returns-clause-puts : goal.returns-clause-puts
returns-clause-puts g c =
    let is : c.as_slice-3.result.now ≡ summary_text c.in-Ok.sums.items (roots_in c.args.core.now) (blocks_in c.args.core.now)
    = c.as_slice-3.ensures.value ∙ c.in-Ok-summary_of.ensures ∙ ap (λ s. summary_text s (roots_in c.args.core.now) (blocks_in c.args.core.now)) c.as_slice-2.ensures.value in
    let tallied : HasTallied c.in-Ok.sums.items c.args.core.now c.args.line = subst (λ sums. HasTallied sums c.args.core.now c.args.line) c.as_slice.ensures.value (c.has_tallied.ensures.found c.if-not-has_tallied.false) in
    Unput c.in-Ok.sums.items c.in-Ok.ensures tallied refl
    (subst (λ (text : List ℕ). PutsFront (bytes_of (g.K.Sink.got c.args.sink.now)) text (bytes_of (g.K.Sink.got c.put_all.new.sink))) is c.in-Err.ensures.front)
    (search rules)
    c.in-Err.ensures.cause.later
