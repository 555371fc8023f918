use Rattle.std.proofs.Common.{◌∙◌, IfOk, ap, map, subst, sym}
use Rattle.std.proofs.lemmas.List.{length-map}
use Rattle.hs_asking.specs.Asked.{HasAsked}
use Rattle.hs_tree_calls.proofs.SaidLemmas.{asks_ok, begun_so}
use Rattle.hs_tree_calls.specs.Said.{Asking, shows_of}
use Rattle.hs_tree_calls.proofs.plain.PlainAskerAsker.ask.Goals as goal

pub returns-in_default-clause-told : goal.returns-in_default-clause-told
returns-in_default-clause-told c =
    let going = ap (λ z. z.ended) c.self.view_is ∙ c.requires.going in
    let held = c.self.invariant going in
    let same = length-map c.self.inside.told.items (λ said. said.value) ∙ (held.same ∙ sym (length-map c.self.inside.asked.items (λ said. said.value))) in
    let a : Asking = record { asked = map (λ said. said.value) c.self.inside.asked.items; told = map (λ said. said.value) c.self.inside.told.items; ended = c.self.inside.ended } in
    let b : Asking = record { asked = map (λ said. said.value) c.say-told.new.asked.items; told = map (λ said. said.value) c.say-told.new.told.items; ended = c.self.inside.ended } in
    subst (λ z. IfOk c.say-told.result (λ told. HasAsked (shows_of z) (shows_of b) c.args.op told)) c.self.view_is
    (asks_ok c.say-told.result a b c.args.op c.say-told.ensures.asked c.say-told.ensures.told same c.say-told.ensures.may)

pub returns-in-Err-clause-begun : goal.returns-in-Err-clause-begun
returns-in-Err-clause-begun c =
    let going = ap (λ z. z.ended) c.self.view_is ∙ c.requires.going in
    let held = c.self.invariant going in
    let same = length-map c.self.inside.told.items (λ said. said.value) ∙ (held.same ∙ sym (length-map c.self.inside.asked.items (λ said. said.value))) in
    let a : Asking = record { asked = map (λ said. said.value) c.self.inside.asked.items; told = map (λ said. said.value) c.self.inside.told.items; ended = c.self.inside.ended } in
    begun_so c.say-told.result _ a _ c.args.op c.self.view_is c.say-told.ensures.asked c.say-told.ensures.told c.say-told.ensures.kept same

pub returns-in_default-clause-begun : goal.returns-in_default-clause-begun
returns-in_default-clause-begun c =
    let going = ap (λ z. z.ended) c.self.view_is ∙ c.requires.going in
    let held = c.self.invariant going in
    let same = length-map c.self.inside.told.items (λ said. said.value) ∙ (held.same ∙ sym (length-map c.self.inside.asked.items (λ said. said.value))) in
    let a : Asking = record { asked = map (λ said. said.value) c.self.inside.asked.items; told = map (λ said. said.value) c.self.inside.told.items; ended = c.self.inside.ended } in
    begun_so c.say-told.result _ a _ c.args.op c.self.view_is c.say-told.ensures.asked c.say-told.ensures.told c.say-told.ensures.kept same
