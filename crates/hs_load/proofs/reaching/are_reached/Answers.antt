use Rattle.std.proofs.Common.{◌≡◌, ◌∙◌, List, ap, filter, is_none, map, subst, sym, arith}
use Rattle.std.proofs.lemmas.Grind.{common_steps}
use Rattle.hs_limits.specs.declared.address.Address.{Address}
use Rattle.hs_model.proofs.SetLemmas.{filter_of_map}
use Rattle.hs_model.specs.declared.plain.PlainBlock.{PlainBlock}
use Rattle.hs_model.specs.declared.plain.PlainRoot.{PlainRoot}
use Rattle.hs_model.specs.Listed.{IsListOf}
use Rattle.hs_model.specs.Plain.{entry_of, plain_of, root_of}
use Rattle.hs_model.specs.Reach.{IsReached, is_among}
use Rattle.hs_model.specs.Store.{Root}
use Rattle.hs_load.proofs.ReachedLemmas.{each_reached, reached_all}
use Rattle.hs_load.specs.Reached.{kept_addresses}
use Rattle.hs_load.proofs.reaching.are_reached.Goals as goal

pub returns-clause-found : goal.returns-clause-found
returns-clause-found c =
    let s = c.args.store.now in
    let from : c.as_slice-2.result.now ≡ kept_addresses (plain_of s) = c.as_slice-2.ensures.value ∙ c.in_ok-kept.ensures
    ∙ ap (λ (z : List PlainRoot). map (λ (root : PlainRoot). root.address) (filter (λ (root : PlainRoot). is_none root.dropped) z)) c.as_slice.ensures
    ∙ sym (filter_of_map (λ (root : Root). root.address) (λ (root : Root). is_none root.dropped) root_of s.roots) in
    let listed = subst (λ (z : List Address). IsListOf c.in_ok-reached.reached (IsReached (plain_of s) z)) from c.in_ok-reached.ensures.exact in
    let seen : c.as_slice-3.result.now ≡ c.in_ok-reached.reached = grind (arith, common_steps) in
    λ yes. each_reached (plain_of s) c.as_slice-4.result.now c.in_ok-seen.seen.keys c.in_ok-reached.reached (kept_addresses (plain_of s)) (sym (ap (λ (z : List PlainBlock). map entry_of z) c.as_slice-4.ensures)) listed
    (λ a. c.in_ok-seen.ensures a ∙ ap (λ (z : List Address). is_among z a) seen) (sym c.has_each.ensures ∙ yes)

pub returns-clause-only : goal.returns-clause-only
returns-clause-only c =
    let s = c.args.store.now in
    let from : c.as_slice-2.result.now ≡ kept_addresses (plain_of s) = c.as_slice-2.ensures.value ∙ c.in_ok-kept.ensures
    ∙ ap (λ (z : List PlainRoot). map (λ (root : PlainRoot). root.address) (filter (λ (root : PlainRoot). is_none root.dropped) z)) c.as_slice.ensures
    ∙ sym (filter_of_map (λ (root : Root). root.address) (λ (root : Root). is_none root.dropped) root_of s.roots) in
    let listed = subst (λ (z : List Address). IsListOf c.in_ok-reached.reached (IsReached (plain_of s) z)) from c.in_ok-reached.ensures.exact in
    let seen : c.as_slice-3.result.now ≡ c.in_ok-reached.reached = grind (arith, common_steps) in
    λ each. c.has_each.ensures ∙ reached_all (plain_of s) c.as_slice-4.result.now c.in_ok-seen.seen.keys c.in_ok-reached.reached (kept_addresses (plain_of s)) (sym (ap (λ (z : List PlainBlock). map entry_of z) c.as_slice-4.ensures)) listed
    (λ a. c.in_ok-seen.ensures a ∙ ap (λ (z : List Address). is_among z a) seen) each
