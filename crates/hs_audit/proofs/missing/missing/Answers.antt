use Rattle.std.proofs.Common.{◌≡◌, ◌∙◌, List, ap, filter, is_none, map, not, subst, sym, arith}
use Rattle.std.proofs.lemmas.Grind.{common_steps}
use Rattle.std.specs.Map.{keys_of}
use Rattle.hs_audit.proofs.MissingLemmas.{addresses_of, keys_are, missing_is}
use Rattle.hs_audit.specs.Missing.{kept_by_roots}
use Rattle.hs_limits.specs.declared.address.Address.{Address}
use Rattle.hs_model.proofs.SetLemmas.{distinct_from_sorted, filter_of_map}
use Rattle.hs_model.specs.declared.plain.PlainBlock.{PlainBlock}
use Rattle.hs_model.specs.declared.plain.PlainRoot.{PlainRoot}
use Rattle.hs_model.specs.Listed.{IsListOf}
use Rattle.hs_model.specs.Plain.{plain_of, root_of}
use Rattle.hs_model.specs.Reach.{IsReached, is_among}
use Rattle.hs_model.specs.Store.{Root}
use Rattle.hs_audit.proofs.missing.missing.Goals as goal

pub returns : goal.returns
returns c =
    let s = c.args.store.now in
    let from : c.as_slice-2.result.now ≡ kept_by_roots (plain_of s) = c.as_slice-2.ensures.value ∙ c.in_ok-kept.ensures
    ∙ ap (λ (z : List PlainRoot). map (λ (root : PlainRoot). root.address) (filter (λ (root : PlainRoot). is_none root.dropped) z)) c.as_slice.ensures
    ∙ sym (filter_of_map (λ (root : Root). root.address) (λ (root : Root). is_none root.dropped) root_of s.roots) in
    let listed = subst (λ (z : List Address). IsListOf c.in_ok-reached.reached (IsReached (plain_of s) z)) from c.in_ok-reached.ensures.exact in
    let seen : c.as_slice-4.result.now ≡ c.in_ok-reached.reached = grind (arith, common_steps) in
    let same : (a : Address) → is_among c.in_ok-present.present.keys a ≡ is_among (keys_of (plain_of s).blocks) a
    = λ a. c.in_ok-present.ensures a ∙ ap (λ (z : List PlainBlock). is_among (addresses_of z) a) c.as_slice-3.ensures ∙ ap (λ (z : List Address). is_among z a) (sym (keys_are s.blocks)) in
    let list = c.in_ok-absent.ensures ∙ ap (λ (z : List Address). filter (λ a. not (is_among c.in_ok-present.present.keys a)) z) seen in
    missing_is (plain_of s) c.in_ok-reached.reached c.in_ok-present.present.keys c.in_ok-absent.field-0.items (distinct_from_sorted (keys_of (plain_of s).blocks) c.requires.blocks) listed c.in_ok-reached.ensures.ascending same list
