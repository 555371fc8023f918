use Rattle.std.proofs.Common.{◌≡◌, ◌∙◌, refl, List, map, filter, not, is_some, subst, sym, ap, length}
use Rattle.std.specs.BTreeMap.{is_at}
use Rattle.std.specs.List.Sorted.{IsStrictlySortedBy}
use Rattle.std.specs.Map.{keys_of, lookup}
use Rattle.hs_limits.specs.declared.address.Address.{Address}
use Rattle.hs_model.specs.declared.plain.PlainBlock.{PlainBlock}
use Rattle.hs_model.specs.Listed.{IsListOf, IsPresent}
use Rattle.hs_model.specs.Peel.{IsStaying}
use Rattle.hs_model.specs.Plain.{plain_of, entry_of}
use Rattle.hs_model.specs.Pointing.{pointers_in, is_kept}
use Rattle.hs_model.specs.Store.{address_cmp}
use Rattle.hs_model.proofs.Members.{Member}
use Rattle.hs_model.proofs.AcyclicLemmas.{gone_unreached}
use Rattle.hs_model.proofs.PeelLemmas.{IsLeft, all_left, still_left, fewer, as_many, peeled, gone_is, stay_is, filter_ascends}
use Rattle.hs_model.proofs.SetLemmas.{distinct_from_sorted}
use Rattle.hs_model.proofs.slow.peeling.peel.Goals as goal
use Rattle.hs_model.proofs.slow.peeling.peel.Goals.{After-drop-held-2}

pub rounds-init : goal.rounds-init
rounds-init c =
    let s = plain_of c.args.store.now in
    let whole = c.in_ok-left.ensures ∙ ap (λ (z : List PlainBlock). pointers_in (map entry_of z)) c.as_slice.ensures in
    subst (λ z. IsLeft s c.args.anchors.now z) (sym whole) (all_left s c.args.anchors.now)

pub rounds-preserved : goal.rounds-preserved
rounds-preserved c =
    let s = plain_of c.args.store.now in
    subst (λ z. IsLeft s c.args.anchors.now z) (sym c.in_ok-takes_away.ensures.left) (still_left s c.args.anchors.now (distinct_from_sorted (keys_of s.blocks) c.requires.blocks) c.in_ok-held.held.keys c.rounds.left.entries c.in_ok-held.ensures c.rounds.invariant)

pub rounds-smaller : goal.rounds-smaller
rounds-smaller c =
    fewer (λ (e : Address × List Address). is_kept c.in_ok-held.held.keys c.rounds.left.entries e.0) c.rounds.left.entries c.takes_away.new.left.entries c.in_ok-takes_away.field-0 c.in_ok-takes_away.ensures.left c.in_ok-takes_away.ensures.more c.if-branch.true

the_list : (c : After-drop-held-2) → c.from_vec.result ≡ map (λ (block : PlainBlock). block.address) (filter (λ (block : PlainBlock). not (is_some (lookup (is_at (address_cmp block.address)) c.takes_away.new.left.entries))) c.args.store.now.blocks)
the_list c = c.from_vec.ensures ∙ c.in_ok-list.ensures ∙ ap (λ (z : List PlainBlock). map (λ (block : PlainBlock). block.address) (filter (λ (block : PlainBlock). not (is_some (lookup (is_at (address_cmp block.address)) c.takes_away.new.left.entries))) z)) c.as_slice-2.ensures

the_rest : (c : After-drop-held-2) → IsLeft (plain_of c.args.store.now) c.args.anchors.now c.takes_away.new.left.entries × ((a : Address) → Member a (keys_of c.takes_away.new.left.entries) → IsStaying (plain_of c.args.store.now) c.args.anchors.now a)
the_rest c =
    let s = plain_of c.args.store.now in
    let left = c.rounds.left.entries in
    let new = c.takes_away.new.left.entries in
    peeled s c.args.anchors.now (distinct_from_sorted (keys_of s.blocks) c.requires.blocks) c.in_ok-held.held.keys left new c.in_ok-held.ensures c.rounds.invariant c.in_ok-takes_away.ensures.left (as_many (length new) (length left) c.in_ok-takes_away.field-0 c.in_ok-takes_away.ensures.more c.if-branch.false)

the_gone : (c : After-drop-held-2) → IsListOf c.from_vec.result (λ a. IsPresent (plain_of c.args.store.now) a × ¬ IsStaying (plain_of c.args.store.now) c.args.anchors.now a)
the_gone c = gone_is (plain_of c.args.store.now) c.args.anchors.now c.args.store.now.blocks c.takes_away.new.left.entries c.from_vec.result refl (the_list c) (the_rest c).0 (the_rest c).1

pub returns-clause-gone : goal.returns-clause-gone
returns-clause-gone c = the_gone c

pub returns-clause-stay : goal.returns-clause-stay
returns-clause-stay c = stay_is (plain_of c.args.store.now) c.args.anchors.now c.args.store.now.blocks c.takes_away.new.left.entries c.from_vec.result refl (the_list c) (the_rest c).0 (the_rest c).1

pub returns-clause-acyclic : goal.returns-clause-acyclic
returns-clause-acyclic c = gone_unreached (plain_of c.args.store.now) c.args.anchors.now c.from_vec.result (the_gone c)

pub returns-clause-ascending : goal.returns-clause-ascending
returns-clause-ascending c =
    subst (λ (z : List Address). IsStrictlySortedBy address_cmp z) (sym (the_list c)) (filter_ascends (λ (block : PlainBlock). not (is_some (lookup (is_at (address_cmp block.address)) c.takes_away.new.left.entries))) c.args.store.now.blocks c.requires.blocks)
