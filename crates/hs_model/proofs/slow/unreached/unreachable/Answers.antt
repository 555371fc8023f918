use Rattle.std.proofs.Common.{◌≡◌, ◌∙◌, List, map, filter, subst, ap}
use Rattle.std.specs.Map.{keys_of}
use Rattle.hs_limits.specs.declared.address.Address.{Address}
use Rattle.hs_model.specs.declared.plain.PlainBlock.{PlainBlock}
use Rattle.hs_model.specs.declared.slow.unreached.Run.{Run}
use Rattle.hs_model.specs.Listed.{IsListOf}
use Rattle.hs_model.specs.Plain.{plain_of, entry_of}
use Rattle.hs_model.specs.Pointing.{pointing_store, pointers_in}
use Rattle.hs_model.specs.Reach.{IsReached, anchors}
use Rattle.hs_model.specs.Swept.{removes}
use Rattle.hs_model.proofs.PointingLemmas.{reached_by_pointing}
use Rattle.hs_model.proofs.SetLemmas.{distinct_from_sorted}
use Rattle.hs_model.proofs.SweptLemmas.{unreachable_is}
use Rattle.hs_model.proofs.slow.unreached.unreachable.Goals as goal

pub returns : goal.returns
returns c =
    let s = c.args.store.now in
    let run : Run = record { shape = s.shape; epoch = c.args.epoch; shard = c.args.shard } in
    let seen = c.in_ok-seen.seen.keys in
    let from : c.as_slice-2.result.now ≡ anchors (plain_of s) c.args.epoch = c.as_slice-2.ensures.value ∙ c.in_ok-anchors.ensures in
    let left = c.in_ok-left.ensures ∙ ap (λ (z : List PlainBlock). pointers_in (map entry_of z)) c.as_slice.ensures in
    let found = subst (λ (z : List Address). IsListOf seen (IsReached (pointing_store c.in_ok-left.left.entries) z)) from c.in_ok-seen.ensures in
    let listed = reached_by_pointing (plain_of s) (anchors (plain_of s) c.args.epoch) c.in_ok-left.left.entries seen left found in
    let list = c.from_vec.ensures ∙ c.in_ok-list.ensures ∙ ap (λ (z : List PlainBlock). map (λ (block : PlainBlock). block.address) (filter (λ (block : PlainBlock). removes run seen block.address block.born) z)) c.as_slice-3.ensures in
    unreachable_is s run seen c.from_vec.result (distinct_from_sorted (keys_of (plain_of s).blocks) c.requires.plain.blocks) c.requires.plain.epochs listed list
