use Rattle.std.proofs.Common.{◌≡◌, inl, refl, sym, ap, subst, arith, List, map, false, is_gt, AllPairs}
use Rattle.std.proofs.lemmas.Grind.{common_steps}
use Rattle.std.specs.Map.{keys_of}
use Rattle.hs_limits.specs.declared.address.Held.{Held}
use Rattle.hs_model.specs.declared.plain.PlainRoot.{PlainRoot}
use Rattle.hs_model.specs.Plain.{root_of}
use Rattle.hs_model.specs.Store.{root_cmp}
use Rattle.hs_model.proofs.SetLemmas.{one_pushed_sorted, none_sorted}
use Rattle.hs_floor_calls.proofs.reach.one_block.Goals as goal

pub returns : goal.returns
returns c =
    record {
      shape = record { shards = inl refl; some_copy = omega arith; copies = omega arith };
      epochs = grind (arith, common_steps);
      swept = grind (arith, common_steps);
      blocks = one_pushed_sorted _ c.new-blocks.result _ c.blocks-2.inside.items.items c.new-blocks.ensures c.in_ok-push.ensures.ok c.blocks-2.view_is;
      given = none_sorted _ (ap (λ (z : List Held). keys_of (map (λ (held : Held). (held.address, held.epoch)) z)) c.new.ensures);
      roots = subst (λ (z : List PlainRoot). AllPairs (λ first later. is_gt (root_cmp first later) ≡ false) (map root_of z)) (sym c.new-2.ensures) (λ i j d l m. absurd (omega (arith, m)));
    }
