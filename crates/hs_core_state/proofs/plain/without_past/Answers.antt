use Rattle.std.proofs.Common.{rules, ◌≡◌, ap, filter, List, map, subst, sym, false, is_gt}
use Rattle.std.proofs.lemmas.Fn.{filter_same}
use Rattle.std.proofs.lemmas.List.Kept.{AllPairs-filter}
use Rattle.std.specs.Prelude.{AllPairs}
use Rattle.hs_core_state.proofs.PlainLemmas.{roots_left}
use Rattle.hs_model.specs.declared.plain.PlainRoot.{PlainRoot}
use Rattle.hs_model.specs.Inner.{stays_in}
use Rattle.hs_model.specs.Plain.{plain_of, root_of}
use Rattle.hs_model.specs.Store.{Root, root_cmp}
use Rattle.hs_core_state.proofs.plain.without_past.Goals as goal

pub returns-clause-value : goal.returns-clause-value
returns-clause-value c =
    let epochs = c.args.store.epochs in
    let left = filter_same _ (λ (root : PlainRoot). stays_in epochs (root_of root)) _ (λ x b f' t. search rules) c.into_vec-kept.result.items c.retain.new.self.items c.retain.ensures.filtered in
    ap (λ (roots : List Root). record (plain_of c.args.store) { roots = roots })
    (roots_left epochs c.args.store.roots c.into_vec-kept.result.items c.retain.new.self.items c.from_vec.result c.into_vec-kept.ensures left c.from_vec.ensures)

pub returns-clause-plain : goal.returns-clause-plain
returns-clause-plain c =
    let epochs = c.args.store.epochs in
    let left = filter_same _ (λ (root : PlainRoot). stays_in epochs (root_of root)) _ (λ x b f' t. search rules) c.into_vec-kept.result.items c.retain.new.self.items c.retain.ensures.filtered in
    let roots : map root_of c.from_vec.result ≡ filter (stays_in epochs) (map root_of c.args.store.roots)
    = roots_left epochs c.args.store.roots c.into_vec-kept.result.items c.retain.new.self.items c.from_vec.result c.into_vec-kept.ensures left c.from_vec.ensures in
    record {
      shape = c.requires.shape;
      epochs = c.requires.epochs;
      swept = c.requires.swept;
      blocks = c.requires.blocks;
      given = c.requires.given;
      roots = subst (λ (rs : List Root). AllPairs (λ first later. is_gt (root_cmp first later) ≡ false) rs) (sym roots)
          (AllPairs-filter (λ first later. is_gt (root_cmp first later) ≡ false) (stays_in epochs) (map root_of c.args.store.roots) c.requires.roots);
    }
