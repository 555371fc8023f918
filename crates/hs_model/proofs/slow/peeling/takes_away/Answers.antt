use Rattle.std.proofs.Common.{◌||◌, ◌∙◌, ap, List, rules}
use Rattle.std.proofs.lemmas.Map.Made.{filter_same_pairs}
use Rattle.hs_limits.specs.declared.address.Address.{Address}
use Rattle.hs_model.specs.Pointing.{is_kept}
use Rattle.hs_model.specs.Reach.{is_among}
use Rattle.hs_model.proofs.SetLemmas.{filter_same}
use Rattle.hs_model.proofs.slow.peeling.takes_away.Goals as goal

pub returns-clause-left : goal.returns-clause-left
returns-clause-left c =
    let es = c.args.left.now.entries in
    let anchors = c.args.held.now.keys in
    let seen = c.in_ok-pointed.pointed.keys in
    filter_same_pairs _ (λ (e : Address × List Address). is_among anchors e.0 || is_among seen e.0) _ (λ k v b w f' t. search rules) es c.retain.new.self.entries c.retain.ensures.filtered
    ∙ filter_same (λ (e : Address × List Address). is_among anchors e.0 || is_among seen e.0) (λ (e : Address × List Address). is_kept anchors es e.0) (λ e. ap (λ z. is_among anchors e.0 || z) (c.in_ok-pointed.ensures e.0)) es
