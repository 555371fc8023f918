use Rattle.std.proofs.Common.{◌∙◌, ◌*◌, ap, is_some, map, sym}
use Rattle.hs_cluster.proofs.OpenedLemmas.{core_opens, moment_opens, shape_opens}
use Rattle.hs_cluster.specs.Begins.{opened_with}
use Rattle.hs_core_words.specs.Opening.{Taken as Opened}
use Rattle.hs_limits.specs.declared.shape.Shape.{Shape}
use Rattle.hs_peerlog.specs.Lists.{Keeping}
use Rattle.std.specs.Prelude.{Option}
use Rattle.hs_taking.specs.declared.shares.Share.{Share}
use Rattle.hs_cluster.proofs.opening.begun.Goals as goal

pub invariant_of-result : goal.invariant_of-result
invariant_of-result c =
    c.requires.logs ∙ ap (λ (s : Shape). s.shards * s.copies) (sym (shape_opens c.args.shape c.args.limits (record { catalogues = c.in_ok-catalogues.catalogues.items; views = c.in_ok-views.views.items; lengths = c.in_ok-lengths.lengths.items; good = c.in_ok-good.good.items }) c.args.moment c.in_ok-core.core c.in_ok-core.ensures.ok))

pub returns-clause-core : goal.returns-clause-core
returns-clause-core c =
    let made : Opened = record { catalogues = c.in_ok-catalogues.catalogues.items; views = c.in_ok-views.views.items; lengths = c.in_ok-lengths.lengths.items; good = c.in_ok-good.good.items } in
    core_opens c.args.shape c.args.limits made (opened_with (record { logs = c.args.taking.logs.items; shares = c.args.taking.shares.items })) c.args.moment c.in_ok-core.core c.in_ok-core.ensures.ok
    c.in_ok-catalogues.ensures
    (c.in_ok-views.ensures ∙ ap (map (λ (share : Share). share.rank.view)) c.as_slice-4.ensures.value)
    (c.in_ok-lengths.ensures ∙ ap (map (λ (share : Share). share.rank.number)) c.as_slice-5.ensures.value)
    (c.in_ok-good.ensures ∙ ap (map (λ (log : Option Keeping). is_some log)) c.as_slice-3.ensures.value)

pub returns-clause-shape : goal.returns-clause-shape
returns-clause-shape c =
    let made : Opened = record { catalogues = c.in_ok-catalogues.catalogues.items; views = c.in_ok-views.views.items; lengths = c.in_ok-lengths.lengths.items; good = c.in_ok-good.good.items } in
    shape_opens c.args.shape c.args.limits made c.args.moment c.in_ok-core.core c.in_ok-core.ensures.ok

pub returns-clause-moment : goal.returns-clause-moment
returns-clause-moment c =
    let made : Opened = record { catalogues = c.in_ok-catalogues.catalogues.items; views = c.in_ok-views.views.items; lengths = c.in_ok-lengths.lengths.items; good = c.in_ok-good.good.items } in
    moment_opens c.args.shape c.args.limits made c.args.moment c.in_ok-core.core c.in_ok-core.ensures.ok
