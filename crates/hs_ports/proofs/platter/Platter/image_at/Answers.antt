use Rattle.std.proofs.Common.{rules, ◌≡◌}
use Rattle.hs_ports.specs.Platter.{first_of}
use Rattle.hs_ports.proofs.PastLemmas.{image_of_track, seen_of_track}
use Rattle.hs_ports.proofs.platter.Platter.image_at.Goals as goal

pub returns : goal.returns
returns c =
    let first = first_of c.self.inside.first c.self.inside.held.items in
    let bytes : c.first_bytes-first.result.now ≡ first = search rules in
    let changes : c.deref-3.result.now ≡ c.self.inside.changes.items = search rules in
    let counted = rw c.deref-2.ensures.value at c.shown-count.ensures.value in
    rw (← c.self.view_is) (record {
      image = image_of_track first _ _ _ c.args.moment c.shown-count.result _ c.self.invariant counted
          (rw (bytes, changes) at c.in_ok-bytes.ensures.image);
      new = λ is later. seen_of_track first _ _ _ c.args.moment c.shown-count.result _ c.self.invariant counted later
          (rw (bytes, changes) at (c.in_ok-bytes.ensures.new is));
    })
