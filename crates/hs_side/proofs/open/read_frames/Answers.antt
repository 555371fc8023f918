use Rattle.std.proofs.Common.{◌≡◌, ◌∙◌, ℕ, ◌+◌, List, [], ◌∷◌, length, length-append, ap, sym, subst, refl, Ok, Err, vec_len, arith}
use Rattle.hs_ports.specs.Disk.{Standing}
use Rattle.hs_side.specs.Steps.{IsGate, IsFrame, Scan}
use Rattle.hs_side.proofs.ScanLemmas.{headed, scan_start, scan_more, scan_gate, scan_frame}
use Rattle.hs_side.proofs.open.read_frames.Goals as goal

pub frames-init : goal.frames-init
frames-init g c = record {
  size = c.requires.size;
  same = λ told. refl;
  same_size = λ s. refl;
  calm = refl;
  counted = sym (ap (λ (ps : List ℕ). length ps) c.new-places.ensures.items);
  scanned = λ told. scan_start _ c.new-places.result.items c.new-places.ensures.items;
}

pub returns-in-Err-clause-exact : goal.returns-in-Err-clause-exact
returns-in-Err-clause-exact g c told =
    let seen = (g.D.Disk.stands c.args.disk.now).seen c.args.side in
    let before = c.frames.invariant in
    let head = c.requires.head told in
    let gate = subst (λ (d : Standing). IsGate (Err c.in-Err.fault) c.frames.at (d.seen c.args.side)) (before.same told) (c.in-Err.ensures.exact told) in
    scan_gate {X = Scan} (λ x. x) c.in-Err.fault seen c.frames.at c.frames.last c.frames.places.items head.0 (headed seen head.0 head.1) (before.scanned told) gate

pub returns-in-Err-read_frame-clause-exact : goal.returns-in-Err-read_frame-clause-exact
returns-in-Err-read_frame-clause-exact g c told =
    let seen = (g.D.Disk.stands c.args.disk.now).seen c.args.side in
    let before = c.frames.invariant in
    let head = c.requires.head told in
    let gate = subst (λ (d : Standing). IsGate (Ok c.in-Ok.opens) c.frames.at (d.seen c.args.side)) (before.same told) (c.in-Ok.ensures.exact told) in
    let same = c.open_at.ensures.same told ∙ before.same told in
    let held = c.read_frame.new.held.items in
    let frame = subst (λ (d : Standing). IsFrame (Err c.in-Err-read_frame.fault) c.frames.at c.frames.last (d.seen c.args.side) held) same (c.in-Err-read_frame.ensures.exact told) in
    scan_frame {X = Scan} (λ x. x) c.in-Err-read_frame.fault seen c.frames.at c.frames.last c.frames.places.items held head.0 (headed seen head.0 head.1) (before.scanned told) gate.0 (gate.1 ∙ c.if-not-opens.false) frame

pub frames-preserved : goal.frames-preserved
frames-preserved g c =
    let before = c.frames.invariant in
    let held = c.read_frame.new.held.items in
    record {
      size = before.size ∙ sym (c.open_at.ensures.same_size c.args.side) ∙ sym (c.read_frame.ensures.same_size c.args.side);
      same = λ told. c.read_frame.ensures.same told ∙ c.open_at.ensures.same told ∙ before.same told;
      same_size = λ s. c.read_frame.ensures.same_size s ∙ c.open_at.ensures.same_size s ∙ before.same_size s;
      calm = c.in-Ok-read_frame.ensures.calm ∙ c.in-Ok.ensures.calm ∙ before.calm;
      counted = c.in-Ok-read_frame.ensures.above ∙ ap (λ n. n + 1) before.counted ∙ sym (length-append c.frames.places.items (c.frames.at ∷ [])) ∙ ap (λ (ps : List ℕ). length ps) (sym c.in_ok-push.ensures.items);
      scanned = λ told.
          let seen = (g.D.Disk.stands c.args.disk.now).seen c.args.side in
          let gate = subst (λ (d : Standing). IsGate (Ok c.in-Ok.opens) c.frames.at (d.seen c.args.side)) (before.same told) (c.in-Ok.ensures.exact told) in
          let same = c.open_at.ensures.same told ∙ before.same told in
          let frame = subst (λ (d : Standing). IsFrame (Ok c.in-Ok-read_frame.rank) c.frames.at c.frames.last (d.seen c.args.side) held) same (c.in-Ok-read_frame.ensures.exact told) in
          let more = scan_more seen c.frames.at c.frames.last c.in-Ok-read_frame.rank c.frames.places.items held (before.scanned told) gate.0 (gate.1 ∙ c.if-not-opens.false) c.in-Ok-read_frame.ensures.short frame in
          let vec = c.read_frame.new.held in
          let long : vec_len vec ≡ length vec.items = omega (arith, vec.ok.0) in
          rw (c.in_ok-push.ensures.items, c.len.ensures, long) more;
    }
