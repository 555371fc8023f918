use Rattle.std.proofs.Common.{◌≡◌, ◌∙◌, ◌+◌, ◌≤◌, ◌++◌, List, ℕ, length, take, drop, ap, sym, arith, rules, append_assoc}
use Rattle.std.proofs.Math.Seq.{take-add, take-length}
use Rattle.std.proofs.lemmas.List.{append-nil, drop-drop, take-take}
use Rattle.hs_ports.specs.Disk.{Standing}
use Rattle.hs_side.proofs.reading.fill.Goals as goal

-- a piece behind those before it
pieces : (a b at : ℕ) (front held into s : List ℕ) → held ≡ front ++ take a (drop at s) → into ≡ held ++ take b (drop (at + a) s) → into ≡ front ++ take (a + b) (drop at s)
pieces a b at front held into s before more =
    more ∙ ap (λ (l : List ℕ). l ++ take b (drop (at + a) s)) before ∙ append_assoc front (take a (drop at s)) (take b (drop (at + a) s))
    ∙ ap (λ (l : List ℕ). front ++ (take a (drop at s) ++ take b l)) (sym (drop-drop a at s)) ∙ ap (λ (l : List ℕ). front ++ l) (sym (take-add a b (drop at s)))

-- what stands in front of a piece stands in front of the next
fronts : (front held into : List ℕ) → length front ≤ length held → take (length front) held ≡ front → take (length held) into ≡ held → take (length front) into ≡ front
fronts front held into low before more =
    sym (take-take (length front) (length held) into low) ∙ ap (λ (l : List ℕ). take (length front) l) more ∙ before

pub pieces-init : goal.pieces-init
pieces-init g c =
    let same = c.reserve.ensures.items in
    record {
      bound = omega arith;
      len = omega (arith, ap (λ (l : List ℕ). length l) same);
      front = ap (λ (l : List ℕ). take (length c.args.into.now.items) l) same ∙ take-length c.args.into.now.items;
      value = λ told. same ∙ sym (append-nil c.args.into.now.items);
      same_size = λ s. search rules;
      same = λ told. search rules;
      calm = search rules;
    }

pub pieces-preserved : goal.pieces-preserved
pieces-preserved g c =
    let before = c.pieces.invariant in
    let found = c.in-Ok.ensures.found in
    record {
      bound = omega (arith, found.bound);
      len = omega (arith, found.count, before.len);
      front = fronts c.args.into.now.items c.pieces.into.items c.read.new.into.items (omega (arith, before.len)) before.front found.front;
      value = λ told.
          pieces c.pieces.got c.in-Ok.more c.args.at c.args.into.now.items c.pieces.into.items c.read.new.into.items ((g.D.Disk.stands c.args.disk.now).seen c.args.side) (before.value told)
          (c.in-Ok.ensures.value told
          ∙ ap (λ (d : Standing). c.pieces.into.items ++ take c.in-Ok.more (drop (c.args.at + c.pieces.got) (d.seen c.args.side))) (before.same told));
      same_size = λ s. c.read.ensures.same_size s ∙ before.same_size s;
      same = λ told. c.read.ensures.same told ∙ before.same told;
      calm = c.in-Ok.ensures.calm ∙ before.calm;
    }

pub returns-in-Err-clause-untaken : goal.returns-in-Err-clause-untaken
returns-in-Err-clause-untaken g c =
    let vec = c.reserve.new.self in
    let was : c.len-was.result ≡ length c.args.into.now.items = omega (arith, c.len-was.ensures, vec.ok.0, ap (λ (l : List ℕ). length l) c.reserve.ensures.items) in
    c.truncate.ensures.items ∙ ap (λ (l : List ℕ). take c.len-was.result l) c.in-Err.ensures.untaken
    ∙ ap (λ (n : ℕ). take n c.pieces.into.items) was ∙ c.pieces.invariant.front

pub returns-in-Err-clause-front : goal.returns-in-Err-clause-front
returns-in-Err-clause-front g c =
    ap (λ (l : List ℕ). take (length c.args.into.now.items) l) (returns-in-Err-clause-untaken g c) ∙ take-length c.args.into.now.items
