use Rattle.std.proofs.Common.{rules, ℕ, take, ◌≡◌, ◌∙◌, ◌<◌, ◌≤◌, length, sym, ap, subst, true, false, refl, arith}
use Rattle.hs_load.specs.Compared.{answer_of, is_own}
use Rattle.hs_load.specs.Owners.{is_of}
use Rattle.hs_load.proofs.CompareLemmas.{answer_there, more_other, more_own, none_behind, none_there, other_there, part_end, part_there, some_there}
use Rattle.hs_load.proofs.comparing.first_parting.Goals as goal
use Rattle.hs_load.proofs.comparing.first_parting.Goals.{then-is_own+in-Some, else-is_own}

pub returns-in_default-clause-some : goal.returns-in_default-clause-some
returns-in_default-clause-some c =
    part_there (is_of c.args.sessions.now c.args.owner) c.args.kept.now c.args.journal.now c.loop-place.next c.loop-place.place c.index-journal-place.result
    c.loop-place-test.true c.index-journal-place.is c.loop-place.invariant.same c.loop-place.invariant.long (sym c.is_own.ensures ∙ c.if-is_own.true)
    (other_there c.args.kept.now c.loop-place.next c.in-Some.item.now (answer_of c.loop-place.place c.index-journal-place.result) (search rules) (λ same. grind (arith, c.is_kept.ensures.1 same)))

pub returns-in_default-2-clause-some : goal.returns-in_default-2-clause-some
returns-in_default-2-clause-some c =
    part_there (is_of c.args.sessions.now c.args.owner) c.args.kept.now c.args.journal.now c.loop-place.next c.loop-place.place c.index-journal-place.result
    c.loop-place-test.true c.index-journal-place.is c.loop-place.invariant.same c.loop-place.invariant.long (sym c.is_own.ensures ∙ c.if-is_own.true)
    (none_there c.args.kept.now c.loop-place.next (answer_of c.loop-place.place c.index-journal-place.result) (grind arith))

pub loop-place-preserved : goal.loop-place-preserved
loop-place-preserved c = elim c.if-is_own.branch [
  | then-is_own+in-Some w ↦
      let low : c.loop-place.next < length c.args.kept.now = grind arith in
      record {
        within = omega arith;
        long = omega (arith, low, w.next-is);
        same = ap (λ (n : ℕ). take n c.args.kept.now) w.next-is ∙ more_own (is_of c.args.sessions.now c.args.owner) c.args.kept.now c.args.journal.now c.loop-place.next c.loop-place.place c.index-journal-place.result
            c.loop-place-test.true c.index-journal-place.is c.loop-place.invariant.same w.in-Some.item.now
            (some_there c.args.kept.now c.loop-place.next w.in-Some.item.now low (search rules)) (w.is_kept.ensures.0 w.if-is_kept.true) (sym c.is_own.ensures ∙ w.if-is_own.true);
      }
  | else-is_own w ↦ record {
    within = omega arith;
    long = let old = c.loop-place.invariant.long in omega (arith, old, w.next-is);
    same = ap (λ (n : ℕ). take n c.args.kept.now) w.next-is ∙ more_other (is_of c.args.sessions.now c.args.owner) c.args.kept.now c.args.journal.now c.loop-place.next c.loop-place.place c.index-journal-place.result
        c.loop-place-test.true c.index-journal-place.is c.loop-place.invariant.same (sym c.is_own.ensures ∙ w.if-is_own.false);
  }
]

pub returns-then-next-kept-clause-some : goal.returns-then-next-kept-clause-some
returns-then-next-kept-clause-some c =
    part_end (is_of c.args.sessions.now c.args.owner) c.args.kept.now c.args.journal.now c.loop-place.next c.loop-place.place (omega arith) c.if-next-kept.true c.loop-place.invariant.same

pub returns-in_default-clause-there : goal.returns-in_default-clause-there
returns-in_default-clause-there c =
    answer_there (is_of c.args.sessions.now c.args.owner) c.args.kept.now c.args.journal.now c.loop-place.next c.loop-place.place c.index-journal-place.result
    c.loop-place-test.true c.index-journal-place.is c.loop-place.invariant.same c.loop-place.invariant.long (sym c.is_own.ensures ∙ c.if-is_own.true)

pub returns-in_default-2-clause-there : goal.returns-in_default-2-clause-there
returns-in_default-2-clause-there c =
    answer_there (is_of c.args.sessions.now c.args.owner) c.args.kept.now c.args.journal.now c.loop-place.next c.loop-place.place c.index-journal-place.result
    c.loop-place-test.true c.index-journal-place.is c.loop-place.invariant.same c.loop-place.invariant.long (sym c.is_own.ensures ∙ c.if-is_own.true)

pub returns-then-next-kept-clause-there : goal.returns-then-next-kept-clause-there
returns-then-next-kept-clause-there c =
    none_behind (is_of c.args.sessions.now c.args.owner) c.args.kept.now c.args.journal.now c.loop-place.next c.loop-place.place (omega arith) c.if-next-kept.true c.loop-place.invariant.same
