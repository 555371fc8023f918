use Rattle.std.proofs.Common.{◌≡◌, ◌∙◌, ◌*◌, ◌-◌, ◌≤◌, ap, arith, length, sym, vec_len}
use Rattle.std.proofs.lemmas.Result.{err_from_is_err_and}
use Rattle.hs_tree.proofs.StoreLemmas.{no_length}
use Rattle.hs_tree.proofs.TopLemmas.{ends_alone, ends_second, ends_third, few_after, first_stops, named_after, not_zero, second_stops, whole_few, whole_least, whole_named, zero_from}
use Rattle.hs_tree.proofs.store.finish.Goals as goal
use Rattle.hs_tree.proofs.store.finish.Goals.{else-is_empty-via-then-is_empty+else-len-eq1, else-is_empty-via-else-is_empty}

pub returns-then-len-eq1-clause-ok : goal.returns-then-len-eq1-clause-ok
returns-then-len-eq1-clause-ok g c =
    let zero : vec_len c.args.upper.now ≡ 0 = zero_from (vec_len c.args.upper.now) (sym c.is_empty.ensures ∙ c.if-is_empty.true) in
    let none : length c.args.upper.now.items ≡ 0 = omega (arith, zero) in
    let one : length c.args.lower.now.items ≡ 1 = omega arith in
    ends_alone (g.A.Addresser.name c.args.naming.now) c.args.session.now (g.B.Asker.shows c.args.asker.now) c.args.upper.now.items c.args.lower.now.items c.args.bytes c.requires.whole c.index.result.now (no_length c.args.upper.now.items none) one c.index.ensures

pub overflow_mul-below : goal.overflow_mul-below
overflow_mul-below g c =
    let few : length c.args.upper.now.items ≤ 16 = whole_few (g.A.Addresser.name c.args.naming.now) c.args.session.now (g.B.Asker.shows c.args.asker.now) c.args.upper.now.items c.args.lower.now.items c.args.bytes c.requires.whole in
    omega (arith, few)

pub overflow_sub-below : goal.overflow_sub-below
overflow_sub-below g c =
    let least : length c.args.upper.now.items * 4194304 ≤ c.args.bytes = whole_least (g.A.Addresser.name c.args.naming.now) c.args.session.now (g.B.Asker.shows c.args.asker.now) c.args.upper.now.items c.args.lower.now.items c.args.bytes c.requires.whole in
    omega (arith, least)

pub close_run-requires-clause-named : goal.close_run-requires-clause-named
close_run-requires-clause-named g c =
    whole_named (g.A.Addresser.name c.args.naming.now) c.args.session.now (g.B.Asker.shows c.args.asker.now) c.args.upper.now.items c.args.lower.now.items c.args.bytes c.requires.whole

pub returns-in_err-close_run-clause-err : goal.returns-in_err-close_run-clause-err
returns-in_err-close_run-clause-err g c =
    let count : c.len-2.result ≡ length c.args.upper.now.items = omega arith in
    let is : (c.args.bytes - c.len-2.result * 4194304) ≡ c.args.bytes - length c.args.upper.now.items * 4194304 = ap (λ z. c.args.bytes - z * 4194304) count in
    let more : length c.args.upper.now.items ≡ 0 → length c.args.lower.now.items ≡ 1 → ⊥ = elim c.else-is_empty.branch [ else-is_empty-via-then-is_empty+else-len-eq1 w ↦ λ a b. w.if-len-eq1.false (omega (arith, w.len.ensures, b)) | else-is_empty-via-else-is_empty w ↦ λ a b. not_zero (vec_len c.args.upper.now) (sym c.is_empty.ensures ∙ w.if-is_empty.false) (omega (arith, a)) ] in
    let p = err_from_is_err_and c.from_residual.result c.from_residual.ensures.1 in
    rw (p.1, p.2) (first_stops (g.A.Addresser.name c.args.naming.now) c.args.session.now (g.B.Asker.shows c.args.asker.now) c.args.upper.now.items c.args.lower.now.items c.args.bytes c.requires.whole more (c.args.bytes - c.len-2.result * 4194304) is (g.B.Asker.shows c.close_run.new.asker) c.in_err-close_run.field-0.0 c.in_err-close_run.ensures.err)

pub returns-then-len-eq1-2-clause-ok : goal.returns-then-len-eq1-2-clause-ok
returns-then-len-eq1-2-clause-ok g c =
    let count : c.len-2.result ≡ length c.args.upper.now.items = omega arith in
    let is : (c.args.bytes - c.len-2.result * 4194304) ≡ c.args.bytes - length c.args.upper.now.items * 4194304 = ap (λ z. c.args.bytes - z * 4194304) count in
    let more : length c.args.upper.now.items ≡ 0 → length c.args.lower.now.items ≡ 1 → ⊥ = elim c.else-is_empty.branch [ else-is_empty-via-then-is_empty+else-len-eq1 w ↦ λ a b. w.if-len-eq1.false (omega (arith, w.len.ensures, b)) | else-is_empty-via-else-is_empty w ↦ λ a b. not_zero (vec_len c.args.upper.now) (sym c.is_empty.ensures ∙ w.if-is_empty.false) (omega (arith, a)) ] in
    let single : length c.close_run.new.above.items ≡ 1 = omega arith in
    ends_second (g.A.Addresser.name c.args.naming.now) c.args.session.now (g.B.Asker.shows c.args.asker.now) c.args.upper.now.items c.args.lower.now.items c.args.bytes c.requires.whole more (c.args.bytes - c.len-2.result * 4194304) is (g.B.Asker.shows c.close_run.new.asker) c.close_run.new.above.items c.in_ok-close_run.ensures.ok c.in_ok-close_run.ensures.one c.index-then-len-eq1-2.result.now single c.index-then-len-eq1-2.ensures

pub close_run-requires-2-clause-few : goal.close_run-requires-2-clause-few
close_run-requires-2-clause-few g c =
    let count : c.len-2.result ≡ length c.args.upper.now.items = omega arith in
    let is : (c.args.bytes - c.len-2.result * 4194304) ≡ c.args.bytes - length c.args.upper.now.items * 4194304 = ap (λ z. c.args.bytes - z * 4194304) count in
    let more : length c.args.upper.now.items ≡ 0 → length c.args.lower.now.items ≡ 1 → ⊥ = elim c.else-is_empty.branch [ else-is_empty-via-then-is_empty+else-len-eq1 w ↦ λ a b. w.if-len-eq1.false (omega (arith, w.len.ensures, b)) | else-is_empty-via-else-is_empty w ↦ λ a b. not_zero (vec_len c.args.upper.now) (sym c.is_empty.ensures ∙ w.if-is_empty.false) (omega (arith, a)) ] in
    few_after (g.A.Addresser.name c.args.naming.now) c.args.session.now (g.B.Asker.shows c.args.asker.now) c.args.upper.now.items c.args.lower.now.items c.args.bytes c.requires.whole more (c.args.bytes - c.len-2.result * 4194304) is (g.B.Asker.shows c.close_run.new.asker) c.close_run.new.above.items c.in_ok-close_run.ensures.ok c.in_ok-close_run.ensures.one

pub close_run-requires-2-clause-named : goal.close_run-requires-2-clause-named
close_run-requires-2-clause-named g c =
    let count : c.len-2.result ≡ length c.args.upper.now.items = omega arith in
    let is : (c.args.bytes - c.len-2.result * 4194304) ≡ c.args.bytes - length c.args.upper.now.items * 4194304 = ap (λ z. c.args.bytes - z * 4194304) count in
    let more : length c.args.upper.now.items ≡ 0 → length c.args.lower.now.items ≡ 1 → ⊥ = elim c.else-is_empty.branch [ else-is_empty-via-then-is_empty+else-len-eq1 w ↦ λ a b. w.if-len-eq1.false (omega (arith, w.len.ensures, b)) | else-is_empty-via-else-is_empty w ↦ λ a b. not_zero (vec_len c.args.upper.now) (sym c.is_empty.ensures ∙ w.if-is_empty.false) (omega (arith, a)) ] in
    named_after (g.A.Addresser.name c.args.naming.now) c.args.session.now (g.B.Asker.shows c.args.asker.now) c.args.upper.now.items c.args.lower.now.items c.args.bytes c.requires.whole more (c.args.bytes - c.len-2.result * 4194304) is (g.B.Asker.shows c.close_run.new.asker) c.close_run.new.above.items c.in_ok-close_run.ensures.ok c.in_ok-close_run.ensures.one

pub returns-in_err-close_run-2-clause-err : goal.returns-in_err-close_run-2-clause-err
returns-in_err-close_run-2-clause-err g c =
    let count : c.len-2.result ≡ length c.args.upper.now.items = omega arith in
    let is : (c.args.bytes - c.len-2.result * 4194304) ≡ c.args.bytes - length c.args.upper.now.items * 4194304 = ap (λ z. c.args.bytes - z * 4194304) count in
    let more : length c.args.upper.now.items ≡ 0 → length c.args.lower.now.items ≡ 1 → ⊥ = elim c.else-is_empty.branch [ else-is_empty-via-then-is_empty+else-len-eq1 w ↦ λ a b. w.if-len-eq1.false (omega (arith, w.len.ensures, b)) | else-is_empty-via-else-is_empty w ↦ λ a b. not_zero (vec_len c.args.upper.now) (sym c.is_empty.ensures ∙ w.if-is_empty.false) (omega (arith, a)) ] in
    let several : length c.close_run.new.above.items ≡ 1 → ⊥ = λ e. c.if-len-eq1-2.false (omega (arith, e)) in
    let p = err_from_is_err_and c.from_residual-in_err-close_run-2.result c.from_residual-in_err-close_run-2.ensures.1 in
    rw (p.1, p.2) (second_stops (g.A.Addresser.name c.args.naming.now) c.args.session.now (g.B.Asker.shows c.args.asker.now) c.args.upper.now.items c.args.lower.now.items c.args.bytes c.requires.whole more (c.args.bytes - c.len-2.result * 4194304) is (g.B.Asker.shows c.close_run.new.asker) c.close_run.new.above.items c.in_ok-close_run.ensures.ok c.in_ok-close_run.ensures.one c.new-highest.result.items c.new-highest.ensures.items several (g.B.Asker.shows c.close_run-2.new.asker) c.in_err-close_run-2.field-0.0 c.in_err-close_run-2.ensures.err)

pub returns-clause-ok : goal.returns-clause-ok
returns-clause-ok g c =
    let count : c.len-2.result ≡ length c.args.upper.now.items = omega arith in
    let is : (c.args.bytes - c.len-2.result * 4194304) ≡ c.args.bytes - length c.args.upper.now.items * 4194304 = ap (λ z. c.args.bytes - z * 4194304) count in
    let more : length c.args.upper.now.items ≡ 0 → length c.args.lower.now.items ≡ 1 → ⊥ = elim c.else-is_empty.branch [ else-is_empty-via-then-is_empty+else-len-eq1 w ↦ λ a b. w.if-len-eq1.false (omega (arith, w.len.ensures, b)) | else-is_empty-via-else-is_empty w ↦ λ a b. not_zero (vec_len c.args.upper.now) (sym c.is_empty.ensures ∙ w.if-is_empty.false) (omega (arith, a)) ] in
    let several : length c.close_run.new.above.items ≡ 1 → ⊥ = λ e. c.if-len-eq1-2.false (omega (arith, e)) in
    ends_third (g.A.Addresser.name c.args.naming.now) c.args.session.now (g.B.Asker.shows c.args.asker.now) c.args.upper.now.items c.args.lower.now.items c.args.bytes c.requires.whole more (c.args.bytes - c.len-2.result * 4194304) is (g.B.Asker.shows c.close_run.new.asker) c.close_run.new.above.items c.in_ok-close_run.ensures.ok c.in_ok-close_run.ensures.one c.new-highest.result.items c.new-highest.ensures.items (g.B.Asker.shows c.close_run-2.new.asker) c.close_run-2.new.above.items c.index-2.result.now c.in_ok-close_run-2.ensures.ok c.in_ok-close_run-2.ensures.one several c.index-2.ensures
