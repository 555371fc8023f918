-- The most entries of a script's run are those of its lines and its `delete` lines.
use Rattle.std.proofs.Common.{◌≡◌, ◌∙◌, sym, ap, ℕ, zero, suc, ◌+◌, ◌-◌, ◌*◌, ◌≤◌, ◌==◌, Bool, true, false, cond, List, [], ◌∷◌, length, Option, Some, None, refl, arith, tests, bytes_eq, codes, count_by, slice_get}
use Rattle.std.specs.List.{range_with_len}
use Rattle.hs_model.specs.declared.command.Command.{Command}
use Rattle.hs_model.specs.declared.command.Command.TheVariants as command
use Rattle.hs_model.specs.declared.op.Op.TheVariants as op
use Rattle.hs_promise.specs.Completes.{deletes_up_to, entries_most, entry_bound, is_delete}
use Rattle.hs_promise.specs.Run.{Script}
use Rattle.hs_script.specs.Lines.{line_at, lines_of}
use Rattle.hs_script.specs.Reading.{command_at, commands, commands_of}
use Rattle.hs_script.specs.Scripts.{delete_count}
use Rattle.hs_settled.proofs.EndsCountLemmas.{many, many-counted, times, times-is, times_le}
use Rattle.hs_settled.proofs.ScriptLemmas.{deletes, line_says_delete}

-- lines are numbered from 1
line_next : (lines : List (List ℕ)) (n k : ℕ) → n ≡ suc k → line_at lines n ≡ slice_get lines k
line_next lines n k is = go (n == 0) refl
  where
    go : (b : Bool) → (n == 0) ≡ b → cond b None (slice_get lines (n - 1)) ≡ slice_get lines k
    go true e = absurd (grind (arith, tests, e, is))
    go false e = ap (λ m. slice_get lines m) (omega (arith, is))

-- ---- numbers that pass are those of lines that pass

-- the line of a number, which passes
record Passing (q : List ℕ → Bool) (lines : List (List ℕ)) (i : ℕ) : Type 0 where
  line : List ℕ
  at : slice_get lines i ≡ Some line
  is : q line ≡ true

counts : (b : Bool) → b ≡ true → 1 ≤ cond b 1 0
counts true is = omega arith
counts false is = cc is

next_number : (from i : ℕ) → from + 1 + i ≡ from + suc i
next_number from i = omega arith

few : (p : ℕ → Bool) (q : List ℕ → Bool) (from n : ℕ) (lines : List (List ℕ)) → ((i : ℕ) → p (from + i) ≡ true → Passing q lines i) → many p (range_with_len from n) ≤ many q lines
few p q from zero lines each = omega arith
few p q from (suc n) [] each = none (p from) refl (few p q (from + 1) n [] nobody)
  where
    nobody : (i : ℕ) → p (from + 1 + i) ≡ true → Passing q [] i
    nobody i is = absurd (cc (each (suc i) (ap p (sym (next_number from i)) ∙ is)).at)

    none : (b : Bool) → p from ≡ b → many p (range_with_len (from + 1) n) ≤ 0 → cond b 1 0 + many p (range_with_len (from + 1) n) ≤ 0
    none true is rest = let here : Passing q [] 0 = each 0 (ap p (omega arith) ∙ is) in absurd (cc here.at)
    none false is rest = omega (arith, rest)
few p q from (suc n) (line ∷ lines) each = by (p from) refl (few p q (from + 1) n lines later)
  where
    later : (i : ℕ) → p (from + 1 + i) ≡ true → Passing q lines i
    later i is = let there : Passing q (line ∷ lines) (suc i) = each (suc i) (ap p (sym (next_number from i)) ∙ is) in record { line = there.line; at = there.at; is = there.is }

    by : (b : Bool) → p from ≡ b → many p (range_with_len (from + 1) n) ≤ many q lines → cond b 1 0 + many p (range_with_len (from + 1) n) ≤ cond (q line) 1 0 + many q lines
    by true is rest =
        let here : Passing q (line ∷ lines) 0 = each 0 (ap p (omega arith) ∙ is) in
        let same : line ≡ here.line = cc here.at in
        let passes : q line ≡ true = ap q same ∙ here.is in
        let one = counts (q line) passes in
        omega (arith, one, rest)
    by false is rest = omega (arith, rest)

-- ---- deletions

module _ (commands : ℕ → Option Command) (lines : List (List ℕ)) (says : (n : ℕ) → commands n ≡ commands_of lines n) where
  delete_deletes : (c : Option Command) → is_delete c ≡ true → deletes c ≡ true
  delete_deletes (Some (command.Client op.Delete)) e = refl
  delete_deletes (Some (command.Client other)) e = e
  delete_deletes other e = cc e

  says_delete : (i : ℕ) → is_delete (commands (1 + i)) ≡ true → Passing (λ line. bytes_eq line (codes "delete")) lines i
  says_delete i is = go (slice_get lines i) refl
    where
      asked : deletes (command_at (slice_get lines i)) ≡ true
      asked = sym (ap (λ (o : Option (List ℕ)). deletes (command_at o)) (line_next lines (1 + i) i (omega arith))) ∙ sym (ap (λ (c : Option Command). deletes c) (says (1 + i))) ∙ delete_deletes (commands (1 + i)) is

      go : (o : Option (List ℕ)) → slice_get lines i ≡ o → Passing (λ line. bytes_eq line (codes "delete")) lines i
      go None at = let wrong : false ≡ true = sym (ap (λ (o : Option (List ℕ)). deletes (command_at o)) at) ∙ asked in absurd (cc wrong)
      go (Some line) at = record { line = line; at = at; is = line_says_delete line (sym (ap (λ (o : Option (List ℕ)). deletes (command_at o)) at) ∙ asked) }

  pub deletes_few : (line : ℕ) → deletes_up_to commands line ≤ delete_count lines
  deletes_few line =
      let all : many (λ n. is_delete (commands n)) (range_with_len 1 line) ≤ many (λ (l : List ℕ). bytes_eq l (codes "delete")) lines = few (λ n. is_delete (commands n)) (λ l. bytes_eq l (codes "delete")) 1 line lines says_delete in
      let one : many (λ n. is_delete (commands n)) (range_with_len 1 line) ≡ count_by (λ n. is_delete (commands n)) (range_with_len 1 line) = many-counted (λ n. is_delete (commands n)) (range_with_len 1 line) in
      let two : many (λ (l : List ℕ). bytes_eq l (codes "delete")) lines ≡ count_by (λ (l : List ℕ). bytes_eq l (codes "delete")) lines = many-counted (λ (l : List ℕ). bytes_eq l (codes "delete")) lines in
      omega (arith, all, one, two)

-- ---- the bound of a script

pub most_bound : (S : Script) (script : List ℕ) → ((n : ℕ) → S.commands n ≡ commands script n) → (line : ℕ) → line ≤ length (lines_of script) → entries_most S.commands S.set.shape line ≤ entry_bound S (lines_of script)
most_bound S script says line within =
    let n : ℕ = 2 * S.set.shape.shards + 1 in
    let fewer : deletes_up_to S.commands line ≤ delete_count (lines_of script) = deletes_few S.commands (lines_of script) says line in
    let wider : times n (deletes_up_to S.commands line + 2) ≤ times n (delete_count (lines_of script) + 2) = times_le n (deletes_up_to S.commands line + 2) (delete_count (lines_of script) + 2) (omega (arith, fewer)) in
    let one : times n (deletes_up_to S.commands line + 2) ≡ n * (deletes_up_to S.commands line + 2) = times-is n (deletes_up_to S.commands line + 2) in
    let two : times n (delete_count (lines_of script) + 2) ≡ n * (delete_count (lines_of script) + 2) = times-is n (delete_count (lines_of script) + 2) in
    omega (arith, within, wider, one, two)
