-- Entries that were looked at, one after another.
use Rattle.std.specs.List.{AllByRecursion}
use Rattle.std.proofs.Common.{◌≡◌, ◌∙◌, ap, sym, subst, ℕ, ◌+◌, ◌<◌, List, [], ◌∷◌, ◌++◌, Option, Some, None, refl, arith, false, length, length-take, take, get_or, true}
use Rattle.std.proofs.lemmas.Bool.{true≢false}
use Rattle.std.proofs.lemmas.List.{take_more}
use Rattle.std.proofs.Math.Seq.{get_or-append_seam}
use Rattle.std.specs.Option.{is_some}
use Rattle.hs_asking.specs.Asked.{IsOfNoLine}
use Rattle.hs_journal.specs.declared.entry.JournalEntry.{JournalEntry}
use Rattle.hs_journal.specs.declared.entry.Who.TheVariants as who
use Rattle.hs_model.specs.declared.reply.Reply.{Reply}
use Rattle.hs_asker.specs.Answer.{IsAnswerAt, IsAnswered}
use Rattle.hs_asker.specs.Kinds.{kind_may}
use Rattle.hs_asker.specs.declared.kinds.Kind.{Kind}

-- none of them is of a line, or only the one at this place is, which is of this one
abbrev pub Scans : List JournalEntry → ℕ → Option ℕ → Type 0
Scans xs line None = AllByRecursion IsOfNoLine xs
Scans xs line (Some place) = IsAnswerAt xs line place

pub all_more : (xs : List JournalEntry) (x : JournalEntry) → AllByRecursion IsOfNoLine xs → IsOfNoLine x → AllByRecursion IsOfNoLine (xs ++ x ∷ [])
all_more [] x h k = (k, tt)
all_more (y ∷ ys) x h k = (h.0, all_more ys x h.1 k)

append_three : (front : List JournalEntry) (entry : JournalEntry) (back : List JournalEntry) (x : JournalEntry) → (front ++ entry ∷ back) ++ x ∷ [] ≡ front ++ entry ∷ (back ++ x ∷ [])
append_three [] entry back x = refl
append_three (y ∷ ys) entry back x = ap (λ (rest : List JournalEntry). y ∷ rest) (append_three ys entry back x)

-- one more of no line
pub scan_more : (xs : List JournalEntry) (line : ℕ) (found : Option ℕ) (x : JournalEntry) → Scans xs line found → IsOfNoLine x → Scans (xs ++ x ∷ []) line found
scan_more xs line None x h k = all_more xs x h k
scan_more xs line (Some place) x h k = record {
  front = h.front;
  entry = h.entry;
  back = h.back ++ x ∷ [];
  is = ap (λ (ys : List JournalEntry). ys ++ x ∷ []) h.is ∙ append_three h.front h.entry h.back x;
  there = h.there;
  before = h.before;
  behind = all_more h.back x h.behind k;
  of_line = h.of_line;
}

-- one more, which is the line's
pub scan_found : (xs : List JournalEntry) (line : ℕ) (x : JournalEntry) → AllByRecursion IsOfNoLine xs → x.who ≡ who.Line line → IsAnswerAt (xs ++ x ∷ []) line (length xs)
scan_found xs line x h is = record { front = xs; entry = x; back = []; is = refl; there = refl; before = h; behind = tt; of_line = is }

-- ---- at a place

pub step_more : (xs : List JournalEntry) (line k : ℕ) (found new : Option ℕ) (d : JournalEntry) → k < length xs → Scans (take k xs) line found → IsOfNoLine (get_or xs k d) → new ≡ found → Scans (take (k + 1) xs) line new
step_more xs line k found new d low h none same =
    subst (λ (o : Option ℕ). Scans (take (k + 1) xs) line o) (sym same)
    (subst (λ (ys : List JournalEntry). Scans ys line found) (sym (take_more xs k d low)) (scan_more (take k xs) line found (get_or xs k d) h none))

pub step_found : (xs : List JournalEntry) (line k : ℕ) (found new : Option ℕ) (d : JournalEntry) → k < length xs → Scans (take k xs) line found → is_some found ≡ false → (get_or xs k d).who ≡ who.Line line → new ≡ Some k → Scans (take (k + 1) xs) line new
step_found xs line k (Some place) new d low h none is same = absurd (true≢false none)
step_found xs line k None new d low h none is same =
    let long : length (take k xs) ≡ k = omega (arith, low, length-take k xs) in
    subst (λ (o : Option ℕ). Scans (take (k + 1) xs) line o) (sym same)
    (subst (λ (ys : List JournalEntry). IsAnswerAt ys line k) (sym (take_more xs k d low))
    (subst (λ (n : ℕ). IsAnswerAt (take k xs ++ get_or xs k d ∷ []) line n) long (scan_found (take k xs) line (get_or xs k d) h is)))

-- what stands at the place of a line's answer is its answer
pub answered_at : (xs : List JournalEntry) (line place : ℕ) (kind : Kind) (d : JournalEntry) → IsAnswerAt xs line place → kind_may kind (get_or xs place d).reply ≡ true → IsAnswered xs line kind
answered_at xs line place kind d h may =
    let there : get_or xs place d ≡ h.entry =
    ap (λ (k : ℕ). get_or xs k d) (sym h.there) ∙ (ap (λ (ys : List JournalEntry). get_or ys (length h.front) d) h.is ∙ get_or-append_seam h.front h.entry h.back d) in
    record {
      told = h.entry.reply;
      answer = record { front = h.front; entry = h.entry; back = h.back; is = h.is; before = h.before; behind = h.behind; of_line = h.of_line; tells = refl };
      may = ap (λ (e : JournalEntry). kind_may kind e.reply) (sym there) ∙ may;
    }
