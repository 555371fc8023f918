-- The journal of a cluster, as it goes on.
use Rattle.std.specs.List.{AllByRecursion}
use Rattle.std.proofs.Common.{◌≡◌, ◌∙◌, ap, sym, subst, ℕ, ◌+◌, ◌≤◌, List, [], ◌∷◌, ◌++◌, Result, refl, arith, length, drop}
use Rattle.std.proofs.lemmas.List.{append_assoc, drop_at}
use Rattle.std.specs.Prelude.{⊤}
use Rattle.hs_asking.specs.Asked.{IsOfAnother, IsOfNoLine}
use Rattle.hs_cluster.specs.declared.fault.ClusterFault.{ClusterFault}
use Rattle.hs_cluster.specs.Running.{Running}
use Rattle.hs_events.specs.Due.{Events}
use Rattle.hs_events.specs.Found.{Found}
use Rattle.hs_journal.specs.declared.entry.JournalEntry.{JournalEntry}
use Rattle.hs_journal.specs.declared.entry.Who.TheVariants as who
use Rattle.hs_model.specs.declared.command.Command.{Command}
use Rattle.hs_model.specs.declared.reply.Reply.{Reply}
use Rattle.hs_run.specs.Between.{Point}
use Rattle.hs_run.proofs.AnsweredLemmas.{HasAdded, has_added}
use Rattle.hs_asker.specs.Answer.{HasAnswer, IsUpTo}
use Rattle.hs_asker.specs.Going.{AtEntry, HasDone, RunsAlone, begun_by}

-- what a line adds
pub adds : (tells : Type 0) (e : AtEntry) (found : Found) (first : Running) (opening : Events) (said : List Command) (lines : List Events) (at new : Point) (asked : Command) (did : Result ⊤ ClusterFault)
    → HasDone (begun_by e found first opening) said lines at → RunsAlone tells e.set.name asked at new did → (more : List JournalEntry) × (new.cluster.core.journal ≡ at.cluster.core.journal ++ more)
adds tells e found first opening said lines at new asked did done runs =
    let h : HasAdded at.cluster.core runs.runs.events new.now = has_added at.cluster.core runs.runs.events at.now new.now done.behind.answered.between runs.runs.rises in
    (h.more, runs.runs.does.journal ∙ h.is)

-- it is what stands behind the journal before it
pub behind_it : (old new more : List JournalEntry) → new ≡ old ++ more → new ≡ old ++ drop (length old) new
behind_it old new more is =
    is ∙ ap (λ (x : List JournalEntry). old ++ x) (sym (drop_at old more (length old) refl) ∙ ap (λ (x : List JournalEntry). drop (length old) x) (sym is))

pub two_more : (a b c x y : List JournalEntry) → b ≡ a ++ x → c ≡ b ++ y → c ≡ a ++ (x ++ y)
two_more a b c x y f g = g ∙ ap (λ (z : List JournalEntry). z ++ y) f ∙ append_assoc a x y

-- ---- of which lines they are

pub up_to_more : (line more : ℕ) (entries : List JournalEntry) → line ≤ more → AllByRecursion (IsUpTo line) entries → AllByRecursion (IsUpTo more) entries
up_to_more line more [] le h = tt
up_to_more line more (x ∷ xs) le h = ((λ n is. let low = h.0 n is in omega (arith, low, le)), up_to_more line more xs le h.1)

pub up_to_both : (line : ℕ) (xs ys : List JournalEntry) → AllByRecursion (IsUpTo line) xs → AllByRecursion (IsUpTo line) ys → AllByRecursion (IsUpTo line) (xs ++ ys)
up_to_both line [] ys h k = k
up_to_both line (x ∷ xs) ys h k = (h.0, up_to_both line xs ys h.1 k)

pub up_to_none : (line : ℕ) (entries : List JournalEntry) → AllByRecursion IsOfNoLine entries → AllByRecursion (IsUpTo line) entries
up_to_none line [] h = tt
up_to_none line (x ∷ xs) h = ((λ n is. absurd (h.0 n is)), up_to_none line xs h.1)

same_line : (n m : ℕ) → who.Line n ≡ who.Line m → n ≡ m
same_line n m e = cc

pub up_to_answer : (line last : ℕ) (entries : List JournalEntry) (told : Reply) → line ≤ last → HasAnswer entries line told → AllByRecursion (IsUpTo last) entries
up_to_answer line last entries told le h =
    subst (λ (xs : List JournalEntry). AllByRecursion (IsUpTo last) xs) (sym h.is)
    (up_to_both last h.front (h.entry ∷ h.back) (up_to_none last h.front h.before)
    ((λ n is. let same = same_line line n (sym h.of_line ∙ is) in omega (arith, same, le)), up_to_none last h.back h.behind))

-- none is of a line behind them
pub unused : (line next : ℕ) (entries : List JournalEntry) → line + 1 ≤ next → AllByRecursion (IsUpTo line) entries → AllByRecursion (IsOfAnother next) entries
unused line next [] more h = tt
unused line next (x ∷ xs) more h = ((λ is. let low = h.0 next is in absurd (omega (arith, low, more))), unused line next xs more h.1)
