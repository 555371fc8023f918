-- What opening answered, and how it was put.
use Rattle.std.proofs.Common.{◌≡◌, sym, subst, ℕ, ◌≤◌, List, [], Option, Result, Ok, arith}
use Rattle.std.proofs.lemmas.List.Elements.{All-nil}
use Rattle.std.specs.Prelude.{⊤}
use Rattle.hs_cluster.specs.declared.fault.ClusterFault.{ClusterFault}
use Rattle.hs_journal.specs.declared.entry.JournalEntry.{JournalEntry}
use Rattle.hs_script.specs.Text.{text}
use Rattle.hs_run.specs.declared.stop.Stop.{Stop}
use Rattle.hs_run.specs.Between.{Point}
use Rattle.hs_run.specs.Going.{Begun, IsOpened, IsPrinted, IsPutSoFar}
use Rattle.hs_run.specs.Puts.{Puts}
use Rattle.hs_run.proofs.AnsweredLemmas.{AreDatedBy}
use Rattle.hs_run.proofs.PrintedLemmas.{printed_more, printed_none, put_more_so_far}
use Rattle.hs_run.proofs.RiseLemmas.{rise_le}

pub since_opened : (tells : Type 0) (b : Begun) (did : Result ⊤ ClusterFault) (at : Point) → IsOpened tells b did at → b.old.moment ≤ at.now
since_opened tells b did at h =
    let one : b.old.moment ≤ b.found.opened = h.later in
    let two : b.found.opened ≤ at.now = rise_le b.found.opened at.now b.opening h.rises in
    omega (arith, one, two)

module _ (tells : Type 0) (b : Begun) (did : Result ⊤ ClusterFault) (at : Point) (now : ℕ) (got : Option (List (ℕ × ℕ))) (put : Result ⊤ Stop) (opened : IsOpened tells b did at) (since : b.old.moment ≤ at.now) (puts : Puts at.now now (text at.cluster.core.journal) b.old.got got put) where
  dated : AreDatedBy at.now at.cluster.core.journal
  dated = subst (λ (j : List JournalEntry). AreDatedBy at.now j) (sym opened.journal) opened.answered.dated

  pub opening_so_far : IsPutSoFar b.old now got at.cluster.core.journal
  opening_so_far = put_more_so_far b.old b.old.moment at.now now b.old.got got [] at.cluster.core.journal (omega arith) since (All-nil (λ (entry : JournalEntry). entry.moment ≤ b.old.moment)) dated (printed_none b.old) put puts

  pub opening_printed : put ≡ Ok tt → IsPrinted b.old now got at.cluster.core.journal
  opening_printed is = printed_more b.old b.old.moment at.now now b.old.got got [] at.cluster.core.journal (omega arith) since (All-nil (λ (entry : JournalEntry). entry.moment ≤ b.old.moment)) dated (printed_none b.old)
      (subst (λ (r : Result ⊤ Stop). Puts at.now now (text at.cluster.core.journal) b.old.got got r) is puts)
