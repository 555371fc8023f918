use Rattle.std.proofs.Common.{◌≡◌, sym, subst, ℕ, zero, suc, List, [], Option, Some, None}
use Rattle.std.specs.List.{slice_get}
use Rattle.hs_settled.proofs.dates.notes_have_their_line.Goals as goal
use Rattle.hs_settled.proofs.DatedLemmas.{dated_left}
use Rattle.hs_settled.proofs.CausesRunLemmas.{last_kept, mute}
use Rattle.hs_journal.specs.declared.entry.JournalEntry.{JournalEntry}
use Rattle.hs_journal.specs.Events.{client_op}
use Rattle.hs_journal.specs.Order.{IsOfLine, IsOrdered, IsPrompt}
use Rattle.hs_journal.specs.Telling.{AreDated}
use Rattle.hs_model.specs.declared.command.Command.{Command}
use Rattle.hs_promise.specs.Machine.{WentAs}
use Rattle.hs_promise.specs.Run.{Ran, Script}
use Rattle.hs_promise.specs.Story.{Story, last_core}

no_entry : (entries : List JournalEntry) (i n : ℕ) → entries ≡ [] → IsOfLine entries i n → ⊥
no_entry entries i n none o = let at = subst (λ es. IsOfLine es i n) none o in nothing i at.entry at.at
  where
    nothing : (i : ℕ) (e : JournalEntry) → slice_get [] i ≡ Some e → ⊥
    nothing i e h = cc h

prompt_is : (commands : ℕ → Option Command) (entries : List JournalEntry) → IsOrdered (mute commands) entries → (i n : ℕ) → IsOfLine entries i n → IsPrompt (client_op (commands n)) → IsPrompt (client_op (mute commands n))
prompt_is commands entries ordered i zero o prompt = absurd (cc (ordered.named i zero o))
prompt_is commands entries ordered i (suc n) o prompt = prompt

as_said : (commands : ℕ → Option Command) (entries : List JournalEntry) → IsOrdered (mute commands) entries → AreDated (mute commands) entries → AreDated commands entries
as_said commands entries ordered dated = record {
  later = dated.later;
  earlier = λ i j n peer line a prompt b le. dated.earlier i j n peer line a (prompt_is commands entries ordered i n a prompt) b le;
}

dated_of : (S : Script) (r : Ran) (how : Option Story) → WentAs S r how → AreDated S.commands r.journal
dated_of S r None never = record {
  later = λ i j n peer line a b lt. absurd (no_entry r.journal i n never.journal a);
  earlier = λ i j n peer line a prompt b le. absurd (no_entry r.journal i n never.journal a);
}
dated_of S r (Some story) went =
    subst (λ es. AreDated S.commands es) (sym went.journal)
    (as_said S.commands (last_core S story).journal (last_kept S r story went).turn.journal
    (dated_left (mute S.commands) (last_core S story).journal (last_core S story).refused (last_kept S r story went).dated))

pub returns : goal.returns
returns c = λ S r how went. dated_of S r how went
