-- That no client asks with line 0 leaves the order of a journal.
use Rattle.std.proofs.Common.{◌≡◌, ◌∙◌, ap, sym, subst, ℕ, zero, suc, List, [], Option, Some, None, IsSome, refl}
use Rattle.std.specs.List.{slice_get}
use Rattle.hs_settled.proofs.CausesRunLemmas.{mute}
use Rattle.hs_journal.specs.declared.entry.JournalEntry.{JournalEntry}
use Rattle.hs_journal.specs.Events.{client_op}
use Rattle.hs_journal.specs.Order.{IsAt, IsOpen, IsOrdered, IsPrompt, IsWaiting, session_of}
use Rattle.hs_model.specs.declared.command.Command.{Command}
use Rattle.hs_model.specs.declared.op.Op.{Op}

-- ---- an empty journal

nowhere : (entries : List JournalEntry) (i : ℕ) (e : JournalEntry) → entries ≡ [] → IsAt entries i e → ⊥
nowhere entries i e none at = nothing i e (subst (λ es. slice_get es i ≡ Some e) none at)
  where
    nothing : (i : ℕ) (e : JournalEntry) → slice_get [] i ≡ Some e → ⊥
    nothing i e h = cc h

pub nothing_in_order : (commands : ℕ → Option Command) (entries : List JournalEntry) → entries ≡ [] → IsOrdered commands entries
nothing_in_order commands entries none = record {
  named = λ i n a. absurd (nowhere entries i a.entry none a.at);
  once = λ i j n a b. absurd (nowhere entries i a.entry none a.at);
  alone = λ i k session a of differs l m x y. absurd (nowhere entries i a.entry none a.at);
  busy = λ i k session e at line of differs l x. absurd (nowhere entries i e none at);
  only_busy = λ i k l e at line told. absurd (nowhere entries i e none at);
  prompt = λ i j k n a asks b lt. absurd (nowhere entries i a.entry none a.at);
  prompt_busy = λ i j k n l e at line told b lt. absurd (nowhere entries i e none at);
  moments = λ i j first second a b le. absurd (nowhere entries i first none a);
}

-- ---- the same clients

module _ (commands : ℕ → Option Command) (nobody : client_op (commands 0) ≡ None) (entries : List JournalEntry) where
  same : (n : ℕ) → client_op (mute commands n) ≡ client_op (commands n)
  same zero = sym nobody
  same (suc n) = refl

  session_is : (n : ℕ) → session_of (client_op (mute commands n)) ≡ session_of (client_op (commands n))
  session_is n = ap (λ (o : Option Op). session_of o) (same n)

  some_command : (n : ℕ) → IsSome (mute commands n) → IsSome (commands n)
  some_command zero h = absurd (cc h)
  some_command (suc n) h = h

  waits : (i k l : ℕ) → IsWaiting commands entries i k l → IsWaiting (mute commands) entries i k l
  waits i k l w = record { earlier = w.earlier; same_session = session_is l ∙ w.same_session ∙ sym (session_is k); unanswered = w.unanswered }

  waits_too : (i k l : ℕ) → IsWaiting (mute commands) entries i k l → IsWaiting commands entries i k l
  waits_too i k l w = record { earlier = w.earlier; same_session = sym (session_is l) ∙ w.same_session ∙ session_is k; unanswered = w.unanswered }

  opens : (n : ℕ) → IsOpen (client_op (mute commands n)) → IsOpen (client_op (commands n))
  opens n h = subst (λ (o : Option Op). IsOpen o) (same n) h

  opens_too : (n : ℕ) → IsOpen (client_op (commands n)) → IsOpen (client_op (mute commands n))
  opens_too n h = subst (λ (o : Option Op). IsOpen o) (sym (same n)) h

  pub in_order : IsOrdered (mute commands) entries → IsOrdered commands entries
  in_order h = record {
    named = λ i n a. some_command n (h.named i n a);
    once = h.once;
    alone = λ i k session a of differs l m x y. h.alone i k session a (session_is k ∙ of) (λ o. differs (opens k o)) l m (waits i k l x) (waits i k m y);
    busy = λ i k session e at line of differs l x. h.busy i k session e at line (session_is k ∙ of) (λ o. differs (opens k o)) l (waits i k l x);
    only_busy = λ i k l e at line told.
        let b = h.only_busy i k l e at line told in
        (b.0, sym (session_is k) ∙ b.1, (λ o. b.2 (opens_too k o)), waits_too i k l b.3);
    prompt = λ i j k n a asks b lt. h.prompt i j k n a (subst (λ (o : Option Op). IsPrompt o) (sym (same k)) asks) b lt;
    prompt_busy = h.prompt_busy;
    moments = h.moments;
  }
