-- What is told of a difference.
use Rattle.std.proofs.Common.{◌≡◌, ◌∙◌, ap, sym, subst, ℕ, ◌<◌, Bool, false, List, ◌++◌, Option, Some, None, length, get_or}
use Rattle.std.specs.Fmt.{decimal}
use Rattle.std.specs.Prelude.{IfNone, IfSome, codes, slice_get}
use Rattle.hs_book.specs.Book.{Book}
use Rattle.hs_core_words.specs.State.{Core}
use Rattle.hs_desk.specs.declared.fault.CoreFault.{CoreFault}
use Rattle.hs_journal.specs.declared.entry.JournalEntry.{JournalEntry}
use Rattle.hs_promise.specs.declared.load.Kept.{Kept}
use Rattle.hs_promise.specs.declared.load.Stored.{Stored}
use Rattle.hs_promise.specs.declared.told.Told.{Told}
use Rattle.hs_promise.specs.declared.told.Told.TheVariants as told
use Rattle.hs_workers.specs.Asks.{KeptAnswer}
use Rattle.hs_workers.specs.declared.fault.WorkFault.{WorkFault}
use Rattle.hs_load.specs.Compared.{PartAt, answer_in}
use Rattle.hs_load.specs.declared.judging.TornJob.{TornJob}
use Rattle.hs_load.specs.declared.working.Apart.{Apart}
use Rattle.hs_load.specs.declared.working.Joined.{Joined}
use Rattle.hs_load.specs.Joined.{HasBook, IsApart, team_of}
use Rattle.hs_load.specs.Judged.{Answers, AreReported, Asker, Difference, IsMismatch, NoneTorn, Worker, answers_by, told_at, wants_memory}
use Rattle.hs_load.specs.Team.{sessions_of}
use Rattle.hs_load.proofs.CompareLemmas.{some_there}

module _ (writers : ℕ) (journal : List JournalEntry) (kept : List Kept) (stored : List Stored) (d : Difference) where
  pub asker_part : (k : ℕ) (given : Kept) (f : CoreFault) → k < length kept → given ≡ get_or kept k given → given.fault ≡ Some f
      → d.session ≡ given.session → d.place ≡ length given.answers → d.said ≡ told.Fault f → d.had ≡ told.Absent → IsMismatch writers journal kept stored d
  asker_part k given f low is fault one two three four = Asker k given f (some_there kept k given low is) fault (λ i. record { session = one i; place = two i; said = three i; had = four i })

  pub worker_part : (k : ℕ) (given : Stored) (f : CoreFault) → k < length stored → given ≡ get_or stored k given → given.fault ≡ Some f
      → d.session ≡ codes "peer" ++ decimal k → d.place ≡ length given.numbers → d.said ≡ told.Fault f → d.had ≡ told.Absent → IsMismatch writers journal kept stored d
  worker_part k given f low is fault one two three four = Worker k given f (some_there stored k given low is) fault (λ i. record { session = one i; place = two i; said = three i; had = four i })

  pub answers_part : (k place : ℕ) (given : Kept) (in_journal : Option ℕ) → k < length kept → given ≡ get_or kept k given → PartAt place given.answers (answers_by writers k journal)
      → slice_get (answers_by writers k journal) place ≡ answer_in journal in_journal
      → d.session ≡ given.session → d.place ≡ place → d.said ≡ told_at (slice_get given.answers place) → d.had ≡ told_at (answer_in journal in_journal) → IsMismatch writers journal kept stored d
  answers_part k place given in_journal low is part there one two three four =
      let had : d.had ≡ told_at (slice_get (answers_by writers k journal) place) = four ∙ ap (λ (o : Option KeptAnswer). told_at o) (sym there) in
      Answers k place given (some_there kept k given low is) part (λ i. record { session = one i; place = two i; said = three i; had = had i })

pub some_of : {T : Type 0} (P : T → Type 0) (o : Option T) (x : T) → o ≡ Some x → IfSome o P → P x
some_of P o x is h = subst (λ (p : Option _). IfSome p P) is h

-- a difference behind the numbers, of a book that goes on
pub differs_so : (writers : ℕ) (start : Core) (joined : Joined) (book : Book) (journal : List JournalEntry) (kept : List Kept) (stored : List Stored) (wants : Bool) (stops : List (Option WorkFault)) (torn : Option TornJob) (d : Difference)
    → HasBook start joined book → wants ≡ wants_memory (team_of joined.peers joined.askers) → wants ≡ false → IfNone torn (NoneTorn stops) → torn ≡ None → stops ≡ joined.peers.stops.items
    → joined.apart ≡ None → joined.ended ≡ None → journal ≡ joined.core.journal → kept ≡ joined.askers.kept.items → stored ≡ joined.peers.stored.items → IsMismatch writers journal kept stored d
    → (wants_memory (team_of joined.peers joined.askers) ≡ false) × NoneTorn joined.peers.stops.items × (book.ended ≡ None) × AreReported joined.peers.stored.items book
    × IsMismatch writers book.core.journal joined.askers.kept.items joined.peers.stored.items d
differs_so writers start joined book journal kept stored wants stops torn d has told rested none untorn all apart ended one two three mismatch = (
  sym told ∙ rested,
  subst NoneTorn all (subst (λ (o : Option TornJob). IfNone o (NoneTorn stops)) untorn none),
  sym has.ended ∙ ended,
  subst (λ (o : Option Apart). IsApart joined.peers.stored.items book o) apart has.apart,
  subst (λ (js : List JournalEntry). IsMismatch writers js joined.askers.kept.items joined.peers.stored.items d) (one ∙ ap (λ (c : Core). c.journal) has.core)
      (subst (λ (ks : List Kept). IsMismatch writers journal ks joined.peers.stored.items d) two (subst (λ (ss : List Stored). IsMismatch writers journal kept ss d) three mismatch)),
)
