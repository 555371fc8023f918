-- What an operation was answered, behind its lines.
use Rattle.std.proofs.Common.{◌≡◌, ◌∙◌, ap, sym, subst, ℕ, ◌+◌, ◌≤◌, true, List, Result, Ok, Err, refl, arith, drop, length}
use Rattle.std.specs.Prelude.{IfErr, IfOk, ⊤}
use Rattle.hs_cluster.specs.declared.fault.ClusterFault.{ClusterFault}
use Rattle.hs_desk.specs.declared.fault.CoreFault.{CoreFault}
use Rattle.hs_desk.specs.declared.fault.CoreFault.TheVariants as core
use Rattle.hs_journal.specs.declared.entry.JournalEntry.{JournalEntry}
use Rattle.hs_limits.specs.declared.address.Address.{Address}
use Rattle.hs_model.specs.declared.command.Command.{Command}
use Rattle.hs_model.specs.declared.command.Command.TheVariants as command
use Rattle.hs_model.specs.declared.op.Op.{Op}
use Rattle.hs_model.specs.declared.reply.Reply.{Reply}
use Rattle.hs_run.specs.Between.{Point}
use Rattle.hs_run.proofs.ReadyLemmas.{journal_grows}
use Rattle.hs_asker.specs.Answer.{HasAnswer, IsAnswered}
use Rattle.hs_asker.specs.Asked.{Asks, Broken, DoesAsk, Heard, Unasked, Undriven, Unheard, core_of}
use Rattle.hs_asker.specs.Driven.{Drives}
use Rattle.hs_asker.specs.Going.{RunsAlone}
use Rattle.hs_asker.specs.Kinds.{kind_may, kind_of}
use Rattle.hs_asker.specs.declared.kinds.Kind.{Kind}
use Rattle.hs_asker.proofs.KindLemmas.{may_by}

pub journal_on : (tells : Type 0) (name : List ℕ → Address) (asked : Command) (old new : Point) (did : Result ⊤ ClusterFault) → RunsAlone tells name asked old new did → length old.cluster.core.journal ≤ length new.cluster.core.journal
journal_on tells name asked old new did runs =
    let grows = journal_grows old.cluster.core runs.runs.events in
    let same = ap length runs.runs.does.journal in
    omega (arith, grows, same)

pub heard_or : (tells : Type 0) (name : List ℕ → Address) (o : Op) (old mid new : Point) (more : List Command) (entries : List JournalEntry) (first : ℕ) (kind : Kind) (result : Result Reply CoreFault) → RunsAlone tells name (command.Client o) old mid (Ok tt) → Drives tells name mid more new
    → entries ≡ drop (length old.cluster.core.journal) new.cluster.core.journal → first ≡ old.line + 1 → kind ≡ kind_of o
    → IsAnswered entries first kind → IfOk result (λ told. HasAnswer entries first told) → IfOk result (λ told. kind_may kind told ≡ true) → IfErr result (λ fault. fault ≡ core.NoMemory) → DoesAsk tells name o old new more result
heard_or tells name o old mid new more entries first kind (Ok told) asks drives are number same found answer may only =
    Heard mid asks drives told refl
    (subst (λ (n : ℕ). HasAnswer (drop (length old.cluster.core.journal) new.cluster.core.journal) n told) number (subst (λ (xs : List JournalEntry). HasAnswer xs first told) are answer))
    (may_by o told (ap (λ (k : Kind). kind_may k told) (sym same) ∙ may))
heard_or tells name o old mid new more entries first kind (Err fault) asks drives are number same found answer may only =
    Unheard mid asks drives found.told (ap (λ (f : CoreFault). Err f) only)
    (subst (λ (n : ℕ). HasAnswer (drop (length old.cluster.core.journal) new.cluster.core.journal) n found.told) number (subst (λ (xs : List JournalEntry). HasAnswer xs first found.told) are found.answer))
    (may_by o found.told (ap (λ (k : Kind). kind_may k found.told) (sym same) ∙ found.may))

-- there was no room behind it
unheard : (tells : Type 0) (name : List ℕ → Address) (o : Op) (old new : Point) (more : List Command) (result : Result Reply CoreFault) (told : Reply) → result ≡ Ok told → DoesAsk tells name o old new more result → DoesAsk tells name o old new more (Err core.NoMemory)
unheard tells name o old new more result told ok (Unasked same is) = Unasked same refl
unheard tells name o old new more result told ok (Broken fault asks is) = absurd (err_ok (core_of fault) told (sym is ∙ ok))
  where
    err_ok : (f : CoreFault) (x : Reply) → ◌≡◌ {A = Result Reply CoreFault} (Err f) (Ok x) → ⊥
    err_ok f x e = cc
unheard tells name o old new more result told ok (Undriven mid fault asks drives is) = absurd (err_ok (core_of fault) told (sym is ∙ ok))
  where
    err_ok : (f : CoreFault) (x : Reply) → ◌≡◌ {A = Result Reply CoreFault} (Err f) (Ok x) → ⊥
    err_ok f x e = cc
unheard tells name o old new more result told ok (Unheard mid asks drives reply is answer may) = Unheard mid asks drives reply refl answer may
unheard tells name o old new more result told ok (Heard mid asks drives reply is answer may) = Unheard mid asks drives reply refl answer may

pub asks_unheard : (tells : Type 0) (name : List ℕ → Address) (o : Op) (old new : Point) (was then is : List Command) (result : Result Reply CoreFault) (told : Reply) → is ≡ then → result ≡ Ok told → Asks tells name o old new was then result → Asks tells name o old new was is (Err core.NoMemory)
asks_unheard tells name o old new was then is result told same ok a = record { more = a.more; driving = a.driving; said = same ∙ a.said; does = unheard tells name o old new a.more result told ok a.does }
