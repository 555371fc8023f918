-- An operation with what is done behind its line.
use Rattle.std.proofs.Common.{◌≡◌, ◌∙◌, ap, sym, subst, ℕ, ◌+◌, ◌≤◌, true, List, [], ◌∷◌, ◌++◌, Result, Ok, Err, refl, append-nil, arith, drop, length}
use Rattle.std.specs.Prelude.{IfErr, IfOk}
use Rattle.hs_cluster.specs.declared.fault.ClusterFault.{ClusterFault}
use Rattle.hs_desk.specs.declared.fault.CoreFault.{CoreFault}
use Rattle.hs_desk.specs.declared.fault.CoreFault.TheVariants as core
use Rattle.hs_journal.specs.declared.entry.JournalEntry.{JournalEntry}
use Rattle.hs_limits.specs.declared.address.Address.{Address}
use Rattle.hs_model.specs.declared.command.Command.{Command}
use Rattle.hs_model.specs.declared.command.Command.TheVariants as command
use Rattle.hs_model.specs.declared.op.Op.{Op}
use Rattle.hs_model.specs.declared.reply.Reply.{Reply}
use Rattle.hs_run.specs.Between.{Point}
use Rattle.hs_asker.specs.Answer.{HasAnswer, IsAnswered}
use Rattle.hs_asker.specs.Asked.{Asks, Broken, Unasked, Undriven, core_of}
use Rattle.hs_asker.specs.Driven.{DrivesOn}
use Rattle.hs_asker.specs.Going.{RunsAlone}
use Rattle.hs_asker.specs.Kinds.{kind_may, kind_of}
use Rattle.hs_asker.specs.declared.kinds.Kind.{Kind}
use Rattle.hs_asker.proofs.DrivenLemmas.{journal_driven, whole_drives}
use Rattle.hs_asker.proofs.HeardLemmas.{heard_or, journal_on}

module _ (tells : Type 0) (name : List ℕ → Address) (o : Op) where
  pub asks_none : (old : Point) (was is : List Command) → is ≡ was ++ command.Client o ∷ [] → Asks tells name o old old was is (Err core.NoMemory)
  asks_none old was is same = record { more = []; driving = tt; said = same ∙ sym (append-nil (was ++ command.Client o ∷ [])); does = Unasked refl refl }

  pub asks_broken : (old new : Point) (was is : List Command) (fault : ClusterFault) (why : CoreFault) → is ≡ was ++ command.Client o ∷ [] → RunsAlone tells name (command.Client o) old new (Err fault) → why ≡ core_of fault → Asks tells name o old new was is (Err why)
  asks_broken old new was is fault why same asks end =
      record { more = []; driving = tt; said = same ∙ sym (append-nil (was ++ command.Client o ∷ [])); does = Broken fault asks (ap (λ (f : CoreFault). Err f) end) }

  module _ (old mid new : Point) (was then is : List Command) (same : then ≡ was ++ command.Client o ∷ []) (asks : RunsAlone tells name (command.Client o) old mid (Ok tt)) where
    pub asks_undriven : (fault : ClusterFault) (why : CoreFault) → DrivesOn tells name mid new then is (Err fault) → why ≡ core_of fault → Asks tells name o old new was is (Err why)
    asks_undriven fault why d end =
        record { more = d.said; driving = d.driving; said = d.more ∙ ap (λ (x : List Command). x ++ d.said) same; does = Undriven mid fault asks d.driven (ap (λ (f : CoreFault). Err f) end) }

    pub asks_heard : DrivesOn tells name mid new then is (Ok tt) → (front entries : List JournalEntry) (first : ℕ) (kind : Kind) (result : Result Reply CoreFault)
        → front ≡ old.cluster.core.journal → entries ≡ new.cluster.core.journal → first ≡ old.line + 1 → kind ≡ kind_of o
        → IsAnswered (drop (length front) new.cluster.core.journal) first kind → IfOk result (λ told. HasAnswer (drop (length front) entries) first told) → IfOk result (λ told. kind_may kind told ≡ true) → IfErr result (λ fault. fault ≡ core.NoMemory) → Asks tells name o old new was is result
    asks_heard d front entries first kind result was are number kind_is found answer may only = record {
      more = d.said;
      driving = d.driving;
      said = d.more ∙ ap (λ (x : List Command). x ++ d.said) same;
      does = heard_or tells name o old mid new d.said (drop (length front) entries) first kind result asks (whole_drives tells name mid new d.said d.driven) (λ i. drop (length (was i)) (are i)) number kind_is
          (subst (λ (xs : List JournalEntry). IsAnswered (drop (length front) xs) first kind) (sym are) found) answer may only;
    }

    pub journal_asked : DrivesOn tells name mid new then is (Ok tt) → length old.cluster.core.journal ≤ length new.cluster.core.journal
    journal_asked d =
        let one = journal_on tells name (command.Client o) old mid (Ok tt) asks in
        let two = journal_driven tells name mid new d.said (whole_drives tells name mid new d.said d.driven) in
        omega (arith, one, two)
