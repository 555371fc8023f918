-- Each status has its cause.
use Rattle.std.proofs.Common.{◌≡◌, inl, inr, ◌∙◌, ap, sym, subst, ℕ, ◌++◌, ◌<◌, true, false, [], Option, Some, None, IfSome, refl, length}
use Rattle.std.proofs.lemmas.List.Elements.{All-from_recursion}
use Rattle.std.specs.Prelude.{if◌then◌else◌}
use Rattle.hs_settled.proofs.CausesListLemmas.{not_both}
use Rattle.hs_settled.proofs.LossLemmas.{lost_cause}
use Rattle.hs_settled.proofs.LostLemmas.{lost_within}
use Rattle.hs_settled.specs.Opened.{OpensRanked}
use Rattle.hs_settled.proofs.CausesRunLemmas.{last_kept, refused_stands}
use Rattle.hs_desk.specs.declared.fault.CoreFault.TheVariants as fault
use Rattle.hs_events.specs.Taken.{peer_count}
use Rattle.hs_limits.specs.declared.limits.Limits.{Limits}
use Rattle.hs_ports.specs.Fault.{HasRisen}
use Rattle.hs_promise.specs.Answers.{IsEntry}
use Rattle.hs_promise.specs.Causes.{Cause, CauseBy, CauseButLoss}
use Rattle.hs_promise.specs.declared.status.Status.{Status}
use Rattle.hs_promise.specs.declared.status.Status.TheVariants as status
use Rattle.hs_promise.specs.Ending.{ending_of}
use Rattle.hs_promise.specs.Lost.{LostCause}
use Rattle.hs_promise.specs.Machine.{NeverOpened, Went, WentAs}
use Rattle.hs_promise.specs.Run.{Ran, Script}
use Rattle.hs_promise.specs.Story.{Story, last_core}
use Rattle.hs_side.specs.declared.header.Header.{Header}
use Rattle.hs_told.specs.InTurn.{told_of}

-- what a fault of the source or the sink shows, and a disk of another store
pub record AreBlamed (S : Script) (r : Ran) : Type 0 where
  pub read : r.ending ≡ status.ReadFault → HasRisen r.old.source_faults r.new.source_faults
  pub write : r.ending ≡ status.WriteFault → HasRisen r.old.sink_faults r.new.sink_faults
  pub shape : (peer : ℕ) (found : Header) → r.ending ≡ status.WrongShape peer found → peer < peer_count S.set.shape

module _ (S : Script) (r : Ran) (blamed : AreBlamed S r) where
  -- ---- no core was opened

  module _ (never : NeverOpened r) where
    opens : (st : Status) → r.ending ≡ st → (ending_of st).closed ≡ false → (ending_of st).wanting ≡ false → ⊥
    opens st e closed wanting = elim never.cause [
      | inl h ↦ not_both (sym h ∙ ap (λ st. (ending_of st).closed) e ∙ closed)
      | inr h ↦ not_both (sym h ∙ ap (λ st. (ending_of st).wanting) e ∙ wanting)
    ]

    never_scripted : (st : Status) → r.ending ≡ st → (ending_of st).unscripted ≡ true → ⊥
    never_scripted st e other = not_both (sym (ap (λ st. (ending_of st).unscripted) e ∙ other) ∙ never.scripted)

    pub never_cause : (Lost : ℕ → Type 0) (st : Status) → r.ending ≡ st → CauseBy Lost S r st
    never_cause Lost status.Done e = never.refused
    never_cause Lost status.Usage e = never.refused
    never_cause Lost (status.BadLine line) e = never.refused
    never_cause Lost (status.ShardLost shard) e = absurd (opens (status.ShardLost shard) e refl refl)
    never_cause Lost status.ReadFault e = (never.refused, blamed.read e)
    never_cause Lost status.WriteFault e = (never.refused, blamed.write e)
    never_cause Lost status.NoMemory e = never.refused
    never_cause Lost (status.WrongShape peer found) e = (never.refused, never.journal, never.course, blamed.shape peer found e)
    never_cause Lost status.OpsFull e = absurd (opens status.OpsFull e refl refl)
    never_cause Lost status.InputFull e = never.refused
    never_cause Lost (status.Mismatch session place told kept) e = absurd (never_scripted (status.Mismatch session place told kept) e refl)
    never_cause Lost (status.Torn peer place told kept) e = absurd (never_scripted (status.Torn peer place told kept) e refl)
    never_cause Lost (status.NotEmpty blocks roots) e = absurd (never_scripted (status.NotEmpty blocks roots) e refl)
    never_cause Lost (status.Refused reply) e = absurd (never_scripted (status.Refused reply) e refl)
    never_cause Lost (status.NotATree address) e = absurd (never_scripted (status.NotATree address) e refl)
    never_cause Lost (status.NoSource peer) e = absurd (never_scripted (status.NoSource peer) e refl)
    never_cause Lost (status.CopyFull blocks) e = absurd (never_scripted (status.CopyFull blocks) e refl)

  -- ---- it went as a story says

  module _ (story : Story) (went : Went S r story) where
    -- nothing was refused where the journal was not full
    clean : (st : Status) → r.ending ≡ st → (ending_of st).full ≡ false → r.refused ≡ []
    clean st e none = went.refused ∙ ap (λ b. if b then (last_core S story).refused else []) (ap (λ st. (ending_of st).full) e ∙ none)

    opened : (st : Status) → r.ending ≡ st → (ending_of st).closed ≡ true → ⊥
    opened st e closed = not_both (sym (ap (λ st. (ending_of st).closed) e ∙ closed) ∙ went.ends.opened)

    went_scripted : (st : Status) → r.ending ≡ st → (ending_of st).unscripted ≡ true → ⊥
    went_scripted st e other = not_both (sym (ap (λ st. (ending_of st).unscripted) e ∙ other) ∙ went.ends.scripted)

    too_long : r.ending ≡ status.OpsFull → S.set.limits.ops < length (r.journal ++ r.refused)
    too_long e =
        let full : (ending_of r.ending).full ≡ true = ap (λ st. (ending_of st).full) e in
        let all : r.journal ++ r.refused ≡ told_of (last_core S story) =
        ap (λ es. es ++ r.refused) went.journal ∙ ap (λ es. (last_core S story).journal ++ es) (went.refused ∙ ap (λ b. if b then (last_core S story).refused else []) full) in
        subst (λ es. S.set.limits.ops < length es) (sym all)
        (subst (λ (l : Limits). l.ops < length (told_of (last_core S story))) (last_kept S r story went).limited ((last_kept S r story went).ends.full (went.ends.full full)))

    pub went_cause : (Lost : ℕ → Type 0) → ((g : ℕ) → (last_core S story).ended ≡ Some (fault.ShardLost g) → Lost g) → (st : Status) → r.ending ≡ st → CauseBy Lost S r st
    went_cause Lost lost status.Done e = clean status.Done e refl
    went_cause Lost lost status.Usage e = clean status.Usage e refl
    went_cause Lost lost (status.BadLine line) e = clean (status.BadLine line) e refl
    went_cause Lost lost (status.ShardLost shard) e = (
      clean (status.ShardLost shard) e refl,
      lost shard (subst (λ (st : Status). IfSome (ending_of st).lost (λ g. (last_core S story).ended ≡ Some (fault.ShardLost g))) e went.ends.lost),
    )
    went_cause Lost lost status.ReadFault e = (clean status.ReadFault e refl, blamed.read e)
    went_cause Lost lost status.WriteFault e = (clean status.WriteFault e refl, blamed.write e)
    went_cause Lost lost status.NoMemory e = clean status.NoMemory e refl
    went_cause Lost lost (status.WrongShape peer found) e = absurd (opened (status.WrongShape peer found) e refl)
    went_cause Lost lost status.OpsFull e = (too_long e, All-from_recursion (IsEntry S r.line) r.refused (refused_stands S r story went))
    went_cause Lost lost status.InputFull e = clean status.InputFull e refl
    went_cause Lost lost (status.Mismatch session place told kept) e = absurd (went_scripted (status.Mismatch session place told kept) e refl)
    went_cause Lost lost (status.Torn peer place told kept) e = absurd (went_scripted (status.Torn peer place told kept) e refl)
    went_cause Lost lost (status.NotEmpty blocks roots) e = absurd (went_scripted (status.NotEmpty blocks roots) e refl)
    went_cause Lost lost (status.Refused reply) e = absurd (went_scripted (status.Refused reply) e refl)
    went_cause Lost lost (status.NotATree address) e = absurd (went_scripted (status.NotATree address) e refl)
    went_cause Lost lost (status.NoSource peer) e = absurd (went_scripted (status.NoSource peer) e refl)
    went_cause Lost lost (status.CopyFull blocks) e = absurd (went_scripted (status.CopyFull blocks) e refl)

pub cause_is : (S : Script) (r : Ran) (how : Option Story) → WentAs S r how → ((S.set.shape.copies ≡ 1 → ⊥) → IfSome how (λ story. OpensRanked S.set story.found)) → AreBlamed S r → Cause S r r.ending
cause_is S r None never ranked blamed = never_cause S r blamed never (LostCause S r) r.ending refl
cause_is S r (Some story) went ranked blamed = went_cause S r blamed story went (LostCause S r) (λ g over. lost_cause S r story went g over ranked) r.ending refl

-- but why a shard is lost
pub cause_but_loss : (S : Script) (r : Ran) (how : Option Story) → WentAs S r how → AreBlamed S r → CauseButLoss S r r.ending
cause_but_loss S r None never blamed = never_cause S r blamed never (λ shard. shard < S.set.shape.shards) r.ending refl
cause_but_loss S r (Some story) went blamed = went_cause S r blamed story went (λ shard. shard < S.set.shape.shards) (λ g over. lost_within S r story went g over) r.ending refl
