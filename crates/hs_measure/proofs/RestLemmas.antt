-- Behind a settle nothing is open.
use Rattle.std.proofs.Common.{◌≡◌, ◌⊎◌, ◌∙◌, inl, inr, ap, sym, subst, ℕ, ◌*◌, ◌<◌, ◌≤◌, ◌++◌, true, List, [], ◌∷◌, Option, Some, None, refl, arith, append-nil}
use Rattle.std.specs.Prelude.{IsSome}
use Rattle.hs_answered.specs.Standing.{store_with}
use Rattle.hs_answered.specs.Telling.{Judging, events_in}
use Rattle.hs_core_words.specs.Looking.{shape_of}
use Rattle.hs_core_words.specs.State.{Core}
use Rattle.hs_core_words.specs.Step.{step}
use Rattle.hs_events.specs.Course.{steps}
use Rattle.hs_events.specs.Due.{Events, is_walk, next_due}
use Rattle.hs_events.specs.Whole.{Whole, step_whole}
use Rattle.hs_fold.specs.Runs.Facts.{Catalogue as Folded}
use Rattle.hs_journal.specs.declared.entry.JournalEntry.{JournalEntry}
use Rattle.hs_journal.specs.Events.{client_op}
use Rattle.hs_journal.specs.Order.{IsOfLine}
use Rattle.hs_laws.specs.Valid.{IsValid}
use Rattle.hs_limits.specs.declared.shape.Shape.{Shape}
use Rattle.hs_measure.proofs.EventLemmas.{after_steps, all_come, come}
use Rattle.hs_measure.proofs.RoomyLemmas.{steps_roomy}
use Rattle.hs_measure.specs.Promised.{IsAtRest}
use Rattle.hs_model.specs.declared.command.Command.{Command}
use Rattle.hs_model.specs.declared.op.Op.{Op}
use Rattle.hs_model.specs.Run.{run}
use Rattle.hs_model.specs.Store.{Store}
use Rattle.hs_moments.specs.Machine.{runs}
use Rattle.hs_moments.specs.WholeMachine.{whole_machine}
use Rattle.hs_quiet.proofs.KeptRoundsLemmas.{have_rounds}
use Rattle.hs_quiet.proofs.RunLemmas.{going_before}
use Rattle.hs_quiet.proofs.StepLemmas.{step_shape}
use Rattle.hs_quiet.proofs.SweptLemmas.{Below}
use Rattle.hs_quiet.specs.Settled.{HaveRounds}
use Rattle.hs_settled.proofs.BegunLemmas.{all_begin, come_first}
use Rattle.hs_settled.proofs.DeletesEventLemmas.{whole_told}
use Rattle.hs_settled.proofs.GoingLemmas.{settle_rests as rests_so}
use Rattle.hs_settled.proofs.LevelLemmas.{Level}
use Rattle.hs_settled.proofs.OpenLemmas.{none_ask, open_level}
use Rattle.hs_settled.specs.Moving.{IsMoving}
use Rattle.hs_settled.specs.Settled.{NothingOpen}
use Rattle.hs_standing.proofs.ValidLemmas.{told_valid}
use Rattle.hs_standing.specs.Copies.{AllComeOn}
use Rattle.hs_standing.specs.Held.{GivesAddresses}
use Rattle.hs_standing.specs.Legal.{IsStanding, MayStand}
use Rattle.hs_standing.specs.Run.{MayRun, RunStands, RunsBefore}
use Rattle.hs_standing.specs.Standing.{AllMayKeep, judging_of}
use Rattle.hs_standing.specs.Start.{Start}
use Rattle.hs_standing.specs.Telling.{told_so_far}
use Rattle.hs_told.specs.InTurn.{AllMayCome, IsInTurn, after_all, told_of}
use Rattle.hs_told.specs.Part.{asking}

-- ---- small words

pub runs_core : (c : Whole) (es : Events) → (runs whole_machine c es).core ≡ steps c.core es
runs_core c [] = refl
runs_core c (e ∷ es) = runs_core (step_whole e.0 e.1 c) es

op_is : (o : Option Op) → IsSome o → (said : Op) × (o ≡ Some said)
op_is None h = absurd (cc h)
op_is (Some said) h = (said, refl)

none_asks : (n : ℕ) (p : Op) → asking [] n ≡ Some p → ⊥
none_asks n p e = cc e

-- ---- a core with nothing open

module _ (start : Start) (c : Core) (valid : IsValid start.entry) (turn : IsInTurn start.commands c) (going : c.ended ≡ None) (cs : List Folded) (its : RunStands start c cs) (nothing : NothingOpen c) where
  abbrev by : Judging
  by = judging_of start

  told_is : told_of c ≡ c.journal
  told_is = ap (λ (es : List JournalEntry). c.journal ++ es) (turn.going going) ∙ append-nil c.journal

  placed : (line : ℕ) → line ≤ c.progress.event_line → IsSome (client_op (start.commands line)) → (place : ℕ) × IsOfLine c.journal place line
  placed line low some = by_turn (turn.turns.each line said.0 (omega (arith, low)) said.1)
    where
      said : (o : Op) × (client_op (start.commands line) ≡ Some o)
      said = op_is (client_op (start.commands line)) some

      by_turn : ((i : ℕ) × IsOfLine (told_of c) i line) ⊎ ((p : Op) × (asking c.operations line ≡ Some p)) → (place : ℕ) × IsOfLine c.journal place line
      by_turn (inl (i, of)) = (i, subst (λ (es : List JournalEntry). IsOfLine es i line) told_is of)
      by_turn (inr (p, asks)) = absurd (none_asks line p (sym (ap (λ ops. asking ops line) (none_ask c nothing)) ∙ asks))

  level_here : Level (run start.set.limits start.entry (events_in (judging_of start) start.entry c.journal))
  level_here =
      let all = whole_told c turn.told ∙ told_is in
      subst (λ (es : List JournalEntry). Level (run start.set.limits start.entry (events_in by start.entry es))) all
      (subst (λ (s : Store). Level s) (sym its.tells.left)
      (open_level c cs its.lawful.folded (told_valid by start.entry (told_so_far c) (store_with cs c.sessions) valid its.tells) nothing))

  pub at_rest : IsAtRest start c
  at_rest = record { nothing = nothing; answered = placed; level = level_here.level }

-- ---- behind the events of a settle

steps_shape : (es : Events) (c : Core) → (steps c es).ended ≡ None → shape_of (steps c es) ≡ shape_of c
steps_shape [] c going = refl
steps_shape (e ∷ es) c going = steps_shape es (step e.0 e.1 c) going ∙ step_shape e.0 e.1 c (going_before es (step e.0 e.1 c) going)

steps_append : (c : Core) (es fs : Events) → steps c (es ++ fs) ≡ steps (steps c es) fs
steps_append c [] fs = refl
steps_append c (e ∷ es) fs = steps_append (step e.0 e.1 c) es fs

-- what is known of cores that stand, and of answers in order
pub record RestLaws : Type 0 where
  pub stands : (by : Judging) (start : Store) (core : Core) (events : Events) (cs : List Folded) → GivesAddresses by.name → IsValid start → core.refused ≡ [] → core.entries ≡ [] → AllComeOn (MayStand by start) core events → IsStanding by start core cs
      → (after : List Folded) × IsStanding by start (steps core events) after
  pub turns : (commands : ℕ → Option Command) (core : Core) (es : Events) → IsInTurn commands core → AllMayCome commands core es → IsInTurn commands (after_all core es)

module _ (laws : RestLaws) (below : Below) (start : Start) (core : Core) (es : Events) (r : RunsBefore start core es) (moving : IsMoving start.set.name core) (room : 2 * (shape_of core).shards < core.pool.limit)
    (may : AllMayKeep start (MayRun start) core es) (going : (steps core es).ended ≡ None) where
  comes : AllComeOn (MayRun start) core es
  comes = come start core es r may

  first_going : core.ended ≡ None
  first_going = going_before es core going

  stands : (before after : Events) → es ≡ before ++ after → (cs : List Folded) × RunStands start (steps core before) cs
  stands before after is =
      laws.stands (judging_of start) start.entry core before r.folds r.names r.valid (r.turn.going first_going) r.turn.told
      (come_first (MayRun start) core before after (subst (λ xs. AllComeOn (MayRun start) core xs) is comes)) r.stands

  rounds : HaveRounds core es
  rounds = have_rounds (judging_of start) start.entry es core (λ before after is.
      let on : (steps core before).ended ≡ None = going_before after (steps core before) (ap (λ (x : Core). x.ended) (sym (ap (λ xs. steps core xs) is ∙ steps_append core before after)) ∙ going) in
      let its = stands before after is in
      let limit = (steps_roomy before core).limit in
      let shards = ap (λ (z : Shape). z.shards) (steps_shape before core on) in
      (its.0, its.1, omega (arith, room, limit, shards)))

  turn : IsInTurn start.commands (steps core es)
  turn = subst (λ (x : Core). IsInTurn start.commands x) (after_steps core es) (laws.turns start.commands core es r.turn (all_come start es core may))

  pub settle_rests : (line : ℕ) → is_walk next_due true line core es ≡ true → IsAtRest start (steps core es)
  settle_rests line walks =
      let last = stands es [] (sym (append-nil es)) in
      let rest = rests_so below (judging_of start) start.entry line core es r.valid moving (all_begin (judging_of start) start.entry core es comes going) rounds walks going last.0 last.1 in
      at_rest start (steps core es) r.valid turn going last.0 last.1 rest.1
