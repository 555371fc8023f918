-- Each event keeps what a core has told of deletions.
use Rattle.std.proofs.Common.{◌≡◌, ◌∙◌, sym, ap, subst, ◌⊎◌, inl, inr, ℕ, ◌++◌, List, [], None, append-nil}
use Rattle.std.specs.BTreeMap.{is_at}
use Rattle.std.specs.List.{AllByRecursion}
use Rattle.std.specs.Map.{lookup}
use Rattle.std.specs.Ordering.{nat_cmp}
use Rattle.hs_standing.proofs.BesideLemmas.{beside_begun, beside_ended}
use Rattle.hs_standing.proofs.AlongWalkLemmas.{copies_step}
use Rattle.hs_standing.specs.Changes.{IsBeside}
use Rattle.hs_standing.specs.Walks.{HasRecordRoom}
use Rattle.hs_answered.specs.Telling.{Judging}
use Rattle.hs_awaiting.specs.declared.waiting.Waiting.{Waiting}
use Rattle.hs_core_words.specs.declared.event.Event.{Event}
use Rattle.hs_core_words.specs.declared.event.Event.TheVariants as event
use Rattle.hs_core_words.specs.Looking.{shape_of}
use Rattle.hs_core_words.specs.State.{Core}
use Rattle.hs_core_words.specs.Step.{do_event, end_event, step}
use Rattle.hs_settled.proofs.DeletesEndLemmas.{Ends, Keeps, does_keep, ends}
use Rattle.hs_settled.proofs.MereLemmas.{HasClient, OfClients, does_mere}
use Rattle.hs_settled.proofs.DeletesWalkLemmas.{IsSweeping, line_of_client, views_sweeping, waits_of_client, walks_sweeping}
use Rattle.hs_settled.specs.Deletion.{IsMereRefusal, TellsDeletion}
use Rattle.hs_effects.proofs.SweepLemmas.{ByViews}
use Rattle.hs_fold.specs.Runs.Facts.{Catalogue as Folded}
use Rattle.hs_standing.specs.Copies.{IsSeated, KnowsItsCopies}
use Rattle.hs_standing.specs.Held.{GivesAddresses}
use Rattle.hs_journal.specs.declared.entry.JournalEntry.{JournalEntry}
use Rattle.hs_laws.specs.Valid.{IsValid}
use Rattle.hs_standing.proofs.Laws.{Entries, Steps}
use Rattle.hs_standing.specs.Legal.{IsStanding, MayStand}
use Rattle.hs_standing.specs.Telling.{told_so_far}
use Rattle.hs_model.specs.Store.{Store}
use Rattle.hs_moments.proofs.AloneEventLemmas.{begun, step_is}
use Rattle.hs_swept.proofs.ExactLemmas.{Blocks, Given}
use Rattle.hs_swept.specs.Swept.{AreSwept}
use Rattle.hs_told.specs.InTurn.{told_of}

-- ---- the laws below, in one place

pub record LawsBelow : Type 0 where
  pub blocks : Blocks
  pub given : Given
  pub views : ByViews
  pub steps : Steps
  pub laws : Entries

-- a core that has told all has told its journal, and what found it full
pub whole_told : (c : Core) → c.entries ≡ [] → told_so_far c ≡ told_of c
whole_told c quiet = ap (λ (es : List JournalEntry). told_of c ++ es) quiet ∙ append-nil (told_of c)

-- the line of an event that may come is a client's, where it is one's
may_client : (by : Judging) (start : Store) (e : Event) (c : Core) → MayStand by start e c → HasClient by.commands e
may_client by start (event.Line line o) c may = line_of_client by c line o may
may_client by start (event.Report peer d) c may = tt
may_client by start (event.Turn line peer) c may = tt
may_client by start (event.Deliver line number) c may = tt
may_client by start (event.Lose line number) c may = tt
may_client by start (event.Repeat line number) c may = tt
may_client by start (event.Nudge line peer) c may = tt
may_client by start (event.Fail line peer) c may = tt
may_client by start (event.Start line peer) c may = tt

module _ (below : LawsBelow) (by : Judging) (start : Store) (names : GivesAddresses by.name) (valid : IsValid start) (core : Core) (e : Event) (at : ℕ) (cs : List Folded)
    (going : core.ended ≡ None) (seated : IsSeated core) (known : KnowsItsCopies core) (room : HasRecordRoom core) (quiet : core.entries ≡ []) (clean : core.refused ≡ []) (may : MayStand by start e core)
    (stands : IsStanding by start core cs) (its : TellsDeletion by start core) where
  abbrev x : Core
  x = begun e at core

  abbrev b : Core
  b = do_event e (begun e at core)

  beside : IsBeside core (begun e at core)
  beside = beside_begun e at core

  kept : Keeps (begun e at core) (do_event e (begun e at core))
  kept = does_keep e x

  none : (do_event e (begun e at core)).refused ≡ []
  none = kept.refused ∙ clean

  same_step : step e at core ≡ end_event (do_event e (begun e at core))
  same_step = step_is e at core going

  ended : Ends (do_event e (begun e at core)) (end_event (do_event e (begun e at core)))
  ended = ends b none

  -- ---- no line that is no client's tells of it

  asking : OfClients by.commands (begun e at core).operations
  asking n w there = waits_of_client by core stands.commands n w (sym (ap (λ (es : List (ℕ × Waiting)). lookup (is_at (nat_cmp n)) es) beside.operations) ∙ there)

  mere_before : AllByRecursion (IsMereRefusal by.commands) (told_so_far (begun e at core))
  mere_before = subst (λ (es : List JournalEntry). AllByRecursion (IsMereRefusal by.commands) es) (sym (beside.told ∙ whole_told core quiet)) its.refusals

  mere_behind : AllByRecursion (IsMereRefusal by.commands) (told_so_far (end_event (do_event e (begun e at core))))
  mere_behind = subst (λ (es : List JournalEntry). AllByRecursion (IsMereRefusal by.commands) es) (sym (beside_ended b none).told) (does_mere by.commands e x (may_client by start e core may) asking mere_before)

  -- ---- so the rule is kept

  sweeping : IsSweeping by start core
  sweeping = record {
    cs = cs;
    stands = stands;
    rule = λ mere. subst (λ (es : List JournalEntry). AreSwept by start es) (sym (whole_told core quiet)) its.told;
  }

  behind : IsSweeping by start (end_event (do_event e (begun e at core)))
  behind = subst (λ (c : Core). IsSweeping by start c) same_step (copies_step (walks_sweeping below.blocks below.given below.views below.steps below.laws by names start valid) core
      (views_sweeping below.blocks below.given below.views below.steps below.laws by names start valid (shape_of core)) e at going seated known room clean may sweeping)

  told_behind : AreSwept by start (told_of (end_event (do_event e (begun e at core))))
  told_behind = subst (λ (es : List JournalEntry). AreSwept by start es) (whole_told (end_event b) ended.quiet) (behind.rule mere_behind)

  journal_behind : AreSwept by start (end_event (do_event e (begun e at core))).journal
  journal_behind = by_end ended.kept
    where
      by_end : ((end_event (do_event e (begun e at core))).journal ≡ told_of (end_event (do_event e (begun e at core)))) ⊎ ((end_event (do_event e (begun e at core))).journal ≡ (do_event e (begun e at core)).journal)
          → AreSwept by start (end_event (do_event e (begun e at core))).journal
      by_end (inl all) = subst (λ (es : List JournalEntry). AreSwept by start es) (sym all) told_behind
      by_end (inr none_more) = subst (λ (es : List JournalEntry). AreSwept by start es) (sym (none_more ∙ kept.journal)) its.journal

  pub event_deletes : TellsDeletion by start (step e at core)
  event_deletes = subst (λ (c : Core). TellsDeletion by start c) (sym same_step) (record {
    journal = journal_behind;
    told = told_behind;
    refusals = subst (λ (es : List JournalEntry). AllByRecursion (IsMereRefusal by.commands) es) (whole_told (end_event b) ended.quiet) mere_behind;
  })
