-- A whole that stands does so behind an event, while its core goes on: whatever is known of a core and its folds that suffices, and that every single change keeps.
use Rattle.std.proofs.Common.{◌≡◌, ◌∙◌, ap, sym, subst, ℕ, ◌<◌, ◌≤◌, List, [], ◌++◌, None, refl, arith, take, drop, append-nil, take-append-drop}
use Rattle.std.proofs.lemmas.List.{take-append-le}
use Rattle.std.proofs.lemmas.List.Elements.{All-from_recursion, recursion_from_All}
use Rattle.std.specs.Prelude.{AllPairs}
use Rattle.hs_standing.specs.Walks.{HasRecordRoom}
use Rattle.hs_core_words.specs.declared.event.Event.{Event}
use Rattle.hs_core_words.specs.Looking.{front_of, shape_of}
use Rattle.hs_core_words.specs.State.{Core}
use Rattle.hs_core_words.specs.Step.{step}
use Rattle.hs_events.specs.Sane.{IsSane}
use Rattle.hs_events.specs.Whole.{Whole, reach, step_whole}
use Rattle.hs_fold.specs.Lawful.{Deed}
use Rattle.hs_fold.specs.Runs.Facts.{Catalogue as Folded}
use Rattle.hs_fold.specs.Runs.History.{no_entries}
use Rattle.hs_fold.specs.Runs.Opened.{catalogues}
use Rattle.hs_fold.specs.Shards.Setting.{Numbered, Setting}
use Rattle.hs_fold.specs.Shards.Sound.{HasRisingViews, views_of}
use Rattle.hs_limits.specs.declared.shape.Shape.{Shape}
use Rattle.hs_moments.proofs.CoreLemmas.{limits_at, shape_at}
use Rattle.hs_moments.proofs.SaneLemmas.{sane_stays}
use Rattle.hs_moments.specs.WholeMachine.{whole_machine}
use Rattle.hs_standing.proofs.GoLemmas.{ListGoesOn}
use Rattle.hs_standing.proofs.GrewLemmas.{Grew, grew}
use Rattle.hs_standing.proofs.JoinLemmas.{StandsWithin}
use Rattle.hs_standing.proofs.SettleLemmas.{settled_alike, within_as}
use Rattle.hs_standing.specs.Settled.{AreSettled}
use Rattle.hs_standing.specs.Standing.{CoreStands, StandsWith}
use Rattle.hs_standing.proofs.SaneLemmas.{front_within, waits_in_core}
use Rattle.hs_standing.specs.Lists.{Lists}
use Rattle.hs_standing.specs.Stands.{lists_of}
use Rattle.hs_standing.specs.Start.{Start}
use Rattle.hs_told.specs.InTurn.{IsInTurn}

-- ---- as an event begins

pub begins : (start : Start) (P : Core → List Folded → Type 0) (c : Whole) → StandsWith start P c → StandsWithin start.set (lists_of whole_machine c) P c.core
begins start P c s = record {
  cs = s.whole.cs;
  holds = s.holds;
  goes = record {
    limits = s.whole.limits;
    shape = s.whole.shape;
    lists = lists_of whole_machine c;
    each = λ g low.
        let here = subst (λ (x : Shape). g < x.shards) (sym s.whole.shape) low in
        record {
          front = refl;
          within = front_within c g s.whole.sane here;
          waits = waits_in_core c g s.whole.sane here;
          grown = ([], sym (append-nil (reach c g)));
          views = refl;
        };
    settled = s.whole.settled;
  };
}

-- ---- as it ends

module _ (start : Start) (P : Core → List Folded → Type 0) (suffices : (core : Core) (cs : List Folded) → P core cs → CoreStands start core cs) (c : Whole) (s : StandsWith start P c)
    (e : Event) (at : ℕ) (behind : StandsWithin start.set (lists_of whole_machine c) P (step e at c.core)) (turn : IsInTurn start.commands (step e at c.core)) (few : HasRecordRoom (step e at c.core))
    (going : (step e at c.core).ended ≡ None) where
  abbrev set : Setting
  set = start.set

  abbrev now : Lists
  now = behind.goes.lists

  abbrev new : Whole
  new = step_whole e at c

  sane : IsSane (step_whole e at c)
  sane = sane_stays c e at s.whole.sane going

  shape_now : shape_of (step e at c.core) ≡ start.set.shape
  shape_now = shape_at c.core e at ∙ s.whole.shape

  old_low : (g : ℕ) → g < start.set.shape.shards → g < c.core.members.shape.shards
  old_low g low = subst (λ (x : Shape). g < x.shards) (sym s.whole.shape) low

  new_low : (g : ℕ) → g < start.set.shape.shards → g < (step e at c.core).members.shape.shards
  new_low g low = subst (λ (x : Shape). g < x.shards) (sym shape_now) low

  list_now : (g : ℕ) → g < start.set.shape.shards → ListGoesOn (lists_of whole_machine c) behind.goes.lists (step e at c.core) g
  list_now g low = behind.goes.each g low

  it_grew : (g : ℕ) → g < start.set.shape.shards → Grew c (step_whole e at c) g
  it_grew g low = grew c e at s.whole.sane sane going g (old_low g low) (new_low g low)

  -- what took effect of the list, and what waits in it, is what the whole has
  taken_same : (g : ℕ) → g < start.set.shape.shards → take (front_of g (step e at c.core)) (reach (step_whole e at c) g) ≡ take (behind.goes.lists.front g) (behind.goes.lists.whole g)
  taken_same g low =
      let l = list_now g low in
      let w = it_grew g low in
      let n : ℕ = front_of g (step e at c.core) in
      ap (λ (es : Numbered). take n es) w.begins.1 ∙ take-append-le n (reach c g) w.begins.0 w.front
      ∙ sym (ap (λ (es : Numbered). take n es) l.grown.1 ∙ take-append-le n (reach c g) l.grown.0 w.front)
      ∙ ap (λ m. take m (behind.goes.lists.whole g)) (sym l.front)

  back_same : (g : ℕ) → g < start.set.shape.shards → drop (front_of g (step e at c.core)) (reach (step_whole e at c) g) ≡ drop (behind.goes.lists.front g) (behind.goes.lists.whole g)
  back_same g low = waits_in_core (step_whole e at c) g sane (new_low g low) ∙ sym (list_now g low).waits

  whole_same : (g : ℕ) → g < start.set.shape.shards → reach (step_whole e at c) g ≡ behind.goes.lists.whole g
  whole_same g low =
      sym (take-append-drop (front_of g (step e at c.core)) (reach (step_whole e at c) g))
      ∙ ap (λ (es : Numbered). es ++ drop (front_of g (step e at c.core)) (reach (step_whole e at c) g)) (taken_same g low)
      ∙ ap (λ (es : Numbered). take (behind.goes.lists.front g) (behind.goes.lists.whole g) ++ es) (back_same g low)
      ∙ take-append-drop (behind.goes.lists.front g) (behind.goes.lists.whole g)

  settled_now : AreSettled start.set (lists_of whole_machine (step_whole e at c)) behind.cs
  settled_now = record {
    folds = ap (λ ls. catalogues start.set 0 ls) (settled_alike (lists_of whole_machine (step_whole e at c)) behind.goes.lists 0 start.set.shape.shards (λ j low. taken_same j (omega (arith, low)))) ∙ behind.goes.settled.folds;
    history = behind.goes.settled.history;
    ascends = behind.goes.settled.ascends;
    within = All-from_recursion (λ (d : Deed). d.number ≤ front_of d.shard (step e at c.core)) behind.goes.settled.history
        (within_as start.set (no_entries start.set) behind.goes.settled.history behind.goes.lists.front (λ g. front_of g (step e at c.core)) behind.goes.settled.fits
        (λ g low. let same = (list_now g low).front in omega (arith, same))
        (recursion_from_All (λ (d : Deed). d.number ≤ behind.goes.lists.front d.shard) behind.goes.settled.history behind.goes.settled.within));
    fits = behind.goes.settled.fits;
    records = behind.goes.settled.records;
    gives = behind.goes.settled.gives;
  }

  views_now : (g : ℕ) → g < start.set.shape.shards → HasRisingViews (reach (step_whole e at c) g)
  views_now g low = subst (λ vs. AllPairs (λ earlier later. earlier ≤ later) vs) (sym (ap (λ (es : Numbered). views_of es) (whole_same g low) ∙ (list_now g low).views)) (s.whole.views g low)

  pub ends_standing : StandsWith start P (step_whole e at c)
  ends_standing = record {
    whole = record {
      shape = shape_now;
      limits = limits_at c.core e at ∙ s.whole.limits;
      sane = sane;
      turn = turn;
      cs = behind.cs;
      stands = suffices (step e at c.core) behind.cs behind.holds;
      settled = settled_now;
      views = views_now;
      few = few;
    };
    holds = behind.holds;
  }
