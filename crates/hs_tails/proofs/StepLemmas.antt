-- A run of any number of copies goes on by an event: what disks may have stays good.
use Rattle.std.proofs.Common.{◌≡◌, ◌∙◌, ap, sym, subst, refl, inl, inr, arith, ℕ, ◌+◌, ◌<◌, List, [], ◌∷◌, ◌++◌, None, append_assoc, length}
use Rattle.std.proofs.lemmas.List.{length-map, map-append, take-append-drop}
use Rattle.std.specs.List.{enumerate_from}
use Rattle.std.specs.Prelude.{drop, map}
use Rattle.hs_answered.specs.Telling.{Judging}
use Rattle.hs_copies.specs.Lists.{IsFront, Item}
use Rattle.hs_copies.specs.Machine.{Copies}
use Rattle.hs_core_copies.proofs.NextLemmas.{front_take}
use Rattle.hs_core_copies.proofs.StepsLemmas.{was_going}
use Rattle.hs_core_copies.proofs.UnsealedLemmas.{numbered_append}
use Rattle.hs_core_copies.specs.InStep.{IsInStep, IsOf}
use Rattle.hs_core_copies.specs.Lists.{numbered}
use Rattle.hs_core_words.specs.declared.event.Event.{Event}
use Rattle.hs_core_words.specs.Looking.{front_of, group_of, shape_of}
use Rattle.hs_core_words.specs.Records.{HasRecordRoom}
use Rattle.hs_core_words.specs.State.{Core}
use Rattle.hs_core_words.specs.Step.{step}
use Rattle.hs_effects.specs.Taking.{setting_of}
use Rattle.hs_entry.specs.declared.entry.Entry.{Entry}
use Rattle.hs_entry.specs.Entries.{IsPrefix}
use Rattle.hs_events.specs.Course.{steps}
use Rattle.hs_events.specs.Due.{Events}
use Rattle.hs_events.specs.Whole.{Whole, reach, step_whole}
use Rattle.hs_fold.specs.Runs.Catalogue.{apply_all, catalogue_of}
use Rattle.hs_fold.specs.Runs.Facts.{Catalogue as Folded, empty_catalogue}
use Rattle.hs_fold.specs.Runs.Fits.{catalogue_at}
use Rattle.hs_fold.specs.Shards.Setting.{Numbered, Setting, shard_in}
use Rattle.hs_fold.specs.Shards.Sound.{HasRisingViews}
use Rattle.hs_known_copies.proofs.KnownLemmas.{known, seated}
use Rattle.hs_known_copies.specs.Known.{AreInStep}
use Rattle.hs_limits.specs.declared.limits.Limits.{Limits}
use Rattle.hs_limits.specs.declared.shape.Shape.{Shape}
use Rattle.hs_model.specs.Store.{Store}
use Rattle.hs_moments.specs.Machine.{runs}
use Rattle.hs_moments.specs.WholeMachine.{whole_machine}
use Rattle.hs_standing.proofs.RunLemmas.{LawsBelow}
use Rattle.hs_standing.proofs.StopsWalkLemmas.{apply_append}
use Rattle.hs_standing.specs.Legal.{IsStanding}
use Rattle.hs_standing.specs.Run.{MayRun}
use Rattle.hs_standing.specs.Standing.{AllMayKeep, MayKeep, judging_of}
use Rattle.hs_standing.specs.Start.{Start}
use Rattle.hs_whole_copies.proofs.AllLemmas.{all_stay, shape_after}
use Rattle.hs_whole_copies.specs.Whole.{IsShardInStep, StaysWhole, longest}
use Rattle.hs_tails.proofs.AlongLemmas.{takes_first}
use Rattle.hs_tails.proofs.EntryLemmas.{dropped_first, dropped_map, front_behind, front_prefix, prefix_entries, prefix_trans, tail_is, what}
use Rattle.hs_tails.proofs.FrontLemmas.{front_rests}
use Rattle.hs_tails.proofs.GoingLemmas.{stays as took_stays, took_is}
use Rattle.hs_tails.proofs.ReachLemmas.{reach_now}
use Rattle.hs_tails.proofs.ViewLemmas.{front_views}
use Rattle.hs_tails.proofs.WaitsLemmas.{waits_rest}
use Rattle.hs_tails.specs.Chosen.{tail_behind}
use Rattle.hs_tails.specs.Run.{HasGoodTail, RunsWithTails, took_in}
use Rattle.hs_tails.specs.Tails.{AreAscending, RestsIn, TakesFirst}

-- ---- a front of the lead's list

-- what it has behind all that took effect begins what waits
pub waits_behind : (g : ℕ) (c : Core) (s : Copies Entry) → IsInStep g c s → (list : List (Item Entry)) → IsFront list s.log → (more : List Entry) × ((group_of g c).waiting ≡ drop (front_of g c) (map what list) ++ more)
waits_behind g c s st list f =
    let b = front_behind (length s.took) list s.log f in (
      map what b.0,
      st.stands.waiting ∙ ap (λ (xs : List (Item Entry)). map what xs) b.1 ∙ map-append what (drop (length s.took) list) b.0
          ∙ ap (λ es. es ++ map what b.0) (sym (dropped_map what (length s.took) list)) ∙ ap (λ n. drop n (map what list) ++ map what b.0) (sym st.stands.front),
    )

pub lead_rests : (by : Judging) (start : Store) (c : Core) (cs : List Folded) → IsStanding by start c cs → HasRecordRoom c → (g : ℕ) → g < (shape_of c).shards → (s : Copies Entry) → IsInStep g c s → (list : List (Item Entry)) → IsFront list s.log
    → RestsIn by.name c cs g (tail_behind (front_of g c) (numbered list))
lead_rests by start c cs its room g low s st list f =
    let b = waits_behind g c s st list f in
    subst (λ es. RestsIn by.name c cs g es) (sym (tail_is (front_of g c) list))
    (front_rests (setting_of by.name c) cs g (front_of g c) (drop (front_of g c) (map what list)) b.0 (subst (λ es. RestsIn by.name c cs g es) b.1 (waits_rest by start c cs its room g low)))

-- ---- what took effect by an event

module _ (by : Judging) (start : Store) (old new : Core) (cs : List Folded) (tf : TakesFirst by start old new cs) (g : ℕ) (s t : Copies Entry) (a : IsInStep g old s) (b : IsInStep g new t) (stood : IsFront t.took s.log) where
  abbrev took : List Entry
  took = tf.gone.took g

  pub stays : IsFront s.took t.took
  stays = took_stays by start old new cs tf.gone g s t a b stood (tf.first g)

  pub words : map what t.took ≡ map what s.took ++ tf.gone.took g
  words =
      ap (λ (xs : List (Item Entry)). map what xs) (sym (take-append-drop (length s.took) t.took) ∙ ap (λ xs. xs ++ drop (length s.took) t.took) (sym (front_take s.took t.took stays)))
      ∙ map-append what s.took (drop (length s.took) t.took)
      ∙ ap (λ es. map what s.took ++ es) (took_is by start old new cs tf.gone g s t a b stood (tf.first g))

  next : 1 + length (map what s.took) ≡ front_of g old + 1
  next = let long = length-map s.took what in let front = a.stands.front in omega (arith, long, front)

  parts : numbered t.took ≡ numbered s.took ++ enumerate_from (front_of g old + 1) (tf.gone.took g)
  parts = ap (enumerate_from 1) words ∙ numbered_append 1 (map what s.took) took ∙ ap (λ n. numbered s.took ++ enumerate_from n took) next

  -- the folds stay those of what took effect
  pub settled_on : (set : Setting) → shard_in (setting_of by.name new) g ≡ shard_in set g → catalogue_at cs g ≡ catalogue_of (shard_in set g) (numbered s.took) → catalogue_at tf.gone.after g ≡ catalogue_of (shard_in set g) (numbered t.took)
  settled_on set same was =
      tf.gone.folds g
      ∙ ap (λ at. apply_all at (catalogue_at cs g) (enumerate_from (front_of g old + 1) took)) same
      ∙ ap (λ (d : Folded). apply_all (shard_in set g) d (enumerate_from (front_of g old + 1) took)) was
      ∙ sym (apply_append (shard_in set g) empty_catalogue (numbered s.took) (enumerate_from (front_of g old + 1) took))
      ∙ ap (λ es. catalogue_of (shard_in set g) es) (sym parts)

  -- what a list that has it still has behind what took effect before, and behind what has now
  pub tail_parts : (list : List (Item Entry)) → IsPrefix (numbered t.took) (numbered list)
      → (rest : List Entry) × ((tail_behind (front_of g old) (numbered list) ≡ tf.gone.took g ++ rest) × (tail_behind (front_of g new) (numbered list) ≡ rest))
  tail_parts list has =
      let p = prefix_entries t.took list has in
      let all : map what list ≡ map what s.took ++ (took ++ p.0) = p.1 ∙ ap (λ es. es ++ p.0) words ∙ append_assoc (map what s.took) took p.0 in
      let was : tail_behind (front_of g old) (numbered list) ≡ took ++ p.0 =
      tail_is (front_of g old) list ∙ ap (λ es. drop (front_of g old) es) all ∙ ap (λ n. drop n (map what s.took ++ (took ++ p.0))) (a.stands.front ∙ sym (length-map s.took what)) ∙ dropped_first (map what s.took) (took ++ p.0) in
      let now : tail_behind (front_of g new) (numbered list) ≡ p.0 =
      tail_is (front_of g new) list ∙ ap (λ es. drop (front_of g new) es) p.1 ∙ ap (λ n. drop n (map what t.took ++ p.0)) (b.stands.front ∙ sym (length-map t.took what)) ∙ dropped_first (map what t.took) p.0 in
      (p.0, (was, now))

  -- so it rests
  pub rests_on : (list : List (Item Entry)) → IsPrefix (numbered t.took) (numbered list) → (IsPrefix (numbered s.took) (numbered list) → RestsIn by.name old cs g (tail_behind (front_of g old) (numbered list)))
      → RestsIn by.name new tf.gone.after g (tail_behind (front_of g new) (numbered list))
  rests_on list has before =
      let p = tail_parts list has in
      subst (λ es. RestsIn by.name new tf.gone.after g es) (sym p.1.1)
      (tf.gone.rests g (took ++ p.0) p.0 (subst (λ es. RestsIn by.name old cs g es) p.1.0 (before (prefix_trans (numbered s.took) (numbered t.took) (numbered list) (front_prefix s.took t.took stays) has))) refl)

-- ---- an event

module _ (below : LawsBelow) (start : Start) (c : Whole) (r : RunsWithTails start c) (e : Event) (at : ℕ) (may : MayKeep start (MayRun start) c.core e at) (on : (step e at c.core).ended ≡ None) where
  abbrev by : Judging
  by = judging_of start

  pub in_step : AreInStep c.core r.machines
  in_step = record { shape = r.whole.shape; each = λ g low. (r.whole.each g low).in_step }

  pub takes : TakesFirst (judging_of start) start.entry c.core (step e at c.core) r.folds
  takes = takes_first below.views below.steps below.laws (judging_of start) r.names start.entry r.valid c.core e at r.folds r.whole.going (seated c.core r.machines in_step) (known c.core r.machines in_step) r.few
      (r.turn.going r.whole.going) may.may r.stands

  pub stay : StaysWhole (step_whole e at c) r.machines
  stay = all_stay c e at r.machines r.whole on

  pub shape_then : shape_of (step e at c.core) ≡ start.set.shape
  shape_then = shape_after e at c.core on ∙ r.shape

  room : HasRecordRoom (step e at c.core)
  room = may.room on

  set_then : setting_of start.set.name (step e at c.core) ≡ start.set
  set_then =
      ap (λ (l : Limits). record { name = start.set.name; limits = l; shape = shape_of (step e at c.core) }) takes.gone.stands.limits
      ∙ ap (λ (s : Shape). record { name = start.set.name; limits = start.set.limits; shape = s }) shape_then

  pub low_before : (g : ℕ) → g < start.set.shape.shards → g < (shape_of c.core).shards
  low_before g low = subst (λ (s : Shape). g < s.shards) (sym r.shape) low

  pub low_then : (g : ℕ) → g < start.set.shape.shards → g < (shape_of (step e at c.core)).shards
  low_then g low = subst (λ (s : Shape). g < s.shards) (sym shape_then) low

  module _ (g : ℕ) (low : g < start.set.shape.shards) where
    abbrev s : Copies Entry
    s = r.machines g

    abbrev t : Copies Entry
    t = stay.machines g

    pub k : IsShardInStep g c (r.machines g)
    k = r.whole.each g (low_before g low)

    pub kt : IsShardInStep g (step_whole e at c) (stay.machines g)
    kt = stay.keeps.each g (low_then g low)

    pub stood : IsFront (stay.machines g).took (r.machines g).log
    stood = stay.stood g (low_then g low)

    settled_then : catalogue_at takes.gone.after g ≡ catalogue_of (shard_in start.set g) (took_in stay.machines g)
    settled_then =
        settled_on (judging_of start) start.entry c.core (step e at c.core) r.folds takes g (r.machines g) (stay.machines g) k.in_step kt.in_step stood start.set
        (ap (λ (x : Setting). shard_in x g) set_then) (r.settled g low)

    module _ (q : ℕ) (own : IsOf (shape_of (step e at c.core)) g q) where
      pub own_before : IsOf (shape_of c.core) g q
      own_before = subst (λ (x : Shape). IsOf x g q) (shape_after e at c.core on) own

      old : HasGoodTail start c r.machines r.folds g q
      old = r.tails g q low own_before

      good_then : HasGoodTail start (step_whole e at c) stay.machines takes.gone.after g q
      good_then = elim (reach_now g e at c (r.machines g) k on (stay.machines g) kt q own) [
        | inl front ↦
            let is : reach (step_whole e at c) q ≡ numbered (longest q (step e at c.core) (stay.machines g)) = kt.reaches q own in
            let st = kt.in_step.stands in
            record {
              views = subst (λ (xs : Numbered). HasRisingViews xs) (sym is) (front_views st.begun st.begun_at (stay.machines g) st.faithful st.told (longest q (step e at c.core) (stay.machines g)) front);
              rests = λ has. subst (λ (xs : Numbered). RestsIn start.set.name (step e at c.core) takes.gone.after g (tail_behind (front_of g (step e at c.core)) xs)) (sym is)
                  (lead_rests (judging_of start) start.entry (step e at c.core) takes.gone.after takes.gone.stands room g (low_then g low) (stay.machines g) kt.in_step (longest q (step e at c.core) (stay.machines g)) front);
            }
        | inr same ↦
            let is : reach (step_whole e at c) q ≡ numbered (longest q c.core (r.machines g)) = same ∙ k.reaches q own_before in
            record {
              views = subst (λ (xs : Numbered). HasRisingViews xs) (sym same) old.views;
              rests = λ has. subst (λ (xs : Numbered). RestsIn start.set.name (step e at c.core) takes.gone.after g (tail_behind (front_of g (step e at c.core)) xs)) (sym is)
                  (rests_on (judging_of start) start.entry c.core (step e at c.core) r.folds takes g (r.machines g) (stay.machines g) k.in_step kt.in_step stood (longest q c.core (r.machines g))
                  (subst (λ (xs : Numbered). IsPrefix (took_in stay.machines g) xs) is has)
                  (λ had. subst (λ (xs : Numbered). RestsIn start.set.name c.core r.folds g (tail_behind (front_of g c.core) xs)) (k.reaches q own_before)
                  (old.rests (subst (λ (xs : Numbered). IsPrefix (took_in r.machines g) xs) (sym (k.reaches q own_before)) had))));
            }
      ]

  pub tails_on : RunsWithTails start (step_whole e at c)
  tails_on = record {
    names = r.names;
    valid = r.valid;
    turn = below.turns start.commands c.core e at r.turn may.comes;
    shape = shape_then;
    machines = stay.machines;
    whole = stay.keeps;
    folds = takes.gone.after;
    stands = takes.gone.stands;
    few = room;
    history = subst (λ (x : Setting). AreAscending x (λ g. front_of g (step e at c.core)) takes.gone.after) set_then
        (takes.gone.history (subst (λ (x : Setting). AreAscending x (λ g. front_of g c.core) r.folds) (sym set_then) r.history));
    settled = λ g low. settled_then g low;
    tails = λ g q low own. good_then g low q own;
  }

  -- its machines are those with which it stays so
  pub machines_on : tails_on.machines ≡ stay.machines
  unfolding tails_on
  machines_on = refl

-- ---- events

steps_going : (c : Core) (es : Events) → (steps c es).ended ≡ None → c.ended ≡ None
steps_going c [] on = on
steps_going c (e ∷ es) on = was_going e.0 e.1 c (steps_going (step e.0 e.1 c) es on)

pub all_tails_on : (below : LawsBelow) (start : Start) (c : Whole) → RunsWithTails start c → (es : Events) → AllMayKeep start (MayRun start) c.core es → (steps c.core es).ended ≡ None → RunsWithTails start (runs whole_machine c es)
all_tails_on below start c r [] may on = r
all_tails_on below start c r (e ∷ es) may on =
    all_tails_on below start (step_whole e.0 e.1 c) (tails_on below start c r e.0 e.1 (may.0 r.whole.going) (steps_going (step e.0 e.1 c.core) es on)) es may.1 on
