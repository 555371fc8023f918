-- For any number of copies a run goes on reading: its folds stay those of what took effect in the machines of its copies.
use Rattle.std.proofs.Common.{◌≡◌, ◌∙◌, sym, ap, subst, refl, arith, ℕ, zero, suc, ◌+◌, ◌<◌, Bool, true, false, List, [], ◌∷◌, ◌++◌, Option, Some, None, length, map}
use Rattle.std.proofs.lemmas.List.{length-map, map-append, take-append-drop}
use Rattle.std.proofs.lemmas.Map.Made.{lookup-map_values}
use Rattle.std.specs.BTreeMap.{is_at}
use Rattle.std.specs.List.{enumerate_from}
use Rattle.std.specs.Option.{option_map}
use Rattle.std.specs.Ordering.{nat_cmp}
use Rattle.std.specs.Prelude.{drop, if◌then◌else◌}
use Rattle.hs_answered.specs.Standing.{IsFolded}
use Rattle.hs_answered.specs.Telling.{Judging}
use Rattle.hs_awaiting.specs.declared.wait.Wait.TheVariants as wait
use Rattle.hs_awaiting.specs.declared.waiting.Waiting.{Waiting}
use Rattle.hs_awaiting.specs.Views.{restarted}
use Rattle.hs_cluster.specs.Kept.{AreTold, IsTold}
use Rattle.hs_copies.specs.Lists.{IsFront, Item}
use Rattle.hs_copies.specs.Machine.{Copies}
use Rattle.hs_core_copies.proofs.NextLemmas.{front_take}
use Rattle.hs_core_copies.proofs.StepsLemmas.{was_going}
use Rattle.hs_core_copies.proofs.UnsealedLemmas.{numbered_append}
use Rattle.hs_core_copies.specs.InStep.{IsInStep}
use Rattle.hs_core_copies.specs.Lists.{numbered}
use Rattle.hs_core_words.specs.Changing.{change_group, post, set_viewed}
use Rattle.hs_core_words.specs.declared.event.Event.{Event}
use Rattle.hs_core_words.specs.Looking.{front_of, group_of, operation_of, shape_of}
use Rattle.hs_core_words.specs.Opening.{new_core}
use Rattle.hs_core_words.specs.Records.{HasRecordRoom}
use Rattle.hs_core_words.specs.State.{Core}
use Rattle.hs_core_words.specs.Step.{step}
use Rattle.hs_core_words.specs.Views.{begin_view, restart, restart_at}
use Rattle.hs_effects.proofs.LookLemmas.{found_map}
use Rattle.hs_effects.specs.Logged.{IsOrderly}
use Rattle.hs_effects.specs.Taking.{folds_behind, setting_of}
use Rattle.hs_entry.specs.declared.entry.Entry.{Entry}
use Rattle.hs_entry.specs.declared.entry.Entry.TheVariants as kind
use Rattle.hs_events.specs.Asked.{report_in}
use Rattle.hs_events.specs.Due.{Events}
use Rattle.hs_events.specs.Found.{Found, first_core, opened_list, opens_with}
use Rattle.hs_events.specs.Whole.{Whole, open_whole, step_whole}
use Rattle.hs_fold.specs.Runs.Catalogue.{apply_all, catalogue_of}
use Rattle.hs_fold.specs.Runs.Facts.{Catalogue as Folded, Facts as FoldedFacts, empty_catalogue, facts_at as fold_at}
use Rattle.hs_fold.specs.Runs.Fits.{catalogue_at}
use Rattle.hs_fold.specs.Runs.Opened.{catalogues}
use Rattle.hs_fold.specs.Shards.Setting.{Setting, shard_in}
use Rattle.hs_joint.proofs.HistoryLemmas.{shape_some}
use Rattle.hs_known_copies.proofs.KnownLemmas.{known, seated, whole_opens}
use Rattle.hs_known_copies.specs.Known.{AreInStep}
use Rattle.hs_laws.specs.Valid.{IsValid}
use Rattle.hs_limits.specs.declared.address.Address.{Address}
use Rattle.hs_limits.specs.declared.shape.Shape.{Shape}
use Rattle.hs_limits.specs.Epoch.{IsFresh}
use Rattle.hs_limits.specs.Shape.{shard_of}
use Rattle.hs_members.specs.Members.{view_of}
use Rattle.hs_memory.specs.Forget.{forget, known_of}
use Rattle.hs_model.specs.declared.op.Op.{Op}
use Rattle.hs_model.specs.declared.op.Op.TheVariants as op
use Rattle.hs_model.specs.Store.{Store, address_cmp}
use Rattle.hs_ops.specs.Speaking.{judging_shard}
use Rattle.hs_replica.specs.Group.{last_number, renew, renewal}
use Rattle.hs_shard.specs.declared.facts.Facts.{Facts}
use Rattle.hs_shard.specs.Facts.{Catalogue, facts_at}
use Rattle.hs_standing.proofs.AlongWalkLemmas.{copies_step}
use Rattle.hs_standing.proofs.ComingLemmas.{may_stand}
use Rattle.hs_standing.proofs.FirstLemmas.{first_held}
use Rattle.hs_standing.proofs.LegalOpenLemmas.{began_like, folds_valid, standing_opens}
use Rattle.hs_standing.proofs.MuteLemmas.{proposed_words}
use Rattle.hs_standing.proofs.RunLemmas.{LawsBelow}
use Rattle.hs_standing.proofs.StopsWalkLemmas.{apply_append}
use Rattle.hs_standing.proofs.TakenLemmas.{may_open}
use Rattle.hs_standing.specs.Answered.{KeepsRecordRoom, TellTheirBlocks}
use Rattle.hs_standing.specs.Bytes.{TellsItsBlock}
use Rattle.hs_standing.specs.Coming.{ReportsBlocks}
use Rattle.hs_standing.specs.Commands.{IsLineOf, IsNobodys}
use Rattle.hs_standing.specs.Held.{GivesAddresses}
use Rattle.hs_standing.specs.Legal.{MayStand}
use Rattle.hs_standing.specs.Lists.{Lists, whole_from}
use Rattle.hs_standing.specs.Opening.{opened_folds, opened_lists}
use Rattle.hs_standing.specs.Run.{RunBegins}
use Rattle.hs_standing.specs.Standing.{judging_of}
use Rattle.hs_standing.specs.Start.{Start}
use Rattle.hs_standing.specs.Walks.{Walks}
use Rattle.hs_tails.proofs.AlongLemmas.{takes_first}
use Rattle.hs_tails.proofs.GoingLemmas.{stays as tails_stay, took_is}
use Rattle.hs_tails.specs.Tails.{TakesFirst}
use Rattle.hs_whole_copies.proofs.AllLemmas.{all_stay, shape_after}
use Rattle.hs_whole_copies.proofs.OpenLemmas.{opens_whole, took_first}
use Rattle.hs_whole_copies.specs.Whole.{IsWholeInStep, StaysWhole}
use Rattle.hs_clauses.proofs.AwaitLemmas.{awaiting_words, memory_is, numbered as there_by, read_shard, shard_low}
use Rattle.hs_clauses.proofs.HomeLemmas.{Fine}
use Rattle.hs_clauses.proofs.HomeWalk.{fine_event, fine_opens}
use Rattle.hs_clauses.proofs.InStepReadLemmas.{in_step_reads}
use Rattle.hs_clauses.proofs.RunLemmas.{at_home, first_stands, new_fine, no_sessions, reads_keep}
use Rattle.hs_clauses.proofs.TellLemmas.{reports_right}
use Rattle.hs_clauses.specs.Along.{AllCome, Comes}
use Rattle.hs_clauses.specs.Awaiting.{AreAwaiting, AwaitsBlock, IsThere}
use Rattle.hs_clauses.specs.Run.{ReadStands, ReadsInStep, ReadsWhatIsSealed}

-- ---- a view begins: what waits for bytes did so before

bytes_were : (b : Bool) (u w : Waiting) (number : ℕ) → (if b then record u { wait = wait.View } else u) ≡ w → w.wait ≡ wait.Bytes number → u ≡ w
bytes_were true u w number e waits = let wrong : wait.View ≡ wait.Bytes number = ap (λ (x : Waiting). x.wait) e ∙ waits in absurd (cc wrong)
bytes_were false u w number e waits = e

some_waiting : (x w : Waiting) → Some x ≡ Some w → x ≡ w
some_waiting x w e = cc e

bytes_waited : (shard last : ℕ) (c : Core) (line number : ℕ) (w : Waiting) → operation_of line (restart_at shard last c) ≡ Some w → w.wait ≡ wait.Bytes number → operation_of line c ≡ Some w
bytes_waited shard last c line number w at waits = go (operation_of line c) refl (sym (found_map (restarted shard last) (is_at (nat_cmp line)) c.operations) ∙ at)
  where
    go : (o : Option Waiting) → operation_of line c ≡ o → option_map (restarted shard last) o ≡ Some w → operation_of line c ≡ Some w
    go None there e = absurd (cc e)
    go (Some u) there e = there ∙ ap (λ (x : Waiting). Some x) (bytes_were _ u w number (some_waiting (restarted shard last u) w e) waits)

awaiting_viewed : (cs : List Folded) (shard : ℕ) (c : Core) → AreAwaiting c cs → AreAwaiting (begin_view shard c) cs
awaiting_viewed cs shard c its =
    let cut : Core = change_group shard (renew c.members) (set_viewed shard false c) in
    let sent : Core = post (renewal (group_of shard (restart shard cut))) (restart shard cut) in
    awaiting_words sent (begin_view shard c) cs (proposed_words shard (kind.View (view_of shard sent.members)) sent)
    (λ line number w at waits. its line number w (bytes_waited shard (last_number (group_of shard cut)) cut line number w at waits) waits)

-- ---- which folds of a core they are makes no difference

module _ (name : List ℕ → Address) (c : Core) (cs ds : List Folded) (first : IsFolded c cs) (behind : IsFolded c ds) (order : IsOrderly name c) where
  abbrev numbers : Option Facts → Option ℕ
  numbers found = option_map (λ (f : Facts). f.number) found

  module _ (g : ℕ) (low : g < (shape_of c).shards) where
    same_memory : forget (shape_of c) g (catalogue_at cs g) ≡ forget (shape_of c) g (catalogue_at ds g)
    same_memory = sym (memory_is cs c first g low) ∙ memory_is ds c behind g low

    there_too : (a : Address) (number : ℕ) → IsThere (catalogue_at cs g) a number → IsThere (catalogue_at ds g) a number
    there_too a number t =
        there_by (catalogue_at ds g) a number (fold_at (catalogue_at ds g) a) refl
        (ap numbers (sym (lookup-map_values known_of (is_at (address_cmp a)) (catalogue_at ds g).blocks))
        ∙ ap (λ (d : Catalogue). numbers (facts_at a d)) (sym same_memory)
        ∙ ap numbers (lookup-map_values known_of (is_at (address_cmp a)) (catalogue_at cs g).blocks)
        ∙ ap (λ (o : Option FoldedFacts). numbers (option_map known_of o)) t.found
        ∙ ap (λ n. Some n) t.numbered)

  awaits_too : (line : ℕ) (w : Waiting) → operation_of line c ≡ Some w → (n : ℕ) (o : Op) → w.operation.op ≡ o → AwaitsBlock c.sessions (catalogue_at cs w.shard) n o → AwaitsBlock c.sessions (catalogue_at ds w.shard) n o
  awaits_too line w at n (op.Read session handle) is was = λ held stands fresh. (
      let place : w.shard ≡ shard_of (shape_of c).shards held.address =
      (order.pending line w at).judges ∙ ap (λ (p : Op). judging_shard (shape_of c).shards c.sessions p) is ∙ read_shard (shape_of c).shards c.sessions session handle held stands in
      let low : w.shard < (shape_of c).shards = subst (λ k. k < (shape_of c).shards) (sym place) (shard_low cs c first held.address) in
      there_too w.shard low held.address n (was held stands (subst (λ k. IsFresh held.epoch k) (sym (ap (λ (d : Catalogue). d.epoch) (same_memory w.shard low))) fresh))
      )
  awaits_too line w at n (op.Open session) is was = tt
  awaits_too line w at n (op.Close session) is was = tt
  awaits_too line w at n (op.Write session payload handles address) is was = tt
  awaits_too line w at n (op.Look session key) is was = tt
  awaits_too line w at n (op.Root session key handle) is was = tt
  awaits_too line w at n (op.Drop key) is was = tt
  awaits_too line w at n (op.Forget session handle) is was = tt
  awaits_too line w at n (op.Name session handle) is was = tt
  awaits_too line w at n op.Delete is was = tt
  awaits_too line w at n op.Stat is was = tt

  awaiting_too : AreAwaiting c cs → AreAwaiting c ds
  awaiting_too its line number w at waits =
      let was = its line number w at waits in
      record { wanted = was.wanted; awaits = awaits_too line w at number w.operation.op refl was.awaits }

-- ---- one event

module _ (below : LawsBelow) (start : Start) (names : GivesAddresses start.set.name) (valid : IsValid start.entry) where
  abbrev Reads : Core → Type 0
  Reads c = (cs : List Folded) × ReadStands start c cs

  reads_walk : Walks (λ line o c. IsLineOf (judging_of start) c line o) (TellsItsBlock (judging_of start) start.entry) (IsNobodys (judging_of start)) (λ c. (cs : List Folded) × ReadStands start c cs)
  reads_walk =
      let k = reads_keep below start names valid in
      record {
        once = λ c q. q.1.stands.orderly.once;
        line_beside = k.line_beside;
        tell_beside = k.tell_beside;
        beside = λ a b beside q. (q.0, k.beside a b q.0 beside q.1);
        downed = λ peer line c q. (q.0, k.downed peer line c q.0 q.1);
        refused = λ line refusal c nobody q. (q.0, k.refused line refusal c q.0 nobody q.1);
        line = λ line o c may q. (q.0, k.line line o c q.0 may q.1);
        goes = λ line c idle q. (q.0, k.goes line c q.0 idle q.1);
        told = λ line number bytes w c at waits may q. (q.0, k.told line number bytes w c q.0 at waits may q.1);
        effect = λ shard number entry c low leads few q. (folds_behind start.set.name q.0 shard entry c, k.effect shard number entry c q.0 low leads few q.1);
        due = λ shard c low due q. (q.0, k.due shard c q.0 low due q.1);
        round = λ number from to epoch round total deltas c low at new q. (q.0, k.round number from to epoch round total deltas c q.0 low at new q.1);
        again = λ back shard c q. (q.0, k.again back shard c q.0 q.1);
      }

  view_reads : (shard : ℕ) (c : Core) → shard < (shape_of c).shards → (cs : List Folded) × ReadStands start c cs → (cs : List Folded) × ReadStands start (begin_view shard c) cs
  view_reads shard c low q = (q.0, record { stands = standing_opens (judging_of start) shard c start.entry q.0 q.1.stands low; awaiting = awaiting_viewed q.0 shard c q.1.awaiting })

-- what took effect of a shard by an event is what its machine has more
module _ (by : Judging) (start : Store) (old new : Core) (cs : List Folded) (tf : TakesFirst by start old new cs) (set : Setting) (g : ℕ) (s t : Copies Entry) (a : IsInStep g old s) (b : IsInStep g new t)
    (stood : IsFront t.took s.log) (same : shard_in (setting_of by.name new) g ≡ shard_in set g) where
  abbrev what : Item Entry → Entry
  what x = x.what

  abbrev took : List Entry
  took = tf.gone.took g

  stays : IsFront s.took t.took
  stays = tails_stay by start old new cs tf.gone g s t a b stood (tf.first g)

  words : map (λ (x : Item Entry). x.what) t.took ≡ map (λ (x : Item Entry). x.what) s.took ++ tf.gone.took g
  words =
      ap (λ xs. map what xs) (sym (take-append-drop (length s.took) t.took) ∙ ap (λ xs. xs ++ drop (length s.took) t.took) (sym (front_take s.took t.took stays)))
      ∙ map-append what s.took (drop (length s.took) t.took)
      ∙ ap (λ xs. map what s.took ++ xs) (took_is by start old new cs tf.gone g s t a b stood (tf.first g))

  next : 1 + length (map (λ (x : Item Entry). x.what) s.took) ≡ front_of g old + 1
  next = let long = length-map s.took (λ (x : Item Entry). x.what) in let front = a.stands.front in omega (arith, long, front)

  parts : numbered t.took ≡ numbered s.took ++ enumerate_from (front_of g old + 1) (tf.gone.took g)
  parts =
      ap (enumerate_from 1) words ∙ numbered_append 1 (map what s.took) took
      ∙ ap (λ n. numbered s.took ++ enumerate_from n took) next

  settled_on : catalogue_at cs g ≡ catalogue_of (shard_in set g) (numbered s.took) → catalogue_at tf.gone.after g ≡ catalogue_of (shard_in set g) (numbered t.took)
  settled_on was =
      tf.gone.folds g
      ∙ ap (λ at. apply_all at (catalogue_at cs g) (enumerate_from (front_of g old + 1) took)) same
      ∙ ap (λ (d : Folded). apply_all (shard_in set g) d (enumerate_from (front_of g old + 1) took)) was
      ∙ sym (apply_append (shard_in set g) empty_catalogue (numbered s.took) (enumerate_from (front_of g old + 1) took))
      ∙ ap (λ es. catalogue_of (shard_in set g) es) (sym parts)

module _ (below : LawsBelow) (start : Start) (c : Whole) (r : ReadsInStep start c) where
  low_in : (g : ℕ) → g < (shape_of c.core).shards → g < start.set.shape.shards
  low_in g low = subst (λ (s : Shape). g < s.shards) r.shape low

  pub reads_sealed : ReadsWhatIsSealed start c
  reads_sealed = in_step_reads c r.machines r.whole start r.folds r.holds r.at_home (λ g low. r.settled g (low_in g low))

  pub tells : (e : Event) → IsTold c (report_in e) → ReportsBlocks (judging_of start) start.entry e c.core
  tells e told = reports_right start c reads_sealed e told

  in_step : AreInStep c.core r.machines
  in_step = record { shape = r.whole.shape; each = λ g low. (r.whole.each g low).in_step }

  some : 0 < (shape_of c.core).shards
  some = shape_some (shape_of c.core) r.whole.shape

  fine : Fine c.core
  fine = record {
    single = λ g. ((r.whole.each 0 some).in_step.seated.placed g).few;
    once = r.holds.stands.orderly.once;
    begun = r.at_home.begun;
    home = r.at_home.jobs;
  }

  module _ (e : Event) (at : ℕ) (comes : Comes (judging_of start) c.core e at) (room : HasRecordRoom c.core) (told : IsTold c (report_in e)) (on : (step e at c.core).ended ≡ None) where
    may : MayStand (judging_of start) start.entry e c.core
    may = may_stand (judging_of start) start.entry c.core e at comes.may comes.begins comes.addressed (tells e told)

    takes : TakesFirst (judging_of start) start.entry c.core (step e at c.core) r.folds
    takes = takes_first below.views below.steps below.laws (judging_of start) r.names start.entry r.valid c.core e at r.folds r.whole.going (seated c.core r.machines in_step) (known c.core r.machines in_step) room
        (r.turn.going r.whole.going) may r.holds.stands

    walked : (cs : List Folded) × ReadStands start (step e at c.core) cs
    walked = copies_step (reads_walk below start r.names r.valid) c.core (λ shard a same low more q. view_reads below start r.names r.valid shard a low q) e at r.whole.going (seated c.core r.machines in_step) (known c.core r.machines in_step) room
        (r.turn.going r.whole.going) may (r.folds, r.holds)

    stay : StaysWhole (step_whole e at c) r.machines
    stay = all_stay c e at r.machines r.whole on

    shape_then : shape_of (step e at c.core) ≡ start.set.shape
    shape_then = shape_after e at c.core on ∙ r.shape

    settled_then : (g : ℕ) → g < start.set.shape.shards → catalogue_at takes.gone.after g ≡ catalogue_of (shard_in start.set g) (numbered (stay.machines g).took)
    settled_then g low =
        let before : g < (shape_of c.core).shards = subst (λ (s : Shape). g < s.shards) (sym r.shape) low in
        let after : g < (shape_of (step e at c.core)).shards = subst (λ (s : Shape). g < s.shards) (sym shape_then) low in
        settled_on (judging_of start) start.entry c.core (step e at c.core) r.folds takes start.set g (r.machines g) (stay.machines g) (r.whole.each g before).in_step (stay.keeps.each g after).in_step
        (stay.stood g after) (ap (λ (s : Shape). shard_in (record { name = start.set.name; limits = start.set.limits; shape = s }) g) shape_then) (r.settled g low)

    pub reads_on : ReadsInStep start (step_whole e at c)
    reads_on = record {
      names = r.names;
      valid = r.valid;
      turn = below.turns start.commands c.core e at r.turn comes.may;
      shape = shape_then;
      machines = stay.machines;
      whole = stay.keeps;
      folds = takes.gone.after;
      holds = record {
        stands = takes.gone.stands;
        awaiting = awaiting_too start.set.name (step e at c.core) walked.0 takes.gone.after walked.1.stands.lawful.folded takes.gone.stands.lawful.folded takes.gone.stands.orderly walked.1.awaiting;
      };
      at_home = at_home (step e at c.core) (fine_event start.commands at c.core at fine e r.whole.going comes.may);
      settled = settled_then;
    }

-- ---- events

pub tell_along : (below : LawsBelow) (start : Start) (c : Whole) (es : Events) → (c.core.ended ≡ None → ReadsInStep start c) → AllCome (judging_of start) c.core es → KeepsRecordRoom c.core es → AreTold c es
    → TellTheirBlocks (judging_of start) start.entry c.core es
tell_along below start c [] r come room told = tt
tell_along below start c (e ∷ es) r come room told = (
  λ going. tells below start c (r going) e.0 told.0,
  tell_along below start (step_whole e.0 e.1 c) es
      (λ on. (let going = was_going e.0 e.1 c.core on in reads_on below start c (r going) e.0 e.1 (come.0 going) (room.0 going) told.0 on))
      come.1 room.1 told.1,
)

-- ---- the opening

fold_from : (set : Setting) (lists : Lists) (k n j : ℕ) → j < n → catalogue_at (catalogues set k (whole_from lists k n)) j ≡ catalogue_of (shard_in set (k + j)) (lists.whole (k + j))
fold_from set lists k zero j low = absurd (omega (arith, low))
fold_from set lists k (suc n) zero low = let is : k ≡ k + 0 = omega arith in ap (λ m. catalogue_of (shard_in set m) (lists.whole m)) is
fold_from set lists k (suc n) (suc j) low =
    let is : k + 1 + j ≡ k + suc j = omega arith in
    fold_from set lists (k + 1) n j (omega (arith, low)) ∙ ap (λ m. catalogue_of (shard_in set m) (lists.whole m)) is

module _ (below : LawsBelow) (start : Start) (found : Found) (b : RunBegins start found) (on : (first_core start.set found).ended ≡ None) where
  entry_valid : IsValid start.entry
  entry_valid =
      subst (λ (s : Store). IsValid s) (sym (b.entry ∙ no_sessions (opened_folds start.set found)))
      (folds_valid start.set.name (new_core start.set.shape start.set.limits (opens_with start.set found) found.opened) (opened_folds start.set found) (may_open below.memory start.set found b.soundly start.commands).lawful)

  first_shape : shape_of (first_core start.set found) ≡ start.set.shape
  first_shape =
      first_held (λ core. shape_of core ≡ start.set.shape)
      (record {
        beside = λ x y beside is. beside.shape ∙ is;
        downed = λ peer x is. is;
        views = λ shard x low none is. (began_like (judging_of start) shard x).shape ∙ is;
      })
      start.set.shape start.set.limits (opens_with start.set found) found.opened refl

  zero_left : (g : ℕ) → 0 + g ≡ g
  zero_left g = omega arith

  opened : (machines : ℕ → Copies Entry) × IsWholeInStep (open_whole start.set found) machines
  opened = opens_whole start.set found (whole_opens start.set found b.soundly) on

  pub reads_first : ReadsInStep start (open_whole start.set found)
  reads_first = record {
    names = b.soundly.names;
    valid = entry_valid;
    turn = below.opens start.commands start.set.shape start.set.limits (opens_with start.set found) found.opened b.nobody;
    shape = first_shape;
    machines = opened.0;
    whole = opened.1;
    folds = opened_folds start.set found;
    holds = first_stands below start found b entry_valid;
    at_home = at_home (first_core start.set found)
        (fine_opens (new_core start.set.shape start.set.limits (opens_with start.set found) found.opened) (new_fine start.set.shape start.set.limits (opens_with start.set found) found.opened));
    settled = λ g low. fold_from start.set (opened_lists start.set found) 0 start.set.shape.shards g low ∙ ap (λ m. catalogue_of (shard_in start.set m) (opened_list start.set found m)) (zero_left g)
        ∙ ap (λ es. catalogue_of (shard_in start.set g) es) (sym (took_first start.set found (whole_opens start.set found b.soundly) opened.0 opened.1 g low));
  }

-- from the opening on
pub tell_soundly : (below : LawsBelow) (start : Start) (found : Found) (es : Events) → RunBegins start found → AllCome (judging_of start) (first_core start.set found) es → KeepsRecordRoom (first_core start.set found) es
    → AreTold (open_whole start.set found) es → TellTheirBlocks (judging_of start) start.entry (first_core start.set found) es
tell_soundly below start found es b come room told = tell_along below start (open_whole start.set found) es (λ on. reads_first below start found b on) come room told
