-- Where a run of any number of copies stands so, what a stop leaves of it may be chosen.
use Rattle.std.proofs.Common.{◌≡◌, ◌∙◌, ap, sym, subst, refl, arith, ℕ, zero, suc, ◌+◌, ◌<◌, ◌≤◌, List, [], ◌∷◌, ◌++◌, Some, append-nil, length, take}
use Rattle.std.proofs.lemmas.List.{ext_get_or, length-map}
use Rattle.std.proofs.lemmas.List.Elements.{All-from_recursion, recursion_from_All}
use Rattle.std.proofs.lemmas.List.FromFn.{length-enumerate_from}
use Rattle.std.specs.List.{enumerate_from}
use Rattle.std.specs.Option.{option_map, option_map_or}
use Rattle.std.specs.Prelude.{IsSome, map}
use Rattle.hs_answered.specs.Standing.{store_with}
use Rattle.hs_answered.specs.Telling.{Tells}
use Rattle.hs_awaiting.specs.declared.waiting.Waiting.{Waiting}
use Rattle.hs_copies.proofs.ListLemmas.{front_length}
use Rattle.hs_copies.proofs.StandLemmas.{HasLead, stands_lead}
use Rattle.hs_copies.specs.Lists.{Item}
use Rattle.hs_copies.specs.Machine.{Copies}
use Rattle.hs_core_copies.proofs.LeadLemmas.{lead_is}
use Rattle.hs_core_copies.proofs.NextLemmas.{front_take, map_take}
use Rattle.hs_core_copies.proofs.StepLemmas.{lead_in_step}
use Rattle.hs_core_copies.proofs.UnsealedLemmas.{numbered_take}
use Rattle.hs_core_copies.specs.InStep.{IsOf, copies_in}
use Rattle.hs_core_copies.specs.Lists.{numbered}
use Rattle.hs_core_words.specs.Looking.{front_of, lead_of, operation_of, shape_of, status_of}
use Rattle.hs_core_words.specs.State.{Core}
use Rattle.hs_effects.specs.Taking.{setting_of}
use Rattle.hs_entry.specs.declared.entry.Entry.{Entry}
use Rattle.hs_entry.specs.Entries.{IsPrefix}
use Rattle.hs_events.specs.Whole.{Whole, reach}
use Rattle.hs_fold.proofs.PrefixLemmas.{last-length}
use Rattle.hs_fold.specs.Lawful.{Deed, list_at}
use Rattle.hs_fold.specs.Prefix.{IsNumbered, last_of}
use Rattle.hs_fold.specs.Runs.Catalogue.{catalogue_of}
use Rattle.hs_fold.specs.Runs.Facts.{Catalogue as Folded, empty_catalogue}
use Rattle.hs_fold.specs.Runs.Fits.{catalogue_at}
use Rattle.hs_fold.specs.Runs.History.{no_entries}
use Rattle.hs_fold.specs.Runs.Opened.{catalogues, store_of}
use Rattle.hs_fold.specs.Shards.Images.{Stop}
use Rattle.hs_fold.specs.Shards.Setting.{Numbered, Setting, shard_in}
use Rattle.hs_journal.specs.declared.entry.JournalEntry.{JournalEntry}
use Rattle.hs_journal.specs.Events.{client_op}
use Rattle.hs_journal.specs.Order.{IsOfLine}
use Rattle.hs_limits.specs.declared.limits.Limits.{Limits}
use Rattle.hs_limits.specs.declared.limits.PeerStatus.TheVariants.{Good}
use Rattle.hs_limits.specs.declared.shape.Shape.{Shape}
use Rattle.hs_limits.specs.Shape.{IsShape}
use Rattle.hs_model.specs.Store.{reborn}
use Rattle.hs_standing.proofs.RunLemmas.{run_suffices}
use Rattle.hs_standing.proofs.SettleLemmas.{folds_at, settled_at, within_as}
use Rattle.hs_standing.specs.Left.{TookEffect}
use Rattle.hs_standing.specs.Lists.{Lists, settled, settled_catalogues, settled_from}
use Rattle.hs_standing.specs.Standing.{AreBegun, CoreStands, judging_of}
use Rattle.hs_standing.specs.Start.{IsAwaited, Start}
use Rattle.hs_told.specs.InTurn.{told_of}
use Rattle.hs_told.specs.Part.{asking}
use Rattle.hs_whole_copies.proofs.PlainLemmas.{plain_take}
use Rattle.hs_whole_copies.specs.Whole.{ArePlain, IsShardInStep, longest}
use Rattle.hs_tails.proofs.EntryLemmas.{is_numbered, what}
use Rattle.hs_tails.proofs.ReachLemmas.{good_longest}
use Rattle.hs_tails.specs.Chosen.{TailsStand, disks_of, lead_lists, tail_behind, took_of}
use Rattle.hs_tails.specs.Run.{HaveOpenLines, RunsWithTails, took_in}
use Rattle.hs_tails.specs.Tails.{TailRests}

settled_long : (lists : Lists) (k n : ℕ) → length (settled_from lists k n) ≡ n
settled_long lists k zero = refl
settled_long lists k (suc n) = ap (λ m. suc m) (settled_long lists (k + 1) n)

catalogues_long : (set : Setting) (k : ℕ) (lists : List Numbered) → length (catalogues set k lists) ≡ length lists
catalogues_long set k [] = refl
catalogues_long set k (list ∷ lists) = ap (λ m. suc m) (catalogues_long set (k + 1) lists)

-- the store of some folds, without sessions
without_sessions : (cs : List Folded) (core : Core) → reborn (store_with cs core.sessions) ≡ store_of cs
without_sessions cs core = refl

module _ (start : Start) (c : Whole) (r : RunsWithTails start c) where
  abbrev lists : Lists
  lists = lead_lists c

  low_in : (g : ℕ) → g < start.set.shape.shards → g < (shape_of c.core).shards
  low_in g low = subst (λ (x : Shape). g < x.shards) (sym r.shape) low

  set_is : setting_of start.set.name c.core ≡ start.set
  set_is =
      ap (λ (l : Limits). record { name = start.set.name; limits = l; shape = shape_of c.core }) r.stands.limits
      ∙ ap (λ (x : Shape). record { name = start.set.name; limits = start.set.limits; shape = x }) r.shape

  -- ---- the list of the lead

  module _ (g : ℕ) (low : g < start.set.shape.shards) where
    abbrev s : Copies Entry
    s = r.machines g

    k : IsShardInStep g c (r.machines g)
    k = r.whole.each g (low_in g low)

    d : HasLead (copies_in g k.in_step.sent c.core) (r.machines g)
    d = stands_lead (copies_in g k.in_step.sent c.core) (r.machines g) k.in_step.stands

    leads : lead_of g c.core ≡ Some d.peer
    leads = lead_in_step g c.core (r.machines g) k.in_step ∙ d.is

    lead_good : (IsOf (shape_of c.core) g d.peer) × (status_of d.peer c.core ≡ Good)
    lead_good = let l = lead_is g c.core d.peer (k.in_step.seated.placed g).few leads in (l.own, l.good)

    lead_list : (lead_lists c).whole g ≡ numbered (r.machines g).log
    lead_list =
        ap (λ o. option_map_or (reach c) o []) leads ∙ k.reaches d.peer lead_good.0
        ∙ ap numbered (good_longest g d.peer c.core (r.machines g) k.in_step lead_good.0 lead_good.1 ∙ d.whole)

    front_is : front_of g c.core ≡ length (r.machines g).took
    front_is = k.in_step.stands.front

    within : (lead_lists c).front g ≤ length ((lead_lists c).whole g)
    within =
        let short = front_length (r.machines g).took (r.machines g).log k.in_step.stands.faithful.took in
        let long = ap (λ (xs : Numbered). length xs) lead_list ∙ length-enumerate_from 1 (map what (r.machines g).log) ∙ length-map (r.machines g).log what in
        let front = front_is in
        omega (arith, short, long, front)

    pub took_is : took_of (lead_lists c) g ≡ took_in r.machines g
    took_is =
        ap (λ n. take n ((lead_lists c).whole g)) front_is ∙ ap (λ (xs : Numbered). take (length (r.machines g).took) xs) lead_list
        ∙ numbered_take (length (r.machines g).took) 1 (map what (r.machines g).log)
        ∙ ap (λ es. enumerate_from 1 es) (map_take what (length (r.machines g).took) (r.machines g).log)
        ∙ ap (λ (xs : List (Item Entry)). numbered xs) (sym (front_take (r.machines g).took (r.machines g).log k.in_step.stands.faithful.took))

    -- ---- what took effect of it

    took_plain : ArePlain (map what (r.machines g).took)
    took_plain =
        let log : ArePlain (map what (r.machines g).log) = subst (λ (xs : List (Item Entry)). ArePlain (map what xs)) (good_longest g d.peer c.core (r.machines g) k.in_step lead_good.0 lead_good.1 ∙ d.whole) (k.plain d.peer lead_good.0) in
        subst (λ es. ArePlain es) (map_take what (length (r.machines g).took) (r.machines g).log ∙ ap (λ (xs : List (Item Entry)). map what xs) (sym (front_take (r.machines g).took (r.machines g).log k.in_step.stands.faithful.took)))
        (plain_take (length (r.machines g).took) (map what (r.machines g).log) log)

    last_is : last_of (list_at (settled start.set (lead_lists c)) g) ≡ front_of g c.core
    last_is =
        ap (λ (xs : Numbered). last_of xs) (settled_at (lead_lists c) start.set.shape.shards g low ∙ took_is)
        ∙ last-length (took_in r.machines g) (is_numbered (r.machines g).took took_plain)
        ∙ length-enumerate_from 1 (map what (r.machines g).took) ∙ length-map (r.machines g).took what ∙ sym front_is

    fold_is : catalogue_at (settled_catalogues start.set (lead_lists c)) g ≡ catalogue_at r.folds g
    fold_is = folds_at start.set (lead_lists c) g low ∙ ap (λ (xs : Numbered). catalogue_of (shard_in start.set g) xs) took_is ∙ sym (r.settled g low)

  folds_are : settled_catalogues start.set (lead_lists c) ≡ r.folds
  folds_are =
      ext_get_or empty_catalogue (settled_catalogues start.set (lead_lists c)) r.folds (long ∙ sym folds_long)
      (λ g low. fold_is g (let n = long in omega (arith, low, n)))
    where
      long : length (settled_catalogues start.set (lead_lists c)) ≡ start.set.shape.shards
      long = catalogues_long start.set 0 (settled start.set (lead_lists c)) ∙ settled_long (lead_lists c) 0 start.set.shape.shards

      folds_long : length r.folds ≡ start.set.shape.shards
      folds_long = r.stands.lawful.folded.shards ∙ ap (λ (x : Shape). x.shards) r.shape

  -- ---- what was told

  core_stands : CoreStands start c.core r.folds
  core_stands = run_suffices start c.core r.folds r.stands

  told_is : told_of c.core ≡ c.core.journal
  told_is = ap (λ (es : List JournalEntry). c.core.journal ++ es) (r.turn.going r.whole.going) ∙ append-nil c.core.journal

  all_told : (c.core.journal ++ c.core.refused) ++ c.core.entries ≡ c.core.journal
  all_told = ap (λ (es : List JournalEntry). (c.core.journal ++ c.core.refused) ++ es) r.turn.told ∙ append-nil (c.core.journal ++ c.core.refused) ∙ told_is

  now : Tells (judging_of start) start.entry c.core.journal (store_with r.folds c.core.sessions)
  now = subst (λ (es : List JournalEntry). Tells (judging_of start) start.entry es (store_with r.folds c.core.sessions)) all_told core_stands.told

  took : TookEffect start c.core.journal (lead_lists c)
  took = record {
    legal = now.legal;
    stood = ap (λ (ds : List Folded). store_of ds) folds_are ∙ sym (without_sessions r.folds c.core) ∙ ap (λ x. reborn x) (sym now.left);
    lawful = record {
      history = r.history.history;
      ascends = r.history.ascends;
      within = All-from_recursion (λ (x : Deed). x.number ≤ last_of (list_at (settled start.set (lead_lists c)) x.shard)) r.history.history
          (within_as start.set (no_entries start.set) r.history.history (λ g. front_of g c.core) (λ g. last_of (list_at (settled start.set (lead_lists c)) g)) r.history.fits
          (λ g low. let e = last_is g low in omega (arith, e))
          (recursion_from_All (λ (x : Deed). x.number ≤ front_of x.shard c.core) r.history.history r.history.within));
      fits = r.history.fits;
      gives = r.history.gives ∙ sym folds_are;
    };
    records = r.history.records;
  }

  -- ---- where it stops

  module _ (stop : Stop) (begun : AreBegun start stop c.core) where
    awaits : (line : ℕ) (w : Waiting) → operation_of line c.core ≡ Some w → IsAwaited start stop c.core.journal line
    awaits line w at = record {
      asks = client;
      begun = begun line counted (omega (arith, below)) client;
      unanswered = λ i of. r.turn.turns.unanswered line w.operation.op asking_is i (subst (λ (es : List JournalEntry). IsOfLine es i line) (sym told_is) of);
    }
      where
        client : IsSome (client_op (start.commands line))
        client = core_stands.asked line w at

        counted : 1 ≤ line
        counted = (r.stands.orderly.pending line w at).counted

        asking_is : asking c.core.operations line ≡ Some w.operation.op
        asking_is = ap (option_map (λ (x : Waiting). x.operation.op)) at

        below : line < c.core.progress.event_line + 1
        below = r.turn.turns.below line w.operation.op asking_is

    pub tails_stand : HaveOpenLines c r.machines → TailsStand start stop c.core.journal (disks_of c) (lead_lists c) c.core
    tails_stand lined = record {
      shape = subst (λ (x : Shape). IsShape x) r.shape r.whole.shape;
      within = λ g low. within g low;
      took = took;
      awaited = λ line w at. awaits line w at;
      tails = λ q g home low counted has. (
          let own : IsOf (shape_of c.core) g q = subst (λ (x : Shape). IsOf x g q) (sym r.shape) home in
          let good = r.tails g q low own in
          let had : IsPrefix (took_in r.machines g) (reach c q) = subst (λ (xs : Numbered). IsPrefix xs (reach c q)) (took_is g low) has in
          record {
            numbered = subst (λ (xs : Numbered). IsNumbered xs) (sym ((k g low).reaches q own)) (is_numbered (longest q c.core (r.machines g)) ((k g low).plain q own));
            views = good.views;
            rests = subst (λ cs. TailRests start.set cs g (front_of g c.core) (tail_behind (front_of g c.core) (reach c q))) (sym folds_are)
                (subst (λ (x : Setting). TailRests x r.folds g (front_of g c.core) (tail_behind (front_of g c.core) (reach c q))) set_is (good.rests had));
            lines = lined g q (low_in g low) own had;
          }
          );
    }
