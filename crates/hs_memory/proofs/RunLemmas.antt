-- Deletion runs: an Enter, a Got and the ends of rounds in memory and in the fold.
use Rattle.std.proofs.Common.{◌≡◌, ℕ, zero, suc, ◌+◌, ◌==◌, ◌&&◌, ◌||◌, nat_lt, List, ◌++◌, count_by, length, Bool, true, false, cond, Some, None, is_none, refl, sym, ap, subst, ◌∙◌}
use Rattle.std.proofs.lemmas.Bool.{false≢true}
use Rattle.std.proofs.lemmas.Bool.Decides.{Decides-eqb}
use Rattle.std.specs.Option.{option_map_or}
use Rattle.hs_limits.specs.declared.shape.Shape.{Shape}
use Rattle.hs_roots.specs.Roots.{is_new as is_new_record, kept_by}
use Rattle.hs_rounds.specs.declared.body.RoundBody.{RoundBody}
use Rattle.hs_rounds.specs.declared.place.Place.{Place}
use Rattle.hs_rounds.specs.Rounds.{body_at, complete, finish, go_on, have_told, received}
use Rattle.hs_rounds.specs.Rounds.{enter as enter_run, is_last as is_last_run}
use Rattle.hs_fold.specs.Catalogue.{Shard}
use Rattle.hs_fold.specs.Runs.Facts.{Catalogue as Folded}
use Rattle.hs_fold.specs.Runs.Own.{IsOwn}
use Rattle.hs_fold.specs.Runs.Rounds as fold
use Rattle.hs_fold.specs.Runs.Rounds.{run_of}
use Rattle.hs_fold.specs.Runs.Told.{pointers_of as fold_pointers, tally as fold_tally}
use Rattle.hs_fold.proofs.Runs.MemoryLemmas.{run-complete, run-enter, run-got, run-last, run-received, run-search, run-sweep}
use Rattle.hs_fold.proofs.Runs.OwnLemmas.{enter-own, search-own, settled-plain, sweep-own}
use Rattle.hs_fold.specs.Shards.Mine.{IsMine}
use Rattle.hs_memory.specs.Forget.{forget}
use Rattle.hs_memory.proofs.CountLemmas.{tally_alike}
use Rattle.hs_memory.proofs.MapLemmas.{counted_known, counted_records, kept_records, known, let_go_count, let_go_records, pointers_new, pointers_zero, settled_known, still_kept_records, swept_known, zero_count_known, zeros_known}
use Rattle.hs_shard.specs.declared.effect.Effect.{Effect}
use Rattle.hs_shard.specs.Clients.{Applied, applied, only}
use Rattle.hs_shard.specs.Facts.{Catalogue}
use Rattle.hs_shard.specs.Rounds.{advance, advanced, end_open, end_round, enter, enter_epoch, entered, first_deltas, get_round, is_accepted, is_due, is_new, is_new_zero, let_go, log_got, next_deltas, next_total, pointers_of, search, searched, settle, settled, still_kept, sweep, swept}
use Rattle.hs_shard.specs.Rounds.{let_go_count as gone_count}
use Rattle.hs_desk.specs.declared.what.What.TheVariants.{Nothing, Refused}
use Rattle.std.proofs.lemmas.Map.Made.{keys_of-map_values}
use Rattle.std.specs.List.Sorted.{IsStrictlySortedBy}
use Rattle.std.specs.Map.{keys_of}
use Rattle.hs_limits.specs.declared.address.Address.{Address}
use Rattle.hs_model.specs.Store.{address_cmp}

module _ (name : List ℕ → Address) (shape : Shape) (shard : ℕ) where
  abbrev at : Shard
  at = record { name = name; shards = shape.shards; shard = shard }

  abbrev to : Folded → Catalogue
  to c = forget shape shard c

  -- ---- Enter

  first_alike : (epoch : ℕ) (c : Folded) → first_deltas epoch (to c) ≡ fold.first_deltas epoch c
  first_alike epoch c =
      tally_alike (pointers_of (is_new epoch) (known c.blocks) ++ kept_by (is_new_record epoch) (to c).roots)
      ∙ ap (λ ps. fold_tally (ps ++ kept_by (is_new_record epoch) (to c).roots)) (pointers_new epoch c.blocks)
      ∙ ap (λ as'. fold_tally (fold_pointers (fold.is_new epoch) c.blocks ++ as')) (kept_records (is_new_record epoch) c.roots)

  enter_alike : (c : Folded) → c.swept ≡ c.epoch → enter_epoch (c.epoch + 1) (to c) ≡ to (fold.enter_epoch shape.shards c)
  enter_alike c swept =
      let run : enter_run (c.epoch + 1) (first_deltas (c.epoch + 1) (to c)) (run_of shape shard c) ≡ run_of shape shard (fold.enter_epoch shape.shards c) =
      ap (λ ds. enter_run (c.epoch + 1) ds (run_of shape shard c)) (first_alike (c.epoch + 1) c) ∙ sym (run-enter shape shard c swept) in
      ap (λ bs. record (enter_epoch (c.epoch + 1) (to c)) { blocks = bs }) (counted_known (c.epoch + 1) c.blocks)
      ∙ ap (λ rs. record (enter_epoch (c.epoch + 1) (to c)) { blocks = known (fold.enter_epoch shape.shards c).blocks; roots = rs }) (counted_records (c.epoch + 1) c.roots)
      ∙ ap (λ run. record (to (fold.enter_epoch shape.shards c)) { run = run }) run

  -- ---- the end of a round

  module _ (c : Folded) (own : IsOwn shape.shards shard c) (running : fold.is_running c ≡ true) where
    settled_alike : settled c.round (to c) ≡ to (fold.settled shape.shards c)
    settled_alike =
        let ordered : IsStrictlySortedBy address_cmp (keys_of c.blocks) = subst (λ ks. IsStrictlySortedBy address_cmp ks) (keys_of-map_values (λ f. f.present) c.blocks) own.mine.ordered in
        let blocks : settle c.round (received (run_of shape shard c)) (known c.blocks) ≡ known (fold.settled shape.shards c).blocks =
        ap (λ ds. settle c.round ds (known c.blocks)) (run-received shape shard c running) ∙ settled_known c.round (fold.open_deltas shape.shards c) c.blocks ordered in
        ap (λ bs. record (to c) { blocks = bs }) blocks

    sweep_alike : sweep c.epoch (to c) ≡ to (fold.sweep c)
    sweep_alike =
        ap (λ bs. record (to c) { blocks = bs; swept = c.epoch; run = finish (run_of shape shard c) }) (swept_known c.epoch c.blocks)
        ∙ ap (λ run. record (to (fold.sweep c)) { run = run }) (sym (run-sweep shape shard c running))

    total_alike : next_total c.epoch c.round (to c) ≡ fold.next_total c
    total_alike =
        ap (λ n. n + gone_count c.epoch c.round (to c).roots) (zero_count_known c.epoch c.blocks)
        ∙ ap (λ n. count_by (λ e. fold.is_new_zero c.epoch e.1) c.blocks + n) (let_go_count (c.round == 0) c.epoch c.roots)

    deltas_alike : next_deltas c.epoch c.round (to c) ≡ fold.next_deltas c
    deltas_alike =
        tally_alike (pointers_of (is_new_zero c.epoch) (known c.blocks) ++ let_go c.epoch c.round (to c).roots)
        ∙ ap (λ ps. fold_tally (ps ++ let_go c.epoch c.round (to c).roots)) (pointers_zero c.epoch c.blocks)
        ∙ ap (λ as'. fold_tally (fold_pointers (fold.is_new_zero c.epoch) c.blocks ++ as')) (let_go_records (c.round == 0) c.epoch c.roots)

    search_alike : search c.epoch c.round (to c) ≡ to (fold.search shape.shards c)
    search_alike =
        let run : go_on (next_total c.epoch c.round (to c)) (next_deltas c.epoch c.round (to c)) (run_of shape shard c) ≡ run_of shape shard (fold.search shape.shards c) =
        ap (λ n. go_on n (next_deltas c.epoch c.round (to c)) (run_of shape shard c)) total_alike
        ∙ ap (λ ds. go_on (fold.next_total c) ds (run_of shape shard c)) deltas_alike
        ∙ sym (run-search shape shard c running) in
        ap (λ bs. record (to c) { blocks = bs; roots = still_kept c.epoch c.round (to c).roots; run = go_on (next_total c.epoch c.round (to c)) (next_deltas c.epoch c.round (to c)) (run_of shape shard c) }) (zeros_known c.epoch c.blocks)
        ∙ ap (λ rs. record (to c) { blocks = known (fold.search shape.shards c).blocks; roots = rs; run = go_on (next_total c.epoch c.round (to c)) (next_deltas c.epoch c.round (to c)) (run_of shape shard c) }) (still_kept_records (c.round == 0) c.epoch c.roots)
        ∙ ap (λ run. record (to (fold.search shape.shards c)) { run = run }) run

  -- what is settled is own, and still runs
  settled_own : (c : Folded) → IsOwn shape.shards shard c → IsOwn shape.shards shard (fold.settled shape.shards c)
  settled_own c own = record { mine = subst (λ d. IsMine shape.shards shard d) (sym (settled-plain shape.shards c)) own.mine; once = own.once }

  ended_alike : (c : Folded) → IsOwn shape.shards shard c → fold.is_running c ≡ true → (effect : Effect) → (end_round c.epoch c.round (applied (to c) effect)).catalogue ≡ to (fold.end_round shape.shards c)
  ended_alike c own running effect = go (fold.is_last shape.shards c) (run-last shape shard c running)
    where
      here : settled c.round (to c) ≡ to (fold.settled shape.shards c)
      here = settled_alike c own running

      go : (b : Bool) → is_last_run (run_of shape shard c) ≡ b
          → (cond (is_last_run (run_of shape shard c)) (swept c.epoch effect (settled c.round (to c))) (searched c.epoch c.round effect (settled c.round (to c)))).catalogue
          ≡ to (cond b (fold.sweep (fold.settled shape.shards c)) (fold.search shape.shards (fold.settled shape.shards c)))
      go true e =
          ap (λ b. (cond b (swept c.epoch effect (settled c.round (to c))) (searched c.epoch c.round effect (settled c.round (to c)))).catalogue) e
          ∙ ap (λ d. sweep c.epoch d) here ∙ sweep_alike (fold.settled shape.shards c) (settled_own c own) running
      go false e =
          ap (λ b. (cond b (swept c.epoch effect (settled c.round (to c))) (searched c.epoch c.round effect (settled c.round (to c)))).catalogue) e
          ∙ ap (λ d. search c.epoch c.round d) here ∙ search_alike (fold.settled shape.shards c) (settled_own c own) running

  end_own : (c : Folded) → IsOwn shape.shards shard c → IsOwn shape.shards shard (fold.end_round shape.shards c)
  end_own c own = go (fold.is_last shape.shards c)
    where
      go : (b : Bool) → IsOwn shape.shards shard (cond b (fold.sweep (fold.settled shape.shards c)) (fold.search shape.shards (fold.settled shape.shards c)))
      go true = sweep-own at (fold.settled shape.shards c) (settled_own c own)
      go false = search-own at (fold.settled shape.shards c) (settled_own c own) shape.shards

  -- ---- one round after another

  advance_alike : (turns : ℕ) (c : Folded) → IsOwn shape.shards shard c → (effect : Effect) → (advance turns (applied (to c) effect)).catalogue ≡ to (fold.advance shape.shards turns c)
  advance_alike zero c own effect = refl
  advance_alike (suc turns) c own effect = go (advance_alike turns (fold.end_round shape.shards c) (end_own c own)) (fold.is_running c) refl (fold.is_complete shape.shards c) refl
    where
      next : Applied
      next = end_open (run_of shape shard c).opened (applied (to c) effect)

      go : ((effect : Effect) → (advance turns (applied (to (fold.end_round shape.shards c)) effect)).catalogue ≡ to (fold.advance shape.shards turns (fold.end_round shape.shards c)))
          → (r : Bool) → fold.is_running c ≡ r → (b : Bool) → fold.is_complete shape.shards c ≡ b
          → (cond (complete (run_of shape shard c)) (advance turns next) (applied (to c) effect)).catalogue ≡ to (cond b (fold.advance shape.shards turns (fold.end_round shape.shards c)) c)
      go ih false r true e = absurd (false≢true (sym (ap (λ (b : Bool). b && have_told shape.shards c.epoch c.round c.got) r) ∙ e))
      go ih false r false e =
          let stays : complete (run_of shape shard c) ≡ false = ap (λ (b : Bool). complete (record (run_of shape shard c) { opened = cond b (Some (c.epoch, c.round)) None })) r in
          ap (λ b. (cond b (advance turns next) (applied (to c) effect)).catalogue) stays
      go ih true r false e = ap (λ b. (cond b (advance turns next) (applied (to c) effect)).catalogue) (run-complete shape shard c r ∙ e)
      go ih true r true e =
          let this : next ≡ end_round c.epoch c.round (applied (to c) effect) = ap (λ (b : Bool). end_open (cond b (Some (c.epoch, c.round)) None) (applied (to c) effect)) r in
          let ended : next.catalogue ≡ to (fold.end_round shape.shards c) = ap (λ a. a.catalogue) this ∙ ended_alike c own r effect in
          ap (λ b. (cond b (advance turns next) (applied (to c) effect)).catalogue) (run-complete shape shard c r ∙ e)
          ∙ ap (λ k. (advance turns (applied k next.effect)).catalogue) ended
          ∙ ih next.effect

  -- ---- the entries

  pub entered_alike : (c : Folded) → IsOwn shape.shards shard c → (epoch : ℕ) → (enter epoch (to c)).catalogue ≡ to (fold.enter shape.shards epoch c)
  entered_alike c own epoch = go (epoch == c.epoch + 1) refl (c.swept == c.epoch) refl
    where
      go : (b : Bool) → (epoch == c.epoch + 1) ≡ b → (s : Bool) → (c.swept == c.epoch) ≡ s
          → (cond (b && s) (advanced (entered epoch (to c))) (only Refused (to c))).catalogue ≡ to (cond (b && s) (fold.advanced shape.shards (fold.enter_epoch shape.shards c)) c)
      go false e s t = refl
      go true e false t = refl
      go true e true t =
          let is : epoch ≡ c.epoch + 1 = (Decides-eqb epoch (c.epoch + 1)).0 e in
          let swept : c.swept ≡ c.epoch = (Decides-eqb c.swept c.epoch).0 t in
          let first : (entered epoch (to c)).catalogue ≡ to (fold.enter_epoch shape.shards c) = ap (λ n. enter_epoch n (to c)) is ∙ enter_alike c swept in
          ap (λ k. (advanced (applied k (entered epoch (to c)).effect)).catalogue) first
          ∙ advance_alike (length (fold.enter_epoch shape.shards c).got + 1) (fold.enter_epoch shape.shards c) (enter-own at c own shape.shards) (entered epoch (to c)).effect

  due_alike : (c : Folded) (place : Place) → is_due place (to c) ≡ fold.is_due c place.epoch place.round
  due_alike c place = go (fold.is_running c)
    where
      go : (r : Bool) → (option_map_or (λ (o : ℕ × ℕ). place.epoch == o.0 && (place.round == o.1 || place.round == o.1 + 1)) (cond r (Some (c.epoch, c.round)) None) false || place.epoch == c.epoch + 1 && place.round == 0)
          ≡ (r && (place.epoch == c.epoch && (place.round == c.round || place.round == c.round + 1)) || place.epoch == c.epoch + 1 && place.round == 0)
      go true = refl
      go false = refl

  pub got_alike : (c : Folded) → IsOwn shape.shards shard c → (place : Place) (told : RoundBody) → (get_round place told (to c)).catalogue ≡ to (fold.get_round shape.shards place told c)
  got_alike c own place told = go (fold.is_accepted shape.shards c place) refl
    where
      same : is_accepted place (to c) ≡ fold.is_accepted shape.shards c place
      same = ap (λ (due : Bool). nat_lt place.from shape.shards && (is_none (body_at place c.got) && due)) (due_alike c place)

      go : (b : Bool) → fold.is_accepted shape.shards c place ≡ b
          → (cond (is_accepted place (to c)) (advanced (only Nothing (log_got place told (to c)))) (only Nothing (to c))).catalogue ≡ to (cond b (fold.advanced shape.shards (fold.log_got place told c)) c)
      go false e = ap (λ b. (cond b (advanced (only Nothing (log_got place told (to c)))) (only Nothing (to c))).catalogue) (same ∙ e)
      go true e =
          let logged : log_got place told (to c) ≡ to (fold.log_got place told c) = ap (λ run. record (to c) { run = run }) (sym (run-got shape shard c place told e)) in
          ap (λ b. (cond b (advanced (only Nothing (log_got place told (to c)))) (only Nothing (to c))).catalogue) (same ∙ e)
          ∙ ap (λ k. (advanced (only Nothing k)).catalogue) logged
          ∙ advance_alike (length (fold.log_got place told c).got + 1) (fold.log_got place told c) (record { mine = own.mine; once = own.once }) (only Nothing (to c)).effect
