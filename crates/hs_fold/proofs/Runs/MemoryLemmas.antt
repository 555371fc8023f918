-- A shard's run as it is kept in memory goes as its fold does.
use Rattle.std.proofs.Common.{◌≡◌, ℕ, ◌+◌, ◌==◌, ◌&&◌, ◌||◌, Bool, true, false, cond, Option, Some, None, is_none, nat_lt, refl, sym, ap, ◌∙◌, arith}
use Rattle.std.proofs.lemmas.Bool.{and_parts}
use Rattle.std.proofs.lemmas.Bool.Decides.{nat_tests}
use Rattle.std.specs.BTreeMap.{insert_entry}
use Rattle.std.specs.Option.{option_map_or}
use Rattle.hs_limits.specs.declared.shape.Shape.{Shape}
use Rattle.hs_rounds.specs.declared.body.RoundBody.{RoundBody}
use Rattle.hs_rounds.specs.declared.place.Place.{Place}
use Rattle.hs_rounds.specs.Rounds.{Run, place_cmp, body_at, have_told, is_before, is_past, is_kept, got, go_on, finish, complete, received}
use Rattle.hs_rounds.specs.Rounds.{enter as enter_run, is_last as is_last_run}
use Rattle.hs_fold.specs.Runs.Facts.{Catalogue}
use Rattle.hs_fold.specs.Runs.Rounds.{first_deltas, next_total, next_deltas, is_running, is_due, is_accepted, is_complete, is_last, open_deltas, enter_epoch, search, sweep, log_got, run_of}

module _ (shape : Shape) (shard : ℕ) (c : Catalogue) where
  abbrev run : Run
  run = run_of shape shard c

  -- the run with this round open
  abbrev opened : Option (ℕ × ℕ) → Run
  opened at = record run { opened = at }

  pub run-enter : c.swept ≡ c.epoch → run_of shape shard (enter_epoch shape.shards c) ≡ enter_run (c.epoch + 1) (first_deltas (c.epoch + 1) c) run
  run-enter swept =
      let running : nat_lt c.swept (c.epoch + 1) ≡ true = grind (arith, nat_tests, swept) in
      ap (λ b. record (run_of shape shard (enter_epoch shape.shards c)) { opened = cond b (Some (c.epoch + 1, 0)) None }) running

  module _ (running : is_running c ≡ true) where
    is-open : run ≡ opened (Some (c.epoch, c.round))
    is-open = ap (λ b. opened (cond b (Some (c.epoch, c.round)) None)) running

    pub run-complete : complete run ≡ is_complete shape.shards c
    run-complete = ap complete is-open ∙ sym (ap (λ b. b && have_told shape.shards c.epoch c.round c.got) running)

    pub run-last : is_last_run run ≡ is_last shape.shards c
    run-last = ap is_last_run is-open

    pub run-received : received run ≡ open_deltas shape.shards c
    run-received = ap received is-open

    pub run-search : run_of shape shard (search shape.shards c) ≡ go_on (next_total c) (next_deltas c) run
    run-search = ap (λ b. record (run_of shape shard (search shape.shards c)) { opened = cond b (Some (c.epoch, c.round + 1)) None }) running ∙ sym (ap (λ (r : Run). go_on (next_total c) (next_deltas c) r) is-open)

    pub run-sweep : run_of shape shard (sweep c) ≡ finish run
    run-sweep =
        let done : nat_lt c.epoch c.epoch ≡ false = grind (arith, nat_tests) in
        ap (λ b. record (run_of shape shard (sweep c)) { opened = cond b (Some (c.epoch, 0)) None }) done ∙ sym (ap (λ (r : Run). finish r) is-open)

  -- a Got that is taken is kept
  not-past : (place : Place) → is_due c place.epoch place.round ≡ true → is_past place run ≡ false
  not-past place due = go (is_running c) refl due
    where
      go : (b : Bool) → is_running c ≡ b → (b && (place.epoch == c.epoch && (place.round == c.round || place.round == c.round + 1)) || place.epoch == c.epoch + 1 && place.round == 0) ≡ true
          → option_map_or (λ (at : ℕ × ℕ). is_before at.0 at.1 place) (cond b (Some (c.epoch, c.round)) None) false ≡ false
      go false e h = refl
      go true e h = grind (arith, nat_tests, h)

  pub run-got : (place : Place) (told : RoundBody) → is_accepted shape.shards c place ≡ true → run_of shape shard (log_got place told c) ≡ got place told run
  run-got place told accepted =
      let parts = and_parts (nat_lt place.from shape.shards) (is_none (body_at place c.got) && is_due c place.epoch place.round) accepted in
      let rest = and_parts (is_none (body_at place c.got)) (is_due c place.epoch place.round) parts.1 in
      let past = not-past place rest.1 in
      let kept : is_kept place run ≡ true = rw (parts.0, past, rest.0) refl in
      sym (ap (λ b. cond b (record run { gots = insert_entry place_cmp c.got place told }) run) kept)
