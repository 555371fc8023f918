-- What a Got or an Enter ends in memory: no run, or one run, and then the effect tells how many blocks went.
use Rattle.std.proofs.Common.{◌≡◌, ◌∙◌, sym, ap, subst, ◌⊎◌, inl, inr, ℕ, zero, suc, ◌+◌, ◌<◌, Bool, true, false, cond, not, List, [], ◌∷◌, length, filter, Option, Some, None, refl, arith}
use Rattle.std.proofs.lemmas.Bool.{ltb-true}
use Rattle.std.proofs.lemmas.List.{length-map}
use Rattle.std.proofs.lemmas.List.Filters.{length-filter_both}
use Rattle.std.proofs.lemmas.List.Sums.{length-filter}
use Rattle.std.proofs.lemmas.Map.{length-set_value}
use Rattle.std.specs.BTreeMap.{insert_entry, is_at}
use Rattle.std.specs.Option.{option_map, option_map_or}
use Rattle.hs_fold.specs.Runs.Facts.{Catalogue as Folded}
use Rattle.hs_fold.specs.Runs.Rounds.{is_running}
use Rattle.hs_limits.specs.declared.address.Address.{Address}
use Rattle.hs_limits.specs.declared.delta.Delta.{Delta}
use Rattle.hs_limits.specs.declared.shape.Shape.{Shape}
use Rattle.hs_memory.specs.Forget.{forget}
use Rattle.hs_model.specs.Store.{address_cmp}
use Rattle.hs_rounds.specs.declared.body.RoundBody.{RoundBody}
use Rattle.hs_rounds.specs.declared.place.Place.{Place}
use Rattle.hs_rounds.specs.Rounds.{Run, complete, finish, go_on, got, have_told, is_kept, is_last, place_cmp, received}
use Rattle.hs_shard.specs.Clients.{Applied, change_at, only, put_facts}
use Rattle.hs_shard.specs.declared.facts.Facts.{Facts}
use Rattle.hs_desk.specs.declared.what.What.TheVariants as what
use Rattle.hs_shard.specs.Facts.{BlockList, Catalogue, facts_in}
use Rattle.hs_shard.specs.Rounds.{advance, advanced, each_block, end_open, enter, entered, find_zero, get_round, gone_count, is_accepted, is_gone, log_got, may_enter, move_count, next_deltas, next_total, searched, settle, settled, spare, sweep_blocks, swept}

-- ---- blocks

pub length_each : (f : Facts → Facts) (blocks : BlockList) → length (each_block f blocks) ≡ length blocks
length_each f blocks = length-map blocks (λ (e : Address × Facts). (e.0, f e.1))

pub length_put : (a : Address) (f : Option Facts) (blocks : BlockList) → length (put_facts a f blocks) ≡ length blocks
length_put a None blocks = refl
length_put a (Some f) blocks = length-set_value (is_at (address_cmp a)) blocks f

pub length_settle : (round : ℕ) (ds : List Delta) (blocks : BlockList) → length (settle round ds blocks) ≡ length blocks
length_settle round [] blocks = refl
length_settle round (d ∷ ds) blocks =
    length_settle round ds (change_at d.address (move_count round d.amount) blocks)
    ∙ length_put d.address (option_map (move_count round d.amount) (facts_in d.address blocks)) blocks

pub gone_and_left : (epoch : ℕ) (blocks : BlockList) → gone_count epoch blocks + length (sweep_blocks epoch blocks) ≡ length blocks
gone_and_left epoch blocks =
    let left : List (Address × Facts) = filter (λ (e : Address × Facts). not (is_gone epoch e.1)) blocks in
    let gone : length (filter (λ (e : Address × Facts). is_gone epoch e.1) blocks) ≡ gone_count epoch blocks = length-filter (λ (e : Address × Facts). is_gone epoch e.1) blocks in
    let both = length-filter_both (λ (e : Address × Facts). is_gone epoch e.1) (λ (e : Address × Facts). not (is_gone epoch e.1)) (λ e. refl) blocks in
    let kept : length (sweep_blocks epoch blocks) ≡ length left = length_each spare left in
    omega (arith, gone, both, kept)

-- ---- the open round

finish_closed : (run : Run) → (finish run).opened ≡ None
finish_closed run = go run.opened
  where
    go : (o : Option (ℕ × ℕ)) → (finish (record run { opened = o })).opened ≡ None
    go None = refl
    go (Some at) = refl

went_on : (run : Run) (total : ℕ) (deltas : List Delta) (at : ℕ × ℕ) → run.opened ≡ Some at → (go_on total deltas run).opened ≡ Some (at.0, at.1 + 1)
went_on run total deltas at e = subst (λ (o : Option (ℕ × ℕ)). (go_on total deltas (record run { opened = o })).opened ≡ Some (at.0, at.1 + 1)) (sym e) refl

same_opened : (place : Place) (told : RoundBody) (run : Run) → (got place told run).opened ≡ run.opened
same_opened place told run = go (is_kept place run)
  where
    go : (b : Bool) → (cond b (record run { gots = insert_entry place_cmp run.gots place told }) run).opened ≡ run.opened
    go true = refl
    go false = refl

-- an open round is of an epoch that is not swept
abbrev pub OpensAbove : Catalogue → Type 0
OpensAbove c = (at : ℕ × ℕ) → c.run.opened ≡ Some at → c.swept < at.0

-- ---- what is ended

pub record IsSteady (a r : Applied) : Type 0 where
  pub removed : r.effect.removed ≡ a.effect.removed
  pub swept : r.catalogue.swept ≡ a.catalogue.swept

pub record HasRemoved (a r : Applied) : Type 0 where
  pub count : ℕ
  pub removed : r.effect.removed ≡ Some count
  pub blocks : count + length r.catalogue.blocks ≡ length a.catalogue.blocks
  pub risen : a.catalogue.swept < r.catalogue.swept

closed_stays : (turns : ℕ) (a : Applied) → a.catalogue.run.opened ≡ None → advance turns a ≡ a
closed_stays zero a e = refl
closed_stays (suc turns) a e =
    let run : Run = a.catalogue.run in
    let never : complete run ≡ false = ap (λ (o : Option (ℕ × ℕ)). option_map_or (λ (at : ℕ × ℕ). have_told run.shape.shards at.0 at.1 run.gots) o false) e in
    ap (λ b. cond b (advance turns (end_open a.catalogue.run.opened a)) a) never

sweep_removes : (at : ℕ × ℕ) (a : Applied) → a.catalogue.swept < at.0 → HasRemoved a (swept at.0 a.effect (settled at.1 a.catalogue))
sweep_removes at a above = record {
  count = gone_count at.0 (settled at.1 a.catalogue).blocks;
  removed = refl;
  blocks = gone_and_left at.0 (settled at.1 a.catalogue).blocks ∙ length_settle at.1 (received a.catalogue.run) a.catalogue.blocks;
  risen = above;
}

pub length_searched : (at : ℕ × ℕ) (a : Applied) → length (searched at.0 at.1 a.effect (settled at.1 a.catalogue)).catalogue.blocks ≡ length a.catalogue.blocks
length_searched at a = length_each (find_zero at.0) (settled at.1 a.catalogue).blocks ∙ length_settle at.1 (received a.catalogue.run) a.catalogue.blocks

-- rounds end, and with them no run, or one
abbrev Ends : Applied → Applied → Type 0
Ends a r = IsSteady a r ⊎ HasRemoved a r

module _ (turns : ℕ) (ih : (b : Applied) → OpensAbove b.catalogue → Ends b (advance turns b)) (a : Applied) (above : OpensAbove a.catalogue) where
  abbrev sweeping : ℕ × ℕ → Applied
  sweeping at = swept at.0 a.effect (settled at.1 a.catalogue)

  abbrev searching : ℕ × ℕ → Applied
  searching at = searched at.0 at.1 a.effect (settled at.1 a.catalogue)

  searches : (at : ℕ × ℕ) → a.catalogue.run.opened ≡ Some at → Ends a (advance turns (searching at))
  searches at e = from (ih (searching at) on)
    where
      on : OpensAbove (searching at).catalogue
      on at' e' =
          let opened : Some at' ≡ Some (at.0, at.1 + 1) = sym e' ∙ went_on a.catalogue.run (next_total at.0 at.1 (settled at.1 a.catalogue)) (next_deltas at.0 at.1 (settled at.1 a.catalogue)) at e in
          let first : at'.0 ≡ at.0 = ap (λ (o : Option (ℕ × ℕ)). option_map_or (λ (x : ℕ × ℕ). x.0) o 0) opened in
          subst (λ k. a.catalogue.swept < k) (sym first) (above at e)

      from : Ends (searching at) (advance turns (searching at)) → Ends a (advance turns (searching at))
      from (inl s) = inl (record { removed = s.removed; swept = s.swept })
      from (inr h) = inr (record { count = h.count; removed = h.removed; blocks = h.blocks ∙ length_searched at a; risen = h.risen })

  sweeps : (at : ℕ × ℕ) → a.catalogue.run.opened ≡ Some at → Ends a (advance turns (sweeping at))
  sweeps at e = inr (subst (λ r. HasRemoved a r) (sym (closed_stays turns (sweeping at) (finish_closed a.catalogue.run))) (sweep_removes at a (above at e)))

  by_last : (at : ℕ × ℕ) → a.catalogue.run.opened ≡ Some at → (last : Bool) → Ends a (advance turns (cond last (sweeping at) (searching at)))
  by_last at e true = sweeps at e
  by_last at e false = searches at e

  by_opened : (o : Option (ℕ × ℕ)) → a.catalogue.run.opened ≡ o → Ends a (advance turns (end_open o a))
  by_opened None e = ih a above
  by_opened (Some at) e = by_last at e (is_last a.catalogue.run)

  by_complete : (b : Bool) → Ends a (cond b (advance turns (end_open a.catalogue.run.opened a)) a)
  by_complete true = by_opened a.catalogue.run.opened refl
  by_complete false = inl (record { removed = refl; swept = refl })

advance_ends : (turns : ℕ) (a : Applied) → OpensAbove a.catalogue → Ends a (advance turns a)
advance_ends zero a above = inl (record { removed = refl; swept = refl })
advance_ends (suc turns) a above = by_complete turns (advance_ends turns) a above (complete a.catalogue.run)

-- ---- a Got

pub got_ends : (place : Place) (told : RoundBody) (c : Catalogue) → OpensAbove c → IsSteady (only what.Nothing c) (get_round place told c) ⊎ HasRemoved (only what.Nothing c) (get_round place told c)
got_ends place told c above = go (is_accepted place c)
  where
    logged : Applied
    logged = only what.Nothing (log_got place told c)

    on : OpensAbove (log_got place told c)
    on at e = above at (sym (same_opened place told c.run) ∙ e)

    from : Ends logged (advanced logged) → Ends (only what.Nothing c) (advanced logged)
    from (inl s) = inl (record { removed = s.removed; swept = s.swept })
    from (inr h) = inr (record { count = h.count; removed = h.removed; blocks = h.blocks; risen = h.risen })

    go : (b : Bool) → Ends (only what.Nothing c) (cond b (advanced logged) (only what.Nothing c))
    go true = from (advance_ends (length (log_got place told c).run.gots + 1) logged on)
    go false = inl (record { removed = refl; swept = refl })

-- what memory has of a fold opens above what is swept
pub forget_opens : (shape : Shape) (shard : ℕ) (c : Folded) → OpensAbove (forget shape shard c)
forget_opens shape shard c at e = go (is_running c) refl e
  where
    go : (b : Bool) → is_running c ≡ b → cond b (Some (c.epoch, c.round)) None ≡ Some at → c.swept < at.0
    go false r e = absurd (cc e)
    go true r e = subst (λ k. c.swept < k) (ap (λ (o : Option (ℕ × ℕ)). option_map_or (λ (x : ℕ × ℕ). x.0) o 0) e) (ltb-true c.swept c.epoch r)

-- ---- an Enter

module _ (turns : ℕ) (ih : (b : Applied) → (advance turns b).effect.what ≡ b.effect.what) (a : Applied) where
  did_last : (at : ℕ × ℕ) (last : Bool) → (advance turns (cond last (swept at.0 a.effect (settled at.1 a.catalogue)) (searched at.0 at.1 a.effect (settled at.1 a.catalogue)))).effect.what ≡ a.effect.what
  did_last at true = ih (swept at.0 a.effect (settled at.1 a.catalogue))
  did_last at false = ih (searched at.0 at.1 a.effect (settled at.1 a.catalogue))

  did_opened : (o : Option (ℕ × ℕ)) → (advance turns (end_open o a)).effect.what ≡ a.effect.what
  did_opened None = ih a
  did_opened (Some at) = did_last at (is_last a.catalogue.run)

  did_complete : (b : Bool) → (cond b (advance turns (end_open a.catalogue.run.opened a)) a).effect.what ≡ a.effect.what
  did_complete true = did_opened a.catalogue.run.opened
  did_complete false = refl

advance_did : (turns : ℕ) (a : Applied) → (advance turns a).effect.what ≡ a.effect.what
advance_did zero a = refl
advance_did (suc turns) a = did_complete turns (advance_did turns) a (complete a.catalogue.run)

pub enter_did : (epoch : ℕ) (c : Catalogue) → (enter epoch c).effect.what ≡ cond (may_enter epoch c) (what.Entered epoch) what.Refused
enter_did epoch c = go (may_enter epoch c)
  where
    go : (b : Bool) → (cond b (advanced (entered epoch c)) (only what.Refused c)).effect.what ≡ cond b (what.Entered epoch) what.Refused
    go true = advance_did (length (entered epoch c).catalogue.run.gots + 1) (entered epoch c)
    go false = refl
