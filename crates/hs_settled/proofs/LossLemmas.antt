-- Why a shard is lost, with any number of copies: none of its peers is good, each since its last turn.
use Rattle.std.proofs.Common.{◌≡◌, inl, inr, ◌∙◌, ap, sym, subst, ℕ, zero, suc, ◌+◌, ◌*◌, ◌<◌, ◌≤◌, ◌++◌, Bool, true, false, List, [], ◌∷◌, Option, Some, None, refl, arith, length, map, append-nil}
use Rattle.std.proofs.lemmas.Bool.{cases_eq}
use Rattle.std.proofs.lemmas.List.{append_assoc}
use Rattle.std.proofs.lemmas.List.FromFn.{get_or-map-range_with_len}
use Rattle.std.specs.Prelude.{if◌then◌else◌, slice_index_or}
use Rattle.hs_settled.proofs.CausesFirstLemmas.{members_first}
use Rattle.hs_settled.proofs.CausesGoodLemmas.{last_opened, no_events}
use Rattle.hs_settled.proofs.CausesListLemmas.{not_both}
use Rattle.hs_settled.proofs.CausesRunLemmas.{all_ask_so, all_come_so, last_is, last_kept, mute, opened_kept}
use Rattle.hs_settled.proofs.JoiningLemmas.{joins_cause}
use Rattle.hs_settled.proofs.LostLemmas.{FallsLast, Loss, falls_last, fell_loss, first_loss, is_lost, lost_within, none_good_in}
use Rattle.hs_settled.proofs.SeatLemmas.{FallsBy}
use Rattle.hs_settled.proofs.StartedLemmas.{NeverStarts, down_cause, down_never, stays_last, then_ask, then_come, there_kept}
use Rattle.hs_settled.specs.Opened.{OpensRanked}
use Rattle.hs_copies.specs.Lists.{Item}
use Rattle.hs_copies.specs.Stamps.{ToldRises, view_told}
use Rattle.hs_core_copies.specs.Opening.{MayOpen}
use Rattle.hs_core_words.specs.Looking.{shape_of, status_of}
use Rattle.hs_core_words.specs.State.{Core}
use Rattle.hs_core_words.specs.Step.{step}
use Rattle.hs_desk.specs.declared.fault.CoreFault.{CoreFault}
use Rattle.hs_desk.specs.declared.fault.CoreFault.TheVariants as fault
use Rattle.hs_entry.specs.declared.entry.Entry.{Entry}
use Rattle.hs_entry.specs.declared.entry.Entry.TheVariants as kind
use Rattle.hs_entry.specs.Entries.{rank_of}
use Rattle.hs_events.proofs.RunLemmas.{steps_append}
use Rattle.hs_events.specs.Course.{steps}
use Rattle.hs_events.specs.Due.{Events}
use Rattle.hs_events.specs.Found.{Found, first_core, opened_list, opens_with}
use Rattle.hs_events.specs.Taken.{peer_count}
use Rattle.hs_fold.specs.Shards.Setting.{Setting}
use Rattle.hs_joint.proofs.HistoryLemmas.{shape_some}
use Rattle.hs_limits.specs.declared.limits.PeerStatus.{PeerStatus}
use Rattle.hs_limits.specs.declared.limits.PeerStatus.TheVariants.{Down, Good}
use Rattle.hs_limits.specs.declared.shape.Shape.{Shape}
use Rattle.hs_limits.specs.Shape.{peer_of}
use Rattle.hs_members.specs.Members.{Members, is_good_status, status}
use Rattle.hs_promise.specs.Lost.{LostCause, NotGood}
use Rattle.hs_promise.specs.Machine.{Went}
use Rattle.hs_promise.specs.Run.{Ran, Script}
use Rattle.hs_promise.specs.Story.{Story, last_core}
use Rattle.hs_quiet.proofs.LastLemmas.{last_turn}
use Rattle.hs_quiet.proofs.OpeningLemmas.{opened_all, opened_up}
use Rattle.hs_quiet.specs.Keeping.{AreInStep, KeepsUp}
use Rattle.hs_quiet.specs.Turning.{LastTurn, StaysAs, TurnsTo}
use Rattle.hs_quiet.specs.Turning.TurnsTo.{ByDisk, ByFail, ByJoin, ByStart}
use Rattle.hs_replica.specs.Group.{view_after}
use Rattle.hs_standing.specs.Script.{all_events}

-- ---- the machine with which a core opens: of a list it needs the rank alone

abbrev ranked_log : ℕ → ℕ → List (Item Entry)
ranked_log view zero = []
ranked_log view (suc n) = record { view = view; what = kind.View view } ∷ ranked_log view n

log_rises : (view n from : ℕ) → from ≤ view → ToldRises view_after from (ranked_log view n)
log_rises view zero from low = tt
log_rises view (suc n) from low = (low, log_rises view n view (omega arith))

log_tells : (view n : ℕ) → view_told view_after view (ranked_log view n) ≡ view
log_tells view zero = refl
log_tells view (suc n) = log_tells view n

log_view : (view n : ℕ) → (n ≡ 0 → view ≡ 0) → view_told view_after 0 (ranked_log view n) ≡ view
log_view view zero blank = sym (blank refl)
log_view view (suc n) blank = log_tells view n

log_long : (view n : ℕ) → length (ranked_log view n) ≡ n
log_long view zero = refl
log_long view (suc n) = ap suc (log_long view n)

module _ (set : Setting) (found : Found) (count : length found.good ≡ peer_count set.shape) (opens : OpensRanked set found) where
  pub logs : (g : ℕ) → g < set.shape.shards → (log : List (Item Entry)) × MayOpen set.shape (opens_with set found) g log
  logs g low =
      let view : ℕ = (rank_of (opened_list set found g)).view in
      let number : ℕ = (rank_of (opened_list set found g)).number in (
        ranked_log view number,
        record {
          fits = opens.shape;
          count = count;
          here = low;
          log_is = record {
            ascends = log_rises view number 0 (omega arith);
            view = log_view view number (opens.blank g low) ∙ sym (get_or-map-range_with_len (λ shard. (rank_of (opened_list set found shard)).view) 0 set.shape.shards g g 0 low (omega arith));
            long = log_long view number ∙ sym (get_or-map-range_with_len (λ shard. (rank_of (opened_list set found shard)).number) 0 set.shape.shards g g 0 low (omega arith));
          };
        },
      )

  pub first_tuned : (first_core set found).ended ≡ None → AreInStep (first_core set found)
  first_tuned on = opened_all set.shape set.limits (opens_with set found) found.opened (shape_some set.shape opens.shape) logs on

  pub first_up : KeepsUp (first_core set found)
  first_up = opened_up set.shape set.limits (opens_with set found) found.opened

-- ---- statuses as a core opens

abbrev as_told : Bool → PeerStatus
as_told b = if b then Good else Down

told_down : (goods : List Bool) (p : ℕ) → is_good_status (slice_index_or (map as_told goods) p Down) ≡ false → slice_index_or (map as_told goods) p Down ≡ Down
told_down [] p bad = refl
told_down (true ∷ goods) zero bad = absurd (not_both bad)
told_down (false ∷ goods) zero bad = refl
told_down (b ∷ goods) (suc p) bad = told_down goods p bad

rows : (n k w : ℕ) → k < n → k * w + w ≤ n * w
rows n k w low = grind (arith, low)

none_here : {X : Type 0} (xs : List X) (x : X) (ys : List X) → [] ≡ xs ++ x ∷ ys → ⊥
none_here [] x ys e = cc e
none_here (z ∷ xs) x ys e = cc e

-- ---- a run

module _ (S : Script) (r : Ran) (story : Story) (went : Went S r story) (g : ℕ) (over : (last_core S story).ended ≡ Some (fault.ShardLost g)) where
  abbrev opened : Core
  opened = first_core S.set story.found

  abbrev all : Events
  all = story.opening ++ all_events story.lines

  ended_is : (steps opened all).ended ≡ Some (fault.ShardLost g)
  ended_is = ap (λ (c : Core). c.ended) (sym (last_is S r story went)) ∙ over

  none_starts : (p : ℕ) (before : Events) → NeverStarts S r story went g over p (steps (first_core S.set story.found) before) []
  none_starts p before mid e rest line parts own free = none_here mid e rest parts

  module _ (copy : ℕ) (low : copy < S.set.shape.copies) where
    abbrev p : ℕ
    p = peer_of S.set.shape g copy

    p_low : p < S.set.shape.shards * S.set.shape.copies
    p_low = let row : g * S.set.shape.copies + S.set.shape.copies ≤ S.set.shape.shards * S.set.shape.copies = rows S.set.shape.shards g S.set.shape.copies (lost_within S r story went g over) in omega (arith, row, low)

    bad : is_good_status (status_of p (last_core S story)) ≡ false
    bad =
        let shape : shape_of (last_core S story) ≡ S.set.shape = (last_kept S r story went).shaped in
        subst (λ (z : Shape). is_good_status (status_of (peer_of z g copy) (last_core S story)) ≡ false) shape
        (none_good_in (last_core S story) g (is_lost S r story went g over) copy (subst (λ (z : Shape). copy < z.copies) (sym shape) low))

    -- ---- it was lost as the core opened

    at_once : (f : CoreFault) → opened.ended ≡ Some f → NotGood S r p
    at_once f is =
        down_cause S r story went g over p [] [] (no_events S r story went f is) (none_starts p [])
        (first_loss S r story went p p_low (ap (λ (c : Core). is_good_status (status_of p c)) (sym (last_opened S r story went f is)) ∙ bad))

    -- ---- its only peer fell

    alone : S.set.shape.copies ≡ 1 → opened.ended ≡ None → NotGood S r p
    alone one going = subst (λ q. NotGood S r q) (sym peer_is)
        (down_cause S r story went g over g (f.before ++ f.last ∷ []) [] (f.is ∙ sym (append-nil (f.before ++ f.last ∷ []))) (none_starts g (f.before ++ f.last ∷ []))
        (subst (λ (c : Core). Loss (mute S.commands) g c) (sym (steps_append opened f.before (f.last ∷ [])))
        (fell_loss (mute S.commands) S.set.shape S.set.limits (steps opened f.before) (there_kept S r story went f.before (f.last ∷ []) f.is) (then_ask S r story went f.before (f.last ∷ []) f.is).0.0 f.last.0 f.last.1
        ((then_come S r story went f.before (f.last ∷ []) f.is).0 (then_ask S r story went f.before (f.last ∷ []) f.is).0.0) (then_ask S r story went f.before (f.last ∷ []) f.is).0.1 g f.falls)))
      where
        peer_is : p ≡ g
        peer_is = ap (λ k. g * k + copy) one ∙ omega (arith, low, one)

        f : FallsLast g all
        f = falls_last (mute S.commands) S.set.shape S.set.limits one opened all (opened_kept S r story went) (all_come_so S r story went) (all_ask_so S r story went) g going ended_is

    -- ---- it turned last

    module _ (tuned : AreInStep (first_core S.set story.found)) where
      -- not at all
      never_turned : StaysAs p (status_of p opened) opened all → NotGood S r p
      never_turned stays = down_cause S r story went g over p [] all refl (down_never S r story went g over p [] all refl (subst (λ k. StaysAs p k opened all) down stays)) (first_loss S r story went p p_low first_bad)
        where
          first_bad : is_good_status (status_of p opened) ≡ false
          first_bad = ap is_good_status (sym (stays_last p (status_of p opened) all opened stays)) ∙ ap (λ (c : Core). is_good_status (status_of p c)) (sym (last_is S r story went)) ∙ bad

          down : status_of p opened ≡ Down
          down =
              let members = members_first S.set.shape S.set.limits (opens_with S.set story.found) story.found.opened went.found.goods in
              ap (λ (m : Members). status p m) members ∙ told_down story.found.good p (ap (λ (m : Members). is_good_status (status p m)) (sym members) ∙ first_bad)

      module _ (t : LastTurn p (first_core S.set story.found) (story.opening ++ all_events story.lines)) where
        abbrev there : Core
        there = steps (first_core S.set story.found) t.before

        behind_is : steps opened (t.before ++ t.turn ∷ []) ≡ step t.turn.0 t.turn.1 there
        behind_is = steps_append opened t.before (t.turn ∷ [])

        parts : all ≡ (t.before ++ t.turn ∷ []) ++ t.after
        parts = t.is ∙ sym (append_assoc t.before (t.turn ∷ []) t.after)

        fell : FallsBy t.turn.0 p → StaysAs p Down (step t.turn.0 t.turn.1 there) t.after → NotGood S r p
        fell falls stays =
            down_cause S r story went g over p (t.before ++ t.turn ∷ []) t.after parts
            (down_never S r story went g over p (t.before ++ t.turn ∷ []) t.after parts (subst (λ (c : Core). StaysAs p Down c t.after) (sym behind_is) stays))
            (subst (λ (c : Core). Loss (mute S.commands) p c) (sym behind_is)
            (fell_loss (mute S.commands) S.set.shape S.set.limits there (there_kept S r story went t.before (t.turn ∷ t.after) t.is) (then_ask S r story went t.before (t.turn ∷ t.after) t.is).0.0 t.turn.0 t.turn.1
            ((then_come S r story went t.before (t.turn ∷ t.after) t.is).0 (then_ask S r story went t.before (t.turn ∷ t.after) t.is).0.0) (then_ask S r story went t.before (t.turn ∷ t.after) t.is).0.1 p falls))

        last_status : (k : PeerStatus) → StaysAs p k (step t.turn.0 t.turn.1 there) t.after → status_of p (last_core S story) ≡ k
        last_status k stays =
            ap (λ (c : Core). status_of p c) (last_is S r story went ∙ ap (λ xs. steps opened xs) t.is ∙ steps_append opened t.before (t.turn ∷ t.after))
            ∙ stays_last p k t.after (step t.turn.0 t.turn.1 there) stays

        by_turn : (k : PeerStatus) → TurnsTo p there t.turn.0 k → StaysAs p k (step t.turn.0 t.turn.1 there) t.after → NotGood S r p
        by_turn k (ByFail line is free) stays = fell (subst (λ e. FallsBy e p) (sym is) refl) stays
        by_turn k (ByDisk by is answers) stays = fell (subst (λ e. FallsBy e p) (sym is) refl) stays
        by_turn k (ByStart line is free) stays =
            joins_cause S r story went g over p line t.before t.turn t.after t.is is free stays tuned (first_up_here)
          where
            first_up_here : KeepsUp (first_core S.set story.found)
            first_up_here = opened_up S.set.shape S.set.limits (opens_with S.set story.found) story.found.opened
        by_turn k (ByJoin did is joins) stays = absurd (not_both (sym (ap is_good_status (last_status Good stays)) ∙ bad))

        turned : NotGood S r p
        turned = by_turn t.now t.turns t.stays

      many : NotGood S r p
      many = elim (last_turn p all opened (λ on. tuned)) [
        | inl stays ↦ never_turned stays
        | inr t ↦ turned t
      ]

    not_good : ((S.set.shape.copies ≡ 1 → ⊥) → OpensRanked S.set story.found) → NotGood S r p
    not_good ranked = by_end opened.ended refl
      where
        by_end : (o : Option CoreFault) → opened.ended ≡ o → NotGood S r p
        by_end (Some f) is = at_once f is
        by_end None on = elim (cases_eq S.set.shape.copies 1) [
          | inl one ↦ alone one on
          | inr several ↦ many (first_tuned S.set story.found went.found.goods (ranked several) on)
        ]

  pub lost_cause : ((S.set.shape.copies ≡ 1 → ⊥) → OpensRanked S.set story.found) → LostCause S r g
  lost_cause ranked = record { within = lost_within S r story went g over; each = λ copy low. not_good copy low ranked }
