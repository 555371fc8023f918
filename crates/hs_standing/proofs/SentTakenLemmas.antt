-- Behind an entry that takes effect what waits was sent, and would be accepted still; and so what it sends.
use Rattle.std.proofs.Common.{◌≡◌, ◌∙◌, sym, ap, subst, ◌⊎◌, inl, inr, ℕ, suc, ◌+◌, ◌<◌, Bool, true, false, cond, List, [], ◌∷◌, ◌++◌, length, Some, refl, arith, slice_get, nat_lt}
use Rattle.std.proofs.lemmas.Bool.{and_parts}
use Rattle.std.proofs.lemmas.List.Elements.{All-weaker}
use Rattle.std.specs.Map.{values_of}
use Rattle.hs_answered.specs.Standing.{IsFolded}
use Rattle.hs_core_words.specs.Changing.{change_group}
use Rattle.hs_core_words.specs.Effects.{round_messages}
use Rattle.hs_core_words.specs.Looking.{front_of, group_of, shape_of}
use Rattle.hs_core_words.specs.Pending.{named}
use Rattle.hs_core_words.specs.State.{Core}
use Rattle.hs_effects.specs.Lawful.{IsLawful}
use Rattle.hs_effects.specs.Taking.{done_by, next_deed, setting_of, taken}
use Rattle.hs_effects.proofs.EffectLemmas.{taken_here}
use Rattle.hs_effects.proofs.GroupLemmas.{IsFirst, at_front, committed_first}
use Rattle.hs_effects.proofs.LookLemmas.{one_or_other}
use Rattle.hs_entry.specs.declared.entry.Entry.{Entry}
use Rattle.hs_fold.specs.Lawful.{Deed}
use Rattle.hs_fold.specs.Runs.Facts.{Catalogue as Folded, empty_catalogue as empty_fold}
use Rattle.hs_fold.specs.Runs.Fits.{HasSent, catalogue_at}
use Rattle.hs_fold.specs.Runs.History.{applied, follow, follow_all, no_entries}
use Rattle.hs_fold.specs.Runs.Rounds.{is_accepted, is_complete, is_last, is_running, end_round, log_got, search, settled, sweep}
use Rattle.hs_fold.specs.Shards.Setting.{Setting, shard_in}
use Rattle.hs_fold.proofs.Shards.PlaceLemmas.{other-at, same-at}
use Rattle.hs_joint.proofs.EnterLemmas.{enter_open}
use Rattle.hs_joint.proofs.GotLemmas.{once}
use Rattle.hs_joint.proofs.HistoryLemmas.{GoesAll, history_goes, shape_few, shape_some}
use Rattle.hs_joint.proofs.StandLemmas.{IsStanding, own_here}
use Rattle.hs_limits.specs.declared.address.Address.{Address}
use Rattle.hs_model.proofs.Members.{Member, member_of_map}
use Rattle.hs_post.specs.declared.message.Message.{Message}
use Rattle.hs_post.specs.declared.message.Message.TheVariants as message
use Rattle.hs_replica.specs.Group.{Group, committed, new_group, take_committed}
use Rattle.hs_rounds.specs.declared.body.RoundBody.{RoundBody}
use Rattle.hs_rounds.specs.declared.place.Place.{Place}
use Rattle.hs_rounds.specs.Rounds.{from_round, have_told}
use Rattle.hs_shard.specs.declared.effect.Sent.{Sent}
use Rattle.hs_shard.specs.Apply.{apply}
use Rattle.hs_shard.specs.Facts.{Catalogue}
use Rattle.hs_waiting.proofs.GotStayLemmas.{GotWaits, got_waits}
use Rattle.hs_waiting.proofs.ListLemmas.{follow_append}
use Rattle.hs_standing.specs.Sent.{AreSent, HasGot, IsOfSent, WasSent, got_of}
use Rattle.hs_standing.proofs.AcceptLemmas.{Spares, entry_still}
use Rattle.hs_standing.proofs.LastLemmas.{none_later}
use Rattle.hs_standing.proofs.MemoryLemmas.{memory_of}
use Rattle.hs_standing.proofs.PoolLemmas.{all_sent}
use Rattle.hs_standing.proofs.SendLemmas.{AreKept, EndsOnce, entry_kept, second_false}
use Rattle.hs_standing.proofs.WasLemmas.{is_now, kept_now, was_more}

-- ---- what waits behind it

module _ (shard number : ℕ) (entry : Entry) (core : Core) (at_first : committed (group_of shard core) ≡ Some (number, entry)) where
  one : IsFirst (group_of shard core) number entry
  one = committed_first (group_of shard core) number entry at_first

  first_waits : slice_get (group_of shard core).waiting 0 ≡ Some entry
  first_waits = one.first

  -- what waits of its shard waited one place behind, and what waits of another one where it does
  waits_behind : (g at : ℕ) (e : Entry) → slice_get (group_of g (taken shard entry core)).waiting at ≡ Some e
      → ((g ≡ shard) × (slice_get (group_of shard core).waiting (suc at) ≡ Some e)) ⊎ ((g ≡ shard → ⊥) × (slice_get (group_of g core).waiting at ≡ Some e))
  waits_behind g at e there = by (one_or_other g shard)
    where
      by : (g ≡ shard) ⊎ (g ≡ shard → ⊥) → ((g ≡ shard) × (slice_get (group_of shard core).waiting (suc at) ≡ Some e)) ⊎ ((g ≡ shard → ⊥) × (slice_get (group_of g core).waiting at ≡ Some e))
      by (inl is) =
          let here : slice_get (group_of shard (change_group shard take_committed core)).waiting at ≡ Some e = subst (λ j. slice_get (group_of j (change_group shard take_committed core)).waiting at ≡ Some e) is there in
          inl (is, sym (at_front (group_of shard core).waiting at) ∙ sym (ap (λ es. slice_get es at) one.taken.waiting) ∙ sym (ap (λ (x : Group). slice_get x.waiting at) (taken_here shard number entry core at_first)) ∙ here)
      by (inr d) = inr (d, sym (ap (λ (x : Group). slice_get x.waiting at) (other-at (new_group (shape_of core) g 0 0 []) core.groups shard g (take_committed (group_of shard core)) d)) ∙ there)

-- ---- all of it, where the folds behind it are as they are

module _ (set : Setting) (history : List Deed) (shard number : ℕ) (entry : Entry) (core : Core) (at_first : committed (group_of shard core) ≡ Some (number, entry)) (s : AreSent set history core) where
  abbrev folds : List Folded
  folds = follow_all set (no_entries set) history

  abbrev deed : Deed
  deed = next_deed shard entry core

  abbrev next : Folded
  next = applied set folds deed

  abbrev longer : List Deed
  longer = history ++ deed ∷ []

  behind_is : follow_all set (no_entries set) longer ≡ follow set folds deed
  behind_is = follow_append set (no_entries set) history (deed ∷ [])

  more : (m : Message) → IsOfSent set history m → IsOfSent set longer m
  more (message.Copy g to view k e) w = tt
  more (message.Have g from to view sealed) w = tt
  more (message.Round from to epoch round total deltas) w = was_more set history deed to (record { epoch = epoch; round = round; from = from }) (record { total = total; deltas = deltas }) w

  module _ (within : shard < set.shape.shards) (low : shard < length folds) (kept : AreKept next.sent (done_by shard entry core).effect.sends)
      (still : (at : ℕ) (place : Place) (told : RoundBody) → HasGot core shard (suc at) place told → is_accepted set.shape.shards next place ≡ true) where
    next_at : catalogue_at (follow set folds deed) shard ≡ next
    next_at = same-at empty_fold folds shard next low

    sends_kept : (m : Message) → Member m (round_messages shard (done_by shard entry core).effect.sends) → IsOfSent set longer m
    sends_kept m k =
        let r = member_of_map (λ (x : Sent). message.Round shard x.to x.epoch x.round x.body.total x.body.deltas) m (done_by shard entry core).effect.sends k in
        let x : Sent = r.0 in
        let here : HasSent (catalogue_at (follow_all set (no_entries set) longer) shard).sent x.to x.epoch x.round x.body =
        subst (λ (cs : List Folded). HasSent (catalogue_at cs shard).sent x.to x.epoch x.round x.body) (sym behind_is)
        (subst (λ (c : Folded). HasSent c.sent x.to x.epoch x.round x.body) (sym next_at) (kept x r.1)) in
        subst (λ (y : Message). IsOfSent set longer y) (sym r.2) (is_now set longer x.to (record { epoch = x.epoch; round = x.round; from = shard }) x.body within here)

    gots_behind : (g at : ℕ) (place : Place) (told : RoundBody) → HasGot (taken shard entry core) g at place told → WasSent set longer g place told
    gots_behind g at place told there = elim (waits_behind shard number entry core at_first g at (got_of place told) there) [
      | inl h ↦ subst (λ j. WasSent set longer j place told) (sym h.0) (was_more set history deed shard place told (s.gots shard (suc at) place told h.1))
      | inr h ↦ was_more set history deed g place told (s.gots g at place told h.1)
    ]

    due_follow : (g at : ℕ) (place : Place) (told : RoundBody) → HasGot (taken shard entry core) g at place told → is_accepted set.shape.shards (catalogue_at (follow set folds deed) g) place ≡ true
    due_follow g at place told there = elim (waits_behind shard number entry core at_first g at (got_of place told) there) [
      | inl h ↦ subst (λ j. is_accepted set.shape.shards (catalogue_at (follow set folds deed) j) place ≡ true) (sym h.0)
          (subst (λ (c : Folded). is_accepted set.shape.shards c place ≡ true) (sym next_at) (still at place told h.1))
      | inr h ↦ subst (λ (c : Folded). is_accepted set.shape.shards c place ≡ true) (sym (other-at empty_fold folds shard g next h.0)) (s.due g at place told folds refl h.1)
    ]

    due_behind : (g at : ℕ) (place : Place) (told : RoundBody) (cs : List Folded) → follow_all set (no_entries set) longer ≡ cs → HasGot (taken shard entry core) g at place told → is_accepted set.shape.shards (catalogue_at cs g) place ≡ true
    due_behind g at place told cs gives there = subst (λ (x : List Folded). is_accepted set.shape.shards (catalogue_at x g) place ≡ true) (sym behind_is ∙ gives) (due_follow g at place told there)

    once_behind : (g p q : ℕ) (place : Place) (told other : RoundBody) → HasGot (taken shard entry core) g p place told → HasGot (taken shard entry core) g q place other → p ≡ q
    once_behind g p q place told other a b = by (waits_behind shard number entry core at_first g p (got_of place told) a) (waits_behind shard number entry core at_first g q (got_of place other) b)
      where
        down : suc p ≡ suc q → p ≡ q
        down e = omega (arith, e)

        by : ((g ≡ shard) × HasGot core shard (suc p) place told) ⊎ ((g ≡ shard → ⊥) × HasGot core g p place told) → ((g ≡ shard) × HasGot core shard (suc q) place other) ⊎ ((g ≡ shard → ⊥) × HasGot core g q place other) → p ≡ q
        by (inl x) (inl y) = down (s.once shard (suc p) (suc q) place told other x.1 y.1)
        by (inl x) (inr y) = absurd (y.0 x.0)
        by (inr x) (inl y) = absurd (x.0 y.0)
        by (inr x) (inr y) = s.once g p q place told other x.1 y.1

    taken_sent : AreSent set longer (taken shard entry core)
    taken_sent = record {
      messages = all_sent (IsOfSent set longer) (round_messages shard (done_by shard entry core).effect.sends) core.pool sends_kept
          (All-weaker (IsOfSent set history) (IsOfSent set longer) more (values_of core.pool.messages) s.messages);
      gots = gots_behind;
      due = due_behind;
      once = once_behind;
    }

-- ---- what stands behind a lawful history

module _ (name : List ℕ → Address) (cs : List Folded) (core : Core) (lawful : IsLawful name core cs) (s : AreSent (setting_of name core) lawful.lawful.history core)
    (shard number : ℕ) (entry : Entry) (low : shard < (shape_of core).shards) (at_first : committed (group_of shard core) ≡ Some (number, entry)) where
  abbrev its_set : Setting
  its_set = setting_of name core

  abbrev n : ℕ
  n = (shape_of core).shards

  abbrev its_folds : List Folded
  its_folds = follow_all (setting_of name core) (no_entries (setting_of name core)) lawful.lawful.history

  abbrev c : Folded
  c = catalogue_at its_folds shard

  some : 0 < n
  some = shape_some (shape_of core) lawful.folded.valid

  goes : GoesAll its_set some (no_entries its_set) lawful.lawful.history
  goes = history_goes its_set some (shape_few (shape_of core) lawful.folded.valid) lawful.lawful.history lawful.lawful.fits lawful.lawful.records

  st : IsStanding its_set some its_folds goes.later
  st = goes.standing

  folded : IsFolded core its_folds
  folded = subst (λ (x : List Folded). IsFolded core x) (sym lawful.lawful.gives) lawful.folded

  -- each Got that waits of the shard waits beside the machine
  waits_there : (at : ℕ) (place : Place) (told : RoundBody) → HasGot core shard at place told → GotWaits its_set some its_folds goes.later st shard place told
  waits_there at place told there =
      got_waits its_set some its_folds goes.later st shard place told (s.gots shard at place told there).of
      (kept_now its_set lawful.lawful.history shard place told lawful.folded.valid lawful.lawful.fits lawful.lawful.records (s.gots shard at place told there) (s.due shard at place told its_folds refl there))

  -- the entry itself, where it is a Got
  here_waits : (place : Place) (told : RoundBody) → entry ≡ got_of place told → HasGot core shard 0 place told
  here_waits place told is = first_waits shard number entry core at_first ∙ ap (λ (e : Entry). Some e) is

  spares : (at : ℕ) (q : Place) (body : RoundBody) → HasGot core shard (suc at) q body → Spares n c q entry
  spares at q body there = record { apart = apart; goes = not_last }
    where
      apart : (place : Place) (told : RoundBody) → entry ≡ got_of place told → q ≡ place → ⊥
      apart place told is same =
          let again : HasGot core shard (suc at) place body = subst (λ (x : Place). HasGot core shard (suc at) x body) same there in
          let twice = s.once shard 0 (suc at) place told body (here_waits place told is) again in
          omega (arith, twice)

      not_last : (place : Place) (told : RoundBody) → entry ≡ got_of place told → is_complete n (log_got place told c) ≡ true → q.epoch ≡ c.epoch → q.round ≡ c.round + 1 → is_last n (log_got place told c) ≡ false
      not_last place told is whole epoch round = by (is_last n (log_got place told c)) refl
        where
          by : (b : Bool) → is_last n (log_got place told c) ≡ b → is_last n (log_got place told c) ≡ false
          by false e = e
          by true e =
              absurd (none_later its_set some its_folds goes.later st shard low place told (waits_there 0 place told (here_waits place told is)) whole e q body (waits_there (suc at) q body there) epoch (omega (arith, round)))

  still_accepted : (at : ℕ) (place : Place) (told : RoundBody) → HasGot core shard (suc at) place told → is_accepted n (applied its_set its_folds (next_deed shard entry core)) place ≡ true
  still_accepted at place told there = entry_still (shard_in its_set shard) c place (front_of shard core + 1) entry (spares at place told there) (s.due shard (suc at) place told its_folds refl there)

  -- one round at most ends by the entry
  ends_once : EndsOnce n c entry
  ends_once = record { enters = enter_open its_set some its_folds goes.later st shard low; gets = gets }
    where
      gets : (place : Place) (told : RoundBody) → entry ≡ got_of place told → is_accepted n c place ≡ true → is_complete n (log_got place told c) ≡ true → is_last n (log_got place told c) ≡ false
          → have_told n c.epoch (c.round + 1) (from_round c.epoch (c.round + 1) (log_got place told c).got) ≡ false
      gets place told is ok whole goes_on =
          let w = waits_there 0 place told (here_waits place told is) in
          let closed : is_complete n (end_round n (log_got place told c)) ≡ false = once its_set some its_folds goes.later st shard low place told w.sent whole in
          let searches : end_round n (log_got place told c) ≡ search n (settled n (log_got place told c)) = ap (λ b. cond b (sweep (settled n (log_got place told c))) (search n (settled n (log_got place told c)))) goes_on in
          let open_still : is_complete n (search n (settled n (log_got place told c))) ≡ false = sym (ap (λ (x : Folded). is_complete n x) searches) ∙ closed in
          second_false (nat_lt c.swept c.epoch) (have_told n c.epoch (c.round + 1) (from_round c.epoch (c.round + 1) (log_got place told c).got)) (and_parts (is_running c) (have_told n c.epoch c.round (log_got place told c).got) whole).0 open_still

  sends_are_kept : AreKept (applied its_set its_folds (next_deed shard entry core)).sent (done_by shard entry core).effect.sends
  sends_are_kept =
      subst (λ (k : Catalogue). AreKept (applied its_set its_folds (next_deed shard entry core)).sent (apply (front_of shard core + 1) entry (named entry core) k).effect.sends) (sym (memory_of name its_folds core folded shard))
      (entry_kept name (shape_of core) shard c (own_here its_set some its_folds goes.later st shard low) (front_of shard core + 1) entry (named entry core) ends_once)

  pub sent_behind : AreSent (setting_of name core) (lawful.lawful.history ++ next_deed shard entry core ∷ []) (taken shard entry core)
  sent_behind =
      let low_folds : shard < length its_folds = subst (λ k. shard < k) (sym folded.shards) low in
      taken_sent its_set lawful.lawful.history shard number entry core at_first s low low_folds sends_are_kept still_accepted
