-- Where an entry takes effect: the tail that begins with it rests without it, and each tail of another shard as it is.
use Rattle.std.proofs.Common.{◌≡◌, ◌∙◌, ap, sym, subst, ℕ, suc, ◌+◌, ◌<◌, ◌≤◌, Bool, true, false, cond, List, [], ◌∷◌, ◌++◌, Some, refl, arith, count_by, length}
use Rattle.std.proofs.lemmas.List.{length-map}
use Rattle.std.proofs.lemmas.List.Sums.{sum_by-cons}
use Rattle.std.specs.Prelude.{slice_get}
use Rattle.hs_effects.specs.Lawful.{AreOfHistory, MayFollow}
use Rattle.hs_entry.specs.declared.entry.Entry.{Entry}
use Rattle.hs_entry.specs.declared.entry.Entry.TheVariants as kind
use Rattle.hs_fold.proofs.Shards.PlaceLemmas.{length-set, other-at, same-at}
use Rattle.hs_fold.specs.Lawful.{Deed}
use Rattle.hs_fold.specs.Runs.Facts.{Catalogue as Folded, empty_catalogue as empty_fold}
use Rattle.hs_fold.specs.Runs.Fits.{HasSent, catalogue_at}
use Rattle.hs_fold.specs.Runs.History.{applied, follow, follow_all, no_entries}
use Rattle.hs_fold.specs.Runs.Rounds.{is_accepted, is_complete, is_last, log_got}
use Rattle.hs_fold.specs.Shards.Setting.{Setting, shard_in}
use Rattle.hs_joint.proofs.HistoryLemmas.{GoesAll, history_goes, shape_few, shape_some}
use Rattle.hs_joint.proofs.StandLemmas.{IsStanding, own_here}
use Rattle.hs_limits.specs.Shape.{IsShape}
use Rattle.hs_memory.proofs.AgreeLemmas.{entry_alike}
use Rattle.hs_memory.specs.Forget.{forget, named as named_by, record_of}
use Rattle.hs_replica.specs.Kinds.{is_root}
use Rattle.hs_rounds.specs.declared.body.RoundBody.{RoundBody}
use Rattle.hs_rounds.specs.declared.place.Place.{Place}
use Rattle.hs_shard.specs.Apply.{apply as apply_here}
use Rattle.hs_shard.specs.Facts.{Catalogue}
use Rattle.hs_standing.proofs.AcceptLemmas.{Spares, entry_still}
use Rattle.hs_standing.proofs.AlongRecordLemmas.{AddsRecords, applied_adds}
use Rattle.hs_standing.proofs.FollowLemmas.{history_stays, is_a_got, names_elsewhere, names_grow, names_no_later}
use Rattle.hs_standing.proofs.HistoryLemmas.{history_more, more_fits, more_gives, more_records}
use Rattle.hs_standing.proofs.LastLemmas.{none_later}
use Rattle.hs_standing.proofs.WasLemmas.{kept_now, was_more}
use Rattle.hs_standing.specs.Rests.{IsResting}
use Rattle.hs_standing.specs.Sent.{WasSent, got_of}
use Rattle.hs_tails.specs.Tails.{IsGotAt, TailRests}
use Rattle.hs_waiting.proofs.GotStayLemmas.{GotWaits, got_waits}
use Rattle.hs_waiting.proofs.StayLemmas.{NamesAnother}
use Rattle.hs_waiting.specs.Waits.{EntryWaits}

-- ---- an entry is a Got or none

by_got : (P : Entry → Type 0) (x : Entry) → (is_a_got x ≡ false → P x) → ((place : Place) (told : RoundBody) → x ≡ got_of place told → P x) → P x
by_got P (kind.Got from epoch round total deltas) none got = got (record { epoch = epoch; round = round; from = from }) (record { total = total; deltas = deltas }) refl
by_got P (kind.View view) none got = none refl
by_got P (kind.Block line least bytes) none got = none refl
by_got P (kind.Mark line least block a) none got = none refl
by_got P (kind.Root line held a key) none got = none refl
by_got P (kind.Drop line key) none got = none refl
by_got P (kind.Enter line epoch) none got = none refl
by_got P (kind.Base view epoch swept round frames) none got = none refl
by_got P (kind.KeptBlock born mark flags count bytes) none got = none refl
by_got P (kind.KeptRoot created dropped counted address key) none got = none refl
by_got P (kind.KeptRound way other epoch round total deltas) none got = none refl

module _ (set : Setting) (shape : IsShape set.shape) (cs : List Folded) (its : AreOfHistory set cs) (shard front : ℕ) (entry : Entry) (may : MayFollow set cs (record { shard = shard; number = front + 1; entry = entry })) where
  abbrev deed : Deed
  deed = record { shard = shard; number = front + 1; entry = entry }

  abbrev n : ℕ
  n = set.shape.shards

  abbrev folds : List Folded
  folds = follow_all set (no_entries set) its.history

  -- the fold of its shard
  abbrev c : Folded
  c = catalogue_at folds shard

  some : 0 < set.shape.shards
  some = shape_some set.shape shape

  goes : GoesAll set some (no_entries set) its.history
  goes = history_goes set some (shape_few set.shape shape) its.history its.fits its.records

  st : IsStanding set some folds goes.later
  st = goes.standing

  long : length cs ≡ set.shape.shards
  long = ap (λ (ds : List Folded). length ds) (sym its.gives) ∙ st.joined.each

  long_behind : length (follow set cs deed) ≡ length cs
  long_behind = length-set cs shard (applied set cs deed)

  low : shard < length cs
  low = let of = may.of in let count = long in omega (arith, of, count)

  next_at : catalogue_at (follow set cs deed) shard ≡ applied set cs deed
  next_at = same-at empty_fold cs shard (applied set cs deed) low

  others_at : (g : ℕ) → (g ≡ shard → ⊥) → catalogue_at (follow set cs deed) g ≡ catalogue_at cs g
  others_at g apart = other-at empty_fold cs shard g (applied set cs deed) apart

  -- ---- what waits

  -- it waits still, if it is no Got
  stays : (k : ℕ) → k < length cs → (x : Entry) → is_a_got x ≡ false → NamesAnother shard (front + 1) k x → EntryWaits cs k x → EntryWaits (follow set cs deed) k x
  stays k l x none names waits =
      let count = long in
      let l' : k < set.shape.shards = omega (arith, l, count) in
      subst (λ ds. MayFollow set ds deed → EntryWaits ds k x → EntryWaits (follow set ds deed) k x) its.gives
      (λ m w. history_stays set its.history shape its.fits its.records deed m.of m.rests m.records k l' x none names w)
      may waits

  -- a Got that was sent and would be accepted waits
  got_still : (g : ℕ) (place : Place) (told : RoundBody) → WasSent set its.history g place told → is_accepted set.shape.shards (catalogue_at (follow set cs deed) g) place ≡ true → EntryWaits (follow set cs deed) g (got_of place told)
  got_still g place told w ok =
      let gives : follow_all set (no_entries set) (its.history ++ deed ∷ []) ≡ follow set cs deed = more_gives set cs its deed in
      let kept : HasSent (catalogue_at (follow_all set (no_entries set) (its.history ++ deed ∷ [])) place.from).sent g place.epoch place.round told =
      kept_now set (its.history ++ deed ∷ []) g place told shape (more_fits set cs its deed may) (more_records set cs its deed may) (was_more set its.history deed g place told w)
      (subst (λ (ds : List Folded). is_accepted set.shape.shards (catalogue_at ds g) place ≡ true) (sym gives) ok) in
      let of = w.of in
      let count = long in
      let more = long_behind in
      (omega (arith, of, count, more), subst (λ (ds : List Folded). HasSent (catalogue_at ds place.from).sent g place.epoch place.round told) gives kept)

  waits_there : (place : Place) (told : RoundBody) → WasSent set its.history shard place told → is_accepted set.shape.shards (catalogue_at cs shard) place ≡ true → GotWaits set some folds goes.later st shard place told
  waits_there place told w ok =
      got_waits set some folds goes.later st shard place told w.of
      (kept_now set its.history shard place told shape its.fits its.records w (subst (λ (ds : List Folded). is_accepted set.shape.shards (catalogue_at ds shard) place ≡ true) (sym its.gives) ok))

  -- ---- root records

  adds_here : length (applied set folds deed).roots ≤ length (catalogue_at folds shard).roots + cond (is_root entry) 1 0
  adds_here =
      let adds : AddsRecords entry (forget set.shape shard c) (apply_here (front + 1) entry (named_by set.name entry) (forget set.shape shard c)).catalogue = applied_adds (front + 1) entry (named_by set.name entry) (forget set.shape shard c) in
      let behind : (apply_here (front + 1) entry (named_by set.name entry) (forget set.shape shard c)).catalogue ≡ forget set.shape shard (applied set folds deed) =
      entry_alike set.name set.shape shard c (own_here set some folds goes.later st shard may.of) (front + 1) entry in
      let after : length (forget set.shape shard (applied set folds deed)).roots ≡ length (applied set folds deed).roots = length-map (applied set folds deed).roots record_of in
      let before : length (forget set.shape shard c).roots ≡ length c.roots = length-map c.roots record_of in
      let same = ap (λ (x : Catalogue). length x.roots) behind in
      omega (arith, adds, after, before, same)

  adds : length (applied set cs deed).roots ≤ length (catalogue_at cs shard).roots + cond (is_root entry) 1 0
  adds = subst (λ (ds : List Folded). length (applied set ds deed).roots ≤ length (catalogue_at ds shard).roots + cond (is_root entry) 1 0) its.gives adds_here

-- ---- the tail that begins with it

module _ (set : Setting) (shape : IsShape set.shape) (cs : List Folded) (shard front : ℕ) (entry : Entry) (may : MayFollow set cs (record { shard = shard; number = front + 1; entry = entry }))
    (rest : List Entry) (t : TailRests set cs shard front (entry ∷ rest)) where
  abbrev first : Deed
  first = record { shard = shard; number = front + 1; entry = entry }

  abbrev behind : List Folded
  behind = follow set cs (record { shard = shard; number = front + 1; entry = entry })

  -- what it asks of a Got that stands behind it
  spares : (at : ℕ) (q : Place) (body : RoundBody) → IsGotAt rest at q body → Spares set.shape.shards (catalogue_at (follow_all set (no_entries set) t.lawful.history) shard) q entry
  spares at q body there = record { apart = apart; goes = not_last }
    where
      here : (place : Place) (told : RoundBody) → entry ≡ got_of place told → IsGotAt (entry ∷ rest) 0 place told
      here place told is = ap (λ (e : Entry). Some e) is

      apart : (place : Place) (told : RoundBody) → entry ≡ got_of place told → q ≡ place → ⊥
      apart place told is same =
          let again : IsGotAt (entry ∷ rest) (suc at) place body = subst (λ (x : Place). IsGotAt (entry ∷ rest) (suc at) x body) same there in
          let twice = t.once 0 (suc at) place told body (here place told is) again in
          omega (arith, twice)

      waits : (k : ℕ) (place : Place) (told : RoundBody) → IsGotAt (entry ∷ rest) k place told → GotWaits set (some set shape cs t.lawful shard front entry may) (follow_all set (no_entries set) t.lawful.history) (goes set shape cs t.lawful shard front entry may).later (st set shape cs t.lawful shard front entry may) shard place told
      waits k place told at = waits_there set shape cs t.lawful shard front entry may place told (t.gots k place told at) (t.due k place told at)

      not_last : (place : Place) (told : RoundBody) → entry ≡ got_of place told → is_complete set.shape.shards (log_got place told (catalogue_at (follow_all set (no_entries set) t.lawful.history) shard)) ≡ true
          → q.epoch ≡ (catalogue_at (follow_all set (no_entries set) t.lawful.history) shard).epoch → q.round ≡ (catalogue_at (follow_all set (no_entries set) t.lawful.history) shard).round + 1
          → is_last set.shape.shards (log_got place told (catalogue_at (follow_all set (no_entries set) t.lawful.history) shard)) ≡ false
      not_last place told is whole epoch round = by (is_last set.shape.shards (log_got place told (catalogue_at (follow_all set (no_entries set) t.lawful.history) shard))) refl
        where
          by : (b : Bool) → is_last set.shape.shards (log_got place told (catalogue_at (follow_all set (no_entries set) t.lawful.history) shard)) ≡ b → is_last set.shape.shards (log_got place told (catalogue_at (follow_all set (no_entries set) t.lawful.history) shard)) ≡ false
          by false e = e
          by true e =
              absurd (none_later set (some set shape cs t.lawful shard front entry may) (follow_all set (no_entries set) t.lawful.history) (goes set shape cs t.lawful shard front entry may).later (st set shape cs t.lawful shard front entry may) shard may.of place told
              (waits 0 place told (here place told is)) whole e q body (waits (suc at) q body there) epoch (omega (arith, round)))

  due_behind : (at : ℕ) (place : Place) (told : RoundBody) → IsGotAt rest at place told → is_accepted set.shape.shards (catalogue_at (follow set cs (record { shard = shard; number = front + 1; entry = entry })) shard) place ≡ true
  due_behind at place told there =
      let folds : List Folded = follow_all set (no_entries set) t.lawful.history in
      let before : is_accepted set.shape.shards (catalogue_at folds shard) place ≡ true = subst (λ (ds : List Folded). is_accepted set.shape.shards (catalogue_at ds shard) place ≡ true) (sym t.lawful.gives) (t.due (suc at) place told there) in
      let after : is_accepted set.shape.shards (applied set folds first) place ≡ true = entry_still (shard_in set shard) (catalogue_at folds shard) place (front + 1) entry (spares at place told there) before in
      subst (λ (x : Folded). is_accepted set.shape.shards x place ≡ true) (sym (next_at set shape cs t.lawful shard front entry may))
      (subst (λ (ds : List Folded). is_accepted set.shape.shards (applied set ds first) place ≡ true) t.lawful.gives after)

  waits_behind : (at : ℕ) (x : Entry) → slice_get rest at ≡ Some x → EntryWaits (follow set cs (record { shard = shard; number = front + 1; entry = entry })) shard x
  waits_behind at x there =
      let r : IsResting cs shard front x = t.rests (suc at) x there in
      by_got (λ y. EntryWaits (follow set cs (record { shard = shard; number = front + 1; entry = entry })) shard y) x
      (λ none. stays set shape cs t.lawful shard front entry may shard (low set shape cs t.lawful shard front entry may) x none (names_no_later front (front + 1) shard shard x (omega arith) r.names) r.waits)
      (λ place told is.
      let got : IsGotAt rest at place told = there ∙ ap (λ (e : Entry). Some e) is in
      subst (λ y. EntryWaits (follow set cs (record { shard = shard; number = front + 1; entry = entry })) shard y) (sym is)
      (got_still set shape cs t.lawful shard front entry may shard place told (t.gots (suc at) place told got) (due_behind at place told got)))

  rests_behind : (at : ℕ) (x : Entry) → slice_get rest at ≡ Some x → IsResting (follow set cs (record { shard = shard; number = front + 1; entry = entry })) shard (front + 1) x
  rests_behind at x there =
      let r : IsResting cs shard front x = t.rests (suc at) x there in
      let of = r.of in
      let longer = long_behind set shape cs t.lawful shard front entry may in
      record {
        of = omega (arith, of, longer);
        ordinary = r.ordinary;
        names = names_grow front (front + 1) x (omega arith) r.names;
        waits = waits_behind at x there;
      }

  few_behind : length (catalogue_at (follow set cs (record { shard = shard; number = front + 1; entry = entry })) shard).roots + count_by is_root rest ≤ 16777216
  few_behind =
      let more = adds set shape cs t.lawful shard front entry may in
      let is = ap (λ (x : Folded). length x.roots) (next_at set shape cs t.lawful shard front entry may) in
      let count : count_by is_root (entry ∷ rest) ≡ cond (is_root entry) 1 0 + count_by is_root rest = sum_by-cons (λ (e : Entry). cond (is_root e) 1 0) entry rest in
      let room = t.few in
      omega (arith, more, is, count, room)

  pub first_taken : TailRests set (follow set cs (record { shard = shard; number = front + 1; entry = entry })) shard (front + 1) rest
  first_taken = record {
    lawful = history_more set cs t.lawful first may;
    rests = rests_behind;
    gots = λ at place told there. was_more set t.lawful.history first shard place told (t.gots (suc at) place told there);
    due = due_behind;
    once = λ at other place told more a b. (let same = t.once (suc at) (suc other) place told more a b in omega (arith, same));
    few = few_behind;
  }

-- ---- the tail of another shard

module _ (set : Setting) (shape : IsShape set.shape) (cs : List Folded) (shard front : ℕ) (entry : Entry) (may : MayFollow set cs (record { shard = shard; number = front + 1; entry = entry }))
    (g at_front : ℕ) (tail : List Entry) (t : TailRests set cs g at_front tail) (apart : g ≡ shard → ⊥) where
  abbrev another : Deed
  another = record { shard = shard; number = front + 1; entry = entry }

  same_fold : catalogue_at (follow set cs (record { shard = shard; number = front + 1; entry = entry })) g ≡ catalogue_at cs g
  same_fold = others_at set shape cs t.lawful shard front entry may g apart

  due_still : (at : ℕ) (place : Place) (told : RoundBody) → IsGotAt tail at place told → is_accepted set.shape.shards (catalogue_at (follow set cs (record { shard = shard; number = front + 1; entry = entry })) g) place ≡ true
  due_still at place told there = subst (λ (x : Folded). is_accepted set.shape.shards x place ≡ true) (sym same_fold) (t.due at place told there)

  waits_still : (at : ℕ) (x : Entry) → slice_get tail at ≡ Some x → EntryWaits (follow set cs (record { shard = shard; number = front + 1; entry = entry })) g x
  waits_still at x there =
      let r : IsResting cs g at_front x = t.rests at x there in
      by_got (λ y. EntryWaits (follow set cs (record { shard = shard; number = front + 1; entry = entry })) g y) x
      (λ none. stays set shape cs t.lawful shard front entry may g r.of x none (names_elsewhere shard (front + 1) g x apart) r.waits)
      (λ place told is.
      let got : IsGotAt tail at place told = there ∙ ap (λ (e : Entry). Some e) is in
      subst (λ y. EntryWaits (follow set cs (record { shard = shard; number = front + 1; entry = entry })) g y) (sym is)
      (got_still set shape cs t.lawful shard front entry may g place told (t.gots at place told got) (due_still at place told got)))

  rests_still : (at : ℕ) (x : Entry) → slice_get tail at ≡ Some x → IsResting (follow set cs (record { shard = shard; number = front + 1; entry = entry })) g at_front x
  rests_still at x there =
      let r : IsResting cs g at_front x = t.rests at x there in
      let of = r.of in
      let longer = long_behind set shape cs t.lawful shard front entry may in
      record { of = omega (arith, of, longer); ordinary = r.ordinary; names = r.names; waits = waits_still at x there }

  pub other_taken : TailRests set (follow set cs (record { shard = shard; number = front + 1; entry = entry })) g at_front tail
  other_taken = record {
    lawful = history_more set cs t.lawful another may;
    rests = rests_still;
    gots = λ at place told there. was_more set t.lawful.history another g place told (t.gots at place told there);
    due = due_still;
    once = t.once;
    few = (let room = t.few in let same = ap (λ (x : Folded). length x.roots) same_fold in omega (arith, room, same));
  }
