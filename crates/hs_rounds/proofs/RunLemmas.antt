-- What a run keeps to, behind each call.
use Rattle.std.proofs.Common.{◌≡◌, ◌≢◌, ℕ, ◌<◌, ◌≤◌, Bool, true, false, cond, List, [], ◌++◌, length, Option, Some, None, ap, sym, ◌∙◌, refl, subst, arith}
use Rattle.std.proofs.lemmas.Bool.{and_from, and_parts, both_ways, eq-eqb, eqb-true, ltb-true, not-true}
use Rattle.std.specs.BTreeMap.{is_at}
use Rattle.std.specs.Option.{IfSome, option_map_or}
use Rattle.std.specs.Prelude.{All, is_none, nat_lt, not, ◌==◌, ◌&&◌}
use Rattle.hs_limits.specs.declared.delta.Delta.{Delta}
use Rattle.hs_rounds.specs.declared.body.RoundBody.{RoundBody}
use Rattle.hs_rounds.specs.declared.place.Place.{Place}
use Rattle.hs_rounds.specs.declared.sending.SentRound.{SentRound}
use Rattle.hs_rounds.specs.Changes.{AreChanges}
use Rattle.hs_rounds.specs.Rounds.{GotList, IsGot, IsRun, IsSent, Run, body_at, changes_in, changes_of, from_round, is_before, is_kept, is_past, place_cmp, received, told_by}
use Rattle.hs_rounds.specs.Steps.{is_open, moved}
use Rattle.hs_rounds.proofs.EachLemmas.{each_below, each_same, put_in_turn}
use Rattle.hs_rounds.proofs.PlaceLemmas.{found_from, gone_before, same_place, tied_place}

some_weaker : {A : Type 0} (P Q : A → Type 0) (o : Option A) → ((x : A) → P x → Q x) → IfSome o P → IfSome o Q
some_weaker P Q None h was = was
some_weaker P Q (Some x) h was = h x was

-- what stands behind a round stood there before
gots_from : (epoch round : ℕ) (gots : GotList) (P Q : Place → RoundBody → Type 0) → ((q : Place) → IfSome (body_at q gots) (P q))
    → ((q : Place) → is_before epoch round q ≡ false → (told : RoundBody) → P q told → Q q told)
    → (q : Place) → IfSome (body_at q (from_round epoch round gots)) (Q q)
gots_from epoch round gots P Q all weaker q = go (is_before epoch round q) refl
  where
    go : (b : Bool) → is_before epoch round q ≡ b → IfSome (body_at q (from_round epoch round gots)) (Q q)
    go true e = subst (λ o. IfSome o (Q q)) (sym (gone_before epoch round gots q e)) tt
    go false e = subst (λ o. IfSome o (Q q)) (sym (found_from epoch round gots q e)) (some_weaker (P q) (Q q) (body_at q gots) (weaker q e) (all q))

-- a round that is opened
pub opened_is_run : (run : Run) (epoch round : ℕ) (sent : List SentRound) → IsRun run → All (IsSent run.shape.shards) sent → length sent ≤ 2
    → IsRun (record run { opened = Some (epoch, round); gots = from_round epoch round run.gots; sent = sent })
opened_is_run run epoch round sent valid tells two = record {
  shape = valid.shape;
  shard = valid.shard;
  gots = gots_from epoch round run.gots (IsGot run) (IsGot (record run { opened = Some (epoch, round); gots = from_round epoch round run.gots; sent = sent })) valid.gots
      (λ q after told was. record { sender = was.sender; due = after; changes = was.changes });
  sent = tells;
  two = two;
}

-- a run that is over
pub finished_is_run : (run : Run) (epoch round : ℕ) → IsRun run → IsRun (record run { opened = None; gots = from_round epoch round run.gots })
finished_is_run run epoch round valid = record {
  shape = valid.shape;
  shard = valid.shard;
  gots = gots_from epoch round run.gots (IsGot run) (IsGot (record run { opened = None; gots = from_round epoch round run.gots })) valid.gots
      (λ q after told was. record { sender = was.sender; due = refl; changes = was.changes });
  sent = valid.sent;
  two = valid.two;
}

-- these have one more
abbrev pub HasGot : Place → RoundBody → GotList → GotList → Type 0
HasGot place told old new = (q : Place) → body_at q new ≡ cond (is_at (place_cmp place) q) (Some told) (body_at q old)

-- what is said of a Got that is kept
kept_parts : (run : Run) (place : Place) → is_kept place run ≡ true
    → (nat_lt place.from run.shape.shards ≡ true) × (not (is_past place run) ≡ true) × (is_none (body_at place run.gots) ≡ true)
kept_parts run place kept =
    let both : (nat_lt place.from run.shape.shards && not (is_past place run) ≡ true) × (is_none (body_at place run.gots) ≡ true) = and_parts _ _ kept in
    let first : (nat_lt place.from run.shape.shards ≡ true) × (not (is_past place run) ≡ true) = and_parts _ _ both.0 in
    (first.0, first.1, both.1)

sender_below : (run : Run) (place : Place) → is_kept place run ≡ true → place.from < run.shape.shards
sender_below run place kept = ltb-true _ _ (kept_parts run place kept).0

none_kept : (run : Run) (place : Place) → is_kept place run ≡ true → is_none (body_at place run.gots) ≡ true
none_kept run place kept = (kept_parts run place kept).2

-- a Got that is kept
pub got_is_run : (run : Run) (place : Place) (told : RoundBody) (new : GotList) → IsRun run → is_kept place run ≡ true → AreChanges told.deltas → HasGot place told run.gots new
    → IsRun (record run { gots = new })
got_is_run run place told new valid kept changes has = record {
  shape = valid.shape;
  shard = valid.shard;
  gots = λ q. go q (is_at (place_cmp place) q) refl;
  sent = valid.sent;
  two = valid.two;
}
  where
    this : IsGot (record run { gots = new }) place told
    this = record { sender = sender_below run place kept; due = not-true (is_past place run) (kept_parts run place kept).1; changes = changes }

    go : (q : Place) → (b : Bool) → is_at (place_cmp place) q ≡ b → IfSome (body_at q new) (IsGot (record run { gots = new }) q)
    go q true e = let found : body_at q new ≡ Some told = rw e at (has q) in
        subst (λ o. IfSome o (IsGot (record run { gots = new }) q)) (sym found) (subst (λ p. IsGot (record run { gots = new }) p told) (same_place place q e) this)
    go q false e = let was : body_at q new ≡ body_at q run.gots = rw e at (has q) in
        subst (λ o. IfSome o (IsGot (record run { gots = new }) q)) (sym was)
        (some_weaker (IsGot run q) (IsGot (record run { gots = new }) q) (body_at q run.gots) (λ body h. record { sender = h.sender; due = h.due; changes = h.changes }) (valid.gots q))

-- ---- the changes that came

-- a round that is opened has what came for it
pub received_opened : (shards epoch round : ℕ) (gots : GotList) → changes_of shards epoch round gots ≡ changes_of shards epoch round (from_round epoch round gots)
received_opened shards epoch round gots =
    each_same (λ from. changes_in (told_by epoch round gots from)) (λ from. changes_in (told_by epoch round (from_round epoch round gots) from)) 0 shards
    (λ i low high. ap changes_in (sym (found_from epoch round gots (record { epoch = epoch; round = round; from = i }) (own i))))
  where
    own : (i : ℕ) → is_before epoch round (record { epoch = epoch; round = round; from = i }) ≡ false
    own i = grind arith

-- a Got of another round makes no difference to the open one
pub received_elsewhere : (run : Run) (place : Place) (told : RoundBody) (new : GotList) → is_open place run ≡ false → HasGot place told run.gots new
    → received (record run { gots = new }) ≡ received run
received_elsewhere run place told new apart has = go run.opened refl
  where
    go : (o : Option (ℕ × ℕ)) → run.opened ≡ o → received (record run { gots = new }) ≡ received run
    go None e = rw e refl
    go (Some at) e = rw e (each_same (λ from. changes_in (told_by at.0 at.1 new from)) (λ from. changes_in (told_by at.0 at.1 run.gots from)) 0 run.shape.shards (λ i low high. ap changes_in (same i)))
      where
        here : ℕ → Place
        here i = record { epoch = at.0; round = at.1; from = i }

        same : (i : ℕ) → told_by at.0 at.1 new i ≡ told_by at.0 at.1 run.gots i
        same i = go_same (is_at (place_cmp place) (here i)) refl
          where
            go_same : (b : Bool) → is_at (place_cmp place) (here i) ≡ b → told_by at.0 at.1 new i ≡ told_by at.0 at.1 run.gots i
            go_same false f = rw f at (has (here i))
            go_same true f = let open_here : is_open (here i) run ≡ true = rw e (and_from (at.0 == at.0) (at.1 == at.1) (eq-eqb at.0 at.0 refl) (eq-eqb at.1 at.1 refl)) in absurd (both_ways (is_open place run) apart (ap (λ p. is_open p run) (same_place place (here i) f) ∙ open_here))

none_there : (o : Option RoundBody) → is_none o ≡ true → o ≡ None
none_there None e = refl
none_there (Some told) e = cc

-- the open round is that of a place
opened_at : (place : Place) (o : Option (ℕ × ℕ)) → option_map_or (λ at. place.epoch == at.0 && place.round == at.1) o false ≡ true → o ≡ Some (place.epoch, place.round)
opened_at place None e = cc
opened_at place (Some at) e =
    let is : (place.epoch == at.0 ≡ true) × (place.round == at.1 ≡ true) = and_parts _ _ e in
    let epochs : at.0 ≡ place.epoch = sym (eqb-true _ _ is.0) in
    let rounds : at.1 ≡ place.round = sym (eqb-true _ _ is.1) in
    λ i. Some (epochs i, rounds i)

-- a Got of the open round has its changes behind those of lower senders
pub received_here : (run : Run) (place : Place) (told : RoundBody) (new : GotList) → is_kept place run ≡ true → is_open place run ≡ true → HasGot place told run.gots new
    → moved (length (changes_of place.from place.epoch place.round run.gots)) (length told.deltas) (received run ++ told.deltas) ≡ received (record run { gots = new })
received_here run place told new kept opened has =
    rw (opened_at place run.opened opened)
    (subst (λ deltas. moved (length (changes_of place.from place.epoch place.round run.gots)) (length deltas) (changes_of run.shape.shards place.epoch place.round run.gots ++ deltas)
    ≡ changes_of run.shape.shards place.epoch place.round new)
    here (put_in_turn f g place.from run.shape.shards below none others))
  where
    f : ℕ → List Delta
    f from = changes_in (told_by place.epoch place.round run.gots from)

    g : ℕ → List Delta
    g from = changes_in (told_by place.epoch place.round new from)

    below : place.from < run.shape.shards
    below = sender_below run place kept

    none : f place.from ≡ []
    none = ap changes_in (none_there (body_at place run.gots) (none_kept run place kept))

    here : g place.from ≡ told.deltas
    here = let found : body_at place new ≡ Some told = rw (tied_place place) at (has place) in ap changes_in found

    others : (i : ℕ) → i ≢ place.from → g i ≡ f i
    others i apart = go (is_at (place_cmp place) at) refl
      where
        at : Place
        at = record { epoch = place.epoch; round = place.round; from = i }

        go : (b : Bool) → is_at (place_cmp place) at ≡ b → g i ≡ f i
        go false e = ap changes_in (rw e at (has at))
        go true e = absurd (apart (sym (ap (λ p. p.from) (same_place place at e))))

-- there are no more below a sender than came
pub below_received : (run : Run) (place : Place) → is_kept place run ≡ true → is_open place run ≡ true
    → length (changes_of place.from place.epoch place.round run.gots) ≤ length (received run)
below_received run place kept opened =
    rw (opened_at place run.opened opened) (each_below (λ from. changes_in (told_by place.epoch place.round run.gots from)) place.from run.shape.shards (omega (arith, below)))
  where
    below : place.from < run.shape.shards
    below = sender_below run place kept
