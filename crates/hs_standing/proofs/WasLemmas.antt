-- A round that was sent: to which shards, and what its sender keeps of it now.
use Rattle.std.proofs.Common.{◌≡◌, ◌∙◌, sym, ap, subst, ℕ, ◌<◌, zero, suc, List, [], ◌∷◌, ◌++◌, length, true, arith, append-nil, append_assoc}
use Rattle.std.proofs.lemmas.Grind.{common_steps}
use Rattle.std.proofs.lemmas.Option.{slice_get_within}
use Rattle.hs_limits.specs.Shape.{IsShape}
use Rattle.hs_model.proofs.Members.{member_from_contains}
use Rattle.hs_rounds.specs.declared.body.RoundBody.{RoundBody}
use Rattle.hs_rounds.specs.declared.place.Place.{Place}
use Rattle.hs_fold.specs.Lawful.{Deed}
use Rattle.hs_fold.specs.Shards.Setting.{Setting}
use Rattle.hs_fold.specs.Runs.Facts.{Catalogue as Folded}
use Rattle.hs_fold.specs.Runs.Fits.{HasSent, catalogue_at}
use Rattle.hs_fold.specs.Runs.History.{FitAll, follow, follow_all, no_entries}
use Rattle.hs_fold.specs.Runs.Rounds.{is_accepted}
use Rattle.hs_joint.specs.Along.{KeepFewRecords}
use Rattle.hs_waiting.proofs.KeptLemmas.{kept_still}
use Rattle.hs_waiting.proofs.ListLemmas.{follow_append}
use Rattle.hs_sound.specs.Told.{TellsEachItsOwn}
use Rattle.hs_sound.proofs.KeptLemmas.{Tells, history_tells}
use Rattle.hs_sound.proofs.PlaceLemmas.{each_of, here_each}
use Rattle.hs_standing.specs.Sent.{WasSent}

-- ---- a history in two parts

fit_front : (set : Setting) (cs : List Folded) (one more : List Deed) → FitAll set cs (one ++ more) → FitAll set cs one
fit_front set cs [] more f = tt
fit_front set cs (d ∷ one) more f = (f.0, f.1, fit_front set (follow set cs d) one more f.2)

fit_back : (set : Setting) (cs : List Folded) (one more : List Deed) → FitAll set cs (one ++ more) → FitAll set (follow_all set cs one) more
fit_back set cs [] more f = f
fit_back set cs (d ∷ one) more f = fit_back set (follow set cs d) one more f.2

few_front : (set : Setting) (cs : List Folded) (one more : List Deed) → KeepFewRecords set cs (one ++ more) → KeepFewRecords set cs one
few_front set cs [] more f = tt
few_front set cs (d ∷ one) more f = (f.0, few_front set (follow set cs d) one more f.1)

few_back : (set : Setting) (cs : List Folded) (one more : List Deed) → KeepFewRecords set cs (one ++ more) → KeepFewRecords set (follow_all set cs one) more
few_back set cs [] more f = f
few_back set cs (d ∷ one) more f = few_back set (follow set cs d) one more f.1

-- ---- a round that was sent

-- what is kept now was sent
pub is_now : (set : Setting) (history : List Deed) (to : ℕ) (place : Place) (told : RoundBody) → place.from < set.shape.shards
    → HasSent (catalogue_at (follow_all set (no_entries set) history) place.from).sent to place.epoch place.round told → WasSent set history to place told
is_now set history to place told low h = record { front = history; later = []; parted = append-nil history; of = low; sent = h }

-- behind one entry more it still was
pub was_more : (set : Setting) (history : List Deed) (deed : Deed) (to : ℕ) (place : Place) (told : RoundBody) → WasSent set history to place told → WasSent set (history ++ deed ∷ []) to place told
was_more set history deed to place told w = record {
  front = w.front;
  later = w.later ++ deed ∷ [];
  parted = sym (append_assoc w.front w.later (deed ∷ [])) ∙ ap (λ ds. ds ++ deed ∷ []) w.parted;
  of = w.of;
  sent = w.sent;
}

-- a shard that keeps something as sent is there
pub sender_low : (cs : List Folded) (shard to epoch round : ℕ) (told : RoundBody) → HasSent (catalogue_at cs shard).sent to epoch round told → shard < length cs
sender_low [] shard to epoch round told h = elim (member_from_contains h.kept [] h.among) [ ]
sender_low (c ∷ cs) zero to epoch round told h = omega arith
sender_low (c ∷ cs) (suc shard) to epoch round told h = let low = sender_low cs shard to epoch round told h in grind (arith, common_steps, low)

-- so is one that was told something
pub told_low : (set : Setting) (history : List Deed) (to : ℕ) (place : Place) (told : RoundBody) → WasSent set history to place told → to < set.shape.shards
told_low set history to place told w =
    let cs : List Folded = follow_all set (no_entries set) w.front in
    let tells = here_each (Tells set.shape.shards) cs (history_tells set w.front) tt place.from in
    let one = each_of (TellsEachItsOwn set.shape.shards) (catalogue_at cs place.from).sent tells w.sent.kept (member_from_contains w.sent.kept (catalogue_at cs place.from).sent w.sent.among) in
    let low = slice_get_within w.sent.kept.bodies to told w.sent.tells in
    let count = one.each in
    omega (arith, low, count)

-- where it would be accepted its sender keeps it still
pub kept_now : (set : Setting) (history : List Deed) (shard : ℕ) (place : Place) (told : RoundBody) → IsShape set.shape → FitAll set (no_entries set) history → KeepFewRecords set (no_entries set) history
    → WasSent set history shard place told → is_accepted set.shape.shards (catalogue_at (follow_all set (no_entries set) history) shard) place ≡ true
    → HasSent (catalogue_at (follow_all set (no_entries set) history) place.from).sent shard place.epoch place.round told
kept_now set history shard place told shape fits few w ok =
    let parted : follow_all set (no_entries set) (w.front ++ w.later) ≡ follow_all set (follow_all set (no_entries set) w.front) w.later = follow_append set (no_entries set) w.front w.later in
    let both : follow_all set (no_entries set) history ≡ follow_all set (follow_all set (no_entries set) w.front) w.later = ap (λ (ds : List Deed). follow_all set (no_entries set) ds) (sym w.parted) ∙ parted in
    let fit : FitAll set (no_entries set) (w.front ++ w.later) = subst (λ (ds : List Deed). FitAll set (no_entries set) ds) (sym w.parted) fits in
    let room : KeepFewRecords set (no_entries set) (w.front ++ w.later) = subst (λ (ds : List Deed). KeepFewRecords set (no_entries set) ds) (sym w.parted) few in
    subst (λ (cs : List Folded). HasSent (catalogue_at cs place.from).sent shard place.epoch place.round told) (sym both)
    (kept_still set w.front w.later shard place told shape (fit_front set (no_entries set) w.front w.later fit) (few_front set (no_entries set) w.front w.later room)
    (fit_back set (no_entries set) w.front w.later fit) (few_back set (no_entries set) w.front w.later room) (told_low set history shard place told w) w.of w.sent
    (subst (λ (cs : List Folded). is_accepted set.shape.shards (catalogue_at cs shard) place ≡ true) both ok))
