-- Zero blocks behind a lawful history, in the words of the plain store: what it reaches the machine of deletion reaches, and a Got by which a shard sweeps completes the last row there.
use Rattle.std.proofs.Common.{◌≡◌, ◌∙◌, ◌⊎◌, inl, inr, sym, ap, subst, refl, ℕ, zero, suc, ◌+◌, ◌<◌, ◌&&◌, ◌||◌, Bool, true, false, cond, List, [], ◌∷◌, length, Option, Some, None, nat_lt, arith}
use Rattle.std.proofs.lemmas.Bool.{and_parts, ltb-true}
use Rattle.std.proofs.lemmas.Grind.{common_steps}
use Rattle.hs_core_words.specs.State.{Core}
use Rattle.hs_deletion.proofs.HistoryKeeps.{at_the_last}
use Rattle.hs_deletion.proofs.OpenLemmas.{last_same, may_complete}
use Rattle.hs_deletion.specs.Anchors.{IsReachedIn}
use Rattle.hs_deletion.specs.Catalogue.{is_complete as is_complete_there}
use Rattle.hs_deletion.specs.Following.{IsFollowing, IsSent}
use Rattle.hs_deletion.specs.History.{is_last as is_last_there}
use Rattle.hs_deletion.specs.Invariants.{IsRight}
use Rattle.hs_deletion.specs.Machine.{Layout, Machine}
use Rattle.hs_effects.specs.Lawful.{AreOfHistory, IsLawful, MayFollow}
use Rattle.hs_effects.specs.Taking.{setting_of}
use Rattle.hs_entry.specs.declared.entry.Entry.{Entry}
use Rattle.hs_entry.specs.declared.entry.Entry.TheVariants as kind
use Rattle.hs_fold.proofs.Shards.LegalLemmas.{MayBeChange, one-changes}
use Rattle.hs_fold.specs.Catalogue.{Shard}
use Rattle.hs_fold.specs.Lawful.{Deed}
use Rattle.hs_fold.specs.Runs.Facts.{Facts, Catalogue as Folded, plain}
use Rattle.hs_fold.specs.Runs.Fits.{HasSent, catalogue_at}
use Rattle.hs_fold.specs.Runs.Happening.{ends_run}
use Rattle.hs_fold.specs.Runs.History.{FitAll, follow_all, no_entries}
use Rattle.hs_fold.specs.Runs.Opened.{store_of}
use Rattle.hs_fold.specs.Runs.Rounds.{end_round, ends_last, is_accepted, is_complete, is_last, log_got, may_enter}
use Rattle.hs_fold.specs.Shards.Happening.{Happening, enters, sweeps}
use Rattle.hs_fold.specs.Shards.Happening.{happening_of as plain_happening}
use Rattle.hs_fold.specs.Shards.Setting.{Setting, shard_in}
use Rattle.hs_joint.proofs.GotLemmas.{got_differs, once}
use Rattle.hs_joint.proofs.HistoryLemmas.{history_goes, shape_few, shape_some}
use Rattle.hs_joint.proofs.LikeLemmas.{complete_seen, last_seen, logged_follows}
use Rattle.hs_joint.proofs.ReachedLemmas.{back, least_low, there, there_at}
use Rattle.hs_joint.proofs.StandLemmas.{IsStanding, right, was_sent}
use Rattle.hs_joint.specs.Along.{KeepFewRecords, happening_by}
use Rattle.hs_joint.specs.Seen.{layout_of, seen, seen_block, seen_round}
use Rattle.hs_limits.specs.declared.address.Address.{Address}
use Rattle.hs_limits.specs.Shape.{IsShape, shard_of}
use Rattle.hs_measure.specs.Zeros.{AreZerosRight, EachUnreachedIsZero, NoReachedIsZero, ZerosRight}
use Rattle.hs_model.proofs.Members.{Member, member_from_contains}
use Rattle.hs_model.proofs.ReachLemmas.{is_from_reached, reached_from_is}
use Rattle.hs_model.specs.Reach.{IsReached, anchors}
use Rattle.hs_model.specs.Store.{Store}
use Rattle.hs_rounds.specs.declared.body.RoundBody.{RoundBody}
use Rattle.hs_rounds.specs.declared.place.Place.{Place}

-- ---- small facts

-- who has a block is one of the shards
within : (cs : List Folded) (g : ℕ) (e : Address × Facts) → Member e (catalogue_at cs g).blocks → g < length cs
within [] g e k = elim k [ ]
within (c ∷ cs) zero e k = omega arith
within (c ∷ cs) (suc g) e k = let low = within cs g e k in grind (arith, common_steps, low)

ends_none : (n turns : ℕ) (c : Folded) → is_complete n c ≡ false → ends_last n turns c ≡ false
ends_none n zero c e = refl
ends_none n (suc turns) c e = ap (λ b. b && (is_last n c || ends_last n turns (end_round n c))) e

-- where one round ends at most, the last one is the one that ends
ends_at_once : (n turns : ℕ) (c : Folded) → (is_complete n c ≡ true → is_complete n (end_round n c) ≡ false) → ends_last n turns c ≡ true → (is_complete n c ≡ true) × (is_last n c ≡ true)
ends_at_once n zero c one e = absurd (cc e)
ends_at_once n (suc turns) c one e = (both.0, go (is_last n c) refl both.1)
  where
    both : (is_complete n c ≡ true) × ((is_last n c || ends_last n turns (end_round n c)) ≡ true)
    both = and_parts (is_complete n c) (is_last n c || ends_last n turns (end_round n c)) e

    go : (b : Bool) → is_last n c ≡ b → (b || ends_last n turns (end_round n c)) ≡ true → is_last n c ≡ true
    go true q h = q
    go false q h = (let none : ends_last n turns (end_round n c) ≡ false = ends_none n turns (end_round n c) (one both.0) in absurd (cc (none, h)))

-- a client's entry is no sweep, and an Enter is none
no_change : (o : Option Happening) (g : ℕ) → MayBeChange o → o ≡ Some (sweeps g) → ⊥
no_change o g may e = subst (λ (x : Option Happening). MayBeChange x) e may

no_enter : (b : Bool) (g : ℕ) → cond b (Some (enters g)) None ≡ Some (sweeps g) → ⊥
no_enter true g e = cc e
no_enter false g e = cc e

if_sweeps : (b : Bool) (g : ℕ) → cond b (Some (sweeps g)) None ≡ Some (sweeps g) → b ≡ true
if_sweeps true g e = refl
if_sweeps false g e = cc e

-- ---- folds that stand beside a machine

module _ (set : Setting) (some : 0 < set.shape.shards) (cs : List Folded) (m : Machine) (st : IsStanding set some cs m) where
  abbrev n : ℕ
  n = set.shape.shards

  abbrev L : Layout
  L = layout_of n some

  abbrev s : Store
  s = store_of cs

  R : IsRight L m
  R = right set some cs m st

  module _ (g : ℕ) (lg : g < n) where
    abbrev c : Folded
    c = catalogue_at cs g

    epoch_is : c.epoch ≡ (m.states g).epoch
    epoch_is = (st.joined.followed.each g lg).epoch

    -- what the plain store reaches from the anchors of the shard's epoch the machine reaches, and the other way round
    reached_there : (a : Address) → IsReached s (anchors s c.epoch) a → IsReachedIn m c.epoch a
    reached_there a r =
        there n some cs st.joined.each st.joined.own m st.joined.followed.each c.epoch (least_low n some cs st.joined.each st.joined.own m st.joined.followed.each g lg) a
        (reached_from_is s (anchors s c.epoch) a r)

    reached_here : (a : Address) → IsReachedIn m (m.states g).epoch a → IsReached s (anchors s c.epoch) a
    reached_here a r =
        is_from_reached s (anchors s c.epoch) a
        (back n some cs st.joined.each st.joined.own m st.joined.followed.each c.epoch (least_low n some cs st.joined.each st.joined.own m st.joined.followed.each g lg) (λ x k. R.homes x k) a
        (subst (λ k. IsReachedIn m k a) (sym epoch_is) r))

    -- a block of the shard there
    stands : (e : Address × Facts) → Member e c.blocks → Member (seen_block e) m.blocks × (shard_of n e.0 ≡ g)
    stands e k = there_at n some cs st.joined.each st.joined.own m st.joined.followed.each g lg e k

    given_now : (e : Address × Facts) → Member e c.blocks → IsReached s (anchors s c.epoch) e.0 → e.1.zero ≡ true → e.1.present.mark ≡ c.epoch
    given_now e k r z =
        let block = stands e k in
        let given : IsReachedIn m (m.states g).epoch e.0 → e.1.present.mark ≡ (m.states g).epoch = rw (block.1) at (R.no_wrong_zero (seen_block e) block.0 z) in
        given (subst (λ k. IsReachedIn m k e.0) epoch_is (reached_there e.0 r)) ∙ sym epoch_is

    -- ---- a Got by which the shard sweeps

    module _ (place : Place) (told : RoundBody) (from : place.from < n) (sent : HasSent (catalogue_at cs place.from).sent g place.epoch place.round told) (ends : ends_run n c place told ≡ true) where
      abbrev D : Folded
      D = log_got place told c

      sent_there : IsSent L m.states g place.from place.epoch place.round (seen_round place.round told)
      sent_there = was_sent set some cs m st place.from from g place.epoch place.round told sent

      follows : IsFollowing L m g (seen g D)
      follows = logged_follows g c L m (st.joined.followed.each g lg) place told sent_there

      ended : (is_complete n D ≡ true) × (is_last n D ≡ true)
      ended =
          ends_at_once n (length D.got + 1) D (λ whole. once set some cs m st g lg place told sent_there whole)
          (and_parts (is_accepted n c place) (ends_last n (length D.got + 1) D) ends).1

      done : is_complete_there n (seen g D) ≡ true
      done = complete_seen g D n ended.0

      over : is_last_there L g m ≡ true
      over = sym (last_seen g D n ended.0 ∙ last_same L m R g lg (seen g D) follows done) ∙ ended.1

      each_found : EachUnreachedIsZero cs g
      each_found a f h u =
          let block = stands (a, f) (member_from_contains (a, f) c.blocks h) in
          let older = u.older in
          let found = R.exact_zero g (at_the_last L m g (may_complete L m R g lg (seen g D) follows done) over) (seen_block (a, f)) block.0 (record {
            of_shard = block.1;
            older = omega (arith, older, epoch_is);
            unreached = λ r. u.unreached (reached_here a r);
          }) in
          let low : f.present.mark < (m.states g).epoch = found.1 in
          (found.0, omega (arith, low, epoch_is))

    -- ---- any entry by which it does

    abbrev at : Shard
    at = shard_in set g

    abbrev deed : ℕ → Entry → Deed
    deed number entry = record { shard = g; number = number; entry = entry }

    by_got : (number : ℕ) (place : Place) (told : RoundBody) → MayFollow set cs (deed number (kind.Got place.from place.epoch place.round told.total told.deltas)) → ends_run n c place told ≡ true → EachUnreachedIsZero cs g
    by_got number place told may ends =
        let taken : is_accepted n c place ≡ true = (and_parts (is_accepted n c place) (ends_last n (length (log_got place told c).got + 1) (log_got place told c)) ends).0 in
        let from : place.from < n = ltb-true place.from n (and_parts (nat_lt place.from n) _ taken).0 in
        each_found place told from (may.rests (λ same. got_differs n place told c taken same)) ends

    by_client : (number : ℕ) (entry : Entry) → plain_happening at (plain c) entry ≡ Some (sweeps g) → EachUnreachedIsZero cs g
    by_client number entry e = absurd (no_change (plain_happening at (plain c) entry) g (one-changes at (plain c) entry) e)

    by_deed : (number : ℕ) (entry : Entry) → MayFollow set cs (deed number entry) → happening_by set cs (deed number entry) ≡ Some (sweeps g) → EachUnreachedIsZero cs g
    by_deed number (kind.View view) may e = absurd (cc e)
    by_deed number (kind.Block op least bytes) may e = by_client number (kind.Block op least bytes) e
    by_deed number (kind.Mark op least block a) may e = by_client number (kind.Mark op least block a) e
    by_deed number (kind.Root op held a key) may e = by_client number (kind.Root op held a key) e
    by_deed number (kind.Drop op key) may e = by_client number (kind.Drop op key) e
    by_deed number (kind.Enter op epoch) may e = absurd (no_enter (may_enter c epoch) g e)
    by_deed number (kind.Got sender epoch round total deltas) may e =
        let place : Place = record { epoch = epoch; round = round; from = sender } in
        let told : RoundBody = record { total = total; deltas = deltas } in
        by_got number place told may (if_sweeps (ends_run n c place told) g e)
    by_deed number (kind.Base view epoch swept round frames) may e = absurd (cc e)
    by_deed number (kind.KeptBlock born mark flags count bytes) may e = absurd (cc e)
    by_deed number (kind.KeptRoot created dropped counted a key) may e = absurd (cc e)
    by_deed number (kind.KeptRound way other epoch round total deltas) may e = absurd (cc e)

  no_wrong : NoReachedIsZero cs
  no_wrong g a f h r = go f.zero refl
    where
      kept : Member (a, f) (catalogue_at cs g).blocks
      kept = member_from_contains (a, f) (catalogue_at cs g).blocks h

      low : g < n
      low = let inside = within cs g (a, f) kept in let each = st.joined.each in omega (arith, inside, each)

      go : (b : Bool) → f.zero ≡ b → (f.present.mark ≡ (catalogue_at cs g).epoch) ⊎ (f.zero ≡ false)
      go true z = inl (given_now g low (a, f) kept r z)
      go false z = inr z

  zeros_of : AreZerosRight set cs
  zeros_of = record { no_wrong_zero = no_wrong; exact_zero = λ next may e. by_deed next.shard may.of next.number next.entry may e }

-- ---- behind a lawful history

pub zeros_behind : (set : Setting) (history : List Deed) → IsShape set.shape → FitAll set (no_entries set) history → KeepFewRecords set (no_entries set) history → AreZerosRight set (follow_all set (no_entries set) history)
zeros_behind set history shape fits few =
    let all = history_goes set (shape_some set.shape shape) (shape_few set.shape shape) history fits few in
    zeros_of set (shape_some set.shape shape) (follow_all set (no_entries set) history) all.later all.standing

zeros_now : (set : Setting) (cs : List Folded) → IsShape set.shape → AreOfHistory set cs → AreZerosRight set cs
zeros_now set cs shape its = subst (λ (ds : List Folded). AreZerosRight set ds) its.gives (zeros_behind set its.history shape its.fits its.records)

pub zeros_right : (name : List ℕ → Address) (core : Core) (cs : List Folded) → IsLawful name core cs → ZerosRight name core
zeros_right name core cs its = record {
  folds = cs;
  lawful = its;
  now = zeros_now (setting_of name core) cs its.folded.valid its.lawful;
}
