-- The machine of a shard's copies with other lists behind those of peers that are neither good nor follow, where each is a front of one that was there.
use Rattle.std.proofs.Common.{◌≡◌, ◌∙◌, ap, sym, subst, refl, arith, ℕ, suc, ◌+◌, ◌-◌, ◌<◌, ◌≤◌, leb, Bool, true, false, if◌then◌else◌, List, [], ◌∷◌, ◌++◌, length}
use Rattle.std.proofs.lemmas.Bool.{leb-true}
use Rattle.std.proofs.lemmas.Bool.Decides.{leb_tells}
use Rattle.std.specs.Prelude.{drop, ◌&&◌}
use Rattle.hs_copies.proofs.ListLemmas.{agree_front_of, agree_sym, behind_less, below_prefix, front_append, front_refl, rises_prefix}
use Rattle.hs_copies.proofs.StampLemmas.{stamped_prefix}
use Rattle.hs_copies.specs.CoreCopies.{CoreCopies}
use Rattle.hs_copies.specs.Invariant.{AreFaithful, IsGoodCopy, IsTrue, reach}
use Rattle.hs_copies.specs.Lists.{Agree, IsFront, Item}
use Rattle.hs_copies.specs.Machine.{Clearing, Copies, Down, EntryNotice, Following, Good, Notice, PeerCopy, SealedNotice, Stage}
use Rattle.hs_copies.specs.Stamps.{AreStampsTold}
use Rattle.hs_copies.specs.Standing.{ArePeers, StandsFor, is_good_stage, stamps_of}
use Rattle.hs_core_copies.specs.InStep.{no_line}
use Rattle.hs_entry.specs.declared.entry.Entry.{Entry}
use Rattle.hs_members.specs.Members.{status}
use Rattle.hs_replica.specs.Group.{IsHome, copy_of}

-- ---- other lists

-- what each peer reaches is a front of what one reached; good peers, and those that follow, are as they were
pub record IsTakenFrom {X : Type 0} (old new : ℕ → PeerCopy X) : Type 0 where
  pub fronts : (p : ℕ) → (y : ℕ) × IsFront (reach (new p)) (reach (old y))
  pub good : (p : ℕ) → (old p).stage ≡ Good → new p ≡ old p
  pub stays_good : (p : ℕ) → (new p).stage ≡ Good → new p ≡ old p
  pub follows : (p : ℕ) → (new p).stage ≡ Following → new p ≡ old p

agree_fronts : {X : Type 0} (xs ys zs ws : List (Item X)) → IsFront xs zs → IsFront ys ws → Agree zs ws → Agree xs ys
agree_fronts xs ys zs ws p q a = agree_front_of xs zs ys p (agree_sym ys zs (agree_front_of ys ws zs q (agree_sym zs ws a)))

pub faithful_from : {X : Type 0} (s : Copies X) (f : ℕ → PeerCopy X) → IsTakenFrom s.peers f → AreFaithful s → AreFaithful (record s { peers = f })
faithful_from {X = X} s f k r = record {
  rises = r.rises;
  risen = λ p. let y = k.fronts p in rises_prefix 0 (reach (f p)) (reach (s.peers y.0)) y.1 (r.risen y.0);
  below = λ p. let y = k.fronts p in below_prefix (suc s.view) (reach (f p)) (reach (s.peers y.0)) y.1 (r.below y.0);
  behind = λ p. let y = k.fronts p in behind_less (reach (f p)) (reach (s.peers y.0)) s.log y.1 (r.behind y.0);
  agree = λ p q.
      let y = k.fronts p in
      let z = k.fronts q in
      agree_fronts (reach (f p)) (reach (f q)) (reach (s.peers y.0)) (reach (s.peers z.0)) y.1 z.1 (r.agree y.0 z.0);
  led =
      let same : f r.led.0 ≡ s.peers r.led.0 = k.good r.led.0 r.led.1 in
      (r.led.0, ap (λ (c : PeerCopy X). c.stage) same ∙ r.led.1, ap (λ (c : PeerCopy X). c.list) same ∙ r.led.2);
  good = λ p g.
      let same : f p ≡ s.peers p = k.stays_good p g in
      subst (IsGoodCopy s.log s.took) (sym same) (r.good p (ap (λ (c : PeerCopy X). c.stage) (sym same) ∙ g));
  following = λ p g.
      let same : f p ≡ s.peers p = k.follows p g in
      subst (λ (c : PeerCopy X). IsFront (reach c) s.log × (length c.list ≡ c.sealed)) (sym same) (r.following p (ap (λ (c : PeerCopy X). c.stage) (sym same) ∙ g));
  took = r.took;
  sent = λ m i. told m (r.sent m i);
}
  where
    told : (m : Notice X) → IsTrue s m → IsTrue (record s { peers = f }) m
    told (EntryNotice to view place x) h = h
    told (SealedNotice from view number) h = (
      h.0,
      λ e.
          let i = h.1 e in
          let same : f from ≡ s.peers from = k.good from i.0 in
          (ap (λ (c : PeerCopy X). c.stage) same ∙ i.0, subst (λ (c : PeerCopy X). number ≤ c.sealed) (sym same) i.1),
    )

told_from : {X : Type 0} (tells : ℕ → X → ℕ) (start : List (Item X)) (v : ℕ) (s : Copies X) (f : ℕ → PeerCopy X) → IsTakenFrom s.peers f → AreStampsTold tells start v s → AreStampsTold tells start v (record s { peers = f })
told_from tells start v s f k t = record {
  opening = t.opening;
  ascends = t.ascends;
  ends = t.ends;
  each = λ q. let y = k.fronts q in stamped_prefix tells (length start) v (reach (f q)) (reach (s.peers y.0)) y.1 (t.each y.0);
  current = t.current;
}

-- a copy is the same but for what is added
pub record IsSameCopy (old new : PeerCopy Entry) : Type 0 where
  pub stage : new.stage ≡ old.stage
  pub list : new.list ≡ old.list
  pub sealed : new.sealed ≡ old.sealed
  pub known : new.known ≡ old.known

pub same_copy : (c : PeerCopy Entry) → IsSameCopy c c
same_copy c = record { stage = refl; list = refl; sealed = refl; known = refl }

pub stands_from : (c : CoreCopies) (s : Copies Entry) (f : ℕ → PeerCopy Entry) → IsTakenFrom s.peers f → ((q : ℕ) → IsHome c.group q → IsSameCopy (s.peers q) (f q)) → ((q : ℕ) → (IsHome c.group q → ⊥) → (f q).stage ≡ Down)
    → StandsFor no_line c s → StandsFor no_line c (record s { peers = f })
stands_from c s f k same elsewhere st = record {
  shape = st.shape;
  members = st.members;
  shard = st.shard;
  copies = st.copies;
  view = st.view;
  of_members = st.of_members;
  peers = peers;
  front = st.front;
  waiting = st.waiting;
  sent = st.sent;
  views = st.views;
  lines = record {
    waiting = λ y n k line. let wrong = line.of_line in absurd (cc wrong);
    once = λ y m n k one two. let wrong = one.of_line in absurd (cc wrong);
  };
  faithful = faithful_from s f k st.faithful;
  begun = st.begun;
  begun_at = st.begun_at;
  told = told_from _ st.begun st.begun_at s f k st.told;
}
  where
    peers : ArePeers (IsHome c.group) (copy_of c.group) (λ q. status q c.members) c.rejoins f
    peers = record {
      each = λ q h.
          let i : IsSameCopy (s.peers q) (f q) = same q h in
          let j = st.peers.each q h in
          record { good = j.good ∙ ap is_good_stage (sym i.stage); stamps = j.stamps ∙ ap stamps_of (sym i.list); sealed = j.sealed ∙ sym i.sealed; known = λ g. j.known g ∙ sym i.known };
      stage = λ q h. let i : IsSameCopy (s.peers q) (f q) = same q h in i.stage ∙ st.peers.stage q h;
      counted = λ q h e. let i : IsSameCopy (s.peers q) (f q) = same q h in st.peers.counted q h (sym i.stage ∙ e) ∙ ap (λ (l : List (Item Entry)). length l) (sym i.list);
      still = λ q h e. let i : IsSameCopy (s.peers q) (f q) = same q h in ap (λ (p : PeerCopy Entry). p.adding) (k.follows q e) ∙ st.peers.still q h (sym i.stage ∙ e);
      elsewhere = elsewhere;
    }

-- ---- lists that are kept beside, each at a number that is no peer's

abbrev pub keeper : {X : Type 0} → List (Item X) → PeerCopy X
keeper list = record { stage = Down; list = list; adding = []; sealed = 0; known = 0 }

abbrev pub with_kept : {X : Type 0} → ℕ → (ℕ → List (Item X)) → (ℕ → PeerCopy X) → ℕ → PeerCopy X
with_kept m lists peers p = if leb m p then keeper (lists (p - m)) else peers p

pub kept_cases : {X : Type 0} (P : PeerCopy X → Type 0) (m : ℕ) (lists : ℕ → List (Item X)) (peers : ℕ → PeerCopy X) (p : ℕ) → (m ≤ p → P (keeper (lists (p - m)))) → (p < m → P (peers p)) → P (with_kept m lists peers p)
kept_cases {X = X} P m lists peers p high low = go (leb m p) refl
  where
    go : (b : Bool) → leb m p ≡ b → P (if b then keeper (lists (p - m)) else peers p)
    go true e = high (leb-true m p e)
    go false e = low (grind (arith, leb_tells m p))

down_only : (k : Stage) → k ≡ Down → k ≡ Good → ⊥
down_only k a b = cc (a, b)

down_not_following : (k : Stage) → k ≡ Down → k ≡ Following → ⊥
down_not_following k a b = cc (a, b)

pub kept_taken : {X : Type 0} (m : ℕ) (lists : ℕ → List (Item X)) (s : Copies X) → ((p : ℕ) → m ≤ p → (s.peers p).stage ≡ Down) → ((q : ℕ) → (y : ℕ) × IsFront (lists q) (reach (s.peers y)))
    → IsTakenFrom s.peers (with_kept m lists s.peers)
kept_taken {X = X} m lists s far fronts = record {
  fronts = λ p. kept_cases (λ (c : PeerCopy X). (y : ℕ) × IsFront (reach c) (reach (s.peers y))) m lists s.peers p
      (λ h. let f = fronts (p - m) in (f.0, rw (append_none (lists (p - m))) f.1)) (λ h. (p, front_refl (reach (s.peers p))));
  good = λ p g. kept_cases (λ (c : PeerCopy X). c ≡ s.peers p) m lists s.peers p (λ h. absurd (down_only (s.peers p).stage (far p h) g)) (λ h. refl);
  stays_good = λ p. kept_cases (λ (c : PeerCopy X). c.stage ≡ Good → c ≡ s.peers p) m lists s.peers p (λ h g. absurd (down_only Down refl g)) (λ h g. refl);
  follows = λ p. kept_cases (λ (c : PeerCopy X). c.stage ≡ Following → c ≡ s.peers p) m lists s.peers p (λ h g. absurd (down_not_following Down refl g)) (λ h g. refl);
}
  where
    append_none : (xs : List (Item X)) → xs ++ [] ≡ xs
    append_none [] = refl
    append_none (x ∷ xs) = ap (λ ys. x ∷ ys) (append_none xs)

-- ---- and are put behind lists again

abbrev pub is_resting : Stage → Bool
is_resting Good = false
is_resting Clearing = true
is_resting Following = false
is_resting Down = true

abbrev pub with_more : {X : Type 0} → (ℕ → Bool) → ℕ → (ℕ → PeerCopy X) → ℕ → PeerCopy X
with_more own m peers q = if own q && is_resting (peers q).stage then record (peers q) { adding = drop (length (peers q).list) (peers (m + q)).list } else peers q

pub more_cases : {X : Type 0} (P : PeerCopy X → Type 0) (own : ℕ → Bool) (m : ℕ) (peers : ℕ → PeerCopy X) (q : ℕ)
    → (own q ≡ true → is_resting (peers q).stage ≡ true → P (record (peers q) { adding = drop (length (peers q).list) (peers (m + q)).list })) → P (peers q) → P (with_more own m peers q)
more_cases {X = X} P own m peers q put same = go (own q) refl (is_resting (peers q).stage) refl
  where
    go : (a : Bool) → own q ≡ a → (b : Bool) → is_resting (peers q).stage ≡ b → P (if a && b then record (peers q) { adding = drop (length (peers q).list) (peers (m + q)).list } else peers q)
    go true e true i = put e i
    go true e false i = same
    go false e b i = same

pub more_put : {X : Type 0} (own : ℕ → Bool) (m : ℕ) (peers : ℕ → PeerCopy X) (q : ℕ) → own q ≡ true → is_resting (peers q).stage ≡ true → with_more own m peers q ≡ record (peers q) { adding = drop (length (peers q).list) (peers (m + q)).list }
more_put own m peers q e i = rw (e, i) refl

pub front_rest : {X : Type 0} (xs ys : List X) → IsFront xs ys → xs ++ drop (length xs) ys ≡ ys
front_rest [] ys f = refl
front_rest (x ∷ xs) [] f = absurd f
front_rest (x ∷ xs) (y ∷ ys) f = ap (λ z. z ∷ (xs ++ drop (length xs) ys)) f.0 ∙ ap (λ zs. y ∷ zs) (front_rest xs ys f.1)

rests_not_good : (k : Stage) → is_resting k ≡ true → k ≡ Good → ⊥
rests_not_good Good e i = let wrong : false ≡ true = e in cc wrong
rests_not_good Clearing e i = cc i
rests_not_good Following e i = let wrong : false ≡ true = e in cc wrong
rests_not_good Down e i = cc i

rests_not_following : (k : Stage) → is_resting k ≡ true → k ≡ Following → ⊥
rests_not_following Good e i = let wrong : false ≡ true = e in cc wrong
rests_not_following Clearing e i = cc i
rests_not_following Following e i = let wrong : false ≡ true = e in cc wrong
rests_not_following Down e i = cc i

pub more_taken : {X : Type 0} (own : ℕ → Bool) (m : ℕ) (s : Copies X) → ((q : ℕ) → own q ≡ true → is_resting (s.peers q).stage ≡ true → IsFront (s.peers q).list (s.peers (m + q)).list)
    → IsTakenFrom s.peers (with_more own m s.peers)
more_taken {X = X} own m s h = record {
  fronts = λ p. more_cases (λ (c : PeerCopy X). (y : ℕ) × IsFront (reach c) (reach (s.peers y))) own m s.peers p
      (λ o r. (m + p, rw (front_rest (s.peers p).list (s.peers (m + p)).list (h p o r)) (front_append (s.peers (m + p)).list (s.peers (m + p)).adding)))
      (p, front_refl (reach (s.peers p)));
  good = λ p g. more_cases (λ (c : PeerCopy X). c ≡ s.peers p) own m s.peers p (λ o r. absurd (rests_not_good (s.peers p).stage r g)) refl;
  stays_good = λ p. more_cases (λ (c : PeerCopy X). c.stage ≡ Good → c ≡ s.peers p) own m s.peers p (λ o r g. absurd (rests_not_good (s.peers p).stage r g)) (λ g. refl);
  follows = λ p. more_cases (λ (c : PeerCopy X). c.stage ≡ Following → c ≡ s.peers p) own m s.peers p (λ o r g. absurd (rests_not_following (s.peers p).stage r g)) (λ g. refl);
}
