-- Runs of events, and what is so at each moment of one event, or of some behind others.
use Rattle.std.proofs.Common.{◌≡◌, ◌∙◌, inl, inr, ap, sym, subst, ℕ, ◌-◌, ◌^◌, ◌<◌, ◌≤◌, Bool, true, false, List, [], ◌∷◌, ◌++◌, Option, Some, None, refl, arith, is_none, nat_lt}
use Rattle.std.proofs.lemmas.Bool.{cases_eq, cases_lt}
use Rattle.std.specs.Prelude.{Result, Ok, ⊤, if◌then◌else◌}
use Rattle.hs_cluster.proofs.EventLemmas.{still_going}
use Rattle.hs_cluster.specs.Calls.{Does, done_of, ran_out}
use Rattle.hs_cluster.specs.declared.fault.ClusterFault.{ClusterFault}
use Rattle.hs_cluster.specs.Disks.{DiskSeen, stands_of}
use Rattle.hs_cluster.specs.Kept.{AreStored, AreTold, IsTold, LeavesLists, Span}
use Rattle.hs_cluster.specs.Running.{Running}
use Rattle.hs_core_words.specs.declared.event.Event.{Event}
use Rattle.hs_core_words.specs.State.{Core}
use Rattle.hs_core_words.specs.Step.{step}
use Rattle.hs_desk.specs.declared.fault.CoreFault.{CoreFault}
use Rattle.hs_events.specs.Asked.{report_in}
use Rattle.hs_events.specs.Course.{happened, is_refused, steps}
use Rattle.hs_events.specs.Due.{Events, MomentsRise}
use Rattle.hs_events.specs.Whole.{Whole, counts, step_whole}
use Rattle.hs_fold.specs.Images.{IsLeft}
use Rattle.hs_moments.proofs.CoreLemmas.{shape_at}
use Rattle.hs_moments.proofs.HappenedLemmas.{happened_rise}
use Rattle.hs_moments.proofs.MomentLemmas.{call-keeps, le-is, lt-is}
use Rattle.hs_moments.specs.Machine.{runs, state_at, until}
use Rattle.hs_moments.specs.Moments.{EachImageOfOne, GivesFine, Grows, IsStanding, Keeps, ListsAtMoments, Since}
use Rattle.hs_moments.specs.WholeMachine.{whole_machine}
use Rattle.hs_ports.specs.declared.disk.Side.{Side}
use Rattle.hs_ports.specs.Disk.{IsImage, Standing}
use Rattle.hs_ports.specs.Moments.{disk_at}

-- ---- runs of events

pub runs_append : (c : Whole) (es fs : Events) → runs whole_machine c (es ++ fs) ≡ runs whole_machine (runs whole_machine c es) fs
runs_append c [] fs = refl
runs_append c (e ∷ es) fs = runs_append (step_whole e.0 e.1 c) es fs

pub runs_core : (c : Whole) (es : Events) → (runs whole_machine c es).core ≡ steps c.core es
runs_core c [] = refl
runs_core c (e ∷ es) = runs_core (step_whole e.0 e.1 c) es

pub steps_shape : (es : Events) (core : Core) → (steps core es).members.shape ≡ core.members.shape
steps_shape [] core = refl
steps_shape (e ∷ es) core = steps_shape es (step e.0 e.1 core) ∙ shape_at core e.0 e.1

-- a core that has ended stays, so what a core that goes on has behind it was not refused
goes_unrefused : (core : Core) (es : Events) → (steps core es).ended ≡ None → is_refused core.ended ≡ false
goes_unrefused core [] h = ap is_refused h
goes_unrefused core (e ∷ es) h = go (goes_unrefused core es) core.ended refl
  where
    go : ((steps core es).ended ≡ None → is_refused core.ended ≡ false) → (o : Option CoreFault) → core.ended ≡ o → is_refused core.ended ≡ false
    go ih None is = ap is_refused is
    go ih (Some fault) is =
        let ended : is_none core.ended ≡ false = ap is_none is in
        let same : step e.0 e.1 core ≡ core = rw ended refl in
        ih (ap (λ x. (steps x es).ended) (sym same) ∙ h)

pub happened_then : (core : Core) (es fs : Events) → (steps core es).ended ≡ None → happened core (es ++ fs) ≡ es ++ happened (steps core es) fs
happened_then core [] fs h = refl
happened_then core (e ∷ es) fs h =
    let there : is_refused (step e.0 e.1 core).ended ≡ false = goes_unrefused (step e.0 e.1 core) es h in
    ap (λ b. if b then [] else e ∷ happened (step e.0 e.1 core) (es ++ fs)) there ∙ ap (λ xs. e ∷ xs) (happened_then (step e.0 e.1 core) es fs h)

nil_append : (es : Events) → es ++ [] ≡ es
nil_append [] = refl
nil_append (e ∷ es) = ap (λ xs. e ∷ xs) (nil_append es)

pub all_happened : (core : Core) (es : Events) → (steps core es).ended ≡ None → happened core es ≡ es
all_happened core es h = ap (λ xs. happened core xs) (sym (nil_append es)) ∙ happened_then core es [] h ∙ nil_append es

-- ---- the events below a moment

none_below : (m from to : ℕ) (es : Events) → m ≤ from → MomentsRise from es to → until m es ≡ []
none_below m from to [] low rises = refl
none_below m from to (e ∷ es) low rises =
    let is : nat_lt e.1 m ≡ false = le-is e.1 m (let above = rises.0 in omega (arith, low, above)) in
    ap (λ b. if b then e ∷ until m es else []) is

until_low : (m from to : ℕ) (es fs : Events) → m ≤ from → MomentsRise from fs to → until m (es ++ fs) ≡ until m es
until_low m from to [] fs low rises = none_below m from to fs low rises
until_low m from to (e ∷ es) fs low rises = ap (λ xs. if nat_lt e.1 m then e ∷ xs else []) (until_low m from to es fs low rises)

pub rises_to : (from to : ℕ) (es : Events) → MomentsRise from es to → from ≤ to
rises_to from to [] h = h
rises_to from to (e ∷ es) h =
    let low = h.0 in
    let rest = rises_to e.1 to es h.1 in
    omega (arith, low, rest)

until_high : (m from to : ℕ) (es fs : Events) → to < m → MomentsRise from es to → until m (es ++ fs) ≡ es ++ until m fs
until_high m from to [] fs high rises = refl
until_high m from to (e ∷ es) fs high rises =
    let is : nat_lt e.1 m ≡ true = lt-is e.1 m (let rest = rises_to e.1 to es rises.1 in omega (arith, high, rest)) in
    ap (λ b. if b then e ∷ until m (es ++ fs) else []) is ∙ ap (λ xs. e ∷ xs) (until_high m e.1 to es fs high rises.1)

-- ---- one event

module _ (c : Whole) (e : Event) (now : ℕ) where
  abbrev events : Result ⊤ ClusterFault → Events
  events r = done_of r (e, now)

  -- it is at the last moment
  pub none_yet : (r : Result ⊤ ClusterFault) (m : ℕ) → m ≤ now → until m (happened c.core (events r)) ≡ []
  none_yet r m low = go (ran_out r)
    where
      last : (b : Bool) → until m (if b then [] else (e, now) ∷ []) ≡ []
      last true = refl
      last false = none_below m now now ((e, now) ∷ []) low (omega arith, omega arith)

      go : (b : Bool) → until m (happened c.core (if b then [] else (e, now) ∷ [])) ≡ []
      go true = refl
      go false = last (is_refused (step e now c.core).ended)

  -- what is so before it, and behind it where it happened
  pub behind : (Q : Whole → Type 0) (r : Result ⊤ ClusterFault) → Q c → (is_refused (step e now c.core).ended ≡ false → Q (step_whole e now c)) → Q (runs whole_machine c (happened c.core (events r)))
  behind Q r before after = go (ran_out r)
    where
      last : (b : Bool) → is_refused (step e now c.core).ended ≡ b → Q (runs whole_machine c (if b then [] else (e, now) ∷ []))
      last true is = before
      last false is = after is

      go : (b : Bool) → Q (runs whole_machine c (happened c.core (if b then [] else (e, now) ∷ [])))
      go true = before
      go false = last (is_refused (step e now c.core).ended) refl

  pub told_by : (r : Result ⊤ ClusterFault) → IsTold c (report_in e) → AreTold c (events r)
  told_by r h = go (ran_out r)
    where
      go : (b : Bool) → AreTold c (if b then [] else (e, now) ∷ [])
      go true = tt
      go false = (h, tt)

-- behind an event that answered Ok the core goes on
pub step_going : (e : Event) (now : ℕ) (old new : Running) → Does ((e, now) ∷ []) old new (Ok tt) → (step e now old.core).ended ≡ None
step_going e now old new does = ap (λ (x : Core). x.ended) (sym (does.core refl)) ∙ still_going ((e, now) ∷ []) old new does

-- ---- a call, and the event that tells of it

module _ (c : Whole) (before now peer : ℕ) (disks left : List Standing) (since : Since disks) (keeps : Keeps whole_machine c before disks)
    (call : EachImageOfOne before now peer disks left (λ image. counts c peer ≡ true → GivesFine whole_machine c peer image)) where
  pub call_earlier : (k m : ℕ) (side : Side) → m ≤ before → m < 2 ^ 64 - 1 → (disk_at left k).past m side ≡ (disk_at disks k).past m side
  call_earlier k m side low fits = elim (cases_eq k peer) [
    | inl same ↦ subst (λ p. (disk_at left p).past m side ≡ (disk_at disks p).past m side) (sym same) (call.earlier side m low fits)
    | inr differs ↦ ap (λ (d : Standing). d.past m side) (call.others k differs)
  ]

  -- the core stands still while it acts
  pub call_moments : (es : Events) → ((m : ℕ) → m ≤ now → until m es ≡ []) → ListsAtMoments whole_machine c es (record { before = before; now = now; disks = left })
  call_moments es none = record {
    fine = λ m k low high fits counted image is_left.
        let same : state_at whole_machine c es m ≡ c = ap (λ xs. runs whole_machine c xs) (none m high) in
        subst (λ s. GivesFine whole_machine s k image) (sym same) (at m k low fits (subst (λ s. counts s k ≡ true) same counted) image is_left);
  }
    where
      at : (m k : ℕ) → before < m → m < 2 ^ 64 - 1 → counts c k ≡ true → (image : Side → List ℕ) → IsLeft (disk_at left k) m image → GivesFine whole_machine c k image
      at m k low fits counted image is_left = elim (cases_eq k peer) [
        | inl same ↦ subst (λ p. GivesFine whole_machine c p image) (sym same)
            (call.each m low fits image (subst (λ p. IsLeft (disk_at left p) m image) same is_left) (subst (λ p. counts c p ≡ true) same counted))
        | inr differs ↦ keeps.fine k counted image (stands (subst (λ d. IsLeft d m image) (call.others k differs) is_left))
      ]
        where
          stands : IsLeft (disk_at disks k) m image → IsStanding (disk_at disks k) image
          stands l = record { sides = λ side. subst (λ x. IsImage x (image side)) (since k side m (let last = keeps.called k in omega (arith, last, low))) (l.sides side) }

  same_grows : (k : ℕ) → Grows whole_machine c c k
  same_grows k = record { counted = λ h. h; front = λ list h. h; long = omega arith }

  -- no event came of it
  pub call_keeps : Keeps whole_machine c now left
  call_keeps = call-keeps whole_machine c c before now peer disks left (λ image. counts c peer ≡ true → GivesFine whole_machine c peer image) (λ k differs. same_grows k) call
      (λ counted image stands. call.standing image stands counted) keeps

  pub call_lists : (span : Span) → span.before ≡ before → span.now ≡ now → stands_of span.disks ≡ disks → stands_of span.left ≡ left → LeavesLists c [] span
  call_lists span is_before is_now is_disks is_left = record {
    earlier = λ k m side low fits.
        subst (λ ds. (disk_at (stands_of span.left) k).past m side ≡ (disk_at ds k).past m side) (sym is_disks)
        (subst (λ ds. (disk_at ds k).past m side ≡ (disk_at disks k).past m side) (sym is_left) (call_earlier k m side (subst (λ b. m ≤ b) is_before low) fits));
    moments = subst (λ b. ListsAtMoments whole_machine c [] (record { before = b; now = span.now; disks = (stands_of span.left) })) (sym is_before)
        (subst (λ n. ListsAtMoments whole_machine c [] (record { before = before; now = n; disks = (stands_of span.left) })) (sym is_now)
        (subst (λ ds. ListsAtMoments whole_machine c [] (record { before = before; now = now; disks = ds })) (sym is_left) (call_moments [] (λ m low. refl))));
    keeps = subst (λ n. Keeps whole_machine c n (stands_of span.left)) (sym is_now) (subst (λ ds. Keeps whole_machine c now ds) (sym is_left) call_keeps);
    told = tt;
  }

-- ---- some events behind others

pub told_then : (c : Whole) (es fs : Events) → AreTold c es → AreTold (runs whole_machine c es) fs → AreTold c (es ++ fs)
told_then c [] fs one two = two
told_then c (e ∷ es) fs one two = (one.0, told_then (step_whole e.0 e.1 c) es fs one.1 two)

-- what is to be read is there before each of both
pub stored_front : (c : Whole) (es fs : Events) → AreStored c (es ++ fs) → AreStored c es
stored_front c [] fs h = tt
stored_front c (e ∷ es) fs h = (h.0, stored_front (step_whole e.0 e.1 c) es fs h.1)

pub stored_back : (c : Whole) (es fs : Events) → AreStored c (es ++ fs) → AreStored (runs whole_machine c es) fs
stored_back c [] fs h = h
stored_back c (e ∷ es) fs h = stored_back (step_whole e.0 e.1 c) es fs h.1

pub moments_then : (c : Whole) (es fs : Events) (before mid now : ℕ) (between left : List Standing) → MomentsRise before es mid → MomentsRise mid fs now
    → ((k m : ℕ) (side : Side) → m ≤ mid → m < 2 ^ 64 - 1 → (disk_at left k).past m side ≡ (disk_at between k).past m side)
    → ListsAtMoments whole_machine c es (record { before = before; now = mid; disks = between }) → ListsAtMoments whole_machine (runs whole_machine c es) fs (record { before = mid; now = now; disks = left })
    → ListsAtMoments whole_machine c (es ++ fs) (record { before = before; now = now; disks = left })
moments_then c es fs before mid now between left rise on earlier one two = record {
  fine = λ m k low high fits counted image is_left. elim (cases_lt mid m) [
    | inl above ↦ late m k above high fits counted image is_left
    | inr le ↦ early m k low le fits counted image is_left
  ];
}
  where
    late : (m k : ℕ) → mid < m → m ≤ now → m < 2 ^ 64 - 1 → counts (state_at whole_machine c (es ++ fs) m) k ≡ true → (image : Side → List ℕ) → IsLeft (disk_at left k) m image
        → GivesFine whole_machine (state_at whole_machine c (es ++ fs) m) k image
    late m k above high fits counted image is_left =
        let same : state_at whole_machine c (es ++ fs) m ≡ state_at whole_machine (runs whole_machine c es) fs m = ap (λ xs. runs whole_machine c xs) (until_high m before mid es fs above rise) ∙ runs_append c es (until m fs) in
        subst (λ s. GivesFine whole_machine s k image) (sym same) (two.fine m k above high fits (subst (λ s. counts s k ≡ true) same counted) image is_left)

    early : (m k : ℕ) → before < m → m ≤ mid → m < 2 ^ 64 - 1 → counts (state_at whole_machine c (es ++ fs) m) k ≡ true → (image : Side → List ℕ) → IsLeft (disk_at left k) m image
        → GivesFine whole_machine (state_at whole_machine c (es ++ fs) m) k image
    early m k low le fits counted image is_left =
        let same : state_at whole_machine c (es ++ fs) m ≡ state_at whole_machine c es m = ap (λ xs. runs whole_machine c xs) (until_low m mid now es fs le on) in
        subst (λ s. GivesFine whole_machine s k image) (sym same)
        (one.fine m k low le fits (subst (λ s. counts s k ≡ true) same counted) image (record { sides = λ side. subst (λ x. IsImage x (image side)) (earlier k m side le fits) (is_left.sides side) }))

-- the lists at each moment of some, and of some behind them
pub lists_then : (c : Whole) (es fs : Events) (before mid now : ℕ) (old here new : Running) (disks between left : List DiskSeen) → (steps c.core es).ended ≡ None → MomentsRise before es mid → MomentsRise mid fs now
    → LeavesLists c es (record { before = before; now = mid; old = old; new = here; disks = disks; left = between })
    → LeavesLists (runs whole_machine c es) fs (record { before = mid; now = now; old = here; new = new; disks = between; left = left })
    → LeavesLists c (es ++ fs) (record { before = before; now = now; old = old; new = new; disks = disks; left = left })
lists_then c es fs before mid now old here new disks between left going rise on one two =
    let mine : happened c.core es ≡ es = all_happened c.core es going in
    let all : happened c.core (es ++ fs) ≡ es ++ happened (runs whole_machine c es).core fs = happened_then c.core es fs going ∙ ap (λ x. es ++ happened x fs) (sym (runs_core c es)) in
    record {
      earlier = λ k m side low fits. two.earlier k m side (let ticks = rises_to before mid es rise in omega (arith, low, ticks)) fits ∙ one.earlier k m side low fits;
      moments = subst (λ xs. ListsAtMoments whole_machine c xs (record { before = before; now = now; disks = (stands_of left) })) (sym all)
          (moments_then c es (happened (runs whole_machine c es).core fs) before mid now (stands_of between) (stands_of left) rise (happened_rise (runs whole_machine c es).core mid now fs on) two.earlier
          (subst (λ xs. ListsAtMoments whole_machine c xs (record { before = before; now = mid; disks = (stands_of between) })) mine one.moments) two.moments);
      keeps = subst (λ s. Keeps whole_machine s now (stands_of left)) (sym (ap (λ xs. runs whole_machine c xs) all ∙ runs_append c es (happened (runs whole_machine c es).core fs))) two.keeps;
      told = told_then c es fs one.told two.told;
    }
