-- How the moments of a run go on by a line, and by what is printed of it.
use Rattle.std.proofs.Common.{◌≡◌, inl, inr, ℕ, ◌-◌, ◌^◌, ◌<◌, ◌≤◌, Bool, true, false, cond, ◌&&◌, ◌==◌, List, [], ◌∷◌, ◌++◌, refl, sym, ap, subst, ◌∙◌, arith, nat_lt}
use Rattle.std.specs.Prelude.{All}
use Rattle.std.proofs.lemmas.Bool.{cases_lt}
use Rattle.std.proofs.lemmas.List.Elements.{All-weaker, All-head, All-tail}
use Rattle.hs_limits.specs.declared.shape.Shape.{Shape}
use Rattle.hs_model.specs.declared.course.CourseItem.{CourseItem}
use Rattle.hs_model.specs.declared.course.CourseItem.TheVariants as item
use Rattle.hs_ports.specs.Disk.{IsImage, Standing}
use Rattle.hs_journal.specs.declared.entry.JournalEntry.{JournalEntry}
use Rattle.hs_fold.specs.Good.{good_after, good_from, taken_after, taken_from}
use Rattle.hs_moments.specs.Machine.{Machine}
use Rattle.hs_moments.specs.Moments.{Since}
use Rattle.hs_journal.specs.Moments.{below}
use Rattle.hs_moments.specs.Joint.{moment_of, Tells, AtMoment, Rests, Advances, Holds}
use Rattle.hs_moments.proofs.MomentLemmas.{le-is, later-keeps}
use Rattle.hs_moments.proofs.CourseLemmas.{good-append, taken-append}

-- ---- later items and entries say nothing of a moment

one-late : (x : Bool) (i : CourseItem) (m p : ℕ) → m ≤ moment_of i → good_after x m p i ≡ x
one-late x (item.Begun line k) m p le = refl
one-late x (item.Took g number k) m p le = refl
one-late x (item.Good q k) m p le = rw (le-is k m le) (go (q == p))
  where
    go : (t : Bool) → cond (t && false) true x ≡ x
    go true = refl
    go false = refl
one-late x (item.Bad q k) m p le = rw (le-is k m le) (go (q == p))
  where
    go : (t : Bool) → cond (t && false) false x ≡ x
    go true = refl
    go false = refl

items-late : (x : Bool) (items : List CourseItem) (m p : ℕ) → All (λ i. m ≤ moment_of i) items → good_from x items m p ≡ x
items-late x [] m p h = refl
items-late x (i ∷ items) m p h = items-late (good_after x m p i) items m p (All-tail (λ i. m ≤ moment_of i) i items h) ∙ one-late x i m p (All-head (λ i. m ≤ moment_of i) i items h)

one-taken : (x : ℕ) (i : CourseItem) (m g : ℕ) → m ≤ moment_of i → taken_after x m g i ≡ x
one-taken x (item.Begun line k) m g le = refl
one-taken x (item.Good q k) m g le = refl
one-taken x (item.Bad q k) m g le = refl
one-taken x (item.Took h number k) m g le = rw (le-is k m le) (go (h == g))
  where
    go : (t : Bool) → cond (t && false) number x ≡ x
    go true = refl
    go false = refl

taken-late : (x : ℕ) (items : List CourseItem) (m g : ℕ) → All (λ i. m ≤ moment_of i) items → taken_from x items m g ≡ x
taken-late x [] m g h = refl
taken-late x (i ∷ items) m g h = taken-late (taken_after x m g i) items m g (All-tail (λ i. m ≤ moment_of i) i items h) ∙ one-taken x i m g (All-head (λ i. m ≤ moment_of i) i items h)

below-late : (m : ℕ) (journal more : List JournalEntry) → All (λ e. m ≤ e.moment) more → below m (journal ++ more) ≡ below m journal
below-late m [] [] h = refl
below-late m [] (e ∷ more) h = rw (le-is e.moment m (All-head (λ e. m ≤ e.moment) e more h)) (below-late m [] more (All-tail (λ e. m ≤ e.moment) e more h))
below-late m (e ∷ journal) more h = ap (λ rest. cond (nat_lt e.moment m) (e ∷ rest) rest) (below-late m journal more h)

module _ {State Event : Type 0} (M : Machine State Event) (Sane : State → Type 0) (shape : Shape) where
  tells-later : (course noted : List CourseItem) (journal more : List JournalEntry) (m : ℕ) (c : State) → All (λ i. m ≤ moment_of i) noted → All (λ e. m ≤ e.moment) more
      → Tells M Sane shape course journal m c → Tells M Sane shape (course ++ noted) (journal ++ more) m c
  tells-later course noted journal more m c late later t = record {
    sane = t.sane;
    answered = t.answered ∙ sym (below-late m journal more later);
    good = λ peer low. good-append false course noted m peer ∙ items-late (good_from false course m peer) noted m peer late ∙ t.good peer low;
    taken = λ shard low. taken-append 0 course noted m shard ∙ taken-late (taken_from 0 course m shard) noted m shard late ∙ t.taken shard low;
  }

  -- a line was done
  pub holds-more : (before now now' : ℕ) (course course' : List CourseItem) (journal journal' : List JournalEntry) (disks disks' : List Standing) (c' : State) → Advances M Sane shape now now' course course' journal journal' disks disks' c'
      → Holds M Sane shape before now course journal disks → Holds M Sane shape before now' course' journal' disks'
  holds-more before now now' course course' journal journal' disks disks' c' a h = record {
    moments = λ m low high fits. elim (cases_lt now m) [
      | inl above ↦ a.moments m above high fits
      | inr le ↦ old m low le fits
    ];
  }
    where
      old : (m : ℕ) → before < m → m ≤ now → m < 2 ^ 64 - 1 → AtMoment M Sane shape course' journal' m disks'
      old m low le fits =
          let at = h.moments m low le fits in
          let late = All-weaker (λ i. now ≤ moment_of i) (λ i. m ≤ moment_of i) (λ i k. omega (arith, k, le)) a.noted a.items in
          let later = All-weaker (λ e. now ≤ e.moment) (λ e. m ≤ e.moment) (λ e k. omega (arith, k, le)) a.more a.entered in
          record {
            core = at.core;
            tells = subst (λ cs. Tells M Sane shape cs journal' m at.core) (sym a.gone_on) (subst (λ js. Tells M Sane shape (course ++ a.noted) js m at.core) (sym a.added) (tells-later course a.noted journal a.more m at.core late later at.tells));
            lists = λ peer counted image left. at.lists peer counted image (record { sides = λ side. subst (λ l. IsImage l (image side)) (a.earlier peer m side le fits) (left.sides side) });
          }

  -- its entries are printed: the watch goes on, and the disks stay
  pub holds-printed : (before now now' : ℕ) (course : List CourseItem) (journal : List JournalEntry) (disks : List Standing) (c : State) → Since disks → Rests M Sane shape course journal now disks c
      → Holds M Sane shape before now course journal disks → Holds M Sane shape before now' course journal disks
  holds-printed before now now' course journal disks c since r h = record {
    moments = λ m low high fits. elim (cases_lt now m) [
      | inl above ↦ record {
        core = c;
        tells = r.tells m above;
        lists = λ peer counted image left. r.keeps.fine peer counted image (record { sides = λ side. subst (λ l. IsImage l (image side)) (since peer side m (let called = r.keeps.called peer in omega (arith, called, above))) (left.sides side) });
      }
      | inr le ↦ h.moments m low le fits
    ];
  }

  pub rests-printed : (now now' : ℕ) (course : List CourseItem) (journal : List JournalEntry) (disks : List Standing) (c : State) → now ≤ now' → Rests M Sane shape course journal now disks c → Rests M Sane shape course journal now' disks c
  rests-printed now now' course journal disks c le r = record { keeps = later-keeps M c now now' disks le r.keeps; tells = λ m lt. r.tells m (omega (arith, le, lt)) }
