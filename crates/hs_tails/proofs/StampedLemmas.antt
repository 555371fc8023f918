-- Lists that are stamped as their entries tell: where their entries are the same, so are their items.
use Rattle.std.proofs.Common.{◌≡◌, ◌∙◌, ap, sym, subst, refl, inl, inr, arith, ℕ, zero, suc, ◌<◌, ◌≤◌, List, [], ◌∷◌, ◌++◌, Some, length}
use Rattle.std.proofs.lemmas.Bool.{cases_lt}
use Rattle.std.specs.Prelude.{map, slice_get}
use Rattle.hs_copies.proofs.ChangeLemmas.{log_below}
use Rattle.hs_copies.proofs.OpenedLemmas.{settled_right}
use Rattle.hs_copies.proofs.StampLemmas.{log_tells, stamped_prefix}
use Rattle.hs_copies.specs.Invariant.{AreFaithful, reach}
use Rattle.hs_copies.specs.Lists.{AreBelow, IsFront, Item, Rises, end_view}
use Rattle.hs_copies.specs.Machine.{Copies}
use Rattle.hs_copies.specs.Stamps.{AreStamped, AreStampsTold, ToldRises, view_told}
use Rattle.hs_core_copies.specs.Lists.{numbered}
use Rattle.hs_entry.specs.declared.entry.Entry.{Entry}
use Rattle.hs_entry.specs.declared.entry.Entry.TheVariants as kind
use Rattle.hs_entry.specs.Entries.{IsPrefix}
use Rattle.hs_replica.specs.Group.{view_after}
use Rattle.hs_tails.proofs.EntryLemmas.{prefix_entries, what}

same_item : (x y : Item Entry) → x.view ≡ y.view → x.what ≡ y.what → x ≡ y
same_item x y v w = λ i. record { view = v i; what = w i }

first_entry : (x y : Entry) (xs ys : List Entry) → x ∷ xs ≡ y ∷ ys → x ≡ y
first_entry x y xs ys e = cc e

rest_entries : (x y : Entry) (xs ys : List Entry) → x ∷ xs ≡ y ∷ ys → xs ≡ ys
rest_entries x y xs ys e = cc e

-- a list whose entries begin those of another is a front of it
stamped_front : (n v : ℕ) (xs ys : List (Item Entry)) (rest : List Entry) → AreStamped view_after n v xs → AreStamped view_after n v ys → map what ys ≡ map what xs ++ rest → IsFront xs ys
stamped_front n v [] ys rest a b e = tt
stamped_front n v (x ∷ xs) [] rest a b e = absurd (cc e)
stamped_front zero v (x ∷ xs) (y ∷ ys) rest a b e =
    let same : x.what ≡ y.what = sym (first_entry y.what x.what (map what ys) (map what xs ++ rest) e) in
    let views : x.view ≡ y.view = a.0 ∙ ap (λ (k : Entry). view_after v k) same ∙ sym b.0 in
    (same_item x y views same, stamped_front zero x.view xs ys rest a.1 (subst (λ k. AreStamped view_after zero k ys) (sym views) b.1) (rest_entries y.what x.what (map what ys) (map what xs ++ rest) e))
stamped_front (suc n) v (x ∷ xs) (y ∷ ys) rest a b e =
    let same : x.what ≡ y.what = sym (first_entry y.what x.what (map what ys) (map what xs ++ rest) e) in
    (same_item x y (a.0 ∙ sym b.0) same, stamped_front n v xs ys rest a.1 b.1 (rest_entries y.what x.what (map what ys) (map what xs ++ rest) e))

-- ---- the view at the end

-- a View behind the first so many has its own view
view_item : (n v i : ℕ) (xs : List (Item Entry)) (x : Item Entry) (view : ℕ) → AreStamped view_after n v xs → n ≤ i → slice_get xs i ≡ Some x → x.what ≡ kind.View view → x.view ≡ view
view_item n v i [] x view a low at is = absurd (cc at)
view_item zero v zero (y ∷ xs) x view a low at is =
    let same : y ≡ x = some_item y x at in
    ap (λ (z : Item Entry). z.view) (sym same) ∙ a.0 ∙ ap (λ (z : Item Entry). view_after v z.what) same ∙ ap (λ (k : Entry). view_after v k) is
  where
    some_item : (y x : Item Entry) → Some y ≡ Some x → y ≡ x
    some_item y x e = cc e
view_item zero v (suc i) (y ∷ xs) x view a low at is = view_item zero y.view i xs x view a.1 (omega arith) at is
view_item (suc n) v zero (y ∷ xs) x view a low at is = absurd (omega (arith, low))
view_item (suc n) v (suc i) (y ∷ xs) x view a low at is = view_item n v i xs x view a.1 (omega (arith, low)) at is

up_to_end : (d : ℕ) (xs : List (Item Entry)) → Rises d xs → d ≤ end_view d xs
up_to_end d [] rises = omega arith
up_to_end d (x ∷ xs) rises = let rest = up_to_end x.view xs rises.1 in let first = rises.0 in omega (arith, rest, first)

item_up : (d i : ℕ) (xs : List (Item Entry)) (x : Item Entry) → Rises d xs → slice_get xs i ≡ Some x → x.view ≤ end_view d xs
item_up d i [] x rises at = absurd (cc at)
item_up d zero (y ∷ xs) x rises at =
    let same : y ≡ x = some_item y x at in
    subst (λ (z : Item Entry). z.view ≤ end_view y.view xs) same (up_to_end y.view xs rises.1)
  where
    some_item : (y x : Item Entry) → Some y ≡ Some x → y ≡ x
    some_item y x e = cc e
item_up d (suc i) (y ∷ xs) x rises at = item_up y.view i xs x rises.1 at

front_up : (d : ℕ) (xs ys : List (Item Entry)) → IsFront xs ys → Rises d ys → end_view d xs ≤ end_view d ys
front_up d [] ys f rises = up_to_end d ys rises
front_up d (x ∷ xs) [] f rises = absurd f
front_up d (x ∷ xs) (y ∷ ys) f rises =
    let same : x.view ≡ y.view = ap (λ (z : Item Entry). z.view) f.0 in
    let rest = front_up y.view xs ys f.1 rises.1 in
    subst (λ k. end_view k xs ≤ end_view y.view ys) (sym same) rest

below_end : (v d : ℕ) (xs : List (Item Entry)) → AreBelow (suc v) xs → d ≤ v → end_view d xs ≤ v
below_end v d [] b low = low
below_end v d (x ∷ xs) b low = let first = b.0 in below_end v x.view xs b.1 (omega (arith, first))

front_rises : (d : ℕ) (xs ys : List (Item Entry)) → IsFront xs ys → Rises d ys → Rises d xs
front_rises d [] ys f rises = tt
front_rises d (x ∷ xs) [] f rises = absurd f
front_rises d (x ∷ xs) (y ∷ ys) f rises = subst (λ (z : Item Entry). (d ≤ z.view) × Rises z.view xs) (sym f.0) (rises.0, front_rises y.view xs ys f.1 rises.1)

front_below : (v : ℕ) (xs ys : List (Item Entry)) → IsFront xs ys → AreBelow v ys → AreBelow v xs
front_below v [] ys f b = tt
front_below v (x ∷ xs) [] f b = absurd f
front_below v (x ∷ xs) (y ∷ ys) f b = (subst (λ (z : Item Entry). z.view < v) (sym f.0) b.0, front_below v xs ys f.1 b.1)

-- ---- an item at a place

some_entry : (y z : Entry) → Some y ≡ Some z → y ≡ z
some_entry y z e = cc e

item_at : (i : ℕ) (xs : List (Item Entry)) (entry : Entry) → slice_get (map what xs) i ≡ Some entry → (x : Item Entry) × ((slice_get xs i ≡ Some x) × (x.what ≡ entry))
item_at i [] entry e = absurd (cc e)
item_at zero (x ∷ xs) entry e = (x, (refl, some_entry x.what entry e))
item_at (suc i) (x ∷ xs) entry e = item_at i xs entry e

-- of the first so many
early_item : (n v i : ℕ) (xs : List (Item Entry)) (x : Item Entry) → AreStamped view_after n v xs → i < n → slice_get xs i ≡ Some x → x.view ≡ v
early_item n v i [] x a low at = absurd (cc at)
early_item zero v i (y ∷ xs) x a low at = absurd (omega (arith, low))
early_item (suc n) v zero (y ∷ xs) x a low at = let same : y ≡ x = some_item y x at in ap (λ (z : Item Entry). z.view) (sym same) ∙ a.0
  where
    some_item : (y x : Item Entry) → Some y ≡ Some x → y ≡ x
    some_item y x e = cc e
early_item (suc n) v (suc i) (y ∷ xs) x a low at = early_item n v i xs x a.1 (omega (arith, low)) at

front_entry : (i : ℕ) (xs ys : List (Item Entry)) (entry : Entry) → IsFront xs ys → i < length xs → slice_get (map what ys) i ≡ Some entry → slice_get (map what xs) i ≡ Some entry
front_entry i [] ys entry f low at = absurd (omega (arith, low))
front_entry i (x ∷ xs) [] entry f low at = absurd f
front_entry zero (x ∷ xs) (y ∷ ys) entry f low at = ap (λ (z : Item Entry). Some z.what) f.0 ∙ at
front_entry (suc i) (x ∷ xs) (y ∷ ys) entry f low at = front_entry i xs ys entry f.1 (omega (arith, low)) at

told_low : (d : ℕ) (bs : List (Item Entry)) → ToldRises view_after d bs → d ≤ view_told view_after d bs
told_low d [] told = omega arith
told_low d (b ∷ bs) told = let rest = told_low (view_after d b.what) bs told.1 in let first = told.0 in omega (arith, rest, first)

-- the view that some entries tell is that of each View among them at least
told_view : (d i : ℕ) (bs : List (Item Entry)) (view : ℕ) → ToldRises view_after d bs → slice_get (map what bs) i ≡ Some (kind.View view) → view ≤ view_told view_after d bs
told_view d i [] view told at = absurd (cc at)
told_view d zero (b ∷ bs) view told at =
    let is : view_after d b.what ≡ view = ap (λ (x : Entry). view_after d x) (some_entry b.what (kind.View view) at) in
    let rest = told_low (view_after d b.what) bs told.1 in
    omega (arith, is, rest)
told_view d (suc i) (b ∷ bs) view told at = told_view (view_after d b.what) i bs view told.1 at

-- ---- a machine

module _ (begun : List (Item Entry)) (v : ℕ) (s : Copies Entry) (r : AreFaithful s) (k : AreStampsTold view_after begun v s) where
  took_stamped : AreStamped view_after (length begun) v s.took
  took_stamped = stamped_prefix view_after (length begun) v s.took s.log r.took (log_tells view_after begun v s r k)

  -- a list that some disk may have, and whose entries begin with what took effect, begins with that
  pub took_front : (list : List (Item Entry)) (y : ℕ) → IsFront list (reach (s.peers y)) → IsPrefix (numbered s.took) (numbered list) → IsFront s.took list
  took_front list y f p =
      let parts = prefix_entries s.took list p in
      stamped_front (length begun) v s.took list parts.0 took_stamped (stamped_prefix view_after (length begun) v list (reach (s.peers y)) f (k.each y)) parts.1

  -- where an entry of the view took effect, it is the lead's
  pub reached_front : end_view 0 s.took ≡ s.view → (list : List (Item Entry)) (y : ℕ) → IsFront list (reach (s.peers y)) → IsPrefix (numbered s.took) (numbered list) → IsFront list s.log
  reached_front e list y f p = settled_right s r e y list f (took_front list y f p)

  took_low : end_view 0 s.took ≤ s.view
  took_low = below_end s.view 0 s.took (front_below (suc s.view) s.took s.log r.took (log_below s r)) (omega arith)

  took_rises : Rises 0 s.took
  took_rises = front_rises 0 s.took s.log r.took r.rises

  -- it stays so, in the same view
  pub reached_stays : (before : List (Item Entry)) → IsFront before s.took → end_view 0 before ≡ s.view → end_view 0 s.took ≡ s.view
  reached_stays before f e = let up = front_up 0 before s.took f took_rises in let low = took_low in omega (arith, up, low, e)

  -- and so it is behind the View of the view
  pub reached_by : (i : ℕ) → slice_get (map what s.took) i ≡ Some (kind.View s.view) → end_view 0 s.took ≡ s.view
  reached_by i at =
      let x = item_at i s.took (kind.View s.view) at in
      let up = item_up 0 i s.took x.0 took_rises x.1.0 in
      let low = took_low in
      let own : s.view ≤ x.0.view = elim (cases_lt i (length begun)) [
        | inl early ↦
            (let stamped : x.0.view ≡ v = early_item (length begun) v i s.took x.0 took_stamped early x.1.0 in
            let told = told_view 0 i begun s.view k.ascends (front_entry i begun s.took (kind.View s.view) k.opening early at) in
            let ends = k.ends in
            omega (arith, stamped, told, ends))
        | inr late ↦ (let is : x.0.view ≡ s.view = view_item (length begun) v i s.took x.0 s.view took_stamped late x.1.0 x.1.1 in omega (arith, is))
      ] in
      omega (arith, up, low, own)
