-- Views never fall along the lead's list, nor along a front of it.
use Rattle.std.proofs.Common.{◌≡◌, sym, subst, arith, ℕ, ◌+◌, ◌≤◌, List, [], ◌∷◌, length}
use Rattle.std.specs.List.{AllByRecursion, enumerate_from}
use Rattle.std.specs.Prelude.{map}
use Rattle.hs_copies.proofs.ListLemmas.{front_trans}
use Rattle.hs_copies.proofs.StampLemmas.{log_tells}
use Rattle.hs_copies.specs.Invariant.{AreFaithful}
use Rattle.hs_copies.specs.Lists.{IsFront, Item, Rises}
use Rattle.hs_copies.specs.Machine.{Copies}
use Rattle.hs_copies.specs.Stamps.{AreStamped, AreStampsTold, ToldRises, view_told}
use Rattle.hs_core_copies.specs.Lists.{numbered}
use Rattle.hs_entry.specs.declared.entry.Entry.{Entry}
use Rattle.hs_entry.specs.declared.entry.Entry.TheVariants as kind
use Rattle.hs_fold.proofs.Shards.LawfulLemmas.{PairsBy, each-from, pairs-to}
use Rattle.hs_fold.specs.Shards.Sound.{HasRisingViews, views_of, with_view}
use Rattle.hs_replica.specs.Group.{view_after}

-- ---- what stamps tell

behind_rises : {X : Type 0} (tells : ℕ → X → ℕ) (v : ℕ) (xs : List (Item X)) → AreStamped tells 0 v xs → Rises v xs → ToldRises tells v xs
behind_rises tells v [] st rises = tt
behind_rises tells v (x ∷ xs) st rises = (subst (λ n. v ≤ n) st.0 rises.0, subst (λ n. ToldRises tells n xs) st.0 (behind_rises tells x.view xs st.1 rises.1))

begun_rises : {X : Type 0} (tells : ℕ → X → ℕ) (d v : ℕ) (bs xs : List (Item X)) → IsFront bs xs → ToldRises tells d bs → view_told tells d bs ≡ v → AreStamped tells (length bs) v xs → Rises v xs → ToldRises tells d xs
begun_rises tells d v [] xs f told e st rises = subst (λ n. ToldRises tells n xs) (sym e) (behind_rises tells v xs st rises)
begun_rises tells d v (b ∷ bs) [] f told e st rises = absurd f
begun_rises {X = X} tells d v (b ∷ bs) (x ∷ xs) f told e st rises =
    subst (λ (y : Item X). (d ≤ tells d y.what) × ToldRises tells (tells d y.what) xs) f.0
    (told.0, begun_rises tells (tells d b.what) v bs xs f.1 told.1 e st.1 (subst (λ n. Rises n xs) st.0 rises.1))

first_rises : {X : Type 0} (tells : ℕ → X → ℕ) (v : ℕ) (bs xs : List (Item X)) → IsFront bs xs → view_told tells 0 bs ≡ v → AreStamped tells (length bs) v xs → Rises 0 xs → Rises v xs
first_rises tells v [] xs f e st rises = subst (λ n. Rises n xs) e rises
first_rises tells v (b ∷ bs) [] f e st rises = absurd f
first_rises tells v (b ∷ bs) (x ∷ xs) f e st rises = ((let same = st.0 in omega (arith, same)), rises.1)

log_rises : (tells : ℕ → Entry → ℕ) (begun : List (Item Entry)) (v : ℕ) (s : Copies Entry) → AreFaithful s → AreStampsTold tells begun v s → ToldRises tells 0 s.log
log_rises tells begun v s r k =
    let front : IsFront begun s.log = front_trans begun s.took s.log k.opening r.took in
    let stamped : AreStamped tells (length begun) v s.log = log_tells tells begun v s r k in
    begun_rises tells 0 v begun s.log front k.ascends k.ends stamped (first_rises tells v begun s.log front k.ends stamped r.rises)

front_rises : {X : Type 0} (tells : ℕ → X → ℕ) (d : ℕ) (xs ys : List (Item X)) → IsFront xs ys → ToldRises tells d ys → ToldRises tells d xs
front_rises tells d [] ys f told = tt
front_rises tells d (x ∷ xs) [] f told = absurd f
front_rises {X = X} tells d (x ∷ xs) (y ∷ ys) f told =
    subst (λ (z : Item X). (d ≤ tells d z.what) × ToldRises tells (tells d z.what) xs) (sym f.0) (told.0, front_rises tells (tells d y.what) xs ys f.1 told.1)

-- ---- and so the views of a list with numbers

-- no view of them is below one, and none falls
abbrev RisesFrom : ℕ → List ℕ → Type 0
RisesFrom d views = AllByRecursion (λ (v : ℕ). d ≤ v) views × PairsBy (λ (earlier later : ℕ). earlier ≤ later) views

told_views : (d n : ℕ) (xs : List (Item Entry)) → ToldRises view_after d xs → RisesFrom d (views_of (enumerate_from n (map (λ (x : Item Entry). x.what) xs)))
told_views d n [] told = (tt, tt)
told_views d n (x ∷ xs) told = by_entry x.what told.0 (told_views (view_after d x.what) (n + 1) xs told.1)
  where
    by_entry : (entry : Entry) → d ≤ view_after d entry → RisesFrom (view_after d entry) (views_of (enumerate_from (n + 1) (map (λ (x : Item Entry). x.what) xs)))
        → RisesFrom d (with_view entry (views_of (enumerate_from (n + 1) (map (λ (x : Item Entry). x.what) xs))))
    by_entry (kind.View view) up rest =
        ((up, each-from (λ (v : ℕ). view ≤ v) (λ (v : ℕ). d ≤ v) (views_of (enumerate_from (n + 1) (map (λ (x : Item Entry). x.what) xs))) (λ v low. omega (arith, low, up)) rest.0), rest)
    by_entry (kind.Base view epoch swept round frames) up rest =
        ((up, each-from (λ (v : ℕ). view ≤ v) (λ (v : ℕ). d ≤ v) (views_of (enumerate_from (n + 1) (map (λ (x : Item Entry). x.what) xs))) (λ v low. omega (arith, low, up)) rest.0), rest)
    by_entry (kind.Block line least bytes) up rest = rest
    by_entry (kind.Mark line least block address) up rest = rest
    by_entry (kind.Root line held address key) up rest = rest
    by_entry (kind.Drop line key) up rest = rest
    by_entry (kind.Enter line epoch) up rest = rest
    by_entry (kind.Got sender epoch round total deltas) up rest = rest
    by_entry (kind.KeptBlock born mark flags count bytes) up rest = rest
    by_entry (kind.KeptRoot created dropped counted address key) up rest = rest
    by_entry (kind.KeptRound way other epoch round total deltas) up rest = rest

pub front_views : (begun : List (Item Entry)) (v : ℕ) (s : Copies Entry) → AreFaithful s → AreStampsTold view_after begun v s → (list : List (Item Entry)) → IsFront list s.log → HasRisingViews (numbered list)
front_views begun v s r k list f =
    pairs-to (λ (earlier later : ℕ). earlier ≤ later) (views_of (numbered list)) (told_views 0 1 list (front_rises view_after 0 list s.log f (log_rises view_after begun v s r k))).1
