-- Opening chooses one list throughout, and what it opens is right.
use Rattle.std.proofs.Common.{◌≡◌, ℕ, zero, suc, ◌≤◌, Bool, true, false, List, [], ◌∷◌, ◌++◌, refl, sym, arith, length, ◌∙◌}
use Rattle.hs_copies.specs.Lists.{Item, AreBelow, Rises, end_view}
use Rattle.hs_copies.specs.Machine.{item, told_copy}
use Rattle.hs_copies.specs.Invariant.{reach}
use Rattle.hs_copies.specs.Stamps.{view_told, ToldRises, AreStamped, AreStampsTold}
use Rattle.hs_copies.specs.Opened.{copy_with, opened_copies}
use Rattle.hs_copies.specs.Opened.{stamped_alike}
use Rattle.hs_copies.proofs.ListLemmas.{front_refl, append_nil}
use Rattle.hs_copies.proofs.PeerLemmas.{put_cases}
use Rattle.hs_copies.proofs.StampLemmas.{stamped_more, last_view_append}

alike_length : {X : Type 0} (v : ℕ) (xs : List (Item X)) → length (stamped_alike v xs) ≡ length xs
alike_length v [] = refl
alike_length v (x ∷ xs) = omega (arith, alike_length v xs)

alike_told : {X : Type 0} (tells : ℕ → X → ℕ) (d v : ℕ) (xs : List (Item X)) → view_told tells d (stamped_alike v xs) ≡ view_told tells d xs
alike_told tells d v [] = refl
alike_told tells d v (x ∷ xs) = alike_told tells (tells d x.what) v xs

alike_ascends : {X : Type 0} (tells : ℕ → X → ℕ) (d v : ℕ) (xs : List (Item X)) → ToldRises tells d xs → ToldRises tells d (stamped_alike v xs)
alike_ascends tells d v [] a = tt
alike_ascends tells d v (x ∷ xs) a = (a.0, alike_ascends tells (tells d x.what) v xs a.1)

alike_tells : {X : Type 0} (tells : ℕ → X → ℕ) (v : ℕ) (xs : List (Item X)) → AreStamped tells (length (stamped_alike v xs)) v (stamped_alike v xs)
alike_tells tells v [] = tt
alike_tells tells v (x ∷ xs) = (refl, alike_tells tells v xs)

alike_last : {X : Type 0} (v : ℕ) (xs : List (Item X)) → end_view v (stamped_alike v xs) ≡ v
alike_last v [] = refl
alike_last v (x ∷ xs) = alike_last v xs

pub alike_rises : {X : Type 0} (v d : ℕ) (xs : List (Item X)) → d ≤ v → Rises d (stamped_alike v xs)
alike_rises v d [] l = tt
alike_rises v d (x ∷ xs) l = (l, alike_rises v v xs (omega arith))

pub alike_below : {X : Type 0} (v : ℕ) (xs : List (Item X)) → AreBelow (suc v) (stamped_alike v xs)
alike_below v [] = tt
alike_below v (x ∷ xs) = (omega arith, alike_below v xs)

pub opened_tells : {X : Type 0} (tells : ℕ → X → ℕ) (list : List (Item X)) (good : ℕ → Bool) (lead : ℕ) (x : X) (v : ℕ) → ToldRises tells 0 list → view_told tells 0 list ≡ v → good lead ≡ true → ((w : ℕ) → tells w x ≡ suc v) → AreStampsTold tells (stamped_alike v list) v (opened_copies v (stamped_alike v list) good lead x)
opened_tells {X = X} tells list good lead x v a e g t =
    record {
      opening = front_refl (stamped_alike v list);
      ascends = alike_ascends tells 0 v list a;
      ends = alike_told tells 0 v list ∙ e;
      each = λ q. put_cases (λ k. AreStamped tells (length (stamped_alike v list)) v (reach k)) lead (record (told_copy (copy_with (stamped_alike v list) (good lead))) { list = (copy_with (stamped_alike v list) (good lead)).list ++ item (suc v) x ∷ [] }) (λ q. told_copy (copy_with (stamped_alike v list) (good q))) q
          (λ i. get_lead (good lead) g)
          (λ i. elsewhere (good q));
      current = λ d. last_view_append d (copy_with (stamped_alike v list) (good lead)).list (item (suc v) x);
    }
  where
    elsewhere : (b : Bool) → AreStamped tells (length (stamped_alike v list)) v (reach (told_copy (copy_with (stamped_alike v list) b)))
    elsewhere true = rw (append_nil (stamped_alike v list)) (alike_tells tells v list)
    elsewhere false = none (length (stamped_alike v list))
      where
        none : (n : ℕ) → AreStamped tells n v ([] ++ [])
        none zero = tt
        none (suc n) = tt

    get_lead : (b : Bool) → b ≡ true → AreStamped tells (length (stamped_alike v list)) v (reach (record (told_copy (copy_with (stamped_alike v list) b)) { list = (copy_with (stamped_alike v list) b).list ++ item (suc v) x ∷ [] }))
    get_lead true e =
        rw (append_nil (stamped_alike v list ++ item (suc v) x ∷ [])) (stamped_more tells (length (stamped_alike v list)) v (stamped_alike v list) (item (suc v) x) (omega arith) (alike_tells tells v list) (sym (t (end_view v (stamped_alike v list)))))
    get_lead false e = absurd (cc e)
