-- What is pending of numbered lists is what is behind what took effect of them.
use Rattle.std.proofs.Common.{◌≡◌, ℕ, suc, ◌+◌, ◌<◌, List, [], ◌∷◌, ◌++◌, length, Option, Some, None, refl, ap, ◌∙◌, arith}
use Rattle.hs_entry.specs.declared.entry.Entry.{Entry}
use Rattle.hs_fold.specs.Catalogue.{Shard}
use Rattle.hs_fold.specs.Lawful.{list_at}
use Rattle.hs_fold.specs.Pending.{behind}
use Rattle.hs_fold.specs.Prefix.{IsNumbered}
use Rattle.hs_fold.specs.Shards.Catalogue.{catalogue_of}
use Rattle.hs_fold.specs.Shards.Happening.{Happening, and_then, happens, happenings}
use Rattle.hs_fold.specs.Shards.Parted.{Parted, behind_happenings, done_lists, whole_lists}
use Rattle.hs_fold.specs.Shards.Pending.{pending, pending_of}
use Rattle.hs_fold.specs.Shards.Setting.{Setting, shard_in}
use Rattle.hs_fold.proofs.NumberedLemmas.{numbered-behind, numbered-up_to}

happenings-append : (xs ys : List (Entry × Option Happening)) → happenings (xs ++ ys) ≡ happenings xs ++ happenings ys
happenings-append [] ys = refl
happenings-append (x ∷ xs) ys = go (happenings-append xs ys) x.1
  where
    go : happenings (xs ++ ys) ≡ happenings xs ++ happenings ys → (one : Option Happening) → and_then one (happenings (xs ++ ys)) ≡ and_then one (happenings xs) ++ happenings ys
    go ih None = ih
    go ih (Some one) = ap (λ rest. one ∷ rest) ih

pub one-pending : (at : Shard) (front : ℕ) (x : Parted) → IsNumbered (x.done ++ x.back) → front ≡ length x.done → pending_of at front (x.done ++ x.back) ≡ happens at (catalogue_of at x.done) x.back
one-pending at front x numbered same =
    ap (λ n. pending_of at n (x.done ++ x.back)) same
    ∙ ap (λ es. happens at (catalogue_of at es) (behind (length x.done) (x.done ++ x.back))) (numbered-up_to x.done x.back numbered)
    ∙ ap (λ es. happens at (catalogue_of at x.done) es) (numbered-behind x.done x.back numbered)

pub all-pending : (set : Setting) (front : ℕ → ℕ) (g : ℕ) (lists : List Parted)
    → ((k : ℕ) → k < length lists → IsNumbered (list_at (whole_lists lists) k) × (front (g + k) ≡ length (list_at (done_lists lists) k)))
    → happenings (pending set front g (whole_lists lists)) ≡ behind_happenings set g lists
all-pending set front g [] f = refl
all-pending set front g (x ∷ lists) f =
    let first = f 0 (omega arith) in
    happenings-append (pending_of (shard_in set g) (front g) (x.done ++ x.back)) (pending set front (g + 1) (whole_lists lists))
    ∙ ap (λ es. happenings es ++ happenings (pending set front (g + 1) (whole_lists lists))) (one-pending (shard_in set g) (front g) x first.0 (ap front (zero-right g) ∙ first.1))
    ∙ ap (λ rest. happenings (happens (shard_in set g) (catalogue_of (shard_in set g) x.done) x.back) ++ rest) (all-pending set front (g + 1) lists (λ k low. let h = f (suc k) (omega (arith, low)) in (h.0, ap front (shift g k) ∙ h.1)))
  where
    zero-right : (m : ℕ) → m ≡ m + 0
    zero-right m = omega arith

    shift : (a b : ℕ) → a + 1 + b ≡ a + suc b
    shift a b = omega arith
