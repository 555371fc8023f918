-- What lists of entries of several shards change.
use Rattle.std.proofs.Common.{◌≡◌, ℕ, suc, ◌+◌, List, [], ◌∷◌, ◌++◌, length, Option, Some, None, refl, sym, ap, ◌∙◌, subst, arith}
use Rattle.hs_limits.specs.declared.address.Address.{Address}
use Rattle.hs_model.specs.Store.{Store}
use Rattle.hs_entry.specs.declared.entry.Entry.{Entry}
use Rattle.hs_fold.proofs.Shards.MineLemmas.{empty-mine, apply-mine, all-mine, mine-there, mine-set}
use Rattle.hs_fold.proofs.Shards.StoreLemmas.{all_shards, entry-step}
use Rattle.hs_fold.specs.Catalogue.{Shard}
use Rattle.hs_fold.specs.Lawful.{shard_at}
use Rattle.hs_fold.specs.Shards.Catalogue.{Catalogue, empty_catalogue, apply, apply_all, catalogue_of}
use Rattle.hs_fold.specs.Shards.Happening.{Happening, happen, happen_all, happen_by, happening_of, and_then, happens, happenings}
use Rattle.hs_fold.specs.Shards.Mine.{IsMine, AreMine}
use Rattle.hs_fold.specs.Shards.Opened.{store_of, catalogues}
use Rattle.hs_fold.specs.Shards.Setting.{Numbered, Setting, shard_in}
use Rattle.hs_fold.specs.Shards.Parted.{Parted, whole_lists, done_lists, behind_happenings}

all-by : (s : Store) (one : Option Happening) (more : List Happening) → happen_all s (and_then one more) ≡ happen_all (happen_by s one) more
all-by s None more = refl
all-by s (Some one) more = refl

-- entries of one shard, one after another
pub list-step : (name : List ℕ → Address) (front back : List Catalogue) (c : Catalogue) (es : List (ℕ × Entry)) → AreMine (all_shards front back) 0 (front ++ c ∷ back)
    → store_of (front ++ apply_all (shard_at name (all_shards front back) (length front)) c es ∷ back) ≡ happen_all (store_of (front ++ c ∷ back)) (happenings (happens (shard_at name (all_shards front back) (length front)) c es))
list-step name front back c [] h = refl
list-step name front back c (e ∷ es) h =
    let at : Shard = shard_at name (all_shards front back) (length front) in
    let here : IsMine at.shards at.shard c = subst (λ k. IsMine at.shards k c) (zero-left (length front)) (mine-there at.shards 0 front back c h) in
    let there : IsMine at.shards (0 + length front) (apply at c e) = subst (λ k. IsMine at.shards k (apply at c e)) (sym (zero-left (length front))) (apply-mine at c here e.0 e.1) in
    list-step name front back (apply at c e) es (mine-set at.shards 0 front back c (apply at c e) h there)
    ∙ ap (λ s. happen_all s (happenings (happens at (apply at c e) es))) (entry-step front back c h name e.0 e.1)
    ∙ sym (all-by (store_of (front ++ c ∷ back)) (happening_of at c e.1) (happenings (happens at (apply at c e) es)))
  where
    zero-left : (k : ℕ) → 0 + k ≡ k
    zero-left k = omega arith

-- ---- some of each shard took effect, and the rest is behind it

pub apply-append : (at : Shard) (c : Catalogue) (es more : List (ℕ × Entry)) → apply_all at c (es ++ more) ≡ apply_all at (apply_all at c es) more
apply-append at c [] more = refl
apply-append at c (e ∷ es) more = apply-append at (apply at c e) es more

pub happen-append : (s : Store) (one more : List Happening) → happen_all s (one ++ more) ≡ happen_all (happen_all s one) more
happen-append s [] more = refl
happen-append s (c ∷ one) more = happen-append (happen s c) one more

pub append-again : {X : Type 0} (front back : List X) (c : X) → (front ++ c ∷ []) ++ back ≡ front ++ c ∷ back
append-again [] back c = refl
append-again (x ∷ front) back c = ap (λ rest. x ∷ rest) (append-again front back c)

pub length-again : {X : Type 0} (front : List X) (c : X) → length (front ++ c ∷ []) ≡ length front + 1
length-again [] c = refl
length-again (x ∷ front) c = let rest = length-again front c in omega (arith, rest)

pub length-lists : (set : Setting) (g : ℕ) (lists : List Parted) → length (catalogues set g (done_lists lists)) ≡ length lists
length-lists set g [] = refl
length-lists set g (x ∷ lists) = ap (λ k. suc k) (length-lists set (g + 1) lists)

-- catalogues of lists are of their shards
pub lists-mine : (set : Setting) (g : ℕ) (lists : List Numbered) → AreMine set.shape.shards g (catalogues set g lists)
lists-mine set g [] = tt
lists-mine set g (list ∷ lists) = (all-mine (shard_in set g) empty_catalogue list (empty-mine set.shape.shards g), lists-mine set (g + 1) lists)

pub append-mine : (n from g : ℕ) (front cs : List Catalogue) → from + length front ≡ g → AreMine n from front → AreMine n g cs → AreMine n from (front ++ cs)
append-mine n from g [] cs at h k = subst (λ m. AreMine n m cs) (back from g at) k
  where
    back : (a b : ℕ) → a + 0 ≡ b → b ≡ a
    back a b e = omega (arith, e)
append-mine n from g (x ∷ front) cs at h k = (h.0, append-mine n (from + 1) g front cs (shift from (length front) g at) h.1 k)
  where
    shift : (a b c : ℕ) → a + suc b ≡ c → a + 1 + b ≡ c
    shift a b c e = omega (arith, e)

pub list-step-at : (name : List ℕ → Address) (n : ℕ) (front back : List Catalogue) (c : Catalogue) (es : Numbered) → all_shards front back ≡ n → AreMine n 0 (front ++ c ∷ back)
    → store_of (front ++ apply_all (shard_at name n (length front)) c es ∷ back) ≡ happen_all (store_of (front ++ c ∷ back)) (happenings (happens (shard_at name n (length front)) c es))
list-step-at name n front back c es e = subst (λ m. AreMine m 0 (front ++ c ∷ back)
    → store_of (front ++ apply_all (shard_at name m (length front)) c es ∷ back) ≡ happen_all (store_of (front ++ c ∷ back)) (happenings (happens (shard_at name m (length front)) c es))) e (list-step name front back c es)

pub behind-step : (set : Setting) (front : List Catalogue) (lists : List Parted) → length front + length lists ≡ set.shape.shards → AreMine set.shape.shards 0 front
    → store_of (front ++ catalogues set (length front) (whole_lists lists))
    ≡ happen_all (store_of (front ++ catalogues set (length front) (done_lists lists))) (behind_happenings set (length front) lists)
behind-step set front [] count h = refl
behind-step set front (x ∷ lists) count h =
    go (behind-step set front' lists count' mine')
    ∙ sym (happen-append (store_of (front ++ catalogues set (length front) (done_lists (x ∷ lists)))) (happenings (happens at settled x.back)) (behind_happenings set (length front + 1) lists))
  where
    n : ℕ
    n = set.shape.shards

    at : Shard
    at = shard_in set (length front)

    settled : Catalogue
    settled = catalogue_of at x.done

    whole : Catalogue
    whole = catalogue_of at (x.done ++ x.back)

    front' : List Catalogue
    front' = front ++ whole ∷ []

    count' : length front' + length lists ≡ n
    count' = let more = length-again front whole in omega (arith, more, count)

    zero-left : (k : ℕ) → 0 + k ≡ k
    zero-left k = omega arith

    mine' : AreMine n 0 front'
    mine' = append-mine n 0 (length front) front (whole ∷ []) (zero-left (length front)) h (all-mine at empty_catalogue (x.done ++ x.back) (empty-mine n (length front)), tt)

    done : List Catalogue
    done = catalogues set (length front + 1) (done_lists lists)

    all : AreMine n 0 (front ++ settled ∷ done)
    all = append-mine n 0 (length front) front (settled ∷ done) (zero-left (length front)) h (lists-mine set (length front) (done_lists (x ∷ lists)))

    shards : all_shards front done ≡ n
    shards = let same = length-lists set (length front + 1) lists in omega (arith, same, count)

    here : store_of (front ++ whole ∷ done) ≡ happen_all (store_of (front ++ settled ∷ done)) (happenings (happens at settled x.back))
    here = ap (λ (c : Catalogue). store_of (front ++ c ∷ done)) (apply-append at empty_catalogue x.done x.back) ∙ list-step-at set.name n front done settled x.back shards all

    go : store_of (front' ++ catalogues set (length front') (whole_lists lists)) ≡ happen_all (store_of (front' ++ catalogues set (length front') (done_lists lists))) (behind_happenings set (length front') lists)
        → store_of (front ++ whole ∷ catalogues set (length front + 1) (whole_lists lists)) ≡ happen_all (happen_all (store_of (front ++ settled ∷ done)) (happenings (happens at settled x.back))) (behind_happenings set (length front + 1) lists)
    go ih =
        let moved = subst (λ k. store_of (front' ++ catalogues set k (whole_lists lists)) ≡ happen_all (store_of (front' ++ catalogues set k (done_lists lists))) (behind_happenings set k lists)) (length-again front whole) ih in
        ap store_of (sym (append-again front (catalogues set (length front + 1) (whole_lists lists)) whole))
        ∙ moved
        ∙ ap (λ cs. happen_all (store_of cs) (behind_happenings set (length front + 1) lists)) (append-again front done whole)
        ∙ ap (λ s. happen_all s (behind_happenings set (length front + 1) lists)) here

-- all shards
pub behind-all : (set : Setting) (lists : List Parted) → length lists ≡ set.shape.shards
    → store_of (catalogues set 0 (whole_lists lists)) ≡ happen_all (store_of (catalogues set 0 (done_lists lists))) (behind_happenings set 0 lists)
behind-all set lists count = behind-step set [] lists (ap (λ k. 0 + k) count ∙ zero-left set.shape.shards) tt
  where
    zero-left : (k : ℕ) → 0 + k ≡ k
    zero-left k = omega arith
