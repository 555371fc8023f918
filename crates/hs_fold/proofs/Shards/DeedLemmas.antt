-- What histories of all shards do, one entry after another.
use Rattle.std.proofs.Common.{◌≡◌, inl, inr, ℕ, zero, suc, ◌+◌, ◌<◌, cond, List, [], ◌∷◌, ◌++◌, length, Option, Some, None, refl, sym, ap, ◌∙◌, subst, arith}
use Rattle.std.proofs.lemmas.Bool.{cases_eq, eq-eqb, ne_eqb}
use Rattle.std.specs.Prelude.{slice_set}
use Rattle.std.specs.List.{AllByRecursion}
use Rattle.hs_limits.specs.declared.address.Address.{Address}
use Rattle.hs_model.specs.Store.{Store}
use Rattle.hs_entry.specs.declared.entry.Entry.{Entry}
use Rattle.hs_fold.specs.Catalogue.{Shard}
use Rattle.hs_fold.specs.Lawful.{Deed, list_at, shard_at}
use Rattle.hs_fold.specs.Shards.Catalogue.{Catalogue, empty_catalogue, apply, apply_all, catalogue_of}
use Rattle.hs_fold.specs.Shards.Fits.{catalogue_at}
use Rattle.hs_fold.specs.Shards.Happening.{Happening, happen_all, happen_by, happening_of, and_then}
use Rattle.hs_fold.specs.Shards.History.{applied, follow, follow_all, happenings_along, entries_of}
use Rattle.hs_fold.specs.Shards.Mine.{IsMine, AreMine}
use Rattle.hs_fold.specs.Shards.Opened.{store_of, catalogues}
use Rattle.hs_fold.specs.Shards.Parted.{Parted, back_at, done_lists, whole_lists}
use Rattle.hs_fold.specs.Shards.Setting.{Numbered, Setting, shard_in}
use Rattle.hs_fold.proofs.Shards.ListLemmas.{apply-append, lists-mine}
use Rattle.hs_fold.proofs.Shards.MineLemmas.{apply-mine, mine-there, mine-set}
use Rattle.hs_fold.proofs.Shards.PlaceLemmas.{at-place, set-place, on-place, same-at, other-at, length-set, same-each}
use Rattle.hs_fold.proofs.Shards.StoreLemmas.{all_shards, entry-step}

-- each is of one of so many shards
abbrev pub AreOf : ℕ → List Deed → Type 0
AreOf n deeds = AllByRecursion (λ (deed : Deed). deed.shard < n) deeds

zero-left : (k : ℕ) → 0 + k ≡ k
zero-left k = omega arith

-- ---- one entry

pub deed-mine : (set : Setting) (deed : Deed) (cs : List Catalogue) → length cs ≡ set.shape.shards → deed.shard < set.shape.shards → AreMine set.shape.shards 0 cs → AreMine set.shape.shards 0 (follow set cs deed)
deed-mine set deed cs all low = on-place (λ ds k. AreMine n 0 ds → AreMine n 0 (slice_set ds k (apply (shard_at set.name n k) (catalogue_at ds k) (deed.number, deed.entry)))) n go cs deed.shard all low
  where
    n : ℕ
    n = set.shape.shards

    go : (front back : List Catalogue) (c : Catalogue) → length front + (1 + length back) ≡ n → AreMine n 0 (front ++ c ∷ back)
        → AreMine n 0 (slice_set (front ++ c ∷ back) (length front) (apply (shard_at set.name n (length front)) (catalogue_at (front ++ c ∷ back) (length front)) (deed.number, deed.entry)))
    go front back c count mine =
        let d : Catalogue = apply (shard_at set.name n (length front)) c (deed.number, deed.entry) in
        let here : IsMine n (length front) c = subst (λ k. IsMine n k c) (zero-left (length front)) (mine-there n 0 front back c mine) in
        let there : IsMine n (0 + length front) d = subst (λ k. IsMine n k d) (sym (zero-left (length front))) (apply-mine (shard_at set.name n (length front)) c here deed.number deed.entry) in
        subst (λ ds. AreMine n 0 ds) (sym (ap (λ x. slice_set (front ++ c ∷ back) (length front) (apply (shard_at set.name n (length front)) x (deed.number, deed.entry))) (at-place empty_catalogue front back c) ∙ set-place front back c d)) (mine-set n 0 front back c d mine there)

-- an entry of a shard between others, whatever is said of the number of shards
entry-at : (name : List ℕ → Address) (n : ℕ) (front back : List Catalogue) (c : Catalogue) (number : ℕ) (entry : Entry) → all_shards front back ≡ n → AreMine n 0 (front ++ c ∷ back)
    → store_of (front ++ apply (shard_at name n (length front)) c (number, entry) ∷ back) ≡ happen_by (store_of (front ++ c ∷ back)) (happening_of (shard_at name n (length front)) c entry)
entry-at name n front back c number entry same = subst (λ m. AreMine m 0 (front ++ c ∷ back)
    → store_of (front ++ apply (shard_at name m (length front)) c (number, entry) ∷ back) ≡ happen_by (store_of (front ++ c ∷ back)) (happening_of (shard_at name m (length front)) c entry)) same (λ mine. entry-step front back c mine name number entry)

pub deed-step : (set : Setting) (deed : Deed) (cs : List Catalogue) → length cs ≡ set.shape.shards → deed.shard < set.shape.shards → AreMine set.shape.shards 0 cs
    → store_of (follow set cs deed) ≡ happen_by (store_of cs) (happening_of (shard_in set deed.shard) (catalogue_at cs deed.shard) deed.entry)
deed-step set deed cs all low = on-place (λ ds k. AreMine n 0 ds → store_of (slice_set ds k (apply (shard_at set.name n k) (catalogue_at ds k) (deed.number, deed.entry))) ≡ happen_by (store_of ds) (happening_of (shard_at set.name n k) (catalogue_at ds k) deed.entry)) n go cs deed.shard all low
  where
    n : ℕ
    n = set.shape.shards

    go : (front back : List Catalogue) (c : Catalogue) → length front + (1 + length back) ≡ n → AreMine n 0 (front ++ c ∷ back)
        → store_of (slice_set (front ++ c ∷ back) (length front) (apply (shard_at set.name n (length front)) (catalogue_at (front ++ c ∷ back) (length front)) (deed.number, deed.entry)))
        ≡ happen_by (store_of (front ++ c ∷ back)) (happening_of (shard_at set.name n (length front)) (catalogue_at (front ++ c ∷ back) (length front)) deed.entry)
    go front back c count mine =
        let at : Shard = shard_at set.name n (length front) in
        ap (λ x. store_of (slice_set (front ++ c ∷ back) (length front) (apply at x (deed.number, deed.entry)))) (at-place empty_catalogue front back c)
        ∙ ap store_of (set-place front back c (apply at c (deed.number, deed.entry)))
        ∙ entry-at set.name n front back c deed.number deed.entry count mine
        ∙ ap (λ x. happen_by (store_of (front ++ c ∷ back)) (happening_of at x deed.entry)) (sym (at-place empty_catalogue front back c))

-- ---- some, one after another

pub length-follow : (set : Setting) (cs : List Catalogue) (deed : Deed) → length (follow set cs deed) ≡ length cs
length-follow set cs deed = length-set cs deed.shard (applied set cs deed)

pub length-follow_all : (set : Setting) (cs : List Catalogue) (deeds : List Deed) → length (follow_all set cs deeds) ≡ length cs
length-follow_all set cs [] = refl
length-follow_all set cs (deed ∷ deeds) = length-follow_all set (follow set cs deed) deeds ∙ length-follow set cs deed

by-then : (s : Store) (one : Option Happening) (rest : List Happening) → happen_all s (and_then one rest) ≡ happen_all (happen_by s one) rest
by-then s None rest = refl
by-then s (Some one) rest = refl

pub deeds-mine : (set : Setting) (deeds : List Deed) (cs : List Catalogue) → length cs ≡ set.shape.shards → AreOf set.shape.shards deeds → AreMine set.shape.shards 0 cs → AreMine set.shape.shards 0 (follow_all set cs deeds)
deeds-mine set [] cs all of mine = mine
deeds-mine set (deed ∷ deeds) cs all of mine = deeds-mine set deeds (follow set cs deed) (length-follow set cs deed ∙ all) of.1 (deed-mine set deed cs all of.0 mine)

pub deeds-step : (set : Setting) (deeds : List Deed) (cs : List Catalogue) → length cs ≡ set.shape.shards → AreOf set.shape.shards deeds → AreMine set.shape.shards 0 cs
    → store_of (follow_all set cs deeds) ≡ happen_all (store_of cs) (happenings_along set cs deeds)
deeds-step set [] cs all of mine = refl
deeds-step set (deed ∷ deeds) cs all of mine =
    deeds-step set deeds (follow set cs deed) (length-follow set cs deed ∙ all) of.1 (deed-mine set deed cs all of.0 mine)
    ∙ ap (λ s. happen_all s (happenings_along set (follow set cs deed) deeds)) (deed-step set deed cs all of.0 mine)
    ∙ sym (by-then (store_of cs) (happening_of (shard_in set deed.shard) (catalogue_at cs deed.shard) deed.entry) (happenings_along set (follow set cs deed) deeds))

-- ---- each shard sees its own

pub fold-at : (set : Setting) (deeds : List Deed) (cs : List Catalogue) (k : ℕ) → length cs ≡ set.shape.shards → AreOf set.shape.shards deeds
    → catalogue_at (follow_all set cs deeds) k ≡ apply_all (shard_in set k) (catalogue_at cs k) (entries_of k deeds)
fold-at set [] cs k all of = refl
fold-at set (deed ∷ deeds) cs k all of = fold-at set deeds (follow set cs deed) k (length-follow set cs deed ∙ all) of.1 ∙ elim (cases_eq deed.shard k) [
  | inl same ↦
      let here : catalogue_at (follow set cs deed) k ≡ apply (shard_in set k) (catalogue_at cs k) (deed.number, deed.entry) =
      subst (λ m. catalogue_at (follow set cs deed) m ≡ apply (shard_in set m) (catalogue_at cs m) (deed.number, deed.entry)) same (same-at empty_catalogue cs deed.shard (applied set cs deed) (omega (arith, all, of.0))) in
      ap (λ c. apply_all (shard_in set k) c (entries_of k deeds)) here
      ∙ ap (λ b. apply_all (shard_in set k) (catalogue_at cs k) (cond b ((deed.number, deed.entry) ∷ entries_of k deeds) (entries_of k deeds))) (sym (eq-eqb deed.shard k same))
  | inr differs ↦
      ap (λ c. apply_all (shard_in set k) c (entries_of k deeds)) (other-at empty_catalogue cs deed.shard k (applied set cs deed) (λ same. differs (sym same)))
      ∙ ap (λ b. apply_all (shard_in set k) (catalogue_at cs k) (cond b ((deed.number, deed.entry) ∷ entries_of k deeds) (entries_of k deeds))) (sym (ne_eqb deed.shard k differs))
]

-- ---- lists parted into what took effect and what is behind it

pub length-catalogues : (set : Setting) (g : ℕ) (lists : List Numbered) → length (catalogues set g lists) ≡ length lists
length-catalogues set g [] = refl
length-catalogues set g (list ∷ lists) = ap (λ k. suc k) (length-catalogues set (g + 1) lists)

pub catalogues-at : (set : Setting) (g : ℕ) (lists : List Numbered) (k : ℕ) → k < length lists → catalogue_at (catalogues set g lists) k ≡ catalogue_of (shard_in set (g + k)) (list_at lists k)
catalogues-at set g [] k low = absurd (omega (arith, low))
catalogues-at set g (list ∷ lists) zero low = ap (λ m. catalogue_of (shard_in set m) list) (zero-right g)
  where
    zero-right : (m : ℕ) → m ≡ m + 0
    zero-right m = omega arith
catalogues-at set g (list ∷ lists) (suc k) low = catalogues-at set (g + 1) lists k (omega (arith, low)) ∙ ap (λ m. catalogue_of (shard_in set m) (list_at lists k)) (shift g k)
  where
    shift : (a b : ℕ) → a + 1 + b ≡ a + suc b
    shift a b = omega arith

whole-at : (lists : List Parted) (k : ℕ) → list_at (whole_lists lists) k ≡ list_at (done_lists lists) k ++ back_at lists k
whole-at [] k = refl
whole-at (x ∷ lists) zero = refl
whole-at (x ∷ lists) (suc k) = whole-at lists k

pub length-done : (lists : List Parted) → length (done_lists lists) ≡ length lists
length-done [] = refl
length-done (x ∷ lists) = ap (λ k. suc k) (length-done lists)

pub length-whole : (lists : List Parted) → length (whole_lists lists) ≡ length lists
length-whole [] = refl
length-whole (x ∷ lists) = ap (λ k. suc k) (length-whole lists)

-- entries that are of each shard what is behind, in whatever order of shards
abbrev pub AreBehind : List Parted → List Deed → Type 0
AreBehind lists deeds = (k : ℕ) → k < length lists → entries_of k deeds ≡ back_at lists k

pub whole-follows : (set : Setting) (lists : List Parted) (deeds : List Deed) → length lists ≡ set.shape.shards → AreOf set.shape.shards deeds → AreBehind lists deeds
    → follow_all set (catalogues set 0 (done_lists lists)) deeds ≡ catalogues set 0 (whole_lists lists)
whole-follows set lists deeds count of behind = same-each empty_catalogue (follow_all set done deeds) whole lengths each
  where
    done : List Catalogue
    done = catalogues set 0 (done_lists lists)

    whole : List Catalogue
    whole = catalogues set 0 (whole_lists lists)

    all : length done ≡ set.shape.shards
    all = length-catalogues set 0 (done_lists lists) ∙ length-done lists ∙ count

    lengths : length (follow_all set done deeds) ≡ length whole
    lengths = length-follow_all set done deeds ∙ length-catalogues set 0 (done_lists lists) ∙ length-done lists ∙ sym (length-whole lists) ∙ sym (length-catalogues set 0 (whole_lists lists))

    each : (k : ℕ) → k < length (follow_all set done deeds) → catalogue_at (follow_all set done deeds) k ≡ catalogue_at whole k
    each k low =
        let low-lists : k < length lists = subst (λ m. k < m) (length-follow_all set done deeds ∙ length-catalogues set 0 (done_lists lists) ∙ length-done lists) low in
        let low-done : k < length (done_lists lists) = subst (λ m. k < m) (sym (length-done lists)) low-lists in
        let low-whole : k < length (whole_lists lists) = subst (λ m. k < m) (sym (length-whole lists)) low-lists in
        fold-at set deeds done k all of
        ∙ ap (λ es. apply_all (shard_in set k) (catalogue_at done k) es) (behind k low-lists)
        ∙ ap (λ c. apply_all (shard_in set k) c (back_at lists k)) (catalogues-at set 0 (done_lists lists) k low-done ∙ ap (λ m. catalogue_of (shard_in set m) (list_at (done_lists lists) k)) (zero-left k))
        ∙ sym (apply-append (shard_in set k) empty_catalogue (list_at (done_lists lists) k) (back_at lists k))
        ∙ ap (λ es. catalogue_of (shard_in set k) es) (sym (whole-at lists k))
        ∙ ap (λ m. catalogue_of (shard_in set m) (list_at (whole_lists lists) k)) (sym (zero-left k))
        ∙ sym (catalogues-at set 0 (whole_lists lists) k low-whole)

-- the lists stand at what happens by what is behind, in whatever order of shards
pub whole-stands : (set : Setting) (lists : List Parted) (deeds : List Deed) → length lists ≡ set.shape.shards → AreOf set.shape.shards deeds → AreBehind lists deeds
    → store_of (catalogues set 0 (whole_lists lists)) ≡ happen_all (store_of (catalogues set 0 (done_lists lists))) (happenings_along set (catalogues set 0 (done_lists lists)) deeds)
whole-stands set lists deeds count of behind =
    let done : List Catalogue = catalogues set 0 (done_lists lists) in
    let all : length done ≡ set.shape.shards = length-catalogues set 0 (done_lists lists) ∙ length-done lists ∙ count in
    ap store_of (sym (whole-follows set lists deeds count of behind)) ∙ deeds-step set deeds done all of (lists-mine set 0 (done_lists lists))
