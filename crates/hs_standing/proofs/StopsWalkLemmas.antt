-- All that waits, one after another: what happens by it, and that no shard gets too many root records.
use Rattle.std.proofs.Common.{◌≡◌, ℕ, ◌+◌, ◌≤◌, List, [], ◌∷◌, ◌++◌, length, Option, Some, None, refl, sym, ap, ◌∙◌, subst, arith, append_assoc, length-append}
use Rattle.std.proofs.lemmas.List.Elements.{All-from_recursion}
use Rattle.std.specs.List.{AllByRecursion}
use Rattle.std.specs.Prelude.{slice_set}
use Rattle.hs_model.specs.Store.{Store}
use Rattle.hs_entry.specs.declared.entry.Entry.{Entry}
use Rattle.hs_fold.specs.Catalogue.{Shard}
use Rattle.hs_fold.specs.Lawful.{Deed}
use Rattle.hs_fold.specs.Shards.Happening.{Happening, happen_all, happen_by, AreLegal, and_then, happenings}
use Rattle.hs_fold.specs.Shards.Parted.{Parted, done_lists}
use Rattle.hs_fold.specs.Shards.Setting.{Numbered, Setting, shard_in}
use Rattle.hs_fold.specs.Shards.Sound.{most_records}
use Rattle.hs_fold.specs.Runs.Catalogue.{apply, apply_all, catalogue_of}
use Rattle.hs_fold.specs.Runs.Facts.{Catalogue, empty_catalogue}
use Rattle.hs_fold.specs.Runs.Happening.{happening_of, happens}
use Rattle.hs_fold.specs.Runs.History.{follow, follow_all}
use Rattle.hs_fold.specs.Runs.Opened.{catalogues, store_of}
use Rattle.hs_fold.proofs.Shards.LawfulLemmas.{each-append}
use Rattle.hs_fold.proofs.Shards.PlaceLemmas.{at-place, set-place}
use Rattle.hs_joint.specs.Along.{EachDoesItsPart, HaveFewRecords, KeepFewRecords, MayHappenBy, happening_by}
use Rattle.hs_waiting.specs.Lists.{deeds_of, pending_deeds}
use Rattle.hs_standing.specs.Left.{HasFewRecords}
use Rattle.hs_standing.specs.Lists.{Lists}

-- ---- what happens by entries of all shards

abbrev pub happened_along : Setting → List Catalogue → List Deed → List Happening
happened_along set cs [] = []
happened_along set cs (deed ∷ deeds) = and_then (happening_by set cs deed) (happened_along set (follow set cs deed) deeds)

pub all_then : (s : Store) (one : Option Happening) (rest : List Happening) → happen_all s (and_then one rest) ≡ happen_all (happen_by s one) rest
all_then s None rest = refl
all_then s (Some one) rest = refl

pub parts_stand : (set : Setting) (cs : List Catalogue) (deeds : List Deed) → EachDoesItsPart set cs deeds → store_of (follow_all set cs deeds) ≡ happen_all (store_of cs) (happened_along set cs deeds)
parts_stand set cs [] p = refl
parts_stand set cs (deed ∷ deeds) p =
    parts_stand set (follow set cs deed) deeds p.1
    ∙ ap (λ s. happen_all s (happened_along set (follow set cs deed) deeds)) p.0.store
    ∙ sym (all_then (store_of cs) (happening_by set cs deed) (happened_along set (follow set cs deed) deeds))

legal_then : (s : Store) (one : Option Happening) (rest : List Happening) → MayHappenBy s one → AreLegal (happen_by s one) rest → AreLegal s (and_then one rest)
legal_then s None rest m l = l
legal_then s (Some one) rest m l = (m, l)

pub parts_legal : (set : Setting) (cs : List Catalogue) (deeds : List Deed) → EachDoesItsPart set cs deeds → AreLegal (store_of cs) (happened_along set cs deeds)
parts_legal set cs [] p = tt
parts_legal set cs (deed ∷ deeds) p =
    legal_then (store_of cs) (happening_by set cs deed) (happened_along set (follow set cs deed) deeds) p.0.allowed
    (subst (λ s. AreLegal s (happened_along set (follow set cs deed) deeds)) p.0.store (parts_legal set (follow set cs deed) deeds p.1))

-- ---- the same, shard by shard

-- what is pending of lists that are parted
abbrev pub pending_parts : Setting → ℕ → List Parted → List (Entry × Option Happening)
pending_parts set g [] = []
pending_parts set g (x ∷ lists) = happens (shard_in set g) (catalogue_of (shard_in set g) x.done) x.back ++ pending_parts set (g + 1) lists

then_append : (one : Option Happening) (xs ys : List Happening) → and_then one xs ++ ys ≡ and_then one (xs ++ ys)
then_append None xs ys = refl
then_append (Some one) xs ys = refl

happenings_append : (xs ys : List (Entry × Option Happening)) → happenings (xs ++ ys) ≡ happenings xs ++ happenings ys
happenings_append [] ys = refl
happenings_append (x ∷ xs) ys = ap (λ hs. and_then x.1 hs) (happenings_append xs ys) ∙ sym (then_append x.1 (happenings xs) (happenings ys))

one_more : (set : Setting) (front back : List Catalogue) (c : Catalogue) (e : ℕ × Entry)
    → follow set (front ++ c ∷ back) (record { shard = length front; number = e.0; entry = e.1 }) ≡ front ++ apply (shard_in set (length front)) c e ∷ back
one_more set front back c e =
    let at : Shard = shard_in set (length front) in
    ap (λ x. slice_set (front ++ c ∷ back) (length front) (apply at x e)) (at-place empty_catalogue front back c) ∙ set-place front back c (apply at c e)

walk_shard : (set : Setting) (front back : List Catalogue) (c : Catalogue) (es : Numbered) (more : List Deed)
    → happened_along set (front ++ c ∷ back) (deeds_of (length front) es ++ more)
    ≡ happenings (happens (shard_in set (length front)) c es) ++ happened_along set (front ++ apply_all (shard_in set (length front)) c es ∷ back) more
walk_shard set front back c [] more = refl
walk_shard set front back c (e ∷ es) more =
    let at : Shard = shard_in set (length front) in
    let here : Deed = record { shard = length front; number = e.0; entry = e.1 } in
    let rest : List Happening = happened_along set (front ++ apply_all at (apply at c e) es ∷ back) more in
    ap (λ x. and_then (happening_of at x e.1) (happened_along set (follow set (front ++ c ∷ back) here) (deeds_of (length front) es ++ more))) (at-place empty_catalogue front back c)
    ∙ ap (λ cs. and_then (happening_of at c e.1) (happened_along set cs (deeds_of (length front) es ++ more))) (one_more set front back c e)
    ∙ ap (λ hs. and_then (happening_of at c e.1) hs) (walk_shard set front back (apply at c e) es more)
    ∙ sym (then_append (happening_of at c e.1) (happenings (happens at (apply at c e) es)) rest)

one_longer : (front : List Catalogue) (c : Catalogue) → length (front ++ c ∷ []) ≡ length front + 1
one_longer front c = length-append front (c ∷ [])

walk_lists : (set : Setting) (front : List Catalogue) (lists : List Parted)
    → happened_along set (front ++ catalogues set (length front) (done_lists lists)) (pending_deeds (length front) lists) ≡ happenings (pending_parts set (length front) lists)
walk_lists set front [] = refl
walk_lists set front (x ∷ lists) =
    let at : Shard = shard_in set (length front) in
    let c : Catalogue = catalogue_of at x.done in
    let whole : Catalogue = apply_all at c x.back in
    let back : List Catalogue = catalogues set (length front + 1) (done_lists lists) in
    let rest = subst (λ k. happened_along set ((front ++ whole ∷ []) ++ catalogues set k (done_lists lists)) (pending_deeds k lists) ≡ happenings (pending_parts set k lists)) (one_longer front whole) (walk_lists set (front ++ whole ∷ []) lists) in
    walk_shard set front back c x.back (pending_deeds (length front + 1) lists)
    ∙ ap (λ cs. happenings (happens at c x.back) ++ happened_along set cs (pending_deeds (length front + 1) lists)) (sym (append_assoc front (whole ∷ []) back))
    ∙ ap (λ hs. happenings (happens at c x.back) ++ hs) rest
    ∙ sym (happenings_append (happens at c x.back) (pending_parts set (length front + 1) lists))

pub walk_all : (set : Setting) (lists : List Parted) → happened_along set (catalogues set 0 (done_lists lists)) (pending_deeds 0 lists) ≡ happenings (pending_parts set 0 lists)
walk_all set lists = walk_lists set [] lists

-- ---- root records along it

abbrev pub IsFew : Catalogue → Type 0
IsFew c = length c.roots ≤ most_records

abbrev pub FewAlong : Shard → Catalogue → Numbered → Type 0
FewAlong at c [] = Unit {0}
FewAlong at c (e ∷ es) = IsFew (apply at c e) × FewAlong at (apply at c e) es

abbrev pub EachFew : Setting → ℕ → List Parted → Type 0
EachFew set g [] = Unit {0}
EachFew set g (x ∷ lists) = (IsFew (catalogue_of (shard_in set g) x.done) × FewAlong (shard_in set g) (catalogue_of (shard_in set g) x.done) x.back) × EachFew set (g + 1) lists

few_last : (at : Shard) (c : Catalogue) (es : Numbered) → IsFew c → FewAlong at c es → IsFew (apply_all at c es)
few_last at c [] f k = f
few_last at c (e ∷ es) f k = few_last at (apply at c e) es k.0 k.1

few_shard : (set : Setting) (front back : List Catalogue) (c : Catalogue) (es : Numbered) (more : List Deed) → AllByRecursion IsFew front → AllByRecursion IsFew back → FewAlong (shard_in set (length front)) c es
    → KeepFewRecords set (front ++ apply_all (shard_in set (length front)) c es ∷ back) more → KeepFewRecords set (front ++ c ∷ back) (deeds_of (length front) es ++ more)
few_shard set front back c [] more f b k m = m
few_shard set front back c (e ∷ es) more f b k m =
    let at : Shard = shard_in set (length front) in
    subst (λ cs. HaveFewRecords cs × KeepFewRecords set cs (deeds_of (length front) es ++ more)) (sym (one_more set front back c e))
    (All-from_recursion IsFew (front ++ apply at c e ∷ back) (each-append IsFew front (apply at c e ∷ back) f (k.0, b)), few_shard set front back (apply at c e) es more f b k.1 m)

few_done : (set : Setting) (g : ℕ) (lists : List Parted) → EachFew set g lists → AllByRecursion IsFew (catalogues set g (done_lists lists))
few_done set g [] f = tt
few_done set g (x ∷ lists) f = (f.0.0, few_done set (g + 1) lists f.1)

few_lists : (set : Setting) (front : List Catalogue) (lists : List Parted) → AllByRecursion IsFew front → EachFew set (length front) lists
    → KeepFewRecords set (front ++ catalogues set (length front) (done_lists lists)) (pending_deeds (length front) lists)
few_lists set front [] a f = tt
few_lists set front (x ∷ lists) a f =
    let at : Shard = shard_in set (length front) in
    let c : Catalogue = catalogue_of at x.done in
    let whole : Catalogue = apply_all at c x.back in
    let back : List Catalogue = catalogues set (length front + 1) (done_lists lists) in
    let next = one_longer front whole in
    let longer : AllByRecursion IsFew (front ++ whole ∷ []) = each-append IsFew front (whole ∷ []) a (few_last at c x.back f.0.0 f.0.1, tt) in
    let rest = subst (λ k. KeepFewRecords set ((front ++ whole ∷ []) ++ catalogues set k (done_lists lists)) (pending_deeds k lists)) next (few_lists set (front ++ whole ∷ []) lists longer (subst (λ k. EachFew set k lists) (sym next) f.1)) in
    few_shard set front back c x.back (pending_deeds (length front + 1) lists) a (few_done set (length front + 1) lists f.1) f.0.1
    (subst (λ cs. KeepFewRecords set cs (pending_deeds (length front + 1) lists)) (append_assoc front (whole ∷ []) back) rest)

pub few_all : (set : Setting) (lists : List Parted) → EachFew set 0 lists → KeepFewRecords set (catalogues set 0 (done_lists lists)) (pending_deeds 0 lists)
few_all set lists f = few_lists set [] lists tt f

-- ---- of one list, by its fronts

pub apply_append : (at : Shard) (c : Catalogue) (es more : Numbered) → apply_all at c (es ++ more) ≡ apply_all at (apply_all at c es) more
apply_append at c [] more = refl
apply_append at c (e ∷ es) more = apply_append at (apply at c e) es more

pub few_along : (set : Setting) (lists : Lists) (shard : ℕ) → HasFewRecords set lists shard → (done es rest : Numbered) → lists.whole shard ≡ done ++ (es ++ rest) → lists.front shard ≤ length done
    → FewAlong (shard_in set shard) (catalogue_of (shard_in set shard) done) es
few_along set lists shard few done [] rest is low = tt
few_along set lists shard few done (e ∷ es) rest is low =
    let at : Shard = shard_in set shard in
    let longer : Numbered = done ++ e ∷ [] in
    let next : lists.whole shard ≡ longer ++ (es ++ rest) = is ∙ sym (append_assoc done (e ∷ []) (es ++ rest)) in
    let more : length longer ≡ length done + 1 = length-append done (e ∷ []) in
    let high : lists.front shard ≤ length longer = omega (arith, low, more) in
    subst (λ c. IsFew c × FewAlong at c es) (apply_append at empty_catalogue done (e ∷ [])) (few longer (es ++ rest, next) high, few_along set lists shard few longer es rest next high)
