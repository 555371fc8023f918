-- A journal that is judged entry by entry, each behind those before it.
use Rattle.std.proofs.Common.{◌≡◌, ◌∙◌, ◌<◌, ◌≤◌, ◌+◌, ◌↔◌, ℕ, List, [], ◌∷◌, ◌++◌, Result, Ok, Err, IfOk, OnOk, drop, length, map, refl, sym, ap, subst, take, slice_index_or}
use Rattle.std.proofs.lemmas.Grind.{take_at_read}
use Rattle.std.proofs.lemmas.List.{at_drop_all, at_drop_more}
use Rattle.hs_journal.specs.declared.entry.JournalEntry.{JournalEntry}
use Rattle.hs_journal.specs.Deeds.{as_deed}
use Rattle.hs_limits.specs.declared.limits.Limits.{Limits}
use Rattle.hs_model.specs.Deeds.{AreDeeds, DeedEntry, IsDeed, deed_store}
use Rattle.hs_model.specs.Store.{Store}

-- two facts of a result that is no fault
pub if_ok : {A E : Type 0} (r : Result A E) (P Q : A → Type 0) (R : Type 0) → IfOk r Q → OnOk r R → ((a : A) → Q a → R → P a) → IfOk r P
if_ok (Ok a) P Q R q on f = f a q on
if_ok (Err e) P Q R q on f = tt

-- one does
pub if_one : {A E : Type 0} (r : Result A E) (P Q : A → Type 0) → IfOk r Q → ((a : A) → Q a → P a) → IfOk r P
if_one (Ok a) P Q q f = f a q
if_one (Err e) P Q q f = tt

map_more : (xs : List JournalEntry) (x : JournalEntry) → map as_deed (xs ++ x ∷ []) ≡ map as_deed xs ++ as_deed x ∷ []
map_more [] x = refl
map_more (y ∷ xs) x = ap (λ z. as_deed y ∷ z) (map_more xs x)

-- the entries from a place on, behind those before it
abbrev pub AreFrom : Limits → Store → ℕ → List JournalEntry → Type 0
AreFrom limits s at entries = AreDeeds limits s (map as_deed (take at entries)) (map as_deed (drop at entries))

module _ (limits : Limits) (s : Store) (at : ℕ) (e : JournalEntry) (entries : List JournalEntry) (low : at < length entries) (is : e ≡ slice_index_or entries at e) where
  taken : map as_deed (take (at + 1) entries) ≡ map as_deed (take at entries) ++ as_deed e ∷ []
  taken = ap (λ z. map as_deed z) ((take_at_read entries at e low).1 ∙ ap (λ z. take at entries ++ z ∷ []) (sym is)) ∙ map_more (take at entries) e

  whole : drop at entries ≡ e ∷ drop (at + 1) entries
  whole = at_drop_more (λ (z : List JournalEntry). z) entries at e low ∙ ap (λ (z : JournalEntry). z ∷ drop (at + 1) entries) (sym is)

  -- the rest behind this one, at the store that it leaves
  abbrev Rest : Type 0
  Rest = AreDeeds limits (deed_store s e.deed) (map as_deed (take at entries) ++ as_deed e ∷ []) (map as_deed (drop (at + 1) entries))

  parted : AreFrom limits s at entries → IsDeed limits s (map as_deed (take at entries)) (as_deed e) × Rest
  parted h = subst (λ (z : List JournalEntry). AreDeeds limits s (map as_deed (take at entries)) (map as_deed z)) whole h

  joined : IsDeed limits s (map as_deed (take at entries)) (as_deed e) × Rest → AreFrom limits s at entries
  joined h = subst (λ (z : List JournalEntry). AreDeeds limits s (map as_deed (take at entries)) (map as_deed z)) (sym whole) h

  pub first_is : AreFrom limits s at entries → IsDeed limits s (map as_deed (take at entries)) (as_deed e)
  first_is h = (parted h).0

  -- where this one is a deed, the rest are from its store on
  pub goes_on : (after : Store) → IsDeed limits s (map as_deed (take at entries)) (as_deed e) → after ≡ deed_store s e.deed → AreFrom limits after (at + 1) entries ↔ AreFrom limits s at entries
  goes_on after one kept = (
    λ h.
        joined (
          one,
          subst (λ (z : Store). AreDeeds limits z (map as_deed (take at entries) ++ as_deed e ∷ []) (map as_deed (drop (at + 1) entries))) kept
              (subst (λ (z : List DeedEntry). AreDeeds limits after z (map as_deed (drop (at + 1) entries))) taken h),
        ),
    λ h.
        subst (λ (z : List DeedEntry). AreDeeds limits after z (map as_deed (drop (at + 1) entries))) (sym taken)
        (subst (λ (z : Store). AreDeeds limits z (map as_deed (take at entries) ++ as_deed e ∷ []) (map as_deed (drop (at + 1) entries))) (sym kept) (parted h).1),
  )

-- behind the last there is nothing left
pub none_left : (limits : Limits) (s : Store) (at : ℕ) (entries : List JournalEntry) → length entries ≤ at → AreFrom limits s at entries
none_left limits s at entries past =
    subst (λ (z : List JournalEntry). AreDeeds limits s (map as_deed (take at entries)) (map as_deed z)) (sym (at_drop_all (λ (z : List JournalEntry). z) entries at past)) tt
