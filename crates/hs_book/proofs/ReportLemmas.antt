-- The numbers that are kept of reports.
use Rattle.std.proofs.Common.{◌≡◌, ◌≢◌, ◌∙◌, ap, sym, ℕ, zero, suc, ◌+◌, ◌<◌, replicate, Bool, true, false, List, [], ◌∷◌, ◌++◌, Option, Some, None, length, refl, arith}
use Rattle.std.proofs.lemmas.Bool.Decides.{nat_tests}
use Rattle.std.proofs.lemmas.List.{append-nil, append_assoc, get_or-set_same, get_or-set_other, set-get_or}
use Rattle.std.proofs.Math.ListN.{length-set}
use Rattle.std.specs.Option.{option_map_or}
use Rattle.std.specs.Prelude.{◌==◌, is_none, slice_index_or, slice_set, if◌then◌else◌}
use Rattle.hs_book.specs.Reports.{numbers_along, numbers_of, with_numbers, with_report}
use Rattle.hs_core_words.specs.declared.event.Event.{Event}
use Rattle.hs_core_words.specs.State.{Core}
use Rattle.hs_core_words.specs.Step.{step}
use Rattle.hs_desk.specs.declared.done.Done.{Done}
use Rattle.hs_desk.specs.Slips.{stored_by}
use Rattle.hs_events.specs.Asked.{report_in}
use Rattle.hs_events.specs.Course.{steps}
use Rattle.hs_events.specs.Due.{Events}

-- ---- one report

same_peer : (p q : ℕ) (numbers : List ℕ) (reported : List (List ℕ)) → q < length reported → (b : Bool) → (p == q) ≡ b
    → slice_index_or (with_numbers p numbers reported) q [] ≡ slice_index_or reported q [] ++ (if b then numbers else [])
same_peer p q numbers reported h true is =
    let same : p ≡ q = grind (arith, nat_tests) in
    rw same (get_or-set_same reported q (slice_index_or reported q [] ++ numbers) [] h)
same_peer p q numbers reported h false is =
    let other : q ≢ p = λ e. grind (arith, nat_tests) in
    get_or-set_other reported p q (slice_index_or reported p [] ++ numbers) [] other ∙ sym (append-nil (slice_index_or reported q []))

one_peer : (q : ℕ) (reported : List (List ℕ)) (r : Option (ℕ × Done)) → q < length reported
    → slice_index_or (option_map_or (λ r. with_numbers r.0 (stored_by r.1) reported) r reported) q [] ≡ slice_index_or reported q [] ++ option_map_or (λ r. if r.0 == q then stored_by r.1 else []) r []
one_peer q reported None h = sym (append-nil (slice_index_or reported q []))
one_peer q reported (Some r) h = same_peer r.0 q (stored_by r.1) reported h (r.0 == q) refl

pub report_adds : (peer : ℕ) (e : Event) (reported : List (List ℕ)) → peer < length reported → slice_index_or (with_report e reported) peer [] ≡ slice_index_or reported peer [] ++ numbers_of peer e
report_adds peer e reported h = one_peer peer reported (report_in e) h

as_long : (reported : List (List ℕ)) (r : Option (ℕ × Done)) → length (option_map_or (λ r. with_numbers r.0 (stored_by r.1) reported) r reported) ≡ length reported
as_long reported None = refl
as_long reported (Some r) = length-set reported r.0 (slice_index_or reported r.0 [] ++ stored_by r.1)

pub report_keeps_length : (e : Event) (reported : List (List ℕ)) → length (with_report e reported) ≡ length reported
report_keeps_length e reported = as_long reported (report_in e)

-- ---- some more events

pub told_more : (peer : ℕ) (core : Core) (es : Events) (e : Event × ℕ)
    → numbers_along peer core (es ++ e ∷ []) ≡ numbers_along peer core es ++ (if is_none (step e.0 e.1 (steps core es)).ended then numbers_of peer e.0 else [])
told_more peer core [] e = append-nil (if is_none (step e.0 e.1 core).ended then numbers_of peer e.0 else [])
told_more peer core (d ∷ es) e =
    let here : List ℕ = if is_none (step d.0 d.1 core).ended then numbers_of peer d.0 else [] in
    let after : Core = step d.0 d.1 core in
    ap (λ xs. here ++ xs) (told_more peer after es e)
    ∙ sym (append_assoc here (numbers_along peer after es) (if is_none (step e.0 e.1 (steps after es)).ended then numbers_of peer e.0 else []))

-- ---- lists of numbers

pub no_numbers : (peer : ℕ) (reported : List (List ℕ)) → with_numbers peer [] reported ≡ reported
no_numbers peer reported =
    ap (λ xs. slice_set reported peer xs) (append-nil (slice_index_or reported peer [])) ∙ set-get_or reported peer []

pub replicate_more : {A : Type 0} (n : ℕ) (x : A) → replicate (n + 1) x ≡ replicate n x ++ x ∷ []
replicate_more zero x = refl
replicate_more (suc n) x =
    let e : suc n + 1 ≡ suc (n + 1) = omega arith in
    rw e (ap (λ xs. x ∷ xs) (replicate_more n x))

pub nothing_reported : (n peer : ℕ) → slice_index_or {A = List ℕ} (replicate n []) peer [] ≡ []
nothing_reported zero peer = refl
nothing_reported (suc n) zero = refl
nothing_reported (suc n) (suc peer) = nothing_reported n peer
