-- The list of a joining peer, step by step.
use Rattle.std.proofs.Common.{◌≡◌, ℕ, ◌+◌, ◌-◌, ◌≤◌, ◌<◌, Bool, true, false, List, [], ◌∷◌, ◌++◌, length, take, drop, arith, refl, sym, ◌∙◌, ap, ◌==◌}
use Rattle.std.proofs.Math.Seq.{take-add}
use Rattle.std.proofs.lemmas.Bool.Decides.{nat_tests}
use Rattle.std.proofs.lemmas.List.{length-append, take-append-le, take_all}
use Rattle.std.specs.Option.{IfSome}
use Rattle.std.specs.Prelude.{nat_lt}
use Rattle.hs_entry.specs.declared.entry.Entry.{Entry}
use Rattle.hs_rejoin.specs.Course.{Follows, after_step, counted, steps_left}
use Rattle.hs_rejoin.specs.Rejoin.{Rejoin, follow, is_level, new_rejoin, next_job}

pub new_follows : (from : ℕ) (lead list : List Entry) → Follows lead list (new_rejoin from)
new_follows from lead list = record {
  within = λ e. let wrong : true ≡ false = e in cc;
  same = λ e. let wrong : true ≡ false = e in cc;
}

pub step_follows : (lead_sealed : ℕ) (lead list : List Entry) (r : Rejoin) → lead_sealed ≤ length lead → Follows lead list r
    → IfSome (next_job lead_sealed r) (λ step. Follows lead (after_step step lead list) (counted step r))
step_follows lead_sealed lead list r s h = go r.empty refl (nat_lt r.len lead_sealed) refl
  where
    copy_within : nat_lt r.len lead_sealed ≡ true → r.len + 1 ≤ length lead
    copy_within below = grind (arith, nat_tests)

    copy_same : r.empty ≡ false → list ++ take 1 (drop (r.len + 1 - 1) lead) ≡ take (r.len + 1) lead
    copy_same done =
        let place : r.len + 1 - 1 ≡ r.len = omega arith in
        rw (place, h.same done) (sym (take-add r.len 1 lead))

    go : (b : Bool) → r.empty ≡ b → (c : Bool) → nat_lt r.len lead_sealed ≡ c
        → IfSome (next_job lead_sealed r) (λ step. Follows lead (after_step step lead list) (counted step r))
    go true due c e = rw due (record { within = λ f. omega arith; same = λ f. refl })
    go false done true below = rw (done, below) (record { within = λ f. copy_within below; same = λ f. copy_same done })
    go false done false level = rw (done, level) tt

pub step_nearer : (lead_sealed : ℕ) (r : Rejoin) → IfSome (next_job lead_sealed r) (λ step. steps_left lead_sealed (counted step r) + 1 ≡ steps_left lead_sealed r)
step_nearer lead_sealed r = go r.empty refl (nat_lt r.len lead_sealed) refl
  where
    one_less : nat_lt r.len lead_sealed ≡ true → lead_sealed - (r.len + 1) + 1 ≡ lead_sealed - r.len
    one_less below = grind (arith, nat_tests)

    go : (b : Bool) → r.empty ≡ b → (c : Bool) → nat_lt r.len lead_sealed ≡ c
        → IfSome (next_job lead_sealed r) (λ step. steps_left lead_sealed (counted step r) + 1 ≡ steps_left lead_sealed r)
    go true due c e = rw due (omega arith)
    go false done true below = rw (done, below) (one_less below)
    go false done false level = rw (done, level) tt

pub other_lead_follows : (from : ℕ) (lead other list : List Entry) (r : Rejoin) → Follows lead list r → r.len ≤ length other → take r.len other ≡ take r.len lead
    → Follows other list (follow from r)
other_lead_follows from lead other list r h l e = record {
  within = λ f. l;
  same = λ f. h.same f ∙ sym e;
}

pub longer_lead_follows : (lead more list : List Entry) (r : Rejoin) → Follows lead list r → Follows (lead ++ more) list r
longer_lead_follows lead more list r h = record {
  within = λ f. rw (length-append lead more) (omega (arith, h.within f));
  same = λ f. h.same f ∙ sym (take-append-le r.len lead more (h.within f));
}

pub level_is_lead : (lead list : List Entry) (r : Rejoin) → Follows lead list r → is_level (length lead) r ≡ true → list ≡ lead
level_is_lead lead list r h e = go r.empty refl
  where
    go : (b : Bool) → r.empty ≡ b → list ≡ lead
    go true due = let wrong : false ≡ true = rw due at e in cc
    go false done =
        let long : (r.len == length lead) ≡ true = rw done at e in
        h.same done ∙ take_all r.len lead (grind (arith, nat_tests))
