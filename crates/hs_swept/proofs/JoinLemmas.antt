-- A journal behind another.
use Rattle.std.proofs.Common.{◌≡◌, ◌∙◌, ◌⊎◌, inl, inr, sym, ap, subst, ℕ, zero, suc, ◌+◌, ◌<◌, ◌≤◌, List, [], ◌∷◌, ◌++◌, Option, refl, length, arith, slice_get, take}
use Rattle.std.proofs.lemmas.Option.{slice_get_within}
use Rattle.hs_answered.specs.Telling.{Judging, events_in}
use Rattle.hs_journal.specs.declared.entry.JournalEntry.{JournalEntry}
use Rattle.hs_journal.specs.Events.{event_at, store_by}
use Rattle.hs_laws.specs.Kept.{AllSwept, SweepIsExact}
use Rattle.hs_model.specs.Run.{Event, run}
use Rattle.hs_model.specs.Store.{Store}
use Rattle.hs_swept.proofs.ExactLemmas.{run_with}
use Rattle.hs_swept.specs.Swept.{AreSwept, EndsRun, IsDoneAt, SweepsExactly, store_before}

-- ---- places of two lists

take_front : (front back : List JournalEntry) (n : ℕ) → n ≤ length front → take n (front ++ back) ≡ take n front
take_front front back zero h = refl
take_front [] back (suc n) h = absurd (omega (arith, h))
take_front (x ∷ front) back (suc n) h = ap (λ t. x ∷ t) (take_front front back n (omega (arith, h)))

get_front : (front back : List JournalEntry) (n : ℕ) → n < length front → slice_get (front ++ back) n ≡ slice_get front n
get_front [] back n h = absurd (omega (arith, h))
get_front (x ∷ front) back zero h = refl
get_front (x ∷ front) back (suc n) h = get_front front back n (omega (arith, h))

take_back : (front back : List JournalEntry) (n k : ℕ) → n ≡ length front + k → take n (front ++ back) ≡ front ++ take k back
take_back [] back n k e = ap (λ m. take m back) (omega (arith, e))
take_back (x ∷ front) back zero k e = absurd (omega (arith, e))
take_back (x ∷ front) back (suc n) k e = ap (λ t. x ∷ t) (take_back front back n k (omega (arith, e)))

get_back : (front back : List JournalEntry) (n k : ℕ) → n ≡ length front + k → slice_get (front ++ back) n ≡ slice_get back k
get_back [] back n k e = ap (λ m. slice_get back m) (omega (arith, e))
get_back (x ∷ front) back zero k e = absurd (omega (arith, e))
get_back (x ∷ front) back (suc n) k e = get_back front back n k (omega (arith, e))

parted : (n place : ℕ) → (place < n) ⊎ ((k : ℕ) × (place ≡ n + k))
parted zero place = inr (place, omega arith)
parted (suc n) zero = inl (omega arith)
parted (suc n) (suc place) = go (parted n place)
  where
    go : (place < n) ⊎ ((k : ℕ) × (place ≡ n + k)) → (suc place < suc n) ⊎ ((k : ℕ) × (suc place ≡ suc n + k))
    go (inl h) = inl (omega (arith, h))
    go (inr r) = inr (r.0, omega (arith, r.1))

module _ (by : Judging) where
  run_append : (start : Store) (front more : List JournalEntry)
      → run by.limits start (events_in by start (front ++ more)) ≡ run by.limits (run by.limits start (events_in by start front)) (events_in by (run by.limits start (events_in by start front)) more)
  run_append start [] more = refl
  run_append start (x ∷ front) more =
      let event : Option Event = event_at by.commands by.name start x in
      let next : Store = store_by by.limits start event in
      run_with by.limits start event (events_in by next (front ++ more)) ∙ run_append next front more
      ∙ ap (λ s. run by.limits s (events_in by s more)) (sym (run_with by.limits start event (events_in by next front)))

  -- a run that ends in one journal ends in another where these have the same entry there and the same stores around it
  ends_same : (s t : Store) (xs ys : List JournalEntry) (i j epoch : ℕ) → slice_get ys j ≡ slice_get xs i → store_before by t ys j ≡ store_before by s xs i
      → store_before by t ys (j + 1) ≡ store_before by s xs (i + 1) → EndsRun by s xs i epoch → EndsRun by t ys j epoch
  ends_same s t xs ys i j epoch at at_it behind_it ends = record {
    shard = ends.shard;
    sweeping = ends.sweeping;
    at = at ∙ ends.at;
    swept = ends.swept;
    before = λ all. ends.before (subst (λ u. AllSwept u epoch) at_it all);
    after = subst (λ u. AllSwept u epoch) (sym behind_it) ends.after;
  }

  module _ (start : Store) (front back : List JournalEntry) where
    abbrev mid : Store
    mid = run by.limits start (events_in by start front)

    front_store : (n : ℕ) → n ≤ length front → store_before by start (front ++ back) n ≡ store_before by start front n
    front_store n h = ap (λ t. run by.limits start (events_in by start t)) (take_front front back n h)

    back_store : (n k : ℕ) → n ≡ length front + k → store_before by start (front ++ back) n ≡ store_before by mid back k
    back_store n k e = ap (λ t. run by.limits start (events_in by start t)) (take_back front back n k e) ∙ run_append start front (take k back)

    module _ (one : AreSwept by start front) (two : AreSwept by mid back) where
      joined_sweeps : SweepsExactly by start (front ++ back)
      joined_sweeps place shard e at swept = go (parted (length front) place)
        where
          go : (place < length front) ⊎ ((k : ℕ) × (place ≡ length front + k)) → SweepIsExact (store_before by start (front ++ back) place) shard e.reply
          go (inl h) = subst (λ s. SweepIsExact s shard e.reply) (sym (front_store place (omega (arith, h)))) (one.sweeps place shard e (sym (get_front front back place h) ∙ at) swept)
          go (inr r) = subst (λ s. SweepIsExact s shard e.reply) (sym (back_store place r.0 r.1)) (two.sweeps r.0 shard e (sym (get_back front back place r.0 r.1) ∙ at) swept)

      joined_done : (place epoch : ℕ) → EndsRun by start (front ++ back) place epoch → IsDoneAt (front ++ back) (place + 1) epoch
      joined_done place epoch ends = go (parted (length front) place)
        where
          go : (place < length front) ⊎ ((k : ℕ) × (place ≡ length front + k)) → IsDoneAt (front ++ back) (place + 1) epoch
          go (inl h) =
              let d : IsDoneAt front (place + 1) epoch =
              one.done place epoch (ends_same start start (front ++ back) front place place epoch (sym (get_front front back place h)) (sym (front_store place (omega (arith, h)))) (sym (front_store (place + 1) (omega (arith, h)))) ends) in
              record { entry = d.entry; at = get_front front back (place + 1) (slice_get_within front (place + 1) d.entry d.at) ∙ d.at; tells = d.tells }
          go (inr r) =
              let next : place + 1 ≡ length front + (r.0 + 1) = omega (arith, r.1) in
              let d : IsDoneAt back (r.0 + 1) epoch =
              two.done r.0 epoch (ends_same start mid (front ++ back) back place r.0 epoch (sym (get_back front back place r.0 r.1)) (sym (back_store place r.0 r.1)) (sym (back_store (place + 1) (r.0 + 1) next)) ends) in
              record { entry = d.entry; at = get_back front back (place + 1) (r.0 + 1) next ∙ d.at; tells = d.tells }

      joined_only : (place epoch : ℕ) → IsDoneAt (front ++ back) place epoch → (before : ℕ) × (place ≡ before + 1) × EndsRun by start (front ++ back) before epoch
      joined_only place epoch d = go (parted (length front) place)
        where
          go : (place < length front) ⊎ ((k : ℕ) × (place ≡ length front + k)) → (before : ℕ) × (place ≡ before + 1) × EndsRun by start (front ++ back) before epoch
          go (inl h) =
              let r : (before : ℕ) × (place ≡ before + 1) × EndsRun by start front before epoch =
              one.only_done place epoch (record { entry = d.entry; at = sym (get_front front back place h) ∙ d.at; tells = d.tells }) in
              let low : r.0 < length front = omega (arith, r.1, h) in
              (r.0, r.1, ends_same start start front (front ++ back) r.0 r.0 epoch (get_front front back r.0 low) (front_store r.0 (omega (arith, low))) (front_store (r.0 + 1) (omega (arith, low))) r.2)
          go (inr k) =
              let r : (before : ℕ) × (k.0 ≡ before + 1) × EndsRun by mid back before epoch =
              two.only_done k.0 epoch (record { entry = d.entry; at = sym (get_back front back place k.0 k.1) ∙ d.at; tells = d.tells }) in
              let here : length front + r.0 ≡ length front + r.0 = refl in
              let next : length front + r.0 + 1 ≡ length front + (r.0 + 1) = omega arith in (
                length front + r.0,
                omega (arith, k.1, r.1),
                ends_same mid start back (front ++ back) r.0 (length front + r.0) epoch (get_back front back (length front + r.0) r.0 here) (back_store (length front + r.0) r.0 here) (back_store (length front + r.0 + 1) (r.0 + 1) next) r.2,
              )

      pub joined : AreSwept by start (front ++ back)
      joined = record { sweeps = joined_sweeps; done = joined_done; only_done = joined_only }
