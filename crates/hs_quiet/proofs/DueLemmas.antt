-- What is due next, and what is not, for any number of copies.
use Rattle.std.proofs.Common.{◌≡◌, ◌≢◌, ◌∙◌, inl, inr, sym, ap, subst, ℕ, zero, suc, ◌+◌, ◌-◌, ◌*◌, ◌<◌, ◌≤◌, ◌==◌, ◌||◌, ◌++◌, Bool, true, false, not, List, [], ◌∷◌, Option, Some, None, refl, arith, slice_get, slice_index_or, is_some, take, drop, filter_map}
use Rattle.std.proofs.lemmas.Bool.{cases_eq}
use Rattle.std.proofs.lemmas.List.FromFn.{get_or-map-range_with_len}
use Rattle.std.proofs.lemmas.List.Elements.{All-head}
use Rattle.std.specs.List.{All, AllByRecursion, range_with_len}
use Rattle.std.specs.Map.{values_of}
use Rattle.std.specs.Option.{option_map, option_map_or, option_or}
use Rattle.std.specs.Prelude.{find, if◌then◌else◌}
use Rattle.hs_core_words.specs.Looking.{first_job, lead_of, leads_of, oldest_message, open_work, shape_of, status_of}
use Rattle.hs_core_words.specs.State.{Core}
use Rattle.hs_core_copies.proofs.LeadLemmas.{good_only}
use Rattle.hs_core_copies.proofs.ReportLemmas.{same_number}
use Rattle.hs_desk.specs.declared.fault.CoreFault.{CoreFault}
use Rattle.hs_desk.specs.declared.job.Job.{Job}
use Rattle.hs_events.specs.declared.due.Due.{Due}
use Rattle.hs_events.specs.declared.due.Due.TheVariants.{Reporting, Handling, Nudging}
use Rattle.hs_events.specs.declared.due.Place.{Place}
use Rattle.hs_events.specs.Due.{next_due, next_good, next_nudge, next_nudger, next_turn, turn_of}
use Rattle.hs_limits.specs.declared.delta.Delta.{Delta}
use Rattle.hs_limits.specs.declared.limits.PeerStatus.TheVariants.{Down, Good}
use Rattle.hs_members.specs.Members.{all_peers, is_good_status}
use Rattle.hs_post.specs.declared.message.Message.{Message}
use Rattle.hs_post.specs.declared.message.Message.TheVariants as message
use Rattle.hs_post.specs.Pool.{is_for}
use Rattle.hs_quiet.specs.Keeping.{AreInStep, IsForGood, KeepsUp}
use Rattle.hs_quiet.proofs.StartLemmas.{good_lead, job_low, lead_here, low_peer}

-- ---- lists

keeps_some : {X Y : Type 0} (f : X → Option Y) (x : X) (xs : List X) (y : Y) → f x ≡ Some y → filter_map f (x ∷ xs) ≡ y ∷ filter_map f xs
keeps_some f x xs y e = rw e refl

drops_none : {X Y : Type 0} (f : X → Option Y) (x : X) (xs : List X) → f x ≡ None → filter_map f (x ∷ xs) ≡ filter_map f xs
drops_none f x xs e = rw e refl

-- where the first is none, none is
all_none : (f : ℕ → Option Due) (xs : List ℕ) → slice_get (filter_map f xs) 0 ≡ None → AllByRecursion (λ x. f x ≡ None) xs
all_none f [] h = tt
all_none f (x ∷ xs) h = go (λ g. all_none f xs g) (f x) refl
  where
    go : (slice_get (filter_map f xs) 0 ≡ None → AllByRecursion (λ y. f y ≡ None) xs) → (o : Option Due) → f x ≡ o → (f x ≡ None) × AllByRecursion (λ y. f y ≡ None) xs
    go again (Some y) e = let both : Some y ≡ None = sym (ap (λ (ys : List Due). slice_get ys 0) (keeps_some f x xs y e)) ∙ h in absurd (cc both)
    go again None e = (e, again (sym (ap (λ (ys : List Due). slice_get ys 0) (drops_none f x xs e)) ∙ h))

first_some : (f : ℕ → Option Due) (d : Due) (xs : List ℕ) → slice_get (filter_map f xs) 0 ≡ Some d → (x : ℕ) × (f x ≡ Some d)
first_some f d [] h = absurd (cc h)
first_some f d (x ∷ xs) h = go (λ g. first_some f d xs g) (f x) refl
  where
    go : (slice_get (filter_map f xs) 0 ≡ Some d → (y : ℕ) × (f y ≡ Some d)) → (o : Option Due) → f x ≡ o → (y : ℕ) × (f y ≡ Some d)
    go again (Some y) e = let head : Some y ≡ Some d = sym (ap (λ (ys : List Due). slice_get ys 0) (keeps_some f x xs y e)) ∙ h in (x, e ∙ head)
    go again None e = again (sym (ap (λ (ys : List Due). slice_get ys 0) (drops_none f x xs e)) ∙ h)

module _ {X : Type 0} (P : X → Type 0) where
  all_front : (xs ys : List X) → AllByRecursion P (xs ++ ys) → AllByRecursion P xs × AllByRecursion P ys
  all_front [] ys h = (tt, h)
  all_front (x ∷ xs) ys h = let r = all_front xs ys h.1 in ((h.0, r.0), r.1)

  all_both : (xs ys : List X) → AllByRecursion P xs → AllByRecursion P ys → AllByRecursion P (xs ++ ys)
  all_both [] ys h k = k
  all_both (x ∷ xs) ys h k = (h.0, all_both xs ys h.1 k)

  -- two parts of a list, the later one first
  all_parts : (k : ℕ) (xs : List X) → AllByRecursion P (drop k xs ++ take k xs) → AllByRecursion P xs
  all_parts zero xs h = (all_front xs [] h).0
  all_parts (suc k) [] h = tt
  all_parts (suc k) (x ∷ xs) h =
      let r = all_front (drop k xs) (x ∷ take k xs) h in
      (r.1.0, all_parts k xs (all_both (drop k xs) (take k xs) r.0 r.1.1))

range_all : (P : ℕ → Type 0) (a n : ℕ) → AllByRecursion P (range_with_len a n) → (i : ℕ) → a ≤ i → i < a + n → P i
range_all P a zero h i low high = absurd (omega (arith, low, high))
range_all P a (suc n) h i low high = elim (cases_eq i a) [
  | inl same ↦ subst P (sym same) h.0
  | inr apart ↦ range_all P (a + 1) n h.1 i (omega (arith, low, apart)) (omega (arith, high))
]

range_as : (a b n m : ℕ) → a ≡ b → n ≡ m → range_with_len a n ≡ range_with_len b m
range_as a b n m x y = ap (λ j. range_with_len j n) x ∙ ap (λ j. range_with_len b j) y

drop_range : (a n k : ℕ) → drop k (range_with_len a n) ≡ range_with_len (a + k) (n - k)
drop_range a zero zero = refl
drop_range a zero (suc k) = ap (λ j. range_with_len (a + suc k) j) (let z : 0 ≡ 0 - suc k = omega arith in z)
drop_range a (suc n) zero = range_as a (a + 0) (suc n) (suc n - 0) (omega arith) (omega arith)
drop_range a (suc n) (suc k) = drop_range (a + 1) n k ∙ range_as (a + 1 + k) (a + suc k) (n - k) (suc n - suc k) (omega arith) (omega arith)

-- the first of a range that passes
record IsFirst (test : ℕ → Bool) (a n p : ℕ) : Type 0 where
  pub from : a ≤ p
  pub to : p < a + n
  pub passes : test p ≡ true
  pub before : (q : ℕ) → a ≤ q → q < p → test q ≡ false

find_first : (test : ℕ → Bool) (a n p : ℕ) → find test (range_with_len a n) ≡ Some p → IsFirst test a n p
find_first test a zero p e = let wrong : None ≡ Some p = e in absurd (cc wrong)
find_first test a (suc n) p e = go (test a) refl (λ h. find_first test (a + 1) n p h)
  where
    go : (b : Bool) → test a ≡ b → (find test (range_with_len (a + 1) n) ≡ Some p → IsFirst test (a + 1) n p) → IsFirst test a (suc n) p
    go true t again =
        let same : a ≡ p = (let both : Some a ≡ Some p = sym (ap (λ b. if b then Some a else find test (range_with_len (a + 1) n)) t) ∙ e in cc both) in
        record { from = omega (arith, same); to = omega (arith, same); passes = ap test (sym same) ∙ t; before = λ q low less. absurd (omega (arith, low, less, same)) }
    go false t again =
        let r = again (sym (ap (λ b. if b then Some a else find test (range_with_len (a + 1) n)) t) ∙ e) in
        let f = r.from in
        let l = r.to in
        record {
          from = omega (arith, f);
          to = omega (arith, l);
          passes = r.passes;
          before = λ q low less. elim (cases_eq q a) [
            | inl same ↦ ap test same ∙ t
            | inr apart ↦ r.before q (omega (arith, low, apart)) less
          ];
        }

find_none : (test : ℕ → Bool) (a n : ℕ) → find test (range_with_len a n) ≡ None → (q : ℕ) → a ≤ q → q < a + n → test q ≡ false
find_none test a zero e q low high = absurd (omega (arith, low, high))
find_none test a (suc n) e q low high = go (test a) refl (λ h k. find_none test (a + 1) n h q k (omega (arith, high)))
  where
    go : (b : Bool) → test a ≡ b → (find test (range_with_len (a + 1) n) ≡ None → a + 1 ≤ q → test q ≡ false) → test q ≡ false
    go true t again = let wrong : Some a ≡ None = sym (ap (λ b. if b then Some a else find test (range_with_len (a + 1) n)) t) ∙ e in absurd (cc wrong)
    go false t again = elim (cases_eq q a) [
      | inl same ↦ ap test same ∙ t
      | inr apart ↦ again (sym (ap (λ b. if b then Some a else find test (range_with_len (a + 1) n)) t) ∙ e) (omega (arith, low, apart))
    ]

module _ (c : Core) where
  abbrev peers : ℕ
  peers = (shape_of c).shards * (shape_of c).copies

  good_range : (k : ℕ) → next_good k c ≡ find (λ p. is_good_status (status_of p c)) (range_with_len k ((shape_of c).shards * (shape_of c).copies - k))
  good_range k = ap (find (λ p. is_good_status (status_of p c))) (drop_range 0 ((shape_of c).shards * (shape_of c).copies) k ∙ ap (λ j. range_with_len j ((shape_of c).shards * (shape_of c).copies - k)) (let z : 0 + k ≡ k = omega arith in z))

  is_bad : (q : ℕ) → is_good_status (status_of q c) ≡ false → status_of q c ≢ Good
  is_bad q e g = let wrong : false ≡ true = sym e ∙ ap is_good_status g in cc wrong

  -- the first good peer from one on
  pub record IsNext (k p : ℕ) : Type 0 where
    pub from : k ≤ p
    pub good : status_of p c ≡ Good
    pub before : (q : ℕ) → k ≤ q → q < p → status_of q c ≢ Good

  pub next_is : (k p : ℕ) → next_good k c ≡ Some p → IsNext k p
  next_is k p e =
      let r = find_first (λ p. is_good_status (status_of p c)) k ((shape_of c).shards * (shape_of c).copies - k) p (sym (good_range k) ∙ e) in
      record { from = r.from; good = good_only (status_of p c) r.passes; before = λ q low less. is_bad q (r.before q low less) }

  pub next_none : (k : ℕ) → next_good k c ≡ None → (q : ℕ) → k ≤ q → q < (shape_of c).shards * (shape_of c).copies → status_of q c ≢ Good
  next_none k e q low high = is_bad q (find_none (λ p. is_good_status (status_of p c)) k ((shape_of c).shards * (shape_of c).copies - k) (sym (good_range k) ∙ e) q low (omega (arith, low, high)))

  -- ---- nobody has a turn

  module _ (place : Place) (going : c.ended ≡ None) (none : next_turn place c ≡ None) where
    each_none : AllByRecursion (λ p. turn_of c p ≡ None) (drop place.peer (all_peers (shape_of c)) ++ take place.peer (all_peers (shape_of c)))
    each_none =
        all_none (turn_of c) (drop place.peer (all_peers (shape_of c)) ++ take place.peer (all_peers (shape_of c)))
        (sym (ap (λ (o : Option CoreFault). if is_some o then None else slice_get (filter_map (turn_of c) (drop place.peer (all_peers (shape_of c)) ++ take place.peer (all_peers (shape_of c)))) 0) going) ∙ none)

    turn_none : (p : ℕ) → p < (shape_of c).shards * (shape_of c).copies → turn_of c p ≡ None
    turn_none p low =
        range_all (λ q. turn_of c q ≡ None) 0 ((shape_of c).shards * (shape_of c).copies) (all_parts (λ q. turn_of c q ≡ None) place.peer (all_peers (shape_of c)) each_none) p (omega arith) (omega (arith, low))

    no_parts : (p : ℕ) → p < (shape_of c).shards * (shape_of c).copies → (first_job p c ≡ None) × (oldest_message p c ≡ None)
    no_parts p low = by_parts (first_job p c) (oldest_message p c) (turn_none p low)
      where
        by_parts : (j : Option Job) (m : Option ℕ) → option_or (option_map (λ job. Reporting p) j) (option_map (Handling p) m) ≡ None → (j ≡ None) × (m ≡ None)
        by_parts (Some job) m e = absurd (cc e)
        by_parts None (Some k) e = absurd (cc e)
        by_parts None None e = (refl, refl)

    -- so no peer has a job
    pub nobody : AreInStep c → (p : ℕ) → first_job p c ≡ None
    nobody all p = go (first_job p c) refl
      where
        go : (o : Option Job) → first_job p c ≡ o → first_job p c ≡ None
        go None e = e
        go (Some j) e =
            let low = job_low c all p j e in
            absurd (let wrong : Some j ≡ None = sym e ∙ (no_parts p low).0 in cc wrong)

    -- and no message is under way, where each Round is to a shard
    pub pool_empty : AreInStep c → KeepsUp c → ((number from to epoch round total : ℕ) (deltas : List Delta) (rest : List (ℕ × Message)) → c.pool.messages ≡ (number, message.Round from to epoch round total deltas) ∷ rest → to < (shape_of c).shards)
        → c.pool.messages ≡ []
    pool_empty all up rounds = by_messages c.pool.messages refl
      where
        found : (p : ℕ) (x : ℕ × Message) (es : List (ℕ × Message)) → c.pool.messages ≡ x ∷ es → is_for p (leads_of c) x.1 ≡ true → p < (shape_of c).shards * (shape_of c).copies → ⊥
        found p x es e is low =
            let here : oldest_message p c ≡ Some x.0 =
            ap (λ (ys : List (ℕ × Message)). option_map (λ (y : ℕ × Message). y.0) (find (λ (y : ℕ × Message). is_for p (leads_of c) y.1) ys)) e
            ∙ ap (λ (b : Bool). option_map (λ (y : ℕ × Message). y.0) (if b then Some x else find (λ (y : ℕ × Message). is_for p (leads_of c) y.1) es)) is in
            let both : Some x.0 ≡ None = sym here ∙ (no_parts p low).1 in
            cc both

        low_good : (p : ℕ) → status_of p c ≡ Good → p < (shape_of c).shards * (shape_of c).copies
        low_good p g = low_peer c all p (λ d. let wrong : Good ≡ Down = sym g ∙ d in cc wrong)

        by_message : (n : ℕ) (m : Message) (es : List (ℕ × Message)) → c.pool.messages ≡ (n, m) ∷ es → IsForGood c.members m → ⊥
        by_message n (message.Copy shard to view number entry) es e good = found to (n, message.Copy shard to view number entry) es e (same_number to) (low_good to good)
        by_message n (message.Have shard from to view sealed) es e good = found to (n, message.Have shard from to view sealed) es e (same_number to) (low_good to good)
        by_message n (message.Round from to epoch round total deltas) es e good =
            let low = rounds n from to epoch round total deltas es e in
            let t = all.each to low in
            let l = lead_here to c t.0 t.1 in
            let led = good_lead to c t.0 t.1 l.0 l.1 in
            let at : slice_index_or (leads_of c) to None ≡ Some l.0 = get_or-map-range_with_len (λ shard. lead_of shard c) 0 (shape_of c).shards to to None low (omega arith) ∙ l.2 in
            found l.0 (n, message.Round from to epoch round total deltas) es e (ap (λ (o : Option ℕ). option_map_or (λ k. k == l.0) o false) at ∙ same_number l.0) (low_good l.0 led.good)

        by_messages : (es : List (ℕ × Message)) → c.pool.messages ≡ es → c.pool.messages ≡ []
        by_messages [] e = e
        by_messages (x ∷ es) e =
            absurd (by_message x.0 x.1 es e (All-head (IsForGood c.members) x.1 (values_of es) (subst (λ (ys : List (ℕ × Message)). All (IsForGood c.members) (values_of ys)) e up.receivers)))

  -- ---- a nudge is due

  no_nudge : (q : ℕ) (p : ℕ) → turn_of c q ≡ Some (Nudging p) → ⊥
  no_nudge q p e = by_parts (first_job q c) (oldest_message q c) e
    where
      by_parts : (j : Option Job) (m : Option ℕ) → option_or (option_map (λ job. Reporting q) j) (option_map (Handling q) m) ≡ Some (Nudging p) → ⊥
      by_parts (Some job) m f = cc f
      by_parts None (Some k) f = cc f
      by_parts None None f = cc f

  pub nudge_due : (place : Place) (p : ℕ) → next_due place c ≡ Some (Nudging p) → (next_turn place c ≡ None) × (next_nudger place c ≡ Some p)
  nudge_due place p e = by_turn (next_turn place c) refl
    where
      of_turn : (b : Bool) → is_some c.ended ≡ b → next_turn place c ≡ Some (Nudging p) → ⊥
      of_turn true f k = let both : None ≡ Some (Nudging p) = sym (rw f refl) ∙ k in cc both
      of_turn false f k =
          let found = first_some (turn_of c) (Nudging p) (drop place.peer (all_peers (shape_of c)) ++ take place.peer (all_peers (shape_of c))) (sym (rw f refl) ∙ k) in
          no_nudge found.0 p found.1

      of_nudger : (o : Option ℕ) → option_map Nudging o ≡ Some (Nudging p) → o ≡ Some p
      of_nudger None f = absurd (cc f)
      of_nudger (Some q) f = let same : q ≡ p = cc f in ap (λ k. Some k) same

      of_nudge : (b : Bool) → (if b then None else option_map Nudging (next_nudger place c)) ≡ Some (Nudging p) → next_nudger place c ≡ Some p
      of_nudge true f = absurd (cc f)
      of_nudge false f = of_nudger (next_nudger place c) f

      by_turn : (o : Option Due) → next_turn place c ≡ o → (next_turn place c ≡ None) × (next_nudger place c ≡ Some p)
      by_turn None f = (f, of_nudge (is_some c.ended || not (open_work c)) (sym (ap (λ (o : Option Due). option_or o (next_nudge place c)) f) ∙ e))
      by_turn (Some d) f = absurd (of_turn (is_some c.ended) refl (f ∙ (sym (ap (λ (o : Option Due). option_or o (next_nudge place c)) f) ∙ e)))
