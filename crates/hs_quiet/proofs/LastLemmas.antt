-- The last event that changed a peer's status; and that the peers of a lost shard are not good.
use Rattle.std.proofs.Common.{◌≡◌, ◌≢◌, ◌⊎◌, ◌∙◌, ap, sym, subst, refl, inl, inr, arith, ℕ, zero, suc, ◌+◌, ◌*◌, ◌<◌, if◌then◌else◌, not, nat_lt, Bool, true, false, [], ◌∷◌, ◌++◌, Option, Some, None, length, is_none}
use Rattle.std.proofs.lemmas.Bool.{cases_eq}
use Rattle.std.specs.List.{range_with_len}
use Rattle.std.specs.Option.{option_map}
use Rattle.std.specs.Prelude.{find}
use Rattle.hs_awaiting.specs.Words.{change_if}
use Rattle.hs_copies.proofs.StatusLemmas.{become_here, become_other}
use Rattle.hs_core_copies.proofs.StepsLemmas.{was_going}
use Rattle.hs_core_words.specs.declared.event.Event.{Event}
use Rattle.hs_core_words.specs.declared.event.Event.TheVariants as event
use Rattle.hs_core_words.specs.Asking.{no_peer, not_down, not_up}
use Rattle.hs_core_words.specs.Looking.{home, lost_shard, shape_of, status_of}
use Rattle.hs_core_words.specs.State.{Core}
use Rattle.hs_core_words.specs.Step.{begin_event, do_event, keep_entries, line_of, refuse_entries, run_event, step}
use Rattle.hs_desk.specs.declared.done.Done.TheVariants as done
use Rattle.hs_desk.specs.declared.fault.CoreFault.{CoreFault}
use Rattle.hs_desk.specs.declared.fault.CoreFault.TheVariants as fault
use Rattle.hs_events.specs.Course.{steps}
use Rattle.hs_events.specs.Due.{Events, is_answer}
use Rattle.hs_limits.specs.declared.limits.PeerStatus.{PeerStatus}
use Rattle.hs_limits.specs.declared.limits.PeerStatus.TheVariants.{Down, Good, Joining}
use Rattle.hs_members.specs.Members.{Members, become, has_good, status}
use Rattle.hs_model.specs.Refusals.{first}
use Rattle.hs_quiet.specs.Keeping.{AreInStep}
use Rattle.hs_quiet.specs.Turning.{ByDisk, ByFail, ByJoin, ByStart, FailsByDisk, FailsByLine, Joins, LastTurn, Starts, Stays, StaysAs, TurnsBy, TurnsTo}
use Rattle.hs_quiet.proofs.LedLemmas.{has_one}
use Rattle.hs_quiet.proofs.StartLemmas.{down_now, down_there, low_peer, members_all}
use Rattle.hs_quiet.proofs.StepLemmas.{step_tuned}
use Rattle.hs_quiet.proofs.TurningLemmas.{step_turns}

-- ---- one event

-- a peer's status stays, or turns
abbrev OneTurn : ℕ → Core → Event → Core → Type 0
OneTurn p c e d = (status_of p d ≡ status_of p c) ⊎ ((k : PeerStatus) × TurnsTo p c e k × (status_of p d ≡ k))

turn_or_stay : (p : ℕ) (c : Core) (e : Event) (d : Core) → AreInStep c → TurnsBy c e d → OneTurn p c e d
turn_or_stay p c e d all (Stays m) = inl (ap (λ (x : Members). status p x) m)
turn_or_stay p c e d all (FailsByLine line q is fits m) = go (cases_eq p q)
  where
    go : (p ≡ q) ⊎ (p ≢ q) → OneTurn p c e d
    go (inr n) = inl (ap (λ (x : Members). status p x) m ∙ become_other q p Down c.members n)
    go (inl same) = inr (
      Down,
      ByFail line (is ∙ ap (λ k. event.Fail line k) (sym same)) (subst (λ k. first (no_peer k c ∷ not_up k c ∷ []) ≡ None) (sym same) fits),
      ap (λ (x : Members). status p x) m ∙ ap (λ k. status p (become k Down c.members)) (sym same) ∙ down_now p c.members,
    )
turn_or_stay p c e d all (FailsByDisk by q is answer m) = go (cases_eq p q)
  where
    go : (p ≡ q) ⊎ (p ≢ q) → OneTurn p c e d
    go (inr n) = inl (ap (λ (x : Members). status p x) m ∙ become_other q p Down c.members n)
    go (inl same) = inr (
      Down,
      ByDisk by (is ∙ ap (λ k. event.Report by (done.Failed k)) (sym same)) (subst (λ k. is_answer c by (done.Failed k) ≡ true) (sym same) answer),
      ap (λ (x : Members). status p x) m ∙ ap (λ k. status p (become k Down c.members)) (sym same) ∙ down_now p c.members,
    )
turn_or_stay p c e d all (Starts line q is fits m) = go (cases_eq p q)
  where
    go : (p ≡ q) ⊎ (p ≢ q) → OneTurn p c e d
    go (inr n) = inl (ap (λ (x : Members). status p x) m ∙ become_other q p Joining c.members n)
    go (inl same) = inr (
      Joining,
      ByStart line (is ∙ ap (λ k. event.Start line k) (sym same)) (subst (λ k. first (no_peer k c ∷ not_down k c ∷ []) ≡ None) (sym same) fits),
      ap (λ (x : Members). status p x) m ∙ ap (λ k. status p (become k Joining c.members)) (sym same)
          ∙ become_here p Joining c.members (members_all c all) (let n = (members_all c all).statuses in let low = (down_there q c fits).0 in omega (arith, n, low, same)),
    )
turn_or_stay p c e d all (Joins q did is joins m) = go (cases_eq p q)
  where
    go : (p ≡ q) ⊎ (p ≢ q) → OneTurn p c e d
    go (inr n) = inl (ap (λ (x : Members). status p x) m ∙ become_other q p Good c.members n)
    go (inl same) = inr (
      Good,
      ByJoin did (is ∙ ap (λ k. event.Report k did) (sym same)) (ap (λ k. status_of k c) same ∙ joins),
      ap (λ (x : Members). status p x) m ∙ ap (λ k. status p (become k Good c.members)) (sym same)
          ∙ become_here p Good c.members (members_all c all) (low_peer c all p (λ i. let wrong : Joining ≡ Down = sym joins ∙ ap (λ k. status_of k c) (sym same) ∙ i in cc wrong)),
    )

-- a core that has ended stays as it is
one_turn : (p : ℕ) (e : Event) (at : ℕ) (c : Core) → (c.ended ≡ None → AreInStep c) → OneTurn p c e (step e at c)
one_turn p e at c all = go c.ended refl
  where
    go : (o : Option CoreFault) → c.ended ≡ o → OneTurn p c e (step e at c)
    go None is = turn_or_stay p c e (step e at c) (all is) (step_turns e at c (all is))
    go (Some f) is = inl (ap (status_of p) (ap (λ (x : Option CoreFault). change_if (is_none x) (run_event e at) c) is))

-- ---- one after another

pub last_turn : (p : ℕ) (es : Events) (c : Core) → (c.ended ≡ None → AreInStep c) → StaysAs p (status_of p c) c es ⊎ LastTurn p c es
last_turn p [] c all = inl refl
last_turn p (e ∷ es) c all = by_rest (last_turn p es (step e.0 e.1 c) (λ on. step_tuned e.0 e.1 c (all (was_going e.0 e.1 c on)) on))
  where
    by_turn : StaysAs p (status_of p (step e.0 e.1 c)) (step e.0 e.1 c) es → OneTurn p c e.0 (step e.0 e.1 c) → StaysAs p (status_of p c) c (e ∷ es) ⊎ LastTurn p c (e ∷ es)
    by_turn stays (inl same) = inl (refl, subst (λ k. StaysAs p k (step e.0 e.1 c) es) same stays)
    by_turn stays (inr t) = inr (record { before = []; turn = e; after = es; is = refl; now = t.0; turns = t.1; stays = subst (λ k. StaysAs p k (step e.0 e.1 c) es) t.2 stays })

    by_rest : StaysAs p (status_of p (step e.0 e.1 c)) (step e.0 e.1 c) es ⊎ LastTurn p (step e.0 e.1 c) es → StaysAs p (status_of p c) c (e ∷ es) ⊎ LastTurn p c (e ∷ es)
    by_rest (inl stays) = by_turn stays (one_turn p e.0 e.1 c all)
    by_rest (inr t) = inr (record { before = e ∷ t.before; turn = t.turn; after = t.after; is = ap (λ xs. e ∷ xs) t.is; now = t.now; turns = t.turns; stays = t.stays })

pub stays_at : (p : ℕ) (k : PeerStatus) (us vs : Events) (c : Core) → StaysAs p k c (us ++ vs) → status_of p (steps c us) ≡ k
stays_at p k [] [] c h = h
stays_at p k [] (v ∷ vs) c h = h.0
stays_at p k (u ∷ us) vs c h = stays_at p k us vs (step u.0 u.1 c) h.1

-- ---- a lost shard

found_there : (test : ℕ → Bool) (a n g : ℕ) → find test (range_with_len a n) ≡ Some g → (test g ≡ true) × (g < a + n)
found_there test a zero g e = let wrong : None ≡ Some g = e in absurd (cc wrong)
found_there test a (suc n) g e = go (test a) refl (λ h. found_there test (a + 1) n g h)
  where
    go : (b : Bool) → test a ≡ b → (find test (range_with_len (a + 1) n) ≡ Some g → (test g ≡ true) × (g < a + 1 + n)) → (test g ≡ true) × (g < a + suc n)
    go true t again =
        let same : a ≡ g = (let both : Some a ≡ Some g = sym (ap (λ b. if b then Some a else find test (range_with_len (a + 1) n)) t) ∙ e in cc both) in
        (ap test (sym same) ∙ t, omega (arith, same))
    go false t again =
        let r = again (sym (ap (λ b. if b then Some a else find test (range_with_len (a + 1) n)) t) ∙ e) in
        (r.0, (let n = r.1 in omega (arith, n)))

lost_is : (o : Option ℕ) (g : ℕ) → option_map fault.ShardLost o ≡ Some (fault.ShardLost g) → o ≡ Some g
lost_is None g e = let wrong : None ≡ Some (fault.ShardLost g) = e in absurd (cc wrong)
lost_is (Some k) g e = let same : k ≡ g = cc e in ap (λ i. Some i) same

not_true : (b : Bool) → not b ≡ true → b ≡ false
not_true false e = refl
not_true true e = let wrong : false ≡ true = e in absurd (cc wrong)

ended_lost : (d : Core) (g : ℕ) (t : Bool) → (if t then refuse_entries d else keep_entries d).ended ≡ Some (fault.ShardLost g)
    → (has_good g (if t then refuse_entries d else keep_entries d).members ≡ false) × (g < (shape_of (if t then refuse_entries d else keep_entries d)).shards)
ended_lost d g true h = let wrong : fault.OpsFull ≡ fault.ShardLost g = cc h in absurd (cc wrong)
ended_lost d g false h =
    let there = found_there (λ shard. not (has_good shard d.members)) 0 (shape_of d).shards g (lost_is (lost_shard d) g h) in
    (not_true (has_good g d.members) there.0, (let n = there.1 in omega (arith, n)))

pub lost_of : (e : Event) (at : ℕ) (c : Core) (g : ℕ) → c.ended ≡ None → (step e at c).ended ≡ Some (fault.ShardLost g)
    → (has_good g (step e at c).members ≡ false) × (g < (shape_of (step e at c)).shards)
lost_of e at c g on lost =
    let b : Core = do_event e (begin_event (line_of e) at c) in
    let is : step e at c ≡ (if nat_lt b.limits.ops (length b.journal + length b.entries) then refuse_entries b else keep_entries b) = ap (λ (x : Option CoreFault). change_if (is_none x) (run_event e at) c) on in
    subst (λ (y : Core). (has_good g y.members ≡ false) × (g < (shape_of y).shards)) (sym is)
    (ended_lost b g (nat_lt b.limits.ops (length b.journal + length b.entries)) (ap (λ (y : Core). y.ended) (sym is) ∙ lost))

-- none of its peers is good
pub none_good : (c : Core) (g p : ℕ) → has_good g c.members ≡ false → p < (shape_of c).shards * (shape_of c).copies → home p c ≡ g → status_of p c ≢ Good
none_good c g p none low own good =
    let wrong : true ≡ false = sym (has_one p g c.members.shape.copies c.members (some_copies c.members.shape.copies refl) own good) ∙ none in
    cc wrong
  where
    some_copies : (n : ℕ) → c.members.shape.copies ≡ n → 0 < c.members.shape.copies
    some_copies zero i = (let z : c.members.shape.shards * c.members.shape.copies ≡ 0 = ap (λ n. c.members.shape.shards * n) i ∙ (let y : c.members.shape.shards * 0 ≡ 0 = omega arith in y) in absurd (omega (arith, low, z)))
    some_copies (suc n) i = omega (arith, i)
