-- Why a shard is lost by the events of a line: the line is to fail one of its peers, or a report tells that the disk of one failed.
use Rattle.std.proofs.Common.{◌≡◌, ◌⊎◌, inl, inr, ◌∙◌, ap, sym, subst, ℕ, zero, suc, ◌+◌, ◌*◌, ◌<◌, ◌≤◌, ◌||◌, Bool, true, false, not, [], ◌∷◌, Option, Some, None, IsSome, refl, arith}
use Rattle.std.specs.List.{AllByRecursion, list_any, range_with_len}
use Rattle.std.specs.Option.{option_map}
use Rattle.hs_core_words.specs.declared.event.Event.{Event}
use Rattle.hs_core_words.specs.declared.event.Event.TheVariants as event
use Rattle.hs_core_words.specs.Looking.{lost_shard, shape_of, shards_of, status_of}
use Rattle.hs_core_words.specs.State.{Core}
use Rattle.hs_core_words.specs.Step.{step}
use Rattle.hs_desk.specs.declared.done.Done.{Done}
use Rattle.hs_desk.specs.declared.done.Done.TheVariants as done
use Rattle.hs_desk.specs.declared.fault.CoreFault.TheVariants as fault
use Rattle.hs_events.specs.Course.{steps}
use Rattle.hs_events.specs.Due.{Events, is_answer}
use Rattle.hs_events.specs.Reports.{failures}
use Rattle.hs_journal.specs.Events.{client_op}
use Rattle.hs_limits.specs.declared.limits.Limits.{Limits}
use Rattle.hs_limits.specs.declared.limits.PeerStatus.{PeerStatus}
use Rattle.hs_limits.specs.declared.limits.PeerStatus.TheVariants.{Down, Good, Joining}
use Rattle.hs_limits.specs.declared.shape.Shape.{Shape}
use Rattle.hs_limits.specs.Shape.{peer_of}
use Rattle.hs_members.specs.Members.{has_good, is_good_status, peers_of}
use Rattle.hs_model.specs.declared.command.Command.{Command}
use Rattle.hs_model.specs.declared.command.Command.TheVariants as command
use Rattle.hs_model.specs.declared.op.Op.{Op}
use Rattle.hs_room.proofs.NotedLemmas.{Noting, noting_all, noting_step}
use Rattle.hs_settled.proofs.AskLemmas.{AllAsk, AllIts, Asks, Its}
use Rattle.hs_settled.proofs.CausesListLemmas.{find_none, not_both, range_each}
use Rattle.hs_settled.proofs.KeptLemmas.{Anyone}
use Rattle.hs_settled.proofs.LostLemmas.{costs_one, good_is, lost_low, none_good_in}
use Rattle.hs_settled.proofs.NotedCountLemmas.{told_by}
use Rattle.hs_settled.proofs.SeatLemmas.{FallsBy, Seated, failed_low, peers_in, seats_run}
use Rattle.hs_settled.specs.Noted.{AllAreOwn, IsOfPeer, IsOwnEvent}
use Rattle.hs_told.specs.InTurn.{AllMayCome, MayBegin, bare}

-- ---- events that are asked for are own ones

module _ (commands : ℕ → Option Command) (shape : Shape) (limits : Limits) where
  asks_some : (c : Option Command) (o : Op) → option_map bare (client_op c) ≡ Some (bare o) → IsSome (client_op c)
  asks_some c o e = go (client_op c) e
    where
      go : (x : Option Op) → option_map bare x ≡ Some (bare o) → IsSome x
      go None k = absurd (cc k)
      go (Some p) k = refl

  of_peer : (c : Core) (peer : ℕ) (d : Done) → Noting commands shape limits c → is_answer c peer d ≡ true → IsOfPeer (shape_of c) d
  of_peer c peer (done.Failed disk) p e = subst (λ (z : Shape). disk < z.shards * z.copies) (sym p.shaped) (failed_low (shape.shards * shape.copies) Anyone c p.seats peer disk e)
  of_peer c peer (done.Stored number) p e = tt
  of_peer c peer (done.Sealed number) p e = tt
  of_peer c peer (done.Bytes number bytes) p e = tt
  of_peer c peer (done.Gone number) p e = tt
  of_peer c peer done.Emptied p e = tt
  of_peer c peer (done.Copied number) p e = tt
  of_peer c peer (done.Stepped switched) p e = tt

  own_asked : (e : Event) (c : Core) → Noting commands shape limits c → MayBegin commands c e → Asks commands c e → IsOwnEvent commands c e
  own_asked (event.Line line o) c p may asks = (let above : c.progress.event_line < line = may.above in omega (arith, above), asks_some (commands line) o may.asks)
  own_asked (event.Report peer d) c p may asks = of_peer c peer d p asks
  own_asked (event.Turn line peer) c p may asks = (may.upward, inr asks)
  own_asked (event.Deliver line number) c p may asks = (may.upward, asks)
  own_asked (event.Lose line number) c p may asks = (may.upward, inr asks)
  own_asked (event.Repeat line number) c p may asks = (may.upward, inr asks)
  own_asked (event.Nudge line peer) c p may asks = (may.upward, asks)
  own_asked (event.Fail line peer) c p may asks = (may.upward, inr asks)
  own_asked (event.Start line peer) c p may asks = (may.upward, inr asks)

  pub all_own : (c : Core) (es : Events) → Noting commands shape limits c → AllMayCome commands c es → AllAsk commands c es → AllAreOwn commands c es
  all_own c [] p may ask = tt
  all_own c (e ∷ es) p may ask =
      let own : IsOwnEvent commands c e.0 = own_asked e.0 c p (may.0 ask.0.0).begins ask.0.1 in
      ((λ going. own), all_own (step e.0 e.1 c) es (noting_step commands shape limits e.0 e.1 c p (λ going. own)) may.1 ask.1)

-- ---- who falls

good_or : (s : PeerStatus) → (s ≡ Good) ⊎ (s ≡ Good → ⊥)
good_or Good = inl refl
good_or Joining = inr (λ e. cc e)
good_or Down = inr (λ e. cc e)

module _ (commands : ℕ → Option Command) (shape : Shape) (limits : Limits) (nobody : commands 0 ≡ None) where
  abbrev N : Core → Type 0
  N c = Noting commands shape limits c

  -- a good peer stays so, or falls by the event
  stays_or_falls : (p : ℕ) → p < shape.shards * shape.copies → (c : Core) → N c → (e : Event) (at : ℕ) → status_of p c ≡ Good → FallsBy e p ⊎ (status_of p (step e at c) ≡ Good)
  stays_or_falls p low c its e at good = elim (seated.good p low) [
    | inl may ↦ elim may [
      | inl falls ↦ inl falls
      | inr bad ↦ absurd (bad good)
    ]
    | inr stays ↦ inr stays
  ]
    where
      May : ℕ → Type 0
      May y = FallsBy e y ⊎ (status_of y c ≡ Good → ⊥)

      was : (y : ℕ) → (status_of y c ≡ Good) ⊎ (status_of y c ≡ Good → ⊥) → May y ⊎ (status_of y c ≡ Good)
      was y (inl here) = inr here
      was y (inr bad) = inl (inr bad)

      seated : Seated (shape.shards * shape.copies) May (peers_in (step e at c))
      seated = seats_run (shape.shards * shape.copies) May e at c (λ y falls l. inl falls)
          (record { statuses = its.seats.statuses; count = its.seats.count; good = λ y l. was y (good_or (status_of y c)); tasks = its.seats.tasks; rejoins = its.seats.rejoins })

  -- the line is to fail it, or a failure of its disk is told
  failed_by : (line p : ℕ) (c : Core) (e : Event) → Its commands line c e → FallsBy e p → (commands line ≡ Some (command.Fail p)) ⊎ (told_by p e c ≡ 1)
  failed_by line p c (event.Line l o) its f = absurd f
  failed_by line p c (event.Report peer d) its f = inr (ap (λ (y : Done). told_by p (event.Report peer y) c) f ∙ costs_one peer p c)
  failed_by line p c (event.Turn l peer) its f = absurd f
  failed_by line p c (event.Deliver l number) its f = absurd f
  failed_by line p c (event.Lose l number) its f = absurd f
  failed_by line p c (event.Repeat l number) its f = absurd f
  failed_by line p c (event.Nudge l peer) its f = absurd f
  failed_by line p c (event.Fail l peer) its f = inl (by_line its.of)
    where
      asked : commands l ≡ Some (command.Fail peer)
      asked = its.asks

      by_line : (l ≡ 0) ⊎ (l ≡ line) → commands line ≡ Some (command.Fail p)
      by_line (inl no_line) = let both : None ≡ Some (command.Fail peer) = sym nobody ∙ ap commands (sym no_line) ∙ asked in absurd (cc both)
      by_line (inr here) = ap commands (sym here) ∙ asked ∙ ap (λ q. Some (command.Fail q)) f
  failed_by line p c (event.Start l peer) its f = absurd f

  -- so of a good peer that is not good behind some events
  pub fell_in : (line p : ℕ) → p < shape.shards * shape.copies → (c : Core) (es : Events) → N c → AllIts commands line c es → AllAreOwn commands c es → status_of p c ≡ Good → is_good_status (status_of p (steps c es)) ≡ false
      → (commands line ≡ Some (command.Fail p)) ⊎ (1 ≤ failures true p c es)
  fell_in line p low c [] its all own good bad = absurd (not_both (sym (ap is_good_status good) ∙ bad))
  fell_in line p low c (e ∷ es) its all own good bad = elim (stays_or_falls p low c its e.0 e.1 good) [
    | inl falls ↦ here (failed_by line p c e.0 all.0 falls)
    | inr stays ↦ later (fell_in line p low (step e.0 e.1 c) es (noting_step commands shape limits e.0 e.1 c its own.0) all.1 own.1 stays bad)
  ]
    where
      parts : failures true p c (e ∷ es) ≡ told_by p e.0 c + failures true p (step e.0 e.1 c) es
      parts = refl

      here : (commands line ≡ Some (command.Fail p)) ⊎ (told_by p e.0 c ≡ 1) → (commands line ≡ Some (command.Fail p)) ⊎ (1 ≤ failures true p c (e ∷ es))
      here (inl asked) = inl asked
      here (inr one) = inr (omega (arith, parts, one))

      later : (commands line ≡ Some (command.Fail p)) ⊎ (1 ≤ failures true p (step e.0 e.1 c) es) → (commands line ≡ Some (command.Fail p)) ⊎ (1 ≤ failures true p c (e ∷ es))
      later (inl asked) = inl asked
      later (inr some) = inr (omega (arith, parts, some))

  -- ---- a shard that is lost

  -- one of its peers
  pub record FellIn (line g : ℕ) (c : Core) (es : Events) : Type 0 where
    pub copy : ℕ
    pub less : copy < shape.copies
    pub why : (commands line ≡ Some (command.Fail (peer_of shape g copy))) ⊎ (1 ≤ failures true (peer_of shape g copy) c es)

  not_false : (b : Bool) → not b ≡ false → b ≡ true
  not_false true e = refl
  not_false false e = absurd (cc e)

  any_in : (q : ℕ → Bool) (n from : ℕ) → list_any q (range_with_len from n) ≡ true → (k : ℕ) × (k < n) × (q (from + k) ≡ true)
  any_in q zero from e = absurd (cc e)
  any_in q (suc n) from e = go (λ k. any_in q n (from + 1) k) (q from) refl e
    where
      go : (list_any q (range_with_len (from + 1) n) ≡ true → (k : ℕ) × (k < n) × (q (from + 1 + k) ≡ true)) → (b : Bool) → q from ≡ b → (b || list_any q (range_with_len (from + 1) n)) ≡ true
          → (k : ℕ) × (k < suc n) × (q (from + k) ≡ true)
      go ih true t h = (0, omega arith, ap q (let same : from + 0 ≡ from = omega arith in same) ∙ t)
      go ih false t h =
          let rest = ih h in
          (suc rest.0, (let less = rest.1 in omega (arith, less)), ap q (let same : from + suc rest.0 ≡ from + 1 + rest.0 = omega arith in same) ∙ rest.2)

  -- it had a good peer before
  good_in : (g : ℕ) → g < shape.shards → (c : Core) → N c → c.ended ≡ None → (k : ℕ) × (k < shape.copies) × (status_of (peer_of shape g k) c ≡ Good)
  good_in g low c its going = (there.0, there.1, good_is (status_of (peer_of shape g there.0) c) (ap (λ q. is_good_status (status_of q c)) (let same : peer_of shape g there.0 ≡ peer_of shape g 0 + there.0 = omega arith in same) ∙ there.2))
    where
      each : AllByRecursion (λ shard. not (has_good shard c.members) ≡ false) (shards_of c)
      each = find_none (λ shard. not (has_good shard c.members)) (shards_of c) (its.ends.going going)

      here : has_good g c.members ≡ true
      here = not_false (has_good g c.members)
          (range_each (λ shard. not (has_good shard c.members) ≡ false) (shape_of c).shards 0 g each (omega arith) (let n : (shape_of c).shards ≡ shape.shards = ap (λ (z : Shape). z.shards) its.shaped in omega (arith, low, n)))

      within : list_any (λ q. is_good_status (status_of q c)) (peers_of shape g) ≡ true
      within = subst (λ (z : Shape). list_any (λ q. is_good_status (status_of q c)) (peers_of z g) ≡ true) its.shaped here

      there : (k : ℕ) × (k < shape.copies) × (is_good_status (status_of (peer_of shape g 0 + k) c) ≡ true)
      there = any_in (λ q. is_good_status (status_of q c)) shape.copies (peer_of shape g 0) within

  rows : (n k w : ℕ) → k < n → k * w + w ≤ n * w
  rows n k w low = grind (arith, low)

  pub lost_by : (line g : ℕ) (c : Core) (es : Events) → N c → AllIts commands line c es → AllAreOwn commands c es → c.ended ≡ None → (steps c es).ended ≡ Some (fault.ShardLost g) → FellIn line g c es
  lost_by line g c es its all own going over = record { copy = was.0; less = was.1; why = fell_in line (peer_of shape g was.0) within c es its all own was.2 bad }
    where
      last : N (steps c es)
      last = noting_all commands shape limits es c its own

      lost : lost_shard (steps c es) ≡ Some g
      lost = last.ends.lost g over

      low : g < shape.shards
      low = let l : g < (shape_of (steps c es)).shards = lost_low (steps c es) g lost in let n : (shape_of (steps c es)).shards ≡ shape.shards = ap (λ (z : Shape). z.shards) last.shaped in omega (arith, l, n)

      was : (k : ℕ) × (k < shape.copies) × (status_of (peer_of shape g k) c ≡ Good)
      was = good_in g low c its going

      within : peer_of shape g was.0 < shape.shards * shape.copies
      within = let row : g * shape.copies + shape.copies ≤ shape.shards * shape.copies = rows shape.shards g shape.copies low in let less = was.1 in omega (arith, row, less)

      bad : is_good_status (status_of (peer_of shape g was.0) (steps c es)) ≡ false
      bad =
          subst (λ (z : Shape). is_good_status (status_of (peer_of z g was.0) (steps c es)) ≡ false) last.shaped
          (none_good_in (steps c es) g lost was.0 (subst (λ (z : Shape). was.0 < z.copies) (sym last.shaped) was.1))
