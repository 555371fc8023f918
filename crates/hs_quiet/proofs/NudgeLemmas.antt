-- What a nudge leaves where no peer has a job and no message is under way: some peer has a job, or the nudged one has nothing new to others but what is under way.
use Rattle.hs_core_copies.proofs.BesideLemmas.{home_of_peer}
use Rattle.std.proofs.Common.{◌≡◌, ◌≢◌, ◌∙◌, ◌⊎◌, inl, inr, sym, ap, subst, ℕ, zero, suc, ◌+◌, ◌-◌, ◌*◌, ◌<◌, ◌≤◌, ◌==◌, ◌&&◌, not, Bool, true, false, List, [], ◌∷◌, ◌++◌, Option, Some, None, refl, arith, length, slice_get, eqb-true, drop, flat_map, map, if◌then◌else◌}
use Rattle.std.proofs.lemmas.Bool.{cases_eq, cases_lt}
use Rattle.std.specs.List.{AllByRecursion, enumerate_from}
use Rattle.std.specs.Option.{option_to_list}
use Rattle.std.specs.Prelude.{slice_index_or}
use Rattle.hs_awaiting.specs.Words.{change_if, change_with, ◌▸◌}
use Rattle.hs_core_words.specs.Asking.{nudge, nudge_good, send_round, send_rounds}
use Rattle.hs_core_words.specs.Changing.{post}
use Rattle.hs_core_words.specs.Delivering.{is_new_round}
use Rattle.hs_core_words.specs.Effects.{round_messages}
use Rattle.hs_core_words.specs.Entering.{is_enter_due, propose_due}
use Rattle.hs_core_words.specs.Looking.{catalogue_of, first_job, group_of, home, known_of, lead_of, sealed_of, shape_of, status_of}
use Rattle.hs_core_words.specs.Operating.{propose_entry}
use Rattle.hs_core_words.specs.State.{Core}
use Rattle.hs_core_copies.proofs.ReportLemmas.{same_number}
use Rattle.hs_core_copies.proofs.UnsealedLemmas.{numbered_drop}
use Rattle.hs_core_copies.specs.InStep.{IsInStep}
use Rattle.hs_copies.specs.Machine.{Copies}
use Rattle.hs_entry.specs.declared.entry.Entry.{Entry}
use Rattle.hs_entry.specs.declared.entry.Entry.TheVariants as kind
use Rattle.hs_limits.specs.declared.limits.PeerStatus.TheVariants.{Down, Good}
use Rattle.hs_members.specs.Members.{is_good_status}
use Rattle.hs_post.specs.declared.message.Message.{Message}
use Rattle.hs_post.specs.declared.message.Message.TheVariants as message
use Rattle.hs_replica.specs.declared.replica.Replica.{Replica}
use Rattle.hs_replica.specs.Group.{Group, copies_above, copy_of, entries_above, first_peer, have, is_peer, last_number, lead, length_of, no_copy, others, others_from, resend, send_all}
use Rattle.hs_rounds.specs.declared.sending.SentRound.{SentRound}
use Rattle.hs_rounds.specs.Rounds.{sent_back}
use Rattle.hs_shard.specs.Rounds.{messages}
use Rattle.hs_quiet.specs.Keeping.{AreInStep}
use Rattle.hs_quiet.proofs.CopyLemmas.{copy_at, past}
use Rattle.hs_quiet.proofs.MessageLemmas.{busy_propose}
use Rattle.hs_quiet.proofs.PoolLemmas.{AreLow, SentAll, at_within, first_sent, kept_all, sent_all}
use Rattle.hs_quiet.proofs.RestedLemmas.{sealed_here}
use Rattle.hs_quiet.proofs.RoundsLemmas.{Posted, posted}
use Rattle.hs_quiet.proofs.StartLemmas.{copy_good, knows_here, lead_here, low_home, low_peer, peer_good, peer_own, seated_all}
use Rattle.hs_quiet.proofs.StillLemmas.{Behind, Busy, CopyComes, HaveComes, IsLevel, IsStill, QuietTo, RoundComes, UnderWay, quiet_still}

-- ---- the others of a group

others_with : (Q : ℕ × Replica → Type 0) (l : Option ℕ) (n : ℕ) (cs : List Replica) → ((i : ℕ) → i < length cs → (slice_index_or cs i no_copy).good ≡ true → is_peer (n + i) l ≡ false → Q (n + i, slice_index_or cs i no_copy)) → AllByRecursion Q (others_from l n cs)
others_with Q l n [] h = tt
others_with Q l n (c ∷ cs) h =
    go c.good refl (is_peer n l) refl (others_with Q l (n + 1) cs (λ i low g e.
    let at : n + 1 + i ≡ n + suc i = omega arith in
    subst (λ k. Q (k, slice_index_or cs i no_copy)) (sym at) (h (suc i) (omega (arith, low)) g (ap (λ k. is_peer k l) (sym at) ∙ e))))
  where
    go : (b : Bool) → c.good ≡ b → (led : Bool) → is_peer n l ≡ led → AllByRecursion Q (others_from l (n + 1) cs) → AllByRecursion Q (if b && not led then (n, c) ∷ others_from l (n + 1) cs else others_from l (n + 1) cs)
    go true e true f k = k
    go true e false f k = (subst (λ j. Q (j, c)) (let z : n + 0 ≡ n = omega arith in z) (h 0 (omega arith) e (ap (λ j. is_peer j l) (let z : n + 0 ≡ n = omega arith in z) ∙ f)), k)
    go false e led f k = k

others_at : (Q : ℕ × Replica → Type 0) (l : Option ℕ) (n : ℕ) (cs : List Replica) → AllByRecursion Q (others_from l n cs) → (i : ℕ) → i < length cs → (slice_index_or cs i no_copy).good ≡ true → is_peer (n + i) l ≡ false → Q (n + i, slice_index_or cs i no_copy)
others_at Q l n [] h i low g e = absurd (omega (arith, low))
others_at Q l n (c ∷ cs) h zero low g e =
    let z : n ≡ n + 0 = omega arith in
    let f : is_peer n l ≡ false = ap (λ j. is_peer j l) z ∙ e in
    let k : AllByRecursion Q ((n, c) ∷ others_from l (n + 1) cs) = subst (λ b. AllByRecursion Q (if b && not false then (n, c) ∷ others_from l (n + 1) cs else others_from l (n + 1) cs)) g (subst (λ b. AllByRecursion Q (if c.good && not b then (n, c) ∷ others_from l (n + 1) cs else others_from l (n + 1) cs)) f h) in
    subst (λ j. Q (j, c)) z k.0
others_at Q l n (c ∷ cs) h (suc i) low g e =
    let z : n + 1 + i ≡ n + suc i = omega arith in
    subst (λ j. Q (j, slice_index_or cs i no_copy)) z (others_at Q l (n + 1) cs (rest c.good (is_peer n l) h) i (omega (arith, low)) g (ap (λ j. is_peer j l) z ∙ e))
  where
    rest : (b led : Bool) → AllByRecursion Q (if b && not led then (n, c) ∷ others_from l (n + 1) cs else others_from l (n + 1) cs) → AllByRecursion Q (others_from l (n + 1) cs)
    rest true true k = k
    rest true false k = k.1
    rest false led k = k

-- ---- what is sent again

drop_cons : {X : Type 0} (k : ℕ) (xs : List X) → k < length xs → (x : X) × ((more : List X) × (drop k xs ≡ x ∷ more))
drop_cons k [] low = absurd (omega (arith, low))
drop_cons zero (x ∷ xs) low = (x, (xs, refl))
drop_cons (suc k) (x ∷ xs) low = drop_cons k xs (omega (arith, low))

drop_none : {X : Type 0} (k : ℕ) (xs : List X) → length xs ≤ k → drop k xs ≡ []
drop_none zero [] low = refl
drop_none (suc k) [] low = refl
drop_none zero (x ∷ xs) low = absurd (omega (arith, low))
drop_none (suc k) (x ∷ xs) low = drop_none k xs (omega (arith, low))

-- the entries above a number begin with the next one, where there is one
above_next : (x : Group) (n : ℕ) → x.front ≤ n → n < last_number x → (entry : Entry) × ((more : List (ℕ × Entry)) × (entries_above n x ≡ (n + 1, entry) ∷ more))
above_next x n low less =
    let d = drop_cons (n - x.front) x.waiting (omega (arith, low, less)) in
    let at : x.front + 1 + (n - x.front) ≡ n + 1 = omega (arith, low) in (
      d.0,
      (
        enumerate_from (x.front + 1 + (n - x.front) + 1) d.1.0,
        numbered_drop (n - x.front) (x.front + 1) x.waiting ∙ ap (λ es. enumerate_from (x.front + 1 + (n - x.front)) es) d.1.1
            ∙ ap (λ k. (k, d.0) ∷ enumerate_from (x.front + 1 + (n - x.front) + 1) d.1.0) at,
      ),
    )

above_none : (x : Group) (n : ℕ) → last_number x ≤ n → entries_above n x ≡ []
above_none x n high = numbered_drop (n - x.front) (x.front + 1) x.waiting ∙ ap (λ es. enumerate_from (x.front + 1 + (n - x.front)) es) (drop_none (n - x.front) x.waiting (omega (arith, high)))

-- of each of these all is known, or the first message is for one of which less is known
record FirstFor (x : Group) (Q : ℕ × Replica → Type 0) (ms : List Message) : Type 0 where
  pub peer : ℕ × Replica
  pub is : Q peer
  pub less : peer.1.known < last_number x
  pub entry : Entry
  pub more : List Message
  pub first : ms ≡ message.Copy x.shard peer.0 x.view (peer.1.known + 1) entry ∷ more

sends_first : (x : Group) (Q : ℕ × Replica → Type 0) → ((y : ℕ × Replica) → Q y → x.front ≤ y.1.known) → (ys : List (ℕ × Replica)) → AllByRecursion Q ys
    → AllByRecursion (λ y. last_number x ≤ y.1.known) ys ⊎ FirstFor x Q (flat_map (λ (y : ℕ × Replica). copies_above y.0 y.1.known x) ys)
sends_first x Q low [] h = inl tt
sends_first x Q low (y ∷ ys) h = go (sends_first x Q low ys h.1) (cases_lt y.1.known (last_number x))
  where
    go : AllByRecursion (λ y. last_number x ≤ y.1.known) ys ⊎ FirstFor x Q (flat_map (λ (y : ℕ × Replica). copies_above y.0 y.1.known x) ys) → (y.1.known < last_number x) ⊎ (last_number x ≤ y.1.known)
        → AllByRecursion (λ y. last_number x ≤ y.1.known) (y ∷ ys) ⊎ FirstFor x Q (flat_map (λ (y : ℕ × Replica). copies_above y.0 y.1.known x) (y ∷ ys))
    go rest (inl less) =
        let d = above_next x y.1.known (low y h.0) less in
        let one : copies_above y.0 y.1.known x ≡ message.Copy x.shard y.0 x.view (y.1.known + 1) d.0 ∷ map (λ (e : ℕ × Entry). message.Copy x.shard y.0 x.view e.0 e.1) d.1.0 =
        ap (map (λ (e : ℕ × Entry). message.Copy x.shard y.0 x.view e.0 e.1)) d.1.1 in
        inr (record {
          peer = y;
          is = h.0;
          less = less;
          entry = d.0;
          more = map (λ (e : ℕ × Entry). message.Copy x.shard y.0 x.view e.0 e.1) d.1.0 ++ flat_map (λ (y : ℕ × Replica). copies_above y.0 y.1.known x) ys;
          first = ap (λ ms. ms ++ flat_map (λ (y : ℕ × Replica). copies_above y.0 y.1.known x) ys) one;
        })
    go rest (inr high) =
        let none : copies_above y.0 y.1.known x ≡ [] = ap (map (λ (e : ℕ × Entry). message.Copy x.shard y.0 x.view e.0 e.1)) (above_none x y.1.known high) in
        let same : flat_map (λ (y : ℕ × Replica). copies_above y.0 y.1.known x) (y ∷ ys) ≡ flat_map (λ (y : ℕ × Replica). copies_above y.0 y.1.known x) ys = ap (λ ms. ms ++ flat_map (λ (y : ℕ × Replica). copies_above y.0 y.1.known x) ys) none in
        elim rest [
          | inl all ↦ inl (high, all)
          | inr f ↦ inr (record { peer = f.peer; is = f.is; less = f.less; entry = f.entry; more = f.more; first = same ∙ f.first })
        ]

-- ---- one more that is quiet

pub quiet_next : (p : ℕ) (c : Core) → QuietTo p c → (lead_of (home p c) c ≡ Some p → is_enter_due (home p c) c ≡ false)
    → ((place to : ℕ) (kept : SentRound) → lead_of (home p c) c ≡ Some p → to < (shape_of c).shards → place < 2 → slice_get (catalogue_of (home p c) c).run.sent place ≡ Some kept
    → (is_new_round to (home p c) kept.epoch kept.round c ≡ false) ⊎ RoundComes c (home p c) to kept.epoch kept.round)
    → (status_of p c ≡ Good → (lead_of (home p c) c ≡ Some p → ⊥) → (known_of p c ≡ sealed_of p c) ⊎ HaveComes c p)
    → (lead_of (home p c) c ≡ Some p → IsLevel c (home p c) p ⊎ Behind c (home p c) ⊎ CopyComes c (home p c)) → QuietTo (suc p) c
quiet_next p c q due came told sent = record {
  due = λ k less led. elim (cases_eq k p) [
    | inl e ↦ ap (λ j. is_enter_due (home j c) c) e ∙ due (ap (λ j. lead_of (home j c) c) (sym e) ∙ led ∙ ap (λ j. Some j) e)
    | inr n ↦ q.due k (omega (arith, less, n)) led
  ];
  came = λ k place to kept less led low two at. elim (cases_eq k p) [
    | inl e ↦
        subst (λ j. (is_new_round to (home j c) kept.epoch kept.round c ≡ false) ⊎ RoundComes c (home j c) to kept.epoch kept.round) (sym e)
        (came place to kept (ap (λ j. lead_of (home j c) c) (sym e) ∙ led ∙ ap (λ j. Some j) e) low two (ap (λ j. slice_get (catalogue_of (home j c) c).run.sent place) (sym e) ∙ at))
    | inr n ↦ q.came k place to kept (omega (arith, less, n)) led low two at
  ];
  told = λ k less good no. elim (cases_eq k p) [
    | inl e ↦
        subst (λ j. (known_of j c ≡ sealed_of j c) ⊎ HaveComes c j) (sym e)
        (told (ap (λ j. status_of j c) (sym e) ∙ good) (λ led. no (ap (λ j. lead_of (home j c) c) e ∙ led ∙ ap (λ j. Some j) (sym e))))
    | inr n ↦ q.told k (omega (arith, less, n)) good no
  ];
  sent = λ k less led. elim (cases_eq k p) [
    | inl e ↦
        subst (λ j. IsLevel c (home j c) j ⊎ Behind c (home j c) ⊎ CopyComes c (home j c)) (sym e) (sent (ap (λ j. lead_of (home j c) c) (sym e) ∙ led ∙ ap (λ j. Some j) e))
    | inr n ↦ q.sent k (omega (arith, less, n)) led
  ];
}

-- ---- a nudge

busy_posts : (ms : List Message) (c : Core) → Busy c → Busy (post ms c)
busy_posts ms c busy = record { peer = busy.peer; job = busy.job; is = busy.is }

busy_round : (back shard : ℕ) (c : Core) → Busy c → Busy (send_round back shard c)
busy_round back shard c busy = by_round (sent_back back (catalogue_of shard c).run)
  where
    by_round : (at : Option (ℕ × ℕ)) → Busy (change_with at (λ r. post (round_messages shard (messages (catalogue_of shard c).shape.shards r.0 r.1 (catalogue_of shard c).run))) c)
    by_round None = busy
    by_round (Some r) = record { peer = busy.peer; job = busy.job; is = busy.is }

module _ (c : Core) (all : AreInStep c) (idle : (q : ℕ) → first_job q c ≡ None) (empty : c.pool.messages ≡ []) (room : 2 * (shape_of c).shards < c.pool.limit) (p : ℕ) (good : status_of p c ≡ Good) (quiet : QuietTo p c)
    (shape : (catalogue_of (home p c) c).shape.shards ≡ (shape_of c).shards) (bodies : (place : ℕ) (kept : SentRound) → slice_get (catalogue_of (home p c) c).run.sent place ≡ Some kept → length kept.bodies ≡ (shape_of c).shards) where
  low_p : p < c.members.shape.shards * c.members.shape.copies
  low_p = low_peer c all p (λ d. let wrong : Good ≡ Down = sym good ∙ d in cc wrong)

  low_x : home p c < c.members.shape.shards
  low_x = low_home c all p low_p

  abbrev copies : Copies Entry
  copies = (all.each (home p c) low_x).0

  st : IsInStep (home p c) c (all.each (home p c) low_x).0
  st = (all.each (home p c) low_x).1

  abbrev x : Group
  x = group_of (home p c) c

  led : (l : ℕ) × (lead (group_of (home p c) c) ≡ Some l) × (lead_of (home p c) c ≡ Some l)
  led = lead_here (home p c) c copies st

  of : (group_of (home p c) c).shard ≡ home p c
  of = (st.seated.placed (home p c)).same_shard

  none_there : length c.pool.messages ≡ 0
  none_there = ap (λ (es : List (ℕ × Message)). length es) empty

  none_way : (m : Message) → UnderWay c m → ⊥
  none_way m u = let n = at_within c.pool.messages u.place (u.number, m) u.at in let z = none_there in omega (arith, n, z)

  low_pool : AreLow c.pool.next c.pool.messages
  low_pool = subst (λ (es : List (ℕ × Message)). AreLow c.pool.next es) (sym empty) tt

  -- it does not lead: its Have is under way
  follower : lead_of (home p c) c ≢ Some p → Busy (nudge p c) ⊎ QuietTo (suc p) (nudge p c)
  follower n = inr (subst (λ (b : Core). QuietTo (suc p) b) (sym is) (quiet_next p (post (m ∷ []) c) before (λ e. absurd (n e)) (λ place to kept e low two at. absurd (n e)) (λ g no. inr comes) (λ e. absurd (n e))))
    where
      apart : is_peer p (lead_of (home p c) c) ≡ false
      apart = ap (is_peer p) led.2 ∙ go (led.0 == p) refl
        where
          go : (b : Bool) → (led.0 == p) ≡ b → (led.0 == p) ≡ false
          go false e = e
          go true e = absurd (n (led.2 ∙ ap (λ k. Some k) (eqb-true led.0 p e)))

      apart_group : is_peer p (lead (group_of (home p c) c)) ≡ false
      apart_group = ap (is_peer p) (led.1 ∙ sym led.2) ∙ apart

      m : Message
      m = message.Have (group_of (home p c) c).shard p led.0 (group_of (home p c) c).view (copy_of (group_of (home p c) c) p).sealed

      sends : resend p (group_of (home p c) c) ≡ m ∷ []
      sends =
          ap (λ b. if b then flat_map (λ (y : ℕ × Replica). copies_above y.0 y.1.known (group_of (home p c) c)) (others (group_of (home p c) c)) else have p (copy_of (group_of (home p c) c) p).sealed (group_of (home p c) c)) apart_group
          ∙ ap (λ b. if b then [] else map (λ l. message.Have (group_of (home p c) c).shard p l (group_of (home p c) c).view (copy_of (group_of (home p c) c) p).sealed) (option_to_list (lead (group_of (home p c) c)))) apart_group
          ∙ ap (λ o. map (λ l. message.Have (group_of (home p c) c).shard p l (group_of (home p c) c).view (copy_of (group_of (home p c) c) p).sealed) (option_to_list o)) led.1

      is : nudge p c ≡ post (m ∷ []) c
      is = ap (λ b. post (resend p (group_of (home p c) (change_if b (λ core. core ▸ propose_due (home p c) ▸ send_rounds (home p c)) c))) (change_if b (λ core. core ▸ propose_due (home p c) ▸ send_rounds (home p c)) c)) apart
          ∙ ap (λ ms. post ms c) sends

      before : QuietTo p (post (m ∷ []) c)
      before = quiet_still p c (post (m ∷ []) c) (record { members = refl; groups = refl; tasks = refl; rejoins = refl; catalogues = refl }) (λ w u. absurd (none_way w u)) quiet

      comes : HaveComes (post (m ∷ []) c) p
      comes =
          let there = first_sent m [] c.pool low_pool (let z = none_there in omega (arith, z, room)) in
          record {
            to = led.0;
            under = record {
              place = there.0;
              number = there.1.0;
              at = there.1.1 ∙ ap (λ g. Some (there.1.0, message.Have g p led.0 (group_of (home p c) c).view (copy_of (group_of (home p c) c) p).sealed)) of;
            };
          }

  -- it leads
  module _ (is_lead : lead_of (home p c) c ≡ Some p) where
    leads : lead (group_of (home p c) c) ≡ Some p
    leads = led.1 ∙ sym led.2 ∙ is_lead

    here : is_peer p (lead_of (home p c) c) ≡ true
    here = ap (is_peer p) is_lead ∙ same_number p

    here_group : is_peer p (lead (group_of (home p c) c)) ≡ true
    here_group = ap (is_peer p) leads ∙ same_number p

    one : Posted (home p c) c shape bodies 1
    one = posted (home p c) c shape bodies 1

    two : Posted (home p c) (post one.ms c) shape bodies 0
    two = posted (home p c) (post one.ms c) shape bodies 0

    abbrev d : Core
    d = post two.ms (post one.ms c)

    both_sent : send_rounds (home p c) c ≡ post two.ms (post one.ms c)
    both_sent = ap (λ (y : Core). send_round 0 (home p c) y) one.is ∙ two.is

    first_all : SentAll one.ms c.pool (send_all one.ms c.pool)
    first_all = sent_all one.ms c.pool low_pool (let a = none_there in let b = one.few in omega (arith, a, b, room))

    last_all : SentAll two.ms (send_all one.ms c.pool) (send_all two.ms (send_all one.ms c.pool))
    last_all =
        sent_all two.ms (send_all one.ms c.pool) first_all.low
        (let a = none_there in let b = one.few in let e = two.few in let l = first_all.long in let m = first_all.limit in omega (arith, a, b, e, l, m, room))

    -- others of its shard
    record IsOther (y : ℕ × Replica) : Type 0 where
      pub copy : y.1 ≡ copy_of (group_of (home p c) c) y.0
      pub own : home y.0 c ≡ home p c
      pub well : status_of y.0 c ≡ Good
      pub apart : y.0 ≢ p

    each_other : AllByRecursion IsOther (others (group_of (home p c) c))
    each_other =
        others_with IsOther (lead (group_of (home p c) c)) (first_peer (group_of (home p c) c)) (group_of (home p c) c).copies
        (λ i low g e. record {
          copy = ap (λ k. copy_at k (group_of (home p c) c)) (let z : i ≡ first_peer (group_of (home p c) c) + i - first_peer (group_of (home p c) c) = omega arith in z);
          own = peer_own c (home p c) i st.seated g;
          well = peer_good (home p c) c copies st i g;
          apart = λ same. (let wrong : true ≡ false = sym (ap (λ k. is_peer k (lead (group_of (home p c) c))) same ∙ here_group) ∙ e in cc wrong);
        })

    low_known : (y : ℕ × Replica) → IsOther y → (group_of (home p c) c).front ≤ y.1.known
    low_known y o =
        let k = ((knows_here (home p c) c copies st).each y.0 o.own o.well).effects in
        let e = ap (λ (r : Replica). r.known) o.copy in
        omega (arith, k, e)

    abbrev again : List Message
    again = flat_map (λ (y : ℕ × Replica). copies_above y.0 y.1.known (group_of (home p c) c)) (others (group_of (home p c) c))

    sends_again : resend p (group_of (home p c) c) ≡ again
    sends_again = ap (λ b. if b then flat_map (λ (y : ℕ × Replica). copies_above y.0 y.1.known (group_of (home p c) c)) (others (group_of (home p c) c)) else have p (copy_of (group_of (home p c) c) p).sealed (group_of (home p c) c)) here_group

    abbrev b : Core
    b = post again (post two.ms (post one.ms c))

    still : IsStill c b
    still = record { members = refl; groups = refl; tasks = refl; rejoins = refl; catalogues = refl }

    -- each of its last rounds is under way
    rounds_come : (place to : ℕ) (kept : SentRound) → to < (shape_of c).shards → place < 2 → slice_get (catalogue_of (home p c) c).run.sent place ≡ Some kept → RoundComes b (home p c) to kept.epoch kept.round
    rounds_come zero to kept low two_places at =
        let it = two.has kept at to low in
        let there = last_all.new it.0 (message.Round (home p c) to kept.epoch kept.round it.1.0 it.1.1.0) it.1.1.1 in
        record { total = it.1.0; deltas = it.1.1.0; under = record { place = there.0; number = there.1.0; at = kept_all again (send_all two.ms (send_all one.ms c.pool)) last_all.low there.0 (there.1.0, message.Round (home p c) to kept.epoch kept.round it.1.0 it.1.1.0) there.1.1 } }
    rounds_come (suc zero) to kept low two_places at =
        let it = one.has kept at to low in
        let there = first_all.new it.0 (message.Round (home p c) to kept.epoch kept.round it.1.0 it.1.1.0) it.1.1.1 in
        let later = last_all.kept there.0 (there.1.0, message.Round (home p c) to kept.epoch kept.round it.1.0 it.1.1.0) there.1.1 in
        record { total = it.1.0; deltas = it.1.1.0; under = record { place = there.0; number = there.1.0; at = kept_all again (send_all two.ms (send_all one.ms c.pool)) last_all.low there.0 (there.1.0, message.Round (home p c) to kept.epoch kept.round it.1.0 it.1.1.0) later } }
    rounds_come (suc (suc place)) to kept low two_places at = absurd (omega (arith, two_places))

    level_or : IsLevel b (home p c) p ⊎ Behind b (home p c) ⊎ CopyComes b (home p c)
    level_or = elim (sends_first (group_of (home p c) c) IsOther low_known (others (group_of (home p c) c)) each_other) [
      | inl known ↦ inl (λ q own g apart.
          let i : ℕ = q - first_peer (group_of (home p c) c) in
          let is_good : (copy_of (group_of (home p c) c) q).good ≡ true = copy_good (home p c) c copies st q own g in
          let inside : i < length (group_of (home p c) c).copies = elim (cases_lt i (length (group_of (home p c) c).copies)) [
            | inl low ↦ low
            | inr high ↦ absurd (let wrong : false ≡ true = sym (ap (λ (r : Replica). r.good) (past (group_of (home p c) c).copies i high)) ∙ is_good in cc wrong)
          ] in
          let at : first_peer (group_of (home p c) c) + i ≡ q = (let h = home_of_peer (home p c) c copies st q own in let f = h.0 in omega (arith, f)) in
          let no : is_peer (first_peer (group_of (home p c) c) + i) (lead (group_of (home p c) c)) ≡ false = ap (is_peer (first_peer (group_of (home p c) c) + i)) leads ∙ go_apart (first_peer (group_of (home p c) c) + i) (λ e. apart (sym at ∙ sym e)) in
          let top = others_at (λ y. last_number (group_of (home p c) c) ≤ y.1.known) (lead (group_of (home p c) c)) (first_peer (group_of (home p c) c)) (group_of (home p c) c).copies known i inside is_good no in
          let same : known_of q c ≡ (copy_of (group_of (home p c) c) q).known = ap (λ g. (copy_of (group_of g c) q).known) own in
          omega (arith, top, same))
      | inr f ↦ inr (elim (cases_lt f.peer.1.known (copy_of (group_of (home p c) c) f.peer.0).sealed) [
        | inl less ↦
            let k = ap (λ (r : Replica). r.known) f.is.copy in
            let a : known_of f.peer.0 c ≡ (copy_of (group_of (home p c) c) f.peer.0).known = ap (λ g. (copy_of (group_of g c) f.peer.0).known) f.is.own in
            let e : sealed_of f.peer.0 c ≡ (copy_of (group_of (home p c) c) f.peer.0).sealed = ap (λ g. (copy_of (group_of g c) f.peer.0).sealed) f.is.own in
            inl (record { peer = f.peer.0; own = f.is.own; good = f.is.well; less = omega (arith, less, k, a, e) })
        | inr high ↦
            let k = ap (λ (r : Replica). r.known) f.is.copy in
            let within = ((knows_here (home p c) c copies st).each f.peer.0 f.is.own f.is.well).known in
            let sealed = sealed_here (home p c) c copies st f.peer.0 f.is.own f.is.well (idle f.peer.0) in
            let next : f.peer.1.known + 1 ≡ length_of (group_of (home p c) c) f.peer.0 + 1 = omega (arith, high, k, within, sealed) in
            let there = first_sent (message.Copy (group_of (home p c) c).shard f.peer.0 (group_of (home p c) c).view (f.peer.1.known + 1) f.entry) f.more (send_all two.ms (send_all one.ms c.pool)) last_all.low
            (let a = none_there in let l = first_all.long in let m = last_all.long in let n = one.few in let o = two.few in let i = first_all.limit in let j = last_all.limit in omega (arith, a, l, m, n, o, i, j, room)) in
            let is_good = copy_good (home p c) c copies st f.peer.0 f.is.own f.is.well in
            let same_view : ((group_of (home p c) c).view == (group_of (home p c) c).view) ≡ true = same_number (group_of (home p c) c).view in
            let same_next : (f.peer.1.known + 1 == length_of (group_of (home p c) c) f.peer.0 + 1) ≡ true = ap (λ n. n == length_of (group_of (home p c) c) f.peer.0 + 1) next ∙ same_number (length_of (group_of (home p c) c) f.peer.0 + 1) in
            inr (record {
              to = f.peer.0;
              view = (group_of (home p c) c).view;
              number = f.peer.1.known + 1;
              entry = f.entry;
              under = record {
                place = there.0;
                number = there.1.0;
                at = ap (λ ms. slice_get (send_all ms (send_all two.ms (send_all one.ms c.pool))).messages there.0) f.first ∙ there.1.1
                    ∙ ap (λ g. Some (there.1.0, message.Copy g f.peer.0 (group_of (home p c) c).view (f.peer.1.known + 1) f.entry)) of;
              };
              fits = λ i. (is_good i && same_view i) && same_next i;
            })
      ])
    ]
      where
        go_apart : (q : ℕ) → p ≢ q → (p == q) ≡ false
        go_apart q n = go (p == q) refl
          where
            go : (t : Bool) → (p == q) ≡ t → (p == q) ≡ false
            go false e = e
            go true e = absurd (n (eqb-true p q e))

    by_due : (t : Bool) → is_enter_due (home p c) c ≡ t
        → Busy (post (resend p (group_of (home p c) (send_rounds (home p c) (change_if t (propose_entry (home p c) (kind.Enter 0 ((catalogue_of (home p c) c).epoch + 1))) c)))) (send_rounds (home p c) (change_if t (propose_entry (home p c) (kind.Enter 0 ((catalogue_of (home p c) c).epoch + 1))) c)))
        ⊎ QuietTo (suc p) (post (resend p (group_of (home p c) (send_rounds (home p c) (change_if t (propose_entry (home p c) (kind.Enter 0 ((catalogue_of (home p c) c).epoch + 1))) c)))) (send_rounds (home p c) (change_if t (propose_entry (home p c) (kind.Enter 0 ((catalogue_of (home p c) c).epoch + 1))) c)))
    by_due true e =
        let z : Core = propose_entry (home p c) (kind.Enter 0 ((catalogue_of (home p c) c).epoch + 1)) c in
        let low : p < length c.tasks = (let n = (seated_all c all).tasks in omega (arith, n, low_p)) in
        let busy : Busy (send_rounds (home p c) z) = busy_round 0 (home p c) (send_round 1 (home p c) z) (busy_round 1 (home p c) z (busy_propose (home p c) (kind.Enter 0 ((catalogue_of (home p c) c).epoch + 1)) c p is_lead low good)) in
        inl (busy_posts (resend p (group_of (home p c) (send_rounds (home p c) z))) (send_rounds (home p c) z) busy)
    by_due false e =
        let before : QuietTo p b = quiet_still p c b still (λ w u. absurd (none_way w u)) quiet in
        let after : QuietTo (suc p) b = quiet_next p b before (λ l. e) (λ place to kept l low two_places at. inr (rounds_come place to kept low two_places at)) (λ g no. absurd (no is_lead)) (λ l. level_or) in
        inr (subst (λ (y : Core). QuietTo (suc p) (post (resend p (group_of (home p c) y)) y)) (sym both_sent) (subst (λ (ms : List Message). QuietTo (suc p) (post ms (post two.ms (post one.ms c)))) (sym sends_again) after))

    leader : Busy (nudge p c) ⊎ QuietTo (suc p) (nudge p c)
    leader =
        subst (λ t. Busy ((change_if t (λ core. core ▸ propose_due (home p c) ▸ send_rounds (home p c)) c) ▸ (λ core. post (resend p (group_of (home p c) core)) core))
        ⊎ QuietTo (suc p) ((change_if t (λ core. core ▸ propose_due (home p c) ▸ send_rounds (home p c)) c) ▸ (λ core. post (resend p (group_of (home p c) core)) core))) (sym here) (by_due (is_enter_due (home p c) c) refl)

  pub nudged : Busy (nudge_good p c) ⊎ QuietTo (suc p) (nudge_good p c)
  nudged =
      subst (λ t. Busy (change_if t (nudge p) c) ⊎ QuietTo (suc p) (change_if t (nudge p) c)) (sym (ap is_good_status good)) (by_lead (lead_of (home p c) c) refl)
    where
      by_lead : (o : Option ℕ) → lead_of (home p c) c ≡ o → Busy (nudge p c) ⊎ QuietTo (suc p) (nudge p c)
      by_lead None e = follower (λ is. let wrong : None ≡ Some p = sym e ∙ is in cc wrong)
      by_lead (Some l) e = elim (cases_eq l p) [
        | inl same ↦ leader (e ∙ ap (λ k. Some k) same)
        | inr n ↦ follower (λ is. n (let both : Some l ≡ Some p = sym e ∙ is in cc both))
      ]
