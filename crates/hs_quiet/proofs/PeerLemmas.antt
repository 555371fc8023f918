-- A peer goes down, starts or joins: behind it each operation has its cause.
use Rattle.std.proofs.Common.{◌≡◌, ◌≢◌, ◌∙◌, sym, ap, subst, ◌⊎◌, inl, inr, ℕ, zero, suc, ◌+◌, ◌*◌, ◌<◌, ◌≤◌, Bool, true, false, ◌||◌, List, [], ◌∷◌, length, Option, Some, None, refl, arith}
use Rattle.std.proofs.lemmas.Bool.{cases_eq}
use Rattle.std.proofs.lemmas.List.{length-set}
use Rattle.std.specs.BTreeMap.{is_at}
use Rattle.std.specs.List.{list_any, range_with_len}
use Rattle.std.specs.Map.{lookup}
use Rattle.std.specs.Ordering.{nat_cmp}
use Rattle.std.specs.Prelude.{slice_get, slice_index_or}
use Rattle.hs_awaiting.specs.declared.wait.Wait.{Wait}
use Rattle.hs_awaiting.specs.declared.wait.Wait.TheVariants as wait
use Rattle.hs_awaiting.specs.declared.waiting.Waiting.{Waiting}
use Rattle.hs_awaiting.specs.Words.{change_if, change_with, each}
use Rattle.hs_copies.proofs.StatusLemmas.{become_other}
use Rattle.hs_core_words.specs.Changing.{change_rejoin, set_rejoin, set_status, set_tasks}
use Rattle.hs_core_words.specs.Effects.{commit}
use Rattle.hs_core_words.specs.Failing.{commit_rest, go_down, leave}
use Rattle.hs_core_words.specs.Joining.{begin_joining, follow_lead, join, joining_peers, start}
use Rattle.hs_core_words.specs.Looking.{group_of, home, lead_of, shape_of, status_of, tasks_of}
use Rattle.hs_core_words.specs.declared.task.Task.{Task}
use Rattle.hs_core_words.specs.State.{Core}
use Rattle.hs_core_words.specs.Views.{begin_view, change_view}
use Rattle.hs_core_copies.proofs.FallLemmas.{IsLost, down_by, lost_with}
use Rattle.hs_core_copies.proofs.LeadLemmas.{good_only}
use Rattle.hs_core_copies.proofs.PlaceLemmas.{tasks_other}
use Rattle.hs_core_copies.specs.InStep.{IsSeated}
use Rattle.hs_effects.specs.Logged.{IsOrderly}
use Rattle.hs_effects.proofs.OrderlyLemmas.{alike_orderly}
use Rattle.hs_entry.specs.declared.entry.Entry.TheVariants as kind
use Rattle.hs_limits.specs.declared.address.Address.{Address}
use Rattle.hs_limits.specs.declared.limits.PeerStatus.{PeerStatus}
use Rattle.hs_limits.specs.declared.limits.PeerStatus.TheVariants.{Down, Good, Joining}
use Rattle.hs_limits.specs.declared.shape.Shape.{Shape}
use Rattle.hs_limits.specs.Shape.{IsShape, peer_of}
use Rattle.hs_members.specs.Members.{Members, become, has_good, home_of, is_good_status, status}
use Rattle.hs_rejoin.specs.Rejoin.{follow}
use Rattle.hs_replica.specs.Group.{Group, is_peer, new_group}
use Rattle.hs_quiet.specs.Causes.{HasCause, IsToBeRead, asker_of, read_of}
use Rattle.hs_quiet.specs.Keeping.{AreInStep}
use Rattle.hs_quiet.proofs.AgainLemmas.{ForBytes, began_good}
use Rattle.hs_quiet.proofs.BesideLemmas.{IsAside, aside_good, aside_same}
use Rattle.hs_quiet.proofs.EffectLemmas.{commit_good}
use Rattle.hs_quiet.proofs.FallenLemmas.{home_is}
use Rattle.hs_quiet.proofs.GoingGoodLemmas.{IsGood, NoLine, NoShard, good_turn}
use Rattle.hs_quiet.proofs.StartLemmas.{down_now, low_home, low_peer, seated_all}

-- ---- good peers of a shard

any_same : (p q : ℕ → Bool) (n k : ℕ) → ((i : ℕ) → n ≤ i → i < n + k → p i ≡ q i) → list_any p (range_with_len n k) ≡ list_any q (range_with_len n k)
any_same p q n zero h = refl
any_same p q n (suc k) h =
    ap (λ b. b || list_any p (range_with_len (n + 1) k)) (h n (omega arith) (omega arith))
    ∙ ap (λ b. q n || b) (any_same p q (n + 1) k (λ i from to. h i (omega (arith, from)) (omega (arith, to))))

any_more : (p q : ℕ → Bool) (xs : List ℕ) → ((i : ℕ) → p i ≡ true → q i ≡ true) → list_any p xs ≡ true → list_any q xs ≡ true
any_more p q [] h e = e
any_more p q (x ∷ xs) h e = go (p x) refl e (λ k. any_more p q xs h k)
  where
    go : (b : Bool) → p x ≡ b → (b || list_any p xs) ≡ true → (list_any p xs ≡ true → list_any q xs ≡ true) → (q x || list_any q xs) ≡ true
    go true f k again = ap (λ b. b || list_any q xs) (h x f)
    go false f k again = go_on (q x) (again k)
      where
        go_on : (b : Bool) → list_any q xs ≡ true → (b || list_any q xs) ≡ true
        go_on true j = refl
        go_on false j = j

-- the same peers of a shard are good
good_same : (g : ℕ) (m n : Members) → n.shape ≡ m.shape → ((q : ℕ) → home_of m.shape q ≡ g → is_good_status (status q n) ≡ is_good_status (status q m)) → has_good g n ≡ has_good g m
good_same g m n shape h =
    ap (λ (s : Shape). list_any (λ q. is_good_status (status q n)) (range_with_len (peer_of s g 0) s.copies)) shape
    ∙ any_same (λ q. is_good_status (status q n)) (λ q. is_good_status (status q m)) (peer_of m.shape g 0) m.shape.copies (λ q from to. h q (home_is q g m.shape.copies from to))

-- ---- aside

aside_both : (a b c : Core) → IsAside a b → IsAside b c → IsAside a c
aside_both a b c x y = record {
  members = y.members ∙ x.members;
  viewed = y.viewed ∙ x.viewed;
  groups = y.groups ∙ x.groups;
  tasks = y.tasks ∙ x.tasks;
  operations = y.operations ∙ x.operations;
  sessions = y.sessions ∙ x.sessions;
  limits = y.limits ∙ x.limits;
  catalogues = y.catalogues ∙ x.catalogues;
}

begun_aside : (qs : List ℕ) (c : Core) → IsAside c (each qs begin_joining c)
begun_aside [] c = aside_same c
begun_aside (q ∷ qs) c =
    aside_both c (begin_joining q c) (each qs begin_joining (begin_joining q c)) (record { members = refl; viewed = refl; groups = refl; tasks = refl; operations = refl; sessions = refl; limits = refl; catalogues = refl })
    (begun_aside qs (begin_joining q c))

pub follow_aside : (x : ℕ) (c : Core) → IsAside c (follow_lead x c)
follow_aside x c = go (lead_of x c)
  where
    each_aside : (l : ℕ) (qs : List ℕ) (y : Core) → IsAside y (each qs (λ peer. change_rejoin peer (follow l)) y)
    each_aside l [] y = aside_same y
    each_aside l (q ∷ qs) y =
        aside_both y (change_rejoin q (follow l) y) (each qs (λ peer. change_rejoin peer (follow l)) (change_rejoin q (follow l) y))
        (record { members = refl; viewed = refl; groups = refl; tasks = refl; operations = refl; sessions = refl; limits = refl; catalogues = refl }) (each_aside l qs (change_rejoin q (follow l) y))

    go : (o : Option ℕ) → IsAside c (change_with o (λ lead core. each (joining_peers x core) (λ peer. change_rejoin peer (follow lead)) core) c)
    go None = aside_same c
    go (Some l) = each_aside l (joining_peers x c) c

-- ---- another status, and other jobs of a peer that is not good

module _ (name : List ℕ → Address) where
  abbrev G : Core → Type 0
  G c = IsGood name NoLine NoShard c

  -- what is there with these members and jobs, where readers are still good and still have their jobs, but for some lines
  status_good : (but : ℕ → Waiting → Type 0) (a b : Core) → b.members.shape ≡ a.members.shape → b.progress.viewed ≡ a.progress.viewed → b.groups ≡ a.groups → length b.tasks ≡ length a.tasks → b.operations ≡ a.operations
      → ((g : ℕ) → g < a.members.shape.shards → has_good g a.members ≡ true → has_good g b.members ≡ true)
      → ((l : ℕ) (w : Waiting) (n : ℕ) → w.wait ≡ wait.Bytes n → IsToBeRead a w.shard (read_of n l) → but l w ⊎ IsToBeRead b w.shard (read_of n l))
      → IsOrderly name b → G a → IsGood name but NoShard b
  status_good but a b shape viewed groups tasks operations goods reads orderly g = record {
    orderly = orderly;
    led = record {
      some = λ x low. goods x (back x low) (g.led.some x (back x low));
      groups = ap (λ (gs : List Group). length gs) groups ∙ g.led.groups ∙ ap (λ (s : Shape). s.shards) (sym shape);
      tasks = tasks ∙ g.led.tasks ∙ ap (λ (s : Shape). s.shards * s.copies) (sym shape);
      each = λ x low. ap (λ (y : Group). length y.copies) (same x) ∙ g.led.each x (back x low) ∙ ap (λ (s : Shape). s.copies) (sym shape);
    };
    valid = subst (λ (s : Shape). IsShape s) (sym shape) g.valid;
    most = record {
      views = ap (λ (vs : List Bool). length vs) viewed ∙ g.most.views ∙ ap (λ (s : Shape). s.shards) (sym shape);
      viewing = λ x low off. elim (g.most.viewing x (back x low) (sym (ap (λ (vs : List Bool). slice_index_or vs x false) viewed) ∙ off)) [
        | inl none ↦ absurd none
        | inr h ↦ inr (record { place = h.place; entry = h.entry; at = ap (λ (y : Group). slice_get y.waiting h.place) (same x) ∙ h.at; is = h.is ∙ ap (λ (y : Group). kind.View y.view) (sym (same x)) })
      ];
      caused = λ l w at. elim (g.most.caused l w (sym (ap (λ (es : List (ℕ × Waiting)). lookup (is_at (nat_cmp l)) es) operations) ∙ at)) [
        | inl none ↦ absurd none
        | inr h ↦ cause l w w.wait refl h
      ];
    };
  }
    where
      back : (x : ℕ) → x < b.members.shape.shards → x < a.members.shape.shards
      back x low = subst (λ (s : Shape). x < s.shards) shape low

      same : (x : ℕ) → group_of x b ≡ group_of x a
      same x = ap (λ (s : Shape). slice_index_or b.groups x (new_group s x 0 0 [])) shape ∙ ap (λ gs. slice_index_or gs x (new_group (shape_of a) x 0 0 [])) groups

      cause : (l : ℕ) (w : Waiting) (what : Wait) → w.wait ≡ what → HasCause name a (asker_of l w) what → but l w ⊎ HasCause name b (asker_of l w) what
      cause l w wait.View is h = inr (ap (λ (vs : List Bool). slice_index_or vs w.shard false) viewed ∙ h)
      cause l w wait.Address is h = inr (record { place = h.place; entry = h.entry; at = ap (λ (y : Group). slice_get y.waiting h.place) (same w.shard) ∙ h.at; is = h.is })
      cause l w wait.Room is h = inr (record { place = h.place; entry = h.entry; at = ap (λ (y : Group). slice_get y.waiting h.place) (same w.shard) ∙ h.at; is = h.is })
      cause l w (wait.Bytes n) is h = elim (reads l w n is h.1) [ inl left ↦ inl left | inr k ↦ inr (h.0, k) ]
      cause l w (wait.Entry n) is h = inr (record {
        place = h.place;
        entry = h.entry;
        at = ap (λ (y : Group). slice_get y.waiting h.place) (same w.shard) ∙ h.at;
        numbered = h.numbered ∙ ap (λ (y : Group). y.front + 1 + h.place) (sym (same w.shard));
        asked = h.asked;
      })

  -- a reader is still one
  read_stays : (a b : Core) (shard : ℕ) (t : Task) (h : IsToBeRead a shard t) → b.members.shape ≡ a.members.shape → status_of h.peer b ≡ Good → tasks_of h.peer b ≡ tasks_of h.peer a → IsToBeRead b shard t
  read_stays a b shard t h shape good jobs = record {
    peer = h.peer;
    own = ap (λ (s : Shape). home_of s h.peer) shape ∙ h.own;
    good = good;
    jobs = record { place = h.jobs.place; at = ap (λ (ts : List Task). slice_get ts h.jobs.place) jobs ∙ h.jobs.at };
  }

  -- ---- a peer goes down

  module _ (c : Core) (all : AreInStep c) (g : G c) (p : ℕ) where
    other : (q : ℕ) → q ≢ p → status_of q (leave p c) ≡ status_of q c
    other q n = become_other p q Down c.members n

    left_orderly : IsOrderly name (leave p c)
    left_orderly = alike_orderly name c (leave p c) (record { operations = refl; sessions = refl; limits = refl; shape = refl; waiting = λ k. refl; front = λ k. refl; catalogue = λ k. refl }) g.orderly

    -- that was not good
    left_bad : status_of p c ≢ Good → G (leave p c)
    left_bad bad =
        status_good NoLine c (leave p c) refl refl refl (length-set c.tasks p []) refl
        (λ x low some. good_same x c.members (become p Down c.members) refl (λ q own. same_good q) ∙ some)
        (λ l w n is h.
        let apart : h.peer ≢ p = λ e. bad (ap (λ k. status_of k c) (sym e) ∙ h.good) in
        inr (read_stays c (leave p c) w.shard (read_of n l) h refl (other h.peer apart ∙ h.good) (tasks_other p h.peer [] c apart)))
        left_orderly g
      where
        not_good : (k : PeerStatus) → k ≢ Good → is_good_status k ≡ false
        not_good Good n = absurd (n refl)
        not_good Joining n = refl
        not_good Down n = refl

        same_good : (q : ℕ) → is_good_status (status q (become p Down c.members)) ≡ is_good_status (status q c.members)
        same_good q = elim (cases_eq q p) [
          | inl e ↦ ap (λ k. is_good_status (status k (become p Down c.members))) e ∙ ap is_good_status (down_now p c.members) ∙ sym (not_good (status p c.members) bad) ∙ ap (λ k. is_good_status (status k c.members)) (sym e)
          | inr n ↦ ap is_good_status (other q n)
        ]

    -- that was good, where another is left
    left_good : has_good (home p c) (become p Down c.members) ≡ true → IsGood name (ForBytes (home p c)) NoShard (leave p c)
    left_good some =
        status_good (ForBytes (home p c)) c (leave p c) refl refl refl (length-set c.tasks p []) refl
        (λ x low was. elim (cases_eq x (home p c)) [
          | inl is ↦ ap (λ k. has_good k (become p Down c.members)) is ∙ some
          | inr n ↦ good_same x c.members (become p Down c.members) refl (λ q own. ap is_good_status (other q (λ e. n (sym own ∙ ap (home_of c.members.shape) e)))) ∙ was
        ])
        (λ l w n is h. elim (cases_eq h.peer p) [
          | inl e ↦ inl (record { judges = sym h.own ∙ ap (home_of c.members.shape) e; number = n; waits = is })
          | inr apart ↦ inr (read_stays c (leave p c) w.shard (read_of n l) h refl (other h.peer apart ∙ h.good) (tasks_other p h.peer [] c apart))
        ])
        left_orderly g

    rest_good : (x : ℕ) (d : Core) → G d → G (commit_rest x d)
    rest_good x d k = go (has_good x d.members)
      where
        go : (b : Bool) → G (change_if b (commit x) d)
        go true = commit_good name x d k
        go false = k

    again_good : (led : Bool) (x : ℕ) (d : Core) → G d → G (change_if led (λ core. each (joining_peers x core) begin_joining core) d)
    again_good true x d k = aside_good name NoLine NoShard d (each (joining_peers x d) begin_joining d) (begun_aside (joining_peers x d) d) k
    again_good false x d k = k

    good_down : status_of p c ≡ Good → (led : Bool) → has_good (home p c) (become p Down c.members) ≡ true → G (down_by true led (home p c) p c)
    good_down good led some =
        let low : home p c < c.members.shape.shards = low_home c all p (low_peer c all p (λ d. let wrong : Good ≡ Down = sym good ∙ d in cc wrong)) in
        let st : IsSeated c = seated_all c all in
        let viewed : change_view (home p c) (leave p c) ≡ begin_view (home p c) (leave p c) = ap (λ t. change_if t (begin_view (home p c)) (leave p c)) some in
        let began : G (begin_view (home p c) (leave p c)) = began_good name (home p c) (leave p c) (let n = st.groups in omega (arith, n, low)) (st.placed (home p c)).same_shard (left_good some) in
        let both : G (change_view (home p c) (leave p c)) = subst (λ (y : Core). G y) (sym viewed) began in
        rest_good (home p c) (change_if led (λ core. each (joining_peers (home p c) core) begin_joining core) (change_view (home p c) (leave p c))) (again_good led (home p c) (change_view (home p c) (leave p c)) both)

    pub falls_good : (is_peer p (lead_of (home p c) c) ≡ true → status_of p c ≡ Good) → G (go_down p c) ⊎ ((x : ℕ) × IsLost x (go_down p c))
    falls_good leads = go (status_of p c) refl
      where
        bad : status_of p c ≢ Good → is_good_status (status_of p c) ≡ false → G (go_down p c) ⊎ ((x : ℕ) × IsLost x (go_down p c))
        bad n e = by_lead (is_peer p (lead_of (home p c) c)) refl
          where
            by_lead : (b : Bool) → is_peer p (lead_of (home p c) c) ≡ b → G (go_down p c) ⊎ ((x : ℕ) × IsLost x (go_down p c))
            by_lead true f = absurd (n (leads f))
            by_lead false f =
                let same : go_down p c ≡ leave p c = ap (λ b. down_by b (is_peer p (lead_of (home p c) c)) (home p c) p c) e ∙ ap (λ b. down_by false b (home p c) p c) f in
                inl (subst (λ (y : Core). G y) (sym same) (left_bad n))

        last : status_of p c ≡ Good → (b : Bool) → has_good (home p c) (become p Down c.members) ≡ b
            → G (down_by true (is_peer p (lead_of (home p c) c)) (home p c) p c) ⊎ ((x : ℕ) × IsLost x (down_by true (is_peer p (lead_of (home p c) c)) (home p c) p c))
        last good true e = inl (good_down good (is_peer p (lead_of (home p c) c)) e)
        last good false e =
            let low : home p c < c.members.shape.shards = low_home c all p (low_peer c all p (λ d. let wrong : Good ≡ Down = sym good ∙ d in cc wrong)) in
            inr (home p c, lost_with (home p c) p c low e (is_peer p (lead_of (home p c) c)))

        go : (k : PeerStatus) → status_of p c ≡ k → G (go_down p c) ⊎ ((x : ℕ) × IsLost x (go_down p c))
        go Good e = subst (λ t. G (down_by t (is_peer p (lead_of (home p c) c)) (home p c) p c) ⊎ ((x : ℕ) × IsLost x (down_by t (is_peer p (lead_of (home p c) c)) (home p c) p c))) (sym (ap is_good_status e))
            (last e (has_good (home p c) (become p Down c.members)) refl)
        go Joining e = bad (λ i. let wrong : Joining ≡ Good = sym e ∙ i in cc wrong) (ap is_good_status e)
        go Down e = bad (λ i. let wrong : Down ≡ Good = sym e ∙ i in cc wrong) (ap is_good_status e)

  -- ---- a peer starts, and joins

  pub starts_good : (p : ℕ) (c : Core) → G c → status_of p c ≡ Down → G (start p c)
  starts_good p c g down =
      let first : G (set_status p Joining c) = status_good NoLine c (set_status p Joining c) refl refl refl refl refl
      (λ x low some. any_more (λ q. is_good_status (status q c.members)) (λ q. is_good_status (status q (become p Joining c.members))) (range_with_len (peer_of c.members.shape x 0) c.members.shape.copies) (λ q e. still q e) some)
      (λ l w n is h. inr (read_stays c (set_status p Joining c) w.shard (read_of n l) h refl (become_other p h.peer Joining c.members (apart h.peer (ap is_good_status h.good)) ∙ h.good) refl))
      (alike_orderly name c (set_status p Joining c) (record { operations = refl; sessions = refl; limits = refl; shape = refl; waiting = λ k. refl; front = λ k. refl; catalogue = λ k. refl }) g.orderly) g in
      aside_good name NoLine NoShard (set_status p Joining c) (start p c) (record { members = refl; viewed = refl; groups = refl; tasks = refl; operations = refl; sessions = refl; limits = refl; catalogues = refl }) first
    where
      apart : (q : ℕ) → is_good_status (status q c.members) ≡ true → q ≢ p
      apart q e i = let wrong : false ≡ true = sym (ap is_good_status (ap (λ k. status k c.members) i ∙ down)) ∙ e in cc wrong

      still : (q : ℕ) → is_good_status (status q c.members) ≡ true → is_good_status (status q (become p Joining c.members)) ≡ true
      still q e = ap is_good_status (become_other p q Joining c.members (apart q e)) ∙ e

  pub joins_good : (p : ℕ) (c : Core) → G c → status p (become p Good c.members) ≡ Good → home p c < length c.groups → (group_of (home p c) c).shard ≡ home p c → G (join p c)
  joins_good p c g now low of =
      commit_good name x (follow_lead x (change_view x c2)) (aside_good name NoLine NoShard (change_view x c2) (follow_lead x (change_view x c2)) (follow_aside x (change_view x c2)) (viewed (has_good x c2.members)))
    where
      x : ℕ
      x = home p c

      c1 : Core
      c1 = set_status p Good c

      c2 : Core
      c2 = set_rejoin p None (set_status p Good c)

      still : (q : ℕ) → status q c.members ≡ Good → status q (become p Good c.members) ≡ Good
      still q e = elim (cases_eq q p) [
        | inl i ↦ ap (λ k. status k (become p Good c.members)) i ∙ now
        | inr n ↦ become_other p q Good c.members n ∙ e
      ]

      still_good : (q : ℕ) → is_good_status (status q c.members) ≡ true → is_good_status (status q (become p Good c.members)) ≡ true
      still_good q e = ap is_good_status (still q (good_only (status q c.members) e))

      at_c2 : G c2
      at_c2 = aside_good name NoLine NoShard c1 c2 (record { members = refl; viewed = refl; groups = refl; tasks = refl; operations = refl; sessions = refl; limits = refl; catalogues = refl })
          (status_good NoLine c c1 refl refl refl refl refl
          (λ y lo some. any_more (λ q. is_good_status (status q c.members)) (λ q. is_good_status (status q (become p Good c.members))) (range_with_len (peer_of c.members.shape y 0) c.members.shape.copies) still_good some)
          (λ l w n is h. inr (read_stays c c1 w.shard (read_of n l) h refl (still h.peer h.good) refl))
          (alike_orderly name c c1 (record { operations = refl; sessions = refl; limits = refl; shape = refl; waiting = λ k. refl; front = λ k. refl; catalogue = λ k. refl }) g.orderly) g)

      viewed : (b : Bool) → G (change_if b (begin_view x) c2)
      viewed true = began_good name x c2 low of (good_turn name NoLine (ForBytes x) NoShard NoShard c2 (λ l w at none. absurd none) (λ k none. none) at_c2)
      viewed false = at_c2

  -- other jobs of a peer that is not good
  pub rests_good : (p : ℕ) (ts : List Task) (c : Core) → status_of p c ≢ Good → G c → G (set_tasks p ts c)
  rests_good p ts c bad g =
      status_good NoLine c (set_tasks p ts c) refl refl refl (length-set c.tasks p ts) refl (λ x low some. some)
      (λ l w n is h.
      let apart : h.peer ≢ p = λ e. bad (ap (λ k. status_of k c) (sym e) ∙ h.good) in
      inr (read_stays c (set_tasks p ts c) w.shard (read_of n l) h refl h.good (tasks_other p h.peer ts c apart)))
      (alike_orderly name c (set_tasks p ts c) (record { operations = refl; sessions = refl; limits = refl; shape = refl; waiting = λ k. refl; front = λ k. refl; catalogue = λ k. refl }) g.orderly) g
