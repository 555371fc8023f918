-- What holds at each step of an event: messages are for good peers, joining peers follow longer lists, and groups fit.
use Rattle.std.proofs.Common.{◌≡◌, ◌⊎◌, ◌∙◌, ap, sym, subst, refl, inl, inr, arith, ℕ, ◌+◌, ◌<◌, ◌==◌, not, Bool, true, false, List, [], ◌∷◌, Option, Some, None, length}
use Rattle.std.proofs.lemmas.Bool.{cases_eq}
use Rattle.std.proofs.lemmas.List.{length-set}
use Rattle.std.proofs.lemmas.List.Elements.{All-cons, All-head, All-nil, All-tail, All-weaker}
use Rattle.std.specs.List.{All}
use Rattle.std.specs.Map.{values_of}
use Rattle.std.specs.Option.{option_map}
use Rattle.std.specs.Prelude.{filter, slice_index_or}
use Rattle.hs_awaiting.specs.Words.{change_with, each}
use Rattle.hs_copies.proofs.StatusLemmas.{become_other}
use Rattle.hs_core_words.specs.Changing.{add_entry_tasks, change_group, change_rejoin, post, set_rejoin, set_viewed}
use Rattle.hs_core_words.specs.Effects.{round_messages}
use Rattle.hs_core_words.specs.Joining.{begin_joining, follow_lead, joining_peers}
use Rattle.hs_core_words.specs.Looking.{group_of, home, lead_of, rejoin_of, shape_of, status_of}
use Rattle.hs_core_words.specs.Operating.{add_read, propose_entry}
use Rattle.hs_core_words.specs.State.{Core}
use Rattle.hs_core_words.specs.Views.{begin_view, restart}
use Rattle.hs_core_copies.proofs.DeliverLemmas.{rejoin_either}
use Rattle.hs_core_copies.proofs.PlaceLemmas.{group_here, rejoin_here, rejoin_other}
use Rattle.hs_core_copies.proofs.PostLemmas.{posted}
use Rattle.hs_core_copies.proofs.ReportLemmas.{same_number}
use Rattle.hs_core_copies.proofs.WalkLemmas.{StepLeaves}
use Rattle.hs_entry.specs.declared.entry.Entry.{Entry}
use Rattle.hs_entry.specs.declared.entry.Entry.TheVariants as kind
use Rattle.hs_limits.specs.declared.limits.PeerStatus.TheVariants.{Down, Good, Joining}
use Rattle.hs_members.specs.Members.{Members, become, status, view_of}
use Rattle.hs_post.specs.declared.message.Message.{Message}
use Rattle.hs_post.specs.declared.message.Message.TheVariants as message
use Rattle.hs_post.specs.Pool.{is_for_peer}
use Rattle.hs_rejoin.specs.Rejoin.{Rejoin, follow, new_rejoin}
use Rattle.hs_replica.specs.Group.{Group, last_number, lead, new_group, proposal, propose, renew, renewal, take_committed}
use Rattle.hs_shard.specs.declared.effect.Sent.{Sent}
use Rattle.hs_quiet.specs.Keeping.{IsForGood}
use Rattle.hs_quiet.proofs.CopyLemmas.{IsFit, fit_committed, fit_proposes, group_cases, proposal_for, renewal_for}

-- none
abbrev pub NoOne : ℕ → Type 0
NoOne p = ⊥

-- `s` is the core as the event has begun
module _ (s : Core) where
  -- how far a joining peer has come: what it has is less than its lead had, which is still good, unless it is to be emptied
  pub record Follows (c : Core) (p : ℕ) (at : Option Rejoin) : Type 0 where
    pub rejoin : Rejoin
    pub is : at ≡ Some rejoin
    pub less : rejoin.empty ≡ false → rejoin.len < last_number (group_of (home p s) s)
    pub leads : rejoin.empty ≡ false → (l : ℕ) → lead (group_of (home p s) s) ≡ Some l → status_of l c ≡ Good

  -- but for some peers, and some shards
  pub record Fine (but : ℕ → Type 0) (loose : ℕ → Type 0) (c : Core) : Type 0 where
    pub shape : shape_of c ≡ shape_of s
    pub seats : length c.progress.rejoins ≡ length s.progress.rejoins
    pub receivers : All (IsForGood c.members) (values_of c.pool.messages)
    pub joins : (p : ℕ) → status_of p c ≡ Joining → but p ⊎ Follows c p (rejoin_of p c)
    pub fits : (g : ℕ) → loose g ⊎ IsFit c.members (group_of g c)

pub same_group : (g : ℕ) (a b : Core) → b.members ≡ a.members → b.groups ≡ a.groups → group_of g b ≡ group_of g a
same_group g a b m gs = ap (λ (x : Members). slice_index_or b.groups g (new_group x.shape g 0 0 [])) m ∙ ap (λ xs. slice_index_or xs g (new_group (shape_of a) g 0 0 [])) gs

module _ (s : Core) (but loose : ℕ → Type 0) where
  -- nothing of this changes, but that the pool may have others
  pub fine_same : (a b : Core) → b.members ≡ a.members → b.groups ≡ a.groups → b.progress.rejoins ≡ a.progress.rejoins
      → (All (IsForGood a.members) (values_of a.pool.messages) → All (IsForGood a.members) (values_of b.pool.messages)) → Fine s but loose a → Fine s but loose b
  fine_same a b m gs rs pool f = record {
    shape = ap (λ (x : Members). x.shape) m ∙ f.shape;
    seats = ap (λ (xs : List (Option Rejoin)). length xs) rs ∙ f.seats;
    receivers = subst (λ x. All (IsForGood x) (values_of b.pool.messages)) (sym m) (pool f.receivers);
    joins = λ p j. elim (f.joins p (sym (ap (λ x. status p x) m) ∙ j)) [
      | inl left ↦ inl left
      | inr k ↦ inr (record { rejoin = k.rejoin; is = ap (λ xs. slice_index_or xs p None) rs ∙ k.is; less = k.less; leads = λ e l i. ap (λ x. status l x) m ∙ k.leads e l i })
    ];
    fits = λ g. elim (f.fits g) [
      | inl left ↦ inl left
      | inr k ↦ inr (subst (λ x. IsFit x (group_of g b)) (sym m) (subst (λ x. IsFit a.members x) (sym (same_group g a b m gs)) k))
    ];
  }

  pub fine_post : (ms : List Message) (c : Core) → All (IsForGood c.members) ms → Fine s but loose c → Fine s but loose (post ms c)
  fine_post ms c h f = fine_same c (post ms c) refl refl refl (λ k. posted (IsForGood c.members) ms c.pool h k) f

  -- one group changes
  pub fine_group : (x : ℕ) (g : Group → Group) (c : Core) → (IsFit c.members (group_of x c) → IsFit c.members (g (group_of x c))) → Fine s but loose c → Fine s but loose (change_group x g c)
  fine_group x g c h f = record {
    shape = f.shape;
    seats = f.seats;
    receivers = f.receivers;
    joins = λ p j. elim (f.joins p j) [
      | inl left ↦ inl left
      | inr k ↦ inr (record { rejoin = k.rejoin; is = k.is; less = k.less; leads = k.leads })
    ];
    fits = λ y. elim (f.fits y) [
      | inl left ↦ inl left
      | inr k ↦ elim (group_cases x g c y) [
        | inl same ↦ inr (subst (λ z. IsFit c.members z) (sym same) k)
        | inr is ↦ inr (subst (λ z. IsFit c.members z) (sym is.1) (h (subst (λ n. IsFit c.members (group_of n c)) is.0 k)))
      ]
    ];
  }

  fine_tasks : (lead : Option ℕ) (number : ℕ) (entry : Entry) (c : Core) → Fine s but loose c → Fine s but loose (change_with lead (λ peer. add_entry_tasks peer number entry) c)
  fine_tasks None number entry c f = f
  fine_tasks (Some l) number entry c f = fine_same c (add_entry_tasks l number entry c) refl refl refl (λ h. h) f

  rounds_for : (m : Members) (shard : ℕ) (sends : List Sent) → All (IsForGood m) (round_messages shard sends)
  rounds_for m shard [] = All-nil (IsForGood m)
  rounds_for m shard (x ∷ sends) = All-cons (IsForGood m) _ (round_messages shard sends) tt (rounds_for m shard sends)

module _ (s : Core) (but : ℕ → Type 0) where
  pub fine_proposes : (x : ℕ) (entry : Entry) (c : Core) → Fine s but NoOne c → Fine s but NoOne (propose_entry x entry c)
  fine_proposes x entry c f =
      let fit : IsFit c.members (group_of x c) = elim (f.fits x) [ inl none ↦ absurd none | inr k ↦ k ] in
      fine_tasks s but NoOne (lead_of x c) (last_number (group_of x c) + 1) entry (post (proposal entry (group_of x c)) (change_group x (propose entry) c))
      (fine_post s but NoOne (proposal entry (group_of x c)) (change_group x (propose entry) c) (proposal_for c.members (group_of x c) fit entry)
      (fine_group s but NoOne x (propose entry) c (λ k. fit_proposes c.members entry (group_of x c) k) f))

  fine_reads : (x number line : ℕ) (c : Core) → Fine s but NoOne c → Fine s but NoOne (change_with (lead_of x c) (add_read number line) c)
  fine_reads x number line c f = go (lead_of x c)
    where
      go : (o : Option ℕ) → Fine s but NoOne (change_with o (add_read number line) c)
      go None = f
      go (Some l) = fine_same s but NoOne c (add_read number line l c) refl refl refl (λ h. h) f

  abbrev pub Keeps : Core → Core → Type 0
  Keeps a b = Fine s but NoOne a → Fine s but NoOne b

  pub steps_fine : StepLeaves Keeps
  steps_fine = record {
    same = λ c f. f;
    both = λ a b c g h f. h (g f);
    catalogue = λ x y c f. fine_same s but NoOne c _ refl refl refl (λ h. h) f;
    viewed = λ x y c f. fine_same s but NoOne c _ refl refl refl (λ h. h) f;
    operations = λ x c f. fine_same s but NoOne c _ refl refl refl (λ h. h) f;
    sessions = λ x c f. fine_same s but NoOne c _ refl refl refl (λ h. h) f;
    noted = λ of did told c f. fine_same s but NoOne c _ refl refl refl (λ h. h) f;
    proposes = λ x entry c plain f. fine_proposes x entry c f;
    reads = λ x number line c f. fine_reads x number line c f;
    sends = λ x sent c f. fine_post s but NoOne (round_messages x sent) c (rounds_for s but NoOne c.members x sent) f;
    commits = λ x c f. fine_group s but NoOne x take_committed c (λ k. fit_committed c.members (group_of x c) k) f;
  }

  -- a view begins in a shard whose group fits with it
  pub fine_view : (x : ℕ) (c : Core) → x < length c.groups → IsFit c.members (renew c.members (group_of x c)) → Fine s but (λ g. g ≡ x) c → Fine s but NoOne (begin_view x c)
  fine_view x c low fit f =
      let a : Core = set_viewed x false c in
      let b : Core = change_group x (renew c.members) a in
      let d : Core = restart x b in
      let e : Core = post (renewal (group_of x d)) d in
      let here : group_of x b ≡ renew c.members (group_of x c) = group_here x (renew c.members) a low in
      let at_b : Fine s but NoOne b = record {
        shape = f.shape;
        seats = f.seats;
        receivers = f.receivers;
        joins = λ p j. elim (f.joins p j) [
          | inl left ↦ inl left
          | inr k ↦ inr (record { rejoin = k.rejoin; is = k.is; less = k.less; leads = k.leads })
        ];
        fits = λ g. inr (elim (group_cases x (renew c.members) a g) [
          | inl same ↦ elim (f.fits g) [
            | inl is ↦ subst (λ k. IsFit c.members (group_of k b)) (sym is) (subst (λ z. IsFit c.members z) (sym here) fit)
            | inr k ↦ subst (λ z. IsFit c.members z) (sym same) k
          ]
          | inr is ↦ subst (λ z. IsFit c.members z) (sym is.1) fit
        ]);
      } in
      let at_d : Fine s but NoOne d = fine_same s but NoOne b d refl refl refl (λ h. h) at_b in
      let at_e : Fine s but NoOne e = fine_post s but NoOne (renewal (group_of x d)) d (renewal_for d.members (group_of x d) (subst (λ z. IsFit c.members z) (sym here) fit)) at_d in
      fine_proposes x (kind.View (view_of x c.members)) e at_e

-- ---- joining peers

module _ (s : Core) (but loose : ℕ → Type 0) where
  -- another says how far a peer has come
  pub fine_rejoin : (q : ℕ) (r : Option Rejoin) (c : Core) → (status_of q c ≡ Joining → but q ⊎ (Follows s c q (rejoin_of q c) → Follows s c q r)) → Fine s but loose c → Fine s but loose (set_rejoin q r c)
  fine_rejoin q r c h f = record {
    shape = f.shape;
    seats = length-set c.progress.rejoins q r ∙ f.seats;
    receivers = f.receivers;
    joins = λ p j. elim (cases_eq p q) [
      | inl e ↦ elim (h (ap (λ k. status_of k c) (sym e) ∙ j)) [
        | inl left ↦ inl (subst but (sym e) left)
        | inr turn ↦ elim (f.joins p j) [
          | inl left ↦ inl left
          | inr k ↦
              let at : Follows s c q (rejoin_of q c) = subst (λ n. Follows s c n (rejoin_of n c)) e k in
              let both : Follows s c q (rejoin_of q (set_rejoin q r c)) = rejoin_either (λ o. Follows s c q o) q r c (turn at) at in
              let same : Follows s c p (rejoin_of p (set_rejoin q r c)) = subst (λ n. Follows s c n (rejoin_of n (set_rejoin q r c))) (sym e) both in
              inr (record { rejoin = same.rejoin; is = same.is; less = same.less; leads = same.leads })
        ]
      ]
      | inr n ↦ elim (f.joins p j) [
        | inl left ↦ inl left
        | inr k ↦ inr (record { rejoin = k.rejoin; is = rejoin_other q p r c n ∙ k.is; less = k.less; leads = k.leads })
      ]
    ];
    fits = λ g. f.fits g;
  }

  pub fine_follows : (x : ℕ) (c : Core) → Fine s but loose c → Fine s but loose (follow_lead x c)
  fine_follows x c f = go (lead_of x c)
    where
      followed : (l : ℕ) (qs : List ℕ) (y : Core) → Fine s but loose y → Fine s but loose (each qs (λ peer. change_rejoin peer (follow l)) y)
      followed l [] y g = g
      followed l (q ∷ qs) y g =
          followed l qs (change_rejoin q (follow l) y) (fine_rejoin q (option_map (follow l) (rejoin_of q y)) y
          (λ j. inr (λ k. record { rejoin = follow l k.rejoin; is = ap (option_map (follow l)) k.is; less = k.less; leads = k.leads })) g)

      go : (o : Option ℕ) → Fine s but loose (change_with o (λ lead core. each (joining_peers x core) (λ peer. change_rejoin peer (follow lead)) core) c)
      go None = f
      go (Some l) = followed l (joining_peers x c) c f

-- one of these peers
abbrev pub IsIn : ℕ → List ℕ → Type 0
IsIn q [] = ⊥
IsIn q (p ∷ ps) = (q ≡ p) ⊎ IsIn q ps

-- those that begin again are to be emptied
module _ (s : Core) (loose : ℕ → Type 0) where
  begun_one : (q : ℕ) (l : ℕ) (qs : List ℕ) (c : Core) → q < length c.progress.rejoins → lead_of (home q c) c ≡ Some l → Fine s (λ p. IsIn p (q ∷ qs)) loose c → Fine s (λ p. IsIn p qs) loose (begin_joining q c)
  begun_one q l qs c low led f = record {
    shape = f.shape;
    seats = length-set c.progress.rejoins q _ ∙ f.seats;
    receivers = f.receivers;
    joins = λ p j. elim (cases_eq p q) [
      | inl e ↦
          let at : rejoin_of p (begin_joining q c) ≡ Some (new_rejoin l) =
          ap (λ n. rejoin_of n (begin_joining q c)) e ∙ rejoin_here q (option_map new_rejoin (lead_of (home q c) c)) c low ∙ ap (option_map new_rejoin) led in
          inr (record { rejoin = new_rejoin l; is = at; less = λ i. (let wrong : true ≡ false = i in absurd (cc wrong)); leads = λ i. (let wrong : true ≡ false = i in absurd (cc wrong)) })
      | inr n ↦ elim (f.joins p j) [
        | inl (inl e) ↦ absurd (n e)
        | inl (inr k) ↦ inl k
        | inr k ↦ inr (record { rejoin = k.rejoin; is = rejoin_other q p (option_map new_rejoin (lead_of (home q c) c)) c n ∙ k.is; less = k.less; leads = k.leads })
      ]
    ];
    fits = λ g. f.fits g;
  }

  -- each of them is a peer that there is, and its shard has a lead
  pub fine_anew : (qs : List ℕ) (c : Core) → All (λ q. (q < length c.progress.rejoins) × ((l : ℕ) × (lead_of (home q c) c ≡ Some l))) qs → Fine s (λ p. IsIn p qs) loose c → Fine s NoOne loose (each qs begin_joining c)
  fine_anew [] c h f = f
  fine_anew (q ∷ qs) c h f =
      let P : ℕ → Type 0 = λ q. (q < length c.progress.rejoins) × ((l : ℕ) × (lead_of (home q c) c ≡ Some l)) in
      let first = All-head (λ q. (q < length c.progress.rejoins) × ((l : ℕ) × (lead_of (home q c) c ≡ Some l))) q qs h in
      fine_anew qs (begin_joining q c)
      (All-weaker (λ q. (q < length c.progress.rejoins) × ((l : ℕ) × (lead_of (home q c) c ≡ Some l))) (λ p. (p < length (begin_joining q c).progress.rejoins) × ((l : ℕ) × (lead_of (home p (begin_joining q c)) (begin_joining q c) ≡ Some l)))
      (λ p k. (let n = length-set c.progress.rejoins q (option_map new_rejoin (lead_of (home q c) c)) in omega (arith, n, k.0), k.1)) qs
      (All-tail (λ q. (q < length c.progress.rejoins) × ((l : ℕ) × (lead_of (home q c) c ≡ Some l))) q qs h))
      (begun_one q first.1.0 qs c first.0 first.1.1 f)

-- ---- another status

-- messages for other peers than one that goes down
pub dropped_for : (p : ℕ) (m : Members) (es : List (ℕ × Message)) → All (IsForGood m) (values_of es) → All (IsForGood (become p Down m)) (values_of (filter (λ e. not (is_for_peer p e.1)) es))
dropped_for p m [] h = All-nil (IsForGood (become p Down m))
dropped_for p m (e ∷ es) h = go (not (is_for_peer p e.1)) refl (dropped_for p m es (All-tail (IsForGood m) e.1 (values_of es) h))
  where
    apart : (to : ℕ) → not (to == p) ≡ true → status to m ≡ Good → status to (become p Down m) ≡ Good
    apart to n good = elim (cases_eq to p) [
      | inl same ↦ let wrong : false ≡ true = sym (ap (λ k. not (k == p)) same ∙ ap not (same_number p)) ∙ n in absurd (cc wrong)
      | inr d ↦ become_other p to Down m d ∙ good
    ]

    kept : (x : Message) → not (is_for_peer p x) ≡ true → IsForGood m x → IsForGood (become p Down m) x
    kept (message.Copy shard to view number entry) n good = apart to n good
    kept (message.Have shard from to view sealed) n good = apart to n good
    kept (message.Round from to epoch round total deltas) n good = tt

    go : (b : Bool) → not (is_for_peer p e.1) ≡ b → All (IsForGood (become p Down m)) (values_of (filter (λ e. not (is_for_peer p e.1)) es))
        → All (IsForGood (become p Down m)) (values_of (filter (λ e. not (is_for_peer p e.1)) (e ∷ es)))
    go true i rest = rw i (All-cons (IsForGood (become p Down m)) e.1 (values_of (filter (λ e. not (is_for_peer p e.1)) es)) (kept e.1 i (All-head (IsForGood m) e.1 (values_of es) h)) rest)
    go false i rest = rw i rest

-- good peers stay good
pub stays_for : (m n : Members) → ((q : ℕ) → status q m ≡ Good → status q n ≡ Good) → (x : Message) → IsForGood m x → IsForGood n x
stays_for m n h (message.Copy shard to view number entry) good = h to good
stays_for m n h (message.Have shard from to view sealed) good = h to good
stays_for m n h (message.Round from to epoch round total deltas) good = tt
