-- What shards do while shard 0 stays in its epoch, and what then stays.
use Rattle.std.proofs.Common.{◌≡◌, ℕ, ◌+◌, ◌<◌, ◌≤◌, inl, inr, List, [], ◌∷◌, Option, Some, None, Bool, true, false, IsSome, is_none, refl, sym, ap, ◌∙◌, subst, arith, length, filter, slice_index, slice_set, mod-lt, Contains}
use Rattle.std.proofs.lemmas.Bool.{and_parts}
use Rattle.std.proofs.lemmas.List.{get_or-set_other, length-set}
use Rattle.std.specs.BTreeMap.{is_at}
use Rattle.std.specs.List.{AllByRecursion}
use Rattle.std.specs.Ordering.{nat_cmp}
use Rattle.std.specs.Prelude.{find}
use Rattle.hs_laws.proofs.DistinctLemmas.{step-distinct}
use Rattle.hs_laws.proofs.HoldKeeps.{session_entry}
use Rattle.hs_laws.proofs.InsertLemmas.{entry_from_lookup}
use Rattle.hs_laws.proofs.JudgeKeeps.{step_valid}
use Rattle.hs_laws.proofs.RootKeeps.{retained_is}
use Rattle.hs_laws.proofs.RunLemmas.{held_whole, root_whole}
use Rattle.hs_laws.proofs.SweepLemmas.{stays_spared}
use Rattle.hs_laws.proofs.ValidLemmas.{Valid, held_from_in, is_from_valid, valid_from_is}
use Rattle.hs_laws.specs.Distinct.{HasDistinctAddresses}
use Rattle.hs_laws.specs.Held.{IsFreshHeld, IsHeld}
use Rattle.hs_laws.specs.Reached.{IsPresent, IsWhole}
use Rattle.hs_limits.specs.declared.address.Address.{Address}
use Rattle.hs_limits.specs.declared.address.Held.{Held}
use Rattle.hs_limits.specs.declared.limits.Limits.{Limits}
use Rattle.hs_model.proofs.Members.{Member, contains_from_member, member_from_contains}
use Rattle.hs_model.specs.Inner.{stays}
use Rattle.hs_model.specs.Reach.{IsReached, Leads, pointers_of}
use Rattle.hs_model.specs.Run.{Event, IsAllowed, IsLegal, asks, enters, run, step, sweeps}
use Rattle.hs_model.specs.Store.{Root, Session, Store, block_at, epoch_at, held_at, held_in, is_retained, retained_at, session_at, shard_at}
use Rattle.hs_model.specs.declared.store.StoredBlock.{StoredBlock}
use Rattle.hs_asking.specs.Judged.{Drifts, IsInner}
use Rattle.hs_asking.specs.Seats.{IsSane}
use Rattle.hs_asking.specs.Staying.{IsKept, Stays, by_handle, by_root}

-- ---- one thing that a shard does

-- a test that an order of roots passes is found behind a filter that lets it through
pub find-filter : (test pass : Root → Bool) → ((root : Root) → test root ≡ true → pass root ≡ true) → (roots : List Root) → find test (filter pass roots) ≡ find test roots
find-filter test pass f [] = refl
find-filter test pass f (root ∷ roots) = go (find-filter test pass f roots) (test root) refl (pass root) refl
  where
    go : find test (filter pass roots) ≡ find test roots → (b : Bool) → test root ≡ b → (c : Bool) → pass root ≡ c → find test (filter pass (root ∷ roots)) ≡ find test (root ∷ roots)
    go ih true t true p = rw (p, t) refl
    go ih true t false p = let q = f root t in cc (p, q)
    go ih false t true p = rw (p, t) ih
    go ih false t false p = rw (p, t) ih

none_is : {X : Type 0} (o : Option X) → is_none o ≡ true → o ≡ None
none_is None e = refl
none_is (Some x) e = cc e

pub retained_stays : (s : Store) (key : List ℕ) (root : Root) → is_retained key root ≡ true → stays s root ≡ true
retained_stays s key root t =
    let n : root.dropped ≡ None = none_is root.dropped (and_parts (is_none root.dropped) _ t).0 in
    rw n refl

pub inner-retained : (limits : Limits) (s : Store) (e : Event) (key : List ℕ) → IsInner e → retained_at (step limits s e).store key ≡ retained_at s key
inner-retained limits s (asks o) key h = absurd h
inner-retained limits s (enters shard) key h =
    let entered : Store = record s { epochs = slice_set s.epochs shard (slice_index s.epochs shard + 1) } in
    find-filter (is_retained key) (stays entered) (λ root t. retained_stays entered key root t) s.roots
inner-retained limits s (sweeps shard) key h = refl

pub inner-first : (limits : Limits) (s : Store) (e : Event) → IsInner e → slice_index (step limits s e).store.epochs 0 ≡ slice_index s.epochs 0
inner-first limits s (asks o) h = absurd h
inner-first limits s (enters shard) h = get_or-set_other s.epochs shard 0 (slice_index s.epochs shard + 1) 0 (λ e. h (sym e))
inner-first limits s (sweeps shard) h = refl

pub inner-shards : (limits : Limits) (s : Store) (e : Event) → IsInner e → length (step limits s e).store.epochs ≡ length s.epochs
inner-shards limits s (asks o) h = absurd h
inner-shards limits s (enters shard) h = length-set s.epochs shard (slice_index s.epochs shard + 1)
inner-shards limits s (sweeps shard) h = refl

-- what is there afterwards was there
pub inner_was : (limits : Limits) (s : Store) (e : Event) → IsInner e → HasDistinctAddresses s → (a : Address) (y : StoredBlock) → block_at (step limits s e).store a ≡ Some y → block_at s a ≡ Some y
inner_was limits s (asks o) h d a y p = absurd h
inner_was limits s (enters shard) h d a y p = p
inner_was limits s (sweeps shard) h d a y p = (stays_spared s (slice_index s.epochs shard) shard a y d p).0

pub inner_sane : (limits : Limits) (s : Store) (e : Event) → IsInner e → IsAllowed s e → IsSane s → IsSane (step limits s e).store
inner_sane limits s e h may sane = record {
  valid = is_from_valid (step limits s e).store (step_valid limits s (valid_from_is s sane.valid) e may);
  distinct = step-distinct limits s e sane.distinct;
  blocks = λ a y p. sane.blocks a y (inner_was limits s e h sane.distinct a y p);
}

-- ---- what is kept

-- no shard is ahead of shard 0
fresh_from_first : (s : Store) → Valid s → (held : Held) → slice_index s.epochs 0 ≤ held.epoch + 1 → IsFreshHeld s held
fresh_from_first s v held h =
    let within : shard_at s held.address < length s.epochs = mod-lt (slice_index held.address.0 31) v.epochs.some_shard in
    let ahead : epoch_at s held.address ≤ slice_index s.epochs 0 = v.epochs.not_ahead (shard_at s held.address) within in
    omega (arith, ahead, h)

found_session : (s : Store) (name : List ℕ) (handle : ℕ) (held : Held) (found : Option Session) → session_at s name ≡ found → held_in found handle ≡ Some held → IsHeld s held
found_session s name handle held None e h = cc h
found_session s name handle held (Some session) e h =
    let at = session_entry s name session e in
    let has = entry_from_lookup (is_at (nat_cmp handle)) session.handles held h in
    held_from_in s held (at.0, has.0, at.1, subst (λ z. Member has.0 z.handles) (sym at.2) has.1, has.2)

pub held_is : (s : Store) (name : List ℕ) (handle : ℕ) (held : Held) → held_at s name handle ≡ Some held → IsHeld s held
held_is s name handle held h = found_session s name handle held (session_at s name) refl h

pub kept_whole : (s : Store) → Valid s → (a : Address) → IsKept s a → IsWhole s a
kept_whole s v a (by_handle name handle epoch h fresh) =
    let held : Held = record { address = a; epoch = epoch } in
    held_whole s v held (held_is s name handle held h) (fresh_from_first s v held fresh)
kept_whole s v a (by_root key root h is) =
    let r = retained_is s key root h in
    subst (λ z. IsWhole s z) is (root_whole s v root (contains_from_member root s.roots r.member) r.standing)

session-same : (limits : Limits) (s : Store) (e : Event) → IsInner e → (name : List ℕ) → session_at (step limits s e).store name ≡ session_at s name
session-same limits s (asks o) h name = absurd h
session-same limits s (enters shard) h name = refl
session-same limits s (sweeps shard) h name = refl

pub inner_kept : (limits : Limits) (s : Store) (e : Event) → IsInner e → (a : Address) → IsKept s a → IsKept (step limits s e).store a
inner_kept limits s e h a (by_handle name handle epoch held fresh) = by_handle name handle epoch (ap (λ x. held_in x handle) (session-same limits s e h name) ∙ held) (subst (λ z. z ≤ epoch + 1) (sym (inner-first limits s e h)) fresh)
inner_kept limits s e h a (by_root key root r is) = by_root key root (inner-retained limits s e key h ∙ r) is

-- ---- what stays

-- a block that is there before and afterwards is the same
abbrev pub SameWhereBoth : Store → Store → Type 0
SameWhereBoth s t = (a : Address) (x y : StoredBlock) → block_at s a ≡ Some x → block_at t a ≡ Some y → x ≡ y

present_both : (s t : Store) → SameWhereBoth s t → (a : Address) → IsPresent s a → IsPresent t a → block_at t a ≡ block_at s a
present_both s t same a p q = go (block_at s a) refl (block_at t a) refl p q
  where
    go : (f : Option StoredBlock) → block_at s a ≡ f → (g : Option StoredBlock) → block_at t a ≡ g → IsSome f → IsSome g → g ≡ f
    go None e g d p q = cc p
    go (Some x) e None d p q = cc q
    go (Some x) e (Some y) d p q = ap (λ z. Some z) (sym (same a x y e d))

reached_by : (s : Store) (a : Address) (path : List Address) (b : Address) → Leads s a path b → IsReached s (a ∷ []) b
reached_by s a path b l = record { start = a; path = path; anchored = contains_from_member a (a ∷ []) (inl refl); leads = l }

whole-next : (s : Store) (a next : Address) → IsWhole s a → Contains (pointers_of (block_at s a)) next → IsWhole s next
whole-next s a next w c b r = w b (go r)
  where
    only : (start : Address) → Contains (next ∷ []) start → start ≡ next
    only start m = elim (member_from_contains start (next ∷ []) m) [ inl e ↦ e | inr n ↦ absurd n ]

    go : IsReached s (next ∷ []) b → IsReached s (a ∷ []) b
    go r = reached_by s a (next ∷ r.path) b (c, subst (λ z. Leads s z r.path b) (only r.start r.anchored) r.leads)

pub whole-here : (s : Store) (a : Address) → IsWhole s a → IsPresent s a
whole-here s a w = w a (reached_by s a [] a refl)

pub stays_where_both : (s t : Store) (a : Address) → IsWhole s a → IsWhole t a → SameWhereBoth s t → Stays s t a
stays_where_both s t a v w same = record { leads = λ path b l. (both a v w path b l).0; blocks = λ path b l. (both a v w path b l).1 }
  where
    both : (a : Address) → IsWhole s a → IsWhole t a → (path : List Address) (b : Address) → Leads s a path b → Leads t a path b × (block_at t b ≡ block_at s b)
    both a v w [] b l = (l, subst (λ z. block_at t z ≡ block_at s z) l (present_both s t same a (whole-here s a v) (whole-here t a w)))
    both a v w (next ∷ path) b l =
        let here : block_at t a ≡ block_at s a = present_both s t same a (whole-here s a v) (whole-here t a w) in
        let there : Contains (pointers_of (block_at t a)) next = subst (λ z. Contains (pointers_of z) next) (sym here) l.0 in
        let rest = both next (whole-next s a next v l.0) (whole-next t a next w there) path b l.1 in
        ((there, rest.0), rest.1)

pub stays-refl : (s : Store) (a : Address) → Stays s s a
stays-refl s a = record { leads = λ path b l. l; blocks = λ path b l. refl }

pub stays-trans : (s t u : Store) (a : Address) → Stays s t a → Stays t u a → Stays s u a
stays-trans s t u a h k = record { leads = λ path b l. k.leads path b (h.leads path b l); blocks = λ path b l. k.blocks path b (h.leads path b l) ∙ h.blocks path b l }

-- ---- shards for a while

-- what holds behind it
pub record Drifted (s t : Store) : Type 0 where
  pub sane : IsSane t
  pub sessions : (name : List ℕ) → session_at t name ≡ session_at s name
  pub count : length t.sessions ≡ length s.sessions
  pub first : slice_index t.epochs 0 ≡ slice_index s.epochs 0
  pub shards : length t.epochs ≡ length s.epochs
  pub retained : (key : List ℕ) → retained_at t key ≡ retained_at s key
  pub kept : (a : Address) → IsKept s a → IsKept t a
  pub stays : (a : Address) → IsKept s a → Stays s t a

sessions-same : (limits : Limits) (s : Store) (e : Event) → IsInner e → (step limits s e).store.sessions ≡ s.sessions
sessions-same limits s (asks o) h = absurd h
sessions-same limits s (enters shard) h = refl
sessions-same limits s (sweeps shard) h = refl

inner_drifted : (limits : Limits) (s : Store) (e : Event) → IsInner e → IsAllowed s e → IsSane s → Drifted s (step limits s e).store
inner_drifted limits s e h may sane =
    let t : Store = (step limits s e).store in
    let after : IsSane t = inner_sane limits s e h may sane in
    record {
      sane = after;
      sessions = λ name. session-same limits s e h name;
      count = ap (λ x. length x) (sessions-same limits s e h);
      first = inner-first limits s e h;
      shards = inner-shards limits s e h;
      retained = λ key. inner-retained limits s e key h;
      kept = λ a k. inner_kept limits s e h a k;
      stays = λ a k. stays_where_both s t a (kept_whole s (valid_from_is s sane.valid) a k) (kept_whole t (valid_from_is t after.valid) a (inner_kept limits s e h a k)) (λ b x y p q. let r = inner_was limits s e h sane.distinct b y q in cc (p, r));
    }

drifted-trans : (s t u : Store) → Drifted s t → Drifted t u → Drifted s u
drifted-trans s t u h k = record {
  sane = k.sane;
  sessions = λ name. k.sessions name ∙ h.sessions name;
  count = k.count ∙ h.count;
  first = k.first ∙ h.first;
  shards = k.shards ∙ h.shards;
  retained = λ key. k.retained key ∙ h.retained key;
  kept = λ a x. k.kept a (h.kept a x);
  stays = λ a x. stays-trans s t u a (h.stays a x) (k.stays a (h.kept a x));
}

drifted-refl : (s : Store) → IsSane s → Drifted s s
drifted-refl s sane = record { sane = sane; sessions = λ name. refl; count = refl; first = refl; shards = refl; retained = λ key. refl; kept = λ a k. k; stays = λ a k. stays-refl s a }

pub inner_drift : (limits : Limits) (s : Store) (es : List Event) → AllByRecursion IsInner es → IsLegal limits s es → IsSane s → Drifted s (run limits s es)
inner_drift limits s [] h l sane = drifted-refl s sane
inner_drift limits s (e ∷ es) h l sane =
    let first = inner_drifted limits s e h.0 l.0 sane in
    drifted-trans s (step limits s e).store (run limits (step limits s e).store es) first (inner_drift limits (step limits s e).store es h.1 l.1 first.sane)

pub drift : (limits : Limits) (s t : Store) → Drifts limits s t → IsSane s → Drifted s t
drift limits s t d sane = subst (λ z. Drifted s z) d.leaves (inner_drift limits s d.events d.inner d.legal sane)
