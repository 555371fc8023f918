-- The copies of one shard as a machine over whole lists: what may happen, and what it does. No bound, no disk and no
-- memory is in it; an entry is any payload with the view in which it was proposed.
use Rattle.std.specs.Prelude.{◌≡◌, ◌≢◌, ◌⊎◌, ℕ, zero, suc, ◌<◌, ◌≤◌, Bool, true, false, List, [], ◌∷◌, ◌++◌, length, Some, if◌then◌else◌, nat_eq}
use Rattle.std.specs.Prelude.{slice_get, take}
use Rattle.hs_copies.specs.Lists.{Item, IsAmong, IsFront}

-- a joining peer is cleared first, and follows the lead's list from then on
pub data Stage : Type 0 where
  Good : Stage
  Clearing : Stage
  Following : Stage
  Down : Stage

-- one peer's copy of the list
pub record PeerCopy (X : Type 0) : Type 0 where
  pub stage : Stage
  -- the entries that it has taken
  pub list : List (Item X)
  -- what its last copying step may have added on its disk
  pub adding : List (Item X)
  -- how many of them it has sealed, and how many the lead knows it to have sealed
  pub sealed : ℕ
  pub known : ℕ

-- what one peer tells another: an entry of the lead's list, and how many are before it; or how many a peer has sealed
pub data Notice (X : Type 0) : Type 0 where
  EntryNotice : (to view place : ℕ) → Item X → Notice X
  SealedNotice : (from view sealed : ℕ) → Notice X

-- the copies of a shard
pub record Copies (X : Type 0) : Type 0 where
  pub view : ℕ
  -- the lead's list
  pub log : List (Item X)
  -- what took effect, in order
  pub took : List (Item X)
  pub peers : ℕ → PeerCopy X
  -- all that was ever told
  pub sent : List (Notice X)

-- an event. A notice that is lost never comes, and one that is repeated comes again. Where a peer fails or has joined,
-- the event names the next lead and what it proposes; `again` says whether the joining peers begin again
pub data CopyEvent (X : Type 0) : Type 0 where
  Propose : (lead : ℕ) → X → CopyEvent X
  Send : Notice X → CopyEvent X
  CopyComes : (to place : ℕ) → Item X → CopyEvent X
  Sealed : (peer number : ℕ) → CopyEvent X
  HaveComes : (from number : ℕ) → CopyEvent X
  TakesEffect : Item X → CopyEvent X
  Fail : (peer lead : ℕ) (again : Bool) → X → CopyEvent X
  GiveUp : (peer : ℕ) → CopyEvent X
  Start : (peer : ℕ) → CopyEvent X
  Cleared : (peer number : ℕ) → CopyEvent X
  Copying : (peer : ℕ) → List (Item X) → CopyEvent X
  Copied : (peer : ℕ) → CopyEvent X
  Join : (peer lead : ℕ) → X → CopyEvent X

-- the values by number with another one in this place
abbrev pub put_at : {A : Type 0} → ℕ → A → (ℕ → A) → ℕ → A
put_at p c values q = if nat_eq q p then c else values q

-- an entry of a view
abbrev pub item : {X : Type 0} → ℕ → X → Item X
item v x = record { view = v; what = x }

-- the lead knows all that is sealed
abbrev pub told_copy : {X : Type 0} → PeerCopy X → PeerCopy X
told_copy c = record c { known = c.sealed }

-- a joining peer is to be cleared once more
abbrev pub stage_again : Stage → Stage
stage_again Good = Good
stage_again Clearing = Clearing
stage_again Following = Clearing
stage_again Down = Down

-- where joining peers begin again
abbrev pub begin_again : {X : Type 0} → Bool → PeerCopy X → PeerCopy X
begin_again true c = record c { stage = stage_again c.stage }
begin_again false c = c

-- a new view over these peers: the lead's list is what counts, it knows what each has sealed, and it proposes
abbrev pub with_new_view : {X : Type 0} → ℕ → X → (ℕ → PeerCopy X) → Copies X → Copies X
with_new_view lead x peers s =
    record {
      view = suc s.view;
      log = (peers lead).list ++ item (suc s.view) x ∷ [];
      took = s.took;
      peers = put_at lead (record (told_copy (peers lead)) { list = (peers lead).list ++ item (suc s.view) x ∷ [] })
          (λ q. told_copy (peers q));
      sent = s.sent;
    }

-- another copy at a peer
abbrev pub with_copy : {X : Type 0} → ℕ → PeerCopy X → Copies X → Copies X
with_copy p c s = record s { peers = put_at p c s.peers }

-- what is sent is an entry of the lead's list, or what a good peer has sealed
abbrev pub MaySend : {X : Type 0} → Copies X → Notice X → Type 0
MaySend s (EntryNotice to view place x) = (view ≡ s.view) × (slice_get s.log place ≡ Some x)
MaySend s (SealedNotice from view number) =
    (view ≡ s.view) × ((s.peers from).stage ≡ Good) × (number ≤ (s.peers from).sealed)

-- this many are common to the peer's list and the lead's, as the views of their last ones tell
abbrev pub IsCommon : {X : Type 0} → Copies X → ℕ → ℕ → Type 0
IsCommon s p zero = Unit {0}
IsCommon {X} s p (suc n) =
    (x y : Item X) × (slice_get (s.peers p).list n ≡ Some x) × (slice_get s.log n ≡ Some y) × (x.view ≡ y.view)

-- when an event may come
abbrev pub CanCome : {X : Type 0} → Copies X → CopyEvent X → Type 0
CanCome s (Propose lead x) = ((s.peers lead).stage ≡ Good) × ((s.peers lead).list ≡ s.log)
CanCome s (Send m) = MaySend s m
CanCome s (CopyComes to place x) =
    ((s.peers to).stage ≡ Good) × (place ≡ length (s.peers to).list)
    × IsAmong (EntryNotice to s.view place x) s.sent
CanCome s (Sealed p n) = ((s.peers p).stage ≡ Good) × ((s.peers p).sealed ≤ n) × (n ≤ length (s.peers p).list)
CanCome s (HaveComes p n) =
    ((s.peers p).known ≤ n)
    × ((((s.peers p).stage ≡ Good) × (n ≤ (s.peers p).sealed)) ⊎ IsAmong (SealedNotice p s.view n) s.sent)
CanCome s (TakesEffect x) =
    (slice_get s.log (length s.took) ≡ Some x)
    × ((p : ℕ) → (s.peers p).stage ≡ Good → length s.took < (s.peers p).known)
CanCome s (Fail p lead again x) =
    (lead ≢ p) × ((s.peers p).stage ≡ Good) × ((s.peers lead).stage ≡ Good)
    × ((q : ℕ) → q ≢ p → (s.peers q).stage ≡ Good → length (s.peers q).list ≤ length (s.peers lead).list)
    × (again ≡ false → length (s.peers lead).list ≡ length s.log)
CanCome s (GiveUp p) = (s.peers p).stage ≢ Good
CanCome s (Start p) = (s.peers p).stage ≢ Good
CanCome s (Cleared p n) = ((s.peers p).stage ≡ Clearing) × IsCommon s p n
CanCome s (Copying p more) =
    ((s.peers p).stage ≡ Following) × IsFront ((s.peers p).list ++ more) s.log × ((s.peers p).adding ≡ [])
CanCome s (Copied p) = (s.peers p).stage ≡ Following
CanCome s (Join p lead x) =
    ((s.peers p).stage ≡ Following) × ((s.peers p).adding ≡ []) × (length (s.peers p).list ≡ length s.log)
    × ((lead ≢ p → (s.peers lead).stage ≡ Good) × (length (s.peers lead).list ≡ length s.log))

-- what it leaves
abbrev pub after_event : {X : Type 0} → CopyEvent X → Copies X → Copies X
after_event (Propose lead x) s =
    record s {
      log = s.log ++ item s.view x ∷ [];
      peers = put_at lead (record (s.peers lead) { list = s.log ++ item s.view x ∷ [] }) s.peers;
    }
after_event (Send m) s = record s { sent = m ∷ s.sent }
after_event (CopyComes to place x) s = with_copy to (record (s.peers to) { list = (s.peers to).list ++ x ∷ [] }) s
after_event (Sealed p n) s = with_copy p (record (s.peers p) { sealed = n }) s
after_event (HaveComes p n) s = with_copy p (record (s.peers p) { known = n }) s
after_event (TakesEffect x) s = record s { took = s.took ++ x ∷ [] }
after_event (Fail p lead again x) s =
    with_new_view lead x (λ q. begin_again again (put_at p (record (s.peers p) { stage = Down }) s.peers q)) s
after_event (GiveUp p) s = with_copy p (record (s.peers p) { stage = Down }) s
after_event (Start p) s = with_copy p (record (s.peers p) { stage = Clearing }) s
after_event (Cleared p n) s =
    with_copy p (record (s.peers p) { stage = Following; list = take n (s.peers p).list; adding = []; sealed = n }) s
after_event (Copying p more) s = with_copy p (record (s.peers p) { adding = more }) s
after_event (Copied p) s =
    with_copy p (record (s.peers p) {
      list = (s.peers p).list ++ (s.peers p).adding;
      adding = [];
      sealed = length ((s.peers p).list ++ (s.peers p).adding);
    }) s
after_event (Join p lead x) s = with_new_view lead x (put_at p (record (s.peers p) { stage = Good }) s.peers) s

-- each event was allowed when it came
abbrev pub CanComeAll : {X : Type 0} → Copies X → List (CopyEvent X) → Type 0
CanComeAll s [] = Unit {0}
CanComeAll s (e ∷ es) = CanCome s e × CanComeAll (after_event e s) es

-- what they leave
abbrev pub after_events : {X : Type 0} → Copies X → List (CopyEvent X) → Copies X
after_events s [] = s
after_events s (e ∷ es) = after_events (after_event e s) es
