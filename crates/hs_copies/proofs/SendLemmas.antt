-- What the core sends the machine may send.
use Rattle.std.proofs.Common.{◌≡◌, ℕ, zero, suc, ◌+◌, ◌-◌, ◌≤◌, List, [], ◌∷◌, ◌++◌, inl, inr, refl, arith, Some, ap, ◌∙◌, map, drop, Option}
use Rattle.std.specs.List.{enumerate_from}
use Rattle.std.specs.Prelude.{flat_map, slice_get}
use Rattle.hs_entry.specs.declared.entry.Entry.{Entry}
use Rattle.hs_post.specs.declared.message.Message.{Message}
use Rattle.hs_post.specs.declared.message.Message.TheVariants as message
use Rattle.hs_replica.specs.Group.{Group, copies_above, entries_above, view_after}
use Rattle.hs_copies.specs.CoreCopies.{CoreCopies}
use Rattle.hs_copies.specs.Lists.{IsAmong, Item}
use Rattle.hs_copies.specs.Machine.{CanComeAll, Copies, CopyEvent, EntryNotice, Good, CanCome, Notice, PeerCopy, SealedNotice, Send, after_event, after_events}
use Rattle.hs_copies.specs.Standing.{HasMessage, StandsFor}
use Rattle.hs_copies.proofs.LineLemmas.{lines_after}
use Rattle.hs_copies.proofs.QuietLemmas.{Becomes}
use Rattle.hs_copies.proofs.StampLemmas.{tells_after}
use Rattle.hs_copies.proofs.ViewKeeps.{after_right}

-- ---- events one after another

pub allowed_append : (s : Copies Entry) (es fs : List (CopyEvent Entry)) → CanComeAll s es → CanComeAll (after_events s es) fs → CanComeAll s (es ++ fs)
allowed_append s [] fs a b = b
allowed_append s (e ∷ es) fs a b = (a.0, allowed_append (after_event e s) es fs a.1 b)

pub after_append : (s : Copies Entry) (es fs : List (CopyEvent Entry)) → after_events s (es ++ fs) ≡ after_events (after_events s es) fs
after_append s [] fs = refl
after_append s (e ∷ es) fs = after_append (after_event e s) es fs

-- ---- all of a list

abbrev pub Each : {X : Type 0} → (X → Type 0) → List X → Type 0
Each P [] = Unit {0}
Each P (x ∷ xs) = P x × Each P xs

pub each_map : {X Y : Type 0} (P : Y → Type 0) (f : X → Y) (xs : List X) → ((x : X) → P (f x)) → Each P (map f xs)
each_map P f [] h = tt
each_map P f (x ∷ xs) h = (h x, each_map P f xs h)

pub each_map_of : {X Y : Type 0} (Q : X → Type 0) (P : Y → Type 0) (f : X → Y) (xs : List X) → ((x : X) → Q x → P (f x)) → Each Q xs → Each P (map f xs)
each_map_of Q P f [] h e = tt
each_map_of Q P f (x ∷ xs) h e = (h x e.0, each_map_of Q P f xs h e.1)

pub each_append : {X : Type 0} (P : X → Type 0) (xs ys : List X) → Each P xs → Each P ys → Each P (xs ++ ys)
each_append P [] ys e f = f
each_append P (x ∷ xs) ys e f = (e.0, each_append P xs ys e.1 f)

pub each_drop : {X : Type 0} (P : X → Type 0) (n : ℕ) (xs : List X) → Each P xs → Each P (drop n xs)
each_drop P zero xs e = e
each_drop P (suc n) [] e = tt
each_drop P (suc n) (x ∷ xs) e = each_drop P n xs e.1

pub each_flat_map : {X Y : Type 0} (P : Y → Type 0) (f : X → List Y) (xs : List X) → ((x : X) → Each P (f x)) → Each P (flat_map f xs)
each_flat_map P f [] h = tt
each_flat_map P f (x ∷ xs) h = each_append P (f x) (flat_map f xs) (h x) (each_flat_map P f xs h)

-- ---- messages

-- the machine may send what the message tells
abbrev pub MayTell : ℕ → List (Item Entry) → (ℕ → PeerCopy Entry) → Message → Type 0
MayTell now log peers (message.Copy shard to view number entry) =
    (1 ≤ number) × (view ≡ now) × ((x : Item Entry) × (x.what ≡ entry) × (slice_get log (number - 1) ≡ Some x))
MayTell now log peers (message.Have shard from to view sealed) = (view ≡ now) × ((peers from).stage ≡ Good) × (sealed ≤ (peers from).sealed)
MayTell now log peers (message.Round from to epoch round total deltas) = Unit {0}

sent_more : (sent : List (Notice Entry)) (notice : Notice Entry) (m : Message) → HasMessage sent m → HasMessage (notice ∷ sent) m
sent_more sent notice (message.Copy shard to view number entry) f = (f.0, (f.1.0, f.1.1, inr f.1.2))
sent_more sent notice (message.Have shard from to view sealed) f = inr f
sent_more sent notice (message.Round from to epoch round total deltas) f = tt

sent_now : (sent : List (Notice Entry)) (notice : Notice Entry) (ms : List Message) (m : Message) → HasMessage (notice ∷ sent) m
    → ((n : Message) → IsAmong n ms → HasMessage sent n) → (n : Message) → IsAmong n (m ∷ ms) → HasMessage (notice ∷ sent) n
sent_now sent notice ms m h all n (inl e) = rw e h
sent_now sent notice ms m h all n (inr k) = sent_more sent notice n (all n k)

send_notice : {line : Entry → Option ℕ} (c : CoreCopies) (s : Copies Entry) → StandsFor line c s → (m : Message) (notice : Notice Entry) → CanCome s (Send notice) → HasMessage (notice ∷ s.sent) m
    → StandsFor line (record c { sent = m ∷ c.sent }) (after_event (Send notice) s)
send_notice c s st m notice a h =
    record {
      shape = st.shape;
      members = st.members;
      shard = st.shard;
      copies = st.copies;
      view = st.view;
      of_members = st.of_members;
      peers = st.peers;
      front = st.front;
      waiting = st.waiting;
      sent = sent_now s.sent notice c.sent m h st.sent;
      faithful = after_right s st.faithful (Send notice) a;
      views = st.views;
      lines = lines_after s c.waits st.faithful st.lines (Send notice) a tt;
      begun = st.begun;
      begun_at = st.begun_at;
      told = tells_after view_after st.begun st.begun_at s st.faithful st.told (Send notice) a tt;
    }

-- these messages were sent, and nothing else changed
pub record HaveTold (line : Entry → Option ℕ) (c : CoreCopies) (s : Copies Entry) (ms : List Message) : Type 0 where
  pub events : List (CopyEvent Entry)
  pub allowed : CanComeAll s events
  pub view : (after_events s events).view ≡ s.view
  pub log : (after_events s events).log ≡ s.log
  pub peers : (after_events s events).peers ≡ s.peers
  pub stands : StandsFor line (record c { sent = ms ++ c.sent }) (after_events s events)

tell_one : {line : Entry → Option ℕ} (c : CoreCopies) (s : Copies Entry) → StandsFor line c s → (m : Message) → MayTell s.view s.log s.peers m → HaveTold line c s (m ∷ [])
tell_one {line = line} c s st (message.Copy shard to view number entry) h =
    let notice : Notice Entry = EntryNotice to view (number - 1) h.2.0 in
    let a : CanCome s (Send notice) = (h.1, h.2.2) in
    record {
      events = Send notice ∷ [];
      allowed = (a, tt);
      view = refl;
      log = refl;
      peers = refl;
      stands = send_notice c s st (message.Copy shard to view number entry) notice a (h.0, (h.2.0, h.2.1, inl refl));
    }
tell_one {line = line} c s st (message.Have shard from to view sealed) h =
    let notice : Notice Entry = SealedNotice from view sealed in
    record {
      events = Send notice ∷ [];
      allowed = (h, tt);
      view = refl;
      log = refl;
      peers = refl;
      stands = send_notice c s st (message.Have shard from to view sealed) notice h (inl refl);
    }
tell_one {line = line} c s st (message.Round from to epoch round total deltas) h =
    record {
      events = [];
      allowed = tt;
      view = refl;
      log = refl;
      peers = refl;
      stands = record {
        shape = st.shape;
        members = st.members;
        shard = st.shard;
        copies = st.copies;
        view = st.view;
        of_members = st.of_members;
        peers = st.peers;
        front = st.front;
        waiting = st.waiting;
        sent = of_round;
        faithful = st.faithful;
        views = st.views;
        lines = st.lines;
        begun = st.begun;
        begun_at = st.begun_at;
        told = st.told;
      };
    }
  where
    of_round : (n : Message) → IsAmong n (message.Round from to epoch round total deltas ∷ c.sent) → HasMessage s.sent n
    of_round n (inl e) = rw e tt
    of_round n (inr k) = st.sent n k

pub tell_all : {line : Entry → Option ℕ} (c : CoreCopies) (s : Copies Entry) → StandsFor line c s → (ms : List Message) → Each (MayTell s.view s.log s.peers) ms → HaveTold line c s ms
tell_all {line = line} c s st [] h = record { events = []; allowed = tt; view = refl; log = refl; peers = refl; stands = st }
tell_all {line = line} c s st (m ∷ ms) h =
    let rest = tell_all c s st ms h.1 in
    let one = tell_one (record c { sent = ms ++ c.sent }) (after_events s rest.events) rest.stands m (rw (rest.view, rest.log, rest.peers) h.0) in
    record {
      events = rest.events ++ one.events;
      allowed = allowed_append s rest.events one.events rest.allowed one.allowed;
      view = ap (λ t. t.view) (after_append s rest.events one.events) ∙ one.view ∙ rest.view;
      log = ap (λ t. t.log) (after_append s rest.events one.events) ∙ one.log ∙ rest.log;
      peers = ap (λ t. t.peers) (after_append s rest.events one.events) ∙ one.peers ∙ rest.peers;
      stands = rw (after_append s rest.events one.events) one.stands;
    }

-- one event, and then these messages
pub one_and_tell : {line : Entry → Option ℕ} (c : CoreCopies) (s : Copies Entry) (e : CopyEvent Entry) → CanCome s e → StandsFor line c (after_event e s) → (ms : List Message)
    → Each (MayTell (after_event e s).view (after_event e s).log (after_event e s).peers) ms → Becomes line (record c { sent = ms ++ c.sent }) s e
one_and_tell c s e a st ms h =
    let k = tell_all c (after_event e s) st ms h in
    record { events = e ∷ k.events; allowed = (a, k.allowed); stands = k.stands; first = a; peers = k.peers }

-- ---- the entries that wait

pub drop_cons : {X : Type 0} (n : ℕ) (xs : List X) (x : X) (rest : List X) → drop n xs ≡ x ∷ rest → (slice_get xs n ≡ Some x) × (drop (suc n) xs ≡ rest)
drop_cons zero [] x rest e = absurd (cc e)
drop_cons (suc n) [] x rest e = absurd (cc e)
drop_cons zero (y ∷ ys) x rest e = (cc e, cc e)
drop_cons (suc n) (y ∷ ys) x rest e = drop_cons n ys x rest e

-- an entry with its number is the log's
abbrev pub IsOfLog : List (Item Entry) → ℕ × Entry → Type 0
IsOfLog log e = (1 ≤ e.0) × ((x : Item Entry) × (x.what ≡ e.1) × (slice_get log (e.0 - 1) ≡ Some x))

pub waiting_of_log : (log : List (Item Entry)) (n : ℕ) (ws : List Entry) → ws ≡ map (λ x. x.what) (drop n log) → Each (IsOfLog log) (enumerate_from (n + 1) ws)
waiting_of_log log n [] e = tt
waiting_of_log log n (w ∷ ws) e = go (drop n log) refl (λ f. waiting_of_log log (n + 1) ws f)
  where
    go : (rest : List (Item Entry)) → drop n log ≡ rest
        → (ws ≡ map (λ x. x.what) (drop (n + 1) log) → Each (IsOfLog log) (enumerate_from (n + 1 + 1) ws)) → Each (IsOfLog log) (enumerate_from (n + 1) (w ∷ ws))
    go [] f h = let wrong : w ∷ ws ≡ [] = rw f at e in absurd (cc wrong)
    go (x ∷ rest) f h =
        let k = drop_cons n log x rest f in
        let same : w ∷ ws ≡ x.what ∷ map (λ x. x.what) rest = rw f at e in
        let first : x.what ≡ w = cc same in
        let others : ws ≡ map (λ x. x.what) rest = cc same in
        let place : n + 1 - 1 ≡ n = omega arith in
        let next : n + 1 ≡ suc n = omega arith in
        ((omega arith, (x, first, rw place k.0)), h (rw (next, k.1) others))

pub copies_may : (group : Group) (now : ℕ) (log : List (Item Entry)) (peers : ℕ → PeerCopy Entry) → group.view ≡ now
    → Each (IsOfLog log) (enumerate_from (group.front + 1) group.waiting) → (peer above : ℕ) → Each (MayTell now log peers) (copies_above peer above group)
copies_may group now log peers v all peer above =
    each_map_of (IsOfLog log) (MayTell now log peers) (λ e. message.Copy group.shard peer group.view e.0 e.1) (entries_above above group)
    (λ e k. (k.0, v, k.1))
    (each_drop (IsOfLog log) (above - group.front) (enumerate_from (group.front + 1) group.waiting) all)
