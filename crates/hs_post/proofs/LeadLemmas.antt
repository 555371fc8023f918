-- For whom a message is, lead by lead.
use Rattle.std.proofs.Common.{◌≡◌, ◌≢◌, ℕ, ◌+◌, ◌<◌, ◌≤◌, Bool, true, false, ◌&&◌, ◌||◌, List, [], length, take, get_or, Option, Some, None, ap, sym, ◌∙◌, arith, refl, subst, ◌⊎◌, inl, inr}
use Rattle.std.proofs.lemmas.Bool.{cases_order, eq-eqb, ne_eqb}
use Rattle.std.proofs.lemmas.List.{get_or-take, get_or_past, length-take}
use Rattle.std.specs.BTreeMap.{is_at}
use Rattle.std.specs.Ordering.{nat_cmp}
use Rattle.std.specs.Option.{option_eq, option_map_or}
use Rattle.std.specs.Prelude.{◌==◌, nat_eq}
use Rattle.hs_post.specs.First.{IsFirst, earlier}
use Rattle.hs_post.specs.Inboxes.{Inboxes, AreOf, has, is_for_shard, is_lead, is_round}
use Rattle.hs_post.specs.Pool.{Pool, IsPool, drop_for, is_due, is_for, is_for_peer, message_at, oldest_for, without}
use Rattle.hs_post.specs.declared.message.Message.{Message}
use Rattle.hs_post.specs.declared.message.Message.TheVariants.{Copy, Have, Round}
use Rattle.hs_post.proofs.FirstLemmas.{first_alike, first_is_one, first_of_two}
use Rattle.hs_post.proofs.OrderLemmas.{all_stay, fewer, first_found, gone_already, some_where}

-- where no shard has a lead, only Copies and Haves are for a peer
for_peer_alone : (peer : ℕ) (m : Message) → is_for peer [] m ≡ is_for_peer peer m
for_peer_alone peer (Copy shard to view number entry) = refl
for_peer_alone peer (Have shard from to view sealed) = refl
for_peer_alone peer (Round from to epoch round total deltas) = refl

neither : (x y : Bool) → x ≡ (x || y && false)
neither true y = refl
neither false true = refl
neither false false = refl

this_one : (y : Bool) → y ≡ (false || y && true)
this_one true = refl
this_one false = refl

-- the lead of a shard, among some leads and the next
lead_among : (leads : List (Option ℕ)) (i to peer : ℕ) → is_lead peer (get_or (take (i + 1) leads) to None)
    ≡ (is_lead peer (get_or (take i leads) to None) || is_lead peer (get_or leads i None) && to == i)
lead_among leads i to peer = go (cases_order to i)
  where
    go : (to ≡ i) ⊎ ((to < i) ⊎ (i < to)) → is_lead peer (get_or (take (i + 1) leads) to None)
        ≡ (is_lead peer (get_or (take i leads) to None) || is_lead peer (get_or leads i None) && to == i)
    go (inl at) =
        let next : get_or (take (i + 1) leads) to None ≡ get_or leads i None = get_or-take (i + 1) leads to None (omega arith) ∙ ap (λ j. get_or leads j None) at in
        let past : get_or (take i leads) to None ≡ None = get_or_past (take i leads) to None (omega (arith, length-take i leads)) in
        let own : (to == i) ≡ true = eq-eqb to i at in
        rw (next, past, own) (this_one (is_lead peer (get_or leads i None)))
    go (inr (inl below)) =
        let next : get_or (take (i + 1) leads) to None ≡ get_or leads to None = get_or-take (i + 1) leads to None (omega arith) in
        let before : get_or (take i leads) to None ≡ get_or leads to None = get_or-take i leads to None below in
        let other : (to == i) ≡ false = ne_eqb to i (λ e. omega arith) in
        rw (next, before, other) (neither (is_lead peer (get_or leads to None)) (is_lead peer (get_or leads i None)))
    go (inr (inr above)) =
        let next : get_or (take (i + 1) leads) to None ≡ None = get_or_past (take (i + 1) leads) to None (omega (arith, length-take (i + 1) leads)) in
        let before : get_or (take i leads) to None ≡ None = get_or_past (take i leads) to None (omega (arith, length-take i leads)) in
        let other : (to == i) ≡ false = ne_eqb to i (λ e. omega arith) in
        rw (next, before, other) (neither false (is_lead peer (get_or leads i None)))

-- a message is for a peer by some leads and the next
pub for_peer_by_next : (peer : ℕ) (leads : List (Option ℕ)) (i : ℕ) (m : Message) → is_for peer (take (i + 1) leads) m ≡ (is_for peer (take i leads) m || is_lead peer (get_or leads i None) && is_for_shard i m)
for_peer_by_next peer leads i (Copy shard to view number entry) = neither (to == peer) (is_lead peer (get_or leads i None))
for_peer_by_next peer leads i (Have shard from to view sealed) = neither (to == peer) (is_lead peer (get_or leads i None))
for_peer_by_next peer leads i (Round from to epoch round total deltas) = lead_among leads i to peer

by_peer : (peer : ℕ) (o : Option Message) → option_map_or (is_for peer []) o false ≡ option_map_or (is_for_peer peer) o false
by_peer peer None = refl
by_peer peer (Some m) = for_peer_alone peer m

-- the oldest Copy or Have for a peer, from its inbox
pub oldest_of_peer : (inboxes : Inboxes) (pool : Pool) (peer : ℕ) (first : Option ℕ) → AreOf inboxes pool → IsFirst (has inboxes.peers peer) first → IsFirst (is_due peer [] pool) first
oldest_of_peer inboxes pool peer first fits h =
    first_alike (has inboxes.peers peer) (is_due peer [] pool) first (λ n. by_peer peer (message_at n pool) ∙ sym (fits.peers peer n)) h

due_by_next : (peer : ℕ) (leads : List (Option ℕ)) (i : ℕ) (o : Option Message) → option_map_or (is_for peer (take (i + 1) leads)) o false
    ≡ (option_map_or (is_for peer (take i leads)) o false || is_lead peer (get_or leads i None) && option_map_or (is_for_shard i) o false)
due_by_next peer leads i None = neither false (is_lead peer (get_or leads i None))
due_by_next peer leads i (Some m) = for_peer_by_next peer leads i m

-- the oldest by some leads, and the oldest Round by the next
pub oldest_by_next : (pool : Pool) (peer : ℕ) (leads : List (Option ℕ)) (i : ℕ) (first round : Option ℕ) → IsFirst (is_due peer (take i leads) pool) first
    → IsFirst (λ n. is_lead peer (get_or leads i None) && is_round i pool n) round → IsFirst (is_due peer (take (i + 1) leads) pool) (earlier first round)
oldest_by_next pool peer leads i first round h r =
    let next : ℕ → Bool = λ n. is_lead peer (get_or leads i None) && is_round i pool n in
    first_alike (λ n. is_due peer (take i leads) pool n || next n) (is_due peer (take (i + 1) leads) pool) (earlier first round)
    (λ n. due_by_next peer leads i (message_at n pool))
    (first_of_two (is_due peer (take i leads) pool) next first round h r)

-- the oldest Round for a shard whose lead is this peer, from its inbox
pub oldest_of_lead : (inboxes : Inboxes) (pool : Pool) (peer : ℕ) (lead : Option ℕ) (shard : ℕ) (first : Option ℕ) → AreOf inboxes pool → option_eq nat_eq lead (Some peer) ≡ true
    → IsFirst (has inboxes.shards shard) first → IsFirst (λ n. is_lead peer lead && is_round shard pool n) first
oldest_of_lead inboxes pool peer None shard first fits e h = cc
oldest_of_lead inboxes pool peer (Some l) shard first fits e h =
    first_alike (has inboxes.shards shard) (λ n. is_lead peer (Some l) && is_round shard pool n) first (λ n. rw e (sym (fits.shards shard n))) h

-- the oldest is the one that `oldest_for` finds
pub oldest_is_found : (pool : Pool) (peer : ℕ) (leads : List (Option ℕ)) (first : Option ℕ) → IsPool pool → IsFirst (is_due peer leads pool) first → first ≡ oldest_for peer leads pool
oldest_is_found pool peer leads first valid h = first_is_one (is_due peer leads pool) first (oldest_for peer leads pool) h (first_found (is_for peer leads) pool.messages valid.ordered)

-- without the oldest Copy or Have for a peer, the others are the same
pub drop_others : (pool : Pool) (peer number : ℕ) → is_due peer [] pool number ≡ true → drop_for peer (without number pool) ≡ drop_for peer pool
drop_others pool peer number due =
    ap (λ es. record pool { messages = es }) (gone_already (is_for_peer peer) pool.messages number (sym (by_peer peer (message_at number pool)) ∙ due))

-- and there are fewer
pub fewer_left : (pool : Pool) (peer number : ℕ) → is_due peer [] pool number ≡ true → length (without number pool).messages < length pool.messages
fewer_left pool peer number due = fewer (is_at (nat_cmp number)) pool.messages (some_where (is_for peer []) (message_at number pool) due)

-- where there is none, the pool stays
pub drop_none : (pool : Pool) (peer : ℕ) → IsPool pool → ((n : ℕ) → is_due peer [] pool n ≡ false) → drop_for peer pool ≡ pool
drop_none pool peer valid none =
    ap (λ es. record pool { messages = es }) (all_stay (is_for_peer peer) pool.messages valid.ordered (λ n. sym (by_peer peer (message_at n pool)) ∙ none n))
