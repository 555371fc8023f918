-- Acts beside all that is answered bring no round that was not under way.
use Rattle.std.proofs.Common.{◌≡◌, ◌∙◌, sym, subst, ℕ, Bool, true, false, cond, map, All, Contains, List, [], ◌∷◌, ◌++◌, Option, Some, None, IfSome, refl}
use Rattle.std.proofs.lemmas.List.Elements.{All-contains_itself, All-weaker}
use Rattle.std.proofs.lemmas.Map.Views.{All-map-remove_entry, All-values-insert_entry, IfSome-lookup_from_All}
use Rattle.std.specs.BTreeMap.{is_at}
use Rattle.std.specs.List.{AllByRecursion, flat_map}
use Rattle.std.specs.Map.{values_of}
use Rattle.std.specs.Option.{option_to_list}
use Rattle.std.specs.Ordering.{nat_cmp}
use Rattle.hs_anatomy.specs.Acts.{Aside, Copies, Empties, Hears, Loses, Repeats, Reports, Resends, Seals, Starts, Takes, Views, without_job}
use Rattle.hs_anatomy.specs.Rounds.{BringsNoRound, is_round}
use Rattle.hs_awaiting.specs.Words.{change_with, each}
use Rattle.hs_core_words.specs.Changing.{add_entry_tasks, change_group, change_pool, change_rejoin}
use Rattle.hs_core_words.specs.declared.event.Event.{Event}
use Rattle.hs_core_words.specs.Joining.{begin_joining, follow_lead, joining_peers}
use Rattle.hs_core_words.specs.Looking.{group_of, home, lead_of}
use Rattle.hs_core_words.specs.State.{Core}
use Rattle.hs_entry.specs.declared.entry.Entry.{Entry}
use Rattle.hs_post.specs.declared.message.Message.{Message}
use Rattle.hs_post.specs.declared.message.Message.TheVariants as message
use Rattle.hs_post.specs.Pool.{Pool, is_full, message_at, send, without}
use Rattle.hs_rejoin.specs.Rejoin.{follow}
use Rattle.hs_replica.specs.declared.replica.Replica.{Replica}
use Rattle.hs_replica.specs.Group.{Group, copies_above, copy_of, entries_above, have, is_peer, lead, others, resend, send_all, take_entry}

-- a round is one of these messages
abbrev IsKnown : List (ℕ × Message) → Message → Type 0
IsKnown es m = is_round m ≡ true → Contains (values_of es) m

pub known_same : (es : List (ℕ × Message)) → All (IsKnown es) (values_of es)
known_same es = All-weaker (Contains (values_of es)) (IsKnown es) (λ m h r. h) (values_of es) (All-contains_itself (values_of es))

-- no message of a list is a round
abbrev AreQuiet : List Message → Type 0
AreQuiet ms = AllByRecursion (λ m. is_round m ≡ false) ms

quiet_map : {X : Type 0} (f : X → Message) → ((x : X) → is_round (f x) ≡ false) → (xs : List X) → AreQuiet (map f xs)
quiet_map f h [] = tt
quiet_map f h (x ∷ xs) = (h x, quiet_map f h xs)

quiet_append : (xs ys : List Message) → AreQuiet xs → AreQuiet ys → AreQuiet (xs ++ ys)
quiet_append [] ys h k = k
quiet_append (x ∷ xs) ys h k = (h.0, quiet_append xs ys h.1 k)

quiet_flat : {X : Type 0} (f : X → List Message) → ((x : X) → AreQuiet (f x)) → (xs : List X) → AreQuiet (flat_map f xs)
quiet_flat f h [] = tt
quiet_flat f h (x ∷ xs) = quiet_append (f x) (flat_map f xs) (h x) (quiet_flat f h xs)

quiet_have : (peer sealed : ℕ) (group : Group) → AreQuiet (have peer sealed group)
quiet_have peer sealed group = go (is_peer peer (lead group))
  where
    go : (b : Bool) → AreQuiet (cond b [] (map (λ l. message.Have group.shard peer l group.view sealed) (option_to_list (lead group))))
    go true = tt
    go false = quiet_map (λ l. message.Have group.shard peer l group.view sealed) (λ l. refl) (option_to_list (lead group))

quiet_resend : (peer : ℕ) (group : Group) → AreQuiet (resend peer group)
quiet_resend peer group = go (is_peer peer (lead group))
  where
    go : (b : Bool) → AreQuiet (cond b (flat_map (λ (x : ℕ × Replica). copies_above x.0 x.1.known group) (others group)) (have peer (copy_of group peer).sealed group))
    go true = quiet_flat (λ (x : ℕ × Replica). copies_above x.0 x.1.known group) (λ x. quiet_map (λ (e : ℕ × Entry). message.Copy group.shard x.0 group.view e.0 e.1) (λ e. refl) (entries_above x.1.known group)) (others group)
    go false = quiet_have peer (copy_of group peer).sealed group

-- they are sent
known_send : (xs : List (ℕ × Message)) (m : Message) (p : Pool) → IsKnown xs m → All (IsKnown xs) (values_of p.messages) → All (IsKnown xs) (values_of (send m p).messages)
known_send xs m p one h = go (is_full p) refl
  where
    go : (b : Bool) → is_full p ≡ b → All (IsKnown xs) (values_of (send m p).messages)
    go true e = rw e h
    go false e = rw e (All-values-insert_entry nat_cmp p.next m (IsKnown xs) p.messages h one)

known_all : (xs : List (ℕ × Message)) (ms : List Message) (p : Pool) → AreQuiet ms → All (IsKnown xs) (values_of p.messages) → All (IsKnown xs) (values_of (send_all ms p).messages)
known_all xs [] p quiet h = h
known_all xs (m ∷ ms) p quiet h = known_all xs ms (send m p) quiet.1 (known_send xs m p (λ r. cc (sym r ∙ quiet.0)) h)

-- a message of a number is under way
under_way : (number : ℕ) (m : Message) (pool : Pool) → message_at number pool ≡ Some m → Contains (values_of pool.messages) m
under_way number m pool at =
    subst (λ (o : Option Message). IfSome o (λ (x : Message). Contains (values_of pool.messages) x)) at
    (IfSome-lookup_from_All (λ (x : Message). Contains (values_of pool.messages) x) (is_at (nat_cmp number)) pool.messages (All-contains_itself (values_of pool.messages)))

gone : (number : ℕ) (c : Core) → BringsNoRound c (change_pool (without number) c)
gone number c = All-map-remove_entry (is_at (nat_cmp number)) (λ e. e.1) (IsKnown c.pool.messages) c.pool.messages (known_same c.pool.messages)

-- a lead is followed
pool_with : {B : Type 0} (o : Option B) (f : B → Core → Core) (c : Core) → ((y : B) (x : Core) → (f y x).pool ≡ x.pool) → (change_with o f c).pool ≡ c.pool
pool_with None f c h = refl
pool_with (Some y) f c h = h y c

pool_each : {B : Type 0} (ys : List B) (f : B → Core → Core) (c : Core) → ((y : B) (x : Core) → (f y x).pool ≡ x.pool) → (each ys f c).pool ≡ c.pool
pool_each [] f c h = refl
pool_each (y ∷ ys) f c h = pool_each ys f (f y c) h ∙ h y c

pub pool_follow : (shard : ℕ) (c : Core) → (follow_lead shard c).pool ≡ c.pool
pool_follow shard c =
    pool_with (lead_of shard c) (λ lead x. each (joining_peers shard x) (λ peer. change_rejoin peer (follow lead)) x) c
    (λ lead x. pool_each (joining_peers shard x) (λ peer. change_rejoin peer (follow lead)) x (λ peer y. refl))

pub pool_joining : (peers : List ℕ) (c : Core) → (each peers begin_joining c).pool ≡ c.pool
pool_joining peers c = pool_each peers begin_joining c (λ peer x. refl)

pub rounds_aside : {s : Core} {e : Option Event} {a : Core} {b : Core} → Aside s e a b → BringsNoRound a b
rounds_aside {a = a} (Reports peer d known) = known_same a.pool.messages
rounds_aside {a = a} (Seals peer number known) =
    let one : Core = without_job peer a in
    known_all a.pool.messages (have peer number (group_of (home peer one) one)) a.pool (quiet_have peer number (group_of (home peer one) one)) (known_same a.pool.messages)
rounds_aside {a = a} (Empties peer known) = known_same a.pool.messages
rounds_aside {a = a} (Copies peer number known) = known_same a.pool.messages
rounds_aside {a = a} (Loses number m at) = gone number a
rounds_aside {a = a} (Takes number shard to view next entry known fits) =
    let one : Core = change_group shard (take_entry to entry) (change_pool (without number) a) in
    subst (λ (p : Pool). All (IsKnown a.pool.messages) (values_of p.messages)) (sym (pool_follow shard (add_entry_tasks to next entry one))) (gone number a)
rounds_aside {a = a} (Hears number shard from to view sealed known good) = gone number a
rounds_aside {a = a} (Repeats number m at room) = known_send a.pool.messages m a.pool (λ r. under_way number m a.pool at) (known_same a.pool.messages)
rounds_aside {a = a} (Resends shard peer known) = known_all a.pool.messages (resend peer (group_of shard a)) a.pool (quiet_resend peer (group_of shard a)) (known_same a.pool.messages)
rounds_aside {a = a} (Starts line peer start known free) = known_same a.pool.messages
rounds_aside {a = a} (Views shard) = known_same a.pool.messages
