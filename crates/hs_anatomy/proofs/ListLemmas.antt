-- Acts beside all that is answered leave of each list what waits in it, and how many of its entries took effect.
use Rattle.std.proofs.Common.{◌+◌, ◌≡◌, ◌∙◌, ℕ, zero, suc, Bool, true, false, cond, List, [], ◌∷◌, Option, Some, None, refl}
use Rattle.std.specs.Prelude.{max, slice_index_or, slice_set}
use Rattle.hs_core_words.specs.Operating.{add_read}
use Rattle.hs_anatomy.specs.Acts.{Aside, Copies, Empties, Hears, Loses, Repeats, Reports, Resends, Seals, Starts, Takes, Views, without_job}
use Rattle.hs_anatomy.specs.Strokes.{BeginsAgain, Besides, Follows, Leaves, Proposes, Reads, SendsAgain, Still, TurnsGood}
use Rattle.hs_awaiting.specs.Words.{change_with, each}
use Rattle.hs_core_words.specs.Asking.{send_round}
use Rattle.hs_core_words.specs.Changing.{add_entry_tasks, change_group, change_pool, change_rejoin, post}
use Rattle.hs_core_words.specs.declared.event.Event.{Event}
use Rattle.hs_core_words.specs.Effects.{round_messages}
use Rattle.hs_core_words.specs.Joining.{begin_joining, follow_lead, joining_peers}
use Rattle.hs_core_words.specs.Looking.{catalogue_of, front_of, group_of, home, lead_of, shape_of}
use Rattle.hs_core_words.specs.State.{Core}
use Rattle.hs_post.specs.Pool.{without}
use Rattle.hs_rejoin.specs.Rejoin.{copied, emptied, follow}
use Rattle.hs_rounds.specs.Rounds.{sent_back}
use Rattle.hs_shard.specs.Rounds.{messages}
use Rattle.hs_replica.specs.declared.replica.Replica.{Replica}
use Rattle.hs_replica.specs.Group.{Group, change_copy, have, hears, last_number, lead, lead_takes, new_group, on_copied, on_emptied, on_have, on_sealed, proposal, propose, take_entry}

-- the entries that wait in each list, and the number of the last that took effect, are the same
pub record HasSameLists (a b : Core) : Type 0 where
  pub shape : shape_of b ≡ shape_of a
  pub waiting : (g : ℕ) → (group_of g b).waiting ≡ (group_of g a).waiting
  pub front : (g : ℕ) → front_of g b ≡ front_of g a

pub lists_same : (c : Core) → HasSameLists c c
lists_same c = record { shape = refl; waiting = λ g. refl; front = λ g. refl }

pub lists_both : (a b c : Core) → HasSameLists a b → HasSameLists b c → HasSameLists a c
lists_both a b c p q = record { shape = q.shape ∙ p.shape; waiting = λ g. q.waiting g ∙ p.waiting g; front = λ g. q.front g ∙ p.front g }

-- one list changes, but for this of it
set_same : {A X : Type 0} (of : A → X) (xs : List A) (k g : ℕ) (v none other : A) → of v ≡ of (slice_index_or xs k none) → of (slice_index_or (slice_set xs k v) g other) ≡ of (slice_index_or xs g other)
set_same of [] k g v none other same = refl
set_same of (x ∷ xs) zero zero v none other same = same
set_same of (x ∷ xs) zero (suc g) v none other same = refl
set_same of (x ∷ xs) (suc k) zero v none other same = refl
set_same of (x ∷ xs) (suc k) (suc g) v none other same = set_same of xs k g v none other same

pub lists_group : (shard : ℕ) (f : Group → Group) (c : Core) → (f (group_of shard c)).waiting ≡ (group_of shard c).waiting → (f (group_of shard c)).front ≡ (group_of shard c).front → HasSameLists c (change_group shard f c)
lists_group shard f c waits front = record {
  shape = refl;
  waiting = λ g. set_same (λ (x : Group). x.waiting) c.groups shard g (f (group_of shard c)) (new_group (shape_of c) shard 0 0 []) (new_group (shape_of c) g 0 0 []) waits;
  front = λ g. set_same (λ (x : Group). x.front) c.groups shard g (f (group_of shard c)) (new_group (shape_of c) shard 0 0 []) (new_group (shape_of c) g 0 0 []) front;
}

pub lists_with : {B : Type 0} (o : Option B) (f : B → Core → Core) (c : Core) → ((y : B) (x : Core) → HasSameLists x (f y x)) → HasSameLists c (change_with o f c)
lists_with None f c h = lists_same c
lists_with (Some y) f c h = h y c

pub lists_each : {B : Type 0} (ys : List B) (f : B → Core → Core) (c : Core) → ((y : B) (x : Core) → HasSameLists x (f y x)) → HasSameLists c (each ys f c)
lists_each [] f c h = lists_same c
lists_each (y ∷ ys) f c h = lists_both c (f y c) (each ys f (f y c)) (h y c) (lists_each ys f (f y c) h)

pub lists_joining : (peers : List ℕ) (c : Core) → HasSameLists c (each peers begin_joining c)
lists_joining peers c = lists_each peers begin_joining c (λ peer x. record { shape = refl; waiting = λ g. refl; front = λ g. refl })

pub lists_follow : (shard : ℕ) (c : Core) → HasSameLists c (follow_lead shard c)
lists_follow shard c =
    lists_with (lead_of shard c) (λ lead x. each (joining_peers shard x) (λ peer. change_rejoin peer (follow lead)) x) c
    (λ lead x. lists_each (joining_peers shard x) (λ peer. change_rejoin peer (follow lead)) x (λ peer y. record { shape = refl; waiting = λ g. refl; front = λ g. refl }))

pub lists_round : (back shard : ℕ) (c : Core) → HasSameLists c (send_round back shard c)
lists_round back shard c =
    let run = (catalogue_of shard c).run in
    lists_with (sent_back back run) (λ sent. post (round_messages shard (messages (catalogue_of shard c).shape.shards sent.0 sent.1 run))) c (λ sent x. record { shape = refl; waiting = λ g. refl; front = λ g. refl })

heard : {X : Type 0} (of : Group → X) (from view sealed : ℕ) (group : Group) → of (change_copy from (λ (copy : Replica). record copy { known = max copy.known sealed }) group) ≡ of group → of (on_have from view sealed group) ≡ of group
heard of from view sealed group same = go (hears from view group)
  where
    go : (b : Bool) → of (cond b (change_copy from (λ (copy : Replica). record copy { known = max copy.known sealed }) group) group) ≡ of group
    go true = same
    go false = refl

pub lists_aside : {s : Core} {e : Option Event} {a : Core} {b : Core} → Aside s e a b → HasSameLists a b
lists_aside (Reports peer d known) = record { shape = refl; waiting = λ g. refl; front = λ g. refl }
lists_aside {a = a} (Seals peer number known) =
    let one : Core = without_job peer a in
    let l = lists_group (home peer a) (on_sealed peer number) (post (have peer number (group_of (home peer one) one)) one) refl refl in
    record { shape = l.shape; waiting = l.waiting; front = l.front }
lists_aside {a = a} (Empties peer known) =
    let l = lists_group (home peer a) (on_emptied peer) (change_rejoin peer emptied (without_job peer a)) refl refl in
    record { shape = l.shape; waiting = l.waiting; front = l.front }
lists_aside {a = a} (Copies peer number known) =
    let l = lists_group (home peer a) (on_copied peer number) (change_rejoin peer (copied number) (without_job peer a)) refl refl in
    record { shape = l.shape; waiting = l.waiting; front = l.front }
lists_aside (Loses number m at) = record { shape = refl; waiting = λ g. refl; front = λ g. refl }
lists_aside {a = a} {b = b} (Takes number shard to view next entry known fits) =
    let gone : Core = change_pool (without number) a in
    let taken : Core = change_group shard (take_entry to entry) gone in
    let asked : Core = add_entry_tasks to next entry taken in
    let l = lists_group shard (take_entry to entry) gone refl refl in
    lists_both a asked b (record { shape = l.shape; waiting = l.waiting; front = l.front }) (lists_follow shard asked)
lists_aside {a = a} (Hears number shard from to view sealed known good) =
    let gone : Core = change_pool (without number) a in
    let l = lists_group shard (on_have from view sealed) gone (heard (λ (x : Group). x.waiting) from view sealed (group_of shard gone) refl) (heard (λ (x : Group). x.front) from view sealed (group_of shard gone) refl) in
    record { shape = l.shape; waiting = l.waiting; front = l.front }
lists_aside (Repeats number m at room) = record { shape = refl; waiting = λ g. refl; front = λ g. refl }
lists_aside (Resends shard peer known) = record { shape = refl; waiting = λ g. refl; front = λ g. refl }
lists_aside (Starts line peer start known may) = record { shape = refl; waiting = λ g. refl; front = λ g. refl }
lists_aside (Views shard) = record { shape = refl; waiting = λ g. refl; front = λ g. refl }

-- ---- how many of its entries took effect

fronts_with : {B : Type 0} (o : Option B) (f : B → Core → Core) (c : Core) (g : ℕ) → ((y : B) (x : Core) → front_of g (f y x) ≡ front_of g x) → front_of g (change_with o f c) ≡ front_of g c
fronts_with None f c g h = refl
fronts_with (Some y) f c g h = h y c

-- a stroke that is still changes nothing of it
pub fronts_still : {s : Core} {e : Option Event} {a : Core} {b : Core} → Still s e a b → (g : ℕ) → front_of g b ≡ front_of g a
fronts_still (Besides x) g = (lists_aside x).front g
fronts_still {a = a} (Proposes shard entry by) g =
    fronts_with (lead_of shard a) (λ peer. add_entry_tasks peer (last_number (group_of shard a) + 1) entry) (post (proposal entry (group_of shard a)) (change_group shard (propose entry) a)) g (λ peer x. refl)
    ∙ set_same (λ (x : Group). x.front) a.groups shard g (propose entry (group_of shard a)) (new_group (shape_of a) shard 0 0 []) (new_group (shape_of a) g 0 0 []) (led (lead (group_of shard a)))
  where
    led : (l : Option ℕ) → (lead_takes l entry (group_of shard a)).front ≡ (group_of shard a).front
    led None = refl
    led (Some l) = refl
fronts_still {a = a} (Reads line number w at waits) g = fronts_with (lead_of w.shard a) (add_read number line) a g (λ peer x. refl)
fronts_still {a = a} (SendsAgain back shard peer known) g = (lists_round back shard a).front g
fronts_still (Leaves peer known) g = refl
fronts_still (TurnsGood peer) g = refl
fronts_still {a = a} (BeginsAgain shard) g = (lists_joining (joining_peers shard a) a).front g
fronts_still {a = a} (Follows shard) g = (lists_follow shard a).front g
