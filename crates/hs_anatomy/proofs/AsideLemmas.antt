-- Changes beside all that is answered.
use Rattle.std.proofs.Common.{◌≡◌, ◌∙◌, ℕ, ◌+◌, Bool, true, false, List, [], ◌∷◌, Option, Some, None, refl}
use Rattle.hs_anatomy.specs.Acts.{Aside, Copies, Empties, Hears, Loses, Repeats, Reports, Resends, Seals, Starts, Takes, Views}
use Rattle.hs_anatomy.specs.Kept.{kept_of}
use Rattle.hs_awaiting.specs.Words.{change_if, change_with, each}
use Rattle.hs_core_words.specs.Asking.{send_round}
use Rattle.hs_core_words.specs.Changing.{add_entry_tasks, change_group, change_pool, change_rejoin, post}
use Rattle.hs_core_words.specs.declared.event.Event.{Event}
use Rattle.hs_core_words.specs.Effects.{round_messages}
use Rattle.hs_core_words.specs.Joining.{begin_joining, follow_lead, joining_peers}
use Rattle.hs_core_words.specs.Looking.{catalogue_of, group_of, lead_of}
use Rattle.hs_core_words.specs.Operating.{propose_entry}
use Rattle.hs_core_words.specs.State.{Core}
use Rattle.hs_entry.specs.declared.entry.Entry.{Entry}
use Rattle.hs_post.specs.Pool.{without}
use Rattle.hs_rejoin.specs.Rejoin.{follow}
use Rattle.hs_replica.specs.Group.{last_number, proposal, propose, take_entry}
use Rattle.hs_rounds.specs.Rounds.{sent_back}
use Rattle.hs_shard.specs.Rounds.{messages}

-- ---- how they are joined

pub kept_if : (b : Bool) (f : Core → Core) (c : Core) → ((x : Core) → kept_of (f x) ≡ kept_of x) → kept_of (change_if b f c) ≡ kept_of c
kept_if true f c h = h c
kept_if false f c h = refl

pub kept_with : {B : Type 0} (o : Option B) (f : B → Core → Core) (c : Core) → ((y : B) (x : Core) → kept_of (f y x) ≡ kept_of x) → kept_of (change_with o f c) ≡ kept_of c
kept_with None f c h = refl
kept_with (Some y) f c h = h y c

pub kept_each : {B : Type 0} (ys : List B) (f : B → Core → Core) (c : Core) → ((y : B) (x : Core) → kept_of (f y x) ≡ kept_of x) → kept_of (each ys f c) ≡ kept_of c
kept_each [] f c h = refl
kept_each (y ∷ ys) f c h = kept_each ys f (f y c) h ∙ h y c

-- ---- entries, peers, rounds

pub kept_propose : (shard : ℕ) (entry : Entry) (c : Core) → kept_of (propose_entry shard entry c) ≡ kept_of c
kept_propose shard entry c =
    kept_with (lead_of shard c) (λ peer. add_entry_tasks peer (last_number (group_of shard c) + 1) entry) (post (proposal entry (group_of shard c)) (change_group shard (propose entry) c)) (λ peer x. refl)

pub kept_follow : (shard : ℕ) (c : Core) → kept_of (follow_lead shard c) ≡ kept_of c
kept_follow shard c =
    kept_with (lead_of shard c) (λ lead x. each (joining_peers shard x) (λ peer. change_rejoin peer (follow lead)) x) c
    (λ lead x. kept_each (joining_peers shard x) (λ peer. change_rejoin peer (follow lead)) x (λ peer y. refl))

pub kept_joining : (peers : List ℕ) (c : Core) → kept_of (each peers begin_joining c) ≡ kept_of c
kept_joining peers c = kept_each peers begin_joining c (λ peer x. refl)

pub kept_round : (back shard : ℕ) (c : Core) → kept_of (send_round back shard c) ≡ kept_of c
kept_round back shard c =
    let run = (catalogue_of shard c).run in
    kept_with (sent_back back run) (λ sent. post (round_messages shard (messages (catalogue_of shard c).shape.shards sent.0 sent.1 run))) c (λ sent x. refl)

-- ---- the acts

pub kept_aside : {s : Core} {e : Option Event} {a : Core} {b : Core} → Aside s e a b → kept_of b ≡ kept_of a
kept_aside (Reports peer d known) = refl
kept_aside (Seals peer number known) = refl
kept_aside (Empties peer known) = refl
kept_aside (Copies peer number known) = refl
kept_aside (Loses number m at) = refl
kept_aside {a = a} (Takes number shard to view next entry known fits) = kept_follow shard (add_entry_tasks to next entry (change_group shard (take_entry to entry) (change_pool (without number) a)))
kept_aside (Hears number shard from to view sealed known good) = refl
kept_aside (Repeats number m at room) = refl
kept_aside (Resends shard peer known) = refl
kept_aside (Starts line peer start known may) = refl
kept_aside (Views shard) = refl
