-- Changes beside what is told, and beside the sizes that stay.
use Rattle.std.proofs.Common.{◌≡◌, ◌∙◌, ℕ, ◌+◌, Bool, true, false, cond, List, [], ◌∷◌, length, refl}
use Rattle.std.specs.BTreeMap.{insert_entry}
use Rattle.std.specs.Ordering.{nat_cmp}
use Rattle.hs_core_words.specs.Changing.{change_group, change_pool, post, set_catalogue, set_viewed}
use Rattle.hs_core_words.specs.Looking.{group_of, shape_of}
use Rattle.hs_core_words.specs.State.{Core}
use Rattle.hs_fold.proofs.Shards.PlaceLemmas.{length-set}
use Rattle.hs_post.specs.declared.message.Message.{Message}
use Rattle.hs_post.specs.Pool.{Pool, is_full, send}
use Rattle.hs_replica.specs.Group.{Group, send_all}
use Rattle.hs_shard.specs.Facts.{Catalogue}

pub record Aside (a b : Core) : Type 0 where
  pub limits : b.limits ≡ a.limits
  pub shape : shape_of b ≡ shape_of a
  pub groups : length b.groups ≡ length a.groups
  pub peers : length b.members.statuses ≡ length a.members.statuses
  pub pool : b.pool.limit ≡ a.pool.limit
  pub line : b.progress.event_line ≡ a.progress.event_line
  pub operations : b.operations ≡ a.operations
  pub journal : b.journal ≡ a.journal
  pub refused : b.refused ≡ a.refused
  pub entries : b.entries ≡ a.entries

-- ---- how they are joined

pub aside_both : (a b c : Core) → Aside a b → Aside b c → Aside a c
aside_both a b c p q = record {
  limits = q.limits ∙ p.limits;
  shape = q.shape ∙ p.shape;
  groups = q.groups ∙ p.groups;
  peers = q.peers ∙ p.peers;
  pool = q.pool ∙ p.pool;
  line = q.line ∙ p.line;
  operations = q.operations ∙ p.operations;
  journal = q.journal ∙ p.journal;
  refused = q.refused ∙ p.refused;
  entries = q.entries ∙ p.entries;
}

-- ---- single changes

pub aside_group : (shard : ℕ) (f : Group → Group) (c : Core) → Aside c (change_group shard f c)
aside_group shard f c = record {
  limits = refl;
  shape = refl;
  groups = length-set c.groups shard (f (group_of shard c));
  peers = refl;
  pool = refl;
  line = refl;
  operations = refl;
  journal = refl;
  refused = refl;
  entries = refl;
}

pub aside_catalogue : (shard : ℕ) (x : Catalogue) (c : Core) → Aside c (set_catalogue shard x c)
aside_catalogue shard x c = record { limits = refl; shape = refl; groups = refl; peers = refl; pool = refl; line = refl; operations = refl; journal = refl; refused = refl; entries = refl }

pub aside_viewed : (shard : ℕ) (x : Bool) (c : Core) → Aside c (set_viewed shard x c)
aside_viewed shard x c = record { limits = refl; shape = refl; groups = refl; peers = refl; pool = refl; line = refl; operations = refl; journal = refl; refused = refl; entries = refl }

-- another pool of the same limit
pub aside_pool : (f : Pool → Pool) (c : Core) → (f c.pool).limit ≡ c.pool.limit → Aside c (change_pool f c)
aside_pool f c e = record { limits = refl; shape = refl; groups = refl; peers = refl; pool = e; line = refl; operations = refl; journal = refl; refused = refl; entries = refl }

send_limit : (m : Message) (pool : Pool) → (send m pool).limit ≡ pool.limit
send_limit m pool = go (is_full pool)
  where
    go : (b : Bool) → (cond b pool (record pool { messages = insert_entry nat_cmp pool.messages pool.next m; next = pool.next + 1 })).limit ≡ pool.limit
    go true = refl
    go false = refl

pub all_limit : (ms : List Message) (pool : Pool) → (send_all ms pool).limit ≡ pool.limit
all_limit [] pool = refl
all_limit (m ∷ ms) pool = all_limit ms (send m pool) ∙ send_limit m pool

pub aside_post : (ms : List Message) (c : Core) → Aside c (post ms c)
aside_post ms c = aside_pool (send_all ms) c (all_limit ms c.pool)
