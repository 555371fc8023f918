-- How a core of one copy a shard goes on within an event: entries are proposed with their jobs, and handed out.
use Rattle.std.proofs.Common.{◌≡◌, ◌≢◌, ◌∙◌, ap, sym, subst, inl, inr, ℕ, suc, ◌+◌, ◌<◌, true, false, List, [], ◌∷◌, ◌++◌, refl, arith, length}
use Rattle.std.proofs.lemmas.Bool.{cases_eq}
use Rattle.std.proofs.lemmas.List.{append-nil, append_assoc, get_or-set_other, get_or-set_same, length-append, length-set}
use Rattle.std.proofs.lemmas.List.Concat.{flat_map-append}
use Rattle.std.proofs.lemmas.List.Elements.{All-append, All-nil}
use Rattle.std.specs.List.{All, enumerate_from, flat_map}
use Rattle.std.specs.Map.{values_of}
use Rattle.std.specs.Prelude.{slice_index_or, slice_set}
use Rattle.hs_core_words.specs.declared.task.Task.{Task}
use Rattle.hs_entry.specs.declared.entry.Entry.{Entry}
use Rattle.hs_entry.specs.Entries.{is_of_base}
use Rattle.hs_members.specs.Members.{Members}
use Rattle.hs_post.specs.Pool.{Pool}
use Rattle.hs_replica.specs.Group.{Group, last_number, new_group}
use Rattle.hs_events.specs.Alone.{AreAlone, Face, IsAlone, Queued, entry_for, group_in, is_round, own, tasks_for, tasks_in}

pub enumerate_append : {X : Type 0} (n : ℕ) (xs ys : List X) → enumerate_from n (xs ++ ys) ≡ enumerate_from n xs ++ enumerate_from (n + length xs) ys
enumerate_append n [] ys = let e : n ≡ n + 0 = omega arith in ap (λ k. enumerate_from k ys) e
enumerate_append n (x ∷ xs) ys =
    let e : n + 1 + length xs ≡ n + suc (length xs) = omega arith in
    ap (λ zs. (n, x) ∷ zs) (enumerate_append (n + 1) xs ys ∙ ap (λ k. enumerate_from (n + 1) xs ++ enumerate_from k ys) e)

-- ---- one shard

-- these were handed out, and these are proposed: the new jobs are theirs, and Reads
pub record Goes (group group' : Group) (ts ts' : List Task) : Type 0 where
  pub handed : List Entry
  pub more : List Entry
  pub queue : List Queued
  pub waits : handed ++ group'.waiting ≡ group.waiting ++ more
  pub front : group'.front ≡ group.front + length handed
  pub sealed : (own group').sealed ≡ (own group).sealed
  pub plain : All (λ entry. is_of_base entry ≡ false) more
  pub jobs : ts' ≡ ts ++ flat_map tasks_for queue
  pub entries : flat_map entry_for queue ≡ enumerate_from (last_number group + 1) more

pub goes_same : (group : Group) (ts : List Task) → Goes group group ts ts
goes_same group ts = record {
  handed = [];
  more = [];
  queue = [];
  waits = sym (append-nil group.waiting);
  front = omega arith;
  sealed = refl;
  plain = All-nil (λ entry. is_of_base entry ≡ false);
  jobs = sym (append-nil ts);
  entries = refl;
}

-- the last number is what it was, and as many more
pub last_goes : (group group' : Group) (ts ts' : List Task) (a : Goes group group' ts ts') → last_number group' ≡ last_number group + length a.more
last_goes group group' ts ts' a =
    let n = ap length a.waits in
    let l = length-append a.handed group'.waiting in
    let r = length-append group.waiting a.more in
    let f = a.front in
    omega (arith, n, l, r, f)

pub goes_both : (g0 g1 g2 : Group) (t0 t1 t2 : List Task) → Goes g0 g1 t0 t1 → Goes g1 g2 t1 t2 → Goes g0 g2 t0 t2
goes_both g0 g1 g2 t0 t1 t2 a b =
    let last : last_number g1 + 1 ≡ last_number g0 + 1 + length a.more = let e = last_goes g0 g1 t0 t1 a in omega (arith, e) in
    record {
      handed = a.handed ++ b.handed;
      more = a.more ++ b.more;
      queue = a.queue ++ b.queue;
      waits = append_assoc a.handed b.handed g2.waiting ∙ ap (λ ws. a.handed ++ ws) b.waits ∙ sym (append_assoc a.handed g1.waiting b.more) ∙ ap (λ ws. ws ++ b.more) a.waits ∙ append_assoc g0.waiting a.more b.more;
      front = let l = length-append a.handed b.handed in let one = a.front in let two = b.front in omega (arith, l, one, two);
      sealed = b.sealed ∙ a.sealed;
      plain = All-append (λ entry. is_of_base entry ≡ false) a.more b.more a.plain b.plain;
      jobs = b.jobs ∙ ap (λ ts. ts ++ flat_map tasks_for b.queue) a.jobs ∙ append_assoc t0 (flat_map tasks_for a.queue) (flat_map tasks_for b.queue) ∙ ap (λ ts. t0 ++ ts) (sym (flat_map-append tasks_for a.queue b.queue));
      entries = flat_map-append entry_for a.queue b.queue ∙ ap (λ es. es ++ flat_map entry_for b.queue) a.entries
          ∙ ap (λ es. enumerate_from (last_number g0 + 1) a.more ++ es) (b.entries ∙ ap (λ n. enumerate_from n b.more) last)
          ∙ sym (enumerate_append (last_number g0 + 1) a.more b.more);
    }

-- ---- all of them

pub record Moves (f f' : Face) : Type 0 where
  pub alone : AreAlone f'
  pub members : f'.members ≡ f.members
  pub each : (g : ℕ) → g < f.members.shape.shards → Goes (group_in g f) (group_in g f') (tasks_in g f) (tasks_in g f')

pub moves_same : (f : Face) → AreAlone f → Moves f f
moves_same f h = record { alone = h; members = refl; each = λ g lt. goes_same (group_in g f) (tasks_in g f) }

pub moves_both : (a b c : Face) → Moves a b → Moves b c → Moves a c
moves_both a b c m n = record {
  alone = n.alone;
  members = n.members ∙ m.members;
  each = λ g lt. goes_both (group_in g a) (group_in g b) (group_in g c) (tasks_in g a) (tasks_in g b) (tasks_in g c) (m.each g lt) (n.each g (subst (λ (m : Members). g < m.shape.shards) (sym m.members) lt));
}

-- other messages, all of them Rounds
pub moves_pool : (f : Face) (pool : Pool) → AreAlone f → All (λ m. is_round m ≡ true) (values_of pool.messages) → Moves f (record f { pool = pool })
moves_pool f pool h rounds = record {
  alone = record { copies = h.copies; groups = h.groups; tasks = h.tasks; statuses = h.statuses; good = h.good; rounds = rounds; each = h.each };
  members = refl;
  each = λ g lt. goes_same (group_in g f) (tasks_in g f);
}

-- one shard is another one
module _ (f : Face) (s : ℕ) (group : Group) (ts : List Task) (h : AreAlone f) (low : s < f.members.shape.shards) where
  pub here : slice_index_or (slice_set f.groups s group) s (new_group f.members.shape s 0 0 []) ≡ group
  here = get_or-set_same f.groups s group (new_group f.members.shape s 0 0 []) (let n = h.groups in omega (arith, n, low))

  pub jobs_here : slice_index_or (slice_set f.tasks s ts) s [] ≡ ts
  jobs_here = get_or-set_same f.tasks s ts [] (let n = h.tasks in omega (arith, n, low))

  pub there : (g : ℕ) → g ≢ s → slice_index_or (slice_set f.groups s group) g (new_group f.members.shape g 0 0 []) ≡ group_in g f
  there g ne = get_or-set_other f.groups s g group (new_group f.members.shape g 0 0 []) ne

  pub jobs_there : (g : ℕ) → g ≢ s → slice_index_or (slice_set f.tasks s ts) g [] ≡ tasks_in g f
  jobs_there g ne = get_or-set_other f.tasks s g ts [] ne

  pub alone_with : IsAlone f.members.shape s group → AreAlone (record f { groups = slice_set f.groups s group; tasks = slice_set f.tasks s ts })
  alone_with alone = record {
    copies = h.copies;
    groups = length-set f.groups s group ∙ h.groups;
    tasks = length-set f.tasks s ts ∙ h.tasks;
    statuses = h.statuses;
    good = h.good;
    rounds = h.rounds;
    each = λ g lt. elim (cases_eq g s) [
      | inl same ↦ subst (λ k. IsAlone f.members.shape k (slice_index_or (slice_set f.groups s group) k (new_group f.members.shape k 0 0 []))) (sym same) (subst (IsAlone f.members.shape s) (sym here) alone)
      | inr ne ↦ subst (IsAlone f.members.shape g) (sym (there g ne)) (h.each g lt)
    ];
  }

-- it goes on, and the others stay
pub moves_at : (f : Face) (s : ℕ) (group : Group) (ts : List Task) → AreAlone f → s < f.members.shape.shards → IsAlone f.members.shape s group → Goes (group_in s f) group (tasks_in s f) ts
    → Moves f (record f { groups = slice_set f.groups s group; tasks = slice_set f.tasks s ts })
moves_at f s group ts h low alone goes = record { alone = alone_with f s group ts h low alone; members = refl; each = goes_at }
  where
    goes_at : (g : ℕ) → g < f.members.shape.shards → Goes (group_in g f) (slice_index_or (slice_set f.groups s group) g (new_group f.members.shape g 0 0 [])) (tasks_in g f) (slice_index_or (slice_set f.tasks s ts) g [])
    goes_at g lt = elim (cases_eq g s) [
      | inl same ↦ subst (λ k. Goes (group_in k f) (slice_index_or (slice_set f.groups s group) k (new_group f.members.shape k 0 0 [])) (tasks_in k f) (slice_index_or (slice_set f.tasks s ts) k [])) (sym same)
          (subst (λ (t : List Task). Goes (group_in s f) (slice_index_or (slice_set f.groups s group) s (new_group f.members.shape s 0 0 [])) (tasks_in s f) t) (sym (jobs_here f s group ts h low)) (subst (λ (y : Group). Goes (group_in s f) y (tasks_in s f) ts) (sym (here f s group ts h low)) goes))
      | inr ne ↦ subst (λ (t : List Task). Goes (group_in g f) (slice_index_or (slice_set f.groups s group) g (new_group f.members.shape g 0 0 [])) (tasks_in g f) t) (sym (jobs_there f s group ts h low g ne)) (subst (λ (y : Group). Goes (group_in g f) y (tasks_in g f) (tasks_in g f)) (sym (there f s group ts h low g ne)) (goes_same (group_in g f) (tasks_in g f)))
    ]
