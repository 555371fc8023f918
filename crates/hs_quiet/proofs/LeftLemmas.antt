-- What is left where nothing is due any more: no list waits, no peer joins, and no operation is without an answer.
use Rattle.hs_quiet.specs.Settled.{IsLeft}
use Rattle.std.proofs.Common.{◌≡◌, ◌∙◌, ap, sym, refl, arith, ℕ, zero, suc, ◌*◌, ◌<◌, ◌==◌, ◌||◌, not, if◌then◌else◌, Bool, true, false, List, [], ◌∷◌, Some, None, length, nat_lt, slice_get, eqb-true, Equal, is_eq}
use Rattle.std.specs.BTreeMap.{is_at}
use Rattle.std.specs.Cmp.{nat_cmp_is}
use Rattle.std.specs.List.{list_any}
use Rattle.std.specs.Map.{lookup}
use Rattle.std.specs.Option.{option_map}
use Rattle.std.specs.Ordering.{nat_cmp}
use Rattle.std.specs.Prelude.{slice_index_or}
use Rattle.hs_awaiting.specs.declared.wait.Wait.{Wait}
use Rattle.hs_awaiting.specs.declared.wait.Wait.TheVariants as wait
use Rattle.hs_awaiting.specs.declared.waiting.Waiting.{Waiting}
use Rattle.hs_core_words.specs.declared.task.Task.{Task}
use Rattle.hs_core_words.specs.Looking.{copying_step, first_job, first_task, group_of, open_work, operation_of, shape_of, status_of, tasks_of, top_epoch, home, known_of, sealed_of}
use Rattle.hs_core_words.specs.State.{Core}
use Rattle.hs_desk.specs.declared.job.Job.{Job}
use Rattle.hs_effects.specs.Logged.{IsOrderly}
use Rattle.hs_entry.specs.declared.entry.Entry.{Entry}
use Rattle.hs_joint.proofs.HistoryLemmas.{shape_some}
use Rattle.hs_limits.specs.declared.address.Address.{Address}
use Rattle.hs_limits.specs.declared.limits.PeerStatus.TheVariants.{Down, Good, Joining}
use Rattle.hs_limits.specs.Shape.{IsShape}
use Rattle.hs_members.specs.Members.{all_peers, is_joining}
use Rattle.hs_replica.specs.Group.{Group, new_group, last_number}
use Rattle.hs_shard.specs.Facts.{Catalogue}
use Rattle.hs_quiet.specs.Causes.{AreCaused, HasCause, IsToBeRead, asker_of, read_of}
use Rattle.hs_quiet.specs.Keeping.{AreInStep}
use Rattle.hs_quiet.proofs.GoingGoodLemmas.{judged_low}
use Rattle.hs_quiet.proofs.LedLemmas.{any_range}
use Rattle.hs_quiet.proofs.RestedLemmas.{first_none, no_task}
use Rattle.hs_quiet.proofs.StartLemmas.{low_peer, seated_all, knows_here, low_home}

-- ---- no open work

or_none : (a b : Bool) → (a || b) ≡ false → (a ≡ false) × (b ≡ false)
or_none true b e = let wrong : true ≡ false = e in absurd (cc wrong)
or_none false b e = (refl, e)

not_false : (b : Bool) → not b ≡ false → b ≡ true
not_false true e = refl
not_false false e = let wrong : true ≡ false = e in absurd (cc wrong)

none_long : {X : Type 0} (xs : List X) → (length xs == 0) ≡ true → xs ≡ []
none_long [] e = refl
none_long (x ∷ xs) e = let n : suc (length xs) ≡ 0 = eqb-true (suc (length xs)) 0 e in absurd (omega (arith, n))

-- what no one passes the one here does not
any_false : {X : Type 0} (test : X → Bool) (xs : List X) (k : ℕ) (d : X) → list_any test xs ≡ false → k < length xs → test (slice_index_or xs k d) ≡ false
any_false test [] k d e low = absurd (omega (arith, low))
any_false test (x ∷ xs) k d e low = go (test x) refl k low (λ i h f. any_false test xs i d f h)
  where
    go : (b : Bool) → test x ≡ b → (k : ℕ) → k < length (x ∷ xs) → ((i : ℕ) → i < length xs → list_any test xs ≡ false → test (slice_index_or xs i d) ≡ false) → test (slice_index_or (x ∷ xs) k d) ≡ false
    go true t k low again = let wrong : true ≡ false = sym (ap (λ b. b || list_any test xs) t) ∙ e in absurd (cc wrong)
    go false t zero low again = t
    go false t (suc i) low again = again i (omega (arith, low)) (sym (ap (λ b. b || list_any test xs) t) ∙ e)

module _ (c : Core) (all : AreInStep c) (none : open_work c ≡ false) where
  split : ((length c.operations == 0) ≡ true) × ((list_any (λ (g : Group). not (length g.waiting == 0)) c.groups ≡ false) × (list_any (λ p. is_joining (status_of p c)) (all_peers (shape_of c)) ≡ false))
  split =
      let one = or_none (not (length c.operations == 0)) (list_any (λ (g : Group). not (length g.waiting == 0)) c.groups || (list_any (λ (x : Catalogue). nat_lt x.swept (top_epoch c)) c.catalogues || list_any (λ p. is_joining (status_of p c)) (all_peers (shape_of c)))) none in
      let two = or_none (list_any (λ (g : Group). not (length g.waiting == 0)) c.groups) (list_any (λ (x : Catalogue). nat_lt x.swept (top_epoch c)) c.catalogues || list_any (λ p. is_joining (status_of p c)) (all_peers (shape_of c))) one.1 in
      let three = or_none (list_any (λ (x : Catalogue). nat_lt x.swept (top_epoch c)) c.catalogues) (list_any (λ p. is_joining (status_of p c)) (all_peers (shape_of c))) two.1 in
      (not_false (length c.operations == 0) one.0, (two.0, three.1))

  pub work_operations : c.operations ≡ []
  work_operations = none_long c.operations split.0

  pub work_lists : (x : ℕ) → x < (shape_of c).shards → (group_of x c).waiting ≡ []
  work_lists x low =
      let here = any_false (λ (g : Group). not (length g.waiting == 0)) c.groups x (new_group (shape_of c) x 0 0 []) split.1.0 (let n = (seated_all c all).groups in omega (arith, n, low)) in
      none_long (group_of x c).waiting (not_false (length (group_of x c).waiting == 0) here)

  pub work_joins : (p : ℕ) → status_of p c ≡ Joining → ⊥
  work_joins p joins =
      let low = low_peer c all p (λ d. let wrong : Joining ≡ Down = sym joins ∙ d in cc wrong) in
      let there = any_range (λ q. is_joining (status_of q c)) 0 ((shape_of c).shards * (shape_of c).copies) p (omega arith) (omega (arith, low)) (ap is_joining joins) in
      let wrong : true ≡ false = sym there ∙ split.1.1 in
      cc wrong

-- ---- no operation

at_same : (n : ℕ) → is_at (nat_cmp n) n ≡ true
at_same n = ap is_eq (sym (nat_cmp_is n n Equal refl))

-- a good peer without a job has none
idle_tasks : (c : Core) (p : ℕ) → status_of p c ≡ Good → first_job p c ≡ None → tasks_of p c ≡ []
idle_tasks c p good none =
    first_none (tasks_of p c)
    (sym (ap (λ k. if is_joining k then option_map (λ (j : Job). record { job = j; line = 0 }) (copying_step p c) else slice_get (tasks_of p c) 0) good) ∙ no_task (first_task p c) none)

module _ (name : List ℕ → Address) (c : Core) (shape : IsShape c.members.shape) (orderly : IsOrderly name c) (caused : AreCaused name c) (idle : (p : ℕ) → first_job p c ≡ None)
    (lists : (x : ℕ) → x < (shape_of c).shards → (group_of x c).waiting ≡ []) where
  none_waits : (x place : ℕ) (entry : Entry) → x < (shape_of c).shards → slice_get (group_of x c).waiting place ≡ Some entry → ⊥
  none_waits x place entry low at = let wrong : None ≡ Some entry = sym (ap (λ (es : List Entry). slice_get es place) (lists x low)) ∙ at in cc wrong

  none_open : (line : ℕ) (w : Waiting) → operation_of line c ≡ Some w → ⊥
  none_open line w at = by_wait w.wait (caused.caused line w at)
    where
      low : w.shard < (shape_of c).shards
      low = judged_low name c line w (shape_some c.members.shape shape) orderly at

      by_wait : (k : Wait) → HasCause name c (asker_of line w) k → ⊥
      by_wait wait.View off = (let v = caused.viewing w.shard low off in none_waits w.shard v.place v.entry low v.at)
      by_wait wait.Address v = none_waits w.shard v.place v.entry low v.at
      by_wait wait.Room v = none_waits w.shard v.place v.entry low v.at
      by_wait (wait.Bytes number) b = no_read b.1
        where
          no_read : IsToBeRead c w.shard (read_of number line) → ⊥
          no_read r = let wrong : None ≡ Some (read_of number line) = sym (ap (λ (ts : List Task). slice_get ts r.jobs.place) (idle_tasks c r.peer r.good (idle r.peer))) ∙ r.jobs.at in cc wrong
      by_wait (wait.Entry number) v = none_waits w.shard v.place v.entry low v.at

  pub no_operations : c.operations ≡ []
  no_operations = go c.operations refl
    where
      go : (es : List (ℕ × Waiting)) → c.operations ≡ es → c.operations ≡ []
      go [] e = e
      go (x ∷ es) e =
          let here : operation_of x.0 c ≡ Some x.1 =
          ap (λ (ys : List (ℕ × Waiting)). lookup (is_at (nat_cmp x.0)) ys) e ∙ ap (λ b. if b then Some x.1 else lookup (is_at (nat_cmp x.0)) es) (at_same x.0) in
          absurd (none_open x.0 x.1 here)

-- ---- all numbers are level

-- of each good peer its whole list is known, and that is the lead's
pub level_left : (c : Core) → AreInStep c → IsLeft c → (p : ℕ) → status_of p c ≡ Good → (known_of p c ≡ last_number (group_of (home p c) c)) × (sealed_of p c ≡ last_number (group_of (home p c) c))
level_left c all left p good =
    let low = low_home c all p (low_peer c all p (λ d. let wrong : Good ≡ Down = sym good ∙ d in cc wrong)) in
    let t = all.each (home p c) low in
    let k = (knows_here (home p c) c t.0 t.1).each p refl good in
    let none : length (group_of (home p c) c).waiting ≡ 0 = ap (λ (es : List Entry). length es) (left.lists (home p c) low) in
    let a = k.effects in
    let b = k.known in
    let d = k.sealed in
    let e = k.within in
    (omega (arith, none, a, b, d, e), omega (arith, none, a, b, d, e))
