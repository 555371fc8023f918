-- Operations that may go on one after another: none of them waits for an entry, where no line has two.
use Rattle.std.proofs.Common.{◌≡◌, ◌∙◌, sym, ap, subst, ℕ, ◌+◌, ◌==◌, ◌&&◌, Bool, true, false, cond, map, filter, List, [], ◌∷◌, Option, Some, None, refl}
use Rattle.std.specs.BTreeMap.{is_at}
use Rattle.std.specs.List.{AllByRecursion}
use Rattle.std.specs.Map.{lookup}
use Rattle.std.specs.Ordering.{nat_cmp}
use Rattle.hs_anatomy.proofs.LookLemmas.{each_found, number_exact, remove_other, same_number, set_other}
use Rattle.hs_anatomy.specs.Once.{AreOnce, IsIdle}
use Rattle.hs_awaiting.specs.declared.wait.Wait.{Wait}
use Rattle.hs_awaiting.specs.declared.wait.Wait.TheVariants as wait
use Rattle.hs_awaiting.specs.declared.waiting.Waiting.{Waiting}
use Rattle.hs_awaiting.specs.Words.{change_with}
use Rattle.hs_core_words.specs.Changing.{add_entry_tasks, change_group, post}
use Rattle.hs_core_words.specs.Effects.{is_for_view, wakes}
use Rattle.hs_core_words.specs.Looking.{group_of, lead_of, operation_of}
use Rattle.hs_core_words.specs.Operating.{add_read, carry_out, go_on_with, lines_where, resume, take_step, wait_for, what_holds}
use Rattle.hs_core_words.specs.Seeing.{view_for}
use Rattle.hs_core_words.specs.State.{Core}
use Rattle.hs_entry.specs.declared.entry.Entry.{Entry}
use Rattle.hs_entry.specs.declared.entry.Entry.TheVariants as kind
use Rattle.hs_limits.specs.declared.address.Address.{Address}
use Rattle.hs_ops.specs.declared.step.OpStep.{OpStep}
use Rattle.hs_ops.specs.declared.step.OpStep.TheVariants as step
use Rattle.hs_ops.specs.Operations.{Operation, after_step, go_step}
use Rattle.hs_ops.specs.Views.{OpView}
use Rattle.hs_replica.specs.Group.{last_number, proposal, propose}

some_waits : (x y : Waiting) → Some x ≡ Some y → x ≡ y
some_waits x y e = cc

-- no line twice, and none waits for an entry
abbrev pub AreReady : Core → List ℕ → Type 0
AreReady c [] = Unit {0}
AreReady c (line ∷ rest) = AllByRecursion (λ m. m ≡ line → ⊥) rest × ((w : Waiting) → operation_of line c ≡ Some w → IsIdle w.wait) × AreReady c rest

-- a line that goes on leaves the others
go_on_other : (next : OpView → Operation → OpStep) (line m : ℕ) (c : Core) → (m ≡ line → ⊥) → operation_of m (go_on_with next line c) ≡ operation_of m c
go_on_other next line m c d = go (operation_of line c)
  where
    sent : (lead : Option ℕ) (n : ℕ) (entry : Entry) (x : Core) → operation_of m (change_with lead (λ peer. add_entry_tasks peer n entry) x) ≡ operation_of m x
    sent None n entry x = refl
    sent (Some peer) n entry x = refl

    read : (lead : Option ℕ) (n : ℕ) (x : Core) → operation_of m (change_with lead (add_read n line) x) ≡ operation_of m x
    read None n x = refl
    read (Some peer) n x = refl

    carried_other : (w : Waiting) (taken : OpStep) → operation_of m (carry_out line w taken c) ≡ operation_of m c
    carried_other w (step.Answer told) = remove_other nat_cmp number_exact c.operations line m d
    carried_other w (step.Propose entry) =
        let waits : Core = wait_for line w (wait.Entry (last_number (group_of w.shard c) + 1)) c in
        sent (lead_of w.shard waits) (last_number (group_of w.shard waits) + 1) entry (post (proposal entry (group_of w.shard waits)) (change_group w.shard (propose entry) waits))
        ∙ set_other nat_cmp number_exact c.operations line m (record w { wait = wait.Entry (last_number (group_of w.shard c) + 1) }) d
    carried_other w (step.Compare number) =
        read (lead_of w.shard c) number (wait_for line w (wait.Bytes number) c) ∙ set_other nat_cmp number_exact c.operations line m (record w { wait = wait.Bytes number }) d
    carried_other w step.Wait = set_other nat_cmp number_exact c.operations line m (record w { wait = what_holds w c }) d

    go : (o : Option Waiting) → operation_of m (change_with o (λ w. take_step line w (next (view_for w.shard w.operation.op c) w.operation)) c) ≡ operation_of m c
    go None = refl
    go (Some u) = carried_other (record u { operation = after_step (next (view_for u.shard u.operation.op c) u.operation) u.operation }) (next (view_for u.shard u.operation.op c) u.operation)

pub ready_on : (c : Core) (line : ℕ) (rest : List ℕ) → AllByRecursion (λ m. m ≡ line → ⊥) rest → AreReady c rest → AreReady (resume line c) rest
ready_on c line [] apart ready = tt
ready_on c line (m ∷ rest) apart ready =
    (ready.0, (λ w e. ready.1 w (sym (go_on_other go_step line m c apart.0) ∙ e)), ready_on c line rest apart.1 ready.2)

-- a test that passes nothing which waits for an entry
abbrev pub PassesIdle : (Waiting → Bool) → Type 0
PassesIdle test = (w : Waiting) → test w ≡ true → IsIdle w.wait

apart_lines : (shard : ℕ) (test : Waiting → Bool) (k : ℕ) (es : List (ℕ × Waiting)) → lookup (is_at (nat_cmp k)) es ≡ None → AllByRecursion (λ m. m ≡ k → ⊥) (map (λ (e : ℕ × Waiting). e.0) (filter (λ e. e.1.shard == shard && test e.1) es))
apart_lines shard test k [] none = tt
apart_lines shard test k (e ∷ es) none = go (is_at (nat_cmp k) e.0) refl none (e.1.shard == shard && test e.1) (apart_lines shard test k es)
  where
    rest : List (ℕ × Waiting)
    rest = filter (λ x. x.1.shard == shard && test x.1) es

    go : (b : Bool) → is_at (nat_cmp k) e.0 ≡ b → cond b (Some e.1) (lookup (is_at (nat_cmp k)) es) ≡ None → (passes : Bool)
        → (lookup (is_at (nat_cmp k)) es ≡ None → AllByRecursion (λ m. m ≡ k → ⊥) (map (λ (x : ℕ × Waiting). x.0) rest))
        → AllByRecursion (λ m. m ≡ k → ⊥) (map (λ (x : ℕ × Waiting). x.0) (cond passes (e ∷ rest) rest))
    go true i n passes ih = absurd (cc n)
    go false i n true ih = ((λ d. cc (sym i ∙ ap (λ j. is_at (nat_cmp k) j) d ∙ at_own)), ih n)
      where
        at_own : is_at (nat_cmp k) k ≡ true
        at_own = rw (same_number k) refl
    go false i n false ih = ih n

pub ready_lines : (shard : ℕ) (test : Waiting → Bool) → PassesIdle test → (c : Core) (es : List (ℕ × Waiting)) → AreOnce es → AllByRecursion (λ (e : ℕ × Waiting). operation_of e.0 c ≡ Some e.1) es
    → AreReady c (map (λ (e : ℕ × Waiting). e.0) (filter (λ e. e.1.shard == shard && test e.1) es))
ready_lines shard test idle c [] once all = tt
ready_lines shard test idle c (e ∷ es) once all = go (e.1.shard == shard) (test e.1) refl (ready_lines shard test idle c es once.1 all.1)
  where
    rest : List (ℕ × Waiting)
    rest = filter (λ x. x.1.shard == shard && test x.1) es

    go : (a b : Bool) → test e.1 ≡ b → AreReady c (map (λ (x : ℕ × Waiting). x.0) rest) → AreReady c (map (λ (x : ℕ × Waiting). x.0) (cond (a && b) (e ∷ rest) rest))
    go true true t ih = (apart_lines shard test e.0 es once.0, (λ w at. subst (λ x. IsIdle x.wait) (some_waits e.1 w (sym all.0 ∙ at)) (idle e.1 t)), ih)
    go true false t ih = ih
    go false b t ih = ih

-- the lines of a shard's operations that pass such a test
pub ready_where : (shard : ℕ) (test : Waiting → Bool) → PassesIdle test → (c : Core) → AreOnce c.operations → AreReady c (lines_where shard test c)
ready_where shard test idle c once = ready_lines shard test idle c c.operations once (each_found c.operations once)

-- ---- the tests by which operations go on

pub view_idle : PassesIdle is_for_view
view_idle w passes = go w.wait passes
  where
    go : (x : Wait) → is_for_view (record w { wait = x }) ≡ true → IsIdle x
    go (wait.Entry number) p = absurd (cc p)
    go wait.View p = tt
    go wait.Address p = tt
    go wait.Room p = tt
    go (wait.Bytes number) p = tt

pub wakes_idle : (entry : Entry) (a : Option Address) (c : Core) → PassesIdle (wakes entry a c)
wakes_idle (kind.Block line least bytes) a c w passes = go w.wait passes
  where
    go : (x : Wait) → wakes (kind.Block line least bytes) a c (record w { wait = x }) ≡ true → IsIdle x
    go wait.View p = tt
    go wait.Address p = tt
    go wait.Room p = tt
    go (wait.Bytes number) p = tt
    go (wait.Entry number) p = absurd (cc p)
wakes_idle (kind.Root line held kept key) a c w passes = go w.wait passes
  where
    go : (x : Wait) → wakes (kind.Root line held kept key) a c (record w { wait = x }) ≡ true → IsIdle x
    go wait.View p = tt
    go wait.Address p = tt
    go wait.Room p = tt
    go (wait.Bytes number) p = tt
    go (wait.Entry number) p = absurd (cc p)
wakes_idle other a c w passes = absurd (cc passes)
