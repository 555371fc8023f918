-- Events make no way from a block back to itself.
use Rattle.std.proofs.Common.{◌≡◌, ℕ, ◌⊎◌, inl, inr, List, [], ◌∷◌, Bool, true, false, Option, Some, None, Contains, refl, sym, subst, is_some}
use Rattle.hs_limits.specs.Block.{Block}
use Rattle.hs_limits.specs.declared.address.Address.{Address}
use Rattle.hs_limits.specs.declared.limits.Limits.{Limits}
use Rattle.hs_model.specs.declared.op.Op.{Op}
use Rattle.hs_model.specs.declared.op.Op.TheVariants as op
use Rattle.hs_model.specs.declared.reply.Reply.{Reply}
use Rattle.hs_model.specs.declared.store.StoredBlock.{StoredBlock}
use Rattle.hs_model.specs.Inner.{enter, sweep}
use Rattle.hs_model.specs.Judge.{judge, judged, refusals, granted, given_address, written}
use Rattle.hs_model.specs.Peel.{IsAcyclic}
use Rattle.hs_model.specs.Reach.{Leads, anchors, is_same, pointers_of}
use Rattle.hs_model.specs.Refusals.{first}
use Rattle.hs_model.specs.Run.{Event, asks, enters, sweeps, step, run, IsLegal}
use Rattle.hs_model.specs.Store.{Store, block_at, empty_store, reborn, with_block}
use Rattle.hs_laws.specs.Distinct.{HasDistinctAddresses}
use Rattle.hs_laws.specs.Runs.{IsLeft}
use Rattle.hs_laws.specs.Valid.{least_epoch}
use Rattle.hs_laws.proofs.DistinctLemmas.{none-distinct, put-blocks, step-distinct}
use Rattle.hs_laws.proofs.JudgeKeeps.{may_write, step_valid}
use Rattle.hs_laws.proofs.PromiseLemmas.{empty_valid}
use Rattle.hs_laws.proofs.SweepLemmas.{stays_spared}
use Rattle.hs_laws.proofs.ValidLemmas.{Valid}
use Rattle.hs_laws.proofs.WriteKeeps.{MayWrite, its_pointers, other, points_before}
use Rattle.hs_model.proofs.Members.{Member, contains_from_member, member_from_contains, same_from}
use Rattle.hs_model.proofs.ReachLemmas.{Points, Reaches, onward}

-- ---- a store with fewer pointers

-- each pointer of a block is one of the block at its address in another store
abbrev pub PointsLess : Store → Store → Type 0
PointsLess s t = (a b : Address) → Points s.blocks a b → Points t.blocks a b

leads_less : (s t : Store) → PointsLess s t → (a : Address) (path : List Address) (b : Address) → Leads s a path b → Leads t a path b
leads_less s t less a [] b l = l
leads_less s t less a (next ∷ path) b l =
    (contains_from_member next (pointers_of (block_at t a)) (less a next (member_from_contains next (pointers_of (block_at s a)) l.0)), leads_less s t less next path b l.1)

pub acyclic_less : (s t : Store) → PointsLess s t → IsAcyclic t → IsAcyclic s
acyclic_less s t less acyclic a next path l = acyclic a next path (leads_less s t less a (next ∷ path) a l)

acyclic_same : (s t : Store) → s.blocks ≡ t.blocks → IsAcyclic t → IsAcyclic s
acyclic_same s t same = acyclic_less s t (λ a b p. subst (λ z. Points z a b) same p)

-- ---- a write

module _ (s : Store) (v : Valid s) (a : Address) (block : Block) (m : MayWrite s a block) where
  abbrev after : Store
  after = with_block s a block

  abbrev IsAnchored : Address → Type 0
  IsAnchored b = Reaches s.blocks (anchors s (least_epoch s)) b

  -- a block that was anchored points where it did
  still_points : (b c : Address) → IsAnchored b → Points after.blocks b c → Points s.blocks b c
  still_points b c k p = go (is_same b a) refl
    where
      here : (found : Option StoredBlock) → block_at s a ≡ found → is_some found ≡ true → Member c block.pointers → Member c (pointers_of found)
      here None e t q = cc t
      here (Some stored) e t q = subst (λ z. Member c z) (sym (m.same stored e)) q

      at_it : b ≡ a → Points s.blocks b c
      at_it e =
          let there : is_some (block_at s a) ≡ true = subst (λ z. is_some (block_at s z) ≡ true) e (v.anchored b k) in
          let pointer : Member c block.pointers = subst (λ z. Member c z) (its_pointers s v a block m) (subst (λ z. Points after.blocks z c) e p) in
          subst (λ z. Points s.blocks z c) (sym e) (here (block_at s a) refl there pointer)

      go : (d : Bool) → is_same b a ≡ d → Points s.blocks b c
      go true e = at_it (same_from b a e)
      go false e = subst (λ f. Member c (pointers_of f)) (other s v a block m b e) p

  -- what an anchored block leads to it led to before
  still_leads : (b : Address) (path : List Address) (c : Address) → IsAnchored b → Leads after b path c → Leads s b path c × IsAnchored c
  still_leads b [] c k l = (l, subst IsAnchored l k)
  still_leads b (next ∷ path) c k l =
      let p = still_points b next k (member_from_contains next (pointers_of (block_at after b)) l.0) in
      let rest = still_leads next path c (onward k p) l.1 in
      ((contains_from_member next (pointers_of (block_at s b)) p, rest.0), rest.1)

  -- a way was there, or it leads to what was anchored
  led : (b : Address) (path : List Address) (c : Address) → Leads after b path c → Leads s b path c ⊎ IsAnchored c
  led b [] c l = inl l
  led b (next ∷ path) c l = go (points_before s v a block m b next (member_from_contains next (pointers_of (block_at after b)) l.0)) (led next path c l.1)
    where
      go : Points s.blocks b next ⊎ Member next block.pointers → Leads s next path c ⊎ IsAnchored c → Leads s b (next ∷ path) c ⊎ IsAnchored c
      go (inr q) w = inr (still_leads next path c (m.pointers next q) l.1).1
      go (inl p) (inr k) = inr k
      go (inl p) (inl w) = inl (contains_from_member next (pointers_of (block_at s b)) p, w)

  with_block_acyclic : IsAcyclic s → IsAcyclic (with_block s a block)
  with_block_acyclic acyclic b next path l = go (led b (next ∷ path) b l)
    where
      go : Leads s b (next ∷ path) b ⊎ IsAnchored b → ⊥
      go (inl w) = acyclic b next path w
      go (inr k) = acyclic b next path (still_leads b (next ∷ path) b k l).0

-- ---- each event

granted_acyclic : (limits : Limits) (s : Store) → Valid s → (o : Op) → first (refusals limits s o) ≡ None → IsAcyclic s → IsAcyclic (granted s o).store
unfolding granted
granted_acyclic limits s v (op.Open name) e acyclic = acyclic_same (granted s (op.Open name)).store s refl acyclic
granted_acyclic limits s v (op.Close name) e acyclic = acyclic_same (granted s (op.Close name)).store s refl acyclic
granted_acyclic limits s v (op.Write name payload handles address) e acyclic =
    let a = given_address address in
    let block = written s name payload handles in
    acyclic_same (granted s (op.Write name payload handles address)).store (with_block s a block) (put-blocks (with_block s a block) name _) (with_block_acyclic s v a block (may_write limits s v name payload handles address e) acyclic)
granted_acyclic limits s v (op.Read name handle) e acyclic = acyclic_same (granted s (op.Read name handle)).store s (put-blocks s name _) acyclic
granted_acyclic limits s v (op.Look name key) e acyclic = acyclic_same (granted s (op.Look name key)).store s (put-blocks s name _) acyclic
granted_acyclic limits s v (op.Root name key handle) e acyclic = acyclic_same (granted s (op.Root name key handle)).store s refl acyclic
granted_acyclic limits s v (op.Drop key) e acyclic = acyclic_same (granted s (op.Drop key)).store s refl acyclic
granted_acyclic limits s v (op.Forget name handle) e acyclic = acyclic_same (granted s (op.Forget name handle)).store s (put-blocks s name _) acyclic
granted_acyclic limits s v (op.Name name handle) e acyclic = acyclic
granted_acyclic limits s v op.Delete e acyclic = acyclic_same (granted s op.Delete).store s refl acyclic
granted_acyclic limits s v op.Stat e acyclic = acyclic

judge_acyclic : (limits : Limits) (s : Store) → Valid s → (o : Op) → IsAcyclic s → IsAcyclic (judge limits s o).store
unfolding judge
judge_acyclic limits s v o acyclic = go (first (refusals limits s o)) refl
  where
    go : (found : Option Reply) → first (refusals limits s o) ≡ found → IsAcyclic (judged s o found).store
    go None e = granted_acyclic limits s v o e acyclic
    go (Some refusal) e = acyclic

sweep_acyclic : (s : Store) (shard : ℕ) → HasDistinctAddresses s → IsAcyclic s → IsAcyclic (sweep s shard)
sweep_acyclic s shard distinct = acyclic_less (sweep s shard) s (λ a b p. go a b (block_at (sweep s shard) a) refl p)
  where
    go : (a b : Address) (found : Option StoredBlock) → block_at (sweep s shard) a ≡ found → Member b (pointers_of found) → Points s.blocks a b
    go a b None e q = elim q [ ]
    go a b (Some stored) e q = subst (λ z. Member b (pointers_of z)) (sym (stays_spared s _ shard a stored distinct e).0) q

pub step_acyclic : (limits : Limits) (s : Store) → Valid s → HasDistinctAddresses s → (event : Event) → IsAcyclic s → IsAcyclic (step limits s event).store
step_acyclic limits s v distinct (asks o) acyclic = judge_acyclic limits s v o acyclic
step_acyclic limits s v distinct (enters shard) acyclic = acyclic_same (enter s shard) s refl acyclic
step_acyclic limits s v distinct (sweeps shard) acyclic = sweep_acyclic s shard distinct acyclic

-- ---- runs

pub reborn_acyclic : (s : Store) → IsAcyclic s → IsAcyclic (reborn s)
reborn_acyclic s = acyclic_same (reborn s) s refl

pub empty_acyclic : (shards : ℕ) → IsAcyclic (empty_store shards)
empty_acyclic shards a next path l = absurd (member_from_contains next [] l.0)

pub run_acyclic : (limits : Limits) (s : Store) → Valid s → HasDistinctAddresses s → (events : List Event) → IsLegal limits s events → IsAcyclic s → IsAcyclic (run limits s events)
run_acyclic limits s v distinct [] legal acyclic = acyclic
run_acyclic limits s v distinct (event ∷ events) legal acyclic =
    run_acyclic limits (step limits s event).store (step_valid limits s v event legal.0) (step-distinct limits s event distinct) events legal.1 (step_acyclic limits s v distinct event acyclic)

pub left_acyclic : (limits : Limits) (s : Store) → IsLeft limits s → IsAcyclic s
left_acyclic limits s i =
    subst IsAcyclic i.leaves (run_acyclic limits (empty_store i.shards) (empty_valid i.shards i.some_shard) none-distinct i.events i.legal (empty_acyclic i.shards))
