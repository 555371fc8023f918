-- A store stays one of blocks, each at an address of its own, whatever happens to it.
use Rattle.std.proofs.Common.{◌≡◌, inl, inr, ℕ, ◌≤◌, List, [], ◌∷◌, Option, Some, None, refl, sym, ap, subst, arith, tests, length, nat_lt, Bool, true, false, slice_index}
use Rattle.std.proofs.lemmas.List.{length-map}
use Rattle.hs_asking.proofs.SeatLemmas.{HasMore, more_same, more_with, put-blocks}
use Rattle.hs_asking.specs.Lawful.{AreAnswersOf}
use Rattle.hs_asking.specs.Seats.{IsSane}
use Rattle.hs_asking.specs.Shown.{Began, Shown, events_since, store_now}
use Rattle.hs_laws.proofs.DistinctLemmas.{step-distinct}
use Rattle.hs_laws.proofs.JudgeKeeps.{all_none, step_valid}
use Rattle.hs_laws.proofs.SweepLemmas.{stays_spared}
use Rattle.hs_laws.proofs.ValidLemmas.{is_from_valid, valid_from_is}
use Rattle.hs_laws.specs.Distinct.{HasDistinctAddresses}
use Rattle.hs_limits.specs.Block.{Block, IsBlock}
use Rattle.hs_limits.specs.declared.address.Address.{Address}
use Rattle.hs_limits.specs.declared.limits.Limits.{Limits}
use Rattle.hs_limits.specs.declared.spelling.TheConstants.{MOST_BYTES, MOST_POINTERS}
use Rattle.hs_model.proofs.JudgeLemmas.{judge_granted, judge_refused}
use Rattle.hs_model.specs.Judge.{address_of, given_address, granted, judge, refusals, written}
use Rattle.hs_model.specs.Refusals.{first, refused_when}
use Rattle.hs_model.specs.Run.{Event, IsAllowed, IsLegal, asks, enters, run, step, sweeps}
use Rattle.hs_model.specs.Store.{Store, block_at, epoch_at, with_block}
use Rattle.hs_model.specs.declared.op.Op.{Op}
use Rattle.hs_model.specs.declared.op.Op.TheVariants as op
use Rattle.hs_model.specs.declared.reply.Reply.{Reply}
use Rattle.hs_model.specs.declared.store.StoredBlock.{StoredBlock}

pub not_above : (n most : ℕ) (r : Reply) → refused_when (nat_lt most n) r ≡ None → n ≤ most
not_above n most r e = go (nat_lt most n) refl e
  where
    go : (b : Bool) → nat_lt most n ≡ b → refused_when b r ≡ None → n ≤ most
    go true t e = cc e
    go false t e = grind (arith, tests, t)

-- an operation that no refusal holds of
granted_more : (limits : Limits) (s : Store) (o : Op) → first (refusals limits s o) ≡ None → HasMore s (granted s o).store
unfolding granted refusals
granted_more limits s (op.Open name) e = more_same s (granted s (op.Open name)).store refl
granted_more limits s (op.Close name) e = more_same s (granted s (op.Close name)).store refl
granted_more limits s (op.Write name payload handles address) e =
    let a : Address = given_address address in
    let block : Block = written s name payload handles in
    let none = all_none (refusals limits s (op.Write name payload handles address)) e in
    let short : length payload ≤ MOST_BYTES = not_above (length payload) MOST_BYTES _ none.1.0 in
    let few : length handles ≤ MOST_POINTERS = not_above (length handles) MOST_POINTERS _ none.1.1.0 in
    let is : IsBlock block = record { pointers = subst (λ z. z ≤ MOST_POINTERS) (sym (length-map handles (λ handle. address_of s name handle))) few; bytes = short } in
    more_with s (granted s (op.Write name payload handles address)).store a block (epoch_at s a) is (put-blocks (with_block s a block) name _)
granted_more limits s (op.Read name handle) e = more_same s (granted s (op.Read name handle)).store (put-blocks s name _)
granted_more limits s (op.Look name key) e = more_same s (granted s (op.Look name key)).store (put-blocks s name _)
granted_more limits s (op.Root name key handle) e = more_same s (granted s (op.Root name key handle)).store refl
granted_more limits s (op.Drop key) e = more_same s (granted s (op.Drop key)).store refl
granted_more limits s (op.Forget name handle) e = more_same s (granted s (op.Forget name handle)).store (put-blocks s name _)
granted_more limits s (op.Name name handle) e = more_same s (granted s (op.Name name handle)).store refl
granted_more limits s op.Delete e = more_same s (granted s op.Delete).store refl
granted_more limits s op.Stat e = more_same s (granted s op.Stat).store refl

pub judge_more : (limits : Limits) (s : Store) (o : Op) → HasMore s (judge limits s o).store
judge_more limits s o = go (first (refusals limits s o)) refl
  where
    go : (found : Option Reply) → first (refusals limits s o) ≡ found → HasMore s (judge limits s o).store
    go (Some r) e = more_same s (judge limits s o).store (ap (λ x. x.store.blocks) (judge_refused limits s o r e))
    go None e = subst (λ z. HasMore s z.store) (sym (judge_granted limits s o e)) (granted_more limits s o e)

-- an event, which keeps a block that is there before and afterwards
pub step_more : (limits : Limits) (s : Store) (e : Event) → HasDistinctAddresses s → HasMore s (step limits s e).store
step_more limits s (asks o) d = judge_more limits s o
step_more limits s (enters shard) d = more_same s (step limits s (enters shard)).store refl
step_more limits s (sweeps shard) d =
    let at : (a : Address) (y : StoredBlock) → block_at (step limits s (sweeps shard)).store a ≡ Some y → block_at s a ≡ Some y = λ a y p. (stays_spared s (slice_index s.epochs shard) shard a y d p).0 in
    record { was = λ a y p. inl (at a y p); same = λ a x y p q. let r = at a y q in cc (p, r) }

pub step_sane : (limits : Limits) (s : Store) (e : Event) → IsAllowed s e → IsSane s → IsSane (step limits s e).store
step_sane limits s e may sane =
    let more : HasMore s (step limits s e).store = step_more limits s e sane.distinct in
    record {
      valid = is_from_valid (step limits s e).store (step_valid limits s (valid_from_is s sane.valid) e may);
      distinct = step-distinct limits s e sane.distinct;
      blocks = λ a y p. elim (more.was a y p) [ inl q ↦ sane.blocks a y q | inr q ↦ q ];
    }

pub run_sane : (limits : Limits) (s : Store) (es : List Event) → IsLegal limits s es → IsSane s → IsSane (run limits s es)
run_sane limits s [] l sane = sane
run_sane limits s (e ∷ es) l sane = run_sane limits (step limits s e).store es l.1 (step_sane limits s e l.0 sane)

-- so is the store of an asker, at each time
pub answers_sane : {tells : Type 0} → (b : Began) (s : Shown tells) → AreAnswersOf b s → IsSane (store_now b s)
answers_sane b s law = run_sane b.limits b.store (events_since b s) law.legal (record { valid = law.valid; distinct = law.distinct; blocks = law.blocks })
