-- What an operation sees, and what stays pending where another takes its step.
use Rattle.std.proofs.Common.{◌≡◌, ◌∙◌, sym, ap, ℕ, ◌||◌, Bool, List, [], ◌∷◌, Option, Some, None, option_and_then, option_map, refl}
use Rattle.std.specs.BTreeMap.{is_at}
use Rattle.std.specs.List.{list_any}
use Rattle.std.specs.Ordering.{nat_cmp}
use Rattle.hs_awaiting.proofs.EntryLemmas.{part_set}
use Rattle.hs_awaiting.specs.declared.waiting.Waiting.{Waiting}
use Rattle.hs_model.specs.Op.{written_address}
use Rattle.hs_core_words.specs.Changing.{put_operation}
use Rattle.hs_core_state.specs.Going.{aim_of, sight_of, view_by}
use Rattle.hs_core_words.specs.Looking.{group_of, operation_of}
use Rattle.hs_core_words.specs.Pending.{is_address, is_coming, stored}
use Rattle.hs_core_words.specs.Seeing.{view_for}
use Rattle.hs_core_words.specs.State.{Core}
use Rattle.hs_entry.specs.declared.entry.Entry.{Entry}
use Rattle.hs_entry.specs.declared.entry.Entry.TheVariants as kind
use Rattle.hs_limits.specs.declared.address.Address.{Address}
use Rattle.hs_model.specs.declared.op.Op.{Op}
use Rattle.hs_model.specs.declared.op.Op.TheVariants as op
use Rattle.hs_ops.specs.Answers.{gained}
use Rattle.hs_ops.specs.Views.{OpView}

-- ---- the view

pub seen : (shard : ℕ) (o : Op) (busy : Option ℕ) (core : Core) → view_by (sight_of (aim_of shard o core) core) (aim_of shard o core) busy core ≡ record (view_for shard o core) { busy = busy }
seen shard (op.Open name) busy core = refl
seen shard (op.Close name) busy core = refl
seen shard (op.Write name payload handles address) busy core = refl
seen shard (op.Read name handle) busy core = refl
seen shard (op.Look name key) busy core = refl
seen shard (op.Root name key handle) busy core = refl
seen shard (op.Drop key) busy core = refl
seen shard (op.Forget name handle) busy core = refl
seen shard (op.Name name handle) busy core = refl
seen shard op.Delete busy core = refl
seen shard op.Stat busy core = refl

-- what is pending and who is busy are no matter to what is gained
pub gained_alike : (v : OpView) (pointers : List Address) (o : Op) (busy : Option ℕ) (p : Bool) → gained (record v { pending = p; busy = busy }) pointers o ≡ gained v pointers o
unfolding gained
gained_alike v pointers (op.Open name) busy p = refl
gained_alike v pointers (op.Close name) busy p = refl
gained_alike v pointers (op.Write name payload handles address) busy p = refl
gained_alike v pointers (op.Read name handle) busy p = refl
gained_alike v pointers (op.Look name key) busy p = refl
gained_alike v pointers (op.Root name key handle) busy p = refl
gained_alike v pointers (op.Drop key) busy p = refl
gained_alike v pointers (op.Forget name handle) busy p = refl
gained_alike v pointers (op.Name name handle) busy p = refl
gained_alike v pointers op.Delete busy p = refl
gained_alike v pointers op.Stat busy p = refl

-- ---- what is coming

any_alike : {A : Type 0} (f g : A → Bool) (xs : List A) → ((x : A) → f x ≡ g x) → list_any f xs ≡ list_any g xs
any_alike f g [] h = refl
any_alike f g (x ∷ xs) h = ap (λ b. b || list_any f xs) (h x) ∙ ap (λ b. g x || b) (any_alike f g xs h)

by_part : {X Y Z : Type 0} (part : X → Y) (f : Y → Option Z) (o : Option X) → option_and_then (λ x. f (part x)) o ≡ option_and_then f (option_map part o)
by_part part f None = refl
by_part part f (Some x) = refl

-- another step of an operation leaves what it asks for
module _ (line : ℕ) (core : Core) (w new : Waiting) (found : operation_of line core ≡ Some w) (same : new.operation.op ≡ w.operation.op) where
  abbrev op_of : Waiting → Op
  op_of x = x.operation.op

  asked_put : (other : ℕ) → option_and_then (λ x. written_address (op_of x)) (operation_of other (put_operation line new core))
      ≡ option_and_then (λ x. written_address (op_of x)) (operation_of other core)
  asked_put other =
      by_part op_of written_address (operation_of other (put_operation line new core))
      ∙ ap (option_and_then written_address) (part_set (is_at (nat_cmp line)) op_of (is_at (nat_cmp other)) core.operations w new found same)
      ∙ sym (by_part op_of written_address (operation_of other core))

  stored_put : (entry : Entry) → stored entry (put_operation line new core) ≡ stored entry core
  stored_put (kind.View v) = refl
  stored_put (kind.Block by least bs) = asked_put by
  stored_put (kind.Mark by least block a) = refl
  stored_put (kind.Root by held a key) = refl
  stored_put (kind.Drop by key) = refl
  stored_put (kind.Enter by epoch) = refl
  stored_put (kind.Got from epoch round total deltas) = refl
  stored_put (kind.Base v epoch swept round frames) = refl
  stored_put (kind.KeptBlock born mark flags count bs) = refl
  stored_put (kind.KeptRoot created dropped counted a key) = refl
  stored_put (kind.KeptRound way other epoch round total deltas) = refl

  pub coming_put : (shard : ℕ) (a : Option Address) → is_coming shard a (put_operation line new core) ≡ is_coming shard a core
  coming_put shard None = refl
  coming_put shard (Some a) =
      any_alike (λ e. is_address a (stored e (put_operation line new core))) (λ e. is_address a (stored e core)) (group_of shard core).waiting (λ e. ap (is_address a) (stored_put e))
