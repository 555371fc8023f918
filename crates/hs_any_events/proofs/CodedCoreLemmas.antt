-- A core beside one whose writes have payloads that tell their addresses: an operation sees the same in both.
use Rattle.std.proofs.Common.{◌≡◌, ◌∙◌, sym, ap, ℕ, ◌||◌, Bool, false, not, List, [], map, count_by, Option, Some, None, refl}
use Rattle.std.specs.BTreeMap.{is_at}
use Rattle.std.specs.List.{find, list_any}
use Rattle.std.specs.Map.{lookup}
use Rattle.std.specs.Option.{option_and_then, option_map, option_map_or}
use Rattle.std.specs.Ordering.{nat_cmp}
use Rattle.std.specs.Prelude.{bytes_eq, slice_index_or, if◌then◌else◌}
use Rattle.hs_any_events.proofs.CodedEntryLemmas.{Outline, block_outlined, outline, root_outlined}
use Rattle.hs_any_events.proofs.CodedGroupLemmas.{GroupOutline, group_outline, number_alike}
use Rattle.hs_any_events.proofs.CodedLemmas.{Code, coded_op}
use Rattle.hs_any_events.proofs.CodedListLemmas.{any-map, count-map, find-map, index-map}
use Rattle.hs_any_events.proofs.CodedOpLemmas.{coded_operation, op_kept}
use Rattle.hs_any_events.proofs.CodedPoolLemmas.{bare_pool}
use Rattle.hs_awaiting.specs.declared.wait.Wait.TheVariants as wait
use Rattle.hs_awaiting.specs.declared.waiting.Waiting.{Waiting}
use Rattle.hs_awaiting.specs.Kinds.{is_of}
use Rattle.hs_model.specs.Op.{written_address}
use Rattle.hs_core_words.specs.Looking.{catalogue_of, front_of, group_of, operation_of, shape_of}
use Rattle.hs_core_words.specs.Operating.{busy_line, what_holds}
use Rattle.hs_core_words.specs.Pending.{has_room, is_address, is_coming, is_crowded, is_pending, named, stored}
use Rattle.hs_core_words.specs.Seeing.{pointers_for, view_for}
use Rattle.hs_core_words.specs.State.{Core}
use Rattle.hs_effects.proofs.LookLemmas.{found_map}
use Rattle.hs_entry.specs.declared.entry.Entry.{Entry}
use Rattle.hs_entry.specs.declared.entry.Entry.TheVariants as kind
use Rattle.hs_journal.specs.Order.{session_of}
use Rattle.hs_limits.specs.declared.address.Address.{Address}
use Rattle.hs_model.specs.declared.op.Op.{Op}
use Rattle.hs_model.specs.declared.op.Op.TheVariants as op
use Rattle.hs_ops.specs.Speaking.{judging_shard, wanted_address}
use Rattle.hs_post.specs.Pool.{empty_pool}
use Rattle.hs_replica.specs.Group.{last_number, new_group}
use Rattle.hs_replica.specs.Kinds.{is_block, is_root}
use Rattle.hs_tokens.specs.Seats.{Seats}

-- ---- beside it

-- a core but for its lists, its jobs, its pool, its operations, and what it tells
abbrev pub bare_core : Core → Core
bare_core core = record core {
  groups = [];
  tasks = [];
  progress = record core.progress { rejoins = []; last_line = 0; event_line = 0 };
  pool = empty_pool 0;
  operations = [];
  journal = [];
  entries = [];
  refused = [];
  ended = None;
  moment = 0;
}

-- an operation that waits, with a payload that tells its address
abbrev pub coded_waiting : Code → Waiting → Waiting
coded_waiting code w = record w { operation = coded_operation code w.operation }

abbrev pub coded_operations : Code → List (ℕ × Waiting) → List (ℕ × Waiting)
coded_operations code es = map (λ (e : ℕ × Waiting). (e.0, coded_waiting code e.1)) es

-- d is as c, but for the payloads of its operations, the data of the Blocks that wait, and the entries that are under way; of jobs and of what is told nothing is said
pub record IsCoded (code : Code) (c d : Core) : Type 0 where
  pub same : bare_core d ≡ bare_core c
  pub operations : d.operations ≡ coded_operations code c.operations
  pub groups : map group_outline d.groups ≡ map group_outline c.groups
  pub pool : bare_pool d.pool ≡ bare_pool c.pool

module _ (code : Code) (c d : Core) (r : IsCoded code c d) where
  pub same_limits : d.limits ≡ c.limits
  same_limits = ap (λ (x : Core). x.limits) r.same

  pub same_sessions : d.sessions ≡ c.sessions
  same_sessions = ap (λ (x : Core). x.sessions) r.same

  pub same_catalogue : (shard : ℕ) → catalogue_of shard d ≡ catalogue_of shard c
  same_catalogue shard = ap (λ (x : Core). catalogue_of shard x) r.same

  -- ---- operations and lists

  pub operation_is : (line : ℕ) → operation_of line d ≡ option_map (coded_waiting code) (operation_of line c)
  operation_is line = ap (λ (es : List (ℕ × Waiting)). lookup (is_at (nat_cmp line)) es) r.operations ∙ found_map (coded_waiting code) (is_at (nat_cmp line)) c.operations

  pub group_alike : (g : ℕ) → group_outline (group_of g d) ≡ group_outline (group_of g c)
  group_alike g =
      sym (index-map group_outline d.groups g (new_group (shape_of d) g 0 0 []))
      ∙ (λ i. slice_index_or (r.groups i) g (group_outline (new_group (shape_of (r.same i)) g 0 0 [])))
      ∙ index-map group_outline c.groups g (new_group (shape_of c) g 0 0 [])

  pub waiting_alike : (g : ℕ) → map outline (group_of g d).waiting ≡ map outline (group_of g c).waiting
  waiting_alike g = ap (λ (x : GroupOutline). x.waiting) (group_alike g)

  pub same_front : (g : ℕ) → front_of g d ≡ front_of g c
  same_front g = ap (λ (x : GroupOutline). x.rest.front) (group_alike g)

  pub same_last : (g : ℕ) → last_number (group_of g d) ≡ last_number (group_of g c)
  same_last g = number_alike (group_of g c) (group_of g d) (group_alike g)

  -- ---- the addresses of the Blocks that wait

  stored_alike : (e : Entry) → stored e d ≡ stored e c
  stored_alike (kind.Block line least bytes) = ap (λ (x : Option Waiting). option_and_then (λ (w : Waiting). written_address w.operation.op) x) (operation_is line) ∙ by (operation_of line c)
    where
      by : (x : Option Waiting) → option_and_then (λ (w : Waiting). written_address w.operation.op) (option_map (coded_waiting code) x) ≡ option_and_then (λ (w : Waiting). written_address w.operation.op) x
      by None = refl
      by (Some w) = op_kept code (λ p. written_address p) (λ session payload other handles address. refl) w.operation.op
  stored_alike other = refl

  pub named_alike : (e : Entry) → named e d ≡ named e c
  named_alike (kind.Block line least bytes) = ap (λ (x : Option Waiting). option_and_then (λ (w : Waiting). wanted_address d.sessions w.operation.op) x) (operation_is line) ∙ by (operation_of line c)
    where
      by : (x : Option Waiting) → option_and_then (λ (w : Waiting). wanted_address d.sessions w.operation.op) (option_map (coded_waiting code) x) ≡ option_and_then (λ (w : Waiting). wanted_address c.sessions w.operation.op) x
      by None = refl
      by (Some w) =
          op_kept code (λ p. wanted_address d.sessions p) (λ session payload other handles address. refl) w.operation.op
          ∙ ap (λ (seats : Seats). wanted_address seats w.operation.op) same_sessions
  named_alike other = refl

  pub named_outlined : (x : Core) (e : Entry) → named e x ≡ named (outline e).entry x
  named_outlined x (kind.Block line least bytes) = refl
  named_outlined x other = refl

  stored_outlined : (x : Core) (e : Entry) → stored e x ≡ stored (outline e).entry x
  stored_outlined x (kind.Block line least bytes) = refl
  stored_outlined x other = refl

  -- whether one that waits passes a test of its outline
  pub any_alike : (p : Entry → Bool) → ((e : Entry) → p e ≡ p (outline e).entry) → (shard : ℕ) → list_any p (group_of shard d).waiting ≡ list_any p (group_of shard c).waiting
  any_alike p outlined shard =
      any-map outline p (λ o. p o.entry) outlined (group_of shard d).waiting
      ∙ ap (λ (os : List Outline). list_any (λ o. p o.entry) os) (waiting_alike shard)
      ∙ sym (any-map outline p (λ o. p o.entry) outlined (group_of shard c).waiting)

  pub coming_alike : (shard : ℕ) (a : Option Address) → is_coming shard a d ≡ is_coming shard a c
  coming_alike shard None = refl
  coming_alike shard (Some a) =
      any_alike (λ e. is_address a (stored e d)) (λ e. ap (λ x. is_address a x) (stored_outlined d e)) shard
      ∙ (λ i. list_any (λ e. is_address a (stored_alike e i)) (group_of shard c).waiting)

  -- ---- room

  count_alike : (p : Entry → Bool) → ((e : Entry) → p e ≡ p (outline e).entry) → (shard : ℕ) → count_by p (group_of shard d).waiting ≡ count_by p (group_of shard c).waiting
  count_alike p outlined shard =
      count-map outline p (λ o. p o.entry) outlined 0 (group_of shard d).waiting
      ∙ ap (λ (os : List Outline). count_by (λ o. p o.entry) os) (waiting_alike shard)
      ∙ sym (count-map outline p (λ o. p o.entry) outlined 0 (group_of shard c).waiting)

  crowded_alike : (shard : ℕ) (o : Op) → is_crowded shard o d ≡ is_crowded shard o c
  crowded_alike shard o = λ i. not (has_room shard o (count_alike is_block block_outlined shard i) (count_alike is_root root_outlined shard i) (r.same i))

  pending_alike : (shard : ℕ) (o : Op) → is_pending shard o d ≡ is_pending shard o c
  pending_alike shard (op.Write session payload handles a) = λ i. coming_alike shard a i || crowded_alike shard (op.Write session payload handles a) i
  pending_alike shard (op.Root session key handle) = crowded_alike shard (op.Root session key handle)
  pending_alike shard other = refl

  -- ---- what an operation sees

  view_alike : (shard : ℕ) (o : Op) → view_for shard o d ≡ view_for shard o c
  view_alike shard o = λ i. record (view_for shard o (r.same i)) { pending = pending_alike shard o i }

  pub view_coded : (shard : ℕ) (o : Op) → view_for shard (coded_op code o) d ≡ view_for shard o c
  view_coded shard o = op_kept code (λ p. view_for shard p d) (λ session payload other handles address. refl) o ∙ view_alike shard o

  pub pointers_coded : (shard : ℕ) (o : Op) → pointers_for shard (coded_op code o) d ≡ pointers_for shard o c
  pointers_coded shard o = op_kept code (λ p. pointers_for shard p d) (λ session payload other handles address. refl) o ∙ ap (λ (x : Core). pointers_for shard o x) r.same

  pub judging_coded : (o : Op) → judging_shard (shape_of d).shards d.sessions (coded_op code o) ≡ judging_shard (shape_of c).shards c.sessions o
  judging_coded o = op_kept code (λ p. judging_shard (shape_of d).shards d.sessions p) (λ session payload other handles address. refl) o ∙ ap (λ (x : Core). judging_shard (shape_of x).shards x.sessions o) r.same

  -- the line of its session's operation
  pub busy_coded : (o : Op) → busy_line (coded_op code o) d ≡ busy_line o c
  busy_coded o = op_kept code (λ p. busy_line p d) (λ session payload other handles address. refl) o ∙ by (session_of (Some o))
    where
      line_in : List (ℕ × Waiting) → List ℕ → Option ℕ
      line_in es name = option_map (λ (e : ℕ × Waiting). e.0) (find (λ (e : ℕ × Waiting). is_of name e.1) es)

      by : (x : Option (List ℕ)) → option_and_then (line_in d.operations) x ≡ option_and_then (line_in c.operations) x
      by None = refl
      by (Some name) =
          ap (λ (es : List (ℕ × Waiting)). line_in es name) r.operations
          ∙ find-map (coded_waiting code) (λ (e : ℕ × Waiting). is_of name e.1) (λ (e : ℕ × Waiting). is_of name e.1)
          (λ e. op_kept code (λ p. option_map_or (bytes_eq name) (session_of (Some p)) false) (λ session payload other handles address. refl) e.1.operation.op) c.operations

  -- what an operation waits for
  pub holds_coded : (w : Waiting) → what_holds (coded_waiting code w) d ≡ what_holds w c
  holds_coded w =
      (λ i. if not (slice_index_or (r.same i).progress.viewed w.shard false) then wait.View else if is_coming w.shard (wanted i) d then wait.Address else wait.Room)
      ∙ ap (λ (b : Bool). if not (slice_index_or c.progress.viewed w.shard false) then wait.View else if b then wait.Address else wait.Room) (coming_alike w.shard (wanted_address c.sessions w.operation.op))
    where
      wanted : wanted_address d.sessions (coded_op code w.operation.op) ≡ wanted_address c.sessions w.operation.op
      wanted = op_kept code (λ p. wanted_address d.sessions p) (λ session payload other handles address. refl) w.operation.op ∙ ap (λ (seats : Seats). wanted_address seats w.operation.op) same_sessions
