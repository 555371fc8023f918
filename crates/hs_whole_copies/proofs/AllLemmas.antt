-- All shards of a core stay so behind an event.
use Rattle.std.proofs.Common.{◌≡◌, ◌⊎◌, ◌∙◌, ap, sym, refl, inl, inr, arith, ℕ, ◌+◌, ◌-◌, ◌*◌, ◌/◌, ◌<◌, ◌≤◌, ◌==◌, not, eqb-true, Bool, true, false, if◌then◌else◌, [], Option, Some, None, length}
use Rattle.std.proofs.lemmas.Bool.{cases_lt}
use Rattle.std.proofs.lemmas.List.{get_or_past}
use Rattle.std.proofs.Math.Nat.{lt-div-mul-add}
use Rattle.std.specs.Option.{option_map, option_map_or}
use Rattle.std.specs.Prelude.{take}
use Rattle.hs_anatomy.proofs.EventLemmas.{does_acts}
use Rattle.hs_anatomy.proofs.SizeLemmas.{sizes_same}
use Rattle.hs_anatomy.proofs.StepLemmas.{step_is}
use Rattle.hs_anatomy.proofs.StrokeLemmas.{strokes_of}
use Rattle.hs_anatomy.specs.Acts.{begun}
use Rattle.hs_anatomy.specs.Sizes.{Sizes}
use Rattle.hs_copies.proofs.StandLemmas.{and_right}
use Rattle.hs_copies.specs.Lists.{IsFront}
use Rattle.hs_copies.specs.Machine.{Copies}
use Rattle.hs_core_copies.proofs.StepsLemmas.{ends, was_going}
use Rattle.hs_core_words.specs.declared.event.Event.{Event}
use Rattle.hs_core_words.specs.declared.event.Event.TheVariants as event
use Rattle.hs_core_words.specs.declared.task.Task.{Task}
use Rattle.hs_core_words.specs.Looking.{first_task, group_of, home, shape_of, status_of, tasks_of}
use Rattle.hs_core_words.specs.State.{Core}
use Rattle.hs_core_words.specs.Step.{do_event, end_event, step}
use Rattle.hs_desk.specs.Answers.{answers}
use Rattle.hs_desk.specs.declared.done.Done.{Done}
use Rattle.hs_entry.specs.declared.entry.Entry.{Entry}
use Rattle.hs_events.specs.Due.{is_answer}
use Rattle.hs_events.specs.Taken.{peer_count}
use Rattle.hs_events.specs.Whole.{Whole, grown, lists_after, step_whole, taken_report, told_list}
use Rattle.hs_limits.specs.declared.limits.PeerStatus.TheVariants.{Down}
use Rattle.hs_limits.specs.declared.shape.Shape.{Shape}
use Rattle.hs_members.specs.Members.{IsShard, Members, home_of, is_good_status}
use Rattle.hs_replica.specs.Group.{Group, entries_above, length_of, new_group}
use Rattle.hs_whole_copies.proofs.FollowEventLemmas.{step_follows}
use Rattle.hs_whole_copies.proofs.PlainLemmas.{step_plain}
use Rattle.hs_whole_copies.proofs.ReachLemmas.{stays_by}
use Rattle.hs_whole_copies.specs.Whole.{IsShardInStep, IsWholeInStep, StaysInStep, StaysWhole}

-- an event keeps the shape
pub shape_after : (e : Event) (at : ℕ) (c : Core) → (step e at c).ended ≡ None → (step e at c).members.shape ≡ c.members.shape
shape_after e at c on =
    let a : Core = begun e at c in
    let b : Core = do_event e a in
    let is : step e at c ≡ end_event b = step_is e at c (was_going e at c on) in
    ap (λ (y : Core). y.members.shape) is ∙ ap (λ (m : Members). m.shape) (ends b).members ∙ ap (λ (z : Sizes). z.shape) (sizes_same b (strokes_of (does_acts a e)))

pub shard_stays : (g : ℕ) (c : Whole) (e : Event) (at : ℕ) (s : Copies Entry) → IsShardInStep g c s → (step e at c.core).ended ≡ None → StaysInStep g (step_whole e at c) s
shard_stays g c e at s k on = stays_by g e at c s k on (shape_after e at c.core on) (step_follows g e at c.core s k.in_step k.follows on) (step_plain g e at c.core on k.waits)

-- ---- peers that there are none of

rows : (n k w : ℕ) → k < n → k * w + w ≤ n * w
rows n k w l = grind (arith, l)

home_past : (shape : Shape) (p : ℕ) → 1 ≤ shape.copies → peer_count shape ≤ p → shape.shards ≤ home_of shape p
home_past shape p some past = elim (cases_lt (home_of shape p) shape.shards) [
  | inr high ↦ high
  | inl low ↦
      let top : p < p / shape.copies * shape.copies + shape.copies = lt-div-mul-add {a = p} {b = shape.copies} some in
      let row : p / shape.copies * shape.copies + shape.copies ≤ shape.shards * shape.copies = rows shape.shards (p / shape.copies) shape.copies low in
      absurd (omega (arith, top, row, past))
]

-- the group of no shard has no lists
none_long : (g p : ℕ) (c : Core) → length c.groups ≤ g → length_of (group_of g c) p ≡ 0
none_long g p c high = ap (λ (x : Group). length_of x p) (get_or_past c.groups g (new_group (shape_of c) g 0 0 []) high)

module _ (c : Whole) (e : Event) (at : ℕ) (machines : ℕ → Copies Entry) (w : IsWholeInStep c machines) (on : (step e at c.core).ended ≡ None) where
  abbrev after : Core
  after = step e at c.core

  same : (step e at c.core).members.shape ≡ c.core.members.shape
  same = shape_after e at c.core on

  low_of : (g : ℕ) → IsShard (step e at c.core).members.shape g → IsShard c.core.members.shape g
  low_of g low = rw (← same) low

  stay : (g : ℕ) → IsShard c.core.members.shape g → StaysInStep g (step_whole e at c) (machines g)
  stay g low = shard_stays g c e at (machines g) (w.each g low) on

  pick : (g : ℕ) → (g < c.core.members.shape.shards) ⊎ (c.core.members.shape.shards ≤ g) → Copies Entry
  pick g (inl low) = (stay g low).copies
  pick g (inr high) = machines g

  picked : (g : ℕ) (o : (g < c.core.members.shape.shards) ⊎ (c.core.members.shape.shards ≤ g)) → IsShard c.core.members.shape g
      → IsShardInStep g (step_whole e at c) (pick g o) × (IsFront (machines g).took (pick g o).took × IsFront (pick g o).took (machines g).log)
  unfolding pick
  picked g (inl low) inside = ((stay g low).keeps, ((stay g low).took, (stay g low).stood))
  picked g (inr high) inside = absurd (omega (arith, high, inside))

  -- ---- no peer

  some_shard : IsShard c.core.members.shape 0
  some_shard = elim w.shape.shards [
    | inl one ↦ omega (arith, one)
    | inr more ↦ elim more [
      | inl two ↦ omega (arith, two)
      | inr most ↦ elim most [ inl four ↦ omega (arith, four) | inr eight ↦ omega (arith, eight) ]
    ]
  ]

  first : IsShardInStep 0 c (machines 0)
  first = w.each 0 some_shard

  no_task : (p : ℕ) → peer_count c.core.members.shape ≤ p → first_task p c.core ≡ None
  no_task p past =
      let st = first.in_step in
      let status : status_of p c.core ≡ Down = get_or_past c.core.members.statuses p Down (let n = st.stands.members.statuses in omega (arith, n, past)) in
      let tasks : tasks_of p c.core ≡ [] = get_or_past c.core.tasks p [] (let n = st.seated.tasks in omega (arith, n, past)) in
      rw (status, tasks) refl

  no_answer : (p : ℕ) (d : Done) → peer_count c.core.members.shape ≤ p → is_answer c.core p d ≡ false
  no_answer p d past = ap (λ (o : Option Task). option_map_or (λ j. answers p j d) (option_map (λ (t : Task). t.job) o) false) (no_task p past)

  told_past : (p : ℕ) → peer_count c.core.members.shape ≤ p → told_list c p (taken_report c.core e) ≡ []
  told_past p past = go e
    where
      here : (q : ℕ) (d : Done) (b : Bool) → is_answer c.core q d ≡ b → told_list c p (if b then Some (q, d) else None) ≡ []
      here q d false i = w.past p past
      here q d true i = apart (q == p) refl
        where
          apart : (t : Bool) → (q == p) ≡ t → told_list c p (Some (q, d)) ≡ []
          apart false f = rw f (w.past p past)
          apart true f =
              let is : q ≡ p = eqb-true q p f in
              let wrong : true ≡ false = sym (ap (λ x. is_answer c.core x d) (sym is) ∙ i) ∙ no_answer p d past in
              absurd (cc wrong)

      go : (x : Event) → told_list c p (taken_report c.core x) ≡ []
      go (event.Line line o) = w.past p past
      go (event.Report q d) = here q d (is_answer c.core q d) refl
      go (event.Turn line q) = w.past p past
      go (event.Deliver line number) = w.past p past
      go (event.Lose line number) = w.past p past
      go (event.Repeat line number) = w.past p past
      go (event.Nudge line q) = w.past p past
      go (event.Fail line q) = w.past p past
      go (event.Start line q) = w.past p past

  past_now : (p : ℕ) → peer_count (step e at c.core).members.shape ≤ p → lists_after e c (step e at c.core) p ≡ []
  past_now p past =
      let old : peer_count c.core.members.shape ≤ p = rw same at past in
      let groups : length (step e at c.core).groups ≡ (step e at c.core).members.shape.shards = (stay 0 some_shard).keeps.in_step.seated.groups in
      let some : 1 ≤ (step e at c.core).members.shape.copies = rw same w.shape.some_copy in
      let high : length (step e at c.core).groups ≤ home p (step e at c.core) = let h = home_past (step e at c.core).members.shape p some past in omega (arith, groups, h) in
      let none : length_of (group_of (home p (step e at c.core)) (step e at c.core)) p ≡ 0 = none_long (home p (step e at c.core)) p (step e at c.core) high in
      ap (grown (group_of (home p (step e at c.core)) (step e at c.core)) p) (told_past p old)
      ∙ ap (λ n. take (n - 0) (entries_above 0 (group_of (home p (step e at c.core)) (step e at c.core)))) none

  aside_now : (p : ℕ) → (step_whole e at c).aside p ≡ true → is_good_status (status_of p (step e at c.core)) ≡ false
  aside_now p i = not_good (is_good_status (status_of p (step e at c.core))) (and_right (c.aside p) (not (is_good_status (status_of p (step e at c.core)))) i)
    where
      not_good : (b : Bool) → not b ≡ true → b ≡ false
      not_good false e = refl
      not_good true e = let wrong : false ≡ true = e in absurd (cc wrong)

  pub all_stay : StaysWhole (step_whole e at c) machines
  all_stay = record {
    machines = λ g. pick g (cases_lt g c.core.members.shape.shards);
    took = λ g low. (picked g (cases_lt g c.core.members.shape.shards) (low_of g low)).1.0;
    stood = λ g low. (picked g (cases_lt g c.core.members.shape.shards) (low_of g low)).1.1;
    keeps = record {
      going = on;
      shape = rw same w.shape;
      each = λ g low. (picked g (cases_lt g c.core.members.shape.shards) (low_of g low)).0;
      past = past_now;
      aside = aside_now;
    };
  }
