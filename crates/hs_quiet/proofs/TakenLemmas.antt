-- An entry is handed out: what waited for it is left to go on, and all else has its cause still.
use Rattle.std.proofs.Common.{◌≡◌, ◌∙◌, sym, ap, subst, ◌⊎◌, inl, inr, ℕ, zero, suc, ◌+◌, ◌||◌, true, false, List, [], length, drop, Option, Some, None, refl, arith, slice_get}
use Rattle.std.proofs.lemmas.List.{get_or-set_other, length-set}
use Rattle.std.proofs.lemmas.Slice.Eq.{bytes_eq-Decides}
use Rattle.std.specs.Option.{option_map_or}
use Rattle.hs_awaiting.specs.declared.wait.Wait.{Wait}
use Rattle.hs_awaiting.specs.declared.wait.Wait.TheVariants as wait
use Rattle.hs_awaiting.specs.declared.waiting.Waiting.{Waiting}
use Rattle.hs_core_words.specs.Changing.{change_group}
use Rattle.hs_core_words.specs.Effects.{wakes}
use Rattle.hs_core_words.specs.Looking.{front_of, group_of, shape_of}
use Rattle.hs_core_words.specs.Pending.{is_address}
use Rattle.hs_core_words.specs.State.{Core}
use Rattle.hs_effects.specs.Logged.{IsOrderly, asked_by}
use Rattle.hs_effects.specs.Taking.{taken}
use Rattle.hs_effects.proofs.EffectLemmas.{taken_here, taken_room}
use Rattle.hs_effects.proofs.GroupLemmas.{IsFirst, at_front, committed_first}
use Rattle.hs_effects.proofs.LookLemmas.{one_or_other}
use Rattle.hs_effects.proofs.OrderlyLemmas.{asked_alike, committed_orderly, some_is, with_lists}
use Rattle.hs_entry.specs.declared.entry.Entry.{Entry}
use Rattle.hs_entry.specs.declared.entry.Entry.TheVariants as kind
use Rattle.hs_quiet.specs.Causes.{HasCause, OwnWaits, SomeWaits, StoresFor, TakesRoomFor, asker_of}
use Rattle.hs_model.specs.Op.{written_address}
use Rattle.hs_quiet.proofs.GoingGoodLemmas.{IsGood, Most, NoLine, NoShard, ViewWaits}
use Rattle.hs_quiet.proofs.StayLemmas.{IsLed, led_by}
use Rattle.hs_limits.specs.declared.address.Address.{Address}
use Rattle.hs_memory.specs.Forget.{named as named_by}
use Rattle.hs_model.specs.declared.op.Op.{Op}
use Rattle.hs_model.specs.declared.op.Op.TheVariants as op
use Rattle.hs_ops.specs.Speaking.{wanted_address}
use Rattle.hs_replica.specs.declared.replica.Replica.{Replica}
use Rattle.hs_replica.specs.Group.{Group, committed, new_group, take_committed}
use Rattle.hs_replica.specs.Kinds.{is_block, is_root}
use Rattle.hs_tokens.specs.Seats.{Seats}

-- ---- who goes on by an entry

-- an operation waits for a Block of its address, or for an entry that takes its room, and this is one
abbrev pub IsWoken : (List ℕ → Address) → Entry → Waiting → Type 0
IsWoken name entry w = ((w.wait ≡ wait.Address) × StoresFor name w.operation.op entry) ⊎ ((w.wait ≡ wait.Room) × TakesRoomFor w.operation.op entry)

-- so does one of the entry's shard
abbrev pub Woken : (List ℕ → Address) → ℕ → Entry → ℕ → Waiting → Type 0
Woken name shard entry m w = (w.shard ≡ shard) × IsWoken name entry w

-- and the line that asked for the entry
abbrev pub Left : (List ℕ → Address) → ℕ → Entry → ℕ → Waiting → Type 0
Left name shard entry m w = (asked_by entry ≡ Some m) ⊎ Woken name shard entry m w

-- the shard whose current View it is
abbrev pub Unseen : ℕ → Entry → ℕ → ℕ → Type 0
Unseen shard entry view g = (g ≡ shard) × (entry ≡ kind.View view)

-- an entry that is neither a Block nor a Root wakes nobody
pub wakes_nobody : (name : List ℕ → Address) (entry : Entry) (w : Waiting) → named_by name entry ≡ None → is_block entry ≡ false → is_root entry ≡ false → IsWoken name entry w → ⊥
wakes_nobody name entry w none block root (inl h) = no_name (sym none ∙ h.1.stores)
  where
    no_name : {A : Type 0} {x : A} → None ≡ Some x → ⊥
    no_name e = cc e
wakes_nobody name entry w none block root (inr h) = no_room h.1
  where
    apart : true ≡ false → ⊥
    apart e = cc e

    no_room : TakesRoomFor w.operation.op entry → ⊥
    no_room (inl b) = apart (sym b.1 ∙ block)
    no_room (inr r) = apart (sym r.1 ∙ root)

-- ---- the core's test finds them

-- an address that is written is wanted at any sessions
wanted_written : (seats : Seats) (o : Op) (a : Address) → written_address o ≡ Some a → wanted_address seats o ≡ Some a
wanted_written seats (op.Write session payload handles address) a e = e
wanted_written seats (op.Open session) a e = absurd (cc e)
wanted_written seats (op.Close session) a e = absurd (cc e)
wanted_written seats (op.Read session handle) a e = absurd (cc e)
wanted_written seats (op.Look session key) a e = absurd (cc e)
wanted_written seats (op.Root session key handle) a e = absurd (cc e)
wanted_written seats (op.Drop key) a e = absurd (cc e)
wanted_written seats (op.Forget session handle) a e = absurd (cc e)
wanted_written seats (op.Name session handle) a e = absurd (cc e)
wanted_written seats op.Delete a e = absurd (cc e)
wanted_written seats op.Stat a e = absurd (cc e)

-- what is for this address is found by it
for_address : (c : Core) (o : Op) (x : Option Address) (a : Address) → written_address o ≡ Some a → x ≡ Some a → option_map_or (λ b. is_address b (wanted_address c.sessions o)) x false ≡ true
for_address c o x a wanted is =
    ap (λ (y : Option Address). option_map_or (λ b. is_address b (wanted_address c.sessions o)) y false) is
    ∙ ap (λ (y : Option Address). is_address a y) (wanted_written c.sessions o a wanted)
    ∙ (bytes_eq-Decides a.0 a.0).1 refl

module _ (name : List ℕ → Address) (c : Core) (w : Waiting) where
  block_wakes : (line least : ℕ) (bytes : List ℕ) (x : Option Address) → x ≡ Some (name bytes) → IsWoken name (kind.Block line least bytes) w → wakes (kind.Block line least bytes) x c w ≡ true
  block_wakes line least bytes x is (inl h) =
      ap (λ (y : Wait). wakes (kind.Block line least bytes) x c (record w { wait = y })) h.0
      ∙ ap (λ b. b || false) (for_address c w.operation.op x h.1.address h.1.wanted (is ∙ h.1.stores))
  block_wakes line least bytes x is (inr h) = by_room h.1
    where
      by_room : TakesRoomFor w.operation.op (kind.Block line least bytes) → wakes (kind.Block line least bytes) x c w ≡ true
      by_room (inl b) = ap (λ (y : Wait). wakes (kind.Block line least bytes) x c (record w { wait = y })) h.0 ∙ b.0
      by_room (inr r) = absurd (cc r.1)

  root_wakes : (line held : ℕ) (kept : Address) (key : List ℕ) (x : Option Address) → IsWoken name (kind.Root line held kept key) w → wakes (kind.Root line held kept key) x c w ≡ true
  root_wakes line held kept key x (inl h) = absurd (cc h.1.stores)
  root_wakes line held kept key x (inr h) = by_room h.1
    where
      by_room : TakesRoomFor w.operation.op (kind.Root line held kept key) → wakes (kind.Root line held kept key) x c w ≡ true
      by_room (inl b) = absurd (cc b.1)
      by_room (inr r) = ap (λ (y : Wait). wakes (kind.Root line held kept key) x c (record w { wait = y })) h.0 ∙ r.0

  pub woken_wakes : (entry : Entry) (x : Option Address) → x ≡ named_by name entry → IsWoken name entry w → wakes entry x c w ≡ true
  woken_wakes (kind.Block line least bytes) x is h = block_wakes line least bytes x is h
  woken_wakes (kind.Root line held kept key) x is h = root_wakes line held kept key x h
  woken_wakes (kind.View view) x is h = absurd (wakes_nobody name (kind.View view) w refl refl refl h)
  woken_wakes (kind.Mark line least block a) x is h = absurd (wakes_nobody name (kind.Mark line least block a) w refl refl refl h)
  woken_wakes (kind.Drop line key) x is h = absurd (wakes_nobody name (kind.Drop line key) w refl refl refl h)
  woken_wakes (kind.Enter line epoch) x is h = absurd (wakes_nobody name (kind.Enter line epoch) w refl refl refl h)
  woken_wakes (kind.Got from epoch round total deltas) x is h = absurd (wakes_nobody name (kind.Got from epoch round total deltas) w refl refl refl h)
  woken_wakes (kind.Base view epoch swept round frames) x is h = absurd (wakes_nobody name (kind.Base view epoch swept round frames) w refl refl refl h)
  woken_wakes (kind.KeptBlock born mark flags count bytes) x is h = absurd (wakes_nobody name (kind.KeptBlock born mark flags count bytes) w refl refl refl h)
  woken_wakes (kind.KeptRoot created dropped counted address key) x is h = absurd (wakes_nobody name (kind.KeptRoot created dropped counted address key) w refl refl refl h)
  woken_wakes (kind.KeptRound way other epoch round total deltas) x is h = absurd (wakes_nobody name (kind.KeptRound way other epoch round total deltas) w refl refl refl h)

-- ---- the core behind it

committed_view : (group : Group) → (take_committed group).view ≡ group.view
committed_view group = by_next (committed group)
  where
    by_next : (found : Option (ℕ × Entry)) → (option_map_or (λ (x : ℕ × Entry). record group { front = x.0; waiting = drop 1 group.waiting }) found group).view ≡ group.view
    by_next None = refl
    by_next (Some x) = refl

committed_copies : (group : Group) → (take_committed group).copies ≡ group.copies
committed_copies group = by_next (committed group)
  where
    by_next : (found : Option (ℕ × Entry)) → (option_map_or (λ (x : ℕ × Entry). record group { front = x.0; waiting = drop 1 group.waiting }) found group).copies ≡ group.copies
    by_next None = refl
    by_next (Some x) = refl

next_place : (front place : ℕ) → front + 1 + suc place ≡ front + 1 + 1 + place
next_place front place = omega arith

module _ (name : List ℕ → Address) (shard number : ℕ) (entry : Entry) (c : Core) (next : committed (group_of shard c) ≡ Some (number, entry)) where
  here : group_of shard (taken shard entry c) ≡ take_committed (group_of shard c)
  here = taken_here shard number entry c next

  there : (g : ℕ) → (g ≡ shard → ⊥) → group_of g (taken shard entry c) ≡ group_of g c
  there g d = get_or-set_other c.groups shard g (take_committed (group_of shard c)) (new_group (shape_of c) g 0 0 []) d

  one : IsFirst (group_of shard c) number entry
  one = committed_first (group_of shard c) number entry next

  -- what is as before of each list
  same_of : {A : Type 0} (f : Group → A) → f (take_committed (group_of shard c)) ≡ f (group_of shard c) → (g : ℕ) → f (group_of g (taken shard entry c)) ≡ f (group_of g c)
  same_of f e g = by_shard (one_or_other g shard)
    where
      by_shard : (g ≡ shard) ⊎ (g ≡ shard → ⊥) → f (group_of g (taken shard entry c)) ≡ f (group_of g c)
      by_shard (inl is) = ap (λ k. f (group_of k (taken shard entry c))) is ∙ ap f here ∙ e ∙ ap (λ k. f (group_of k c)) (sym is)
      by_shard (inr d) = ap f (there g d)

  view_same : (g : ℕ) → (group_of g (taken shard entry c)).view ≡ (group_of g c).view
  view_same g = same_of (λ (x : Group). x.view) (committed_view (group_of shard c)) g

  behind : (place : ℕ) (e : Entry) → slice_get (group_of shard c).waiting (suc place) ≡ Some e → slice_get (group_of shard (taken shard entry c)).waiting place ≡ Some e
  behind place e at =
      ap (λ (x : Group). slice_get x.waiting place) here ∙ ap (λ (es : List Entry). slice_get es place) one.taken.waiting ∙ at_front (group_of shard c).waiting place ∙ at

  -- an entry that waited is the one that is taken, or waits still
  some_here : (P : Entry → Type 0) → SomeWaits c shard P → P entry ⊎ SomeWaits (taken shard entry c) shard P
  some_here P h = by_place h.place h.at
    where
      by_place : (place : ℕ) → slice_get (group_of shard c).waiting place ≡ Some h.entry → P entry ⊎ SomeWaits (taken shard entry c) shard P
      by_place zero at = inl (subst (λ e. P e) (some_is h.entry entry (sym at ∙ one.first)) h.is)
      by_place (suc place) at = inr (record { place = place; entry = h.entry; at = behind place h.entry at; is = h.is })

  some_taken : (P : Entry → Type 0) (g : ℕ) → SomeWaits c g P → ((g ≡ shard) × P entry) ⊎ SomeWaits (taken shard entry c) g P
  some_taken P g h = by_shard (one_or_other g shard)
    where
      with_shard : (g ≡ shard) → P entry ⊎ SomeWaits (taken shard entry c) shard P → ((g ≡ shard) × P entry) ⊎ SomeWaits (taken shard entry c) g P
      with_shard is (inl p) = inl (is, p)
      with_shard is (inr k) = inr (subst (λ j. SomeWaits (taken shard entry c) j P) (sym is) k)

      by_shard : (g ≡ shard) ⊎ (g ≡ shard → ⊥) → ((g ≡ shard) × P entry) ⊎ SomeWaits (taken shard entry c) g P
      by_shard (inl is) = with_shard is (some_here P (subst (λ j. SomeWaits c j P) is h))
      by_shard (inr d) = inr (record { place = h.place; entry = h.entry; at = ap (λ (x : Group). slice_get x.waiting h.place) (there g d) ∙ h.at; is = h.is })

  own_here : (number line : ℕ) → OwnWaits c shard number line → (asked_by entry ≡ Some line) ⊎ OwnWaits (taken shard entry c) shard number line
  own_here number line h = by_place h.place h.at h.numbered
    where
      rises : front_of shard (taken shard entry c) ≡ front_of shard c + 1
      rises = ap (λ (x : Group). x.front) here ∙ one.taken.front

      by_place : (place : ℕ) → slice_get (group_of shard c).waiting place ≡ Some h.entry → number ≡ front_of shard c + 1 + place → (asked_by entry ≡ Some line) ⊎ OwnWaits (taken shard entry c) shard number line
      by_place zero at n = inl (ap (λ e. asked_by e) (some_is entry h.entry (sym one.first ∙ at)) ∙ h.asked)
      by_place (suc place) at n = inr (record {
        place = place;
        entry = h.entry;
        at = behind place h.entry at;
        numbered = n ∙ next_place (front_of shard c) place ∙ ap (λ f. f + 1 + place) (sym rises);
        asked = h.asked;
      })

  own_taken : (g number line : ℕ) → OwnWaits c g number line → (asked_by entry ≡ Some line) ⊎ OwnWaits (taken shard entry c) g number line
  own_taken g number line h = by_shard (one_or_other g shard)
    where
      with_shard : (g ≡ shard) → (asked_by entry ≡ Some line) ⊎ OwnWaits (taken shard entry c) shard number line → (asked_by entry ≡ Some line) ⊎ OwnWaits (taken shard entry c) g number line
      with_shard is (inl p) = inl p
      with_shard is (inr k) = inr (subst (λ j. OwnWaits (taken shard entry c) j number line) (sym is) k)

      by_shard : (g ≡ shard) ⊎ (g ≡ shard → ⊥) → (asked_by entry ≡ Some line) ⊎ OwnWaits (taken shard entry c) g number line
      by_shard (inl is) = with_shard is (own_here number line (subst (λ j. OwnWaits c j number line) is h))
      by_shard (inr d) = inr (record {
        place = h.place;
        entry = h.entry;
        at = ap (λ (x : Group). slice_get x.waiting h.place) (there g d) ∙ h.at;
        numbered = h.numbered ∙ ap (λ f. f + 1 + h.place) (sym (ap (λ (x : Group). x.front) (there g d)));
        asked = h.asked;
      })

  -- ---- causes

  left_by : (l : ℕ) (w : Waiting) (what : Wait) → w.wait ≡ what → HasCause name c (asker_of l w) what → Left name shard entry l w ⊎ HasCause name (taken shard entry c) (asker_of l w) what
  left_by l w wait.View is h = inr h
  left_by l w wait.Address is h = by_entry (some_taken (StoresFor name w.operation.op) w.shard h)
    where
      by_entry : ((w.shard ≡ shard) × StoresFor name w.operation.op entry) ⊎ SomeWaits (taken shard entry c) w.shard (StoresFor name w.operation.op)
          → Left name shard entry l w ⊎ SomeWaits (taken shard entry c) w.shard (StoresFor name w.operation.op)
      by_entry (inl p) = inl (inr (p.0, inl (is, p.1)))
      by_entry (inr k) = inr k
  left_by l w wait.Room is h = by_entry (some_taken (TakesRoomFor w.operation.op) w.shard h)
    where
      by_entry : ((w.shard ≡ shard) × TakesRoomFor w.operation.op entry) ⊎ SomeWaits (taken shard entry c) w.shard (TakesRoomFor w.operation.op)
          → Left name shard entry l w ⊎ SomeWaits (taken shard entry c) w.shard (TakesRoomFor w.operation.op)
      by_entry (inl p) = inl (inr (p.0, inr (is, p.1)))
      by_entry (inr k) = inr k
  left_by l w (wait.Bytes n) is h = inr (h.0, record { peer = h.1.peer; own = h.1.own; good = h.1.good; jobs = record { place = h.1.jobs.place; at = h.1.jobs.at } })
  left_by l w (wait.Entry n) is h = by_entry (own_taken w.shard n l h)
    where
      by_entry : (asked_by entry ≡ Some l) ⊎ OwnWaits (taken shard entry c) w.shard n l → Left name shard entry l w ⊎ OwnWaits (taken shard entry c) w.shard n l
      by_entry (inl p) = inl (inl p)
      by_entry (inr k) = inr k

  taken_most : Most name NoLine NoShard c → Most name (Left name shard entry) (Unseen shard entry (group_of shard (taken shard entry c)).view) (taken shard entry c)
  taken_most m = record {
    views = m.views;
    viewing = λ g low off. by_view g (m.viewing g low off);
    caused = λ l w at. by_line l w (m.caused l w at);
  }
    where
      by_entry : (g : ℕ) → ((g ≡ shard) × (entry ≡ kind.View (group_of g c).view)) ⊎ SomeWaits (taken shard entry c) g (λ e. e ≡ kind.View (group_of g c).view)
          → Unseen shard entry (group_of shard (taken shard entry c)).view g ⊎ ViewWaits (taken shard entry c) g
      by_entry g (inl p) = inl (p.0, p.1 ∙ ap (λ k. kind.View (group_of k c).view) p.0 ∙ ap (λ v. kind.View v) (sym (view_same shard)))
      by_entry g (inr h) = inr (record { place = h.place; entry = h.entry; at = h.at; is = h.is ∙ ap (λ v. kind.View v) (sym (view_same g)) })

      by_view : (g : ℕ) → ⊥ ⊎ ViewWaits c g → Unseen shard entry (group_of shard (taken shard entry c)).view g ⊎ ViewWaits (taken shard entry c) g
      by_view g (inl u) = absurd u
      by_view g (inr h) = by_entry g (some_taken (λ e. e ≡ kind.View (group_of g c).view) g h)

      by_line : (l : ℕ) (w : Waiting) → ⊥ ⊎ HasCause name c (asker_of l w) w.wait → Left name shard entry l w ⊎ HasCause name (taken shard entry c) (asker_of l w) w.wait
      by_line l w (inl u) = absurd u
      by_line l w (inr h) = left_by l w w.wait refl h

  taken_led : IsLed c → IsLed (taken shard entry c)
  taken_led h = led_by c (taken shard entry c) h refl (length-set c.groups shard (take_committed (group_of shard c))) refl
      (λ g. same_of (λ (x : Group). length x.copies) (ap (λ (xs : List Replica). length xs) (committed_copies (group_of shard c))) g)

  pub taken_orderly : IsOrderly name c → IsOrderly name (taken shard entry c)
  taken_orderly its =
      let first : Core = change_group shard take_committed c in
      let its_first : IsOrderly name first = committed_orderly name shard c its in
      with_lists name first (taken shard entry c) its_first refl refl refl refl
      (λ g place k x at by. asked_alike name first (taken shard entry c) g (front_of g first + 1 + place) (front_of g (taken shard entry c) + 1 + place) k x refl refl refl refl refl (its_first.asked g place k x at by))
      (taken_room name shard number entry c its next)

  pub taken_good : IsGood name NoLine NoShard c → IsGood name (Left name shard entry) (Unseen shard entry (group_of shard (taken shard entry c)).view) (taken shard entry c)
  taken_good g = record { orderly = taken_orderly g.orderly; led = taken_led g.led; valid = g.valid; most = taken_most g.most }
