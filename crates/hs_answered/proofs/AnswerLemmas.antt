-- What an answer by the view alone leaves, and its deed, are those of the plain store's judge.
use Rattle.std.proofs.Common.{◌≡◌, ℕ, ◌⊎◌, inl, inr, Bool, true, false, cond, List, [], ◌∷◌, Option, Some, None, refl, sym, ap, ◌∙◌, subst, length, slice_index, unwrap_or}
use Rattle.std.proofs.lemmas.Bool.{false≢true}
use Rattle.std.proofs.lemmas.Map.Made.{lookup-map_values}
use Rattle.std.specs.BTreeMap.{insert_entry, is_at}
use Rattle.std.specs.List.{range_with_len}
use Rattle.std.specs.Map.{remove_entry, set_value}
use Rattle.std.specs.Option.{option_map, option_or}
use Rattle.hs_answered.proofs.RefusalLemmas.{IsOfKind, Stops, busy_stops, store_stops, they_stop, view_stops}
use Rattle.hs_answered.proofs.ShownLemmas.{held_is}
use Rattle.hs_limits.specs.declared.address.Address.{Address}
use Rattle.hs_limits.specs.declared.address.Held.{Held}
use Rattle.hs_limits.specs.declared.limits.Limits.{Limits}
use Rattle.hs_model.specs.declared.deed.Deed.TheVariants as deed
use Rattle.hs_model.specs.declared.op.Op.{Op}
use Rattle.hs_model.specs.declared.op.Op.TheVariants as op
use Rattle.hs_model.specs.declared.reply.Reply.{Reply}
use Rattle.hs_model.specs.declared.reply.Reply.TheVariants as reply
use Rattle.hs_model.specs.Judge.{Judged, address_of, bytes_of, forgetting, granted, held_or, judge, judged, kept_address, nothing, pointers_at, refusals, refused, roots_with, written_reply}
use Rattle.hs_model.specs.Refusals.{first}
use Rattle.hs_model.specs.Store.{held_at as store_held}
use Rattle.hs_model.specs.Store.{Root, Session, Store, block_at, helds_of, hold_all, holding_all, new_session, next_of, put_session, retained_at, root_epoch, session_at, text_cmp, with_roots, with_sessions}
use Rattle.hs_model.proofs.MapLemmas.{map-insert_entry, map-set_value}
use Rattle.hs_ops.specs.Answers.{deed_of, gained, is_done, root_address, seats_after}
use Rattle.hs_ops.specs.Going.{at_once, judged_in, read_reply}
use Rattle.hs_ops.specs.Refusals.{refusal_of}
use Rattle.hs_ops.specs.Views.{OpView, as_session, kept_in, now_in, open_in}
use Rattle.hs_roots.specs.declared.root.RootRecord.{RootRecord}
use Rattle.hs_shown.specs.Showing.{Shows, as_sessions}
use Rattle.hs_tokens.specs.Seats.{Seat, Seats, held_at, hold, name_cmp, new_seat, put_seat, seat_of, with_held, with_helds, without_handle}

-- what hs_shown says of answers
abbrev pub ByTheView : Type 0
ByTheView = (limits : Limits) (s : Store) (o : Op) (v : OpView) (r : Reply) → Shows limits s o v → judged_in v o ≡ Some r → (judge limits s o).reply ≡ r

abbrev pub ByTheBytes : Type 0
ByTheBytes = (limits : Limits) (s : Store) (v : OpView) (name : List ℕ) (handle : ℕ) → Shows limits s (op.Read name handle) v → refusal_of v (op.Read name handle) ≡ None
    → read_reply v name (bytes_of (block_at s (address_of s name handle))) ≡ (judge limits s (op.Read name handle)).reply

some_is : {A : Type 0} (x y : A) → Some x ≡ Some y → x ≡ y
some_is x y e = cc

-- ---- the judge

pub judge_refused : (limits : Limits) (s : Store) (o : Op) (r : Reply) → first (refusals limits s o) ≡ Some r → judge limits s o ≡ refused o s r
unfolding judge
judge_refused limits s o r e = ap (λ (x : Option Reply). judged s o x) e

pub judge_granted : (limits : Limits) (s : Store) (o : Op) → first (refusals limits s o) ≡ None → judge limits s o ≡ granted s o
unfolding judge
judge_granted limits s o e = ap (λ (x : Option Reply). judged s o x) e

granted_done : (s : Store) (o : Op) → is_done (granted s o).reply ≡ true
unfolding granted
granted_done s (op.Open name) = refl
granted_done s (op.Close name) = refl
granted_done s (op.Write name payload handles address) = go _ _ _
  where
    go : (dup : Bool) (handle epoch : ℕ) → is_done (written_reply dup handle epoch) ≡ true
    go true handle epoch = refl
    go false handle epoch = refl
granted_done s (op.Read name handle) = refl
granted_done s (op.Look name key) = refl
granted_done s (op.Root name key handle) = refl
granted_done s (op.Drop key) = refl
granted_done s (op.Forget name handle) = refl
granted_done s (op.Name name handle) = refl
granted_done s op.Delete = refl
granted_done s op.Stat = refl

stops_at : (x : Option Reply) (r : Reply) → IsOfKind Stops x → x ≡ Some r → is_done r ≡ false
stops_at x r h e = subst (λ y. IsOfKind Stops y) e h

pub view_refusal_stops : (v : OpView) (o : Op) (r : Reply) → refusal_of v o ≡ Some r → is_done r ≡ false
view_refusal_stops v o r e = stops_at (refusal_of v o) r (view_stops Stops they_stop v o (busy_stops v)) e

pub store_refusal_stops : (limits : Limits) (s : Store) (o : Op) (r : Reply) → first (refusals limits s o) ≡ Some r → is_done r ≡ false
store_refusal_stops limits s o r e = stops_at (first (refusals limits s o)) r (store_stops Stops they_stop limits s o) e

mapped_done : {A : Type 0} (x : Option A) (r : Reply) → option_map (λ (y : A). reply.Ok) x ≡ Some r → is_done r ≡ true
mapped_done None r e = cc e
mapped_done (Some y) r e = ap (λ q. is_done q) (sym (some_is reply.Ok r e))

at_once_done : (v : OpView) (o : Op) (r : Reply) → at_once v o ≡ Some r → is_done r ≡ true
at_once_done v (op.Open name) r e = ap (λ q. is_done q) (sym (some_is _ r e))
at_once_done v (op.Close name) r e = ap (λ q. is_done q) (sym (some_is _ r e))
at_once_done v (op.Write name payload handles address) r e = cc e
at_once_done v (op.Read name handle) r e = cc e
at_once_done v (op.Look name key) r e = ap (λ q. is_done q) (sym (some_is _ r e))
at_once_done v (op.Root name key handle) r e = mapped_done (kept_in v key) r e
at_once_done v (op.Drop key) r e = cc e
at_once_done v (op.Forget name handle) r e = ap (λ q. is_done q) (sym (some_is _ r e))
at_once_done v (op.Name name handle) r e = ap (λ q. is_done q) (sym (some_is _ r e))
at_once_done v op.Delete r e = cc e
at_once_done v op.Stat r e = ap (λ q. is_done q) (sym (some_is _ r e))

-- ---- sessions

module _ (s : Store) (seats : Seats) (same : s.sessions ≡ as_sessions seats) where
  unchanged : with_sessions s (as_sessions seats) ≡ s
  unchanged = ap (λ x. with_sessions s x) (sym same)

  pub session_is : (name : List ℕ) → session_at s name ≡ option_map as_session (seat_of name seats)
  session_is name =
      ap (λ (x : List (List ℕ × Session)). session_at (with_sessions s x) name) same ∙ lookup-map_values as_session (is_at (text_cmp name)) seats

  put_is : (name : List ℕ) (f : Seat → Seat) (g : Session → Session) → ((x : Seat) → as_session (f x) ≡ g (as_session x))
      → with_sessions s (as_sessions (put_seat name (option_map f (seat_of name seats)) seats)) ≡ put_session s name (option_map g (session_at s name))
  put_is name f g like = go (seat_of name seats) ∙ ap (λ x. put_session s name (option_map g x)) (sym (session_is name))
    where
      go : (seat : Option Seat) → with_sessions s (as_sessions (put_seat name (option_map f seat) seats)) ≡ put_session s name (option_map g (option_map as_session seat))
      go None = unchanged
      go (Some seat) =
          ap (λ x. with_sessions s x) (map-set_value as_session (is_at (name_cmp name)) seats (f seat))
          ∙ ap (λ x. with_sessions s (set_value (is_at (text_cmp name)) (as_sessions seats) x)) (like seat)
          ∙ ap (λ x. with_sessions s (set_value (is_at (text_cmp name)) x (g (as_session seat)))) (sym same)

  holding_is : (helds : List Held) (seat : Seat) → as_session (with_helds helds seat) ≡ holding_all helds (as_session seat)
  holding_is [] seat = refl
  holding_is (held ∷ rest) seat = holding_is rest (with_held held seat)

  pub hold_is : (name : List ℕ) (helds : List Held) → with_sessions s (as_sessions (hold name helds seats)) ≡ hold_all s name helds
  hold_is name helds = put_is name (with_helds helds) (holding_all helds) (holding_is helds)

map_remove : (test : List ℕ → Bool) (seats : Seats) → as_sessions (remove_entry test seats) ≡ remove_entry test (as_sessions seats)
map_remove test [] = refl
map_remove test (e ∷ es) = go (test e.0) (map_remove test es)
  where
    go : (b : Bool) → as_sessions (remove_entry test es) ≡ remove_entry test (as_sessions es)
        → as_sessions (cond b es (e ∷ remove_entry test es)) ≡ cond b (as_sessions es) ((e.0, as_session e.1) ∷ remove_entry test (as_sessions es))
    go true ih = refl
    go false ih = ap (λ rest. (e.0, as_session e.1) ∷ rest) ih

-- ---- what is granted at once

-- the deed of a reply, and the store that it leaves
pub record Leaves (s : Store) (o : Op) (v : OpView) (pointers : List Address) (r : Reply) (j : Judged) : Type 0 where
  pub deed : deed_of v.seats o r ≡ j.deed
  pub store : with_sessions s (as_sessions (seats_after (gained v pointers o) o r v.seats)) ≡ j.store

root_is : (root : Option RootRecord) → root_address root ≡ unwrap_or (option_map (λ (r : RootRecord). r.address) root) nothing.address
root_is None = refl
root_is (Some root) = refl

kept_is : (root : Option Root) → kept_address root ≡ unwrap_or (option_map (λ (r : Root). r.address) root) nothing.address
kept_is None = refl
kept_is (Some root) = refl

module _ (limits : Limits) (s : Store) (v : OpView) (pointers : List Address) where
  opens : (name : List ℕ) → Shows limits s (op.Open name) v → Leaves s (op.Open name) v pointers reply.Ok (granted s (op.Open name))
  unfolding granted deed_of seats_after gained
  opens name shows = record {
    deed = refl;
    store =
        ap (λ x. with_sessions s x) (map-insert_entry as_session name_cmp v.seats name new_seat)
        ∙ ap (λ x. with_sessions s (insert_entry text_cmp x name new_session)) (sym shows.sessions);
  }

  closes : (name : List ℕ) → Shows limits s (op.Close name) v → Leaves s (op.Close name) v pointers reply.Ok (granted s (op.Close name))
  unfolding granted deed_of seats_after gained
  closes name shows = record {
    deed = refl;
    store =
        ap (λ x. with_sessions s x) (map_remove (is_at (name_cmp name)) v.seats)
        ∙ ap (λ x. with_sessions s (remove_entry (is_at (text_cmp name)) x)) (sym shows.sessions);
  }

  looks : (name key : List ℕ) → Shows limits s (op.Look name key) v
      → Leaves s (op.Look name key) v pointers (reply.Held (next_of (open_in v name)) (now_in v)) (granted s (op.Look name key))
  unfolding granted deed_of seats_after gained
  looks name key shows = record {
    deed = ap (λ (x : Option Session). deed.Looked name key (next_of x)) (sym (session_is s v.seats shows.sessions name));
    store =
        hold_is s v.seats shows.sessions name (record { address = root_address (kept_in v key); epoch = now_in v } ∷ [])
        ∙ ap (λ (a : Address). hold_all s name (record { address = a; epoch = now_in v } ∷ [])) address
        ∙ ap (λ (e : ℕ). hold_all s name (record { address = kept_address (retained_at s key); epoch = e } ∷ [])) epoch;
  }
    where
      address : root_address (kept_in v key) ≡ kept_address (retained_at s key)
      address =
          root_is (kept_in v key) ∙ ap (λ (x : Option Address). unwrap_or x nothing.address) (shows.kept key refl) ∙ sym (kept_is (retained_at s key))

      epoch : now_in v ≡ root_epoch s key
      epoch = ap (λ (es : List ℕ). slice_index es v.shard) shows.epochs ∙ ap (λ (k : ℕ). slice_index s.epochs k) shows.judging

  roots : (name key : List ℕ) (handle : ℕ) (root : RootRecord) → kept_in v key ≡ Some root → Shows limits s (op.Root name key handle) v
      → Leaves s (op.Root name key handle) v pointers reply.Ok (granted s (op.Root name key handle))
  unfolding granted deed_of seats_after gained
  roots name key handle root e shows = record {
    deed = ap (λ (held : Option Held). deed.Rooted key (unwrap_or held nothing).address) (sym (held_is s v.seats shows.sessions name handle));
    store = unchanged s v.seats shows.sessions ∙ sym (stays (retained_at s key) (sym (ap (λ (x : Option RootRecord). option_map (λ (r : RootRecord). r.address) x) e) ∙ shows.kept key refl) (record { key = key; address = address_of s name handle; dropped = None }));
  }
    where
      stays : (found : Option Root) → Some root.address ≡ option_map (λ (r : Root). r.address) found → (new : Root) → with_roots s (roots_with found s.roots new) ≡ s
      stays None f new = cc f
      stays (Some old) f new = refl

  forgets : (name : List ℕ) (handle : ℕ) → Shows limits s (op.Forget name handle) v → Leaves s (op.Forget name handle) v pointers reply.Ok (granted s (op.Forget name handle))
  unfolding granted deed_of seats_after gained
  forgets name handle shows = record { deed = refl; store = put_is s v.seats shows.sessions name (without_handle handle) (forgetting handle) (λ seat. refl) }

  names : (name : List ℕ) (handle : ℕ) (a : Address) → Shows limits s (op.Name name handle) v → Leaves s (op.Name name handle) v pointers (reply.Name a) (granted s (op.Name name handle))
  unfolding granted deed_of seats_after gained
  names name handle a shows = record { deed = refl; store = unchanged s v.seats shows.sessions }

  counts : (blocks roots sessions : ℕ) (epochs swept : List ℕ) → Shows limits s op.Stat v → Leaves s op.Stat v pointers (reply.Stat blocks roots sessions epochs swept) (granted s op.Stat)
  unfolding granted deed_of seats_after gained
  counts blocks roots sessions epochs swept shows = record { deed = refl; store = unchanged s v.seats shows.sessions }

  at_once_leaves : (o : Op) (r : Reply) → Shows limits s o v → at_once v o ≡ Some r → Leaves s o v pointers r (granted s o)
  at_once_leaves (op.Open name) r shows e = subst (λ q. Leaves s (op.Open name) v pointers q (granted s (op.Open name))) (some_is _ r e) (opens name shows)
  at_once_leaves (op.Close name) r shows e = subst (λ q. Leaves s (op.Close name) v pointers q (granted s (op.Close name))) (some_is _ r e) (closes name shows)
  at_once_leaves (op.Write name payload handles address) r shows e = cc e
  at_once_leaves (op.Read name handle) r shows e = cc e
  at_once_leaves (op.Look name key) r shows e = subst (λ q. Leaves s (op.Look name key) v pointers q (granted s (op.Look name key))) (some_is _ r e) (looks name key shows)
  at_once_leaves (op.Root name key handle) r shows e = go (kept_in v key) refl e
    where
      go : (found : Option RootRecord) → kept_in v key ≡ found → option_map (λ (root : RootRecord). reply.Ok) found ≡ Some r → Leaves s (op.Root name key handle) v pointers r (granted s (op.Root name key handle))
      go None k e = cc e
      go (Some root) k e = subst (λ q. Leaves s (op.Root name key handle) v pointers q (granted s (op.Root name key handle))) (some_is _ r e) (roots name key handle root k shows)
  at_once_leaves (op.Drop key) r shows e = cc e
  at_once_leaves (op.Forget name handle) r shows e = subst (λ q. Leaves s (op.Forget name handle) v pointers q (granted s (op.Forget name handle))) (some_is _ r e) (forgets name handle shows)
  at_once_leaves (op.Name name handle) r shows e = subst (λ q. Leaves s (op.Name name handle) v pointers q (granted s (op.Name name handle))) (some_is _ r e) (names name handle _ shows)
  at_once_leaves op.Delete r shows e = cc e
  at_once_leaves op.Stat r shows e = subst (λ q. Leaves s op.Stat v pointers q (granted s op.Stat)) (some_is _ r e) (counts _ _ _ _ _ shows)

  -- ---- what is refused

  refusal_leaves : (o : Op) (r : Reply) → s.sessions ≡ as_sessions v.seats → is_done r ≡ false → Leaves s o v pointers r (refused o s r)
  unfolding deed_of seats_after
  refusal_leaves o r same e = record {
    deed = rw e refl;
    store = rw e (unchanged s v.seats same);
  }

  -- ---- either

  -- a refusal leaves what the judge leaves, where he refuses so too
  pub refused_leaves : (o : Op) (r : Reply) → s.sessions ≡ as_sessions v.seats → is_done r ≡ false → (judge limits s o).reply ≡ r → Leaves s o v pointers r (judge limits s o)
  refused_leaves o r same stops e = by_first (first (refusals limits s o)) refl
    where
      by_first : (x : Option Reply) → first (refusals limits s o) ≡ x → Leaves s o v pointers r (judge limits s o)
      by_first None f = absurd (false≢true (sym stops ∙ ap (λ q. is_done q) (sym e ∙ ap (λ (j : Judged). j.reply) (judge_granted limits s o f)) ∙ granted_done s o))
      by_first (Some q) f =
          let told : q ≡ r = sym (ap (λ (j : Judged). j.reply) (judge_refused limits s o q f)) ∙ e in
          subst (λ j. Leaves s o v pointers r j) (sym (judge_refused limits s o r (f ∙ ap (λ x. Some x) told))) (refusal_leaves o r same stops)

  -- what is granted leaves what the judge leaves, where he refuses nothing
  pub granted_leaves : (o : Op) (r : Reply) → is_done (judge limits s o).reply ≡ true → Leaves s o v pointers r (granted s o) → Leaves s o v pointers r (judge limits s o)
  granted_leaves o r done leaves = by_first (first (refusals limits s o)) refl
    where
      by_first : (x : Option Reply) → first (refusals limits s o) ≡ x → Leaves s o v pointers r (judge limits s o)
      by_first None f = subst (λ j. Leaves s o v pointers r j) (sym (judge_granted limits s o f)) leaves
      by_first (Some q) f =
          absurd (false≢true (sym (store_refusal_stops limits s o q f) ∙ ap (λ (j : Judged). is_done j.reply) (sym (judge_refused limits s o q f)) ∙ done))

  split_or : (a b : Option Reply) (r : Reply) → option_or a b ≡ Some r → (a ≡ Some r) ⊎ ((a ≡ None) × (b ≡ Some r))
  split_or None b r e = inr (refl, e)
  split_or (Some q) b r e = inl e

  pub leaves : ByTheView → (o : Op) (r : Reply) → Shows limits s o v → judged_in v o ≡ Some r → Leaves s o v pointers r (judge limits s o)
  unfolding judged_in
  leaves law o r shows e = by_parts (split_or (refusal_of v o) (at_once v o) r e)
    where
      by_parts : (refusal_of v o ≡ Some r) ⊎ ((refusal_of v o ≡ None) × (at_once v o ≡ Some r)) → Leaves s o v pointers r (judge limits s o)
      by_parts (inl stops) = refused_leaves o r shows.sessions (view_refusal_stops v o r stops) (law limits s o v r shows e)
      by_parts (inr passes) =
          granted_leaves o r (ap (λ q. is_done q) (law limits s o v r shows e) ∙ at_once_done v o r passes.1) (at_once_leaves o r shows passes.1)

  -- ---- reads

  -- whatever bytes are told, the deed and the store are those of a read
  reads : (name : List ℕ) (handle : ℕ) (bytes : List ℕ) → Shows limits s (op.Read name handle) v → pointers ≡ pointers_at s (address_of s name handle)
      → Leaves s (op.Read name handle) v pointers (read_reply v name bytes) (granted s (op.Read name handle))
  unfolding granted deed_of seats_after gained
  reads name handle bytes shows same = record {
    deed =
        ap (λ (held : Option Held). deed.ReadBlock name (unwrap_or held nothing).address (unwrap_or held nothing).epoch (range_with_len (next_of (open_in v name)) v.pointers)) (sym held)
        ∙ ap (λ (n : ℕ). deed.ReadBlock name (address_of s name handle) (held_or s name handle).epoch (range_with_len (next_of (open_in v name)) n)) (shows.pointers (address_of s name handle) refl)
        ∙ ap (λ (x : Option Session). deed.ReadBlock name (address_of s name handle) (held_or s name handle).epoch (range_with_len (next_of x) (length (pointers_at s (address_of s name handle))))) (sym (session_is s v.seats shows.sessions name));
    store =
        hold_is s v.seats shows.sessions name (helds_of pointers (unwrap_or (held_at (seat_of name v.seats) handle) nothing).epoch)
        ∙ ap (λ (held : Option Held). hold_all s name (helds_of pointers (unwrap_or held nothing).epoch)) (sym held)
        ∙ ap (λ (all : List Address). hold_all s name (helds_of all (held_or s name handle).epoch)) same;
  }
    where
      held : store_held s name handle ≡ held_at (seat_of name v.seats) handle
      held = held_is s v.seats shows.sessions name handle

  pub read_leaves : ByTheBytes → (name : List ℕ) (handle : ℕ) (bytes : List ℕ) → Shows limits s (op.Read name handle) v → pointers ≡ pointers_at s (address_of s name handle)
      → refusal_of v (op.Read name handle) ≡ None → Leaves s (op.Read name handle) v pointers (read_reply v name bytes) (judge limits s (op.Read name handle))
  read_leaves law name handle bytes shows same free =
      granted_leaves (op.Read name handle) (read_reply v name bytes) (ap (λ q. is_done q) (sym (law limits s v name handle shows free))) (reads name handle bytes shows same)
