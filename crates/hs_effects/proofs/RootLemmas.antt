-- A Root that retains its address.
use Rattle.std.proofs.Common.{◌≡◌, ◌∙◌, sym, ap, subst, inl, inr, ℕ, ◌+◌, Bool, true, false, cond, not, ◌&&◌, ◌||◌, ◌==◌, List, [], ◌∷◌, length, Option, Some, None, is_some, is_none, refl, arith, nat_le, nat_lt, slice_index, unwrap_or}
use Rattle.std.proofs.lemmas.Bool.{eq-eqb, leb-false, lt-ltb}
use Rattle.std.specs.Option.{option_map}
use Rattle.hs_answered.specs.Judged.{judged_at}
use Rattle.hs_answered.specs.Standing.{store_with}
use Rattle.hs_answered.proofs.ShownLemmas.{held_is}
use Rattle.hs_awaiting.specs.declared.waiting.Waiting.{Waiting}
use Rattle.hs_core_words.specs.Looking.{catalogue_of, front_of, group_of, operation_of, shape_of}
use Rattle.hs_core_words.specs.Seeing.{view_for}
use Rattle.hs_core_words.specs.State.{Core}
use Rattle.hs_desk.specs.declared.what.What.TheVariants as what
use Rattle.hs_effects.specs.Answered.{HasAnswer, IsAnsweredBy, heard}
use Rattle.hs_effects.specs.Lawful.{IsLawful, MayFollow}
use Rattle.hs_effects.specs.Logged.{HasAsked, IsEntryOf, IsOrderly, IsOwn}
use Rattle.hs_effects.specs.Taking.{done_by, folds_behind, next_deed, setting_of, taken}
use Rattle.hs_effects.proofs.AnsweredLemmas.{by_parts, granted_is, has_answer, none_refused, not_full, seats_behind, some_same}
use Rattle.hs_effects.proofs.FoldLemmas.{taken_folds}
use Rattle.hs_effects.proofs.FreeLemmas.{root_free}
use Rattle.hs_effects.proofs.GroupLemmas.{committed_first}
use Rattle.hs_effects.proofs.RoomyLemmas.{root_room}
use Rattle.hs_effects.proofs.SweepLemmas.{ByViews, epoch_before, epoch_seen, store_is}
use Rattle.hs_entry.specs.declared.entry.Entry.{Entry}
use Rattle.hs_entry.specs.declared.entry.Entry.TheVariants as kind
use Rattle.hs_fold.specs.Runs.Facts.{Catalogue as Folded}
use Rattle.hs_fold.specs.Runs.Opened.{store_of}
use Rattle.hs_fold.specs.Shards.Happening.{Happening, changes, happen_by}
use Rattle.hs_joint.specs.Along.{happening_by}
use Rattle.hs_limits.specs.declared.address.Address.{Address}
use Rattle.hs_limits.specs.declared.address.Held.{Held}
use Rattle.hs_limits.specs.declared.limits.Limits.{Limits}
use Rattle.hs_model.specs.declared.deed.Deed.TheVariants as deed
use Rattle.hs_model.specs.declared.op.Op.{Op}
use Rattle.hs_model.specs.declared.op.Op.TheVariants as op
use Rattle.hs_model.specs.declared.reply.Reply.{Reply}
use Rattle.hs_model.specs.declared.reply.Reply.TheVariants as reply
use Rattle.hs_model.specs.Judge.{address_of, granted, judge, nothing, refusals, rooted, roots_with}
use Rattle.hs_model.specs.Refusals.{first, key_taken, no_handle, no_session, refused_when, roots_full, stale}
use Rattle.hs_model.specs.Store.{Root, Store, retained_at, root_epoch, roots_in, with_roots, with_sessions}
use Rattle.hs_ops.specs.Answers.{deed_of, gained, is_done, seats_after}
use Rattle.hs_ops.specs.Going.{effect_reply}
use Rattle.hs_ops.specs.Refusals.{refusal_of}
use Rattle.hs_ops.specs.Speaking.{judging_shard}
use Rattle.hs_ops.specs.Views.{OpView}
use Rattle.hs_replica.specs.Group.{committed}
use Rattle.hs_shard.specs.Clients.{only, put_root, root_refusal}
use Rattle.hs_shard.specs.Facts.{Catalogue, is_fresh}
use Rattle.hs_shown.specs.Showing.{Shows, as_sessions}
use Rattle.hs_tokens.specs.Seats.{Seats, found}
use Rattle.hs_fold.specs.Shards.Change.{keeps, may_keep}
use Rattle.hs_limits.specs.Limits.{greatest_limits}
use Rattle.hs_limits.specs.Shape.{shard_of_key}
use Rattle.hs_roots.specs.Refusals.{put_refusal}
use Rattle.hs_roots.specs.Roots.{retained_count, retained_of}
use Rattle.hs_roots.specs.Roots.{put_root as with_root}
use Rattle.hs_roots.specs.declared.fault.RootFault.TheVariants.{RootsFull}
use Rattle.hs_roots.specs.declared.root.RootRecord.{RootRecord}

-- what hs_shown says of a root
abbrev pub ByRooted : Type 0
ByRooted = (limits : Limits) (s : Store) (v : OpView) (name key : List ℕ) (handle : ℕ)
    → Shows limits s (op.Root name key handle) v → refusal_of v (op.Root name key handle) ≡ None
    → effect_reply v what.Rooted (op.Root name key handle) ≡ Some (judge limits s (op.Root name key handle)).reply

-- ---- what putting means

record IsPut (held : ℕ) (a : Address) (key : List ℕ) (c : Catalogue) : Type 0 where
  pub fresh : is_fresh held c ≡ true
  pub free : is_some (root_refusal a key c) ≡ false

put_tests : (held : ℕ) (a : Address) (key : List ℕ) (c : Catalogue) → (put_root held a key c).effect.what ≡ what.Rooted → IsPut held a key c
put_tests held a key c e = go (shard_of_key c.shape.shards key == c.shard) (is_fresh held c) (is_some (root_refusal a key c)) refl refl e
  where
    go : (m f r : Bool) → is_fresh held c ≡ f → is_some (root_refusal a key c) ≡ r
        → (cond (not m) (only what.Nothing c) (cond (not f || r) (only what.Refused c) (only what.Rooted (record c { roots = with_root key a c.epoch c.roots })))).effect.what ≡ what.Rooted → IsPut held a key c
    go false f r fe re w = absurd (cc w)
    go true false r fe re w = absurd (cc w)
    go true true true fe re w = absurd (cc w)
    go true true false fe re w = record { fresh = fe; free = re }

below : (a b : ℕ) → is_some (cond (nat_le a b) (Some (RootsFull a)) None) ≡ false → nat_lt (b + 0) a ≡ true
below a b e = go (nat_le a b) refl e
  where
    go : (x : Bool) → nat_le a b ≡ x → is_some (cond x (Some (RootsFull a)) None) ≡ false → nat_lt (b + 0) a ≡ true
    go true xe w = absurd (cc w)
    go false xe w = let less = leb-false a b xe in lt-ltb (b + 0) a (omega (arith, less))

first_none : (x : Option Reply) (rest : List (Option Reply)) → first (x ∷ rest) ≡ None → (x ≡ None) × (first rest ≡ None)
first_none None rest e = (refl, e)
first_none (Some q) rest e = absurd (cc e)

fourth : (a b c d e : Option Reply) → first (a ∷ b ∷ c ∷ d ∷ e ∷ []) ≡ None → d ≡ None
fourth a b c d e none =
    let one = (first_none a (b ∷ c ∷ d ∷ e ∷ []) none).1 in
    let two = (first_none b (c ∷ d ∷ e ∷ []) one).1 in
    let three = (first_none c (d ∷ e ∷ []) two).1 in
    (first_none d (e ∷ []) three).0

not_taken : (limits : Limits) (s : Store) (session key : List ℕ) (handle : ℕ) → first (refusals limits s (op.Root session key handle)) ≡ None → key_taken s key (address_of s session handle) ≡ None
unfolding refusals
not_taken limits s session key handle e =
    fourth (no_session s session) (no_handle s session (handle ∷ [])) (stale s session (root_epoch s key) (handle ∷ [])) (key_taken s key (address_of s session handle)) (roots_full limits s key) e

grants : (s : Store) (session key : List ℕ) (handle : ℕ) → granted s (op.Root session key handle) ≡ rooted s key (address_of s session handle)
unfolding granted
grants s session key handle = refl

root_deed : (seats : Seats) (session key : List ℕ) (handle : ℕ) → deed_of seats (op.Root session key handle) reply.Ok ≡ deed.Rooted key (found seats session handle).address
unfolding deed_of
root_deed seats session key handle = refl

module _ (views : ByViews) (law : ByRooted) (name : List ℕ → Address) (cs : List Folded) (core : Core) (shard number line : ℕ) (session key : List ℕ) (handle : ℕ) where
  abbrev f : Held
  f = found core.sessions session handle

  abbrev entry : Entry
  entry = kind.Root line f.epoch f.address key

  abbrev o : Op
  o = op.Root session key handle

  module _ (its : IsLawful name core cs) (order : IsOrderly name core) (leads : committed (group_of shard core) ≡ Some (number, entry)) (may : MayFollow (setting_of name core) cs (next_deed shard entry core))
      (w : Waiting) (at : operation_of line core ≡ Some w) (is : w.operation.op ≡ o) (did : (done_by shard entry core).effect.what ≡ what.Rooted) where
    abbrev here : Core
    here = taken shard entry core

    abbrev s : Store
    s = store_with cs core.sessions

    abbrev behind : List Folded
    behind = folds_behind name cs shard entry core

    abbrev t : Store
    t = store_with behind core.sessions

    abbrev old : Catalogue
    old = catalogue_of shard core

    abbrev v : OpView
    v = view_for shard o core

    h : HasAsked name core shard (front_of shard core + 1 + 0) line entry
    h = order.asked shard 0 line entry (committed_first (group_of shard core) number entry leads).first refl

    judges : w.shard ≡ shard
    judges = ap (λ (x : Waiting). x.shard) (some_same w h.waiting (sym at ∙ h.at)) ∙ h.judges

    place : judging_shard (shape_of core).shards core.sessions o ≡ shard
    place = ap (λ p. judging_shard (shape_of core).shards core.sessions p) (sym is) ∙ sym (order.pending line w at).judges ∙ judges

    shows : Shows core.limits s o v
    shows = subst (λ k. Shows core.limits s o (view_for k o core)) place (views cs core o its.folded tt)

    tests : IsPut f.epoch f.address key old
    tests = put_tests f.epoch f.address key old did

    -- what its operation saw before refuses nothing
    own : IsOwn core.limits core.sessions o
    own = subst (λ (x : Op). IsOwn core.limits core.sessions x) (ap (λ (x : Waiting). x.operation.op) (some_same h.waiting w (sym h.at ∙ at)) ∙ is) h.own

    free : refusal_of v o ≡ None
    free =
        root_free v session key handle (record { roots = old.roots; limit = greatest_limits.roots }) refl own
        (ap (λ n. nat_le n (f.epoch + 1)) (epoch_seen views name cs core shard entry its may refl) ∙ tests.fresh)
        tests.free (root_room name core shard number line f.epoch f.address key order leads session handle)

    epoch_is : root_epoch s key ≡ old.epoch
    epoch_is = ap (λ k. slice_index s.epochs k) (sym shows.judging) ∙ epoch_before views name cs core shard entry its may refl

    replies : reply.Ok ≡ (judge core.limits s o).reply
    replies = some_same reply.Ok (judge core.limits s o).reply (law core.limits s v session key handle shows free)

    says : judged_at cs core o ≡ rooted s key (address_of s session handle)
    says = granted_is core.limits s o (ap (λ q. is_done q) (sym replies)) ∙ grants s session key handle

    same_address : f.address ≡ address_of s session handle
    same_address = ap (λ (held : Option Held). (unwrap_or held nothing).address) (sym (held_is s core.sessions refl session handle))

    deeds : deed_of core.sessions o reply.Ok ≡ (rooted s key (address_of s session handle)).deed
    deeds = root_deed core.sessions session key handle ∙ ap (λ a. deed.Rooted key a) same_address

    happens : happening_by (setting_of name core) cs (next_deed shard entry core) ≡ Some (changes (keeps f.epoch f.address key))
    happens = ap (λ b. cond b (Some (changes (keeps f.epoch f.address key))) None) (eq-eqb (shard_of_key (shape_of core).shards key) shard place)

    shows_wide : Shows greatest_limits s o (view_for shard o (record core { limits = greatest_limits }))
    shows_wide = subst (λ k. Shows greatest_limits s o (view_for k o (record core { limits = greatest_limits }))) place
        (views cs (record core { limits = greatest_limits }) o (record { valid = its.folded.valid; shards = its.folded.shards; own = its.folded.own; catalogues = its.folded.catalogues }) tt)

    roomy : roots_full greatest_limits s key ≡ None
    roomy = go (retained_of key old.roots) refl (retained_at s key) (shows.kept key refl)
      where
        full : Bool
        full = nat_le greatest_limits.roots (roots_in s (shard_of_key (length s.epochs) key))

        go : (x : Option RootRecord) → retained_of key old.roots ≡ x → (y : Option Root) → option_map (λ (q : RootRecord). q.address) (retained_of key old.roots) ≡ option_map (λ (q : Root). q.address) y
            → refused_when (is_none y && nat_le greatest_limits.roots (roots_in s (shard_of_key (length s.epochs) key))) (reply.RootsFull greatest_limits.roots) ≡ None
        go x xe (Some q) e = refl
        go (Some p) xe None e = absurd (cc (sym (ap (λ z. option_map (λ (q : RootRecord). q.address) z) xe) ∙ e))
        go None xe None e =
            ap (λ b. refused_when b (reply.RootsFull greatest_limits.roots))
            (not_full _ (sym (below greatest_limits.roots (retained_count old.roots) (ap (λ z. is_some (put_refusal (record { roots = old.roots; limit = greatest_limits.roots }) f.address z)) (sym xe) ∙ tests.free)) ∙ shows_wide.root_room key refl))

    usable : may_keep s f.epoch f.address key ≡ true
    usable =
        ap (λ n. (nat_le n (f.epoch + 1) && is_none (key_taken s key f.address)) && is_none (roots_full greatest_limits s key)) epoch_is
        ∙ ap (λ b. (b && is_none (key_taken s key f.address)) && is_none (roots_full greatest_limits s key)) tests.fresh
        ∙ ap (λ x. is_none x && is_none (roots_full greatest_limits s key))
        (ap (λ a. key_taken s key a) same_address ∙ not_taken core.limits s session key handle (none_refused core.limits s o (ap (λ q. is_done q) (sym replies))))
        ∙ ap (λ x. is_none x) roomy

    put_is : t ≡ (rooted s key (address_of s session handle)).store
    put_is =
        store_is views name cs core shard entry its may refl
        ∙ ap (λ (x : Option Happening). with_sessions (happen_by (store_of cs) x) (as_sessions core.sessions)) happens
        ∙ ap (λ b. with_sessions (cond b (with_roots (store_of cs) (roots_with (retained_at s key) s.roots (record { key = key; address = f.address; dropped = None }))) (store_of cs)) (as_sessions core.sessions)) usable
        ∙ ap (λ a. with_roots s (roots_with (retained_at s key) s.roots (record { key = key; address = a; dropped = None }))) same_address

    leaves : store_with behind (seats_behind shard o reply.Ok here) ≡ (rooted s key (address_of s session handle)).store
    unfolding seats_after gained
    leaves = put_is

    rooted_answer : IsAnsweredBy cs behind core (heard shard entry core) line o
    rooted_answer =
        by_parts core shard line entry w o what.Rooted reply.Ok cs behind refl at judges is did refl (taken_folds name cs core shard entry its.folded may.of refl)
        (rooted s key (address_of s session handle)) says refl deeds leaves

-- ---- the operation of its line

-- an operation that asks for a Root is a root of what its handle stands for
record IsRootOp (seats : Seats) (line epoch : ℕ) (a : Address) (key : List ℕ) (o : Op) : Type 0 where
  pub session : List ℕ
  pub handle : ℕ
  pub is : o ≡ op.Root session key handle
  pub asks : kind.Root line (found seats session handle).epoch (found seats session handle).address key ≡ kind.Root line epoch a key

root_op : (name : List ℕ → Address) (seats : Seats) (line epoch : ℕ) (a : Address) (key : List ℕ) (o : Op) → IsEntryOf name seats line o (kind.Root line epoch a key) → IsRootOp seats line epoch a key o
root_op name seats line epoch a key (op.Root session other handle) asks =
    let same : key ≡ other = cc asks in
    record {
      session = session;
      handle = handle;
      is = ap (λ k. op.Root session k handle) (sym same);
      asks = ap (λ k. kind.Root line (found seats session handle).epoch (found seats session handle).address k) same ∙ sym asks;
    }
root_op name seats line epoch a key (op.Write session payload handles address) asks = go asks
  where
    go : IsEntryOf name seats line (op.Write session payload handles address) (kind.Root line epoch a key) → IsRootOp seats line epoch a key (op.Write session payload handles address)
    go (inl is) = absurd (cc is.0)
    go (inr is) = absurd (cc is.1)
root_op name seats line epoch a key (op.Drop other) asks = absurd (cc asks)
root_op name seats line epoch a key op.Delete asks = absurd (cc asks.1)
root_op name seats line epoch a key (op.Open session) asks = absurd asks
root_op name seats line epoch a key (op.Close session) asks = absurd asks
root_op name seats line epoch a key (op.Read session handle) asks = absurd asks
root_op name seats line epoch a key (op.Look session other) asks = absurd asks
root_op name seats line epoch a key (op.Forget session handle) asks = absurd asks
root_op name seats line epoch a key (op.Name session handle) asks = absurd asks
root_op name seats line epoch a key op.Stat asks = absurd asks

pub root_answer : ByViews → ByRooted → (name : List ℕ → Address) (cs : List Folded) (core : Core) (shard number line epoch : ℕ) (a : Address) (key : List ℕ) → IsLawful name core cs → IsOrderly name core
    → committed (group_of shard core) ≡ Some (number, kind.Root line epoch a key) → MayFollow (setting_of name core) cs (next_deed shard (kind.Root line epoch a key) core)
    → (done_by shard (kind.Root line epoch a key) core).effect.what ≡ what.Rooted
    → HasAnswer cs (folds_behind name cs shard (kind.Root line epoch a key) core) core (heard shard (kind.Root line epoch a key) core) line
root_answer views law name cs core shard number line epoch a key its order leads may did =
    let h = order.asked shard 0 line (kind.Root line epoch a key) (committed_first (group_of shard core) number (kind.Root line epoch a key) leads).first refl in
    let r = root_op name core.sessions line epoch a key h.waiting.operation.op h.asks in
    let by : (e : Entry) → Type 0 = λ e. committed (group_of shard core) ≡ Some (number, e) → MayFollow (setting_of name core) cs (next_deed shard e core) → (done_by shard e core).effect.what ≡ what.Rooted
    → IsAnsweredBy cs (folds_behind name cs shard e core) core (heard shard e core) line (op.Root r.session key r.handle) in
    let answers = subst by r.asks (λ first may did. rooted_answer views law name cs core shard number line r.session key r.handle its order first may h.waiting h.at r.is did) leads may did in
    has_answer cs (folds_behind name cs shard (kind.Root line epoch a key) core) core (heard shard (kind.Root line epoch a key) core) line h.waiting (op.Root r.session key r.handle) h.at r.is answers
