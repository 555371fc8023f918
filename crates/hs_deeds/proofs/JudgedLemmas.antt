-- What the judge says at a store is a deed at that store without data, and leaves what the deed leaves.
use Rattle.std.proofs.Common.{◌≡◌, ◌∙◌, ◌<◌, ◌+◌, ◌-◌, ℕ, nat_lt, arith, List, [], ◌∷◌, Bool, true, false, refl, sym, ap, subst, map, is_none, is_some, length, Option, None, Some, IsSome}
use Rattle.std.proofs.lemmas.Bool.Decides.{nat_tests}
use Rattle.std.specs.List.{AllByRecursion, count_by, range_with_len}
use Rattle.std.specs.Option.{option_map}
use Rattle.std.specs.Prelude.{IsTrue, slice_index, unwrap_or}
use Rattle.hs_deeds.proofs.GrantedLemmas.{fresh_each, is_open, its_pointers, last_two, refusal_of_line, told_no_bytes, when_false}
use Rattle.hs_deeds.proofs.HollowLemmas.{block_hollow, hold_hollow, is_there_hollow, length_hollow, marked_hollow, pointers_hollow, put_hollow, read_hollow, sweep_hollow, told_hollow, wrote_hollow}
use Rattle.hs_deeds.specs.Told.{answered_as, happened_as}
use Rattle.hs_laws.proofs.JudgeKeeps.{AllNone, all_none}
use Rattle.hs_limits.specs.declared.address.Address.{Address}
use Rattle.hs_limits.specs.declared.address.Held.{Held}
use Rattle.hs_limits.specs.declared.limits.Limits.{Limits}
use Rattle.hs_limits.specs.Block.{Block}
use Rattle.hs_limits.specs.Epoch.{IsFresh}
use Rattle.hs_model.proofs.DeedLemmas.{is_collision, told_refusals}
use Rattle.hs_model.specs.declared.deed.Deed.TheVariants as deed
use Rattle.hs_model.specs.declared.op.Asked.TheVariants as asked
use Rattle.hs_model.specs.declared.op.Op.{Op}
use Rattle.hs_model.specs.declared.op.Op.TheVariants as op
use Rattle.hs_model.specs.declared.reply.Reply.{Reply}
use Rattle.hs_model.specs.declared.reply.Reply.TheVariants as reply
use Rattle.hs_model.specs.declared.store.StoredBlock.{StoredBlock}
use Rattle.hs_model.specs.Deeds.{DeedEntry, HoldsFresh, IsDeed, IsDeedOf, IsRefused, NothingRefuses, Refused, deed_store, is_there, refusals_told}
use Rattle.hs_model.specs.Hollow.{hollow, without_bytes}
use Rattle.hs_model.specs.Inner.{may_enter, may_sweep, sweep}
use Rattle.hs_model.specs.Judge.{Judged, address_of, asked_of, bytes_of, counted, forgetting, given_address, granted, held_or, judge, judged, kept_address, nothing, pointers_at, read, read_refusals, refusals, root_refusals, written, written_deed, written_reply, wrote}
use Rattle.hs_model.specs.Reach.{pointers_of}
use Rattle.hs_model.specs.Refusals.{first, is_other, key_taken, no_handle, no_handle_in, no_session, no_such_handle, roots_full, stale, stale_handle, stale_in}
use Rattle.hs_model.specs.Replies.{is_of_line}
use Rattle.hs_model.specs.Run.{enters, step, sweeps}
use Rattle.hs_model.specs.Store.{Root, Store, block_at, epoch_at, held_at, next_of, retained_at, root_epoch, session_at}

-- ---- refusals

-- where another block is there, one is
other_there : (o : Option StoredBlock) (block : Block) → is_other o block ≡ true → is_some o ≡ true
other_there None block h = absurd (cc h)
other_there (Some stored) block h = refl

there_where : (s : Store) (o : Op) → is_collision s o ≡ true → is_there (hollow s) (asked_of o) ≡ true
there_where s (op.Write name payload handles address) h =
    is_there_hollow s (given_address address) ∙ other_there (block_at s (given_address address)) (written s name payload handles) h
there_where s (op.Open name) h = absurd (cc h)
there_where s (op.Close name) h = absurd (cc h)
there_where s (op.Read name handle) h = absurd (cc h)
there_where s (op.Look name key) h = absurd (cc h)
there_where s (op.Root name key handle) h = absurd (cc h)
there_where s (op.Drop key) h = absurd (cc h)
there_where s (op.Forget name handle) h = absurd (cc h)
there_where s (op.Name name handle) h = absurd (cc h)
there_where s op.Delete h = absurd (cc h)
there_where s op.Stat h = absurd (cc h)

module _ (limits : Limits) (s : Store) where
  told_there : (o : Op) → refusals_told limits (hollow s) (asked_of o) (is_collision s o) ≡ refusals limits s o
  told_there o = told_hollow limits s (asked_of o) (is_collision s o) ∙ sym (told_refusals limits s o)

  -- a refusal that holds
  pub refused_so : (o : Op) (r : Reply) → first (refusals limits s o) ≡ Some r → IsRefused limits (hollow s) (asked_of o) r
  refused_so o r e = record { collides = is_collision s o; there = there_where s o; first_of = ap (λ (rs : List (Option Reply)). first rs) (told_there o) ∙ e }

  of_line : (o : Op) (r : Reply) → first (refusals limits s o) ≡ Some r → true ≡ is_of_line r
  of_line o r e = sym (refusal_of_line limits (hollow s) (asked_of o) (is_collision s o) r (ap (λ (rs : List (Option Reply)). first rs) (told_there o) ∙ e))

  -- none holds
  nothing_at : (o : Op) → first (refusals limits s o) ≡ None → is_collision s o ≡ false → NothingRefuses limits (hollow s) (asked_of o)
  nothing_at o e none = ap (λ (c : Bool). first (refusals_told limits (hollow s) (asked_of o) c)) (sym none) ∙ ap (λ (rs : List (Option Reply)). first rs) (told_there o) ∙ e

  -- ---- writes

  module _ (name payload handles : List ℕ) (address : Option Address) (e : first (refusals limits s (op.Write name payload handles address)) ≡ None) where
    abbrev a : Address
    a = given_address address

    abbrev block : Block
    block = written s name payload handles

    none : AllNone (refusals limits s (op.Write name payload handles address))
    none = all_none (refusals limits s (op.Write name payload handles address)) e

    opened_one : IsSome (session_at s name)
    unfolding refusals
    opened_one = is_open (session_at s name) _ none.0

    no_other : is_other (block_at s (given_address address)) (written s name payload handles) ≡ false
    unfolding refusals
    no_other = when_false (is_other (block_at s (given_address address)) (written s name payload handles)) _ none.1.1.1.1.1.1.0

    fresh : AllByRecursion (HoldsFresh (hollow s) name (epoch_at s (given_address address))) (map (λ handle. address_of s name handle) handles)
    unfolding refusals
    fresh = fresh_each (hollow s) name (epoch_at s (given_address address)) handles none.1.1.1.0 none.1.1.1.1.1.0

    may : NothingRefuses limits (hollow s) (asked.Write name (length payload) handles (Some (given_address address)))
    unfolding refusals_told
    may = nothing_at (op.Write name payload handles address) e no_other

    wrote_done : (before : List DeedEntry) → IsDeedOf limits (hollow s) before (wrote s name (given_address address) (written s name payload handles)).deed (wrote s name (given_address address) (written s name payload handles)).reply
    wrote_done before = go (block_at s a) refl
      where
        go : (o : Option StoredBlock) → block_at s (given_address address) ≡ o
            → IsDeedOf limits (hollow s) before (written_deed (is_some o) name (given_address address) (written s name payload handles).pointers (next_of (session_at s name))) (written_reply (is_some o) (next_of (session_at s name)) (epoch_at s (given_address address)))
        go None at = record {
          is_open = opened_one;
          absent = block_hollow s a ∙ ap (λ (o : Option StoredBlock). option_map without_bytes o) at;
          held = fresh;
          granted = record { bytes = length payload; handles = handles; stand_for = refl; granted = may };
          next = refl;
          reply = refl;
        }
        go (Some stored) at = record {
          is_open = opened_one;
          present = is_there_hollow s a ∙ ap (λ (o : Option StoredBlock). is_some o) at;
          held = subst (λ (ps : List Address). AllByRecursion (HoldsFresh (hollow s) name (epoch_at s a)) ps) (sym (its at)) fresh;
          next = refl;
          reply = refl;
        }
          where
            its : block_at s (given_address address) ≡ Some stored → pointers_at (hollow s) (given_address address) ≡ map (λ handle. address_of s name handle) handles
            its at = pointers_hollow s a ∙ ap (λ (o : Option StoredBlock). pointers_of o) at ∙ its_pointers stored block (sym (ap (λ (o : Option StoredBlock). is_other o block) at) ∙ no_other)

    -- of a block that is there what was written is what it points to
    wrote_left : hollow (wrote s name (given_address address) (written s name payload handles)).store ≡ deed_store (hollow s) (wrote s name (given_address address) (written s name payload handles)).deed
    wrote_left = wrote_hollow s name a block ∙ go (block_at s a) refl
      where
        go : (o : Option StoredBlock) → block_at s (given_address address) ≡ o
            → (wrote (hollow s) name (given_address address) (record { pointers = (written s name payload handles).pointers; bytes = [] })).store
            ≡ deed_store (hollow s) (written_deed (is_some o) name (given_address address) (written s name payload handles).pointers (next_of (session_at s name)))
        go None at = refl
        go (Some stored) at =
            marked_hollow (hollow s) name a (record { pointers = block.pointers; bytes = [] }) (record { pointers = pointers_at (hollow s) a; bytes = [] })
            (is_there_hollow s a ∙ ap (λ (o : Option StoredBlock). is_some o) at)

  -- ---- reads and roots

  module _ (name : List ℕ) (handle : ℕ) (there : no_handle s name (handle ∷ []) ≡ None) (now : ℕ) (fresh : stale s name now (handle ∷ []) ≡ None) where
    held_fresh : HoldsFresh (hollow s) name now (address_of s name handle)
    held_fresh = (fresh_each (hollow s) name now (handle ∷ []) there fresh).0

  -- what a handle that is held stands for
  held_here : (name : List ℕ) (handle : ℕ) → no_handle s name (handle ∷ []) ≡ None → held_at s name handle ≡ Some (held_or s name handle)
  unfolding no_handle_in
  held_here name handle e = go (held_at s name handle) refl (when_false (is_none (held_at s name handle)) (reply.NoHandle handle) (all_none (no_such_handle (session_at s name) handle ∷ []) e).0)
    where
      go : (o : Option Held) → held_at s name handle ≡ o → is_none (held_at s name handle) ≡ false → held_at s name handle ≡ Some (held_or s name handle)
      go None at not = let never : true ≡ false = sym (ap (λ (o : Option Held). is_none o) at) ∙ not in absurd (cc never)
      go (Some held) at not = at ∙ ap (λ (h : Held). Some h) (sym (ap (λ (o : Option Held). unwrap_or o nothing) at))

  -- it is no more stale than the epoch allows
  fresh_here : (name : List ℕ) (handle now : ℕ) → no_handle s name (handle ∷ []) ≡ None → stale s name now (handle ∷ []) ≡ None → IsFresh (held_or s name handle).epoch now
  unfolding stale_in
  fresh_here name handle now there fresh =
      let not_stale : stale_handle now handle (held_at s name handle) ≡ None = (all_none (stale_handle now handle (held_at s name handle) ∷ []) fresh).0 in
      let held : Held = held_or s name handle in
      let late : nat_lt (held.epoch + 1) now ≡ false = when_false (nat_lt (held.epoch + 1) now) (reply.Stale handle held.epoch now) (sym (ap (λ (o : Option Held). stale_handle now handle o) (held_here name handle there)) ∙ not_stale) in
      grind (arith, nat_tests, late)

  -- whatever bytes are told
  read_done : (name : List ℕ) (handle : ℕ) (content : List ℕ) (before : List DeedEntry) → first (refusals limits s (op.Read name handle)) ≡ None
      → IsDeedOf limits (hollow s) before (read s name (held_or s name handle)).deed (reply.Bytes content (range_with_len (next_of (session_at s name)) (length (pointers_at s (address_of s name handle)))))
  unfolding refusals
  read_done name handle content before e =
      let none : AllNone (read_refusals limits s name handle (address_of s name handle)) = all_none (read_refusals limits s name handle (address_of s name handle)) e in
      record {
        handle = handle;
        held = held_here name handle none.1.0;
        fresh = fresh_here name handle (epoch_at s (address_of s name handle)) none.1.0 none.1.1.0;
        next = ap (λ (points : List Address). range_with_len (next_of (session_at s name)) (length points)) (sym (pointers_hollow s (address_of s name handle)));
        bytes = content;
        reply = refl;
      }

  rooted_done : (name key : List ℕ) (handle : ℕ) (before : List DeedEntry) → first (refusals limits s (op.Root name key handle)) ≡ None → IsDeedOf limits (hollow s) before (deed.Rooted key (address_of s name handle)) reply.Ok
  unfolding refusals
  rooted_done name key handle before e =
      let none : AllNone (root_refusals limits s name key handle) = all_none (root_refusals limits s name key handle) e in
      record {
        held = record { name = name; held = held_fresh name handle none.1.0 (root_epoch s key) none.1.1.0 };
        granted = last_two (no_session s name) (no_handle s name (handle ∷ [])) (stale s name (root_epoch s key) (handle ∷ [])) (key_taken s key (address_of s name handle)) (roots_full limits s key) e;
        reply = refl;
      }

  named_done : (name : List ℕ) (handle : ℕ) (before : List DeedEntry) → first (refusals limits s (op.Name name handle)) ≡ None → IsDeedOf limits (hollow s) before deed.Nothing (reply.Name (address_of s name handle))
  unfolding refusals
  named_done name handle before e =
      let none : AllNone (no_session s name ∷ no_handle s name (handle ∷ []) ∷ []) = all_none (no_session s name ∷ no_handle s name (handle ∷ []) ∷ []) e in
      record { name = name; handle = handle; epoch = (held_or s name handle).epoch; held = held_here name handle none.1.0 }

  counted_same : counted (hollow s) ≡ record (counted s) { store = hollow s }
  counted_same = ap (λ (n : ℕ). record { reply = reply.Stat n (count_by (λ (root : Root). is_none root.dropped) s.roots) (length s.sessions) s.epochs s.swept; deed = deed.Nothing; store = hollow s }) (length_hollow s.blocks)

  -- ---- what was not refused

  granted_done : (o : Op) (before : List DeedEntry) → first (refusals limits s o) ≡ None → IsDeedOf limits (hollow s) before (granted s o).deed (granted s o).reply
  unfolding granted
  granted_done (op.Open name) before e = (nothing_at (op.Open name) e refl, refl)
  granted_done (op.Close name) before e = (nothing_at (op.Close name) e refl, refl)
  granted_done (op.Write name payload handles address) before e = wrote_done name payload handles address e before
  granted_done (op.Read name handle) before e = read_done name handle (bytes_of (block_at s (address_of s name handle))) before e
  granted_done (op.Look name key) before e = (nothing_at (op.Look name key) e refl, refl, refl)
  granted_done (op.Root name key handle) before e = rooted_done name key handle before e
  granted_done (op.Drop key) before e = (nothing_at (op.Drop key) e refl, refl)
  granted_done (op.Forget name handle) before e = (nothing_at (op.Forget name handle) e refl, refl)
  granted_done (op.Name name handle) before e = named_done name handle before e
  granted_done op.Delete before e = (refl, nothing_at op.Delete e refl, refl)
  granted_done op.Stat before e = sym (ap (λ (j : Judged). j.reply) counted_same)

  granted_left : (o : Op) → first (refusals limits s o) ≡ None → hollow (granted s o).store ≡ deed_store (hollow s) (granted s o).deed
  unfolding granted
  granted_left (op.Open name) e = refl
  granted_left (op.Close name) e = refl
  granted_left (op.Write name payload handles address) e = wrote_left name payload handles address e
  granted_left (op.Read name handle) e = read_hollow s name (held_or s name handle)
  granted_left (op.Look name key) e = hold_hollow s name (record { address = kept_address (retained_at s key); epoch = root_epoch s key } ∷ [])
  granted_left (op.Root name key handle) e = refl
  granted_left (op.Drop key) e = refl
  granted_left (op.Forget name handle) e = put_hollow s name (option_map (forgetting handle) (session_at s name))
  granted_left (op.Name name handle) e = refl
  granted_left op.Delete e = refl
  granted_left op.Stat e = refl

  -- a write's answer, one of a session's others, and that of a line without a session
  written_line : (present : Bool) (handle epoch : ℕ) → true ≡ is_of_line (written_reply present handle epoch)
  written_line true handle epoch = refl
  written_line false handle epoch = refl

  granted_line : (o : Op) → true ≡ is_of_line (granted s o).reply
  unfolding granted
  granted_line (op.Write name payload handles address) = written_line (is_some (block_at s (given_address address))) (next_of (session_at s name)) (epoch_at s (given_address address))
  granted_line (op.Open name) = refl
  granted_line (op.Close name) = refl
  granted_line (op.Read name handle) = refl
  granted_line (op.Look name key) = refl
  granted_line (op.Root name key handle) = refl
  granted_line (op.Drop key) = refl
  granted_line (op.Forget name handle) = refl
  granted_line (op.Name name handle) = refl
  granted_line op.Delete = refl
  granted_line op.Stat = refl

  -- ---- what the judge says

  judged_is : (o : Op) (before : List DeedEntry) (line : ℕ) (x : Option Reply) → first (refusals limits s o) ≡ x → IsDeed limits (hollow s) before (answered_as line (judged s o x))
  judged_is o before line None e = record { printed = granted_line o; done = granted_done o before e }
  judged_is o before line (Some r) e = record { printed = of_line o r e; done = Refused (refused_so o r e) }

  judged_left : (o : Op) (x : Option Reply) → first (refusals limits s o) ≡ x → hollow (judged s o x).store ≡ deed_store (hollow s) (judged s o x).deed
  judged_left o None e = granted_left o e
  judged_left o (Some r) e = refl

  pub judge_is : (o : Op) (before : List DeedEntry) (line : ℕ) → IsDeed limits (hollow s) before (answered_as line (judge limits s o))
  unfolding judge
  judge_is o before line = judged_is o before line (first (refusals limits s o)) refl

  pub judge_left : (o : Op) → hollow (judge limits s o).store ≡ deed_store (hollow s) (judge limits s o).deed
  unfolding judge
  judge_left o = judged_left o (first (refusals limits s o)) refl

  -- a read that is not refused, whatever bytes are told
  pub reads_any : (name : List ℕ) (handle line : ℕ) (bytes content handles : List ℕ) (before : List DeedEntry) → (judge limits s (op.Read name handle)).reply ≡ reply.Bytes bytes handles
      → IsDeed limits (hollow s) before (record { line = Some line; deed = (judge limits s (op.Read name handle)).deed; reply = reply.Bytes content handles })
  unfolding judge granted
  reads_any name handle line bytes content handles before e = go (first (refusals limits s (op.Read name handle))) refl e
    where
      go : (x : Option Reply) → first (refusals limits s (op.Read name handle)) ≡ x → (judged s (op.Read name handle) x).reply ≡ reply.Bytes bytes handles
          → IsDeed limits (hollow s) before (record { line = Some line; deed = (judged s (op.Read name handle) x).deed; reply = reply.Bytes content handles })
      go None none is =
          let same : range_with_len (next_of (session_at s name)) (length (pointers_at s (address_of s name handle))) ≡ handles = cc is in
          subst (λ (hs : List ℕ). IsDeed limits (hollow s) before (record { line = Some line; deed = (read s name (held_or s name handle)).deed; reply = reply.Bytes content hs })) same
          (record { printed = refl; done = read_done name handle content before none })
      go (Some r) some is = absurd (told_no_bytes limits (hollow s) name handle bytes handles (ap (λ (rs : List (Option Reply)). first rs) (told_there (op.Read name handle)) ∙ some ∙ ap (λ (x : Reply). Some x) is))

  -- ---- what a shard does by itself

  pub enter_is : (shard : ℕ) (before : List DeedEntry) → shard < length s.epochs → IsTrue (may_enter s shard) → IsDeed limits (hollow s) before (happened_as (step limits s (enters shard)))
  enter_is shard before low may = record { printed = refl; done = (low, may, refl) }

  pub enter_left : (shard : ℕ) → hollow (step limits s (enters shard)).store ≡ deed_store (hollow s) (step limits s (enters shard)).deed
  enter_left shard = refl

  removed_same : (shard : ℕ) → length (hollow s).blocks - length (sweep (hollow s) shard).blocks ≡ length s.blocks - length (sweep s shard).blocks
  removed_same shard =
      ap (λ (n : ℕ). n - length (sweep (hollow s) shard).blocks) (length_hollow s.blocks)
      ∙ ap (λ (n : ℕ). length s.blocks - n) (sym (ap (λ (x : Store). length x.blocks) (sweep_hollow s shard)) ∙ length_hollow (sweep s shard).blocks)

  pub sweep_is : (shard : ℕ) (before : List DeedEntry) → shard < length s.epochs → IsTrue (may_sweep s shard) → IsDeed limits (hollow s) before (happened_as (step limits s (sweeps shard)))
  sweep_is shard before low may = record {
    printed = refl;
    done = (low, may, ap (λ (n : ℕ). reply.Sweep (slice_index s.epochs shard) n) (sym (removed_same shard)));
  }

  pub sweep_left : (shard : ℕ) → hollow (step limits s (sweeps shard)).store ≡ deed_store (hollow s) (step limits s (sweeps shard)).deed
  sweep_left shard = sweep_hollow s shard
