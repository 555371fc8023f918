-- A journal judged by its deeds alone, over a store without data.
use Rattle.std.specs.Prelude.{◌≡◌, ℕ, ◌<◌, Bool, false, ◌==◌, IsTrue, List, [], ◌∷◌, ◌++◌, length, map, Option, Some, None, IsSome, is_some, nat_le, nat_lt}
use Rattle.std.specs.List.{AllByRecursion, list_all, list_any, range_with_len}
use Rattle.std.specs.Option.{option_map_or}
use Rattle.hs_limits.specs.declared.address.Address.{Address}
use Rattle.hs_limits.specs.declared.limits.Limits.{Limits}
use Rattle.hs_limits.specs.declared.spelling.TheConstants.{MOST_BYTES}
use Rattle.hs_limits.specs.Epoch.{IsFresh}
use Rattle.hs_model.specs.declared.op.Asked.{Asked}
use Rattle.hs_model.specs.declared.op.Asked.TheVariants as asked
use Rattle.hs_model.specs.declared.deed.Deed.{Deed}
use Rattle.hs_model.specs.declared.deed.Deed.TheVariants as deed
use Rattle.hs_model.specs.declared.reply.Reply.{Reply}
use Rattle.hs_model.specs.declared.reply.Reply.TheVariants as reply
use Rattle.hs_model.specs.Inner.{enter, sweep, may_enter, may_sweep}
use Rattle.hs_model.specs.Judge.{opened, closed, wrote, read, looked, rooted, dropped, forgot, counted, deleted, given_address, address_of, pointers_at, read_refusals, root_refusals}
use Rattle.hs_model.specs.Refusals.{refused_when, first, no_session, session_taken, sessions_full, no_handle, handles_full, stale, too_many, shard_full, key_taken, no_key, roots_full, running, epoch_end}
use Rattle.hs_model.specs.Replies.{is_of_line}
use Rattle.hs_model.specs.Run.{enters, step, sweeps}
use Rattle.hs_model.specs.Store.{Store, block_at, session_at, held_at, epoch_at, root_epoch, next_of}

-- an entry of a journal: the line that it answers, None where it is told after a dash; what was done, and what was told
pub record DeedEntry : Type 0 where
  pub line : Option ℕ
  pub deed : Deed
  pub reply : Reply

-- ---- what a deed leaves

-- the store after a deed; blocks are stored without their bytes
abbrev pub deed_store : Store → Deed → Store
deed_store s (deed.Opened name) = (opened s name).store
deed_store s (deed.Closed name) = (closed s name).store
deed_store s (deed.Wrote name a pointers handle) = (wrote s name a (record { pointers = pointers; bytes = [] })).store
deed_store s (deed.Marked name a handle) = (wrote s name a (record { pointers = pointers_at s a; bytes = [] })).store
deed_store s (deed.ReadBlock name a epoch handles) = (read s name (record { address = a; epoch = epoch })).store
deed_store s (deed.Looked name key handle) = (looked s name key).store
deed_store s (deed.Rooted key a) = (rooted s key a).store
deed_store s (deed.Dropped key) = (dropped s key).store
deed_store s (deed.Forgot name handle) = (forgot s name handle).store
deed_store s (deed.Entered shard) = enter s shard
deed_store s (deed.Swept shard) = sweep s shard
deed_store s (deed.Refused o) = s
deed_store s deed.Nothing = s

-- ---- refusals

-- so many data bytes are more than a block takes
abbrev pub is_too_long : ℕ → Option Reply
is_too_long bytes = refused_when (nat_lt MOST_BYTES bytes) (reply.TooLong bytes)

-- the refusals of an operation as it is told, in the order of its line; collides: whether the block that is there has other bytes
unfoldable pub refusals_told : Limits → Store → Asked → Bool → List (Option Reply)
refusals_told limits s (asked.Open name) collides = session_taken s name ∷ sessions_full limits s ∷ []
refusals_told limits s (asked.Close name) collides = no_session s name ∷ []
refusals_told limits s (asked.Write name bytes handles address) collides =
    let a : Address = given_address address in
    no_session s name ∷ is_too_long bytes ∷ too_many handles ∷ no_handle s name handles ∷ handles_full limits s name 1 ∷ stale s name (epoch_at s a) handles ∷ refused_when collides reply.Collision ∷ shard_full limits s a ∷ []
refusals_told limits s (asked.Read name handle) collides = read_refusals limits s name handle (address_of s name handle)
refusals_told limits s (asked.Look name key) collides = no_session s name ∷ handles_full limits s name 1 ∷ no_key s key ∷ []
refusals_told limits s (asked.Root name key handle) collides = root_refusals limits s name key handle
refusals_told limits s (asked.Drop key) collides = no_key s key ∷ []
refusals_told limits s (asked.Forget name handle) collides = no_session s name ∷ no_handle s name (handle ∷ []) ∷ []
refusals_told limits s (asked.Name name handle) collides = no_session s name ∷ no_handle s name (handle ∷ []) ∷ []
refusals_told limits s asked.Delete collides = running s ∷ epoch_end limits s ∷ []
refusals_told limits s asked.Stat collides = []

-- no refusal of an operation holds
abbrev pub NothingRefuses : Limits → Store → Asked → Type 0
NothingRefuses limits s o = first (refusals_told limits s o false) ≡ None

-- the address that a write was given
abbrev pub asked_address : Asked → Option Address
asked_address (asked.Write name bytes handles address) = Some (given_address address)
asked_address other = None

-- a block is present at the address that a write was given
abbrev pub is_there : Store → Asked → Bool
is_there s o = option_map_or (λ a. is_some (block_at s a)) (asked_address o) false

-- the first refusal of an operation that holds; of a collision only that a block is there
pub record IsRefused (limits : Limits) (s : Store) (o : Asked) (told : Reply) : Type 0 where
  pub collides : Bool
  pub there : IsTrue collides → IsTrue (is_there s o)
  pub first_of : first (refusals_told limits s o collides) ≡ Some told

-- whether some entries have one of a line
abbrev pub is_answered : List DeedEntry → ℕ → Bool
is_answered entries line = list_any (λ e. option_map_or (λ n. n == line) e.line false) entries

-- an operation is refused: another line of its session has no answer before, or a refusal holds
pub data MayBeRefused (limits : Limits) (s : Store) (before : List DeedEntry) (o : Asked) (told : Reply) : Type 0 where
  Busy : (line : ℕ) → told ≡ reply.Busy line → is_answered before line ≡ false → MayBeRefused limits s before o told
  Refused : IsRefused limits s o told → MayBeRefused limits s before o told

-- ---- what a session holds

-- a session holds an address with an epoch that is fresh in this one
pub record HoldsFresh (s : Store) (name : List ℕ) (now : ℕ) (a : Address) : Type 0 where
  pub handle : ℕ
  pub epoch : ℕ
  pub held : held_at s name handle ≡ Some (record { address = a; epoch = epoch })
  pub fresh : IsFresh epoch now

-- some open session does
pub record IsHeldFresh (s : Store) (now : ℕ) (a : Address) : Type 0 where
  pub name : List ℕ
  pub held : HoldsFresh s name now a

-- some open session holds it
pub record IsHeldSomewhere (s : Store) (a : Address) : Type 0 where
  pub name : List ℕ
  pub handle : ℕ
  pub epoch : ℕ
  pub held : held_at s name handle ≡ Some (record { address = a; epoch = epoch })

-- ---- blocks

-- some handles of a session stand for these pointers, and a write of them that has this address is not refused, for some number of data bytes
pub record MayWrite (limits : Limits) (s : Store) (name : List ℕ) (a : Address) (pointers : List Address) : Type 0 where
  pub bytes : ℕ
  pub handles : List ℕ
  pub stand_for : map (λ handle. address_of s name handle) handles ≡ pointers
  pub granted : NothingRefuses limits s (asked.Write name bytes handles (Some a))

-- a block that was absent was written
pub record IsWrote (limits : Limits) (s : Store) (name : List ℕ) (a : Address) (pointers : List Address) (handle : ℕ) (told : Reply) : Type 0 where
  pub is_open : IsSome (session_at s name)
  pub absent : block_at s a ≡ None
  pub held : AllByRecursion (HoldsFresh s name (epoch_at s a)) pointers
  pub granted : MayWrite limits s name a pointers
  pub next : handle ≡ next_of (session_at s name)
  pub reply : told ≡ reply.New handle (epoch_at s a)

-- a write found its block present
pub record IsMarked (s : Store) (name : List ℕ) (a : Address) (handle : ℕ) (told : Reply) : Type 0 where
  pub is_open : IsSome (session_at s name)
  pub present : IsSome (block_at s a)
  pub held : AllByRecursion (HoldsFresh s name (epoch_at s a)) (pointers_at s a)
  pub next : handle ≡ next_of (session_at s name)
  pub reply : told ≡ reply.Dup handle (epoch_at s a)

-- a block was read: the session gets its next handles, one a pointer; of its bytes nothing is said
pub record IsRead (s : Store) (name : List ℕ) (a : Address) (epoch : ℕ) (handles : List ℕ) (told : Reply) : Type 0 where
  pub handle : ℕ
  pub held : held_at s name handle ≡ Some (record { address = a; epoch = epoch })
  pub fresh : IsFresh epoch (epoch_at s a)
  pub next : handles ≡ range_with_len (next_of (session_at s name)) (length (pointers_at s a))
  pub bytes : List ℕ
  pub reply : told ≡ reply.Bytes bytes handles

-- ---- roots

-- a key retains what some open session holds
pub record IsRooted (limits : Limits) (s : Store) (key : List ℕ) (a : Address) (told : Reply) : Type 0 where
  pub held : IsHeldFresh s (root_epoch s key) a
  pub granted : first (key_taken s key a ∷ roots_full limits s key ∷ []) ≡ None
  pub reply : told ≡ reply.Ok

-- ---- deletion runs

-- a deletion was asked for, or a shard entered its next epoch by itself
abbrev pub IsEntered : Limits → Store → ℕ → Reply → Type 0
IsEntered limits s shard (reply.Run epoch) = (shard ≡ 0) × NothingRefuses limits s asked.Delete × (reply.Run epoch ≡ (deleted s).reply)
IsEntered limits s shard (reply.Enter epoch) = (shard < length s.epochs) × IsTrue (may_enter s shard) × (reply.Enter epoch ≡ (step limits s (enters shard)).reply)
IsEntered limits s shard other = ⊥

-- a shard swept its epoch
abbrev pub IsSwept : Limits → Store → ℕ → Reply → Type 0
IsSwept limits s shard told = (shard < length s.epochs) × IsTrue (may_sweep s shard) × (told ≡ (step limits s (sweeps shard)).reply)

-- ---- what changes nothing

-- the last of some entries
abbrev pub last_reply : List DeedEntry → Option Reply
last_reply [] = None
last_reply (e ∷ []) = Some e.reply
last_reply (e ∷ f ∷ entries) = last_reply (f ∷ entries)

-- a sweep of this epoch
abbrev pub is_sweep_of : ℕ → Reply → Bool
is_sweep_of epoch (reply.Sweep swept removed) = swept == epoch
is_sweep_of epoch other = false

-- the end of its run
abbrev pub is_done_of : ℕ → Reply → Bool
is_done_of epoch (reply.Done done) = done == epoch
is_done_of epoch other = false

-- what is told where nothing is done: an address that some session holds, the counts of the store, that all shards have swept
-- directly behind the last of these sweeps, how many pointers were looked at directly behind that, and notes
abbrev pub IsNote : Store → List DeedEntry → Reply → Type 0
IsNote s before (reply.Name a) = IsHeldSomewhere s a
IsNote s before (reply.Stat blocks roots sessions epochs swept) = reply.Stat blocks roots sessions epochs swept ≡ (counted s).reply
IsNote s before (reply.Done epoch) = IsTrue (option_map_or (is_sweep_of epoch) (last_reply before) false) × IsTrue (list_all (λ swept. nat_le epoch swept) s.swept)
IsNote s before (reply.Visits epoch count) = IsTrue (option_map_or (is_done_of epoch) (last_reply before) false)
IsNote s before (reply.Down peer line) = Unit {0}
IsNote s before (reply.NoPeer peer) = Unit {0}
IsNote s before (reply.NotUp peer) = Unit {0}
IsNote s before (reply.NotDown peer) = Unit {0}
IsNote s before (reply.NoMessage message) = Unit {0}
IsNote s before (reply.PoolFull limit) = Unit {0}
IsNote s before other = ⊥

-- ---- entries

-- what an entry says by its deed and its reply, behind these entries
abbrev pub IsDeedOf : Limits → Store → List DeedEntry → Deed → Reply → Type 0
IsDeedOf limits s before (deed.Opened name) told = NothingRefuses limits s (asked.Open name) × (told ≡ (opened s name).reply)
IsDeedOf limits s before (deed.Closed name) told = NothingRefuses limits s (asked.Close name) × (told ≡ (closed s name).reply)
IsDeedOf limits s before (deed.Wrote name a pointers handle) told = IsWrote limits s name a pointers handle told
IsDeedOf limits s before (deed.Marked name a handle) told = IsMarked s name a handle told
IsDeedOf limits s before (deed.ReadBlock name a epoch handles) told = IsRead s name a epoch handles told
IsDeedOf limits s before (deed.Looked name key handle) told =
    NothingRefuses limits s (asked.Look name key) × (deed.Looked name key handle ≡ (looked s name key).deed) × (told ≡ (looked s name key).reply)
IsDeedOf limits s before (deed.Rooted key a) told = IsRooted limits s key a told
IsDeedOf limits s before (deed.Dropped key) told = NothingRefuses limits s (asked.Drop key) × (told ≡ (dropped s key).reply)
IsDeedOf limits s before (deed.Forgot name handle) told = NothingRefuses limits s (asked.Forget name handle) × (told ≡ (forgot s name handle).reply)
IsDeedOf limits s before (deed.Entered shard) told = IsEntered limits s shard told
IsDeedOf limits s before (deed.Swept shard) told = IsSwept limits s shard told
IsDeedOf limits s before (deed.Refused o) told = MayBeRefused limits s before o told
IsDeedOf limits s before deed.Nothing told = IsNote s before told

-- an entry is a deed at a store, behind these entries
pub record IsDeed (limits : Limits) (s : Store) (before : List DeedEntry) (e : DeedEntry) : Type 0 where
  pub printed : is_some e.line ≡ is_of_line e.reply
  pub done : IsDeedOf limits s before e.deed e.reply

-- each entry is a deed at the store that the deeds before it leave
abbrev pub AreDeeds : Limits → Store → List DeedEntry → List DeedEntry → Type 0
AreDeeds limits s before [] = Unit {0}
AreDeeds limits s before (e ∷ es) = IsDeed limits s before e × AreDeeds limits (deed_store s e.deed) (before ++ e ∷ []) es
