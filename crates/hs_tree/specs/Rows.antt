-- What is read of a tree, part by part.
use Rattle.std.specs.List.{AllByRecursion}
use Rattle.std.specs.Prelude.{Bool, true, false, ℕ, ◌*◌, ◌+◌, ◌-◌, ◌<◌, ◌≡◌, ◌≤◌, List, [], ◌∷◌, ◌++◌, None, length, map, min}
use Rattle.hs_asking.specs.Seats.{HasSeat}
use Rattle.hs_asking.specs.Shown.{Began, Shown, store_now}
use Rattle.hs_asking.specs.Staying.{Stays}
use Rattle.hs_limits.specs.declared.address.Address.{Address}
use Rattle.hs_limits.specs.declared.address.Held.{Held}
use Rattle.hs_model.proofs.Members.{Member}
use Rattle.hs_model.specs.Store.{Store, retained_at}
use Rattle.hs_model.specs.declared.op.Op.{Op}
use Rattle.hs_tree.specs.Calls.{AsksWithFew, IsAskFault, IsToldLast}
use Rattle.hs_tree.specs.Fetching.{IsReading}
use Rattle.hs_tree.specs.Growing.{IsEndOf}
use Rattle.hs_tree.specs.Trees.{IsTreeAt, IsTreeBelow, span, stored_cut}
use Rattle.hs_tree.specs.declared.fault.TreeFault.{TreeFault}
use Rattle.hs_tree.specs.declared.fault.TreeFault.TheVariants as fault

-- from one state to another only these were asked for
pub record OnlyReads {tells : Type 0} (session : List ℕ) (old new : Shown tells) : Type 0 where
  pub ops : List Op
  pub asked : new.asked ≡ old.asked ++ ops
  pub kinds : AllByRecursion (IsReading session) ops
  pub began : new.began ≡ old.began

-- ---- blocks in a row

-- some addresses have the parts of a file of so many bytes: as much as a block of the height spans each, and the last one what is left
unfoldable pub IsRowOf : Store → ℕ → List Address → ℕ → List ℕ → Type 0
IsRowOf s h [] left file = (left ≡ 0) × (file ≡ [])
IsRowOf s h (a ∷ rest) left file =
    (c : List ℕ) × (more : List ℕ) × (0 < left) × (file ≡ c ++ more) × (length c ≡ min left (span stored_cut h)) × IsTreeBelow s h a c × IsRowOf s h rest (left - length c) more

-- the addresses that some entries stand for
abbrev pub addresses_in : List (ℕ × Held) → List Address
addresses_in row = map (λ (e : ℕ × Held). e.1.address) row

-- what the handles in front stand for stays, and so do the roots
pub record KeepsFront (s t : Store) (front : List (ℕ × Held)) : Type 0 where
  pub stays : (e : ℕ × Held) → Member e front → Stays s t e.1.address
  pub roots : (key : List ℕ) → retained_at t key ≡ retained_at s key

-- ---- one block and what is below it

-- a session holds an entry among others, and there is room for the handles of the blocks below
pub record HoldsPart (b : Began) (s : Store) (session : List ℕ) (next h : ℕ) (front : List (ℕ × Held)) (x : ℕ × Held) (rest : List (ℕ × Held)) : Type 0 where
  pub limit : b.limits.handles ≡ 4096
  pub seat : HasSeat s session next (front ++ x ∷ rest)
  pub few : length (front ++ x ∷ rest) + 64 * (h + 1) ≤ 193

-- the part of so many bytes was given, and its handle is forgotten
pub record IsPart (s t : Store) (session : List ℕ) (h : ℕ) (front : List (ℕ × Held)) (x : ℕ × Held) (rest : List (ℕ × Held)) (part : ℕ) (before after : List ℕ) : Type 0 where
  pub bytes : List ℕ
  pub given : after ≡ before ++ bytes
  pub some : 0 < part
  pub long : length bytes ≡ part
  pub tree : IsTreeBelow s h x.1.address bytes
  pub next : ℕ
  pub seat : HasSeat t session next (front ++ rest)
  pub keeps : KeepsFront s t (front ++ rest)

-- or the entry stands for no such part
pub record IsNoPart (s t : Store) (h : ℕ) (front : List (ℕ × Held)) (x : ℕ × Held) (rest : List (ℕ × Held)) (part : ℕ) : Type 0 where
  pub none : (c : List ℕ) → 0 < part → length c ≡ part → IsTreeBelow s h x.1.address c → ⊥
  pub keeps : KeepsFront s t (front ++ rest)

abbrev pub PartIs : Store → Store → List ℕ → ℕ → List (ℕ × Held) → ℕ × Held → List (ℕ × Held) → ℕ → List ℕ → List ℕ → Bool → Type 0
PartIs s t session h front x rest part before after true = IsPart s t session h front x rest part before after
PartIs s t session h front x rest part before after false = IsNoPart s t h front x rest part

-- a fault of reads and forgets of what is held
abbrev pub IsReadFault : TreeFault → Type 0
IsReadFault (fault.Core core) = Unit {0}
IsReadFault fault.Read = ⊥
IsReadFault fault.InputFull = ⊥
IsReadFault (fault.Refused told) = ⊥
IsReadFault (fault.NotATree address) = ⊥
IsReadFault fault.NoMemory = Unit {0}

-- what a handle stands for was read as a part, where the store is told
pub record ReadsPart {tells : Type 0} (session : List ℕ) (old new : Shown tells) (h k part : ℕ) (before after : List ℕ) (good : Bool) : Type 0 where
  pub reads : OnlyReads session old new
  pub going : new.ended ≡ None
  pub told : tells → (b : Began) → old.began ≡ b → (next : ℕ) (front rest : List (ℕ × Held)) (x : ℕ × Held) → x.0 ≡ k → HoldsPart b (store_now b old) session next h front x rest
      → PartIs (store_now b old) (store_now b new) session h front x rest part before after good
  pub few : tells → (b : Began) → old.began ≡ b → (next : ℕ) (front rest : List (ℕ × Held)) (x : ℕ × Held) → x.0 ≡ k → HoldsPart b (store_now b old) session next h front x rest → AsksWithFew b session 193 old new

pub record PartStops {tells : Type 0} (session : List ℕ) (old new : Shown tells) (h k : ℕ) (f : TreeFault) : Type 0 where
  pub reads : OnlyReads session old new
  pub ended : IsEndOf new.ended f
  pub kind : IsAskFault f
  pub last : IsToldLast old new f
  pub cause : tells → (b : Began) → old.began ≡ b → (next : ℕ) (front rest : List (ℕ × Held)) (x : ℕ × Held) → x.0 ≡ k → HoldsPart b (store_now b old) session next h front x rest → IsReadFault f

-- ---- a row of them

-- a session holds the handles of a row behind others, and there is room for those of the blocks below
pub record HoldsRow (b : Began) (s : Store) (session : List ℕ) (next : ℕ) (h : ℕ) (front row : List (ℕ × Held)) (handles : List ℕ) : Type 0 where
  pub limit : b.limits.handles ≡ 4096
  pub seat : HasSeat s session next (front ++ row)
  pub these : map (λ (e : ℕ × Held). e.0) row ≡ handles
  pub few : length (front ++ row) + 64 * (h + 1) ≤ 193

-- the row was read: its file was given, and its handles are forgotten
pub record IsRow (s t : Store) (session : List ℕ) (h : ℕ) (front row : List (ℕ × Held)) (bytes : ℕ) (before after : List ℕ) : Type 0 where
  pub file : List ℕ
  pub given : after ≡ before ++ file
  pub is : IsRowOf s h (addresses_in row) bytes file
  pub next : ℕ
  pub seat : HasSeat t session next front
  pub keeps : KeepsFront s t front

-- or it is the row of no file
pub record IsNoRow (s t : Store) (h : ℕ) (front row : List (ℕ × Held)) (bytes : ℕ) : Type 0 where
  pub none : (file : List ℕ) → IsRowOf s h (addresses_in row) bytes file → ⊥
  pub keeps : KeepsFront s t front

abbrev pub RowIs : Store → Store → List ℕ → ℕ → List (ℕ × Held) → List (ℕ × Held) → ℕ → List ℕ → List ℕ → Bool → Type 0
RowIs s t session h front row bytes before after true = IsRow s t session h front row bytes before after
RowIs s t session h front row bytes before after false = IsNoRow s t h front row bytes

pub record ReadsRow {tells : Type 0} (session : List ℕ) (old new : Shown tells) (h : ℕ) (handles : List ℕ) (bytes : ℕ) (before after : List ℕ) (good : Bool) : Type 0 where
  pub reads : OnlyReads session old new
  pub going : new.ended ≡ None
  pub told : tells → (b : Began) → old.began ≡ b → (next : ℕ) (front row : List (ℕ × Held)) → HoldsRow b (store_now b old) session next h front row handles
      → RowIs (store_now b old) (store_now b new) session h front row bytes before after good
  pub few : tells → (b : Began) → old.began ≡ b → (next : ℕ) (front row : List (ℕ × Held)) → HoldsRow b (store_now b old) session next h front row handles → AsksWithFew b session 193 old new

pub record RowStops {tells : Type 0} (session : List ℕ) (old new : Shown tells) (h : ℕ) (handles : List ℕ) (f : TreeFault) : Type 0 where
  pub reads : OnlyReads session old new
  pub ended : IsEndOf new.ended f
  pub kind : IsAskFault f
  pub last : IsToldLast old new f
  pub cause : tells → (b : Began) → old.began ≡ b → (next : ℕ) (front row : List (ℕ × Held)) → HoldsRow b (store_now b old) session next h front row handles → IsReadFault f

-- how far a row was read: what is left of it, and of its bytes
pub record RowAt (s t : Store) (session : List ℕ) (h : ℕ) (front row : List (ℕ × Held)) (bytes : ℕ) (before : List ℕ) (rest : List (ℕ × Held)) (left : ℕ) (out : List ℕ) : Type 0 where
  pub next : ℕ
  pub seat : HasSeat t session next (front ++ rest)
  pub few : length (front ++ rest) + 64 * (h + 1) ≤ 193
  pub keeps : KeepsFront s t (front ++ rest)
  pub given : List ℕ
  pub out_is : out ≡ before ++ given
  pub found : (tail : List ℕ) → IsRowOf s h (addresses_in rest) left tail → IsRowOf s h (addresses_in row) bytes (given ++ tail)
  pub only : (file : List ℕ) → IsRowOf s h (addresses_in row) bytes file → (tail : List ℕ) × (file ≡ given ++ tail) × IsRowOf s h (addresses_in rest) left tail

-- so it is where the store is told, with the handles that are left
pub record RowSoFar {tells : Type 0} (session : List ℕ) (old now : Shown tells) (h : ℕ) (handles : List ℕ) (bytes : ℕ) (before : List ℕ) (behind : List ℕ) (left : ℕ) (out : List ℕ) : Type 0 where
  pub reads : OnlyReads session old now
  pub going : now.ended ≡ None
  pub told : tells → (b : Began) → old.began ≡ b → (next : ℕ) (front row : List (ℕ × Held)) → HoldsRow b (store_now b old) session next h front row handles
      → (rest : List (ℕ × Held)) × (map (λ (e : ℕ × Held). e.0) rest ≡ behind) × RowAt (store_now b old) (store_now b now) session h front row bytes before rest left out
  pub few : tells → (b : Began) → old.began ≡ b → (next : ℕ) (front row : List (ℕ × Held)) → HoldsRow b (store_now b old) session next h front row handles → AsksWithFew b session 193 old now

-- ---- a whole tree

-- a session holds one handle, and as many may be held as ever
pub record HoldsTop (b : Began) (s : Store) (session : List ℕ) (next : ℕ) (x : ℕ × Held) : Type 0 where
  pub limit : b.limits.handles ≡ 4096
  pub seat : HasSeat s session next (x ∷ [])

-- the file at its address was given
pub record IsTop (s t : Store) (x : ℕ × Held) (before after : List ℕ) : Type 0 where
  pub file : List ℕ
  pub given : after ≡ before ++ file
  pub fits : length file ≤ 67108864
  pub tree : IsTreeAt s x.1.address file
  pub keeps : KeepsFront s t (x ∷ [])

-- or none is there
pub record IsNoTop (s t : Store) (x : ℕ × Held) : Type 0 where
  pub none : (file : List ℕ) → length file ≤ 67108864 → IsTreeAt s x.1.address file → ⊥
  pub keeps : KeepsFront s t (x ∷ [])

abbrev pub TopIs : Store → Store → ℕ × Held → List ℕ → List ℕ → Bool → Type 0
TopIs s t x before after true = IsTop s t x before after
TopIs s t x before after false = IsNoTop s t x

pub record ReadsTop {tells : Type 0} (session : List ℕ) (old new : Shown tells) (k : ℕ) (before after : List ℕ) (good : Bool) : Type 0 where
  pub reads : OnlyReads session old new
  pub going : new.ended ≡ None
  pub told : tells → (b : Began) → old.began ≡ b → (next : ℕ) (x : ℕ × Held) → x.0 ≡ k → HoldsTop b (store_now b old) session next x
      → TopIs (store_now b old) (store_now b new) x before after good
  pub few : tells → (b : Began) → old.began ≡ b → (next : ℕ) (x : ℕ × Held) → x.0 ≡ k → HoldsTop b (store_now b old) session next x → AsksWithFew b session 193 old new

pub record TopStops {tells : Type 0} (session : List ℕ) (old new : Shown tells) (k : ℕ) (f : TreeFault) : Type 0 where
  pub reads : OnlyReads session old new
  pub ended : IsEndOf new.ended f
  pub kind : IsAskFault f
  pub last : IsToldLast old new f
  pub cause : tells → (b : Began) → old.began ≡ b → (next : ℕ) (x : ℕ × Held) → x.0 ≡ k → HoldsTop b (store_now b old) session next x → IsReadFault f

-- what was read at an address was not put: it is no tree, or there was no memory
abbrev pub IsUnput : Bool → Address → TreeFault → Type 0
IsUnput good address (fault.Core core) = ⊥
IsUnput good address fault.Read = ⊥
IsUnput good address fault.InputFull = ⊥
IsUnput good address (fault.Refused told) = ⊥
IsUnput good address (fault.NotATree found) = (good ≡ false) × (found ≡ address)
IsUnput good address fault.NoMemory = good ≡ true
