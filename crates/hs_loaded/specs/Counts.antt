-- What a journal of deeds counts.
use Rattle.std.specs.Prelude.{◌≡◌, ◌==◌, ℕ, Bool, true, false, List, [], ◌∷◌, None, count_by, is_none}
use Rattle.hs_model.specs.declared.deed.Deed.{Deed}
use Rattle.hs_model.specs.declared.deed.Deed.TheVariants as deed
use Rattle.hs_model.specs.Deeds.{DeedEntry, deed_store}
use Rattle.hs_model.specs.Store.{Store, retained_at}

-- whether a deed keeps a file under a key, gives one up, or enters an epoch of a shard
abbrev pub is_rooted : Deed → Bool
is_rooted (deed.Opened name) = false
is_rooted (deed.Closed name) = false
is_rooted (deed.Wrote name a pointers handle) = false
is_rooted (deed.Marked name a handle) = false
is_rooted (deed.ReadBlock name a epoch handles) = false
is_rooted (deed.Looked name key handle) = false
is_rooted (deed.Rooted key a) = true
is_rooted (deed.Dropped key) = false
is_rooted (deed.Forgot name handle) = false
is_rooted (deed.Entered shard) = false
is_rooted (deed.Swept shard) = false
is_rooted (deed.Refused o) = false
is_rooted deed.Nothing = false

abbrev pub is_dropped : Deed → Bool
is_dropped (deed.Opened name) = false
is_dropped (deed.Closed name) = false
is_dropped (deed.Wrote name a pointers handle) = false
is_dropped (deed.Marked name a handle) = false
is_dropped (deed.ReadBlock name a epoch handles) = false
is_dropped (deed.Looked name key handle) = false
is_dropped (deed.Rooted key a) = false
is_dropped (deed.Dropped key) = true
is_dropped (deed.Forgot name handle) = false
is_dropped (deed.Entered shard) = false
is_dropped (deed.Swept shard) = false
is_dropped (deed.Refused o) = false
is_dropped deed.Nothing = false

abbrev pub enters_shard : ℕ → Deed → Bool
enters_shard k (deed.Opened name) = false
enters_shard k (deed.Closed name) = false
enters_shard k (deed.Wrote name a pointers handle) = false
enters_shard k (deed.Marked name a handle) = false
enters_shard k (deed.ReadBlock name a epoch handles) = false
enters_shard k (deed.Looked name key handle) = false
enters_shard k (deed.Rooted key a) = false
enters_shard k (deed.Dropped key) = false
enters_shard k (deed.Forgot name handle) = false
enters_shard k (deed.Entered shard) = shard == k
enters_shard k (deed.Swept shard) = false
enters_shard k (deed.Refused o) = false
enters_shard k deed.Nothing = false

-- how many entries have such deeds
abbrev pub rooted_in : List DeedEntry → ℕ
rooted_in entries = count_by (λ e. is_rooted e.deed) entries

abbrev pub dropped_in : List DeedEntry → ℕ
dropped_in entries = count_by (λ e. is_dropped e.deed) entries

abbrev pub entered_in : ℕ → List DeedEntry → ℕ
entered_in shard entries = count_by (λ e. enters_shard shard e.deed) entries

-- the retained roots of a store
abbrev pub retained_count : Store → ℕ
retained_count s = count_by (λ root. is_none root.dropped) s.roots

-- a key that is kept by a deed was not retained
abbrev pub KeepsNewKey : Store → Deed → Type 0
KeepsNewKey s (deed.Opened name) = Unit {0}
KeepsNewKey s (deed.Closed name) = Unit {0}
KeepsNewKey s (deed.Wrote name a pointers handle) = Unit {0}
KeepsNewKey s (deed.Marked name a handle) = Unit {0}
KeepsNewKey s (deed.ReadBlock name a epoch handles) = Unit {0}
KeepsNewKey s (deed.Looked name key handle) = Unit {0}
KeepsNewKey s (deed.Rooted key a) = retained_at s key ≡ None
KeepsNewKey s (deed.Dropped key) = Unit {0}
KeepsNewKey s (deed.Forgot name handle) = Unit {0}
KeepsNewKey s (deed.Entered shard) = Unit {0}
KeepsNewKey s (deed.Swept shard) = Unit {0}
KeepsNewKey s (deed.Refused o) = Unit {0}
KeepsNewKey s deed.Nothing = Unit {0}

-- so it is with each, where it comes
abbrev pub KeepNewKeys : Store → List DeedEntry → Type 0
KeepNewKeys s [] = Unit {0}
KeepNewKeys s (e ∷ es) = KeepsNewKey s e.deed × KeepNewKeys (deed_store s e.deed) es
