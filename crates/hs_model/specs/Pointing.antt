-- What each address points to, as a store of nothing else.
use Rattle.std.specs.Prelude.{Bool, ◌||◌, List, [], map}
use Rattle.std.specs.List.{flat_map}
use Rattle.hs_limits.specs.declared.address.Address.{Address}
use Rattle.hs_model.specs.declared.store.StoredBlock.{StoredBlock}
use Rattle.hs_model.specs.Reach.{is_among}
use Rattle.hs_model.specs.Store.{Store}

-- addresses, each with what it points to
abbrev pub Pointing : Type 0
Pointing = List (Address × List Address)

-- the store that has these blocks and nothing else
abbrev pub pointing_store : Pointing → Store
pointing_store entries = record {
  blocks = map (λ e. (e.0, record { pointers = e.1; bytes = []; born = 0 })) entries;
  given = [];
  roots = [];
  epochs = [];
  swept = [];
  sessions = [];
}

-- what some blocks point to
abbrev pub pointers_in : List (Address × StoredBlock) → Pointing
pointers_in blocks = map (λ e. (e.0, e.1.pointers)) blocks

-- whether an address is an anchor, or one of them points to it
abbrev pub is_kept : List Address → Pointing → Address → Bool
is_kept anchors entries a = is_among anchors a || is_among (flat_map (λ e. e.1) entries) a
