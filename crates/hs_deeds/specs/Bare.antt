-- The store of a core without the data of its blocks: what its catalogues have, and its sessions.
use Rattle.hs_core_words.specs.Plain.{plain_store}
use Rattle.hs_core_words.specs.State.{Core}
use Rattle.hs_model.specs.Store.{Store, with_sessions}
use Rattle.hs_shown.specs.Showing.{as_sessions}

-- the blocks of a core without their data, its roots but for those that count in no epoch any more, its epochs, and its open sessions
abbrev pub bare_store : Core → Store
bare_store core = with_sessions (plain_store core) (as_sessions core.sessions)
