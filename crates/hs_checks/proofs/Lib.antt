pub mod AuditLemmas
pub mod ScrubLemmas
pub mod SilentLemmas
