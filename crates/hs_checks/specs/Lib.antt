pub mod Audited
pub mod Compared
pub mod Silent
