pub mod Audited
pub mod Laws
pub mod Missing
pub mod Rereading
pub mod Text
