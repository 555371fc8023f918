pub mod First
pub mod Inboxes
pub mod Pool
