pub mod Anew
pub mod Going
pub mod Handing
pub mod Keeping
pub mod Placed
pub mod Renewing
pub mod Waking
