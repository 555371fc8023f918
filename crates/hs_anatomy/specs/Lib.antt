pub mod Acts
pub mod Effect
pub mod Kept
pub mod Once
pub mod Refusing
pub mod Rounds
pub mod Sizes
pub mod Strokes
