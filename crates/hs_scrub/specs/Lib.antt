pub mod Copied
pub mod CopySteps
pub mod Marks
pub mod Scrubbed
pub mod Steps
pub mod Text
