pub mod CourseLemmas
mod Examples
