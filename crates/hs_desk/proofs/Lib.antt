mod Examples
mod SlipExamples
mod TokenExamples
pub mod WorkLemmas
