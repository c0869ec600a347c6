pub mod PrintLemmas
pub mod BeginningLemmas
