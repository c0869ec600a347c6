pub mod Written
pub mod StageLemmas
pub mod Judged
pub mod Limits
pub mod Histories
pub mod LawLemmas
