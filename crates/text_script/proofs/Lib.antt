pub mod ScriptLemmas
pub mod Judged
pub mod Limits
pub mod SaveLemmas
