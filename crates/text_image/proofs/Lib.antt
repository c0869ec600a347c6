pub mod Each
pub mod Rows
pub mod BlockLemmas
pub mod ParsedLemmas
pub mod SpelledLemmas
pub mod PieceLemmas
