pub mod PrintLemmas
pub mod SummaryLemmas
pub mod ByteFields
pub mod ReadLemmas
pub mod SizeLemmas
pub mod WrittenLemmas
pub mod PerformLemmas
