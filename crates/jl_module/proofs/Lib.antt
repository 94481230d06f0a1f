pub mod DefinesLemmas
pub mod NameLemmas
pub mod ScopeLemmas
pub mod ReaderLemmas
pub mod LineLemmas
pub mod BodyLemmas
mod RefusalLemmas
