pub mod ListLaws
pub mod EntryLemmas
pub mod OverLemmas
pub mod EachLemmas
pub mod Counts
