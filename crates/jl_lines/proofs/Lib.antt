pub mod LineLemmas
pub mod ReaderLemmas
pub mod StepLemmas
pub mod FollowLemmas
