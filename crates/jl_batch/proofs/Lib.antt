pub mod Completeness
pub mod LevelLemmas
pub mod NegationLemmas
pub mod ReadLemmas
pub mod Soundness
pub mod TextLemmas
