pub mod ListLemmas
pub mod Completeness
pub mod Soundness
pub mod Keeping
pub mod Deepness
pub mod OpenBrackets
