pub mod SignLemmas
pub mod NumberLemmas
pub mod TextLemmas
pub mod HeightLemmas
