pub mod WholeLemmas
pub mod CountLemmas
pub mod TableLemmas
