pub mod WholeLemmas
pub mod TableLemmas
pub mod CallLemmas
pub mod OperationLemmas
pub mod KeyLemmas
