pub mod Arithmetic
pub mod Operations
pub mod Calls
pub mod Joined
pub mod TableLaws
pub mod ProperLaws
