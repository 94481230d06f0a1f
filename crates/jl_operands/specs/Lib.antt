pub mod Steps
pub mod Lists
pub mod Operands
pub mod Outcomes
