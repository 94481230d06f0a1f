pub mod Owned
pub mod Proper
pub mod Tidy
pub mod Whole
