pub mod Entry
pub mod Moments
pub mod Codes
pub mod Names
