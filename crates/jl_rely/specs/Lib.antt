pub mod Claims
pub mod Lone
pub mod Steps
pub mod Touches
