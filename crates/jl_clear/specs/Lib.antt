pub mod Cleared
pub mod Clearing
pub mod Doing
pub mod Levels
pub mod Listings
pub mod Removing
pub mod Taking
