pub mod Children
pub mod Disk
pub mod Memory
pub mod Same
pub mod Scripts
pub mod Steps
pub mod Tables
pub mod Trees
