-- What each command does, in a file of its own.
pub mod Call
pub mod Clear
pub mod Reduce
pub mod Track
