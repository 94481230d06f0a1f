pub mod Memory
pub mod Moments
pub mod Streams
pub mod Views
pub use Rattle.jl_text.specs.Counts
