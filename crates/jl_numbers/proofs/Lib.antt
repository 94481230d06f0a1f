pub mod DigitLemmas
pub mod Rounding
