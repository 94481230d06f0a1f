pub mod Meaning
pub mod Outcomes
pub mod Scopes
pub mod AnswerLaws
