pub mod Headings
pub mod Refusals
pub mod Scopes
pub mod Lines
pub mod Modules
pub mod Checks
pub mod ModuleLaws
