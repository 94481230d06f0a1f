pub mod Choosing
pub mod Items
pub mod Reducing
pub mod Walks
