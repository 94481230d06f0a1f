pub mod Answers
pub mod Dumps
pub mod Dumping
pub mod Nodes
