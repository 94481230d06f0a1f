pub mod Signs
pub mod Words
pub mod Marks
pub mod Constants
pub mod Trees
pub mod Codes
pub mod Form
pub mod Falls
