pub mod Classes
pub mod Search
pub mod Tree
