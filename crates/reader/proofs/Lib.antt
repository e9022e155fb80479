pub mod Walks
pub mod Short
pub mod Whole
