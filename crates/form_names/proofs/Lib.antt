pub mod Names
pub mod Marks
pub mod Steps
pub mod Layers
pub mod Qnames
