pub mod Fields
pub mod Bounds
