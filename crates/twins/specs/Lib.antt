pub mod Parts
pub mod Search
