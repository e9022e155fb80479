pub mod Meaning
pub mod Codes
