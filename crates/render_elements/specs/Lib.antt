pub mod Effects
pub mod Codes
