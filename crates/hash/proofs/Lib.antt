pub mod Carry
pub mod Hashes
