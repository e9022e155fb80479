pub mod Writes
pub mod Classed
pub mod Bytes
