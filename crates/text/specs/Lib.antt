pub mod Shows
pub mod Lays
