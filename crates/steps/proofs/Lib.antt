pub mod Keeps
pub mod Known
