pub mod Words
pub mod Division
pub mod Little
pub mod Chunked
