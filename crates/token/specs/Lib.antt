pub mod Tokens
pub mod Entries
pub mod Fixed
pub mod Faults
