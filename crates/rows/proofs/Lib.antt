pub mod Puts
pub mod Scopes
