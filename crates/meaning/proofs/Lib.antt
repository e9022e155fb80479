pub mod Same
pub mod Members
pub mod Exact
pub mod Recut
pub mod Codes
pub mod Examples
