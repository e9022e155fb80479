pub mod References
pub mod Headers
