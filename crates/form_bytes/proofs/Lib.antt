pub mod Headers
pub mod Values
