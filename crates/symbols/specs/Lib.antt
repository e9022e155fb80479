pub mod Values
pub mod Store
