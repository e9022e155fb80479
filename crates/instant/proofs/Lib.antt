pub mod Fields
pub mod Ways
pub mod Laws
