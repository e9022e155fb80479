pub mod Laid
pub mod Returned
