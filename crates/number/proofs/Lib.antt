pub mod Capped
pub mod Going
pub mod Spelling
pub mod Within
