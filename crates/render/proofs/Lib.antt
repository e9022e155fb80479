pub mod Tokens
pub mod Names
pub mod Sums
pub mod Says
pub mod Loop
