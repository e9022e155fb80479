pub mod Plans
pub mod Lengths
pub mod Text
