pub mod Plans
pub mod Lengths
pub mod Rules
pub mod Signs
