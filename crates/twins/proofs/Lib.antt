pub mod Ends
pub mod Twins
pub mod Chain
pub mod State
pub mod Links
pub mod Run
pub mod Examples
