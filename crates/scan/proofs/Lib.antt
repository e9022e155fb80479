pub mod Steps
pub mod Fine
