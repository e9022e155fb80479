pub mod Rooms
pub mod Filled
