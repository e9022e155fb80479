pub mod Rooms
pub mod Going
pub mod Texts
pub mod Values
