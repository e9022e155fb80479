pub mod Tests
pub mod Match
pub mod Table
pub mod Overlay
pub mod Units
pub mod Store
pub mod Same
pub mod Members
