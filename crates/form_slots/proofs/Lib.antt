pub mod Slots
pub mod TrailLaws
