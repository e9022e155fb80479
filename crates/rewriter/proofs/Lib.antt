pub mod ItemLaws
pub mod Depth
pub mod Acts
pub mod Step
pub mod Prep
pub mod Walks
