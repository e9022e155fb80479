pub mod Classes
pub mod Keys
pub mod FirstValues
pub mod Trees
