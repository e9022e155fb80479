pub mod Units
pub mod Coded
pub mod Theorems
pub mod Listed
