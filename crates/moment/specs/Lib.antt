pub mod Moment
pub mod Written
