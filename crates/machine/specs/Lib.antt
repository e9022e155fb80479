pub mod Machine
pub mod Facts
pub mod Answered
pub mod Examples
pub mod Balance
pub mod Tables
