pub mod Tables
pub mod Contract
