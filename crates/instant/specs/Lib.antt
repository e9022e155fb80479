pub mod Instant
pub mod Forms
pub mod Instants
