pub mod Cases
pub mod Grammar
