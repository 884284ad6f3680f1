pub mod Fields
pub mod Event
