pub mod Line
pub mod Two
