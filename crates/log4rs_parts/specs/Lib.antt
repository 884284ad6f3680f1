pub mod NamedParts
pub mod Filters
pub mod Waits
pub mod Refilled
pub mod Refusals
pub mod Built
pub mod FromParts
