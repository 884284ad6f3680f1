pub mod Listing
pub mod Asking
pub mod Good
pub mod Elements
