pub mod Steps
pub mod Creating
pub mod Beginning
pub mod Crossing
pub mod Sharing
pub mod Retaining
pub mod Histories
pub mod Beside
