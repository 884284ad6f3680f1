pub mod Earliest
pub mod Answering
pub mod Refilling
pub mod Behind
