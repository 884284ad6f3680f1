-- what public clauses cite
pub use Rattle.log4rs_encode.specs.Rendering
pub use Rattle.log4rs_encode.specs.Runs
pub mod Texts
pub mod Notes
pub mod Receipts
pub mod Walks
pub mod Appender
-- how the logic stores what only clauses read
pub mod Codes
