-- appenders and their sinks
pub mod Any
pub mod Sink
pub mod Memory
pub mod Locks
pub mod Texts
-- consoles
pub mod Console
-- files
pub mod PlainFile
pub mod File
pub mod RolledFile
pub mod Rolling
pub mod HandedOver
