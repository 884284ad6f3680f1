-- stores: their changes, what an operation does, and the stores of this crate
pub mod Change
pub mod Disk
pub mod Costs
pub mod Faults
pub mod Plan
pub mod MemStore
pub mod FsStore
pub mod LogFile
-- windows: the names of archives, what is kept under them, and what may change it
pub mod Archives
pub mod Window
pub mod Places
pub mod Copies
pub mod Moves
pub mod FileChanges
pub mod OperationResults
pub mod ArchiveEnds
pub mod HandingOver
-- segments: what the files show, where a size trigger closes them
pub mod Segments
pub mod SegmentsShown
pub mod SegmentGrowth
-- triggers: their decisions, and the times of a time trigger
pub mod Asking
pub mod NextTime
pub mod Due
pub mod TimeTriggers
pub mod Triggers
-- rollers and policies: rotations, openings, and steps in the background
pub mod Keeping
pub mod Roller
pub mod PolicyResults
pub mod AtOpening
pub mod Background
-- appends to a rolled file
pub mod Appends
pub mod AppendParts
pub mod AppendResults
pub mod SinceOpening
pub mod RetiredAppends
