-- What is shared of it is what is owned, which is nothing.
use denote.Param.Send.{IsSync, part_keyless}
use Rattle.log4rs_threads.specs.contracts.ghost_notes.GhostNotes.{the_row}
use Rattle.log4rs_threads.proofs.ghost_notes.GhostNotes.TheSendSync.Send.{send}

pub sync : IsSync the_row
sync = record { shared = λ d b o κ q. part_keyless the_row send q d b o }
