-- What is shared of it is what is owned, which is nothing.
use denote.Param.Send.{IsSync, part_keyless}
use Rattle.log4rs_settings.specs.contracts.source.GhostAnswers.{the_row}
use Rattle.log4rs_settings.proofs.source.GhostAnswers.TheSendSync.Send.{send}

pub sync : IsSync the_row
sync = record { shared = λ d b o κ q. part_keyless the_row send q d b o }
