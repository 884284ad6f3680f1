-- What is shared of it is what is owned, which is nothing.
use denote.RattleType.{RattleType}
use denote.Param.Send.{IsSync, part_keyless}
use Rattle.log4rs_base.specs.contracts.carried.Carried.{the_row}
use Rattle.log4rs_base.proofs.carried.Carried.TheSendSync.Send.{send}

pub sync : (T : RattleType) → IsSync (the_row T)
sync T = record { shared = λ d b o κ q. part_keyless (the_row T) (send T) q d b o }
