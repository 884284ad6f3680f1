-- It owns nothing, so nothing of it is tied to a thread.
use denote.RattleType.{RattleType}
use denote.Param.Send.{IsSend}
use Rattle.log4rs_base.specs.contracts.carried.Carried.{the_row}

pub send : (T : RattleType) → IsSend (the_row T)
send T = record { owned = λ d vs. ((λ vss. (tt, ((λ uss. (tt, tt)), tt))), tt); leaving = λ k f vs. tt }
