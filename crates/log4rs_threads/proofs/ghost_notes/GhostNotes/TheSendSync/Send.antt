-- It owns nothing, so nothing of it is tied to a thread.
use denote.Param.Send.{IsSend}
use Rattle.log4rs_threads.specs.contracts.ghost_notes.GhostNotes.{the_row}

pub send : IsSend the_row
send = record { owned = λ d vs. ((λ vss. (tt, ((λ uss. (tt, tt)), tt))), tt); leaving = λ k f vs. tt }
