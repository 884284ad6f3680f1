use Rattle.log4rs_restarts.proofs.Widening.{same_window, wider_window}
use Rattle.log4rs_restarts.proofs.laws.counts_widen.Goals as goal

pub returns : goal.returns
returns c = record { same = same_window; wider = wider_window }
