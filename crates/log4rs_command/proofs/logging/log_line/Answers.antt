use Rattle.std.proofs.Common.{inr, refl}
use Rattle.log4rs_command.proofs.logging.log_line.Goals as goal

pub returns-clause-logs : goal.returns-clause-logs
returns-clause-logs g c =
    let made = rw c.in-Some.is at c.in_ok-made.ensures in
    inr (record { logged = c.in-Some.record; context = _ }, c.in_ok-all_logged.all_logged, (made, c.set_now.ensures), c.in_ok-all_logged.ensures, refl)
