use Rattle.log4rs_rolling.proofs.Retiring.{appends_good, kept_over}
use Rattle.log4rs_rolling.proofs.laws.handing_over_keeps_the_end.Goals as goal

pub returns : goal.returns
returns c = record { kept = kept_over; late = appends_good }
