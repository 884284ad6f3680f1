use Rattle.log4rs_rolling.proofs.OneFacts.{next_one}
use Rattle.log4rs_rolling.proofs.interval_laws.next_time_is_one.Goals as goal

pub returns : goal.returns
returns c = next_one
