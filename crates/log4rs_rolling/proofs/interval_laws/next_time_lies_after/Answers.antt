use Rattle.log4rs_rolling.proofs.AfterFacts.{next_after}
use Rattle.log4rs_rolling.proofs.interval_laws.next_time_lies_after.Goals as goal

pub returns : goal.returns
returns c = next_after
