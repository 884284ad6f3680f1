use Rattle.log4rs_rolling.proofs.Starting.{begins, goes_on, within}
use Rattle.log4rs_rolling.proofs.laws.segments_begin.Goals as goal

pub returns : goal.returns
returns c = record { begins = begins; grows = goes_on; within = within }
