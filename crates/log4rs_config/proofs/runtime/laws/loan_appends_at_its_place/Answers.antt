use Rattle.log4rs_config.proofs.Lending.{appends-left}
use Rattle.log4rs_config.proofs.runtime.laws.loan_appends_at_its_place.Goals as goal

pub returns : goal.returns
returns g c d at lent left r x outcome is more = appends-left d.appenders.items at left g.A.Append.sink r x outcome lent is more
