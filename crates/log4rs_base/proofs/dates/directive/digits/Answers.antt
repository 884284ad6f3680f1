use Rattle.log4rs_base.proofs.Digits.{two}
use Rattle.log4rs_base.proofs.dates.directive.digits.Goals as goal

pub returns-clause-text : goal.returns-clause-text
returns-clause-text c = two c.args.number c.requires
