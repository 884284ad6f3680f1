use Rattle.log4rs_encode.proofs.Views.{view-argument}
use Rattle.log4rs_encode.proofs.pattern.make.push_format.Goals as goal

pub returns-in-Argument : goal.returns-in-Argument
returns-in-Argument c = rw (c.in-Argument.is, view-argument c.in-Argument.formatter c.in-Argument.parameters) c.push_error.ensures
