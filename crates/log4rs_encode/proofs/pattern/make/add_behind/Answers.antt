use Rattle.log4rs_encode.proofs.Tables.{view-field}
use Rattle.log4rs_encode.proofs.pattern.make.add_behind.Goals as goal

pub returns-in-Field : goal.returns-in-Field
returns-in-Field c = rw (c.in-Field.is, view-field c.in-Field.field c.in-Field.behind) c.add_field.ensures
