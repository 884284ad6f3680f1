use Rattle.log4rs_settings.proofs.Lookups.{view-get}
use Rattle.log4rs_settings.proofs.fields.field.Goals as goal

pub returns : goal.returns
returns c = view-get c.get.result c.args.name.now c.args.object.now.entries c.get.ensures.value
