use Rattle.std.proofs.Common.{sym, ap, ◌∙◌}
use Rattle.log4rs_settings.specs.View.{members_view}
use Rattle.log4rs_settings.proofs.Lookups.{view-removed, members_view-remove_entry}
use Rattle.log4rs_settings.proofs.fields.take.Goals as goal

pub returns-clause-found : goal.returns-clause-found
returns-clause-found c = sym (view-removed c.remove.result c.args.name.now c.args.object.now.entries c.remove.ensures.value)

pub returns-clause-left : goal.returns-clause-left
returns-clause-left c = ap members_view c.remove.ensures.entries ∙ members_view-remove_entry c.args.name.now c.args.object.now.entries
