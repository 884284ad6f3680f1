use Rattle.std.proofs.Common.{ap, sym, ◌∙◌}
use Rattle.std.specs.List.{list_any}
use Rattle.log4rs_plans.specs.Outcomes.{error_of, leaves_out}
use Rattle.log4rs_settings.proofs.Names.{list_any-map}
use Rattle.log4rs_plans.proofs.faults.AppenderErrors.leave_out.Goals as goal

pub returns : goal.returns
returns c =
    c.any_leaves_out.ensures ∙ sym (list_any-map leaves_out error_of c.errors.result.now) ∙ ap (λ errors. list_any leaves_out errors) c.errors.ensures
