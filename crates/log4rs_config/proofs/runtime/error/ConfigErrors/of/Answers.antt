use Rattle.std.proofs.Common.{sym, ◌∙◌}
use Rattle.log4rs_config.proofs.Accepting.{accepted_of_faults}
use Rattle.log4rs_config.proofs.runtime.error.ConfigErrors.of.Goals as goal

pub returns-clause-accepted : goal.returns-clause-accepted
returns-clause-accepted g c = λ none. accepted_of_faults _ (sym (c.new.ensures ∙ c.in_ok-errors.ensures) ∙ none)
