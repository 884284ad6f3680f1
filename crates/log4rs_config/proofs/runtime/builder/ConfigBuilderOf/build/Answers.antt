use Rattle.std.proofs.Common.{◌∙◌, ap, map, rules, sym}
use Rattle.log4rs_config.specs.Appender.{name_of}
use Rattle.log4rs_config.proofs.runtime.builder.ConfigBuilderOf.build.Goals as goal

pub returns-in_err-lists-clause-errors : goal.returns-in_err-lists-clause-errors
returns-in_err-lists-clause-errors g c = rw (sym (c.in_ok-names.ensures ∙ ap (map (λ a. name_of a)) c.deref.ensures.value)) (search rules)

pub invariant_of-result : goal.invariant_of-result
invariant_of-result g c =
    record { named = sym (ap (λ s. s.appenders) c.in_ok-lists.ensures.settings ∙ (c.in_ok-names.ensures ∙ ap (map (λ a. name_of a)) c.deref.ensures.value)) }
