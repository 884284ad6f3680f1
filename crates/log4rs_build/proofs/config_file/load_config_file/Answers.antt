use Rattle.log4rs_build.specs.Raw.{asked_by}
use Rattle.log4rs_build.proofs.config_file.load_config_file.Goals as goal

pub returns-clause-ok : goal.returns-clause-ok
returns-clause-ok g c =
    (asked_by c.in_ok-config.config, c.in_ok-built.built.appender_errors, c.in_ok-built.built.config_errors, c.in_ok-config.ensures.ok, c.in_ok-built.ensures.built)
