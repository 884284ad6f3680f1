use Rattle.std.proofs.Common.{refl}
use Rattle.log4rs.proofs.loggers.init_file.Goals as goal

pub returns-clause-ok : goal.returns-clause-ok
returns-clause-ok g c = (
  c.in_ok-loaded.loaded.built.config,
  c.in_ok-loaded.loaded.built.appender_errors,
  c.in_ok-loaded.loaded.built.config_errors,
  c.in_ok-loaded.ensures.ok,
  refl,
)
